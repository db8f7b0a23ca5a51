-- The list of the nodes that were met, and how their marks are taken back.
use Rattle.std.proofs.Common.{◌≡◌, ◌≢◌, ℕ, ◌+◌, ◌<◌, List, [], ◌∷◌, ◌++◌, Bool, true, false, length, get_or, set, take, sym, subst, ◌∙◌, inl, inr, ⊎_elim, arith, get_or-set_same, get_or-set_other}
use Rattle.std.specs.List.{Contains}
use Rattle.std.proofs.lemmas.Bool.{cases_eq, cases_Bool, cases_lt}
use Rattle.std.proofs.lemmas.List.{take_more, get_or_past}
use Rattle.std.proofs.lemmas.List.Elements.{Contains-push, Contains-push_cases, Contains-append_left, All-contains_itself}
use Rattle.std.proofs.lemmas.List.Quantifiers.{all_pairs_push}
use Rattle.std.proofs.Math.ListN.{length-set}
use Rattle.worklist.specs.Search.{IsMarked, IsClear, Lists}
use Rattle.worklist.proofs.Meeting.{marked_kept, marked_was}
use Rattle.worklist.proofs.Searching.{marked_below, none_waits}

pub lists_none : (marks : List Bool) (met : List ℕ) → IsClear marks → met ≡ [] → Lists marks met
lists_none marks met clear empty = record {
  marked = λ x h. let e = clear x in let m : get_or marks x false ≡ true = h in absurd (cc);
  only = λ x h. absurd (none_waits x (rw empty at h));
  once = λ i j d less within. let none : length met ≡ 0 = rw empty (omega arith) in absurd (omega arith);
}

pub lists_more : (marks : List Bool) (met : List ℕ) (node : ℕ) → node < length marks → get_or marks node false ≡ false → Lists marks met
    → Lists (set marks node true) (met ++ node ∷ [])
lists_more marks met node lt fresh l = record {
  marked = λ x h. ⊎_elim
      (λ m. Contains-append_left met (node ∷ []) x (l.marked x m))
      (λ e. subst (λ y. Contains (met ++ node ∷ []) y) (sym e) (Contains-push met node))
      (marked_was marks node x h);
  only = λ x h. ⊎_elim
      (λ k. marked_kept marks node x lt (l.only x k))
      (λ e. subst (λ y. IsMarked (set marks node true) y) e (get_or-set_same marks node true false lt))
      (Contains-push_cases met node x h);
  once = all_pairs_push (λ (x y : ℕ). x ≢ y) met node l.once
      (λ k d below e. let m : get_or marks node false ≡ true = subst (λ y. IsMarked marks y) e (l.only (get_or met k d) (All-contains_itself met k d below))
      in cc);
}

-- the marks of the first nodes of the list are taken back
pub record Unmarked (before marks : List Bool) (front : List ℕ) : Type 0 where
  pub length_is : length marks ≡ length before
  pub left : (x : ℕ) → IsMarked marks x → IsMarked before x × (Contains front x → ⊥)

pub unmarked_none : (marks : List Bool) → Unmarked marks marks []
unmarked_none marks = record { length_is = omega arith; left = λ x h. (h, none_waits x) }

pub unmarked_more : (before marks : List Bool) (nodes : List ℕ) (i : ℕ) → i < length nodes → Unmarked before marks (take i nodes)
    → Unmarked before (set marks (get_or nodes i 0) false) (take (i + 1) nodes)
unmarked_more before marks nodes i lt u =
    let node = get_or nodes i 0 in
    let front = take i nodes in
    let e : take (i + 1) nodes ≡ front ++ node ∷ [] = take_more nodes i 0 lt in
    record {
      length_is = length-set marks node false ∙ u.length_is;
      left = λ x h. elim (cases_eq x node) [
        | inl same ↦ elim (cases_lt node (length marks)) [
          | inl in_range ↦
              let off : get_or (set marks node false) node false ≡ false = get_or-set_same marks node false false in_range in
              let on : get_or (set marks node false) node false ≡ true = subst (λ y. IsMarked (set marks node false) y) same h in
              absurd (cc)
          | inr past ↦
              let off : get_or (set marks node false) node false ≡ false = get_or_past (set marks node false) node false
              (omega (arith, length-set marks node false)) in
              let on : get_or (set marks node false) node false ≡ true = subst (λ y. IsMarked (set marks node false) y) same h in
              absurd (cc)
        ]
        | inr other ↦
            let was = u.left x (sym (get_or-set_other marks node x false false other) ∙ h) in
            (was.0, rw e (λ t. ⊎_elim was.1 (λ same. absurd (other (sym same))) (Contains-push_cases front node x t)))
      ];
    }

pub unmarked_all : (before marks : List Bool) (nodes front : List ℕ) → Lists before nodes → front ≡ nodes → Unmarked before marks front → IsClear marks
unmarked_all before marks nodes front l whole u x = ⊎_elim
    (λ on. let was = u.left x on in absurd (was.1 (rw whole (l.marked x was.0))))
    (λ off. off)
    (cases_Bool (get_or marks x false))

pub listed_below : (marks now : List Bool) (nodes : List ℕ) (k d : ℕ) → Lists marks nodes → length now ≡ length marks → k < length nodes
    → get_or nodes k d < length now
listed_below marks now nodes k d l same lt =
    let below = marked_below marks (get_or nodes k d) (l.only (get_or nodes k d) (All-contains_itself nodes k d lt)) in omega arith
