-- Nodes of which each stands once, against the numbers that are kept of them.
use Rattle.std.proofs.Common.{◌≡◌, ◌⊎◌, inl, inr, ℕ, ◌+◌, ◌<◌, List, [], ◌∷◌, ◌++◌, map, reverse, drop, length, Bool, true, false, not, ◌||◌, get_or, refl, sym, ap, ap₂, ◌∙◌, if◌then◌else◌, nat_eq, eq-eqb, eqb-true}
use Rattle.std.specs.List.{list_any}
use Rattle.std.proofs.lemmas.List.{reverse-append, drop_more}
use Rattle.wasm_types.specs.declared.place.Node.{Node}
use Rattle.wasm_types.specs.declared.place.Node.TheVariants as node
use Rattle.wasm_types.specs.Takers.{node_eq, is_among, distinct}
use Rattle.stack_names.specs.Named.{number_of}
use Rattle.stack_names.specs.Distinct.{added}
use Rattle.stack_names.proofs.GroupLemmas.{number_same, number_other}

either : (b : Bool) → (b ≡ true) ⊎ (b ≡ false)
either true = inl refl
either false = inr refl

bool_false : (b : Bool) → (b ≡ true → b ≡ false) → b ≡ false
bool_false true h = h refl
bool_false false h = refl

same_test : (a b : Node) → nat_eq (number_of a) (number_of b) ≡ node_eq a b
same_test a b =
    elim (either (node_eq a b)) [
      | inl e ↦ eq-eqb (number_of a) (number_of b) (number_same a b e) ∙ sym e
      | inr e ↦ bool_false (nat_eq (number_of a) (number_of b)) (λ h. absurd (number_other a b e (eqb-true (number_of a) (number_of b) h))) ∙ sym e
    ]

pub among_numbers : (n : Node) (ns : List Node) → list_any (λ k. nat_eq (number_of n) k) (map number_of ns) ≡ is_among n ns
among_numbers n [] = refl
among_numbers n (x ∷ ns) = ap₂ {A = Bool} {B = Bool} (λ a b. a || b) (same_test n x) (among_numbers n ns) ∙ or_if (node_eq n x) (is_among n ns)
  where
    or_if : (a b : Bool) → (a || b) ≡ (if a then true else b)
    or_if true b = refl
    or_if false b = refl

among_append : (n : Node) (xs ys : List Node) → is_among n (xs ++ ys) ≡ (if is_among n xs then true else is_among n ys)
among_append n [] ys = refl
among_append n (x ∷ xs) ys = ap (λ b. if node_eq n x then true else b) (among_append n xs ys) ∙ nested (node_eq n x)
  where
    nested : (a : Bool) → (if a then true else (if is_among n xs then true else is_among n ys)) ≡ (if (if a then true else is_among n xs) then true else is_among n ys)
    nested true = refl
    nested false = refl

among_reverse : (n : Node) (ns : List Node) → is_among n (reverse ns) ≡ is_among n ns
among_reverse n [] = refl
among_reverse n (x ∷ ns) =
    ap (is_among n) (reverse-append (x ∷ []) ns) ∙ among_append n (reverse ns) (x ∷ []) ∙ ap (λ b. if b then true else (if node_eq n x then true else false)) (among_reverse n ns) ∙ swapped (is_among n ns) (node_eq n x)
  where
    swapped : (a b : Bool) → (if a then true else (if b then true else false)) ≡ (if b then true else a)
    swapped true true = refl
    swapped true false = refl
    swapped false true = refl
    swapped false false = refl

-- a node that is put at the end where it isn't among them
pub put : (n : Node) (ns new : List Node) (is_new : Bool) → is_new ≡ not (list_any (λ k. nat_eq (number_of n) k) (map number_of ns)) → is_new ≡ true → new ≡ ns ++ n ∷ []
    → reverse new ≡ added n (reverse ns)
put n ns new is_new e t f =
    ap reverse f ∙ reverse-append ns (n ∷ []) ∙ sym (ap (λ b. if b then reverse ns else n ∷ reverse ns) (among_reverse n ns ∙ sym (among_numbers n ns) ∙ absent (list_any (λ k. nat_eq (number_of n) k) (map number_of ns)) (sym e ∙ t)))
  where
    absent : (b : Bool) → not b ≡ true → b ≡ false
    absent true h = sym h
    absent false h = refl

pub kept : (n : Node) (ns : List Node) (is_new : Bool) → is_new ≡ not (list_any (λ k. nat_eq (number_of n) k) (map number_of ns)) → is_new ≡ false
    → reverse ns ≡ added n (reverse ns)
kept n ns is_new e t =
    sym (ap (λ b. if b then reverse ns else n ∷ reverse ns) (among_reverse n ns ∙ sym (among_numbers n ns) ∙ there (list_any (λ k. nat_eq (number_of n) k) (map number_of ns)) (sym e ∙ t)))
  where
    there : (b : Bool) → not b ≡ false → b ≡ true
    there true h = refl
    there false h = sym h

-- ---- each once

node_same : (a b : Node) → node_eq a b ≡ true → a ≡ b
node_same (node.At p) (node.At q) e = ap (λ n. node.At (record { 0 = n })) (eqb-true p.0 q.0 e)
node_same (node.Join p) (node.Join q) e = ap (λ n. node.Join (record { 0 = n })) (eqb-true p.0 q.0 e)
node_same node.Exit node.Exit e = refl
node_same (node.At p) (node.Join q) e = absurd cc
node_same (node.At p) node.Exit e = absurd cc
node_same (node.Join p) (node.At q) e = absurd cc
node_same (node.Join p) node.Exit e = absurd cc
node_same node.Exit (node.At q) e = absurd cc
node_same node.Exit (node.Join q) e = absurd cc

among_distinct : (x : Node) (ns : List Node) → is_among x (distinct ns) ≡ is_among x ns
among_distinct x [] = refl
among_distinct x (n ∷ ns) = cases (is_among n ns) refl (among_distinct x ns)
  where
    here : (b : Bool) → node_eq x n ≡ b → is_among n ns ≡ true → is_among x ns ≡ (if b then true else is_among x ns)
    here true e there = ap (λ z. is_among z ns) (node_same x n e) ∙ there
    here false e there = refl

    cases : (b : Bool) → is_among n ns ≡ b → is_among x (distinct ns) ≡ is_among x ns → is_among x (if b then distinct ns else n ∷ distinct ns) ≡ (if node_eq x n then true else is_among x ns)
    cases true e f = f ∙ here (node_eq x n) refl e
    cases false e f = ap (λ b. if node_eq x n then true else b) f

pub added_distinct : (x : Node) (ns found new : List Node) → reverse found ≡ distinct ns → reverse new ≡ added x (reverse found) → reverse new ≡ distinct (x ∷ ns)
added_distinct x ns found new e f = f ∙ ap (added x) e ∙ ap (λ b. if b then distinct ns else x ∷ distinct ns) (among_distinct x ns)

-- one label more, from the back
pub next_distinct : (J : ℕ → Node) (ls : List ℕ) (other k left : ℕ) (x : Node) (found new : List Node) → k < length ls → k + 1 ≡ left → x ≡ J (get_or ls k 0)
    → reverse found ≡ distinct (map J (drop left ls ++ other ∷ [])) → reverse new ≡ added x (reverse found) → reverse new ≡ distinct (map J (drop k ls ++ other ∷ []))
next_distinct J ls other k left x found new lt at is e f =
    added_distinct x (map J (drop left ls ++ other ∷ [])) found new e f
    ∙ ap distinct (ap₂ {A = Node} {B = ℕ} (λ y n. y ∷ map J (drop n ls ++ other ∷ [])) is (sym at) ∙ ap (λ z. map J (z ++ other ∷ [])) (sym (drop_more ls k 0 lt)))
