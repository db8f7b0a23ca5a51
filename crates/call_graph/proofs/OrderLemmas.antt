-- A walk over a graph, depth first: a node is entered, an edge is taken, a node is left.
use Rattle.std.proofs.Common.{◌≡◌, ◌↔◌, ℕ, ◌+◌, ◌<◌, List, [], ◌∷◌, ◌++◌, Vec, Global, Bool, true, false, length, get_or, set, replicate, ap, sym, ◌∙◌, subst, arith, inl, inr, ⊎_elim, length-append}
use Rattle.std.specs.List.{All, Contains, sum_by}
use Rattle.std.proofs.Math.ListN.{length-set}
use Rattle.std.proofs.lemmas.Bool.{cases_lt}
use Rattle.std.proofs.lemmas.List.{length-replicate, get_or-replicate, get_or_past}
use Rattle.std.proofs.lemmas.List.Elements.{All-set, All-nil, All-push, All-contains, Contains-get_or, Contains-push, Contains-push_cases, Contains-append_left}
use Rattle.std.proofs.lemmas.List.Sums.{sum_by-set}
use Rattle.worklist.specs.Lists.{RowsBelow}
use Rattle.worklist.specs.Search.{IsMarked, Meets}
use Rattle.call_graph.specs.Orders.{IsWalk, steps_left}
use Rattle.call_graph.proofs.Members.{none_in}

pub enter_walk : (count : ℕ) (next : List (Vec ℕ Global)) (met met' : List Bool) (path path' order : List ℕ) (to : ℕ) → to < count
    → IsWalk count next met path order → Meets (λ x. x ≡ to) met met' path path' → IsWalk count next met' path' order
enter_walk count next met met' path path' order to lt w m = record {
  lists = w.lists;
  marks = m.length_is ∙ w.marks;
  edges = w.edges;
  on_path = λ k d within. ⊎_elim
      (λ c. All-contains (λ x. x < count) path (get_or path' k d) w.on_path c)
      (λ e. subst (λ (x : ℕ). x < count) (sym e) lt)
      (m.waits_only (get_or path' k d) (Contains-get_or path' k d within));
  left = w.left;
  known = λ x h. ⊎_elim (λ k. ⊎_elim (λ c. inl (m.waits x c)) inr (w.known x k)) (λ p. inl p.1) (m.only x h);
}

all_front : (count : ℕ) (xs : List ℕ) (x : ℕ) → All (λ y. y < count) (xs ++ x ∷ []) → All (λ y. y < count) xs
all_front count xs x all = λ k d lt.
    All-contains (λ y. y < count) (xs ++ x ∷ []) (get_or xs k d) all (Contains-append_left xs (x ∷ []) (get_or xs k d) (Contains-get_or xs k d lt))

-- the last node of the path, and its list before and after an edge is taken from its end
module _ (count : ℕ) (next : List (Vec ℕ Global)) (met : List Bool) (path order : List ℕ) (node : ℕ) (w : IsWalk count next met (path ++ node ∷ []) order) where
  pub walk_node : node < count
  walk_node = All-contains (λ x. x < count) (path ++ node ∷ []) node w.on_path (Contains-push path node)

  module _ (row new : Vec ℕ Global) (was : row ≡ get_or next node row) where
    at : node < length next
    at = let lists = w.lists in let lt = walk_node in omega (arith, lists, lt)

    row_below : All (λ y. y < count) row.items
    row_below = subst (λ (r : Vec ℕ Global). All (λ y. y < count) r.items) (sym was) (w.edges node row at)

    fewer : sum_by (λ (r : Vec ℕ Global). length r.items) (set next node new) + length row.items ≡ sum_by (λ (r : Vec ℕ Global). length r.items) next + length new.items
    fewer =
        let f : Vec ℕ Global → ℕ = λ r. length r.items in
        subst (λ (r : Vec ℕ Global). sum_by f (set next node new) + f r ≡ sum_by f next + f new) (sym was) (sum_by-set f next node new row at)

    module _ (to : ℕ) (taken : row.items ≡ new.items ++ to ∷ []) where
      pub edge_to : to < count
      edge_to = All-contains (λ x. x < count) (new.items ++ to ∷ []) to (rw taken at row_below) (Contains-push new.items to)

      pub edge_taken : IsWalk count (set next node new) met (path ++ node ∷ []) order
      edge_taken = record {
        lists = length-set next node new ∙ w.lists;
        marks = w.marks;
        edges = All-set (λ (r : Vec ℕ Global). All (λ y. y < count) r.items) next node new (all_front count new.items to (rw taken at row_below)) w.edges;
        on_path = w.on_path;
        left = w.left;
        known = w.known;
      }

      pub edge_less : (met' : List Bool) (path' : List ℕ) → Meets (λ x. x ≡ to) met met' (path ++ node ∷ []) path'
          → steps_left (set next node new) met' path' < steps_left next met (path ++ node ∷ [])
      edge_less met' path' m =
          let less = m.less in let sums = fewer in let long = ap length taken in let more = length-append new.items (to ∷ []) in
          omega (arith, less, sums, long, more)

    module _ (same : row.items ≡ new.items) where
      pub node_left : IsWalk count (set next node new) met path (order ++ node ∷ [])
      node_left = record {
        lists = length-set next node new ∙ w.lists;
        marks = w.marks;
        edges = All-set (λ (r : Vec ℕ Global). All (λ y. y < count) r.items) next node new (rw same at row_below) w.edges;
        on_path = all_front count path node w.on_path;
        left = All-push (λ x. x < count) order node w.left walk_node;
        known = λ x h. ⊎_elim
            (λ c. ⊎_elim inl (λ e. inr (subst (Contains (order ++ node ∷ [])) e (Contains-push order node))) (Contains-push_cases path node x c))
            (λ c. inr (Contains-append_left order (node ∷ []) x c))
            (w.known x h);
      }

      pub left_less : steps_left (set next node new) met path < steps_left next met (path ++ node ∷ [])
      left_less =
          let sums = fewer in let long = ap length same in let more = length-append path (node ∷ []) in
          omega (arith, sums, long, more)

pub walk_begins : (count : ℕ) (next : List (Vec ℕ Global)) (met : List Bool) → length next ≡ count → RowsBelow (length next) next → met ≡ replicate count false
    → IsWalk count next met [] []
walk_begins count next met lists below clear = record {
  lists = lists;
  marks = ap length clear ∙ length-replicate count false;
  edges = subst (λ (n : ℕ). RowsBelow n next) lists below;
  on_path = All-nil (λ x. x < count);
  left = All-nil (λ x. x < count);
  known = λ x h. let on : get_or (replicate count false) x false ≡ true = rw clear at h in absurd (⊎_elim
      (λ lt. let off = get_or-replicate count x false false lt in let wrong : true ≡ false = sym on ∙ off in cc)
      (λ past.
      let long = length-replicate count false in
      let off = get_or_past (replicate count false) x false (omega (arith, long, past)) in let wrong : true ≡ false = sym on ∙ off in cc)
      (cases_lt x count));
}

pub walk_ends : (count : ℕ) (next : List (Vec ℕ Global)) (met : List Bool) (order : List ℕ) → IsWalk count next met [] order
    → ((x : ℕ) → x < count → IsMarked met x) → (x : ℕ) → Contains order x ↔ (x < count)
walk_ends count next met order w all x = (
  λ c. All-contains (λ y. y < count) order x w.left c,
  λ lt. ⊎_elim (λ c. absurd (none_in x c)) (λ c. c) (w.known x (all x lt)),
)
