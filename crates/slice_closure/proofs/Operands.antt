-- The places that a kept instruction takes are those of its operands that it doesn't carry.
use Rattle.std.proofs.Common.{◌≡◌, ℕ, zero, suc, ◌-◌, ◌<◌, List, [], ◌∷◌, ◌++◌, Option, Some, None, map, reverse, take, drop, length, length-append, refl, sym, ap, ◌∙◌, subst, ⊎_elim, arith}
use Rattle.std.specs.Prelude.{slice_get}
use Rattle.std.specs.List.{Contains}
use Rattle.std.specs.Option.{option_map}
use Rattle.std.proofs.Math.Seq.{drop-append_seam}
use Rattle.std.proofs.lemmas.List.{reverse-append}
use Rattle.std.proofs.lemmas.List.Elements.{Contains-push, Contains-push_cases, Contains-append_left}
use Rattle.std.proofs.lemmas.Option.{slice_get-map}
use Rattle.wasm_types.specs.declared.module.ValType.{ValType}
use Rattle.wasm_types.specs.declared.place.Node.{Node}
use Rattle.wasm_types.specs.Actions.{Callees, takes}
use Rattle.wasm_types.specs.Labels.{Label, arities, carried}
use Rattle.wasm_types.specs.Sites.{Head, DoHead, BlockHead, LoopHead, IfHead, BrHead, BrIfHead, BrTableHead, ReturnHead, UnreachableHead, Site, Sites, IsSite, operand_count, all_operands}
use Rattle.stack_names.specs.declared.place.Place.{Place}
use Rattle.stack_names.specs.Named.{operands_of, operands_in, place_of, placed, listed, listed_all}
use Rattle.slice_closure.specs.Takens.{taken_at, of_taken}

none_there : {A : Type 0} (x : A) → Contains [] x → ⊥
none_there x (k, lt, is) = omega arith

reversed : (x : Place) (xs : List Place) → reverse (x ∷ xs) ≡ reverse xs ++ x ∷ []
reversed x xs = reverse-append (x ∷ []) xs

last_one : (ys : List Place) (y : Place) → drop (length (ys ++ y ∷ []) - 1) (ys ++ y ∷ []) ≡ y ∷ []
last_one ys y =
    let n : length (ys ++ y ∷ []) - 1 ≡ length ys = omega (arith, length-append ys (y ∷ [])) in
    ap (λ k. drop k (ys ++ y ∷ [])) n ∙ drop-append_seam ys (y ∷ [])

module _ (T : Node → ValType) where
  -- the first so many names as places
  placed_has : (n : ℕ) (names : List Node) (place : Place) → Contains (placed T (take n names)) place
      → (k : ℕ) × ((k < n) × (slice_get names k ≡ Some place.maker))
  placed_has zero names place h = absurd (none_there place h)
  placed_has (suc n) [] place h = absurd (none_there place h)
  placed_has (suc n) (x ∷ names) place h =
      let here : Contains (reverse (map (place_of T) (take n names)) ++ place_of T x ∷ []) place =
      subst (λ zs. Contains zs place) (reversed (place_of T x) (map (place_of T) (take n names))) h in
      ⊎_elim
      (λ old. let r = placed_has n names place old in let lt = r.1.0 in (suc r.0, (omega arith, r.1.1)))
      (λ e. (0, (omega arith, ap (λ (z : Place). Some z.maker) e)))
      (Contains-push_cases (reverse (map (place_of T) (take n names))) (place_of T x) place here)

  has_placed : (n : ℕ) (names : List Node) (x : Node) (k : ℕ) → k < n → slice_get names k ≡ Some x → Contains (placed T (take n names)) (place_of T x)
  has_placed zero names x k lt e = absurd (omega arith)
  has_placed (suc n) [] x k lt e = absurd cc
  has_placed (suc n) (y ∷ names) x zero lt e =
      let same : y ≡ x = cc in
      let rest = reverse (map (place_of T) (take n names)) in
      subst (λ zs. Contains zs (place_of T x)) (sym (reversed (place_of T y) (map (place_of T) (take n names))))
      (subst (λ z. Contains (rest ++ place_of T z ∷ []) (place_of T x)) (sym same) (Contains-push rest (place_of T x)))
  has_placed (suc n) (y ∷ names) x (suc k) lt e =
      let rest = reverse (map (place_of T) (take n names)) in
      subst (λ zs. Contains zs (place_of T x)) (sym (reversed (place_of T y) (map (place_of T) (take n names))))
      (Contains-append_left rest (place_of T y ∷ []) (place_of T x) (has_placed n names x k (omega arith) e))

  -- the last place is that of the first name
  last_has : (n : ℕ) (names : List Node) (place : Place) → Contains (drop (length (placed T (take (suc n) names)) - 1) (placed T (take (suc n) names))) place
      → (k : ℕ) × ((k < 1) × (slice_get names k ≡ Some place.maker))
  last_has n [] place h = absurd (none_there place h)
  last_has n (x ∷ names) place h =
      let rest = reverse (map (place_of T) (take n names)) in
      let e : drop (length (placed T (take (suc n) (x ∷ names))) - 1) (placed T (take (suc n) (x ∷ names))) ≡ place_of T x ∷ [] =
      ap (λ (zs : List Place). drop (length zs - 1) zs) (reversed (place_of T x) (map (place_of T) (take n names))) ∙ last_one rest (place_of T x) in
      let one : Contains ([] ++ place_of T x ∷ []) place = subst (λ zs. Contains zs place) e h in
      ⊎_elim (λ none. absurd (none_there place none)) (λ is. (0, (omega arith, ap (λ (z : Place). Some z.maker) is))) (Contains-push_cases []
      (place_of T x) place one)

  has_last : (n : ℕ) (names : List Node) (x : Node) (k : ℕ) → k < 1 → slice_get names k ≡ Some x
      → Contains (drop (length (placed T (take (suc n) names)) - 1) (placed T (take (suc n) names))) (place_of T x)
  has_last n [] x k lt e = absurd cc
  has_last n (y ∷ names) x (suc k) lt e = absurd (omega arith)
  has_last n (y ∷ names) x zero lt e =
      let same : y ≡ x = cc in
      let rest = reverse (map (place_of T) (take n names)) in
      let list : drop (length (placed T (take (suc n) (y ∷ names))) - 1) (placed T (take (suc n) (y ∷ names))) ≡ place_of T y ∷ [] =
      ap (λ (zs : List Place). drop (length zs - 1) zs) (reversed (place_of T y) (map (place_of T) (take n names))) ∙ last_one rest (place_of T y) in
      subst (λ zs. Contains zs (place_of T x)) (sym list) (subst (λ z. Contains ([] ++ place_of T z ∷ []) (place_of T x)) (sym same)
      (Contains-push [] (place_of T x)))

  module _ (cs : Callees) where
    head_has : (h : Head) (ctx : List Label) (names : List Node) (place : Place)
        → Contains (of_taken (Some (taken_at h)) (placed T (take (all_operands cs ctx h) names))) place
        → (k : ℕ) × ((k < operand_count cs h) × (slice_get names k ≡ Some place.maker))
    head_has (DoHead op) ctx names place h = placed_has (takes cs op) names place h
    head_has (BlockHead kind) ctx names place h = placed_has 0 names place h
    head_has (LoopHead kind) ctx names place h = placed_has 0 names place h
    head_has (IfHead kind) ctx names place h = placed_has 1 names place h
    head_has (BrHead l) ctx names place h = absurd (none_there place h)
    head_has (BrIfHead l) ctx names place h = last_has (carried (arities ctx) l) names place h
    head_has (BrTableHead labels other) ctx names place h = last_has (carried (arities ctx) other) names place h
    head_has (ReturnHead l) ctx names place h = absurd (none_there place h)
    head_has UnreachableHead ctx names place h = placed_has 0 names place h

    has_head : (h : Head) (ctx : List Label) (names : List Node) (x : Node) (k : ℕ) → k < operand_count cs h → slice_get names k ≡ Some x
        → Contains (of_taken (Some (taken_at h)) (placed T (take (all_operands cs ctx h) names))) (place_of T x)
    has_head (DoHead op) ctx names x k lt e = has_placed (takes cs op) names x k lt e
    has_head (BlockHead kind) ctx names x k lt e = absurd (omega arith)
    has_head (LoopHead kind) ctx names x k lt e = absurd (omega arith)
    has_head (IfHead kind) ctx names x k lt e = has_placed 1 names x k lt e
    has_head (BrHead l) ctx names x k lt e = absurd (omega arith)
    has_head (BrIfHead l) ctx names x k lt e = has_last (carried (arities ctx) l) names x k lt e
    has_head (BrTableHead labels other) ctx names x k lt e = has_last (carried (arities ctx) other) names x k lt e
    has_head (ReturnHead l) ctx names x k lt e = absurd (omega arith)
    has_head UnreachableHead ctx names x k lt e = absurd (omega arith)

    listed_at : (S : Sites) (p : ℕ) (s : Site) → IsSite S p s
        → operands_in (listed_all cs T S) p ≡ placed T (take (all_operands cs s.around s.head) s.names)
    listed_at S p s is = ap operands_of (slice_get-map (option_map (listed cs T)) S p ∙ ap (option_map (option_map (listed cs T))) is)

    -- all operands of a live position
    pub operands_has : (S : Sites) (p : ℕ) (s : Site) → IsSite S p s → (place : Place) → Contains (operands_in (listed_all cs T S) p) place
        → (k : ℕ) × ((k < all_operands cs s.around s.head) × (slice_get s.names k ≡ Some place.maker))
    operands_has S p s is place h =
        placed_has (all_operands cs s.around s.head) s.names place (subst (λ zs. Contains zs place) (listed_at S p s is) h)

    pub has_operand : (S : Sites) (p : ℕ) (s : Site) → IsSite S p s → (x : Node) (k : ℕ) → k < all_operands cs s.around s.head → slice_get s.names k ≡ Some x
        → Contains (operands_in (listed_all cs T S) p) (place_of T x)
    has_operand S p s is x k lt e =
        subst (λ zs. Contains zs (place_of T x)) (sym (listed_at S p s is)) (has_placed (all_operands cs s.around s.head) s.names x k lt e)

    -- those that it takes
    pub taken_has : (S : Sites) (p : ℕ) (s : Site) → IsSite S p s → (place : Place)
        → Contains (of_taken (Some (taken_at s.head)) (operands_in (listed_all cs T S) p)) place
        → (k : ℕ) × ((k < operand_count cs s.head) × (slice_get s.names k ≡ Some place.maker))
    taken_has S p s is place h = head_has s.head s.around s.names place
        (subst (λ zs. Contains (of_taken (Some (taken_at s.head)) zs) place) (listed_at S p s is) h)

    pub has_taken : (S : Sites) (p : ℕ) (s : Site) → IsSite S p s → (x : Node) (k : ℕ) → k < operand_count cs s.head → slice_get s.names k ≡ Some x
        → Contains (of_taken (Some (taken_at s.head)) (operands_in (listed_all cs T S) p)) (place_of T x)
    has_taken S p s is x k lt e = subst (λ zs. Contains (of_taken (Some (taken_at s.head)) zs) (place_of T x)) (sym (listed_at S p s is))
        (has_head s.head s.around s.names x k lt e)

    no_operands : (S : Sites) (p : ℕ) → slice_get S p ≡ Some None → operands_in (listed_all cs T S) p ≡ []
    no_operands S p is = ap operands_of (slice_get-map (option_map (listed cs T)) S p ∙ ap (option_map (option_map (listed cs T))) is)

    no_position : (S : Sites) (p : ℕ) → slice_get S p ≡ None → operands_in (listed_all cs T S) p ≡ []
    no_position S p is = ap operands_of (slice_get-map (option_map (listed cs T)) S p ∙ ap (option_map (option_map (listed cs T))) is)

    -- what has operands is live
    pub operand_site : (S : Sites) (p : ℕ) (place : Place) → Contains (operands_in (listed_all cs T S) p) place → (s : Site) × IsSite S p s
    operand_site S p place h = go (slice_get S p) refl
      where
        go : (o : Option (Option Site)) → slice_get S p ≡ o → (s : Site) × IsSite S p s
        go None e = absurd (none_there place (subst (λ zs. Contains zs place) (no_position S p e) h))
        go (Some None) e = absurd (none_there place (subst (λ zs. Contains zs place) (no_operands S p e) h))
        go (Some (Some s)) e = (s, e)
