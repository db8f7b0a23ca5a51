-- The types of the values that kept instructions take.
use Rattle.std.proofs.Common.{inl, inr, ◌≡◌, ◌⊎◌, ℕ, zero, suc, ◌<◌, List, [], ◌∷◌, ◌++◌, Bool, true, false, Option, Some, None, replicate, if◌then◌else◌, take, length, slice_get, slice_set, nat_eq, refl, sym, ap, ◌∙◌, subst, arith, eqb-true, eq-eqb}
use Rattle.std.proofs.lemmas.Option.{slice_get_within}
use Rattle.wasm_types.specs.declared.module.ValType.{ValType}
use Rattle.wasm_types.specs.declared.place.Node.{Node}
use Rattle.wasm_types.specs.Actions.{Callees}
use Rattle.wasm_types.specs.Nodes.{At}
use Rattle.wasm_types.specs.Sites.{Site, Sites, IsSite, Among, all_operands}
use Rattle.block_cfg.specs.Graph.{number}
use Rattle.block_cfg.proofs.MemberLemmas.{number_injective}
use Rattle.stack_names.specs.declared.place.Place.{Place}
use Rattle.stack_names.specs.Named.{Named, operands_in, place_of, placed, listed_all}
use Rattle.stack_names.proofs.PlaceLemmas.{one_placed}
use Rattle.flow_domain.specs.Presence.{AmongFirst}
use Rattle.stack_repair.specs.Told.{kind_or_none, with_kind, noted, noted_to}

get_set : {A : Type 0} (xs : List A) (i : ℕ) (v : A) → i < length xs → slice_get (slice_set xs i v) i ≡ Some v
get_set [] i v lt = absurd (omega arith)
get_set (x ∷ xs) zero v lt = refl
get_set (x ∷ xs) (suc i) v lt = get_set xs i v (omega arith)

get_other : {A : Type 0} (xs : List A) (i j : ℕ) (v : A) → (i ≡ j → ⊥) → slice_get (slice_set xs i v) j ≡ slice_get xs j
get_other [] i j v e = refl
get_other (x ∷ xs) zero zero v e = absurd (e refl)
get_other (x ∷ xs) zero (suc j) v e = refl
get_other (x ∷ xs) (suc i) zero v e = refl
get_other (x ∷ xs) (suc i) (suc j) v e = get_other xs i j v (λ f. e (ap suc f))

not_same : (i j : ℕ) → nat_eq i j ≡ false → i ≡ j → ⊥
not_same i j e f = let g = eq-eqb i j f in cc

length_set : {A : Type 0} (xs : List A) (i : ℕ) (v : A) → length (slice_set xs i v) ≡ length xs
length_set [] i v = refl
length_set (x ∷ xs) zero v = refl
length_set (x ∷ xs) (suc i) v = ap suc (length_set xs i v)

pub length_noted : (pls : List Place) (kinds : List (Option ValType)) → length (noted kinds pls) ≡ length kinds
length_noted [] kinds = refl
length_noted (pl ∷ pls) kinds = length_noted pls (with_kind kinds pl) ∙ length_set kinds (number pl.maker) (Some pl.kind)

none_yet : (n i : ℕ) (v : ValType) → slice_get (replicate n None) i ≡ Some (Some v) → ⊥
none_yet zero i v e = cc
none_yet (suc n) zero v e = cc
none_yet (suc n) (suc i) v e = none_yet n i v e

pub some_kind : (o : Option (Option ValType)) (v : ValType) → kind_or_none o ≡ Some v → o ≡ Some (Some v)
some_kind None v e = absurd cc
some_kind (Some k) v e = ap (λ z. Some z) e

-- a type that is noted stands there already, or is that of one of the places
noted_one : (pls : List Place) (kinds : List (Option ValType)) (i : ℕ) (v : ValType) → slice_get (noted kinds pls) i ≡ Some (Some v)
    → (slice_get kinds i ≡ Some (Some v)) ⊎ ((pl : Place) × Among pls pl × (number pl.maker ≡ i) × (pl.kind ≡ v))
noted_one [] kinds i v h = inl h
noted_one (pl ∷ pls) kinds i v h = go (noted_one pls (with_kind kinds pl) i v h)
  where
    Goal : Type 0
    Goal = (slice_get kinds i ≡ Some (Some v)) ⊎ ((x : Place) × Among (pl ∷ pls) x × (number x.maker ≡ i) × (x.kind ≡ v))

    here : (b : Bool) → nat_eq (number pl.maker) i ≡ b → slice_get (with_kind kinds pl) i ≡ Some (Some v) → Goal
    here true e g =
        let same : number pl.maker ≡ i = eqb-true (number pl.maker) i e in
        let within = slice_get_within (with_kind kinds pl) i (Some v) g in
        let long = length_set kinds (number pl.maker) (Some pl.kind) in
        let set = get_set kinds (number pl.maker) (Some pl.kind) (omega arith) in
        let there : slice_get (with_kind kinds pl) (number pl.maker) ≡ Some (Some v) = subst (λ z. slice_get (with_kind kinds pl) z ≡ Some (Some v)) (sym same) g in
        let kind : Some (Some pl.kind) ≡ Some (Some v) = sym set ∙ there in
        inr (pl, inl refl, same, cc)
    here false e g = inl (sym (get_other kinds (number pl.maker) i (Some pl.kind) (not_same (number pl.maker) i e)) ∙ g)

    go : (slice_get (with_kind kinds pl) i ≡ Some (Some v)) ⊎ ((x : Place) × Among pls x × (number x.maker ≡ i) × (x.kind ≡ v)) → Goal
    go (inl g) = here (nat_eq (number pl.maker) i) refl g
    go (inr (x, a, e, k)) = inr (x, inr a, e, k)

module _ (K : Node → Bool) where
  pub length_noted_to : (N : Named) (n : ℕ) (kinds : List (Option ValType)) → length (noted_to K N n kinds) ≡ length kinds
  length_noted_to N zero kinds = refl
  length_noted_to N (suc n) kinds = go (K (At n)) (length_noted_to N n kinds)
    where
      go : (b : Bool) → length (noted_to K N n kinds) ≡ length kinds
          → length (if b then noted (noted_to K N n kinds) (operands_in N.positions n) else noted_to K N n kinds) ≡ length kinds
      go true e = length_noted (operands_in N.positions n) (noted_to K N n kinds) ∙ e
      go false e = e

  -- an operand of a kept position
  abbrev pub KeptOperand : Named → Node → ValType → Type 0
  KeptOperand N d v = (r : ℕ) × (pl : Place) × (K (At r) ≡ true) × Among (operands_in N.positions r) pl × (pl.maker ≡ d) × (pl.kind ≡ v)

  noted_before : (N : Named) (n : ℕ) (kinds : List (Option ValType)) (d : Node) (v : ValType) → slice_get (noted_to K N n kinds) (number d) ≡ Some (Some v)
      → (slice_get kinds (number d) ≡ Some (Some v) → ⊥) → KeptOperand N d v
  noted_before N zero kinds d v h none = absurd (none h)
  noted_before N (suc n) kinds d v h none = go (K (At n)) refl h (λ g. noted_before N n kinds d v g none)
    where
      one : (slice_get (noted_to K N n kinds) (number d) ≡ Some (Some v)) ⊎ ((x : Place) × Among (operands_in N.positions n) x × (number x.maker ≡ number d) × (x.kind ≡ v))
          → K (At n) ≡ true → (slice_get (noted_to K N n kinds) (number d) ≡ Some (Some v) → KeptOperand N d v) → KeptOperand N d v
      one (inl g) on more = more g
      one (inr (x, a, e, k)) on more = (n, x, on, a, number_injective x.maker d e, k)

      go : (b : Bool) → K (At n) ≡ b → slice_get (if b then noted (noted_to K N n kinds) (operands_in N.positions n) else noted_to K N n kinds) (number d) ≡ Some (Some v)
          → (slice_get (noted_to K N n kinds) (number d) ≡ Some (Some v) → KeptOperand N d v) → KeptOperand N d v
      go true on g more = one (noted_one (operands_in N.positions n) (noted_to K N n kinds) (number d) v g) on more
      go false off g more = more g

  pub noted_from : (N : Named) (n k : ℕ) (d : Node) (v : ValType) → slice_get (noted_to K N n (replicate k None)) (number d) ≡ Some (Some v) → KeptOperand N d v
  noted_from N n k d v h = noted_before N n (replicate k None) d v h (none_yet k (number d) v)

among_cases : {A : Type 0} (xs ys : List A) (x : A) → Among (xs ++ ys) x → Among xs x ⊎ Among ys x
among_cases [] ys x a = inr a
among_cases (z ∷ xs) ys x (inl e) = inl (inl e)
among_cases (z ∷ xs) ys x (inr a) = go (among_cases xs ys x a)
  where
    go : Among xs x ⊎ Among ys x → Among (z ∷ xs) x ⊎ Among ys x
    go (inl b) = inl (inr b)
    go (inr b) = inr b

module _ (T : Node → ValType) where
  -- each place has the type of its maker
  abbrev pub Fit : List Place → Type 0
  Fit [] = Unit {0}
  Fit (pl ∷ pls) = (pl.kind ≡ T pl.maker) × Fit pls

  fit_append : (xs ys : List Place) → Fit xs → Fit ys → Fit (xs ++ ys)
  fit_append [] ys h g = g
  fit_append (x ∷ xs) ys h g = (h.0, fit_append xs ys h.1 g)

  fit_placed : (names : List Node) → Fit (placed T names)
  fit_placed [] = tt
  fit_placed (n ∷ names) = subst Fit (one_placed T n names) (fit_append (placed T names) (place_of T n ∷ []) (fit_placed names) (refl, tt))

  pub operands_fit : (cs : Callees) (S : Sites) (p : ℕ) → Fit (operands_in (listed_all cs T S) p)
  operands_fit cs [] p = tt
  operands_fit cs (None ∷ S) zero = tt
  operands_fit cs (Some s ∷ S) zero = fit_placed (take (all_operands cs s.around s.head) s.names)
  operands_fit cs (x ∷ S) (suc p) = operands_fit cs S p

  pub fit_among : (pls : List Place) (x : Place) → Fit pls → Among pls x → x.kind ≡ T x.maker
  fit_among [] x f a = absurd a
  fit_among (pl ∷ pls) x f (inl e) = subst (λ (z : Place). z.kind ≡ T z.maker) e f.0
  fit_among (pl ∷ pls) x f (inr a) = fit_among pls x f.1 a

  -- each operand of a position is a name of its site
  placed_among : (n : ℕ) (names : List Node) (x : Place) → Among (placed T (take n names)) x → AmongFirst n names x.maker
  placed_among zero names x a = absurd a
  placed_among (suc n) [] x a = absurd a
  placed_among (suc n) (d ∷ names) x a =
      go (among_cases (placed T (take n names)) (place_of T d ∷ []) x (subst (λ z. Among z x) (sym (one_placed T d (take n names))) a)) (placed_among n names x)
    where
      go : Among (placed T (take n names)) x ⊎ Among (place_of T d ∷ []) x → (Among (placed T (take n names)) x → AmongFirst n names x.maker)
          → AmongFirst (suc n) (d ∷ names) x.maker
      go (inl b) more = let r = more b in let lt = r.1 in (suc r.0, omega arith, r.2)
      go (inr (inl e)) more = (0, omega arith, ap (λ (z : Place). Some z.maker) e)
      go (inr (inr b)) more = absurd b

  pub operand_made : (cs : Callees) (S : Sites) (r : ℕ) (x : Place) → Among (operands_in (listed_all cs T S) r) x
      → (s : Site) × IsSite S r s × AmongFirst (all_operands cs s.around s.head) s.names x.maker
  operand_made cs [] r x a = absurd a
  operand_made cs (None ∷ S) zero x a = absurd a
  operand_made cs (Some s ∷ S) zero x a = (s, refl, placed_among (all_operands cs s.around s.head) s.names x a)
  operand_made cs (y ∷ S) (suc r) x a = operand_made cs S r x a

  -- ---- what is noted stays

  abbrev pub HasKind : List (Option ValType) → Node → Type 0
  HasKind kinds d = slice_get kinds (number d) ≡ Some (Some (T d))

  kind_there : (kinds : List (Option ValType)) (pl : Place) (d : Node) → pl.kind ≡ T pl.maker → HasKind kinds d → HasKind (with_kind kinds pl) d
  kind_there kinds pl d e h = go (nat_eq (number pl.maker) (number d)) refl
    where
      go : (b : Bool) → nat_eq (number pl.maker) (number d) ≡ b → HasKind (with_kind kinds pl) d
      go true f =
          let same : number pl.maker ≡ number d = eqb-true (number pl.maker) (number d) f in
          let within = slice_get_within kinds (number d) (Some (T d)) h in
          subst (λ (z : Node). slice_get (with_kind kinds pl) (number z) ≡ Some (Some (T z))) (number_injective pl.maker d same)
          (get_set kinds (number pl.maker) (Some pl.kind) (omega arith) ∙ ap (λ z. Some (Some z)) e)
      go false f = get_other kinds (number pl.maker) (number d) (Some pl.kind) (not_same (number pl.maker) (number d) f) ∙ h

  noted_there : (pls : List Place) (kinds : List (Option ValType)) (d : Node) → Fit pls → HasKind kinds d → HasKind (noted kinds pls) d
  noted_there [] kinds d f h = h
  noted_there (pl ∷ pls) kinds d f h = noted_there pls (with_kind kinds pl) d f.1 (kind_there kinds pl d f.0 h)

  noted_has : (pls : List Place) (kinds : List (Option ValType)) (d : Node) → Fit pls → number d < length kinds → Among pls (place_of T d)
      → HasKind (noted kinds pls) d
  noted_has [] kinds d f lt a = absurd a
  noted_has (pl ∷ pls) kinds d f lt (inl e) =
      noted_there pls (with_kind kinds pl) d f.1 (subst (λ (z : Place). HasKind (with_kind kinds z) d) (sym e) (get_set kinds (number d) (Some (T d)) lt))
  noted_has (pl ∷ pls) kinds d f lt (inr a) =
      noted_has pls (with_kind kinds pl) d f.1 (let l = length_set kinds (number pl.maker) (Some pl.kind) in omega arith) a

  pub noted_at : (K : Node → Bool) (N : Named) (cs : Callees) (S : Sites) (n r : ℕ) (d : Node) (kinds : List (Option ValType)) → N.positions ≡ listed_all cs T S
      → K (At r) ≡ true → r < n → number d < length kinds → Among (operands_in N.positions r) (place_of T d) → HasKind (noted_to K N n kinds) d
  noted_at K N cs S zero r d kinds rows on lt ld a = absurd (omega arith)
  noted_at K N cs S (suc n) r d kinds rows on lt ld a = go (nat_eq r n) refl (λ le. noted_at K N cs S n r d kinds rows on le ld a)
    where
      fit : Fit (operands_in N.positions n)
      fit = subst (λ z. Fit (operands_in z n)) (sym rows) (operands_fit cs S n)

      less : nat_eq r n ≡ false → r < n
      less f = let g = not_same r n f in grind arith

      here : (b : Bool) → b ≡ true → Among (operands_in N.positions n) (place_of T d)
          → HasKind (if b then noted (noted_to K N n kinds) (operands_in N.positions n) else noted_to K N n kinds) d
      here true e q = noted_has (operands_in N.positions n) (noted_to K N n kinds) d fit (let l = length_noted_to K N n kinds in omega arith) q
      here false e q = absurd cc

      stays : (b : Bool) → HasKind (noted_to K N n kinds) d
          → HasKind (if b then noted (noted_to K N n kinds) (operands_in N.positions n) else noted_to K N n kinds) d
      stays true h = noted_there (operands_in N.positions n) (noted_to K N n kinds) d fit h
      stays false h = h

      go : (b : Bool) → nat_eq r n ≡ b → (r < n → HasKind (noted_to K N n kinds) d)
          → HasKind (if K (At n) then noted (noted_to K N n kinds) (operands_in N.positions n) else noted_to K N n kinds) d
      go true e more =
          let same : r ≡ n = eqb-true r n e in
          here (K (At n)) (ap (λ z. K (At z)) (sym same) ∙ on) (subst (λ z. Among (operands_in N.positions z) (place_of T d)) same a)
      go false e more = stays (K (At n)) (more (less e))
