-- The places that are present by their takers are those that are needed.
use Rattle.std.proofs.Common.{inl, inr, ◌≡◌, ◌⊎◌, List, [], ◌∷◌, Bool, true, false, ◌||◌, length, refl, sym, ap, ◌∙◌, subst, arith}
use Rattle.wasm_types.specs.declared.module.ValType.{ValType}
use Rattle.wasm_types.specs.declared.place.Node.{Node}
use Rattle.wasm_types.specs.declared.place.Node.TheVariants as node
use Rattle.wasm_types.specs.declared.place.Taker.{Taker}
use Rattle.wasm_types.specs.declared.place.Taker.TheVariants as taker
use Rattle.wasm_types.specs.Marked.{Marked, size}
use Rattle.wasm_types.specs.Typing.{Context}
use Rattle.wasm_types.specs.Actions.{Callees, callees}
use Rattle.wasm_types.specs.Nodes.{At, Join}
use Rattle.wasm_types.specs.Labels.{body_label}
use Rattle.wasm_types.specs.Sites.{Sites, EndAt, Among, one_end, end_names, inner_ends, body_sites, body_ends}
use Rattle.wasm_types.specs.Takers.{given, takings, takers_of}
use Rattle.flow_domain.specs.Kept.{Tells}
use Rattle.flow_domain.specs.Presence.{IsNeeded, maker, result, operand, left, at_exit}
use Rattle.stack_repair.specs.Told.{is_kept, any_kept, ends_kept, is_present}
use Rattle.stack_repair.proofs.Takings.{has_given, given_has, IsTaken, EachTaken, taken_in}
use Rattle.stack_repair.proofs.Takers.{each_at, sites_taken, EachEnd, end_in, ends_append, one_end_taken, ends_taken}

pub or_left : (a b : Bool) → a ≡ true → (a || b) ≡ true
or_left true b e = refl
or_left false b e = absurd cc

pub or_right : (a b : Bool) → b ≡ true → (a || b) ≡ true
or_right true b e = refl
or_right false b e = e

pub or_true : (a b : Bool) → (a || b) ≡ true → (a ≡ true) ⊎ (b ≡ true)
or_true true b e = inl refl
or_true false b e = inr e

pub any_in : (K : Node → Bool) (xs : List Taker) → any_kept K xs ≡ true → (x : Taker) × Among xs x × (is_kept K x ≡ true)
any_in K [] e = absurd cc
any_in K (x ∷ xs) e = go (or_true (is_kept K x) (any_kept K xs) e) (any_in K xs)
  where
    go : (is_kept K x ≡ true) ⊎ (any_kept K xs ≡ true) → (any_kept K xs ≡ true → (y : Taker) × Among xs y × (is_kept K y ≡ true))
        → (y : Taker) × Among (x ∷ xs) y × (is_kept K y ≡ true)
    go (inl q) more = (x, inl refl, q)
    go (inr q) more = let h = more q in (h.0, inr h.1, h.2)

pub in_any : (K : Node → Bool) (xs : List Taker) (x : Taker) → Among xs x → is_kept K x ≡ true → any_kept K xs ≡ true
in_any K [] x a e = absurd a
in_any K (y ∷ xs) x (inl q) e = or_left (is_kept K y) (any_kept K xs) (ap (is_kept K) q ∙ e)
in_any K (y ∷ xs) x (inr q) e = or_right (is_kept K y) (any_kept K xs) (in_any K xs x q e)

ends_needed : (cs : Callees) (S : Sites) (ends : List EndAt) (K : Node → Bool) (n : Node) → ends_kept K n ≡ true → IsNeeded cs S ends K n
ends_needed cs S ends K (node.Join b) e = result e
ends_needed cs S ends K (node.At p) e = absurd cc
ends_needed cs S ends K node.Exit e = absurd cc

taken_needed : (c : Context) (S : Sites) (ends : List EndAt) (T : Node → ValType) (K : Node → Bool) (n : Node) (x : Taker) → IsTaken c S ends T n x
    → is_kept K x ≡ true → IsNeeded (callees c.inside) S ends K n
taken_needed c S ends T K n (taker.Instr r) (k, m, s, is, a) e = operand r.0 s is e a
taken_needed c S ends T K n (taker.End (node.Join b)) (m, e, a, o, f, t, ow, q) on = left b.0 e a o on f
taken_needed c S ends T K n (taker.End node.Exit) (m, e, a, o, f, t, ow, q) on = at_exit e a o f
taken_needed c S ends T K n (taker.End (node.At p)) (m, e, a, o, f, t, ow, q) on = absurd ow

pub present_tells : (c : Context) (T : Node → ValType) (code : Marked) (K : Node → Bool) (takers : Node → List Taker)
    → ((n : Node) → takers n ≡ takers_of (callees c.inside) (length c.result) code n)
    → EachTaken c (body_sites (callees c.inside) (length c.result) code) (body_ends (callees c.inside) (length c.result) code) T
    (takings (callees c.inside) (body_label (length c.result) (size code) ∷ []) node.Exit code 0 [])
    → Tells (is_present K takers) (IsNeeded (callees c.inside) (body_sites (callees c.inside) (length c.result) code) (body_ends (callees c.inside) (length c.result) code) K)
present_tells c T code K takers told each n = (to, from n)
  where
    cs : Callees
    cs = callees c.inside

    S : Sites
    S = body_sites cs (length c.result) code

    ends : List EndAt
    ends = body_ends cs (length c.result) code

    L : List (Node × Taker)
    L = takings cs (body_label (length c.result) (size code) ∷ []) node.Exit code 0 []

    one : (d : Node) (x : Taker) → Among L (d, x) → is_kept K x ≡ true → is_present K takers d ≡ true
    one d x a on =
        or_right (K d) _ (or_right (ends_kept K d) _ (subst (λ xs. any_kept K xs ≡ true) (sym (told d)) (in_any K (given d L) x (given_has L d x a) on)))

    to : is_present K takers n ≡ true → IsNeeded cs S ends K n
    to on = go (or_true (K n) _ on)
      where
        go : (K n ≡ true) ⊎ ((ends_kept K n || any_kept K (takers n)) ≡ true) → IsNeeded cs S ends K n
        go (inl e) = maker e
        go (inr e) = more (or_true (ends_kept K n) _ e)
          where
            more : (ends_kept K n ≡ true) ⊎ (any_kept K (takers n) ≡ true) → IsNeeded cs S ends K n
            more (inl q) = ends_needed cs S ends K n q
            more (inr q) =
                let h = any_in K (given n L) (subst (λ xs. any_kept K xs ≡ true) (told n) q) in
                taken_needed c S ends T K n h.0 (taken_in c S ends T L n h.0 each (has_given L n h.0 h.1)) h.2

    all_ends : EachEnd cs L ends
    all_ends =
        ends_append cs L (one_end node.Exit (length c.result) (end_names cs code 0 [])) (inner_ends cs code 0 [])
        (one_end_taken cs L code (body_label (length c.result) (size code) ∷ []) node.Exit (length c.result) 0 [] (λ x b. b))
        (ends_taken cs L code (body_label (length c.result) (size code) ∷ []) node.Exit 0 [] (λ x b. b))

    from : (d : Node) → IsNeeded cs S ends K d → is_present K takers d ≡ true
    from d (maker e) = or_left (K d) _ e
    from d (result {b} e) = or_right (K (Join b)) _ (or_left (K (At b)) _ e)
    from d (operand p s is on a) =
        one d (taker.Instr (record { 0 = p })) (each_at cs L S 0 p p s (omega arith) (sites_taken cs L code _ node.Exit 0 [] (λ x b. b)) is d a) on
    from d (left b e a o on f) = one d (taker.End e.owner) (end_in cs L ends e all_ends a d f) (ap (λ k. is_kept K (taker.End k)) o ∙ on)
    from d (at_exit e a o f) = one d (taker.End e.owner) (end_in cs L ends e all_ends a d f) (ap (λ k. is_kept K (taker.End k)) o)
