-- Locals kept as runs.
use Rattle.std.proofs.Common.{◌≡◌, true, false, ℕ, zero, suc, ◌+◌, ◌-◌, ◌≤◌, ◌<◌, List, [], ◌∷◌, ◌++◌, length, Some, get_or, replicate, refl, sym, ap, ◌∙◌, arith, append_assoc, length-append}
use Rattle.std.specs.List.{slice_get}
use Rattle.std.specs.Option.{option_map}
use Rattle.std.proofs.lemmas.List.{append-nil, length-replicate}
use Rattle.std.specs.List.Sorted.{IsPartitionPoint, IsPartitionedBy}
use Rattle.std.proofs.lemmas.List.Sorted.{IsPartitionedBy-leb}
use Rattle.std.proofs.lemmas.Bool.{leb-true, leb-false}
use Rattle.std.proofs.Math.Dec.{leb}
use Rattle.wasm_types.specs.declared.module.ValType.{ValType}
use Rattle.body_check.specs.declared.locals.RunEnd.{RunEnd}
use Rattle.body_check.specs.Locals.{types_from, Reaches}

pub types-push : (start : ℕ) (es : List RunEnd) (count : ℕ) (e : RunEnd) → Reaches start es count
    → types_from start (es ++ e ∷ []) ≡ types_from start es ++ replicate (e.end - count) e.kind
types-push start [] count e h = append-nil (replicate (e.end - start) e.kind) ∙ ap (λ n. replicate (e.end - n) e.kind) h
types-push start (f ∷ es) count e h = ap (λ z. replicate (f.end - start) f.kind ++ z) (types-push f.end es count e h.1) ∙ sym (append_assoc (replicate (f.end - start) f.kind) (types_from f.end es) (replicate (e.end - count) e.kind))

pub reaches-push : (start : ℕ) (es : List RunEnd) (count : ℕ) (e : RunEnd) → Reaches start es count → count ≤ e.end → Reaches start (es ++ e ∷ []) e.end
reaches-push start [] count e h le = (omega arith, refl)
reaches-push start (f ∷ es) count e h le = (h.0, reaches-push f.end es count e h.1 le)

pub reaches-length : (start : ℕ) (es : List RunEnd) (count : ℕ) → Reaches start es count → start + length (types_from start es) ≡ count
reaches-length start [] count h = omega arith
reaches-length start (f ∷ es) count h = omega (arith, reaches-length f.end es count h.1, h.0, length-append (replicate (f.end - start) f.kind) (types_from f.end es), length-replicate (f.end - start) f.kind)

pub above-start : (start : ℕ) (es : List RunEnd) (count j : ℕ) (d : RunEnd) → Reaches start es count → j < length es → start ≤ (get_or es j d).end
above-start start [] count j d h lt = absurd (omega arith)
above-start start (f ∷ es) count zero d h lt = h.0
above-start start (f ∷ es) count (suc j) d h lt = omega (arith, above-start f.end es count j d h.1 (omega arith), h.0)

pub ends-rise : (start : ℕ) (es : List RunEnd) (count i j : ℕ) (d : RunEnd) → Reaches start es count → i ≤ j → j < length es
    → (get_or es i d).end ≤ (get_or es j d).end
ends-rise start [] count i j d h le lt = absurd (omega arith)
ends-rise start (f ∷ es) count zero zero d h le lt = omega arith
ends-rise start (f ∷ es) count zero (suc j) d h le lt = above-start f.end es count j d h.1 (omega arith)
ends-rise start (f ∷ es) count (suc i) zero d h le lt = absurd (omega arith)
ends-rise start (f ∷ es) count (suc i) (suc j) d h le lt = ends-rise f.end es count i j d h.1 (omega arith) (omega arith)

in-run : (n : ℕ) (k : ValType) (rest : List ValType) (x : ℕ) → x < n → slice_get (replicate n k ++ rest) x ≡ Some k
in-run zero k rest x lt = absurd (omega arith)
in-run (suc n) k rest zero lt = refl
in-run (suc n) k rest (suc x) lt = in-run n k rest x (omega arith)

past-run : (n : ℕ) (k : ValType) (rest : List ValType) (x y : ℕ) → x ≡ n + y → slice_get (replicate n k ++ rest) x ≡ slice_get rest y
past-run zero k rest x y e = ap (slice_get rest) (omega arith)
past-run (suc n) k rest zero y e = absurd (omega arith)
past-run (suc n) k rest (suc x) y e = past-run n k rest x y (omega arith)

-- The run that holds a local is the first that ends past it.
pub find-run : (start : ℕ) (es : List RunEnd) (count i x y : ℕ) → Reaches start es count → x ≡ start + y
    → ((j : ℕ) (d : RunEnd) → j < i → (get_or es j d).end ≤ x) → ((j : ℕ) (d : RunEnd) → i ≤ j → j < length es → x < (get_or es j d).end)
    → slice_get (types_from start es) y ≡ option_map (λ (e : RunEnd). e.kind) (slice_get es i)
find-run start [] count i x y h e low high = refl
find-run start (f ∷ es) count zero x y h e low high =
    in-run (f.end - start) f.kind (types_from f.end es) y (omega (arith, high 0 f (omega arith) (omega arith)))
find-run start (f ∷ es) count (suc i) x y h e low high =
    let le : f.end ≤ x = low 0 f (omega arith) in
    past-run (f.end - start) f.kind (types_from f.end es) y (x - f.end) (omega (arith, h.0))
    ∙ find-run f.end es count i x (x - f.end) h.1 (omega arith) (λ j d lt. low (suc j) d (omega arith)) (λ j d ge lt. high (suc j) d (omega arith) (omega arith))

-- what a search by halves finds
pub find-local : (es : List RunEnd) (count i x : ℕ) → Reaches 0 es count
    → IsPartitionPoint (λ (y : RunEnd). leb y.end x ≡ true) (λ (y : RunEnd). leb y.end x ≡ false) es i
    → slice_get (types_from 0 es) x ≡ option_map (λ (e : RunEnd). e.kind) (slice_get es i)
find-local es count i x h p = find-run 0 es count i x x h (omega arith) (λ j d lt. omega (arith, leb-true (get_or es j d).end x (p.0 j d (omega arith) lt))) (λ j d ge lt. omega (arith, leb-false (get_or es j d).end x (p.1 j d ge lt)))

pub ends-partitioned : (es : List RunEnd) (count x : ℕ) → Reaches 0 es count → IsPartitionedBy (λ (y : RunEnd). leb y.end x) es
ends-partitioned es count x h = IsPartitionedBy-leb (λ (y : RunEnd). y.end) es x (λ i j d le lt. ends-rise 0 es count i j d h le lt)
