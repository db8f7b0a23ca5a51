-- A search goes on to all deciders, and to all that is around.
use Rattle.std.proofs.Common.{refl, inl, inr}
use Rattle.wasm_types.specs.declared.module.Pos.{Pos}
use Rattle.wasm_types.specs.declared.place.Node.{Node}
use Rattle.wasm_types.specs.Code.{code_of}
use Rattle.control_deps.specs.Nearest.{Finds, itself, onward, Onward, earlier, latest, around, own_join, nearest_in}
use Rattle.worklist.specs.Reached.{Reached, step}
use Rattle.slice_closure.specs.declared.tables.Tables.{Tables}
use Rattle.slice_closure.specs.declared.items.Item.TheVariants.{Keeps}
use Rattle.slice_closure.specs.Next.{First, Next}

next_onward : (t : Tables) (n m : Node) → Onward (code_of t.body.now.code) (nearest_in t.deciders.now) n m → Next t (Keeps n) (Keeps m)
next_onward t n _ (earlier p e) = inr (inr (inl (p, (e, refl))))
next_onward t n _ (latest p e) = inr (inr (inr (p, (e, refl))))
next_onward t _ _ (around {q} b is) = inl (inr (b, (λ nested. is, refl)))
next_onward t _ _ (own_join {b}) = inl refl

pub finds_met : (t : Tables) (at : Pos) (n m : Node) → Finds (code_of t.body.now.code) (nearest_in t.deciders.now) n m
    → Reached (First t at) (Next t) (Keeps n) → Reached (First t at) (Next t) (Keeps m)
finds_met t at n _ itself met = met
finds_met t at n m (onward k f o) met = step (Keeps k) (finds_met t at n k f met) (next_onward t k m o)
