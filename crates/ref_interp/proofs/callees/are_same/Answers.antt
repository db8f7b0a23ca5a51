use Rattle.std.proofs.Common.{◌≡◌, ◌≢◌, suc, List, [], ◌∷◌, Bool, false, length, sym, ap, refl, arith}
use Rattle.std.specs.Prelude.{◌&&◌, ◌==◌}
use Rattle.wasm_types.specs.declared.module.ValType.{ValType}
use Rattle.wasm_types.specs.Types.{type_byte}
use Rattle.wasm_meaning.specs.Effects.{same_types}
use Rattle.ref_interp.proofs.callees.are_same.Goals as goal

and_false : (a b : Bool) → b ≡ false → (a && b) ≡ false
and_false a b e = grind arith

lengths_differ : (a b : List ValType) → length a ≢ length b → same_types a b ≡ false
lengths_differ [] [] n = absurd (n refl)
lengths_differ [] (u ∷ us) n = refl
lengths_differ (t ∷ ts) [] n = refl
lengths_differ (t ∷ ts) (u ∷ us) n = and_false (type_byte t == type_byte u) (same_types ts us) (lengths_differ ts us (λ e. n (ap suc e)))

pub returns-then-left-right : goal.returns-then-left-right
returns-then-left-right c = sym (lengths_differ c.args.left.now c.args.right.now c.if-left-right.true)
