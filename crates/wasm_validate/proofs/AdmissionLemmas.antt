-- What is read and has no refusal is sealed.
use Rattle.std.proofs.Common.{◌≤◌, arith}
use Rattle.wasm_types.specs.declared.module.Module.{Module}
use Rattle.wasm_types.specs.declared.place.Part.{Part}
use Rattle.wasm_types.specs.declared.place.LimitKind.{LimitKind}
use Rattle.wasm_types.specs.declared.place.LimitKind.TheVariants as limit
use Rattle.wasm_types.specs.Sizes.{HasAtMost}
use Rattle.wasm_types.specs.Subset.{HasNoFloatIn, WithinLimits, most_read, most_answered, NestsAtMost, most_nesting, IsSealed}
use Rattle.wasm_types.specs.Validity.{Holds}
use Rattle.wasm_types.specs.WellFormed.{IsWellFormed}
use Rattle.text_laws.proofs.SizeLemmas.{has_at_most_more}

most_answered_more : (which : LimitKind) → most_read which ≤ most_answered which
most_answered_more limit.Functions = omega arith
most_answered_more limit.Params = omega arith
most_answered_more limit.Globals = omega arith
most_answered_more limit.TableSize = omega arith
most_answered_more limit.Locals = omega arith
most_answered_more limit.Positions = omega arith

pub sealed_module : (m : Module) → IsWellFormed m → HasAtMost 0x7FFF_FFFF m → NestsAtMost most_nesting m → ((p : Part) → HasNoFloatIn m p)
    → WithinLimits most_read m → ((p : Part) → Holds m p) → IsSealed m
sealed_module m well few nesting no_float limits valid =
    record {
      valid = (well, valid);
      no_float = no_float;
      limits = λ which k n counts. omega (arith, limits which k n counts, most_answered_more which);
      nesting = nesting;
      entries = has_at_most_more 0x7FFF_FFFF 0xFFFF_FFFF m (omega arith) few;
    }
