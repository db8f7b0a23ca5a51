-- What the laws ask for, of a sliced module and of an own function.
use Rattle.std.proofs.Common.{ℕ, nat_eq}
use Rattle.wasm_types.specs.declared.module.Name.{Name}
use Rattle.wasm_types.specs.declared.module.Module.{Module}
use Rattle.wasm_types.specs.WellFormed.{ProperName}
use Rattle.flow_domain.specs.Sliced.{HasExport, IsSliced}
use Rattle.stack_repair.specs.Law.{HasCut}

unfoldable pub sliced_has_cut : (m : Module) (f i : ℕ) (name : Name) (new : Module) (at : ℕ) → ProperName name → (HasExport m.exports name.bytes → ⊥)
    → IsSliced m f i name new at → HasCut m name new
sliced_has_cut m f i name new at proper free s = record {
  func = f;
  type = s.type;
  own = s.own;
  kind = s.kind;
  kind_is = s.kind_is;
  body = s.body;
  has_body = s.has_body;
  watched = nat_eq i;
  kept = s.kept;
  present = s.present;
  needed = λ n h. (s.needed n).1 h;
  types = s.types;
  typed = s.typed;
  proper = proper;
  free = free;
  is = s.is;
}
