-- What calls leave.
use Rattle.std.proofs.Common.{◌≡◌, ℕ, List, [], ◌∷◌, length, Option, Some, refl, sym, subst}
use Rattle.std.specs.List.{slice_get}
use Rattle.wasm_types.specs.declared.module.ValType.{ValType}
use Rattle.wasm_types.specs.declared.module.FuncType.{FuncType}
use Rattle.wasm_types.specs.declared.module.Module.{Module}
use Rattle.wasm_types.specs.declared.instr.Instr.{Instr}
use Rattle.wasm_types.specs.declared.instr.Instr.TheVariants as v
use Rattle.wasm_types.specs.Spaces.{type_of_func}
use Rattle.wasm_types.specs.Actions.{callees, leaves, leaves_of, own_task, table_task}
use Rattle.stack_names.specs.declared.place.Place.{Place}
use Rattle.stack_names.specs.Left.{left, left_type, result_or, type_or}

left_result : (rs : List ValType) → slice_get rs 0 ≡ left (length rs) (type_or (slice_get rs 0))
left_result [] = refl
left_result (k ∷ rs) = refl

pub call_leaves : (m : Module) (ls : List ValType) (i : Instr) (f : ℕ) (F : FuncType) (s : List Place) → i ≡ v.Call f → type_of_func m f ≡ Some F
    → slice_get F.results 0 ≡ left (leaves (callees m) i) (left_type m ls i s)
call_leaves m ls i f F s e at =
    subst (λ (z : Instr). slice_get F.results 0 ≡ left (leaves (callees m) z) (left_type m ls z s)) (sym e)
    (subst (λ (o : Option FuncType). slice_get F.results 0 ≡ left (leaves_of (own_task f o)) (result_or o)) (sym at) (left_result F.results))

pub indirect_leaves : (m : Module) (ls : List ValType) (i : Instr) (t : ℕ) (F : FuncType) (s : List Place) → i ≡ v.CallIndirect t → slice_get m.types t ≡ Some F
    → slice_get F.results 0 ≡ left (leaves (callees m) i) (left_type m ls i s)
indirect_leaves m ls i t F s e at =
    subst (λ (z : Instr). slice_get F.results 0 ≡ left (leaves (callees m) z) (left_type m ls z s)) (sym e)
    (subst (λ (o : Option FuncType). slice_get F.results 0 ≡ left (leaves_of (table_task t o)) (result_or o)) (sym at) (left_result F.results))
