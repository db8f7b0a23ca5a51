-- No more is imported than there are imports.
use Rattle.std.proofs.Common.{◌≤◌, List, [], ◌∷◌, length, length-append, arith}
use Rattle.wasm_types.specs.declared.module.ImportKind.{ImportKind}
use Rattle.wasm_types.specs.declared.module.ImportKind.TheVariants as import
use Rattle.wasm_types.specs.declared.module.Import.{Import}
use Rattle.wasm_types.specs.Spaces.{func_import, global_import, imported}

length-imported : {A : Type 0} (pick : ImportKind → List A) → ((kind : ImportKind) → length (pick kind) ≤ 1) → (is : List Import)
    → length (imported pick is) ≤ length is
length-imported pick one [] = omega arith
length-imported pick one (i ∷ is) = omega (arith, one i.kind, length-imported pick one is, length-append (pick i.kind) (imported pick is))

length-func_import : (kind : ImportKind) → length (func_import kind) ≤ 1
length-func_import (import.Func type) = omega arith
length-func_import _ = omega arith

length-global_import : (kind : ImportKind) → length (global_import kind) ≤ 1
length-global_import (import.Global g) = omega arith
length-global_import _ = omega arith

pub length-imported_funcs : (is : List Import) → length (imported func_import is) ≤ length is
length-imported_funcs = length-imported func_import length-func_import

pub length-imported_globals : (is : List Import) → length (imported global_import is) ≤ length is
length-imported_globals = length-imported global_import length-global_import
