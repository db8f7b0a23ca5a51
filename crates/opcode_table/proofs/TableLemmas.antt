-- The tables of bytes: no two items have one byte.
use Rattle.std.proofs.Common.{◌≡◌, ℕ, List, [], Bool, Option, Some, None, refl, sym, ap, subst, ◌∙◌, arith, rules}
use Rattle.std.proofs.lemmas.Bool.Decides.{nat_tests}
use Rattle.wasm_types.specs.declared.module.ValType.{ValType}
use Rattle.wasm_types.specs.declared.module.ExportKind.{ExportKind}
use Rattle.wasm_types.specs.declared.ops.NumOp.{NumOp}
use Rattle.wasm_types.specs.declared.ops.LoadOp.{LoadOp}
use Rattle.wasm_types.specs.declared.ops.StoreOp.{StoreOp}
use Rattle.wasm_types.specs.declared.instr.Instr.{Instr, Num}
use Rattle.wasm_types.specs.declared.instr.Instr.TheVariants.{Block, Loop, If}
use Rattle.wasm_types.specs.declared.instr.Instr.TheViews.{the_lemmas}
use Rattle.wasm_types.specs.Types.{type_byte, kind_byte, mutable_byte}
use Rattle.wasm_types.specs.Sections.{export_byte}
use Rattle.wasm_types.specs.Plain.{Immediates, nothing, num_opcode, load_opcode, store_opcode, opcode, immediates, SpellsImmediates}
use Rattle.text_laws.proofs.OpcodeLemmas.{bare_of, make, told}
use Rattle.opcode_table.specs.Table.{ReadsBack, Makes}

-- ---- the opcodes of what holds others

pub opcode-block : (k : Option ValType) (xs : List Instr) → opcode (Block k xs) ≡ 2
opcode-block k xs = search (rules, the_lemmas)

pub opcode-loop : (k : Option ValType) (xs : List Instr) → opcode (Loop k xs) ≡ 3
opcode-loop k xs = search (rules, the_lemmas)

pub opcode-if : (k : Option ValType) (xs ys : List Instr) → opcode (If k xs ys) ≡ 4
opcode-if k xs ys = search (rules, the_lemmas)

pub ruleset opcode_steps = (opcode-block, opcode-loop, opcode-if)

-- ---- one byte, one item

pub type-one : (v w : ValType) → type_byte v ≡ type_byte w → v ≡ w
type-one v w e = grind (arith, nat_tests)

pub kind-one : (v w : Option ValType) → kind_byte v ≡ kind_byte w → v ≡ w
kind-one v w e = grind (arith, nat_tests)

pub mutable-one : (v w : Bool) → mutable_byte v ≡ mutable_byte w → v ≡ w
mutable-one v w e = grind (arith, nat_tests)

pub export-one : (v w : ExportKind) → export_byte v ≡ export_byte w → v ≡ w
export-one v w e = grind (arith, nat_tests)

pub load-one : (v w : LoadOp) → load_opcode v ≡ load_opcode w → v ≡ w
load-one v w e = grind (arith, nat_tests)

pub store-one : (v w : StoreOp) → store_opcode v ≡ store_opcode w → v ≡ w
store-one v w e = grind (arith, nat_tests)

pub num-one : (v w : NumOp) → num_opcode v ≡ num_opcode w → v ≡ w
num-one v w e = let same : Num v ≡ Num w = sym (told (Num v) [] refl).0 ∙ ap bare_of e ∙ (told (Num w) [] refl).0 in cc

pub read-back : {A : Type 0} (byte_of : A → ℕ) → ((v w : A) → byte_of v ≡ byte_of w → v ≡ w) → (v : A) (r : Option A)
    → ReadsBack byte_of (byte_of v) r → r ≡ Some v
read-back byte_of one v None h = absurd (h v refl)
read-back byte_of one v (Some w) h = ap Some (sym (one v w h))

pub made-back : (i : Instr) (text : List ℕ) (r : Option Instr) → SpellsImmediates text (immediates i) → Makes (opcode i) (immediates i) r → r ≡ Some i
made-back i text None p h = absurd (h i (refl, refl))
made-back i text (Some j) p h =
    let q : SpellsImmediates text (immediates j) = subst (λ (t : Immediates). SpellsImmediates text t) (sym h.1) p in
    ap Some (sym (told j text q).0 ∙ ap (λ (n : ℕ). make n (immediates j)) h.0 ∙ ap (make (opcode i)) h.1 ∙ (told i text p).0)
