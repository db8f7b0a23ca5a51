use Rattle.std.proofs.Common.{◌≡◌, ◌+◌, ◌*◌, ◌∙◌, [], List, Option, None, replicate, ap, ap₂, arith}
use Rattle.std.proofs.lemmas.List.{append-nil}
use Rattle.wasm_types.specs.declared.module.ValType.{ValType}
use Rattle.wasm_types.specs.declared.module.LocalRun.{LocalRun}
use Rattle.wasm_types.specs.declared.instr.Instr.{Instr}
use Rattle.wasm_types.specs.Code.{code_of, count, list_of}
use Rattle.wasm_types.specs.Marked.{Marked, marks, unmarked, first_mark}
use Rattle.wasm_types.proofs.CodeLemmas.{length-flatten}
use Rattle.flow_domain.specs.KeptSets.{holds}
use Rattle.stack_repair.specs.Told.{Told, noted_to, put_in}
use Rattle.stack_repair.proofs.cutting.cut_body.Goals as goal

pub count-requires : goal.count-requires
count-requires c = let n = c.requires in omega (arith, length-flatten (code_of c.args.body.now.code))

pub returns-clause-code : goal.returns-clause-code
returns-clause-code c =
    let kinds : c.in_ok-kinds.kinds.items ≡ noted_to (holds c.args.kept.now) c.args.names.now (count (code_of c.args.body.now.code)) (replicate (2 * count (code_of c.args.body.now.code) + 1) None) =
    c.in_ok-kinds.ensures ∙ ap (λ n. noted_to (holds c.args.kept.now) c.args.names.now n (replicate (2 * n + 1) None)) (c.count.ensures ∙ length-flatten (code_of c.args.body.now.code)) in
    let told : List (Option ValType) → Told = λ ks. record { kept = holds c.args.kept.now; names = c.args.names.now; kinds = ks; watched = c.args.at.0 } in
    let code = c.in_ok-code.ensures.code ∙ ap₂ {A = List (Option ValType)} {B = List Instr} (λ ks xs. list_of (unmarked (put_in (told ks) c.args.left (code_of xs) 0))) kinds c.as_slice.ensures in
    ap₂ {A = List LocalRun} {B = List Instr} (λ l k. record { locals = l; code = k }) (c.in_ok-locals.ensures ∙ c.as_slice-2.ensures) code

pub returns-clause-place : goal.returns-clause-place
returns-clause-place c = λ k lt e.
    let kinds : c.in_ok-kinds.kinds.items ≡ noted_to (holds c.args.kept.now) c.args.names.now (count (code_of c.args.body.now.code)) (replicate (2 * count (code_of c.args.body.now.code) + 1) None) =
    c.in_ok-kinds.ensures ∙ ap (λ n. noted_to (holds c.args.kept.now) c.args.names.now n (replicate (2 * n + 1) None)) (c.count.ensures ∙ length-flatten (code_of c.args.body.now.code)) in
    let told : List (Option ValType) → Told = λ ks. record { kept = holds c.args.kept.now; names = c.args.names.now; kinds = ks; watched = c.args.at.0 } in
    let put : Marked = put_in (told c.in_ok-kinds.kinds.items) c.args.left (code_of c.as_slice.result.now) 0 in
    let same = ap₂ {A = List (Option ValType)} {B = List Instr} (λ ks xs. first_mark (marks (put_in (told ks) c.args.left (code_of xs) 0))) kinds c.as_slice.ensures in
    let first = ap first_mark (append-nil (marks put)) in
    c.place.ensures k (c.in_ok-code.ensures.place [] k lt (omega (arith, first, same, e)))
