use Rattle.std.proofs.Common.{◌≡◌, ◌∙◌, ap, true}
use Rattle.wasm_types.specs.Code.{code_of}
use Rattle.wasm_types.specs.Spaces.{body_of}
use Rattle.wasm_types.specs.declared.module.Module.{Module}
use Rattle.flow_domain.specs.LocRows.{shown, rows_of}
use Rattle.flow_domain.proofs.LocLemmas.{plain_table, same_body}
use Rattle.flow_domain.proofs.plain_walk.plain_locs.Goals as goal

pub returns : goal.returns
returns c = λ b is cs results w.
    let same : c.in-Some.body.now ≡ b = same_body c.in-Some.body.now b
    (c.in-Some.ensures ∙ (ap (λ (m : Module). body_of m c.args.func) c.module.ensures.same ∙ is)) in
    let e : shown c.add_code.new.rows.items ≡ rows_of true (code_of b.code) = rw (c.new-rows.ensures.items, c.as_slice.ensures, same) at
    c.in_ok-add_code.ensures in
    plain_table cs results w b (shown c.add_code.new.rows.items) e
