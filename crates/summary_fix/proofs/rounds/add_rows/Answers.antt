use Rattle.std.proofs.Common.{◌∙◌, inl, inr, sym, ⊎_elim}
use Rattle.called_rows.proofs.ClassLemmas.{had_by_targets, takes_rows}
use Rattle.summary_fix.proofs.Stepping.{own_type, has_known, rows_shape, rows_globals, sound_more, full_more, full_made}
use Rattle.summary_fix.proofs.Owned.{value_of, body_at}
use Rattle.wasm_types.specs.Spaces.{body_of}
use Rattle.summary_fix.proofs.rounds.add_rows.Goals as goal

pub add-wide-requires : goal.add-wide-requires
add-wide-requires c =
    let m = c.args.m.now in
    let typed = own_type m c.args.table.now c.requires.sound c.args.func c.requires.body in
    takes_rows m c.args.graph.now c.args.table.now c.args.targets.now c.requires.targets c.args.func typed.0 typed.1 c.in_ok-rows.rows
    (c.in_ok-rows.ensures.shape typed.0 typed.1)

pub returns-clause-targets : goal.returns-clause-targets
returns-clause-targets c =
    c.add-wide.ensures.added c.args.m.now c.args.table.now c.merge-grew.new.self c.requires.graph c.merge-grew.ensures.merged c.requires.targets

pub merge-grew-requires-clause-shape : goal.merge-grew-requires-clause-shape
merge-grew-requires-clause-shape c =
    rows_shape c.args.m.now c.args.table.now c.requires.sound c.args.func c.requires.body c.in_ok-rows.rows c.in_ok-rows.ensures.shape

pub returns-clause-sound : goal.returns-clause-sound
returns-clause-sound c =
    let m = c.args.m.now in
    let t = c.args.table.now in
    let func = c.args.func in
    let s = c.in_ok-rows.rows in
    let b = value_of (body_of m func) c.requires.body in
    let globals = rows_globals m t c.requires.sound func c.requires.body s c.in_ok-rows.ensures.shape in
    sound_more m t c.merge-grew.new.self func s c.merge-grew.ensures.merged c.requires.sound (body_at m func b.0 b.1).own
    (λ W exact o x h. (c.in_ok-rows.ensures.exact W exact o (has_known _ s globals o x h) x).0 h)

pub returns-clause-full : goal.returns-clause-full
returns-clause-full c = λ apart.
    full_made c.args.m.now c.args.table.now c.merge-grew.new.self c.args.func c.in_ok-rows.rows c.merge-grew.ensures.merged c.growth_of.result
    (λ off. c.merge-grew.ensures.same (sym c.growth_of.ensures.rows ∙ off))
    (λ on narrow. had_by_targets c.args.m.now c.args.graph.now c.args.table.now c.args.targets.now c.requires.graph c.requires.targets c.args.func c.in_ok-rows.rows
    (c.add-wide.ensures.same (c.growth_of.ensures.wide on narrow)))
    (λ W exact o x known led. (c.in_ok-rows.ensures.exact W exact o known x).1 led) apart

pub returns-clause-others : goal.returns-clause-others
returns-clause-others c = λ f full apart.
    full_more c.args.m.now c.args.table.now c.merge-grew.new.self c.args.func c.in_ok-rows.rows c.merge-grew.ensures.merged c.growth_of.result
    (λ off. c.merge-grew.ensures.same (sym c.growth_of.ensures.rows ∙ off))
    (λ on narrow. had_by_targets c.args.m.now c.args.graph.now c.args.table.now c.args.targets.now c.requires.graph c.requires.targets c.args.func c.in_ok-rows.rows
    (c.add-wide.ensures.same (c.growth_of.ensures.wide on narrow)))
    f full apart

pub returns-clause-only : goal.returns-clause-only
returns-clause-only c = λ f o x row. ⊎_elim inl (λ p. inr p.0) ((c.merge-grew.ensures.merged.rows f o x).0 row)
