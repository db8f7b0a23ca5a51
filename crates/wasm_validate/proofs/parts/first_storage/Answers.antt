use Rattle.std.proofs.Common.{true≢false, sym, ◌∙◌}
use Rattle.wasm_types.specs.declared.place.Part.TheVariants as part
use Rattle.wasm_types.specs.Validity.{Holds}
use Rattle.wasm_validate.specs.First.{valid_order}
use Rattle.wasm_validate.proofs.PartLemmas.{first_single, past_single, first_numbered, past_numbered, tables, memories, globals}
use Rattle.wasm_validate.proofs.parts.first_storage.Goals as goal

pub returns-then-not-tables_hold : goal.returns-then-not-tables_hold
returns-then-not-tables_hold c =
    first_single (Holds c.args.m.now) valid_order 3 part.TableAll tables c.requires.earlier (λ h. true≢false (sym (c.tables_hold.ensures.1 h) ∙ c.if-not-tables_hold.true))

pub returns-then-not-memories_hold : goal.returns-then-not-memories_hold
returns-then-not-memories_hold c =
    let P = Holds c.args.m.now in
    let after_tables = past_single P valid_order 3 part.TableAll tables c.requires.earlier (c.tables_hold.ensures.0 c.if-not-tables_hold.false) in
    first_single P valid_order 4 part.MemoryAll memories after_tables (λ h. true≢false (sym (c.memories_hold.ensures.1 h) ∙ c.if-not-memories_hold.true))

pub returns-in-Some : goal.returns-in-Some
returns-in-Some c =
    let P = Holds c.args.m.now in
    let after_tables = past_single P valid_order 3 part.TableAll tables c.requires.earlier (c.tables_hold.ensures.0 c.if-not-tables_hold.false) in
    let after_memories = past_single P valid_order 4 part.MemoryAll memories after_tables (c.memories_hold.ensures.0 c.if-not-memories_hold.false) in
    first_numbered P valid_order 5 part.GlobalAt c.in-Some.global globals after_memories c.in-Some.ensures

pub returns-in-None : goal.returns-in-None
returns-in-None c =
    let P = Holds c.args.m.now in
    let after_tables = past_single P valid_order 3 part.TableAll tables c.requires.earlier (c.tables_hold.ensures.0 c.if-not-tables_hold.false) in
    let after_memories = past_single P valid_order 4 part.MemoryAll memories after_tables (c.memories_hold.ensures.0 c.if-not-memories_hold.false) in
    past_numbered P valid_order 5 part.GlobalAt globals after_memories c.in-None.ensures
