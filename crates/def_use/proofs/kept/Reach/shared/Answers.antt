use Rattle.std.proofs.Common.{◌≡◌, ◌≢◌, true, false}
use Rattle.wasm_types.specs.declared.place.Node.{Node}
use Rattle.wasm_types.specs.declared.place.Node.TheVariants as node
use Rattle.wasm_types.specs.Reaching.{Writes}
use Rattle.flow_domain.specs.LocTables.{WritesIn}
use Rattle.def_use.specs.Places.{place_of}
use Rattle.def_use.specs.Writers.{writers_of}
use Rattle.def_use.proofs.Sharing.{one_long, serves}
use Rattle.def_use.proofs.kept.Reach.shared.Goals as goal

pub climb-top-requires : goal.climb-top-requires
climb-top-requires c = rw c.of.ensures (c.requires.right.tables.writers c.args.loc).rising

pub returns : goal.returns
returns c =
    let tables = c.args.self.now.tables in
    let writers = writers_of tables.writers.rows.items c.args.loc in
    let d : Node = node.At (record { 0 = 0 }) in
    let later : place_of tables.places.items c.args.point ≢ 0 = rw (c.place_of.ensures, c.deref.ensures.value) at c.if-place_of-eq0.false in
    let free : Writes (WritesIn c.args.locs.now) c.args.loc c.climb-top.result → ⊥ = (λ w.
    let on : c.is_written.result ≡ true = c.is_written.ensures.1 w in
    let off : c.is_written.result ≡ false = c.if-is_written.false in
    cc) in
    serves c.args.cfg.now c.args.locs.now c.args.loc tables.places.items tables.skips writers c.args.point _ c.climb-top.result c.requires.graph
    c.requires.made.places c.requires.right.tables.skips (c.requires.right.tables.writers c.args.loc) c.requires.point later
    (rw c.before-before.ensures at (one_long c.before-before.result.now d c.if-before-ne1.false))
    (rw (c.of.ensures, c.before-before.ensures) at c.climb-top.ensures) free
