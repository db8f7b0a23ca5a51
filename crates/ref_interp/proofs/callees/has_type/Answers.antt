use Rattle.std.proofs.Common.{◌≡◌, ℕ, List, Some, length, slice_get, refl, sym, ap, ◌∙◌}
use Rattle.std.proofs.lemmas.Option.{slice_get_read}
use Rattle.wasm_types.specs.Spaces.{func_types}
use Rattle.ref_interp.proofs.CalleeTypes.{by_types, by_number, without_own}
use Rattle.ref_interp.proofs.callees.has_type.Goals as goal

pub returns-then-own-kind : goal.returns-then-own-kind
returns-then-own-kind c =
    let types = c.args.types.now in
    let own = c.in-Some-Some.own.now in
    let read = c.in-Some-Some.ensures.lookup in
    let at : slice_get (func_types c.args.m.now) c.args.func ≡ Some own =
    ap (λ (l : List ℕ). slice_get l c.args.func) (sym c.requires) ∙ slice_get_read types (length types) c.args.func own refl read.3.0 read.1 in
    by_number c.args.m.now c.args.func c.args.kind own c.in-Some-Some.wanted.now at (sym c.in-Some-Some.ensures'.value) c.if-own-kind.true

pub returns-in-Some : goal.returns-in-Some
returns-in-Some c =
    let types = c.args.types.now in
    let own = c.in-Some-Some.own.now in
    let read = c.in-Some-Some.ensures.lookup in
    let at : slice_get (func_types c.args.m.now) c.args.func ≡ Some own =
    ap (λ (l : List ℕ). slice_get l c.args.func) (sym c.requires) ∙ slice_get_read types (length types) c.args.func own refl read.3.0 read.1 in
    by_types c.args.m.now c.args.func c.args.kind own c.in-Some.found.now c.in-Some-Some.wanted.now at (sym c.in-Some.ensures.value)
    (sym c.in-Some-Some.ensures'.value) c.is_same.result c.is_same.ensures

pub returns-in-None : goal.returns-in-None
returns-in-None c =
    let types = c.args.types.now in
    let own = c.in-Some-Some.own.now in
    let read = c.in-Some-Some.ensures.lookup in
    let at : slice_get (func_types c.args.m.now) c.args.func ≡ Some own =
    ap (λ (l : List ℕ). slice_get l c.args.func) (sym c.requires) ∙ slice_get_read types (length types) c.args.func own refl read.3.0 read.1 in
    without_own c.args.m.now c.args.func c.args.kind own at (sym c.in-None.ensures.value)
