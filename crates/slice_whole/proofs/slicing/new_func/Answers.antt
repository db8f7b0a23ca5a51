use Rattle.std.proofs.Common.{◌≡◌, ◌≤◌, ◌<◌, ◌+◌, ◌-◌, ◌^◌, ◌∙◌, None, Some, length, slice_get, nat_eq, refl, sym, ap, subst, arith}
use Rattle.std.specs.Option.{option_copied}
use Rattle.wasm_types.specs.declared.module.Module.{Module}
use Rattle.wasm_types.specs.declared.place.LimitKind.TheVariants as limit
use Rattle.wasm_types.specs.Code.{code_of, count, flatten}
use Rattle.wasm_types.specs.Sizes.{positions}
use Rattle.wasm_types.specs.Spaces.{body_of, func_types, import_count, HasBody}
use Rattle.wasm_types.proofs.CodeLemmas.{length-flatten}
use Rattle.flow_domain.specs.Sliced.{func_count}
use Rattle.flow_domain.specs.KeptSets.{holds}
use Rattle.stack_repair.proofs.Bodies.{has_own_body}
use Rattle.stack_repair.proofs.ExactCut.{named_at}
use Rattle.slice_whole.specs.declared.slicing.SliceRefusal.TheVariants.{NoInstruction}
use Rattle.slice_whole.specs.Slices.{is_exported}
use Rattle.slice_whole.proofs.Refused.{Seen, is_own, sealed_few, present_at, type_of_own, own_place, own_within, refuses_import, refuses_position, refuses_dead, refuses_name, refuses_nothing, seen_site}
use Rattle.slice_whole.proofs.slicing.new_func.Goals as goal

pub func_count-count-requires : goal.func_count-count-requires
func_count-count-requires c = subst (λ (x : Module). length (func_types x) < 2 ^ 32) (sym c.module-module.ensures.same) (sealed_few c.args.given.now c.module-module.ensures.sealed)

pub returns-in_default : goal.returns-in_default
returns-in_default c =
    let m = c.args.given.now in
    let none : body_of m c.args.func ≡ None = ap (λ (x : Module). body_of x c.args.func) (sym c.module-module.ensures.same) ∙ sym c.body.ensures ∙ ap option_copied c.in_default.is in
    let all : func_count c.module-module.result.now ≡ func_count m = ap (λ (x : Module). func_count x) c.module-module.ensures.same in
    let counted = c.func_count-count.ensures in
    let below = c.if-func-count.false in
    let lt : c.args.func < func_count m = omega arith in
    refuses_import m c.module-module.ensures.sealed.valid c.args.func c.args.at.0 c.args.name.now lt none

pub count-positions-requires : goal.count-positions-requires
count-positions-requires c =
    let m = c.args.given.now in
    let b = c.in-Some.body.now in
    let body : body_of m c.args.func ≡ Some b = ap (λ (x : Module). body_of x c.args.func) (sym c.module-module.ensures.same) ∙ sym c.in-Some.ensures in
    let has : HasBody m c.args.func b = has_own_body m c.args.func b (is_own m c.args.func b body) body in
    let few : length (flatten (code_of b.code)) ≤ 200000 = c.module-module.ensures.sealed.limits limit.Positions c.args.func (positions b.code) (b, has, refl) in
    omega arith

pub returns-then-at-positions : goal.returns-then-at-positions
returns-then-at-positions c =
    let m = c.args.given.now in
    let b = c.in-Some.body.now in
    let body : body_of m c.args.func ≡ Some b = ap (λ (x : Module). body_of x c.args.func) (sym c.module-module.ensures.same) ∙ sym c.in-Some.ensures in
    let le = is_own m c.args.func b body in
    let has : HasBody m c.args.func b = has_own_body m c.args.func b le body in
    let all : func_count c.module-module.result.now ≡ func_count m = ap (λ (x : Module). func_count x) c.module-module.ensures.same in
    let counted = c.func_count-count.ensures in
    let below = c.if-func-count.false in
    let lt : c.args.func < func_count m = omega arith in
    let flat = length-flatten (code_of b.code) in
    let many : c.count-positions.result ≡ count (code_of b.code) = c.count-positions.ensures ∙ flat in
    let past = c.if-at-positions.true in
    refuses_position m c.args.func c.args.at.0 c.args.name.now b lt body (omega arith) ∙ ap (λ n. Some (NoInstruction n)) (sym many)

pub returns-then-not-live : goal.returns-then-not-live
returns-then-not-live c =
    let m = c.args.given.now in
    let b = c.in-Some.body.now in
    let body : body_of m c.args.func ≡ Some b = ap (λ (x : Module). body_of x c.args.func) (sym c.module-module.ensures.same) ∙ sym c.in-Some.ensures in
    let le = is_own m c.args.func b body in
    let has : HasBody m c.args.func b = has_own_body m c.args.func b le body in
    let all : func_count c.module-module.result.now ≡ func_count m = ap (λ (x : Module). func_count x) c.module-module.ensures.same in
    let counted = c.func_count-count.ensures in
    let below = c.if-func-count.false in
    let lt : c.args.func < func_count m = omega arith in
    let flat = length-flatten (code_of b.code) in
    let many : c.count-positions.result ≡ count (code_of b.code) = c.count-positions.ensures ∙ flat in
    let before = c.if-at-positions.false in
    let a = c.in_ok-names.ensures (nat_eq c.args.at.0) in
    refuses_dead m c.args.func c.args.at.0 c.args.name.now a.values.kind b c.in_ok-names.names lt a.values.kind_is body (omega arith) (named_at m c.args.func c.args.at.0 c.in_ok-names.names a.values.kind b a a.values.kind_is has)
    (sym c.live.ensures ∙ c.if-not-live.true)

pub returns-then-is_exported : goal.returns-then-is_exported
returns-then-is_exported c =
    let m = c.args.given.now in
    let b = c.in-Some.body.now in
    let body : body_of m c.args.func ≡ Some b = ap (λ (x : Module). body_of x c.args.func) (sym c.module-module.ensures.same) ∙ sym c.in-Some.ensures in
    let le = is_own m c.args.func b body in
    let has : HasBody m c.args.func b = has_own_body m c.args.func b le body in
    let all : func_count c.module-module.result.now ≡ func_count m = ap (λ (x : Module). func_count x) c.module-module.ensures.same in
    let counted = c.func_count-count.ensures in
    let below = c.if-func-count.false in
    let lt : c.args.func < func_count m = omega arith in
    let flat = length-flatten (code_of b.code) in
    let many : c.count-positions.result ≡ count (code_of b.code) = c.count-positions.ensures ∙ flat in
    let before = c.if-at-positions.false in
    let a = c.in_ok-names.ensures (nat_eq c.args.at.0) in
    let seen : Seen m c.args.func c.args.at.0 a.values.kind b c.in_ok-names.names =
    record { there = lt; type = a.values.kind_is; body = body; within = omega arith; named = named_at m c.args.func c.args.at.0 c.in_ok-names.names a.values.kind b a a.values.kind_is has; live = sym c.live.ensures ∙ c.if-not-live.false } in
    let exports = c.as_slice.ensures ∙ ap (λ (x : Module). x.exports) c.module-module.ensures.same in
    refuses_name m c.args.func c.args.at.0 c.args.name.now a.values.kind b c.in_ok-names.names seen (sym (c.is_exported.ensures ∙ ap (λ es. is_exported es c.args.name.now) exports) ∙ c.if-is_exported.true)

pub unreachable-requires : goal.unreachable-requires
unreachable-requires c =
    let m = c.args.given.now in
    let b = c.in-Some.body.now in
    let body : body_of m c.args.func ≡ Some b = ap (λ (x : Module). body_of x c.args.func) (sym c.module-module.ensures.same) ∙ sym c.in-Some.ensures in
    let le = is_own m c.args.func b body in
    let has : HasBody m c.args.func b = has_own_body m c.args.func b le body in
    let all : func_count c.module-module.result.now ≡ func_count m = ap (λ (x : Module). func_count x) c.module-module.ensures.same in
    let counted = c.func_count-count.ensures in
    let below = c.if-func-count.false in
    let lt : c.args.func < func_count m = omega arith in
    let same = ap (λ (x : Module). x.funcs) c.module-module.ensures.same in
    let long = c.len.ensures ∙ ap length same in
    let place = own_place m c.args.func le c.len.result c.func_count-count.result long (counted ∙ all) in
    let none = sym c.get.ensures.value ∙ ap option_copied c.in_default-get.is in
    let some = present_at m.funcs (c.args.func - import_count m) (own_within m c.args.func le lt) in
    let there = ap (slice_get m.funcs) (sym place) ∙ some.1 in
    let gone = ap (λ fs. slice_get fs (c.args.func + c.len.result - c.func_count-count.result)) (sym same) ∙ none in
    let clash = sym gone ∙ there in cc

pub returns : goal.returns
returns c =
    let m = c.args.given.now in
    let b = c.in-Some.body.now in
    let body : body_of m c.args.func ≡ Some b = ap (λ (x : Module). body_of x c.args.func) (sym c.module-module.ensures.same) ∙ sym c.in-Some.ensures in
    let le = is_own m c.args.func b body in
    let has : HasBody m c.args.func b = has_own_body m c.args.func b le body in
    let all : func_count c.module-module.result.now ≡ func_count m = ap (λ (x : Module). func_count x) c.module-module.ensures.same in
    let counted = c.func_count-count.ensures in
    let below = c.if-func-count.false in
    let lt : c.args.func < func_count m = omega arith in
    let flat = length-flatten (code_of b.code) in
    let many : c.count-positions.result ≡ count (code_of b.code) = c.count-positions.ensures ∙ flat in
    let before = c.if-at-positions.false in
    let a = c.in_ok-names.ensures (nat_eq c.args.at.0) in
    let seen : Seen m c.args.func c.args.at.0 a.values.kind b c.in_ok-names.names =
    record { there = lt; type = a.values.kind_is; body = body; within = omega arith; named = named_at m c.args.func c.args.at.0 c.in_ok-names.names a.values.kind b a a.values.kind_is has; live = sym c.live.ensures ∙ c.if-not-live.false } in
    let exports = c.as_slice.ensures ∙ ap (λ (x : Module). x.exports) c.module-module.ensures.same in
    let same = ap (λ (x : Module). x.funcs) c.module-module.ensures.same in
    let long = c.len.ensures ∙ ap length same in
    let place = own_place m c.args.func le c.len.result c.func_count-count.result long (counted ∙ all) in
    let type : slice_get m.funcs (c.args.func - import_count m) ≡ Some c.in-Some-get.kind.now =
    ap (slice_get m.funcs) place ∙ ap (λ fs. slice_get fs (c.args.func + c.len.result - c.func_count-count.result)) (sym same) ∙ sym c.in-Some-get.ensures.value in
    let site = seen_site m c.args.func c.args.at.0 a.values.kind b c.in_ok-names.names seen in (
      refuses_nothing m c.args.func c.args.at.0 c.args.name.now a.values.kind b c.in_ok-names.names seen (sym (c.is_exported.ensures ∙ ap (λ es. is_exported es c.args.name.now) exports) ∙ c.if-is_exported.false),
      record {
        own = record { type = c.in-Some-get.kind.now; own = (le, type); kind = a.values.kind; kind_is = type_of_own m c.module-module.ensures.sealed.valid c.args.func c.in-Some-get.kind.now a.values.kind (le, type) a.values.kind_is; body = b; has_body = has };
        type_is = refl;
        site = site.0;
        live = site.1;
        cover = c.in_ok-kept.ensures.cover;
        cover_is = c.in_ok-kept.ensures.cover_is;
        kept = holds c.in_ok-kept.kept;
        keeps = c.in_ok-kept.ensures.keeps a.values.kind b a.values.kind_is has;
        cut = c.in_ok-body.ensures;
      },
    )

pub kept_named-requires-clause-sealed : goal.kept_named-requires-clause-sealed
kept_named-requires-clause-sealed c = c.module-module.ensures.sealed

pub kept_named-requires-clause-names : goal.kept_named-requires-clause-names
kept_named-requires-clause-names c = λ w. (c.in_ok-names.ensures w).values
