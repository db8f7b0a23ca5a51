use Rattle.std.proofs.Common.{◌-◌, ◌+◌, ℕ, List, sym, subst, arith}
use Rattle.wasm_types.specs.Numbers.{SpellsU32}
use Rattle.wasm_types.specs.Standing.{Stands}
use Rattle.wasm_types.specs.Parts.{EachOf}
use Rattle.text_laws.proofs.Once.{once_u32}
use Rattle.text_laws.proofs.StandingLemmas.{no_items_yet, one_more_stands, none_of_more, none_of_any, none_of_same, counted_stands, none_counted_first, none_counted_second}
use Rattle.code_decode.proofs.plain.read_numbers.Goals as goal

pub loop-k-init : goal.loop-k-init
loop-k-init c = record {
  so_far = subst (λ (xs : List ℕ). Stands (EachOf SpellsU32 0) c.args.bytes.now c.in-Some.found.1 c.in-Some.found.1 xs) (sym c.new-numbers.ensures) (no_items_yet SpellsU32 c.args.bytes.now c.in-Some.found.1 c.in-Some.ensures.within);
  back = none_of_same SpellsU32 c.args.bytes.now c.in-Some.found.1 _ _ (omega arith);
}

pub loop-k-preserved : goal.loop-k-preserved
loop-k-preserved c = record {
  so_far = subst (λ (xs : List ℕ). Stands (EachOf SpellsU32 (c.loop-k._k + 1)) c.args.bytes.now c.in-Some.found.1 c.in-Some-read_u32.next xs) (sym c.in_ok-push-in-Some-read_u32.ensures.ok)
      (one_more_stands SpellsU32 c.args.bytes.now c.in-Some.found.1 c.loop-k.place c.in-Some-read_u32.next c.loop-k._k c.loop-k.numbers c.in-Some-read_u32.number c.loop-k.invariant.so_far c.in-Some-read_u32.ensures);
  back = λ h. c.loop-k.invariant.back (none_of_same SpellsU32 c.args.bytes.now c.loop-k.place (c.in-Some.found.0 - (c.loop-k._k + 1) + 1) (c.in-Some.found.0 - c.loop-k._k) (omega arith)
      (none_of_more SpellsU32 c.args.bytes.now c.loop-k.place c.in-Some-read_u32.next (c.in-Some.found.0 - (c.loop-k._k + 1)) c.in-Some-read_u32.number once_u32 c.in-Some-read_u32.ensures h));
}

pub returns : goal.returns
returns c =
    let all : Stands (EachOf SpellsU32 c.in-Some.found.0) c.args.bytes.now c.in-Some.found.1 c.loop-k.place c.loop-k.numbers =
    subst (λ (n : ℕ). Stands (EachOf SpellsU32 n) c.args.bytes.now c.in-Some.found.1 c.loop-k.place c.loop-k.numbers) (omega arith) c.loop-k.invariant.so_far in
    counted_stands SpellsU32 c.args.bytes.now c.args.at c.in-Some.found.1 c.loop-k.place c.in-Some.found.0 c.loop-k.numbers c.in-Some.ensures all

pub returns-in-None : goal.returns-in-None
returns-in-None c = none_counted_first SpellsU32 c.args.bytes.now c.args.at c.in-None.ensures

pub returns-in-None-read_u32 : goal.returns-in-None-read_u32
returns-in-None-read_u32 c =
    none_counted_second SpellsU32 c.args.bytes.now c.args.at c.in-Some.found.1 c.in-Some.found.0 c.in-Some.ensures
    (c.loop-k.invariant.back (none_of_any SpellsU32 c.args.bytes.now c.loop-k.place (c.in-Some.found.0 - c.loop-k._k) (omega arith) c.in-None-read_u32.ensures))
