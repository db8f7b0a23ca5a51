use Rattle.std.proofs.Common.{◌≡◌, ◌<◌, ℕ, List, length, get_or, arith}
use Rattle.std.proofs.lemmas.List.{get_or_default}
use Rattle.wasm_decode.specs.declared.frames.Frame.{Frame}
use Rattle.wasm_decode.proofs.StepLemmas.{sections_go_on, all_sections, refused}
use Rattle.wasm_decode.proofs.decoding.read_sections.Goals as goal

-- the section of the round
abbrev here : List Frame → ℕ → Frame
here frames k = get_or frames k (record { id = 0; start = 0; end = 0 })

there : (frames : List Frame) (k : ℕ) → k < length frames → here frames k ≡ get_or frames k (here frames k)
there frames k lt = get_or_default frames k (record { id = 0; start = 0; end = 0 }) (here frames k) lt

pub returns-in-Err : goal.returns-in-Err
returns-in-Err c =
    refused c.args.bytes.now c.args.frames.now c.loop-k.k (here c.args.frames.now c.loop-k.k) c.loop-k.deep c.loop-k.module c.read_section.new.into
    c.loop-k.module c.in-Err.stop c.refuse.result c.loop-k-test.true
    (there c.args.frames.now c.loop-k.k c.loop-k-test.true) c.loop-k.invariant c.in-Err.ensures c.refuse.ensures

pub loop-k-preserved : goal.loop-k-preserved
loop-k-preserved c =
    rw c.first_deep-deep.ensures (sections_go_on c.args.bytes.now c.args.frames.now c.loop-k.k c.requires.ordered.0 (here c.args.frames.now c.loop-k.k)
    c.loop-k.module c.read_section.new.into c.loop-k.deep c.in-Ok.entry c.loop-k-test.true
    (there c.args.frames.now c.loop-k.k c.loop-k-test.true) c.requires.ordered.1 c.in-Ok.ensures c.loop-k.invariant)

pub returns : goal.returns
returns c = all_sections c.args.bytes.now c.args.frames.now c.loop-k.k c.loop-k.deep c.loop-k.module (omega arith) c.loop-k.invariant
