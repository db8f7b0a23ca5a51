use Rattle.wasm_decode.proofs.StepLemmas.{SectionsSoFar}
use Rattle.wasm_decode.proofs.decoding.read_sections.Given as goal

abbrev pub invariant-loop-k : goal.invariant-loop-k
invariant-loop-k l = SectionsSoFar l.bytes l.frames l.k l.deep l.module
