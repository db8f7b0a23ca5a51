use Rattle.std.proofs.Common.{arith}
use Rattle.wasm_types.specs.Types.{SpellsLimits}
use Rattle.wasm_decode.proofs.PartLemmas.{behind_reads}
use Rattle.wasm_decode.proofs.types.TableTypePlain.find.Goals as goal

pub returns : goal.returns
returns c = behind_reads SpellsLimits 0x70 c.args.bytes.now c.args.at c.find.result (omega arith) c.if-bytes-at-ne112.false c.find.ensures
