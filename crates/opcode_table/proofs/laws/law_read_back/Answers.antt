use Rattle.wasm_types.specs.Types.{type_byte, kind_byte, mutable_byte}
use Rattle.wasm_types.specs.Sections.{export_byte}
use Rattle.wasm_types.specs.Plain.{num_opcode, load_opcode, store_opcode}
use Rattle.opcode_table.proofs.TableLemmas.{type-one, kind-one, mutable-one, export-one, load-one, store-one, num-one, read-back, made-back}
use Rattle.opcode_table.proofs.laws.law_read_back.Goals as goal

pub returns-clause-types : goal.returns-clause-types
returns-clause-types c = read-back type_byte type-one

pub returns-clause-kinds : goal.returns-clause-kinds
returns-clause-kinds c = read-back kind_byte kind-one

pub returns-clause-mutabilities : goal.returns-clause-mutabilities
returns-clause-mutabilities c = read-back mutable_byte mutable-one

pub returns-clause-exports : goal.returns-clause-exports
returns-clause-exports c = read-back export_byte export-one

pub returns-clause-operations : goal.returns-clause-operations
returns-clause-operations c = read-back num_opcode num-one

pub returns-clause-loads : goal.returns-clause-loads
returns-clause-loads c = read-back load_opcode load-one

pub returns-clause-stores : goal.returns-clause-stores
returns-clause-stores c = read-back store_opcode store-one

pub returns-clause-instructions : goal.returns-clause-instructions
returns-clause-instructions c = made-back
