-- What is read of a byte.
use Rattle.std.specs.Prelude.{◌≡◌, ◌≢◌, ℕ, List, Option, Some, None}
use Rattle.wasm_types.specs.declared.instr.Instr.{Instr}
use Rattle.wasm_types.specs.Plain.{Immediates, nothing, number, labels, signature, address, memory, signed_32, signed_64, raw_32, raw_64, bulk, never, opcode, immediates, SpellsImmediates}
use Rattle.opcode_table.specs.declared.instructions.Following.{Following}
use Rattle.opcode_table.specs.declared.instructions.Following.TheVariants as kind

-- what has the byte, or that nothing has
abbrev pub ReadsBack : {A : Type 0} → (A → ℕ) → ℕ → Option A → Type 0
ReadsBack {A} byte_of byte None = (v : A) → byte ≢ byte_of v
ReadsBack byte_of byte (Some v) = byte ≡ byte_of v

-- the instruction has this opcode, and this follows
abbrev pub IsMade : Instr → ℕ → Immediates → Type 0
IsMade i byte rest = (opcode i ≡ byte) × (immediates i ≡ rest)

-- the instruction that has the opcode, with this behind it, or that none has
abbrev pub Makes : ℕ → Immediates → Option Instr → Type 0
Makes byte rest None = (i : Instr) → IsMade i byte rest → ⊥
Makes byte rest (Some i) = IsMade i byte rest

-- which kind of text follows
abbrev pub kind_of : Immediates → Option Following
kind_of nothing = Some kind.Nothing
kind_of (number n) = Some kind.Number
kind_of (labels some label) = Some kind.Labels
kind_of (signature type) = Some kind.Signature
kind_of (address align offset) = Some kind.Address
kind_of memory = Some kind.Memory
kind_of (signed_32 n) = Some kind.Signed32
kind_of (signed_64 n) = Some kind.Signed64
kind_of (raw_32 n) = Some kind.Raw32
kind_of (raw_64 n) = Some kind.Raw64
kind_of (bulk n) = Some kind.Bulk
kind_of never = None

-- whichever instruction has the opcode, this kind of text follows
abbrev pub Follows : ℕ → Option Following → Type 0
Follows byte follows = (i : Instr) (text : List ℕ) → opcode i ≡ byte → SpellsImmediates text (immediates i) → kind_of (immediates i) ≡ follows
