-- Instructions that hold no others: an opcode, and what follows it (WebAssembly Core Specification 1.0, section 5.4).
use Rattle.std.specs.Prelude.{◌≡◌, ◌==◌, ◌&&◌, ◌||◌, not, nat_lt, ℕ, ◌+◌, ◌*◌, ◌<◌, Bool, if◌then◌else◌, List, [], ◌∷◌}
use Rattle.wasm_types.specs.declared.ops.Width.TheVariants.{W32, W64}
use Rattle.wasm_types.specs.declared.ops.UnOp.{UnOp}
use Rattle.wasm_types.specs.declared.ops.UnOp.TheVariants as un
use Rattle.wasm_types.specs.declared.ops.RelOp.{RelOp}
use Rattle.wasm_types.specs.declared.ops.RelOp.TheVariants as rel
use Rattle.wasm_types.specs.declared.ops.BinOp.{BinOp}
use Rattle.wasm_types.specs.declared.ops.BinOp.TheVariants as bin
use Rattle.wasm_types.specs.declared.ops.LowOp.{LowOp}
use Rattle.wasm_types.specs.declared.ops.LowOp.TheVariants as low
use Rattle.wasm_types.specs.declared.ops.NumOp.{NumOp}
use Rattle.wasm_types.specs.declared.ops.NumOp.TheVariants as num
use Rattle.wasm_types.specs.declared.ops.LoadOp.{LoadOp}
use Rattle.wasm_types.specs.declared.ops.LoadOp.TheVariants as load
use Rattle.wasm_types.specs.declared.ops.StoreOp.{StoreOp}
use Rattle.wasm_types.specs.declared.ops.StoreOp.TheVariants as store
use Rattle.wasm_types.specs.declared.instr.MemArg.{MemArg}
use Rattle.wasm_types.specs.declared.instr.FloatInstr.{FloatInstr}
use Rattle.wasm_types.specs.declared.instr.FloatInstr.TheVariants as float
use Rattle.wasm_types.specs.declared.instr.Instr.{Instr, Unreachable, Nop, Drop, Select, Return, Block', Loop', If', Br, BrIf, BrTable, Call, CallIndirect, LocalGet, LocalSet, LocalTee, GlobalGet, GlobalSet, Load, Store, MemorySize, MemoryGrow, I32Const, I64Const, Num, Float, MemoryCopy, MemoryFill}
use Rattle.wasm_types.specs.Numbers.{SpellsU32, SpellsS32, SpellsS64}
use Rattle.wasm_types.specs.Parts.{Then, Behind, Both, Counted}

-- ---- opcodes

-- the comparisons, in the order of their opcodes
abbrev pub rel_place : RelOp → ℕ
rel_place rel.Eq = 0
rel_place rel.Ne = 1
rel_place rel.LtS = 2
rel_place rel.LtU = 3
rel_place rel.GtS = 4
rel_place rel.GtU = 5
rel_place rel.LeS = 6
rel_place rel.LeU = 7
rel_place rel.GeS = 8
rel_place rel.GeU = 9

abbrev pub un_place : UnOp → ℕ
un_place un.Clz = 0
un_place un.Ctz = 1
un_place un.Popcnt = 2

abbrev pub bin_place : BinOp → ℕ
bin_place bin.Add = 0
bin_place bin.Sub = 1
bin_place bin.Mul = 2
bin_place bin.DivS = 3
bin_place bin.DivU = 4
bin_place bin.RemS = 5
bin_place bin.RemU = 6
bin_place bin.And = 7
bin_place bin.Or = 8
bin_place bin.Xor = 9
bin_place bin.Shl = 10
bin_place bin.ShrS = 11
bin_place bin.ShrU = 12
bin_place bin.Rotl = 13
bin_place bin.Rotr = 14

abbrev pub low_opcode : LowOp → ℕ
low_opcode low.I32S8 = 0xC0
low_opcode low.I32S16 = 0xC1
low_opcode low.I64S8 = 0xC2
low_opcode low.I64S16 = 0xC3
low_opcode low.I64S32 = 0xC4

abbrev pub num_opcode : NumOp → ℕ
num_opcode (num.Eqz W32) = 0x45
num_opcode (num.Rel W32 r) = 0x46 + rel_place r
num_opcode (num.Eqz W64) = 0x50
num_opcode (num.Rel W64 r) = 0x51 + rel_place r
num_opcode (num.Un W32 u) = 0x67 + un_place u
num_opcode (num.Bin W32 b) = 0x6A + bin_place b
num_opcode (num.Un W64 u) = 0x79 + un_place u
num_opcode (num.Bin W64 b) = 0x7C + bin_place b
num_opcode num.Wrap = 0xA7
num_opcode num.ExtendS = 0xAC
num_opcode num.ExtendU = 0xAD
num_opcode (num.Low op) = low_opcode op

abbrev pub load_opcode : LoadOp → ℕ
load_opcode load.I32 = 0x28
load_opcode load.I64 = 0x29
load_opcode load.I32S8 = 0x2C
load_opcode load.I32U8 = 0x2D
load_opcode load.I32S16 = 0x2E
load_opcode load.I32U16 = 0x2F
load_opcode load.I64S8 = 0x30
load_opcode load.I64U8 = 0x31
load_opcode load.I64S16 = 0x32
load_opcode load.I64U16 = 0x33
load_opcode load.I64S32 = 0x34
load_opcode load.I64U32 = 0x35

abbrev pub store_opcode : StoreOp → ℕ
store_opcode store.I32 = 0x36
store_opcode store.I64 = 0x37
store_opcode store.I32B8 = 0x3A
store_opcode store.I32B16 = 0x3B
store_opcode store.I64B8 = 0x3C
store_opcode store.I64B16 = 0x3D
store_opcode store.I64B32 = 0x3E

abbrev pub float_opcode : FloatInstr → ℕ
float_opcode (float.Load byte m) = byte
float_opcode (float.Store byte m) = byte
float_opcode (float.Const32 n) = 0x43
float_opcode (float.Const64 n) = 0x44
float_opcode (float.Plain byte) = byte

abbrev pub opcode : Instr → ℕ
opcode Unreachable = 0x00
opcode Nop = 0x01
opcode (Block' kind m inner) = 0x02
opcode (Loop' kind m inner) = 0x03
opcode (If' kind m first n second) = 0x04
opcode (Br label) = 0x0C
opcode (BrIf label) = 0x0D
opcode (BrTable some label) = 0x0E
opcode Return = 0x0F
opcode (Call func) = 0x10
opcode (CallIndirect type) = 0x11
opcode Drop = 0x1A
opcode Select = 0x1B
opcode (LocalGet x) = 0x20
opcode (LocalSet x) = 0x21
opcode (LocalTee x) = 0x22
opcode (GlobalGet x) = 0x23
opcode (GlobalSet x) = 0x24
opcode (Load op m) = load_opcode op
opcode (Store op m) = store_opcode op
opcode MemorySize = 0x3F
opcode MemoryGrow = 0x40
opcode (I32Const n) = 0x41
opcode (I64Const n) = 0x42
opcode (Num op) = num_opcode op
opcode (Float f) = float_opcode f
opcode MemoryCopy = 0xFC
opcode MemoryFill = 0xFC

-- ---- what follows an opcode

pub data Immediates : Type 0 where
  nothing : Immediates
  number : ℕ → Immediates
  labels : List ℕ → ℕ → Immediates
  signature : ℕ → Immediates
  address : ℕ → ℕ → Immediates
  memory : Immediates
  signed_32 : ℕ → Immediates
  signed_64 : ℕ → Immediates
  raw_32 : ℕ → Immediates
  raw_64 : ℕ → Immediates
  bulk : ℕ → Immediates
  never : Immediates

-- the byte is in the range
abbrev pub within : ℕ → ℕ → ℕ → Bool
within low high byte = not (nat_lt byte low) && not (nat_lt high byte)

-- the float opcodes that nothing follows
abbrev pub float_plain : ℕ → Bool
float_plain byte = within 0x5B 0x66 byte || (within 0x8B 0xA6 byte || (within 0xA8 0xAB byte || within 0xAE 0xBF byte))

abbrev pub float_immediates : FloatInstr → Immediates
float_immediates (float.Load byte m) = if (byte == 0x2A) || (byte == 0x2B) then address m.align m.offset else never
float_immediates (float.Store byte m) = if (byte == 0x38) || (byte == 0x39) then address m.align m.offset else never
float_immediates (float.Const32 n) = raw_32 n
float_immediates (float.Const64 n) = raw_64 n
float_immediates (float.Plain byte) = if float_plain byte then nothing else never

abbrev pub immediates : Instr → Immediates
immediates Unreachable = nothing
immediates Nop = nothing
immediates (Block' kind m inner) = never
immediates (Loop' kind m inner) = never
immediates (If' kind m first n second) = never
immediates (Br label) = number label
immediates (BrIf label) = number label
immediates (BrTable some label) = labels some label
immediates Return = nothing
immediates (Call func) = number func
immediates (CallIndirect type) = signature type
immediates Drop = nothing
immediates Select = nothing
immediates (LocalGet x) = number x
immediates (LocalSet x) = number x
immediates (LocalTee x) = number x
immediates (GlobalGet x) = number x
immediates (GlobalSet x) = number x
immediates (Load op m) = address m.align m.offset
immediates (Store op m) = address m.align m.offset
immediates MemorySize = memory
immediates MemoryGrow = memory
immediates (I32Const n) = signed_32 n
immediates (I64Const n) = signed_64 n
immediates (Num op) = nothing
immediates (Float f) = float_immediates f
immediates MemoryCopy = bulk 10
immediates MemoryFill = bulk 11

-- what follows the number that tells a bulk instruction: a zero byte for each memory that it names, two for memory.copy
abbrev pub memories_of : ℕ → List ℕ
memories_of n = if n == 10 then 0x00 ∷ 0x00 ∷ [] else 0x00 ∷ []

abbrev pub SpellsBulk : List ℕ → ℕ → Type 0
SpellsBulk text n = Then (λ t. SpellsU32 t n) (λ t. t ≡ memories_of n) text

-- four bytes, the least first
abbrev pub SpellsRaw32 : List ℕ → ℕ → Type 0
SpellsRaw32 (a ∷ b ∷ c ∷ d ∷ []) n = (a < 256) × (b < 256) × (c < 256) × (d < 256) × (n ≡ a + 256 * b + 65536 * c + 16777216 * d)
SpellsRaw32 _ n = ⊥

-- eight bytes, the least first
abbrev pub SpellsRaw64 : List ℕ → ℕ → Type 0
SpellsRaw64 text n = (low : ℕ) × (high : ℕ) × Both SpellsRaw32 SpellsRaw32 text (low, high) × (n ≡ low + 4294967296 * high)

abbrev pub SpellsImmediates : List ℕ → Immediates → Type 0
SpellsImmediates text nothing = text ≡ []
SpellsImmediates text (number n) = SpellsU32 text n
SpellsImmediates text (labels some label) = Both (Counted SpellsU32) SpellsU32 text (some, label)
SpellsImmediates text (signature type) = Both SpellsU32 SpellsU32 text (type, 0)
SpellsImmediates text (address align offset) = Both SpellsU32 SpellsU32 text (align, offset)
SpellsImmediates text memory = text ≡ 0x00 ∷ []
SpellsImmediates text (signed_32 n) = SpellsS32 text n
SpellsImmediates text (signed_64 n) = SpellsS64 text n
SpellsImmediates text (raw_32 n) = SpellsRaw32 text n
SpellsImmediates text (raw_64 n) = SpellsRaw64 text n
SpellsImmediates text (bulk n) = SpellsBulk text n
SpellsImmediates text never = ⊥

-- an instruction that holds no others
abbrev pub SpellsPlain : List ℕ → Instr → Type 0
SpellsPlain text i = Behind (opcode i) (λ rest. SpellsImmediates rest (immediates i)) text

-- ---- the kinds of text that follow, each for itself

abbrev pub SpellsAddress : List ℕ → MemArg → Type 0
SpellsAddress text m = Both SpellsU32 SpellsU32 text (m.align, m.offset)

abbrev pub SpellsSignature : List ℕ → ℕ → Type 0
SpellsSignature text type = Both SpellsU32 SpellsU32 text (type, 0)
