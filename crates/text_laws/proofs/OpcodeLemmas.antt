-- The table of opcodes, backwards: a text spells at most one plain instruction.
use Rattle.std.proofs.Common.{◌≡◌, ◌==◌, ◌||◌, ℕ, ◌⊎◌, inl, inr, Bool, true, false, List, [], ◌∷◌, ◌++◌, refl, sym, ap, subst, ◌∙◌, arith}
use Rattle.std.specs.Prelude.{nat_lt, if◌then◌else◌}
use Rattle.wasm_types.specs.declared.ops.Width.TheVariants.{W32, W64}
use Rattle.wasm_types.specs.declared.ops.UnOp.TheVariants as un
use Rattle.wasm_types.specs.declared.ops.RelOp.TheVariants as rel
use Rattle.wasm_types.specs.declared.ops.BinOp.TheVariants as bin
use Rattle.wasm_types.specs.declared.ops.LowOp.TheVariants as low
use Rattle.wasm_types.specs.declared.ops.NumOp.{NumOp}
use Rattle.wasm_types.specs.declared.ops.NumOp.TheVariants as num
use Rattle.wasm_types.specs.declared.ops.LoadOp.{LoadOp}
use Rattle.wasm_types.specs.declared.ops.LoadOp.TheVariants as load
use Rattle.wasm_types.specs.declared.ops.StoreOp.{StoreOp}
use Rattle.wasm_types.specs.declared.ops.StoreOp.TheVariants as store
use Rattle.wasm_types.specs.declared.instr.MemArg.{MemArg}
use Rattle.wasm_types.specs.declared.instr.FloatInstr.{FloatInstr}
use Rattle.wasm_types.specs.declared.instr.FloatInstr.TheVariants as float
use Rattle.wasm_types.specs.declared.instr.Instr.{Instr, Unreachable, Nop, Drop, Select, Return, Block', Loop', If', Br, BrIf, BrTable, Call, CallIndirect, LocalGet, LocalSet, LocalTee, GlobalGet, GlobalSet, Load, Store, MemorySize, MemoryGrow, I32Const, I64Const, Num, Float, MemoryCopy, MemoryFill}
use Rattle.std.proofs.lemmas.Bool.Decides.{nat_tests}
use Rattle.wasm_types.specs.Numbers.{SpellsU32}
use Rattle.text_laws.proofs.NumberLemmas.{one_signed}
use Rattle.wasm_types.specs.Parts.{Counted}
use Rattle.text_laws.proofs.Once.{IsOnce, once_u32, once_then, once_both, once_counted}
use Rattle.wasm_types.specs.Plain.{SpellsRaw32, SpellsRaw64, Immediates, nothing, number, labels, signature, address, memory, signed_32, signed_64, raw_32, raw_64, bulk, never, memories_of, within, float_plain, num_opcode, opcode, float_immediates, immediates, SpellsBulk, SpellsImmediates, SpellsPlain}

-- ---- from an opcode and what follows it to the instruction

-- what stands beside a number in a table
abbrev found_row : {A : Type 0} → ℕ → A → List (ℕ × A) → A
found_row n other [] = other
found_row n other (r ∷ rs) = if n == r.0 then r.1 else found_row n other rs

abbrev num_rows : List (ℕ × NumOp)
num_rows =
    (0x45, num.Eqz W32) ∷ (0x46, num.Rel W32 rel.Eq) ∷ (0x47, num.Rel W32 rel.Ne) ∷ (0x48, num.Rel W32 rel.LtS) ∷ (0x49, num.Rel W32 rel.LtU) ∷
    (0x4A, num.Rel W32 rel.GtS) ∷ (0x4B, num.Rel W32 rel.GtU) ∷ (0x4C, num.Rel W32 rel.LeS) ∷ (0x4D, num.Rel W32 rel.LeU) ∷
    (0x4E, num.Rel W32 rel.GeS) ∷ (0x4F, num.Rel W32 rel.GeU) ∷ (0x50, num.Eqz W64) ∷ (0x51, num.Rel W64 rel.Eq) ∷ (0x52, num.Rel W64 rel.Ne) ∷
    (0x53, num.Rel W64 rel.LtS) ∷ (0x54, num.Rel W64 rel.LtU) ∷ (0x55, num.Rel W64 rel.GtS) ∷ (0x56, num.Rel W64 rel.GtU) ∷
    (0x57, num.Rel W64 rel.LeS) ∷ (0x58, num.Rel W64 rel.LeU) ∷ (0x59, num.Rel W64 rel.GeS) ∷ (0x5A, num.Rel W64 rel.GeU) ∷
    (0x67, num.Un W32 un.Clz) ∷ (0x68, num.Un W32 un.Ctz) ∷ (0x69, num.Un W32 un.Popcnt) ∷ (0x6A, num.Bin W32 bin.Add) ∷
    (0x6B, num.Bin W32 bin.Sub) ∷ (0x6C, num.Bin W32 bin.Mul) ∷ (0x6D, num.Bin W32 bin.DivS) ∷ (0x6E, num.Bin W32 bin.DivU) ∷
    (0x6F, num.Bin W32 bin.RemS) ∷ (0x70, num.Bin W32 bin.RemU) ∷ (0x71, num.Bin W32 bin.And) ∷ (0x72, num.Bin W32 bin.Or) ∷
    (0x73, num.Bin W32 bin.Xor) ∷ (0x74, num.Bin W32 bin.Shl) ∷ (0x75, num.Bin W32 bin.ShrS) ∷ (0x76, num.Bin W32 bin.ShrU) ∷
    (0x77, num.Bin W32 bin.Rotl) ∷ (0x78, num.Bin W32 bin.Rotr) ∷ (0x79, num.Un W64 un.Clz) ∷ (0x7A, num.Un W64 un.Ctz) ∷
    (0x7B, num.Un W64 un.Popcnt) ∷ (0x7C, num.Bin W64 bin.Add) ∷ (0x7D, num.Bin W64 bin.Sub) ∷ (0x7E, num.Bin W64 bin.Mul) ∷
    (0x7F, num.Bin W64 bin.DivS) ∷ (0x80, num.Bin W64 bin.DivU) ∷ (0x81, num.Bin W64 bin.RemS) ∷ (0x82, num.Bin W64 bin.RemU) ∷
    (0x83, num.Bin W64 bin.And) ∷ (0x84, num.Bin W64 bin.Or) ∷ (0x85, num.Bin W64 bin.Xor) ∷ (0x86, num.Bin W64 bin.Shl) ∷
    (0x87, num.Bin W64 bin.ShrS) ∷ (0x88, num.Bin W64 bin.ShrU) ∷ (0x89, num.Bin W64 bin.Rotl) ∷ (0x8A, num.Bin W64 bin.Rotr) ∷ (0xA7, num.Wrap) ∷
    (0xAC, num.ExtendS) ∷ (0xAD, num.ExtendU) ∷ (0xC0, num.Low low.I32S8) ∷ (0xC1, num.Low low.I32S16) ∷ (0xC2, num.Low low.I64S8) ∷
    (0xC3, num.Low low.I64S16) ∷ (0xC4, num.Low low.I64S32) ∷ []

abbrev pub num_of : ℕ → NumOp
num_of n = found_row n num.Wrap num_rows

abbrev load_rows : List (ℕ × LoadOp)
load_rows =
    (0x28, load.I32) ∷ (0x29, load.I64) ∷ (0x2C, load.I32S8) ∷ (0x2D, load.I32U8) ∷ (0x2E, load.I32S16) ∷ (0x2F, load.I32U16) ∷ (0x30, load.I64S8) ∷
    (0x31, load.I64U8) ∷ (0x32, load.I64S16) ∷ (0x33, load.I64U16) ∷ (0x34, load.I64S32) ∷
    (0x35, load.I64U32) ∷ []

abbrev pub load_of : ℕ → LoadOp
load_of n = found_row n load.I32 load_rows

abbrev store_rows : List (ℕ × StoreOp)
store_rows =
    (0x36, store.I32) ∷ (0x37, store.I64) ∷ (0x3A, store.I32B8) ∷ (0x3B, store.I32B16) ∷ (0x3C, store.I64B8) ∷ (0x3D, store.I64B16) ∷
    (0x3E, store.I64B32) ∷ []

abbrev pub store_of : ℕ → StoreOp
store_of n = found_row n store.I32 store_rows

abbrev pub address_of : ℕ → MemArg → Instr
address_of n m =
    if (n == 0x2A) || (n == 0x2B) then Float (float.Load n m) else
    (if (n == 0x38) || (n == 0x39) then Float (float.Store n m) else (if nat_lt n 0x36 then Load (load_of n) m else Store (store_of n) m))

abbrev pub bare_of : ℕ → Instr
bare_of n =
    if float_plain n then Float (float.Plain n) else
    found_row n (Num (num_of n)) ((0x00, Unreachable) ∷ (0x01, Nop) ∷ (0x0F, Return) ∷ (0x1A, Drop) ∷ (0x1B, Select) ∷ [])

abbrev pub make : ℕ → Immediates → Instr
make n nothing = bare_of n
make n (number x) =
    found_row n Unreachable ((0x0C, Br x) ∷ (0x0D, BrIf x) ∷ (0x10, Call x) ∷ (0x20, LocalGet x) ∷ (0x21, LocalSet x) ∷ (0x22, LocalTee x) ∷
    (0x23, GlobalGet x) ∷ (0x24, GlobalSet x) ∷ [])
make n (labels some label) = BrTable some label
make n (signature type) = CallIndirect type
make n (address a o) = address_of n (record { align = a; offset = o })
make n memory = if n == 0x3F then MemorySize else MemoryGrow
make n (signed_32 v) = I32Const v
make n (signed_64 v) = I64Const v
make n (raw_32 v) = Float (float.Const32 v)
make n (raw_64 v) = Float (float.Const64 v)
make n (bulk v) = if v == 10 then MemoryCopy else MemoryFill
make n never = Unreachable

-- the opcodes that a number follows, of a label, a function, a local or a global
abbrev is_number : ℕ → Bool
is_number n = within 0x0C 0x0D n || ((n == 0x10) || within 0x20 0x24 n)

-- the loads and stores
abbrev is_address : ℕ → Bool
is_address n = within 0x28 0x3E n

-- which kind of text follows an opcode
abbrev pub shape : Immediates → ℕ
shape nothing = 0
shape (number x) = 1
shape (labels some label) = 2
shape (signature type) = 3
shape (address a o) = 4
shape memory = 5
shape (signed_32 v) = 6
shape (signed_64 v) = 7
shape (raw_32 v) = 8
shape (raw_64 v) = 9
shape never = 10
shape (bulk v) = 11

abbrev pub is_bare : ℕ → Bool
is_bare n = nat_lt n 0x02 || ((n == 0x0F) || (within 0x1A 0x1B n || within 0x45 0xC4 n))

abbrev pub shape_of : ℕ → ℕ
shape_of n =
    if is_bare n then 0 else (if is_number n then 1 else (if is_address n then 4 else
    found_row n 10 ((0x0E, 2) ∷ (0x11, 3) ∷ (0x3F, 5) ∷ (0x40, 5) ∷ (0x41, 6) ∷ (0x42, 7) ∷ (0x43, 8) ∷ (0x44, 9) ∷ (0xFC, 11) ∷ [])))

-- the instruction that a plain text spells is told by its opcode and what follows
abbrev pub Told : Instr → Type 0
Told i = (make (opcode i) (immediates i) ≡ i) × (shape (immediates i) ≡ shape_of (opcode i))

abbrev ToldNum : NumOp → Type 0
ToldNum op = (bare_of (num_opcode op) ≡ Num op) × (0 ≡ shape_of (num_opcode op))

told_num : (op : NumOp) → ToldNum op
told_num (num.Eqz W32) = (refl, refl)
told_num (num.Rel W32 rel.Eq) = (refl, refl)
told_num (num.Rel W32 rel.Ne) = (refl, refl)
told_num (num.Rel W32 rel.LtS) = (refl, refl)
told_num (num.Rel W32 rel.LtU) = (refl, refl)
told_num (num.Rel W32 rel.GtS) = (refl, refl)
told_num (num.Rel W32 rel.GtU) = (refl, refl)
told_num (num.Rel W32 rel.LeS) = (refl, refl)
told_num (num.Rel W32 rel.LeU) = (refl, refl)
told_num (num.Rel W32 rel.GeS) = (refl, refl)
told_num (num.Rel W32 rel.GeU) = (refl, refl)
told_num (num.Eqz W64) = (refl, refl)
told_num (num.Rel W64 rel.Eq) = (refl, refl)
told_num (num.Rel W64 rel.Ne) = (refl, refl)
told_num (num.Rel W64 rel.LtS) = (refl, refl)
told_num (num.Rel W64 rel.LtU) = (refl, refl)
told_num (num.Rel W64 rel.GtS) = (refl, refl)
told_num (num.Rel W64 rel.GtU) = (refl, refl)
told_num (num.Rel W64 rel.LeS) = (refl, refl)
told_num (num.Rel W64 rel.LeU) = (refl, refl)
told_num (num.Rel W64 rel.GeS) = (refl, refl)
told_num (num.Rel W64 rel.GeU) = (refl, refl)
told_num (num.Un W32 un.Clz) = (refl, refl)
told_num (num.Un W32 un.Ctz) = (refl, refl)
told_num (num.Un W32 un.Popcnt) = (refl, refl)
told_num (num.Bin W32 bin.Add) = (refl, refl)
told_num (num.Bin W32 bin.Sub) = (refl, refl)
told_num (num.Bin W32 bin.Mul) = (refl, refl)
told_num (num.Bin W32 bin.DivS) = (refl, refl)
told_num (num.Bin W32 bin.DivU) = (refl, refl)
told_num (num.Bin W32 bin.RemS) = (refl, refl)
told_num (num.Bin W32 bin.RemU) = (refl, refl)
told_num (num.Bin W32 bin.And) = (refl, refl)
told_num (num.Bin W32 bin.Or) = (refl, refl)
told_num (num.Bin W32 bin.Xor) = (refl, refl)
told_num (num.Bin W32 bin.Shl) = (refl, refl)
told_num (num.Bin W32 bin.ShrS) = (refl, refl)
told_num (num.Bin W32 bin.ShrU) = (refl, refl)
told_num (num.Bin W32 bin.Rotl) = (refl, refl)
told_num (num.Bin W32 bin.Rotr) = (refl, refl)
told_num (num.Un W64 un.Clz) = (refl, refl)
told_num (num.Un W64 un.Ctz) = (refl, refl)
told_num (num.Un W64 un.Popcnt) = (refl, refl)
told_num (num.Bin W64 bin.Add) = (refl, refl)
told_num (num.Bin W64 bin.Sub) = (refl, refl)
told_num (num.Bin W64 bin.Mul) = (refl, refl)
told_num (num.Bin W64 bin.DivS) = (refl, refl)
told_num (num.Bin W64 bin.DivU) = (refl, refl)
told_num (num.Bin W64 bin.RemS) = (refl, refl)
told_num (num.Bin W64 bin.RemU) = (refl, refl)
told_num (num.Bin W64 bin.And) = (refl, refl)
told_num (num.Bin W64 bin.Or) = (refl, refl)
told_num (num.Bin W64 bin.Xor) = (refl, refl)
told_num (num.Bin W64 bin.Shl) = (refl, refl)
told_num (num.Bin W64 bin.ShrS) = (refl, refl)
told_num (num.Bin W64 bin.ShrU) = (refl, refl)
told_num (num.Bin W64 bin.Rotl) = (refl, refl)
told_num (num.Bin W64 bin.Rotr) = (refl, refl)
told_num num.Wrap = (refl, refl)
told_num num.ExtendS = (refl, refl)
told_num num.ExtendU = (refl, refl)
told_num (num.Low low.I32S8) = (refl, refl)
told_num (num.Low low.I32S16) = (refl, refl)
told_num (num.Low low.I64S8) = (refl, refl)
told_num (num.Low low.I64S16) = (refl, refl)
told_num (num.Low low.I64S32) = (refl, refl)

told_load : (op : LoadOp) (m : MemArg) → Told (Load op m)
told_load load.I32 m = (refl, refl)
told_load load.I64 m = (refl, refl)
told_load load.I32S8 m = (refl, refl)
told_load load.I32U8 m = (refl, refl)
told_load load.I32S16 m = (refl, refl)
told_load load.I32U16 m = (refl, refl)
told_load load.I64S8 m = (refl, refl)
told_load load.I64U8 m = (refl, refl)
told_load load.I64S16 m = (refl, refl)
told_load load.I64U16 m = (refl, refl)
told_load load.I64S32 m = (refl, refl)
told_load load.I64U32 m = (refl, refl)

told_store : (op : StoreOp) (m : MemArg) → Told (Store op m)
told_store store.I32 m = (refl, refl)
told_store store.I64 m = (refl, refl)
told_store store.I32B8 m = (refl, refl)
told_store store.I32B16 m = (refl, refl)
told_store store.I64B8 m = (refl, refl)
told_store store.I64B16 m = (refl, refl)
told_store store.I64B32 m = (refl, refl)

either_byte : (n a b : ℕ) → ((n == a) || (n == b)) ≡ true → (n ≡ a) ⊎ (n ≡ b)
either_byte n a b h = grind (arith, nat_tests)

float_is_bare : (n : ℕ) → float_plain n ≡ true → is_bare n ≡ true
float_is_bare n h = grind (arith, nat_tests)

told_float_load : (n : ℕ) (m : MemArg) → (n ≡ 0x2A) ⊎ (n ≡ 0x2B) → Told (Float (float.Load n m))
told_float_load n m (inl e) = subst (λ (k : ℕ). Told (Float (float.Load k m))) (sym e) (refl, refl)
told_float_load n m (inr e) = subst (λ (k : ℕ). Told (Float (float.Load k m))) (sym e) (refl, refl)

told_float_store : (n : ℕ) (m : MemArg) → (n ≡ 0x38) ⊎ (n ≡ 0x39) → Told (Float (float.Store n m))
told_float_store n m (inl e) = subst (λ (k : ℕ). Told (Float (float.Store k m))) (sym e) (refl, refl)
told_float_store n m (inr e) = subst (λ (k : ℕ). Told (Float (float.Store k m))) (sym e) (refl, refl)

if_spelled : (b : Bool) (t : Immediates) (text : List ℕ) → SpellsImmediates text (if b then t else never) → b ≡ true
if_spelled true t text p = refl
if_spelled false t text p = absurd p

told_float : (f : FloatInstr) (text : List ℕ) → SpellsImmediates text (float_immediates f) → Told (Float f)
told_float (float.Load n m) text p = told_float_load n m (either_byte n 0x2A 0x2B (if_spelled _ _ _ p))
told_float (float.Store n m) text p = told_float_store n m (either_byte n 0x38 0x39 (if_spelled _ _ _ p))
told_float (float.Const32 v) text p = (refl, refl)
told_float (float.Const64 v) text p = (refl, refl)
told_float (float.Plain n) text p =
    let e : float_plain n ≡ true = if_spelled (float_plain n) nothing text p in
    let b : is_bare n ≡ true = float_is_bare n e in
    (rw (e, e) refl, rw (e, b) refl)

pub told : (i : Instr) (text : List ℕ) → SpellsImmediates text (immediates i) → Told i
told Unreachable text p = (refl, refl)
told Nop text p = (refl, refl)
told (Block' kind m inner) text p = absurd p
told (Loop' kind m inner) text p = absurd p
told (If' kind m first n second) text p = absurd p
told (Br x) text p = (refl, refl)
told (BrIf x) text p = (refl, refl)
told (BrTable some label) text p = (refl, refl)
told Return text p = (refl, refl)
told (Call x) text p = (refl, refl)
told (CallIndirect x) text p = (refl, refl)
told Drop text p = (refl, refl)
told Select text p = (refl, refl)
told (LocalGet x) text p = (refl, refl)
told (LocalSet x) text p = (refl, refl)
told (LocalTee x) text p = (refl, refl)
told (GlobalGet x) text p = (refl, refl)
told (GlobalSet x) text p = (refl, refl)
told (Load op m) text p = told_load op m
told (Store op m) text p = told_store op m
told MemorySize text p = (refl, refl)
told MemoryGrow text p = (refl, refl)
told (I32Const v) text p = (refl, refl)
told (I64Const v) text p = (refl, refl)
told (Num op) text p = told_num op
told (Float f) text p = told_float f text p
told MemoryCopy text p = (refl, refl)
told MemoryFill text p = (refl, refl)

-- ---- what follows an opcode spells one thing, once its kind is known

pub once_raw32 : IsOnce SpellsRaw32
once_raw32 (a ∷ b ∷ c ∷ d ∷ []) (a2 ∷ b2 ∷ c2 ∷ d2 ∷ []) x y m n p q e =
    let h : a ≡ a2 = cc in let i : b ≡ b2 = cc in let j : c ≡ c2 = cc in let k : d ≡ d2 = cc in
    (cc, omega (arith, p.4, q.4))
once_raw32 (a ∷ b ∷ c ∷ d ∷ []) _ x y m n p q e = absurd q
once_raw32 _ b x y m n p q e = absurd p

pub once_raw64 : IsOnce SpellsRaw64
once_raw64 a b x y m n p q e =
    let r = once_both SpellsRaw32 SpellsRaw32 once_raw32 once_raw32 a b x y (p.0, p.1) (q.0, q.1) p.2 q.2 e in
    let low : p.0 ≡ q.0 = ap (λ (v : ℕ × ℕ). v.0) r.1 in
    let high : p.1 ≡ q.1 = ap (λ (v : ℕ × ℕ). v.1) r.1 in
    (r.0, omega (arith, p.3, q.3, low, high))

pub once_bulk : IsOnce SpellsBulk
once_bulk a b x y m n p q e =
    let Zeros : List ℕ → ℕ → Type 0 = λ t k. t ≡ memories_of k in
    let r = once_then SpellsU32 Zeros a b x y m n m n once_u32 (λ c d same u v h. (u ∙ ap memories_of same ∙ sym v, same)) p q e in
    (r.0, r.1)

one_immediates : (s t : Immediates) (a b x y : List ℕ) → shape s ≡ shape t → SpellsImmediates a s → SpellsImmediates b t → a ++ x ≡ b ++ y → (a ≡ b) × (s ≡ t)
one_immediates nothing nothing a b x y k p q e = (p ∙ sym q, refl)
one_immediates (number m) (number n) a b x y k p q e = let r = once_u32 a b x y m n p q e in (r.0, ap number r.1)
one_immediates (labels s l) (labels t m) a b x y k p q e =
    let r = once_both (Counted SpellsU32) SpellsU32 (once_counted SpellsU32 once_u32) once_u32 a b x y (s, l) (t, m) p q e in
    (r.0, ap (λ (v : List ℕ × ℕ). labels v.0 v.1) r.1)
one_immediates (signature s) (signature t) a b x y k p q e =
    let r = once_both SpellsU32 SpellsU32 once_u32 once_u32 a b x y (s, 0) (t, 0) p q e in (r.0, ap (λ (v : ℕ × ℕ). signature v.0) r.1)
one_immediates (address s l) (address t m) a b x y k p q e =
    let r = once_both SpellsU32 SpellsU32 once_u32 once_u32 a b x y (s, l) (t, m) p q e in (r.0, ap (λ (v : ℕ × ℕ). address v.0 v.1) r.1)
one_immediates memory memory a b x y k p q e = (p ∙ sym q, refl)
one_immediates (signed_32 m) (signed_32 n) a b x y k p q e = let r = one_signed 2147483648 a b x y m n p q e in (r.0, ap signed_32 r.1)
one_immediates (signed_64 m) (signed_64 n) a b x y k p q e = let r = one_signed 9223372036854775808 a b x y m n p q e in (r.0, ap signed_64 r.1)
one_immediates (raw_32 m) (raw_32 n) a b x y k p q e = let r = once_raw32 a b x y m n p q e in (r.0, ap raw_32 r.1)
one_immediates (raw_64 m) (raw_64 n) a b x y k p q e = let r = once_raw64 a b x y m n p q e in (r.0, ap raw_64 r.1)
one_immediates (bulk m) (bulk n) a b x y k p q e = let r = once_bulk a b x y m n p q e in (r.0, ap bulk r.1)
one_immediates _ _ a b x y k p q e = absurd (omega (arith, k))

pub one_plain : IsOnce SpellsPlain
one_plain a b x y i j p q e =
    let h : opcode i ∷ (p.rest ++ x) ≡ opcode j ∷ (q.rest ++ y) = ap (λ (t : List ℕ). t ++ x) (sym p.parts) ∙ e ∙ ap (λ (t : List ℕ). t ++ y) q.parts in
    let op : opcode i ≡ opcode j = cc in
    let back : p.rest ++ x ≡ q.rest ++ y = cc in
    let f = told i p.rest p.spelled in
    let g = told j q.rest q.spelled in
    let r = one_immediates (immediates i) (immediates j) p.rest q.rest x y (f.1 ∙ ap shape_of op ∙ sym g.1) p.spelled q.spelled back in (
      p.parts ∙ ap (λ (c : ℕ). c ∷ p.rest) op ∙ ap (λ (t : List ℕ). opcode j ∷ t) r.0 ∙ sym q.parts,
      sym f.0 ∙ ap (λ (c : ℕ). make c (immediates i)) op ∙ ap (make (opcode j)) r.1 ∙ g.0,
    )
