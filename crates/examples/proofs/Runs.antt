-- Operations, runs and calls on values.
use Rattle.std.proofs.Common.{◌≡◌, ℕ, ℤ, pos, negsuc, List, [], ◌∷◌, map, true, Option, Some, None, nat_eq, refl}
use Rattle.wasm_types.specs.declared.module.Value.{Value}
use Rattle.wasm_types.specs.declared.module.Value.TheVariants.{I32, I64}
use Rattle.wasm_types.specs.declared.module.ValType.TheVariants as type
use Rattle.wasm_types.specs.declared.module.ImportKind.TheVariants as import
use Rattle.wasm_types.specs.declared.module.Name.{Name}
use Rattle.wasm_types.specs.declared.module.ExportKind.TheVariants as export
use Rattle.wasm_types.specs.declared.module.FuncType.{FuncType}
use Rattle.wasm_types.specs.declared.module.Body.{Body}
use Rattle.wasm_types.specs.declared.module.Module.{Module}
use Rattle.wasm_types.specs.declared.instr.Instr.{Instr}
use Rattle.wasm_types.specs.declared.instr.Instr as instr
use Rattle.wasm_types.specs.declared.instr.Instr.{more_of-Instr, end_of-Instr}
use Rattle.wasm_types.specs.declared.instr.MemArg.{MemArg}
use Rattle.wasm_types.specs.declared.ops.LoadOp.TheVariants as load
use Rattle.wasm_types.specs.declared.ops.StoreOp.TheVariants as store
use Rattle.wasm_types.specs.declared.ops.Width.TheVariants.{W32, W64}
use Rattle.wasm_types.specs.declared.ops.UnOp.TheVariants as un
use Rattle.wasm_types.specs.declared.ops.BinOp.{BinOp}
use Rattle.wasm_types.specs.declared.ops.BinOp.TheVariants as bin
use Rattle.wasm_types.specs.declared.ops.RelOp.{RelOp}
use Rattle.wasm_types.specs.declared.ops.RelOp.TheVariants as rel
use Rattle.wasm_types.specs.declared.ops.LowOp.TheVariants as low
use Rattle.wasm_types.specs.declared.ops.NumOp.{NumOp}
use Rattle.wasm_types.specs.declared.ops.NumOp.TheVariants as num
use Rattle.wasm_types.specs.declared.run.Reply.{Reply}
use Rattle.wasm_types.specs.declared.run.Reason.{Reason}
use Rattle.wasm_types.specs.declared.run.Reason.TheVariants.{DivideByZero, Overflow, MemoryBounds, NoEntry, EmptyEntry, WrongType, ReplyMissing, ReplyUnfit}
use Rattle.wasm_types.specs.declared.run.Event.TheVariants.{Take, Leave}
use Rattle.wasm_types.specs.Code.{onto}
use Rattle.wasm_meaning.specs.State.{State, Host, Script}
use Rattle.wasm_meaning.specs.Stops.{Stop, Trap, Spent}
use Rattle.wasm_meaning.specs.Operations.{Made, Makes, Traps, operate, number_type, value_in}
use Rattle.wasm_meaning.specs.Effects.{Answer, Gives, Stops}
use Rattle.wasm_meaning.specs.Invoke.{Invoked, invocation}

-- ---- operations

-- the value of an operation on numbers, the top first, or why it traps
data Got : Type 0 where
  Value_of : (v : Value) → Got
  Trap_of : (reason : Reason) → Got
  Nothing_of : Got

abbrev got_from : NumOp → Option Made → Got
got_from op (Some (Makes n)) = Value_of (value_in (number_type op) n)
got_from op (Some (Traps reason)) = Trap_of reason
got_from op None = Nothing_of

abbrev got : NumOp → List ℕ → Got
got op vs = got_from op (operate op vs)

-- 2 ^ 31 by -1
least : got (num.Bin W32 bin.DivS) (4294967295 ∷ 2147483648 ∷ []) ≡ Trap_of Overflow
least = refl

least_rest : got (num.Bin W32 bin.RemS) (4294967295 ∷ 2147483648 ∷ []) ≡ Value_of (I32 0)
least_rest = refl

least_unsigned : got (num.Bin W32 bin.DivU) (4294967295 ∷ 2147483648 ∷ []) ≡ Value_of (I32 0)
least_unsigned = refl

-- -7 by 2
quotient : got (num.Bin W32 bin.DivS) (2 ∷ 4294967289 ∷ []) ≡ Value_of (I32 4294967293)
quotient = refl

rest : got (num.Bin W32 bin.RemS) (2 ∷ 4294967289 ∷ []) ≡ Value_of (I32 4294967295)
rest = refl

-- the least number by another divisor
least_half : got (num.Bin W32 bin.DivS) (2 ∷ 2147483648 ∷ []) ≡ Value_of (I32 3221225472)
least_half = refl

least_64 : got (num.Bin W64 bin.DivS) (18446744073709551615 ∷ 9223372036854775808 ∷ []) ≡ Trap_of Overflow
least_64 = refl

by_nothing : got (num.Bin W64 bin.RemU) (0 ∷ 5 ∷ []) ≡ Trap_of DivideByZero
by_nothing = refl

difference : got (num.Bin W64 bin.Sub) (5 ∷ 3 ∷ []) ≡ Value_of (I64 18446744073709551614)
difference = refl

product : got (num.Bin W32 bin.Mul) (4294967295 ∷ 4294967295 ∷ []) ≡ Value_of (I32 1)
product = refl

-- a shift by 33 is one by 1
shifted : got (num.Bin W32 bin.ShrS) (33 ∷ 2147483648 ∷ []) ≡ Value_of (I32 3221225472)
shifted = refl

shifted_left : got (num.Bin W32 bin.Shl) (33 ∷ 2147483649 ∷ []) ≡ Value_of (I32 2)
shifted_left = refl

rotated : got (num.Bin W32 bin.Rotl) (1 ∷ 2147483649 ∷ []) ≡ Value_of (I32 3)
rotated = refl

-- a rotation by 33 is one by 1
rotated_on : got (num.Bin W32 bin.Rotl) (33 ∷ 2147483649 ∷ []) ≡ Value_of (I32 3)
rotated_on = refl

rotated_back : got (num.Bin W64 bin.Rotr) (65 ∷ 1 ∷ []) ≡ Value_of (I64 9223372036854775808)
rotated_back = refl

rotated_right : got (num.Bin W32 bin.Rotr) (1 ∷ 3 ∷ []) ≡ Value_of (I32 2147483649)
rotated_right = refl

leading : got (num.Un W32 un.Clz) (0 ∷ []) ≡ Value_of (I32 32)
unfolding lib.Count.count_leading_zeros
leading = refl

trailing : got (num.Un W64 un.Ctz) (0 ∷ []) ≡ Value_of (I64 64)
unfolding lib.Count.count_trailing_zeros
trailing = refl

ones : got (num.Un W32 un.Popcnt) (255 ∷ []) ≡ Value_of (I32 8)
unfolding lib.Count.ones
ones = refl

trailing_eight : got (num.Un W32 un.Ctz) (8 ∷ []) ≡ Value_of (I32 3)
unfolding lib.Count.count_trailing_zeros
trailing_eight = refl

leading_one : got (num.Un W64 un.Clz) (1 ∷ []) ≡ Value_of (I64 63)
unfolding lib.Count.count_leading_zeros
leading_one = refl

-- -7 and 3 by each operation
abbrev by_each : List BinOp → List Got
by_each ops = map (λ op. got (num.Bin W32 op) (3 ∷ 4294967289 ∷ [])) ops

abbrev values : List ℕ → List Got
values ns = map (λ n. Value_of (I32 n)) ns

sums : by_each (bin.Add ∷ bin.Sub ∷ bin.Mul ∷ bin.DivS ∷ bin.DivU ∷ bin.RemS ∷ bin.RemU ∷ [])
    ≡ values (4294967292 ∷ 4294967286 ∷ 4294967275 ∷ 4294967294 ∷ 1431655763 ∷ 4294967295 ∷ 0 ∷ [])
sums = refl

bits : by_each (bin.And ∷ bin.Or ∷ bin.Xor ∷ []) ≡ values (1 ∷ 4294967291 ∷ 4294967290 ∷ [])
bits = refl

shifts : by_each (bin.Shl ∷ bin.ShrS ∷ bin.ShrU ∷ bin.Rotl ∷ bin.Rotr ∷ []) ≡ values (4294967240 ∷ 4294967295 ∷ 536870911 ∷ 4294967247 ∷ 1073741823 ∷ [])
shifts = refl

-- how -7 and 3 are related, and 3 and 3
abbrev relations : List RelOp
relations = rel.Eq ∷ rel.Ne ∷ rel.LtS ∷ rel.LtU ∷ rel.GtS ∷ rel.GtU ∷ rel.LeS ∷ rel.LeU ∷ rel.GeS ∷ rel.GeU ∷ []

compared : map (λ op. got (num.Rel W32 op) (3 ∷ 4294967289 ∷ [])) relations ≡ values (0 ∷ 1 ∷ 1 ∷ 0 ∷ 0 ∷ 1 ∷ 1 ∷ 0 ∷ 0 ∷ 1 ∷ [])
compared = refl

compared_same : map (λ op. got (num.Rel W32 op) (3 ∷ 3 ∷ [])) relations ≡ values (1 ∷ 0 ∷ 0 ∷ 0 ∷ 0 ∷ 0 ∷ 1 ∷ 1 ∷ 1 ∷ 1 ∷ [])
compared_same = refl

-- -1 is less than 0, and the greatest number is not
less : got (num.Rel W64 rel.LtS) (0 ∷ 18446744073709551615 ∷ []) ≡ Value_of (I32 1)
less = refl

not_less : got (num.Rel W64 rel.LtU) (0 ∷ 18446744073709551615 ∷ []) ≡ Value_of (I32 0)
not_less = refl

zero_is : got (num.Eqz W64) (0 ∷ []) ≡ Value_of (I32 1)
zero_is = refl

wrapped : got num.Wrap (4294967301 ∷ []) ≡ Value_of (I32 5)
wrapped = refl

extended : got num.ExtendS (2147483648 ∷ []) ≡ Value_of (I64 18446744071562067968)
extended = refl

extended_unsigned : got num.ExtendU (2147483648 ∷ []) ≡ Value_of (I64 2147483648)
extended_unsigned = refl

low_byte : got (num.Low low.I32S8) (128 ∷ []) ≡ Value_of (I32 4294967168)
low_byte = refl

low_byte_kept : got (num.Low low.I32S8) (127 ∷ []) ≡ Value_of (I32 127)
low_byte_kept = refl

low_half : got (num.Low low.I64S32) (2147483648 ∷ []) ≡ Value_of (I64 18446744071562067968)
low_half = refl

-- the high bits are not read
low_pair : got (num.Low low.I32S16) (4294934529 ∷ []) ≡ Value_of (I32 4294934529)
low_pair = refl

-- ---- modules and states

empty : Name
empty = record { bytes = [] }

abbrev blank : Module
blank = record {
  types = [];
  imports = [];
  funcs = [];
  tables = [];
  mems = [];
  globals = [];
  exports = [];
  start = None;
  elems = [];
  bodies = [];
  segments = [];
  names = None;
}

abbrev body : List Instr → Body
body code = record { locals = []; code = code }

abbrev at : ℕ → MemArg
at offset = record { align = 0; offset = offset }

-- one function of a type, and a memory of one to three pages
abbrev alone : FuncType → List Instr → Module
alone t code = record blank { types = t ∷ []; funcs = 0 ∷ []; mems = record { min = 1; max = Some 3 } ∷ []; bodies = body code ∷ [] }

-- one page, of which no byte is written yet
abbrev start_with : List (Option ℕ) → Host → State
start_with table host = record { globals = I32 7 ∷ []; pages = 1; bytes = []; table = table; cap = 65536; host = host; host_calls = []; turns = 0 }

abbrev start : State
start = start_with [] (Script [])

-- how a call answers: its results, why it stops, and the turns
data Ended : Type 0 where
  Results : (results : List Value) (turns : ℕ) → Ended
  Stop_of : (why : Stop) (turns : ℕ) → Ended

abbrev ended : Answer → Ended
ended (Gives e) = Results e.results e.store.state.turns
ended (Stops why s) = Stop_of why s.turns

-- function 0 on these arguments
abbrev does : Module → List Value → Ended
does m args = ended (invocation m 3 (nat_eq 0) 0 args start).answer

abbrev pair : FuncType
pair = record { params = type.I32 ∷ type.I32 ∷ []; results = type.I32 ∷ [] }

abbrev single : FuncType
single = record { params = type.I32 ∷ []; results = type.I32 ∷ [] }

abbrev nullary : FuncType
nullary = record { params = []; results = type.I32 ∷ [] }

-- ---- numbers in a run

abbrev divides : Module
divides = alone pair (instr.LocalGet 0 ∷ instr.LocalGet 1 ∷ instr.Num (num.Bin W32 bin.DivS) ∷ [])

overflows : does divides (I32 2147483648 ∷ I32 4294967295 ∷ []) ≡ Stop_of (Trap Overflow) 0
unfolding onto
overflows = refl

by_zero : does divides (I32 7 ∷ I32 0 ∷ []) ≡ Stop_of (Trap DivideByZero) 0
unfolding onto
by_zero = refl

divided : does divides (I32 4294967289 ∷ I32 2 ∷ []) ≡ Results (I32 4294967293 ∷ []) 0
unfolding onto
divided = refl

sign_extended : does (alone single (instr.LocalGet 0 ∷ instr.Num (num.Low low.I32S8) ∷ [])) (I32 128 ∷ []) ≡ Results (I32 4294967168 ∷ []) 0
unfolding onto
sign_extended = refl

-- ---- the memory

abbrev loads : Module
loads = alone single (instr.LocalGet 0 ∷ instr.Load load.I32U8 (at 0) ∷ [])

last_byte : does loads (I32 65535 ∷ []) ≡ Results (I32 0 ∷ []) 0
unfolding onto
last_byte = refl

past_last : does (alone single (instr.LocalGet 0 ∷ instr.Load load.I32U16 (at 0) ∷ [])) (I32 65535 ∷ []) ≡ Stop_of (Trap MemoryBounds) 0
unfolding onto
past_last = refl

-- an address and an offset are added without wrapping
far : does (alone single (instr.LocalGet 0 ∷ instr.Load load.I32U8 (at 1) ∷ [])) (I32 4294967295 ∷ []) ≡ Stop_of (Trap MemoryBounds) 0
unfolding onto
far = refl

-- a number stored at 9, and its third byte loaded as signed
stored : does
    (alone nullary (instr.I32Const 8 ∷ instr.I32Const 2155971203 ∷ instr.Store store.I32 (at 1) ∷ instr.I32Const 9 ∷ instr.Load load.I32S8 (at 3) ∷ [])) []
    ≡ Results (I32 4294967168 ∷ []) 0
unfolding onto
stored = refl

abbrev grows : Module
grows = alone single (instr.LocalGet 0 ∷ instr.MemoryGrow ∷ [])

grown_by_two : does grows (I32 2 ∷ []) ≡ Results (I32 1 ∷ []) 0
unfolding onto
grown_by_two = refl

-- past the declared maximum
not_grown : does grows (I32 3 ∷ []) ≡ Results (I32 4294967295 ∷ []) 0
unfolding onto
not_grown = refl

abbrev three : FuncType
three = record { params = type.I32 ∷ type.I32 ∷ type.I32 ∷ []; results = type.I32 ∷ [] }

-- 258 stored at 0, a copy by the arguments, and a load where it was copied to
abbrev copies : Module
copies =
    alone three
    (instr.I32Const 0 ∷ instr.I32Const 258 ∷ instr.Store store.I32
    (at 0) ∷ instr.LocalGet 0 ∷ instr.LocalGet 1 ∷ instr.LocalGet 2 ∷ instr.MemoryCopy ∷ instr.LocalGet 0 ∷ instr.Load load.I32 (at 0) ∷ [])

-- the ranges overlap
copied : does copies (I32 1 ∷ I32 0 ∷ I32 4 ∷ []) ≡ Results (I32 258 ∷ []) 0
unfolding onto
copied = refl

copied_past : does copies (I32 65533 ∷ I32 0 ∷ I32 4 ∷ []) ≡ Stop_of (Trap MemoryBounds) 0
unfolding onto
copied_past = refl

copied_from_past : does copies (I32 0 ∷ I32 65533 ∷ I32 4 ∷ []) ≡ Stop_of (Trap MemoryBounds) 0
unfolding onto
copied_from_past = refl

abbrev range : FuncType
range = record { params = type.I32 ∷ type.I32 ∷ []; results = [] }

abbrev fills : Module
fills = alone range (instr.LocalGet 0 ∷ instr.I32Const 263 ∷ instr.LocalGet 1 ∷ instr.MemoryFill ∷ [])

filled_nothing : does fills (I32 65536 ∷ I32 0 ∷ []) ≡ Results [] 0
unfolding onto
filled_nothing = refl

filled_last : does fills (I32 65535 ∷ I32 1 ∷ []) ≡ Results [] 0
unfolding onto
filled_last = refl

filled_past : does fills (I32 65536 ∷ I32 1 ∷ []) ≡ Stop_of (Trap MemoryBounds) 0
unfolding onto
filled_past = refl

-- the value is taken modulo 256
filled : does
    (alone nullary (instr.I32Const 0 ∷ instr.I32Const 263 ∷ instr.I32Const 4 ∷ instr.MemoryFill ∷ instr.I32Const 0 ∷ instr.Load load.I32U8 (at 0) ∷ [])) []
    ≡ Results (I32 7 ∷ []) 0
unfolding onto
filled = refl

-- ---- calls

-- Function 0 gives 42, and function 1 calls through the table, at its argument.
abbrev indirect : Module
indirect = record blank {
  types = nullary ∷ single ∷ [];
  funcs = 0 ∷ 1 ∷ [];
  tables = record { min = 3; max = None } ∷ [];
  bodies = body (instr.I32Const 42 ∷ []) ∷ body (instr.LocalGet 0 ∷ instr.CallIndirect 0 ∷ []) ∷ [];
}

-- the table holds function 0, function 1 and nothing
abbrev through : ℕ → ℕ → Ended
through depth i = ended (invocation indirect depth (nat_eq 0) 1 (I32 i ∷ []) (start_with (Some 0 ∷ Some 1 ∷ None ∷ []) (Script []))).answer

found_there : through 5 0 ≡ Results (I32 42 ∷ []) 1
unfolding onto
found_there = refl

wrong_type : through 5 1 ≡ Stop_of (Trap WrongType) 0
unfolding onto
wrong_type = refl

empty_entry : through 5 2 ≡ Stop_of (Trap EmptyEntry) 0
unfolding onto
empty_entry = refl

no_entry : through 5 3 ≡ Stop_of (Trap NoEntry) 0
unfolding onto
no_entry = refl

-- no call may nest, so the call through the table stops, and a failed one traps as before
spent : through 0 0 ≡ Stop_of Spent 0
unfolding onto
spent = refl

wrong_first : through 0 1 ≡ Stop_of (Trap WrongType) 0
unfolding onto
wrong_first = refl

-- A function that calls itself on one less, until 0, and adds 1.
abbrev recursive : Module
recursive = record blank {
  types = single ∷ [];
  funcs = 0 ∷ [];
  bodies = body (
      instr.LocalGet 0
      ∷ instr.If' (Some type.I32) (tt ∷ tt ∷ tt ∷ tt ∷ [])
      (more_of-Instr (instr.LocalGet 0)
      (more_of-Instr (instr.I32Const 1) (more_of-Instr (instr.Num (num.Bin W32 bin.Sub)) (more_of-Instr (instr.Call 0) end_of-Instr))))
      (tt ∷ []) (more_of-Instr (instr.I32Const 0) end_of-Instr)
      ∷ instr.I32Const 1
      ∷ instr.Num (num.Bin W32 bin.Add)
      ∷ []
      ) ∷ [];
}

-- what is seen at the sum
abbrev counted : ℕ → Invoked
counted depth = invocation recursive depth (nat_eq 8) 0 (I32 3 ∷ []) start

counts : ended (counted 3).answer ≡ Results (I32 4 ∷ []) 3
unfolding onto
counts = refl

seen_at_sum : (counted 3).events ≡ Take (I32 3 ∷ I32 1 ∷ []) ∷ Leave (I32 4 ∷ []) ∷ []
unfolding onto
seen_at_sum = refl

too_deep : ended (counted 2).answer ≡ Stop_of Spent 2
unfolding onto
too_deep = refl

-- a loop that counts down to 0, with a turn for each branch back
abbrev loops : Module
loops =
    alone single (
    instr.Loop' None (tt ∷ tt ∷ tt ∷ tt ∷ tt ∷ [])
    (more_of-Instr (instr.LocalGet 0)
    (more_of-Instr (instr.I32Const 1)
    (more_of-Instr (instr.Num (num.Bin W32 bin.Sub)) (more_of-Instr (instr.LocalTee 0) (more_of-Instr (instr.BrIf 0) end_of-Instr)))))
    ∷ instr.LocalGet 0
    ∷ []
    )

counted_down : does loops (I32 3 ∷ []) ≡ Results (I32 0 ∷ []) 2
unfolding onto
counted_down = refl

-- ---- the host

-- Function 0 and global 0, a mutable one, are imported, and the memory is exported. Function 1 calls function 0 and adds global 0.
abbrev asking : Module
asking = record blank {
  types = nullary ∷ [];
  imports = record { «module» = empty; name = empty; kind = import.Func 0 } ∷ record {
    «module» = empty;
    name = empty;
    kind = import.Global
        (record { kind = type.I32; mutable = true });
  } ∷ [];
  funcs = 0 ∷ [];
  mems = record { min = 1; max = None } ∷ [];
  exports = record { name = empty; kind = export.Memory; index = 0 } ∷ [];
  bodies = body (instr.Call 0 ∷ instr.GlobalGet 0 ∷ instr.Num (num.Bin W32 bin.Add) ∷ []) ∷ [];
}

abbrev answers : List Reply → Ended
answers replies = ended (invocation asking 1 (nat_eq 0) 1 [] (start_with [] (Script replies))).answer

abbrev reply : ℤ → List (ℕ × ℤ) → List (ℕ × List ℕ) → List Reply
reply result globals bytes = record { result = Some result; globals = globals; bytes = bytes } ∷ []

-- the call took its turn
no_reply : answers [] ≡ Stop_of (Trap ReplyMissing) 1
unfolding onto
no_reply = refl

-- -1, and 9 in global 0
answered : answers (reply (negsuc 0) ((0, pos 9) ∷ []) ((2, 6 ∷ []) ∷ [])) ≡ Results (I32 8 ∷ []) 1
unfolding onto
answered = refl

out_of_range : answers (reply (pos 4294967296) [] []) ≡ Stop_of (Trap ReplyUnfit) 1
unfolding onto
out_of_range = refl

-- a write of a global that the host doesn't see, and of bytes past the memory's end
unseen_global : answers (reply (pos 1) ((1, pos 9) ∷ []) []) ≡ Stop_of (Trap ReplyUnfit) 1
unfolding onto
unseen_global = refl

past_the_end : answers (reply (pos 1) [] ((65536, 0 ∷ []) ∷ [])) ≡ Stop_of (Trap ReplyUnfit) 1
unfolding onto
past_the_end = refl

-- a result that is missing
without_result : answers (record { result = None; globals = []; bytes = [] } ∷ []) ≡ Stop_of (Trap ReplyUnfit) 1
unfolding onto
without_result = refl

-- an imported function that is invoked itself takes no turn
invoked_itself : ended (invocation asking 0 (nat_eq 0) 0 [] (start_with [] (Script (reply (pos 9) [] [])))).answer ≡ Results (I32 9 ∷ []) 0
unfolding onto
invoked_itself = refl
