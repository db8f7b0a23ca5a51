-- The words of a run: numbers, arguments, and the replies of the host (docs/COMMANDS.md, "The words of a run").
use Rattle.std.specs.Prelude.{◌≡◌, ℕ, zero, suc, ℤ, pos, negsuc, ◌+◌, ◌-◌, ◌*◌, ◌^◌, ◌==◌, ◌&&◌, Bool, false, if◌then◌else◌, List, [], ◌∷◌, ◌++◌, length, Option, Some, None, nat_lt, nat_le, option_and_then, Result, Ok, Err, ⊤}
use Rattle.std.specs.List.{list_all}
use Rattle.wasm_types.specs.declared.run.Reply.{Reply}
use Rattle.run_words.specs.declared.replies.Item.{Item}
use Rattle.run_words.specs.declared.replies.Item.TheVariants as item
use Rattle.run_words.specs.declared.replies.ReplyEnd.{ReplyEnd}
use Rattle.run_words.specs.declared.replies.ReplyEnd.TheVariants as end

-- ---- numbers

abbrev pub is_digit : ℕ → Bool
is_digit b = nat_le 48 b && nat_le b 57

-- the value of digits after others whose value is n
abbrev pub value_after : ℕ → List ℕ → ℕ
value_after n [] = n
value_after n (b ∷ bs) = value_after (10 * n + (b - 48)) bs

-- the value of 1 to so many digits
abbrev pub digits_of : ℕ → List ℕ → Option ℕ
digits_of most bs = if nat_lt 0 (length bs) && (nat_le (length bs) most && list_all is_digit bs) then Some (value_after 0 bs) else None

abbrev pub below : ℕ → ℕ → Option ℕ
below limit n = if nat_lt n limit then Some n else None

-- a number word: 1 to 10 digits with a value below 2^32
abbrev pub number_of : List ℕ → Option ℕ
number_of bs = option_and_then (below (2 ^ 32)) (digits_of 10 bs)

abbrev pub negated : ℕ → ℤ
negated zero = pos 0
negated (suc n) = negsuc n

-- a value word: 1 to 20 digits, after a - where it is negative, with a value from -2^63 to 2^64 - 1
abbrev pub positive_of : List ℕ → Option ℤ
positive_of bs = option_and_then (λ n. if nat_lt n (2 ^ 64) then Some (pos n) else None) (digits_of 20 bs)

abbrev pub negative_of : List ℕ → Option ℤ
negative_of bs = option_and_then (λ n. if nat_le n (2 ^ 63) then Some (negated n) else None) (digits_of 20 bs)

abbrev pub value_of : List ℕ → Option ℤ
value_of [] = None
value_of (b ∷ bs) = if b == 45 then negative_of bs else positive_of (b ∷ bs)

-- ---- pieces

-- what stands before the first such byte, and after it, where there is one
abbrev pub before : ℕ → List ℕ → List ℕ
before byte [] = []
before byte (b ∷ bs) = if b == byte then [] else b ∷ before byte bs

abbrev pub behind : ℕ → List ℕ → Option (List ℕ)
behind byte [] = None
behind byte (b ∷ bs) = if b == byte then Some bs else behind byte bs

-- a word cut at the first such byte
abbrev pub Cuts : ℕ → List ℕ → List ℕ → Option (List ℕ) → Type 0
Cuts byte word front rest = (front ≡ before byte word) × (rest ≡ behind byte word)

-- the pieces between such bytes
abbrev pub begin_with : ℕ → List (List ℕ) → List (List ℕ)
begin_with b [] = (b ∷ []) ∷ []
begin_with b (piece ∷ others) = (b ∷ piece) ∷ others

abbrev pub pieces : ℕ → List ℕ → List (List ℕ)
pieces byte [] = [] ∷ []
pieces byte (b ∷ bs) = if b == byte then [] ∷ pieces byte bs else begin_with b (pieces byte bs)

-- ---- items of a reply

abbrev pub hex_digit : ℕ → Option ℕ
hex_digit b = if is_digit b then Some (b - 48) else if nat_le 97 b && nat_le b 102 then Some (b - 87) else None

-- two digits a byte, the high one first
abbrev pub hex_bytes : List ℕ → Option (List ℕ)
hex_bytes [] = Some []
hex_bytes (a ∷ []) = None
hex_bytes (a ∷ b ∷ bs) = option_and_then (λ high. option_and_then (λ low. option_and_then (λ rest. Some ((16 * high + low) ∷ rest)) (hex_bytes bs)) (hex_digit b)) (hex_digit a)

-- gN=V sets a global, and mN=HEX, with at least one byte, writes bytes from an address on
abbrev pub setting : Option ℕ → Option ℤ → Option Item
setting global number = option_and_then (λ g. option_and_then (λ z. Some (item.Sets g z)) number) global

abbrev pub some_bytes : List ℕ → Option (List ℕ)
some_bytes [] = None
some_bytes (b ∷ bs) = Some (b ∷ bs)

abbrev pub writing : Option ℕ → Option (List ℕ) → Option Item
writing at bytes = option_and_then (λ a. option_and_then (λ bs. Some (item.Writes a bs)) (option_and_then some_bytes bytes)) at

abbrev pub item_of : List ℕ → Option Item
item_of [] = None
item_of (b ∷ bs) =
    if b == 103 then setting (number_of (before 61 bs)) (option_and_then value_of (behind 61 bs))
    else if b == 109 then writing (number_of (before 61 bs)) (option_and_then hex_bytes (behind 61 bs))
    else None

-- ---- replies

abbrev pub empty : Reply
empty = record { result = None; globals = []; bytes = [] }

abbrev pub and_then : Item → Reply → Reply
and_then (item.Sets g z) r = record r { globals = (g, z) ∷ r.globals }
and_then (item.Writes a bs) r = record r { bytes = (a, bs) ∷ r.bytes }

-- the reply with one item more
abbrev pub with_item : Reply → Item → Reply
with_item r (item.Sets g z) = record r { globals = r.globals ++ (g, z) ∷ [] }
with_item r (item.Writes a bs) = record r { bytes = r.bytes ++ (a, bs) ∷ [] }

abbrev pub items_of : List (List ℕ) → Option Reply
items_of [] = Some empty
items_of (piece ∷ rest) = option_and_then (λ item. option_and_then (λ r. Some (and_then item r)) (items_of rest)) (item_of piece)

abbrev pub with_result : Option ℤ → Option Reply → Option Reply
with_result value o = option_and_then (λ (r : Reply). Some (record r { result = value })) o

-- the first piece may be the result
abbrev pub result_first : Option ℤ → List (List ℕ) → List (List ℕ) → Option Reply
result_first (Some z) all rest = with_result (Some z) (items_of rest)
result_first None all rest = with_result None (items_of all)

abbrev pub reply_in : List (List ℕ) → Option Reply
reply_in [] = None
reply_in (piece ∷ rest) = result_first (value_of piece) (piece ∷ rest) rest

-- the - alone
abbrev pub is_dash : List ℕ → Bool
is_dash [] = false
is_dash (b ∷ []) = b == 45
is_dash (b ∷ c ∷ bs) = false

-- a reply word: - alone for an empty reply, or items between commas
abbrev pub reply_of : List ℕ → Option Reply
reply_of word = if is_dash word then Some empty else reply_in (pieces 44 word)

-- a reply and then another one, without its result
abbrev pub joined : Reply → Reply → Reply
joined r s = record r { globals = r.globals ++ s.globals; bytes = r.bytes ++ s.bytes }

abbrev pub joined_to : Reply → Option Reply → Option Reply
joined_to r o = option_and_then (λ s. Some (joined r s)) o

-- the pieces of what is left
abbrev pub pieces_left : Option (List ℕ) → List (List ℕ)
pieces_left None = []
pieces_left (Some word) = pieces 44 word

-- what is read is what is expected, and it is refused exactly where nothing is; an allocation that is refused says nothing
abbrev pub Reads : {A : Type 0} → Option A → Result A ReplyEnd → Type 0
Reads expected (Ok a) = expected ≡ Some a
Reads expected (Err end.Refused) = expected ≡ None
Reads expected (Err end.Memory) = ⊤
