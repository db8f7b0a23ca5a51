-- Replies made item by item.
use Rattle.std.proofs.Common.{◌≡◌, ◌++◌, ℕ, suc, length, Bool, true, false, List, [], ◌∷◌, Option, Some, None, Result, Err, refl, sym, ap, ◌∙◌, append_assoc, ℤ, ◌≤◌, ◌<◌, ◌+◌, ◌-◌, ◌*◌, drop, take, subst, arith}
use Rattle.std.proofs.lemmas.List.{take_all}
use Rattle.std.specs.List.{slice_index_or}
use Rattle.std.specs.Prelude.{option_and_then, if◌then◌else◌, ◌==◌}
use Rattle.wasm_types.specs.declared.run.Reply.{Reply}
use Rattle.run_words.specs.declared.replies.Item.{Item}
use Rattle.run_words.specs.declared.replies.Item.TheVariants as item
use Rattle.run_words.specs.declared.replies.ReplyEnd.{ReplyEnd}
use Rattle.run_words.specs.declared.replies.ReplyEnd.TheVariants as end
use Rattle.run_words.specs.Words.{Cuts, Reads, empty, with_result, is_dash, item_of, reply_in, reply_of, result_first, value_of, hex_bytes, hex_digit, and_then, before, behind, begin_with, items_of, joined, joined_to, pieces, pieces_left, with_item}

-- bytes and then others, where there are such
abbrev pub and_bytes : List ℕ → Option (List ℕ) → Option (List ℕ)
and_bytes bs o = option_and_then (λ others. Some (bs ++ others)) o

abbrev pub size_left : Option (List ℕ) → ℕ
size_left None = 0
size_left (Some word) = suc (length word)

one_piece : (here : Bool) (b : ℕ) (bs : List ℕ) → pieces 44 bs ≡ before 44 bs ∷ pieces_left (behind 44 bs)
    → (if here then [] ∷ pieces 44 bs else begin_with b (pieces 44 bs))
    ≡ (if here then [] else b ∷ before 44 bs) ∷ pieces_left (if here then Some bs else behind 44 bs)
one_piece true b bs h = refl
one_piece false b bs h = ap (begin_with b) h

-- a word's pieces are the front, and those of the rest
pub first_piece : (word : List ℕ) → pieces 44 word ≡ before 44 word ∷ pieces_left (behind 44 word)
first_piece [] = refl
first_piece (b ∷ bs) = one_piece (b == 44) b bs (first_piece bs)

one_more : (r s : Reply) (i : Item) → joined (with_item r i) s ≡ joined r (and_then i s)
one_more r s (item.Sets g z) = ap (λ gs. record (joined r s) { globals = gs }) (append_assoc r.globals ((g, z) ∷ []) s.globals)
one_more r s (item.Writes a bs) = ap (λ ws. record (joined r s) { bytes = ws }) (append_assoc r.bytes ((a, bs) ∷ []) s.bytes)

pub item_joined : (r : Reply) (i : Item) (o : Option Reply) → joined_to (with_item r i) o ≡ joined_to r (option_and_then (λ s. Some (and_then i s)) o)
item_joined r i None = refl
item_joined r i (Some s) = ap Some (one_more r s i)

-- ---- the items that are left

items_left : (word front : List ℕ) (rest : Option (List ℕ)) → Cuts 44 word front rest
    → items_of (pieces_left (Some word)) ≡ option_and_then (λ i. option_and_then (λ s. Some (and_then i s)) (items_of (pieces_left rest))) (item_of front)
items_left word front rest cut =
    ap items_of (first_piece word)
    ∙ ap (λ l. option_and_then (λ i. option_and_then (λ s. Some (and_then i s)) (items_of (pieces_left l))) (item_of (before 44 word))) (sym cut.1)
    ∙ ap (λ l. option_and_then (λ i. option_and_then (λ s. Some (and_then i s)) (items_of (pieces_left rest))) (item_of l)) (sym cut.0)

-- where the first one is none, there is no reply
pub none_left : (r : Reply) (word front : List ℕ) (rest : Option (List ℕ)) → Cuts 44 word front rest → item_of front ≡ None
    → joined_to r (items_of (pieces_left (Some word))) ≡ None
none_left r word front rest cut none =
    ap (joined_to r) (items_left word front rest cut
    ∙ ap (option_and_then (λ i. option_and_then (λ s. Some (and_then i s)) (items_of (pieces_left rest)))) none)

-- and else it goes on with it
pub more_left : (r : Reply) (word front : List ℕ) (rest : Option (List ℕ)) (i : Item) → Cuts 44 word front rest → item_of front ≡ Some i
    → joined_to (with_item r i) (items_of (pieces_left rest)) ≡ joined_to r (items_of (pieces_left (Some word)))
more_left r word front rest i cut some =
    item_joined r i (items_of (pieces_left rest))
    ∙ sym (ap (joined_to r) (items_left word front rest cut
    ∙ ap (option_and_then (λ i. option_and_then (λ s. Some (and_then i s)) (items_of (pieces_left rest)))) some))

within : (here : Bool) (bs : List ℕ) (r : Option (List ℕ)) → size_left r ≤ length bs → size_left (if here then Some bs else r) ≤ suc (length bs)
within true bs r h = omega arith
within false bs r h = omega (arith, h)

behind_within : (bs : List ℕ) → size_left (behind 44 bs) ≤ length bs
behind_within [] = omega arith
behind_within (b ∷ bs) = within (b == 44) bs (behind 44 bs) (behind_within bs)

pub fewer_left : (word front : List ℕ) (rest : Option (List ℕ)) → Cuts 44 word front rest → size_left rest < size_left (Some word)
fewer_left word front rest cut =
    subst (λ (l : Option (List ℕ)). size_left l < suc (length word)) (sym cut.1) (let few = behind_within word in omega (arith, few))

-- a refused item refuses all
pub refused_left : (expected : Option Reply) (r : Reply) (word front : List ℕ) (rest : Option (List ℕ)) (result : Result Item ReplyEnd) (e : ReplyEnd)
    → Cuts 44 word front rest → Reads (item_of front) result → result ≡ Err e → joined_to r (items_of (pieces_left (Some word))) ≡ expected
    → Reads expected (Err e)
refused_left expected r word front rest result end.Refused cut read is h =
    let none : item_of front ≡ None = subst (Reads (item_of front)) is read in sym h ∙ none_left r word front rest cut none
refused_left expected r word front rest result end.Memory cut read is h = tt

-- ---- the reply that a word is

pub joined_empty : (value : Option ℤ) (o : Option Reply) → joined_to (record empty { result = value }) o ≡ with_result value o
joined_empty value None = refl
joined_empty value (Some r) = refl

pub reply_first : (word front : List ℕ) (rest : Option (List ℕ)) → is_dash word ≡ false → Cuts 44 word front rest
    → reply_of word ≡ result_first (value_of front) (pieces 44 word) (pieces_left rest)
reply_first word front rest not cut =
    ap (λ b. if b then Some empty else reply_in (pieces 44 word)) not
    ∙ ap reply_in (first_piece word)
    ∙ ap (λ l. result_first (value_of (before 44 word)) (before 44 word ∷ pieces_left (behind 44 word)) (pieces_left l)) (sym cut.1)
    ∙ ap (λ l. result_first (value_of l) (before 44 word ∷ pieces_left (behind 44 word)) (pieces_left rest)) (sym cut.0)
    ∙ ap (λ l. result_first (value_of front) l (pieces_left rest)) (sym (first_piece word))

-- without a result, and with one
pub reply_without : (word front : List ℕ) (rest : Option (List ℕ)) (r : Reply) → is_dash word ≡ false → Cuts 44 word front rest → value_of front ≡ None
    → r ≡ record empty { result = None } → joined_to r (items_of (pieces 44 word)) ≡ reply_of word
reply_without word front rest r not cut none same =
    ap (λ (s : Reply). joined_to s (items_of (pieces 44 word))) same
    ∙ joined_empty None (items_of (pieces 44 word))
    ∙ ap (λ value. result_first value (pieces 44 word) (pieces_left rest)) (sym none)
    ∙ sym (reply_first word front rest not cut)

of_result : (value : Option ℤ) (all rest : List (List ℕ)) → (value ≡ None → ⊥) → with_result value (items_of rest) ≡ result_first value all rest
of_result None all rest some = absurd (some refl)
of_result (Some z) all rest some = refl

pub reply_with : (word front : List ℕ) (rest : Option (List ℕ)) (value : Option ℤ) (r : Reply) → is_dash word ≡ false → Cuts 44 word front rest
    → value ≡ value_of front → (value ≡ None → ⊥) → r ≡ record empty { result = value } → joined_to r (items_of (pieces_left rest)) ≡ reply_of word
reply_with word front rest value r not cut is some same =
    ap (λ (s : Reply). joined_to s (items_of (pieces_left rest))) same
    ∙ joined_empty value (items_of (pieces_left rest))
    ∙ of_result value (pieces 44 word) (pieces_left rest) some
    ∙ ap (λ v. result_first v (pieces 44 word) (pieces_left rest)) is
    ∙ sym (reply_first word front rest not cut)

-- ---- bytes

one_byte : (bs : List ℕ) (b : ℕ) (o : Option (List ℕ)) → and_bytes (bs ++ b ∷ []) o ≡ and_bytes bs (option_and_then (λ rest. Some (b ∷ rest)) o)
one_byte bs b None = refl
one_byte bs b (Some rest) = ap Some (append_assoc bs (b ∷ []) rest)

digits_read : (a b high low : ℕ) (others : List ℕ) → hex_digit a ≡ Some high → hex_digit b ≡ Some low
    → hex_bytes (a ∷ b ∷ others) ≡ option_and_then (λ rest. Some ((16 * high + low) ∷ rest)) (hex_bytes others)
digits_read a b high low others first second =
    let known : option_and_then (λ l. option_and_then (λ rest. Some ((16 * high + l) ∷ rest)) (hex_bytes others)) (hex_digit b)
    ≡ option_and_then (λ rest. Some ((16 * high + low) ∷ rest)) (hex_bytes others)
    = ap (option_and_then (λ l. option_and_then (λ rest. Some ((16 * high + l) ∷ rest)) (hex_bytes others))) second in
    ap (option_and_then (λ h. option_and_then (λ l. option_and_then (λ rest. Some ((16 * h + l) ∷ rest)) (hex_bytes others)) (hex_digit b))) first ∙ known

-- two digits more
pub byte_more : (bs text rest : List ℕ) (high low : ℕ) → 2 ≤ length rest → hex_digit (slice_index_or rest 0 0) ≡ Some high
    → hex_digit (slice_index_or rest 1 0) ≡ Some low → and_bytes bs (hex_bytes rest) ≡ hex_bytes text
    → and_bytes (bs ++ (16 * high + low) ∷ []) (hex_bytes (take (length rest - 2) (drop 2 rest))) ≡ hex_bytes text
byte_more bs text [] high low long first second h = absurd (omega (arith, long))
byte_more bs text (a ∷ []) high low long first second h = absurd (omega (arith, long))
byte_more bs text (a ∷ b ∷ others) high low long first second h =
    subst (λ l. and_bytes (bs ++ (16 * high + low) ∷ []) (hex_bytes l) ≡ hex_bytes text) (sym (take_all (length (a ∷ b ∷ others) - 2) others (omega arith)))
    (one_byte bs (16 * high + low) (hex_bytes others) ∙ ap (and_bytes bs) (sym (digits_read a b high low others first second)) ∙ h)
