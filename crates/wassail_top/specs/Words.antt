-- The words that are a command (docs/COMMANDS.md).
use Rattle.std.specs.Prelude.{◌≡◌, ℕ, ℤ, Bool, List, [], ◌∷◌, None, Some, codes, if◌then◌else◌, nat_le, length, option_and_then}
use Rattle.std.specs.Str.{bytes_eq}
use Rattle.std.specs.declared.option.Option.{Option}
use Rattle.wasm_types.specs.declared.run.Reply.{Reply}
use Rattle.run_words.specs.Words.{number_of, value_of, reply_of}
use Rattle.wassail_top.specs.Orders.{Order, most_name_bytes}
use Rattle.wassail_top.specs.Orders.Order.{check, rewrite, list, summary, kept, slice, run, trace}

-- the command, where no word follows
abbrev pub alone : Order → List (List ℕ) → Option Order
alone order [] = Some order
alone order (word ∷ words) = None

-- the command of a number
abbrev pub one : (ℕ → Order) → List (List ℕ) → Option Order
one order (a ∷ []) = option_and_then (λ n. Some (order n)) (number_of a)
one order words = None

-- the command of a number, or of none
abbrev pub one_or_none : (Option ℕ → Order) → List (List ℕ) → Option Order
one_or_none order [] = Some (order None)
one_or_none order (a ∷ []) = option_and_then (λ n. Some (order (Some n))) (number_of a)
one_or_none order words = None

-- the command of two numbers
abbrev pub two : (ℕ → ℕ → Order) → List (List ℕ) → Option Order
two order (a ∷ b ∷ []) = option_and_then (λ m. option_and_then (λ n. Some (order m n)) (number_of b)) (number_of a)
two order words = None

-- the command of two numbers and a name
abbrev pub two_and_name : (ℕ → ℕ → List ℕ → Order) → List (List ℕ) → Option Order
two_and_name order (a ∷ b ∷ name ∷ []) =
    if nat_le (length name) most_name_bytes then option_and_then (λ m. option_and_then (λ n. Some (order m n name)) (number_of b)) (number_of a) else None
two_and_name order words = None

-- ---- arguments and replies

-- the first / parts the words of arguments from those of replies
abbrev pub is_slash : List ℕ → Bool
is_slash word = bytes_eq word (codes "/")

abbrev pub before_slash : List (List ℕ) → List (List ℕ)
before_slash [] = []
before_slash (word ∷ words) = if is_slash word then [] else word ∷ before_slash words

abbrev pub behind_slash : List (List ℕ) → List (List ℕ)
behind_slash [] = []
behind_slash (word ∷ words) = if is_slash word then words else behind_slash words

-- what all words are, if each of them is one
abbrev pub each : {A : Type 0} → (List ℕ → Option A) → List (List ℕ) → Option (List A)
each read [] = Some []
each read (word ∷ words) = option_and_then (λ a. option_and_then (λ others. Some (a ∷ others)) (each read words)) (read word)

-- the arguments and the replies
abbrev pub given_of : List (List ℕ) → Option (List ℤ × List Reply)
given_of words =
    option_and_then (λ args. option_and_then (λ replies. Some (args, replies)) (each reply_of (behind_slash words))) (each value_of (before_slash words))

-- the command of a function and a budget, with arguments and replies
abbrev pub running : List (List ℕ) → Option Order
running (func ∷ budget ∷ words) =
    option_and_then (λ f. option_and_then (λ b. option_and_then (λ g. Some (run f b g.0 g.1)) (given_of words)) (number_of budget)) (number_of func)
running words = None

-- the command of a function, a position in it and a budget, with arguments and replies
abbrev pub tracing : List (List ℕ) → Option Order
tracing (func ∷ at ∷ budget ∷ words) =
    option_and_then (λ f. option_and_then (λ i. option_and_then (λ b. option_and_then (λ g. Some (trace f i b g.0 g.1)) (given_of words)) (number_of budget))
    (number_of at)) (number_of func)
tracing words = None

-- ---- commands

-- the command with this name and these words after it
abbrev pub order_named : List ℕ → List (List ℕ) → Option Order
order_named name rest =
    if bytes_eq name (codes "check") then alone check rest
    else if bytes_eq name (codes "rewrite") then alone rewrite rest
    else if bytes_eq name (codes "list") then one list rest
    else if bytes_eq name (codes "summary") then one_or_none summary rest
    else if bytes_eq name (codes "kept") then two kept rest
    else if bytes_eq name (codes "slice") then two_and_name slice rest
    else if bytes_eq name (codes "run") then running rest
    else if bytes_eq name (codes "trace") then tracing rest
    else None

-- the command about a module that the words are
abbrev pub order_of : List (List ℕ) → Option Order
order_of [] = None
order_of (name ∷ rest) = order_named name rest

-- the number whose module `mill` is asked for
abbrev pub mill_of : List (List ℕ) → Option ℕ
mill_of (name ∷ number ∷ []) = if bytes_eq name (codes "mill") then number_of number else None
mill_of words = None

-- the words are neither
abbrev pub IsNoCommand : List (List ℕ) → Type 0
IsNoCommand words = (order_of words ≡ None) × (mill_of words ≡ None)
