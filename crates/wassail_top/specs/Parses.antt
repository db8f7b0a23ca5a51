-- What reading words gives, beside what is expected of them. An allocation that is refused says nothing.
use Rattle.std.specs.Global.{Global}
use Rattle.std.specs.Prelude.{◌≡◌, ℕ, ℤ, List, Vec, None, Some, Result, Ok, Err, ⊤}
use Rattle.std.specs.declared.option.Option.{Option}
use Rattle.wasm_types.specs.declared.run.Reply.{Reply}
use Rattle.wassail_top.specs.declared.words.Command.{Command}
use Rattle.wassail_top.specs.declared.words.Given.{Given}
use Rattle.wassail_top.specs.declared.words.WordsEnd.{WordsEnd}
use Rattle.wassail_top.specs.declared.words.WordsEnd.TheVariants.{Refused, Memory}
use Rattle.wassail_top.specs.declared.words.Request.{Request}
use Rattle.wassail_top.specs.declared.words.Request.TheVariants as request
use Rattle.wassail_top.specs.Orders.{HasShortName, Order, order_read}
use Rattle.wassail_top.specs.Words.{IsNoCommand, mill_of, order_of}

-- the command about a module, or refused exactly where there is none
abbrev pub Parses : Option Order → Result Command WordsEnd → Type 0
Parses expected (Ok command) = expected ≡ Some (order_read command)
Parses expected (Err Refused) = expected ≡ None
Parses expected (Err Memory) = ⊤

-- the request that the words are, or refused exactly where they are none
abbrev pub ParsesRequest : List (List ℕ) → Result Request WordsEnd → Type 0
ParsesRequest words (Ok (request.Answer command)) = order_of words ≡ Some (order_read command)
ParsesRequest words (Ok (request.Mill count)) = mill_of words ≡ Some count
ParsesRequest words (Err Refused) = IsNoCommand words
ParsesRequest words (Err Memory) = ⊤

-- the name that a request asks for isn't too long
abbrev pub IsShort : Request → Type 0
IsShort (request.Answer command) = HasShortName (order_read command)
IsShort (request.Mill count) = ⊤

-- the arguments, or refused exactly where a word is none
abbrev pub ReadsArgs : Option (List ℤ) → Result (Vec ℤ Global) WordsEnd → Type 0
ReadsArgs expected (Ok args) = expected ≡ Some args.items
ReadsArgs expected (Err Refused) = expected ≡ None
ReadsArgs expected (Err Memory) = ⊤

-- the replies, likewise
abbrev pub ReadsReplies : Option (List Reply) → Result (List Reply) WordsEnd → Type 0
ReadsReplies expected (Ok replies) = expected ≡ Some replies
ReadsReplies expected (Err Refused) = expected ≡ None
ReadsReplies expected (Err Memory) = ⊤

-- both
abbrev pub ReadsGiven : Option (List ℤ × List Reply) → Result Given WordsEnd → Type 0
ReadsGiven expected (Ok given) = expected ≡ Some (given.args.items, given.replies)
ReadsGiven expected (Err Refused) = expected ≡ None
ReadsGiven expected (Err Memory) = ⊤
