-- The reply made, and then what the items that are left do, is the reply that was to be made.
use Rattle.std.proofs.Common.{◌≡◌}
use Rattle.std.specs.Option.{option_copied}
use Rattle.run_words.specs.Words.{items_of, joined_to, pieces_left}
use Rattle.run_words.proofs.Joined.{size_left}
use Rattle.run_words.proofs.replies.parse_items.Given as goal

abbrev pub invariant-loop-left : goal.invariant-loop-left
invariant-loop-left l = joined_to l.reply (items_of (pieces_left (option_copied l.left))) ≡ joined_to l.initial.reply (items_of (pieces_left (option_copied l.initial.left)))

abbrev pub decreases-loop-left : goal.decreases-loop-left
decreases-loop-left l = size_left (option_copied l.left)
