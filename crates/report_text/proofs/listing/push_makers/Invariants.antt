use Rattle.std.proofs.Common.{◌≡◌, ◌++◌, drop, map}
use Rattle.report_text.specs.Listing.{nodes_after}
use Rattle.report_text.specs.ListingOf.{maker_of}
use Rattle.report_text.specs.Drafts.{written}
use Rattle.report_text.proofs.listing.push_makers.Given as goal

abbrev pub invariant-loop-place : goal.invariant-loop-place
invariant-loop-place l = written l.out ++ nodes_after (map maker_of (drop l.place-index l.places)) ≡ written l.initial.out ++ nodes_after (map maker_of l.places)
