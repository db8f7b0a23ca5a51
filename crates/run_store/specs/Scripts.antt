-- Replies in order, and how many of them were used.
use Rattle.std.specs.Prelude.{ℕ, ◌+◌, ◌≤◌, if◌then◌else◌, List, length, nat_lt}
use Rattle.wasm_types.specs.declared.run.Reply.{Reply}

pub record Replies : Type 0 where
  pub replies : List Reply
  pub used : ℕ

abbrev pub AreUsed : Replies → Type 0
AreUsed s = s.used ≤ length s.replies

abbrev pub advanced : Replies → Replies
advanced s = if nat_lt s.used (length s.replies) then record s { used = s.used + 1 } else s
