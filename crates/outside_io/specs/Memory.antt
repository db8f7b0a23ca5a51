-- What sources and sinks in memory are to a caller, and what their calls do.
use Rattle.std.specs.Prelude.{ℕ, ◌-◌, ◌≡◌, min, List, ◌++◌, length, drop, Result, Ok, Err}
use Rattle.outside_io.specs.Causes.{next_count}

-- A source in memory: the bytes that are left, how many it gives in one call, the numbers of the calls that fail, how many calls were made, and how many failed.
pub record SourceInMemory : Type 0 where
  pub left : List ℕ
  pub piece : ℕ
  pub fails : List ℕ
  pub calls : ℕ
  pub faults : ℕ

-- A sink in memory: the bytes that it holds, the room that is left, and the rest as of a source.
pub record SinkInMemory : Type 0 where
  pub held : List ℕ
  pub room : ℕ
  pub piece : ℕ
  pub fails : List ℕ
  pub calls : ℕ
  pub faults : ℕ

-- A call that doesn't fail and gives this many of the bytes that were left.
abbrev pub Gives : {E : Type 0} → ℕ → List ℕ → List ℕ → Result ℕ E → Type 0
Gives count old new (Ok n) = (n ≡ count) × (new ≡ drop n old)
Gives count old new (Err _) = ⊥

-- how many bytes a call on a source gives
abbrev pub given : SourceInMemory → ℕ → ℕ
given s room = min (min s.piece room) (length s.left)

-- how many bytes a call on a sink takes
abbrev pub taken : SinkInMemory → ℕ → ℕ
taken k count = min (min k.piece count) k.room

-- the source after a call that gave this many bytes
abbrev pub after_giving : SourceInMemory → ℕ → SourceInMemory
after_giving s count = record s { left = drop count s.left; calls = next_count s.calls }

-- the source after a call that failed
abbrev pub after_failing : SourceInMemory → SourceInMemory
after_failing s = record s { calls = next_count s.calls; faults = next_count s.faults }

-- the sink after a call that took these bytes
abbrev pub after_taking : SinkInMemory → List ℕ → SinkInMemory
after_taking k bytes = record k { held = k.held ++ bytes; room = k.room - length bytes; calls = next_count k.calls }

-- the sink after a call that failed
abbrev pub after_refusing : SinkInMemory → SinkInMemory
after_refusing k = record k { calls = next_count k.calls; faults = next_count k.faults }
