-- What stands at a position that calls nothing reads, checks and writes by its action alone; and whom a position calls.
use Rattle.std.proofs.Common.{◌≡◌, ◌⊎◌, inl, inr, true, false, Option, Some, None, refl, sym, ap, ◌∙◌, true≢false}
use Rattle.wasm_types.specs.declared.instr.Instr.{Instr}
use Rattle.wasm_types.specs.declared.place.Loc.{Loc}
use Rattle.wasm_types.specs.Actions.{callees, Callee, Task, NoTask, Acts, Asks, task_of, called_of}
use Rattle.wasm_types.specs.Locations.{TaskReads, TaskChecks, TaskWrites}
use Rattle.wasm_types.specs.Reaching.{HeadReads, HeadChecks, HeadWrites}
use Rattle.wasm_types.specs.Sites.{Head, DoHead, BlockHead, LoopHead, IfHead, BrHead, BrIfHead, BrTableHead, ReturnHead, UnreachableHead}
use Rattle.flow_domain.specs.Bounds.{Cover, Bounds, reads, checks, called, reads_of, checks_of, writes_of, writes_at}
use Rattle.flow_domain.specs.Kept.{called_at}
use Rattle.flow_domain.specs.Sliced.{no_calls}

-- ---- tasks

off_on : {A : Type 0} → false ≡ true → A
off_on e = absurd (true≢false (sym e))

a_callee : {A : Type 0} (g : Callee) → Some g ≡ None → A
a_callee g e = absurd cc

same_callee : (g h : Callee) → Some g ≡ Some h → g ≡ h
same_callee g h e = cc

-- what it reads or checks
abbrev Uses : Cover → Task → Loc → Type 0
Uses W t x = (reads_of t x ≡ true) ⊎ (checks_of W t x ≡ true)

from_reads : (W : Cover) (t : Task) (x : Loc) → TaskReads t x → (called_of t ≡ None) × Uses W t x
from_reads W NoTask x h = absurd h
from_reads W (Acts a) x h = (refl, inl h)
from_reads W (Asks g n r) x h = absurd h

from_checks : (W : Cover) (t : Task) (x : Loc) → TaskChecks no_calls t x → (called_of t ≡ None) × Uses W t x
from_checks W NoTask x h = absurd h
from_checks W (Acts a) x h = (refl, inr h)
from_checks W (Asks g n r) x h = absurd h

to_reads : (t : Task) (x : Loc) → reads_of t x ≡ true → TaskReads t x
to_reads NoTask x e = off_on e
to_reads (Acts a) x e = e
to_reads (Asks g n r) x e = off_on e

to_checks : (W : Cover) (t : Task) (x : Loc) → called_of t ≡ None → checks_of W t x ≡ true → TaskChecks no_calls t x
to_checks W NoTask x c e = off_on e
to_checks W (Acts a) x c e = e
to_checks W (Asks g n r) x c e = a_callee g c

from_writes : (W : Cover) (t : Task) (x : Loc) → TaskWrites no_calls t x → writes_of W t x ≡ true
from_writes W NoTask x h = absurd h
from_writes W (Acts a) x h = h
from_writes W (Asks g n r) x h = absurd h

to_writes : (W : Cover) (t : Task) (x : Loc) → called_of t ≡ None → writes_of W t x ≡ true → TaskWrites no_calls t x
to_writes W NoTask x c e = off_on e
to_writes W (Acts a) x c e = e
to_writes W (Asks g n r) x c e = a_callee g c

call_writes : (W : Cover) (t : Task) (g : Callee) (x : Loc) → called_of t ≡ Some g → writes_of W t x ≡ W.writes g x
call_writes W NoTask g x e = absurd cc
call_writes W (Acts a) g x e = absurd cc
call_writes W (Asks h n r) g x e = ap (λ z. W.writes z x) (same_callee h g e)

-- ---- what stands at a position

module _ (B : Bounds) where
  -- an instruction that calls nothing, and a location that it reads or checks
  pub record PlainUse (h : Head) (x : Loc) : Type 0 where
    pub op : Instr
    pub is : h ≡ DoHead op
    pub none : called B op ≡ None
    pub uses : (reads B op x ≡ true) ⊎ (checks B op x ≡ true)

  by_task : (op : Instr) (x : Loc) → (called B op ≡ None) × Uses B.cover (task_of (callees B.m) op) x → PlainUse (DoHead op) x
  by_task op x h = record { op = op; is = refl; none = h.0; uses = h.1 }

  pub head_reads : (h : Head) (x : Loc) → HeadReads (callees B.m) h x → PlainUse h x
  head_reads (DoHead op) x r = by_task op x (from_reads B.cover (task_of (callees B.m) op) x r)
  head_reads (BlockHead kind) x r = absurd r
  head_reads (LoopHead kind) x r = absurd r
  head_reads (IfHead kind) x r = absurd r
  head_reads (BrHead l) x r = absurd r
  head_reads (BrIfHead l) x r = absurd r
  head_reads (BrTableHead labels other) x r = absurd r
  head_reads (ReturnHead l) x r = absurd r
  head_reads UnreachableHead x r = absurd r

  pub head_checks : (h : Head) (x : Loc) → HeadChecks (callees B.m) no_calls h x → PlainUse h x
  head_checks (DoHead op) x r = by_task op x (from_checks B.cover (task_of (callees B.m) op) x r)
  head_checks (BlockHead kind) x r = absurd r
  head_checks (LoopHead kind) x r = absurd r
  head_checks (IfHead kind) x r = absurd r
  head_checks (BrHead l) x r = absurd r
  head_checks (BrIfHead l) x r = absurd r
  head_checks (BrTableHead labels other) x r = absurd r
  head_checks (ReturnHead l) x r = absurd r
  head_checks UnreachableHead x r = absurd r

  pub use_head : (op : Instr) (x : Loc) → called B op ≡ None → (reads B op x ≡ true) ⊎ (checks B op x ≡ true)
      → HeadReads (callees B.m) (DoHead op) x ⊎ HeadChecks (callees B.m) no_calls (DoHead op) x
  use_head op x c (inl e) = inl (to_reads (task_of (callees B.m) op) x e)
  use_head op x c (inr e) = inr (to_checks B.cover (task_of (callees B.m) op) x c e)

  pub head_writes : (h : Head) (x : Loc) → HeadWrites (callees B.m) no_calls h x → writes_at B h x ≡ true
  head_writes (DoHead op) x w = from_writes B.cover (task_of (callees B.m) op) x w
  head_writes (BlockHead kind) x w = absurd w
  head_writes (LoopHead kind) x w = absurd w
  head_writes (IfHead kind) x w = absurd w
  head_writes (BrHead l) x w = absurd w
  head_writes (BrIfHead l) x w = absurd w
  head_writes (BrTableHead labels other) x w = absurd w
  head_writes (ReturnHead l) x w = absurd w
  head_writes UnreachableHead x w = absurd w

  pub writes_head : (h : Head) (x : Loc) → called_at B h ≡ None → writes_at B h x ≡ true → HeadWrites (callees B.m) no_calls h x
  writes_head (DoHead op) x c e = to_writes B.cover (task_of (callees B.m) op) x c e
  writes_head (BlockHead kind) x c e = off_on e
  writes_head (LoopHead kind) x c e = off_on e
  writes_head (IfHead kind) x c e = off_on e
  writes_head (BrHead l) x c e = off_on e
  writes_head (BrIfHead l) x c e = off_on e
  writes_head (BrTableHead labels other) x c e = off_on e
  writes_head (ReturnHead l) x c e = off_on e
  writes_head UnreachableHead x c e = off_on e

  -- an instruction that calls
  pub record Call (h : Head) (g : Callee) : Type 0 where
    pub op : Instr
    pub is : h ≡ DoHead op
    pub calls : called B op ≡ Some g

  not_called : {A : Type 0} (g : Callee) → None ≡ Some g → A
  not_called g e = absurd cc

  pub call_there : (h : Head) (g : Callee) → called_at B h ≡ Some g → Call h g
  call_there (DoHead op) g c = record { op = op; is = refl; calls = c }
  call_there (BlockHead kind) g c = not_called g c
  call_there (LoopHead kind) g c = not_called g c
  call_there (IfHead kind) g c = not_called g c
  call_there (BrHead l) g c = not_called g c
  call_there (BrIfHead l) g c = not_called g c
  call_there (BrTableHead labels other) g c = not_called g c
  call_there (ReturnHead l) g c = not_called g c
  call_there UnreachableHead g c = not_called g c

  pub called_there : (h : Head) (op : Instr) (o : Option Callee) → h ≡ DoHead op → called B op ≡ o → called_at B h ≡ o
  called_there h op o is c = ap (called_at B) is ∙ c

  -- what a call writes
  pub call_writes_at : (h : Head) (op : Instr) (g : Callee) (x : Loc) → h ≡ DoHead op → called B op ≡ Some g → writes_at B h x ≡ B.cover.writes g x
  call_writes_at h op g x is c = ap (λ z. writes_at B z x) is ∙ call_writes B.cover (task_of (callees B.m) op) g x c
