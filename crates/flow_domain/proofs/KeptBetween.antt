-- What is kept depends on rows only where kept calls ask for them.
use Rattle.std.specs.Prelude.{◌≡◌, ℕ, List, Some}
use Rattle.wasm_types.specs.declared.instr.Instr.{Instr}
use Rattle.wasm_types.specs.declared.place.Loc.{Loc}
use Rattle.wasm_types.specs.Actions.{Callee}
use Rattle.wasm_types.specs.Nodes.{At}
use Rattle.wasm_types.specs.Reaching.{Writes}
use Rattle.wasm_types.specs.Sites.{DoHead, Site, Sites, IsSite, EndAt}
use Rattle.flow_domain.specs.Bounds.{Bounds, called, written_by}
use Rattle.flow_domain.specs.Kept.{KeptItem, criterion, criterion_operand, completes, whole, operand, using, argument, place, writer, deciding, carrying, ending, holding_at, holding_join, own_join}
use Rattle.flow_domain.specs.Rows.{Output, Final, CallRows, Item, Makes}

-- what a kept node may be asked for: its value, that it completes, or a location that it writes
abbrev pub Asked : Bounds → Sites → Item → Type 0
Asked B S (Makes n (Final x)) = Writes (written_by B S) x n
Asked B S _ = Unit {0}

module _ (B : Bounds) (R : CallRows) (S : Sites) (ends : List EndAt) where
  pub kept_asks : (i : Item) → KeptItem B R S ends i → Asked B S i
  kept_asks i (criterion s is mark) = tt
  kept_asks i (criterion_operand p k s is mark lt e) = tt
  kept_asks i (completes out h) = tt
  kept_asks i (whole s h is plain) = tt
  kept_asks i (operand p k s h is plain lt e) = tt
  kept_asks i (using s op h is hd plain u) = tt
  kept_asks i (argument p k g out s op h is hd c row e) = tt
  kept_asks i (place g out s op h is hd c row on) = tt
  kept_asks i (writer a h w path) = w
  kept_asks i (deciding n h shadow) = tt
  kept_asks i (carrying p l k s h is br lt e) = tt
  kept_asks i (ending e k h among lt g) = tt
  kept_asks i (holding_at q s h is lt lt') = tt
  kept_asks i (holding_join q s h is lt lt') = tt
  kept_asks i (own_join h) = tt

module _ (B : Bounds) (R Q : CallRows) (S : Sites) (ends : List EndAt) where
  -- wherever a kept call asks, what R has Q has
  abbrev pub KeptAsksWithin : Type 0
  KeptAsksWithin =
      (p : ℕ) (s : Site) (op : Instr) (g : Callee) (out : Output) (x : Loc) → IsSite S p s → s.head ≡ DoHead op → called B op ≡ Some g
      → KeptItem B R S ends (Makes (At p) out) → R g out x → Q g out x

  pub kept_between : KeptAsksWithin → (i : Item) → KeptItem B R S ends i → KeptItem B Q S ends i
  kept_between w i (criterion s is mark) = criterion s is mark
  kept_between w i (criterion_operand p k s is mark lt e) = criterion_operand p k s is mark lt e
  kept_between w i (completes out h) = completes out (kept_between w _ h)
  kept_between w i (whole s h is plain) = whole s (kept_between w _ h) is plain
  kept_between w i (operand p k s h is plain lt e) = operand p k s (kept_between w _ h) is plain lt e
  kept_between w i (using s op h is hd plain u) = using s op (kept_between w _ h) is hd plain u
  kept_between w i (argument p k g out s op h is hd c row e) = argument p k g out s op (kept_between w _ h) is hd c (w p s op g out _ is hd c h row) e
  kept_between w i (place {p = p} {x = x} g out s op h is hd c row on) = place g out s op (kept_between w _ h) is hd c (w p s op g out x is hd c h row) on
  kept_between w i (writer a h wr path) = writer a (kept_between w _ h) wr path
  kept_between w i (deciding n h shadow) = deciding n (kept_between w _ h) shadow
  kept_between w i (carrying p l k s h is br lt e) = carrying p l k s (kept_between w _ h) is br lt e
  kept_between w i (ending e k h among lt g) = ending e k (kept_between w _ h) among lt g
  kept_between w i (holding_at q s h is lt lt') = holding_at q s (kept_between w _ h) is lt lt'
  kept_between w i (holding_join q s h is lt lt') = holding_join q s (kept_between w _ h) is lt lt'
  kept_between w i (own_join h) = own_join (kept_between w _ h)
