-- What rows lead to depends on them only where calls ask for them.
use Rattle.std.proofs.Common.{◌≡◌, ℕ, List, Some}
use Rattle.wasm_types.specs.declared.place.Loc.{Loc}
use Rattle.wasm_types.specs.declared.place.Node.{Node}
use Rattle.wasm_types.specs.declared.instr.Instr.{Instr}
use Rattle.wasm_types.specs.Actions.{Callee}
use Rattle.wasm_types.specs.Funcs.{Func, func_of}
use Rattle.wasm_types.specs.Nodes.{At}
use Rattle.wasm_types.specs.Reaching.{Writes}
use Rattle.wasm_types.specs.Sites.{Site, Sites, IsSite, EndAt, DoHead}
use Rattle.flow_domain.specs.Bounds.{Bounds, called, written_by}
use Rattle.flow_domain.specs.Rows.{Output, Ret, Final, Done, Rows, CallRows, RowOf, Item, Makes, Place, Decider, Led, result, final, done_branch, done_trap, done_unreachable, writer, operand, reading, argument, place, carrying, ending, deciding, deciding_again, condition, LedTo, by_code, by_host, func_sites, func_ends}

-- ---- what is asked of a node: its value, that it completes, or a location that it writes

module _ (B : Bounds) (R : CallRows) (S : Sites) (E : List EndAt) (o : Output) where
  abbrev pub Asks : Node → Output → Type 0
  Asks n Ret = Unit {0}
  Asks n Done = Unit {0}
  Asks n (Final x) = Writes (written_by B S) x n

  abbrev pub AsksItem : Item → Type 0
  AsksItem (Makes n out) = Asks n out
  AsksItem (Place a x) = Unit {0}
  AsksItem (Decider p) = Unit {0}

  pub led_asks : (i : Item) → Led B R S E o i → AsksItem i
  led_asks i (result e) = tt
  led_asks i (final e) = tt
  led_asks i (done_branch l s e is br lp) = tt
  led_asks i (done_trap op s e is hd m) = tt
  led_asks i (done_unreachable s e is hd) = tt
  led_asks i (writer a led wr path) = wr
  led_asks i (operand p k out s op led is hd c nd g) = tt
  led_asks i (reading out s op led is hd nd) = tt
  led_asks i (argument p k g out s op led is hd c row e) = tt
  led_asks i (place g out s op led is hd c row on) = tt
  led_asks i (carrying p l k s led is br g) = tt
  led_asks i (ending e k led a g) = tt
  led_asks i (deciding n out led sh) = tt
  led_asks i (deciding_again q led sh) = tt
  led_asks i (condition p k s led is g) = tt

-- ---- other rows

module _ (B : Bounds) (R Q : CallRows) (S : Sites) (E : List EndAt) (o : Output) where
  -- wherever a call asks, what R has Q has
  abbrev pub AsksWithin : Type 0
  AsksWithin =
      (p : ℕ) (s : Site) (op : Instr) (g : Callee) (out : Output) (x : Loc) → IsSite S p s → s.head ≡ DoHead op → called B op ≡ Some g
      → Led B R S E o (Makes (At p) out) → R g out x → Q g out x

  pub led_between : AsksWithin → (i : Item) → Led B R S E o i → Led B Q S E o i
  led_between w i (result e) = result e
  led_between w i (final e) = final e
  led_between w i (done_branch l s e is br lp) = done_branch l s e is br lp
  led_between w i (done_trap op s e is hd m) = done_trap op s e is hd m
  led_between w i (done_unreachable s e is hd) = done_unreachable s e is hd
  led_between w i (writer a led wr path) = writer a (led_between w _ led) wr path
  led_between w i (operand p k out s op led is hd c nd g) = operand p k out s op (led_between w _ led) is hd c nd g
  led_between w i (reading out s op led is hd nd) = reading out s op (led_between w _ led) is hd nd
  led_between w i (argument p k g out s op led is hd c row e) =
      argument p k g out s op (led_between w _ led) is hd c (w p s op g out _ is hd c led row) e
  led_between w i (place {p = p} {x = x} g out s op led is hd c row on) =
      place g out s op (led_between w _ led) is hd c (w p s op g out x is hd c led row) on
  led_between w i (carrying p l k s led is br g) = carrying p l k s (led_between w _ led) is br g
  led_between w i (ending e k led a g) = ending e k (led_between w _ led) a g
  led_between w i (deciding n out led sh) = deciding n out (led_between w _ led) sh
  led_between w i (deciding_again q led sh) = deciding_again q (led_between w _ led) sh
  led_between w i (condition p k s led is g) = condition p k s (led_between w _ led) is g

-- wherever a call in function f asks for its output o, what R has Q has
abbrev pub FuncAsksWithin : Bounds → Rows → Rows → ℕ → Output → Type 0
FuncAsksWithin B R Q f o = (F : Func) → func_of B.m f ≡ Some F → AsksWithin B (RowOf B.m R) (RowOf B.m Q) (func_sites B F) (func_ends B F) o

pub ledto_between : (B : Bounds) (R Q : Rows) (f : ℕ) (o : Output) (x : Loc) → FuncAsksWithin B R Q f o → LedTo R B f o x → LedTo Q B f o x
ledto_between B R Q f o x w (by_code F is needed input) =
    by_code F is
    (record { at = needed.at; enters = needed.enters; led = led_between B (RowOf B.m R) (RowOf B.m Q) (func_sites B F) (func_ends B F) o (w F is) _ needed.led })
    input
ledto_between B R Q f o x w (by_host row) = by_host row
