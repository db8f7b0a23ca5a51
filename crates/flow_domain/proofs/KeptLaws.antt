-- The kept set is the least of the closed sets.
use Rattle.std.specs.Prelude.{◌≡◌, List, Bool, true}
use Rattle.wasm_types.specs.Sites.{Sites, EndAt}
use Rattle.flow_domain.specs.Bounds.{Bounds}
use Rattle.flow_domain.specs.Kept.{KeptItem, IsClosed, criterion, criterion_operand, completes, whole, operand, using, argument, place, writer, deciding, carrying, ending, holding_at, holding_join, own_join}
use Rattle.flow_domain.specs.Rows.{CallRows, Item}

module _ (B : Bounds) (R : CallRows) (S : Sites) (ends : List EndAt) (K : Item → Bool) where
  pub least : IsClosed B R S ends K → (x : Item) → KeptItem B R S ends x → K x ≡ true
  least c x (criterion {p = p} s is mark) = c.watched p s is mark
  least c x (criterion_operand {n = n} p k s is mark lt e) = c.watched_operands n p k s is mark lt e
  least c x (completes {n = n} out h) = c.completes n out (least c _ h)
  least c x (whole {p = p} s h is plain) = c.whole p s (least c _ h) is plain
  least c x (operand {n = n} p k s h is plain lt e) = c.operands n p k s (least c _ h) is plain lt e
  least c x (using {p = p} {x = y} s op h is hd plain u) = c.uses p y s op (least c _ h) is hd plain u
  least c x (argument {n = n} p k g out s op h is hd call row e) = c.arguments n p k g out s op (least c _ h) is hd call row e
  least c x (place {p = p} {x = y} g out s op h is hd call row on) = c.places p y g out s op (least c _ h) is hd call row on
  least c x (writer {x = y} {d = d} a h w path) = c.writers y d a (least c _ h) w path
  least c x (deciding {p = p} n h shadow) = c.shadows p n (least c _ h) shadow
  least c x (carrying {n = n} p l k s h is br lt e) = c.carries n p l k s (least c _ h) is br lt e
  least c x (ending {n = n} e k h among lt g) = c.live_ends n e k (least c _ h) among lt g
  least c x (holding_at {b = b} q s h is lt lt') = c.around_at b q s (least c _ h) is lt lt'
  least c x (holding_join {b = b} q s h is lt lt') = c.around_join b q s (least c _ h) is lt lt'
  least c x (own_join {b = b} h) = c.own_join b (least c _ h)

  pub closed : ((x : Item) → (K x ≡ true → KeptItem B R S ends x) × (KeptItem B R S ends x → K x ≡ true)) → IsClosed B R S ends K
  closed tells = record {
    watched = λ p s is mark. (tells _).1 (criterion s is mark);
    watched_operands = λ n p k s is mark lt e. (tells _).1 (criterion_operand p k s is mark lt e);
    completes = λ n out on. (tells _).1 (completes out ((tells _).0 on));
    whole = λ p s on is plain. (tells _).1 (whole s ((tells _).0 on) is plain);
    operands = λ n p k s on is plain lt e. (tells _).1 (operand p k s ((tells _).0 on) is plain lt e);
    uses = λ p y s op on is hd plain u. (tells _).1 (using s op ((tells _).0 on) is hd plain u);
    arguments = λ n p k g out s op on is hd call row e. (tells _).1 (argument p k g out s op ((tells _).0 on) is hd call row e);
    places = λ p y g out s op on is hd call row o. (tells _).1 (place g out s op ((tells _).0 on) is hd call row o);
    writers = λ y d a on w path. (tells _).1 (writer a ((tells _).0 on) w path);
    shadows = λ p n on shadow. (tells _).1 (deciding n ((tells _).0 on) shadow);
    carries = λ n p l k s on is br lt e. (tells _).1 (carrying p l k s ((tells _).0 on) is br lt e);
    live_ends = λ n e k on among lt g. (tells _).1 (ending e k ((tells _).0 on) among lt g);
    around_at = λ b q s on is lt lt'. (tells _).1 (holding_at q s ((tells _).0 on) is lt lt');
    around_join = λ b q s on is lt lt'. (tells _).1 (holding_join q s ((tells _).0 on) is lt lt');
    own_join = λ b on. (tells _).1 (own_join ((tells _).0 on));
  }
