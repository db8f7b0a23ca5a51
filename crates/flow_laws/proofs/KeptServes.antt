-- The kept sets of a module keep the rules of slices.
use Rattle.std.proofs.Common.{◌≡◌, ℕ, List, [], ◌∷◌, Bool, true, None, refl, sym, ap, ◌∙◌, subst}
use Rattle.std.proofs.lemmas.List.Elements.{All-nil, All-cons}
use Rattle.std.specs.Prelude.{◌<◌}
use Rattle.wasm_types.specs.declared.module.ExportKind.TheVariants as export
use Rattle.wasm_types.specs.declared.module.Name.{Name}
use Rattle.wasm_types.specs.declared.module.Export.{Export}
use Rattle.wasm_types.specs.declared.module.Module.{Module}
use Rattle.wasm_types.specs.declared.instr.Instr.{Instr}
use Rattle.wasm_types.specs.declared.place.Loc.{Loc}
use Rattle.wasm_types.specs.declared.place.Node.{Node}
use Rattle.wasm_types.specs.Actions.{Callees, callees}
use Rattle.wasm_types.specs.Nodes.{At}
use Rattle.wasm_types.specs.Reaching.{writes_it, Enters, stands, steps}
use Rattle.wasm_types.specs.Sites.{Head, DoHead, BlockHead, LoopHead, IfHead, BrHead, BrIfHead, BrTableHead, ReturnHead, UnreachableHead, Site, Sites, IsSite, EndAt, operand_count, from_at, to_next}
use Rattle.flow_domain.specs.Bounds.{Bounds, bounds, writes, writes_at, written_by}
use Rattle.flow_domain.specs.Kept.{Tells, called_at, KeptItem, KeptNode, KeptMaker, criterion, criterion_operand, completes, whole, operand, using, argument, place, writer, deciding, carrying, ending, holding_at, holding_join, own_join}
use Rattle.flow_domain.specs.Rows.{Ret, Final, Done, CallRows, Makes, Place}
use Rattle.flow_domain.specs.Sliced.{func_count, rows_in, IsSliced}
use Rattle.flow_laws.specs.Cutting.{IsTest, NeedK, used, used_done, used_result, used_final, later, IsKept}
use Rattle.flow_laws.specs.Kept.{KeptServes, SlicedReturns}
use Rattle.flow_laws.specs.Slices.{IsSliceOf}
use Rattle.flow_laws.proofs.Fine.{wrote}
use Rattle.flow_laws.proofs.Module.{path_of}
use Rattle.flow_laws.proofs.ReachLaw.{exact_serves}
use Rattle.flow_laws.proofs.SliceReturns.{slice_returns}

test_takes : (cs : Callees) (h : Head) → IsTest h → operand_count cs h ≡ 1
test_takes cs (DoHead op) t = absurd t
test_takes cs (BlockHead kind) t = absurd t
test_takes cs (LoopHead kind) t = absurd t
test_takes cs (IfHead kind) t = refl
test_takes cs (BrHead l) t = absurd t
test_takes cs (BrIfHead l) t = refl
test_takes cs (BrTableHead labels other) t = refl
test_takes cs (ReturnHead l) t = absurd t
test_takes cs UnreachableHead t = absurd t

test_calls : (B : Bounds) (h : Head) → IsTest h → called_at B h ≡ None
test_calls B (DoHead op) t = absurd t
test_calls B (BlockHead kind) t = refl
test_calls B (LoopHead kind) t = refl
test_calls B (IfHead kind) t = refl
test_calls B (BrHead l) t = refl
test_calls B (BrIfHead l) t = refl
test_calls B (BrTableHead labels other) t = refl
test_calls B (ReturnHead l) t = refl
test_calls B UnreachableHead t = refl

module _ (B : Bounds) (R : CallRows) (S : Sites) (ends : List EndAt) (K M : Node → Bool) (k_is : Tells K (KeptNode B R S ends))
    (m_is : Tells M (KeptMaker B R S ends)) where
  -- a need leads to a place that is kept
  record Need (a : Node) (x : Loc) : Type 0 where
    pub at : Node
    pub enters : Enters (written_by B S) S x a at
    pub kept : KeptItem B R S ends (Place at x)

  -- what writes a location that is needed behind it
  writes_needed : (p : ℕ) (x : Loc) (s : Site) → IsSite S p s → writes_at B s.head x ≡ true → Need s.next x → KeptItem B R S ends (Makes (At p) (Final x))
  writes_needed p x s is w nd =
      let o = wrote B s.head x w in
      writer nd.at nd.kept (writes_it (s, is, w)) (path_of B S x (At p) s.next nd.at (from_at s is (to_next o.0 o.1)) nd.enters)

  op_writes : (s : Site) (op : Instr) (x : Loc) → s.head ≡ DoHead op → writes B op x ≡ true → writes_at B s.head x ≡ true
  op_writes s op x hd w = ap (λ h. writes_at B h x) hd ∙ w

  need_of : (a : Node) (x : Loc) → NeedK B R S K M a x → Need a x
  need_of _ x (used {p = p} s op is hd c on u) =
      record { at = At p; enters = stands; kept = using s op ((k_is (At p)).0 on) is hd c u }
  need_of _ x (used_done {p = p} g s op is hd c on row out) =
      record { at = At p; enters = stands; kept = place g Done s op ((k_is (At p)).0 on) is hd c row out }
  need_of _ x (used_result {p = p} g s op is hd c on row out) =
      record { at = At p; enters = stands; kept = place g Ret s op ((m_is (At p)).0 on) is hd c row out }
  need_of _ x (used_final {p = p} g y s op is hd c w nd row out) =
      record {
        at = At p;
        enters = stands;
        kept = place g (Final y) s op (writes_needed p y s is (op_writes s op y hd w) (need_of s.next y nd)) is hd c row out;
      }
  need_of a x (later b l off nd) = let n = need_of b x nd in record { at = n.at; enters = steps b l off n.enters; kept = n.kept }

  pub kept_serves_by : IsKept B R S ends K M
  kept_serves_by = record {
    makers = λ d on. (k_is d).1 (completes Ret ((m_is d).0 on));
    watched = λ p s is mark. ((m_is (At p)).1 (criterion s is mark), λ k d lt e. (m_is d).1 (criterion_operand p k s is mark lt e));
    operands =
        λ p s op is hd c on.
        let kept = (k_is (At p)).0 on in
        let none : called_at B s.head ≡ None = ap (called_at B) hd ∙ c in (
          (m_is (At p)).1 (whole s kept is none),
          λ k d lt e. (m_is d).1 (operand p k s kept is none (subst (λ z. k < z) (sym (ap (operand_count (callees B.m)) hd)) lt) e),
        );
    tests =
        λ p s is on t k d lt e. (m_is d).1
        (operand p k s ((k_is (At p)).0 on) is (test_calls B s.head t) (subst (λ z. k < z) (sym (test_takes (callees B.m) s.head t)) lt) e);
    args_done = λ p k g d s op is hd c on row e. (m_is d).1 (argument p k g Done s op ((k_is (At p)).0 on) is hd c row e);
    args_result = λ p k g d s op is hd c on row e. (m_is d).1 (argument p k g Ret s op ((m_is (At p)).0 on) is hd c row e);
    args_final =
        λ p k g y d s op is hd c w nd row e. (m_is d).1
        (argument p k g (Final y) s op (writes_needed p y s is (op_writes s op y hd w) (need_of s.next y nd)) is hd c row e);
    reaches = λ p x s is w nd. (k_is (At p)).1 (completes (Final x) (writes_needed p x s is w (need_of s.next x nd)));
    shadows = λ p n shadow on. (k_is (At p)).1 (deciding n ((k_is n).0 on) shadow);
    carries = λ p l s is br on k d lt e. (m_is d).1 (carrying p l k s (completes Ret ((m_is _).0 on)) is br lt e);
    live_ends = λ e among on k d lt g. (m_is d).1 (ending e k (completes Ret ((m_is e.owner).0 on)) among lt g);
    around_at = λ b q s is lt lt' on. (k_is (At b)).1 (holding_at q s ((k_is (At q)).0 on) is lt lt');
    around_join = λ b q s is lt lt' on. (k_is (At b)).1 (holding_join q s ((k_is _).0 on) is lt lt');
    own_join = λ b on. (k_is (At b)).1 (own_join ((k_is _).0 on));
  }

pub kept_serves : KeptServes
kept_serves m W S ends K M k_is m_is = kept_serves_by (bounds m W) (rows_in m W) S ends K M k_is m_is

slice_for : (m : Module) (f i : ℕ) (name : Name) (new : Module) (at : ℕ) (sl : IsSliced m f i name new at) → IsSliceOf m sl.cover f i new at
slice_for m f i name new at sl = record {
  type = sl.type;
  own = sl.own;
  kind = sl.kind;
  kind_is = sl.kind_is;
  body = sl.body;
  has_body = sl.has_body;
  site = sl.site;
  live = sl.live;
  kept = sl.kept;
  makers = sl.makers;
  present = sl.present;
  types = sl.types;
  rules = kept_serves m sl.cover _ _ sl.kept sl.makers sl.exact sl.made;
  holds = λ n nd. (sl.needed n).1 nd;
  exports = record { name = name; kind = export.Func; index = func_count m } ∷ [];
  only =
      All-cons (λ (e : Export). e.kind ≡ export.Func) (record { name = name; kind = export.Func; index = func_count m }) [] refl
      (All-nil (λ (e : Export). e.kind ≡ export.Func));
  is = sl.is;
  at_is = sl.at_is;
}

pub sliced_returns : SlicedReturns
sliced_returns m valid heights f i name new at sl =
    slice_returns m sl.cover valid (exact_serves m sl.cover valid heights sl.cover_is.writes) f i new at (slice_for m f i name new at sl)
