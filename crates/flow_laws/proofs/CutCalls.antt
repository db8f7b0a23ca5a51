-- A cut calls what its body calls.
use Rattle.std.proofs.Common.{ℕ, zero, suc, ◌+◌, List, [], Bool, true, false, Option, Some, None, take, drop}
use Rattle.wasm_types.specs.declared.module.ValType.{ValType}
use Rattle.wasm_types.specs.declared.module.ValType.TheVariants as type
use Rattle.wasm_types.specs.declared.module.Module.{Module}
use Rattle.wasm_types.specs.declared.place.Node.{Node}
use Rattle.wasm_types.specs.Marked.{Marked, End, Do, Block, Loop, If, Br, BrIf, BrTable, Return, Unreachable, size}
use Rattle.wasm_types.specs.Actions.{callees, form_of, takes, leaves}
use Rattle.wasm_types.specs.Nodes.{At, Join, named, made}
use Rattle.wasm_types.specs.Labels.{arity}
use Rattle.wasm_meaning.specs.Appended.{OldForm, AllOld}
use Rattle.flow_domain.specs.Cut.{pick, shown, zero_const, drops, zeros, filler, result_of, cut}

old_pick : (m : Module) (q : Bool) (a b : Marked) → AllOld m a → AllOld m b → AllOld m (pick q a b)
old_pick m true a b x y = x
old_pick m false a b x y = y

old_drops : (m : Module) (n : ℕ) (c : Marked) → AllOld m c → AllOld m (drops n c)
old_drops m zero c o = o
old_drops m (suc n) c o = (tt, old_drops m n c o)

old_const : (m : Module) (t : ValType) → OldForm m (form_of (zero_const t))
old_const m type.I32 = tt
old_const m type.I64 = tt
old_const m type.F32 = tt
old_const m type.F64 = tt

old_zeros : (m : Module) (t : Option ValType) (c : Marked) → AllOld m c → AllOld m (zeros t c)
old_zeros m None c o = o
old_zeros m (Some t) c o = (old_const m t, o)

old_filler : (m : Module) (P : Node → Bool) (k : Option ValType) (d : Node) (c : Marked) → AllOld m c → AllOld m (filler P k d c)
old_filler m P None d c o = o
old_filler m P (Some t) d c o = old_pick m (P d) (Do false (zero_const t) c) c (old_const m t, o) o

module _ (m : Module) (K P : Node → Bool) (T : Node → ValType) where
  pub old_cut : (code : Marked) (t : Option ValType) (p : ℕ) (names : List Node) → AllOld m code → AllOld m (cut (callees m) K P T t code p names)
  old_cut End t p names o = tt
  old_cut (Do k op rest) t p names o =
      let c = cut (callees m) K P T t rest (p + 1) (made (callees m) p op names) in
      let r = old_cut rest t (p + 1) (made (callees m) p op names) o.1 in
      let n = shown P (take (takes (callees m) op) names) in
      let w = result_of (leaves (callees m) op) (T (At p)) in
      old_pick m (K (At p)) (Do k op c) (drops n (filler P w (At p) c)) (o.0, r) (old_drops m n (filler P w (At p) c) (old_filler m P w (At p) c r))
  old_cut (Block k r body rest) t p names o =
      let c = cut (callees m) K P T t rest (p + 1 + size body) (named (arity r) (Join p) names) in
      let x = old_cut rest t (p + 1 + size body) (named (arity r) (Join p) names) o.1 in
      old_pick m (K (At p)) (Block k r (cut (callees m) K P T r body (p + 1) []) c) (filler P r (Join p) c) (old_cut body r (p + 1) [] o.0, x)
      (old_filler m P r (Join p) c x)
  old_cut (Loop k r body rest) t p names o =
      let c = cut (callees m) K P T t rest (p + 1 + size body) (named (arity r) (Join p) names) in
      let x = old_cut rest t (p + 1 + size body) (named (arity r) (Join p) names) o.1 in
      old_pick m (K (At p)) (Loop k r (cut (callees m) K P T r body (p + 1) []) c) (filler P r (Join p) c) (old_cut body r (p + 1) [] o.0, x)
      (old_filler m P r (Join p) c x)
  old_cut (If k r x y rest) t p names o =
      let c = cut (callees m) K P T t rest (p + 1 + size x + size y) (named (arity r) (Join p) (drop 1 names)) in
      let z = old_cut rest t (p + 1 + size x + size y) (named (arity r) (Join p) (drop 1 names)) o.2 in
      let n = shown P (take 1 names) in
      old_pick m (K (At p)) (If k r (cut (callees m) K P T r x (p + 1) []) (cut (callees m) K P T r y (p + 1 + size x) []) c)
      (drops n (filler P r (Join p) c)) (old_cut x r (p + 1) [] o.0, old_cut y r (p + 1 + size x) [] o.1, z)
      (old_drops m n (filler P r (Join p) c) (old_filler m P r (Join p) c z))
  old_cut (Br k l rest) t p names o =
      old_pick m (K (At p)) (Br k l End) (drops (shown P names) (zeros t End)) tt (old_drops m (shown P names) (zeros t End) (old_zeros m t End tt))
  old_cut (BrIf k l rest) t p names o =
      let c = cut (callees m) K P T t rest (p + 1) (drop 1 names) in
      let r = old_cut rest t (p + 1) (drop 1 names) o in
      old_pick m (K (At p)) (BrIf k l c) (drops (shown P (take 1 names)) c) r (old_drops m (shown P (take 1 names)) c r)
  old_cut (BrTable k labels other rest) t p names o =
      old_pick m (K (At p)) (BrTable k labels other End) (drops (shown P names) (zeros t End)) tt
      (old_drops m (shown P names) (zeros t End) (old_zeros m t End tt))
  old_cut (Return k rest) t p names o =
      old_pick m (K (At p)) (Return k End) (drops (shown P names) (zeros t End)) tt (old_drops m (shown P names) (zeros t End) (old_zeros m t End tt))
  old_cut (Unreachable k rest) t p names o =
      old_pick m (K (At p)) (Unreachable k End) (drops (shown P names) (zeros t End)) tt (old_drops m (shown P names) (zeros t End) (old_zeros m t End tt))
