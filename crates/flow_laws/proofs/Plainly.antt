-- Code without its marks, as a list of instructions and back.
use Rattle.std.proofs.Common.{◌≡◌, ℕ, zero, suc, ◌+◌, take, drop, List, [], ◌∷◌, Bool, true, false, Option, Some, None, refl, sym, ap, ap₂, ◌∙◌, true≢false}
use Rattle.wasm_types.specs.declared.module.ValType.{ValType}
use Rattle.wasm_types.specs.declared.module.ValType.TheVariants as type
use Rattle.wasm_types.specs.declared.instr.Instr.{Instr, Drop, Row_of-Instr, end_of-Instr, more_of-Instr}
use Rattle.wasm_types.specs.declared.instr.Instr as instr
use Rattle.wasm_types.specs.Code.{Code, done, one, block, repeat, branch, count, onto, code_of_row, code_of, list_of, is_plain}
use Rattle.wasm_types.specs.Code as sequence
use Rattle.wasm_types.specs.Marked.{Marked, End, Do, Block, Loop, If, Br, BrIf, BrTable, Return, Unreachable, plain, marked, unmarked, size}
use Rattle.wasm_types.proofs.CodeLemmas.{onto-one, onto-block, onto-loop, onto-if}
use Rattle.wasm_types.specs.Actions.{Callees, takes, leaves}
use Rattle.wasm_types.specs.Labels.{arity}
use Rattle.wasm_types.specs.declared.place.Node.{Node}
use Rattle.wasm_types.specs.Nodes.{At, Join, named, made}
use Rattle.flow_domain.specs.Cut.{pick, shown, zero_const, drops, zeros, filler, result_of, cut}
use Rattle.flow_laws.proofs.Marks.{IsKind, ByKind}

-- each instruction that holds no others is a plain
abbrev pub Leafy : Code → Type 0
Leafy done = Unit {0}
Leafy (one op rest) = (is_plain op ≡ true) × Leafy rest
Leafy (block kind body rest) = Leafy body × Leafy rest
Leafy (repeat kind body rest) = Leafy body × Leafy rest
Leafy (branch kind x y rest) = Leafy x × Leafy y × Leafy rest

mutual
  unfolding sequence.onto sequence.code_of_row

  leafy_onto : (i : Instr) (rest : Code) → Leafy rest → Leafy (onto i rest)
  leafy_onto (instr.Block' kind m inner) rest l = (leafy_row inner, l)
  leafy_onto (instr.Loop' kind m inner) rest l = (leafy_row inner, l)
  leafy_onto (instr.If' kind m first n second) rest l = (leafy_row first, leafy_row second, l)
  leafy_onto _ rest l = (refl, l)

  leafy_row : {m : _} → (row : Row_of-Instr m) → Leafy (code_of_row row)
  leafy_row end_of-Instr = tt
  leafy_row (more_of-Instr i rest) = leafy_onto i (code_of_row rest) (leafy_row rest)

pub leafy_code : (is : List Instr) → Leafy (code_of is)
leafy_code [] = tt
leafy_code (i ∷ is) = leafy_onto i (code_of is) (leafy_code is)

-- leafy code as a list, and back
pub code_back : (c : Code) → Leafy c → code_of (list_of c) ≡ c
code_back done l = refl
code_back (one i rest) l = onto-one i (code_of (list_of rest)) l.0 ∙ ap (one i) (code_back rest l.1)
code_back (block k inner rest) l =
    onto-block k (list_of inner) (code_of (list_of rest)) ∙ ap₂ {A = Code} {B = Code} (λ a b. block k a b) (code_back inner l.0) (code_back rest l.1)
code_back (repeat k inner rest) l =
    onto-loop k (list_of inner) (code_of (list_of rest)) ∙ ap₂ {A = Code} {B = Code} (λ a b. repeat k a b) (code_back inner l.0) (code_back rest l.1)
code_back (branch k x y rest) l =
    onto-if k (list_of x) (list_of y) (code_of (list_of rest)) ∙ ap (λ z. branch k z (code_of (list_of y)) (code_of (list_of rest))) (code_back x l.0)
    ∙ ap₂ {A = Code} {B = Code} (λ a b. branch k x a b) (code_back y l.1) (code_back rest l.2)

-- instructions that go on to the next one stand as such
abbrev pub Plainly : Marked → Type 0
Plainly End = Unit {0}
Plainly (Do m op rest) = IsKind op × (is_plain op ≡ true) × Plainly rest
Plainly (Block m kind body rest) = Plainly body × Plainly rest
Plainly (Loop m kind body rest) = Plainly body × Plainly rest
Plainly (If m kind x y rest) = Plainly x × Plainly y × Plainly rest
Plainly (Br m l rest) = Plainly rest
Plainly (BrIf m l rest) = Plainly rest
Plainly (BrTable m labels other rest) = Plainly rest
Plainly (Return m rest) = Plainly rest
Plainly (Unreachable m rest) = Plainly rest

pub by_kind : (c : Marked) → Plainly c → ByKind c
by_kind End s = tt
by_kind (Do m op rest) s = (s.0, by_kind rest s.2)
by_kind (Block m kind body rest) s = (by_kind body s.0, by_kind rest s.1)
by_kind (Loop m kind body rest) s = (by_kind body s.0, by_kind rest s.1)
by_kind (If m kind x y rest) s = (by_kind x s.0, by_kind y s.1, by_kind rest s.2)
by_kind (Br m l rest) s = by_kind rest s
by_kind (BrIf m l rest) s = by_kind rest s
by_kind (BrTable m labels other rest) s = by_kind rest s
by_kind (Return m rest) s = by_kind rest s
by_kind (Unreachable m rest) s = by_kind rest s

pub leafy_of : (c : Marked) → Plainly c → Leafy (unmarked c)
leafy_of End s = tt
leafy_of (Do m op rest) s = (s.1, leafy_of rest s.2)
leafy_of (Block m kind body rest) s = (leafy_of body s.0, leafy_of rest s.1)
leafy_of (Loop m kind body rest) s = (leafy_of body s.0, leafy_of rest s.1)
leafy_of (If m kind x y rest) s = (leafy_of x s.0, leafy_of y s.1, leafy_of rest s.2)
leafy_of (Br m l rest) s = (refl, leafy_of rest s)
leafy_of (BrIf m l rest) s = (refl, leafy_of rest s)
leafy_of (BrTable m labels other rest) s = (refl, leafy_of rest s)
leafy_of (Return m rest) s = (refl, leafy_of rest s)
leafy_of (Unreachable m rest) s = (refl, leafy_of rest s)

plainly_leaf : (m : Bool) (op : Instr) (rest : Marked) → is_plain op ≡ true → Plainly rest → Plainly (plain m op rest)
plainly_leaf m instr.Unreachable rest l s = s
plainly_leaf m instr.Return rest l s = s
plainly_leaf m (instr.Br k) rest l s = s
plainly_leaf m (instr.BrIf k) rest l s = s
plainly_leaf m (instr.BrTable labels other) rest l s = s
plainly_leaf m (instr.Block' kind k inner) rest l s = absurd (true≢false (sym l))
plainly_leaf m (instr.Loop' kind k inner) rest l s = absurd (true≢false (sym l))
plainly_leaf m (instr.If' kind k first n second) rest l s = absurd (true≢false (sym l))
plainly_leaf m _ rest l s = ((λ k r. refl), refl, s)

pub plainly_marked : (w : ℕ → Bool) (code : Code) (p : ℕ) → Leafy code → Plainly (marked w p code)
plainly_marked w done p l = tt
plainly_marked w (one op rest) p l = plainly_leaf (w p) op _ l.0 (plainly_marked w rest (p + 1) l.1)
plainly_marked w (block kind body rest) p l = (plainly_marked w body (p + 1) l.0, plainly_marked w rest (p + 1 + count body) l.1)
plainly_marked w (repeat kind body rest) p l = (plainly_marked w body (p + 1) l.0, plainly_marked w rest (p + 1 + count body) l.1)
plainly_marked w (branch kind x y rest) p l =
    (plainly_marked w x (p + 1) l.0, plainly_marked w y (p + 1 + count x) l.1, plainly_marked w rest (p + 1 + count x + count y) l.2)

-- ---- of a cut

plainly_pick : (q : Bool) (a b : Marked) → Plainly a → Plainly b → Plainly (pick q a b)
plainly_pick true a b x y = x
plainly_pick false a b x y = y

plainly_drops : (n : ℕ) (c : Marked) → Plainly c → Plainly (drops n c)
plainly_drops zero c o = o
plainly_drops (suc n) c o = ((λ k r. refl), refl, plainly_drops n c o)

plainly_const : (t : ValType) (c : Marked) → Plainly c → Plainly (Do false (zero_const t) c)
plainly_const type.I32 c o = ((λ k r. refl), refl, o)
plainly_const type.I64 c o = ((λ k r. refl), refl, o)
plainly_const type.F32 c o = ((λ k r. refl), refl, o)
plainly_const type.F64 c o = ((λ k r. refl), refl, o)

plainly_zeros : (t : Option ValType) (c : Marked) → Plainly c → Plainly (zeros t c)
plainly_zeros None c o = o
plainly_zeros (Some t) c o = plainly_const t c o

plainly_filler : (P : Node → Bool) (k : Option ValType) (d : Node) (c : Marked) → Plainly c → Plainly (filler P k d c)
plainly_filler P None d c o = o
plainly_filler P (Some t) d c o = plainly_pick (P d) (Do false (zero_const t) c) c (plainly_const t c o) o

module _ (cs : Callees) (K P : Node → Bool) (T : Node → ValType) where
  pub plainly_cut : (code : Marked) (t : Option ValType) (p : ℕ) (names : List Node) → Plainly code → Plainly (cut cs K P T t code p names)
  plainly_cut End t p names o = tt
  plainly_cut (Do k op rest) t p names o =
      let c = cut cs K P T t rest (p + 1) (made cs p op names) in
      let r = plainly_cut rest t (p + 1) (made cs p op names) o.2 in
      let n = shown P (take (takes cs op) names) in
      let w = result_of (leaves cs op) (T (At p)) in
      plainly_pick (K (At p)) (Do k op c) (drops n (filler P w (At p) c)) (o.0, o.1, r) (plainly_drops n (filler P w (At p) c) (plainly_filler P w (At p) c r))
  plainly_cut (Block k r body rest) t p names o =
      let c = cut cs K P T t rest (p + 1 + size body) (named (arity r) (Join p) names) in
      let x = plainly_cut rest t (p + 1 + size body) (named (arity r) (Join p) names) o.1 in
      plainly_pick (K (At p)) (Block k r (cut cs K P T r body (p + 1) []) c) (filler P r (Join p) c) (plainly_cut body r (p + 1) [] o.0, x)
      (plainly_filler P r (Join p) c x)
  plainly_cut (Loop k r body rest) t p names o =
      let c = cut cs K P T t rest (p + 1 + size body) (named (arity r) (Join p) names) in
      let x = plainly_cut rest t (p + 1 + size body) (named (arity r) (Join p) names) o.1 in
      plainly_pick (K (At p)) (Loop k r (cut cs K P T r body (p + 1) []) c) (filler P r (Join p) c) (plainly_cut body r (p + 1) [] o.0, x)
      (plainly_filler P r (Join p) c x)
  plainly_cut (If k r x y rest) t p names o =
      let c = cut cs K P T t rest (p + 1 + size x + size y) (named (arity r) (Join p) (drop 1 names)) in
      let z = plainly_cut rest t (p + 1 + size x + size y) (named (arity r) (Join p) (drop 1 names)) o.2 in
      let n = shown P (take 1 names) in
      plainly_pick (K (At p)) (If k r (cut cs K P T r x (p + 1) []) (cut cs K P T r y (p + 1 + size x) []) c) (drops n (filler P r (Join p) c))
      (plainly_cut x r (p + 1) [] o.0, plainly_cut y r (p + 1 + size x) [] o.1, z) (plainly_drops n (filler P r (Join p) c) (plainly_filler P r (Join p) c z))
  plainly_cut (Br k l rest) t p names o =
      plainly_pick (K (At p)) (Br k l End) (drops (shown P names) (zeros t End)) tt (plainly_drops (shown P names) (zeros t End) (plainly_zeros t End tt))
  plainly_cut (BrIf k l rest) t p names o =
      let c = cut cs K P T t rest (p + 1) (drop 1 names) in
      let r = plainly_cut rest t (p + 1) (drop 1 names) o in
      plainly_pick (K (At p)) (BrIf k l c) (drops (shown P (take 1 names)) c) r (plainly_drops (shown P (take 1 names)) c r)
  plainly_cut (BrTable k labels other rest) t p names o =
      plainly_pick (K (At p)) (BrTable k labels other End) (drops (shown P names) (zeros t End)) tt
      (plainly_drops (shown P names) (zeros t End) (plainly_zeros t End tt))
  plainly_cut (Return k rest) t p names o =
      plainly_pick (K (At p)) (Return k End) (drops (shown P names) (zeros t End)) tt (plainly_drops (shown P names) (zeros t End) (plainly_zeros t End tt))
  plainly_cut (Unreachable k rest) t p names o =
      plainly_pick (K (At p)) (Unreachable k End) (drops (shown P names) (zeros t End)) tt
      (plainly_drops (shown P names) (zeros t End) (plainly_zeros t End tt))
