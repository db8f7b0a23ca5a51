-- What takes each value, against the sites and the live ends of a body.
use Rattle.std.proofs.Common.{inl, inr, ◌≡◌, ℕ, zero, suc, ◌+◌, ◌≤◌, ◌<◌, List, [], ◌∷◌, ◌++◌, map, Bool, true, false, Option, Some, None, drop, slice_get, if◌then◌else◌, refl, sym, ap, ap₂, ◌∙◌, subst, arith, eq-eqb, eqb-true}
use Rattle.wasm_types.specs.declared.module.ValType.{ValType}
use Rattle.wasm_types.specs.declared.place.Node.{Node}
use Rattle.wasm_types.specs.declared.place.Node.TheVariants as node
use Rattle.wasm_types.specs.declared.place.Taker.{Taker}
use Rattle.wasm_types.specs.declared.place.Taker.TheVariants as taker
use Rattle.wasm_types.specs.declared.instr.Instr.{Instr}
use Rattle.wasm_types.specs.Marked.{Marked, End, Do, Block, Loop, If, Br, BrIf, BrTable, Return, Unreachable, size}
use Rattle.wasm_types.specs.Typing.{Context}
use Rattle.wasm_types.specs.Validity.{values_of}
use Rattle.wasm_types.specs.Actions.{callees, takes, leaves}
use Rattle.wasm_types.specs.Nodes.{At, Join, named, made}
use Rattle.wasm_types.specs.Labels.{arity, carried, outermost, Label, block_label, loop_label, arities, join_of}
use Rattle.wasm_types.specs.Sites.{Head, DoHead, BlockHead, LoopHead, IfHead, Site, Sites, IsSite, sites, EndAt, one_end, end_names, inner_ends, all_operands, Among}
use Rattle.wasm_types.specs.Takers.{node_eq, given, taken, taken_at, takings}
use Rattle.flow_domain.specs.Presence.{AmongFirst}
use Rattle.stack_repair.proofs.Typed.{Typed}
use Rattle.stack_repair.proofs.Positions.{HasAt, has_front, has_back, length-sites, among_left, among_right, among_end}

-- ---- what pairs give to a node

pub node_same : (m n : Node) → node_eq m n ≡ true → m ≡ n
node_same (node.At p) (node.At q) e = ap (λ z. At z) (eqb-true p.0 q.0 e)
node_same (node.Join b) (node.Join c) e = ap (λ z. Join z) (eqb-true b.0 c.0 e)
node_same node.Exit node.Exit e = refl
node_same (node.At p) (node.Join c) e = absurd cc
node_same (node.At p) node.Exit e = absurd cc
node_same (node.Join b) (node.At q) e = absurd cc
node_same (node.Join b) node.Exit e = absurd cc
node_same node.Exit (node.At q) e = absurd cc
node_same node.Exit (node.Join c) e = absurd cc

pub node_self : (n : Node) → node_eq n n ≡ true
node_self (node.At p) = eq-eqb p.0 p.0 refl
node_self (node.Join b) = eq-eqb b.0 b.0 refl
node_self node.Exit = refl

pub has_given : (L : List (Node × Taker)) (n : Node) (x : Taker) → Among (given n L) x → Among L (n, x)
has_given [] n x a = absurd a
has_given (y ∷ L) n x a = go (node_eq n y.0) refl (has_given L n x) a
  where
    go : (b : Bool) → node_eq n y.0 ≡ b → (Among (given n L) x → Among L (n, x)) → Among (if b then y.1 ∷ given n L else given n L) x → Among (y ∷ L) (n, x)
    go true e more (inl q) = inl (ap₂ {A = Node} {B = Taker} (λ a b. (a, b)) (sym (node_same n y.0 e)) q)
    go true e more (inr q) = inr (more q)
    go false e more q = inr (more q)

pub given_has : (L : List (Node × Taker)) (n : Node) (x : Taker) → Among L (n, x) → Among (given n L) x
given_has [] n x a = absurd a
given_has (y ∷ L) n x (inl q) =
    subst (λ b. Among (if b then y.1 ∷ given n L else given n L) x) (let f : y.0 ≡ n = ap (λ (z : Node × Taker). z.0) q in sym (node_self n) ∙ ap (node_eq n) (sym f)) (inl (ap (λ (z : Node × Taker). z.1) q))
given_has (y ∷ L) n x (inr q) = go (node_eq n y.0) (given_has L n x q)
  where
    go : (b : Bool) → Among (given n L) x → Among (if b then y.1 ∷ given n L else given n L) x
    go true more = inr more
    go false more = more

-- ---- each pair

module _ (c : Context) (S : Sites) (ends : List EndAt) (T : Node → ValType) where
  -- a position that makes a value is an instruction that leaves one, directly in the sequence after which k stands; and a join is that of a position
  abbrev pub MadeIn : Node → Node → Type 0
  MadeIn k (node.At q) =
      (s : Site) × (op : Instr) × IsSite S q.0 s × (s.head ≡ DoHead op) × (1 ≤ leaves (callees c.inside) op) × (join_of s.around 0 ≡ k)
  MadeIn k (node.Join b) = (s : Site) × IsSite S b.0 s
  MadeIn k node.Exit = Unit {0}

  abbrev pub KindIs : Head → Option ValType → Type 0
  KindIs (BlockHead kind) t = kind ≡ t
  KindIs (LoopHead kind) t = kind ≡ t
  KindIs (IfHead kind) t = kind ≡ t
  KindIs _ t = ⊥

  -- the sequence after which k stands has this result
  abbrev pub Owns : Node → Option ValType → Type 0
  Owns node.Exit t = slice_get c.result 0 ≡ t
  Owns (node.Join b) t = (s : Site) × IsSite S b.0 s × KindIs s.head t
  Owns (node.At p) t = ⊥

  abbrev pub IsTaken : Node → Taker → Type 0
  IsTaken n (taker.Instr r) =
      (k : Node) × MadeIn k n × (s : Site) × IsSite S r.0 s × AmongFirst (all_operands (callees c.inside) s.around s.head) s.names n
  IsTaken n (taker.End k) =
      MadeIn k n × (e : EndAt) × Among ends e × (e.owner ≡ k) × AmongFirst e.count e.names n × (t : Option ValType) × Owns k t × (t ≡ Some (T n))

  abbrev pub EachTaken : List (Node × Taker) → Type 0
  EachTaken [] = Unit {0}
  EachTaken (x ∷ xs) = IsTaken x.0 x.1 × EachTaken xs

  pub taken_in : (L : List (Node × Taker)) (n : Node) (x : Taker) → EachTaken L → Among L (n, x) → IsTaken n x
  taken_in [] n x h a = absurd a
  taken_in (y ∷ L) n x h (inl q) = subst (λ (z : Node × Taker). IsTaken z.0 z.1) q h.0
  taken_in (y ∷ L) n x h (inr q) = taken_in L n x h.1 q

  each_append : (xs ys : List (Node × Taker)) → EachTaken xs → EachTaken ys → EachTaken (xs ++ ys)
  each_append [] ys h g = g
  each_append (x ∷ xs) ys h g = (h.0, each_append xs ys h.1 g)

  abbrev AllMade : Node → List Node → Type 0
  AllMade k [] = Unit {0}
  AllMade k (n ∷ names) = MadeIn k n × AllMade k names

  all_drop : (k : Node) (n : ℕ) (names : List Node) → AllMade k names → AllMade k (drop n names)
  all_drop k zero names h = h
  all_drop k (suc n) [] h = h
  all_drop k (suc n) (d ∷ names) h = all_drop k n names h.1

  all_named : (k : Node) (j : ℕ) (d : Node) (names : List Node) → (1 ≤ j → MadeIn k d) → AllMade k names → AllMade k (named j d names)
  all_named k zero d names f h = h
  all_named k (suc j) d names f h = (f (omega arith), h)

  firsts_taken : (p : ℕ) (k : Node) (s : Site) → IsSite S p s → (m : ℕ) (names : List Node)
      → ((i : ℕ) (d : Node) → i < m → slice_get names i ≡ Some d → AmongFirst (all_operands (callees c.inside) s.around s.head) s.names d)
      → AllMade k names → EachTaken (taken_at p m names)
  firsts_taken p k s is zero names f h = tt
  firsts_taken p k s is (suc m) [] f h = tt
  firsts_taken p k s is (suc m) (d ∷ names) f h =
      ((k, h.0, s, is, f 0 d (omega arith) refl), firsts_taken p k s is m names (λ i e lt a. f (suc i) e (omega arith) a) h.1)

  at_taken : (p n : ℕ) (k : Node) (s : Site) (names : List Node) → IsSite S p s → s.names ≡ names → all_operands (callees c.inside) s.around s.head ≡ n
      → AllMade k names → EachTaken (taken_at p n names)
  at_taken p n k s names is e f h =
      firsts_taken p k s is n names (λ i d lt a. subst (λ z. AmongFirst z s.names d) (sym f) (subst (λ z. AmongFirst n z d) (sym e) (i, lt, a))) h

  end_taken : (k : Node) (t : Option ValType) (names : List Node) → map T names ≡ values_of t → AllMade k names → Owns k t
      → (e : EndAt) → Among ends e → e.owner ≡ k → e.count ≡ arity t → e.names ≡ names → EachTaken (taken (taker.End k) names)
  end_taken k None [] ty h ow e a o n q = tt
  end_taken k None (d ∷ names) ty h ow e a o n q = absurd cc
  end_taken k (Some v) [] ty h ow e a o n q = tt
  end_taken k (Some v) (d ∷ []) ty h ow e a o n q =
      ((h.0, e, a, o, (0, omega (arith, n), ap (λ z. slice_get z 0) q), Some v, ow, (let f : v ≡ T d = head_is (sym ty) in ap (λ z. Some z) f)), tt)
    where
      head_is : {x y : ValType} {xs ys : List ValType} → x ∷ xs ≡ y ∷ ys → x ≡ y
      head_is e = cc
  end_taken k (Some v) (d ∷ d' ∷ names) ty h ow e a o n q = absurd cc

  abbrev Sub : List EndAt → Type 0
  Sub xs = (e : EndAt) → Among xs e → Among ends e

  -- the live end of a sequence with result t, after which k stands
  abbrev pub EndRule : Node → Option ValType → Marked → ℕ → List Node → Type 0
  EndRule k t code p names =
      (ns : List Node) → end_names (callees c.inside) code p names ≡ Some ns
      → (e : EndAt) × Among ends e × (e.owner ≡ k) × (e.count ≡ arity t) × (e.names ≡ ns)

  inner_rule : (k : Node) (t : Option ValType) (code : Marked) (q : ℕ) → Sub (one_end k (arity t) (end_names (callees c.inside) code q [])) → EndRule k t code q []
  inner_rule k t code q sub ns e =
      (record { owner = k; count = arity t; names = ns }, sub _ (among_end k (arity t) ns (end_names (callees c.inside) code q []) e), refl, refl, refl)

  pub each_taken : (code : Marked) (ctx : List Label) (Ls : List (List ValType)) (k : Node) (t : Option ValType) (p : ℕ) (names : List Node)
      → HasAt S p (sites (callees c.inside) ctx k code p names) → Typed c T Ls t code p names → join_of ctx 0 ≡ k → AllMade k names → Owns k t
      → EndRule k t code p names → Sub (inner_ends (callees c.inside) code p names) → EachTaken (takings (callees c.inside) ctx k code p names)
  each_taken End ctx Ls k t p names at ty j h ow rule sub =
      let r = rule names refl in end_taken k t names ty h ow r.0 r.1 r.2 r.3 r.4
  each_taken (Do m op rest) ctx Ls k t p names at ty j h ow rule sub =
      let cs = callees c.inside in
      each_append (taken_at p (takes cs op) names) (takings cs ctx k rest (p + 1) (made cs p op names))
      (at_taken p (takes cs op) k _ names at.0 refl refl h)
      (each_taken rest ctx Ls k t (p + 1) (made cs p op names) at.1 ty.1 j
      (all_named k (leaves cs op) (At p) (drop (takes cs op) names) (λ le. (_, op, at.0, refl, le, j)) (all_drop k (takes cs op) names h)) ow rule sub)
  each_taken (Block m kind body rest) ctx Ls k t p names at ty j h ow rule sub =
      let cs = callees c.inside in
      let e = p + 1 + size body in
      let L = block_label p (arity kind) e in
      let bs = sites cs (L ∷ ctx) (Join p) body (p + 1) [] in
      let rs = sites cs ctx k rest e (named (arity kind) (Join p) names) in
      let e1 = one_end (Join p) (arity kind) (end_names cs body (p + 1) []) in
      let e2 = inner_ends cs body (p + 1) [] in
      let e3 = inner_ends cs rest e (named (arity kind) (Join p) names) in
      each_append (takings cs (L ∷ ctx) (Join p) body (p + 1) []) (takings cs ctx k rest e (named (arity kind) (Join p) names))
      (each_taken body (L ∷ ctx) (values_of kind ∷ Ls) (Join p) kind (p + 1) [] (has_front S (p + 1) bs rs at.1) ty.1 refl tt (_, at.0, refl)
      (inner_rule (Join p) kind body (p + 1) (λ z a. sub z (among_left e1 (e2 ++ e3) z a))) (λ z a. sub z (among_right e1 (e2 ++ e3) z (among_left e2 e3 z a))))
      (each_taken rest ctx Ls k t e (named (arity kind) (Join p) names) (has_back S (p + 1) e bs rs (omega (arith, length-sites cs body (L ∷ ctx) (Join p) (p + 1) [])) at.1) ty.2 j
      (all_named k (arity kind) (Join p) names (λ le. (_, at.0)) h) ow rule (λ z a. sub z (among_right e1 (e2 ++ e3) z (among_right e2 e3 z a))))
  each_taken (Loop m kind body rest) ctx Ls k t p names at ty j h ow rule sub =
      let cs = callees c.inside in
      let e = p + 1 + size body in
      let L = loop_label p e in
      let bs = sites cs (L ∷ ctx) (Join p) body (p + 1) [] in
      let rs = sites cs ctx k rest e (named (arity kind) (Join p) names) in
      let e1 = one_end (Join p) (arity kind) (end_names cs body (p + 1) []) in
      let e2 = inner_ends cs body (p + 1) [] in
      let e3 = inner_ends cs rest e (named (arity kind) (Join p) names) in
      each_append (takings cs (L ∷ ctx) (Join p) body (p + 1) []) (takings cs ctx k rest e (named (arity kind) (Join p) names))
      (each_taken body (L ∷ ctx) ([] ∷ Ls) (Join p) kind (p + 1) [] (has_front S (p + 1) bs rs at.1) ty.1 refl tt (_, at.0, refl)
      (inner_rule (Join p) kind body (p + 1) (λ z a. sub z (among_left e1 (e2 ++ e3) z a))) (λ z a. sub z (among_right e1 (e2 ++ e3) z (among_left e2 e3 z a))))
      (each_taken rest ctx Ls k t e (named (arity kind) (Join p) names) (has_back S (p + 1) e bs rs (omega (arith, length-sites cs body (L ∷ ctx) (Join p) (p + 1) [])) at.1) ty.2 j
      (all_named k (arity kind) (Join p) names (λ le. (_, at.0)) h) ow rule (λ z a. sub z (among_right e1 (e2 ++ e3) z (among_right e2 e3 z a))))
  each_taken (If m kind x y rest) ctx Ls k t p names at ty j h ow rule sub =
      let cs = callees c.inside in
      let f = p + 1 + size x in
      let e = p + 1 + size x + size y in
      let L = block_label p (arity kind) e in
      let names1 = named (arity kind) (Join p) (drop 1 names) in
      let xs = sites cs (L ∷ ctx) (Join p) x (p + 1) [] in
      let ys = sites cs (L ∷ ctx) (Join p) y f [] in
      let rs = sites cs ctx k rest e names1 in
      let e1 = one_end (Join p) (arity kind) (end_names cs x (p + 1) []) in
      let e2 = one_end (Join p) (arity kind) (end_names cs y f []) in
      let e3 = inner_ends cs x (p + 1) [] in
      let e4 = inner_ends cs y f [] in
      let e5 = inner_ends cs rest e names1 in
      let back_x = has_back S (p + 1) f xs (ys ++ rs) (omega (arith, length-sites cs x (L ∷ ctx) (Join p) (p + 1) [])) at.1 in
      let tx = takings cs (L ∷ ctx) (Join p) x (p + 1) [] in
      let ty' = takings cs (L ∷ ctx) (Join p) y f [] in
      let tr = takings cs ctx k rest e names1 in
      each_append (taken_at p 1 names) (tx ++ (ty' ++ tr)) (at_taken p 1 k _ names at.0 refl refl h)
      (each_append tx (ty' ++ tr)
      (each_taken x (L ∷ ctx) (values_of kind ∷ Ls) (Join p) kind (p + 1) [] (has_front S (p + 1) xs (ys ++ rs) at.1) ty.2 refl tt (_, at.0, refl)
      (inner_rule (Join p) kind x (p + 1) (λ z a. sub z (among_left e1 _ z a))) (λ z a. sub z (among_right e1 _ z (among_right e2 _ z (among_left e3 _ z a)))))
      (each_append ty' tr
      (each_taken y (L ∷ ctx) (values_of kind ∷ Ls) (Join p) kind f [] (has_front S f ys rs back_x) ty.3 refl tt (_, at.0, refl)
      (inner_rule (Join p) kind y f (λ z a. sub z (among_right e1 _ z (among_left e2 _ z a)))) (λ z a. sub z (among_right e1 _ z (among_right e2 _ z (among_right e3 _ z (among_left e4 _ z a))))))
      (each_taken rest ctx Ls k t e names1 (has_back S f e ys rs (omega (arith, length-sites cs y (L ∷ ctx) (Join p) f [])) back_x) ty.4 j
      (all_named k (arity kind) (Join p) (drop 1 names) (λ le. (_, at.0)) (all_drop k 1 names h)) ow rule (λ z a. sub z (among_right e1 _ z (among_right e2 _ z (among_right e3 _ z (among_right e4 e5 z a))))))))
  each_taken (Br m l rest) ctx Ls k t p names at ty j h ow rule sub = at_taken p (carried (arities ctx) l) k _ names at.0 refl refl h
  each_taken (BrIf m l rest) ctx Ls k t p names at ty j h ow rule sub =
      let cs = callees c.inside in
      each_append (taken_at p (carried (arities ctx) l + 1) names) (takings cs ctx k rest (p + 1) (drop 1 names))
      (at_taken p (carried (arities ctx) l + 1) k _ names at.0 refl (omega arith) h)
      (each_taken rest ctx Ls k t (p + 1) (drop 1 names) at.1 ty.2 j (all_drop k 1 names h) ow rule sub)
  each_taken (BrTable m labels other rest) ctx Ls k t p names at ty j h ow rule sub =
      at_taken p (carried (arities ctx) other + 1) k _ names at.0 refl (omega arith) h
  each_taken (Return m rest) ctx Ls k t p names at ty j h ow rule sub = at_taken p (carried (arities ctx) (outermost (arities ctx))) k _ names at.0 refl refl h
  each_taken (Unreachable m rest) ctx Ls k t p names at ty j h ow rule sub = tt
