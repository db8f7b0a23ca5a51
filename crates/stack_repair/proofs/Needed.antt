-- What a cut needs at each instruction, by the rules over positions.
use Rattle.std.proofs.Common.{◌≡◌, ℕ, suc, ◌+◌, ◌≤◌, List, [], ◌∷◌, ◌++◌, map, Bool, true, Option, Some, None, drop, length, refl, sym, subst, arith}
use Rattle.wasm_types.specs.declared.module.ValType.{ValType}
use Rattle.wasm_types.specs.Marked.{Marked, End, Do, Block, Loop, If, Br, BrIf, BrTable, Return, Unreachable, size}
use Rattle.wasm_types.specs.Typing.{Context}
use Rattle.wasm_types.specs.Validity.{values_of}
use Rattle.wasm_types.specs.Actions.{callees, takes}
use Rattle.wasm_types.specs.Labels.{arity, carried, outermost, Label, block_label, loop_label, arities}
use Rattle.wasm_types.specs.declared.place.Node.{Node}
use Rattle.wasm_types.specs.Nodes.{At, Join, named, made, AllIn}
use Rattle.wasm_types.specs.Sites.{Site, Sites, sites, IsSite, EndAt, one_end, end_names, inner_ends, all_operands, Among}
use Rattle.flow_domain.specs.Presence.{AmongFirst, maker, result, operand, left, HoldsNeeded}
use Rattle.stack_repair.proofs.Typed.{Carries, HasTest, Typed}
use Rattle.stack_repair.proofs.CutTyping.{Shows, Labelled, label_more, arity-values}
use Rattle.stack_repair.proofs.Positions.{HasAt, has_front, has_back, length-sites, among_left, among_right, among_end, all_first}

-- ---- how many names there are

pub carries_long : (T : Node → ValType) (s : List ValType) (names : List Node) → Carries T s names → length s ≤ length names
carries_long T [] names e = omega arith
carries_long T (k ∷ s) [] e = absurd cc
carries_long T (k ∷ s) (d ∷ names) e = let a = carries_long T s names (tail_is e) in omega arith
  where
    tail_is : {x y : ValType} {xs ys : List ValType} → x ∷ xs ≡ y ∷ ys → xs ≡ ys
    tail_is e = cc

pub test_long : (T : Node → ValType) (n : ℕ) (names : List Node) → HasTest T names → n ≤ length (drop 1 names) → suc n ≤ length names
test_long T n [] h le = absurd h
test_long T n (d ∷ names) h le = omega arith

end_long : (T : Node → ValType) (t : Option ValType) (names : List Node) → map T names ≡ values_of t → arity t ≤ length names
end_long T None names e = omega arith
end_long T (Some k) [] e = absurd cc
end_long T (Some k) (d ∷ names) e = omega arith

-- ---- the rules

module _ (c : Context) (S : Sites) (ends : List EndAt) (K P : Node → Bool) (T : Node → ValType) (has : HoldsNeeded (callees c.inside) S ends K P) where
  abbrev Sub : List EndAt → Type 0
  Sub xs = (e : EndAt) → Among xs e → Among ends e

  -- what is left at the live end of a sequence
  abbrev pub EndRule : ℕ → Marked → ℕ → List Node → Type 0
  EndRule n code p names = (ns : List Node) → end_names (callees c.inside) code p names ≡ Some ns → n ≤ length ns → AllIn P n ns

  operands : (p n : ℕ) (s : Site) (names : List Node) → IsSite S p s → s.names ≡ names → all_operands (callees c.inside) s.around s.head ≡ n
      → n ≤ length names → K (At p) ≡ true → AllIn P n names
  operands p n s names is en eo le on =
      all_first P n names le (λ d a. has d (operand p s is on (subst (λ z. AmongFirst (all_operands (callees c.inside) s.around s.head) z d) (sym en) (subst (λ z. AmongFirst z names d) (sym eo) a))))

  inner_rule : (p n : ℕ) (code : Marked) (q : ℕ) → Sub (one_end (Join p) n (end_names (callees c.inside) code q [])) → K (At p) ≡ true → EndRule n code q []
  inner_rule p n code q sub on ns e le =
      let a = sub _ (among_end (Join p) n ns (end_names (callees c.inside) code q []) e) in all_first P n ns le (λ d f. has d (left p _ a refl on f))

  pub shows_of : (code : Marked) (ctx : List Label) (Ls : List (List ValType)) (k : Node) (t : Option ValType) (p : ℕ) (names : List Node)
      → Labelled (arities ctx) Ls c.result → HasAt S p (sites (callees c.inside) ctx k code p names) → Typed c T Ls t code p names
      → EndRule (arity t) code p names → Sub (inner_ends (callees c.inside) code p names)
      → Shows (callees c.inside) K P (arities ctx) (arity t) code p names
  shows_of End ctx Ls k t p names lab at ty rule sub = rule names refl (end_long T t names ty)
  shows_of (Do m op rest) ctx Ls k t p names lab at ty rule sub = (
    (λ on. (operands p (takes (callees c.inside) op) _ names at.0 refl refl ty.0.enough on, has (At p) (maker on))),
    shows_of rest ctx Ls k t (p + 1) (made (callees c.inside) p op names) lab at.1 ty.1 rule sub,
  )
  shows_of (Block m kind body rest) ctx Ls k t p names lab at ty rule sub =
      let cs = callees c.inside in
      let e = p + 1 + size body in
      let bs = sites cs (block_label p (arity kind) e ∷ ctx) (Join p) body (p + 1) [] in
      let rs = sites cs ctx k rest e (named (arity kind) (Join p) names) in
      let e1 = one_end (Join p) (arity kind) (end_names cs body (p + 1) []) in
      let e2 = inner_ends cs body (p + 1) [] in
      let e3 = inner_ends cs rest e (named (arity kind) (Join p) names) in (
        (λ on. (
          has (Join p) (result on),
          shows_of body (block_label p (arity kind) e ∷ ctx) (values_of kind ∷ Ls) (Join p) kind (p + 1) [] (label_more (arities ctx) Ls c.result (arity kind) (values_of kind) (arity-values kind) lab) (has_front S (p + 1) bs rs at.1) ty.1 (inner_rule p (arity kind) body (p + 1) (λ z a. sub z (among_left e1 (e2 ++ e3) z a)) on) (λ z a. sub z (among_right e1 (e2 ++ e3) z (among_left e2 e3 z a))),
        )),
        shows_of rest ctx Ls k t e (named (arity kind) (Join p) names) lab (has_back S (p + 1) e bs rs (omega (arith, length-sites cs body (block_label p (arity kind) e ∷ ctx) (Join p) (p + 1) [])) at.1) ty.2 rule (λ z a. sub z (among_right e1 (e2 ++ e3) z (among_right e2 e3 z a))),
      )
  shows_of (Loop m kind body rest) ctx Ls k t p names lab at ty rule sub =
      let cs = callees c.inside in
      let e = p + 1 + size body in
      let bs = sites cs (loop_label p e ∷ ctx) (Join p) body (p + 1) [] in
      let rs = sites cs ctx k rest e (named (arity kind) (Join p) names) in
      let e1 = one_end (Join p) (arity kind) (end_names cs body (p + 1) []) in
      let e2 = inner_ends cs body (p + 1) [] in
      let e3 = inner_ends cs rest e (named (arity kind) (Join p) names) in (
        (λ on. (
          has (Join p) (result on),
          shows_of body (loop_label p e ∷ ctx) ([] ∷ Ls) (Join p) kind (p + 1) [] (label_more (arities ctx) Ls c.result 0 [] refl lab) (has_front S (p + 1) bs rs at.1) ty.1 (inner_rule p (arity kind) body (p + 1) (λ z a. sub z (among_left e1 (e2 ++ e3) z a)) on) (λ z a. sub z (among_right e1 (e2 ++ e3) z (among_left e2 e3 z a))),
        )),
        shows_of rest ctx Ls k t e (named (arity kind) (Join p) names) lab (has_back S (p + 1) e bs rs (omega (arith, length-sites cs body (loop_label p e ∷ ctx) (Join p) (p + 1) [])) at.1) ty.2 rule (λ z a. sub z (among_right e1 (e2 ++ e3) z (among_right e2 e3 z a))),
      )
  shows_of (If m kind x y rest) ctx Ls k t p names lab at ty rule sub =
      let cs = callees c.inside in
      let f = p + 1 + size x in
      let e = p + 1 + size x + size y in
      let L = block_label p (arity kind) e in
      let lab' = label_more (arities ctx) Ls c.result (arity kind) (values_of kind) (arity-values kind) lab in
      let xs = sites cs (L ∷ ctx) (Join p) x (p + 1) [] in
      let ys = sites cs (L ∷ ctx) (Join p) y f [] in
      let rs = sites cs ctx k rest e (named (arity kind) (Join p) (drop 1 names)) in
      let e1 = one_end (Join p) (arity kind) (end_names cs x (p + 1) []) in
      let e2 = one_end (Join p) (arity kind) (end_names cs y f []) in
      let e3 = inner_ends cs x (p + 1) [] in
      let e4 = inner_ends cs y f [] in
      let e5 = inner_ends cs rest e (named (arity kind) (Join p) (drop 1 names)) in
      let back_x = has_back S (p + 1) f xs (ys ++ rs) (omega (arith, length-sites cs x (L ∷ ctx) (Join p) (p + 1) [])) at.1 in (
        (λ on. (
          operands p 1 _ names at.0 refl refl (test_long T 0 names ty.0 (omega arith)) on,
          has (Join p) (result on),
          shows_of x (L ∷ ctx) (values_of kind ∷ Ls) (Join p) kind (p + 1) [] lab' (has_front S (p + 1) xs (ys ++ rs) at.1) ty.2 (inner_rule p (arity kind) x (p + 1) (λ z a. sub z (among_left e1 _ z a)) on) (λ z a. sub z (among_right e1 _ z (among_right e2 _ z (among_left e3 _ z a)))),
          shows_of y (L ∷ ctx) (values_of kind ∷ Ls) (Join p) kind f [] lab' (has_front S f ys rs back_x) ty.3 (inner_rule p (arity kind) y f (λ z a. sub z (among_right e1 _ z (among_left e2 _ z a))) on) (λ z a. sub z (among_right e1 _ z (among_right e2 _ z (among_right e3 _ z (among_left e4 _ z a))))),
        )),
        shows_of rest ctx Ls k t e (named (arity kind) (Join p) (drop 1 names)) lab (has_back S f e ys rs (omega (arith, length-sites cs y (L ∷ ctx) (Join p) f [])) back_x) ty.4 rule (λ z a. sub z (among_right e1 _ z (among_right e2 _ z (among_right e3 _ z (among_right e4 e5 z a))))),
      )
  shows_of (Br m l rest) ctx Ls k t p names lab at (v, is, cr) rule sub =
      λ on. operands p (carried (arities ctx) l) _ names at.0 refl refl (let a = lab.at l v is in let b = carries_long T v names cr in omega arith) on
  shows_of (BrIf m l rest) ctx Ls k t p names lab at (test, (v, is, cr), ty) rule sub = (
    (λ on. operands p (suc (carried (arities ctx) l)) _ names at.0 refl refl (test_long T (carried (arities ctx) l) names test (let a = lab.at l v is in let b = carries_long T v (drop 1 names) cr in omega arith)) on),
    shows_of rest ctx Ls k t (p + 1) (drop 1 names) lab at.1 ty rule sub,
  )
  shows_of (BrTable m labels other rest) ctx Ls k t p names lab at (test, (v, is, each, cr)) rule sub =
      λ on. operands p (suc (carried (arities ctx) other)) _ names at.0 refl refl (test_long T (carried (arities ctx) other) names test (let a = lab.at other v is in let b = carries_long T v (drop 1 names) cr in omega arith)) on
  shows_of (Return m rest) ctx Ls k t p names lab at ty rule sub =
      λ on. operands p (carried (arities ctx) (outermost (arities ctx))) _ names at.0 refl refl (let a = lab.last in let b = carries_long T c.result names ty in omega arith) on
  shows_of (Unreachable m rest) ctx Ls k t p names lab at ty rule sub = tt
