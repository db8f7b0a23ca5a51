-- Positions as a flat list against positions in the tree.
use Rattle.std.proofs.Common.{◌≡◌, ℕ, zero, suc, ◌+◌, List, [], ◌∷◌, ◌++◌, Option, Some, None, drop, length, replicate, slice_get, refl, ap, subst, arith, length-append, append_assoc}
use Rattle.wasm_types.specs.Marked.{Marked, End, Do, Block, Loop, If, Br, BrIf, BrTable, Return, Unreachable, size}
use Rattle.wasm_types.specs.Actions.{Callees}
use Rattle.wasm_types.specs.Labels.{arity, Label, block_label, loop_label}
use Rattle.wasm_types.specs.declared.place.Node.{Node}
use Rattle.wasm_types.specs.Nodes.{Join, named, made}
use Rattle.wasm_types.specs.Sites.{Site, Sites, sites}

abbrev pub HasAt : Sites → ℕ → Sites → Type 0
HasAt S p [] = Unit {0}
HasAt S p (x ∷ xs) = (slice_get S p ≡ Some x) × HasAt S (p + 1) xs

pub has_front : (S : Sites) (p : ℕ) (xs ys : Sites) → HasAt S p (xs ++ ys) → HasAt S p xs
has_front S p [] ys h = tt
has_front S p (x ∷ xs) ys h = (h.0, has_front S (p + 1) xs ys h.1)

pub has_back : (S : Sites) (p q : ℕ) (xs ys : Sites) → q ≡ p + length xs → HasAt S p (xs ++ ys) → HasAt S q ys
has_back S p q [] ys e h = let f : p ≡ q = omega arith in subst (λ n. HasAt S n ys) f h
has_back S p q (x ∷ xs) ys e h = has_back S (p + 1) q xs ys (omega arith) h.1

get-past : (pre : Sites) (x : Option Site) (xs : Sites) → slice_get (pre ++ x ∷ xs) (length pre) ≡ Some x
get-past [] x xs = refl
get-past (y ∷ pre) x xs = get-past pre x xs

pub has_all : (pre xs : Sites) (p : ℕ) → p ≡ length pre → HasAt (pre ++ xs) p xs
has_all pre [] p e = tt
has_all pre (x ∷ xs) p e = (
  rw (e, get-past),
  subst (λ S. HasAt S (p + 1) xs) (append_assoc pre (x ∷ []) xs) (has_all (pre ++ x ∷ []) xs (p + 1) (omega
      (arith, length-append pre (x ∷ [])))),
)

length-nones : (n : ℕ) → length (replicate {A = Option Site} n None) ≡ n
length-nones zero = refl
length-nones (suc n) = ap suc (length-nones n)

pub length-sites : (cs : Callees) (code : Marked) (ctx : List Label) (k : Node) (p : ℕ) (names : List Node) → length (sites cs ctx k code p names) ≡ size code
length-sites cs End ctx k p names = refl
length-sites cs (Do m op rest) ctx k p names = omega (arith, length-sites cs rest ctx k (p + 1) (made cs p op names))
length-sites cs (Block m r body rest) ctx k p names =
    let a = length-sites cs body (block_label p (arity r) (p + 1 + size body) ∷ ctx) (Join p) (p + 1) [] in
    let b = length-sites cs rest ctx k (p + 1 + size body) (named (arity r) (Join p) names) in
    omega (
      arith,
      length-append (sites cs (block_label p (arity r) (p + 1 + size body) ∷ ctx) (Join p) body (p + 1) []) (sites cs ctx k rest
          (p + 1 + size body) (named (arity r) (Join p) names)),
    )
length-sites cs (Loop m r body rest) ctx k p names =
    let a = length-sites cs body (loop_label p (p + 1 + size body) ∷ ctx) (Join p) (p + 1) [] in
    let b = length-sites cs rest ctx k (p + 1 + size body) (named (arity r) (Join p) names) in
    omega (
      arith,
      length-append (sites cs (loop_label p (p + 1 + size body) ∷ ctx) (Join p) body (p + 1) []) (sites cs ctx k rest
          (p + 1 + size body) (named (arity r) (Join p) names)),
    )
length-sites cs (If m r x y rest) ctx k p names =
    let e = p + 1 + size x + size y in
    let L = block_label p (arity r) e in
    let a = length-sites cs x (L ∷ ctx) (Join p) (p + 1) [] in
    let b = length-sites cs y (L ∷ ctx) (Join p) (p + 1 + size x) [] in
    let c = length-sites cs rest ctx k e (named (arity r) (Join p) (drop 1 names)) in
    omega (
      arith,
      length-append (sites cs (L ∷ ctx) (Join p) x (p + 1) []) (sites cs (L ∷ ctx) (Join p) y
          (p + 1 + size x) [] ++ sites cs ctx k rest e (named (arity r) (Join p) (drop 1 names))),
      length-append (sites cs (L ∷ ctx) (Join p) y (p + 1 + size x) []) (sites cs ctx k rest e (named (arity r) (Join p) (drop 1 names))),
    )
length-sites cs (Br m l rest) ctx k p names = omega (arith, length-nones (size rest))
length-sites cs (BrIf m l rest) ctx k p names = omega (arith, length-sites cs rest ctx k (p + 1) (drop 1 names))
length-sites cs (BrTable m labels other rest) ctx k p names = omega (arith, length-nones (size rest))
length-sites cs (Return m rest) ctx k p names = omega (arith, length-nones (size rest))
length-sites cs (Unreachable m rest) ctx k p names = omega (arith, length-nones (size rest))
