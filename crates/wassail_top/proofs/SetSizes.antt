-- Sets of nodes that hold the same nodes have the same size; and a set of nodes whose numbers are small has flags.
use Rattle.std.proofs.Common.{◌≡◌, ℕ, zero, suc, ◌+◌, ◌<◌, ◌∙◌, Bool, true, false, List, [], ◌∷◌, inl, inr}
use Rattle.std.proofs.Common.{cond, get_or, refl, sym, ap, ap₂, subst, arith, true≢false}
use Rattle.std.specs.Prelude.{count_by}
use Rattle.std.proofs.lemmas.Bool.{cases_lt}
use Rattle.std.proofs.lemmas.List.{get_or_past}
use Rattle.std.proofs.lemmas.List.Sums.{sum_by-cons}
use Rattle.wasm_types.specs.declared.place.Node.{Node}
use Rattle.wasm_types.specs.declared.place.Node.TheVariants as node
use Rattle.wasm_types.specs.Nodes.{At, Join}
use Rattle.flow_domain.specs.KeptSets.{KeptSet, holds, number, size}
use Rattle.module_mill.specs.Mill.{below}
use Rattle.module_mill.proofs.Milled.{get_below, length-below}

-- ---- the node of a number

abbrev after : Node → Node
after node.Exit = At 0
after (node.At p) = Join p.0
after (node.Join b) = At (suc b.0)

abbrev node_of : ℕ → Node
node_of zero = node.Exit
node_of (suc k) = after (node_of k)

number_after : (x : Node) → number (after x) ≡ suc (number x)
number_after node.Exit = refl
number_after (node.At p) = omega arith
number_after (node.Join b) = omega arith

number_node : (k : ℕ) → number (node_of k) ≡ k
number_node zero = refl
number_node (suc k) = number_after (node_of k) ∙ ap suc (number_node k)

one_node : (x y : Node) → number x ≡ number y → x ≡ y
one_node node.Exit node.Exit e = refl
one_node node.Exit (node.At q) e = absurd (omega (arith, e))
one_node node.Exit (node.Join b) e = absurd (omega (arith, e))
one_node (node.At p) node.Exit e = absurd (omega (arith, e))
one_node (node.At p) (node.At q) e = let same : p.0 ≡ q.0 = omega (arith, e) in ap At same
one_node (node.At p) (node.Join b) e = absurd (omega (arith, e))
one_node (node.Join b) node.Exit e = absurd (omega (arith, e))
one_node (node.Join b) (node.At q) e = absurd (omega (arith, e))
one_node (node.Join b) (node.Join c) e = let same : b.0 ≡ c.0 = omega (arith, e) in ap Join same

-- ---- sizes

abbrev flag : Bool → ℕ
flag b = cond b 1 0

same_count : (xs ys : List Bool) → ((k : ℕ) → get_or xs k false ≡ get_or ys k false) → count_by (λ b. b) xs ≡ count_by (λ b. b) ys
same_count [] [] h = refl
same_count [] (true ∷ ys) h = absurd (true≢false (sym (h 0)))
same_count [] (false ∷ ys) h = omega (arith, same_count [] ys (λ k. h (suc k)), sum_by-cons flag false ys)
same_count (true ∷ xs) [] h = absurd (true≢false (h 0))
same_count (false ∷ xs) [] h = omega (arith, same_count xs [] (λ k. h (suc k)), sum_by-cons flag false xs)
same_count (x ∷ xs) (y ∷ ys) h =
    sum_by-cons flag x xs ∙ ap₂ {A = ℕ} {B = ℕ} (λ a b. a + b) (ap flag (h 0)) (same_count xs ys (λ k. h (suc k))) ∙ sym (sum_by-cons flag y ys)

pub same_size : (K L : KeptSet) → holds K ≡ holds L → size K ≡ size L
same_size K L e =
    same_count K L
    (λ k. subst (λ (i : ℕ). get_or K i false ≡ get_or L i false) (number_node k) (ap (λ (test : Node → Bool). test (node_of k)) e))

-- ---- flags

pub flags : (Node → Bool) → ℕ → KeptSet
flags test n = below (λ k. test (node_of k)) n

off : (b : Bool) → (b ≡ true → ⊥) → b ≡ false
off true never = absurd (never refl)
off false never = refl

pub holds_flags : (test : Node → Bool) (n : ℕ) → ((x : Node) → test x ≡ true → number x < n) → (x : Node) → holds (flags test n) x ≡ test x
unfolding flags
holds_flags test n small x = elim (cases_lt (number x) n) [
  | inl lt ↦ get_below (λ k. test (node_of k)) n (number x) false lt ∙ ap test (one_node (node_of (number x)) x (number_node (number x)))
  | inr past ↦ get_or_past (flags test n) (number x) false (omega (arith, past, length-below (λ k. test (node_of k)) n))
      ∙ sym (off (test x) (λ on. let lt = small x on in absurd (omega arith)))
]
