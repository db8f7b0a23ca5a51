-- The steps of the walk over a body.
use Rattle.std.proofs.Common.{◌≡◌, ℕ, ◌+◌, List, [], ◌∷◌, ◌++◌, true, Option, length, refl, sym, ap, ap₂, ◌∙◌, subst, arith, length-append}
use Rattle.std.proofs.lemmas.List.{append-nil, append_assoc}
use Rattle.wasm_types.specs.declared.module.ValType.{ValType}
use Rattle.wasm_types.specs.declared.instr.Instr.{Instr, Block', Loop', If'}
use Rattle.wasm_types.specs.declared.instr.Instr.TheVariants as v
use Rattle.wasm_types.specs.declared.place.Node.{Node}
use Rattle.wasm_types.specs.Code.{Code, done, one, block, repeat, branch, onto, code_of_row, code_of, is_plain, count}
use Rattle.wasm_types.specs.Nodes.{At, Join}
use Rattle.wasm_types.proofs.CodeLemmas.{onto-block, onto-loop, onto-if, onto-one}
use Rattle.slice_closure.specs.declared.spot.Came.{Came}
use Rattle.slice_closure.specs.declared.spot.Spot.{Spot}
use Rattle.slice_closure.specs.declared.walk.Trail.{Trail}
use Rattle.slice_closure.specs.Takens.{taken_by}
use Rattle.slice_closure.specs.Flow.{touch_of, through, onward, came_at, holder, fork, spots_in, Way, lead, leaves, where_came, ways_in, Walks, WalksInner}

pub length_spots : (came : Came) (c : Code) (p : ℕ) → length (spots_in came c p) ≡ count c
length_spots came done p = refl
length_spots came (one i rest) p = omega (arith, length_spots (onward came i p) rest (p + 1))
length_spots came (block kind inner rest) p =
    let I = spots_in (through came (At p)) inner (p + 1) in let R = spots_in (through came (Join p)) rest (p + 1 + count inner) in
    omega (arith, length-append I R, length_spots (through came (At p)) inner (p + 1), length_spots (through came (Join p)) rest (p + 1 + count inner))
length_spots came (repeat kind inner rest) p =
    let I = spots_in (through came (At p)) inner (p + 1) in let R = spots_in (through came (Join p)) rest (p + 1 + count inner) in
    omega (arith, length-append I R, length_spots (through came (At p)) inner (p + 1), length_spots (through came (Join p)) rest (p + 1 + count inner))
length_spots came (branch kind x y rest) p =
    let f = p + 1 + count x in let e = p + 1 + count x + count y in
    let X = spots_in (through came (At p)) x (p + 1) in let Y = spots_in (through came (At p)) y f in let R = spots_in (through came (Join p)) rest e in
    omega (arith, length-append X (Y ++ R), length-append Y R, length_spots (through came (At p)) x (p + 1), length_spots (through came (At p)) y f, length_spots (through came (Join p)) rest e)

-- ---- one instruction, and then the rest

block_split : (X : Spot) (I R R' : List Spot) → R ≡ R' → X ∷ (I ++ R) ≡ X ∷ ((I ++ []) ++ R')
block_split X I R R' q = rw append-nil (ap (λ (r : List Spot). X ∷ (I ++ r)) q)

if_split : (X : Spot) (I J R R' : List Spot) → R ≡ R' → X ∷ (I ++ (J ++ R)) ≡ X ∷ ((I ++ (J ++ [])) ++ R')
if_split X I J R R' q = rw (append-nil, append_assoc) (ap (λ (r : List Spot). X ∷ (I ++ (J ++ r))) q)

spots_onto : (came : Came) (i : Instr) (rest : Code) (p : ℕ)
    → spots_in came (onto i rest) p ≡ spots_in came (onto i done) p ++ spots_in (came_at came (onto i done) p) rest (p + count (onto i done))
unfolding onto code_of_row
spots_onto came (Block' kind m inner) rest p =
    let same : p + 1 + count (code_of_row inner) ≡ p + (1 + count (code_of_row inner) + 0) = omega arith in
    block_split _ _ _ _ (ap (λ z. spots_in (through came (Join p)) rest z) same)
spots_onto came (Loop' kind m inner) rest p =
    let same : p + 1 + count (code_of_row inner) ≡ p + (1 + count (code_of_row inner) + 0) = omega arith in
    block_split _ _ _ _ (ap (λ z. spots_in (through came (Join p)) rest z) same)
spots_onto came (If' kind m x n y) rest p =
    let same : p + 1 + count (code_of_row x) + count (code_of_row y) ≡ p + (1 + count (code_of_row x) + count (code_of_row y) + 0) = omega arith in
    if_split _ _ _ _ _ (ap (λ z. spots_in (through came (Join p)) rest z) same)
spots_onto came i rest p = refl

ways_split : (A R R' : List Way) → R ≡ R' → A ++ R ≡ (A ++ []) ++ R'
ways_split A R R' q = rw append-nil (ap (λ (r : List Way). A ++ r) q)

ways_if_split : (A B R R' : List Way) → R ≡ R' → A ++ (B ++ R) ≡ (A ++ (B ++ [])) ++ R'
ways_if_split A B R R' q = rw (append-nil, append_assoc) (ap (λ (r : List Way). A ++ (B ++ r)) q)

ways_onto : (labels : List Node) (came : Came) (i : Instr) (rest : Code) (p : ℕ)
    → ways_in labels came (onto i rest) p ≡ ways_in labels came (onto i done) p ++ ways_in labels (came_at came (onto i done) p) rest (p + count (onto i done))
unfolding onto code_of_row
ways_onto labels came (Block' kind m inner) rest p =
    let same : p + 1 + count (code_of_row inner) ≡ p + (1 + count (code_of_row inner) + 0) = omega arith in
    ways_split _ _ _ (ap (λ z. ways_in labels (through came (Join p)) rest z) same)
ways_onto labels came (Loop' kind m inner) rest p =
    let same : p + 1 + count (code_of_row inner) ≡ p + (1 + count (code_of_row inner) + 0) = omega arith in
    ways_split _ _ _ (ap (λ z. ways_in labels (through came (Join p)) rest z) same)
ways_onto labels came (If' kind m x n y) rest p =
    let same : p + 1 + count (code_of_row x) + count (code_of_row y) ≡ p + (1 + count (code_of_row x) + count (code_of_row y) + 0) = omega arith in
    ways_if_split _ _ _ _ (ap (λ z. ways_in labels (through came (Join p)) rest z) same)
ways_onto labels came i rest p =
    ways_split (where_came came (leaves labels i p)) (ways_in labels (onward came i p) rest (p + 1)) (ways_in labels (onward came i p) rest (p + 1)) refl

came_onto : (came : Came) (i : Instr) (rest : Code) (p : ℕ) → came_at came (onto i rest) p ≡ came_at (came_at came (onto i done) p) rest (p + count (onto i done))
unfolding onto code_of_row
came_onto came (Block' kind m inner) rest p =
    let same : p + 1 + count (code_of_row inner) ≡ p + (1 + count (code_of_row inner) + 0) = omega arith in ap (λ z. came_at (through came (Join p)) rest z) same
came_onto came (Loop' kind m inner) rest p =
    let same : p + 1 + count (code_of_row inner) ≡ p + (1 + count (code_of_row inner) + 0) = omega arith in ap (λ z. came_at (through came (Join p)) rest z) same
came_onto came (If' kind m x n y) rest p =
    let same : p + 1 + count (code_of_row x) + count (code_of_row y) ≡ p + (1 + count (code_of_row x) + count (code_of_row y) + 0) = omega arith in
    ap (λ z. came_at (through came (Join p)) rest z) same
came_onto came i rest p = refl

pub walks_longer : (labels : List Node) (came : Came) (c : Code) (a b : Trail) (end : Came) → Walks labels came c a b end
    → length b.spots.items ≡ length a.spots.items + count c
walks_longer labels came c a b end w =
    let p = length a.spots.items in
    ap length w.spots ∙ (length-append a.spots.items (spots_in came c p) ∙ ap (λ n. p + n) (length_spots came c p))

pub walks_then : (labels : List Node) (came mid end : Came) (i : Instr) (rest : Code) (a b c : Trail) → Walks labels came (onto i done) a b mid
    → Walks labels mid rest b c end → Walks labels came (onto i rest) a c end
walks_then labels came mid end i rest a b c f g =
    let p = length a.spots.items in
    let q : length b.spots.items ≡ p + count (onto i done) = walks_longer labels came (onto i done) a b mid f in
    record {
      spots =
          g.spots ∙ (ap₂ (λ (l r : List Spot). l ++ r) f.spots (ap₂ (λ (m : Came) (n : ℕ). spots_in m rest n) f.came_is q)
          ∙ (append_assoc a.spots.items (spots_in came (onto i done) p) (spots_in (came_at came (onto i done) p) rest (p + count (onto i done)))
          ∙ ap (λ z. a.spots.items ++ z) (sym (spots_onto came i rest p))));
      ways =
          g.ways ∙ (ap₂ (λ (l r : List Way). l ++ r) f.ways (ap₂ (λ (m : Came) (n : ℕ). ways_in labels m rest n) f.came_is q)
          ∙ (append_assoc a.ways.items (ways_in labels came (onto i done) p) (ways_in labels (came_at came (onto i done) p) rest (p + count (onto i done)))
          ∙ ap (λ z. a.ways.items ++ z) (sym (ways_onto labels came i rest p))));
      came_is = g.came_is ∙ (ap₂ (λ (m : Came) (n : ℕ). came_at m rest n) f.came_is q ∙ sym (came_onto came i rest p));
    }

pub walks_none : (labels : List Node) (came : Came) (c : Code) (a : Trail) → c ≡ done → Walks labels came c a a came
walks_none labels came c a is = subst (λ z. Walks labels came z a a came) (sym is) (record {
  spots = sym (append-nil a.spots.items);
  ways = sym (append-nil a.ways.items);
  came_is = refl;
})

-- a walk to the end of what is left is one over all
abbrev pub Leaves : List Node → Came → Code → Trail → Came → Code → Trail → Type 0
Leaves labels came whole first mid rest now = (new : Trail) (end : Came) → Walks labels mid rest now new end → Walks labels came whole first new end

pub leaves_next : (labels : List Node) (came mid mid' : Came) (i : Instr) (rest before whole : Code) (first now next : Trail) → before ≡ onto i rest
    → Leaves labels came whole first mid before now → Walks labels mid (onto i done) now next mid' → Leaves labels came whole first mid' rest next
leaves_next labels came mid mid' i rest before whole first now next is all step = λ new end w.
    all new end (subst (λ z. Walks labels mid z now new end) (sym is) (walks_then labels mid mid' end i rest now next new step w))

-- ---- one instruction

-- its position is passed, and then what it holds
module _ (labels : List Node) (came : Came) (here : Spot) (old mid : Trail) (p : ℕ) (p_is : p ≡ length old.spots.items)
    (passed : mid.spots.items ≡ old.spots.items ++ here ∷ []) (same : mid.ways.items ≡ old.ways.items) where
  mid_at : length mid.spots.items ≡ length old.spots.items + 1
  mid_at = ap length passed ∙ length-append old.spots.items (here ∷ [])

  inner_spots : (label k : Node) (c : Code) (new : Trail) → WalksInner (label ∷ labels) (through came (At p)) c k mid new
      → new.spots.items ≡ old.spots.items ++ here ∷ spots_in (through came (At (length old.spots.items))) c (length old.spots.items + 1)
  inner_spots label k c new w =
      w.spots ∙ (ap₂ (λ (l r : List Spot). l ++ r) passed (ap₂ (λ (z n : ℕ). spots_in (through came (At z)) c n) p_is mid_at)
      ∙ append_assoc old.spots.items (here ∷ []) (spots_in (through came (At (length old.spots.items))) c (length old.spots.items + 1)))

  pub block_walks : here ≡ holder came → (i : Instr) (kind : Option ValType) (xs : List Instr) → i ≡ v.Block kind xs → (new : Trail)
      → WalksInner (Join p ∷ labels) (through came (At p)) (code_of xs) (Join p) mid new → Walks labels came (onto i done) old new (through came (Join p))
  block_walks here_is i kind xs is new w =
      let q = length old.spots.items in
      let code : block kind (code_of xs) done ≡ onto i done = sym (ap (λ z. onto z done) is ∙ onto-block kind xs done) in
      subst (λ z. Walks labels came z old new (through came (Join p))) code (record {
        spots = inner_spots (Join p) (Join p) (code_of xs) new w
            ∙ ap₂ (λ (s : Spot) (z : List Spot). old.spots.items ++ s ∷ z) here_is (sym (append-nil (spots_in (through came (At q)) (code_of xs) (q + 1))));
        ways =
            w.ways ∙ (ap₂ (λ (l r : List Way). l ++ r) same (ap₂ (λ (z n : ℕ). ways_in (Join z ∷ labels) (through came (At z)) (code_of xs) n
            ++ lead (came_at (through came (At z)) (code_of xs) n) (Join z)) p_is mid_at)
            ∙ ap (λ z. old.ways.items ++ z) (sym (append-nil (ways_in (Join q ∷ labels) (through came (At q)) (code_of xs) (q + 1)
            ++ lead (came_at (through came (At q)) (code_of xs) (q + 1)) (Join q)))));
        came_is = ap (λ z. through came (Join z)) p_is;
      })

  pub loop_walks : here ≡ holder came → (i : Instr) (kind : Option ValType) (xs : List Instr) → i ≡ v.Loop kind xs → (new : Trail)
      → WalksInner (At p ∷ labels) (through came (At p)) (code_of xs) (Join p) mid new → Walks labels came (onto i done) old new (through came (Join p))
  loop_walks here_is i kind xs is new w =
      let q = length old.spots.items in
      let code : repeat kind (code_of xs) done ≡ onto i done = sym (ap (λ z. onto z done) is ∙ onto-loop kind xs done) in
      subst (λ z. Walks labels came z old new (through came (Join p))) code (record {
        spots = inner_spots (At p) (Join p) (code_of xs) new w
            ∙ ap₂ (λ (s : Spot) (z : List Spot). old.spots.items ++ s ∷ z) here_is (sym (append-nil (spots_in (through came (At q)) (code_of xs) (q + 1))));
        ways =
            w.ways ∙ (ap₂ (λ (l r : List Way). l ++ r) same (ap₂ (λ (z n : ℕ). ways_in (At z ∷ labels) (through came (At z)) (code_of xs) n
            ++ lead (came_at (through came (At z)) (code_of xs) n) (Join z)) p_is mid_at)
            ∙ ap (λ z. old.ways.items ++ z) (sym (append-nil (ways_in (At q ∷ labels) (through came (At q)) (code_of xs) (q + 1)
            ++ lead (came_at (through came (At q)) (code_of xs) (q + 1)) (Join q)))));
        came_is = ap (λ z. through came (Join z)) p_is;
      })

  pub if_walks : here ≡ fork came → (i : Instr) (kind : Option ValType) (xs ys : List Instr) → i ≡ v.If kind xs ys → (half new : Trail)
      → WalksInner (Join p ∷ labels) (through came (At p)) (code_of xs) (Join p) mid half
      → WalksInner (Join p ∷ labels) (through came (At p)) (code_of ys) (Join p) half new → Walks labels came (onto i done) old new (through came (Join p))
  if_walks here_is i kind xs ys is half new w u =
      let q = length old.spots.items in
      let x = code_of xs in
      let y = code_of ys in
      let X = spots_in (through came (At q)) x (q + 1) in
      let Y = spots_in (through came (At q)) y (q + 1 + count x) in
      let A = ways_in (Join q ∷ labels) (through came (At q)) x (q + 1) ++ lead (came_at (through came (At q)) x (q + 1)) (Join q) in
      let B = ways_in (Join q ∷ labels) (through came (At q)) y (q + 1 + count x) ++ lead (came_at (through came (At q)) y (q + 1 + count x)) (Join q) in
      let first = inner_spots (Join p) (Join p) x half w in
      let half_at : length half.spots.items ≡ q + 1 + count x = ap length first ∙ (length-append old.spots.items (here ∷ X)
      ∙ (let n : length X ≡ count x = length_spots (through came (At q)) x (q + 1) in omega arith)) in
      let code : branch kind x y done ≡ onto i done = sym (ap (λ z. onto z done) is ∙ onto-if kind xs ys done) in
      let ways_x : half.ways.items ≡ old.ways.items ++ A = w.ways ∙ ap₂ (λ (l r : List Way). l ++ r) same (ap₂ (λ (z n : ℕ). ways_in (Join z ∷ labels)
      (through came (At z)) x n ++ lead (came_at (through came (At z)) x n) (Join z)) p_is mid_at) in
      subst (λ z. Walks labels came z old new (through came (Join p))) code (record {
        spots =
            u.spots ∙ (ap₂ (λ (l r : List Spot). l ++ r) first (ap₂ (λ (z n : ℕ). spots_in (through came (At z)) y n) p_is half_at)
            ∙ (append_assoc old.spots.items (here ∷ X) Y ∙ ap₂ (λ (s : Spot) (z : List Spot). old.spots.items ++ s ∷ (X ++ z)) here_is (sym (append-nil Y))));
        ways =
            u.ways ∙ (ap₂ (λ (l r : List Way). l ++ r) ways_x (ap₂ (λ (z n : ℕ). ways_in (Join z ∷ labels) (through came (At z)) y n
            ++ lead (came_at (through came (At z)) y n) (Join z)) p_is half_at)
            ∙ (append_assoc old.ways.items A B ∙ ap (λ z. old.ways.items ++ (A ++ z)) (sym (append-nil B))));
        came_is = ap (λ z. through came (Join z)) p_is;
      })

pub plain_walks : (labels : List Node) (came end : Came) (i : Instr) (old new : Trail) → is_plain i ≡ true
    → new.spots.items ≡ old.spots.items ++ record { came = came; touch = touch_of i; taken = taken_by i } ∷ []
    → new.ways.items ≡ old.ways.items ++ where_came came (leaves labels i (length old.spots.items)) → end ≡ onward came i (length old.spots.items)
    → Walks labels came (onto i done) old new end
plain_walks labels came end i old new plain spots ways came_is =
    subst (λ z. Walks labels came z old new end) (sym (onto-one i done plain)) (record {
      spots = spots;
      ways = ways ∙ ap (λ z. old.ways.items ++ z) (sym (append-nil (where_came came (leaves labels i (length old.spots.items)))));
      came_is = came_is;
    })

-- the end of a sequence leads on
pub inner_walks : (labels : List Node) (came end : Came) (c : Code) (k : Node) (old mid new : Trail) → Walks labels came c old mid end
    → new.spots.items ≡ mid.spots.items → new.ways.items ≡ mid.ways.items ++ lead end k → WalksInner labels came c k old new
inner_walks labels came end c k old mid new w spots ways = record {
  spots = spots ∙ w.spots;
  ways =
      ways ∙ (ap₂ (λ (l r : List Way). l ++ r) w.ways (ap (λ z. lead z k) w.came_is)
      ∙ append_assoc old.ways.items (ways_in labels came c (length old.spots.items)) (lead (came_at came c (length old.spots.items)) k));
}

pub passed_longer : (here : Spot) (old mid : List Spot) → mid ≡ old ++ here ∷ [] → length mid ≡ length old + 1
passed_longer here old mid e = ap length e ∙ length-append old (here ∷ [])

pub inner_longer : (labels : List Node) (came : Came) (c : Code) (k : Node) (a b : Trail) → WalksInner labels came c k a b
    → length b.spots.items ≡ length a.spots.items + count c
inner_longer labels came c k a b w =
    let p = length a.spots.items in
    ap length w.spots ∙ (length-append a.spots.items (spots_in came c p) ∙ ap (λ n. p + n) (length_spots came c p))
