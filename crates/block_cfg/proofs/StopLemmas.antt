-- Where contents end, as a walk finds it and by the sites.
use Rattle.std.proofs.Common.{◌≡◌, ℕ, zero, suc, ◌+◌, List, [], ◌∷◌, ◌++◌, Bool, true, Option, Some, None, replicate, drop, length, set, length-append}
use Rattle.std.proofs.Common.{refl, ap, ap₂, sym, subst, ◌∙◌, arith}
use Rattle.std.specs.List.{slice_get}
use Rattle.std.proofs.lemmas.List.{append-nil, append_assoc, length_push, set_at}
use Rattle.wasm_types.specs.declared.module.ValType.{ValType}
use Rattle.wasm_types.specs.declared.place.Node.{Node}
use Rattle.wasm_types.specs.declared.instr.Instr.{Instr, Block', Loop', If'}
use Rattle.wasm_types.specs.declared.instr.Instr as instr
use Rattle.wasm_types.specs.declared.instr.Instr.TheVariants as v
use Rattle.wasm_types.specs.Code.{Code, done, one, block, repeat, branch, onto, code_of_row, code_of, count, is_plain}
use Rattle.wasm_types.specs.Marked.{Marked, plain, marked, size}
use Rattle.wasm_types.specs.Nodes.{Join, named}
use Rattle.wasm_types.specs.Labels.{Label, arity, block_label, loop_label}
use Rattle.wasm_types.specs.Actions.{Callees}
use Rattle.wasm_types.specs.Sites.{Site, Sites, IsSite, sites}
use Rattle.wasm_types.proofs.CodeLemmas.{onto-block, onto-loop, onto-if, onto-one}
use Rattle.block_cfg.specs.Stops.{stops_in}
use Rattle.block_cfg.proofs.SiteLemmas.{size_marked}

pub length_stops : (c : Code) (p : ℕ) → length (stops_in c p) ≡ count c
length_stops done p = refl
length_stops (one op rest) p = omega (arith, length_stops rest (p + 1))
length_stops (block kind inner rest) p =
    let e = p + 1 + count inner in omega (arith, length-append (stops_in inner (p + 1)) (stops_in rest e), length_stops inner (p + 1), length_stops rest e)
length_stops (repeat kind inner rest) p =
    let e = p + 1 + count inner in omega (arith, length-append (stops_in inner (p + 1)) (stops_in rest e), length_stops inner (p + 1), length_stops rest e)
length_stops (branch kind x y rest) p =
    let f = p + 1 + count x in
    let e = p + 1 + count x + count y in
    omega (
      arith,
      length-append (stops_in x (p + 1)) (stops_in y f ++ stops_in rest e),
      length-append (stops_in y f) (stops_in rest e),
      length_stops x (p + 1),
      length_stops y f,
      length_stops rest e,
    )

-- ---- what the walk finds

-- an instruction's own place was held for it
module _ (i : Instr) (a held : List ℕ) (made : held ≡ a ++ 0 ∷ []) where
  longer : length held ≡ length a + 1
  longer = ap length made ∙ length_push a 0

  filled : (b more : List ℕ) → b ≡ held ++ more → set b (length a) (length b) ≡ a ++ (length a + 1 + length more) ∷ more
  filled b more e =
      let flat : b ≡ a ++ 0 ∷ more = e ∙ ap (λ (z : List ℕ). z ++ more) made ∙ append_assoc a (0 ∷ []) more in
      let long : length b ≡ length a + 1 + length more = omega (arith, ap length e, length-append held more, longer) in
      ap₂ (λ (z : List ℕ) n. set z (length a) n) flat long ∙ set_at a 0 more (length a + 1 + length more) (length a) refl

  holds : (b : List ℕ) (c : Code) → stops_in (onto i done) (length a) ≡ (length a + 1 + count c) ∷ (stops_in c (length a + 1) ++ [])
      → b ≡ held ++ stops_in c (length held) → set b (length a) (length b) ≡ a ++ stops_in (onto i done) (length a)
  holds b c shape e =
      let inner = stops_in c (length a + 1) in
      let f : b ≡ held ++ inner = e ∙ ap (λ z. held ++ stops_in c z) longer in
      filled b inner f ∙ ap₂ (λ n (l : List ℕ). a ++ (length a + 1 + n) ∷ l) (length_stops c (length a + 1)) (sym (append-nil inner))
      ∙ ap (λ (l : List ℕ). a ++ l) (sym shape)

  pub block_stops : (b : List ℕ) (k : Option ValType) (xs : List Instr) → i ≡ v.Block k xs → b ≡ held ++ stops_in (code_of xs) (length held)
      → set b (length a) (length b) ≡ a ++ stops_in (onto i done) (length a)
  block_stops b k xs is e = holds b (code_of xs) (ap (λ z. stops_in (onto z done) (length a)) is ∙ ap (λ z. stops_in z (length a)) (onto-block k xs done)) e

  pub loop_stops : (b : List ℕ) (k : Option ValType) (xs : List Instr) → i ≡ v.Loop k xs → b ≡ held ++ stops_in (code_of xs) (length held)
      → set b (length a) (length b) ≡ a ++ stops_in (onto i done) (length a)
  loop_stops b k xs is e = holds b (code_of xs) (ap (λ z. stops_in (onto z done) (length a)) is ∙ ap (λ z. stops_in z (length a)) (onto-loop k xs done)) e

  pub if_stops : (b d : List ℕ) (k : Option ValType) (xs ys : List Instr) → i ≡ v.If k xs ys → b ≡ held ++ stops_in (code_of xs) (length held)
      → d ≡ b ++ stops_in (code_of ys) (length b) → set d (length a) (length d) ≡ a ++ stops_in (onto i done) (length a)
  if_stops b d k xs ys is e f =
      let x = code_of xs in
      let y = code_of ys in
      let p = length a in
      let first = stops_in x (p + 1) in
      let second = stops_in y (p + 1 + count x) in
      let both : b ≡ held ++ first = e ∙ ap (λ z. held ++ stops_in x z) longer in
      let middle : length b ≡ p + 1 + count x = omega (arith, ap length both, length-append held first, longer, length_stops x (p + 1)) in
      let all : d ≡ held ++ (first ++ second) = f ∙ ap₂ (λ (l : List ℕ) z. l ++ stops_in y z) both middle ∙ append_assoc held first second in
      let long : p + 1 + length (first ++ second) ≡ p + 1 + count x + count y =
      omega (arith, length-append first second, length_stops x (p + 1), length_stops y (p + 1 + count x)) in
      let shape : stops_in (onto i done) p ≡ (p + 1 + count x + count y) ∷ (first ++ (second ++ [])) =
      ap (λ z. stops_in (onto z done) p) is ∙ ap (λ z. stops_in z p) (onto-if k xs ys done) in
      filled d (first ++ second) all ∙ ap₂ (λ n (l : List ℕ). a ++ n ∷ (first ++ l)) long (sym (append-nil second)) ∙ ap (λ (l : List ℕ). a ++ l) (sym shape)

  pub plain_stops : (b : List ℕ) → is_plain i ≡ true → b ≡ held → set b (length a) (length b) ≡ a ++ stops_in (onto i done) (length a)
  plain_stops b h e = filled b [] (e ∙ sym (append-nil held)) ∙ ap (λ (z : ℕ). a ++ z ∷ []) (omega arith)
      ∙ ap (λ z. a ++ stops_in z (length a)) (sym (onto-one i done h))

-- what an instruction holds is less than it
pub block_less : (i : Instr) (k : Option ValType) (xs code : List Instr) → i ≡ v.Block k xs → code ≡ xs → count (onto i done) ≡ 1 + count (code_of code)
block_less i k xs code is same =
    let n : count (onto i done) ≡ 1 + count (code_of xs) + 0 = ap (λ z. count (onto z done)) is ∙ ap count (onto-block k xs done) in
    omega (arith, n, ap (λ z. count (code_of z)) same)

pub loop_less : (i : Instr) (k : Option ValType) (xs code : List Instr) → i ≡ v.Loop k xs → code ≡ xs → count (onto i done) ≡ 1 + count (code_of code)
loop_less i k xs code is same =
    let n : count (onto i done) ≡ 1 + count (code_of xs) + 0 = ap (λ z. count (onto z done)) is ∙ ap count (onto-loop k xs done) in
    omega (arith, n, ap (λ z. count (code_of z)) same)

pub if_less : (i : Instr) (k : Option ValType) (xs ys first second : List Instr) → i ≡ v.If k xs ys → first ≡ xs → second ≡ ys
    → count (onto i done) ≡ 1 + count (code_of first) + count (code_of second)
if_less i k xs ys first second is e f =
    let n : count (onto i done) ≡ 1 + count (code_of xs) + count (code_of ys) + 0 = ap (λ z. count (onto z done)) is ∙ ap count (onto-if k xs ys done) in
    omega (arith, n, ap (λ z. count (code_of z)) e, ap (λ z. count (code_of z)) f)

-- so many are added
added : (a b : List ℕ) (c : Code) → b ≡ a ++ stops_in c (length a) → length b ≡ length a + count c
added a b c e = omega (arith, ap length e, length-append a (stops_in c (length a)), length_stops c (length a))

-- of an instruction, and then of the rest
block_split : (e : ℕ) (I R R' : List ℕ) → R ≡ R' → e ∷ (I ++ R) ≡ e ∷ ((I ++ []) ++ R')
block_split e I R R' q = rw append-nil (ap (λ (r : List ℕ). e ∷ (I ++ r)) q)

if_split : (e : ℕ) (I J R R' : List ℕ) → R ≡ R' → e ∷ (I ++ (J ++ R)) ≡ e ∷ ((I ++ (J ++ [])) ++ R')
if_split e I J R R' q = rw (append-nil, append_assoc) (ap (λ (r : List ℕ). e ∷ (I ++ (J ++ r))) q)

stops_onto : (i : Instr) (rest : Code) (p : ℕ) → stops_in (onto i rest) p ≡ stops_in (onto i done) p ++ stops_in rest (p + count (onto i done))
unfolding onto code_of_row
stops_onto (Block' kind m inner) rest p =
    let same : p + 1 + count (code_of_row inner) ≡ p + (1 + count (code_of_row inner) + 0) = omega arith in block_split _ _ _ _ (ap (λ z. stops_in rest z) same)
stops_onto (Loop' kind m inner) rest p =
    let same : p + 1 + count (code_of_row inner) ≡ p + (1 + count (code_of_row inner) + 0) = omega arith in block_split _ _ _ _ (ap (λ z. stops_in rest z) same)
stops_onto (If' kind m x n y) rest p =
    let same : p + 1 + count (code_of_row x) + count (code_of_row y) ≡ p + (1 + count (code_of_row x) + count (code_of_row y) + 0) = omega arith in
    if_split _ _ _ _ _ (ap (λ z. stops_in rest z) same)
stops_onto i rest p = refl

pub stops_next : (i : Instr) (rest : Code) (a b all : List ℕ) → b ≡ a ++ stops_in (onto i done) (length a) → a ++ stops_in (onto i rest) (length a) ≡ all
    → b ++ stops_in rest (length b) ≡ all
stops_next i rest a b all made e =
    let own = stops_in (onto i done) (length a) in
    let long = added a b (onto i done) made in
    ap₂ (λ (l : List ℕ) z. l ++ stops_in rest z) made long ∙ append_assoc a own (stops_in rest (length a + count (onto i done)))
    ∙ ap (λ (l : List ℕ). a ++ l) (sym (stops_onto i rest (length a))) ∙ e

-- ---- what the sites say

-- the contents of a live position end there
abbrev Fit : List ℕ → Sites → Type 0
Fit [] [] = Unit {0}
Fit (e ∷ list) (None ∷ S) = Fit list S
Fit (e ∷ list) (Some s ∷ S) = (s.stop ≡ e) × Fit list S
Fit _ _ = ⊥

fit_append : (a b : List ℕ) (S T : Sites) → Fit a S → Fit b T → Fit (a ++ b) (S ++ T)
fit_append [] b [] T f g = g
fit_append [] b (s ∷ S) T f g = absurd f
fit_append (x ∷ a) b [] T f g = absurd f
fit_append (x ∷ a) b (None ∷ S) T f g = fit_append a b S T f g
fit_append (x ∷ a) b (Some s ∷ S) T f g = (f.0, fit_append a b S T f.1 g)

fit_dead : (n : ℕ) (list : List ℕ) → length list ≡ n → Fit list (replicate n None)
fit_dead zero [] e = tt
fit_dead zero (a ∷ list) e = absurd (omega arith)
fit_dead (suc n) [] e = absurd (omega arith)
fit_dead (suc n) (a ∷ list) e = fit_dead n list (omega arith)

fit_get : (list : List ℕ) (S : Sites) (p : ℕ) (s : Site) → Fit list S → IsSite S p s → slice_get list p ≡ Some s.stop
fit_get [] [] p s f is = absurd (grind (arith, is))
fit_get [] (o ∷ S) p s f is = absurd f
fit_get (e ∷ list) [] p s f is = absurd f
fit_get (e ∷ list) (None ∷ S) zero s f is = absurd (grind (arith, is))
fit_get (e ∷ list) (None ∷ S) (suc p) s f is = fit_get list S p s f is
fit_get (e ∷ list) (Some r ∷ S) zero s f is = let rs : r ≡ s = cc in ap Some (sym f.0 ∙ ap (λ (z : Site). z.stop) rs)
fit_get (e ∷ list) (Some r ∷ S) (suc p) s f is = fit_get list S p s f.1 is

module _ (cs : Callees) (w : ℕ → Bool) where
  fit_rest : (q p : ℕ) (c : Code) → Fit (stops_in c p) (replicate (size (marked w q c)) None)
  fit_rest q p c = fit_dead (size (marked w q c)) (stops_in c p) (length_stops c p ∙ sym (size_marked w c q))

  fit_plain : (ctx : List Label) (k : Node) (q : ℕ) (op : Instr) (M : Marked) (list : List ℕ) (p : ℕ) (names : List Node)
      → ((names' : List Node) → Fit list (sites cs ctx k M (p + 1) names')) → Fit list (replicate (size M) None)
      → Fit ((p + 1) ∷ list) (sites cs ctx k (plain (w q) op M) p names)
  fit_plain ctx k q (instr.Br l) M list p names live dead = (refl, dead)
  fit_plain ctx k q (instr.BrIf l) M list p names live dead = (refl, live _)
  fit_plain ctx k q (instr.BrTable labels other) M list p names live dead = (refl, dead)
  fit_plain ctx k q instr.Return M list p names live dead = (refl, dead)
  fit_plain ctx k q instr.Unreachable M list p names live dead = (refl, dead)
  fit_plain ctx k q op M list p names live dead = (refl, live _)

  fit_later : (c : Code) (S : Sites) (e e' : ℕ) → e ≡ e' → Fit (stops_in c e) S → Fit (stops_in c e') S
  fit_later c S e e' same f = subst (λ z. Fit (stops_in c z) S) same f

  fit_code : (c : Code) (ctx : List Label) (k : Node) (q p : ℕ) (names : List Node) → Fit (stops_in c p) (sites cs ctx k (marked w q c) p names)
  fit_code done ctx k q p names = tt
  fit_code (one op rest) ctx k q p names =
      fit_plain ctx k q op (marked w (q + 1) rest) (stops_in rest (p + 1)) p names (λ names'. fit_code rest ctx k (q + 1) (p + 1) names')
      (fit_rest (q + 1) (p + 1) rest)
  fit_code (block kind body rest) ctx k q p names =
      let e = p + 1 + size (marked w (q + 1) body) in
      let e' = p + 1 + count body in
      let same : e ≡ e' = omega (arith, size_marked w body (q + 1)) in (
        same,
        fit_append (stops_in body (p + 1)) (stops_in rest e') _ _ (fit_code body (block_label p (arity kind) e ∷ ctx) (Join p) (q + 1) (p + 1) [])
            (fit_later rest _ e e' same (fit_code rest ctx k (q + 1 + count body) e (named (arity kind) (Join p) names))),
      )
  fit_code (repeat kind body rest) ctx k q p names =
      let e = p + 1 + size (marked w (q + 1) body) in
      let e' = p + 1 + count body in
      let same : e ≡ e' = omega (arith, size_marked w body (q + 1)) in (
        same,
        fit_append (stops_in body (p + 1)) (stops_in rest e') _ _ (fit_code body (loop_label p e ∷ ctx) (Join p) (q + 1) (p + 1) [])
            (fit_later rest _ e e' same (fit_code rest ctx k (q + 1 + count body) e (named (arity kind) (Join p) names))),
      )
  fit_code (branch kind x y rest) ctx k q p names =
      let f = p + 1 + size (marked w (q + 1) x) in
      let f' = p + 1 + count x in
      let e = p + 1 + size (marked w (q + 1) x) + size (marked w (q + 1 + count x) y) in
      let e' = p + 1 + count x + count y in
      let same_f : f ≡ f' = omega (arith, size_marked w x (q + 1)) in
      let same : e ≡ e' = omega (arith, size_marked w x (q + 1), size_marked w y (q + 1 + count x)) in
      let L = block_label p (arity kind) e in (
        same,
        fit_append (stops_in x (p + 1)) (stops_in y f' ++ stops_in rest e') _ _ (fit_code x (L ∷ ctx) (Join p) (q + 1) (p + 1) [])
            (fit_append (stops_in y f') (stops_in rest e') _ _ (fit_later y _ f f' same_f (fit_code y (L ∷ ctx) (Join p) (q + 1 + count x) f []))
            (fit_later rest _ e e' same (fit_code rest ctx k (q + 1 + count x + count y) e (named (arity kind) (Join p) (drop 1 names))))),
      )

  pub site_stop : (c : Code) (ctx : List Label) (k : Node) (p : ℕ) (s : Site) → IsSite (sites cs ctx k (marked w 0 c) 0 []) p s
      → slice_get (stops_in c 0) p ≡ Some s.stop
  site_stop c ctx k p s is = fit_get (stops_in c 0) (sites cs ctx k (marked w 0 c) 0 []) p s (fit_code c ctx k 0 0 []) is
