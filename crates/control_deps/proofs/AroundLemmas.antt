-- What is kept as around a position is the innermost block, loop or if that encloses it.
use Rattle.std.proofs.Common.{◌≡◌, ℕ, zero, suc, ◌+◌, ◌≤◌, ◌<◌, ◌&&◌, ◌⊎◌, inl, inr, ⊎_elim, Bool, true, ◌-◌, List, [], ◌∷◌, ◌++◌, Option, Some, None, IfSome, length, refl, sym, ap, ap₂, ◌∙◌, subst, arith, length-append}
use Rattle.std.specs.List.{slice_get}
use Rattle.std.proofs.lemmas.Bool.{cases_lt}
use Rattle.std.proofs.lemmas.List.{append_assoc}
use Rattle.std.proofs.lemmas.Option.{slice_get_within}
use Rattle.wasm_types.specs.declared.module.Body.{Body}
use Rattle.wasm_types.specs.declared.module.Pos.{Pos}
use Rattle.wasm_types.specs.declared.module.ValType.{ValType}
use Rattle.wasm_types.specs.declared.instr.Instr.{Instr, Row_of-Instr, end_of-Instr, more_of-Instr}
use Rattle.wasm_types.specs.declared.instr.Instr as instr
use Rattle.wasm_types.specs.declared.instr.Instr.TheVariants as v
use Rattle.wasm_types.specs.Code.{Code, done, one, block, repeat, branch, onto, code_of_row, code_of, list_of, is_plain, count, flatten}
use Rattle.wasm_types.proofs.CodeLemmas.{onto-block, onto-loop, onto-if, onto-one, length-flatten}
use Rattle.block_cfg.specs.Points.{HasPoints}
use Rattle.block_cfg.specs.Walk.{goes_on}
use Rattle.control_deps.specs.declared.spot.Form.TheVariants as form
use Rattle.control_deps.specs.declared.spot.Spot.{Spot}
use Rattle.control_deps.specs.Spots.{place, form_of, spots_in}
use Rattle.control_deps.specs.Nest.{Encloses, IsAround, IsNestOf, AreNested}
use Rattle.control_deps.proofs.SpotLemmas.{length_spots}

-- ---- code whose single instructions hold no others

abbrev pub Leafy : Code → Type 0
Leafy done = Unit {0}
Leafy (one op rest) = (is_plain op ≡ true) × Leafy rest
Leafy (block kind body rest) = Leafy body × Leafy rest
Leafy (repeat kind body rest) = Leafy body × Leafy rest
Leafy (branch kind x y rest) = Leafy x × Leafy y × Leafy rest

mutual
  unfolding onto code_of_row

  leafy_onto : (i : Instr) (rest : Code) → Leafy rest → Leafy (onto i rest)
  leafy_onto (instr.Block' kind m inner) rest l = (leafy_row inner, l)
  leafy_onto (instr.Loop' kind m inner) rest l = (leafy_row inner, l)
  leafy_onto (instr.If' kind m first n second) rest l = (leafy_row first, leafy_row second, l)
  leafy_onto _ rest l = (refl, l)

  leafy_row : {m : _} → (row : Row_of-Instr m) → Leafy (code_of_row row)
  leafy_row end_of-Instr = tt
  leafy_row (more_of-Instr i rest) = leafy_onto i (code_of_row rest) (leafy_row rest)

pub leafy_code : (is : List Instr) → Leafy (code_of is)
leafy_code [] = tt
leafy_code (i ∷ is) = leafy_onto i (code_of is) (leafy_code is)

code_back : (c : Code) → Leafy c → code_of (list_of c) ≡ c
code_back done l = refl
code_back (one i rest) l = onto-one i (code_of (list_of rest)) l.0 ∙ ap (one i) (code_back rest l.1)
code_back (block k inner rest) l =
    onto-block k (list_of inner) (code_of (list_of rest)) ∙ ap₂ {A = Code} {B = Code} (λ a b. block k a b) (code_back inner l.0) (code_back rest l.1)
code_back (repeat k inner rest) l =
    onto-loop k (list_of inner) (code_of (list_of rest)) ∙ ap₂ {A = Code} {B = Code} (λ a b. repeat k a b) (code_back inner l.0) (code_back rest l.1)
code_back (branch k x y rest) l =
    onto-if k (list_of x) (list_of y) (code_of (list_of rest)) ∙ ap (λ z. branch k z (code_of (list_of y)) (code_of (list_of rest))) (code_back x l.0)
    ∙ ap₂ {A = Code} {B = Code} (λ a b. branch k x a b) (code_back y l.1) (code_back rest l.2)

-- how many positions an instruction takes
abbrev pub span : Instr → ℕ
span i = count (onto i done)

pub span_one : (i : Instr) → is_plain i ≡ true → span i ≡ 1
span_one i plain = ap count (onto-one i done plain)

pub span_block : (k : Option ValType) (inner : Code) → Leafy inner → span (v.Block k (list_of inner)) ≡ 1 + count inner
span_block k inner l = ap count (onto-block k (list_of inner) done) ∙ omega (arith, ap count (code_back inner l))

pub span_loop : (k : Option ValType) (inner : Code) → Leafy inner → span (v.Loop k (list_of inner)) ≡ 1 + count inner
span_loop k inner l = ap count (onto-loop k (list_of inner) done) ∙ omega (arith, ap count (code_back inner l))

pub span_if : (k : Option ValType) (x y : Code) → Leafy x → Leafy y → span (v.If k (list_of x) (list_of y)) ≡ 1 + count x + count y
span_if k x y l r = ap count (onto-if k (list_of x) (list_of y) done) ∙ omega (arith, ap count (code_back x l), ap count (code_back y r))

-- ---- places in lists

pub get_front : {A : Type 0} (xs ys : List A) (k : ℕ) → k < length xs → slice_get (xs ++ ys) k ≡ slice_get xs k
get_front [] ys k lt = absurd (omega arith)
get_front (x ∷ xs) ys zero lt = refl
get_front (x ∷ xs) ys (suc k) lt = get_front xs ys k (omega arith)

pub get_back : {A : Type 0} (xs ys : List A) (k n : ℕ) → k ≡ length xs + n → slice_get (xs ++ ys) k ≡ slice_get ys n
get_back [] ys k n e = ap (slice_get ys) (let f : k ≡ n = omega arith in f)
get_back (x ∷ xs) ys zero n e = absurd (omega arith)
get_back (x ∷ xs) ys (suc k) n e = get_back xs ys k n (omega arith)

-- ---- what encloses, among instructions in reading order

record Holds (is : List Instr) (b q : ℕ) : Type 0 where
  instr : Instr
  at : slice_get is b ≡ Some instr
  behind : b < q
  inside : q < b + span instr

-- no instruction reaches past the end
abbrev pub Closed : List Instr → Type 0
Closed is = (b : ℕ) (i : Instr) → slice_get is b ≡ Some i → b + span i ≤ length is

closed_append : (xs ys : List Instr) → Closed xs → Closed ys → Closed (xs ++ ys)
closed_append xs ys f g b i e =
    ⊎_elim
    (λ lt. let h = f b i (sym (get_front xs ys b lt) ∙ e) in omega (arith, h, length-append xs ys))
    (λ le.
    let n = b - length xs in
    let same : b ≡ length xs + n = omega arith in
    let h : n + span i ≤ length ys = g n i (sym (get_back xs ys b n same) ∙ e) in omega (arith, h, same, length-append xs ys))
    (cases_lt b (length xs))

closed_cons : (i : Instr) (xs : List Instr) → span i ≡ 1 + length xs → Closed xs → Closed (i ∷ xs)
closed_cons i xs long f zero j e = let same : i ≡ j = cc in omega (arith, long, ap span same)
closed_cons i xs long f (suc b) j e = let h = f b j e in omega (arith, h)

abbrev IsInnermost : List Instr → ℕ → ℕ → Type 0
IsInnermost is q b = Holds is b q × ((other : ℕ) → Holds is other q → other ≤ b)

-- what is around the q-th of these, where these begin at p and this is around them
abbrev Told : List Instr → ℕ → Option Pos → ℕ → Option Pos → Type 0
Told is p around q r = (((b : ℕ) → Holds is b q → ⊥) × (r ≡ around)) ⊎ ((b : ℕ) × (IsInnermost is q b × (r ≡ Some (place (p + b)))))

holds_front : (xs ys : List Instr) (b q : ℕ) → q < length xs → Holds (xs ++ ys) b q → Holds xs b q
holds_front xs ys b q lt h =
    let low : b < length xs = omega (arith, lt, h.behind) in
    record { instr = h.instr; at = sym (get_front xs ys b low) ∙ h.at; behind = h.behind; inside = h.inside }

front_holds : (xs ys : List Instr) (b q : ℕ) → q < length xs → Holds xs b q → Holds (xs ++ ys) b q
front_holds xs ys b q lt h =
    let low : b < length xs = omega (arith, lt, h.behind) in
    record { instr = h.instr; at = get_front xs ys b low ∙ h.at; behind = h.behind; inside = h.inside }

told_front : (xs ys : List Instr) (p : ℕ) (around : Option Pos) (q : ℕ) (r : Option Pos) → q < length xs → Told xs p around q r → Told (xs ++ ys) p around q r
told_front xs ys p around q r lt t = ⊎_elim
    (λ (none, e). inl ((λ b h. none b (holds_front xs ys b q lt h)), e))
    (λ (b, (inner, e)). inr (b, ((front_holds xs ys b q lt inner.0, (λ other h. inner.1 other (holds_front xs ys other q lt h))), e)))
    t

-- what holds a place past the first ones is past them too
holds_back : (xs ys : List Instr) (b q n : ℕ) → Closed xs → q ≡ length xs + n → Holds (xs ++ ys) b q → (c : ℕ) × ((b ≡ length xs + c) × Holds ys c n)
holds_back xs ys b q n closed e h = ⊎_elim
    (λ lt. let low = closed b h.instr (sym (get_front xs ys b lt) ∙ h.at) in absurd (omega (arith, low, e, h.inside)))
    (λ le.
    let c = b - length xs in
    let same : b ≡ length xs + c = omega arith in
    (c, (same, record { instr = h.instr; at = sym (get_back xs ys b c same) ∙ h.at; behind = omega (arith, same, e, h.behind); inside = omega (arith, same, e, h.inside) })))
    (cases_lt b (length xs))

back_holds : (xs ys : List Instr) (c q n : ℕ) → q ≡ length xs + n → Holds ys c n → Holds (xs ++ ys) (length xs + c) q
back_holds xs ys c q n e h =
    record { instr = h.instr; at = get_back xs ys (length xs + c) c refl ∙ h.at; behind = omega (arith, e, h.behind); inside = omega (arith, e, h.inside) }

told_back : (xs ys : List Instr) (p p' : ℕ) (around : Option Pos) (q n : ℕ) (r : Option Pos) → Closed xs → p' ≡ p + length xs → q ≡ length xs + n → Told ys p' around n r
    → Told (xs ++ ys) p around q r
told_back xs ys p p' around q n r closed at e t = ⊎_elim
    (λ (none, f). inl ((λ b h. let c = holds_back xs ys b q n closed e h in none c.0 c.1.1), f))
    (λ (c, (inner, f)).
    let same : p' + c ≡ p + (length xs + c) = omega (arith, at) in
    inr (
      length xs + c,
      (
        (
          back_holds xs ys c q n e inner.0,
          (λ other h. let d = holds_back xs ys other q n closed e h in let le = inner.1 d.0 d.1.1 in omega (arith, le, d.1.0)),
        ),
        f ∙ ap (λ z. Some (place z)) same,
      ),
    ))
    t

-- inside an instruction that holds all that follows
holds_tail : (i : Instr) (xs : List Instr) (b q : ℕ) → Holds (i ∷ xs) (suc b) (suc q) → Holds xs b q
holds_tail i xs b q h = record { instr = h.instr; at = h.at; behind = omega (arith, h.behind); inside = omega (arith, h.inside) }

tail_holds : (i : Instr) (xs : List Instr) (b q : ℕ) → Holds xs b q → Holds (i ∷ xs) (suc b) (suc q)
tail_holds i xs b q h = record { instr = h.instr; at = h.at; behind = omega (arith, h.behind); inside = omega (arith, h.inside) }

told_head : (is : List Instr) (p : ℕ) (around r : Option Pos) → r ≡ around → Told is p around 0 r
told_head is p around r e = inl ((λ b h. absurd (omega (arith, h.behind))), e)

told_inner : (i : Instr) (xs : List Instr) (p : ℕ) (around : Option Pos) (q : ℕ) (r : Option Pos) → span i ≡ 1 + length xs → q < length xs
    → Told xs (p + 1) (Some (place p)) q r → Told (i ∷ xs) p around (suc q) r
told_inner i xs p around q r long lt t = ⊎_elim
    (λ (none, e).
    let same : p ≡ p + 0 = omega arith in
    inr (
      0,
      (
        (record { instr = i; at = refl; behind = omega arith; inside = omega (arith, long) }, lowest none),
        e ∙ ap (λ z. Some (place z)) same,
      ),
    ))
    (λ (b, (inner, e)).
    let same : p + 1 + b ≡ p + suc b = omega arith in
    inr (suc b, ((tail_holds i xs b q inner.0, highest b inner.1), e ∙ ap (λ z. Some (place z)) same)))
    t
  where
    lowest : ((b : ℕ) → Holds xs b q → ⊥) → (other : ℕ) → Holds (i ∷ xs) other (suc q) → other ≤ 0
    lowest none zero h = omega arith
    lowest none (suc b) h = absurd (none b (holds_tail i xs b q h))

    highest : (b : ℕ) → ((other : ℕ) → Holds xs other q → other ≤ b) → (other : ℕ) → Holds (i ∷ xs) other (suc q) → other ≤ suc b
    highest b most zero h = omega arith
    highest b most (suc c) h = let le = most c (holds_tail i xs c q h) in omega (arith, le)

-- ---- all of them

abbrev AllTold : List Instr → ℕ → Option Pos → List Spot → Type 0
AllTold is p around X = (q : ℕ) (x : Spot) → slice_get X q ≡ Some x → Told is p around q x.around

told_append : (xs ys : List Instr) (p p' : ℕ) (around : Option Pos) (X Y : List Spot) → Closed xs → length X ≡ length xs → p' ≡ p + length xs → AllTold xs p around X → AllTold ys p' around Y
    → AllTold (xs ++ ys) p around (X ++ Y)
told_append xs ys p p' around X Y closed long at f g q x e = ⊎_elim
    (λ lt. told_front xs ys p around q x.around (omega (arith, long)) (f q x (sym (get_front X Y q lt) ∙ e)))
    (λ le.
    let n = q - length X in
    let same : q ≡ length X + n = omega arith in
    told_back xs ys p p' around q n x.around closed at (omega (arith, same, long)) (g n x (sym (get_back X Y q n same) ∙ e)))
    (cases_lt q (length X))

told_cons : (i : Instr) (xs : List Instr) (p : ℕ) (around : Option Pos) (x : Spot) (X : List Spot) → span i ≡ 1 + length xs → length X ≡ length xs → x.around ≡ around
    → AllTold xs (p + 1) (Some (place p)) X → AllTold (i ∷ xs) p around (x ∷ X)
told_cons i xs p around x X long same here f zero y e = let is : x ≡ y = cc in told_head (i ∷ xs) p around y.around (ap (λ (z : Spot). z.around) (sym is) ∙ here)
told_cons i xs p around x X long same here f (suc q) y e = told_inner i xs p around q y.around long (let lt = slice_get_within X q y e in omega (arith, lt, same)) (f q y e)

told_none : (is : List Instr) (p : ℕ) (around : Option Pos) → AllTold is p around []
told_none is p around q x e = absurd cc

closed_none : Closed []
closed_none b i e = absurd cc

pub closed_in : (c : Code) → Leafy c → Closed (flatten c)
closed_in done l = closed_none
closed_in (one i rest) l = closed_append (i ∷ []) (flatten rest) (closed_cons i [] (span_one i l.0) closed_none) (closed_in rest l.1)
closed_in (block k inner rest) l =
    closed_append (v.Block k (list_of inner) ∷ flatten inner) (flatten rest)
    (closed_cons (v.Block k (list_of inner)) (flatten inner) (omega (arith, span_block k inner l.0, length-flatten inner)) (closed_in inner l.0)) (closed_in rest l.1)
closed_in (repeat k inner rest) l =
    closed_append (v.Loop k (list_of inner) ∷ flatten inner) (flatten rest)
    (closed_cons (v.Loop k (list_of inner)) (flatten inner) (omega (arith, span_loop k inner l.0, length-flatten inner)) (closed_in inner l.0)) (closed_in rest l.1)
closed_in (branch k x y rest) l =
    closed_append (v.If k (list_of x) (list_of y) ∷ (flatten x ++ flatten y)) (flatten rest)
    (closed_cons (v.If k (list_of x) (list_of y)) (flatten x ++ flatten y) (omega (arith, span_if k x y l.0 l.1, length-flatten x, length-flatten y, length-append (flatten x) (flatten y)))
    (closed_append (flatten x) (flatten y) (closed_in x l.0) (closed_in y l.1)))
    (closed_in rest l.2)

told_in : (live : Bool) (around : Option Pos) (depth : ℕ) (c : Code) (p : ℕ) → Leafy c → AllTold (flatten c) p around (spots_in live around depth c p)
told_in live around depth done p l = told_none [] p around
told_in live around depth (one i rest) p l =
    told_append (i ∷ []) (flatten rest) p (p + 1) around (record { around = around; stop = p + 1; live = live; form = form_of depth i } ∷ []) (spots_in (goes_on i && live) around depth rest (p + 1))
    (closed_cons i [] (span_one i l.0) closed_none) refl refl
    (told_cons i [] p around _ [] (span_one i l.0) refl refl (told_none [] (p + 1) (Some (place p)))) (told_in (goes_on i && live) around depth rest (p + 1) l.1)
told_in live around depth (block k inner rest) p l =
    let e = p + 1 + count inner in
    let i = v.Block k (list_of inner) in
    let I = spots_in live (Some (place p)) (depth + 1) inner (p + 1) in
    let long : span i ≡ 1 + length (flatten inner) = omega (arith, span_block k inner l.0, length-flatten inner) in
    let same : length I ≡ length (flatten inner) = omega (arith, length_spots live (Some (place p)) (depth + 1) inner (p + 1), length-flatten inner) in
    told_append (i ∷ flatten inner) (flatten rest) p e around (record { around = around; stop = e; live = live; form = form.Block } ∷ I) (spots_in live around depth rest e)
    (closed_cons i (flatten inner) long (closed_in inner l.0)) (omega (arith, same)) (omega (arith, length-flatten inner))
    (told_cons i (flatten inner) p around _ I long same refl (told_in live (Some (place p)) (depth + 1) inner (p + 1) l.0)) (told_in live around depth rest e l.1)
told_in live around depth (repeat k inner rest) p l =
    let e = p + 1 + count inner in
    let i = v.Loop k (list_of inner) in
    let I = spots_in live (Some (place p)) (depth + 1) inner (p + 1) in
    let long : span i ≡ 1 + length (flatten inner) = omega (arith, span_loop k inner l.0, length-flatten inner) in
    let same : length I ≡ length (flatten inner) = omega (arith, length_spots live (Some (place p)) (depth + 1) inner (p + 1), length-flatten inner) in
    told_append (i ∷ flatten inner) (flatten rest) p e around (record { around = around; stop = e; live = live; form = form.Loop } ∷ I) (spots_in live around depth rest e)
    (closed_cons i (flatten inner) long (closed_in inner l.0)) (omega (arith, same)) (omega (arith, length-flatten inner))
    (told_cons i (flatten inner) p around _ I long same refl (told_in live (Some (place p)) (depth + 1) inner (p + 1) l.0)) (told_in live around depth rest e l.1)
told_in live around depth (branch k x y rest) p l =
    let f = p + 1 + count x in
    let e = p + 1 + count x + count y in
    let i = v.If k (list_of x) (list_of y) in
    let X = spots_in live (Some (place p)) (depth + 1) x (p + 1) in
    let Y = spots_in live (Some (place p)) (depth + 1) y f in
    let R = spots_in live around depth rest e in
    let head : Spot = record { around = around; stop = e; live = live; form = form.If } in
    let long : span i ≡ 1 + length (flatten x ++ flatten y) = omega (arith, span_if k x y l.0 l.1, length-flatten x, length-flatten y, length-append (flatten x) (flatten y)) in
    let same_x : length X ≡ length (flatten x) = omega (arith, length_spots live (Some (place p)) (depth + 1) x (p + 1), length-flatten x) in
    let same : length (X ++ Y) ≡ length (flatten x ++ flatten y) =
    omega (arith, same_x, length_spots live (Some (place p)) (depth + 1) y f, length-flatten y, length-append X Y, length-append (flatten x) (flatten y)) in
    let inner : AllTold (flatten x ++ flatten y) (p + 1) (Some (place p)) (X ++ Y) =
    told_append (flatten x) (flatten y) (p + 1) f (Some (place p)) X Y (closed_in x l.0) same_x (omega (arith, length-flatten x))
    (told_in live (Some (place p)) (depth + 1) x (p + 1) l.0) (told_in live (Some (place p)) (depth + 1) y f l.1) in
    subst (λ z. AllTold (flatten (branch k x y rest)) p around (head ∷ z)) (append_assoc X Y R)
    (told_append (i ∷ (flatten x ++ flatten y)) (flatten rest) p e around (head ∷ (X ++ Y)) R
    (closed_cons i (flatten x ++ flatten y) long (closed_append (flatten x) (flatten y) (closed_in x l.0) (closed_in y l.1)))
    (omega (arith, same)) (omega (arith, length-append (flatten x) (flatten y), length-flatten x, length-flatten y))
    (told_cons i (flatten x ++ flatten y) p around head (X ++ Y) long same refl inner) (told_in live around depth rest e l.2))

-- ---- a whole body

encloses_of : (c : Code) (b q : ℕ) → Holds (flatten c) b q → Encloses c b q
encloses_of c b q h = record { instr = h.instr; is = h.at; behind = h.behind; inside = h.inside }

of_encloses : (c : Code) (b q : ℕ) → Encloses c b q → Holds (flatten c) b q
of_encloses c b q h = record { instr = h.instr; at = h.is; behind = h.behind; inside = h.inside }

around_of : (c : Code) (q : ℕ) (r : Option Pos) → Told (flatten c) 0 None q r → IsAround c q r
around_of c q r t = ⊎_elim
    (λ (none, e). subst (IsAround c q) (sym e) (λ b h. none b (of_encloses c b q h)))
    (λ (b, (inner, e)).
    let same : b ≡ 0 + b = omega arith in
    subst (IsAround c q) (sym (e ∙ ap (λ z. Some (place z)) (sym same))) (encloses_of c b q inner.0, (λ other h. inner.1 other (of_encloses c other q h))))
    t

pub is_around : (body : Body) (nest : List Spot) (q : ℕ) (x : Spot) → IsNestOf body nest → slice_get nest q ≡ Some x → IsAround (code_of body.code) q x.around
is_around body nest q x is e =
    around_of (code_of body.code) q x.around (told_in true None 0 (code_of body.code) 0 (leafy_code body.code) q x (ap (λ z. slice_get z q) (sym is.is) ∙ e))

-- ---- what is around a position stands before it

abbrev IsBefore : ℕ → Option Pos → Type 0
IsBefore p around = IfSome around (λ (b : Pos). b.0 < p)

before_later : (p q : ℕ) (around : Option Pos) → p ≤ q → IsBefore p around → IsBefore q around
before_later p q None le h = tt
before_later p q (Some b) le h = omega (arith, h)

abbrev AllBefore : ℕ → List Spot → Type 0
AllBefore p [] = Unit {0}
AllBefore p (x ∷ xs) = IsBefore p x.around × AllBefore (p + 1) xs

before_append : (p q : ℕ) (xs ys : List Spot) → q ≡ p + length xs → AllBefore p xs → AllBefore q ys → AllBefore p (xs ++ ys)
before_append p q [] ys e f g = let same : q ≡ p = omega arith in subst (λ z. AllBefore z ys) same g
before_append p q (x ∷ xs) ys e f g = (f.0, before_append (p + 1) q xs ys (omega arith) f.1 g)

before_at : (p : ℕ) (xs : List Spot) (k : ℕ) (x : Spot) → AllBefore p xs → slice_get xs k ≡ Some x → IsBefore (p + k) x.around
before_at p [] k x f e = absurd cc
before_at p (y ∷ xs) zero x f e = let is : y ≡ x = cc in before_later p (p + 0) x.around (omega arith) (subst (λ (z : Spot). IsBefore p z.around) is f.0)
before_at p (y ∷ xs) (suc k) x f e = before_later (p + 1 + k) (p + suc k) x.around (omega arith) (before_at (p + 1) xs k x f.1 e)

before_in : (live : Bool) (around : Option Pos) (depth : ℕ) (c : Code) (p : ℕ) → IsBefore p around → AllBefore p (spots_in live around depth c p)
before_in live around depth done p h = tt
before_in live around depth (one i rest) p h = (h, before_in (goes_on i && live) around depth rest (p + 1) (before_later p (p + 1) around (omega arith) h))
before_in live around depth (block kind inner rest) p h =
    let e = p + 1 + count inner in
    let I = spots_in live (Some (place p)) (depth + 1) inner (p + 1) in
    let long : e ≡ p + 1 + length I = omega (arith, length_spots live (Some (place p)) (depth + 1) inner (p + 1)) in
    let first : p < p + 1 = omega arith in
    (h, before_append (p + 1) e I (spots_in live around depth rest e) long (before_in live (Some (place p)) (depth + 1) inner (p + 1) first) (before_in live around depth rest e (before_later p e around (omega arith) h)))
before_in live around depth (repeat kind inner rest) p h =
    let e = p + 1 + count inner in
    let I = spots_in live (Some (place p)) (depth + 1) inner (p + 1) in
    let long : e ≡ p + 1 + length I = omega (arith, length_spots live (Some (place p)) (depth + 1) inner (p + 1)) in
    let first : p < p + 1 = omega arith in
    (h, before_append (p + 1) e I (spots_in live around depth rest e) long (before_in live (Some (place p)) (depth + 1) inner (p + 1) first) (before_in live around depth rest e (before_later p e around (omega arith) h)))
before_in live around depth (branch kind x y rest) p h =
    let f = p + 1 + count x in
    let e = p + 1 + count x + count y in
    let X = spots_in live (Some (place p)) (depth + 1) x (p + 1) in
    let Y = spots_in live (Some (place p)) (depth + 1) y f in
    let R = spots_in live around depth rest e in
    let long_x : f ≡ p + 1 + length X = omega (arith, length_spots live (Some (place p)) (depth + 1) x (p + 1)) in
    let long_y : e ≡ f + length Y = omega (arith, length_spots live (Some (place p)) (depth + 1) y f) in
    let first : p < p + 1 = omega arith in
    let second : p < f = omega arith in (
      h,
      before_append (p + 1) f X (Y ++ R) long_x (before_in live (Some (place p)) (depth + 1) x (p + 1) first)
          (before_append f e Y R long_y (before_in live (Some (place p)) (depth + 1) y f second) (before_in live around depth rest e (before_later p e around (omega arith) h))),
    )

pub nested_of : (c : Code) (nest : List Spot) → nest ≡ spots_in true None 0 c 0 → count c ≤ 200000 → AreNested nest
nested_of c nest is le = record {
  few = let long = length_spots true None 0 c 0 in omega (arith, ap length is, long);
  before = λ k x e. before_later (0 + k) k x.around (omega arith) (before_at 0 (spots_in true None 0 c 0) k x (before_in true None 0 c 0 tt) (ap (λ z. slice_get z k) (sym is) ∙ e));
}

pub few_positions : (body : Body) → HasPoints body → count (code_of body.code) ≤ 200000
few_positions body h = omega (arith, h.positions, length-flatten (code_of body.code))
