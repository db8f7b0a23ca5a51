-- The steps of the walk over positions.
use Rattle.std.proofs.Common.{◌≡◌, ℕ, ◌+◌, ◌&&◌, Bool, true, List, [], ◌∷◌, ◌++◌, Option, Some, length, set, refl, sym, ap, ap₂, ◌∙◌, arith, length-append}
use Rattle.std.proofs.lemmas.List.{append-nil, append_assoc, set_at}
use Rattle.wasm_types.specs.declared.module.Pos.{Pos}
use Rattle.wasm_types.specs.declared.module.ValType.{ValType}
use Rattle.wasm_types.specs.declared.instr.Instr.{Instr, Block', Loop', If'}
use Rattle.wasm_types.specs.declared.instr.Instr.TheVariants as v
use Rattle.wasm_types.specs.Code.{Code, done, one, block, repeat, branch, onto, code_of_row, code_of, is_plain, count}
use Rattle.wasm_types.proofs.CodeLemmas.{onto-block, onto-loop, onto-if, onto-one}
use Rattle.block_cfg.specs.Walk.{goes_on}
use Rattle.control_deps.specs.declared.spot.Form.TheVariants as form
use Rattle.control_deps.specs.declared.spot.Spot.{Spot}
use Rattle.control_deps.specs.Spots.{place, form_of, spots_in}

block_split : (X : Spot) (I R R' : List Spot) → R ≡ R' → X ∷ (I ++ R) ≡ X ∷ ((I ++ []) ++ R')
block_split X I R R' q = rw append-nil (ap (λ (r : List Spot). X ∷ (I ++ r)) q)

if_split : (X : Spot) (I J R R' : List Spot) → R ≡ R' → X ∷ (I ++ (J ++ R)) ≡ X ∷ ((I ++ (J ++ [])) ++ R')
if_split X I J R R' q = rw (append-nil, append_assoc) (ap (λ (r : List Spot). X ∷ (I ++ (J ++ r))) q)

pub spots_onto : (live : Bool) (around : Option Pos) (depth : ℕ) (i : Instr) (rest : Code) (p : ℕ)
    → spots_in live around depth (onto i rest) p ≡ spots_in live around depth (onto i done) p ++ spots_in (goes_on i && live) around depth rest (p + count (onto i done))
unfolding onto code_of_row
spots_onto live around depth (Block' kind m inner) rest p =
    let same : p + 1 + count (code_of_row inner) ≡ p + (1 + count (code_of_row inner) + 0) = omega arith in
    block_split _ _ _ _ (ap (λ z. spots_in live around depth rest z) same)
spots_onto live around depth (Loop' kind m inner) rest p =
    let same : p + 1 + count (code_of_row inner) ≡ p + (1 + count (code_of_row inner) + 0) = omega arith in
    block_split _ _ _ _ (ap (λ z. spots_in live around depth rest z) same)
spots_onto live around depth (If' kind m x n y) rest p =
    let same : p + 1 + count (code_of_row x) + count (code_of_row y) ≡ p + (1 + count (code_of_row x) + count (code_of_row y) + 0) = omega arith in
    if_split _ _ _ _ _ (ap (λ z. spots_in live around depth rest z) same)
spots_onto live around depth i rest p = refl

-- one instruction, and then the rest
pub spots_then : (old new all : List Spot) (live live' : Bool) (around : Option Pos) (depth : ℕ) (i : Instr) (rest whole : Code) (p e : ℕ) → whole ≡ onto i rest → e ≡ p + count (onto i done)
    → live' ≡ (goes_on i && live) → new ≡ old ++ spots_in live around depth (onto i done) p → old ++ spots_in live around depth whole p ≡ all
    → new ++ spots_in live' around depth rest e ≡ all
spots_then old new all live live' around depth i rest whole p e whole_is e_is live_is f g =
    let head = spots_in live around depth (onto i done) p in
    ap₂ (λ (a b : List Spot). a ++ b) f (ap₂ (λ (l : Bool) (z : ℕ). spots_in l around depth rest z) live_is e_is)
    ∙ append_assoc old head (spots_in (goes_on i && live) around depth rest (p + count (onto i done)))
    ∙ ap (λ z. old ++ z) (sym (spots_onto live around depth i rest p) ∙ ap (λ c. spots_in live around depth c p) (sym whole_is)) ∙ g

-- what was put first is put right at the end
pub place_set : (old inner whole : List Spot) (before after : Spot) (here : ℕ) → here ≡ length old → whole ≡ (old ++ before ∷ []) ++ inner → set whole here after ≡ old ++ after ∷ inner
place_set old inner whole before after here at e =
    ap (λ z. set z here after) (e ∙ append_assoc old (before ∷ []) inner) ∙ set_at old before inner after here (sym at)

pub block_spots : (old new : List Spot) (live : Bool) (around : Option Pos) (depth : ℕ) (i : Instr) (kind : Option ValType) (xs : List Instr) (p e : ℕ) → i ≡ v.Block kind xs
    → e ≡ p + 1 + count (code_of xs)
    → new ≡ old ++ record { around = around; stop = e; live = live; form = form.Block } ∷ spots_in live (Some (place p)) (depth + 1) (code_of xs) (p + 1)
    → new ≡ old ++ spots_in live around depth (onto i done) p
block_spots old new live around depth i kind xs p e is e_is f =
    let I = spots_in live (Some (place p)) (depth + 1) (code_of xs) (p + 1) in
    f ∙ ap (λ (z : ℕ). old ++ record { around = around; stop = z; live = live; form = form.Block } ∷ I) e_is
    ∙ ap (λ (l : List Spot). old ++ record { around = around; stop = p + 1 + count (code_of xs); live = live; form = form.Block } ∷ l) (sym (append-nil I))
    ∙ ap (λ c. old ++ spots_in live around depth c p) (sym (ap (λ z. onto z done) is ∙ onto-block kind xs done))

pub loop_spots : (old new : List Spot) (live : Bool) (around : Option Pos) (depth : ℕ) (i : Instr) (kind : Option ValType) (xs : List Instr) (p e : ℕ) → i ≡ v.Loop kind xs
    → e ≡ p + 1 + count (code_of xs)
    → new ≡ old ++ record { around = around; stop = e; live = live; form = form.Loop } ∷ spots_in live (Some (place p)) (depth + 1) (code_of xs) (p + 1)
    → new ≡ old ++ spots_in live around depth (onto i done) p
loop_spots old new live around depth i kind xs p e is e_is f =
    let I = spots_in live (Some (place p)) (depth + 1) (code_of xs) (p + 1) in
    f ∙ ap (λ (z : ℕ). old ++ record { around = around; stop = z; live = live; form = form.Loop } ∷ I) e_is
    ∙ ap (λ (l : List Spot). old ++ record { around = around; stop = p + 1 + count (code_of xs); live = live; form = form.Loop } ∷ l) (sym (append-nil I))
    ∙ ap (λ c. old ++ spots_in live around depth c p) (sym (ap (λ z. onto z done) is ∙ onto-loop kind xs done))

pub if_spots : (old new : List Spot) (live : Bool) (around : Option Pos) (depth : ℕ) (i : Instr) (kind : Option ValType) (xs ys : List Instr) (p e : ℕ) → i ≡ v.If kind xs ys
    → e ≡ p + 1 + count (code_of xs) + count (code_of ys)
    → new ≡ old ++ record { around = around; stop = e; live = live; form = form.If }
    ∷ (spots_in live (Some (place p)) (depth + 1) (code_of xs) (p + 1) ++ spots_in live (Some (place p)) (depth + 1) (code_of ys) (p + 1 + count (code_of xs)))
    → new ≡ old ++ spots_in live around depth (onto i done) p
if_spots old new live around depth i kind xs ys p e is e_is f =
    let I = spots_in live (Some (place p)) (depth + 1) (code_of xs) (p + 1) in
    let J = spots_in live (Some (place p)) (depth + 1) (code_of ys) (p + 1 + count (code_of xs)) in
    f ∙ ap (λ (z : ℕ). old ++ record { around = around; stop = z; live = live; form = form.If } ∷ (I ++ J)) e_is
    ∙ ap (λ (l : List Spot). old ++ record { around = around; stop = p + 1 + count (code_of xs) + count (code_of ys); live = live; form = form.If } ∷ (I ++ l)) (sym (append-nil J))
    ∙ ap (λ c. old ++ spots_in live around depth c p) (sym (ap (λ z. onto z done) is ∙ onto-if kind xs ys done))

pub plain_spots : (old new : List Spot) (live : Bool) (around : Option Pos) (depth : ℕ) (i : Instr) (p : ℕ) → is_plain i ≡ true
    → new ≡ old ++ record { around = around; stop = p + 1; live = live; form = form_of depth i } ∷ []
    → new ≡ old ++ spots_in live around depth (onto i done) p
plain_spots old new live around depth i p plain f = f ∙ ap (λ c. old ++ spots_in live around depth c p) (sym (onto-one i done plain))

pub length_spots : (live : Bool) (around : Option Pos) (depth : ℕ) (c : Code) (p : ℕ) → length (spots_in live around depth c p) ≡ count c
length_spots live around depth done p = refl
length_spots live around depth (one i rest) p = omega (arith, length_spots (goes_on i && live) around depth rest (p + 1))
length_spots live around depth (block kind inner rest) p =
    let e = p + 1 + count inner in
    omega (arith, length-append (spots_in live (Some (place p)) (depth + 1) inner (p + 1)) (spots_in live around depth rest e), length_spots live (Some (place p)) (depth + 1) inner (p + 1), length_spots live around depth rest e)
length_spots live around depth (repeat kind inner rest) p =
    let e = p + 1 + count inner in
    omega (arith, length-append (spots_in live (Some (place p)) (depth + 1) inner (p + 1)) (spots_in live around depth rest e), length_spots live (Some (place p)) (depth + 1) inner (p + 1), length_spots live around depth rest e)
length_spots live around depth (branch kind x y rest) p =
    let f = p + 1 + count x in let e = p + 1 + count x + count y in
    let X = spots_in live (Some (place p)) (depth + 1) x (p + 1) in let Y = spots_in live (Some (place p)) (depth + 1) y f in let R = spots_in live around depth rest e in
    omega (arith, length-append X (Y ++ R), length-append Y R, length_spots live (Some (place p)) (depth + 1) x (p + 1), length_spots live (Some (place p)) (depth + 1) y f, length_spots live around depth rest e)
