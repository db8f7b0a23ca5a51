-- The deeds of an instruction and what it holds, and then those of the rest.
use Rattle.std.proofs.Common.{◌≡◌, List, [], ◌++◌, Bool, true, false, Option, refl, ap, sym, ◌∙◌}
use Rattle.std.specs.Prelude.{if◌then◌else◌}
use Rattle.std.proofs.lemmas.List.{append-nil, append_assoc}
use Rattle.wasm_types.specs.declared.module.ValType.{ValType}
use Rattle.wasm_types.specs.declared.instr.Instr.{Instr, Block', Loop', If'}
use Rattle.wasm_types.specs.declared.instr.Instr.TheVariants.{Block, Loop, If}
use Rattle.wasm_types.specs.Code.{Code, done, block, repeat, branch, onto, code_of_row, code_of, is_plain}
use Rattle.wasm_types.proofs.CodeLemmas.{onto-block, onto-loop, onto-if, onto-one}
use Rattle.flow_domain.specs.LocRows.{goes_on}
use Rattle.call_graph.specs.declared.deeds.Deed.{Deed}
use Rattle.call_graph.specs.Lists.{deeds_of, live_deeds}

nothing : (b : Bool) → (if b then (let none : List Deed = [] in none) else []) ≡ []
nothing true = refl
nothing false = refl

-- what was found in what an instruction holds was found for the instruction
module _ (i : Instr) (old : List Deed) where
  held : (new more all : List Deed) → more ≡ all → new ≡ old ++ more → new ≡ old ++ all
  held new more all same made = made ∙ ap (λ (ds : List Deed). old ++ ds) same

  pub block_walked : (k : Option ValType) (xs : List Instr) (new : List Deed) → i ≡ Block k xs → new ≡ old ++ live_deeds (code_of xs)
      → new ≡ old ++ live_deeds (onto i done)
  block_walked k xs new is made =
      let e : onto i done ≡ block k (code_of xs) done = ap (λ (z : Instr). onto z done) is ∙ onto-block k xs done in
      held new (live_deeds (code_of xs)) (live_deeds (onto i done)) (sym (append-nil (live_deeds (code_of xs))) ∙ sym (ap live_deeds e)) made

  pub loop_walked : (k : Option ValType) (xs : List Instr) (new : List Deed) → i ≡ Loop k xs → new ≡ old ++ live_deeds (code_of xs)
      → new ≡ old ++ live_deeds (onto i done)
  loop_walked k xs new is made =
      let e : onto i done ≡ repeat k (code_of xs) done = ap (λ (z : Instr). onto z done) is ∙ onto-loop k xs done in
      held new (live_deeds (code_of xs)) (live_deeds (onto i done)) (sym (append-nil (live_deeds (code_of xs))) ∙ sym (ap live_deeds e)) made

  pub if_walked : (k : Option ValType) (xs ys : List Instr) (mid new : List Deed) → i ≡ If k xs ys → mid ≡ old ++ live_deeds (code_of xs)
      → new ≡ mid ++ live_deeds (code_of ys) → new ≡ old ++ live_deeds (onto i done)
  if_walked k xs ys mid new is first second =
      let e : onto i done ≡ branch k (code_of xs) (code_of ys) done = ap (λ (z : Instr). onto z done) is ∙ onto-if k xs ys done in
      held new (live_deeds (code_of xs) ++ live_deeds (code_of ys)) (live_deeds (onto i done))
      (ap (λ (ds : List Deed). live_deeds (code_of xs) ++ ds) (sym (append-nil (live_deeds (code_of ys)))) ∙ sym (ap live_deeds e))
      (second ∙ (ap (λ (ds : List Deed). ds ++ live_deeds (code_of ys)) first ∙ append_assoc old (live_deeds (code_of xs)) (live_deeds (code_of ys))))

  pub one_walked : (new : List Deed) → is_plain i ≡ true → new ≡ old ++ deeds_of i → new ≡ old ++ live_deeds (onto i done)
  one_walked new h made =
      held new (deeds_of i) (live_deeds (onto i done))
      (sym (append-nil (deeds_of i)) ∙ (ap (λ (ds : List Deed). deeds_of i ++ ds) (sym (nothing (goes_on i))) ∙ sym (ap live_deeds (onto-one i done h)))) made

deeds-onto : (i : Instr) (rest : Code) → live_deeds (onto i rest) ≡ live_deeds (onto i done) ++ (if goes_on i then live_deeds rest else [])
unfolding onto code_of_row
deeds-onto (Block' k m inner) rest = ap (λ (ds : List Deed). ds ++ live_deeds rest) (sym (append-nil (live_deeds (code_of_row inner))))
deeds-onto (Loop' k m inner) rest = ap (λ (ds : List Deed). ds ++ live_deeds rest) (sym (append-nil (live_deeds (code_of_row inner))))
deeds-onto (If' k m first n second) rest =
    let x : List Deed = live_deeds (code_of_row first) in let y : List Deed = live_deeds (code_of_row second) in
    sym (append_assoc x y (live_deeds rest)) ∙ ap (λ (ds : List Deed). (x ++ ds) ++ live_deeds rest) (sym (append-nil y))
deeds-onto _ rest = refl

module _ (i : Instr) (rest : Code) (a b all : List Deed) (made : b ≡ a ++ live_deeds (onto i done)) (whole : a ++ live_deeds (onto i rest) ≡ all) where
  together : b ++ (if goes_on i then live_deeds rest else []) ≡ all
  together =
      rw made (append_assoc a (live_deeds (onto i done)) (if goes_on i then live_deeds rest else [])
      ∙ (ap (λ (ds : List Deed). a ++ ds) (sym (deeds-onto i rest)) ∙ whole))

  pub deeds_next : goes_on i ≡ true → b ++ live_deeds rest ≡ all
  deeds_next on = rw on at together

  pub deeds_stop : goes_on i ≡ false → b ≡ all
  deeds_stop off = let e : b ++ [] ≡ all = rw off at together in sym (append-nil b) ∙ e
