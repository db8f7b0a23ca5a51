-- What is made of a module, once the cut of a function is appended: the sliced module, sealed and short.
use Rattle.std.proofs.Common.{◌≡◌, ℕ, zero, suc, ◌+◌, ◌-◌, ◌*◌, ◌^◌, ◌≤◌, ◌<◌, List, [], ◌∷◌, ◌++◌, None, Some, length, get_or, nat_eq, refl, ap, ◌∙◌, sym, subst, arith, length-append}
use Rattle.std.specs.List.{slice_get}
use Rattle.std.specs.Prelude.{IsUtf8}
use Rattle.std.proofs.lemmas.List.Elements.{All-from_get_or}
use Rattle.wasm_types.specs.declared.module.Name.{Name}
use Rattle.wasm_types.specs.declared.module.Body.{Body}
use Rattle.wasm_types.specs.declared.module.Module.{Module}
use Rattle.wasm_types.specs.Canon.{canon}
use Rattle.wasm_types.specs.Code.{code_of, nest}
use Rattle.wasm_types.specs.Sizes.{positions}
use Rattle.wasm_types.specs.Spaces.{import_count, imported, func_import, HasBody}
use Rattle.wasm_types.specs.Subset.{InSubset, IsSealed, WithinLimits, most_read, HasNoFloat}
use Rattle.wasm_types.specs.Validity.{IsValid}
use Rattle.wasm_types.specs.WellFormed.{IsU8, ProperName}
use Rattle.flow_domain.specs.Sliced.{func_count, appended, HasExport, IsSliced}
use Rattle.stack_repair.proofs.Appended.{own_body, type_at, body_is_short, slice_is_short, slice_is_sealed}
use Rattle.stack_repair.proofs.ExactCut.{needed_told}
use Rattle.stack_repair.proofs.Bodies.{types_of_body}
use Rattle.stack_repair.proofs.Slices.{sliced_has_cut}
use Rattle.slice_whole.specs.declared.slicing.NewFunc.{NewFunc}
use Rattle.slice_whole.specs.Slices.{IsNew, IsShortFor, why_not}
use Rattle.slice_whole.proofs.Refused.{not_exported}

abbrev pub name_of : List ℕ → Name
name_of bytes = record { bytes = bytes }

pub name_proper : (name : List ℕ) → ((i : ℕ) → get_or name i 0 < 256) → IsUtf8 name → ProperName (name_of name)
name_proper name bytes text = (All-from_get_or IsU8 name 0 (λ i lt. bytes i), text)

same_some : {A : Type 0} {x y : A} → Some x ≡ Some y → x ≡ y
same_some e = cc

get_last : {A : Type 0} (xs : List A) (x : A) (n : ℕ) → n ≡ length xs → slice_get (xs ++ x ∷ []) n ≡ Some x
get_last [] x zero e = refl
get_last [] x (suc n) e = absurd (omega arith)
get_last (y ∷ xs) x zero e = absurd (omega arith)
get_last (y ∷ xs) x (suc n) e = get_last xs x n (omega arith)

-- the new function's body is the one that was appended
new_body : (m : Module) (type : ℕ) (b c : Body) (name : Name) → IsValid m → HasBody (appended m type b name) (func_count m) c → c ≡ b
new_body m type b c name valid has =
    let all = length-append (imported func_import m.imports) m.funcs in
    let same = valid.0.same in
    let last : func_count m - import_count m ≡ length m.bodies = omega arith in
    same_some (sym has.1 ∙ get_last m.bodies b (func_count m - import_count m) last)

-- the sliced module, by what was found for it
pub sliced_is : (m : Module) (f i : ℕ) (name : Name) (new : Module) (found : NewFunc) → IsValid m → HasNoFloat m → IsNew m f i found
    → new ≡ appended m found.kind found.body name → IsSliced m f i name new found.at.0
sliced_is m f i name new found valid integer n is =
    let o = n.own in
    let h = own_body m valid integer f o.type o.kind o.body o.own o.kind_is o.has_body in
    let T = types_of_body m o.kind o.body (nat_eq i) in
    let P = needed_told m o.kind o.body h i n.kept in
    let cut = n.cut o.kind o.body (type_at m f o.type o.kind o.own o.kind_is) o.has_body P.0 P.1 T.0 T.1 in
    record {
      type = o.type;
      own = o.own;
      kind = o.kind;
      kind_is = o.kind_is;
      body = o.body;
      has_body = o.has_body;
      site = n.site;
      live = n.live;
      cover = n.cover;
      cover_is = n.cover_is;
      kept = n.kept;
      exact = n.keeps.exact;
      makers = n.keeps.makers;
      made = n.keeps.made;
      present = P.0;
      needed = P.1;
      types = T.0;
      typed = T.1;
      is = is ∙ ap (λ t. appended m t found.body name) n.type_is ∙ ap (λ b. appended m o.type b name) cut.0;
      at_is = cut.1;
    }

-- what holds of it
pub record Made (m : Module) (f i : ℕ) (name : List ℕ) (new : Module) (at : ℕ) : Type 0 where
  pub none : why_not m f i name ≡ None
  pub sliced : IsSliced m f i (name_of name) new at
  pub sealed : IsSealed new
  pub body : IsShortFor m f new
  pub length : length (canon new) ≤ 5 * length (canon m) + length name + 64

short_for : (m : Module) (f i : ℕ) (name : Name) (new : Module) (at : ℕ) → IsValid m → InSubset m → ProperName name → (HasExport m.exports name.bytes → ⊥)
    → IsSliced m f i name new at → IsShortFor m f new
unfolding sliced_has_cut
short_for m f i name new at valid sub proper free s old cut has has' =
    let h = sliced_has_cut m f i name new at proper free s in
    let short = body_is_short m name new valid sub h in
    let before : old ≡ s.body = same_some (sym has.1 ∙ s.has_body.1) in
    let after = new_body m s.type _ cut name valid (subst (λ (n : Module). HasBody n (func_count m) cut) s.is has') in
    let P : Body → Body → Type 0 = λ x y. (positions y.code ≤ 2 * positions x.code) × (nest (code_of y.code) ≤ nest (code_of x.code)) in
    subst (λ (x : Body). P x cut) (sym before) (subst (λ (y : Body). P s.body y) (sym after) short)

pub made_of : (m new : Module) (f i : ℕ) (name : List ℕ) (found : NewFunc) → IsSealed m → WithinLimits most_read m → why_not m f i name ≡ None → IsNew m f i found
    → new ≡ appended m found.kind found.body (name_of name) → ProperName (name_of name) → (HasExport m.exports name → ⊥)
    → length (canon m) < 2 ^ 28 → length name < 2 ^ 28 → Made m f i name new found.at.0
made_of m new f i name found seal limits none n is proper free short few =
    let sub : InSubset m = record { no_float = seal.no_float; limits = limits; nesting = seal.nesting } in
    let s = sliced_is m f i (name_of name) new found seal.valid seal.no_float n is in
    let h = sliced_has_cut m f i (name_of name) new found.at.0 proper free s in
    record {
      none = none;
      sliced = s;
      sealed = slice_is_sealed m (name_of name) new seal.valid sub h short few;
      body = short_for m f i (name_of name) new found.at.0 seal.valid sub proper free s;
      length = slice_is_short m (name_of name) new seal.valid sub h;
    }

-- the same of the module that was given, which is this one
pub made_is : (m given new : Module) (f i : ℕ) (name : List ℕ) (found : NewFunc) → m ≡ given → IsSealed m → WithinLimits most_read given
    → (why_not given f i name ≡ None) × IsNew given f i found → new ≡ appended m found.kind found.body (name_of name) → ProperName (name_of name)
    → length (canon given) < 2 ^ 28 → length name < 2 ^ 28 → Made given f i name new found.at.0
made_is m given new f i name found e seal limits n is proper short few =
    made_of given new f i name found (subst IsSealed e seal) limits n.0 n.1 (is ∙ ap (λ (x : Module). appended x found.kind found.body (name_of name)) e) proper
    (not_exported given f i name n.0) short few
