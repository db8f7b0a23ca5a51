-- What an own function's outputs lead to, by its tables.
use Rattle.std.proofs.Common.{◌≡◌, ◌↔◌, ℕ, ◌<◌, ◌≤◌, Bool, true, false, Some, None, length, nat_lt, if◌then◌else◌, refl, sym, ap, ◌∙◌}
use Rattle.std.proofs.Common.{subst, arith}
use Rattle.std.proofs.lemmas.Bool.Decides.{nat_tests}
use Rattle.std.proofs.lemmas.Option.{same_Some}
use Rattle.wasm_types.specs.declared.module.FuncType.{FuncType}
use Rattle.wasm_types.specs.declared.module.Body.{Body}
use Rattle.wasm_types.specs.declared.module.Module.{Module}
use Rattle.wasm_types.specs.declared.place.Loc.{Loc}
use Rattle.wasm_types.specs.declared.place.Node.TheVariants.{Exit}
use Rattle.wasm_types.specs.Code.{Code, code_of}
use Rattle.wasm_types.specs.Marked.{marked}
use Rattle.wasm_types.specs.Spaces.{type_of_func, body_of, import_count, run_types}
use Rattle.wasm_types.specs.Actions.{callees}
use Rattle.wasm_types.specs.Hosts.{host_from}
use Rattle.wasm_types.specs.Funcs.{Func, func_of, func_from, unwatched}
use Rattle.wasm_types.specs.Labels.{first}
use Rattle.wasm_types.specs.Sites.{body_sites, body_ends}
use Rattle.flow_domain.specs.Bounds.{Bounds}
use Rattle.flow_domain.specs.Rows.{Output, Rows, CallRows, RowOf, Needed, LedTo, by_code, by_host, ImportRows, IsInput}
use Rattle.called_rows.proofs.Known.{IsFunc, func_is}

-- own functions are no imports
pub no_import : (m : Module) (f : ℕ) (o : Output) (x : Loc) → import_count m ≤ f → ImportRows m f o x → ⊥
no_import m f o x le (H, is, h) = go (nat_lt f (import_count m)) refl is
  where
    go : (b : Bool) → nat_lt f (import_count m) ≡ b → (if b then host_from m f (type_of_func m f) else None) ≡ Some H → ⊥
    go true e is = let lt : f < import_count m = grind (arith, nat_tests, e) in omega arith
    go false e is = cc

module _ (B : Bounds) (R : CallRows) (o : Output) (x : Loc) where
  -- what is needed where a body with these results and this code begins
  abbrev pub NeededFirst : ℕ → Code → Type 0
  NeededFirst r c =
      Needed B R (body_sites (callees B.m) r (marked unwatched 0 c)) (body_ends (callees B.m) r (marked unwatched 0 c)) o (first 0 (marked unwatched 0 c) Exit) x

-- the rows of an own function, by its type and its body
pub led_is : (R : Rows) (B : Bounds) (f : ℕ) (kind : FuncType) (body : Body) (o : Output) (x : Loc) → import_count B.m ≤ f → type_of_func B.m f ≡ Some kind
    → body_of B.m f ≡ Some body
    → LedTo R B f o x ↔ (NeededFirst B (RowOf B.m R) o x (length kind.results) (code_of body.code) × IsInput (length kind.params) x)
led_is R B f kind body o x le kind_is body_is = (to, from)
  where
    same_kind : (F : Func) (h : IsFunc B.m f F) → h.kind ≡ kind
    same_kind F h = same_Some h.kind kind (sym h.kind_is ∙ kind_is)

    same_body : (F : Func) (h : IsFunc B.m f F) → h.body ≡ body
    same_body F h = same_Some h.body body (sym h.body_is ∙ body_is)

    results_are : (F : Func) (h : IsFunc B.m f F) → F.results ≡ length kind.results
    results_are F h = h.results ∙ ap (λ (k : FuncType). length k.results) (same_kind F h)

    params_are : (F : Func) (h : IsFunc B.m f F) → F.params ≡ length kind.params
    params_are F h = h.params ∙ ap (λ (k : FuncType). length k.params) (same_kind F h)

    code_is : (F : Func) (h : IsFunc B.m f F) → F.code ≡ code_of body.code
    code_is F h = h.code ∙ ap (λ (b : Body). code_of b.code) (same_body F h)

    to : LedTo R B f o x → NeededFirst B (RowOf B.m R) o x (length kind.results) (code_of body.code) × IsInput (length kind.params) x
    to (by_code F is needed input) =
        let h = func_is B.m f F is in (
          subst (λ c. NeededFirst B (RowOf B.m R) o x (length kind.results) c) (code_is F h) (subst (λ r. NeededFirst B (RowOf B.m R) o x r F.code)
              (results_are F h) needed),
          subst (λ n. IsInput n x) (params_are F h) input,
        )
    to (by_host h) = absurd (no_import B.m f o x le h)

    func : Func
    func = record { params = length kind.params; results = length kind.results; locals = run_types body.locals; code = code_of body.code }

    func_there : func_of B.m f ≡ Some func
    func_there = ap (λ k. func_from k (body_of B.m f)) kind_is ∙ ap (func_from (Some kind)) body_is

    from : NeededFirst B (RowOf B.m R) o x (length kind.results) (code_of body.code) × IsInput (length kind.params) x → LedTo R B f o x
    from (needed, input) = by_code func func_there needed input
