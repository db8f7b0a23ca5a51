-- The names of a body tell which of its positions are dead.
use Rattle.std.proofs.Common.{◌≡◌, ◌<◌, ◌≤◌, ◌∙◌, ℕ, Bool, true, false, Option, Some, None, List, length, refl, sym, ap, arith, slice_get, nat_lt}
use Rattle.slice_whole.specs.Slices.{count_in}
use Rattle.std.specs.Prelude.{if◌then◌else◌}
use Rattle.std.proofs.lemmas.Bool.Decides.{nat_tests}
use Rattle.std.specs.Option.{option_map, option_or}
use Rattle.std.proofs.lemmas.Option.{slice_get-map}
use Rattle.report_text.specs.declared.refusal.QueryRefusal.{QueryRefusal}
use Rattle.report_text.specs.declared.refusal.QueryRefusal.TheVariants as of_query
use Rattle.report_text.proofs.NamedLemmas.{own_body}
use Rattle.wasm_types.specs.declared.module.Body.{Body}
use Rattle.wasm_types.specs.declared.module.Module.{Module}
use Rattle.wasm_types.specs.declared.module.ValType.{ValType}
use Rattle.wasm_types.specs.declared.place.Node.{Node}
use Rattle.wasm_types.specs.Actions.{Callees, callees}
use Rattle.wasm_types.specs.Code.{code_of, count}
use Rattle.wasm_types.specs.Funcs.{Func, func_from, func_of, unwatched}
use Rattle.wasm_types.specs.Sites.{Site}
use Rattle.wasm_types.specs.Spaces.{body_of, run_types}
use Rattle.stack_names.specs.Listed.{Listed}
use Rattle.stack_names.specs.Ends.{HasValues}
use Rattle.stack_names.specs.Named.{Named, is_listed, is_live_in, listed, listed_all, sites_in}
use Rattle.wassail_top.specs.Queries.{positions_of, why_dead, why_no_position, why_no_site, why_not_seen}

-- why a position is refused that is live or not
abbrev pub unless_live : ℕ → Bool → Option QueryRefusal
unless_live i live = if live then None else Some (of_query.Dead i)

of_site : (i : ℕ) (cs : Callees) (T : Node → ValType) (o : Option (Option Site))
    → why_no_site i o ≡ unless_live i (is_listed (option_map (option_map (listed cs T)) o))
of_site i cs T None = refl
of_site i cs T (Some None) = refl
of_site i cs T (Some (Some s)) = refl

dead_by_names : (m : Module) (f i : ℕ) (n : Named) (b : Body) → HasValues m f unwatched n → body_of m f ≡ Some b
    → why_dead m i (func_of m f) ≡ unless_live i (is_live_in n.positions i)
dead_by_names m f i n b h own =
    let body : h.body ≡ b = (let e : Some h.body ≡ Some b = sym h.has_body.1 ∙ own_body m f b own in cc) in
    let F : Func = record { params = length h.kind.params; results = length h.kind.results; locals = run_types b.locals; code = code_of b.code } in
    let func : func_of m f ≡ Some F = ap (λ t. func_from t (body_of m f)) h.kind_is ∙ ap (func_from (Some h.kind)) own in
    let S = sites_in m h.kind unwatched b in
    let positions : n.positions ≡ listed_all (callees m) h.types S =
    h.positions ∙ ap (λ (c : Body). listed_all (callees m) h.types (sites_in m h.kind unwatched c)) body in
    ap (why_dead m i) func
    ∙ of_site i (callees m) h.types (slice_get S i)
    ∙ ap (λ o. unless_live i (is_listed o)) (sym (slice_get-map (option_map (listed (callees m) h.types)) S i))
    ∙ ap (λ (ls : List (Option Listed)). unless_live i (is_live_in ls i)) (sym positions)

-- ---- positions

past : (i n : ℕ) (later : Option QueryRefusal) → n ≤ i → option_or (why_no_position n i) later ≡ Some (of_query.NoInstruction i n)
past i n later le = go (nat_lt i n) refl
  where
    go : (q : Bool) → nat_lt i n ≡ q → option_or (if q then None else Some (of_query.NoInstruction i n)) later ≡ Some (of_query.NoInstruction i n)
    go true is = absurd (grind (arith, nat_tests, is, le))
    go false is = refl

within : (i n : ℕ) (later : Option QueryRefusal) → i < n → option_or (why_no_position n i) later ≡ later
within i n later lt = go (nat_lt i n) refl
  where
    go : (q : Bool) → nat_lt i n ≡ q → option_or (if q then None else Some (of_query.NoInstruction i n)) later ≡ later
    go true is = refl
    go false is = absurd (grind (arith, nat_tests, is, lt))

positions_are : (m : Module) (f n : ℕ) (b : Body) → body_of m f ≡ Some b → n ≡ count (code_of b.code) → positions_of m f ≡ n
positions_are m f n b own is = ap count_in own ∙ sym is

-- past its end a function has no position
pub past_end : (m : Module) (f i n : ℕ) (b : Body) → body_of m f ≡ Some b → n ≡ count (code_of b.code) → n ≤ i
    → Some (of_query.NoInstruction i n) ≡ why_not_seen m f i
past_end m f i n b own is le =
    let dead = why_dead m i (func_of m f) in
    sym (ap (λ k. option_or (why_no_position k i) dead) (positions_are m f n b own is) ∙ past i n dead le)

-- before it, the names tell whether a position is dead
pub seen_by_names : (m : Module) (f i n : ℕ) (names : Named) (b : Body) (live : Bool) → HasValues m f unwatched names → body_of m f ≡ Some b
    → n ≡ count (code_of b.code) → i < n → live ≡ is_live_in names.positions i → unless_live i live ≡ why_not_seen m f i
seen_by_names m f i n names b live h own is lt told =
    let dead = why_dead m i (func_of m f) in
    ap (unless_live i) told
    ∙ sym (ap (λ k. option_or (why_no_position k i) dead) (positions_are m f n b own is) ∙ within i n dead lt ∙ dead_by_names m f i names b h own)
