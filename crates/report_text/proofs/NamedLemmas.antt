-- The names of a body tell what its definitions do.
use Rattle.std.proofs.Common.{◌≡◌, ℕ, ◌+◌, ◌<◌, ◌^◌, ◌≤◌, Bool, true, false, List, [], ◌∷◌, ◌++◌, Option, Some, None, map, reverse, take, length, refl, ap, subst, sym, ◌∙◌, codes, arith, slice_get}
use Rattle.std.specs.Prelude.{if◌then◌else◌, ◌-◌, ◌||◌, not, nat_lt, decimal}
use Rattle.std.specs.Option.{option_map}
use Rattle.std.proofs.lemmas.Option.{slice_get-map, slice_get_within, get_or_from_slice_get}
use Rattle.std.proofs.lemmas.List.Elements.{All-get_or}
use Rattle.wasm_types.proofs.CodeLemmas.{length-flatten}
use Rattle.std.proofs.lemmas.List.{reverse-append, map-append}
use Rattle.wasm_types.specs.declared.module.ValType.{ValType}
use Rattle.wasm_types.specs.declared.module.Body.{Body}
use Rattle.wasm_types.specs.declared.module.Module.{Module}
use Rattle.wasm_types.specs.declared.place.Node.{Node}
use Rattle.wasm_types.specs.declared.place.Node.TheVariants.{Exit}
use Rattle.wasm_types.specs.declared.place.Taker.{Taker}
use Rattle.wasm_types.specs.Code.{Code, done, one, block, repeat, branch, code_of, count}
use Rattle.wasm_types.specs.Actions.{Callees, callees}
use Rattle.wasm_types.specs.Nodes.{Join}
use Rattle.wasm_types.specs.Sites.{Site, Sites, all_operands}
use Rattle.wasm_types.specs.Funcs.{Func, func_of, func_from, text, unwatched}
use Rattle.wasm_types.specs.Spaces.{body_of, func_types, import_count, run_types}
use Rattle.wasm_types.specs.Sizes.{positions}
use Rattle.wasm_types.specs.Subset.{IsSealed}
use Rattle.wasm_types.specs.Marked.{marked}
use Rattle.wasm_types.specs.Takers.{takers_of}
use Rattle.stack_names.specs.Listed.{Listed}
use Rattle.stack_names.specs.Named.{Named, is_listed, is_live_in, listed, listed_all, operands_in, operands_of, place_of, placed, sites_in}
use Rattle.stack_names.specs.Ends.{HasOperands, ends_at}
use Rattle.report_text.specs.InstructionTexts.{block_text, instruction_text}
use Rattle.report_text.specs.Listing.{Told, closing_line, else_lines, end_makers, ended_by, func_listing, indent, last_arm, lines, listing, makers_in, operands_at, operands_text, position_line, told_of, with_else, with_end}
use Rattle.report_text.specs.ListingOf.{maker_of, told_by}

-- ---- what is told of a position

makers_back : (T : Node → ValType) (ns : List Node) → map maker_of (placed T ns) ≡ reverse ns
makers_back T [] = refl
makers_back T (n ∷ ns) =
    ap (map maker_of) (reverse-append (place_of T n ∷ []) (map (place_of T) ns))
    ∙ map-append maker_of (placed T ns) (place_of T n ∷ [])
    ∙ ap (λ l. l ++ n ∷ []) (makers_back T ns)
    ∙ sym (reverse-append (n ∷ []) ns)

abbrev tells : Option (Option Listed) → Option (List Node)
tells (Some (Some l)) = Some (map maker_of l.operands)
tells _ = None

tells_so : (o : Option (Option Listed)) → (if is_listed o then Some (map maker_of (operands_of o)) else None) ≡ tells o
tells_so None = refl
tells_so (Some None) = refl
tells_so (Some (Some l)) = refl

of_site : (cs : Callees) (T : Node → ValType) (o : Option (Option Site)) → tells (option_map (option_map (listed cs T)) o) ≡ operands_at cs o
of_site cs T None = refl
of_site cs T (Some None) = refl
of_site cs T (Some (Some s)) = ap Some (makers_back T (take (all_operands cs s.around s.head) s.names))

same_operands : (cs : Callees) (T : Node → ValType) (S : Sites) (ls : List (Option Listed)) (p : ℕ) → ls ≡ listed_all cs T S
    → (if is_live_in ls p then Some (map maker_of (operands_in ls p)) else None) ≡ operands_at cs (slice_get S p)
same_operands cs T S ls p is =
    tells_so (slice_get ls p) ∙ ap (λ l. tells (slice_get l p)) is ∙ ap tells (slice_get-map (option_map (listed cs T)) S p) ∙ of_site cs T (slice_get S p)

-- ---- equal words, equal lines

record Same (K L : Told) : Type 0 where
  operands : (p : ℕ) → K.operands p ≡ L.operands p
  takers : (end n : Node) → ends_at end (K.takers n) ≡ ends_at end (L.takers n)

same_ends : (T U : Node → List Taker) (k : Node) (ns : List Node) → ((end n : Node) → ends_at end (T n) ≡ ends_at end (U n)) → end_makers T k ns ≡ end_makers U k ns
same_ends T U k [] same = refl
same_ends T U k (n ∷ ns) same =
    ap (λ b. if b then n ∷ end_makers T k ns else end_makers T k ns) (same k n)
    ∙ ap (λ l. if ends_at k (U n) then n ∷ l else l) (same_ends T U k ns same)

same_ended : (K L : Told) (k : Node) (c : Code) (p : ℕ) → Same K L → ended_by K k c p ≡ ended_by L k c p
same_ended K L k c p same = same_ends K.takers L.takers k (makers_in c p) same.takers

same_line : (K L : Told) (depth p : ℕ) (words : List ℕ) → Same K L → position_line K depth p words ≡ position_line L depth p words
same_line K L depth p words same = ap (λ o. decimal p ++ (codes " " ++ (indent depth ++ (words ++ (operands_text o ++ codes "\n"))))) (same.operands p)

same_end : (K L : Told) (depth : ℕ) (body : Code) (p : ℕ) (inner other : List ℕ) → Same K L → inner ≡ other → with_end K depth body p inner ≡ with_end L depth body p other
same_end K L depth body p inner other same is =
    ap (λ l. l ++ closing_line depth (codes "end") (ended_by K (Join p) body (p + 1))) is
    ∙ ap (λ ns. other ++ closing_line depth (codes "end") ns) (same_ended K L (Join p) body (p + 1) same)

same_else : (K L : Told) (depth : ℕ) (x y : Code) (p : ℕ) (a b a' b' : List ℕ) → Same K L → a ≡ a' → b ≡ b'
    → with_else K depth x y p a b ≡ with_else L depth x y p a' b'
same_else K L depth x y p a b a' b' same first second =
    let f = p + 1 + count x in
    ap (λ l. with_else K depth x y p l b) first ∙ ap (λ l. with_else K depth x y p a' l) second
    ∙ ap (λ ns. a' ++ (else_lines y (closing_line depth (codes "else") ns) b' ++ closing_line depth (codes "end") (last_arm y ns (ended_by K (Join p) y f))))
    (same_ended K L (Join p) x (p + 1) same)
    ∙ ap (λ ns. a' ++ (else_lines y (closing_line depth (codes "else") (ended_by L (Join p) x (p + 1))) b' ++ closing_line depth (codes "end") (last_arm y (ended_by L (Join p) x (p + 1)) ns)))
    (same_ended K L (Join p) y f same)

joined : (a b a' b' : List ℕ) → a ≡ a' → b ≡ b' → a ++ b ≡ a' ++ b'
joined a b a' b' p q = ap (λ l. l ++ b) p ∙ ap (λ l. a' ++ l) q

same_lines : (K L : Told) (depth : ℕ) (c : Code) (p : ℕ) → Same K L → lines K depth c p ≡ lines L depth c p
same_lines K L depth done p same = refl
same_lines K L depth (one op rest) p same = joined _ _ _ _ (same_line K L depth p (instruction_text op) same) (same_lines K L depth rest (p + 1) same)
same_lines K L depth (block kind body rest) p same =
    joined _ _ _ _ (joined _ _ _ _ (same_line K L depth p (block_text (codes "block") kind) same)
    (same_end K L depth body p _ _ same (same_lines K L (depth + 1) body (p + 1) same))) (same_lines K L depth rest (p + 1 + count body) same)
same_lines K L depth (repeat kind body rest) p same =
    joined _ _ _ _ (joined _ _ _ _ (same_line K L depth p (block_text (codes "loop") kind) same)
    (same_end K L depth body p _ _ same (same_lines K L (depth + 1) body (p + 1) same))) (same_lines K L depth rest (p + 1 + count body) same)
same_lines K L depth (branch kind x y rest) p same =
    joined _ _ _ _ (joined _ _ _ _ (same_line K L depth p (block_text (codes "if") kind) same)
    (same_else K L depth x y p _ _ _ _ same (same_lines K L (depth + 1) x (p + 1) same) (same_lines K L (depth + 1) y (p + 1 + count x) same)))
    (same_lines K L depth rest (p + 1 + count x + count y) same)

-- ---- the listing

pub own_body : (m : Module) (f : ℕ) (b : Body) → body_of m f ≡ Some b → slice_get m.bodies (f - import_count m) ≡ Some b
own_body m f b e = go (nat_lt f (import_count m)) (nat_lt f (length (func_types m))) e
  where
    go : (q r : Bool) → (if q || not r then None else slice_get m.bodies (f - import_count m)) ≡ Some b → slice_get m.bodies (f - import_count m) ≡ Some b
    go true r e = absurd cc
    go false false e = absurd cc
    go false true e = e

pub listed_lines : (m : Module) (f : ℕ) (n : Named) (b : Body) (h : HasOperands m f unwatched n) → body_of m f ≡ Some b
    → lines (told_by n) 0 (code_of b.code) 0 ++ closing_line 0 (codes "end") (ended_by (told_by n) Exit (code_of b.code) 0) ≡ listing m f
listed_lines m f n b h own =
    let body : h.body ≡ b = (let e : Some h.body ≡ Some b = sym h.has_body.1 ∙ own_body m f b own in cc) in
    let F : Func = record { params = length h.kind.params; results = length h.kind.results; locals = run_types b.locals; code = code_of b.code } in
    let func : func_of m f ≡ Some F = ap (λ t. func_from t (body_of m f)) h.kind_is ∙ ap (func_from (Some h.kind)) own in
    let L = told_of (callees m) F.results (text F) in
    let S = sites_in m h.kind unwatched b in
    let same : Same (told_by n) L = record {
      operands = λ p. same_operands (callees m) h.types S n.positions p (h.positions ∙ ap (λ (c : Body). listed_all (callees m) h.types (sites_in m h.kind unwatched c)) body);
      takers = λ end k. h.ended end k ∙ ap (λ (c : Body). ends_at end (takers_of (callees m) (length h.kind.results) (marked unwatched 0 (code_of c.code)) k)) body;
    } in
    joined _ _ _ _ (same_lines (told_by n) L 0 (code_of b.code) 0 same)
    (ap (λ ns. closing_line 0 (codes "end") ns) (same_ended (told_by n) L Exit (code_of b.code) 0 same))
    ∙ ap (func_listing m) (sym func)

pub few_positions : (m : Module) (f : ℕ) (b : Body) → IsSealed m → body_of m f ≡ Some b → count (code_of b.code) < 2 ^ 32
few_positions m f b sealed own =
    let k = f - import_count m in
    let at = own_body m f b own in
    let few = All-get_or (λ (c : Body). (length c.locals ≤ 0xFFFF_FFFF) × (positions c.code ≤ 0xFFFF_FFFF)) m.bodies k b (slice_get_within m.bodies k b at) sealed.entries.codes in
    let mine = subst (λ (c : Body). positions c.code ≤ 0xFFFF_FFFF) (get_or_from_slice_get m.bodies k b b at) few.1 in
    omega (arith, mine, length-flatten (code_of b.code))
