-- Bytes decode, or have a refusal.
use Rattle.std.proofs.Common.{◌≡◌, ◌<◌, ◌≤◌, ◌+◌, ◌⊎◌, max, ℕ, zero, suc, List, [], ◌∷◌, ◌++◌, length, take, drop, Option, Some, None, Ok, Err, inl, inr, refl, sym, ap, ◌∙◌, subst, append_assoc, length-append, length-drop, arith}
use Rattle.std.specs.Prelude.{All, slice_get}
use Rattle.std.proofs.lemmas.Bool.{cases_lt}
use Rattle.std.proofs.lemmas.List.{append-nil, length-take, length-take-le, take-append-drop}
use Rattle.std.proofs.Math.Seq.{drop-append_seam, drop-append-add}
use Rattle.report_text.specs.declared.refusal.ModuleRefusal.{ModuleRefusal}
use Rattle.report_text.specs.declared.refusal.ModuleRefusal.TheVariants as of_module
use Rattle.wasm_types.specs.declared.module.Module.{Module}
use Rattle.wasm_types.specs.Standing.{Stands}
use Rattle.wasm_types.specs.Modules.{header, InOrder, Sections}
use Rattle.wasm_decode.specs.declared.refusal.DecodeEnd.{DecodeEnd}
use Rattle.wasm_decode.specs.declared.refusal.DecodeEnd.TheVariants as end
use Rattle.wasm_decode.specs.Depth.{IsShallowGlobal, IsShallowElem, IsShallowBody, IsShallowSegment}
use Rattle.wasm_decode.specs.Frames.{NextFrame, IsFramed, UnframedAt}
use Rattle.wasm_decode.specs.Contents.{Contents, custom, types, imports, funcs, tables, mems, globals, exports, start, elems, bodies, segments, IsSpelled, IsShallowContents, DeepAt, IsShallowSection, FirstUnspelled, put, IsPut}
use Rattle.wasm_decode.specs.Decode.{IsRead, Decodes, first_deep}
use Rattle.std.proofs.lemmas.List.Elements.{All-nil, All-push}
use Rattle.wasm_decode.proofs.EntryLemmas.{get-within, all-get}
use Rattle.wasm_decode.proofs.FrameLemmas.{no_sections, sections_more, frame_moves}
use Rattle.wasm_decode.proofs.StepLemmas.{is_new, read_more, spells_of}
use Rattle.wassail_top.specs.Refusals.{why_not_decoded}
use Rattle.slice_whole.proofs.NotRefuted.{NotRefuted, either}
use Rattle.wassail_top.proofs.Firsts.{first_entry}

-- ---- sections

-- what begins at a place stands there
past_text : (bytes text rest : List ℕ) (at : ℕ) → at ≤ length bytes → drop at bytes ≡ text ++ rest → drop (at + length text) bytes ≡ rest
past_text bytes text rest at le here =
    let front : length (take at bytes) ≡ at = length-take-le at bytes le in
    let whole : take at bytes ++ (text ++ rest) ≡ bytes = ap (λ (t : List ℕ). take at bytes ++ t) (sym here) ∙ take-append-drop at bytes in
    let same : length (take at bytes) + length text ≡ at + length text = ap (λ n. n + length text) front in
    ap (λ n. drop n bytes) (sym same) ∙ ap (drop (length (take at bytes) + length text)) (sym whole)
    ∙ drop-append-add (take at bytes) (text ++ rest) (length text) ∙ drop-append_seam text rest

stands_there : {A : Type 0} (Spelled : List ℕ → A → Type 0) (bytes text rest : List ℕ) (at : ℕ) (v : A) → at ≤ length bytes → drop at bytes ≡ text ++ rest
    → Spelled text v
    → Stands Spelled bytes at (at + length text) v
stands_there Spelled bytes text rest at v le here s = record {
  text = text;
  spelled = s;
  here = here ∙ ap (λ (t : List ℕ). text ++ t) (sym (past_text bytes text rest at le here));
  within = omega (arith, ap length here, length-append text rest, length-drop at bytes);
}

abbrev Framing : List ℕ → Type 0
Framing bytes = ((fs : List (ℕ × List ℕ)) × IsFramed bytes fs) ⊎ ((k : ℕ) × UnframedAt bytes k)

-- a section that may follow stands at the place
abbrev Another : List ℕ → ℕ → ℕ → Type 0
Another bytes last at = (stop : ℕ) × (f : ℕ × List ℕ) × Stands (NextFrame last) bytes at stop f

framed_to_end : (bytes : List ℕ) (last at : ℕ) (fs : List (ℕ × List ℕ)) → take 8 bytes ≡ header → Stands (Sections last) bytes 8 at fs → length bytes ≤ at
    → Framing bytes
framed_to_end bytes last at fs begun s le =
    let within = s.within in
    let same : at ≡ length bytes = omega arith in
    inl (fs, record { begun = begun; final = last; framed = subst (λ (n : ℕ). Stands (Sections last) bytes 8 n fs) same s })

unframed : (bytes : List ℕ) (last at : ℕ) (fs : List (ℕ × List ℕ)) → take 8 bytes ≡ header → Stands (Sections last) bytes 8 at fs → at < length bytes
    → (Another bytes last at → ⊥)
    → Framing bytes
unframed bytes last at fs begun s lt never =
    inr (
      length fs,
      record {
        begun = begun;
        frames = fs;
        count = refl;
        place = at;
        final = last;
        framed = s;
        within = lt;
        none = λ text rest f here spelled. never (at + length text, f, stands_there (NextFrame last) bytes text rest at f (omega arith) here spelled);
      },
    )

framing : (n : ℕ) (bytes : List ℕ) (last at : ℕ) (fs : List (ℕ × List ℕ)) → take 8 bytes ≡ header → Stands (Sections last) bytes 8 at fs
    → length bytes ≤ at + n → NotRefuted (Framing bytes)
framing zero bytes last at fs begun s few never = never (framed_to_end bytes last at fs begun s (omega arith))
framing (suc n) bytes last at fs begun s few never = elim (cases_lt at (length bytes)) [
  | inl lt ↦ either (Another bytes last at) (λ found. elim found [
    | inl next ↦ (
        let moves = frame_moves bytes last at next.0 next.1 next.2 in
        framing n bytes (max last next.1.0) next.0 (fs ++ next.1 ∷ []) begun (sections_more bytes last at next.0 fs next.1 s next.2) (omega arith) never
        )
    | inr none ↦ never (unframed bytes last at fs begun s lt none)
  ])
  | inr le ↦ never (framed_to_end bytes last at fs begun s le)
]

-- ---- contents

-- code nests within the limit in the contents, or too deep in an entry
abbrev Depth : Contents → Type 0
Depth c = IsShallowContents c ⊎ ((entry : ℕ) × DeepAt c entry)

depth : (c : Contents) → NotRefuted (Depth c)
depth (globals xs) never = first_entry IsShallowGlobal xs never
depth (elems xs) never = first_entry IsShallowElem xs never
depth (bodies xs) never = first_entry IsShallowBody xs never
depth (segments xs) never = first_entry IsShallowSegment xs never
depth (custom name payload) never = never (inl tt)
depth (types xs) never = never (inl tt)
depth (imports xs) never = never (inl tt)
depth (funcs xs) never = never (inl tt)
depth (tables xs) never = never (inl tt)
depth (mems xs) never = never (inl tt)
depth (exports xs) never = never (inl tt)
depth (start func) never = never (inl tt)

-- all sections are read, or one isn't spelled
abbrev Reading : List (ℕ × List ℕ) → Type 0
Reading fs = ((k id : ℕ) × FirstUnspelled fs k id) ⊎ (All IsSpelled fs × (deep : Option (ℕ × ℕ)) × (m : Module) × IsRead fs deep m)

get_next : {A : Type 0} (xs : List A) (v : A) (rest : List A) → slice_get (xs ++ v ∷ rest) (length xs) ≡ Some v
get_next [] v rest = refl
get_next (x ∷ xs) v rest = get_next xs v rest

unspelled_next : (gs : List (ℕ × List ℕ)) (f : ℕ × List ℕ) (rest : List (ℕ × List ℕ)) → All IsSpelled gs → (IsSpelled f → ⊥) → Reading (gs ++ f ∷ rest)
unspelled_next gs f rest all bad =
    inl (
      length gs,
      f.0,
      record {
        text = f.1;
        there = get_next gs f rest;
        unspelled = bad;
        before = λ j g below is. all-get IsSpelled gs j g all (sym (get-within gs (f ∷ rest) j below) ∙ is);
      },
    )

-- what a section puts into the module, and where code nests too deep in it
put_of : (c : Contents) (m : Module) → Depth c → (entry : Option ℕ) × (new : Module) × IsPut c entry m new
put_of c m (inl shallow) = (None, put c m, (refl, shallow))
put_of c m (inr (entry, deep)) = (Some entry, m, deep)

reading : (gs rest : List (ℕ × List ℕ)) (final : ℕ) (deep : Option (ℕ × ℕ)) (m : Module) → InOrder 0 (gs ++ rest) final → All IsSpelled gs → IsRead gs deep m
    → NotRefuted (Reading (gs ++ rest))
reading gs [] final deep m ordered all read never = never (subst Reading (sym (append-nil gs)) (inr (all, deep, m, read)))
reading gs (f ∷ rest) final deep m ordered all read never = either (IsSpelled f) (λ spelled. elim spelled [
  | inl s ↦ depth s.0 (λ d.
      let p = put_of s.0 m d in
      let same : (gs ++ f ∷ []) ++ rest ≡ gs ++ f ∷ rest = append_assoc gs (f ∷ []) rest in
      let ordered_so = subst (λ (fs : List (ℕ × List ℕ)). InOrder 0 fs final) (sym same) ordered in
      let read_so = read_more gs f.0 f.1 m p.1 deep p.0 s.0 (is_new 0 final gs f rest ordered) s.1 p.2 read in
      reading (gs ++ f ∷ []) rest final (first_deep deep f.0 p.0) p.1 ordered_so (All-push IsSpelled gs f all s) read_so (λ r. never (subst Reading same r)))
  | inr bad ↦ never (unspelled_next gs f rest all bad)
])

-- ---- the whole

empty : Module
empty =
    record {
      types = [];
      imports = [];
      funcs = [];
      tables = [];
      mems = [];
      globals = [];
      exports = [];
      start = None;
      elems = [];
      bodies = [];
      segments = [];
      names = None;
    }

empty_read : IsRead [] None empty
unfolding empty
empty_read = (
  record { types = refl; imports = refl; funcs = refl; tables = refl; mems = refl; globals = refl; exports = refl; start = refl; elems = refl; bodies = refl; segments = refl; names = refl },
  record { globals = All-nil _; elems = All-nil _; bodies = All-nil _; segments = All-nil _ },
  All-nil IsShallowSection,
)

-- they decode, or a refusal holds
abbrev pub DecodedOrRefused : List ℕ → Type 0
DecodedOrRefused bytes =
    ((m : Module) × Decodes bytes (Ok m)) ⊎ ((cause : DecodeEnd) × (why : ModuleRefusal) × Decodes bytes (Err cause) × (why_not_decoded cause ≡ Some why))

of_read : (bytes : List ℕ) (fs : List (ℕ × List ℕ)) (deep : Option (ℕ × ℕ)) (m : Module) → IsFramed bytes fs → All IsSpelled fs → IsRead fs deep m
    → NotRefuted (DecodedOrRefused bytes)
of_read bytes fs (Some at) m framed spelled read never =
    never (inr (end.TooDeep at.0 at.1, of_module.TooDeep at.0 at.1, record { frames = fs; framed = framed; spelled = spelled; first = read }, refl))
of_read bytes fs None m framed spelled read never = either (length m.funcs ≡ length m.bodies) (λ counted. elim counted [
  | inl same ↦ never (inl (m, (spells_of bytes fs m framed read.0 same, read.1)))
  | inr differ ↦ never (inr
      (end.Counts, of_module.Counts, record { frames = fs; framed = framed; m = m; parts = read.0; shallow = read.1; differ = differ }, refl))
])

of_reading : (bytes : List ℕ) (fs : List (ℕ × List ℕ)) → IsFramed bytes fs → Reading fs → NotRefuted (DecodedOrRefused bytes)
of_reading bytes fs framed (inl (k, id, bad)) never =
    never (inr (end.Section k id, of_module.DoesNotRead k id, record { frames = fs; framed = framed; first = bad }, refl))
of_reading bytes fs framed (inr (spelled, deep, m, read)) never = of_read bytes fs deep m framed spelled read never

of_framing : (bytes : List ℕ) → Framing bytes → NotRefuted (DecodedOrRefused bytes)
of_framing bytes (inl (fs, framed)) never =
    reading [] fs framed.final None empty framed.framed.spelled.1 (All-nil IsSpelled) empty_read (λ r. of_reading bytes fs framed r never)
of_framing bytes (inr (k, bad)) never = never (inr (end.Frame k, of_module.NoFrame k, bad, refl))

long_enough : (bytes : List ℕ) → take 8 bytes ≡ header → 8 ≤ length bytes
long_enough bytes begun = omega (arith, ap length begun, length-take 8 bytes)

pub some_decoding : (bytes : List ℕ) → NotRefuted (DecodedOrRefused bytes)
some_decoding bytes never = either (take 8 bytes ≡ header) (λ begins. elim begins [
  | inl begun ↦ framing (length bytes) bytes 0 8 [] begun (no_sections bytes (long_enough bytes begun)) (omega arith) (λ f. of_framing bytes f never)
  | inr other ↦ never (inr (end.Header, of_module.NoHeader, other, refl))
])
