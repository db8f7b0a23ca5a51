-- Words that are texts, and the bytes of a source, have an answer.
use Rattle.std.proofs.Common.{◌≡◌, ◌<◌, ◌≤◌, ◌+◌, ℕ, Bool, true, false, List, [], ◌∷◌, length, take, drop, Option, Some, None, Ok, inl, inr, refl, sym, subst, arith}
use Rattle.std.specs.Prelude.{All, codes, if◌then◌else◌, nat_le, option_and_then}
use Rattle.std.specs.Str.{bytes_eq}
use Rattle.std.proofs.lemmas.Bool.{cases_lt, leb-true}
use Rattle.std.proofs.lemmas.List.{append-nil, length-take-le, take-append-drop}
use Rattle.std.proofs.lemmas.List.Elements.{All-head, All-tail}
use Rattle.report_text.specs.declared.refusal.Refusal.TheVariants as refusal
use Rattle.report_text.specs.declared.refusal.ModuleRefusal.TheVariants as of_module
use Rattle.report_text.specs.Texts.{valid_line}
use Rattle.wasm_types.specs.declared.module.Module.{Module}
use Rattle.wasm_types.specs.Canon.{canon}
use Rattle.wasm_types.specs.Subset.{IsSealed}
use Rattle.wasm_types.specs.WellFormed.{IsU8, IsWellFormed}
use Rattle.text_laws.proofs.LeastLemmas.{canon_is_least}
use Rattle.text_laws.proofs.ProperLemmas.{spelled_well_formed}
use Rattle.text_laws.proofs.SizeLemmas.{has_at_most, has_at_most_more}
use Rattle.wasm_decode.specs.Decode.{Decodes}
use Rattle.wasm_validate.specs.Admission.{IsAdmitted}
use Rattle.wasm_validate.proofs.AdmissionLemmas.{sealed_module}
use Rattle.wassail_top.specs.Answers.{IsText, HasAnswer, AnswersOrder, AnswersBytes, AnswersModule, AnswersAdmitted, bytes_alone, most_bytes}
use Rattle.report_text.specs.Listing.{listing}
use Rattle.wassail_top.specs.Orders.{Order, most_name_bytes}
use Rattle.wassail_top.specs.Orders.Order.{check, rewrite, list, summary, kept, slice, run, trace}
use Rattle.wassail_top.specs.Refusals.{Answer, refused, unless_refused, why_no_code}
use Rattle.run_words.specs.Words.{number_of}
use Rattle.wassail_top.specs.Queries.{positions_of, why_not_seen}
use Rattle.wassail_top.specs.Words.{alone, given_of, mill_of, one, one_or_none, order_of, running, tracing, two, two_and_name}
use Rattle.slice_whole.proofs.NotRefuted.{NotRefuted}
use Rattle.wassail_top.proofs.ReportAnswers.{some_milled}
use Rattle.wassail_top.proofs.SomeAdmission.{some_admission}
use Rattle.wassail_top.proofs.SomeDecoding.{some_decoding}
use Rattle.wassail_top.proofs.SomeSlice.{some_kept_answer, some_slice_answer}
use Rattle.wassail_top.proofs.RunLemmas.{some_run_answer, some_trace_answer}
use Rattle.wassail_top.proofs.SummaryAnswers.{some_summary_answer}

-- ---- the name in the words of a slice

-- the name that is asked for is a text, and isn't too long
abbrev HasProperName : Order → Type 0
HasProperName check = Unit {0}
HasProperName rewrite = Unit {0}
HasProperName (list func) = Unit {0}
HasProperName (summary only) = Unit {0}
HasProperName (kept func at) = Unit {0}
HasProperName (slice func at name) = IsText name × (length name ≤ most_name_bytes)
HasProperName (run func budget args replies) = Unit {0}
HasProperName (trace func at budget args replies) = Unit {0}

-- the command, if there is one, has such a name
abbrev IsProper : Option Order → Type 0
IsProper o = (order : Order) → o ≡ Some order → HasProperName order

none_proper : IsProper None
none_proper order is = absurd cc

some_proper : (order : Order) → HasProperName order → IsProper (Some order)
some_proper order h other is = let same : order ≡ other = cc in subst HasProperName same h

if_proper : (b : Bool) (x y : Option Order) → IsProper x → IsProper y → IsProper (if b then x else y)
if_proper true x y p q = p
if_proper false x y p q = q

alone_proper : (order : Order) (rest : List (List ℕ)) → HasProperName order → IsProper (alone order rest)
alone_proper order [] h = some_proper order h
alone_proper order (word ∷ rest) h = none_proper

both_proper : (x y : Option ℕ) (name : List ℕ) → IsText name → length name ≤ most_name_bytes
    → IsProper (option_and_then (λ m. option_and_then (λ n. Some (slice m n name)) y) x)
both_proper None y name text short = none_proper
both_proper (Some m) None name text short = none_proper
both_proper (Some m) (Some n) name text short = some_proper (slice m n name) (text, short)

short_proper : (b : Bool) (x : Option Order) → (b ≡ true → IsProper x) → IsProper (if b then x else None)
short_proper true x h = h refl
short_proper false x h = none_proper

number_proper : (x : Option ℕ) → IsProper (option_and_then (λ n. Some (list n)) x)
number_proper None = none_proper
number_proper (Some n) = some_proper (list n) tt

list_proper : (rest : List (List ℕ)) → IsProper (one list rest)
list_proper [] = none_proper
list_proper (a ∷ []) = number_proper (number_of a)
list_proper (a ∷ b ∷ rest) = none_proper

slice_proper : (rest : List (List ℕ)) → All IsText rest → IsProper (two_and_name slice rest)
slice_proper [] all = none_proper
slice_proper (a ∷ []) all = none_proper
slice_proper (a ∷ b ∷ []) all = none_proper
slice_proper (a ∷ b ∷ name ∷ []) all =
    let text = All-head IsText name [] (All-tail IsText b (name ∷ []) (All-tail IsText a (b ∷ name ∷ []) all)) in
    short_proper (nat_le (length name) most_name_bytes) _
    (λ short. both_proper (number_of a) (number_of b) name text (leb-true (length name) most_name_bytes short))
slice_proper (a ∷ b ∷ name ∷ c ∷ rest) all = none_proper

-- what is made of several parts that may be missing
bind_proper : {A : Type 0} (x : Option A) (order : A → Option Order) → ((a : A) → IsProper (order a)) → IsProper (option_and_then order x)
bind_proper None order h = none_proper
bind_proper (Some a) order h = h a

summary_proper : (rest : List (List ℕ)) → IsProper (one_or_none summary rest)
summary_proper [] = some_proper (summary None) tt
summary_proper (a ∷ []) = bind_proper (number_of a) _ (λ f. some_proper (summary (Some f)) tt)
summary_proper (a ∷ b ∷ rest) = none_proper

kept_proper : (rest : List (List ℕ)) → IsProper (two kept rest)
kept_proper [] = none_proper
kept_proper (a ∷ []) = none_proper
kept_proper (a ∷ b ∷ []) = bind_proper (number_of a) _ (λ f. bind_proper (number_of b) _ (λ i. some_proper (kept f i) tt))
kept_proper (a ∷ b ∷ c ∷ rest) = none_proper

run_proper : (rest : List (List ℕ)) → IsProper (running rest)
run_proper [] = none_proper
run_proper (func ∷ []) = none_proper
run_proper (func ∷ budget ∷ words) =
    bind_proper (number_of func) _ (λ f. bind_proper (number_of budget) _ (λ b. bind_proper (given_of words) _ (λ g. some_proper (run f b g.0 g.1) tt)))

trace_proper : (rest : List (List ℕ)) → IsProper (tracing rest)
trace_proper [] = none_proper
trace_proper (func ∷ []) = none_proper
trace_proper (func ∷ at ∷ []) = none_proper
trace_proper (func ∷ at ∷ budget ∷ words) =
    bind_proper (number_of func) _ (λ f. bind_proper (number_of at) _ (λ i. bind_proper (number_of budget) _ (λ b. bind_proper (given_of words) _
    (λ g. some_proper (trace f i b g.0 g.1) tt))))

words_proper : (words : List (List ℕ)) → All IsText words → IsProper (order_of words)
words_proper [] all = none_proper
words_proper (name ∷ rest) all =
    if_proper (bytes_eq name (codes "check")) _ _ (alone_proper check rest tt)
    (if_proper (bytes_eq name (codes "rewrite")) _ _ (alone_proper rewrite rest tt)
    (if_proper (bytes_eq name (codes "list")) _ _ (list_proper rest)
    (if_proper (bytes_eq name (codes "summary")) _ _ (summary_proper rest)
    (if_proper (bytes_eq name (codes "kept")) _ _ (kept_proper rest)
    (if_proper (bytes_eq name (codes "slice")) _ _ (slice_proper rest (All-tail IsText name rest all))
    (if_proper (bytes_eq name (codes "run")) _ _ (run_proper rest)
    (if_proper (bytes_eq name (codes "trace")) _ _ (trace_proper rest) none_proper)))))))

-- ---- the answer

sealed : (bytes : List ℕ) (m : Module) → Decodes bytes (Ok m) → length bytes ≤ most_bytes → IsAdmitted m → IsSealed m
sealed bytes m decodes short admitted =
    let few : length (canon m) ≤ length bytes = canon_is_least bytes m decodes.0 in
    sealed_module m admitted.valid.0 (has_at_most_more most_bytes 0x7FFF_FFFF m (omega arith) (has_at_most m most_bytes (omega arith))) decodes.1
    admitted.no_float admitted.limits admitted.valid.1

some_admitted : (order : Order) (m : Module) → HasProperName order → IsSealed m → NotRefuted ((answer : Answer) × AnswersAdmitted order m answer)
some_admitted check m proper seal never = never (bytes_alone valid_line, refl)
some_admitted rewrite m proper seal never = never (bytes_alone (canon m), refl)
some_admitted (list func) m proper seal never = never (unless_refused (why_no_code m func) (bytes_alone (listing m func)), refl)
some_admitted (summary only) m proper seal never = some_summary_answer m only seal never
some_admitted (kept func at) m proper seal never = some_kept_answer m func at seal never
some_admitted (slice func at name) m proper seal never = some_slice_answer m func at name seal proper.0 proper.1 never
some_admitted (run func budget args replies) m proper seal never = some_run_answer m func (positions_of m func) budget args replies seal never
some_admitted (trace func at budget args replies) m proper seal never = some_trace_answer m func at budget args replies (why_not_seen m func at) seal never

some_module : (order : Order) (m : Module) → HasProperName order → IsWellFormed m → (IsAdmitted m → IsSealed m)
    → NotRefuted ((answer : Answer) × AnswersModule order m answer)
some_module order m proper formed seal never = some_admission m formed (λ r. elim r [
  | inl admitted ↦ some_admitted order m proper (seal admitted) (λ found. never (found.0, inr (admitted, found.1)))
  | inr bad ↦ never (refused (refusal.Module bad.1), inl (bad.0, bad.1, bad.2, bad.3, refl))
])

some_bytes : (order : Order) (bytes : List ℕ) → HasProperName order → All IsU8 bytes → length bytes ≤ most_bytes
    → NotRefuted ((answer : Answer) × AnswersBytes order bytes answer)
some_bytes order bytes proper all short never = some_decoding bytes (λ r. elim r [
  | inl m ↦ some_module order m.0 proper (spelled_well_formed bytes m.0 m.1.0 all) (sealed bytes m.0 m.1 short)
      (λ found. never (found.0, inr (m.0, m.1, found.1)))
  | inr bad ↦ never (refused (refusal.Module bad.1), inl (bad.0, bad.1, bad.2, bad.3, refl))
])

abbrev Answered : Order → List ℕ → Type 0
Answered order bytes = (left : Option (List ℕ)) × (answer : Answer) × AnswersOrder order (Some bytes) left answer

too_long : (order : Order) (bytes : List ℕ) → most_bytes < length bytes → Answered order bytes
too_long order bytes long = (
  Some (drop (most_bytes + 1) bytes),
  refused (refusal.Module of_module.TooLong),
  inl (
    record {
      bytes = take (most_bytes + 1) bytes;
      taken = sym (take-append-drop (most_bytes + 1) bytes);
      many = length-take-le (most_bytes + 1) bytes
          (omega arith);
    },
    refl,
  ),
)

whole : (order : Order) (bytes : List ℕ) → length bytes ≤ most_bytes → (answer : Answer) × AnswersBytes order bytes answer → Answered order bytes
whole order bytes short (answer, h) = (Some [], answer, inr (bytes, record { taken = sym (append-nil bytes); ended = refl }, short, h))

some_order : (order : Order) (bytes : List ℕ) → HasProperName order → All IsU8 bytes → NotRefuted (Answered order bytes)
some_order order bytes proper all never = elim (cases_lt most_bytes (length bytes)) [
  | inl long ↦ never (too_long order bytes long)
  | inr short ↦ some_bytes order bytes proper all short (λ found. never (whole order bytes short found))
]

of_mill : (words : List (List ℕ)) (bytes : List ℕ) (o : Option ℕ) → order_of words ≡ None → mill_of words ≡ o → NotRefuted (HasAnswer words bytes)
of_mill words bytes None none is never = never (Some bytes, refused refusal.Words, inl ((none, is), refl))
of_mill words bytes (Some n) none is never =
    some_milled n (λ found. never (Some bytes, found.0, inr (inr (n, is, refl, found.1))))

of_order : (words : List (List ℕ)) (bytes : List ℕ) (o : Option Order) → order_of words ≡ o → All IsText words → All IsU8 bytes
    → NotRefuted (HasAnswer words bytes)
of_order words bytes None is texts all never = of_mill words bytes (mill_of words) is refl never
of_order words bytes (Some order) is texts all never =
    some_order order bytes (words_proper words texts order is) all (λ found. never (found.0, found.1, inr (inl (order, is, found.2))))

pub some_answer : (words : List (List ℕ)) (bytes : List ℕ) → All IsText words → All IsU8 bytes → NotRefuted (HasAnswer words bytes)
some_answer words bytes texts all never = of_order words bytes (order_of words) refl texts all never
