-- The steps of the readers.
use Rattle.std.proofs.Common.{◌≡◌, ℕ, ◌+◌, ◌-◌, ◌⊎◌, ◌<◌, ◌≤◌, inl, inr, List, [], ◌∷◌, ◌++◌, length, get_or, drop, length-drop, length-append, Option, Err, refl, sym, ap, subst, ◌∙◌, append_assoc, arith, true, ◌≢◌, max}
use Rattle.std.proofs.lemmas.List.{append-nil}
use Rattle.wasm_types.specs.declared.module.ValType.{ValType}
use Rattle.wasm_types.specs.declared.instr.Instr.{Instr, Block', Loop', If'}
use Rattle.wasm_types.specs.declared.instr.Instr.TheVariants.{Block, Loop, If}
use Rattle.wasm_types.specs.Code.{Code, done, one, block, repeat, branch, onto, code_of, list_of, is_plain, nest}
use Rattle.wasm_types.specs.Standing.{Stands, NoneStands}
use Rattle.wasm_types.specs.Parts.{Then}
use Rattle.wasm_types.specs.Types.{kind_byte}
use Rattle.wasm_types.specs.Plain.{SpellsPlain}
use Rattle.wasm_types.specs.Grammar.{Encloses, HasArms, IsEnder, SpellsCode}
use Rattle.wasm_types.proofs.CodeLemmas.{onto-one, onto-block, onto-loop, onto-if, list_of-onto}
use Rattle.text_laws.proofs.Once.{after}
use Rattle.text_laws.proofs.StandingLemmas.{next}
use Rattle.text_laws.proofs.CodeUnique.{first, plain_leads, one_code, SpellsHead, tail_of, split, nest-tail_of, head_cons, head_leads, one_head}
use Rattle.code_decode.specs.declared.outcome.Stop.{Stop}
use Rattle.code_decode.specs.declared.outcome.Stop.TheVariants as stop
use Rattle.code_decode.specs.Reading.{SpellsWithin, NoCode, NoInstr, EnclosedText, ReadsEnclosed, ReadsCode, ReadsInstr, ReadsOr}

pub next_two : (bytes : List ℕ) (at : ℕ) → at + 1 < length bytes → drop at bytes ≡ get_or bytes at 0 ∷ get_or bytes (at + 1) 0 ∷ drop (at + 2) bytes
next_two bytes at lt = next bytes at (omega arith) ∙ ap (λ (t : List ℕ). get_or bytes at 0 ∷ t) (next bytes (at + 1) lt ∙ ap (λ (n : ℕ). get_or bytes (at + 1) 0 ∷ drop n bytes) (omega arith))

-- the byte at a place is the first of what stands there
pub first_at : (bytes text rest : List ℕ) (at : ℕ) → at < length bytes → drop at bytes ≡ text ++ rest → get_or bytes at 0 ≡ first (text ++ rest)
first_at bytes text rest at lt here = ap first (sym (next bytes at lt) ∙ here)

-- ---- plain instructions

spelled_is_plain : (i : Instr) (text : List ℕ) → SpellsPlain text i → is_plain i ≡ true
spelled_is_plain (Block' k m row) text p = absurd p.spelled
spelled_is_plain (Loop' k m row) text p = absurd p.spelled
spelled_is_plain (If' k m row n row2) text p = absurd p.spelled
spelled_is_plain _ text p = refl

-- a spelled sequence is that of its list
pub code_of-list_of : (c : Code) (text : List ℕ) → SpellsCode c text → code_of (list_of c) ≡ c
code_of-list_of done text p = refl
code_of-list_of (one i rest) text p =
    onto-one i (code_of (list_of rest)) (spelled_is_plain i p.front p.first) ∙ ap (one i) (code_of-list_of rest p.back p.second)
code_of-list_of (block k inner rest) text p = onto-block k (list_of inner) (code_of (list_of rest)) ∙ (let a = code_of-list_of inner p.first.inner p.first.contents in let b = code_of-list_of rest p.back p.second in cc (a, b))
code_of-list_of (repeat k inner rest) text p = onto-loop k (list_of inner) (code_of (list_of rest)) ∙ (let a = code_of-list_of inner p.first.inner p.first.contents in let b = code_of-list_of rest p.back p.second in cc (a, b))
code_of-list_of (branch k one_arm other rest) text p =
    let a = code_of-list_of one_arm p.first.yes p.first.first in
    let c : code_of (list_of other) ≡ other = elim p.first.others [ inl l ↦ code_of-list_of other [] l.1 | inr r ↦ code_of-list_of other r.0 r.1 ] in
    let b = code_of-list_of rest p.back p.second in
    onto-if k (list_of one_arm) (list_of other) (code_of (list_of rest)) ∙ (cc (a, b, c))

-- ---- one instruction

single : (Head : List ℕ → Type 0) (text : List ℕ) → Head text → Then Head (SpellsCode done) text
single Head text h = record { front = text; back = []; parts = sym (append-nil text); first = h; second = refl }

pub plain_instr : (room : ℕ) (bytes : List ℕ) (at end : ℕ) (i : Instr) → Stands SpellsPlain bytes at end i
    → Stands (SpellsWithin room) bytes at end (onto i done)
plain_instr room bytes at end i s = rw (onto-one i done (spelled_is_plain i s.text s.spelled)) (record { text = s.text; spelled = (single (λ t. SpellsPlain t i) s.text s.spelled, omega arith); here = s.here; within = s.within })

pub block_instr : (room : ℕ) (bytes : List ℕ) (at end : ℕ) (k : Option ValType) (xs : List Instr)
    → Stands (EnclosedText 0x02 room) bytes at end (k, code_of xs) → Stands (SpellsWithin room) bytes at end (onto (Block k xs) done)
block_instr room bytes at end k xs s = subst (λ (c : Code). Stands (SpellsWithin room) bytes at end c) (sym (onto-block k xs done)) (record { text = s.text; spelled = (single (Encloses 0x02 k (SpellsCode (code_of xs))) s.text s.spelled.0, omega (arith, s.spelled.1)); here = s.here; within = s.within })

pub loop_instr : (room : ℕ) (bytes : List ℕ) (at end : ℕ) (k : Option ValType) (xs : List Instr)
    → Stands (EnclosedText 0x03 room) bytes at end (k, code_of xs) → Stands (SpellsWithin room) bytes at end (onto (Loop k xs) done)
loop_instr room bytes at end k xs s = subst (λ (c : Code). Stands (SpellsWithin room) bytes at end c) (sym (onto-loop k xs done)) (record { text = s.text; spelled = (single (Encloses 0x03 k (SpellsCode (code_of xs))) s.text s.spelled.0, omega (arith, s.spelled.1)); here = s.here; within = s.within })

-- the byte at the place is the first of the first instruction
at_head : (bytes text rest : List ℕ) (at : ℕ) (c : Code) (p : Then (SpellsHead c) (SpellsCode (tail_of c)) text) → at < length bytes
    → drop at bytes ≡ text ++ rest → drop at bytes ≡ p.front ++ (p.back ++ rest)
at_head bytes text rest at c p lt here = here ∙ ap (λ (t : List ℕ). t ++ rest) p.parts ∙ append_assoc p.front p.back rest

pub no_block : (room : ℕ) (bytes : List ℕ) (at : ℕ) → at < length bytes → get_or bytes at 0 ≡ 2 → NoneStands (EnclosedText 0x02 room) bytes at
    → NoInstr room bytes at
no_block room bytes at lt is none text rest done here p = refl
no_block room bytes at lt is none text rest (one i r) here p = let h = at_head bytes text rest at (one i r) p.0 lt here in absurd (grind (arith, is, first_at bytes p.0.front (p.0.back ++ rest) at lt h, plain_leads i p.0.front (p.0.back ++ rest) p.0.first))
no_block room bytes at lt is none text rest (block k m r) here p =
    absurd (none p.0.front (p.0.back ++ rest) (k, m) (at_head bytes text rest at (block k m r) p.0 lt here) (p.0.first, omega (arith, p.1)))
no_block room bytes at lt is none text rest (repeat k m r) here p = let h = at_head bytes text rest at (repeat k m r) p.0 lt here in absurd (omega (arith, is, first_at bytes p.0.front (p.0.back ++ rest) at lt h, head_leads (repeat k m r) p.0.front (p.0.back ++ rest) p.0.first))
no_block room bytes at lt is none text rest (branch k m o r) here p = let h = at_head bytes text rest at (branch k m o r) p.0 lt here in absurd (omega (arith, is, first_at bytes p.0.front (p.0.back ++ rest) at lt h, head_leads (branch k m o r) p.0.front (p.0.back ++ rest) p.0.first))

pub no_loop : (room : ℕ) (bytes : List ℕ) (at : ℕ) → at < length bytes → get_or bytes at 0 ≡ 3 → NoneStands (EnclosedText 0x03 room) bytes at
    → NoInstr room bytes at
no_loop room bytes at lt is none text rest done here p = refl
no_loop room bytes at lt is none text rest (one i r) here p = let h = at_head bytes text rest at (one i r) p.0 lt here in absurd (grind (arith, is, first_at bytes p.0.front (p.0.back ++ rest) at lt h, plain_leads i p.0.front (p.0.back ++ rest) p.0.first))
no_loop room bytes at lt is none text rest (repeat k m r) here p =
    absurd (none p.0.front (p.0.back ++ rest) (k, m) (at_head bytes text rest at (repeat k m r) p.0 lt here) (p.0.first, omega (arith, p.1)))
no_loop room bytes at lt is none text rest (block k m r) here p = let h = at_head bytes text rest at (block k m r) p.0 lt here in absurd (omega (arith, is, first_at bytes p.0.front (p.0.back ++ rest) at lt h, head_leads (block k m r) p.0.front (p.0.back ++ rest) p.0.first))
no_loop room bytes at lt is none text rest (branch k m o r) here p = let h = at_head bytes text rest at (branch k m o r) p.0 lt here in absurd (omega (arith, is, first_at bytes p.0.front (p.0.back ++ rest) at lt h, head_leads (branch k m o r) p.0.front (p.0.back ++ rest) p.0.first))

-- the same for what a reader answers
pub block_stops : (room : ℕ) (bytes : List ℕ) (at : ℕ) (e : Stop) → at < length bytes → get_or bytes at 0 ≡ 2
    → ReadsEnclosed (get_or bytes at 0) room bytes at (Err e) → ReadsInstr room bytes at (Err e)
block_stops room bytes at stop.No lt is h = no_block room bytes at lt is (subst (λ (op : ℕ). NoneStands (EnclosedText op room) bytes at) is h)
block_stops room bytes at stop.Memory lt is h = tt

pub loop_stops : (room : ℕ) (bytes : List ℕ) (at : ℕ) (e : Stop) → at < length bytes → get_or bytes at 0 ≡ 3
    → ReadsEnclosed (get_or bytes at 0) room bytes at (Err e) → ReadsInstr room bytes at (Err e)
loop_stops room bytes at stop.No lt is h = no_loop room bytes at lt is (subst (λ (op : ℕ). NoneStands (EnclosedText op room) bytes at) is h)
loop_stops room bytes at stop.Memory lt is h = tt

pub no_plain : (room : ℕ) (bytes : List ℕ) (at : ℕ) → at < length bytes → get_or bytes at 0 ≢ 2 → get_or bytes at 0 ≢ 3 → get_or bytes at 0 ≢ 4
    → NoneStands SpellsPlain bytes at → NoInstr room bytes at
no_plain room bytes at lt n2 n3 n4 none text rest done here p = refl
no_plain room bytes at lt n2 n3 n4 none text rest (one i r) here p =
    absurd (none p.0.front (p.0.back ++ rest) i (at_head bytes text rest at (one i r) p.0 lt here) p.0.first)
no_plain room bytes at lt n2 n3 n4 none text rest (block k m r) here p = let h = at_head bytes text rest at (block k m r) p.0 lt here in absurd (n2 (omega (arith, first_at bytes p.0.front (p.0.back ++ rest) at lt h, head_leads (block k m r) p.0.front (p.0.back ++ rest) p.0.first)))
no_plain room bytes at lt n2 n3 n4 none text rest (repeat k m r) here p = let h = at_head bytes text rest at (repeat k m r) p.0 lt here in absurd (n3 (omega (arith, first_at bytes p.0.front (p.0.back ++ rest) at lt h, head_leads (repeat k m r) p.0.front (p.0.back ++ rest) p.0.first)))
no_plain room bytes at lt n2 n3 n4 none text rest (branch k m o r) here p = let h = at_head bytes text rest at (branch k m o r) p.0 lt here in absurd (n4 (omega (arith, first_at bytes p.0.front (p.0.back ++ rest) at lt h, head_leads (branch k m o r) p.0.front (p.0.back ++ rest) p.0.first)))

pub plain_stops : (room : ℕ) (bytes : List ℕ) (at : ℕ) (e : Stop) → at < length bytes → get_or bytes at 0 ≢ 2 → get_or bytes at 0 ≢ 3
    → get_or bytes at 0 ≢ 4 → ReadsOr SpellsPlain bytes at (Err e) → ReadsInstr room bytes at (Err e)
plain_stops room bytes at stop.No lt n2 n3 n4 h = no_plain room bytes at lt n2 n3 n4 h
plain_stops room bytes at stop.Memory lt n2 n3 n4 h = tt

-- ---- what is enclosed

pub enclosed_stands : (room : ℕ) (bytes : List ℕ) (at end : ℕ) (k : Option ValType) (c : Code) → 0 < room → at + 1 < length bytes
    → get_or bytes (at + 1) 0 ≡ kind_byte k → Stands (SpellsWithin (room - 1)) bytes (at + 2) end c
    → end < length bytes → get_or bytes end 0 ≡ 0x0B → Stands (EnclosedText (get_or bytes at 0) room) bytes at (end + 1) (k, c)
enclosed_stands room bytes at end k c some lt kind s within ender = record {
  text = get_or bytes at 0 ∷ kind_byte k ∷ s.text ++ 0x0B ∷ [];
  spelled = (record { inner = s.text; parts = refl; contents = s.spelled.0 }, omega (arith, s.spelled.1));
  here = next_two bytes at lt ∙ ap (λ (b : ℕ). get_or bytes at 0 ∷ b ∷ drop (at + 2) bytes) kind ∙ ap (λ (t : List ℕ). get_or bytes at 0 ∷ kind_byte k ∷ t)
      (s.here ∙ ap (λ (t : List ℕ). s.text ++ t) (next bytes end within ∙ ap (λ (b : ℕ). b ∷ drop (end + 1) bytes) ender) ∙ sym (append_assoc s.text (0x0B ∷ []) (drop (end + 1) bytes)));
  within = omega arith;
}

-- another end stands there
pub no_enclosed : (op room : ℕ) (bytes : List ℕ) (at end : ℕ) (c : Code) → at + 1 < length bytes → Stands (SpellsWithin (room - 1)) bytes (at + 2) end c
    → end < length bytes → IsEnder (get_or bytes end 0) → get_or bytes end 0 ≢ 0x0B → NoneStands (EnclosedText op room) bytes at
no_enclosed op room bytes at end c lt s within ender other text rest v here p =
    let e : get_or bytes at 0 ∷ get_or bytes (at + 1) 0 ∷ drop (at + 2) bytes ≡ op ∷ kind_byte v.0 ∷ (p.0.inner ++ 0x0B ∷ [] ++ rest) = sym (next_two bytes at lt) ∙ here ∙ ap (λ (t : List ℕ). t ++ rest) p.0.parts in
    let inside : drop (at + 2) bytes ≡ p.0.inner ++ 0x0B ∷ [] ++ rest = cc in
    let both : s.text ++ get_or bytes end 0 ∷ drop (end + 1) bytes ≡ p.0.inner ++ 0x0B ∷ rest = ap (λ (t : List ℕ). s.text ++ t) (sym (next bytes end within)) ∙ sym s.here ∙ inside ∙ append_assoc p.0.inner (0x0B ∷ []) rest in
    let r = one_code c v.1 s.text p.0.inner _ _ (get_or bytes end 0) 0x0B s.spelled.0 p.0.contents ender (inl refl) both in
    other (ap first (after s.text p.0.inner (get_or bytes end 0 ∷ drop (end + 1) bytes) (0x0B ∷ rest) r.1 both))

-- ---- sequences

pub onto_some : (i : Instr) (rest : Code) → onto i rest ≡ done → ⊥
onto_some i rest e = let h : i ∷ list_of rest ≡ [] = sym (list_of-onto i rest) ∙ ap list_of e in absurd cc

pub stands_on : (room : ℕ) (bytes : List ℕ) (at end : ℕ) (i : Instr) → at < length bytes → Stands (SpellsWithin room) bytes at end (onto i done) → at < end
stands_on room bytes at end i lt s =
    let p = split (onto i done) s.text (onto_some i done) s.spelled.0 in
    let h = head_cons (onto i done) p.front p.first in
    omega (arith, ap length s.here, ap length p.parts, ap length h.2, length-drop at bytes, length-drop end bytes, s.within, length-append s.text (drop end bytes), length-append p.front p.back)

-- an instruction, and then the rest
front_of : (i : Instr) (rest : Code) (a : List ℕ) → SpellsCode (onto i rest) a → Then (SpellsHead (onto i done)) (SpellsCode rest) a
unfolding onto
front_of (Block' k m row) rest a p = p
front_of (Loop' k m row) rest a p = p
front_of (If' k m row n row2) rest a p = p
front_of _ rest a p = p

back_of : (i : Instr) (rest : Code) (f b : List ℕ) → SpellsHead (onto i done) f → SpellsCode rest b → SpellsCode (onto i rest) (f ++ b)
unfolding onto
back_of (Block' k m row) rest f b p q = record { front = f; back = b; parts = refl; first = p; second = q }
back_of (Loop' k m row) rest f b p q = record { front = f; back = b; parts = refl; first = p; second = q }
back_of (If' k m row n row2) rest f b p q = record { front = f; back = b; parts = refl; first = p; second = q }
back_of _ rest f b p q = record { front = f; back = b; parts = refl; first = p; second = q }

nest_onto : (i : Instr) (rest : Code) → nest (onto i rest) ≡ max (nest (onto i done)) (nest rest)
unfolding onto
nest_onto (Block' k m row) rest = omega arith
nest_onto (Loop' k m row) rest = omega arith
nest_onto (If' k m row n row2) rest = omega arith
nest_onto _ rest = omega arith

joined : (i : Instr) (xs : List Instr) (a b : List ℕ) → SpellsCode (code_of xs) a → SpellsCode (onto i done) b → SpellsCode (code_of (xs ++ i ∷ [])) (a ++ b)
joined i [] a b p q = subst (λ (t : List ℕ). SpellsCode (onto i done) (t ++ b)) (sym p) q
joined i (x ∷ xs) a b p q =
    let parts = front_of x (code_of xs) a p in
    let more = joined i xs parts.back b parts.second q in
    subst (SpellsCode (onto x (code_of (xs ++ i ∷ [])))) (sym (ap (λ (t : List ℕ). t ++ b) parts.parts ∙ append_assoc parts.front parts.back b)) (back_of x (code_of (xs ++ i ∷ [])) parts.front (parts.back ++ b) parts.first more)

nest_joined : (room : ℕ) (i : Instr) (xs : List Instr) → nest (code_of xs) ≤ room → nest (onto i done) ≤ room → nest (code_of (xs ++ i ∷ [])) ≤ room
nest_joined room i [] p q = q
nest_joined room i (x ∷ xs) p q =
    omega (arith, nest_onto x (code_of xs), nest_onto x (code_of (xs ++ i ∷ [])), nest_joined room i xs (omega (arith, nest_onto x (code_of xs))) q)

pub stands_more : (room : ℕ) (bytes : List ℕ) (at place end : ℕ) (xs : List Instr) (i : Instr)
    → Stands (SpellsWithin room) bytes at place (code_of xs) → Stands (SpellsWithin room) bytes place end (onto i done)
    → Stands (SpellsWithin room) bytes at end (code_of (xs ++ i ∷ []))
stands_more room bytes at place end xs i s t = record {
  text = s.text ++ t.text;
  spelled = (joined i xs s.text t.text s.spelled.0 t.spelled.0, nest_joined room i xs s.spelled.1 t.spelled.1);
  here = s.here ∙ ap (λ (u : List ℕ). s.text ++ u) t.here ∙ sym (append_assoc s.text t.text (drop end bytes));
  within = t.within;
}

-- no sequence goes on where none stands behind the instruction
none_behind : (room : ℕ) (bytes : List ℕ) (at end : ℕ) (i : Instr) (text rest : List ℕ) (c : Code) (ender : ℕ) → (c ≡ done → ⊥) → at < length bytes
    → Stands (SpellsWithin room) bytes at end (onto i done)
    → NoCode room bytes end → drop at bytes ≡ text ++ ender ∷ rest → IsEnder ender → SpellsWithin room text c → ⊥
none_behind room bytes at end i text rest c ender some lt s none here ee p =
    let parts = split c text some p.0 in
    let mine = front_of i done s.text s.spelled.0 in
    let e : parts.front ++ (parts.back ++ ender ∷ rest) ≡ mine.front ++ (mine.back ++ drop end bytes) = sym (at_head bytes text (ender ∷ rest) at c parts lt here) ∙ s.here ∙ ap (λ (t : List ℕ). t ++ drop end bytes) mine.parts ∙ append_assoc mine.front mine.back (drop end bytes) in
    let same = one_head c (onto i done) parts.front mine.front _ _ parts.first mine.first e in
    let behind : parts.back ++ ender ∷ rest ≡ drop end bytes = after parts.front mine.front _ _ same e ∙ ap (λ (t : List ℕ). t ++ drop end bytes) mine.second in
    none parts.back rest (tail_of c) ender (sym behind) ee (parts.second, omega (arith, nest-tail_of c, p.1))

pub none_back : (room : ℕ) (bytes : List ℕ) (at end : ℕ) (i : Instr) → at < length bytes → get_or bytes at 0 ≢ 0x0B → get_or bytes at 0 ≢ 0x05
    → Stands (SpellsWithin room) bytes at end (onto i done)
    → NoCode room bytes end → NoCode room bytes at
none_back room bytes at end i lt nb n5 s none text rest done ender here ee p =
    let e = first_at bytes text (ender ∷ rest) at lt here ∙ ap (λ (t : List ℕ). first (t ++ ender ∷ rest)) p.0 in
    elim ee [ inl b ↦ nb (e ∙ b) | inr b ↦ n5 (e ∙ b) ]
none_back room bytes at end i lt nb n5 s none text rest (one j r) ender here ee p =
    none_behind room bytes at end i text rest (one j r) ender (λ e. cc) lt s none here ee p
none_back room bytes at end i lt nb n5 s none text rest (block k m r) ender here ee p =
    none_behind room bytes at end i text rest (block k m r) ender (λ e. cc) lt s none here ee p
none_back room bytes at end i lt nb n5 s none text rest (repeat k m r) ender here ee p =
    none_behind room bytes at end i text rest (repeat k m r) ender (λ e. cc) lt s none here ee p
none_back room bytes at end i lt nb n5 s none text rest (branch k m o r) ender here ee p =
    none_behind room bytes at end i text rest (branch k m o r) ender (λ e. cc) lt s none here ee p

pub none_past_end : (room : ℕ) (bytes : List ℕ) (at : ℕ) → length bytes ≤ at → NoCode room bytes at
none_past_end room bytes at past text rest c ender here ee p = absurd (omega (arith, ap length here, length-drop at bytes, length-append text (ender ∷ rest)))

-- ---- an if

-- no two arms stand at the place
NoArms : ℕ → List ℕ → ℕ → Type 0
NoArms room bytes at = (k : Option ValType) (m o : Code) (front rest : List ℕ) → drop at bytes ≡ front ++ rest → HasArms k (SpellsCode m) (SpellsCode o) front → 1 + max (nest m) (nest o) ≤ room → ⊥

no_if_from : (room : ℕ) (bytes : List ℕ) (at : ℕ) → at < length bytes → get_or bytes at 0 ≡ 4 → NoArms room bytes at → NoInstr room bytes at
unfolding NoArms
no_if_from room bytes at lt is none text rest done here p = refl
no_if_from room bytes at lt is none text rest (one i r) here p = let h = at_head bytes text rest at (one i r) p.0 lt here in absurd (grind (arith, is, first_at bytes p.0.front (p.0.back ++ rest) at lt h, plain_leads i p.0.front (p.0.back ++ rest) p.0.first))
no_if_from room bytes at lt is none text rest (block k m r) here p = let h = at_head bytes text rest at (block k m r) p.0 lt here in absurd (omega (arith, is, first_at bytes p.0.front (p.0.back ++ rest) at lt h, head_leads (block k m r) p.0.front (p.0.back ++ rest) p.0.first))
no_if_from room bytes at lt is none text rest (repeat k m r) here p = let h = at_head bytes text rest at (repeat k m r) p.0 lt here in absurd (omega (arith, is, first_at bytes p.0.front (p.0.back ++ rest) at lt h, head_leads (repeat k m r) p.0.front (p.0.back ++ rest) p.0.first))
no_if_from room bytes at lt is none text rest (branch k m o r) here p =
    absurd (none k m o p.0.front (p.0.back ++ rest) (at_head bytes text rest at (branch k m o r) p.0 lt here) p.0.first (omega (arith, p.1)))

-- what stands behind the block type
Arms : (k : Option ValType) (m o : Code) (behind rest arm : List ℕ) → Type 0
Arms k m o behind rest arm = ((behind ≡ arm ++ 0x0B ∷ rest) × SpellsCode o []) ⊎ ((no : List ℕ) × SpellsCode o no × (behind ≡ arm ++ 0x05 ∷ (no ++ 0x0B ∷ rest)))

tail_is : (k : ℕ) (u w rest front bytes : List ℕ) (b0 b1 : ℕ) (behind : List ℕ) (g : ℕ) → front ≡ 0x04 ∷ k ∷ u ++ g ∷ w
    → b0 ∷ b1 ∷ behind ≡ front ++ rest → (b1 ≡ k) × (behind ≡ u ++ g ∷ (w ++ rest))
tail_is k u w rest front bytes b0 b1 behind g p e =
    let h : b0 ∷ b1 ∷ behind ≡ 0x04 ∷ k ∷ (u ++ g ∷ w ++ rest) = e ∙ ap (λ (t : List ℕ). t ++ rest) p in
    let inside : behind ≡ u ++ g ∷ w ++ rest = cc in
    (cc, inside ∙ append_assoc u (g ∷ w) rest)

arms_at : (k : Option ValType) (m o : Code) (bytes front rest : List ℕ) (at : ℕ) → at + 1 < length bytes → drop at bytes ≡ front ++ rest
    → (arms : HasArms k (SpellsCode m) (SpellsCode o) front)
    → (get_or bytes (at + 1) 0 ≡ kind_byte k) × Arms k m o (drop (at + 2) bytes) rest arms.yes
unfolding Arms
arms_at k m o bytes front rest at lt here arms =
    let e = sym (next_two bytes at lt) ∙ here in
    elim arms.others [
      | inl l ↦ let t = tail_is (kind_byte k) arms.yes [] rest front bytes _ _ _ 0x0B l.0 e in (t.0, inl (t.1, l.1))
      | inr r ↦ let t = tail_is (kind_byte k) arms.yes (r.0 ++ 0x0B ∷ []) rest front bytes _ _ _ 0x05 r.2 e in (t.0, inr (r.0, r.1, t.1 ∙ ap (λ (u : List ℕ). arms.yes ++ 0x05 ∷ u) (append_assoc r.0 (0x0B ∷ []) rest)))
    ]

arms_long : (k : Option ValType) (m o : Code) (bytes front rest : List ℕ) (at : ℕ) → drop at bytes ≡ front ++ rest
    → HasArms k (SpellsCode m) (SpellsCode o) front → at + 1 < length bytes
arms_long k m o bytes front rest at here arms =
    elim arms.others [
      | inl l ↦ omega (arith, ap length here, ap length l.0, length-drop at bytes, length-append front rest)
      | inr r ↦ omega (arith, ap length here, ap length r.2, length-drop at bytes, length-append front rest)
    ]

pub no_if_room : (room : ℕ) (bytes : List ℕ) (at : ℕ) → at < length bytes → get_or bytes at 0 ≡ 4 → ((room ≡ 0) ⊎ (length bytes ≤ at + 1))
    → NoInstr room bytes at
unfolding NoArms
no_if_room room bytes at lt is (inl e) = no_if_from room bytes at lt is (λ k m o front rest here arms n. omega (arith, e, n))
no_if_room room bytes at lt is (inr e) =
    no_if_from room bytes at lt is (λ k m o front rest here arms n. omega (arith, e, arms_long k m o bytes front rest at here arms))

pub no_if_kind : (room : ℕ) (bytes : List ℕ) (at : ℕ) → at < length bytes → get_or bytes at 0 ≡ 4
    → ((k : Option ValType) → get_or bytes (at + 1) 0 ≢ kind_byte k) → NoInstr room bytes at
unfolding NoArms
no_if_kind room bytes at lt is none = no_if_from room bytes at lt is (λ k m o front rest here arms n. none k (arms_at k m o bytes front rest at (arms_long k m o bytes front rest at here arms) here arms).0)

no_if_first : (room : ℕ) (bytes : List ℕ) (at : ℕ) → at < length bytes → get_or bytes at 0 ≡ 4 → NoCode (room - 1) bytes (at + 2) → NoInstr room bytes at
unfolding NoArms Arms
no_if_first room bytes at lt is none = no_if_from room bytes at lt is (λ k m o front rest here arms n.
    elim (arms_at k m o bytes front rest at (arms_long k m o bytes front rest at here arms) here arms).1 [
      | inl l ↦ none arms.yes rest m 0x0B l.0 (inl refl) (arms.first, omega (arith, n))
      | inr r ↦ none arms.yes (r.0 ++ 0x0B ∷ rest) m 0x05 r.2 (inr refl) (arms.first, omega (arith, n))
    ])

pub if_stops_first : (room : ℕ) (bytes : List ℕ) (at : ℕ) (e : Stop) → at < length bytes → get_or bytes at 0 ≡ 4
    → ReadsCode (room - 1) bytes (at + 2) (Err e) → ReadsInstr room bytes at (Err e)
if_stops_first room bytes at stop.No lt is h = no_if_first room bytes at lt is h
if_stops_first room bytes at stop.Memory lt is h = tt

-- the first arm is the one that was read, and the end behind it too
first_arm : (room : ℕ) (bytes : List ℕ) (at middle : ℕ) (c m : Code) (arm rest : List ℕ) (g : ℕ) → Stands (SpellsWithin room) bytes at middle c
    → middle < length bytes → IsEnder (get_or bytes middle 0) → IsEnder g
    → SpellsCode m arm → drop at bytes ≡ arm ++ g ∷ rest → (get_or bytes middle 0 ≡ g) × (drop (middle + 1) bytes ≡ rest)
first_arm room bytes at middle c m arm rest g s within ender eg p e =
    let both : s.text ++ get_or bytes middle 0 ∷ drop (middle + 1) bytes ≡ arm ++ g ∷ rest = ap (λ (t : List ℕ). s.text ++ t) (sym (next bytes middle within)) ∙ sym s.here ∙ e in
    let r = one_code c m s.text arm _ _ (get_or bytes middle 0) g s.spelled.0 p ender eg both in
    let behind = after s.text arm (get_or bytes middle 0 ∷ drop (middle + 1) bytes) (g ∷ rest) r.1 both in
    (cc, cc)

no_if_second : (room : ℕ) (bytes : List ℕ) (at middle : ℕ) (c : Code) → at < length bytes → get_or bytes at 0 ≡ 4
    → Stands (SpellsWithin (room - 1)) bytes (at + 2) middle c → middle < length bytes → IsEnder (get_or bytes middle 0) → get_or bytes middle 0 ≢ 0x0B
    → ((no rest : List ℕ) (o : Code) → drop (middle + 1) bytes ≡ no ++ 0x0B ∷ rest → SpellsCode o no → nest o ≤ room - 1 → ⊥) → NoInstr room bytes at
unfolding NoArms Arms
no_if_second room bytes at middle c lt is s within ender other none = no_if_from room bytes at lt is (λ k m o front rest here arms n.
    elim (arms_at k m o bytes front rest at (arms_long k m o bytes front rest at here arms) here arms).1 [
      | inl l ↦ other (first_arm (room - 1) bytes (at + 2) middle c m arms.yes rest 0x0B s within ender (inl refl) arms.first l.0).0
      | inr r ↦ none r.0 rest o (first_arm (room - 1) bytes (at + 2) middle c m arms.yes (r.0 ++ 0x0B ∷ rest) 0x05 s within ender (inr refl) arms.first r.2).1 r.1 (omega (arith, n))
    ])

pub if_stops_second : (room : ℕ) (bytes : List ℕ) (at middle : ℕ) (c : Code) (e : Stop) → at < length bytes → get_or bytes at 0 ≡ 4
    → Stands (SpellsWithin (room - 1)) bytes (at + 2) middle c → middle < length bytes → IsEnder (get_or bytes middle 0) → get_or bytes middle 0 ≢ 0x0B
    → ReadsCode (room - 1) bytes (middle + 1) (Err e) → ReadsInstr room bytes at (Err e)
if_stops_second room bytes at middle c stop.Memory lt is s within ender other h = tt
if_stops_second room bytes at middle c stop.No lt is s within ender other h =
    no_if_second room bytes at middle c lt is s within ender other (λ no rest o e p n. h no rest o 0x0B e (inl refl) (p, n))

pub no_if_end : (room : ℕ) (bytes : List ℕ) (at middle end : ℕ) (c d : Code) → at < length bytes → get_or bytes at 0 ≡ 4
    → Stands (SpellsWithin (room - 1)) bytes (at + 2) middle c → middle < length bytes → IsEnder (get_or bytes middle 0) → get_or bytes middle 0 ≢ 0x0B
    → Stands (SpellsWithin (room - 1)) bytes (middle + 1) end d → end < length bytes → IsEnder (get_or bytes end 0) → get_or bytes end 0 ≢ 0x0B → NoInstr room bytes at
no_if_end room bytes at middle end c d lt is s within ender other t within2 ender2 other2 =
    no_if_second room bytes at middle c lt is s within ender other (λ no rest o e p n.
    other2 (first_arm (room - 1) bytes (middle + 1) end d o no rest 0x0B t within2 ender2 (inl refl) p e).0)

-- the whole
pub if_stands : (room : ℕ) (bytes : List ℕ) (at middle : ℕ) (k : Option ValType) (xs : List Instr) → 0 < room → at + 1 < length bytes
    → get_or bytes at 0 ≡ 4 → get_or bytes (at + 1) 0 ≡ kind_byte k
    → Stands (SpellsWithin (room - 1)) bytes (at + 2) middle (code_of xs) → middle < length bytes → get_or bytes middle 0 ≡ 0x0B → Stands (SpellsWithin room) bytes at (middle + 1) (onto (If k xs []) done)
if_stands room bytes at middle k xs some lt is kind s within ender = subst (λ (c : Code). Stands (SpellsWithin room) bytes at (middle + 1) c) (sym (onto-if k xs [] done)) (record {
  text = 0x04 ∷ kind_byte k ∷ s.text ++ 0x0B ∷ [];
  spelled = (single (HasArms k (SpellsCode (code_of xs)) (SpellsCode done)) _ (record { yes = s.text; first = s.spelled.0; others = inl (refl, refl) }), omega (arith, s.spelled.1));
  here = next_two bytes at lt ∙ ap (λ (b : ℕ). b ∷ get_or bytes (at + 1) 0 ∷ drop (at + 2) bytes) is ∙ ap (λ (b : ℕ). 0x04 ∷ b ∷ drop (at + 2) bytes) kind ∙ ap (λ (t : List ℕ). 0x04 ∷ kind_byte k ∷ t)
      (s.here ∙ ap (λ (t : List ℕ). s.text ++ t) (next bytes middle within ∙ ap (λ (b : ℕ). b ∷ drop (middle + 1) bytes) ender) ∙ sym (append_assoc s.text (0x0B ∷ []) (drop (middle + 1) bytes)));
  within = omega arith;
})

pub if_else_stands : (room : ℕ) (bytes : List ℕ) (at middle end : ℕ) (k : Option ValType) (xs ys : List Instr) → 0 < room → at + 1 < length bytes
    → get_or bytes at 0 ≡ 4 → get_or bytes (at + 1) 0 ≡ kind_byte k
    → Stands (SpellsWithin (room - 1)) bytes (at + 2) middle (code_of xs) → middle < length bytes → get_or bytes middle 0 ≡ 0x05
    → Stands (SpellsWithin (room - 1)) bytes (middle + 1) end (code_of ys) → end < length bytes → get_or bytes end 0 ≡ 0x0B → Stands (SpellsWithin room) bytes at (end + 1) (onto (If k xs ys) done)
if_else_stands room bytes at middle end k xs ys some lt is kind s within ender t within2 ender2 = subst (λ (c : Code). Stands (SpellsWithin room) bytes at (end + 1) c) (sym (onto-if k xs ys done)) (record {
  text = 0x04 ∷ kind_byte k ∷ s.text ++ 0x05 ∷ (t.text ++ 0x0B ∷ []);
  spelled = (single (HasArms k (SpellsCode (code_of xs)) (SpellsCode (code_of ys))) _ (record { yes = s.text; first = s.spelled.0; others = inr (t.text, t.spelled.0, refl) }), omega (arith, s.spelled.1, t.spelled.1));
  here = next_two bytes at lt ∙ ap (λ (b : ℕ). b ∷ get_or bytes (at + 1) 0 ∷ drop (at + 2) bytes) is ∙ ap (λ (b : ℕ). 0x04 ∷ b ∷ drop (at + 2) bytes) kind ∙ ap (λ (u : List ℕ). 0x04 ∷ kind_byte k ∷ u)
      (s.here ∙ ap (λ (u : List ℕ). s.text ++ u) (next bytes middle within ∙ ap (λ (b : ℕ). b ∷ drop (middle + 1) bytes) ender ∙ ap (λ (u : List ℕ). 0x05 ∷ u)
      (t.here ∙ ap (λ (u : List ℕ). t.text ++ u) (next bytes end within2 ∙ ap (λ (b : ℕ). b ∷ drop (end + 1) bytes) ender2) ∙ sym (append_assoc t.text (0x0B ∷ []) (drop (end + 1) bytes)))) ∙ sym (append_assoc s.text (0x05 ∷ (t.text ++ 0x0B ∷ [])) (drop (end + 1) bytes)));
  within = omega arith;
})

pub ender_else : (b : ℕ) → IsEnder b → b ≢ 0x0B → b ≡ 0x05
ender_else b (inl e) other = absurd (other e)
ender_else b (inr e) other = e
