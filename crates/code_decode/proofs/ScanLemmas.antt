-- What is still to come where some blocks are open.
use Rattle.std.proofs.Common.{◌≡◌, ◌≢◌, ℕ, ◌+◌, ◌⊎◌, ◌<◌, ◌≤◌, inl, inr, Bool, true, false, List, [], ◌∷◌, ◌++◌, length, get_or, drop, length-drop, length-append, Option, refl, sym, ap, subst, ◌∙◌, append_assoc, arith}
use Rattle.std.proofs.lemmas.List.{nil_from_length}
use Rattle.wasm_types.specs.declared.module.ValType.{ValType}
use Rattle.wasm_types.specs.declared.instr.Instr.{Instr}
use Rattle.wasm_types.specs.Code.{Code, done, one, block, repeat, branch, code_of, list_of}
use Rattle.wasm_types.specs.Standing.{Stands, NoneStands}
use Rattle.wasm_types.specs.Types.{kind_byte}
use Rattle.wasm_types.specs.Plain.{SpellsPlain}
use Rattle.wasm_types.specs.Grammar.{Encloses, IsEnder, SpellsCode, SpellsInstrs}
use Rattle.text_laws.proofs.Once.{after}
use Rattle.text_laws.proofs.StandingLemmas.{next}
use Rattle.text_laws.proofs.CodeUnique.{first, plain_leads, Leads, leads, tail_of, split, head_cons, one_head}
use Rattle.code_decode.specs.Scan.{Seq, Closes, SameTail, Opens}
use Rattle.code_decode.proofs.Steps.{next_two, code_of-list_of}

pub onward : (e : ℕ) (K L : List ℕ → Type 0) (text : List ℕ) → ((t : List ℕ) → K t → L t) → Seq e K text → Seq e L text
onward e K L text f s = record { code = s.code; inner = s.inner; back = s.back; spelled = s.spelled; parts = s.parts; next = f s.back s.next }

done_or : (c : Code) → (c ≡ done) ⊎ (c ≡ done → ⊥)
done_or done = inl refl
done_or (one i r) = inr (λ e. cc)
done_or (block k m r) = inr (λ e. cc)
done_or (repeat k m r) = inr (λ e. cc)
done_or (branch k m o r) = inr (λ e. cc)

-- ---- a plain instruction

plain_on : (e : ℕ) (K : List ℕ → Type 0) (i : Instr) (t text : List ℕ) → IsEnder e → SpellsPlain t i → Seq e K (t ++ text) → Seq e K text
plain_on e K i t text ee p s =
    elim (done_or s.code) [
      | inl is ↦
          let empty : s.inner ≡ [] = subst (λ (d : Code). SpellsCode d s.inner) is s.spelled in
          let h : first (t ++ text) ≡ e = ap first s.parts ∙ ap (λ (u : List ℕ). first (u ++ e ∷ s.back)) empty in
          absurd (grind (arith, h, plain_leads i t text p, ee))
      | inr some ↦
          let parts = split s.code s.inner some s.spelled in
          let e1 : parts.front ++ (parts.back ++ e ∷ s.back) ≡ t ++ text = sym (append_assoc parts.front parts.back (e ∷ s.back)) ∙ ap (λ (u : List ℕ). u ++ e ∷ s.back) (sym parts.parts) ∙ sym s.parts in
          let same = one_head s.code (one i done) parts.front t _ _ parts.first p e1 in
          record { code = tail_of s.code; inner = parts.back; back = s.back; spelled = parts.second; parts = sym (after parts.front t _ _ same e1); next = s.next }
    ]

plain_back : (e : ℕ) (K : List ℕ → Type 0) (i : Instr) (t text : List ℕ) → SpellsPlain t i → Seq e K text → Seq e K (t ++ text)
plain_back e K i t text p s = record {
  code = one i s.code;
  inner = t ++ s.inner;
  back = s.back;
  spelled = record { front = t; back = s.inner; parts = refl; first = p; second = s.spelled };
  parts = ap (λ (u : List ℕ). t ++ u) s.parts ∙ sym (append_assoc t s.inner (e ∷ s.back));
  next = s.next;
}

-- ---- a block or a loop

behind_op : (op : ℕ) (k : Option ValType) (P : List ℕ → Type 0) (inner text back b2 : List ℕ) (e b : ℕ) (p : Encloses op k P inner)
    → op ∷ b ∷ text ≡ (inner ++ b2) ++ e ∷ back → (b ≡ kind_byte k) × (text ≡ p.inner ++ 0x0B ∷ (b2 ++ e ∷ back))
behind_op op k P inner text back b2 e b p h =
    let g : op ∷ b ∷ text ≡ op ∷ kind_byte k ∷ (p.inner ++ 0x0B ∷ [] ++ (b2 ++ e ∷ back)) = h ∙ append_assoc inner b2 (e ∷ back) ∙ ap (λ (u : List ℕ). u ++ (b2 ++ e ∷ back)) p.parts in
    let inside : text ≡ p.inner ++ 0x0B ∷ [] ++ (b2 ++ e ∷ back) = cc in
    (cc, inside ∙ append_assoc p.inner (0x0B ∷ []) (b2 ++ e ∷ back))

wrong_head : (c : Code) (inner back : List ℕ) (e op : ℕ) (text : List ℕ) → SpellsCode c inner → op ∷ text ≡ inner ++ e ∷ back → Leads c e op
wrong_head c inner back e op text p h = subst (λ (n : ℕ). Leads c e n) (ap first (sym h)) (leads c inner e back p)

block_on : (e : ℕ) (K : List ℕ → Type 0) (b : ℕ) (text : List ℕ) (c : Code) (inner back : List ℕ) → IsEnder e → SpellsCode c inner
    → 0x02 ∷ b ∷ text ≡ inner ++ e ∷ back → K back
    → (k : Option ValType) × (b ≡ kind_byte k) × Seq 0x0B (Seq e K) text
block_on e K b text done inner back ee p h next = absurd (grind (arith, ee, wrong_head done inner back e 2 (b ∷ text) p h))
block_on e K b text (one i r) inner back ee p h next = absurd (grind (arith, wrong_head (one i r) inner back e 2 (b ∷ text) p h))
block_on e K b text (repeat k m r) inner back ee p h next = absurd (omega (arith, wrong_head (repeat k m r) inner back e 2 (b ∷ text) p h))
block_on e K b text (branch k m o r) inner back ee p h next = absurd (omega (arith, wrong_head (branch k m o r) inner back e 2 (b ∷ text) p h))
block_on e K b text (block k m r) inner back ee p h next =
    let g = behind_op 2 k (SpellsCode m) p.front text back p.back e b p.first (h ∙ ap (λ (u : List ℕ). u ++ e ∷ back) p.parts) in
    (k, g.0, record { code = m; inner = p.first.inner; back = p.back ++ e ∷ back; spelled = p.first.contents; parts = g.1; next = record { code = r; inner = p.back; back = back; spelled = p.second; parts = refl; next = next } })

block_back : (e : ℕ) (K : List ℕ → Type 0) (b : ℕ) (k : Option ValType) (text : List ℕ) → b ≡ kind_byte k → Seq 0x0B (Seq e K) text → Seq e K (0x02 ∷ b ∷ text)
block_back e K b k text is s = record {
  code = block k s.code s.next.code;
  inner = (0x02 ∷ kind_byte k ∷ s.inner ++ 0x0B ∷ []) ++ s.next.inner;
  back = s.next.back;
  spelled = record { front = 0x02 ∷ kind_byte k ∷ s.inner ++ 0x0B ∷ []; back = s.next.inner; parts = refl; first = record { inner = s.inner; parts = refl; contents = s.spelled }; second = s.next.spelled };
  parts = ap (λ (n : ℕ). 0x02 ∷ n ∷ text) is ∙ ap (λ (u : List ℕ). 0x02 ∷ kind_byte k ∷ u) (s.parts ∙ ap (λ (u : List ℕ). s.inner ++ 0x0B ∷ u) s.next.parts ∙ sym (append_assoc s.inner (0x0B ∷ []) (s.next.inner ++ e ∷ s.next.back)))
      ∙ sym (append_assoc (0x02 ∷ kind_byte k ∷ s.inner ++ 0x0B ∷ []) s.next.inner (e ∷ s.next.back));
  next = s.next.next;
}

loop_on : (e : ℕ) (K : List ℕ → Type 0) (b : ℕ) (text : List ℕ) (c : Code) (inner back : List ℕ) → IsEnder e → SpellsCode c inner
    → 0x03 ∷ b ∷ text ≡ inner ++ e ∷ back → K back
    → (k : Option ValType) × (b ≡ kind_byte k) × Seq 0x0B (Seq e K) text
loop_on e K b text done inner back ee p h next = absurd (grind (arith, ee, wrong_head done inner back e 3 (b ∷ text) p h))
loop_on e K b text (one i r) inner back ee p h next = absurd (grind (arith, wrong_head (one i r) inner back e 3 (b ∷ text) p h))
loop_on e K b text (block k m r) inner back ee p h next = absurd (omega (arith, wrong_head (block k m r) inner back e 3 (b ∷ text) p h))
loop_on e K b text (branch k m o r) inner back ee p h next = absurd (omega (arith, wrong_head (branch k m o r) inner back e 3 (b ∷ text) p h))
loop_on e K b text (repeat k m r) inner back ee p h next =
    let g = behind_op 3 k (SpellsCode m) p.front text back p.back e b p.first (h ∙ ap (λ (u : List ℕ). u ++ e ∷ back) p.parts) in
    (k, g.0, record { code = m; inner = p.first.inner; back = p.back ++ e ∷ back; spelled = p.first.contents; parts = g.1; next = record { code = r; inner = p.back; back = back; spelled = p.second; parts = refl; next = next } })

loop_back : (e : ℕ) (K : List ℕ → Type 0) (b : ℕ) (k : Option ValType) (text : List ℕ) → b ≡ kind_byte k → Seq 0x0B (Seq e K) text → Seq e K (0x03 ∷ b ∷ text)
loop_back e K b k text is s = record {
  code = repeat k s.code s.next.code;
  inner = (0x03 ∷ kind_byte k ∷ s.inner ++ 0x0B ∷ []) ++ s.next.inner;
  back = s.next.back;
  spelled = record { front = 0x03 ∷ kind_byte k ∷ s.inner ++ 0x0B ∷ []; back = s.next.inner; parts = refl; first = record { inner = s.inner; parts = refl; contents = s.spelled }; second = s.next.spelled };
  parts = ap (λ (n : ℕ). 0x03 ∷ n ∷ text) is ∙ ap (λ (u : List ℕ). 0x03 ∷ kind_byte k ∷ u) (s.parts ∙ ap (λ (u : List ℕ). s.inner ++ 0x0B ∷ u) s.next.parts ∙ sym (append_assoc s.inner (0x0B ∷ []) (s.next.inner ++ e ∷ s.next.back)))
      ∙ sym (append_assoc (0x03 ∷ kind_byte k ∷ s.inner ++ 0x0B ∷ []) s.next.inner (e ∷ s.next.back));
  next = s.next.next;
}

-- ---- an if

arms_on : (e : ℕ) (K : List ℕ → Type 0) (b : ℕ) (text : List ℕ) (c : Code) (inner back : List ℕ) → IsEnder e → SpellsCode c inner
    → 0x04 ∷ b ∷ text ≡ inner ++ e ∷ back → K back
    → (k : Option ValType) × (b ≡ kind_byte k) × (Seq 0x0B (Seq e K) text ⊎ Seq 0x05 (Seq 0x0B (Seq e K)) text)
arms_on e K b text done inner back ee p h next = absurd (grind (arith, ee, wrong_head done inner back e 4 (b ∷ text) p h))
arms_on e K b text (one i r) inner back ee p h next = absurd (grind (arith, wrong_head (one i r) inner back e 4 (b ∷ text) p h))
arms_on e K b text (repeat k m r) inner back ee p h next = absurd (omega (arith, wrong_head (repeat k m r) inner back e 4 (b ∷ text) p h))
arms_on e K b text (block k m r) inner back ee p h next = absurd (omega (arith, wrong_head (block k m r) inner back e 4 (b ∷ text) p h))
arms_on e K b text (branch k m o r) inner back ee p h next =
    let whole : 0x04 ∷ b ∷ text ≡ p.front ++ (p.back ++ e ∷ back) = h ∙ ap (λ (u : List ℕ). u ++ e ∷ back) p.parts ∙ append_assoc p.front p.back (e ∷ back) in
    let goes_on : Seq e K (p.back ++ e ∷ back) = record { code = r; inner = p.back; back = back; spelled = p.second; parts = refl; next = next } in
    elim p.first.others [
      | inl l ↦
          let g : 0x04 ∷ b ∷ text ≡ 0x04 ∷ kind_byte k ∷ (p.first.yes ++ 0x0B ∷ [] ++ (p.back ++ e ∷ back)) = whole ∙ ap (λ (u : List ℕ). u ++ (p.back ++ e ∷ back)) l.0 in
          let inside : text ≡ p.first.yes ++ 0x0B ∷ [] ++ (p.back ++ e ∷ back) = cc in
          (k, cc, inl (record { code = m; inner = p.first.yes; back = p.back ++ e ∷ back; spelled = p.first.first; parts = inside ∙ append_assoc p.first.yes (0x0B ∷ []) (p.back ++ e ∷ back); next = goes_on }))
      | inr q ↦
          let g : 0x04 ∷ b ∷ text ≡ 0x04 ∷ kind_byte k ∷ (p.first.yes ++ 0x05 ∷ (q.0 ++ 0x0B ∷ []) ++ (p.back ++ e ∷ back)) = whole ∙ ap (λ (u : List ℕ). u ++ (p.back ++ e ∷ back)) q.2 in
          let inside : text ≡ p.first.yes ++ 0x05 ∷ (q.0 ++ 0x0B ∷ []) ++ (p.back ++ e ∷ back) = cc in
          let second : Seq 0x0B (Seq e K) (q.0 ++ 0x0B ∷ [] ++ (p.back ++ e ∷ back)) = record { code = o; inner = q.0; back = p.back ++ e ∷ back; spelled = q.1; parts = append_assoc q.0 (0x0B ∷ []) (p.back ++ e ∷ back); next = goes_on } in
          (k, cc, inr (record { code = m; inner = p.first.yes; back = q.0 ++ 0x0B ∷ [] ++ (p.back ++ e ∷ back); spelled = p.first.first; parts = inside ∙ append_assoc p.first.yes (0x05 ∷ (q.0 ++ 0x0B ∷ [])) (p.back ++ e ∷ back); next = second }))
    ]

arm_back : (e : ℕ) (K : List ℕ → Type 0) (b : ℕ) (k : Option ValType) (text : List ℕ) → b ≡ kind_byte k → Seq 0x0B (Seq e K) text → Seq e K (0x04 ∷ b ∷ text)
arm_back e K b k text is s = record {
  code = branch k s.code done s.next.code;
  inner = (0x04 ∷ kind_byte k ∷ s.inner ++ 0x0B ∷ []) ++ s.next.inner;
  back = s.next.back;
  spelled = record { front = 0x04 ∷ kind_byte k ∷ s.inner ++ 0x0B ∷ []; back = s.next.inner; parts = refl; first = record { yes = s.inner; first = s.spelled; others = inl (refl, refl) }; second = s.next.spelled };
  parts = ap (λ (n : ℕ). 0x04 ∷ n ∷ text) is ∙ ap (λ (u : List ℕ). 0x04 ∷ kind_byte k ∷ u) (s.parts ∙ ap (λ (u : List ℕ). s.inner ++ 0x0B ∷ u) s.next.parts ∙ sym (append_assoc s.inner (0x0B ∷ []) (s.next.inner ++ e ∷ s.next.back)))
      ∙ sym (append_assoc (0x04 ∷ kind_byte k ∷ s.inner ++ 0x0B ∷ []) s.next.inner (e ∷ s.next.back));
  next = s.next.next;
}

arms_back : (e : ℕ) (K : List ℕ → Type 0) (b : ℕ) (k : Option ValType) (text : List ℕ) → b ≡ kind_byte k → Seq 0x05 (Seq 0x0B (Seq e K)) text
    → Seq e K (0x04 ∷ b ∷ text)
arms_back e K b k text is s = let t = s.next in let u = t.next in record {
  code = branch k s.code t.code u.code;
  inner = (0x04 ∷ kind_byte k ∷ s.inner ++ 0x05 ∷ (t.inner ++ 0x0B ∷ [])) ++ u.inner;
  back = u.back;
  spelled = record { front = 0x04 ∷ kind_byte k ∷ s.inner ++ 0x05 ∷ (t.inner ++ 0x0B ∷ []); back = u.inner; parts = refl; first = record { yes = s.inner; first = s.spelled; others = inr (t.inner, t.spelled, refl) }; second = u.spelled };
  parts = ap (λ (n : ℕ). 0x04 ∷ n ∷ text) is ∙ ap (λ (v : List ℕ). 0x04 ∷ kind_byte k ∷ v) (s.parts ∙ ap (λ (v : List ℕ). s.inner ++ 0x05 ∷ v) (t.parts ∙ ap (λ (v : List ℕ). t.inner ++ 0x0B ∷ v) u.parts ∙ sym (append_assoc t.inner (0x0B ∷ []) (u.inner ++ e ∷ u.back)))
      ∙ sym (append_assoc s.inner (0x05 ∷ (t.inner ++ 0x0B ∷ [])) (u.inner ++ e ∷ u.back)))
      ∙ sym (append_assoc (0x04 ∷ kind_byte k ∷ s.inner ++ 0x05 ∷ (t.inner ++ 0x0B ∷ [])) u.inner (e ∷ u.back));
  next = u.next;
}

-- ---- an end

end_on : (e f : ℕ) (K : List ℕ → Type 0) (text : List ℕ) (c : Code) (inner back : List ℕ) → IsEnder f → SpellsCode c inner
    → f ∷ text ≡ inner ++ e ∷ back → K back → (f ≡ e) × K text
end_on e f K text done inner back ff p h next = let g : f ∷ text ≡ e ∷ back = h ∙ ap (λ (u : List ℕ). u ++ e ∷ back) p in (cc, subst K (let i : back ≡ text = cc in i) next)
end_on e f K text (one i r) inner back ff p h next = absurd (grind (arith, ff, wrong_head (one i r) inner back e f text p h))
end_on e f K text (block k m r) inner back ff p h next = absurd (grind (arith, ff, wrong_head (block k m r) inner back e f text p h))
end_on e f K text (repeat k m r) inner back ff p h next = absurd (grind (arith, ff, wrong_head (repeat k m r) inner back e f text p h))
end_on e f K text (branch k m o r) inner back ff p h next = absurd (grind (arith, ff, wrong_head (branch k m o r) inner back e f text p h))

end_back : (e : ℕ) (K : List ℕ → Type 0) (text : List ℕ) → K text → Seq e K (e ∷ text)
end_back e K text h = record { code = done; inner = []; back = text; spelled = refl; parts = refl; next = h }

-- ---- with all that is open

ender_b : IsEnder 0x0B
ender_b = inl refl

ender_5 : IsEnder 0x05
ender_5 = inr refl

pub plain_closes : (rest : List ℕ) (s : List Bool) (i : Instr) (t text : List ℕ) → SpellsPlain t i → Closes rest s (t ++ text) → Closes rest s text
plain_closes rest [] i t text p h = plain_on 0x0B _ i t text ender_b p h
plain_closes rest (false ∷ s) i t text p h = plain_on 0x0B _ i t text ender_b p h
plain_closes rest (true ∷ s) i t text p (inl h) = inl (plain_on 0x0B _ i t text ender_b p h)
plain_closes rest (true ∷ s) i t text p (inr h) = inr (plain_on 0x05 _ i t text ender_5 p h)

pub plain_closed : (rest : List ℕ) (s : List Bool) (i : Instr) (t text : List ℕ) → SpellsPlain t i → Closes rest s text → Closes rest s (t ++ text)
plain_closed rest [] i t text p h = plain_back 0x0B _ i t text p h
plain_closed rest (false ∷ s) i t text p h = plain_back 0x0B _ i t text p h
plain_closed rest (true ∷ s) i t text p (inl h) = inl (plain_back 0x0B _ i t text p h)
plain_closed rest (true ∷ s) i t text p (inr h) = inr (plain_back 0x05 _ i t text p h)

pub block_closes : (rest : List ℕ) (s : List Bool) (b : ℕ) (text : List ℕ) → Closes rest s (0x02 ∷ b ∷ text)
    → (k : Option ValType) × (b ≡ kind_byte k) × Closes rest (false ∷ s) text
block_closes rest [] b text h = block_on 0x0B _ b text h.code h.inner h.back ender_b h.spelled h.parts h.next
block_closes rest (false ∷ s) b text h = block_on 0x0B _ b text h.code h.inner h.back ender_b h.spelled h.parts h.next
block_closes rest (true ∷ s) b text (inl h) = let r = block_on 0x0B _ b text h.code h.inner h.back ender_b h.spelled h.parts h.next in (r.0, r.1, onward 0x0B _ (Closes rest (true ∷ s)) text (λ t q. inl q) r.2)
block_closes rest (true ∷ s) b text (inr h) = let r = block_on 0x05 _ b text h.code h.inner h.back ender_5 h.spelled h.parts h.next in (r.0, r.1, onward 0x0B _ (Closes rest (true ∷ s)) text (λ t q. inr q) r.2)

block_either : (rest : List ℕ) (s : List Bool) (b : ℕ) (k : Option ValType) (text : List ℕ) → b ≡ kind_byte k → (c : Code) (inner back : List ℕ)
    → SpellsCode c inner → text ≡ inner ++ 0x0B ∷ back → Closes rest (true ∷ s) back → Closes rest (true ∷ s) (0x02 ∷ b ∷ text)
block_either rest s b k text is c inner back p h (inl q) =
    inl (block_back 0x0B _ b k text is (record { code = c; inner = inner; back = back; spelled = p; parts = h; next = q }))
block_either rest s b k text is c inner back p h (inr q) =
    inr (block_back 0x05 _ b k text is (record { code = c; inner = inner; back = back; spelled = p; parts = h; next = q }))

pub block_closed : (rest : List ℕ) (s : List Bool) (b : ℕ) (k : Option ValType) (text : List ℕ) → b ≡ kind_byte k → Closes rest (false ∷ s) text
    → Closes rest s (0x02 ∷ b ∷ text)
block_closed rest [] b k text is h = block_back 0x0B _ b k text is h
block_closed rest (false ∷ s) b k text is h = block_back 0x0B _ b k text is h
block_closed rest (true ∷ s) b k text is h = block_either rest s b k text is h.code h.inner h.back h.spelled h.parts h.next

pub loop_closes : (rest : List ℕ) (s : List Bool) (b : ℕ) (text : List ℕ) → Closes rest s (0x03 ∷ b ∷ text)
    → (k : Option ValType) × (b ≡ kind_byte k) × Closes rest (false ∷ s) text
loop_closes rest [] b text h = loop_on 0x0B _ b text h.code h.inner h.back ender_b h.spelled h.parts h.next
loop_closes rest (false ∷ s) b text h = loop_on 0x0B _ b text h.code h.inner h.back ender_b h.spelled h.parts h.next
loop_closes rest (true ∷ s) b text (inl h) = let r = loop_on 0x0B _ b text h.code h.inner h.back ender_b h.spelled h.parts h.next in (r.0, r.1, onward 0x0B _ (Closes rest (true ∷ s)) text (λ t q. inl q) r.2)
loop_closes rest (true ∷ s) b text (inr h) = let r = loop_on 0x05 _ b text h.code h.inner h.back ender_5 h.spelled h.parts h.next in (r.0, r.1, onward 0x0B _ (Closes rest (true ∷ s)) text (λ t q. inr q) r.2)

loop_either : (rest : List ℕ) (s : List Bool) (b : ℕ) (k : Option ValType) (text : List ℕ) → b ≡ kind_byte k → (c : Code) (inner back : List ℕ)
    → SpellsCode c inner → text ≡ inner ++ 0x0B ∷ back → Closes rest (true ∷ s) back → Closes rest (true ∷ s) (0x03 ∷ b ∷ text)
loop_either rest s b k text is c inner back p h (inl q) =
    inl (loop_back 0x0B _ b k text is (record { code = c; inner = inner; back = back; spelled = p; parts = h; next = q }))
loop_either rest s b k text is c inner back p h (inr q) =
    inr (loop_back 0x05 _ b k text is (record { code = c; inner = inner; back = back; spelled = p; parts = h; next = q }))

pub loop_closed : (rest : List ℕ) (s : List Bool) (b : ℕ) (k : Option ValType) (text : List ℕ) → b ≡ kind_byte k → Closes rest (false ∷ s) text
    → Closes rest s (0x03 ∷ b ∷ text)
loop_closed rest [] b k text is h = loop_back 0x0B _ b k text is h
loop_closed rest (false ∷ s) b k text is h = loop_back 0x0B _ b k text is h
loop_closed rest (true ∷ s) b k text is h = loop_either rest s b k text is h.code h.inner h.back h.spelled h.parts h.next

arms_into : (rest : List ℕ) (s : List Bool) (e : ℕ) (K : List ℕ → Type 0) (text : List ℕ) → ((t : List ℕ) → Seq e K t → Closes rest s t)
    → (Seq 0x0B (Seq e K) text ⊎ Seq 0x05 (Seq 0x0B (Seq e K)) text) → Closes rest (true ∷ s) text
arms_into rest s e K text f (inl h) = inl (onward 0x0B _ _ text f h)
arms_into rest s e K text f (inr h) = inr (onward 0x05 _ _ text (λ t q. onward 0x0B _ _ t f q) h)

pub if_closes : (rest : List ℕ) (s : List Bool) (b : ℕ) (text : List ℕ) → Closes rest s (0x04 ∷ b ∷ text)
    → (k : Option ValType) × (b ≡ kind_byte k) × Closes rest (true ∷ s) text
if_closes rest [] b text h = arms_on 0x0B _ b text h.code h.inner h.back ender_b h.spelled h.parts h.next
if_closes rest (false ∷ s) b text h = arms_on 0x0B _ b text h.code h.inner h.back ender_b h.spelled h.parts h.next
if_closes rest (true ∷ s) b text (inl h) = let r = arms_on 0x0B _ b text h.code h.inner h.back ender_b h.spelled h.parts h.next in (r.0, r.1, arms_into rest (true ∷ s) 0x0B _ text (λ t q. inl q) r.2)
if_closes rest (true ∷ s) b text (inr h) = let r = arms_on 0x05 _ b text h.code h.inner h.back ender_5 h.spelled h.parts h.next in (r.0, r.1, arms_into rest (true ∷ s) 0x05 _ text (λ t q. inr q) r.2)

arm_either : (rest : List ℕ) (s : List Bool) (b : ℕ) (k : Option ValType) (text : List ℕ) → b ≡ kind_byte k → (c : Code) (inner back : List ℕ)
    → SpellsCode c inner → text ≡ inner ++ 0x0B ∷ back → Closes rest (true ∷ s) back → Closes rest (true ∷ s) (0x04 ∷ b ∷ text)
arm_either rest s b k text is c inner back p h (inl q) =
    inl (arm_back 0x0B _ b k text is (record { code = c; inner = inner; back = back; spelled = p; parts = h; next = q }))
arm_either rest s b k text is c inner back p h (inr q) =
    inr (arm_back 0x05 _ b k text is (record { code = c; inner = inner; back = back; spelled = p; parts = h; next = q }))

arms_either : (rest : List ℕ) (s : List Bool) (b : ℕ) (k : Option ValType) (text : List ℕ) → b ≡ kind_byte k → (c : Code) (inner mid : List ℕ)
    → SpellsCode c inner → text ≡ inner ++ 0x05 ∷ mid
    → (d : Code) (other back : List ℕ) → SpellsCode d other → mid ≡ other ++ 0x0B ∷ back → Closes rest (true ∷ s) back → Closes rest (true ∷ s) (0x04 ∷ b ∷ text)
arms_either rest s b k text is c inner mid p h d other back p2 h2 (inl q) = inl (arms_back 0x0B _ b k text is (record { code = c; inner = inner; back = mid; spelled = p; parts = h; next = record { code = d; inner = other; back = back; spelled = p2; parts = h2; next = q } }))
arms_either rest s b k text is c inner mid p h d other back p2 h2 (inr q) = inr (arms_back 0x05 _ b k text is (record { code = c; inner = inner; back = mid; spelled = p; parts = h; next = record { code = d; inner = other; back = back; spelled = p2; parts = h2; next = q } }))

pub if_closed : (rest : List ℕ) (s : List Bool) (b : ℕ) (k : Option ValType) (text : List ℕ) → b ≡ kind_byte k → Closes rest (true ∷ s) text
    → Closes rest s (0x04 ∷ b ∷ text)
if_closed rest [] b k text is (inl h) = arm_back 0x0B _ b k text is h
if_closed rest [] b k text is (inr h) = arms_back 0x0B _ b k text is h
if_closed rest (false ∷ s) b k text is (inl h) = arm_back 0x0B _ b k text is h
if_closed rest (false ∷ s) b k text is (inr h) = arms_back 0x0B _ b k text is h
if_closed rest (true ∷ s) b k text is (inl h) = arm_either rest s b k text is h.code h.inner h.back h.spelled h.parts h.next
if_closed rest (true ∷ s) b k text is (inr h) =
    arms_either rest s b k text is h.code h.inner h.back h.spelled h.parts h.next.code h.next.inner h.next.back h.next.spelled h.next.parts h.next.next

-- ---- ends

pub end_closes : (rest : List ℕ) (h : Bool) (s : List Bool) (text : List ℕ) → Closes rest (h ∷ s) (0x0B ∷ text) → Closes rest s text
end_closes rest false s text p = (end_on 0x0B 0x0B (Closes rest s) text p.code p.inner p.back ender_b p.spelled p.parts p.next).1
end_closes rest true s text (inl p) = (end_on 0x0B 0x0B (Closes rest s) text p.code p.inner p.back ender_b p.spelled p.parts p.next).1
end_closes rest true s text (inr p) =
    absurd (omega (arith, (end_on 0x05 0x0B (Seq 0x0B (Closes rest s)) text p.code p.inner p.back ender_b p.spelled p.parts p.next).0))

pub end_closed : (rest : List ℕ) (h : Bool) (s : List Bool) (text : List ℕ) → Closes rest s text → Closes rest (h ∷ s) (0x0B ∷ text)
end_closed rest false s text p = end_back 0x0B _ text p
end_closed rest true s text p = inl (end_back 0x0B _ text p)

pub else_closes : (rest : List ℕ) (s : List Bool) (text : List ℕ) → Closes rest (true ∷ s) (0x05 ∷ text) → Closes rest (false ∷ s) text
else_closes rest s text (inl p) = absurd (omega (arith, (end_on 0x0B 0x05 (Closes rest s) text p.code p.inner p.back ender_5 p.spelled p.parts p.next).0))
else_closes rest s text (inr p) = (end_on 0x05 0x05 (Seq 0x0B (Closes rest s)) text p.code p.inner p.back ender_5 p.spelled p.parts p.next).1

pub else_closed : (rest : List ℕ) (s : List Bool) (text : List ℕ) → Closes rest (false ∷ s) text → Closes rest (true ∷ s) (0x05 ∷ text)
else_closed rest s text p = inr (end_back 0x05 _ text p)

pub no_else : (rest : List ℕ) (text : List ℕ) → Closes rest [] (0x05 ∷ text) → ⊥
no_else rest text p = omega (arith, (end_on 0x0B 0x05 (λ back. back ≡ rest) text p.code p.inner p.back ender_5 p.spelled p.parts p.next).0)

pub no_second_else : (rest : List ℕ) (s : List Bool) (text : List ℕ) → Closes rest (false ∷ s) (0x05 ∷ text) → ⊥
no_second_else rest s text p = omega (arith, (end_on 0x0B 0x05 (Closes rest s) text p.code p.inner p.back ender_5 p.spelled p.parts p.next).0)

pub last_end : (text : List ℕ) → Closes text [] (0x0B ∷ text)
last_end text = end_back 0x0B (λ back. back ≡ text) text refl

-- nothing known stands there
none_here : (e : ℕ) (K : List ℕ → Type 0) (b : ℕ) (text : List ℕ) (c : Code) (inner back : List ℕ) → IsEnder e → b ≢ 2 → b ≢ 3 → b ≢ 4 → b ≢ 5 → b ≢ 0x0B
    → ((i : Instr) (t u : List ℕ) → b ∷ text ≡ t ++ u → SpellsPlain t i → ⊥) → SpellsCode c inner → b ∷ text ≡ inner ++ e ∷ back → ⊥
none_here e K b text done inner back ee n2 n3 n4 n5 nb none p h = elim ee [ inl q ↦ nb (wrong_head done inner back e b text p h ∙ q) | inr q ↦ n5 (wrong_head done inner back e b text p h ∙ q) ]
none_here e K b text (one i r) inner back ee n2 n3 n4 n5 nb none p h =
    none i p.front (p.back ++ e ∷ back) (h ∙ ap (λ (u : List ℕ). u ++ e ∷ back) p.parts ∙ append_assoc p.front p.back (e ∷ back)) p.first
none_here e K b text (block k m r) inner back ee n2 n3 n4 n5 nb none p h = n2 (wrong_head (block k m r) inner back e b text p h)
none_here e K b text (repeat k m r) inner back ee n2 n3 n4 n5 nb none p h = n3 (wrong_head (repeat k m r) inner back e b text p h)
none_here e K b text (branch k m o r) inner back ee n2 n3 n4 n5 nb none p h = n4 (wrong_head (branch k m o r) inner back e b text p h)

pub none_closes : (rest : List ℕ) (s : List Bool) (b : ℕ) (text : List ℕ) → b ≢ 2 → b ≢ 3 → b ≢ 4 → b ≢ 5 → b ≢ 0x0B
    → ((i : Instr) (t u : List ℕ) → b ∷ text ≡ t ++ u → SpellsPlain t i → ⊥) → Closes rest s (b ∷ text) → ⊥
none_closes rest [] b text n2 n3 n4 n5 nb none h =
    none_here 0x0B (λ back. back ≡ rest) b text h.code h.inner h.back ender_b n2 n3 n4 n5 nb none h.spelled h.parts
none_closes rest (false ∷ s) b text n2 n3 n4 n5 nb none h =
    none_here 0x0B (Closes rest s) b text h.code h.inner h.back ender_b n2 n3 n4 n5 nb none h.spelled h.parts
none_closes rest (true ∷ s) b text n2 n3 n4 n5 nb none (inl h) =
    none_here 0x0B (Closes rest s) b text h.code h.inner h.back ender_b n2 n3 n4 n5 nb none h.spelled h.parts
none_closes rest (true ∷ s) b text n2 n3 n4 n5 nb none (inr h) =
    none_here 0x05 (Closes rest s) b text h.code h.inner h.back ender_5 n2 n3 n4 n5 nb none h.spelled h.parts

-- ---- the same over the bytes

next_is : (bytes : List ℕ) (place b : ℕ) → place < length bytes → get_or bytes place 0 ≡ b → drop place bytes ≡ b ∷ drop (place + 1) bytes
next_is bytes place b lt is = next bytes place lt ∙ ap (λ (n : ℕ). n ∷ drop (place + 1) bytes) is

next_two_is : (bytes : List ℕ) (place b : ℕ) → place + 1 < length bytes → get_or bytes place 0 ≡ b
    → drop place bytes ≡ b ∷ get_or bytes (place + 1) 0 ∷ drop (place + 2) bytes
next_two_is bytes place b lt is = next_two bytes place lt ∙ ap (λ (n : ℕ). n ∷ get_or bytes (place + 1) 0 ∷ drop (place + 2) bytes) is

moved : (rest : List ℕ) (s t : List Bool) (a b : List ℕ) → s ≡ t → a ≡ b → Closes rest s a → Closes rest t b
moved rest s t a b p q h = subst (λ (l : List Bool). Closes rest l b) p (subst (λ (u : List ℕ). Closes rest s u) q h)

pub same_end : (bytes : List ℕ) (before s : List Bool) (place : ℕ) (half : Bool) → place < length bytes → get_or bytes place 0 ≡ 0x0B
    → before ≡ half ∷ s → SameTail bytes before s place (place + 1)
same_end bytes before s place half lt is e = let n = next_is bytes place 0x0B lt is in record {
  on = λ rest h. end_closes rest half s _ (moved rest before (half ∷ s) _ _ e n h);
  back = λ rest h. moved rest (half ∷ s) before _ _ (sym e) (sym n) (end_closed rest half s _ h);
  moves = omega arith;
  within = omega arith;
}

pub same_else : (bytes : List ℕ) (before after s : List Bool) (place : ℕ) → place < length bytes → get_or bytes place 0 ≡ 0x05 → before ≡ true ∷ s
    → after ≡ false ∷ s → SameTail bytes before after place (place + 1)
same_else bytes before after s place lt is e f = let n = next_is bytes place 0x05 lt is in record {
  on = λ rest h. moved rest (false ∷ s) after _ _ (sym f) refl (else_closes rest s _ (moved rest before (true ∷ s) _ _ e n h));
  back = λ rest h. moved rest (true ∷ s) before _ _ (sym e) (sym n) (else_closed rest s _ (moved rest after (false ∷ s) _ _ f refl h));
  moves = omega arith;
  within = omega arith;
}

pub bad_else : (bytes : List ℕ) (before s : List Bool) (place : ℕ) → place < length bytes → get_or bytes place 0 ≡ 0x05 → before ≡ false ∷ s
    → (rest : List ℕ) → Closes rest before (drop place bytes) → ⊥
bad_else bytes before s place lt is e rest h = no_second_else rest s _ (moved rest before (false ∷ s) _ _ e (next_is bytes place 0x05 lt is) h)

pub bad_end : (bytes : List ℕ) (before : List Bool) (place : ℕ) → place < length bytes → get_or bytes place 0 ≡ 0x05 → before ≡ [] → (rest : List ℕ)
    → Closes rest before (drop place bytes) → ⊥
bad_end bytes before place lt is e rest h = no_else rest _ (moved rest before [] _ _ e (next_is bytes place 0x05 lt is) h)

pub same_plain : (bytes : List ℕ) (s : List Bool) (place end : ℕ) (i : Instr) → place < length bytes → Stands SpellsPlain bytes place end i
    → SameTail bytes s s place end
same_plain bytes s place end i lt p = let c = head_cons (one i done) p.text p.spelled in record {
  on = λ rest h. plain_closes rest s i p.text _ p.spelled (moved rest s s _ _ refl p.here h);
  back = λ rest h. moved rest s s _ _ refl (sym p.here) (plain_closed rest s i p.text _ p.spelled h);
  moves = omega (arith, ap length p.here, ap length c.2, length-drop place bytes, length-drop end bytes, length-append p.text (drop end bytes), p.within);
  within = p.within;
}

pub bad_plain : (bytes : List ℕ) (s : List Bool) (place : ℕ) → place < length bytes → get_or bytes place 0 ≢ 2 → get_or bytes place 0 ≢ 3
    → get_or bytes place 0 ≢ 4 → get_or bytes place 0 ≢ 5 → get_or bytes place 0 ≢ 0x0B
    → NoneStands SpellsPlain bytes place → (rest : List ℕ) → Closes rest s (drop place bytes) → ⊥
bad_plain bytes s place lt n2 n3 n4 n5 nb none rest h =
    none_closes rest s _ _ n2 n3 n4 n5 nb (λ i t u e p. none t u i (next bytes place lt ∙ e) p) (moved rest s s _ _ refl (next bytes place lt) h)

pub same_open : (bytes : List ℕ) (half : Bool) (before after : List Bool) (place : ℕ) (k : Option ValType) → place + 1 < length bytes
    → Opens half (get_or bytes place 0) → get_or bytes (place + 1) 0 ≡ kind_byte k → after ≡ half ∷ before → SameTail bytes before after place (place + 2)
same_open bytes false before after place k lt (inl is) kind e = let n = next_two_is bytes place 2 lt is in record {
  on = λ rest h. moved rest (false ∷ before) after _ _ (sym e) refl (block_closes rest before _ _ (moved rest before before _ _ refl n h)).2;
  back = λ rest h. moved rest before before _ _ refl (sym n) (block_closed rest before _ k _ kind (moved rest after (false ∷ before) _ _ e refl h));
  moves = omega arith;
  within = omega arith;
}
same_open bytes false before after place k lt (inr is) kind e = let n = next_two_is bytes place 3 lt is in record {
  on = λ rest h. moved rest (false ∷ before) after _ _ (sym e) refl (loop_closes rest before _ _ (moved rest before before _ _ refl n h)).2;
  back = λ rest h. moved rest before before _ _ refl (sym n) (loop_closed rest before _ k _ kind (moved rest after (false ∷ before) _ _ e refl h));
  moves = omega arith;
  within = omega arith;
}
same_open bytes true before after place k lt is kind e = let n = next_two_is bytes place 4 lt is in record {
  on = λ rest h. moved rest (true ∷ before) after _ _ (sym e) refl (if_closes rest before _ _ (moved rest before before _ _ refl n h)).2;
  back = λ rest h. moved rest before before _ _ refl (sym n) (if_closed rest before _ k _ kind (moved rest after (true ∷ before) _ _ e refl h));
  moves = omega arith;
  within = omega arith;
}

pub bad_kind : (bytes : List ℕ) (half : Bool) (before : List Bool) (place : ℕ) → place + 1 < length bytes → Opens half (get_or bytes place 0)
    → ((k : Option ValType) → get_or bytes (place + 1) 0 ≢ kind_byte k) → (rest : List ℕ) → Closes rest before (drop place bytes) → ⊥
bad_kind bytes false before place lt (inl is) none rest h = let r = block_closes rest before _ _ (moved rest before before _ _ refl (next_two_is bytes place 2 lt is) h) in none r.0 r.1
bad_kind bytes false before place lt (inr is) none rest h = let r = loop_closes rest before _ _ (moved rest before before _ _ refl (next_two_is bytes place 3 lt is) h) in none r.0 r.1
bad_kind bytes true before place lt is none rest h = let r = if_closes rest before _ _ (moved rest before before _ _ refl (next_two_is bytes place 4 lt is) h) in none r.0 r.1

-- the beginning and the end
pub begins : (bytes : List ℕ) (place next : ℕ) → place ≤ length bytes → next ≤ length bytes → Closes (drop next bytes) [] (drop place bytes)
    → (is : List Instr) × Stands SpellsInstrs bytes place next is
begins bytes place next le within h = (
  list_of h.code,
  record {
    text = h.inner ++ 0x0B ∷ [];
    spelled = record { inner = h.inner; parts = refl; contents = subst (λ (c : Code). SpellsCode c h.inner) (sym (code_of-list_of h.code h.inner h.spelled)) h.spelled };
    here = h.parts ∙ ap (λ (u : List ℕ). h.inner ++ 0x0B ∷ u) h.next ∙ sym (append_assoc h.inner (0x0B ∷ []) (drop next bytes));
    within = within;
  },
)

pub none_begins : (bytes : List ℕ) (place : ℕ) → ((rest : List ℕ) → Closes rest [] (drop place bytes) → ⊥) → NoneStands SpellsInstrs bytes place
none_begins bytes place none text rest is here p = none rest (record { code = code_of is; inner = p.inner; back = rest; spelled = p.contents; parts = here ∙ ap (λ (u : List ℕ). u ++ rest) p.parts ∙ append_assoc p.inner (0x0B ∷ []) rest; next = refl })

-- an opening with no byte behind it
short_seq : (e : ℕ) (K : List ℕ → Type 0) (b : ℕ) (inner back : List ℕ) → b ≢ e → b ∷ [] ≡ inner ++ e ∷ back → ⊥
short_seq e K b [] back ne h = ne (ap first h)
short_seq e K b (x ∷ inner) back ne h = omega (arith, ap length h, length-append inner (e ∷ back))

short_closes : (rest : List ℕ) (s : List Bool) (b : ℕ) → b ≢ 0x0B → b ≢ 0x05 → Closes rest s (b ∷ []) → ⊥
short_closes rest [] b nb n5 h = short_seq 0x0B (λ back. back ≡ rest) b h.inner h.back nb h.parts
short_closes rest (false ∷ s) b nb n5 h = short_seq 0x0B (Closes rest s) b h.inner h.back nb h.parts
short_closes rest (true ∷ s) b nb n5 (inl h) = short_seq 0x0B (Closes rest s) b h.inner h.back nb h.parts
short_closes rest (true ∷ s) b nb n5 (inr h) = short_seq 0x05 (Closes rest s) b h.inner h.back n5 h.parts

opens_no_end : (half : Bool) (b : ℕ) → Opens half b → (b ≢ 0x0B) × (b ≢ 0x05)
opens_no_end false b (inl e) = (λ h. omega (arith, e, h), λ h. omega (arith, e, h))
opens_no_end false b (inr e) = (λ h. omega (arith, e, h), λ h. omega (arith, e, h))
opens_no_end true b e = (λ h. omega (arith, e, h), λ h. omega (arith, e, h))

pub bad_short : (bytes : List ℕ) (half : Bool) (before : List Bool) (place : ℕ) → place < length bytes → length bytes ≤ place + 1
    → Opens half (get_or bytes place 0) → (rest : List ℕ) → Closes rest before (drop place bytes) → ⊥
bad_short bytes half before place lt short opens rest h =
    let ends : drop (place + 1) bytes ≡ [] = nil_from_length (drop (place + 1) bytes) (omega (arith, length-drop (place + 1) bytes)) in
    let n = opens_no_end half (get_or bytes place 0) opens in
    short_closes rest before (get_or bytes place 0) n.0 n.1 (moved rest before before _ _ refl (next bytes place lt ∙ ap (λ (u : List ℕ). get_or bytes place 0 ∷ u) ends) h)

pub past_closes : (rest : List ℕ) (s : List Bool) → Closes rest s [] → ⊥
past_closes rest [] h = omega (arith, ap length h.parts, length-append h.inner (0x0B ∷ h.back))
past_closes rest (false ∷ s) h = omega (arith, ap length h.parts, length-append h.inner (0x0B ∷ h.back))
past_closes rest (true ∷ s) (inl h) = omega (arith, ap length h.parts, length-append h.inner (0x0B ∷ h.back))
past_closes rest (true ∷ s) (inr h) = omega (arith, ap length h.parts, length-append h.inner (0x05 ∷ h.back))

pub bad_past : (bytes : List ℕ) (s : List Bool) (place : ℕ) → length bytes ≤ place → (rest : List ℕ) → Closes rest s (drop place bytes) → ⊥
bad_past bytes s place past rest h =
    past_closes rest s (moved rest s s _ _ refl (nil_from_length (drop place bytes) (omega (arith, length-drop place bytes))) h)
