-- How sections stand one after another.
use Rattle.std.proofs.Common.{◌≡◌, ℕ, ◌+◌, ◌<◌, ◌≤◌, max, List, [], ◌∷◌, ◌++◌, length, get_or, drop, length-drop, length-append, refl, sym, ap, subst, ◌∙◌, append_assoc, arith}
use Rattle.wasm_types.specs.Standing.{Stands, NoneStands}
use Rattle.wasm_types.specs.Parts.{Sized}
use Rattle.wasm_types.specs.Modules.{SpellsFrame, MayFollow, InOrder, Sections}
use Rattle.text_laws.proofs.StandingLemmas.{next, each_one_more}
use Rattle.wasm_decode.specs.Frames.{Section, NextFrame}

pub frame_stands : (bytes : List ℕ) (last at end id : ℕ) (part : List ℕ) → at < length bytes → get_or bytes at 0 ≡ id → MayFollow last id
    → Stands Sized bytes (at + 1) end part → Stands (NextFrame last) bytes at end (id, part)
frame_stands bytes last at end id part lt is may s = record {
  text = id ∷ s.text;
  spelled = (record { rest = s.text; parts = refl; spelled = s.spelled }, may);
  here = next bytes at lt ∙ ap (λ (b : ℕ). b ∷ drop (at + 1) bytes) is ∙ ap (λ (t : List ℕ). id ∷ t) s.here;
  within = s.within;
}

-- what a section at a place tells
frame_opened : (bytes : List ℕ) (at : ℕ) (text rest : List ℕ) (f : Section) → at < length bytes → drop at bytes ≡ text ++ rest → (s : SpellsFrame text f)
    → (f.0 ≡ get_or bytes at 0) × (drop (at + 1) bytes ≡ s.rest ++ rest)
frame_opened bytes at text rest f lt here s =
    let e : get_or bytes at 0 ∷ drop (at + 1) bytes ≡ f.0 ∷ (s.rest ++ rest) = sym (next bytes at lt) ∙ here ∙ ap (λ (t : List ℕ). t ++ rest) s.parts in
    (cc, cc)

pub no_id : (bytes : List ℕ) (last at : ℕ) → at < length bytes → (MayFollow last (get_or bytes at 0) → ⊥) → NoneStands (NextFrame last) bytes at
no_id bytes last at lt may text rest f here s = let o = frame_opened bytes at text rest f lt here s.0 in may (subst (λ (n : ℕ). MayFollow last n) o.0 s.1)

pub no_contents : (bytes : List ℕ) (last at : ℕ) → at < length bytes → NoneStands Sized bytes (at + 1) → NoneStands (NextFrame last) bytes at
no_contents bytes last at lt none text rest f here s =
    let o = frame_opened bytes at text rest f lt here s.0 in
    none s.0.rest rest f.1 o.1 s.0.spelled

-- ---- one section more

in_order_more : (start last : ℕ) (fs : List Section) (f : Section) → InOrder start fs last → MayFollow last f.0 → InOrder start (fs ++ f ∷ []) (max last f.0)
in_order_more start last [] f h may = (subst (λ (n : ℕ). MayFollow n f.0) (sym h) may, ap (λ (n : ℕ). max n f.0) h)
in_order_more start last (g ∷ gs) f h may = (h.0, in_order_more (max start g.0) last gs f h.1 may)

pub no_sections : (bytes : List ℕ) → 8 ≤ length bytes → Stands (Sections 0) bytes 8 8 []
no_sections bytes le = record { text = []; spelled = (refl, refl); here = refl; within = le }

pub sections_more : (bytes : List ℕ) (last mid end : ℕ) (fs : List Section) (f : Section) → Stands (Sections last) bytes 8 mid fs
    → Stands (NextFrame last) bytes mid end f → Stands (Sections (max last f.0)) bytes 8 end (fs ++ f ∷ [])
sections_more bytes last mid end fs f p q = record {
  text = p.text ++ q.text;
  spelled = (each_one_more SpellsFrame p.text q.text fs f p.spelled.0 q.spelled.0, in_order_more 0 last fs f p.spelled.1 q.spelled.1);
  here = p.here ∙ ap (λ (t : List ℕ). p.text ++ t) q.here ∙ sym (append_assoc p.text q.text (drop end bytes));
  within = q.within;
}

pub frame_moves : (bytes : List ℕ) (last at end : ℕ) (f : Section) → Stands (NextFrame last) bytes at end f → at < end
frame_moves bytes last at end f s =
    let t : s.text ≡ f.0 ∷ s.spelled.0.rest = s.spelled.0.parts in
    omega (arith, ap length s.here, ap length t, length-append s.text (drop end bytes), length-drop at bytes, length-drop end bytes, s.within)
