-- From sequences to expressions.
use Rattle.std.proofs.Common.{◌≡◌, ◌≢◌, ℕ, ◌+◌, ◌<◌, inl, List, [], ◌∷◌, ◌++◌, length, get_or, drop, refl, sym, ap, ◌∙◌, append_assoc, arith}
use Rattle.wasm_types.specs.declared.instr.Instr.{Instr}
use Rattle.wasm_types.specs.Code.{code_of}
use Rattle.wasm_types.specs.Standing.{Stands, NoneStands}
use Rattle.wasm_types.specs.Grammar.{IsEnder, SpellsInstrs}
use Rattle.text_laws.proofs.Once.{after}
use Rattle.text_laws.proofs.StandingLemmas.{next}
use Rattle.text_laws.proofs.CodeUnique.{first, one_code}
use Rattle.code_decode.specs.Reading.{SpellsWithin}

pub expr_stands : (room : ℕ) (bytes : List ℕ) (at end : ℕ) (xs : List Instr) → Stands (SpellsWithin room) bytes at end (code_of xs)
    → end < length bytes → get_or bytes end 0 ≡ 0x0B → Stands SpellsInstrs bytes at (end + 1) xs
expr_stands room bytes at end xs s within ender = record {
  text = s.text ++ 0x0B ∷ [];
  spelled = record { inner = s.text; parts = refl; contents = s.spelled.0 };
  here = s.here ∙ ap (λ (t : List ℕ). s.text ++ t) (next bytes end within ∙ ap (λ (b : ℕ). b ∷ drop (end + 1) bytes) ender) ∙ sym (append_assoc s.text (0x0B ∷ []) (drop (end + 1) bytes));
  within = omega arith;
}

pub no_expr : (room : ℕ) (bytes : List ℕ) (at end : ℕ) (xs : List Instr) → Stands (SpellsWithin room) bytes at end (code_of xs) → end < length bytes
    → IsEnder (get_or bytes end 0) → get_or bytes end 0 ≢ 0x0B → NoneStands SpellsInstrs bytes at
no_expr room bytes at end xs s within ender other text rest ys here p =
    let both : s.text ++ get_or bytes end 0 ∷ drop (end + 1) bytes ≡ p.inner ++ 0x0B ∷ rest = ap (λ (t : List ℕ). s.text ++ t) (sym (next bytes end within)) ∙ sym s.here ∙ here ∙ ap (λ (t : List ℕ). t ++ rest) p.parts ∙ append_assoc p.inner (0x0B ∷ []) rest in
    let r = one_code (code_of xs) (code_of ys) s.text p.inner _ _ (get_or bytes end 0) 0x0B s.spelled.0 p.contents ender (inl refl) both in
    other (ap first (after s.text p.inner (get_or bytes end 0 ∷ drop (end + 1) bytes) (0x0B ∷ rest) r.1 both))
