-- The values of a module that are made of others, whose texts stand one after another.
use Rattle.std.proofs.Common.{◌≡◌, ℕ, List, [], ◌∷◌, ◌++◌, ◌<◌, ◌^◌, refl, sym, ap, subst, ◌∙◌}
use Rattle.std.specs.Prelude.{All, IsUtf8}
use Rattle.wasm_types.specs.declared.module.ValType.{ValType}
use Rattle.wasm_types.specs.declared.module.LocalRun.{LocalRun}
use Rattle.wasm_types.specs.declared.instr.Instr.{Instr}
use Rattle.wasm_types.specs.Parts.{Both, Counted, Sized}
use Rattle.wasm_types.specs.Types.{SpellsValType, SpellsFuncType}
use Rattle.wasm_types.specs.Grammar.{SpellsInstrs}
use Rattle.wasm_types.specs.Sections.{SpellsName, SpellsRun, SpellsBody, local_count}
use Rattle.wasm_decode.specs.Depth.{IsShallow, IsShallowBody}
use Rattle.wasm_decode.specs.Entries.{Rule, Any, IsByte, Makes, SpellsLocals}

-- a value that is known by its parts, and spelled as they are
pub made_of_parts : {A B : Type 0} (P : Rule A) (S : A → Type 0) (T : B → Type 0) (parts : B → A) → ((v : A) → (w : B) × (v ≡ parts w))
    → ((w : B) → S (parts w) → T w) → ((w : B) → T w → S (parts w)) → Makes P S (λ text w. P text (parts w)) T (λ v w. v ≡ parts w)
made_of_parts {A} P S T parts whole shallow deep = record {
  on = λ text v w is p. subst (λ (u : A). P text u) is p;
  back = λ text w q. (parts w, refl, q);
  shallow = λ v w is s. shallow w (subst S is s);
  deep = λ v not_so. let w = whole v in (w.0, w.1, λ t. not_so (subst S (sym w.1) (deep w.0 t)));
}

pub func_type_makes : Makes (Both IsByte (Both (Counted SpellsValType) (Counted SpellsValType))) (λ v. Any v.0 × (All Any v.1.0 × All Any v.1.1))
    SpellsFuncType Any (λ v f. (v.0 ≡ 0x60) × (v.1 ≡ (f.params, f.results)))
func_type_makes = record {
  on = λ text v f is p. record {
    rest = p.back;
    parts = p.parts ∙ ap (λ (t : List ℕ). t ++ p.back) (p.first ∙ ap (λ (b : ℕ). b ∷ []) is.0);
    spelled = subst (λ (u : List ValType × List ValType). Both (Counted SpellsValType) (Counted SpellsValType) p.back u) is.1 p.second;
  };
  back = λ text f q. (
    (0x60, (f.params, f.results)),
    (refl, refl),
    record {
      front = 0x60 ∷ [];
      back = q.rest;
      parts = q.parts;
      first = refl;
      second = q.spelled;
    },
  );
  shallow = λ v f is s. tt;
  deep = λ v not_so. absurd (not_so (tt, (λ k d lt. tt, λ k d lt. tt)));
}

pub name_makes : Makes Sized Any SpellsName Any (λ bytes n. (bytes ≡ n.bytes) × IsUtf8 n.bytes)
name_makes = record {
  on = λ text v n is p. (subst (Sized text) is.0 p, is.1);
  back = λ text n q. (n.bytes, (refl, q.1), q.0);
  shallow = λ v n is s. tt;
  deep = λ v not_so. absurd (not_so tt);
}

pub locals_makes : Makes (Counted SpellsRun) (All Any) SpellsLocals Any (λ v runs. (v ≡ runs) × (local_count runs < 2 ^ 32))
locals_makes = record {
  on = λ text v runs is p. (subst (Counted SpellsRun text) is.0 p, is.1);
  back = λ text runs q. (runs, (refl, q.1), q.0);
  shallow = λ v runs is s. tt;
  deep = λ v not_so. absurd (not_so (λ k d lt. tt));
}

pub body_makes : Makes (Both SpellsLocals SpellsInstrs) (λ v. Any v.0 × IsShallow v.1) SpellsBody IsShallowBody (λ v b. v ≡ (b.locals, b.code))
body_makes = record {
  on = λ text v b is p.
      let q : Both SpellsLocals SpellsInstrs text (b.locals, b.code) = subst (λ (u : List LocalRun × List Instr). Both SpellsLocals SpellsInstrs text u) is p in
      (record { front = q.front; back = q.back; parts = q.parts; first = q.first.0; second = q.second }, q.first.1);
  back = λ text b q. ((b.locals, b.code), refl, record { front = q.0.front; back = q.0.back; parts = q.0.parts; first = (q.0.first, q.1); second = q.0.second });
  shallow = λ v b is s. subst (λ (u : List LocalRun × List Instr). IsShallow u.1) is s.1;
  deep = λ v not_so. (record { locals = v.0; code = v.1 }, refl, λ t. not_so (tt, t));
}
