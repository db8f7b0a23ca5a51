-- Marks of functions whose rows may have to be made anew.
use Rattle.std.proofs.Common.{◌≡◌, ◌≢◌, ℕ, zero, suc, replicate, ◌+◌, ◌<◌, ◌≤◌, ◌⊎◌, inl, inr, ⊎_elim, List, [], ◌∷◌, Bool, true, false, cond, if◌then◌else◌}
use Rattle.std.proofs.Common.{not, length, get_or, set, take, refl, sym, ap, ◌∙◌, subst, arith, get_or-set_other}
use Rattle.std.specs.List.{Contains}
use Rattle.std.proofs.lemmas.Bool.{cases_eq}
use Rattle.std.proofs.lemmas.List.{take_more}
use Rattle.std.proofs.lemmas.List.Elements.{Contains-push_cases}
use Rattle.wasm_types.specs.declared.module.Module.{Module}
use Rattle.wasm_types.specs.Spaces.{func_types}
use Rattle.worklist.specs.Search.{IsMarked}
use Rattle.flow_domain.specs.declared.summary_table.SummaryTable.{SummaryTable}
use Rattle.summary_fix.specs.declared.rounds.Growth.{Growth}
use Rattle.summary_fix.specs.Settled.{GrowsOnly, IsApart, IsFull, IsSettled}

off_on : {A : Type 0} (b : Bool) → b ≡ false → b ≡ true → A
off_on b off on = absurd cc

-- a mark that is there without one of them
pub unset_on : (marks : List Bool) (func f : ℕ) → IsMarked (set marks func false) f → IsMarked marks f
unset_on [] func f on = on
unset_on (b ∷ marks) zero zero on = absurd cc
unset_on (b ∷ marks) zero (suc f) on = on
unset_on (b ∷ marks) (suc func) zero on = on
unset_on (b ∷ marks) (suc func) (suc f) on = unset_on marks func f on

pub settled_after : (m : Module) (t u : SummaryTable) (wanted marks after : List Bool) (func : ℕ) (grew : Growth) → IsSettled m t wanted marks
    → length u.rows.items ≡ length t.rows.items → length after ≡ length u.rows.items → IsFull m u func
    → ((f : ℕ) → IsFull m t f → IsApart m grew f func → IsFull m u f) → ((f : ℕ) → IsMarked (set marks func false) f → IsMarked after f)
    → ((f : ℕ) → IsMarked wanted f → (IsMarked after f → ⊥) → IsApart m grew f func)
    → ((f : ℕ) → IsMarked after f → IsMarked (set marks func false) f ⊎ IsMarked wanted f) → IsSettled m u wanted after
settled_after m t u wanted marks after func grew settled same long full others kept apart only = record {
  long = long;
  wanted_long = settled.wanted_long ∙ sym same;
  either = λ f fn want. by f want (settled.either f fn want) (get_or after f false) refl;
  only = λ f on. ⊎_elim (λ old. settled.only f (unset_on marks func f old)) (λ want. want) (only f on);
}
  where
    by : (f : ℕ) → IsMarked wanted f → IsFull m t f ⊎ IsMarked marks f → (b : Bool) → get_or after f false ≡ b → IsFull m u f ⊎ IsMarked after f
    by f want old true on = inr on
    by f want (inl was) false off = inl (others f was (apart f want (off_on (get_or after f false) off)))
    by f want (inr marked) false off = elim (cases_eq f func) [
      | inl e ↦ inl (subst (IsFull m u) (sym e) full)
      | inr ne ↦ off_on (get_or after f false) off (kept f (get_or-set_other marks func f false false ne ∙ marked))
    ]

pub not_on : (b : Bool) → not b ≡ true → b ≡ false
not_on true e = absurd cc
not_on false e = refl

-- where nothing grew, every function is apart
pub nothing_apart : (m : Module) (grew : Growth) (f func : ℕ) → grew.rows ≡ false → (grew.class ≡ true → grew.rows ≡ true) → IsApart m grew f func
nothing_apart m grew f func off within = (off_on grew.rows off, λ on. off_on grew.rows off (within on))

-- ---- which functions have new rows

pub grows_then : (P : ℕ → Type 0) (t u v : SummaryTable) → GrowsOnly P t u → GrowsOnly P u v → GrowsOnly P t v
grows_then P t u v first next = λ f o x row. ⊎_elim (λ was. first f o x was) inr (next f o x row)

-- one of them has
pub grows_one : (P : ℕ → Type 0) (t u v : SummaryTable) (func : ℕ) → P func → GrowsOnly P t u → GrowsOnly (λ f. f ≡ func) u v → GrowsOnly P t v
grows_one P t u v func at first next = λ f o x row. ⊎_elim (λ was. first f o x was) (λ e. inr (subst P (sym e) at)) (next f o x row)

-- ---- passes

-- none of the first so many is marked: one more
pub none_marked : (order : List ℕ) (i : ℕ) (lt : i < length order) (old new : List Bool) → ((f : ℕ) → Contains (take i order) f → IsMarked old f → ⊥)
    → ((f : ℕ) → IsMarked new f → IsMarked old f × (f ≢ get_or order i 0)) → (f : ℕ) → Contains (take (i + 1) order) f → IsMarked new f → ⊥
none_marked order i lt old new before only f there marked =
    let was = only f marked in ⊎_elim
    (λ h. before f h was.0)
    (λ e. was.1 (sym e))
    (Contains-push_cases (take i order) (get_or order i 0) f (rw (take_more order i 0 lt) at there))

-- the room after rows were added
pub grown_room : (first before after now : ℕ) (grew added grows : Bool) → before + cond grew 1 0 ≤ first → after + (if added then 1 else 0) ≤ before
    → added ≡ true → now ≡ after → grows ≡ true → now + cond grows 1 0 ≤ first
grown_room first before after now grew true true so_far less on same e = omega arith
grown_room first before after now grew true false so_far less on same e = absurd cc
grown_room first before after now grew false grows so_far less on same e = absurd cc

pub kept_room : (first before after now less : ℕ) (grew grows : Bool) → before + cond grew 1 0 ≤ first → after + less ≤ before → now ≡ after → grows ≡ grew
    → now + cond grows 1 0 ≤ first
kept_room first before after now less grew grows so_far down same e =
    let g : cond {A = ℕ} grows 1 0 ≡ cond {A = ℕ} grew 1 0 = ap {A = Bool} {B = ℕ} (λ b. cond b 1 0) e in omega arith

-- where each is wanted

marked_each : (n f : ℕ) → f < n → IsMarked (replicate n true) f
marked_each zero f lt = absurd (omega arith)
marked_each (suc n) zero lt = refl
marked_each (suc n) (suc f) lt = marked_each n f (omega arith)

pub all_full : (m : Module) (t : SummaryTable) (wanted : List Bool) (n : ℕ) → wanted ≡ replicate n true → n ≡ length (func_types m)
    → ((f : ℕ) → f < length (func_types m) → IsMarked wanted f → IsFull m t f) → (f : ℕ) → f < length (func_types m) → IsFull m t f
all_full m t wanted n each same full f fn =
    full f fn (subst (λ (marks : List Bool). IsMarked marks f) (sym each) (marked_each n f (omega (arith, same, fn))))
