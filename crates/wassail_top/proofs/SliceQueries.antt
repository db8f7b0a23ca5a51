-- What it says that a slice isn't refused.
use Rattle.std.proofs.Common.{◌≡◌, ℕ, Bool, true, false, List, Option, Some, None, refl, nat_lt, slice_get}
use Rattle.std.specs.Prelude.{if◌then◌else◌, option_and_then}
use Rattle.wasm_types.specs.declared.module.Module.{Module}
use Rattle.wasm_types.specs.Sites.{Site}
use Rattle.wasm_types.specs.Spaces.{body_of, import_count, type_of_func}
use Rattle.flow_domain.specs.Sliced.{func_count}
use Rattle.slice_whole.specs.declared.slicing.SliceRefusal.{SliceRefusal}
use Rattle.slice_whole.specs.declared.slicing.SliceRefusal.TheVariants as cause
use Rattle.slice_whole.specs.Slices.{count_in, is_exported, or_else, sites_in, why_no_code, why_no_position, why_no_site, why_not, why_taken}
use Rattle.wassail_top.specs.Queries.{why_no_slice}
use Rattle.wassail_top.specs.Refusals.{why_not_sliced}

-- a refused allocation is no cause
abbrev IsCause : Option SliceRefusal → Type 0
IsCause o = o ≡ Some cause.Memory → ⊥

either : (a b : Option SliceRefusal) → IsCause a → IsCause b → IsCause (or_else a b)
either None b p q e = q e
either (Some why) b p q e = p e

code : (p q : Bool) (f : ℕ) → IsCause (if p then (if q then Some (cause.Imported f) else None) else Some cause.NoFunction)
code true true f e = absurd cc
code true false f e = absurd cc
code false q f e = absurd cc

position : (p : Bool) (n : ℕ) → IsCause (if p then None else Some (cause.NoInstruction n))
position true n e = absurd cc
position false n e = absurd cc

site : (i : ℕ) (o : Option (Option Site)) → IsCause (why_no_site i o)
site i None e = absurd cc
site i (Some None) e = absurd cc
site i (Some (Some s)) e = absurd cc

taken : (p : Bool) → IsCause (why_taken p)
taken true e = absurd cc
taken false e = absurd cc

is_cause : (m : Module) (f i : ℕ) (name : List ℕ) → IsCause (why_not m f i name)
is_cause m f i name =
    let s = slice_get (sites_in m i (type_of_func m f) (body_of m f)) i in
    let t = is_exported m.exports name in
    either (why_no_code m f) _ (code (nat_lt f (func_count m)) (nat_lt f (import_count m)) f)
    (either (why_no_position (count_in (body_of m f)) i) _ (position (nat_lt i (count_in (body_of m f))) (count_in (body_of m f)))
    (either (why_no_site i s) (why_taken t) (site i s) (taken t)))

of_cause : (f i : ℕ) (o : Option SliceRefusal) → IsCause o → option_and_then (why_not_sliced f i) o ≡ None → o ≡ None
of_cause f i None is e = refl
of_cause f i (Some cause.NoFunction) is e = absurd cc
of_cause f i (Some (cause.Imported g)) is e = absurd cc
of_cause f i (Some (cause.NoInstruction n)) is e = absurd cc
of_cause f i (Some (cause.Dead p)) is e = absurd cc
of_cause f i (Some cause.NameTaken) is e = absurd cc
of_cause f i (Some cause.Memory) is e = absurd (is refl)

pub not_sliced_none : (m : Module) (f i : ℕ) (name : List ℕ) → why_no_slice m f i name ≡ None → why_not m f i name ≡ None
not_sliced_none m f i name e = of_cause f i (why_not m f i name) (is_cause m f i name) e
