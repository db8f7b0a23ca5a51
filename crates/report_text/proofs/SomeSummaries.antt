-- The text of summaries of two small modules.
use Rattle.std.proofs.Common.{◌≡◌, ℕ, Bool, true, false, List, [], ◌∷◌, ◌++◌, Some, None, codes, decimal, refl, lit<}
use Rattle.std.proofs.lemmas.Fmt.{decimal_digit}
use Rattle.wasm_types.specs.declared.module.ValType.TheVariants.{I32}
use Rattle.wasm_types.specs.declared.module.FuncType.{FuncType}
use Rattle.wasm_types.specs.declared.module.GlobalType.{GlobalType}
use Rattle.wasm_types.specs.declared.module.ImportKind.TheVariants as import
use Rattle.wasm_types.specs.declared.module.Module.{Module}
use Rattle.flow_domain.specs.declared.summary.Input.{Input}
use Rattle.flow_domain.specs.declared.summary.Input.TheVariants as inp
use Rattle.flow_domain.specs.declared.summary.Output.{Output as Asked}
use Rattle.flow_domain.specs.declared.summary.Output.TheVariants as out
use Rattle.report_text.specs.SummaryTexts.{summary_lines}

zero_text : decimal 0 ≡ codes "0"
zero_text = decimal_digit 0 (lit< tt)

one_text : decimal 1 ≡ codes "1"
one_text = decimal_digit 1 (lit< tt)

-- ---- a global that can be set, and a function of one parameter that may set it

abbrev taking : FuncType
taking = record { params = I32 ∷ []; results = [] }

abbrev counter : GlobalType
counter = record { kind = I32; mutable = true }

abbrev setter : Module
setter = record {
  types = taking ∷ [];
  imports = [];
  funcs = 0 ∷ [];
  tables = [];
  mems = [];
  globals = record { kind = counter; init = [] } ∷ [];
  exports = [];
  start = None;
  elems = [];
  bodies = record { locals = []; code = [] } ∷ [];
  segments = [];
  names = None;
}

abbrev sets : Asked → Input → Bool
sets (out.Global k) (inp.Param j) = true
sets (out.Global k) (inp.Global j) = true
sets o i = false

setter_text : summary_lines setter (λ f. sets) None ≡ codes "f 0 g0 <- p0 g0\nf 0 done <-\n"
setter_text = rw zero_text refl

-- ---- an imported function, a memory, and a global of each kind

abbrev giving : FuncType
giving = record { params = I32 ∷ I32 ∷ []; results = I32 ∷ [] }

abbrev fixed : GlobalType
fixed = record { kind = I32; mutable = false }

abbrev caller : Module
caller = record setter {
  types = giving ∷ taking ∷ [];
  imports = record { «module» = record { bytes = [] }; name = record { bytes = [] }; kind = import.Func 0 } ∷ [];
  funcs = 1 ∷ [];
  mems = record { min = 1; max = None } ∷ [];
  globals = record { kind = fixed; init = [] } ∷ record { kind = counter; init = [] } ∷ [];
}

-- each output but the last depends on each input
abbrev mixes : Asked → Input → Bool
mixes out.Done i = false
mixes o i = true

abbrev caller_lines : List ℕ
caller_lines =
    codes "f 0 result <- p0 p1 g0 g1 mem size host\nf 0 g1 <- p0 p1 g0 g1 mem size host\nf 0 mem <- p0 p1 g0 g1 mem size host\n"
    ++ codes "f 0 size <- p0 p1 g0 g1 mem size host\nf 0 host <- p0 p1 g0 g1 mem size host\nf 0 done <-\n"

caller_text : summary_lines caller (λ f. mixes) (Some 0) ≡ caller_lines
caller_text = rw (zero_text, one_text) refl

-- a function that isn't there has no lines
none_text : summary_lines caller (λ f. mixes) (Some 2) ≡ []
none_text = refl
