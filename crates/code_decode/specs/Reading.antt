-- What readers answer.
use Rattle.std.specs.Prelude.{◌≡◌, ℕ, ◌+◌, ◌≤◌, ◌<◌, List, ◌∷◌, ◌++◌, length, drop, Result, Ok, Err, Option, Some, None, slice_index}
use Rattle.wasm_types.specs.declared.module.ValType.{ValType}
use Rattle.wasm_types.specs.declared.instr.Instr.{Instr}
use Rattle.wasm_types.specs.Code.{Code, done, onto, code_of, nest}
use Rattle.wasm_types.specs.Standing.{Stands, NoneStands}
use Rattle.wasm_types.specs.Grammar.{SpellsCode, Encloses, IsEnder}
use Rattle.code_decode.specs.declared.outcome.Stop.{Stop}
use Rattle.code_decode.specs.declared.outcome.Stop.TheVariants as stop

-- what stands at the place, and the place after it, or that nothing does; want of memory says nothing
abbrev pub ReadsOr : {A : Type 0} → (List ℕ → A → Type 0) → List ℕ → ℕ → Result (A × ℕ) Stop → Type 0
ReadsOr Spelled bytes start (Ok found) = Stands Spelled bytes start found.1 found.0
ReadsOr Spelled bytes start (Err stop.No) = NoneStands Spelled bytes start
ReadsOr Spelled bytes start (Err stop.Memory) = Unit {0}

-- the place after what stands at the place, or that nothing does
abbrev pub Skips : {A : Type 0} → (List ℕ → A → Type 0) → List ℕ → ℕ → Option ℕ → Type 0
Skips {A} Spelled bytes start (Some end) = (v : A) × Stands Spelled bytes start end v
Skips Spelled bytes start None = NoneStands Spelled bytes start

-- no byte 0 stands at the place
abbrev pub NoZero : List ℕ → ℕ → Type 0
NoZero bytes at = (rest : List ℕ) → drop at bytes ≡ 0 ∷ rest → ⊥

-- ---- sequences of instructions

-- a sequence that nests at most so deep
abbrev pub SpellsWithin : ℕ → List ℕ → Code → Type 0
SpellsWithin room text code = SpellsCode code text × (nest code ≤ room)

-- no sequence stands at the place with an end behind it
abbrev pub NoCode : ℕ → List ℕ → ℕ → Type 0
NoCode room bytes start = (text rest : List ℕ) (code : Code) (ender : ℕ) → drop start bytes ≡ text ++ ender ∷ rest → IsEnder ender → SpellsWithin room text code → ⊥

abbrev pub ReadsCode : ℕ → List ℕ → ℕ → Result (List Instr × ℕ) Stop → Type 0
ReadsCode room bytes start (Ok found) =
    Stands (SpellsWithin room) bytes start found.1 (code_of found.0) × (found.1 < length bytes) × IsEnder (slice_index bytes found.1)
ReadsCode room bytes start (Err stop.No) = NoCode room bytes start
ReadsCode room bytes start (Err stop.Memory) = Unit {0}

-- no sequence but the empty one stands at the place
abbrev pub NoInstr : ℕ → List ℕ → ℕ → Type 0
NoInstr room bytes start = (text rest : List ℕ) (code : Code) → drop start bytes ≡ text ++ rest → SpellsWithin room text code → code ≡ done

abbrev pub ReadsInstr : ℕ → List ℕ → ℕ → Result (Instr × ℕ) Stop → Type 0
ReadsInstr room bytes start (Ok found) = Stands (SpellsWithin room) bytes start found.1 (onto found.0 done)
ReadsInstr room bytes start (Err stop.No) = NoInstr room bytes start
ReadsInstr room bytes start (Err stop.Memory) = Unit {0}

-- a block, its type and its contents
abbrev pub EnclosedText : ℕ → ℕ → List ℕ → Option ValType × Code → Type 0
EnclosedText opcode room text found = Encloses opcode found.0 (SpellsCode found.1) text × (nest found.1 + 1 ≤ room)

abbrev pub ReadsEnclosed : ℕ → ℕ → List ℕ → ℕ → Result (Option ValType × List Instr × ℕ) Stop → Type 0
ReadsEnclosed opcode room bytes start (Ok found) = Stands (EnclosedText opcode room) bytes start found.2 (found.0, code_of found.1)
ReadsEnclosed opcode room bytes start (Err stop.No) = NoneStands (EnclosedText opcode room) bytes start
ReadsEnclosed opcode room bytes start (Err stop.Memory) = Unit {0}
