-- What the calls on integers answer, in the terms of the operations (WebAssembly Core Specification 1.0, section 4.3.2).
use Rattle.std.specs.Prelude.{ℕ, ◌%◌, ◌^◌, Result, Ok, Err}
use Rattle.wasm_types.specs.declared.ops.Width.{Width}
use Rattle.wasm_types.specs.declared.run.Reason.{Reason}
use Rattle.wasm_meaning.specs.Operations.{Made, Makes, Traps, bits_of}

-- the number of this width that an operation makes, or why it traps
abbrev pub answer_of : Width → Made → Result ℕ Reason
answer_of w (Makes n) = Ok (n % 2 ^ bits_of w)
answer_of _ (Traps reason) = Err reason
