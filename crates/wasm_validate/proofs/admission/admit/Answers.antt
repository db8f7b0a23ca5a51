use Rattle.wasm_validate.proofs.AdmissionLemmas.{sealed_module}
use Rattle.wasm_validate.proofs.admission.admit.Goals as goal

pub seal-requires : goal.seal-requires
seal-requires c =
    sealed_module c.args.m c.requires.well_formed c.requires.entries c.requires.nesting c.in_default-first_float.ensures c.in_default-first_over.ensures (rw c.in-Ok-None.field-0-is at c.in-Ok-None.ensures)
