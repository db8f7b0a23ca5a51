use Rattle.std.proofs.Common.{true, false}
use Rattle.wasm_types.specs.declared.instr.Instr.TheVariants as v
use Rattle.body_check.specs.Signatures.{context_of}
use Rattle.body_check.proofs.TypingLemmas.{ok-has, get-has, set-has, tee-has, global-get-has, global-set-has}
use Rattle.body_check.proofs.typing.typing.Goals as goal

pub returns-in-LocalGet : goal.returns-in-LocalGet
returns-in-LocalGet c = ok-has (context_of c.args.place.now) c.args.instr.now (v.LocalGet c.in-LocalGet.local) c.get.result false true c.of_kind.result c.in-LocalGet.is c.of_kind.ensures (λ r u. get-has (context_of c.args.place.now) c.in-LocalGet.local c.get.result r c.get.ensures u)

pub returns-in-LocalSet : goal.returns-in-LocalSet
returns-in-LocalSet c = ok-has (context_of c.args.place.now) c.args.instr.now (v.LocalSet c.in-LocalSet.local) c.get-in-LocalSet.result true false c.of_kind-in-LocalSet.result c.in-LocalSet.is c.of_kind-in-LocalSet.ensures (λ r u. set-has (context_of c.args.place.now) c.in-LocalSet.local c.get-in-LocalSet.result r c.get-in-LocalSet.ensures u)

pub returns-in-LocalTee : goal.returns-in-LocalTee
returns-in-LocalTee c = ok-has (context_of c.args.place.now) c.args.instr.now (v.LocalTee c.in-LocalTee.local) c.get-in-LocalTee.result true true c.of_kind-in-LocalTee.result c.in-LocalTee.is c.of_kind-in-LocalTee.ensures (λ r u. tee-has (context_of c.args.place.now) c.in-LocalTee.local c.get-in-LocalTee.result r c.get-in-LocalTee.ensures u)

pub returns-in-GlobalGet : goal.returns-in-GlobalGet
returns-in-GlobalGet c = ok-has (context_of c.args.place.now) c.args.instr.now (v.GlobalGet c.in-GlobalGet.global) c.global_kind.result false true c.of_kind-in-GlobalGet.result c.in-GlobalGet.is c.of_kind-in-GlobalGet.ensures (λ r u. global-get-has (context_of c.args.place.now) c.in-GlobalGet.global c.global_kind.result r c.global_kind.ensures u)

pub returns-in-GlobalSet : goal.returns-in-GlobalSet
returns-in-GlobalSet c = ok-has (context_of c.args.place.now) c.args.instr.now (v.GlobalSet c.in-GlobalSet.global) c.mutable_kind.result true false c.of_kind-in-GlobalSet.result c.in-GlobalSet.is c.of_kind-in-GlobalSet.ensures (λ r u. global-set-has (context_of c.args.place.now) c.in-GlobalSet.global c.mutable_kind.result r c.mutable_kind.ensures u)
