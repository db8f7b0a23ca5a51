use Rattle.std.proofs.Common.{◌≡◌, true, Some, All, length, map, option_to_list, sym, ap, ◌∙◌, subst}
use Rattle.std.specs.List.{list_all}
use Rattle.std.specs.Option.{option_copied}
use Rattle.wasm_types.specs.declared.module.Module.{Module}
use Rattle.wasm_types.specs.declared.module.FuncType.{FuncType}
use Rattle.wasm_types.specs.Spaces.{type_of_func}
use Rattle.wasm_types.specs.Hosts.{bytes_fit}
use Rattle.wasm_meaning.specs.Operations.{number_of}
use Rattle.wasm_meaning.specs.HostCalls.{bytes_after, host_results}
use Rattle.wasm_meaning.proofs.Values.{some_same, none_some}
use Rattle.run_store.specs.Fits.{fits_import}
use Rattle.ref_interp.specs.World.{World, Writable, world_of, globals_written}
use Rattle.ref_interp.proofs.HostWrites.{is_host, fit_globals, fit_bytes, answers}
use Rattle.ref_interp.proofs.host.call_host.Goals as goal
use Rattle.ref_interp.proofs.host.call_host.Goals.{in-Some-func_type, in-None}

pub write_globals-requires : goal.write_globals-requires
write_globals-requires c =
    let gs = c.args.inst.now.globals.items in
    let fits : fits_import c.args.m.now c.args.func c.in-Some.reply.now c.args.inst.now.store.pages ≡ true =
    ap (fits_import c.args.m.now c.args.func c.in-Some.reply.now) (sym c.pages.ensures.same) ∙ sym c.if-not-fits.ensures in
    subst (All (Writable gs)) (sym c.as_slice-2.ensures)
    (fit_globals c.args.m.now c.args.func c.in-Some.reply.now c.args.inst.now.store.pages gs fits c.requires.globals)

pub write_bytes-requires : goal.write_bytes-requires
write_bytes-requires c =
    let fits : fits_import c.args.m.now c.args.func c.in-Some.reply.now c.args.inst.now.store.pages ≡ true =
    ap (fits_import c.args.m.now c.args.func c.in-Some.reply.now) (sym c.pages.ensures.same) ∙ sym c.if-not-fits.ensures in
    subst (λ ws. list_all (bytes_fit true (length c.args.inst.now.store.bytes)) ws ≡ true) (sym c.as_slice-3.ensures)
    (fit_bytes c.args.m.now c.args.func c.in-Some.reply.now c.args.inst.now.store.pages (length c.args.inst.now.store.bytes) fits c.pages.ensures.paged.long)

pub returns-clause-answer : goal.returns-clause-answer
returns-clause-answer c = λ H is.
    let m = c.args.m.now in
    let r = c.in-Some.reply.now in
    let w : World = world_of c.args.inst.now in
    let fits : fits_import m c.args.func r c.args.inst.now.store.pages ≡ true = ap (fits_import m c.args.func r) (sym c.pages.ensures.same)
    ∙ sym c.if-not-fits.ensures in
    let kind : option_copied c.func_type.result ≡ Some H.kind = c.func_type.ensures ∙ ap (λ (z : Module). type_of_func z c.args.func) c.module.ensures.same
    ∙ (is_host m c.args.func H is).kind in
    let number : option_to_list c.match-func_type.number ≡ map number_of (host_results H.kind.results r.result) = elim c.match-func_type.branch [
      | in-Some-func_type b ↦ (
          let at : b.in-Some-func_type.kind.now ≡ H.kind = some_same (ap option_copied (sym b.in-Some-func_type.is) ∙ kind) in
          ap option_to_list b.number-is ∙ b.result_number-number.ensures
          ∙ ap (λ ts. map number_of (host_results ts r.result)) (b.as_slice.ensures ∙ ap (λ (F : FuncType). F.results) at))
      | in-None b ↦ none_some (ap option_copied (sym b.in-None.is) ∙ kind)
    ] in
    answers m c.args.func H w r c.match-func_type.number c.write_globals.new.globals.items c.write_bytes.new.store c.advance-2.new.self is fits
    c.in-Some.ensures.reply c.requires.globals number
    (c.write_globals.ensures ∙ ap (λ ws. globals_written ws w.globals) c.as_slice-2.ensures)
    (c.write_bytes.ensures ∙ ap (λ ws. record w.memory { bytes = bytes_after ws w.memory.bytes }) c.as_slice-3.ensures)
    c.advance-2.ensures
