use Rattle.std.proofs.Common.{Ok, None, arith}
use Rattle.wasm_decode.proofs.ContentsLemmas.{at_id, section_custom, section_start, section_listed, types_listed, imports_listed, funcs_listed, tables_listed, mems_listed, globals_listed, exports_listed, elems_listed, bodies_listed, segments_listed}
use Rattle.wasm_decode.proofs.contents.read_section.Goals as goal

pub returns-in_ok-read_custom-in-0 : goal.returns-in_ok-read_custom-in-0
returns-in_ok-read_custom-in-0 c = at_id 0 c.args.id c.args.text.now c.args.into.now _ (Ok None) c.in-0.is (section_custom c.args.text.now c.args.into.now
    c.read_custom.new.names c.in_ok-read_custom-in-0.ensures)

pub returns-in-Some : goal.returns-in-Some
returns-in-Some c = at_id 8 c.args.id c.args.text.now c.args.into.now _ (Ok None) c.in-8.is (section_start c.args.text.now c.args.into.now c.in-Some.func
    c.in-Some.ensures)

pub returns-in-1 : goal.returns-in-1
returns-in-1 c = section_listed types_listed c.args.id c.args.text.now c.args.into.now c.keep.new.list c.keep.result c.in-1.is c.keep.ensures

pub returns-in-2 : goal.returns-in-2
returns-in-2 c = section_listed imports_listed c.args.id c.args.text.now c.args.into.now c.keep-in-2.new.list c.keep-in-2.result c.in-2.is c.keep-in-2.ensures

pub returns-in-3 : goal.returns-in-3
returns-in-3 c = section_listed funcs_listed c.args.id c.args.text.now c.args.into.now c.keep-in-3.new.list c.keep-in-3.result c.in-3.is c.keep-in-3.ensures

pub returns-in-4 : goal.returns-in-4
returns-in-4 c = section_listed tables_listed c.args.id c.args.text.now c.args.into.now c.keep-in-4.new.list c.keep-in-4.result c.in-4.is c.keep-in-4.ensures

pub returns-in-5 : goal.returns-in-5
returns-in-5 c = section_listed mems_listed c.args.id c.args.text.now c.args.into.now c.keep-in-5.new.list c.keep-in-5.result c.in-5.is c.keep-in-5.ensures

pub returns-in-6 : goal.returns-in-6
returns-in-6 c = section_listed globals_listed c.args.id c.args.text.now c.args.into.now c.keep-in-6.new.list c.keep-in-6.result c.in-6.is c.keep-in-6.ensures

pub returns-in-7 : goal.returns-in-7
returns-in-7 c = section_listed exports_listed c.args.id c.args.text.now c.args.into.now c.keep-in-7.new.list c.keep-in-7.result c.in-7.is c.keep-in-7.ensures

pub returns-in-9 : goal.returns-in-9
returns-in-9 c = section_listed elems_listed c.args.id c.args.text.now c.args.into.now c.keep-in-9.new.list c.keep-in-9.result c.in-9.is c.keep-in-9.ensures

pub returns-in-10 : goal.returns-in-10
returns-in-10 c = section_listed bodies_listed c.args.id c.args.text.now c.args.into.now c.keep-in-10.new.list c.keep-in-10.result c.in-10.is
    c.keep-in-10.ensures

pub returns-in_default : goal.returns-in_default
returns-in_default c = section_listed segments_listed c.args.id c.args.text.now c.args.into.now c.keep-in_default.new.list c.keep-in_default.result
    (omega arith) c.keep-in_default.ensures
