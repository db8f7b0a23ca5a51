use Rattle.wasm_types.specs.Numbers.{shortest_u32}
use Rattle.wasm_types.specs.Canon.{canon_func_type, canon_limits, canon_table_type, canon_import, canon_global, canon_export, canon_elem, canon_entry, canon_segment}
use Rattle.wasm_types.specs.WellFormed.{ProperImport, ProperGlobal, ProperExport, ProperElem, ProperBody, ProperSegment}
use Rattle.text_laws.proofs.CanonLemmas.{some_u32, some_func_type, some_import, some_table_type, some_limits, some_global, some_export, some_elem, some_entry, some_segment}
use Rattle.wasm_encode.proofs.ListLemmas.{list_few, list_short, list_proper, sections_short}
use Rattle.wasm_encode.proofs.module.encode.Goals as goal

pub write_list-requires-clause-few : goal.write_list-requires-clause-few
write_list-requires-clause-few c = list_few 1 canon_func_type some_func_type _ _ c.as_slice.ensures (sections_short c.args.m.now c.requires.short).types

pub write_list-requires-clause-short : goal.write_list-requires-clause-short
write_list-requires-clause-short c = list_short 1 canon_func_type _ _ c.as_slice.ensures (sections_short c.args.m.now c.requires.short).types

pub write_list-requires-2-clause-few : goal.write_list-requires-2-clause-few
write_list-requires-2-clause-few c = list_few 2 canon_import some_import _ _ c.as_slice-2.ensures (sections_short c.args.m.now c.requires.short).imports

pub write_list-requires-2-clause-short : goal.write_list-requires-2-clause-short
write_list-requires-2-clause-short c = list_short 2 canon_import _ _ c.as_slice-2.ensures (sections_short c.args.m.now c.requires.short).imports

pub write_list-requires-2-clause-proper : goal.write_list-requires-2-clause-proper
write_list-requires-2-clause-proper c = list_proper ProperImport _ _ c.as_slice-2.ensures c.requires.well_formed.imports

pub write_list-requires-3-clause-few : goal.write_list-requires-3-clause-few
write_list-requires-3-clause-few c = list_few 3 shortest_u32 some_u32 _ _ c.as_slice-3.ensures (sections_short c.args.m.now c.requires.short).funcs

pub write_list-requires-3-clause-short : goal.write_list-requires-3-clause-short
write_list-requires-3-clause-short c = list_short 3 shortest_u32 _ _ c.as_slice-3.ensures (sections_short c.args.m.now c.requires.short).funcs

pub write_tables-requires-clause-few : goal.write_tables-requires-clause-few
write_tables-requires-clause-few c = list_few 4 canon_table_type some_table_type _ _ c.as_slice-4.ensures (sections_short c.args.m.now c.requires.short).tables

pub write_tables-requires-clause-short : goal.write_tables-requires-clause-short
write_tables-requires-clause-short c = list_short 4 canon_table_type _ _ c.as_slice-4.ensures (sections_short c.args.m.now c.requires.short).tables

pub write_list-requires-4-clause-few : goal.write_list-requires-4-clause-few
write_list-requires-4-clause-few c = list_few 5 canon_limits some_limits _ _ c.as_slice-5.ensures (sections_short c.args.m.now c.requires.short).mems

pub write_list-requires-4-clause-short : goal.write_list-requires-4-clause-short
write_list-requires-4-clause-short c = list_short 5 canon_limits _ _ c.as_slice-5.ensures (sections_short c.args.m.now c.requires.short).mems

pub write_list-requires-5-clause-few : goal.write_list-requires-5-clause-few
write_list-requires-5-clause-few c = list_few 6 canon_global some_global _ _ c.as_slice-6.ensures (sections_short c.args.m.now c.requires.short).globals

pub write_list-requires-5-clause-short : goal.write_list-requires-5-clause-short
write_list-requires-5-clause-short c = list_short 6 canon_global _ _ c.as_slice-6.ensures (sections_short c.args.m.now c.requires.short).globals

pub write_list-requires-5-clause-proper : goal.write_list-requires-5-clause-proper
write_list-requires-5-clause-proper c = list_proper ProperGlobal _ _ c.as_slice-6.ensures c.requires.well_formed.globals

pub write_list-requires-6-clause-few : goal.write_list-requires-6-clause-few
write_list-requires-6-clause-few c = list_few 7 canon_export some_export _ _ c.as_slice-7.ensures (sections_short c.args.m.now c.requires.short).exports

pub write_list-requires-6-clause-short : goal.write_list-requires-6-clause-short
write_list-requires-6-clause-short c = list_short 7 canon_export _ _ c.as_slice-7.ensures (sections_short c.args.m.now c.requires.short).exports

pub write_list-requires-6-clause-proper : goal.write_list-requires-6-clause-proper
write_list-requires-6-clause-proper c = list_proper ProperExport _ _ c.as_slice-7.ensures c.requires.well_formed.exports

pub write_list-requires-7-clause-few : goal.write_list-requires-7-clause-few
write_list-requires-7-clause-few c = list_few 9 canon_elem some_elem _ _ c.as_slice-8.ensures (sections_short c.args.m.now c.requires.short).elems

pub write_list-requires-7-clause-short : goal.write_list-requires-7-clause-short
write_list-requires-7-clause-short c = list_short 9 canon_elem _ _ c.as_slice-8.ensures (sections_short c.args.m.now c.requires.short).elems

pub write_list-requires-7-clause-proper : goal.write_list-requires-7-clause-proper
write_list-requires-7-clause-proper c = list_proper ProperElem _ _ c.as_slice-8.ensures c.requires.well_formed.elems

pub write_bodies-requires-clause-few : goal.write_bodies-requires-clause-few
write_bodies-requires-clause-few c = list_few 10 canon_entry some_entry _ _ c.as_slice-9.ensures (sections_short c.args.m.now c.requires.short).bodies

pub write_bodies-requires-clause-short : goal.write_bodies-requires-clause-short
write_bodies-requires-clause-short c = list_short 10 canon_entry _ _ c.as_slice-9.ensures (sections_short c.args.m.now c.requires.short).bodies

pub write_bodies-requires-clause-proper : goal.write_bodies-requires-clause-proper
write_bodies-requires-clause-proper c = list_proper ProperBody _ _ c.as_slice-9.ensures c.requires.well_formed.bodies

pub write_list-requires-8-clause-few : goal.write_list-requires-8-clause-few
write_list-requires-8-clause-few c = list_few 11 canon_segment some_segment _ _ c.as_slice-10.ensures (sections_short c.args.m.now c.requires.short).segments

pub write_list-requires-8-clause-short : goal.write_list-requires-8-clause-short
write_list-requires-8-clause-short c = list_short 11 canon_segment _ _ c.as_slice-10.ensures (sections_short c.args.m.now c.requires.short).segments

pub write_list-requires-8-clause-proper : goal.write_list-requires-8-clause-proper
write_list-requires-8-clause-proper c = list_proper ProperSegment _ _ c.as_slice-10.ensures c.requires.well_formed.segments

pub write_start-requires : goal.write_start-requires
write_start-requires c = (sections_short c.args.m.now c.requires.short).start

pub write_names-requires : goal.write_names-requires
write_names-requires c = (sections_short c.args.m.now c.requires.short).names
