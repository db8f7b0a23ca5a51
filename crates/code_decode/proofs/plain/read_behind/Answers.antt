use Rattle.std.proofs.Common.{◌≡◌, get_or, sym, ◌∙◌, ap, subst, rules}
use Rattle.std.specs.Prelude.{Some}
use Rattle.std.specs.Int.{w32, w64, cast_unsigned}
use Rattle.wasm_types.specs.Numbers.{SpellsU32, SpellsI32, SpellsI64}
use Rattle.wasm_types.specs.Plain.{number, signature, signed_32, signed_64, raw_32, raw_64, bulk, SpellsAddress, SpellsSignature, SpellsRaw32, SpellsRaw64, SpellsBulk}
use Rattle.opcode_table.specs.declared.instructions.Following.TheVariants as kind
use Rattle.code_decode.proofs.PlainLemmas.{at_kind, made, bare_stands, not_read, not_made, not_bare, number_kind, signature_kind, address_kind, address_tag, raw_32_kind, raw_64_kind, bulk_kind, tag_32, signed_32_kind, tag_64, signed_64_kind, memory_stands, not_memory, not_of_memory}
use Rattle.code_decode.proofs.plain.read_behind.Goals as goal

pub returns-in_default : goal.returns-in_default
returns-in_default c =
    not_bare c.args.bytes.now c.args.at c.requires.within (at_kind _ c.args.follows kind.Nothing c.in-Nothing.is c.requires.known) c.in_default.ensures

pub returns-in-Some : goal.returns-in-Some
returns-in-Some c =
    bare_stands c.args.bytes.now c.args.at c.in-Some.instr c.requires.within c.in-Some.ensures

pub returns-in_default-read_u32 : goal.returns-in_default-read_u32
returns-in_default-read_u32 c =
    not_read SpellsU32 number kind.Number c.args.bytes.now c.args.at number_kind c.requires.within (at_kind _ c.args.follows kind.Number c.in-Number.is c.requires.known) c.in_default-read_u32.ensures

pub returns-in_default-with_number : goal.returns-in_default-with_number
returns-in_default-with_number c =
    not_made SpellsU32 number kind.Number c.args.bytes.now c.args.at c.in-Some-read_u32.end c.in-Some-read_u32.x number_kind c.requires.within (at_kind _ c.args.follows kind.Number c.in-Number.is c.requires.known)
    c.in-Some-read_u32.ensures c.in_default-with_number.ensures

pub returns-in-Some-with_number : goal.returns-in-Some-with_number
returns-in-Some-with_number c =
    made SpellsU32 number kind.Number c.args.bytes.now c.args.at c.in-Some-read_u32.end c.in-Some-with_number.instr c.in-Some-read_u32.x number_kind c.requires.within
    c.in-Some-with_number.ensures c.in-Some-read_u32.ensures

pub returns-in_default-read_signature : goal.returns-in_default-read_signature
returns-in_default-read_signature c =
    not_read SpellsSignature signature kind.Signature c.args.bytes.now c.args.at signature_kind c.requires.within (at_kind _ c.args.follows kind.Signature c.in-Signature.is c.requires.known) c.in_default-read_signature.ensures

pub returns-in_default-with_signature : goal.returns-in_default-with_signature
returns-in_default-with_signature c =
    not_made SpellsSignature signature kind.Signature c.args.bytes.now c.args.at c.in-Some-read_signature.end c.in-Some-read_signature.kind signature_kind c.requires.within (at_kind _ c.args.follows kind.Signature c.in-Signature.is c.requires.known)
    c.in-Some-read_signature.ensures c.in_default-with_signature.ensures

pub returns-in-Some-with_signature : goal.returns-in-Some-with_signature
returns-in-Some-with_signature c =
    made SpellsSignature signature kind.Signature c.args.bytes.now c.args.at c.in-Some-read_signature.end c.in-Some-with_signature.instr c.in-Some-read_signature.kind signature_kind c.requires.within
    c.in-Some-with_signature.ensures c.in-Some-read_signature.ensures

pub returns-in_default-read_address : goal.returns-in_default-read_address
returns-in_default-read_address c =
    not_read SpellsAddress address_tag kind.Address c.args.bytes.now c.args.at address_kind c.requires.within (at_kind _ c.args.follows kind.Address c.in-Address.is c.requires.known) c.in_default-read_address.ensures

pub returns-in_default-with_address : goal.returns-in_default-with_address
returns-in_default-with_address c =
    not_made SpellsAddress address_tag kind.Address c.args.bytes.now c.args.at c.in-Some-read_address.end c.in-Some-read_address.place address_kind c.requires.within (at_kind _ c.args.follows kind.Address c.in-Address.is c.requires.known)
    c.in-Some-read_address.ensures c.in_default-with_address.ensures

pub returns-in-Some-with_address : goal.returns-in-Some-with_address
returns-in-Some-with_address c =
    made SpellsAddress address_tag kind.Address c.args.bytes.now c.args.at c.in-Some-read_address.end c.in-Some-with_address.instr c.in-Some-read_address.place address_kind c.requires.within
    c.in-Some-with_address.ensures c.in-Some-read_address.ensures

pub returns-in_default-read_raw_32 : goal.returns-in_default-read_raw_32
returns-in_default-read_raw_32 c =
    not_read SpellsRaw32 raw_32 kind.Raw32 c.args.bytes.now c.args.at raw_32_kind c.requires.within (at_kind _ c.args.follows kind.Raw32 c.in-Raw32.is c.requires.known) c.in_default-read_raw_32.ensures

pub returns-in_default-with_raw_32 : goal.returns-in_default-with_raw_32
returns-in_default-with_raw_32 c =
    not_made SpellsRaw32 raw_32 kind.Raw32 c.args.bytes.now c.args.at c.in-Some-read_raw_32.end c.in-Some-read_raw_32.value raw_32_kind c.requires.within (at_kind _ c.args.follows kind.Raw32 c.in-Raw32.is c.requires.known)
    c.in-Some-read_raw_32.ensures c.in_default-with_raw_32.ensures

pub returns-in-Some-with_raw_32 : goal.returns-in-Some-with_raw_32
returns-in-Some-with_raw_32 c =
    made SpellsRaw32 raw_32 kind.Raw32 c.args.bytes.now c.args.at c.in-Some-read_raw_32.end c.in-Some-with_raw_32.instr c.in-Some-read_raw_32.value raw_32_kind c.requires.within
    c.in-Some-with_raw_32.ensures c.in-Some-read_raw_32.ensures

pub returns-in_default-read_raw_64 : goal.returns-in_default-read_raw_64
returns-in_default-read_raw_64 c =
    not_read SpellsRaw64 raw_64 kind.Raw64 c.args.bytes.now c.args.at raw_64_kind c.requires.within (at_kind _ c.args.follows kind.Raw64 c.in-Raw64.is c.requires.known) c.in_default-read_raw_64.ensures

pub returns-in_default-with_raw_64 : goal.returns-in_default-with_raw_64
returns-in_default-with_raw_64 c =
    not_made SpellsRaw64 raw_64 kind.Raw64 c.args.bytes.now c.args.at c.in-Some-read_raw_64.end c.in-Some-read_raw_64.value raw_64_kind c.requires.within (at_kind _ c.args.follows kind.Raw64 c.in-Raw64.is c.requires.known)
    c.in-Some-read_raw_64.ensures c.in_default-with_raw_64.ensures

pub returns-in-Some-with_raw_64 : goal.returns-in-Some-with_raw_64
returns-in-Some-with_raw_64 c =
    made SpellsRaw64 raw_64 kind.Raw64 c.args.bytes.now c.args.at c.in-Some-read_raw_64.end c.in-Some-with_raw_64.instr c.in-Some-read_raw_64.value raw_64_kind c.requires.within
    c.in-Some-with_raw_64.ensures c.in-Some-read_raw_64.ensures

pub returns-in_default-read_bulk : goal.returns-in_default-read_bulk
returns-in_default-read_bulk c =
    not_read SpellsBulk bulk kind.Bulk c.args.bytes.now c.args.at bulk_kind c.requires.within (at_kind _ c.args.follows kind.Bulk c.in-Bulk.is c.requires.known) c.in_default-read_bulk.ensures

pub returns-in_default-with_bulk : goal.returns-in_default-with_bulk
returns-in_default-with_bulk c =
    not_made SpellsBulk bulk kind.Bulk c.args.bytes.now c.args.at c.in-Some-read_bulk.end c.in-Some-read_bulk.which bulk_kind c.requires.within (at_kind _ c.args.follows kind.Bulk c.in-Bulk.is c.requires.known)
    c.in-Some-read_bulk.ensures c.in_default-with_bulk.ensures

pub returns-in-Some-with_bulk : goal.returns-in-Some-with_bulk
returns-in-Some-with_bulk c =
    made SpellsBulk bulk kind.Bulk c.args.bytes.now c.args.at c.in-Some-read_bulk.end c.in-Some-with_bulk.instr c.in-Some-read_bulk.which bulk_kind c.requires.within
    c.in-Some-with_bulk.ensures c.in-Some-read_bulk.ensures

pub returns-in_default-read_s32 : goal.returns-in_default-read_s32
returns-in_default-read_s32 c =
    not_read SpellsI32 tag_32 kind.Signed32 c.args.bytes.now c.args.at signed_32_kind c.requires.within (at_kind _ c.args.follows kind.Signed32 c.in-Signed32.is c.requires.known) c.in_default-read_s32.ensures

pub returns-in_default-with_signed_32 : goal.returns-in_default-with_signed_32
returns-in_default-with_signed_32 c =
    let value : c.cast_unsigned.result ≡ cast_unsigned w32 c.in-Some-read_s32.value = search (rules, c.cast_unsigned.ensures) in
    not_made SpellsI32 tag_32 kind.Signed32 c.args.bytes.now c.args.at c.in-Some-read_s32.end c.in-Some-read_s32.value signed_32_kind c.requires.within (at_kind _ c.args.follows kind.Signed32 c.in-Signed32.is c.requires.known)
    c.in-Some-read_s32.ensures (λ i m. c.in_default-with_signed_32.ensures i (m.0, m.1 ∙ ap signed_32 (sym value)))

pub returns-in-Some-with_signed_32 : goal.returns-in-Some-with_signed_32
returns-in-Some-with_signed_32 c =
    let value : c.cast_unsigned.result ≡ cast_unsigned w32 c.in-Some-read_s32.value = search (rules, c.cast_unsigned.ensures) in
    made SpellsI32 tag_32 kind.Signed32 c.args.bytes.now c.args.at c.in-Some-read_s32.end c.in-Some-with_signed_32.instr c.in-Some-read_s32.value signed_32_kind c.requires.within
    (c.in-Some-with_signed_32.ensures.0, c.in-Some-with_signed_32.ensures.1 ∙ ap signed_32 value) c.in-Some-read_s32.ensures

pub returns-in_default-read_s64 : goal.returns-in_default-read_s64
returns-in_default-read_s64 c =
    not_read SpellsI64 tag_64 kind.Signed64 c.args.bytes.now c.args.at signed_64_kind c.requires.within (at_kind _ c.args.follows kind.Signed64 c.in-Signed64.is c.requires.known) c.in_default-read_s64.ensures

pub returns-in_default-with_signed_64 : goal.returns-in_default-with_signed_64
returns-in_default-with_signed_64 c =
    let value : c.cast_unsigned-in-Signed64.result ≡ cast_unsigned w64 c.in-Some-read_s64.value = search (rules, c.cast_unsigned-in-Signed64.ensures) in
    not_made SpellsI64 tag_64 kind.Signed64 c.args.bytes.now c.args.at c.in-Some-read_s64.end c.in-Some-read_s64.value signed_64_kind c.requires.within (at_kind _ c.args.follows kind.Signed64 c.in-Signed64.is c.requires.known)
    c.in-Some-read_s64.ensures (λ i m. c.in_default-with_signed_64.ensures i (m.0, m.1 ∙ ap signed_64 (sym value)))

pub returns-in-Some-with_signed_64 : goal.returns-in-Some-with_signed_64
returns-in-Some-with_signed_64 c =
    let value : c.cast_unsigned-in-Signed64.result ≡ cast_unsigned w64 c.in-Some-read_s64.value = search (rules, c.cast_unsigned-in-Signed64.ensures) in
    made SpellsI64 tag_64 kind.Signed64 c.args.bytes.now c.args.at c.in-Some-read_s64.end c.in-Some-with_signed_64.instr c.in-Some-read_s64.value signed_64_kind c.requires.within
    (c.in-Some-with_signed_64.ensures.0, c.in-Some-with_signed_64.ensures.1 ∙ ap signed_64 value) c.in-Some-read_s64.ensures

pub returns-in_default-read_zero : goal.returns-in_default-read_zero
returns-in_default-read_zero c =
    not_memory c.args.bytes.now c.args.at c.requires.within (at_kind _ c.args.follows kind.Memory c.in-Memory.is c.requires.known) c.in_default-read_zero.ensures

pub returns-in_default-with_memory : goal.returns-in_default-with_memory
returns-in_default-with_memory c =
    not_of_memory c.args.bytes.now c.args.at c.requires.within (at_kind _ c.args.follows kind.Memory c.in-Memory.is c.requires.known) c.in_default-with_memory.ensures

pub returns-in-Some-with_memory : goal.returns-in-Some-with_memory
returns-in-Some-with_memory c =
    memory_stands c.args.bytes.now c.args.at c.in-Some-read_zero.end c.in-Some-with_memory.instr c.requires.within c.in-Some-with_memory.ensures
    c.in-Some-read_zero.ensures
