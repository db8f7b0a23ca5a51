use Rattle.leb_codec.proofs.write.write_i32_bits.Given as goal

abbrev pub ghost-write_signed : goal.ghost-write_signed
ghost-write_signed a = (8, 4)
