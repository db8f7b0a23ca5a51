-- The modules of 1 and of 2, worked out.
use Rattle.std.proofs.Common.{◌≡◌, ℕ, [], ◌∷◌, length, refl}
use Rattle.std.specs.Prelude.{sum_by}
use Rattle.wasm_types.specs.declared.module.Body.{Body}
use Rattle.wasm_types.specs.Code.{onto}
use Rattle.wasm_types.specs.Numbers.{shortest_unsigned, shortest_signed}
use Rattle.wasm_types.specs.Canon.{canon}
use Rattle.wasm_types.specs.Sizes.{positions}
use Rattle.module_mill.specs.Mill.{mill}

all_positions : ℕ → ℕ
all_positions n = sum_by (λ (b : Body). positions b.code) (mill n).bodies

text_of_one :
    canon (mill 1)
    ≡ 0x00 ∷ 0x61 ∷ 0x73 ∷ 0x6D ∷ 0x01 ∷ 0x00 ∷ 0x00 ∷ 0x00 ∷ 0x01 ∷ 0x07 ∷ 0x01 ∷ 0x60 ∷ 0x02 ∷ 0x7F ∷ 0x7F ∷ 0x01 ∷ 0x7F ∷ 0x03 ∷ 0x02 ∷ 0x01 ∷ 0x00 ∷
    0x05 ∷ 0x03 ∷ 0x01 ∷ 0x00 ∷ 0x01 ∷ 0x06 ∷ 0x15 ∷ 0x04 ∷ 0x7F ∷ 0x01 ∷ 0x41 ∷ 0x00 ∷ 0x0B ∷ 0x7F ∷ 0x01 ∷ 0x41 ∷ 0x00 ∷ 0x0B ∷ 0x7F ∷ 0x01 ∷ 0x41 ∷
    0x00 ∷ 0x0B ∷ 0x7F ∷ 0x01 ∷ 0x41 ∷ 0x00 ∷ 0x0B ∷ 0x0A ∷ 0x12 ∷ 0x01 ∷ 0x10 ∷ 0x01 ∷ 0x01 ∷ 0x7F ∷ 0x23 ∷ 0x00 ∷ 0x20 ∷ 0x00 ∷ 0x6A ∷ 0x24 ∷ 0x00 ∷
    0x20 ∷ 0x00 ∷ 0x20 ∷ 0x01 ∷ 0x6A ∷ 0x0B ∷ []
unfolding onto shortest_unsigned shortest_signed
text_of_one = refl

positions_of_one : all_positions 1 ≡ 7
unfolding all_positions onto
positions_of_one = refl

bytes_of_two : length (canon (mill 2)) ≡ 100
unfolding onto shortest_unsigned shortest_signed
bytes_of_two = refl

positions_of_two : all_positions 2 ≡ 19
unfolding all_positions onto
positions_of_two = refl
