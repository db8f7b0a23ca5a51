use Rattle.std.proofs.Common.{◌≡◌, ℕ, ◌+◌, ◌/◌, ◌%◌, List, get_or, set, ◌∙◌, ap}
use Rattle.wasm_meaning.specs.Memory.{bytes_of}
use Rattle.run_store.proofs.Ranges.{all_bytes, sets_four}
use Rattle.run_store.proofs.bytes.put_four.Goals as goal

pub returns : goal.returns
returns c =
    let xs = c.args.bytes.now in
    let low : c.to_le_bytes-low.result ≡ bytes_of 8 c.args.number = c.to_le_bytes-low.ensures ∙ all_bytes c.args.number in
    let at = c.args.at in
    ap (λ (l : List ℕ). set (set (set (set xs at (get_or l 0 0)) (at + 1) (get_or l 1 0)) (at + 2) (get_or l 2 0)) (at + 3) (get_or l 3 0)) low
    ∙ sets_four c.args.at (c.args.number % 256) (c.args.number / 256 % 256) (c.args.number / 256 / 256 % 256) (c.args.number / 256 / 256 / 256 % 256) xs c.requires
