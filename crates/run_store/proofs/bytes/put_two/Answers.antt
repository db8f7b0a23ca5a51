use Rattle.std.proofs.Common.{◌≡◌, ℕ, ◌+◌, ◌/◌, ◌%◌, List, get_or, set, ◌∙◌, ap}
use Rattle.wasm_meaning.specs.Memory.{bytes_of}
use Rattle.run_store.proofs.Ranges.{all_bytes, sets_two}
use Rattle.run_store.proofs.bytes.put_two.Goals as goal

pub returns : goal.returns
returns c =
    let xs = c.args.bytes.now in
    let low : c.to_le_bytes-low.result ≡ bytes_of 8 c.args.number = c.to_le_bytes-low.ensures ∙ all_bytes c.args.number in
    ap (λ (l : List ℕ). set (set xs c.args.at (get_or l 0 0)) (c.args.at + 1) (get_or l 1 0)) low
    ∙ sets_two c.args.at (c.args.number % 256) (c.args.number / 256 % 256) xs c.requires
