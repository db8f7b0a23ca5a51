use Rattle.std.proofs.Common.{rules, ◌≡◌, ◌++◌, ◌∷◌, ◌+◌, ◌*◌, [], ◌∙◌, sym, subst, List, ℕ, length, take, drop}
use Rattle.std.specs.Prelude.{◌-◌}
use Rattle.run_words.specs.Words.{hex_bytes}
use Rattle.run_words.proofs.Joined.{and_bytes, byte_more}
use Rattle.run_words.proofs.replies.parse_bytes.Goals as goal

pub loop-rest-preserved : goal.loop-rest-preserved
loop-rest-preserved c =
    let more = byte_more c.loop-rest.bytes c.args.text.now c.loop-rest.rest.now c.in-Some-Some.high c.in-Some-Some.low c.in-len2-up.len_at_least
    (sym c.hex_value.ensures ∙ c.in-Some-Some.is-0) (sym c.hex_value-in-len2-up.ensures ∙ c.in-Some-Some.is-1) c.loop-rest.invariant in
    let pushed : c.push.new.self ≡ c.loop-rest.bytes ++ (16 * c.in-Some-Some.high + c.in-Some-Some.low) ∷ [] = search rules in
    subst (λ (bs : List ℕ). and_bytes bs (hex_bytes (take (length c.loop-rest.rest.now - 2) (drop 2 c.loop-rest.rest.now))) ≡ hex_bytes c.args.text.now)
    (sym pushed) more
