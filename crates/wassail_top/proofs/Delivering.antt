-- Giving a text to a sink piece by piece.
use Rattle.std.proofs.Common.{◌≡◌, ◌+◌, ◌≤◌, ℕ, List, [], ◌++◌, length, take, sym, ap, ◌∙◌, subst, arith, append_assoc, append-nil, length-append, Result, Ok, Err, OnErr}
use Rattle.std.specs.declared.option.Option.{Option}
use Rattle.std.proofs.KnownBytes.{Appends-nil, Appends-trans}
use Rattle.std.proofs.lemmas.List.{take-append-le}
use Rattle.std.proofs.Math.Seq.{take-append-add}
use Rattle.std.specs.Io.KnownBytes.{Appends}
use Rattle.outside_io.specs.Whole.{GavePrefix}

-- The text is what the sink took, and then the rest.
pub record GivenSoFar (old new : Option (List ℕ)) (text rest : List ℕ) : Type 0 where
  pub done : List ℕ
  pub split : text ≡ done ++ rest
  pub gave : Appends old new done

pub none_given : (a : Option (List ℕ)) (text rest : List ℕ) → rest ≡ text → GivenSoFar a a text rest
none_given a text rest is = record { done = []; split = sym is; gave = Appends-nil a }

-- a piece more
pub piece_left : (a b c : Option (List ℕ)) (text rest piece now : List ℕ) → GivenSoFar a b text rest → piece ++ now ≡ rest → Appends b c piece → GivenSoFar a c text now
piece_left a b c text rest piece now so_far is gave =
    record {
      done = so_far.done ++ piece;
      split = so_far.split ∙ ap (λ l. so_far.done ++ l) (sym is) ∙ sym (append_assoc so_far.done piece now);
      gave = Appends-trans a b c so_far.done piece so_far.gave gave;
    }

-- a front of a piece, and no more
pub front_left : (a b c : Option (List ℕ)) (text rest piece now : List ℕ) → GivenSoFar a b text rest → piece ++ now ≡ rest → GavePrefix b c piece → GavePrefix a c text
front_left a b c text rest piece now so_far is front =
    let split : text ≡ so_far.done ++ (piece ++ now) = so_far.split ∙ ap (λ l. so_far.done ++ l) (sym is) in
    let same : take (length so_far.done + front.count) text ≡ so_far.done ++ take front.count piece =
    ap (take (length so_far.done + front.count)) split ∙ take-append-add so_far.done (piece ++ now) front.count ∙ ap (λ l. so_far.done ++ l) (take-append-le front.count piece now front.within) in
    record {
      count = length so_far.done + front.count;
      within = omega (arith, ap length split, length-append so_far.done (piece ++ now), length-append piece now, front.within);
      gave = subst (Appends a c) (sym same) (Appends-trans a b c so_far.done (take front.count piece) so_far.gave front.gave);
    }

-- nothing is left
pub none_left : (a b : Option (List ℕ)) (text rest : List ℕ) → GivenSoFar a b text rest → rest ≡ [] → Appends a b text
none_left a b text rest so_far none =
    subst (Appends a b) (sym (so_far.split ∙ ap (λ l. so_far.done ++ l) none ∙ append-nil so_far.done)) so_far.gave

-- what holds anyway holds on an error
pub on_err_any : {T E : Type 0} {P : Type 0} (r : Result T E) → P → OnErr r P
on_err_any (Ok x) p = tt
on_err_any (Err e) p = p
