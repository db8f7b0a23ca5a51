use Rattle.std.proofs.Common.{◌∙◌, append-nil, refl}
use Rattle.wassail_top.proofs.Delivering.{front_left, none_given, none_left, on_err_any, piece_left}
use Rattle.wassail_top.proofs.deliver.write_text.Goals as goal

pub returns-in_err-write_all-clause-failed : goal.returns-in_err-write_all-clause-failed
returns-in_err-write_all-clause-failed g c =
    on_err_any c.from_residual.result (front_left _ _ _ _ _ _ _ (none_given _ _ _ (c.take_text.ensures ∙ c.rest-rest.ensures)) refl c.in_err-write_all.ensures.failed)

pub returns-then-is_over-clause-ok : goal.returns-then-is_over-clause-ok
returns-then-is_over-clause-ok g c =
    none_left _ _ _ _ (piece_left _ _ _ _ _ _ _ (none_given _ _ _ (c.take_text.ensures ∙ c.rest-rest.ensures)) refl c.in_ok-write_all.ensures.ok) c.if-is_over.ensures.over

pub returns-in_err-write_rest-clause-failed : goal.returns-in_err-write_rest-clause-failed
returns-in_err-write_rest-clause-failed g c =
    on_err_any c.from_residual-in_err-write_rest.result
    (front_left _ _ _ _ _ _ _ (piece_left _ _ _ _ _ _ _ (none_given _ _ _ (c.take_text.ensures ∙ c.rest-rest.ensures)) refl c.in_ok-write_all.ensures.ok) (append-nil _) c.in_err-write_rest.ensures.failed)

pub returns-clause-ok : goal.returns-clause-ok
returns-clause-ok g c =
    none_left _ _ _ _
    (piece_left _ _ _ _ _ _ _ (piece_left _ _ _ _ _ _ _ (none_given _ _ _ (c.take_text.ensures ∙ c.rest-rest.ensures)) refl c.in_ok-write_all.ensures.ok) (append-nil _) c.in_ok-write_rest.ensures.ok) refl
