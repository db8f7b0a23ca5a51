use Rattle.std.proofs.Common.{◌≡◌, ◌∙◌, ℕ, List, ap₂, not, nat_eq, map}
use Rattle.std.specs.List.{list_any}
use Rattle.stack_names.specs.Named.{number_of}
use Rattle.stack_names.proofs.DistinctLemmas.{put, kept}
use Rattle.stack_names.proofs.labels.add.Goals as goal

pub returns-in_ok-push-clause-found : goal.returns-in_ok-push-clause-found
returns-in_ok-push-clause-found c =
    let told : c.in-Ok.is_new ≡ not (list_any (λ k. nat_eq (number_of c.args.node) k) (map number_of c.args.found.now.items)) =
    c.in-Ok.ensures.added ∙ ap₂ {A = ℕ} {B = List ℕ} (λ n ks. not (list_any (λ k. nat_eq n k) ks)) c.number.ensures.is c.requires in
    put c.args.node c.args.found.now.items c.push.new.list.items c.in-Ok.is_new told c.if-is_new.true c.in_ok-push.ensures.ok

pub returns-else-is_new-clause-found : goal.returns-else-is_new-clause-found
returns-else-is_new-clause-found c =
    let told : c.in-Ok.is_new ≡ not (list_any (λ k. nat_eq (number_of c.args.node) k) (map number_of c.args.found.now.items)) =
    c.in-Ok.ensures.added ∙ ap₂ {A = ℕ} {B = List ℕ} (λ n ks. not (list_any (λ k. nat_eq n k) ks)) c.number.ensures.is c.requires in
    kept c.args.node c.args.found.now.items c.in-Ok.is_new told c.if-is_new.false
