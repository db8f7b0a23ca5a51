use Rattle.std.proofs.Common.{rules, arith, ◌≡◌, ◌<◌, ◌≤◌, ℕ, List, Bool, length, get_or, true, false, cond, sym, ap, subst, ◌∙◌}
use Rattle.std.specs.List.{Contains}
use Rattle.std.proofs.lemmas.List.{take_all}
use Rattle.worklist.specs.Search.{IsMarked}
use Rattle.flow_domain.specs.Summaries.{table_room}
use Rattle.flow_domain.specs.declared.summary_table.SummaryTable.{SummaryTable}
use Rattle.called_rows.specs.declared.classes.TargetTable.{TargetTable}
use Rattle.called_rows.specs.Classes.{IsTargetTable}
use Rattle.summary_fix.specs.Settled.{GrowsOnly, IsSettled, IsSound}
use Rattle.summary_fix.proofs.Marking.{grown_room, grows_one, kept_room, none_marked}
use Rattle.summary_fix.proofs.rounds.pass.Goals as goal
use Rattle.summary_fix.proofs.rounds.pass.Goals.{then-marks-func+in_ok-refresh+then-branch, then-marks-func+in_ok-refresh+else-branch, else-marks-func}

pub loop-func-preserved : goal.loop-func-preserved
loop-func-preserved c =
    let m = c.args.m.now in
    let g = c.args.graph.now in
    let wanted = c.args.wanted.now in
    let order = c.args.order.now in
    let i = c.loop-func.func-index in
    let lt : i < length order = search rules in
    let func = get_or order i 0 in
    let first = c.args.table.now in
    let old = c.loop-func.invariant in
    elim c.if-marks-func.branch [
      | then-marks-func+in_ok-refresh+then-branch w ↦ record {
        sound = subst (λ (t : SummaryTable). IsSound m t) (sym w.table-is) w.in_ok-refresh.ensures.sound;
        targets = subst (λ (t : SummaryTable). IsTargetTable m g t c.if-marks-func.targets) (sym w.table-is)
            (subst (λ (u : TargetTable). IsTargetTable m g w.refresh.new.table u) (sym w.targets-is) w.in_ok-refresh.ensures.targets);
        settled = subst (λ (t : SummaryTable). IsSettled m t wanted c.if-marks-func.marks) (sym w.table-is)
            (subst (λ (ms : List Bool). IsSettled m w.refresh.new.table wanted ms) (sym w.marks-is) w.in_ok-refresh.ensures.settled);
        only = subst (λ (t : SummaryTable). GrowsOnly (IsMarked wanted) first t) (sym w.table-is)
            (grows_one (IsMarked wanted) first c.loop-func.table w.refresh.new.table func
            (old.settled.only func (let on : get_or c.loop-func.marks func false ≡ true = search rules in on)) old.only w.in_ok-refresh.ensures.only);
        room =
            grown_room (table_room c.args.table.now) (table_room c.loop-func.table) (table_room w.refresh.new.table) (table_room c.if-marks-func.table)
            c.loop-func.grew w.in_ok-refresh.field-0 c.if-marks-func.grew old.room w.in_ok-refresh.ensures.room w.if-branch.true (ap table_room w.table-is) w.grew-is;
        full = λ off. let on = w.grew-is in absurd cc;
      }
      | then-marks-func+in_ok-refresh+else-branch w ↦ record {
        sound = subst (λ (t : SummaryTable). IsSound m t) (sym w.table-is) w.in_ok-refresh.ensures.sound;
        targets = subst (λ (t : SummaryTable). IsTargetTable m g t c.if-marks-func.targets) (sym w.table-is)
            (subst (λ (u : TargetTable). IsTargetTable m g w.refresh.new.table u) (sym w.targets-is) w.in_ok-refresh.ensures.targets);
        settled = subst (λ (t : SummaryTable). IsSettled m t wanted c.if-marks-func.marks) (sym w.table-is)
            (subst (λ (ms : List Bool). IsSettled m w.refresh.new.table wanted ms) (sym w.marks-is) w.in_ok-refresh.ensures.settled);
        only = subst (λ (t : SummaryTable). GrowsOnly (IsMarked wanted) first t) (sym w.table-is)
            (grows_one (IsMarked wanted) first c.loop-func.table w.refresh.new.table func
            (old.settled.only func (let on : get_or c.loop-func.marks func false ≡ true = search rules in on)) old.only w.in_ok-refresh.ensures.only);
        room =
            kept_room (table_room c.args.table.now) (table_room c.loop-func.table) (table_room w.refresh.new.table) (table_room c.if-marks-func.table)
            (cond w.in_ok-refresh.field-0 1 0) c.loop-func.grew c.if-marks-func.grew old.room w.in_ok-refresh.ensures.room (ap table_room w.table-is) w.grew-is;
        full = λ off f there marked. none_marked order i lt c.loop-func.marks w.refresh.new.marks (old.full (sym w.grew-is ∙ off))
            (λ g h. w.in_ok-refresh.ensures.full w.if-branch.false g h) f there (subst (λ (ms : List Bool). IsMarked ms f) w.marks-is marked);
      }
      | else-marks-func w ↦ record {
        sound = subst (λ (t : SummaryTable). IsSound m t) (sym w.table-is) old.sound;
        targets = subst (λ (t : SummaryTable). IsTargetTable m g t c.if-marks-func.targets) (sym w.table-is)
            (subst (λ (u : TargetTable). IsTargetTable m g c.loop-func.table u) (sym w.targets-is) old.targets);
        settled = subst (λ (t : SummaryTable). IsSettled m t wanted c.if-marks-func.marks) (sym w.table-is)
            (subst (λ (ms : List Bool). IsSettled m c.loop-func.table wanted ms) (sym w.marks-is) old.settled);
        only = subst (λ (t : SummaryTable). GrowsOnly (IsMarked wanted) first t) (sym w.table-is) old.only;
        room =
            kept_room (table_room c.args.table.now) (table_room c.loop-func.table) (table_room c.loop-func.table) (table_room c.if-marks-func.table) 0
            c.loop-func.grew c.if-marks-func.grew old.room (omega arith) (ap table_room w.table-is) w.grew-is;
        full = λ off f there marked. none_marked order i lt c.loop-func.marks c.loop-func.marks (old.full (sym w.grew-is ∙ off))
            (λ g h. (
              h,
              λ e. let off2 : get_or c.loop-func.marks (get_or order i 0) false ≡ false = search rules in
                  let on : get_or c.loop-func.marks (get_or order i 0) false ≡ true = subst (λ n. IsMarked c.loop-func.marks n) e h in absurd cc,
            ))
            f there (subst (λ (ms : List Bool). IsMarked ms f) w.marks-is marked);
      }
    ]

pub returns-clause-full : goal.returns-clause-full
returns-clause-full c = λ off f there.
    let order = c.args.order.now in
    let past : length order ≤ c.loop-func.func-index = search rules in
    c.loop-func.invariant.full off f (subst (λ (xs : List ℕ). Contains xs f) (sym (take_all c.loop-func.func-index order past)) there)
