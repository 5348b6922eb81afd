use Rattle.std.proofs.Common.{map, subst, ap, arith}
use Rattle.std.specs.Prelude.{slice_index_or}
use Rattle.reql_table_spec.specs.Limits.{usual_limits}
use Rattle.reql_core.specs.Core.{state_of}
use Rattle.reql_open_feed.specs.Open.{held_in}
use Rattle.reql_load.specs.Script.{script_of}
use Rattle.reql_tally.specs.Tallied.{Tallies}
use Rattle.reql_loading.specs.Loading.{ServedWhole}
use Rattle.reql_loading.proofs.loading.report.Goals as goal

pub tally_history-requires : goal.tally_history-requires
tally_history-requires c = omega (arith, ap (λ l. l.tail) c.usual-limits.ensures)

pub returns-in_ok-lines-in-Some : goal.returns-in_ok-lines-in-Some
returns-in_ok-lines-in-Some c =
    let found = c.in_ok-tally.field-0 in
    record {
      whole = λ session ms lt. subst (λ ws. ServedWhole (script_of c.args.seed c.args.size session) (slice_index_or (map (λ w. w.ended.items) ws) session ms)) c.deref.ensures.value (c.in_ok-are_whole.ensures c.if-not-branch.false session ms lt);
      tally = c.in-Some.tally;
      counted = λ f. subst (λ t. Tallies usual_limits.feeds usual_limits.tail (slice_index_or c.args.many.now.hall.slots 0 f).engine.tail (state_of held_in (slice_index_or c.args.many.now.hall.slots 0 f).engine) t) c.in-Some.is
          (subst (λ e. Tallies usual_limits.feeds usual_limits.tail e.tail (state_of held_in e) found) (c.engine.ensures f) (subst (λ l. Tallies l.feeds l.tail c.engine.result.now.tail (state_of held_in c.engine.result.now) found) c.usual-limits.ensures c.in_ok-tally.ensures));
      printed = c.in_ok-lines-in-Some.ensures;
    }
