use Rattle.std.proofs.Common.{◌<◌, ◌+◌, ◌∙◌, List, sym, ap, map, rules}
use Rattle.reql_term.specs.Views.{Document}
use Rattle.reql_table_spec.specs.Engines.{kept_of}
use Rattle.reql_table.specs.Seen.{documents_of}
use Rattle.reql_tally.specs.Views.{docs_after}
use Rattle.reql_tally.proofs.Advances.{one_more}
use Rattle.reql_tally.proofs.advancing.advanced.Goals as goal

pub loop-place-preserved : goal.loop-place-preserved
loop-place-preserved c =
    let less : c.loop-place.place < c.args.to = search rules in (
      sym (one_more (documents_of c.loop-place.now) (map kept_of c.args.changes.now) c.loop-place.place c.args.to (kept_of c.in-Some.kept.now) less c.in-Some.ensures
          ∙ ap (λ (docs : List Document). docs_after docs (map kept_of c.args.changes.now) (c.loop-place.place + 1) c.args.to) (sym c.in_ok-advance.ensures.documents)) ∙ c.loop-place.invariant.0,
      c.in_ok-advance.ensures.indexes ∙ c.loop-place.invariant.1,
    )
