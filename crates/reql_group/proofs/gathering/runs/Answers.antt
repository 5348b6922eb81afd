use Rattle.std.proofs.Common.{◌≡◌, ◌+◌, ◌∷◌, ◌∙◌, sym, Some, rules, drop, map, ap}
use Rattle.std.proofs.lemmas.Option.{slice_get-get_or}
use Rattle.reql_datum.proofs.Walks.{rest_at}
use Rattle.reql_datum.specs.View.{plain}
use Rattle.reql_rules.specs.Grouping.{gather}
use Rattle.reql_group.specs.Seen.{pair_seen}
use Rattle.reql_group.proofs.Runs.{gathers_from}
use Rattle.reql_group.proofs.gathering.runs.Goals as goal

pub loop-pair-init : goal.loop-pair-init
loop-pair-init c =
    rw (c.new-groups.ensures, c.new.ensures)
    (gathers_from c.args.pairs.now c.first-item.result (plain c.in_ok-copy.field-0) c.in-len1-up.len_at_least c.first-item.is (ap plain c.in_ok-copy.ensures) c.requires.rising)

pub loop-pair-preserved : goal.loop-pair-preserved
loop-pair-preserved c =
    let here : drop c.loop-pair.pair-index c.args.pairs.now ≡ c.pair-item.result ∷ drop (c.loop-pair.pair-index + 1) c.args.pairs.now =
    rest_at c.args.pairs.now c.loop-pair.pair-index c.pair-item.result (slice_get-get_or c.args.pairs.now c.loop-pair.pair-index c.pair-item.result (search rules) ∙ ap Some (sym c.pair-item.is)) in
    c.in_ok-add.ensures (map pair_seen (drop (c.loop-pair.pair-index + 1) c.args.pairs.now)) (gather (map pair_seen c.args.pairs.now)) (rw here at c.loop-pair.invariant)
