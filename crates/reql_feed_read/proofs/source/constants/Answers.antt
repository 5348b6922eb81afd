use Rattle.std.proofs.Common.{drop}
use Rattle.reql_datum.specs.View.{plain}
use Rattle.reql_table_spec.specs.Followed.{closed_value}
use Rattle.reql_rules.specs.Lists.{each}
use Rattle.reql_term.specs.View.{form_of}
use Rattle.reql_feed_read.proofs.Constants.{constant_more}
use Rattle.reql_feed_read.proofs.source.constants.Goals as goal

pub loop-term-preserved : goal.loop-term-preserved
loop-term-preserved c =
    constant_more c.args.args.now c.loop-term.place (form_of c.in-Some.term.now) (each closed_value (drop 1 c.args.args.now)) c.loop-term.keys (plain c.in_ok-key.key) c.push.new.self c.loop-term.invariant c.in-Some.ensures.rest
    c.in_ok-key.ensures c.in_ok-push.ensures.items
