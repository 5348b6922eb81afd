use Rattle.std.proofs.Common.{sym, ◌∙◌}
use Rattle.reql_datum.specs.View.{plain}
use Rattle.reql_ptree.specs.Seen.{pair_seen}
use Rattle.reql_table.proofs.Steps.{end_passed, one_passed}
use Rattle.reql_table.proofs.walk.next_inside.Goals as goal

pub returns-then-is_past : goal.returns-then-is_past
returns-then-is_past c =
    end_passed (plain c.args.at.now) (plain c.args.slice.now.high) c.args.past c.args.slice.now.high_open (pair_seen (c.in-Some.key, c.in-Some.document)) c.args.slice.now.tree.now
    c.requires.rising c.in-Some.ensures.found (sym c.is_past.ensures ∙ c.if-is_past.true)

pub returns-else-is_past : goal.returns-else-is_past
returns-else-is_past c =
    one_passed (plain c.args.at.now) (plain c.args.slice.now.high) c.args.past c.args.slice.now.high_open (pair_seen (c.in-Some.key, c.in-Some.document)) c.args.slice.now.tree.now
    c.requires.rising c.in-Some.ensures.found (sym c.is_past.ensures ∙ c.if-is_past.false)
