use Rattle.std.proofs.Common.{◌∙◌, sym}
use Rattle.reql_core.proofs.Indexed.{drop_passed}
use Rattle.reql_core.proofs.live.LiveTable.drop_index.Goals as goal

pub returns-clause-does : goal.returns-clause-does
returns-clause-does g c =
    rw c.pass_over.ensures.now (drop_passed g.F.Following.held c.args.by c.args.self.now c.args.name.now (sym c.has_index.ensures ∙ c.if-has_index.false) (sym c.is_shut.ensures ∙ c.if-is_shut.false) c.requires.room c.pass_over.ensures.stamp)
