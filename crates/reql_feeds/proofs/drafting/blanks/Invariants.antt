use Rattle.reql_feeds.proofs.Blanks.{Blanks}
use Rattle.reql_feeds.proofs.drafting.blanks.Given as goal

abbrev pub invariant-loop-entry : goal.invariant-loop-entry
invariant-loop-entry g l = Blanks l.shadows.items l._entry-index
