use Rattle.std.proofs.Common.{◌-◌, length}
use Rattle.reql_simple.proofs.object.all_seem_simple.Given as goal

abbrev pub decreases-loop-term : goal.decreases-loop-term
decreases-loop-term l = length l.terms - l.place
