use Rattle.std.proofs.Common.{◌≡◌, ◌++◌, ◌∷◌, ◌-◌, drop, length}
use Rattle.reql_term.specs.View.{form_of}
use Rattle.reql_plan_context.proofs.settling.in_front.Given as goal

abbrev pub decreases-loop-term : goal.decreases-loop-term
decreases-loop-term l = length l.others - l.place

abbrev pub invariant-loop-term : goal.invariant-loop-term
invariant-loop-term l = l.list ++ drop l.place l.others ≡ form_of l.fn.first ∷ l.others
