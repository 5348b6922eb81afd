use Rattle.std.proofs.Common.{◌≡◌, ◌++◌, drop, map, Ok}
use Rattle.reql_datum.specs.Answer.{◌>>=◌}
use Rattle.reql_rules.specs.Lists.{each}
use Rattle.reql_term.specs.View.{form_of}
use Rattle.reql_plan_spec.specs.Feeding.{datum_at}
use Rattle.reql_plan_changes.proofs.literals.data_in.Given as goal

abbrev pub invariant-loop-term : goal.invariant-loop-term
invariant-loop-term l = each datum_at (map form_of l.terms) ≡ (each datum_at (map form_of (drop l.term-index l.terms)) >>= λ ds. Ok (l.items ++ ds))
