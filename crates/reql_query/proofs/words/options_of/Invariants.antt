use Rattle.reql_query.specs.Words.{IsRight}
use Rattle.reql_query.proofs.words.options_of.Given as goal

abbrev pub invariant-loop : goal.invariant-loop
invariant-loop l = IsRight l.said
