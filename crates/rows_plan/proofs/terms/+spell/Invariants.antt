use Rattle.std.proofs.Common.{◌+◌, ◌*◌}
use Rattle.rows_plan.proofs.terms.+spell.Given as goal

abbrev pub decreases-spell : goal.decreases-spell
decreases-spell l = 2 * l.depth

abbrev pub decreases-spell_terms : goal.decreases-spell_terms
decreases-spell_terms l = 2 * l.depth + 1

abbrev pub decreases-spell_named : goal.decreases-spell_named
decreases-spell_named l = 2 * l.depth + 1
