-- What was saved did not fail.
use Rattle.std.proofs.Common.{◌≡◌, ◌≤◌, le_refl, subst, sym}
use Rattle.reql_table_spec.specs.declared.reply.Saved.{Saved}
use Rattle.reql_table_spec.specs.declared.reply.Saved.TheVariants.{Yes, Failed, Memory}

abbrev is_saved : Saved → Type 0
is_saved Yes = Unit {0}
is_saved Failed = ⊥
is_saved Memory = ⊥

pub not_failed : {s : Saved} → s ≡ Yes → s ≡ Failed → ⊥
not_failed {s} saved failed = subst is_saved failed (subst is_saved (sym saved) tt)

-- a count that stays 0 never falls
pub never_falls : 0 ≤ 0
never_falls = le_refl 0
