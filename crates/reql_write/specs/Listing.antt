-- What is listed of what a write treated.
use Rattle.std.specs.Prelude.{◌≡◌, Bool, true, codes}
use Rattle.reql_write_spec.specs.Treated.{Treated, inserted, replaced, deleted}
use Rattle.reql_write.specs.declared.listing.Labels.{Labels}

pub record AreNamed (l : Labels) : Type 0 where
  pub error : l.error ≡ codes "error"
  pub new : l.new ≡ codes "new_val"
  pub old : l.old ≡ codes "old_val"

-- each change, and all else where all is wanted
abbrev pub is_wanted : Bool → Treated → Bool
is_wanted all (inserted key new) = true
is_wanted all (replaced key old new) = true
is_wanted all (deleted key old) = true
is_wanted all t = all
