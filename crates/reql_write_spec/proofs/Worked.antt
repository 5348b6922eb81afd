-- The worked rows, by computing.
use Rattle.std.specs.Prelude.{refl}
use Rattle.reql_write_spec.specs.Worked.{Inserts, Updates, Replaces, Deletes, Lists}

pub inserts : Inserts
inserts = (refl, refl, refl, refl, refl, refl, refl, refl, refl, refl)

pub updates : Updates
updates = (refl, refl, refl, refl, refl, refl, refl, refl, refl)

pub replaces : Replaces
replaces = (refl, refl, refl, refl, refl)

pub deletes : Deletes
deletes = (refl, refl, refl, refl, refl)

pub lists : Lists
lists = (refl, refl, refl, refl, refl)
