-- The worked rows, by computing.
use Rattle.std.specs.Prelude.{refl}
use Rattle.reql_table_spec.specs.Worked.{Inserted, Written, Indexed, Ordered, Followed, Queued, Pointed, Spelled, Squashed, Ended}

pub inserted : Inserted
inserted = (refl, refl, refl)

pub written : Written
written = (refl, refl, refl, refl)

pub indexed : Indexed
indexed = (refl, refl, refl, refl, refl, refl, refl, refl, refl, refl)

pub ordered : Ordered
ordered = (refl, refl, refl, refl, refl)

pub followed : Followed
followed = (refl, refl, refl, refl, refl)

pub queued : Queued
queued = (refl, refl, refl, refl, refl, refl, refl)

pub pointed : Pointed
pointed = (refl, refl, refl)

pub spelled : Spelled
spelled = (refl, refl)

pub squashed : Squashed
squashed = (refl, refl)

pub ended : Ended
ended = (refl, refl)
