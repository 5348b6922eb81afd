-- The worked rows, by computing.
use Rattle.std.specs.Prelude.{refl}
use Rattle.std.specs.Fmt.{digits}
use Rattle.reql_feed_spec.specs.Worked.{LimitsByIndex, PointsByKey, RangesAsBags, Joined, Skipped}

pub limits : LimitsByIndex
limits = (refl, refl, refl, refl, refl, refl, refl, refl, refl)

pub points : PointsByKey
points = (refl, refl, refl, refl, refl, refl, refl, refl, refl)

pub ranges : RangesAsBags
ranges = (refl, refl, refl, refl, refl, refl, refl, refl, refl, refl)

pub joined : Joined
joined = (refl, refl, refl, refl, refl)

pub skipped : Skipped
unfolding digits
skipped = refl
