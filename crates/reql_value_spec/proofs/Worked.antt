-- The worked rows, by computing.
use Rattle.std.proofs.Common.{refl, inl, inr}
use Rattle.reql_value_spec.specs.Short.{Holds}
use Rattle.reql_value_spec.specs.Worked.{tagging, tagging_rows, pairing, pairing_rows, grouping, grouping_rows, lacking, lacking_rows, Entered, Answers, Shaped}

pub tags : Holds tagging tagging_rows
unfolding Holds
tags = refl

pub pairs : Holds pairing pairing_rows
unfolding Holds
pairs = refl

pub groups : Holds grouping grouping_rows
unfolding Holds
groups = refl

pub lacks : Holds lacking lacking_rows
unfolding Holds
lacks = refl

pub enters : Entered
enters = refl

pub answers : Answers
answers = (refl, refl, refl, refl, refl, refl, refl, refl, refl, refl)

pub has_a_shape : Shaped
has_a_shape = inl (refl, (inr (refl, (refl, (tt, ((tt, tt), tt))), (tt, tt)), (((((refl, (tt, tt)), tt), (tt, tt)), tt), tt)), tt)
