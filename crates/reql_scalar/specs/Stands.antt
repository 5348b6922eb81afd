-- How two neighbours have to stand; for NE it is what all of them must not do.
use Rattle.std.specs.Prelude.{Bool}
use Rattle.std.specs.Ordering.{is_lt, is_le, is_gt, is_ge}
use Rattle.reql_datum.specs.Order.{order}
use Rattle.reql_datum.specs.Plain.{Plain}
use Rattle.reql_rules.specs.Types.{same}
use Rattle.reql_rules.specs.declared.words.Relate.{Relate}
use Rattle.reql_rules.specs.declared.words.Relate.TheVariants.{Eq, Ne, Lt, Le, Gt, Ge}

abbrev pub stands : Relate → Plain → Plain → Bool
stands Eq = same
stands Ne = same
stands Lt = λ u v. is_lt (order u v)
stands Le = λ u v. is_le (order u v)
stands Gt = λ u v. is_gt (order u v)
stands Ge = λ u v. is_ge (order u v)
