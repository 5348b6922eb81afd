-- A set of documents that holds what a list holds.
use Rattle.std.specs.Prelude.{◌≡◌, List, Bool, cond, not}
use Rattle.std.specs.Ordering.{on}
use Rattle.std.specs.BTreeSet.{BTreeSet, contains}
use Rattle.reql_datum.specs.Order.{order}
use Rattle.reql_datum.specs.Plain.{Plain}
use Rattle.reql_datum.specs.View.{plain}
use Rattle.reql_datum.specs.declared.datum.Datum.{Datum}
use Rattle.reql_rules.specs.Sets.{is_among}

-- the same documents are in both
pub record Holds (s : BTreeSet Datum) (vs : List Plain) : Type 0 where
  pub same : (d : Datum) → contains (on plain order) s d ≡ is_among vs (plain d)

-- whether a document stays where those are kept that a list has, or those that it lacks
abbrev pub is_kept : Bool → List Plain → Plain → Bool
is_kept among vs v = cond among (is_among vs v) (not (is_among vs v))
