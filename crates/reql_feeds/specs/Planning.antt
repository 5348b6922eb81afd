-- The plan of a feed, if there is one.
use Rattle.std.specs.Prelude.{◌≡◌, ℕ, List, [], ◌∷◌, ◌++◌, Option, Some, None}
use Rattle.reql_table_spec.specs.Table.{Held}
use Rattle.reql_term.specs.Views.{Document}
use Rattle.reql_write_spec.specs.Treated.{Changed}
use Rattle.reql_feeds.specs.Told.{IsAnswered}
use Rattle.reql_feeds.specs.declared.entry.Entry.{Entry}
use Rattle.reql_feeds.specs.declared.prepared.Plan.{Plan}
use Rattle.reql_feeds.specs.declared.prepared.Prepared.{Prepared}

abbrev pub plan_of : {S : Type 0} → ℕ → Option (Prepared S) → List (Plan S)
plan_of place None = []
plan_of place (Some p) = record { place = place; prepared = p } ∷ []

module _ {F S : Type 0} (held : F → Held) (fits : F → List Document → Type 0) (installs : F → S → Type 0) (brings : F → S → List Document → Type 0) (x : Changed) (after : List Document) where
  -- what the change is to the feed at a place was noted
  pub record IsNoted (place : ℕ) (e : Entry F) (was now : List (Plan S)) : Type 0 where
    pub prepared : Option (Prepared S)
    pub answered : IsAnswered held fits installs brings x after e prepared
    pub noted : now ≡ was ++ plan_of place prepared
