-- What a feed is that was opened, and what stays of a table's trees when its indexes change.
use Rattle.std.specs.Prelude.{◌≡◌, ◌<◌, ◌≤◌, ℕ, List, Option, Some, None}
use Rattle.std.specs.List.{AllByRecursion}
use Rattle.reql_term.specs.Views.{Document, Index}
use Rattle.reql_rules.specs.Lists.{Bytes}
use Rattle.reql_table.specs.Seen.{Standing, Numbered, documents_of, indexes_of, numbered_of, next_of}
use Rattle.reql_table_spec.specs.Table.{Held, held, feeding}
use Rattle.reql_table_spec.specs.declared.command.FeedSpec.{FeedSpec}
use Rattle.reql_opening.specs.declared.opening.Opened.{Opened}

module _ {F : Type 0} (held_in : F → Held) (fits : F → List Document → Type 0) (reads : F → Standing → Type 0) where
  -- the feed is the one of its request, and at this table
  pub record IsOpened (spec : FeedSpec) (table : Standing) (o : Opened F) : Type 0 where
    pub keeps : held (indexes_of table) spec ≡ Some (held_in o.feed)
    pub opening : o.opening ≡ (feeding 0).opening (held_in o.feed) (documents_of table)
    pub stands : fits o.feed (documents_of table)
    pub finds : reads o.feed table

  -- none where its index isn't there
  abbrev pub Opens : FeedSpec → Standing → Option (Opened F) → Type 0
  Opens spec table None = held (indexes_of table) spec ≡ None
  Opens spec table (Some o) = IsOpened spec table o

-- each index whose tree has this number is this one
abbrev pub IsOnly : ℕ → Index → List (Bytes × Numbered) → Type 0
IsOnly n i = AllByRecursion (λ (m : Bytes × Numbered). m.1.0 ≡ n → m.1.1 ≡ i)

-- the trees that a table has are those of another, or have gone
pub record Follows (t u : Standing) : Type 0 where
  pub next : next_of t ≤ next_of u
  pub trees : (n : ℕ) (i : Index) → n < next_of t → IsOnly n i (numbered_of t) → IsOnly n i (numbered_of u)
