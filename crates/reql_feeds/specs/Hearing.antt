-- What becomes of the shadow of a feed when what was prepared of it is put into effect.
use Rattle.std.specs.Prelude.{◌≡◌, ℕ, List, ◌++◌, map}
use Rattle.reql_datum.specs.Plain.{Plain}
use Rattle.reql_datum.specs.View.{plain}
use Rattle.reql_table_spec.specs.Table.{Held}
use Rattle.reql_table_machine_spec.specs.Feeds.{Feed}
use Rattle.reql_term.specs.Views.{Document}
use Rattle.reql_feeds.specs.Ahead.{Pending, next_kept}
use Rattle.reql_feeds.specs.Told.{stamped}
use Rattle.reql_feeds.specs.declared.prepared.Prepared.{Prepared}

module _ {F S T : Type 0} (held : F → Held) (fits : F → List Document → Type 0) (brings : F → S → List Document → Type 0) (reads : F → T → Type 0) where
  pub record Hears (f : Feed F Plain) (p : Pending F) (r : Prepared S) (stamp : ℕ) (q : Pending F) : Type 0 where
    pub items : q.items ≡ p.items ++ stamped stamp (map plain r.items)
    pub brought : (docs : List Document) → brings (next_kept f p) r.step docs → fits (next_kept f q) docs
    pub finds : (table : T) → reads (next_kept f p) table → reads (next_kept f q) table
    pub asked : held (next_kept f q) ≡ held (next_kept f p)
