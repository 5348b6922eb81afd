-- What a tally of a history counts.
use Rattle.std.specs.Prelude.{◌≡◌, ℕ, suc, nat_eq, ◌⊎◌, List, [], ◌∷◌, length, map, Option, Some, None, Bool, true, false, ◌&&◌}
use Rattle.reql_datum.specs.Plain.{Plain}
use Rattle.reql_term.specs.Views.{Document}
use Rattle.reql_shared.specs.Machine.{replay}
use Rattle.reql_feed_spec.specs.Feeds.{value, bare}
use Rattle.reql_feed_spec.specs.Fold.{without_nulls}
use Rattle.reql_table_spec.specs.Laws.{docs_at}
use Rattle.reql_table_spec.specs.Machine.{State, machine, unused, entry_of}
use Rattle.reql_table_spec.specs.Table.{Held, feed_of}
use Rattle.reql_table_spec.specs.declared.command.Entry.{Entry}
use Rattle.reql_load.specs.Folded.{folded}
use Rattle.reql_table.specs.Seen.{Standing, documents_of, indexes_of}
use Rattle.reql_tail.specs.Kept.{Kept, standing}
use Rattle.reql_core.specs.Core.{stand_of}
use Rattle.reql_core.specs.Moments.{led_by, bare as without_feeds}
use Rattle.reql_core.specs.declared.moment.Moment.{Moment}
use Rattle.reql_tally.specs.Past.{OpenedFeed, feeds_opened, batches_taken, sent_to, skips, latest}
use Rattle.reql_tally.specs.declared.tally.Tally.{Tally}

-- n of the elements are so
abbrev pub IsCount : {A : Type 0} → (A → Type 0) → List A → ℕ → Type 0
IsCount P [] n = n ≡ 0
IsCount P (x ∷ xs) n = ((m : ℕ) × (n ≡ suc m) × P x × IsCount P xs m) ⊎ ((P x → ⊥) × IsCount P xs n)

-- the value of a feed over documents, as a client reads it: null is absence
abbrev pub value_of : Option Held → List Document → List Plain
value_of None docs = []
value_of (Some h) docs = without_nulls (value (feed_of h) docs)

module _ (s : State) (es : List Entry) where
  -- all that was sent to a feed
  abbrev pub sent : OpenedFeed → List (ℕ × Plain)
  sent f = sent_to f.owner f.number (batches_taken s es)

  -- the value of a feed, evaluated over the documents of the history at a stamp
  abbrev pub value_at : OpenedFeed → ℕ → List Plain
  value_at f n = value_of f.kept (docs_at s (map entry_of es) n)

  -- the feed was never told that items were dropped, and its items fold over its value at its opening to its value at the last stamp of which they tell,
  -- or at its opening where none was sent
  pub record FoldsUp (f : OpenedFeed) : Type 0 where
    pub whole : skips f.owner f.number (batches_taken s es) ≡ false
    pub folds : folded (value_at f f.opened) (bare (sent f)) ≡ Some (value_at f (latest f.opened (sent f)))

  -- the documents and the stamp of the table after the history; the feeds that it opened; and those of them that fold
  pub record Counts (t : Tally) : Type 0 where
    pub documents : t.documents ≡ length (replay machine s (map entry_of es)).table.docs
    pub changes : t.changes ≡ (replay machine s (map entry_of es)).table.stamp
    pub feeds : t.feeds ≡ length (feeds_opened s es)
    pub folds : IsCount FoldsUp (feeds_opened s es) t.folds

-- a table at place 0 that has neither documents nor indexes
abbrev pub is_empty : Standing → Bool
is_empty t = nat_eq (length (documents_of t)) 0 && nat_eq (length (indexes_of t)) 0

abbrev pub begins : Moment → Bool
begins m = (nat_eq m.place 0 && nat_eq m.stamp 0) && is_empty m.table

-- the table stands where it was counted to
abbrev pub stands : State → Tally → Bool
stands s t = nat_eq t.documents (length s.table.docs) && nat_eq t.changes s.table.stamp

-- whether it does, unless it was dropped
abbrev pub Ends : State → Tally → Bool → Type 0
Ends s t true = stands s t ≡ true
Ends s t false = (s.table.shut ≡ true) ⊎ (stands s t ≡ false)

-- What is kept begins with an empty table, and its entries count to this and lead to the table itself, but for its feeds: to its documents and indexes, at its
-- place and its stamp.
pub record Found (most keeps : ℕ) (k : Kept Moment Entry) (s : State) (t : Tally) : Type 0 where
  pub begins : begins k.base ≡ true
  pub counts : Counts (unused most keeps) k.entries t
  pub stands : stands s t ≡ true
  pub leads : standing stand_of led_by k ≡ without_feeds s.table

-- What is kept doesn't begin so; or the table was dropped, or isn't where the entries count to.
abbrev pub HasNone : ℕ → ℕ → Kept Moment Entry → State → Type 0
HasNone most keeps k s = (begins k.base ≡ false) ⊎ ((t : Tally) × Counts (unused most keeps) k.entries t × Ends s t false)

abbrev pub Tallies : ℕ → ℕ → Kept Moment Entry → State → Option Tally → Type 0
Tallies most keeps k s None = HasNone most keeps k s
Tallies most keeps k s (Some t) = Found most keeps k s t
