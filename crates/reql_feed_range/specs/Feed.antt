-- What a feed of one document or of a range keeps.
use Rattle.std.specs.Prelude.{◌≡◌, ℕ, List, [], ◌∷◌, Option, Some, None, false}
use Rattle.reql_datum.specs.Answer.{Answer, ◌>>=◌}
use Rattle.reql_datum.specs.Plain.{Plain}
use Rattle.reql_term.specs.Form.{Form}
use Rattle.reql_term.specs.Views.{Document, Entry, Index, entries_in, primary}
use Rattle.reql_term.specs.declared.range.Range.{Range}
use Rattle.reql_term.specs.declared.view.IndexDef.{IndexDef}
use Rattle.reql_value_spec.specs.Meaning.{value}
use Rattle.reql_value_spec.specs.Wanted.{to_sequence}
use Rattle.reql_value_spec.specs.World.{World, View, bare_world}
use Rattle.reql_write_spec.specs.Treated.{Changed}
use Rattle.reql_feed_spec.specs.Feeds.{Watch, one_key}
use Rattle.reql_table_spec.specs.Table.{is_limit}
use Rattle.reql_table_spec.specs.declared.command.FeedSpec.{FeedSpec}
use Rattle.reql_feed_read.specs.Follows.{Reads}
use Rattle.reql_feed_read.specs.declared.follows.Follows.{Follows}
use Rattle.reql_feed_range.specs.declared.printed.Printer.{Printer}

-- a range of which every table gives all its documents, by their keys
abbrev pub GivesAll : Range → Type 0
GivesAll r = (docs : List Document) (indexes : List (List ℕ × Index)) (entries : List ℕ → List Entry) → entries_in docs indexes entries r ≡ Some (primary docs)

-- the change that brings a document, and the world of one table
abbrev pub coming : Plain → Plain → Changed
coming key doc = record { key = key; old = None; new = Some doc }

abbrev pub world_with : ℕ × View → World
world_with t = record bare_world { tables = t ∷ [] }

-- what a term gives in a world, as a sequence
abbrev pub rows_given : Form → World → Answer (List Plain)
rows_given f w = value f w [] >>= to_sequence w

-- what a feed keeps
pub record Keeps (spec : FeedSpec) (index : Option IndexDef) (f : Follows) (p : Printer) : Type 0 where
  pub reads : Reads f spec index
  pub kind : is_limit spec.kind ≡ false
  pub offsets : p.offsets ≡ spec.offsets
  pub types : p.types ≡ spec.types

-- the key of the only document that is watched, where there is just one
abbrev pub watched_key : Watch → Option Plain
watched_key (one_key key) = Some key
watched_key w = None
