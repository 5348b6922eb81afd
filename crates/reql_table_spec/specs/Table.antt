-- A table with the feeds of documents: the machine of tables, over the writes and the feeds of ReQL.
use Rattle.std.specs.Prelude.{ℕ, List, [], ◌∷◌, Bool, ◌&&◌, if◌then◌else◌, Option, Some, None, false, true}
use Rattle.reql_datum.specs.Members.{find}
use Rattle.reql_datum.specs.Plain.{Plain}
use Rattle.reql_rules.specs.Lists.{Bytes}
use Rattle.reql_rules.specs.Types.{same_text}
use Rattle.reql_term.specs.Views.{Document, Index}
use Rattle.reql_write_spec.specs.Treated.{Changed}
use Rattle.reql_write_spec.specs.Write.{write}
use Rattle.reql_write_spec.specs.declared.command.Summary.{Summary}
use Rattle.reql_write_spec.specs.declared.command.WriteCmd.{WriteCmd}
use Rattle.reql_feed_spec.specs.Feeds.{Feed as Told, squashes, queued, opening_items, net, kind_of, value, folded_at}
use Rattle.reql_feed_spec.specs.Kept.{watch_of}
use Rattle.reql_feed_spec.specs.Shown.{read}
use Rattle.reql_feed_spec.specs.Value.{changed}
use Rattle.reql_feed_spec.specs.declared.kind.FeedKind.{FeedKind}
use Rattle.reql_feed_spec.specs.declared.kind.FeedKind.TheVariants as kinds
use Rattle.reql_table_machine_spec.specs.Feeding.{Feeding}
use Rattle.reql_table_machine_spec.specs.Feeds.{Table, opening_table}
use Rattle.reql_table_spec.specs.Followed.{followed}
use Rattle.reql_table_spec.specs.Indexes.{Indexes, IndexCmd, indexed, index_said}
use Rattle.reql_table_spec.specs.declared.command.FeedSpec.{FeedSpec}

-- what a feed keeps: its request, and the definition of its index that stood when it was opened
pub record Held : Type 0 where
  pub spec : FeedSpec
  pub indexes : Indexes

abbrev pub is_limit : FeedKind → Bool
is_limit (kinds.Limit n) = true
is_limit k = false

-- a limit feed has no multi index
abbrev pub held_by : FeedSpec → Bytes → Option Index → Option Held
held_by spec name None = None
held_by spec name (Some i) = if is_limit spec.kind && i.1 then None else Some (record { spec = spec; indexes = (name, i) ∷ [] })

abbrev pub held_at : FeedSpec → Indexes → Option Bytes → Option Held
held_at spec indexes None = Some (record { spec = spec; indexes = [] })
held_at spec indexes (Some name) = if same_text name spec.key then Some (record { spec = spec; indexes = [] }) else held_by spec name (find name indexes)

-- nothing where the index of the request isn't there
abbrev pub held : Indexes → FeedSpec → Option Held
held indexes spec = held_at spec indexes spec.index

abbrev pub feed_of : Held → Told
feed_of h = record { watch = watch_of (followed h.spec h.indexes); shows = record { offsets = h.spec.offsets; types = h.spec.types }; squash = h.spec.squash }

-- a single-document change, as feeds see it
abbrev pub at_key : Changed → Plain × Option Plain
at_key x = (x.key, x.new)

abbrev pub feeding : ℕ → Feeding (List Document) Indexes WriteCmd IndexCmd FeedSpec Summary Changed Held Plain (List Plain)
feeding most = record {
  changes = λ docs indexes w. (write docs indexes w).changes;
  summary = λ docs indexes w. (write docs indexes w).summary;
  change = λ docs x. changed x.key x.new docs;
  indexed = indexed;
  index_said = index_said;
  most = most;
  keep = held;
  opening = λ h docs. opening_items (feed_of h).watch (feed_of h).shows docs;
  size = λ h. h.spec.size;
  squashes = λ h. squashes (feed_of h);
  items = λ h docs x. queued (feed_of h) docs (at_key x);
  net = λ h items. net (kind_of (feed_of h).watch) h.spec.types items;
  value = λ h docs. value (feed_of h) docs;
  apply = λ h vs i. folded_at (feed_of h).watch h.spec.offsets vs (read i);
}

-- a table of documents, and what an opened one is
abbrev pub DocumentTable : Type 0
DocumentTable = Table (List Document) Indexes Held Plain

abbrev pub opening : List Document → Indexes → DocumentTable
opening docs indexes = opening_table (feeding 0) docs indexes
