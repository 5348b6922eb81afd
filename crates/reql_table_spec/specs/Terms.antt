-- That a feed shows what its term gives of the table, for every request that is accepted, however its term is spelled.
use Rattle.std.specs.Prelude.{◌≡◌, ℕ, List, [], ◌∷◌, Some, Ok, Bool, true, false}
use Rattle.std.specs.List.{filter}
use Rattle.reql_datum.specs.Answer.{Answer, ◌>>=◌}
use Rattle.reql_datum.specs.Plain.{Plain}
use Rattle.reql_rules.specs.Lists.{Bytes}
use Rattle.reql_term.specs.Views.{Document}
use Rattle.reql_bag.specs.Bag.{in_order}
use Rattle.reql_value_spec.specs.Index.{plain_view}
use Rattle.reql_value_spec.specs.Meaning as meaning
use Rattle.reql_value_spec.specs.Shapes.{answered, rows_over}
use Rattle.reql_value_spec.specs.Wanted.{to_datum, to_sequence}
use Rattle.reql_value_spec.specs.World.{World, bare_world, view_at}
use Rattle.reql_write_spec.specs.Selecting.{slots}
use Rattle.reql_feed_spec.specs.Feeds.{value}
use Rattle.reql_feed_spec.specs.Fold.{without_nulls}
use Rattle.reql_feed_spec.specs.Kept.{Kept, is_shape}
use Rattle.reql_feed_spec.specs.Value.{is_good}
use Rattle.reql_feed_spec.specs.declared.kind.FeedKind.TheVariants as kinds
use Rattle.reql_table_spec.specs.Followed.{shape_by, first_slot}
use Rattle.reql_table_spec.specs.Indexes.{Indexes}
use Rattle.reql_table_spec.specs.Table.{Held, held, feed_of}
use Rattle.reql_table_spec.specs.declared.command.FeedSpec.{FeedSpec}

-- the slot that the term of a request names
abbrev pub slot_of : FeedSpec → ℕ
slot_of spec = first_slot (slots spec.shape)

-- a request that is accepted on a table with these indexes, with what it keeps
pub record IsAccepted (indexes : Indexes) (h : Held) (k : Kept) : Type 0 where
  pub opened : held indexes h.spec ≡ Some h
  pub read : shape_by h.spec.kind h.spec h.indexes ≡ Ok k

-- a world where this slot is a table, whatever its names are, and with the limit of arrays and the databases of the world in which closed terms are read
pub record HasTable (w : World) (n : ℕ) (key : Bytes) (docs : List Document) (indexes : Indexes) : Type 0 where
  pub db : Bytes
  pub db_number : ℕ
  pub name : Bytes
  pub limit : bare_world.array_limit ≡ w.array_limit
  pub databases : bare_world.databases ≡ w.databases
  pub table : view_at w n ≡ Ok (plain_view db db_number name key docs indexes)

-- a point feed shows the document that GET of any closed key gives, or null
abbrev pub PointsShowTheirTerms : Type 0
PointsShowTheirTerms = (indexes : Indexes) (h : Held) (k : Kept) (w : World) (docs : List Document)
    → IsAccepted indexes h k → h.spec.kind ≡ kinds.Point → HasTable w (slot_of h.spec) h.spec.key docs indexes
    → (meaning.value h.spec.shape w [] >>= to_datum >>= λ d. Ok (d ∷ [])) ≡ Ok (value (feed_of h) docs)

-- a list in its order where places are told, else as a bag
abbrev pub in_places : Bool → List Plain → List Plain
in_places true vs = vs
in_places false vs = in_order vs

-- a limit feed shows the list of its term, by an index or by primary key, in either direction, and within any bounds
abbrev pub LimitsShowTheirTerms : Type 0
LimitsShowTheirTerms = (indexes : Indexes) (h : Held) (k : Kept) (most : ℕ) (w : World) (docs : List Document)
    → IsAccepted indexes h k → h.spec.kind ≡ kinds.Limit most → HasTable w (slot_of h.spec) h.spec.key docs indexes
    → (meaning.value h.spec.shape w [] >>= to_sequence w >>= λ vs. Ok (in_places h.spec.offsets vs)) ≡ Ok (value (feed_of h) docs)

-- what the term of a range feed gives of a table of these documents
abbrev pub rows_in : Indexes → FeedSpec → List Document → Answer (List Plain)
rows_in indexes spec docs = rows_over bare_world (slot_of spec) (plain_view [] 0 [] spec.key [] indexes) spec.shape docs

-- a range feed shows the sorted bag that its term gives of the documents, but for those of which, each in a table of its own, it has a fault or gives what may not be shown
abbrev pub RangesShowTheirTerms : Type 0
RangesShowTheirTerms = (indexes : Indexes) (h : Held) (k : Kept) (w : World) (docs : List Document)
    → IsAccepted indexes h k → h.spec.kind ≡ kinds.Range → is_shape (slot_of h.spec) h.spec.shape ≡ true → HasTable w (slot_of h.spec) h.spec.key (filter (is_good (rows_in indexes h.spec)) docs) indexes
    → without_nulls (in_order (answered (meaning.value h.spec.shape w [] >>= to_sequence w))) ≡ value (feed_of h) docs
