-- A range feed shows the sorted bag that its term gives of the good documents, whatever the names of the table and its other indexes are.
use Rattle.std.proofs.Common.{◌≡◌, ℕ, List, [], ◌∷◌, Bool, true, false, ◌&&◌, if◌then◌else◌, Option, Some, None, Ok, Err, refl, sym, ap, ◌∙◌, subst}
use Rattle.std.specs.List.{filter}
use Rattle.std.specs.Option.{unwrap_or}
use Rattle.reql_datum.specs.Answer.{◌>>=◌}
use Rattle.reql_datum.specs.Members.{find}
use Rattle.reql_rules.specs.Faults.{misplaced}
use Rattle.reql_rules.specs.Lists.{Bytes}
use Rattle.reql_rules.specs.Types.{same_text}
use Rattle.reql_term.specs.Views.{Document, Index}
use Rattle.reql_bag.specs.Bag.{in_order}
use Rattle.reql_value_spec.specs.Depends.{Agree}
use Rattle.reql_value_spec.specs.Index.{index_list, plain_view}
use Rattle.reql_value_spec.specs.Meaning.{value}
use Rattle.reql_value_spec.specs.Shapes.{NoSlot, answered, over}
use Rattle.reql_value_spec.specs.Wanted.{to_sequence}
use Rattle.reql_value_spec.specs.World.{World, View, bare_world, view_at, entries_named}
use Rattle.reql_feed_spec.specs.Feeds as feeds
use Rattle.reql_feed_spec.specs.Feeds.{all_given, nothing, value_at}
use Rattle.reql_feed_spec.specs.Fold.{without_nulls}
use Rattle.reql_feed_spec.specs.Kept.{Kept, by_shape, is_shape, watch_of}
use Rattle.reql_feed_spec.specs.Value.{is_good}
use Rattle.reql_feed_spec.specs.declared.kind.FeedKind.TheVariants as kinds
use Rattle.reql_feed_spec.proofs.Keeping.{shape_is}
use Rattle.reql_feed_spec.proofs.Sources.{same_name, same_names}
use Rattle.reql_table_spec.specs.Followed.{shape_by, or_nothing, shape_index, is_same}
use Rattle.reql_table_spec.specs.Indexes.{Indexes}
use Rattle.reql_table_spec.specs.Table.{Held, is_limit, held, held_at, held_by, feed_of}
use Rattle.reql_table_spec.specs.Terms.{slot_of, HasTable, rows_in, RangesShowTheirTerms}
use Rattle.reql_table_spec.specs.declared.command.FeedSpec.{FeedSpec}
use Rattle.reql_table_spec.proofs.Closed.{then_ok, if_ok}
use Rattle.reql_table_spec.proofs.LimitTerms.{same_some, else_is, with_index}
use Rattle.reql_table_spec.proofs.Reading.{itself}
use Rattle.reql_table_spec.proofs.SameTables.{shape_rows_same}

-- ---- the index of the request is the one that the table has
kept_index : (spec : FeedSpec) (name : Bytes) (j : Index) (h : Held) (b : Bool) → (if b then None else Some (with_index spec name j)) ≡ Some h → find name h.indexes ≡ Some j
kept_index spec name j h true opened = absurd (cc (opened))
kept_index spec name j h false opened =
    let here : find name ((name, j) ∷ []) ≡ Some j = rw (same_name name) refl in
    subst (λ (x : Held). find name x.indexes ≡ Some j) (same_some (with_index spec name j) h opened) here

found_by : (spec : FeedSpec) (name : Bytes) (indexes : Indexes) (h : Held) (o : Option Index) → find name indexes ≡ o → held_by spec name o ≡ Some h → (j : Index) × (find name indexes ≡ Some j) × (find name h.indexes ≡ Some j)
found_by spec name indexes h None there opened = absurd (cc (opened))
found_by spec name indexes h (Some j) there opened = (j, there, kept_index spec name j h (is_limit spec.kind && j.1) opened)

module _ (spec : FeedSpec) (indexes : Indexes) (h : Held) (db : Bytes) (db_number : ℕ) (table_name : Bytes) (docs : List Document) where
  abbrev there : View
  there = plain_view db db_number table_name spec.key docs indexes

  abbrev here : View
  here = plain_view [] 0 [] spec.key docs h.indexes

  abbrev SameEntries : Bytes → Type 0
  SameEntries name = entries_named there name ≡ entries_named here name

  primary_same : (name : Bytes) → same_text name spec.key ≡ true → SameEntries name
  primary_same name on = rw on refl

  index_same : (name : Bytes) (j : Index) → same_text name spec.key ≡ false → find name indexes ≡ Some j → find name h.indexes ≡ Some j → SameEntries name
  index_same name j off f g =
      let a : entries_named there name ≡ Ok (index_list docs j) = rw (off, f) refl in
      let b : entries_named here name ≡ Ok (index_list docs j) = rw (off, g) refl in
      a ∙ sym b

  named_same : (name : Bytes) (b : Bool) → same_text name spec.key ≡ b → held_at spec indexes (Some name) ≡ Some h → SameEntries name
  named_same name true on opened = primary_same name on
  named_same name false off opened =
      let f = found_by spec name indexes h (find name indexes) refl (else_is (same_text name spec.key) (Some (record { spec = spec; indexes = [] })) (held_by spec name (find name indexes)) h off opened) in
      index_same name f.0 off f.1 f.2

  entries_same : (index asked : Option Bytes) → is_same index asked ≡ true → held_at spec indexes asked ≡ Some h → SameEntries (unwrap_or index spec.key)
  entries_same None asked same opened = primary_same spec.key (same_name spec.key)
  entries_same (Some name) None same opened = absurd (cc (same))
  entries_same (Some name) (Some s) same opened =
      named_same name (same_text name spec.key) refl (subst (λ x. held_at spec indexes (Some x) ≡ Some h) (sym (same_names name s same)) opened)

-- ---- the rows of the term are the same over both tables
module _ (indexes : Indexes) (h : Held) (index : Option Bytes) (opened : held indexes h.spec ≡ Some h) (reads : shape_index h.spec.shape ≡ Ok index) (same : is_same index h.spec.index ≡ true) (is : is_shape (slot_of h.spec) h.spec.shape ≡ true) where
  abbrev kept_world : List Document → World
  kept_world docs = over bare_world (slot_of h.spec) (plain_view [] 0 [] h.spec.key [] h.indexes) docs

  rows_of_table : (w : World) (docs : List Document) → HasTable w (slot_of h.spec) h.spec.key docs indexes → (value h.spec.shape w [] >>= to_sequence w) ≡ rows_in h.indexes h.spec docs
  rows_of_table w docs has =
      let agree : Agree NoSlot w (kept_world docs) = record { limit = sym has.limit; databases = sym has.databases; views = λ k e. absurd e } in
      let at : view_at (kept_world docs) (slot_of h.spec) ≡ Ok (plain_view [] 0 [] h.spec.key docs h.indexes) = rw (itself (slot_of h.spec)) refl in
      shape_rows_same w (kept_world docs) agree (slot_of h.spec) (plain_view has.db has.db_number has.name h.spec.key docs indexes) (plain_view [] 0 [] h.spec.key docs h.indexes) has.table at refl refl
      index (entries_same h.spec indexes h has.db has.db_number has.name docs index h.spec.index same opened) h.spec.shape (shape_is (slot_of h.spec) h.spec.shape is) reads

  whole_world : (docs : List Document) → HasTable (over bare_world (slot_of h.spec) (plain_view [] 0 [] h.spec.key [] indexes) docs) (slot_of h.spec) h.spec.key docs indexes
  whole_world docs = record { db = []; db_number = 0; name = []; limit = refl; databases = refl; table = rw (itself (slot_of h.spec)) refl }

  rows_same : (docs : List Document) → rows_in indexes h.spec docs ≡ rows_in h.indexes h.spec docs
  rows_same docs = rows_of_table (over bare_world (slot_of h.spec) (plain_view [] 0 [] h.spec.key [] indexes) docs) docs (whole_world docs)

  abbrev good_in : Indexes → List Document → List Document
  good_in xs docs = filter (is_good (rows_in xs h.spec)) docs

  good_same : (docs : List Document) → good_in indexes docs ≡ good_in h.indexes docs
  good_same docs = λ i. filter (is_good (λ ds. rows_same ds i)) docs

  shown : (w : World) (docs : List Document) → HasTable w (slot_of h.spec) h.spec.key (good_in indexes docs) indexes → (value h.spec.shape w [] >>= to_sequence w) ≡ rows_in h.indexes h.spec (good_in h.indexes docs)
  shown w docs has = rows_of_table w (good_in indexes docs) has ∙ ap (rows_in h.indexes h.spec) (good_same docs)

pub range_terms : RangesShowTheirTerms
range_terms indexes h k w docs accepted kind is has =
    let kept : Kept = by_shape h.spec.key h.indexes (slot_of h.spec) h.spec.shape in
    let read : (shape_index h.spec.shape >>= λ index. if is_same index h.spec.index then Ok kept else Err misplaced) ≡ Ok k = subst (λ x. shape_by x h.spec h.indexes ≡ Ok k) kind accepted.read in
    let p = then_ok (shape_index h.spec.shape) (λ index. if is_same index h.spec.index then Ok kept else Err misplaced) k read in
    let b = if_ok (is_same p.0 h.spec.index) (Ok kept) misplaced k p.2 in
    let value_is : feeds.value (feed_of h) docs ≡ value_at (watch_of kept) h.spec.offsets docs =
    ap (λ x. value_at (watch_of (or_nothing h.spec.kind x)) h.spec.offsets docs) (accepted.read ∙ sym b.1) in
    let watched : value_at (watch_of kept) h.spec.offsets docs ≡ value_at (all_given (rows_in h.indexes h.spec)) h.spec.offsets docs =
    ap (λ c. value_at (if c then all_given (rows_in h.indexes h.spec) else nothing kinds.Range) h.spec.offsets docs) is in
    ap (λ a. without_nulls (in_order (answered a))) (shown indexes h p.0 accepted.opened p.1 b.0 is w docs has) ∙ sym watched ∙ sym value_is
