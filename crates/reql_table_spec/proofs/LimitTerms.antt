-- A limit feed shows the list of its term, by an index or by primary key.
use Rattle.std.proofs.Common.{◌≡◌, ℕ, nat_eq, List, [], ◌∷◌, take, Bool, true, false, ◌&&◌, if◌then◌else◌, Option, Some, None, Ok, Err, refl, sym, ap, ◌∙◌, subst, arith}
use Rattle.reql_datum.specs.Answer.{Answer, ◌>>=◌}
use Rattle.reql_datum.specs.Members.{find}
use Rattle.reql_datum.specs.Plain.{Plain}
use Rattle.reql_rules.specs.Faults.{misplaced}
use Rattle.reql_rules.specs.Lists.{Bytes}
use Rattle.reql_rules.specs.Types.{same_text}
use Rattle.reql_term.specs.Views.{Document, Entry, Index, documents_in, primary}
use Rattle.reql_bag.specs.Bag.{in_order}
use Rattle.reql_value_spec.specs.Index.{index_list, plain_view}
use Rattle.reql_value_spec.specs.Meaning.{value}
use Rattle.reql_value_spec.specs.Wanted.{to_sequence}
use Rattle.reql_value_spec.specs.World.{View, view_at, entries_named}
use Rattle.reql_write_spec.specs.Selecting.{slots}
use Rattle.reql_feed_spec.specs.Feeds as feeds
use Rattle.reql_feed_spec.specs.Feeds.{first_of, value_at}
use Rattle.reql_feed_spec.specs.Kept.{Kept, by_index, by_primary, watch_of}
use Rattle.reql_feed_spec.specs.Moving.{selected_by_key}
use Rattle.reql_feed_spec.specs.Value.{Selection, selected}
use Rattle.reql_feed_spec.specs.Watched.{lies_in}
use Rattle.reql_feed_spec.specs.declared.kind.FeedKind.TheVariants as kinds
use Rattle.reql_feed_spec.proofs.Watched.{documents_take}
use Rattle.reql_feed_spec.proofs.Sources.{same_name, same_names}
use Rattle.reql_table_spec.specs.Followed.{shape_by, or_nothing, first_shape, first_by, order_in, kept_order, is_asked, is_same, Ordered}
use Rattle.reql_table_spec.specs.Indexes.{Indexes}
use Rattle.reql_table_spec.specs.Table.{Held, is_limit, held_at, held_by, feed_of}
use Rattle.reql_table_spec.specs.Terms.{in_places, LimitsShowTheirTerms}
use Rattle.reql_table_spec.specs.declared.command.FeedSpec.{FeedSpec}
use Rattle.reql_table_spec.proofs.Closed.{then_ok, if_ok, same_ok, like_bare}
use Rattle.reql_table_spec.proofs.Orders.{in_order_of, first_gives}
use Rattle.reql_table_spec.proofs.Reading as reading
use Rattle.reql_table_spec.proofs.Reading.{both}

equal : (a b : ℕ) → nat_eq a b ≡ true → a ≡ b
equal a b h = grind arith

-- what is shown of the first of an order
places_of : (offsets : Bool) (n : ℕ) (ordered : Selection) (docs : List Document) → value_at (first_of n ordered) offsets docs ≡ in_places offsets (take n (documents_in (ordered docs)))
places_of true n ordered docs = sym (documents_take n (ordered docs))
places_of false n ordered docs = ap in_order (sym (documents_take n (ordered docs)))

-- ---- the index that stood when the feed was opened
module _ {A : Type 0} where
  pub same_some : (x y : A) → Some x ≡ Some y → x ≡ y
  same_some x y h = cc

  pub else_is : (b : Bool) (x y : Option A) (z : A) → b ≡ false → (if b then x else y) ≡ Some z → y ≡ Some z
  else_is true x y z off h = absurd (cc (off))
  else_is false x y z off h = h

abbrev pub with_index : FeedSpec → Bytes → Index → Held
with_index spec name j = record { spec = spec; indexes = (name, j) ∷ [] }

single : (spec : FeedSpec) (name : Bytes) (i j : Index) (h : Held) (b : Bool) → j.1 ≡ b → (if b then None else Some (with_index spec name j)) ≡ Some h → find name h.indexes ≡ Some i → (j ≡ i) × (j.1 ≡ false)
single spec name i j h true multi opened found = absurd (cc (opened))
single spec name i j h false multi opened found =
    let here : find name ((name, j) ∷ []) ≡ Some j = rw (same_name name) refl in
    let there : find name ((name, j) ∷ []) ≡ Some i = subst (λ (x : Held). find name x.indexes ≡ Some i) (sym (same_some (with_index spec name j) h opened)) found in
    (same_some j i (sym here ∙ there), multi)

abbrev Stood : Indexes → Bytes → Index → Type 0
Stood indexes name i = (find name indexes ≡ Some i) × (i.1 ≡ false)

stood_by : (spec : FeedSpec) (name : Bytes) (indexes : Indexes) (i : Index) (h : Held) (o : Option Index) → find name indexes ≡ o → held_by spec name o ≡ Some h → is_limit spec.kind ≡ true → find name h.indexes ≡ Some i → Stood indexes name i
stood_by spec name indexes i h None there opened limit found = absurd (cc (opened))
stood_by spec name indexes i h (Some j) there opened limit found =
    let e : (if j.1 then None else Some (with_index spec name j)) ≡ Some h = subst (λ b. (if b then None else Some (with_index spec name j)) ≡ Some h) (ap (λ b. b && j.1) limit) opened in
    let s = single spec name i j h j.1 refl e found in
    (there ∙ ap (λ x. Some x) s.0, subst (λ (x : Index). x.1 ≡ false) s.0 s.1)

stood : (spec : FeedSpec) (index : Option Bytes) (name : Bytes) (indexes : Indexes) (i : Index) (h : Held) → held_at spec indexes index ≡ Some h → is_limit spec.kind ≡ true → is_same (Some name) index ≡ true → same_text name spec.key ≡ false
    → find name h.indexes ≡ Some i → Stood indexes name i
stood spec None name indexes i h opened limit same off found = absurd (cc (same))
stood spec (Some s) name indexes i h opened limit same off found =
    let e : name ≡ s = same_names name s same in
    let by_name : held_at spec indexes (Some name) ≡ Some h = subst (λ x. held_at spec indexes (Some x) ≡ Some h) (sym e) opened in
    stood_by spec name indexes i h (find name indexes) refl (else_is (same_text name spec.key) (Some (record { spec = spec; indexes = [] })) (held_by spec name (find name indexes)) h off by_name) limit found

-- ---- what a feed that keeps an order shows, and the entries of its index
record Shown (offsets : Bool) (o : Ordered) (most : ℕ) (v : View) (docs : List Document) (k : Kept) : Type 0 where
  es : List Entry
  entries : entries_named v o.name ≡ Ok es
  shows : value_at (watch_of k) offsets docs ≡ in_places offsets (take most (documents_in (in_order_of o es)))

module _ (db : Bytes) (db_number : ℕ) (table_name : Bytes) (indexes : Indexes) (h : Held) (o : Ordered) (most : ℕ) (docs : List Document) (k : Kept) where
  abbrev view : View
  view = plain_view db db_number table_name h.spec.key docs indexes

  shown_by_key : same_text o.name h.spec.key ≡ true → by_primary o.part o.down most ≡ k → Shown h.spec.offsets o most view docs k
  shown_by_key on is = subst (Shown h.spec.offsets o most view docs) is (record {
    es = primary docs;
    entries = rw on refl;
    shows = places_of h.spec.offsets most (selected_by_key (lies_in o.part) o.down) docs;
  })

  shown_by_index : (i : Index) → same_text o.name h.spec.key ≡ false → Stood indexes o.name i → by_index i o.part o.down most ≡ k → Shown h.spec.offsets o most view docs k
  shown_by_index i off s is = subst (Shown h.spec.offsets o most view docs) is (record {
    es = index_list docs i;
    entries = rw (off, s.0) refl;
    shows = ap (λ b. value_at (if b then feeds.nothing (kinds.Limit most) else first_of most (selected i (lies_in o.part) o.down)) h.spec.offsets docs) s.1
        ∙ places_of h.spec.offsets most (selected i (lies_in o.part) o.down) docs;
  })

  shown_by_found : (x : Option Index) → same_text o.name h.spec.key ≡ false → ((i : Index) → x ≡ Some i → Stood indexes o.name i) → kept_order o most x ≡ Ok k → Shown h.spec.offsets o most view docs k
  shown_by_found None off s is = absurd (cc (is))
  shown_by_found (Some i) off s is = shown_by_index i off (s i refl) (same_ok (by_index i o.part o.down most) k is)

  shown_in_order : (b : Bool) → same_text o.name h.spec.key ≡ b → (same_text o.name h.spec.key ≡ false → (i : Index) → find o.name h.indexes ≡ Some i → Stood indexes o.name i)
      → (if b then Ok (by_primary o.part o.down most) else kept_order o most (find o.name h.indexes)) ≡ Ok k → Shown h.spec.offsets o most view docs k
  shown_in_order true on s is = shown_by_key on (same_ok (by_primary o.part o.down most) k is)
  shown_in_order false off s is = shown_by_found (find o.name h.indexes) off (s off) is

-- the rows of the term, and what is shown
joined : (offsets : Bool) (o : Ordered) (n most : ℕ) (es : List Entry) (rows : Answer (List Plain)) (shown told : List Plain) → rows ≡ Ok (take n (documents_in (in_order_of o es))) → n ≡ most → shown ≡ in_places offsets (take most (documents_in (in_order_of o es)))
    → told ≡ shown → (rows >>= λ vs. Ok (in_places offsets vs)) ≡ Ok told
joined offsets o n most es rows shown told r e s t =
    ap (λ a. a >>= λ vs. Ok (in_places offsets vs)) r ∙ ap (λ k. Ok (in_places offsets (take k (documents_in (in_order_of o es))))) e ∙ ap (λ vs. Ok vs) (sym s ∙ sym t)

pub limit_terms : LimitsShowTheirTerms
limit_terms indexes h k most w docs accepted kind has =
    let read : first_shape h.spec h.indexes most ≡ Ok k = subst (λ x. shape_by x h.spec h.indexes ≡ Ok k) kind accepted.read in
    let p = then_ok (first_by h.spec.key h.spec.shape) (λ f. if is_asked h.spec f.0 f.1 most then order_in h.spec h.indexes f.0 most else Err misplaced) k read in
    let o : Ordered = p.0.0 in
    let b = if_ok (is_asked h.spec o p.0.1 most) (order_in h.spec h.indexes o most) misplaced k p.2 in
    let asked = both (nat_eq p.0.1 most) (is_same (Some o.name) h.spec.index) b.0 in
    let v : View = plain_view has.db has.db_number has.name h.spec.key docs indexes in
    let s = shown_in_order has.db has.db_number has.name indexes h o most docs k (same_text o.name h.spec.key) refl
    (λ off i found. stood h.spec h.spec.index o.name indexes i h accepted.opened (ap is_limit kind) asked.1 off found) b.1 in
    let g = first_gives h.spec.key h.spec.shape p.0 p.1 in
    let at : view_at w g.slot_is ≡ Ok v = subst (λ n. view_at w n ≡ Ok v) (reading.first_of g.slot_is (slots h.spec.shape) g.starts) has.table in
    let rows = g.gives w (like_bare w has.limit has.databases) v refl at s.es s.entries in
    let value_is : feeds.value (feed_of h) docs ≡ value_at (watch_of k) h.spec.offsets docs = ap (λ x. value_at (watch_of (or_nothing h.spec.kind x)) h.spec.offsets docs) accepted.read in
    joined h.spec.offsets o p.0.1 most s.es (value h.spec.shape w [] >>= to_sequence w) (value_at (watch_of k) h.spec.offsets docs) (feeds.value (feed_of h) docs) rows (equal p.0.1 most asked.0) s.shows value_is
