-- A shadow that hears of a change.
use Rattle.std.proofs.Common.{◌≡◌, ◌+◌, ◌<◌, ℕ, List, [], ◌++◌, map, length, Option, Some, None, IfSome, IfNone, refl, sym, ap, subst, ◌∙◌, arith}
use Rattle.std.specs.Prelude.{slice_index_or, slice_set}
use Rattle.std.specs.List.{All}
use Rattle.std.specs.Option.{unwrap_or}
use Rattle.std.proofs.lemmas.List.{map-append, get_or_default}
use Rattle.reql_datum.specs.Plain.{Plain}
use Rattle.reql_datum.specs.View.{plain}
use Rattle.reql_datum.specs.declared.datum.Datum.{Datum}
use Rattle.reql_table_spec.specs.Table.{Held}
use Rattle.reql_squash.specs.Told.{item_seen, items_seen}
use Rattle.reql_table_machine_spec.specs.Feeds.{Feed}
use Rattle.reql_term.specs.Views.{Document}
use Rattle.reql_write_spec.specs.Treated.{Changed}
use Rattle.reql_feeds.specs.Ahead.{Pending, next_kept, all_ahead, forecast}
use Rattle.reql_feeds.specs.Hearing.{Hears}
use Rattle.reql_feeds.specs.Items.{items_in}
use Rattle.reql_feeds.specs.Keeps.{Sized, feeds_of}
use Rattle.reql_feeds.specs.Record.{kept_in}
use Rattle.reql_feeds.specs.Seen.{seen, all_sized}
use Rattle.reql_feeds.specs.Shadows.{pending, all_pending}
use Rattle.reql_feeds.specs.Told.{stamped, noticed, Turns}
use Rattle.reql_feeds.specs.Turn.{due}
use Rattle.reql_feeds.specs.declared.entry.Entry.{Entry}
use Rattle.reql_feeds.specs.declared.prepared.Prepared.{Prepared}
use Rattle.reql_feeds.specs.declared.shadow.Shadow.{Shadow}
use Rattle.reql_feeds.proofs.Drafts.{Heard, heard_one, hears_nothing, hears_items, next_at}
use Rattle.reql_feeds.proofs.Queues.{shown_stamped}

module _ {F S T : Type 0} (held : F → Held) (fits : F → List Document → Type 0) (brings : F → S → List Document → Type 0) (reads : F → T → Type 0) where
  -- the shadow after what was prepared was put into effect
  pub followed : (e : Entry F) (s t : Shadow F) (k n : F) (r : Prepared S) (stamp : ℕ) (more : List Datum) → k ≡ next_kept (seen e) (pending s) → t.kept ≡ Some n
      → t.items.items ≡ s.items.items ++ stamped stamp more → more ≡ r.items
      → ((docs : List Document) → brings k r.step docs → fits n docs) → held n ≡ held k → ((table : T) → reads k table → reads n table)
      → Hears held fits brings reads (seen e) (pending s) r stamp (pending t)
  followed e s t k n r stamp more was kept items same brought asked finds =
      let next : next_kept (seen e) (pending t) ≡ n = ap (λ o. unwrap_or o e.kept) kept in
      record {
        items = ap items_seen items ∙ (map-append item_seen s.items.items (stamped stamp more) ∙ ap (λ l. items_seen s.items.items ++ l) (shown_stamped stamp more ∙ ap (λ l. stamped stamp (map plain l)) same));
        brought = λ docs b. subst (λ y. fits y docs) (sym next) (brought docs (subst (λ y. brings y r.step docs) (sym was) b));
        finds = λ table f. subst (λ y. reads y table) (sym next) (finds table (subst (λ y. reads y table) (sym was) f));
        asked = ap held next ∙ (asked ∙ ap held was);
      }

  module _ (x : Changed) (after : List Document) (stamp : ℕ) where
    abbrev Told : Sized F → Sized F → Type 0
    Told = Turns held fits reads (noticed stamp x after) after

    pub none_heard : (f : Feed F Plain) (p : Pending F) (k : F) (r : Option (Prepared S)) → k ≡ next_kept f p → r ≡ None → items_in r ≡ due (held k) x after → IfNone r (fits k after) → Told (forecast held f p) (forecast held f p)
    none_heard f p k r was none items stays =
        hears_nothing held fits brings reads x after stamp f p p refl (subst (λ y. [] ≡ due (held y) x after) was (sym (ap items_in none) ∙ items)) (subst (λ y. fits y after) was (subst (λ (o : Option (Prepared S)). IfNone o (fits k after)) none stays))

    pub some_heard : (f : Feed F Plain) (p q : Pending F) (k : F) (o : Option (Prepared S)) (r : Prepared S) → k ≡ next_kept f p → o ≡ Some r → items_in o ≡ due (held k) x after
        → IfSome o (λ (p : Prepared S). brings k p.step after) → Hears held fits brings reads f p r (stamp + 1) q → Told (forecast held f p) (forecast held f q)
    some_heard f p q k o r was some items comes h =
        hears_items held fits brings reads x after stamp f p q r (stamp + 1) refl (sym (ap items_in some) ∙ (items ∙ ap (λ y. due (held y) x after) was))
        (subst (λ y. brings y r.step after) was (subst (λ (o : Option (Prepared S)). IfSome o (λ (p : Prepared S). brings k p.step after)) some comes)) h

    -- what all feeds are as they will be, the next one that hears of the change is
    pub next_now : (P : F → Type 0) (es : List (Entry F)) (was now : List (Shadow F)) (k : ℕ) (e : Entry F) (s : Shadow F) → Heard held fits brings reads x after stamp es was now k → length was ≡ length es → k < length es
        → e ≡ slice_index_or es k e → All P (kept_in (all_ahead held (feeds_of (all_sized es)) (all_pending was))) → P (next_kept (seen e) (pending (slice_index_or now k s)))
    next_now P es was now k e s h many lt entry all =
        subst (λ (y : Entry F × Shadow F). P (next_kept (seen y.0) (pending y.1))) (λ i. (sym entry i, sym (h.rest k s (omega arith)) i)) (next_at held P es was k e s many lt all)

    pub heard_next : (es : List (Entry F)) (was now : List (Shadow F)) (k : ℕ) (e : Entry F) (s t : Shadow F) → Heard held fits brings reads x after stamp es was now k → length was ≡ length es → k < length es → e ≡ slice_index_or es k e
        → Told (forecast held (seen e) (pending (slice_index_or now k s))) (forecast held (seen e) (pending t)) → Heard held fits brings reads x after stamp es was (slice_set now k t) (k + 1)
    heard_next es was now k e s t h many lt entry told =
        let low : k < length now = omega (arith, lt, many, h.many) in
        heard_one held fits brings reads x after stamp es was now k e (slice_index_or now k s) t h many lt entry (get_or_default now k s (slice_index_or now k s) low) told
