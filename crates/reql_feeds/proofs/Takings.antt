-- What a Take that joins nothing gives and leaves.
use Rattle.std.proofs.Common.{◌≡◌, ℕ, [], cond, Bool, false, ◌&&◌, not, sym, ap, ◌∙◌}
use Rattle.std.specs.Prelude.{take}
use Rattle.std.proofs.lemmas.List.{take-map, drop-map}
use Rattle.reql_datum.specs.View.{plain}
use Rattle.reql_datum.specs.declared.datum.Datum.{Datum}
use Rattle.reql_table_spec.specs.Table.{Held, feeding}
use Rattle.reql_table_spec.specs.declared.command.FeedSpec.{FeedSpec}
use Rattle.reql_queue.specs.Queued.{Queued, left_by}
use Rattle.reql_queue.specs.Record.{all_shown, one_shown}
use Rattle.reql_queue.specs.declared.queue.Taken.{Taken}
use Rattle.reql_squash.specs.Told.{items_seen, item_seen}
use Rattle.reql_table_machine_spec.specs.declared.command.Said.TheVariants as said
use Rattle.reql_feeds.specs.Record.{record_of, batch, given}
use Rattle.reql_feeds.specs.Rest.{rest_of}
use Rattle.reql_feeds.specs.Seen.{seen, sized}
use Rattle.reql_feeds.specs.declared.entry.Entry.{Entry}

module _ {F : Type 0} (held : F → Held) where
  joins_not : (e : Entry F) (s : FeedSpec) (b : Bool) → s ≡ (held e.kept).spec → b ≡ (s.squash && not s.offsets) → b ≡ false → ((held e.kept).spec.squash && not (held e.kept).spec.offsets) ≡ false
  joins_not e s b is joined none = ap (λ (t : FeedSpec). t.squash && not t.offsets) (sym is) ∙ (sym joined ∙ none)

  pub plain_batch : (e : Entry F) (max : ℕ) (t : Taken Datum) (s : FeedSpec) (b : Bool) → s ≡ (held e.kept).spec → b ≡ (s.squash && not s.offsets) → b ≡ false
      → t.skipped ≡ e.queue.skipped → t.last ≡ e.queue.last → t.items ≡ take max e.queue.items → batch t ≡ given max (record_of held (seen e))
  plain_batch e max t s b is joined none skipped last items =
      let n = joins_not e s b is joined none in
      (λ i. said.Batch (skipped i) (last i) (items_seen (items i)))
      ∙ (λ i. said.Batch e.queue.skipped e.queue.last (cond (sym n i) ((feeding 0).net (held e.kept) (all_shown plain e.queue.items)) (sym (take-map item_seen max e.queue.items) i)))

  pub plain_left : (e : Entry F) (max : ℕ) (q : Queued Datum) (s : FeedSpec) (b : Bool) → s ≡ (held e.kept).spec → b ≡ (s.squash && not s.offsets) → b ≡ false → q ≡ left_by max e.queue
      → sized (record { owner = e.owner; number = e.number; opened = e.opened; kept = e.kept; queue = q }) ≡ rest_of held max (sized e)
  plain_left e max q s b is joined none rest =
      let n = joins_not e s b is joined none in
      ap (λ (r : Queued Datum). sized (record { owner = e.owner; number = e.number; opened = e.opened; kept = e.kept; queue = r })) rest
      ∙ (λ i. (record (seen e) { queue = cond (sym n i) [] (sym (drop-map (one_shown plain) max e.queue.items) i); skipped = 0 }, e.queue.size))
