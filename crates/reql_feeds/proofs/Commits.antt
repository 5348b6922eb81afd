-- A feed that becomes what its shadow says, in its turn.
use Rattle.std.proofs.Common.{◌≡◌, ◌<◌, ℕ, List, [], ◌∷◌, ◌++◌, length, sym, ap, subst, ◌∙◌, arith}
use Rattle.std.specs.Prelude.{slice_index_or, slice_set}
use Rattle.std.specs.List.{All}
use Rattle.std.specs.Option.{unwrap_or}
use Rattle.std.proofs.lemmas.List.{get_or_default, get_or-map, length-map, length_push}
use Rattle.reql_datum.specs.declared.datum.Datum.{Datum}
use Rattle.reql_table_spec.specs.Table.{Held}
use Rattle.reql_queue.specs.Queued.{Queued, IsRoomFor}
use Rattle.reql_queue.specs.Record.{all_pushed}
use Rattle.reql_squash.specs.Told.{items_seen}
use Rattle.reql_table_machine_spec.specs.Feeds.{push_all}
use Rattle.reql_feeds.specs.Ahead.{next_kept, ahead, all_ahead, IsDraft}
use Rattle.reql_feeds.specs.Committing.{HaveRoom}
use Rattle.reql_feeds.specs.Keeps.{Sized, feeds_of, IsSized}
use Rattle.reql_feeds.specs.Seen.{seen, sized, all_sized}
use Rattle.reql_feeds.specs.Shadows.{pending, all_pending}
use Rattle.reql_feeds.specs.declared.entry.Entry.{Entry}
use Rattle.reql_feeds.specs.declared.shadow.Shadow.{Shadow}
use Rattle.reql_feeds.proofs.Drafts.{draft_many}
use Rattle.reql_feeds.proofs.Landings.{Landing, landing_begin, landing_step, landed_feeds, landed_sizes, shadow_at, asked_at}
use Rattle.reql_feeds.proofs.Queues.{committed_seen}

module _ {F : Type 0} (held : F → Held) where
  pub committed : (e : Entry F) (s : Shadow F) (k : F) (r : Queued Datum) → k ≡ unwrap_or s.kept e.kept → held (next_kept (seen e) (pending s)) ≡ held e.kept → IsSized held (sized e) → r ≡ all_pushed s.items.items e.queue
      → seen (record { owner = e.owner; number = e.number; opened = e.opened; kept = k; queue = r }) ≡ ahead held (seen e) (pending s)
  committed e s k r is asked size pushed =
      committed_seen held e k r s.items.items size (ap held is ∙ asked) pushed
      ∙ ap (λ n. push_all (held n).spec.size (record { owner = e.owner; number = e.number; kept = n; opened = e.opened; queue = (seen e).queue; skipped = e.queue.skipped; last = e.queue.last }) (items_seen s.items.items)) is

  pub same_many : (es was : List (Entry F)) → all_sized es ≡ all_sized was → length es ≡ length was
  same_many es was same = sym (length-map es sized) ∙ (ap length same ∙ length-map was sized)

  pub same_draft : (es was : List (Entry F)) (ss : List (Shadow F)) → all_sized es ≡ all_sized was → IsDraft held (feeds_of (all_sized was)) (all_pending ss) → IsDraft held (feeds_of (all_sized es)) (all_pending ss)
  same_draft es was ss same d = subst (λ (l : List (Sized F)). IsDraft held (feeds_of l) (all_pending ss)) (sym same) d

  pub begins : (es was : List (Entry F)) (ss : List (Shadow F)) → all_sized es ≡ all_sized was → IsDraft held (feeds_of (all_sized was)) (all_pending ss) → Landing held es es ss ss
  begins es was ss same d = landing_begin held es ss (draft_many held was ss d ∙ sym (same_many es was same))

  pub ends : (es was now : List (Entry F)) (ss : List (Shadow F)) → all_sized es ≡ all_sized was → Landing held es now ss [] → feeds_of (all_sized now) ≡ all_ahead held (feeds_of (all_sized was)) (all_pending ss)
  ends es was now ss same l = landed_feeds held es now ss l ∙ ap (λ (t : List (Sized F)). all_ahead held (feeds_of t) (all_pending ss)) same

  pub ends_sized : (es was now : List (Entry F)) (ss : List (Shadow F)) → all_sized es ≡ all_sized was → Landing held es now ss [] → IsDraft held (feeds_of (all_sized was)) (all_pending ss) → All (IsSized held) (all_sized was) → All (IsSized held) (all_sized now)
  ends_sized es was now ss same l d sizes = landed_sizes held es now ss l (same_draft es was ss same d) (subst (All (IsSized held)) (sym same) sizes)

  module _ (was now : List (Entry F)) (all left : List (Shadow F)) (s : Shadow F) (place : ℕ) (l : Landing held was now all (left ++ s ∷ [])) (at : place ≡ length left) where
    pub turn_before : place < length was
    turn_before = let many = length_push left s in let inside = l.within in omega (arith, many, inside, l.shadows, at)

    pub turn_within : place < length now
    turn_within = omega (arith, turn_before, l.many)

    -- the feed whose turn it is waits as it was
    turn_rest : (d : Entry F) → slice_index_or was place d ≡ slice_index_or now place d
    turn_rest d = sym (l.rest place d (omega (arith, length_push left s, at)))

    turn_shadow : (d : Shadow F) → slice_index_or all place d ≡ s
    turn_shadow d = ap (λ n. slice_index_or all n d) at ∙ shadow_at held was now all left s l d

    pub turn_sized : (d : Entry F) → All (IsSized held) (all_sized was) → IsSized held (sized (slice_index_or now place d))
    turn_sized d sizes =
        subst (λ (e : Entry F). IsSized held (sized e)) (turn_rest d)
        (subst (IsSized held) (get_or-map sized was place d (sized d) turn_before) (sizes place (sized d) (omega (arith, turn_before, length-map was sized))))

    pub turn_asked : (d : Entry F) → IsDraft held (feeds_of (all_sized was)) (all_pending all) → held (next_kept (seen (slice_index_or now place d)) (pending s)) ≡ held (slice_index_or now place d).kept
    turn_asked d draft =
        subst (λ (y : Entry F × Shadow F). held (next_kept (seen y.0) (pending y.1)) ≡ held y.0.kept) (λ i. (turn_rest d i, turn_shadow s i)) (asked_at held was all place d s draft turn_before)

    pub turn_room : (d : Entry F) → HaveRoom was all → IsRoomFor (length s.items.items) (slice_index_or now place d).queue
    turn_room d room = subst (λ (y : Entry F × Shadow F). IsRoomFor (length y.1.items.items) y.0.queue) (λ i. (turn_rest d i, turn_shadow s i)) (room place d s turn_before)

    pub turn_lands : (d g : Entry F) → seen g ≡ ahead held (seen (slice_index_or now place d)) (pending s) → g.queue.size ≡ (slice_index_or now place d).queue.size → Landing held was (slice_set now place g) all left
    turn_lands d g feed size =
        subst (λ n. Landing held was (slice_set now n g) all left) (sym at)
        (landing_step held was now all left s (slice_index_or now place d) g l (get_or_default now place d (slice_index_or now place d) turn_within ∙ ap (λ n. slice_index_or now n (slice_index_or now place d)) at) (record { feed = feed; size = size }))
