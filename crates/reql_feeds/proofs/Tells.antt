-- What a draft becomes when it is told of a change.
use Rattle.std.proofs.Common.{◌≡◌, List, map, sym, subst}
use Rattle.std.specs.List.{All}
use Rattle.reql_datum.specs.Plain.{Plain}
use Rattle.reql_table_spec.specs.Table.{Held}
use Rattle.reql_table_machine_spec.specs.Feeds.{Feed}
use Rattle.reql_term.specs.Views.{Document}
use Rattle.reql_feeds.specs.Ahead.{Pending, all_ahead, IsDraft}
use Rattle.reql_feeds.specs.Committing.{Forecasts}
use Rattle.reql_feeds.specs.Keeps.{feeds_of}
use Rattle.reql_feeds.specs.Record.{records, kept_in}
use Rattle.reql_feeds.specs.Seen.{all_sized}
use Rattle.reql_feeds.specs.Shadows.{all_pending}
use Rattle.reql_feeds.specs.declared.entry.Entry.{Entry}
use Rattle.reql_feeds.specs.declared.shadow.Shadow.{Shadow}
use Rattle.reql_feeds.proofs.Drafts.{draft_many, forecast_told, forecast_stands, forecast_finds, forecast_draft}

module _ {F : Type 0} (es : List (Entry F)) (was : List (Shadow F)) (fs : List (Feed F Plain)) (ps : List (Pending F)) (view : feeds_of (all_sized es) ≡ fs) (shows : all_pending was ≡ ps) where
  -- what is so of feeds and of a draft as they are seen
  pub unseen : (P : List (Feed F Plain) → List (Pending F) → Type 0) → P fs ps → P (feeds_of (all_sized es)) (all_pending was)
  unseen P p = subst (λ (y : List (Feed F Plain) × List (Pending F)). P y.0 y.1) (λ i. (sym view i, sym shows i)) p

  as_seen : (P : List (Feed F Plain) → List (Pending F) → Type 0) → P (feeds_of (all_sized es)) (all_pending was) → P fs ps
  as_seen P p = subst (λ (y : List (Feed F Plain) × List (Pending F)). P y.0 y.1) (λ i. (view i, shows i)) p

  module _ {T : Type 0} (held : F → Held) (fits : F → List Document → Type 0) (reads : F → T → Type 0) (turn : Feed Held Plain → Feed Held Plain) (after : List Document) {now : List (Shadow F)} (new : List (Shadow F)) (is : now ≡ new) (told : Forecasts held fits reads turn after es was new) (draft : IsDraft held fs ps) where
    f : Forecasts held fits reads turn after es was now
    f = subst (λ (l : List (Shadow F)). Forecasts held fits reads turn after es was l) (sym is) told

    d : IsDraft held (feeds_of (all_sized es)) (all_pending was)
    d = unseen (IsDraft held) draft

    pub next_draft : IsDraft held fs (all_pending now)
    next_draft = as_seen (λ gs qs. IsDraft held gs (all_pending now)) (forecast_draft held fits reads turn after es was now f d)

    pub next_told : records held (all_ahead held fs (all_pending now)) ≡ map turn (records held (all_ahead held fs ps))
    next_told = as_seen (λ gs qs. records held (all_ahead held gs (all_pending now)) ≡ map turn (records held (all_ahead held gs qs))) (forecast_told held fits reads turn after es was now (draft_many held es was d) f)

    pub next_fits : All (λ k. fits k after) (kept_in (all_ahead held fs (all_pending now)))
    next_fits = as_seen (λ gs qs. All (λ k. fits k after) (kept_in (all_ahead held gs (all_pending now)))) (forecast_stands held fits reads turn after es was now (draft_many held es was d) f)

    pub next_reads : (t : T) → All (λ k. reads k t) (kept_in (all_ahead held fs ps)) → All (λ k. reads k t) (kept_in (all_ahead held fs (all_pending now)))
    next_reads = as_seen (λ gs qs. (t : T) → All (λ k. reads k t) (kept_in (all_ahead held gs qs)) → All (λ k. reads k t) (kept_in (all_ahead held gs (all_pending now)))) (forecast_finds held fits reads turn after es was now (draft_many held es was d) f)
