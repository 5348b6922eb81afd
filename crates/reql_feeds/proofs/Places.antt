-- Entries by their places.
use Rattle.std.proofs.Common.{◌≡◌, ◌<◌, ◌+◌, ℕ, List, ◌∷◌, length, Bool, false, refl, sym, ap, subst, ◌∙◌, arith, inl, inr}
use Rattle.std.specs.Prelude.{slice_index_or, slice_set, drop}
use Rattle.std.specs.List.{All}
use Rattle.std.proofs.lemmas.List.{get_or-map, length-map, map-set, set-get_or, at_drop_more, get_or_default, get_or-set_same, get_or-set_other, length-set}
use Rattle.std.proofs.lemmas.Bool.{cases_eq}
use Rattle.reql_datum.specs.Plain.{Plain}
use Rattle.reql_queue.specs.Queued.{IsRoomFor}
use Rattle.reql_table_machine_spec.specs.Feeds.{Feed, is_of, find_feed}
use Rattle.reql_feeds.specs.Record.{kept_in}
use Rattle.reql_feeds.specs.Keeps.{Sized, feeds_of}
use Rattle.reql_feeds.specs.Seen.{seen, sized, all_sized}
use Rattle.reql_feeds.specs.declared.entry.Entry.{Entry}
use Rattle.reql_feeds.specs.declared.shadow.Shadow.{Shadow}

module _ {F : Type 0} where
  pub feed_at : (es : List (Entry F)) (i : ℕ) (e : Entry F) → i < length es → slice_index_or (feeds_of (all_sized es)) i (seen e) ≡ seen (slice_index_or es i e)
  feed_at es i e lt =
      get_or-map (λ (p : Sized F). p.0) (all_sized es) i (sized e) (seen e) (omega (arith, lt, length-map es sized)) ∙ ap (λ (p : Sized F). p.0) (get_or-map sized es i e (sized e) lt)

  pub feeds_many : (es : List (Entry F)) → length (feeds_of (all_sized es)) ≡ length es
  feeds_many es = length-map (all_sized es) (λ (p : Sized F). p.0) ∙ length-map es sized

  -- what all kept feeds are, the one at a place is
  pub kept_at : (P : F → Type 0) (es : List (Entry F)) (i : ℕ) (e : Entry F) → All P (kept_in (feeds_of (all_sized es))) → i < length es → e ≡ slice_index_or es i e → P e.kept
  kept_at P es i e all lt read =
      let here : P (slice_index_or (kept_in (feeds_of (all_sized es))) i e.kept) = all i e.kept (omega (arith, lt, feeds_many es, length-map (feeds_of (all_sized es)) (λ (f : Feed F Plain). f.kept))) in
      subst P (get_or-map (λ (f : Feed F Plain). f.kept) (feeds_of (all_sized es)) i (seen e) e.kept (omega (arith, lt, feeds_many es)) ∙ ap (λ (f : Feed F Plain). f.kept) (feed_at es i e lt ∙ ap seen (sym read))) here

  -- an entry that is seen as it was leaves all as they are seen
  pub sized_set : (es : List (Entry F)) (i : ℕ) (e g : Entry F) → i < length es → e ≡ slice_index_or es i e → sized g ≡ sized e → all_sized (slice_set es i g) ≡ all_sized es
  sized_set es i e g lt read same =
      map-set sized es i g ∙ (ap (slice_set (all_sized es) i) (same ∙ (ap sized read ∙ sym (get_or-map sized es i e (sized e) lt))) ∙ set-get_or (all_sized es) i (sized e))

  pub kept_now : (P : F → Type 0) (es was : List (Entry F)) (i : ℕ) (d : Entry F) → All P (kept_in (feeds_of (all_sized was))) → all_sized es ≡ all_sized was → i < length es → P (slice_index_or es i d).kept
  kept_now P es was i d all same lt =
      kept_at P es i (slice_index_or es i d) (subst (λ (t : List (Sized F)). All P (kept_in (feeds_of t))) (sym same) all) lt (get_or_default es i d (slice_index_or es i d) lt)

  pub sized_now : (es was : List (Entry F)) (i : ℕ) (d g : Entry F) → all_sized es ≡ all_sized was → i < length es → sized g ≡ sized (slice_index_or es i d) → all_sized (slice_set es i g) ≡ all_sized was
  sized_now es was i d g same lt is = sized_set es i (slice_index_or es i d) g lt (get_or_default es i d (slice_index_or es i d) lt) is ∙ same

  not_found_at : (b : Bool) (owner number : ℕ) (f : Feed F Plain) (fs : List (Feed F Plain)) → is_of owner number f ≡ b → b ≡ false → find_feed owner number (f ∷ fs) ≡ find_feed owner number fs
  not_found_at b owner number f fs is other = rw (is ∙ other) refl

  -- where the one at this place is another, it is sought in the rest
  pub seek_more : (owner number : ℕ) (es : List (Entry F)) (i : ℕ) (e : Entry F) → i < length es → is_of owner number (seen (slice_index_or es i e)) ≡ false
      → find_feed owner number (feeds_of (all_sized (drop i es))) ≡ find_feed owner number (feeds_of (all_sized (drop (i + 1) es)))
  seek_more owner number es i e lt other =
      at_drop_more (λ (t : List (Entry F)). find_feed owner number (feeds_of (all_sized t))) es i e lt
      ∙ not_found_at false owner number (seen (slice_index_or es i e)) (feeds_of (all_sized (drop (i + 1) es))) other refl

  -- the queues before this place have room for what their shadows have
  abbrev pub Roomy : List (Entry F) → List (Shadow F) → ℕ → Type 0
  Roomy es ss k = (j : ℕ) (e : Entry F) (s : Shadow F) → j < k → j < length es → IsRoomFor (length (slice_index_or ss j s).items.items) (slice_index_or es j e).queue

  pub roomy_one : (es : List (Entry F)) (ss : List (Shadow F)) (k : ℕ) (g : Entry F) (t : Shadow F) → Roomy es ss k → k < length es → k < length ss → t ≡ slice_index_or ss k t → IsRoomFor (length t.items.items) g.queue → Roomy (slice_set es k g) ss (k + 1)
  roomy_one es ss k g t r lt low read room = λ j e s below inside. elim (cases_eq j k) [
    | inl same ↦ subst (λ n. IsRoomFor (length (slice_index_or ss n s).items.items) (slice_index_or (slice_set es k g) n e).queue) (sym same)
        (subst (λ (y : Shadow F × Entry F). IsRoomFor (length y.0.items.items) y.1.queue) (λ i. ((read ∙ get_or_default ss k t s low) i, sym (get_or-set_same es k g e lt) i)) room)
    | inr other ↦ subst (λ (y : Entry F). IsRoomFor (length (slice_index_or ss j s).items.items) y.queue) (sym (get_or-set_other es k j g e other)) (r j e s (omega (arith, below, other)) (omega (arith, inside, length-set es k g)))
  ]
