-- Feeds that are told of changes beside themselves.
use Rattle.std.proofs.Common.{◌≡◌, ◌+◌, ◌<◌, ◌≤◌, ℕ, zero, suc, List, [], ◌∷◌, ◌++◌, map, length, None, refl, sym, ap, subst, ◌∙◌, arith, inl, inr}
use Rattle.std.specs.Prelude.{slice_index_or, slice_set}
use Rattle.std.specs.List.{All, AllZip}
use Rattle.std.proofs.lemmas.Bool.{cases_eq}
use Rattle.std.proofs.lemmas.List.{get_or-set_same, get_or-set_other, length-set, get_or_default}
use Rattle.reql_datum.specs.Plain.{Plain}
use Rattle.reql_datum.specs.View.{plain}
use Rattle.reql_table_spec.specs.Table.{Held}
use Rattle.reql_table_machine_spec.specs.Feeds.{Feed, push_all}
use Rattle.reql_term.specs.Views.{Document}
use Rattle.reql_write_spec.specs.Treated.{Changed}
use Rattle.reql_feeds.specs.Ahead.{Pending, next_kept, ahead, all_ahead, forecast, IsDraft}
use Rattle.reql_feeds.specs.Committing.{Forecasts}
use Rattle.reql_feeds.specs.Hearing.{Hears}
use Rattle.reql_feeds.specs.Keeps.{Sized, feeds_of}
use Rattle.reql_feeds.specs.Record.{record_of, records, kept_in}
use Rattle.reql_feeds.specs.Seen.{seen, all_sized}
use Rattle.reql_feeds.specs.Shadows.{pending, all_pending}
use Rattle.reql_feeds.specs.Told.{stamped, noticed, Turns}
use Rattle.reql_feeds.specs.Turn.{due}
use Rattle.reql_feeds.specs.declared.entry.Entry.{Entry}
use Rattle.reql_feeds.specs.declared.prepared.Prepared.{Prepared}
use Rattle.reql_feeds.specs.declared.shadow.Shadow.{Shadow}
use Rattle.reql_feeds.proofs.Turned.{told_all, stand_all, find_all}
use Rattle.reql_feeds.proofs.Pushes.{kept_pushed, number_pushed, push_append, record_pushed}

module _ {F : Type 0} (held : F → Held) where
  -- a draft of nothing
  pub none_ahead : (es : List (Entry F)) (ss : List (Shadow F)) → length ss ≡ length es → ((i : ℕ) (s : Shadow F) → i < length ss → pending (slice_index_or ss i s) ≡ record { kept = None; items = [] })
      → all_ahead held (feeds_of (all_sized es)) (all_pending ss) ≡ feeds_of (all_sized es)
  none_ahead [] ss many none = refl
  none_ahead (e ∷ es) [] many none = refl
  none_ahead (e ∷ es) (s ∷ ss) many none =
      let first : ahead held (seen e) (pending s) ≡ seen e = ap (ahead held (seen e)) (none 0 s (omega arith)) in
      let rest = none_ahead es ss (omega (arith, many)) (λ i d lt. none (suc i) d (omega (arith, lt))) in
      λ i. first i ∷ rest i

  pub none_draft : (es : List (Entry F)) (ss : List (Shadow F)) → length ss ≡ length es → ((i : ℕ) (s : Shadow F) → i < length ss → pending (slice_index_or ss i s) ≡ record { kept = None; items = [] })
      → IsDraft held (feeds_of (all_sized es)) (all_pending ss)
  none_draft [] [] many none = tt
  none_draft [] (s ∷ ss) many none = absurd (omega (arith, many))
  none_draft (e ∷ es) [] many none = absurd (omega (arith, many))
  none_draft (e ∷ es) (s ∷ ss) many none =
      let first : held (next_kept (seen e) (pending s)) ≡ held e.kept = ap (λ (p : Pending F). held (next_kept (seen e) p)) (none 0 s (omega arith)) in
      (first, none_draft es ss (omega (arith, many)) (λ i d lt. none (suc i) d (omega (arith, lt))))

  pub draft_many : (es : List (Entry F)) (ss : List (Shadow F)) → IsDraft held (feeds_of (all_sized es)) (all_pending ss) → length ss ≡ length es
  draft_many [] [] d = refl
  draft_many [] (s ∷ ss) d = absurd d
  draft_many (e ∷ es) [] d = absurd d
  draft_many (e ∷ es) (s ∷ ss) d = let rest = draft_many es ss d.1 in omega (arith, rest)

  pub ahead_kept : (f : Feed F Plain) (p : Pending F) → (ahead held f p).kept ≡ next_kept f p
  ahead_kept f p = kept_pushed (held (next_kept f p)).spec.size p.items (record f { kept = next_kept f p })

  -- what all feeds are as they will be, the one at a place is
  pub next_at : (P : F → Type 0) (es : List (Entry F)) (ss : List (Shadow F)) (i : ℕ) (e : Entry F) (s : Shadow F) → length ss ≡ length es → i < length es
      → ((k : ℕ) (d : F) → k < length (kept_in (all_ahead held (feeds_of (all_sized es)) (all_pending ss))) → P (slice_index_or (kept_in (all_ahead held (feeds_of (all_sized es)) (all_pending ss))) k d))
      → P (next_kept (seen (slice_index_or es i e)) (pending (slice_index_or ss i s)))
  next_at P [] ss i e s many lt all = absurd (omega (arith, lt))
  next_at P (f ∷ es) [] i e s many lt all = absurd (omega (arith, many))
  next_at P (f ∷ es) (t ∷ ss) zero e s many lt all = subst P (ahead_kept (seen f) (pending t)) (all 0 f.kept (omega arith))
  next_at P (f ∷ es) (t ∷ ss) (suc i) e s many lt all = next_at P es ss i e s (omega (arith, many)) (omega (arith, lt)) (λ k d below. all (suc k) d (omega (arith, below)))

module _ {F S T : Type 0} (held : F → Held) (fits : F → List Document → Type 0) (brings : F → S → List Document → Type 0) (reads : F → T → Type 0) (x : Changed) (after : List Document) (stamp : ℕ) where
  abbrev Told : Sized F → Sized F → Type 0
  Told = Turns held fits reads (noticed stamp x after) after

  pushed_as : (g : Feed Held Plain) (h : Held) (items : List Plain) → g.kept ≡ h → items ≡ due h x after → push_all h.spec.size g (stamped (suc stamp) items) ≡ noticed stamp x after g
  pushed_as g h items is due_is = (λ i. push_all h.spec.size g (stamped (suc stamp) (due_is i))) ∙ (λ i. push_all (sym is i).spec.size g (stamped (suc stamp) (due (sym is i) x after)))

  -- where the change is nothing
  pub hears_nothing : (f : Feed F Plain) (p q : Pending F) → q ≡ p → [] ≡ due (held (next_kept f p)) x after → fits (next_kept f p) after → Told (forecast held f p) (forecast held f q)
  hears_nothing f p q same none stays =
      let kept = ahead_kept held f p in
      subst (λ (r : Pending F). Told (forecast held f p) (forecast held f r)) (sym same) (record {
        told = pushed_as (record_of held (ahead held f p)) (held (next_kept f p)) [] (ap held kept) none;
        stands = subst (λ k. fits k after) (sym kept) stays;
        finds = λ t r. r;
        asked = refl;
        number = refl;
        size = refl;
      })

  -- where it is something
  pub hears_items : (f : Feed F Plain) (p q : Pending F) (r : Prepared S) (next : ℕ) → next ≡ stamp + 1 → map plain r.items ≡ due (held (next_kept f p)) x after → brings (next_kept f p) r.step after
      → Hears held fits brings reads f p r next q → Told (forecast held f p) (forecast held f q)
  hears_items f p q r next is items comes h =
      let before = ahead_kept held f p in
      let kept = ahead_kept held f q in
      let after_it : next ≡ suc stamp = omega (arith, is) in
      let first : record_of held (ahead held f q) ≡ push_all (held (next_kept f q)).spec.size (record_of held (record f { kept = next_kept f q })) q.items =
      record_pushed held (held (next_kept f q)).spec.size q.items (record f { kept = next_kept f q }) in
      let second : push_all (held (next_kept f q)).spec.size (record_of held (record f { kept = next_kept f q })) q.items ≡ push_all (held (next_kept f p)).spec.size (record_of held (record f { kept = next_kept f p })) (p.items ++ stamped (suc stamp) (map plain r.items)) =
      λ i. push_all (h.asked i).spec.size (record { owner = f.owner; number = f.number; kept = h.asked i; opened = f.opened; queue = f.queue; skipped = f.skipped; last = f.last }) ((h.items ∙ ap (λ n. p.items ++ stamped n (map plain r.items)) after_it) i) in
      let third = push_append (held (next_kept f p)).spec.size p.items (stamped (suc stamp) (map plain r.items)) (record_of held (record f { kept = next_kept f p })) in
      let fourth : push_all (held (next_kept f p)).spec.size (push_all (held (next_kept f p)).spec.size (record_of held (record f { kept = next_kept f p })) p.items) (stamped (suc stamp) (map plain r.items)) ≡ push_all (held (next_kept f p)).spec.size (record_of held (ahead held f p)) (stamped (suc stamp) (map plain r.items)) =
      ap (λ (g : Feed Held Plain). push_all (held (next_kept f p)).spec.size g (stamped (suc stamp) (map plain r.items))) (sym (record_pushed held (held (next_kept f p)).spec.size p.items (record f { kept = next_kept f p }))) in
      let fifth = pushed_as (record_of held (ahead held f p)) (held (next_kept f p)) (map plain r.items) (ap held before) items in
      record {
        told = first ∙ (second ∙ (third ∙ (fourth ∙ fifth)));
        stands = subst (λ k. fits k after) (sym kept) (h.brought after comes);
        finds = λ t k. subst (λ y. reads y t) (sym kept) (h.finds t (subst (λ y. reads y t) before k));
        asked = ap held kept ∙ (h.asked ∙ sym (ap held before));
        number = number_pushed (held (next_kept f q)).spec.size q.items (record f { kept = next_kept f q }) ∙ sym (number_pushed (held (next_kept f p)).spec.size p.items (record f { kept = next_kept f p }));
        size = refl;
      }

  -- the shadows before this place have heard of the change, and the others are as they were
  pub record Heard (es : List (Entry F)) (was now : List (Shadow F)) (k : ℕ) : Type 0 where
    pub many : length now ≡ length was
    pub heard : (j : ℕ) (e : Entry F) (s : Shadow F) → j < k → j < length es
        → Told (forecast held (seen (slice_index_or es j e)) (pending (slice_index_or was j s))) (forecast held (seen (slice_index_or es j e)) (pending (slice_index_or now j s)))
    pub rest : (j : ℕ) (s : Shadow F) → k ≤ j → slice_index_or now j s ≡ slice_index_or was j s

  pub heard_none : (es : List (Entry F)) (was : List (Shadow F)) → Heard es was was 0
  heard_none es was = record { many = refl; heard = λ j e s lt. absurd (omega (arith, lt)); rest = λ j s le. refl }

  pub heard_one : (es : List (Entry F)) (was now : List (Shadow F)) (k : ℕ) (e : Entry F) (s t : Shadow F) → Heard es was now k → length was ≡ length es → k < length es → e ≡ slice_index_or es k e → s ≡ slice_index_or now k s
      → Told (forecast held (seen e) (pending s)) (forecast held (seen e) (pending t)) → Heard es was (slice_set now k t) (k + 1)
  heard_one es was now k e s t h many lt entry shadow told =
      let low : k < length now = omega (arith, lt, many, h.many) in
      record {
        many = length-set now k t ∙ h.many;
        heard = λ j d u below in_entries. elim (cases_eq j k) [
          | inl same ↦ subst (λ n. Told (forecast held (seen (slice_index_or es n d)) (pending (slice_index_or was n u))) (forecast held (seen (slice_index_or es n d)) (pending (slice_index_or (slice_set now k t) n u)))) (sym same)
              (subst (λ (y : Entry F × Shadow F × Shadow F). Told (forecast held (seen y.0) (pending y.1)) (forecast held (seen y.0) (pending y.2)))
              (λ i. ((entry ∙ get_or_default es k e d lt) i, (shadow ∙ (get_or_default now k s u low ∙ h.rest k u (omega arith))) i, sym (get_or-set_same now k t u low) i)) told)
          | inr other ↦ subst (λ y. Told (forecast held (seen (slice_index_or es j d)) (pending (slice_index_or was j u))) (forecast held (seen (slice_index_or es j d)) (pending y)))
              (sym (get_or-set_other now k j t u other)) (h.heard j d u (omega (arith, below, other)) in_entries)
        ];
        rest = λ j u le. get_or-set_other now k j t u (λ is. omega (arith, is, le)) ∙ h.rest j u (omega (arith, le));
      }

  pub heard_all : (es : List (Entry F)) (was now : List (Shadow F)) (k : ℕ) → Heard es was now k → length es ≤ k → Forecasts held fits reads (noticed stamp x after) after es was now
  heard_all es was now k h le = record { many = h.many; turned = λ j e s lt. h.heard j e s (omega (arith, lt, le)) lt }

module _ {F T : Type 0} (held : F → Held) (fits : F → List Document → Type 0) (reads : F → T → Type 0) (turn : Feed Held Plain → Feed Held Plain) (after : List Document) where
  abbrev Becomes : Sized F → Sized F → Type 0
  Becomes = Turns held fits reads turn after

  -- the feeds as they will be, as turns are said of them
  abbrev fore : List (Entry F) → List (Shadow F) → List (Sized F)
  fore [] ss = []
  fore (e ∷ es) [] = (seen e, 0) ∷ fore es []
  fore (e ∷ es) (s ∷ ss) = forecast held (seen e) (pending s) ∷ fore es ss

  fore_none : (es : List (Entry F)) → feeds_of (fore es []) ≡ feeds_of (all_sized es)
  fore_none [] = refl
  fore_none (e ∷ es) = ap (λ t. seen e ∷ t) (fore_none es)

  fore_is : (es : List (Entry F)) (ss : List (Shadow F)) → feeds_of (fore es ss) ≡ all_ahead held (feeds_of (all_sized es)) (all_pending ss)
  fore_is [] ss = refl
  fore_is (e ∷ es) [] = ap (λ t. seen e ∷ t) (fore_none es)
  fore_is (e ∷ es) (s ∷ ss) = ap (λ t. ahead held (seen e) (pending s) ∷ t) (fore_is es ss)

  fore_turned : (es : List (Entry F)) (was now : List (Shadow F)) → length was ≡ length es → length now ≡ length es
      → ((k : ℕ) (e : Entry F) (s : Shadow F) → k < length es → Becomes (forecast held (seen (slice_index_or es k e)) (pending (slice_index_or was k s))) (forecast held (seen (slice_index_or es k e)) (pending (slice_index_or now k s))))
      → AllZip Becomes (fore es was) (fore es now)
  fore_turned [] was now m n h = tt
  fore_turned (e ∷ es) [] now m n h = absurd (omega (arith, m))
  fore_turned (e ∷ es) (s ∷ was) [] m n h = absurd (omega (arith, n))
  fore_turned (e ∷ es) (s ∷ was) (t ∷ now) m n h = (h 0 e s (omega arith), fore_turned es was now (omega (arith, m)) (omega (arith, n)) (λ k d u lt. h (suc k) d u (omega (arith, lt))))

  zip_of : (es : List (Entry F)) (was now : List (Shadow F)) → length was ≡ length es → Forecasts held fits reads turn after es was now → AllZip Becomes (fore es was) (fore es now)
  zip_of es was now many f = fore_turned es was now many (f.many ∙ many) f.turned

  pub forecast_told : (es : List (Entry F)) (was now : List (Shadow F)) → length was ≡ length es → Forecasts held fits reads turn after es was now
      → records held (all_ahead held (feeds_of (all_sized es)) (all_pending now)) ≡ map turn (records held (all_ahead held (feeds_of (all_sized es)) (all_pending was)))
  forecast_told es was now many f =
      ap (records held) (sym (fore_is es now)) ∙ (told_all held fits reads turn after (fore es was) (fore es now) (zip_of es was now many f) ∙ ap (λ t. map turn (records held t)) (fore_is es was))

  pub forecast_stands : (es : List (Entry F)) (was now : List (Shadow F)) → length was ≡ length es → Forecasts held fits reads turn after es was now → All (λ k. fits k after) (kept_in (all_ahead held (feeds_of (all_sized es)) (all_pending now)))
  forecast_stands es was now many f = subst (λ t. All (λ k. fits k after) (kept_in t)) (fore_is es now) (stand_all held fits reads turn after (fore es was) (fore es now) (zip_of es was now many f))

  pub forecast_finds : (es : List (Entry F)) (was now : List (Shadow F)) → length was ≡ length es → Forecasts held fits reads turn after es was now
      → (t : T) → All (λ k. reads k t) (kept_in (all_ahead held (feeds_of (all_sized es)) (all_pending was))) → All (λ k. reads k t) (kept_in (all_ahead held (feeds_of (all_sized es)) (all_pending now)))
  forecast_finds es was now many f t all =
      subst (λ l. All (λ k. reads k t) (kept_in l)) (fore_is es now) (find_all held fits reads turn after (fore es was) (fore es now) (zip_of es was now many f) t (subst (λ l. All (λ k. reads k t) (kept_in l)) (sym (fore_is es was)) all))

  draft_goes_on : (es : List (Entry F)) (was now : List (Shadow F)) → length was ≡ length es → length now ≡ length es
      → ((k : ℕ) (e : Entry F) (s : Shadow F) → k < length es → Becomes (forecast held (seen (slice_index_or es k e)) (pending (slice_index_or was k s))) (forecast held (seen (slice_index_or es k e)) (pending (slice_index_or now k s))))
      → IsDraft held (feeds_of (all_sized es)) (all_pending was) → IsDraft held (feeds_of (all_sized es)) (all_pending now)
  draft_goes_on [] [] [] m n h d = tt
  draft_goes_on [] [] (t ∷ now) m n h d = absurd (omega (arith, n))
  draft_goes_on [] (s ∷ was) now m n h d = absurd (omega (arith, m))
  draft_goes_on (e ∷ es) [] now m n h d = absurd (omega (arith, m))
  draft_goes_on (e ∷ es) (s ∷ was) [] m n h d = absurd (omega (arith, n))
  draft_goes_on (e ∷ es) (s ∷ was) (t ∷ now) m n h d =
      let first = h 0 e s (omega arith) in (
        ap held (sym (ahead_kept held (seen e) (pending t))) ∙ (first.asked ∙ (ap held (ahead_kept held (seen e) (pending s)) ∙ d.0)),
        draft_goes_on es was now (omega (arith, m)) (omega (arith, n)) (λ k f u lt. h (suc k) f u (omega (arith, lt))) d.1,
      )

  pub forecast_draft : (es : List (Entry F)) (was now : List (Shadow F)) → Forecasts held fits reads turn after es was now
      → IsDraft held (feeds_of (all_sized es)) (all_pending was) → IsDraft held (feeds_of (all_sized es)) (all_pending now)
  forecast_draft es was now f d = let many = draft_many held es was d in draft_goes_on es was now many (f.many ∙ many) f.turned d
