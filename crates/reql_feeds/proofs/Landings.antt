-- Feeds that become what their shadows say, the last first.
use Rattle.std.proofs.Common.{◌≡◌, ◌<◌, ◌≤◌, ℕ, zero, suc, List, [], ◌∷◌, ◌++◌, length, refl, sym, ap, subst, ◌∙◌, arith, inl, inr}
use Rattle.std.specs.Prelude.{slice_index_or, slice_set, take}
use Rattle.std.specs.List.{All}
use Rattle.std.proofs.lemmas.List.Elements.{All-nil, All-cons, All-head, All-tail}
use Rattle.std.proofs.lemmas.Bool.{cases_eq}
use Rattle.std.proofs.lemmas.List.{get_or-set_same, get_or-set_other, length-set, get_or_default, get_or_push, get_or-take, length_push, take_all, take_at, take-take}
use Rattle.reql_datum.specs.Plain.{Plain}
use Rattle.reql_table_spec.specs.Table.{Held}
use Rattle.reql_table_machine_spec.specs.Feeds.{Feed}
use Rattle.reql_feeds.specs.Ahead.{next_kept, ahead, all_ahead, IsDraft}
use Rattle.reql_feeds.specs.Keeps.{feeds_of, IsSized, at_least_one}
use Rattle.reql_feeds.specs.Seen.{seen, sized, all_sized}
use Rattle.reql_feeds.specs.Shadows.{pending, all_pending}
use Rattle.reql_feeds.specs.declared.entry.Entry.{Entry}
use Rattle.reql_feeds.specs.declared.shadow.Shadow.{Shadow}
use Rattle.reql_feeds.proofs.Drafts.{ahead_kept}

module _ {F : Type 0} (held : F → Held) where
  -- the feed of an entry has become what its shadow says
  pub record Lands (e : Entry F) (s : Shadow F) (g : Entry F) : Type 0 where
    pub feed : seen g ≡ ahead held (seen e) (pending s)
    pub size : g.queue.size ≡ e.queue.size

  -- the entries from where the shadows end have become what those say, and the others wait
  pub record Landing (was now : List (Entry F)) (all left : List (Shadow F)) : Type 0 where
    pub many : length now ≡ length was
    pub shadows : length all ≡ length was
    pub within : length left ≤ length all
    pub left_is : left ≡ take (length left) all
    pub landed : (j : ℕ) (e : Entry F) (s : Shadow F) → length left ≤ j → j < length was → Lands (slice_index_or was j e) (slice_index_or all j s) (slice_index_or now j e)
    pub rest : (j : ℕ) (e : Entry F) → j < length left → slice_index_or now j e ≡ slice_index_or was j e

  pub landing_begin : (was : List (Entry F)) (all : List (Shadow F)) → length all ≡ length was → Landing was was all all
  landing_begin was all many = record {
    many = refl;
    shadows = many;
    within = omega arith;
    left_is = sym (take_all (length all) all (omega arith));
    landed = λ j e s low lt. absurd (omega (arith, low, lt, many));
    rest = λ j e lt. refl;
  }

  -- the last shadow that is left is that of its place
  pub shadow_at : (was now : List (Entry F)) (all left : List (Shadow F)) (s : Shadow F) → Landing was now all (left ++ s ∷ []) → (d : Shadow F) → slice_index_or all (length left) d ≡ s
  shadow_at was now all left s l d =
      let many = length_push left s in
      sym (get_or-take (length (left ++ s ∷ [])) all (length left) d (omega (arith, many))) ∙ (ap (λ t. slice_index_or t (length left) d) (sym l.left_is) ∙ get_or_push left s d (length left) refl)

  pub landing_step : (was now : List (Entry F)) (all left : List (Shadow F)) (s : Shadow F) (e g : Entry F) → Landing was now all (left ++ s ∷ []) → e ≡ slice_index_or now (length left) e → Lands e s g → Landing was (slice_set now (length left) g) all left
  landing_step was now all left s e g l read lands =
      let many = length_push left s in
      let inside = l.within in
      let low : length left < length was = omega (arith, many, inside, l.shadows) in
      let there : length left < length now = omega (arith, low, l.many) in
      record {
        many = length-set now (length left) g ∙ l.many;
        shadows = l.shadows;
        within = omega (arith, many, inside);
        left_is = sym (take_at left (s ∷ []) (length left) refl) ∙ (ap (take (length left)) l.left_is ∙ take-take (length left) (length (left ++ s ∷ [])) all (omega (arith, many)));
        landed = λ j d u le lt. elim (cases_eq j (length left)) [
          | inl same ↦ subst (λ n. Lands (slice_index_or was n d) (slice_index_or all n u) (slice_index_or (slice_set now (length left) g) n d)) (sym same)
              (subst (λ (y : Entry F × Shadow F × Entry F). Lands y.0 y.1 y.2)
              (λ i. ((read ∙ (get_or_default now (length left) e d there ∙ l.rest (length left) d (omega (arith, many)))) i, sym (shadow_at was now all left s l u) i, sym (get_or-set_same now (length left) g d there) i)) lands)
          | inr other ↦ subst (λ y. Lands (slice_index_or was j d) (slice_index_or all j u) y) (sym (get_or-set_other now (length left) j g d other)) (l.landed j d u (omega (arith, many, le, other)) lt)
        ];
        rest = λ j d lt. get_or-set_other now (length left) j g d (λ is. omega (arith, is, lt)) ∙ l.rest j d (omega (arith, many, lt));
      }

  lands_all : (was now : List (Entry F)) (all : List (Shadow F)) → length now ≡ length was → length all ≡ length was
      → ((j : ℕ) (e : Entry F) (s : Shadow F) → j < length was → Lands (slice_index_or was j e) (slice_index_or all j s) (slice_index_or now j e))
      → feeds_of (all_sized now) ≡ all_ahead held (feeds_of (all_sized was)) (all_pending all)
  lands_all [] [] all m n h = refl
  lands_all [] (g ∷ now) all m n h = absurd (omega (arith, m))
  lands_all (e ∷ was) [] all m n h = absurd (omega (arith, m))
  lands_all (e ∷ was) (g ∷ now) [] m n h = absurd (omega (arith, n))
  lands_all (e ∷ was) (g ∷ now) (s ∷ all) m n h =
      let first = h 0 e s (omega arith) in
      let rest = lands_all was now all (omega (arith, m)) (omega (arith, n)) (λ j d u lt. h (suc j) d u (omega (arith, lt))) in
      λ i. first.feed i ∷ rest i

  pub landed_feeds : (was now : List (Entry F)) (all : List (Shadow F)) → Landing was now all [] → feeds_of (all_sized now) ≡ all_ahead held (feeds_of (all_sized was)) (all_pending all)
  landed_feeds was now all l = lands_all was now all l.many l.shadows (λ j e s lt. l.landed j e s (omega arith) lt)

  -- the feed of this place is asked for as it was
  pub asked_at : (es : List (Entry F)) (ss : List (Shadow F)) (j : ℕ) (e : Entry F) (s : Shadow F) → IsDraft held (feeds_of (all_sized es)) (all_pending ss) → j < length es
      → held (next_kept (seen (slice_index_or es j e)) (pending (slice_index_or ss j s))) ≡ held (slice_index_or es j e).kept
  asked_at [] ss j e s d lt = absurd (omega (arith, lt))
  asked_at (f ∷ es) [] j e s d lt = absurd d
  asked_at (f ∷ es) (t ∷ ss) zero e s d lt = d.0
  asked_at (f ∷ es) (t ∷ ss) (suc j) e s d lt = asked_at es ss j e s d.1 (omega (arith, lt))

  lands_sized : (e : Entry F) (s : Shadow F) (g : Entry F) → Lands e s g → held (next_kept (seen e) (pending s)) ≡ held e.kept → IsSized held (sized e) → IsSized held (sized g)
  lands_sized e s g l asked size =
      let kept : g.kept ≡ next_kept (seen e) (pending s) = ap (λ (f : Feed F Plain). f.kept) l.feed ∙ ahead_kept held (seen e) (pending s) in
      l.size ∙ (size ∙ ap (λ (h : Held). at_least_one h.spec.size) (sym (ap held kept ∙ asked)))

  sizes_all : (was now : List (Entry F)) (all : List (Shadow F)) → length now ≡ length was → length all ≡ length was
      → ((j : ℕ) (e : Entry F) (s : Shadow F) → j < length was → Lands (slice_index_or was j e) (slice_index_or all j s) (slice_index_or now j e))
      → IsDraft held (feeds_of (all_sized was)) (all_pending all) → All (IsSized held) (all_sized was) → All (IsSized held) (all_sized now)
  sizes_all [] [] all m n h d sizes = All-nil (IsSized held)
  sizes_all [] (g ∷ now) all m n h d sizes = absurd (omega (arith, m))
  sizes_all (e ∷ was) [] all m n h d sizes = absurd (omega (arith, m))
  sizes_all (e ∷ was) (g ∷ now) [] m n h d sizes = absurd (omega (arith, n))
  sizes_all (e ∷ was) (g ∷ now) (s ∷ all) m n h d sizes =
      All-cons (IsSized held) (sized g) (all_sized now) (lands_sized e s g (h 0 e s (omega arith)) d.0 (All-head (IsSized held) (sized e) (all_sized was) sizes))
      (sizes_all was now all (omega (arith, m)) (omega (arith, n)) (λ j f u lt. h (suc j) f u (omega (arith, lt))) d.1 (All-tail (IsSized held) (sized e) (all_sized was) sizes))

  pub landed_sizes : (was now : List (Entry F)) (all : List (Shadow F)) → Landing was now all [] → IsDraft held (feeds_of (all_sized was)) (all_pending all) → All (IsSized held) (all_sized was) → All (IsSized held) (all_sized now)
  landed_sizes was now all l d sizes = sizes_all was now all l.many l.shadows (λ j e s lt. l.landed j e s (omega arith) lt) d sizes
