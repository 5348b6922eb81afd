-- One feed is taken from, or closed.
use Rattle.std.proofs.Common.{◌≡◌, ◌<◌, ◌++◌, ℕ, suc, List, [], ◌∷◌, length, map, cond, Bool, true, false, Some, option_map, refl, sym, ap, subst, ◌∙◌, arith}
use Rattle.std.specs.Prelude.{slice_index_or, slice_set, take, drop}
use Rattle.std.specs.List.{All, remove}
use Rattle.std.proofs.lemmas.List.{map-set, map-append, take-map, drop-map, length-map, get_or-map}
use Rattle.std.proofs.lemmas.List.Elements.{All-append, All-take, All-drop, All-set, All-push}
use Rattle.reql_datum.specs.Plain.{Plain}
use Rattle.reql_table_spec.specs.Table.{Held}
use Rattle.reql_table_machine_spec.specs.Feeds.{Feed, is_of, find_feed}
use Rattle.reql_feeds.specs.Keeps.{Sized, feeds_of, IsSized, Keeps, Rise}
use Rattle.reql_feeds.specs.Record.{record_of, records, kept_in, left, after_take, closed}
use Rattle.reql_feeds.specs.Rest.{rest_in, rest_of, all_rest}
use Rattle.reql_feeds.specs.Seen.{seen, sized, all_sized}
use Rattle.reql_feeds.specs.declared.entry.Entry.{Entry}
use Rattle.reql_feeds.proofs.Places.{feed_at, feeds_many}
use Rattle.reql_feeds.proofs.Rising.{found_at, mapped_at, closed_at, rise_numbers, rise_removed, rise_last, found_record}

map_remove : {A B : Type 0} (f : A → B) (xs : List A) (i : ℕ) → map f (remove xs i) ≡ remove (map f xs) i
map_remove f xs i = map-append f (take i xs) (drop (suc i) xs) ∙ (λ k. sym (take-map f i xs) k ++ sym (drop-map f (suc i) xs) k)

module _ {F : Type 0} (held : F → Held) where
  taken_both : (b : Bool) (max : ℕ) (f : Feed F Plain) → record_of held (cond b (rest_in held max f) f) ≡ cond b (left max (record_of held f)) (record_of held f)
  taken_both true max f = refl
  taken_both false max f = refl

  pub taken_records : (owner number max : ℕ) (fs : List (Feed F Plain)) → records held (all_rest held owner number max fs) ≡ after_take owner number max (records held fs)
  taken_records owner number max [] = refl
  taken_records owner number max (f ∷ fs) = λ i. taken_both (is_of owner number f) max f i ∷ taken_records owner number max fs i

  kept_both : (b : Bool) (max : ℕ) (f : Feed F Plain) → (cond b (rest_in held max f) f).kept ≡ f.kept
  kept_both true max f = refl
  kept_both false max f = refl

  pub taken_kept : (owner number max : ℕ) (fs : List (Feed F Plain)) → kept_in (all_rest held owner number max fs) ≡ kept_in fs
  taken_kept owner number max [] = refl
  taken_kept owner number max (f ∷ fs) = λ i. kept_both (is_of owner number f) max f i ∷ taken_kept owner number max fs i

  number_both : (b : Bool) (max : ℕ) (f : Feed F Plain) → (cond b (rest_in held max f) f).number ≡ f.number
  number_both true max f = refl
  number_both false max f = refl

  numbers_taken : (owner number max : ℕ) (fs : List (Feed F Plain)) → map (λ (f : Feed F Plain). f.number) (all_rest held owner number max fs) ≡ map (λ (f : Feed F Plain). f.number) fs
  numbers_taken owner number max [] = refl
  numbers_taken owner number max (f ∷ fs) = λ i. number_both (is_of owner number f) max f i ∷ numbers_taken owner number max fs i

  -- the feed at a place was taken from
  pub take_place : (owner number max : ℕ) (es : List (Entry F)) (place : ℕ) (d g : Entry F) → Keeps held (all_sized es) → place < length es → is_of owner number (seen (slice_index_or es place d)) ≡ true
      → sized g ≡ rest_of held max (sized (slice_index_or es place d)) → feeds_of (all_sized (slice_set es place g)) ≡ all_rest held owner number max (feeds_of (all_sized es))
  take_place owner number max es place d g k lt is rest =
      let here = feed_at es place d lt in
      let low : place < length (feeds_of (all_sized es)) = omega (arith, lt, feeds_many es) in
      ap feeds_of (map-set sized es place g) ∙ (map-set (λ (p : Sized F). p.0) (all_sized es) place (sized g)
      ∙ (ap (slice_set (feeds_of (all_sized es)) place) (ap (λ (p : Sized F). p.0) rest ∙ ap (rest_in held max) (sym here))
      ∙ sym (mapped_at owner number (rest_in held max) (feeds_of (all_sized es)) place (seen d) k.rise low (ap (is_of owner number) here ∙ is))))

  pub take_keeps : (owner number max : ℕ) (es : List (Entry F)) (place : ℕ) (d g : Entry F) → Keeps held (all_sized es) → place < length es → is_of owner number (seen (slice_index_or es place d)) ≡ true
      → sized g ≡ rest_of held max (sized (slice_index_or es place d)) → Keeps held (all_sized (slice_set es place g))
  take_keeps owner number max es place d g k lt is rest =
      let new = take_place owner number max es place d g k lt is rest in
      let here : IsSized held (sized (slice_index_or es place d)) = subst (IsSized held) (get_or-map sized es place d (sized d) lt) (k.sizes place (sized d) (omega (arith, lt, length-map es sized))) in
      let size : IsSized held (sized g) = subst (IsSized held) (sym rest) here in
      record {
        rise = rise_numbers (feeds_of (all_sized es)) (feeds_of (all_sized (slice_set es place g))) (ap (map (λ (f : Feed F Plain). f.number)) new ∙ numbers_taken owner number max (feeds_of (all_sized es))) k.rise;
        sizes = subst (All (IsSized held)) (sym (map-set sized es place g)) (All-set (IsSized held) (all_sized es) place (sized g) size k.sizes);
      }

  pub found_place : (owner number : ℕ) (es : List (Entry F)) (place : ℕ) (d : Entry F) → Keeps held (all_sized es) → place < length es → is_of owner number (seen (slice_index_or es place d)) ≡ true
      → find_feed owner number (feeds_of (all_sized es)) ≡ Some (seen (slice_index_or es place d))
  found_place owner number es place d k lt is =
      let here = feed_at es place d lt in
      found_at owner number (feeds_of (all_sized es)) place (seen d) k.rise (omega (arith, lt, feeds_many es)) (ap (is_of owner number) here ∙ is) ∙ ap Some here

  pub found_record_at : (owner number : ℕ) (es : List (Entry F)) (place : ℕ) (d : Entry F) → Keeps held (all_sized es) → place < length es → is_of owner number (seen (slice_index_or es place d)) ≡ true
      → find_feed owner number (records held (feeds_of (all_sized es))) ≡ Some (record_of held (seen (slice_index_or es place d)))
  found_record_at owner number es place d k lt is = found_record owner number held (feeds_of (all_sized es)) ∙ ap (option_map (record_of held)) (found_place owner number es place d k lt is)

  pub close_place : (owner number : ℕ) (es : List (Entry F)) (place : ℕ) (d : Entry F) → Keeps held (all_sized es) → place < length es → is_of owner number (seen (slice_index_or es place d)) ≡ true
      → feeds_of (all_sized (remove es place)) ≡ closed owner number (feeds_of (all_sized es))
  close_place owner number es place d k lt is =
      let here = feed_at es place d lt in
      ap feeds_of (map_remove sized es place) ∙ (map_remove (λ (p : Sized F). p.0) (all_sized es) place
      ∙ sym (closed_at owner number (feeds_of (all_sized es)) place (seen d) k.rise (omega (arith, lt, feeds_many es)) (ap (is_of owner number) here ∙ is)))

  pub close_keeps : (es : List (Entry F)) (place : ℕ) → Keeps held (all_sized es) → Keeps held (all_sized (remove es place))
  close_keeps es place k = record {
    rise = subst Rise (sym (ap feeds_of (map_remove sized es place) ∙ map_remove (λ (p : Sized F). p.0) (all_sized es) place)) (rise_removed (feeds_of (all_sized es)) place k.rise);
    sizes = subst (All (IsSized held)) (sym (map_remove sized es place)) (All-append (IsSized held) (take place (all_sized es)) (drop (suc place) (all_sized es)) (All-take (IsSized held) place (all_sized es) k.sizes) (All-drop (IsSized held) (suc place) (all_sized es) k.sizes));
  }

  -- one more is open
  pub open_keeps : (es : List (Entry F)) (e : Entry F) → Keeps held (all_sized es) → All (λ (f : Feed F Plain). f.number < e.number) (feeds_of (all_sized es)) → IsSized held (sized e) → Keeps held (all_sized (es ++ e ∷ []))
  open_keeps es e k below size = record {
    rise = subst Rise (sym (ap feeds_of (map-append sized es (e ∷ [])) ∙ map-append (λ (p : Sized F). p.0) (all_sized es) (sized e ∷ []))) (rise_last (feeds_of (all_sized es)) (seen e) k.rise (λ i d lt. below i d lt));
    sizes = subst (All (IsSized held)) (sym (map-append sized es (e ∷ []))) (All-push (IsSized held) (all_sized es) (sized e) k.sizes size);
  }

  pub open_feeds : (es : List (Entry F)) (e : Entry F) → feeds_of (all_sized (es ++ e ∷ [])) ≡ feeds_of (all_sized es) ++ seen e ∷ []
  open_feeds es e = ap feeds_of (map-append sized es (e ∷ [])) ∙ map-append (λ (p : Sized F). p.0) (all_sized es) (sized e ∷ [])
