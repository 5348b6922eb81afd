-- The feed of an owner and number at the place where it was found, and none where it wasn't.
use Rattle.std.proofs.Common.{◌≡◌, ◌<◌, ℕ, List, [], ◌∷◌, length, Bool, true, ◌||◌, not, nat_eq, Some, None, option_map, refl, sym, ap, subst, ◌∙◌, arith}
use Rattle.std.specs.Prelude.{slice_index_or, slice_set}
use Rattle.std.specs.List.{remove}
use Rattle.std.specs.Option.{is_some}
use Rattle.reql_datum.specs.View.{plain}
use Rattle.reql_datum.specs.declared.datum.Datum.{Datum}
use Rattle.reql_table_spec.specs.Table.{Held}
use Rattle.reql_queue.specs.Queued.{is_none}
use Rattle.reql_queue.specs.Queued as queued
use Rattle.reql_queue.specs.Record.{all_shown}
use Rattle.reql_queue.specs.declared.queue.Taken.{Taken}
use Rattle.reql_table_machine_spec.specs.Feeds.{is_of, find_feed, has_something, is_none_queued}
use Rattle.reql_feeds.specs.Keeps.{feeds_of, Keeps}
use Rattle.reql_feeds.specs.Record.{record_of, records, batch, given, closed}
use Rattle.reql_feeds.specs.Rest.{rest_in, rest_of, all_rest}
use Rattle.reql_feeds.specs.Seen.{seen, sized, all_sized}
use Rattle.reql_feeds.specs.declared.entry.Entry.{Entry}
use Rattle.reql_feeds.proofs.Places.{sized_now}
use Rattle.reql_feeds.proofs.Rising.{found_record, mapped_none}
use Rattle.reql_feeds.proofs.Takes.{found_place, found_record_at, close_place, close_keeps, take_place, take_keeps}

shown_none : (items : List (ℕ × Datum)) → is_none_queued (all_shown plain items) ≡ is_none items
shown_none [] = refl
shown_none (i ∷ is) = refl

module _ {F : Type 0} where
  -- one of some entries
  some_entry : (es : List (Entry F)) (i : ℕ) → i < length es → Entry F
  some_entry [] i lt = absurd (omega (arith, lt))
  some_entry (e ∷ es) i lt = e

module _ {F : Type 0} (held : F → Held) (owner number : ℕ) (es : List (Entry F)) where
  -- where there is none
  pub none_found : find_feed owner number (feeds_of (all_sized es)) ≡ None → find_feed owner number (records held (feeds_of (all_sized es))) ≡ None
  none_found none = found_record owner number held (feeds_of (all_sized es)) ∙ ap (option_map (record_of held)) none

  pub none_asked : find_feed owner number (feeds_of (all_sized es)) ≡ None → None ≡ option_map has_something (find_feed owner number (records held (feeds_of (all_sized es))))
  none_asked none = sym (ap (option_map has_something) (none_found none))

  pub none_given : (max : ℕ) → find_feed owner number (feeds_of (all_sized es)) ≡ None → None ≡ option_map (given max) (find_feed owner number (records held (feeds_of (all_sized es))))
  none_given max none = sym (ap (option_map (given max)) (none_found none))

  pub none_left : (max : ℕ) → find_feed owner number (feeds_of (all_sized es)) ≡ None → feeds_of (all_sized es) ≡ all_rest held owner number max (feeds_of (all_sized es))
  none_left max none = sym (mapped_none owner number (rest_in held max) (feeds_of (all_sized es)) none)

  module _ (place : ℕ) (k : Keeps held (all_sized es)) (lt : place < length es) (is : (e : Entry F) → is_of owner number (seen (slice_index_or es place e)) ≡ true) where
    pub some_there : true ≡ is_some (find_feed owner number (feeds_of (all_sized es)))
    some_there = let d = some_entry es place lt in sym (ap is_some (found_place held owner number es place d k lt (is d)))

    pub some_closed : (rs : List (Entry F)) → rs ≡ remove es place → feeds_of (all_sized rs) ≡ closed owner number (feeds_of (all_sized es))
    some_closed rs e = let d = some_entry es place lt in ap (λ (t : List (Entry F)). feeds_of (all_sized t)) e ∙ close_place held owner number es place d k lt (is d)

    pub some_keeps : (rs : List (Entry F)) → rs ≡ remove es place → Keeps held (all_sized rs)
    some_keeps rs e = subst (λ (t : List (Entry F)). Keeps held (all_sized t)) (sym e) (close_keeps held es place k)

    pub some_asked : (d : Entry F) (b : Bool) → b ≡ queued.has_something (slice_index_or es place d).queue → Some b ≡ option_map has_something (find_feed owner number (records held (feeds_of (all_sized es))))
    some_asked d b e =
        ap Some (e ∙ ap (λ t. not (nat_eq (slice_index_or es place d).queue.skipped 0) || not t) (sym (shown_none (slice_index_or es place d).queue.items)))
        ∙ sym (ap (option_map has_something) (found_record_at held owner number es place d k lt (is d)))

    pub some_given : (d : Entry F) (max : ℕ) (t : Taken Datum) → batch t ≡ given max (record_of held (seen (slice_index_or es place d))) → option_map batch (Some t) ≡ option_map (given max) (find_feed owner number (records held (feeds_of (all_sized es))))
    some_given d max t e = ap Some e ∙ sym (ap (option_map (given max)) (found_record_at held owner number es place d k lt (is d)))

    pub some_left : (d g : Entry F) (max : ℕ) → sized g ≡ rest_of held max (sized (slice_index_or es place d)) → feeds_of (all_sized (slice_set es place g)) ≡ all_rest held owner number max (feeds_of (all_sized es))
    some_left d g max rest = take_place held owner number max es place d g k lt (is d) rest

    pub refused : (d g : Entry F) → sized g ≡ sized (slice_index_or es place d) → all_sized (slice_set es place g) ≡ all_sized es
    refused d g same = sized_now es es place d g refl lt same

    pub refused_keeps : (d g : Entry F) → sized g ≡ sized (slice_index_or es place d) → Keeps held (all_sized (slice_set es place g))
    refused_keeps d g same = subst (Keeps held) (sym (refused d g same)) k

    pub left_keeps : (d g : Entry F) (max : ℕ) → sized g ≡ rest_of held max (sized (slice_index_or es place d)) → Keeps held (all_sized (slice_set es place g))
    left_keeps d g max rest = take_keeps held owner number max es place d g k lt (is d) rest
