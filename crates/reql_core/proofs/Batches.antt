-- Takes of feeds.
use Rattle.std.proofs.Common.{◌≡◌, ◌<◌, ◌^◌, ◌+◌, ℕ, suc, List, [], ◌∷◌, map, Bool, true, false, cond, Option, Some, None, option_map, true≢false, refl, sym, ap, subst, ◌∙◌}
use Rattle.std.specs.List.{All, AllByRecursion}
use Rattle.std.proofs.lemmas.List.Elements.{All-from_recursion, recursion_from_All}
use Rattle.reql_datum.specs.Plain.{Plain}
use Rattle.reql_datum.specs.declared.datum.Datum.{Datum}
use Rattle.reql_term.specs.Views.{Document}
use Rattle.reql_table.specs.Seen.{Standing, documents_of}
use Rattle.reql_table_machine_spec.specs.Feeds.{Feed, is_of, find_feed, has_something, takes, unless_shut, says}
use Rattle.reql_table_machine_spec.specs.declared.command.Cmd.TheVariants as known
use Rattle.reql_table_machine_spec.specs.declared.command.Said.{Said}
use Rattle.reql_table_machine_spec.specs.declared.command.Said.TheVariants as said
use Rattle.reql_write_spec.specs.declared.command.Summary.{Summary}
use Rattle.reql_queue.specs.declared.queue.Taken.{Taken}
use Rattle.reql_table_spec.specs.Table.{Held, DocumentTable, feeding}
use Rattle.reql_table_spec.specs.declared.reply.Said.TheVariants as answers
use Rattle.reql_feeds.specs.Record.{records, kept_in, AreBelow, after_take, left, given, batch}
use Rattle.reql_core.specs.Live.{Live, Lives, table_of, Does}
use Rattle.reql_core.proofs.Doing.{done, idle}
use Rattle.reql_core.proofs.Commands.{moved, moved_is}

abbrev some_in : {X : Type 0} → X → Option X → X
some_in x None = x
some_in x (Some y) = y

abbrev is_it : Option Bool → Bool
is_it None = false
is_it (Some b) = b

abbrev no_one : Option Bool → Bool
no_one None = true
no_one (Some b) = false

module _ (t : DocumentTable) (feed max : ℕ) where
  takes_batch : (o : Option (Feed Held Plain)) (s : Said Summary Plain) → option_map has_something o ≡ Some true → Some s ≡ option_map (given max) o → s ≡ takes (feeding 0) t feed max o
  takes_batch None s h e = absurd (true≢false (sym (ap is_it h)))
  takes_batch (Some f) s h e = ap (some_in s) e ∙ sym (ap (λ b. cond b (given max f) (unless_shut (feeding 0) t said.Nothing)) (ap is_it h))

  takes_nothing : (o : Option (Feed Held Plain)) → option_map has_something o ≡ Some false → takes (feeding 0) t feed max o ≡ cond t.shut said.Gone said.Nothing
  takes_nothing None h = absurd (true≢false (ap no_one h))
  takes_nothing (Some f) h = ap (λ b. cond b (given max f) (cond t.shut said.Gone said.Nothing)) (ap is_it h)

  pub takes_unknown : (o : Option (Feed Held Plain)) → option_map has_something o ≡ None → takes (feeding 0) t feed max o ≡ cond t.shut said.Gone (said.FeedUnknown feed)
  takes_unknown None h = refl
  takes_unknown (Some f) h = absurd (true≢false (sym (ap no_one h)))

module _ {F : Type 0} (held : F → Held) (by feed max : ℕ) (old : Live F) where
  pub batched : (fs : List (Feed F Plain)) (taken : Taken Datum) → option_map has_something (find_feed by feed (records held old.feeds)) ≡ Some true
      → Some (batch taken) ≡ option_map (given max) (find_feed by feed (records held old.feeds)) → records held fs ≡ after_take by feed max (records held old.feeds)
      → old.moment.place + 1 < 2 ^ 64 → old.moment.stamp < 2 ^ 64
      → Does held by (known.Take feed max) old (moved (record old { feeds = fs })) (answers.Batch taken.skipped taken.last taken.items)
  batched fs taken waits gives left_so place stamp =
      done held by (known.Take feed max) old (moved (record old { feeds = fs })) (answers.Batch taken.skipped taken.last taken.items)
      (takes_batch (table_of held old) feed max (find_feed by feed (records held old.feeds)) (batch taken) waits gives) refl
      (moved_is held by (record old { feeds = fs }) ∙ ap (λ rs. record (table_of held old) { feeds = rs; place = suc old.moment.place }) left_so) refl place stamp

  nothing_is : (b : Bool) → old.shut ≡ b → option_map has_something (find_feed by feed (records held old.feeds)) ≡ Some false → cond b said.Gone said.Nothing ≡ says (feeding old.most) (table_of held old) by (known.Take feed max)
  nothing_is b e h = sym (takes_nothing (table_of held old) feed max (find_feed by feed (records held old.feeds)) h ∙ ap (λ x. cond x said.Gone said.Nothing) e)

  pub none_waits : old.shut ≡ false → option_map has_something (find_feed by feed (records held old.feeds)) ≡ Some false → Does held by (known.Take feed max) old old answers.Nothing
  none_waits alive h = idle held by (known.Take feed max) old old answers.Nothing (nothing_is false alive h) refl refl

  pub none_gone : old.shut ≡ true → option_map has_something (find_feed by feed (records held old.feeds)) ≡ Some false → Does held by (known.Take feed max) old old answers.Gone
  none_gone shut h = idle held by (known.Take feed max) old old answers.Gone (nothing_is true shut h) refl refl

  unknown_is : (b : Bool) → old.shut ≡ b → option_map has_something (find_feed by feed (records held old.feeds)) ≡ None → cond b said.Gone (said.FeedUnknown feed) ≡ says (feeding old.most) (table_of held old) by (known.Take feed max)
  unknown_is b e h = sym (takes_unknown (table_of held old) feed max (find_feed by feed (records held old.feeds)) h ∙ ap (λ x. cond x said.Gone (said.FeedUnknown feed)) e)

  pub unknown_gone : old.shut ≡ true → option_map has_something (find_feed by feed (records held old.feeds)) ≡ None → Does held by (known.Take feed max) old old answers.Gone
  unknown_gone shut h = idle held by (known.Take feed max) old old answers.Gone (unknown_is true shut h) refl refl

  -- a Take of a feed that isn't there leaves all feeds
  one_same : (b : Bool) (f g : Feed Held Plain) (x : Option (Feed Held Plain)) (rs ss : List (Feed Held Plain)) → option_map has_something (cond b (Some f) x) ≡ None → (option_map has_something x ≡ None → rs ≡ ss) → cond b g f ∷ rs ≡ f ∷ ss
  one_same true f g x rs ss h rest = absurd (true≢false (sym (ap no_one h)))
  one_same false f g x rs ss h rest = ap (λ t. f ∷ t) (rest h)

  none_taken : (rs : List (Feed Held Plain)) → option_map has_something (find_feed by feed rs) ≡ None → after_take by feed max rs ≡ rs
  none_taken [] h = refl
  none_taken (r ∷ rs) h = one_same (is_of by feed r) r (left max r) (find_feed by feed rs) (after_take by feed max rs) rs h (none_taken rs)

  pub unknown : old.shut ≡ false → option_map has_something (find_feed by feed (records held old.feeds)) ≡ None → old.moment.place + 1 < 2 ^ 64 → old.moment.stamp < 2 ^ 64
      → Does held by (known.Take feed max) old (moved old) (answers.FeedUnknown feed)
  unknown alive h place stamp = done held by (known.Take feed max) old (moved old) (answers.FeedUnknown feed) (unknown_is false alive h) refl
      (moved_is held by old ∙ ap (λ rs. record (table_of held old) { feeds = rs; place = suc old.moment.place }) (sym (none_taken (records held old.feeds) h))) refl place stamp

-- ---- a Take leaves what is kept
module _ {K : Type 0} where
  abbrev pub numbers : List (Feed K Plain) → List ℕ
  numbers fs = map (λ (f : Feed K Plain). f.number) fs

  all_numbers : (n : ℕ) (fs : List (Feed K Plain)) → AllByRecursion (λ (f : Feed K Plain). f.number < n) fs → AllByRecursion (λ m. m < n) (numbers fs)
  all_numbers n [] all = tt
  all_numbers n (f ∷ fs) all = (all.0, all_numbers n fs all.1)

  numbers_all : (n : ℕ) (fs : List (Feed K Plain)) → AllByRecursion (λ m. m < n) (numbers fs) → AllByRecursion (λ (f : Feed K Plain). f.number < n) fs
  numbers_all n [] all = tt
  numbers_all n (f ∷ fs) all = (all.0, numbers_all n fs all.1)

  pub below_by : (n : ℕ) (fs gs : List (Feed K Plain)) → numbers gs ≡ numbers fs → AreBelow n fs → AreBelow n gs
  below_by n fs gs same all =
      let rec = all_numbers n fs (recursion_from_All (λ (f : Feed K Plain). f.number < n) fs all) in
      All-from_recursion (λ (f : Feed K Plain). f.number < n) gs (numbers_all n gs (subst (AllByRecursion (λ m. m < n)) (sym same) rec))

one_number : (max : ℕ) (r : Feed Held Plain) (b : Bool) (ns ms : List ℕ) → ns ≡ ms → (cond b (left max r) r).number ∷ ns ≡ r.number ∷ ms
one_number max r true ns ms e = ap (λ t. r.number ∷ t) e
one_number max r false ns ms e = ap (λ t. r.number ∷ t) e

numbers_taken : (by feed max : ℕ) (rs : List (Feed Held Plain)) → numbers (after_take by feed max rs) ≡ numbers rs
numbers_taken by feed max [] = refl
numbers_taken by feed max (r ∷ rs) = one_number max r (is_of by feed r) (numbers (after_take by feed max rs)) (numbers rs) (numbers_taken by feed max rs)

record_numbers : {F : Type 0} (held : F → Held) (fs : List (Feed F Plain)) → numbers (records held fs) ≡ numbers fs
record_numbers held [] = refl
record_numbers held (f ∷ fs) = ap (λ t. f.number ∷ t) (record_numbers held fs)

module _ {F : Type 0} (held : F → Held) (fits : F → List Document → Type 0) (reads : F → Standing → Type 0) where
  pub lives_taken : (by feed max : ℕ) (l : Live F) (fs : List (Feed F Plain)) → kept_in fs ≡ kept_in l.feeds → records held fs ≡ after_take by feed max (records held l.feeds)
      → Lives fits reads l → Lives fits reads (record l { feeds = fs })
  lives_taken by feed max l fs kept left_so v =
      let same : numbers fs ≡ numbers l.feeds = sym (record_numbers held fs) ∙ ap numbers left_so ∙ numbers_taken by feed max (records held l.feeds) ∙ record_numbers held l.feeds in record {
        fit = subst (All (λ k. fits k (documents_of l.moment.table))) (sym kept) v.fit;
        read = subst (All (λ k. reads k l.moment.table)) (sym kept) v.read;
        below = below_by (suc l.moment.place) l.feeds fs same v.below;
        place = v.place;
        stamp = v.stamp;
      }
