-- Commands that change no document.
use Rattle.std.proofs.Common.{◌≡◌, ◌<◌, ◌^◌, ◌+◌, ℕ, suc, List, [], ◌∷◌, not, Bool, true, false, cond, Option, Some, None, is_some, option_map, true≢false, refl, sym, ap, ◌∙◌, arith}
use Rattle.reql_datum.specs.Plain.{Plain}
use Rattle.reql_table_machine_spec.specs.Feeds.{Feed, is_of, find_feed, closes, unless_shut, says, effect, one_more}
use Rattle.reql_table_machine_spec.specs.declared.command.Cmd.TheVariants as known
use Rattle.reql_table_machine_spec.specs.declared.command.Said.TheVariants as said
use Rattle.reql_table_machine_spec.specs.declared.command.Said.{Said}
use Rattle.reql_write_spec.specs.declared.command.Summary.{Summary}
use Rattle.reql_table_spec.specs.Table.{Held, DocumentTable, feeding}
use Rattle.reql_table_spec.specs.declared.reply.Said.TheVariants as answers
use Rattle.reql_feeds.specs.Record.{records, record_of, closed}
pub use Rattle.reql_core.specs.Live.{moved}
use Rattle.reql_core.specs.Live.{Live, table_of, Does}
use Rattle.reql_core.proofs.Doing.{done, idle}

pub next : (n : ℕ) → n + 1 ≡ suc n
next n = omega arith

module _ {F : Type 0} (held : F → Held) (by : ℕ) (old : Live F) where
  pub moved_is : table_of held (moved old) ≡ record (table_of held old) { place = suc old.moment.place }
  moved_is = ap (λ p. record (table_of held old) { place = p }) (next old.moment.place)

  pub sync_gone : old.shut ≡ true → Does held by known.Sync old old answers.Gone
  sync_gone shut = idle held by known.Sync old old answers.Gone (sym (ap (λ b. cond b said.Gone said.Changed) shut)) refl refl

  pub synced : old.shut ≡ false → old.moment.place + 1 < 2 ^ 64 → old.moment.stamp < 2 ^ 64 → Does held by known.Sync old (moved old) answers.Changed
  synced alive place stamp = done held by known.Sync old (moved old) answers.Changed (sym (ap (λ b. cond b said.Gone said.Changed) alive)) refl moved_is refl place stamp

  pub drop_gone : old.shut ≡ true → Does held by known.Shut old old answers.Gone
  drop_gone shut = idle held by known.Shut old old answers.Gone (sym (ap (λ b. cond b said.Gone said.Closed) shut)) refl refl

  pub dropped : old.shut ≡ false → old.moment.place + 1 < 2 ^ 64 → old.moment.stamp < 2 ^ 64 → Does held by known.Shut old (record (moved old) { shut = true }) answers.Closed
  dropped alive place stamp = done held by known.Shut old (record (moved old) { shut = true }) answers.Closed (sym (ap (λ b. cond b said.Gone said.Closed) alive)) refl (ap (λ (u : DocumentTable). record u { shut = true }) moved_is) refl place stamp

-- ---- which feed it is, by owner and number, doesn't depend on what is kept of it
module _ {F : Type 0} (held : F → Held) (by feed : ℕ) where
  one_found : (b : Bool) (f : Feed F Plain) (x : Option (Feed Held Plain)) (y : Option (Feed F Plain)) → x ≡ option_map (record_of held) y → cond b (Some (record_of held f)) x ≡ option_map (record_of held) (cond b (Some f) y)
  one_found true f x y e = refl
  one_found false f x y e = e

  pub found : (fs : List (Feed F Plain)) → find_feed by feed (records held fs) ≡ option_map (record_of held) (find_feed by feed fs)
  found [] = refl
  found (f ∷ fs) = one_found (is_of by feed f) f (find_feed by feed (records held fs)) (find_feed by feed fs) (found fs)

  one_closed : (b : Bool) (f : Feed F Plain) (xs : List (Feed Held Plain)) (ys : List (Feed F Plain)) → xs ≡ records held ys → cond (not b) (record_of held f ∷ xs) xs ≡ records held (cond (not b) (f ∷ ys) ys)
  one_closed true f xs ys e = e
  one_closed false f xs ys e = ap (λ t. record_of held f ∷ t) e

  pub closed_records : (fs : List (Feed F Plain)) → closed by feed (records held fs) ≡ records held (closed by feed fs)
  closed_records [] = refl
  closed_records (f ∷ fs) = one_closed (is_of by feed f) f (closed by feed (records held fs)) (closed by feed fs) (closed_records fs)

  kept_all : (b : Bool) (f : Feed F Plain) (x : Option (Feed F Plain)) (ys fs : List (Feed F Plain)) → is_some (cond b (Some f) x) ≡ false → (is_some x ≡ false → ys ≡ fs) → cond (not b) (f ∷ ys) ys ≡ f ∷ fs
  kept_all true f x ys fs none rest = absurd (true≢false none)
  kept_all false f x ys fs none rest = ap (λ t. f ∷ t) (rest none)

  pub none_closed : (fs : List (Feed F Plain)) → is_some (find_feed by feed fs) ≡ false → closed by feed fs ≡ fs
  none_closed [] none = refl
  none_closed (f ∷ fs) none = kept_all (is_of by feed f) f (find_feed by feed fs) (closed by feed fs) fs none (none_closed fs)

  closes_some : (t : DocumentTable) (o : Option (Feed F Plain)) → is_some o ≡ true → closes (feeding 0) t feed (option_map (record_of held) o) ≡ said.Closed
  closes_some t None e = absurd (true≢false (sym e))
  closes_some t (Some f) e = refl

  closes_none : (t : DocumentTable) (o : Option (Feed F Plain)) → is_some o ≡ false → closes (feeding 0) t feed (option_map (record_of held) o) ≡ unless_shut (feeding 0) t (said.FeedUnknown feed)
  closes_none t None e = refl
  closes_none t (Some f) e = absurd (true≢false e)

  module _ (old : Live F) where
    -- after the feed was closed, if it was there
    abbrev pub left : Live F
    left = record old { feeds = closed by feed old.feeds }

    says_so : (x : Said Summary Plain) → closes (feeding 0) (table_of held old) feed (option_map (record_of held) (find_feed by feed old.feeds)) ≡ x → x ≡ says (feeding old.most) (table_of held old) by (known.Unsubscribe feed)
    says_so x e = sym (ap (λ o. closes (feeding 0) (table_of held old) feed o) (found old.feeds) ∙ e)

    left_is : (n : Live F) → n ≡ moved left → table_of held n ≡ one_more (feeding old.most) (effect (feeding old.most) (table_of held old) by (known.Unsubscribe feed))
    left_is n e = ap (λ l. table_of held l) e ∙ moved_is held by left ∙ ap (λ fs. record (table_of held old) { feeds = fs; place = suc old.moment.place }) (sym (closed_records old.feeds))

    pub closed_it : is_some (find_feed by feed old.feeds) ≡ true → old.moment.place + 1 < 2 ^ 64 → old.moment.stamp < 2 ^ 64 → Does held by (known.Unsubscribe feed) old (moved left) answers.Closed
    closed_it there place stamp = done held by (known.Unsubscribe feed) old (moved left) answers.Closed (says_so said.Closed (closes_some (table_of held old) (find_feed by feed old.feeds) there)) refl (left_is (moved left) refl) refl place stamp

    same_left : is_some (find_feed by feed old.feeds) ≡ false → left ≡ old
    same_left none = ap (λ fs. record old { feeds = fs }) (none_closed old.feeds none)

    unknown_is : is_some (find_feed by feed old.feeds) ≡ false → (b : Bool) → old.shut ≡ b → cond b said.Gone (said.FeedUnknown feed) ≡ says (feeding old.most) (table_of held old) by (known.Unsubscribe feed)
    unknown_is none b e = says_so (cond b said.Gone (said.FeedUnknown feed)) (closes_none (table_of held old) (find_feed by feed old.feeds) none ∙ ap (λ x. cond x said.Gone (said.FeedUnknown feed)) e)

    pub none_gone : is_some (find_feed by feed old.feeds) ≡ false → old.shut ≡ true → Does held by (known.Unsubscribe feed) old left answers.Gone
    none_gone none shut = idle held by (known.Unsubscribe feed) old left answers.Gone (unknown_is none true shut) refl (same_left none)

    pub none_known : is_some (find_feed by feed old.feeds) ≡ false → old.shut ≡ false → old.moment.place + 1 < 2 ^ 64 → old.moment.stamp < 2 ^ 64 → Does held by (known.Unsubscribe feed) old (moved left) (answers.FeedUnknown feed)
    none_known none alive place stamp = done held by (known.Unsubscribe feed) old (moved left) (answers.FeedUnknown feed) (unknown_is none false alive) refl (left_is (moved left) refl) refl place stamp
