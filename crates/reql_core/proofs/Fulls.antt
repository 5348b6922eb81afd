-- Commands where the history has room for no entry.
use Rattle.std.proofs.Common.{◌≡◌, ◌<◌, ◌^◌, ◌-◌, ℕ, suc, Bool, true, false, cond, not, if◌then◌else◌, nat_lt, length, Option, Some, None, option_map, refl, sym, ap, ◌∙◌, arith}
use Rattle.reql_datum.specs.Plain.{Plain}
use Rattle.reql_rules.specs.Types.{same_text}
use Rattle.reql_table_machine_spec.specs.Feeds.{Feed, find_feed, has_something, takes, closes, opens, says, adds, effect, one_more, is_past}
use Rattle.reql_table_machine_spec.specs.declared.command.Cmd.TheVariants as known
use Rattle.reql_table_machine_spec.specs.declared.command.Said.{Said}
use Rattle.reql_table_machine_spec.specs.declared.command.Said.TheVariants as said
use Rattle.reql_write_spec.specs.declared.command.Summary.{Summary}
use Rattle.reql_write_spec.specs.declared.command.WriteCmd.{WriteCmd}
use Rattle.reql_table_spec.specs.Indexes.{Indexes, IndexCmd, create, drop, rename, is_there, is_taken, index_said}
use Rattle.reql_table_spec.specs.Replies.{said_of}
use Rattle.reql_table_spec.specs.Table.{Held, DocumentTable, feeding}
use Rattle.reql_table_spec.specs.Table as law
use Rattle.reql_table_spec.specs.declared.command.FeedSpec.{FeedSpec}
use Rattle.reql_table_spec.specs.declared.reply.Said.{Said as AsSaid}
use Rattle.reql_table_spec.specs.declared.reply.Said.TheVariants as answers
use Rattle.reql_feeds.specs.Record.{records}
use Rattle.reql_core.specs.Counted.{effect_place}
use Rattle.reql_core.specs.Live.{Live, Asked, table_of, Does}
use Rattle.reql_core.proofs.Doing.{idle, refused, past_first}
use Rattle.reql_core.proofs.Batches.{takes_unknown}

abbrev Answer : Type 0
Answer = Said Summary Plain

abbrev is_added : Answer → Bool
is_added x = adds (feeding 0) x

one : (b : Bool) (x y : Answer) → is_added x ≡ true → is_added y ≡ true → is_added (cond b x y) ≡ true
one true x y e f = e
one false x y e f = f

adds_index : (is : Indexes) (n : IndexCmd) → is_added (index_said is n) ≡ true
adds_index is (create name i) = one (is_there name is) said.IndexExists said.Changed refl refl
adds_index is (drop name) = one (is_there name is) said.Changed said.IndexMissing refl refl
adds_index is (rename old new overwrite) =
    one (not (is_there old is)) said.IndexMissing (if same_text old new then said.Changed else (if is_taken new overwrite is then said.IndexExists else said.Changed)) refl
    (one (same_text old new) said.Changed (if is_taken new overwrite is then said.IndexExists else said.Changed) refl (one (is_taken new overwrite is) said.IndexExists said.Changed refl refl))

adds_opens : (most : ℕ) (t : DocumentTable) (o : Option Held) → is_added (opens (feeding most) t o) ≡ true
adds_opens most t None = refl
adds_opens most t (Some h) = one (nat_lt (length t.feeds) most) (said.Opened (suc t.place) ((feeding most).opening h t.docs)) (said.FeedsFull most) refl refl

adds_takes : (t : DocumentTable) (feed max : ℕ) (o : Option (Feed Held Plain)) → option_map has_something o ≡ Some true → is_added (takes (feeding 0) t feed max o) ≡ true
adds_takes t feed max None e = absurd cc
adds_takes t feed max (Some f) e = some (has_something f) _ _ e refl
  where
    some : (b : Bool) (x y : Answer) → Some b ≡ Some true → is_added x ≡ true → is_added (cond b x y) ≡ true
    some true x y e f = f
    some false x y e f = absurd cc

closes_some : (t : DocumentTable) (feed : ℕ) (o : Option (Feed Held Plain)) (b : Bool) → option_map has_something o ≡ Some b → closes (feeding 0) t feed o ≡ said.Closed
closes_some t feed None b e = absurd cc
closes_some t feed (Some f) b e = refl

closes_none : (t : DocumentTable) (feed : ℕ) (o : Option (Feed Held Plain)) → option_map has_something o ≡ None → closes (feeding 0) t feed o ≡ cond t.shut said.Gone (said.FeedUnknown feed)
closes_none t feed None e = refl
closes_none t feed (Some f) e = absurd cc

module _ {F : Type 0} (held : F → Held) (by : ℕ) (old : Live F) (full : old.moment.place ≡ 2 ^ 64 - 1) where
  past : (cmd : Asked) → is_past (feeding old.most) (one_more (feeding old.most) (effect (feeding old.most) (table_of held old) by cmd)) ≡ true
  past cmd = past_first (suc (effect (feeding old.most) (table_of held old) by cmd).place) _ (above (effect_place old.most (table_of held old) by cmd))
    where
      above : (effect (feeding old.most) (table_of held old) by cmd).place ≡ old.moment.place → 2 ^ 64 - 1 < suc (effect (feeding old.most) (table_of held old) by cmd).place
      above e = omega (arith, e, full)

  no_room : (cmd : Asked) → is_added (says (feeding old.most) (table_of held old) by cmd) ≡ true → Does held by cmd old old (answers.HistoryFull (2 ^ 64 - 1))
  no_room cmd adds_so = refused held by cmd old old (answers.HistoryFull (2 ^ 64 - 1)) adds_so (past cmd) refl refl

  at : (b : Bool) (cmd : Asked) (x : Answer) (s : AsSaid) → old.shut ≡ b → says (feeding old.most) (table_of held old) by cmd ≡ cond old.shut said.Gone x → is_added x ≡ true
      → s ≡ cond b answers.Gone (answers.HistoryFull (2 ^ 64 - 1)) → Does held by cmd old old s
  at true cmd x s shut is adds_x e = idle held by cmd old old s (ap said_of e ∙ sym (is ∙ ap (λ b. cond b said.Gone x) shut)) (ap (λ s. adds (feeding old.most) (said_of s)) e) refl
  at false cmd x s alive is adds_x e = refused held by cmd old old s (ap is_added (is ∙ ap (λ b. cond b said.Gone x) alive) ∙ adds_x) (past cmd) refl e

  -- what an open table answers, and what one does that was dropped
  abbrev pub IsRefusal : AsSaid → Type 0
  IsRefusal s = s ≡ cond old.shut answers.Gone (answers.HistoryFull (2 ^ 64 - 1))

  pub write_full : (w : WriteCmd) (s : AsSaid) → IsRefusal s → Does held by (known.Write w) old old s
  write_full w s e = at old.shut (known.Write w) _ s refl refl refl e

  pub index_full : (n : IndexCmd) (s : AsSaid) → IsRefusal s → Does held by (known.Index n) old old s
  index_full n s e = at old.shut (known.Index n) (index_said (table_of held old).indexes n) s refl refl (adds_index (table_of held old).indexes n) e

  pub subscribe_full : (spec : FeedSpec) (s : AsSaid) → IsRefusal s → Does held by (known.Subscribe spec) old old s
  subscribe_full spec s e = at old.shut (known.Subscribe spec) (opens (feeding old.most) (table_of held old) (law.held (table_of held old).indexes spec)) s refl refl (adds_opens old.most (table_of held old) (law.held (table_of held old).indexes spec)) e

  pub shut_full : (s : AsSaid) → IsRefusal s → Does held by known.Shut old old s
  shut_full s e = at old.shut known.Shut said.Closed s refl refl refl e

  pub sync_full : (s : AsSaid) → IsRefusal s → Does held by known.Sync old old s
  sync_full s e = at old.shut known.Sync said.Changed s refl refl refl e

  module _ (feed : ℕ) where
    abbrev found : Option (Feed Held Plain)
    found = find_feed by feed (records held old.feeds)

    pub take_some_full : (max : ℕ) → option_map has_something found ≡ Some true → Does held by (known.Take feed max) old old (answers.HistoryFull (2 ^ 64 - 1))
    take_some_full max h = no_room (known.Take feed max) (adds_takes (table_of held old) feed max found h)

    pub take_none_full : (max : ℕ) (s : AsSaid) → option_map has_something found ≡ None → IsRefusal s → Does held by (known.Take feed max) old old s
    take_none_full max s h e = at old.shut (known.Take feed max) (said.FeedUnknown feed) s refl (takes_unknown (table_of held old) feed max found h) refl e

    pub unsubscribe_some_full : (b : Bool) → option_map has_something found ≡ Some b → Does held by (known.Unsubscribe feed) old old (answers.HistoryFull (2 ^ 64 - 1))
    unsubscribe_some_full b h = no_room (known.Unsubscribe feed) (ap is_added (closes_some (table_of held old) feed found b h))

    pub unsubscribe_none_full : (s : AsSaid) → option_map has_something found ≡ None → IsRefusal s → Does held by (known.Unsubscribe feed) old old s
    unsubscribe_none_full s h e = at old.shut (known.Unsubscribe feed) (said.FeedUnknown feed) s refl (closes_none (table_of held old) feed found h) refl e
