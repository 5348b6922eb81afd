-- What a Subscribe is answered at its place.
use Rattle.std.proofs.Common.{◌≡◌, ℕ, suc, ◌-◌, ◌^◌, false, cond, ◌||◌, List, [], ◌∷◌, ◌++◌, length, take, Option, Some, None, refl, sym, ap, subst, ◌∙◌, append_assoc}
use Rattle.std.specs.Prelude.{nat_lt}
use Rattle.std.proofs.lemmas.List.{take-append-le}
use Rattle.std.proofs.lemmas.Bool.{ltb-true, ltb-false}
use Rattle.reql_table_machine_spec.specs.Feeding.{Feeding}
use Rattle.reql_table_machine_spec.specs.Feeds.{Table, new_feed, opened_in, opens, if_room, one_more, answer, reply_to_cmd, table_machine}
use Rattle.reql_table_machine_spec.specs.Telling.{HasRoom}
use Rattle.reql_table_machine_spec.specs.Subscribing.{MaySubscribe, CmdIsToldSo, SubscribeIsPlaced, SubscribesArePlaced}
use Rattle.reql_table_machine_spec.specs.declared.command.Cmd.{Cmd}
use Rattle.reql_table_machine_spec.specs.declared.command.Cmd.TheVariants as cmds
use Rattle.reql_table_machine_spec.specs.declared.command.Order.{Order}
use Rattle.reql_table_machine_spec.specs.declared.command.Reply.{Reply}
use Rattle.reql_table_machine_spec.specs.declared.command.Look.{Look}
use Rattle.reql_table_machine_spec.specs.declared.command.Said.{Said}
use Rattle.reql_table_machine_spec.specs.declared.command.Said.TheVariants as said
use Rattle.reql_shared.specs.declared.recorded.Recorded.{Recorded}
use Rattle.reql_shared.specs.Machine.{Machine, replay}
use Rattle.reql_shared.specs.Acts.{Act, Ran, Looked, Denied, place_of, IsAnswered, Stands}
use Rattle.reql_shared.proofs.Standing.{woven_stands}
use Rattle.reql_table_machine_spec.proofs.Items.{all_map}
use Rattle.reql_table_machine_spec.proofs.Placing.{past, within}
use Rattle.reql_table_machine_spec.proofs.Tracking.{split}

module _ {D J W N P M X K I F : Type 0} (m : Feeding D J W N P M X K I F) where
  abbrev T : Type 0
  T = Table D J K I

  abbrev Entries : Type 0
  Entries = List (Recorded (Order (Cmd W N P)))

  abbrev Performed : Type 0
  Performed = Act (Order (Cmd W N P)) (Reply (Said M I)) (Unit {0}) (Look (D × J))

  abbrev machine : Machine T (Order (Cmd W N P)) (Reply (Said M I)) (Unit {0}) (Look (D × J))
  machine = table_machine m

  -- an answer that adds an entry, of a table that isn't shut
  full_or : (t : T) (kept : Option K) (s : Said M I) → t.shut ≡ false → (HasRoom m t → MaySubscribe m t kept s)
      → MaySubscribe m t kept (cond (nat_lt (2 ^ 64 - 1) (suc t.place) || nat_lt (2 ^ 64 - 1) t.stamp) (said.HistoryFull (2 ^ 64 - 1)) s)
  full_or t kept s still h = split (nat_lt (2 ^ 64 - 1) (suc t.place) || nat_lt (2 ^ 64 - 1) t.stamp) (λ b. MaySubscribe m t kept (cond b (said.HistoryFull (2 ^ 64 - 1)) s))
      (λ e. (still, past (2 ^ 64 - 1) t.place t.stamp e, refl)) (λ e. h (within (2 ^ 64 - 1) t.place t.stamp e))

  -- of a table that isn't shut
  may_open : (t : T) (by : ℕ) (kept : Option K) → t.shut ≡ false → MaySubscribe m t kept (if_room m (one_more m (opened_in m t by kept)) (opens m t kept))
  may_open t by None still = full_or t None said.IndexMissing still (λ r. (still, r, refl))
  may_open t by (Some k) still =
      split (nat_lt (length t.feeds) m.most)
      (λ b. nat_lt (length t.feeds) m.most ≡ b → MaySubscribe m t (Some k) (if_room m (one_more m (cond b (record t { feeds = t.feeds ++ new_feed m t by k ∷ [] }) t)) (cond b (said.Opened (suc t.place) (m.opening k t.docs)) (said.FeedsFull m.most))))
      (λ _ e. full_or t (Some k) (said.Opened (suc t.place) (m.opening k t.docs)) still (λ r. (still, r, record { held = k; is_kept = refl; few = ltb-true (length t.feeds) m.most e; numbered = refl; shows = refl })))
      (λ _ e. full_or t (Some k) (said.FeedsFull m.most) still (λ r. (still, r, record { held = k; is_kept = refl; many = ltb-false (length t.feeds) m.most e; told = refl })))
      refl

  may_subscribe : (t : T) (by : ℕ) (kept : Option K) → MaySubscribe m t kept (if_room m (one_more m (opened_in m t by kept)) (cond t.shut said.Gone (opens m t kept)))
  may_subscribe t by kept = split t.shut (λ b. MaySubscribe m t kept (if_room m (one_more m (opened_in m t by kept)) (cond b said.Gone (opens m t kept)))) (λ e. e) (λ e. may_open t by kept e)

  told_so : (t : T) (by : ℕ) (cmd : Cmd W N P) → CmdIsToldSo m t cmd (answer m t by cmd)
  told_so t by (cmds.Write w) = tt
  told_so t by (cmds.Index n) = tt
  told_so t by (cmds.Subscribe p) = may_subscribe t by (m.keep t.indexes p)
  told_so t by (cmds.Take feed most) = tt
  told_so t by (cmds.Unsubscribe feed) = tt
  told_so t by cmds.Shut = tt
  told_so t by cmds.Sync = tt

  -- an act that was answered after a front of the history
  placed_act : (o : T) (front history : Entries) (by : ℕ) (a : Performed) → take (place_of a) history ≡ take (place_of a) front → IsAnswered machine o (take (place_of a) front) by a → SubscribeIsPlaced m o history a
  placed_act o front history by (Ran place order reply) e h =
      subst (λ (r : Reply (Said M I)). CmdIsToldSo m (replay machine o (take place history)) order.cmd r.said) (sym (h ∙ ap (λ es. reply_to_cmd m (replay machine o es) by order.cmd) (sym e)))
      (told_so (replay machine o (take place history)) by order.cmd)
  placed_act o front history by (Looked place question answer) e h = tt
  placed_act o front history by (Denied place) e h = tt

  pub subscribes_are_placed : SubscribesArePlaced m
  subscribes_are_placed o before during later by acts w =
      all_map (λ (a : Performed). Stands machine o by (before ++ during) a) (λ (a : Performed). SubscribeIsPlaced m o (before ++ (during ++ later)) a)
      (λ a s. placed_act o (before ++ during) (before ++ (during ++ later)) by a
      (ap (λ es. take (place_of a) es) (sym (append_assoc before during later)) ∙ take-append-le (place_of a) (before ++ during) later s.within) s.answers)
      acts (woven_stands machine o by (length before) acts before during (replay machine o before) refl refl w).0
