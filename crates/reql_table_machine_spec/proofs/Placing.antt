-- What a Take is answered at its place.
use Rattle.std.proofs.Common.{◌≡◌, ◌≤◌, ◌<◌, ◌⊎◌, inl, inr, ℕ, suc, ◌-◌, ◌^◌, true, false, cond, ◌||◌, List, [], ◌++◌, length, take, Option, Some, None, refl, sym, ap, subst, ◌∙◌, arith, append_assoc}
use Rattle.std.specs.Prelude.{nat_lt}
use Rattle.std.proofs.lemmas.List.{take-append-le}
use Rattle.std.proofs.lemmas.Bool.{ltb-true, ltb-false}
use Rattle.reql_table_machine_spec.specs.Feeding.{Feeding}
use Rattle.reql_table_machine_spec.specs.Feeds.{Feed, Table, find_feed, has_something, given_by, unless_shut, takes, adds, if_room, effect, one_more, answer, reply_to_cmd, table_machine}
use Rattle.reql_table_machine_spec.specs.Fed.{changes_by, changes_at}
use Rattle.reql_table_machine_spec.specs.Telling.{HasRoom, MaySay, IsPlaced, ActIsPlaced, TakesArePlaced}
use Rattle.reql_table_machine_spec.specs.declared.command.Cmd.{Cmd}
use Rattle.reql_table_machine_spec.specs.declared.command.Cmd.TheVariants as cmds
use Rattle.reql_table_machine_spec.specs.declared.command.Order.{Order}
use Rattle.reql_table_machine_spec.specs.declared.command.Reply.{Reply}
use Rattle.reql_table_machine_spec.specs.declared.command.Look.{Look}
use Rattle.reql_table_machine_spec.specs.declared.command.Said.{Said}
use Rattle.reql_table_machine_spec.specs.declared.command.Said.TheVariants as said
use Rattle.reql_shared.specs.declared.recorded.Recorded.{Recorded}
use Rattle.reql_shared.specs.Machine.{Machine, replay}
use Rattle.reql_shared.specs.Acts.{Act, Ran, Looked, Denied, place_of, IsAnswered, Stands}
use Rattle.reql_shared.proofs.Standing.{woven_stands}
use Rattle.reql_table_machine_spec.proofs.Items.{all_map}
use Rattle.reql_table_machine_spec.proofs.Reach.{after_docs, reach}
use Rattle.reql_table_machine_spec.proofs.Tracking.{split}

-- one of two numbers is past the top, or neither is
pub past : (top place stamp : ℕ) → (nat_lt top (suc place) || nat_lt top stamp) ≡ true → (top ≤ place) ⊎ (top < stamp)
past top place stamp e = split (nat_lt top (suc place)) (λ b. nat_lt top (suc place) ≡ b → (b || nat_lt top stamp) ≡ true → (top ≤ place) ⊎ (top < stamp))
    (λ _ t _. inl (omega (arith, ltb-true top (suc place) t))) (λ _ _ t. inr (ltb-true top stamp t)) refl e

pub within : (top place stamp : ℕ) → (nat_lt top (suc place) || nat_lt top stamp) ≡ false → (place < top) × (stamp ≤ top)
within top place stamp e = split (nat_lt top (suc place)) (λ b. nat_lt top (suc place) ≡ b → (b || nat_lt top stamp) ≡ false → (place < top) × (stamp ≤ top))
    (λ _ _ t. absurd (let f : true ≡ false = t in cc)) (λ _ f t. (omega (arith, ltb-false top (suc place) f), ltb-false top stamp t)) refl e

module _ {D J W N P M X K I F : Type 0} (m : Feeding D J W N P M X K I F) where
  abbrev T : Type 0
  T = Table D J K I

  abbrev Entries : Type 0
  Entries = List (Recorded (Order (Cmd W N P)))

  abbrev Performed : Type 0
  Performed = Act (Order (Cmd W N P)) (Reply (Said M I)) (Unit {0}) (Look (D × J))

  abbrev machine : Machine T (Order (Cmd W N P)) (Reply (Said M I)) (Unit {0}) (Look (D × J))
  machine = table_machine m

  -- an answer that adds an entry
  full_or : (t : T) (s : Said M I) → (HasRoom m t → MaySay m t s) → MaySay m t (cond (nat_lt (2 ^ 64 - 1) (suc t.place) || nat_lt (2 ^ 64 - 1) t.stamp) (said.HistoryFull (2 ^ 64 - 1)) s)
  full_or t s h = split (nat_lt (2 ^ 64 - 1) (suc t.place) || nat_lt (2 ^ 64 - 1) t.stamp) (λ b. MaySay m t (cond b (said.HistoryFull (2 ^ 64 - 1)) s))
      (λ e. (past (2 ^ 64 - 1) t.place t.stamp e, refl)) (λ e. h (within (2 ^ 64 - 1) t.place t.stamp e))

  may_say : (t : T) (by feed most : ℕ) (o : Option (Feed K I)) → MaySay m t (if_room m (one_more m (effect m t by (cmds.Take feed most))) (takes m t feed most o))
  may_say t by feed most None = split t.shut (λ b. MaySay m t (if_room m (one_more m (effect m t by (cmds.Take feed most))) (cond b said.Gone (said.FeedUnknown feed))))
      (λ e. e) (λ e. full_or t (said.FeedUnknown feed) (λ r. (r, e)))
  may_say t by feed most (Some f) =
      split (has_something f) (λ b. MaySay m t (if_room m (one_more m (effect m t by (cmds.Take feed most))) (cond b (said.Batch f.skipped f.last (given_by m most f)) (unless_shut m t said.Nothing))))
      (λ _. full_or t (said.Batch f.skipped f.last (given_by m most f)) (λ r. r))
      (λ _. split t.shut (λ b. MaySay m t (if_room m (one_more m (effect m t by (cmds.Take feed most))) (cond b said.Gone said.Nothing))) (λ e. e) (λ e. e))

  -- a command that makes no change
  same_stamp : (t : T) (by : ℕ) (cmd : Cmd W N P) → changes_by m t cmd ≡ [] → (reply_to_cmd m t by cmd).stamp ≡ t.stamp
  same_stamp t by cmd e =
      let none : changes_at m t by cmd ≡ [] = split (adds m (answer m t by cmd)) (λ b. cond b (changes_by m t cmd) [] ≡ []) (λ _. e) (λ _. refl) in
      omega (arith, (after_docs m t by cmd).1, ap length none)

  placed_cmd : (o : T) (history : Entries) (place by : ℕ) (cmd : Cmd W N P) → IsPlaced m o history place cmd (reply_to_cmd m (replay machine o (take place history)) by cmd)
  placed_cmd o history place by (cmds.Write w) = tt
  placed_cmd o history place by (cmds.Index n) = tt
  placed_cmd o history place by (cmds.Subscribe p) = omega (arith, same_stamp (replay machine o (take place history)) by (cmds.Subscribe p) refl, (reach m o (take place history)).1)
  placed_cmd o history place by (cmds.Unsubscribe feed) = tt
  placed_cmd o history place by cmds.Shut = tt
  placed_cmd o history place by cmds.Sync = tt
  placed_cmd o history place by (cmds.Take feed most) =
      let t : T = replay machine o (take place history) in
      record { stamp = omega (arith, same_stamp t by (cmds.Take feed most) refl, (reach m o (take place history)).1); says = may_say t by feed most (find_feed by feed t.feeds) }

  -- an act that was answered after a front of the history
  placed_act : (o : T) (front history : Entries) (by : ℕ) (a : Performed) → take (place_of a) history ≡ take (place_of a) front → IsAnswered machine o (take (place_of a) front) by a → ActIsPlaced m o history a
  placed_act o front history by (Ran place order reply) e h =
      subst (λ r. IsPlaced m o history place order.cmd r) (sym (h ∙ ap (λ es. reply_to_cmd m (replay machine o es) by order.cmd) (sym e))) (placed_cmd o history place by order.cmd)
  placed_act o front history by (Looked place question answer) e h = tt
  placed_act o front history by (Denied place) e h = tt

  pub takes_are_placed : TakesArePlaced m
  takes_are_placed o before during later by acts w =
      all_map (λ (a : Performed). Stands machine o by (before ++ during) a) (λ (a : Performed). ActIsPlaced m o (before ++ (during ++ later)) a)
      (λ a s. placed_act o (before ++ during) (before ++ (during ++ later)) by a
      (ap (λ es. take (place_of a) es) (sym (append_assoc before during later)) ∙ take-append-le (place_of a) (before ++ during) later s.within) s.answers)
      acts (woven_stands machine o by (length before) acts before during (replay machine o before) refl refl w).0
