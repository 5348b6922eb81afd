-- A command that is recorded adds one to the place, and its numbers are within a history's.
use Rattle.std.proofs.Common.{◌≡◌, ◌<◌, ◌≤◌, ℕ, suc, ◌+◌, ◌-◌, ◌^◌, Bool, true, false, ◌&&◌, ◌||◌, cond, List, [], ◌∷◌, ◌++◌, length, Option, Some, None, refl, sym, ap, subst, ◌∙◌, arith}
use Rattle.std.specs.Prelude.{nat_lt}
use Rattle.std.proofs.lemmas.Bool.{ltb-false}
use Rattle.reql_datum.specs.Plain.{Plain}
use Rattle.reql_write_spec.specs.Write.{write}
use Rattle.reql_write_spec.specs.declared.command.Summary.{Summary}
use Rattle.reql_write_spec.specs.declared.command.WriteCmd.{WriteCmd}
use Rattle.reql_table_machine_spec.specs.Feeds.{adds, answer, after_cmd, effect, one_more, opened_in, new_feed, is_past, if_room}
use Rattle.reql_table_machine_spec.specs.declared.command.Cmd.{Cmd as Known}
use Rattle.reql_table_machine_spec.specs.declared.command.Cmd.TheVariants as known
use Rattle.reql_table_machine_spec.specs.declared.command.Said.{Said}
use Rattle.reql_table_machine_spec.specs.declared.command.Said.TheVariants as said
use Rattle.reql_table_machine_spec.proofs.Reach.{changes_place}
use Rattle.reql_table_machine_spec.proofs.Tracking.{split}
use Rattle.reql_table_spec.specs.Indexes.{IndexCmd}
use Rattle.reql_table_spec.specs.Laws.{IsRecorded, RecordedFit}
use Rattle.reql_table_spec.specs.Machine.{State, known_cmd, reply}
use Rattle.reql_table_spec.specs.Table.{DocumentTable, Held, feeding, held}
use Rattle.reql_table_spec.specs.declared.command.FeedSpec.{FeedSpec}
use Rattle.reql_table_spec.proofs.Replays.{adds_any}

abbrev Told : Type 0
Told = Known WriteCmd IndexCmd FeedSpec

neither : (a b : Bool) → a || b ≡ false → (a ≡ false) × (b ≡ false)
neither true b h = absurd (cc (h))
neither false b h = (refl, h)

not_second : (a b : Bool) → a ≡ true → a && b ≡ false → b ≡ false
not_second true b h g = g
not_second false b h g = absurd (cc (h))

module _ (most : ℕ) where
  opened_place : (t : DocumentTable) (who : ℕ) (k : Option Held) → (opened_in (feeding most) t who k).place ≡ t.place
  opened_place t who None = refl
  opened_place t who (Some k) = split (nat_lt (length t.feeds) most) (λ b. (cond b (record t { feeds = t.feeds ++ new_feed (feeding most) t who k ∷ [] }) t).place ≡ t.place) (λ _. refl) (λ _. refl)

  effect_place : (t : DocumentTable) (who : ℕ) (cmd : Told) → (effect (feeding most) t who cmd).place ≡ t.place
  effect_place t who (known.Write w) = changes_place (feeding most) (write t.docs t.indexes w).changes t
  effect_place t who (known.Index c) = refl
  effect_place t who (known.Subscribe p) = opened_place t who (held t.indexes p)
  effect_place t who (known.Take feed max) = refl
  effect_place t who (known.Unsubscribe feed) = refl
  effect_place t who known.Shut = refl
  effect_place t who known.Sync = refl

  room_for : (t : DocumentTable) (x : Said Summary Plain) → adds (feeding most) (if_room (feeding most) t x) ≡ true → is_past (feeding most) t ≡ false
  room_for t x = split (adds (feeding most) x && is_past (feeding most) t) (λ b. adds (feeding most) (cond b (said.HistoryFull (2 ^ 64 - 1)) x) ≡ true → is_past (feeding most) t ≡ false)
      (λ e h. absurd (cc (h))) (λ e h. not_second (adds (feeding most) x) (is_past (feeding most) t) h e)

  fits : (t u : DocumentTable) → u.place ≡ suc t.place → is_past (feeding most) u ≡ false → IsRecorded t u
  fits t u up past =
      let n = neither (nat_lt (2 ^ 64 - 1) u.place) (nat_lt (2 ^ 64 - 1) u.stamp) past in
      let p : u.place ≤ 2 ^ 64 - 1 = ltb-false (2 ^ 64 - 1) u.place n.0 in
      let q : u.stamp ≤ 2 ^ 64 - 1 = ltb-false (2 ^ 64 - 1) u.stamp n.1 in
      record { place = up; room = omega (arith, p); stamp = omega (arith, q) }

  recorded : (t : DocumentTable) (who : ℕ) (cmd : Told) → adds (feeding most) (answer (feeding most) t who cmd) ≡ true → IsRecorded t (after_cmd (feeding most) t who cmd)
  recorded t who cmd h =
      let u : DocumentTable = one_more (feeding most) (effect (feeding most) t who cmd) in
      subst (IsRecorded t) (sym (ap (λ b. cond b u t) h)) (fits t u (ap (λ n. suc n) (effect_place t who cmd)) (room_for u _ h))

pub recorded_fit : RecordedFit
recorded_fit s by o h = recorded s.most s.table by (known_cmd o.cmd) (sym (adds_any s.most (reply s by o).said) ∙ h)
