-- A table is shut where it was, or a command dropped it.
use Rattle.std.proofs.Common.{◌≡◌, ℕ, Bool, true, false, cond, ◌&&◌, ◌||◌, List, [], ◌∷◌, ◌++◌, length, Option, Some, None, refl, ap, ◌∙◌}
use Rattle.std.specs.Prelude.{nat_lt}
use Rattle.reql_table_machine_spec.specs.Feeding.{Feeding}
use Rattle.reql_table_machine_spec.specs.Feeds.{Table, after_change, after_changes, new_feed, opened_in, effect, one_more, adds, answer, after, after_cmd}
use Rattle.reql_table_machine_spec.specs.Laws.{is_drop, drops_from, ShutWhereDropped}
use Rattle.reql_table_machine_spec.specs.declared.command.Cmd.{Cmd}
use Rattle.reql_table_machine_spec.specs.declared.command.Cmd.TheVariants as cmds
use Rattle.reql_table_machine_spec.proofs.Tracking.{split}

or_false : (x : Bool) → x ≡ (x || false)
or_false true = refl
or_false false = refl

or_true : (x : Bool) → true ≡ (x || true)
or_true true = refl
or_true false = refl

or_assoc : (x y z : Bool) → ((x || y) || z) ≡ (x || (y || z))
or_assoc true y z = refl
or_assoc false y z = refl

module _ {D J W N P M X K I F : Type 0} (m : Feeding D J W N P M X K I F) where
  changes_shut : (xs : List X) (t : Table D J K I) → (after_changes m t xs).shut ≡ t.shut
  changes_shut [] t = refl
  changes_shut (x ∷ xs) t = changes_shut xs (after_change m t x)

  effect_shut : (t : Table D J K I) (by : ℕ) (cmd : Cmd W N P) → (effect m t by cmd).shut ≡ (t.shut || is_drop cmd)
  effect_shut t by (cmds.Write w) = changes_shut (m.changes t.docs t.indexes w) t ∙ or_false t.shut
  effect_shut t by (cmds.Index n) = or_false t.shut
  effect_shut t by (cmds.Subscribe p) = opened (m.keep t.indexes p) ∙ or_false t.shut
    where
      opened : (o : Option K) → (opened_in m t by o).shut ≡ t.shut
      opened None = refl
      opened (Some k) = split (nat_lt (length t.feeds) m.most) (λ b. (cond b (record t { feeds = t.feeds ++ new_feed m t by k ∷ [] }) t).shut ≡ t.shut) (λ _. refl) (λ _. refl)
  effect_shut t by (cmds.Take feed most) = or_false t.shut
  effect_shut t by (cmds.Unsubscribe feed) = or_false t.shut
  effect_shut t by cmds.Shut = or_true t.shut
  effect_shut t by cmds.Sync = or_false t.shut

  after_shut : (t : Table D J K I) (by : ℕ) (cmd : Cmd W N P) → (after_cmd m t by cmd).shut ≡ (t.shut || (adds m (answer m t by cmd) && is_drop cmd))
  after_shut t by cmd = split (adds m (answer m t by cmd)) (λ b. (cond b (one_more m (effect m t by cmd)) t).shut ≡ (t.shut || (b && is_drop cmd))) (λ _. effect_shut t by cmd) (λ _. or_false t.shut)

  pub shut_where_dropped : ShutWhereDropped m
  shut_where_dropped t [] = or_false t.shut
  shut_where_dropped t (e ∷ es) =
      shut_where_dropped (after m t e.by e.cmd) es ∙ ap (λ b. b || drops_from m (after m t e.by e.cmd) es) (after_shut t e.by e.cmd.cmd)
      ∙ or_assoc t.shut (adds m (answer m t e.by e.cmd.cmd) && is_drop e.cmd.cmd) (drops_from m (after m t e.by e.cmd) es)
