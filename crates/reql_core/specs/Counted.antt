-- Every entry counts one.
use Rattle.std.specs.Prelude.{◌≡◌, ℕ, suc, List, [], ◌∷◌, ◌++◌, Bool, true, false, cond, Option, Some, None, nat_lt, length, refl}
use Rattle.std.proofs.Common.{ap}
use Rattle.reql_table_machine_spec.specs.Feeds.{effect, after_change, after_changes, opened_in, new_feed}
use Rattle.reql_table_machine_spec.specs.declared.command.Cmd.TheVariants as known
use Rattle.reql_write_spec.specs.Treated.{Changed}
use Rattle.reql_tail.specs.Led.{CountsOne}
use Rattle.reql_table_spec.specs.Machine.{known_cmd}
use Rattle.reql_table_spec.specs.Table.{Held, DocumentTable, feeding, held}
use Rattle.reql_core.specs.Live.{Asked}
use Rattle.reql_core.specs.Moments.{led_by}

module _ (most : ℕ) where
  changes_place : (t : DocumentTable) (xs : List Changed) → (after_changes (feeding most) t xs).place ≡ t.place
  changes_place t [] = refl
  changes_place t (x ∷ xs) = changes_place (after_change (feeding most) t x) xs

  one_place : (b : Bool) (u t : DocumentTable) → u.place ≡ t.place → (cond b u t).place ≡ t.place
  one_place true u t e = e
  one_place false u t e = refl

  opened_place : (t : DocumentTable) (by : ℕ) (o : Option Held) → (opened_in (feeding most) t by o).place ≡ t.place
  opened_place t by None = refl
  opened_place t by (Some h) = one_place (nat_lt (length t.feeds) most) (record t { feeds = t.feeds ++ new_feed (feeding most) t by h ∷ [] }) t refl

  -- what a command does, its entry aside, leaves the place
  pub effect_place : (t : DocumentTable) (by : ℕ) (cmd : Asked) → (effect (feeding most) t by cmd).place ≡ t.place
  effect_place t by (known.Write w) = changes_place t ((feeding most).changes t.docs t.indexes w)
  effect_place t by (known.Index n) = refl
  effect_place t by (known.Subscribe p) = opened_place t by (held t.indexes p)
  effect_place t by (known.Take feed max) = refl
  effect_place t by (known.Unsubscribe feed) = refl
  effect_place t by known.Shut = refl
  effect_place t by known.Sync = refl

pub counted : CountsOne led_by (λ (t : DocumentTable). t.place)
counted t e = ap suc (effect_place 0 t e.by (known_cmd e.order.cmd))
