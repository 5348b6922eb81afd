-- Along a history the documents stay good, and the indexes in order of their names.
use Rattle.std.proofs.Common.{◌≡◌, ℕ, Bool, true, false, not, cond, List, [], ◌∷◌, ◌++◌, length, map, Option, Some, None, if◌then◌else◌, refl, sym, ap, subst, ◌∙◌}
use Rattle.std.specs.Prelude.{nat_lt}
use Rattle.std.proofs.lemmas.Cmp.{nat_list_cmp_total}
use Rattle.reql_datum.specs.Members.{find, put, without, AreRising, text_order}
use Rattle.reql_memory.proofs.Sorted.{rising_put, rising_without}
use Rattle.reql_rules.specs.Lists.{Bytes}
use Rattle.reql_rules.specs.Types.{same_text}
use Rattle.reql_term.specs.Views.{Document, Index}
use Rattle.reql_write_spec.specs.Treated.{Changed}
use Rattle.reql_write_spec.specs.Write.{write}
use Rattle.reql_write_spec.specs.declared.command.WriteCmd.{WriteCmd}
use Rattle.reql_shared.specs.Machine.{replay}
use Rattle.reql_table_machine_spec.specs.Feeding.{Comes}
use Rattle.reql_table_machine_spec.specs.Feeds.{adds, answer, after_cmd, after_change, after_changes, effect, one_more, opened_in, new_feed}
use Rattle.reql_table_machine_spec.specs.Fed.{changes_by, changes_at}
use Rattle.reql_table_machine_spec.specs.declared.command.Cmd.{Cmd as Known}
use Rattle.reql_table_machine_spec.specs.declared.command.Cmd.TheVariants as known
use Rattle.reql_table_machine_spec.proofs.Items.{good_changed}
use Rattle.reql_table_machine_spec.proofs.Reach.{after_docs}
use Rattle.reql_table_machine_spec.proofs.Tracking.{split}
use Rattle.reql_table_spec.specs.Indexes.{Indexes, IndexCmd, create, drop, rename, is_there, is_taken, renamed, indexed}
use Rattle.reql_table_spec.specs.Laws.{History, AreGood, May, GoodStay, IndexesStay}
use Rattle.reql_table_spec.specs.Machine.{State, known_cmd, machine, after}
use Rattle.reql_table_spec.specs.Table.{DocumentTable, Held, feeding, held}
use Rattle.reql_table_spec.specs.declared.command.FeedSpec.{FeedSpec}
use Rattle.reql_table_spec.proofs.Folding.{kinds_fold, writes_come}

abbrev Told : Type 0
Told = Known WriteCmd IndexCmd FeedSpec

module _ (most : ℕ) where
  come : (t : DocumentTable) (cmd : Told) → Comes (feeding most) May t.docs (changes_by (feeding most) t cmd)
  come t (known.Write w) = writes_come most t.docs t.indexes w
  come t (known.Index j) = tt
  come t (known.Subscribe p) = tt
  come t (known.Take feed max) = tt
  come t (known.Unsubscribe feed) = tt
  come t known.Shut = tt
  come t known.Sync = tt

  come_at : (t : DocumentTable) (who : ℕ) (cmd : Told) → Comes (feeding most) May t.docs (changes_at (feeding most) t who cmd)
  come_at t who cmd = split (adds (feeding most) (answer (feeding most) t who cmd)) (λ b. Comes (feeding most) May t.docs (cond b (changes_by (feeding most) t cmd) [])) (λ _. come t cmd) (λ _. tt)

  good_step : (t : DocumentTable) (who : ℕ) (cmd : Told) → AreGood t.docs → AreGood (after_cmd (feeding most) t who cmd).docs
  good_step t who cmd g =
      subst AreGood (sym (after_docs (feeding most) t who cmd).0) (good_changed (feeding most) AreGood May (kinds_fold most) t.docs (changes_at (feeding most) t who cmd) g (come_at t who cmd))

  -- ---- indexes
  written_indexes : (t : DocumentTable) (xs : List Changed) → (after_changes (feeding most) t xs).indexes ≡ t.indexes
  written_indexes t [] = refl
  written_indexes t (x ∷ xs) = written_indexes (after_change (feeding most) t x) xs

  opened_indexes : (t : DocumentTable) (who : ℕ) (k : Option Held) → (opened_in (feeding most) t who k).indexes ≡ t.indexes
  opened_indexes t who None = refl
  opened_indexes t who (Some k) = split (nat_lt (length t.feeds) most) (λ b. (cond b (record t { feeds = t.feeds ++ new_feed (feeding most) t who k ∷ [] }) t).indexes ≡ t.indexes) (λ _. refl) (λ _. refl)

  renamed_rising : (old new : Bytes) (i : Option Index) (js : Indexes) → AreRising js → AreRising (renamed old new i js)
  renamed_rising old new None js up = up
  renamed_rising old new (Some i) js up = rising_put text_order nat_list_cmp_total new i (without old js) (rising_without text_order nat_list_cmp_total old js up)

  indexed_rising : (js : Indexes) (c : IndexCmd) → AreRising js → AreRising (indexed js c)
  indexed_rising js (create name i) up = split (is_there name js) (λ b. AreRising (if b then js else put name i js)) (λ _. up) (λ _. rising_put text_order nat_list_cmp_total name i js up)
  indexed_rising js (drop name) up = rising_without text_order nat_list_cmp_total name js up
  indexed_rising js (rename old new overwrite) up =
      split (same_text old new) (λ b. AreRising (if b then js else (if is_taken new overwrite js then js else renamed old new (find old js) js))) (λ _. up)
      (λ _. split (is_taken new overwrite js) (λ b. AreRising (if b then js else renamed old new (find old js) js)) (λ _. up) (λ _. renamed_rising old new (find old js) js up))

  effect_rising : (t : DocumentTable) (who : ℕ) (cmd : Told) → AreRising t.indexes → AreRising (effect (feeding most) t who cmd).indexes
  effect_rising t who (known.Write w) up = subst AreRising (sym (written_indexes t (write t.docs t.indexes w).changes)) up
  effect_rising t who (known.Index c) up = indexed_rising t.indexes c up
  effect_rising t who (known.Subscribe p) up = subst AreRising (sym (opened_indexes t who (held t.indexes p))) up
  effect_rising t who (known.Take feed max) up = up
  effect_rising t who (known.Unsubscribe feed) up = up
  effect_rising t who known.Shut up = up
  effect_rising t who known.Sync up = up

  rising_step : (t : DocumentTable) (who : ℕ) (cmd : Told) → AreRising t.indexes → AreRising (after_cmd (feeding most) t who cmd).indexes
  rising_step t who cmd up = split (adds (feeding most) (answer (feeding most) t who cmd)) (λ b. AreRising (cond b (one_more (feeding most) (effect (feeding most) t who cmd)) t).indexes) (λ _. effect_rising t who cmd up) (λ _. up)

pub good_stay : GoodStay
good_stay s [] g = g
good_stay s (e ∷ es) g = good_stay (after s e.by e.cmd) es (good_step s.most s.table e.by (known_cmd e.cmd.cmd) g)

pub indexes_stay : IndexesStay
indexes_stay s [] up = up
indexes_stay s (e ∷ es) up = indexes_stay (after s e.by e.cmd) es (rising_step s.most s.table e.by (known_cmd e.cmd.cmd) up)
