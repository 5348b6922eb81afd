-- The count of faults of an engine with a journal never falls, and has risen where a command was answered that it was not saved.
use Rattle.std.proofs.Common.{◌≡◌, ◌⊎◌, inl, inr, ◌≤◌, ◌<◌, ℕ, suc, ◌+◌, ◌-◌, ◌^◌, min, Bool, true, false, Option, Some, None, Result, Ok, Err, refl, sym, ap, ◌∙◌, subst, le_refl}
use Rattle.std.proofs.Math.Nat.{le-min, min-le_left, min-le_right, min-eq_right, eq-or-lt_of_le, le_trans, le-suc, suc-le-suc_iff}
use Rattle.std.proofs.Math.Numerals.{add-one}
use Rattle.reql_disk.specs.Calls.{Told}
use Rattle.reql_disk.specs.declared.disk.DiskFault.{DiskFault}
use Rattle.reql_disk.specs.declared.disk.DiskFault.TheVariants as fault
use Rattle.reql_blocks.specs.Held.{Counts}
use Rattle.reql_records.specs.Books.{Journal}
use Rattle.reql_records.specs.Safe.{Answer}
use Rattle.reql_table_spec.specs.Engines.{Risen, FaultsStay, FailsByFaults}
use Rattle.reql_table_spec.specs.Machine.{State}
use Rattle.reql_table_spec.specs.declared.command.Order.{Order}
use Rattle.reql_table_spec.specs.declared.reply.Reply.{Reply}
use Rattle.reql_table_spec.specs.declared.reply.Saved.{Saved}
use Rattle.reql_table_spec.specs.declared.reply.Saved.TheVariants as saved
use Rattle.reql_journal.specs.Engines.{Both, stated, state_of, faults_of, counted_faults, saved_of, Keeps, Refuses, Ran, TellsBy, Tells}

-- ---- a count that ends at a number

module _ (a m : ℕ) where
  one_more : min a m ≤ min (min (suc a) m) m
  one_more = le-min (le-min (le_trans (min-le_left a m) (le-suc a)) (min-le_right a m)) (min-le_right a m)

  never_falls : min a m ≤ min (min (a + 1) m) m
  never_falls = subst (λ k. min a m ≤ min (min k m) m) (sym (add-one a)) one_more

  risen_by : (min a m ≡ m) ⊎ (min a m < m) → (min a m < min (min (suc a) m) m) ⊎ (min (min (suc a) m) m ≡ m)
  risen_by (inl e) = inr (min-eq_right (le-min (le_trans (subst (λ k. k ≤ a) e (min-le_left a m)) (le-suc a)) (le_refl m)))
  risen_by (inr less) = inl (le-min (le-min ((suc-le-suc_iff {n = min a m} {m = a}).1 (min-le_left a m)) less) less)

  rises : (min a m < min (min (a + 1) m) m) ⊎ (min (min (a + 1) m) m ≡ m)
  rises = subst (λ k. (min a m < min (min k m) m) ⊎ (min (min k m) m ≡ m)) (sym (add-one a)) (risen_by (eq-or-lt_of_le (min-le_right a m)))

-- ---- the count of a disk

same_count : (old new : ℕ) → new ≡ old → min old (2 ^ 64 - 1) ≤ min new (2 ^ 64 - 1)
same_count old new e = subst (λ n. min old (2 ^ 64 - 1) ≤ min n (2 ^ 64 - 1)) (sym e) (le_refl (min old (2 ^ 64 - 1)))

counts_stay : (old new : Told) (answer : Answer) → Counts old new answer → min old.faults (2 ^ 64 - 1) ≤ min new.faults (2 ^ 64 - 1)
counts_stay old new (Ok done) c = same_count old.faults new.faults c.0
counts_stay old new (Err fault.Failed) c = subst (λ n. min old.faults (2 ^ 64 - 1) ≤ min n (2 ^ 64 - 1)) (sym c.1) (never_falls old.faults (2 ^ 64 - 1))
counts_stay old new (Err fault.Memory) c = same_count old.faults new.faults c.0

abbrev Not : Saved → Type 0
Not saved.Yes = ⊥
Not saved.Failed = Unit {0}
Not saved.Memory = ⊥

failed_by : (old new : Told) (answer : Answer) → Counts old new answer → Not (saved_of answer) → Risen (min old.faults (2 ^ 64 - 1)) (min new.faults (2 ^ 64 - 1)) × (old.sound ≡ false)
failed_by old new (Ok done) c h = absurd h
failed_by old new (Err fault.Failed) c h = (subst (λ n. Risen (min old.faults (2 ^ 64 - 1)) (min n (2 ^ 64 - 1))) (sym c.1) (rises old.faults (2 ^ 64 - 1)), c.0)
failed_by old new (Err fault.Memory) c h = absurd h

-- ---- an engine, with a journal or without one

module _ {E : Type 0} (tells : E → E → ℕ → Order → Option Reply → Type 0) (state : E → State) (faults : E → ℕ) where
  stay_by : FaultsStay tells faults → (old new : E) (before after : Option Journal) (by : ℕ) (o : Order) (r : Option Reply) → TellsBy tells state old new before after by o r → counted_faults (faults old) before ≤ counted_faults (faults new) after
  stay_by stay old new None None by o r t = stay old new by o r t
  stay_by stay old new (Some j) (Some k) by o None t = same_count j.held.told.faults k.held.told.faults (ap (λ h. h.told.faults) t.held)
  stay_by stay old new (Some j) (Some k) by o (Some r) t = counts_stay j.held.told k.held.told t.1.answer t.1.counts
  stay_by stay old new None (Some k) by o r t = absurd t
  stay_by stay old new (Some j) None by o r t = absurd t

  pub faults_stay : FaultsStay tells faults → FaultsStay (Tells tells state) (faults_of faults)
  faults_stay stay old new by o r t = stay_by stay old.engine new.engine old.journal new.journal by o r t

  fails_by : FailsByFaults tells state faults → (old new : E) (before after : Option Journal) (by : ℕ) (o : Order) (r : Reply) → TellsBy tells state old new before after by o (Some r) → r.saved ≡ saved.Failed
      → Risen (counted_faults (faults old) before) (counted_faults (faults new) after) × ((stated (state old) before).sound ≡ false)
  fails_by fails old new None None by o r t f = fails old new by o r t f
  fails_by fails old new (Some j) (Some k) by o r t f = failed_by j.held.told k.held.told t.1.answer t.1.counts (subst Not (sym f ∙ t.1.says) tt)
  fails_by fails old new None (Some k) by o r t f = absurd t
  fails_by fails old new (Some j) None by o r t f = absurd t

  pub fails_by_faults : FailsByFaults tells state faults → FailsByFaults (Tells tells state) (state_of state) (faults_of faults)
  fails_by_faults fails old new by o r t f = fails_by fails old.engine new.engine old.journal new.journal by o r t f
