-- The numbers of the feeds that are opened on a table rise along its history.
use Rattle.std.proofs.Common.{◌≡◌, ◌≤◌, ℕ, List, [], ◌∷◌, ◌++◌, Option, Some, None, refl, sym, subst, arith}
use Rattle.reql_table_machine_spec.specs.Feeding.{Feeding}
use Rattle.reql_table_machine_spec.specs.Feeds.{Table, answer, after_cmd}
use Rattle.reql_table_machine_spec.specs.Subscribing.{numbers_in, RiseFrom, numbers_from, NumbersRise}
use Rattle.reql_table_machine_spec.specs.declared.command.Cmd.{Cmd}
use Rattle.reql_table_machine_spec.specs.declared.command.Order.{Order}
use Rattle.reql_table_machine_spec.specs.declared.command.Said.{Said}
use Rattle.reql_table_machine_spec.specs.declared.command.Said.TheVariants as said
use Rattle.reql_shared.specs.declared.recorded.Recorded.{Recorded}
use Rattle.reql_table_machine_spec.proofs.Numbers.{number_in, Numbered, numbered, after_place}

abbrev as_list : Option ℕ → List ℕ
as_list None = []
as_list (Some f) = f ∷ []

module _ {M I : Type 0} where
  same_number : (s : Said M I) → numbers_in s ≡ as_list (number_in s)
  same_number (said.Opened f o) = refl
  same_number other = refl

  pub number_none : (s : Said M I) → numbers_in s ≡ [] → number_in s ≡ None
  number_none (said.Opened f o) e = absurd (let h : (f ∷ []) ≡ [] = e in cc)
  number_none other e = refl

lower : (m n : ℕ) (xs : List ℕ) → m ≤ n → RiseFrom n xs → RiseFrom m xs
lower m n [] le up = tt
lower m n (x ∷ xs) le up = (omega (arith, le, up.0), up.1)

module _ {D J W N P M X K I F : Type 0} (m : Feeding D J W N P M X K I F) (plain : (j : J) (n : N) → number_in (m.index_said j n) ≡ None) where
  step : (t u : Table D J K I) (x : Option ℕ) (xs : List ℕ) → Numbered m plain t u x → t.place ≤ u.place → RiseFrom u.place xs → RiseFrom t.place (as_list x ++ xs)
  step t u None xs n le up = lower t.place u.place xs le up
  step t u (Some f) xs n le up = (omega (arith, n.0), lower f u.place xs n.1 up)

  rise : (t : Table D J K I) (history : List (Recorded (Order (Cmd W N P)))) → RiseFrom t.place (numbers_from m t history)
  rise t [] = tt
  rise t (e ∷ es) =
      let now : Table D J K I = after_cmd m t e.by e.cmd.cmd in
      subst (λ z. RiseFrom t.place (z ++ numbers_from m now es)) (sym (same_number (answer m t e.by e.cmd.cmd)))
      (step t now (number_in (answer m t e.by e.cmd.cmd)) (numbers_from m now es) (numbered m plain t e.by e.cmd.cmd) (after_place m plain t e.by e.cmd.cmd) (rise now es))

module _ {D J W N P M X K I F : Type 0} (m : Feeding D J W N P M X K I F) where
  pub numbers_from_rise : NumbersRise m
  numbers_from_rise plain t history = rise m (λ j n. number_none (m.index_said j n) (plain j n)) t history
