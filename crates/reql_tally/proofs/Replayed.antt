-- A table to which an entry was given.
use Rattle.std.proofs.Common.{◌≡◌, ℕ, true, false, refl, sym, ap, ◌∙◌}
use Rattle.reql_table_machine_spec.proofs.Tracking.{split}
use Rattle.reql_table_spec.specs.Machine.{State, after, reply, is_recorded}
use Rattle.reql_table_spec.specs.Replies.{Answered}
use Rattle.reql_table_spec.specs.declared.command.Order.{Order}
use Rattle.reql_table_spec.proofs.Replays.{refused_stays}

-- recorded or not, it is what the machine says
pub moves : (s now : State) (by : ℕ) (given order : Order) (r : Answered) → given ≡ order → r ≡ reply s by given → (is_recorded r ≡ true → now ≡ after s by given) → (is_recorded r ≡ false → now ≡ s) → now ≡ after s by order
moves s now by given order r same is added kept =
    split (is_recorded r) (λ b. is_recorded r ≡ b → now ≡ after s by given)
    (λ _ h. added h)
    (λ _ h. kept h ∙ sym (refused_stays s by given (ap is_recorded (sym is) ∙ h))) refl
    ∙ ap (after s by) same
