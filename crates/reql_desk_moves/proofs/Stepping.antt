-- Moves on a desk, one after another.
use Rattle.std.proofs.Common.{◌≡◌, inl, inr, ℕ, zero, suc, ◌+◌, ◌<◌, get_or, drop-cons, add-one, List, [], ◌∷◌, length, map, drop, Option, refl, sym, ap, subst, ◌∙◌}
use Rattle.reql_shared.specs.Acts.{Ran, Denied}
use Rattle.reql_table_spec.specs.Machine.{State}
use Rattle.reql_table_spec.specs.Replies.{Answered}
use Rattle.reql_table_spec.specs.declared.command.Order.{Order}
use Rattle.reql_table_spec.specs.declared.reply.Saved.{Saved}
use Rattle.reql_table_spec.specs.declared.reply.Saved.TheVariants as saved
use Rattle.reql_session_spec.specs.Books.{Books}
use Rattle.reql_session_spec.specs.Tasks.{Talk, Task, Next, at, wanted, ran, denied, Runs}
use Rattle.reql_session_spec.specs.Session.{Mach, goes_on}
use Rattle.reql_session_spec.specs.Worlds.{at_desk, with_out}
use Rattle.reql_session_spec.proofs.Going.{does_on}
use Rattle.reql_session_spec.proofs.Steps.{does_none, does_act, does_want}
use Rattle.reql_desk_moves.specs.Acting.{AtDesk, Answers, Denies}
use Rattle.reql_desk_moves.specs.Steps.{Steps}

-- the next of a list
pub next_in : {X Y : Type 0} (f : X → Y) (xs : List X) (i : ℕ) (x y : X) → i < length xs → x ≡ get_or xs i y → map f (drop i xs) ≡ f x ∷ map f (drop (i + 1) xs)
next_in f xs i x y h e = ap (map f) (drop-cons xs i y h ∙ (λ j. sym e j ∷ drop (sym (add-one i) j) xs))

pub drop_map : {X Y : Type 0} (f : X → Y) (xs : List X) (i : ℕ) → drop i (map f xs) ≡ map f (drop i xs)
drop_map f xs zero = refl
drop_map f [] (suc i) = refl
drop_map f (x ∷ xs) (suc i) = drop_map f xs i

module _ {PL : Type 0} (k : Talk PL) (some : State) where
  pub steps_none : (p : AtDesk) (x : Next PL) → Steps k some p p x x
  steps_none p x m back = does_none k (at_desk some p (goes_on m back x))

  pub steps_on : (p q r : AtDesk) (x y z : Next PL) → Steps k some p q x y → Steps k some q r y z → Steps k some p r x z
  steps_on p q r x y z f g m back = does_on k (at_desk some p (goes_on m back x)) (at_desk some q (goes_on m back y)) (at_desk some r (goes_on m back z)) [] [] (f m back) (g m back)

  pub steps_ran : (p q : AtDesk) (b : Books) (t : Task PL) (y : Next PL) (slot : ℕ) (order : Order) (reply : Answered) (kept : Saved) → Runs k b t slot order → ran k b t slot order.cmd reply kept ≡ y → Answers some p q slot order reply kept → Steps k some p q (at b t) y
  steps_ran p q b t y slot order reply kept h e a m back = does_act k (at_desk some p (goes_on m back (at b t))) (at_desk some q (goes_on m back y)) slot (Ran a.place order reply) kept a.acts.slots a.acts.names a.honest
      (λ out. inl (record { back = back; task = t; doing = refl; runs = h; goes = ap (λ z. with_out out (goes_on m back z)) (sym e) }))

  pub steps_denied : (p q : AtDesk) (b : Books) (t : Task PL) (y : Next PL) (slot : ℕ) (order : Order) → Runs k b t slot order → denied b t slot order.cmd ≡ y → Denies some p q slot → Steps k some p q (at b t) y
  steps_denied p q b t y slot order h e d m back = does_act k (at_desk some p (goes_on m back (at b t))) (at_desk some q (goes_on m back y)) slot (Denied d.place) saved.Yes d.acts.slots d.acts.names tt
      (λ out. inl (record { back = back; task = t; order = order; doing = refl; runs = h; goes = ap (λ z. with_out out (goes_on m back z)) (sym e) }))

  pub steps_want : (p : AtDesk) (b : Books) (t : Task PL) → Steps k some p p (at b t) (wanted b t)
  steps_want p b t m back = does_want k (at_desk some p (goes_on m back (at b t))) back t refl
