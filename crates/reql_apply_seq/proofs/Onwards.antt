-- One step of a rule, and arguments apart.
use Rattle.std.proofs.Common.{◌≡◌, refl, ◌∙◌, sym, ap, arith, ◌≤◌, List, [], ◌∷◌, length, get_or, drop, Result, Ok, Some, Bool, option_and_then}
use Rattle.reql_datum.specs.Answer.{Answer, ◌>>=◌}
use Rattle.reql_datum.specs.Outcome.{Gives}
use Rattle.reql_datum.specs.Plain.{Plain}
use Rattle.reql_datum.specs.declared.fault.Fault.{Fault}
use Rattle.reql_rules.specs.Lists.{Bytes}
use Rattle.reql_rules.specs.Types.{text_in}
use Rattle.reql_value_spec.specs.Meant.{Meant, Given, Calls, meant_of}
use Rattle.reql_value_spec.specs.Orders.{is_down, key_in, order_in}
use Rattle.reql_value_spec.specs.Wanted.{value_in}
use Rattle.reql_value_spec.specs.World.{World}
use Rattle.reql_apply_seq.specs.Orders.{ordered_by}

pub then_gives : {X Y A : Type 0} (view : X → Y) (r : Result X Fault) (a : Answer A) (x : A) (k : A → Answer Y) → a ≡ Ok x → Gives view r (k x) → Gives view r (a >>= k)
then_gives view r a x k e h = rw e h

pub first_apart : {A : Type 0} (xs rest : List A) (a : A) → 1 ≤ length xs → a ≡ get_or xs 0 a → rest ≡ drop 1 xs → xs ≡ a ∷ rest
first_apart [] rest a some is left = absurd (omega arith)
first_apart (x ∷ xs) rest a some is left = ap (λ u. u ∷ xs) (sym is) ∙ ap (λ us. a ∷ us) (sym left)

pub named_order : (w : World) (calls : Calls) (m : Meant) (ks : List Given) (ds : List Plain) (g : Given) (name : Bytes) (down : Bool)
    → option_and_then text_in (value_in (meant_of (key_in g))) ≡ Some name → down ≡ is_down g
    → ordered_by w calls m ks ds (Some g) ≡ order_in w calls m ks ds (Some (name, down))
named_order w calls m ks ds g name down e d = rw (e, d) refl
