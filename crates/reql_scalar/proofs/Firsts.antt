-- Arithmetic of a first number and further ones is that of all.
use Rattle.std.proofs.Common.{◌≡◌, ℤ, List, ◌∷◌, Ok, Err, refl, sym, ◌⊎◌, inl, inr}
use Rattle.reql_datum.specs.Answer.{Answer, ◌>>=◌}
use Rattle.reql_datum.specs.Plain.{Plain, number}
use Rattle.reql_rules.specs.Lists.{each}
use Rattle.reql_rules.specs.Numbers.{Step, run_all, arith}
use Rattle.reql_rules.specs.Types.{as_number}
use Rattle.reql_rules.specs.declared.words.Arith.{Arith}
use Rattle.reql_rules.specs.declared.words.Arith.TheVariants.{Mul, Div, Mod}
use Rattle.reql_scalar.specs.Adding.{numbers_of}
use Rattle.reql_scalar.specs.Steps.{on, all_on, step_of}

rest_is : (step : Step) (n : ℤ) (r : Answer (List ℤ)) → ((r >>= λ ns. Ok (n ∷ ns)) >>= λ ns. (run_all step ns >>= λ m. Ok (number m))) ≡ ((r >>= on step (Ok n)) >>= λ m. Ok (number m))
rest_is step n (Ok ns) = refl
rest_is step n (Err e) = refl

first_is : (step : Step) (a : Answer ℤ) (vs : List Plain) → ((a >>= λ n. (each as_number vs >>= λ ns. Ok (n ∷ ns))) >>= λ ns. (run_all step ns >>= λ m. Ok (number m))) ≡ (a >>= λ n. (all_on step (Ok n) vs >>= λ m. Ok (number m)))
first_is step (Ok n) vs = rest_is step n (each as_number vs)
first_is step (Err e) vs = refl

pub the_others : (op : Arith) (v : Plain) (vs us : List Plain) → us ≡ v ∷ vs → (op ≡ Mul) ⊎ ((op ≡ Div) ⊎ (op ≡ Mod)) → numbers_of op v vs ≡ arith op us
the_others op v vs us is (inl e) = rw (is, e) (sym (first_is (step_of Mul) (as_number v) vs))
the_others op v vs us is (inr (inl e)) = rw (is, e) (sym (first_is (step_of Div) (as_number v) vs))
the_others op v vs us is (inr (inr e)) = rw (is, e) (sym (first_is (step_of Mod) (as_number v) vs))
