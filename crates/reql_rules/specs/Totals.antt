-- SUM, AVG, MIN and MAX over what a called function answers of each element (ReQL API reference: sum, avg, min, max).
-- Elements on which it is NON_EXISTENCE are passed over.
use Rattle.std.specs.Prelude.{ℕ, suc, ℤ, pos, List, [], ◌∷◌, Bool, if◌then◌else◌, Option, Some, None, Ok, Err, nat_eq}
use Rattle.std.specs.Ordering.{is_lt, is_gt}
use Rattle.reql_datum.specs.Answer.{Answer, ◌>>=◌}
use Rattle.reql_datum.specs.Arithmetic.{quotient}
use Rattle.reql_datum.specs.Order.{order}
use Rattle.reql_datum.specs.Plain.{Plain, null, number}
use Rattle.reql_rules.specs.Faults.{nothing_to_aggregate}
use Rattle.reql_rules.specs.Types.{as_number}
use Rattle.reql_rules.specs.Mapping.{if_any}
use Rattle.reql_rules.specs.Numbers.{exact, plus}
use Rattle.reql_rules.specs.declared.words.Total.{Total}
use Rattle.reql_rules.specs.declared.words.Total.TheVariants.{Sum, Avg, Min, Max}

module _ {S : Type 0} where
  -- from the left, over the elements on which k is there, each with its value there
  abbrev pub with_value : (S → Plain → Plain → Answer S) → S → Plain → Option Plain → Answer S
  with_value f s v None = Ok s
  with_value f s v (Some k) = f s k v

  abbrev pub over_values : (S → Plain → Plain → Answer S) → (Plain → Answer Plain) → S → List Plain → Answer S
  over_values f m s [] = Ok s
  over_values f m s (v ∷ vs) = do
    k ← if_any (m v)
    t ← with_value f s v k
    over_values f m t vs

-- the total so far and how many it is of; null is passed over
abbrev pub summed : ℤ × ℕ → Plain → Plain → Answer (ℤ × ℕ)
summed s null v = Ok s
summed s k v = do
  n ← as_number k
  t ← exact (plus s.0 n)
  Ok (t, suc s.1)

abbrev pub sum_all : (Plain → Answer Plain) → List Plain → Answer (ℤ × ℕ)
sum_all m vs = over_values summed m (pos 0, 0) vs

-- the mean is a whole number, of at least one
abbrev pub mean : ℤ × ℕ → Answer Plain
mean s = if nat_eq s.1 0 then Err nothing_to_aggregate else (exact (quotient s.0 (pos s.1)) >>= λ n. Ok (number n))

-- the best element so far with its value; a later one takes its place only where its value beats it
abbrev pub better : (Plain → Plain → Bool) → Option (Plain × Plain) → Plain → Plain → Option (Plain × Plain)
better beats None k v = Some (k, v)
better beats (Some b) k v = if beats k b.0 then Some (k, v) else Some b

abbrev pub element_of : Option (Plain × Plain) → Answer Plain
element_of None = Err nothing_to_aggregate
element_of (Some b) = Ok b.1

abbrev pub best : (Plain → Plain → Bool) → (Plain → Answer Plain) → List Plain → Answer Plain
best beats m vs = over_values (λ b k v. Ok (better beats b k v)) m None vs >>= element_of

abbrev pub total : Total → (Plain → Answer Plain) → List Plain → Answer Plain
total Sum m vs = sum_all m vs >>= λ s. Ok (number s.0)
total Avg m vs = sum_all m vs >>= mean
total Min m vs = best (λ a b. is_lt (order a b)) m vs
total Max m vs = best (λ a b. is_gt (order a b)) m vs
