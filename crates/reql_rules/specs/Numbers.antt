-- ADD, SUB, MUL, DIV and MOD (ReQL API reference: add, sub, mul, div, mod), on whole numbers from -2^53 to 2^53; ADD also on texts and arrays, ADD and SUB also on times.
use Rattle.std.specs.Prelude.{ℤ, ◌+ℤ◌, ◌-ℤ◌, ◌*ℤ◌, List, [], ◌∷◌, ◌++◌, Bool, true, false, Option, Some, Result, Ok, Err}
use Rattle.reql_datum.specs.Answer.{Answer, ◌>>=◌}
use Rattle.reql_datum.specs.Arithmetic.{held, remainder, quotient}
use Rattle.reql_datum.specs.Plain.{Plain, array, number, time, text, listed}
use Rattle.reql_datum.specs.declared.whole.NumFault.{NumFault}
use Rattle.reql_rules.specs.Lists.{Bytes, array_of, each, joined}
use Rattle.reql_rules.specs.Faults.{misplaced, number_fault}
use Rattle.reql_rules.specs.Types.{as_number, as_text, as_items}
use Rattle.reql_rules.specs.declared.words.Arith.{Arith}
use Rattle.reql_rules.specs.declared.words.Arith.TheVariants.{Add, Sub, Mul, Div, Mod}

abbrev pub Step : Type 0
Step = ℤ → ℤ → Result ℤ NumFault

abbrev pub plus : Step
plus m n = held (m +ℤ n)

abbrev pub minus : Step
minus m n = held (m -ℤ n)

abbrev pub times : Step
times m n = held (m *ℤ n)

abbrev pub exact : Result ℤ NumFault → Answer ℤ
exact (Ok n) = Ok n
exact (Err e) = Err (number_fault e)

-- step by step from the left; each step stays in the range
abbrev pub run : Step → ℤ → List ℤ → Answer ℤ
run step n [] = Ok n
run step n (k ∷ ks) = do
  m ← exact (step n k)
  run step m ks

abbrev pub run_all : Step → List ℤ → Answer ℤ
run_all step [] = Err misplaced
run_all step (n ∷ ns) = run step n ns

-- a time until another is taken from it, which leaves the seconds between
abbrev pub time_or_number : Bool → ℤ → ℤ → Plain
time_or_number true n zone = time (n, zone)
time_or_number false n zone = number n

-- what is added or taken: plain values, or the arguments of a term; each is seen as a plain value, if it is one, and is wanted as a number, a text or an array
module _ {A : Type 0} (seen : A → Option Plain) (as_n : A → Answer ℤ) (as_t : A → Answer Bytes) (as_l : A → Answer (List Plain)) where
  -- all types are tested before any arithmetic
  abbrev pub by_numbers : Step → List A → Answer Plain
  by_numbers step xs = do
    ns ← each as_n xs
    n ← run_all step ns
    Ok (number n)

  -- the first one's type says what is added
  abbrev pub add_to : Option Plain → A → List A → Answer Plain
  add_to (Some (text s)) x xs = do
    ts ← each as_t xs
    Ok (text (s ++ joined ts))
  add_to (Some (array us)) x xs = do
    ls ← each as_l xs
    Ok (array_of (listed us ++ joined ls))
  add_to (Some (time t)) x xs = do
    ns ← each as_n xs
    n ← run plus t.0 ns
    Ok (time (n, t.1))
  add_to v x xs = by_numbers plus (x ∷ xs)

  -- from what still is a time a time is taken too; from a number only numbers are
  abbrev pub seconds_in : Bool → A → Option Plain → Answer (Bool × ℤ)
  seconds_in true x (Some (time t)) = Ok (false, t.0)
  seconds_in still x v = as_n x >>= λ n. Ok (still, n)

  abbrev pub taken : Bool → List A → Answer (Bool × List ℤ)
  taken still [] = Ok (still, [])
  taken still (x ∷ xs) = do
    s ← seconds_in still x (seen x)
    rest ← taken s.0 xs
    Ok (rest.0, s.1 ∷ rest.1)

  abbrev pub take_from : Option Plain → A → List A → Answer Plain
  take_from (Some (time t)) x xs = do
    s ← taken true xs
    n ← run minus t.0 s.1
    Ok (time_or_number s.0 n t.1)
  take_from v x xs = by_numbers minus (x ∷ xs)

  abbrev pub by_first : (Option Plain → A → List A → Answer Plain) → List A → Answer Plain
  by_first f [] = Err misplaced
  by_first f (x ∷ xs) = f (seen x) x xs

  abbrev pub arith_of : Arith → List A → Answer Plain
  arith_of Add xs = by_first add_to xs
  arith_of Sub xs = by_first take_from xs
  arith_of Mul xs = by_numbers times xs
  arith_of Div xs = by_numbers quotient xs
  arith_of Mod xs = by_numbers remainder xs

abbrev pub arith : Arith → List Plain → Answer Plain
arith = arith_of Some as_number as_text as_items
