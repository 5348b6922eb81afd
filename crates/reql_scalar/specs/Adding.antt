-- ADD, SUB, MUL, DIV and MOD of a first document and further ones, each by one walk over those.
use Rattle.std.specs.Prelude.{ℤ, List, ◌++◌, Bool, true, Some, Result, Ok}
use Rattle.reql_datum.specs.Answer.{Answer, ◌>>=◌}
use Rattle.reql_datum.specs.Plain.{Plain, number, time, text}
use Rattle.reql_datum.specs.declared.whole.NumFault.{NumFault}
use Rattle.reql_rules.specs.Lists.{Bytes, array_of, each, joined}
use Rattle.reql_rules.specs.Numbers as numbers
use Rattle.reql_rules.specs.Numbers.{minus, plus, time_or_number}
use Rattle.reql_rules.specs.Types.{as_number, as_text, as_items}
use Rattle.reql_rules.specs.declared.words.Arith.{Arith}
use Rattle.reql_scalar.specs.Steps.{step_of, on, all_on}

abbrev pub numbers_of : Arith → Plain → List Plain → Answer Plain
numbers_of op v vs = as_number v >>= λ n. (all_on (step_of op) (Ok n) vs >>= λ m. Ok (number m))

abbrev pub added_texts : Bytes → List Plain → Answer Plain
added_texts s vs = each as_text vs >>= λ ts. Ok (text (s ++ joined ts))

abbrev pub added_items : List Plain → List Plain → Answer Plain
added_items us vs = each as_items vs >>= λ ls. Ok (array_of (us ++ joined ls))

abbrev pub added_seconds : ℤ × ℤ → List Plain → Answer Plain
added_seconds t vs = all_on plus (Ok t.0) vs >>= λ n. Ok (time (n, t.1))

abbrev pub seconds_in : Bool → Plain → Answer (Bool × ℤ)
seconds_in still v = numbers.seconds_in Some as_number as_text as_items still v (Some v)

abbrev pub taken : Bool → List Plain → Answer (Bool × List ℤ)
taken = numbers.taken Some as_number as_text as_items

-- what is left, and whether it still is a time
abbrev pub less_on : Bool → Result ℤ NumFault → List Plain → Answer (Bool × ℤ)
less_on still so_far vs = taken still vs >>= λ s. (on minus so_far s.1 >>= λ n. Ok (s.0, n))

abbrev pub taken_off : ℤ × ℤ → List Plain → Answer Plain
taken_off t vs = less_on true (Ok t.0) vs >>= λ s. Ok (time_or_number s.0 s.1 t.1)

abbrev pub added : Plain → List Plain → Answer Plain
added v vs = numbers.add_to Some as_number as_text as_items (Some v) v vs

abbrev pub less : Plain → List Plain → Answer Plain
less v vs = numbers.take_from Some as_number as_text as_items (Some v) v vs
