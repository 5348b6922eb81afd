-- FILTER, CONCAT_MAP, REDUCE, OFFSETS_OF, COUNT and CONTAINS over what a called function answers of each element
-- (ReQL API reference: filter, concatMap, reduce, offsetsOf, count, contains). Each element is tried, in order; the first fault counts.
use Rattle.std.specs.Prelude.{ℕ, ◌+◌, List, [], ◌∷◌, Bool, true, false, ◌||◌, if◌then◌else◌, Option, Some, None, Ok, Err}
use Rattle.reql_datum.specs.Answer.{Answer, ◌>>=◌, Reason, non_existence}
use Rattle.reql_datum.specs.Plain.{Plain}
use Rattle.reql_rules.specs.Lists.{each_joined}
use Rattle.reql_rules.specs.Faults.{nothing_to_aggregate}
use Rattle.reql_rules.specs.Types.{as_items, truth}
use Rattle.reql_rules.specs.Places.{counted_as}
use Rattle.reql_rules.specs.declared.words.Missing.{Missing}
use Rattle.reql_rules.specs.declared.words.Missing.TheVariants.{Drop, Keep}

module _ {A : Type 0} where
  -- the value, with NON_EXISTENCE as nothing
  abbrev pub unless_missing : Reason → Answer (Option A)
  unless_missing (non_existence s) = Ok None
  unless_missing e = Err e

  abbrev pub if_any : Answer A → Answer (Option A)
  if_any (Ok x) = Ok (Some x)
  if_any (Err e) = unless_missing e

-- the elements that pass a test
abbrev pub passing : (Plain → Answer Bool) → List Plain → Answer (List Plain)
passing test [] = Ok []
passing test (v ∷ vs) = do
  b ← test v
  ws ← passing test vs
  Ok (if b then v ∷ ws else ws)

-- whether any does; each is tried
abbrev pub some_pass : (Plain → Answer Bool) → List Plain → Answer Bool
some_pass test [] = Ok false
some_pass test (v ∷ vs) = do
  b ← test v
  c ← some_pass test vs
  Ok (b || c)

-- the places, from n on, of those that do
abbrev pub places_from : ℕ → (Plain → Answer Bool) → List Plain → Answer (List Plain)
places_from n test [] = Ok []
places_from n test (v ∷ vs) = do
  b ← test v
  ws ← places_from (n + 1) test vs
  Ok (if b then counted_as n ∷ ws else ws)

-- what FILTER's test says where it is NON_EXISTENCE
abbrev pub missed : Missing → Reason → Answer Bool
missed Drop (non_existence s) = Ok false
missed Keep (non_existence s) = Ok true
missed missing e = Err e

abbrev pub tested : Missing → Answer Plain → Answer Bool
tested missing (Ok v) = Ok (truth v)
tested missing (Err e) = missed missing e

abbrev pub filter_all : Missing → (Plain → Answer Plain) → List Plain → Answer (List Plain)
filter_all missing m vs = passing (λ v. tested missing (m v)) vs

-- the arrays that m gives, joined
abbrev pub concat_all : (Plain → Answer Plain) → List Plain → Answer (List Plain)
concat_all m vs = each_joined (λ v. m v >>= as_items) vs

-- from the left; one element is itself
abbrev pub reduce_from : (Plain → Plain → Answer Plain) → Plain → List Plain → Answer Plain
reduce_from m u [] = Ok u
reduce_from m u (v ∷ vs) = do
  w ← m u v
  reduce_from m w vs

abbrev pub reduce_all : (Plain → Plain → Answer Plain) → List Plain → Answer Plain
reduce_all m [] = Err nothing_to_aggregate
reduce_all m (v ∷ vs) = reduce_from m v vs
