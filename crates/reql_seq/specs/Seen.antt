-- What is kept beside elements, as what it stands for: keys, sums, and the best so far.
use Rattle.std.specs.Prelude.{ℕ, ℤ, Bool, List, [], ◌∷◌, Option, option_map, map}
use Rattle.std.specs.Borrow.{Bor}
use Rattle.std.specs.Ordering.{is_lt, is_gt}
use Rattle.reql_datum.specs.Order.{order}
use Rattle.reql_datum.specs.Plain.{Plain}
use Rattle.reql_datum.specs.View.{plain}
use Rattle.reql_datum.specs.declared.datum.Datum.{Datum}
use Rattle.reql_rules.specs.Sorting as sorting
use Rattle.reql_seq.specs.declared.sorting.Keyed.{Keyed}
use Rattle.reql_seq.specs.declared.sorting.Ranked.{Ranked}
use Rattle.reql_seq.specs.declared.totals.Tally.{Tally}
use Rattle.reql_seq.specs.declared.totals.Leader.{Leader}
use Rattle.reql_seq.specs.declared.totals.End.{End}
use Rattle.reql_seq.specs.declared.totals.End.TheVariants.{Least, Greatest}

abbrev pub key_seen : Option Datum → Option Plain
key_seen k = option_map plain k

-- a key that is lent
abbrev pub lent_key : Option (Bor Datum) → Option Plain
lent_key k = option_map (λ d. plain d.now) k

abbrev pub keys_seen : List (Option Datum) → List (Option Plain)
keys_seen ks = map key_seen ks

abbrev pub keyed : Keyed → sorting.Keyed
keyed k = (keys_seen k.keys.items, plain k.value)

abbrev pub ranked : Ranked → sorting.Keyed
ranked r = (key_seen r.key ∷ [], plain r.value)

abbrev pub sum_seen : Tally → ℤ × ℕ
sum_seen s = (s.total, s.count)

-- its value, and the element
abbrev pub best_seen : Option Leader → Option (Plain × Plain)
best_seen b = option_map (λ e. (plain e.value, plain e.element)) b

-- whether one value is nearer to an end of the order than another
abbrev pub beats : End → Plain → Plain → Bool
beats Least u v = is_lt (order u v)
beats Greatest u v = is_gt (order u v)
