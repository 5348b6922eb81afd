-- Numbers of texts, where one above 2^53 is none.
use Rattle.std.specs.Prelude.{ℕ, nat_le, ℤ, pos, neg_ℤ, if◌then◌else◌, Option, Some, None, option_map, option_and_then}
use Rattle.reql_datum.specs.Whole.{is_in}
use Rattle.reql_rules.specs.Lists.{Bytes}
use Rattle.reql_rules.specs.Coercing.{digits, digits_on, signed}

abbrev pub small : ℕ → Option ℕ
small n = if nat_le n 9007199254740992 then Some n else None

abbrev pub small_on : ℕ → Bytes → Option ℕ
small_on n s = option_and_then small (digits_on n s)

abbrev pub small_in : Bytes → Option ℕ
small_in s = option_and_then small (digits s)

abbrev pub held_in : ℤ → Option ℤ
held_in n = if is_in n then Some n else None

abbrev pub positive : Bytes → Option ℤ
positive s = option_and_then held_in (option_map pos (digits s))

abbrev pub negative : Bytes → Option ℤ
negative s = option_and_then held_in (option_map (λ n. neg_ℤ (pos n)) (digits s))

abbrev pub number_of : Bytes → Option ℤ
number_of s = option_and_then held_in (signed s)
