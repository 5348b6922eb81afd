-- Primary keys that are made: 16 bytes as a version 4 UUID (RFC 9562, 5.4), by which its text has the version and the variant.
use Rattle.std.specs.Prelude.{ℕ, ◌+◌, ◌*◌, ◌%◌, [], ◌∷◌, ◌++◌, take, drop, get_or}
use Rattle.reql_datum.specs.Plain.{Plain}
use Rattle.reql_rules.specs.Lists.{Bytes}
use Rattle.reql_rules.specs.Admin.{uuid}

abbrev pub versioned : Bytes → Bytes
versioned bs = take 6 bs ++ (64 + get_or bs 6 0 % 16) ∷ get_or bs 7 0 ∷ (128 + get_or bs 8 0 % 64) ∷ drop 9 bs

abbrev pub number_from : ℕ → Bytes → ℕ
number_from n [] = n
number_from n (b ∷ bs) = number_from (n * 256 + b) bs

abbrev pub key_of : Bytes → Plain
key_of bs = uuid (number_from 0 (versioned bs))
