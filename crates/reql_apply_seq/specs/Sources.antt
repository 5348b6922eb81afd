-- The elements of a sequence that may not have been read yet.
use Rattle.std.specs.Prelude.{◌≡◌, ℕ, List, length, drop, nat_eq, Bool, true, false, if◌then◌else◌, Ok}
use Rattle.reql_datum.specs.Answer.{Answer, ◌>>=◌}
use Rattle.reql_datum.specs.Plain.{Plain}
use Rattle.reql_rules.specs.Lists.{array_of}
use Rattle.reql_value_spec.specs.Meant.{Meant, one, stream, selection, some_rows, Given}
use Rattle.reql_value_spec.specs.Sequenced.{alike}
use Rattle.reql_value_spec.specs.Wanted.{as_sequence}
use Rattle.reql_value_spec.specs.World.{World}
use Rattle.reql_operand.specs.Seen.{documents_at}
use Rattle.reql_operand.specs.declared.value.Value.{Value}
use Rattle.reql_operand.specs.declared.value.Value.TheVariants as v
use Rattle.reql_operand.specs.declared.value.Arg.{Arg}
use Rattle.reql_operand.specs.declared.value.Arg.TheVariants as a
use Rattle.reql_apply_seq.specs.declared.source.Source.{Source}
use Rattle.reql_apply_seq.specs.declared.source.Source.TheVariants as s

abbrev pub elements : World → Source → List Plain
elements w (s.Read ds) = ds
elements w (s.Ranged n r k) = drop k (documents_at w n r)

-- where a sequence is a range of a table, its parts are rows of that table
abbrev pub IsOf : ℕ → Source → Type 0
IsOf slot (s.Read ds) = Unit {0}
IsOf slot (s.Ranged n r k) = n ≡ slot

abbrev pub HasRowsOf : Meant → Source → Type 0
HasRowsOf m (s.Read ds) = Unit {0}
HasRowsOf m (s.Ranged n r k) = (ds : List Plain) → alike m ds ≡ selection n some_rows ds

-- whether it has none
abbrev pub is_none : World → Given → Answer Bool
is_none w g = as_sequence w g >>= λ ds. Ok (nat_eq (length ds) 0)

-- arguments that are plain values
abbrev pub is_one : Value → Bool
is_one (v.One d) = true
is_one u = false

abbrev pub is_plain : Arg → Bool
is_plain (a.Value v) = is_one v
is_plain g = false

-- the elements as an array, or as a stream
abbrev pub kind_of : Bool → List Plain → Meant
kind_of b ds = if b then one (array_of ds) else stream ds
