-- The worked cases, by computing.
use Rattle.std.specs.Prelude.{refl}
use Rattle.std.specs.Fmt.{digits}
use Rattle.std.specs.Str.{is_utf8, chars}
use lib.Utf8.{encode}
use Rattle.serde_json.proofs.OnLiterals.{serde_json_on_literals}
use Rattle.reql_value_spec.specs.Short.{Holds, shelf}
use Rattle.reql_value_spec.specs.ScalarCases as scalar
use Rattle.reql_value_spec.specs.FieldCases as field
use Rattle.reql_value_spec.specs.SequenceCases as sequence
use Rattle.reql_value_spec.specs.TableCases as table
use Rattle.reql_value_spec.specs.FaultCases as fault

pub scalars : Holds shelf scalar.scalars
unfolding Holds digits is_utf8 chars encode serde_json_on_literals
scalars = refl

pub arrays : Holds shelf field.arrays
unfolding Holds
arrays = refl

pub fields : Holds shelf field.fields
unfolding Holds
fields = refl

pub sequences : Holds shelf sequence.sequences
unfolding Holds digits is_utf8 chars encode
sequences = refl

pub joins : Holds shelf sequence.joins
unfolding Holds
joins = refl

pub tables : Holds shelf table.tables
unfolding Holds
tables = refl

pub faults : Holds shelf fault.faults
unfolding Holds digits is_utf8 chars encode
faults = refl

pub limited : Holds (record shelf { array_limit = 2 }) fault.limited
unfolding Holds digits is_utf8 chars encode
limited = refl

pub unplanned : Holds shelf fault.unplanned
unfolding Holds
unplanned = refl
