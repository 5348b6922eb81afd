-- The database of a text.
use Rattle.std.proofs.Common.{◌≡◌, Option, Some, None, option_and_then, Ok, Err, refl}
use Rattle.reql_datum.specs.Answer.{Answer}
use Rattle.reql_datum.specs.Plain.{Plain, low, array, boolean, null, number, object, binary, time, text, high}
use Rattle.reql_rules.specs.Lists.{Bytes}
use Rattle.reql_rules.specs.Types.{text_in}
use Rattle.reql_value_spec.specs.Tables.{named_database}
use Rattle.reql_apply_table.specs.Told.{by_text}

pub named_by_text : (o : Option Plain) → named_database o ≡ by_text (option_and_then text_in o)
named_by_text None = refl
named_by_text (Some low) = refl
named_by_text (Some (array us)) = refl
named_by_text (Some (boolean b)) = refl
named_by_text (Some null) = refl
named_by_text (Some (number n)) = refl
named_by_text (Some (object ms)) = refl
named_by_text (Some (binary s)) = refl
named_by_text (Some (time t)) = refl
named_by_text (Some (text s)) = refl
named_by_text (Some high) = refl
