-- The plain value of a datum.
use Rattle.std.specs.Prelude.{ℕ, List}
use Rattle.reql_datum.specs.Plain.{Plain, low, array, boolean, null, number, object, binary, time, text, high, items_of, pairs_of}
use Rattle.reql_datum.specs.declared.datum.Datum.{Datum}
use Rattle.reql_datum.specs.declared.datum.Datum.TheVariants as v
use Rattle.reql_datum.specs.declared.datum.Field.{Field}

abbrev pub plain : Datum → Plain
plain v.Low = low
plain (v.List vs) = array (items_of vs)
plain (v.Bool b) = boolean b
plain v.Null = null
plain (v.Num n) = number n
plain (v.Obj ms) = object (pairs_of ms)
plain (v.Binary s) = binary s
plain (v.Time t) = time t
plain (v.Text s) = text s
plain v.High = high

abbrev pub member : Field → List ℕ × Plain
member m = (m.name, plain m.value)
