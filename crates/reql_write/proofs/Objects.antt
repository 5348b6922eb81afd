-- What is no null stands in the place of a document where it is an object.
use Rattle.std.proofs.Common.{◌≡◌, refl, false, Option}
use Rattle.reql_datum.specs.Answer.{◌>>=◌}
use Rattle.reql_datum.specs.Plain.{Plain, low, array, boolean, null, number, object, binary, time, text, high}
use Rattle.reql_rules.specs.Lists.{Bytes}
use Rattle.reql_rules.specs.Types.{is_null, as_object}
use Rattle.reql_write_spec.specs.Treating.{keeping_stored, replaced_by}

pub replaced_object : (field : Bytes) (key : Plain) (old : Option Plain) (d : Plain) → is_null d ≡ false → replaced_by field key old d ≡ (as_object d >>= λ _. keeping_stored field key old d)
replaced_object field key old null h = absurd (cc (h))
replaced_object field key old low h = refl
replaced_object field key old (array vs) h = refl
replaced_object field key old (boolean b) h = refl
replaced_object field key old (number n) h = refl
replaced_object field key old (object ms) h = refl
replaced_object field key old (binary s) h = refl
replaced_object field key old (time t) h = refl
replaced_object field key old (text s) h = refl
replaced_object field key old high h = refl
