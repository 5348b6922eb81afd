-- The size of a queue goes by the number that is given.
use Rattle.std.proofs.Common.{◌≡◌, Option, Some, None, option_and_then, refl}
use Rattle.std.specs.Prelude.{pos, negsuc}
use Rattle.reql_datum.specs.Plain.{Plain, low, array, boolean, null, number, object, binary, time, text, high}
use Rattle.reql_rules.specs.Types.{number_in}
use Rattle.reql_plan_spec.specs.Feeding.{size_by}
use Rattle.reql_plan_changes.specs.Tests.{size_in}

pub size_by_number : (d : Option Plain) → size_by d ≡ size_in (option_and_then number_in d)
size_by_number None = refl
size_by_number (Some low) = refl
size_by_number (Some (array vs)) = refl
size_by_number (Some (boolean b)) = refl
size_by_number (Some null) = refl
size_by_number (Some (number (pos n))) = refl
size_by_number (Some (number (negsuc n))) = refl
size_by_number (Some (object ms)) = refl
size_by_number (Some (binary s)) = refl
size_by_number (Some (time t)) = refl
size_by_number (Some (text s)) = refl
size_by_number (Some high) = refl
