-- A sequence gives an array alone.
use Rattle.std.proofs.Common.{◌≡◌, refl, false, Err, codes}
use Rattle.reql_rules.specs.Faults.{cannot_coerce}
use Rattle.reql_rules.specs.Lists.{Bytes}
use Rattle.reql_rules.specs.Types.{same_text}
use Rattle.reql_value_spec.specs.Coercions.{sequence_coerced}
use Rattle.reql_value_spec.specs.Meant.{Meant, name_of}
use Rattle.reql_value_spec.specs.World.{World}

pub refused_is : (w : World) (m : Meant) (to : Bytes) → same_text to (codes "array") ≡ false → sequence_coerced w m to ≡ Err (cannot_coerce (name_of m) to)
refused_is w m to h = rw h refl
