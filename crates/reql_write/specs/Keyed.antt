-- An object that lacks a field.
use Rattle.std.specs.Prelude.{◌≡◌, List, Option, Some, None}
use Rattle.reql_datum.specs.Members.{find}
use Rattle.reql_datum.specs.Plain.{Plain}
use Rattle.reql_rules.specs.Lists.{Bytes, object_of}
use Rattle.reql_rules.specs.Types.{object_in}
use Rattle.reql_write_spec.specs.Treating.{keyed_in}

-- its members, or none where a document takes no key
abbrev pub Lacks : Bytes → Plain → Option (List (Bytes × Plain)) → Type 0
Lacks field doc None = (made : List Plain) → keyed_in field doc (object_in doc) made ≡ (doc, made)
Lacks field doc (Some ms) = (object_in doc ≡ Some ms) × (find field ms ≡ None) × (object_of ms ≡ doc)
