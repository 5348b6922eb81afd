-- What the members of an object are zipped to.
use Rattle.std.specs.Prelude.{List, Ok, codes}
use Rattle.reql_datum.specs.Answer.{Answer, ◌>>=◌}
use Rattle.reql_datum.specs.Members.{find}
use Rattle.reql_datum.specs.Plain.{Plain}
use Rattle.reql_rules.specs.Fields.{attribute}
use Rattle.reql_rules.specs.Joining.{zipped}
use Rattle.reql_rules.specs.Lists.{Bytes}

abbrev pub zip_members : List (Bytes × Plain) → Answer Plain
zip_members ms = do
  l ← attribute (codes "left") (find (codes "left") ms)
  Ok (zipped l (find (codes "right") ms))
