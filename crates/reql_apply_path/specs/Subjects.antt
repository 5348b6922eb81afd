-- What fields are taken of, as code holds it.
use Rattle.reql_datum.specs.View.{plain}
use Rattle.reql_value_spec.specs.Fields as f
use Rattle.reql_apply_path.specs.declared.subjects.Subject.{Subject}
use Rattle.reql_apply_path.specs.declared.subjects.Subject.TheVariants as s

abbrev pub seen_subject : Subject → f.Subject
seen_subject (s.Object d) = f.object_alone (plain d)
seen_subject (s.Elements ds) = f.elements ds
