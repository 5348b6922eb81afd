-- BRACKET by what its second argument is: a number, a text, or neither.
use Rattle.std.specs.Prelude.{ℤ, List, Option, Some, None, Err, codes}
use Rattle.reql_datum.specs.Answer.{Answer}
use Rattle.reql_rules.specs.Lists.{Bytes}
use Rattle.reql_value_spec.specs.Fields.{get_field_rule, nth_rule}
use Rattle.reql_value_spec.specs.Meant.{Meant, Given, Calls, Options, meant_of}
use Rattle.reql_value_spec.specs.Sequenced.{datum}
use Rattle.reql_value_spec.specs.Wanted.{wrong}
use Rattle.reql_value_spec.specs.World.{World}

abbrev pub bracket_named : Option Bytes → World → Calls → List Given → Given → Options → Answer Meant
bracket_named (Some s) w calls gs t opts = get_field_rule w calls gs opts
bracket_named None w calls gs t opts = Err (wrong (codes "STRING") (meant_of t))

abbrev pub bracket_at : Option ℤ → Option Bytes → World → Calls → List Given → Given → Options → Answer Meant
bracket_at (Some n) s w calls gs t opts = datum nth_rule w calls gs opts
bracket_at None s w calls gs t opts = bracket_named s w calls gs t opts
