-- Simple terms, and what they stand for in each world with one limit on arrays.
use Rattle.std.specs.Prelude.{◌≡◌, ℕ, List, [], Bool, Ok}
use Rattle.reql_datum.specs.Plain.{Plain}
use Rattle.reql_rules.specs.declared.words.Arith.{Arith}
use Rattle.reql_rules.specs.declared.words.Relate.{Relate}
use Rattle.reql_value_spec.specs.Fields.{bracket, get_field_rule}
use Rattle.reql_value_spec.specs.Lazy.{chained}
use Rattle.reql_value_spec.specs.Meant.{one}
use Rattle.reql_value_spec.specs.Scalars.{comparison, arithmetic, negation}
use Rattle.reql_value_spec.specs.Sense.{Sense, plain, value, strict}
use Rattle.reql_value_spec.specs.Sequenced.{datum}
use Rattle.reql_value_spec.specs.World.{World, Vars}
use Rattle.reql_simple.specs.declared.roles.Role.{Role}
use Rattle.reql_simple.specs.declared.roles.Role.TheVariants as r

abbrev pub Stands : ℕ → Sense → Vars → Plain → Type 0
Stands limit s vars d = (w : World) → w.array_limit ≡ limit → value s w vars ≡ Ok (one d)

-- what operators denote that simple terms are made of
abbrev pub role_sense : Role → List Sense → Sense
role_sense r.Bracket ss = plain (strict bracket ss [])
role_sense r.Field ss = plain (strict get_field_rule ss [])
role_sense (r.Comparison op) ss = plain (strict (datum (comparison op)) ss [])
role_sense (r.Arithmetic op) ss = plain (strict (datum (arithmetic op)) ss [])
role_sense r.Negation ss = plain (strict (datum negation) ss [])
role_sense (r.Chain at) ss = plain (chained at ss)
