-- Every write treats each of a list in one way.
use Rattle.std.proofs.Common.{◌≡◌, refl, List, Ok}
use Rattle.reql_datum.specs.Answer.{◌>>=◌}
use Rattle.reql_term.specs.Views.{Document, Index}
use Rattle.reql_rules.specs.Lists.{Bytes}
use Rattle.reql_write_spec.specs.Treating.{treat_all}
use Rattle.reql_write_spec.specs.Write.{treated}
use Rattle.reql_write_spec.specs.declared.command.Act.{Act}
use Rattle.reql_write_spec.specs.declared.command.Act.TheVariants as act
use Rattle.reql_write.specs.Acting.{treating, items_treated}

pub treated_is : (field : Bytes) (docs : List Document) (indexes : List (Bytes × Index)) (a : Act) → treated field docs indexes a ≡ (items_treated field docs indexes a >>= λ xs. Ok (treat_all (treating field a) docs xs))
treated_is field docs indexes (act.Insert new c made) = refl
treated_is field docs indexes (act.Update rows change) = refl
treated_is field docs indexes (act.Replace rows change) = refl
treated_is field docs indexes (act.Delete rows) = refl
