-- What became of a document, as definitions speak of it.
use Rattle.std.specs.Prelude.{List, [], ◌∷◌, Option, Some, None, option_map}
use Rattle.reql_datum.specs.View.{plain}
use Rattle.reql_write_spec.specs.Treated.{Changed}
use Rattle.reql_write_spec.specs.Treated as law
use Rattle.reql_write.specs.declared.treated.Treated.{Treated}
use Rattle.reql_write.specs.declared.treated.Treated.TheVariants as t

abbrev pub seen : Treated → law.Treated
seen (t.Inserted key new) = law.inserted (plain key) (plain new)
seen (t.Replaced key old new) = law.replaced (plain key) (plain old) (plain new)
seen (t.Deleted key old) = law.deleted (plain key) (plain old)
seen (t.Unchanged d) = law.unchanged (plain d)
seen t.Skipped = law.skipped
seen (t.Failed why old) = law.failed why (option_map plain old)

-- a change that may be, as a list
abbrev pub change_list : Option Changed → List Changed
change_list None = []
change_list (Some c) = c ∷ []
