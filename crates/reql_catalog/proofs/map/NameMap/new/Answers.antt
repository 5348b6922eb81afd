use Rattle.std.proofs.lemmas.Cmp.{nat_list_cmp_total}
use Rattle.reql_datum.specs.Members.{text_order}
use Rattle.reql_memory.proofs.Sorted.{rising_nil}
use Rattle.reql_catalog.proofs.map.NameMap.new.Goals as goal

pub invariant_of-result : goal.invariant_of-result
invariant_of-result g c = rising_nil text_order nat_list_cmp_total g.row.V.Denot
