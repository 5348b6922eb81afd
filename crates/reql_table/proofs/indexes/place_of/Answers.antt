use Rattle.std.proofs.Common.{rules}
use Rattle.std.proofs.lemmas.Cmp.{nat_list_cmp_total}
use Rattle.std.proofs.lemmas.Fn.{always_returns_same}
use Rattle.reql_memory.proofs.Held.{place_found}
use Rattle.reql_datum.specs.Members.{text_order}
use Rattle.reql_table.specs.Seen.{numbered}
use Rattle.reql_table.proofs.indexes.place_of.Goals as goal

pub returns-clause-found : goal.returns-clause-found
returns-clause-found c =
    let facts = c.binary_search_by.ensures in
    let by = facts.position (λ i. text_order i.def.name c.args.name.now) (always_returns_same _ _ _ (λ a r f called. search rules)) in
    (place_found text_order nat_list_cmp_total numbered c.args.indexes.now c.args.name.now c.binary_search_by.result c.requires.rising facts.bound by).found

pub returns-clause-absent : goal.returns-clause-absent
returns-clause-absent c =
    let facts = c.binary_search_by.ensures in
    let by = facts.position (λ i. text_order i.def.name c.args.name.now) (always_returns_same _ _ _ (λ a r f called. search rules)) in
    (place_found text_order nat_list_cmp_total numbered c.args.indexes.now c.args.name.now c.binary_search_by.result c.requires.rising facts.bound by).absent
