use Rattle.std.proofs.Common.{List, map, ap, ◌∙◌, sym, subst, rules}
use Rattle.std.specs.List.{AllByRecursion}
use Rattle.reql_datum.specs.Members.{AreRising, without}
use Rattle.reql_table.specs.Seen.{documents_of, next_of, numbered, numbered_of, IsFiled}
use Rattle.reql_table.specs.declared.filed.FiledIndex.{FiledIndex}
use Rattle.reql_table.proofs.Listed.{out_rises}
use Rattle.reql_table.proofs.Owned.{fewer_numbered}
use Rattle.reql_table.proofs.Given.{fewer_follows}
use Rattle.reql_table.proofs.table.Table.without_index.Goals as goal

pub with_indexes-requires-clause-rising : goal.with_indexes-requires-clause-rising
with_indexes-requires-clause-rising c =
    let up = subst (λ (is : List FiledIndex). AreRising (map numbered is)) (sym c.in_ok-copies.ensures) c.all_indexes.ensures.names in
    out_rises c.args.name.now (map numbered c.in_ok-copies.copies.items) (map numbered c.without_index-indexes.result.items) c.without_index-indexes.ensures.numbered up

pub with_indexes-requires-clause-filed : goal.with_indexes-requires-clause-filed
with_indexes-requires-clause-filed c =
    let docs = documents_of c.args.self.now in
    c.without_index-indexes.ensures.filed docs (subst (AllByRecursion (IsFiled docs)) (sym c.in_ok-copies.ensures) c.all_indexes.ensures.filed)

pub with_indexes-requires-clause-numbers : goal.with_indexes-requires-clause-numbers
with_indexes-requires-clause-numbers c =
    fewer_numbered c.args.name.now (numbered_of c.args.self.now) _ (next_of c.args.self.now) _
    (c.without_index-indexes.ensures.numbered ∙ ap (λ (is : List FiledIndex). without c.args.name.now (map numbered is)) c.in_ok-copies.ensures ∙ ap (without c.args.name.now) c.all_indexes.ensures.indexes)
    (search rules) c.all_indexes.ensures.numbers

pub returns-clause-follows : goal.returns-clause-follows
returns-clause-follows c =
    fewer_follows c.args.name.now c.args.self.now _
    (c.in_ok-table.ensures.numbered ∙ c.without_index-indexes.ensures.numbered ∙ ap (λ (is : List FiledIndex). without c.args.name.now (map numbered is)) c.in_ok-copies.ensures ∙ ap (without c.args.name.now) c.all_indexes.ensures.indexes)
    (search rules) c.all_indexes.ensures.numbers
