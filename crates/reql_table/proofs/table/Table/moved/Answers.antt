use Rattle.std.proofs.Common.{List, map, ap, ◌∙◌, sym, subst, rules}
use Rattle.std.specs.List.{AllByRecursion}
use Rattle.reql_datum.specs.Members.{AreRising, put, without}
use Rattle.reql_table.specs.Seen.{documents_of, next_of, numbered, numbered_of, IsFiled}
use Rattle.reql_table.specs.declared.filed.FiledIndex.{FiledIndex}
use Rattle.reql_table.proofs.Listed.{put_rises, out_rises}
use Rattle.reql_table.proofs.Owned.{renamed_numbered}
use Rattle.reql_table.proofs.Given.{moved_follows}
use Rattle.reql_table.proofs.table.Table.moved.Goals as goal

pub put_index-requires : goal.put_index-requires
put_index-requires c =
    let up = subst (λ (is : List FiledIndex). AreRising (map numbered is)) (sym c.in_ok-copies.ensures) c.all_indexes.ensures.names in
    record { rising = out_rises c.args.old.now (map numbered c.in_ok-copies.copies.items) (map numbered c.without_index-rest.result.items) c.without_index-rest.ensures.numbered up }

pub with_indexes-requires-clause-rising : goal.with_indexes-requires-clause-rising
with_indexes-requires-clause-rising c =
    let up = subst (λ (is : List FiledIndex). AreRising (map numbered is)) (sym c.in_ok-copies.ensures) c.all_indexes.ensures.names in
    put_rises _ _ (map numbered c.without_index-rest.result.items) (map numbered c.in_ok-indexes.indexes.items) c.in_ok-indexes.ensures.numbered
    (out_rises c.args.old.now (map numbered c.in_ok-copies.copies.items) (map numbered c.without_index-rest.result.items) c.without_index-rest.ensures.numbered up)

pub with_indexes-requires-clause-filed : goal.with_indexes-requires-clause-filed
with_indexes-requires-clause-filed c =
    let docs = documents_of c.args.self.now in
    c.in_ok-indexes.ensures.filed docs (c.without_index-rest.ensures.filed docs (subst (AllByRecursion (IsFiled docs)) (sym c.in_ok-copies.ensures) c.all_indexes.ensures.filed)) (c.in_ok-renamed.ensures.filed docs c.requires.filed)

pub with_indexes-requires-clause-numbers : goal.with_indexes-requires-clause-numbers
with_indexes-requires-clause-numbers c =
    let old = c.args.old.now in
    let rest = c.without_index-rest.ensures.numbered ∙ ap (λ (is : List FiledIndex). without old (map numbered is)) c.in_ok-copies.ensures ∙ ap (without old) c.all_indexes.ensures.indexes in
    renamed_numbered old c.args.new.now (numbered c.args.index.now).1 (numbered_of c.args.self.now) _ (next_of c.args.self.now) _
    (c.in_ok-indexes.ensures.numbered ∙ (λ i. put (c.in_ok-renamed.ensures.name i) (c.in_ok-renamed.ensures.numbered i) (rest i)))
    (search rules) c.requires.numbered c.all_indexes.ensures.numbers

pub returns-clause-follows : goal.returns-clause-follows
returns-clause-follows c =
    let old = c.args.old.now in
    let rest = c.without_index-rest.ensures.numbered ∙ ap (λ (is : List FiledIndex). without old (map numbered is)) c.in_ok-copies.ensures ∙ ap (without old) c.all_indexes.ensures.indexes in
    moved_follows old c.args.new.now (numbered c.args.index.now).1 c.args.self.now _
    (c.in_ok-table.ensures.numbered ∙ c.in_ok-indexes.ensures.numbered ∙ (λ i. put (c.in_ok-renamed.ensures.name i) (c.in_ok-renamed.ensures.numbered i) (rest i)))
    (search rules) c.requires.numbered c.all_indexes.ensures.numbers
