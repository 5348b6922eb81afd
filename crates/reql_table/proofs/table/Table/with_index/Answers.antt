use Rattle.std.proofs.Common.{◌≡◌, List, map, ◌∙◌, refl, sym, subst, rules}
use Rattle.reql_datum.specs.Members.{AreRising}
use Rattle.reql_table.specs.Seen.{next_of, numbered, numbered_of}
use Rattle.reql_table.specs.declared.filed.FiledIndex.{FiledIndex}
use Rattle.reql_term.specs.Views.{index_of}
use Rattle.reql_table.proofs.Listed.{put_rises}
use Rattle.reql_table.proofs.Owned.{more_numbered}
use Rattle.reql_table.proofs.Given.{more_follows}
use Rattle.reql_table.proofs.table.Table.with_index.Goals as goal

pub with_indexes-requires-clause-rising : goal.with_indexes-requires-clause-rising
with_indexes-requires-clause-rising c =
    let up = subst (λ (is : List FiledIndex). AreRising (map numbered is)) (sym c.in_ok-copies.ensures) c.all_indexes.ensures.names in
    put_rises _ _ (map numbered c.in_ok-copies.copies.items) (map numbered c.in_ok-indexes.indexes.items) c.in_ok-indexes.ensures.numbered up

pub with_indexes-requires-clause-numbers : goal.with_indexes-requires-clause-numbers
with_indexes-requires-clause-numbers c =
    let named : c.in_ok-copy.field-0 ≡ c.args.def.now = c.in_ok-copy.ensures in
    more_numbered c.args.def.now.name (index_of c.args.def.now) (numbered_of c.args.self.now) _ (next_of c.args.self.now) _
    (c.in_ok-indexes.ensures.numbered ∙ rw (named, c.in_ok-copies.ensures, c.all_indexes.ensures.indexes) (rw (← c.self.view_is) refl))
    (search rules) c.all_indexes.ensures.numbers

pub returns-clause-follows : goal.returns-clause-follows
returns-clause-follows c =
    let named : c.in_ok-copy.field-0 ≡ c.args.def.now = c.in_ok-copy.ensures in
    more_follows c.args.def.now.name (index_of c.args.def.now) c.args.self.now _
    (c.in_ok-table.ensures.numbered ∙ c.in_ok-indexes.ensures.numbered ∙ rw (named, c.in_ok-copies.ensures, c.all_indexes.ensures.indexes) (rw (← c.self.view_is) refl))
    (search rules) c.all_indexes.ensures.numbers
