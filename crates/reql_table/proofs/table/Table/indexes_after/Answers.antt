use Rattle.std.proofs.Common.{ap, sym, ◌∙◌, rules}
use Rattle.std.proofs.lemmas.List.{nil_from_length}
use Rattle.reql_datum.specs.Plain.{Plain}
use Rattle.reql_datum.specs.View.{plain}
use Rattle.reql_ptree.specs.Pairs.{find}
use Rattle.reql_write_spec.specs.Treated.{changed}
use Rattle.reql_table.specs.Edits.{told}
use Rattle.reql_table.specs.Seen.{documents_of, next_of, numbered_of}
use Rattle.reql_table.proofs.Coming.{turned_is}
use Rattle.reql_table.proofs.Listed.{keeps_turned, keeps_none}
use Rattle.reql_table.proofs.table.Table.indexes_after.Goals as goal

pub returns-clause-keeps : goal.returns-clause-keeps
returns-clause-keeps c =
    let t = c.turn_of-turn.result in
    let docs = documents_of c.args.self.now in
    let x = told c.args.change.now in
    let there =
    ap (λ (k : Plain). find k docs) c.turn_of-turn.ensures.key ∙ ap (find (plain c.args.change.now.key)) (sym c.tree-documents.ensures.documents) ∙ sym c.get.ensures.found ∙ sym c.turn_of-turn.ensures.old
    in
    keeps_turned t docs (changed docs x) c.in_ok-copies.copies.items c.in_ok-indexes.indexes.items _ (sym (turned_is t x docs c.turn_of-turn.ensures.key c.turn_of-turn.ensures.new)) c.in_ok-all.ensures
    c.in_ok-indexes.ensures.numbered c.tree-documents.ensures.rising c.in_ok-copies.ensures.names (c.in_ok-indexes.ensures.filed docs c.tree-documents.ensures.rising there c.in_ok-copies.ensures.filed)
    (numbered_of c.args.self.now) (next_of c.args.self.now) c.in_ok-copies.ensures.indexes c.copied_indexes.ensures.numbers

pub returns-then-is_empty-clause-keeps : goal.returns-then-is_empty-clause-keeps
returns-then-is_empty-clause-keeps c =
    keeps_none (told c.args.change.now) (documents_of c.args.self.now) c.all_indexes.result.now (numbered_of c.args.self.now) (next_of c.args.self.now) c.tree-documents.ensures.rising c.all_indexes.ensures.indexes (nil_from_length c.all_indexes.result.now (search rules))
    c.all_indexes.ensures.numbers
