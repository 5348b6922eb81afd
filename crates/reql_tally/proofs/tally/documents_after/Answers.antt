use Rattle.std.proofs.Common.{◌∙◌, List, [], sym, ap, length, map}
use Rattle.std.proofs.lemmas.List.{length-map}
use Rattle.reql_term.specs.Views.{Document}
use Rattle.reql_table_spec.specs.Engines.{kept_of}
use Rattle.reql_tally.specs.Views.{docs_after}
use Rattle.reql_tally.proofs.Advances.{all_of}
use Rattle.reql_tally.proofs.tally.documents_after.Goals as goal

pub returns : goal.returns
returns c =
    c.len.ensures ∙ ap length (c.tree.ensures.documents ∙ c.in_ok-table.ensures.documents ∙ ap (λ (docs : List Document). docs_after docs (map kept_of c.args.changes.now) 0 (length c.args.changes.now)) c.new.ensures.documents
    ∙ all_of [] (map kept_of c.args.changes.now) (length c.args.changes.now) (sym (length-map c.args.changes.now kept_of)))
