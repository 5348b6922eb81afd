use Rattle.std.proofs.Common.{option_map, ◌++◌, ap, ◌∙◌}
use Rattle.serde_json.specs.Written.{compact_text}
use Rattle.reql_answer.specs.Body.{array_of, stamped_by}
use Rattle.reql_answer.specs.Ending.{end_text}
use Rattle.reql_bodies.specs.Parts.{items_shown}
use Rattle.reql_bodies.proofs.Joins.{batch_body}
use Rattle.reql_bodies.proofs.batches.batch.Goals as goal

pub returns : goal.returns
returns c arms =
    let stamp = option_map stamped_by c.args.stamp in
    c.in_ok-write_end.ensures
    ∙ ap (λ t. t ++ end_text 3 stamp) (c.in_ok-write_list.ensures ∙ ap (λ t. t ++ compact_text (array_of (items_shown c.args.items.now))) c.in_ok-out.ensures)
    ∙ batch_body arms c.args.notes.now c.args.items.now stamp
