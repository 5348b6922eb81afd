use Rattle.std.proofs.Common.{map, option_map, ◌++◌, ap, ◌∙◌}
use Rattle.serde_json.specs.Written.{compact_text}
use Rattle.reql_datum.specs.View.{plain}
use Rattle.reql_json.specs.Showing.{shown}
use Rattle.reql_answer.specs.Body.{array_of, stamped_by}
use Rattle.reql_answer.specs.Ending.{end_text}
use Rattle.reql_bodies.proofs.Joins.{stream_text}
use Rattle.reql_bodies.proofs.results.stream.Goals as goal

pub returns : goal.returns
returns c =
    let stamp = option_map stamped_by c.args.stamp in
    let d = array_of (map shown (map plain c.args.documents.now)) in
    c.in_ok-write_end.ensures
    ∙ ap (λ t. t ++ end_text c.args.kind stamp) (c.in_ok-write_list.ensures ∙ ap (λ t. t ++ compact_text d) c.in_ok-out.ensures)
    ∙ stream_text c.args.kind stamp d
