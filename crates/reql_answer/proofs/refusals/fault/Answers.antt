use Rattle.std.proofs.Common.{codes, option_map, ◌++◌, ap, ◌∙◌}
use Rattle.json.specs.Print.{quoted}
use Rattle.reql_answer.specs.Body.{stamped_by}
use Rattle.reql_answer.specs.Ending.{end_text}
use Rattle.reql_answer.proofs.Whole.{failed}
use Rattle.reql_answer.proofs.refusals.fault.Goals as goal

pub returns : goal.returns
returns c =
    let stamp = option_map stamped_by c.args.stamp in
    c.in_ok-because.ensures
    ∙ ap (λ t. ((t ++ quoted c.args.why.now) ++ codes "]") ++ end_text 18 stamp) c.in_ok-bytes.ensures
    ∙ failed c.args.error c.args.why.now stamp
