use Rattle.std.proofs.Common.{None, codes, ◌++◌, ap, ◌∙◌}
use Rattle.json.specs.Print.{quoted}
use Rattle.reql_answer.specs.Ending.{end_text}
use Rattle.reql_answer.proofs.Whole.{refused}
use Rattle.reql_answer.proofs.refusals.refusal.Goals as goal

pub returns : goal.returns
returns c =
    c.in_ok-because.ensures
    ∙ ap (λ t. ((t ++ quoted c.args.why.now) ++ codes "]") ++ end_text c.args.kind None) c.in_ok-bytes.ensures
    ∙ refused c.args.kind c.args.why.now
