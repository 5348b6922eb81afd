use Rattle.std.proofs.Common.{List, ℕ, ap, ◌∙◌}
use Rattle.reql_load.specs.Script.{next, range_body, limit_body}
use Rattle.reql_load.specs.Writing.{with_request}
use Rattle.reql_load.proofs.Writing.{round_written}
use Rattle.reql_load.proofs.sessions.put_round.Goals as goal

pub returns : goal.returns
unfolding range_body limit_body
returns c =
    round_written c.args.seed c.args.docs.now c.args.writer.now c.put.new.self c.put-2.new.self c.put_next.new.self c.put_all_edits.new.writer c.end_round.new.writer
    c.in_ok-put.ensures c.in_ok-put-2.ensures (c.in_ok-put_next.ensures ∙ ap (λ (t : List ℕ). with_request c.put-2.new.self (next t)) (c.as_bytes.ensures.value ∙ c.in_ok-body.ensures.text))
    c.in_ok-put_all_edits.ensures c.in_ok-end_round.ensures
