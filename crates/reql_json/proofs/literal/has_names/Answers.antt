use Rattle.std.proofs.Common.{drop, ap, ◌∙◌, string_bytes, arith}
use Rattle.serde_json.specs.View.{members_view}
use Rattle.reql_json.specs.Literal.{has_names}
use Rattle.reql_json.proofs.Names.{bytes_of, names_step, names_differ, names_lack}
use Rattle.reql_json.proofs.literal.has_names.Goals as goal

pub loop-name-preserved : goal.loop-name-preserved
loop-name-preserved c =
    let known = c.loop-name.invariant ∙ ap (λ es. has_names (bytes_of (drop c.loop-name.name-index c.args.names.now)) (members_view es)) c.in-Some.ensures.steps in
    names_step c.args.names.now c.loop-name.name-index _ (string_bytes c.in-Some.key.now) _ (members_view c.next.new.self) _ c.ne.result (omega arith) known (rw c.as_str.ensures.value at c.ne.ensures) c.if-ne.false

pub returns-then-ne : goal.returns-then-ne
returns-then-ne c =
    let known = c.loop-name.invariant ∙ ap (λ es. has_names (bytes_of (drop c.loop-name.name-index c.args.names.now)) (members_view es)) c.in-Some.ensures.steps in
    names_differ c.args.names.now c.loop-name.name-index _ (string_bytes c.in-Some.key.now) _ (members_view c.next.new.self) _ c.ne.result (omega arith) known (rw c.as_str.ensures.value at c.ne.ensures) c.if-ne.true

pub returns-in_default : goal.returns-in_default
returns-in_default c =
    let known = c.loop-name.invariant ∙ ap (λ es. has_names (bytes_of (drop c.loop-name.name-index c.args.names.now)) (members_view es)) c.in_default.ensures.steps.0 in
    names_lack c.args.names.now c.loop-name.name-index _ (omega arith) known
