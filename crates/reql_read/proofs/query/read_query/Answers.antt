use Rattle.std.proofs.Common.{Err, false, refl, sym, ◌∙◌, subst}
use Rattle.serde_json.specs.View.{view}
use Rattle.reql_read.proofs.Bodies.{no_json, is_json}
use Rattle.reql_read.specs.Outcome.{Understands}
use Rattle.reql_read.specs.Query.{value_query, value_is_quiet}
use Rattle.reql_read.specs.View.{asked}
use Rattle.reql_read.specs.declared.fault.ReadFault.TheVariants.{NotJson}
use Rattle.reql_read.proofs.query.read_query.Goals as goal

pub returns-in-Err-2-clause-query : goal.returns-in-Err-2-clause-query
returns-in-Err-2-clause-query c =
    no_json value_query (Err NotJson) c.args.body.now refl (λ utf8. c.in-Err.ensures.err (λ m. absurd (let e = sym c.if-is_memory.false ∙ c.is_memory.ensures.1 m in cc)) utf8)

pub returns-in-Err-2-clause-noreply : goal.returns-in-Err-2-clause-noreply
returns-in-Err-2-clause-noreply c =
    let none = no_json value_is_quiet false c.args.body.now refl (λ utf8. c.in-Err.ensures.err (λ m. absurd (let e = sym c.if-is_memory.false ∙ c.is_memory.ensures.1 m in cc)) utf8) in
    record { exact = λ _. sym none; never_false = λ h. cc }

pub returns-in-Ok-query_of-clause-query : goal.returns-in-Ok-query_of-clause-query
returns-in-Ok-query_of-clause-query c =
    is_json value_query (Err NotJson) c.args.body.now (view c.in-Ok.value) c.in-Ok.ensures.ok.0 c.in-Ok.ensures.ok.1 ∙ c.in-Ok-query_of.ensures

pub returns-clause-query : goal.returns-clause-query
returns-clause-query c =
    subst (Understands asked (Err c.in-Err-query_of.fault)) (sym (is_json value_query (Err NotJson) c.args.body.now (view c.in-Ok.value) c.in-Ok.ensures.ok.0 c.in-Ok.ensures.ok.1)) c.in-Err-query_of.ensures

pub returns-clause-noreply : goal.returns-clause-noreply
returns-clause-noreply c =
    let is = is_json value_is_quiet false c.args.body.now (view c.in-Ok.value) c.in-Ok.ensures.ok.0 c.in-Ok.ensures.ok.1 in
    record { exact = λ _. c.is_quiet.ensures ∙ sym is; never_false = λ h. is ∙ sym c.is_quiet.ensures ∙ h }
