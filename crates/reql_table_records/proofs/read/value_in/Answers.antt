use Rattle.std.proofs.Common.{None, refl, sym, ◌∙◌}
use Rattle.serde_json.specs.View.{view}
use Rattle.reql_read.proofs.Bodies.{no_json, is_json}
use Rattle.reql_table_records.proofs.read.value_in.Goals as goal

pub returns-in-Ok : goal.returns-in-Ok
returns-in-Ok c =
    sym (is_json (λ v. v) None c.args.body.now (view c.in-Ok.value) c.in-Ok.ensures.ok.0 c.in-Ok.ensures.ok.1)

pub returns-in-Err-2 : goal.returns-in-Err-2
returns-in-Err-2 c =
    sym (no_json (λ v. v) None c.args.body.now refl (λ utf8. c.in-Err.ensures.err (λ m. absurd (let e = sym c.if-is_memory.false ∙ c.is_memory.ensures.1 m in cc)) utf8))
