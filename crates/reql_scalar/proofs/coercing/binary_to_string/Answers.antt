use Rattle.reql_datum.specs.Plain.{binary}
use Rattle.reql_rules.specs.Coercing.{coerced, string_in}
use Rattle.reql_rules.specs.Faults.{cannot_coerce}
use Rattle.reql_scalar.proofs.Texts.{text_told, none_told}
use Rattle.reql_scalar.proofs.Told.{told}
use Rattle.reql_scalar.proofs.coercing.binary_to_string.Goals as goal

pub returns-in_ok-of-in-Ok : goal.returns-in_ok-of-in-Ok
returns-in_ok-of-in-Ok c =
    text_told c.args.kind.now c.args.to.now c.args.blob.now c.as_bytes.result.now c.in-Ok.text.now c.in_ok-of-in-Ok.field-0 c.as_bytes.ensures c.in-Ok.ensures.cases.0 c.in-Ok.ensures.cases.1 c.in_ok-of-in-Ok.ensures

pub returns-in-Err : goal.returns-in-Err
returns-in-Err c =
    told c.refused.result (cannot_coerce c.args.kind.now c.args.to.now) (coerced c.args.kind.now c.args.to.now (string_in (binary c.args.blob.now))) c.refused.ensures
    (none_told c.args.kind.now c.args.to.now c.args.blob.now c.as_bytes.result.now c.as_bytes.ensures c.in-Err.ensures.cases.0)
