use Rattle.std.proofs.Common.{◌∷◌, sym, subst}
use Rattle.json.specs.Token.{Token}
use Rattle.reql_datum.specs.Plain.{text}
use Rattle.reql_term.specs.Form.{literal}
use Rattle.reql_read.specs.Quick.{ReadsForm}
use Rattle.reql_read.proofs.Straight.{string_form}
use Rattle.reql_read.proofs.quick_leaves.text_term.Goals as goal

pub returns-in-Ok : goal.returns-in-Ok
returns-in-Ok c = λ depth r. subst (λ n. ReadsForm depth (Token.string c.args.text.now ∷ r) (literal (text n)) r) (sym c.in-Ok.ensures) (string_form depth c.args.text.now r)
