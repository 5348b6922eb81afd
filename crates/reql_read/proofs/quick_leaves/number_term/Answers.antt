use Rattle.std.proofs.Common.{◌≡◌, ◌∷◌, true, to_z, of_z, w64, sym, subst, ◌∙◌, rules}
use Rattle.json.specs.Token.{Token}
use Rattle.reql_datum.specs.Plain.{number}
use Rattle.reql_datum.specs.Whole.{is_in}
use Rattle.reql_term.specs.Form.{literal}
use Rattle.reql_read.specs.Quick.{ReadsForm}
use Rattle.reql_read.proofs.Straight.{number_form, in_range}
use Rattle.reql_read.proofs.quick_leaves.number_term.Goals as goal

pub returns : goal.returns
returns c = λ depth r.
    let z = c.in_ok-z.z in
    let same : to_z w64 (of_z w64 z) ≡ z = search rules in
    let held = in_range (is_in (to_z w64 (of_z w64 z))) (to_z w64 (of_z w64 z)) c.in_ok-n.n (sym c.new.ensures ∙ c.in_ok-n.was) in
    let is : z ≡ c.in_ok-n.n = sym same ∙ held.1 in
    let within : is_in z ≡ true = subst (λ y. is_in y ≡ true) same held.0 in
    subst (λ y. ReadsForm depth (Token.number c.args.text.now ∷ r) (literal (number y)) r) is (number_form depth c.args.text.now z r c.in_ok-z.ensures within)
