use Rattle.serde_json.specs.View.{view}
use Rattle.reql_term.specs.View.{form_of}
use Rattle.reql_read.specs.Seen.{optional}
use Rattle.reql_read.specs.View.{asked}
use Rattle.reql_read.proofs.Asked.{shape_fails, term_fails, settings_fail, start_read}
use Rattle.reql_read.proofs.Understood.{failed_on, is_done}
use Rattle.reql_read.proofs.query.started.Goals as goal

pub returns-in_err-shaped : goal.returns-in_err-shaped
returns-in_err-shaped c =
    failed_on (λ u. u) asked _ _ c.from_residual.result _ c.from_residual.ensures c.in_err-shaped.ensures (λ h. shape_fails (view c.args.term.now) (optional c.args.options) _ h)

pub returns-in_err-term : goal.returns-in_err-term
returns-in_err-term c =
    let w = is_done _ c.in_ok-shaped.ensures in
    failed_on form_of asked _ _ c.from_residual-in_err-term.result _ c.from_residual-in_err-term.ensures (c.in_err-term.ensures w.0 w.1)
    (λ h. term_fails (view c.args.term.now) (optional c.args.options) w.0 _ w.1 h)

pub returns-in_err-db : goal.returns-in_err-db
returns-in_err-db c =
    let w = is_done _ c.in_ok-shaped.ensures in
    failed_on (λ s. s) asked _ _ c.from_residual-in_err-db.result _ c.from_residual-in_err-db.ensures c.in_err-db.ensures
    (λ h. settings_fail (view c.args.term.now) (optional c.args.options) w.0 (form_of c.in_ok-term.term) _ w.1 (c.in_ok-term.ensures w.0 w.1) h)

pub returns : goal.returns
returns c =
    let w = is_done _ c.in_ok-shaped.ensures in
    start_read (view c.args.term.now) (optional c.args.options) w.0 (form_of c.in_ok-term.term) _ w.1 (c.in_ok-term.ensures w.0 w.1) c.in_ok-db.ensures
