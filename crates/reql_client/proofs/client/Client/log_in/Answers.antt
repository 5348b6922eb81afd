use Rattle.std.proofs.Common.{◌≡◌, ◌∙◌, subst, sym}
use Rattle.base64.specs.Engines.{standard}
use Rattle.base64.specs.GeneralPurpose.{encode_of}
use Rattle.reql_client.specs.Calls.{LogsIn}
use Rattle.reql_client.specs.Login.{Enters, Fails, Stands}
use Rattle.reql_client.proofs.Called.{logged_in}
use Rattle.reql_client.proofs.client.Client.log_in.Goals as goal

pub returns-in_default : goal.returns-in_default
unfolding LogsIn Fails
returns-in_default g c = tt

pub returns-in-Ok : goal.returns-in-Ok
returns-in-Ok g c =
    let nonce : c.as_bytes.result.now ≡ encode_of standard c.args.roll.now = c.as_bytes.ensures.value ∙ c.in-Some.ensures.nonce in
    let here = g.L.Link.tape c.enter.new.link in
    let stands : Stands c.args.password.now (encode_of standard c.args.roll.now) (g.L.Link.tape c.args.link) here c.args.limits.now.turns (Enters c.in-Ok.held.items)
    = subst (λ n. Stands c.args.password.now n (g.L.Link.tape c.args.link) here c.args.limits.now.turns (Enters c.in-Ok.held.items)) nonce c.in-Ok.ensures in
    logged_in _ _ here _ _ c.deref.result.now _ _ _
    (subst (λ h. Stands c.args.password.now (encode_of standard c.args.roll.now) (g.L.Link.tape c.args.link) here c.args.limits.now.turns (Enters h)) (sym c.deref.ensures.value) stands) c.let_in.ensures

pub returns : goal.returns
unfolding LogsIn
returns g c =
    let nonce : c.as_bytes.result.now ≡ encode_of standard c.args.roll.now = c.as_bytes.ensures.value ∙ c.in-Some.ensures.nonce in
    subst (λ n. Fails c.args.password.now n (g.L.Link.tape c.args.link) (g.L.Link.tape c.enter.new.link) c.args.limits.now.turns c.in-Err.fault) nonce c.in-Err.ensures
