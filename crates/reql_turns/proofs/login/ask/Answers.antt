use Rattle.std.proofs.Common.{◌≡◌, codes, Some, ap, subst, ◌∙◌}
use Rattle.std.specs.Prelude.{option_map}
use Rattle.reql_scram.specs.Scram.{client_first_of}
use Rattle.reql_scram.specs.Texts.{escaped}
use Rattle.reql_login.specs.Turns.{asked_by}
use Rattle.reql_session_spec.specs.Logins.{account}
use Rattle.reql_session_spec.specs.Tasks.{Talk}
use Rattle.reql_turns.proofs.Comings.{first_failed, second_failed, asked_so, wanted_so}
use Rattle.reql_turns.proofs.login.ask.Goals as goal

pub returns-in_default-clause-asked : goal.returns-in_default-clause-asked
returns-in_default-clause-asked g c = λ held message rest m f.
    first_failed (account (g.H.Handler.talk c.args.handler.now)) held message rest c.args.text.now (g.H.Handler.work c.args.handler.now) (g.H.Handler.work c.roll.new.self) m f c.in_default.ensures.rolled

pub returns-in_default-roll-clause-asked : goal.returns-in_default-roll-clause-asked
returns-in_default-roll-clause-asked g c = λ held message rest m f.
    second_failed (account (g.H.Handler.talk c.args.handler.now)) held message rest c.args.text.now c.in-Some.salt (g.H.Handler.work c.args.handler.now) (g.H.Handler.work c.roll.new.self) (g.H.Handler.work c.roll-2.new.self) m f c.in-Some.ensures.rolled c.in_default-roll.ensures.rolled

pub returns-in_default-new-clause-asked : goal.returns-in_default-new-clause-asked
returns-in_default-new-clause-asked g c = λ held message rest m f.
    wanted_so (account (g.H.Handler.talk c.args.handler.now)) held message rest c.args.text.now c.in-Some.salt c.in-Some-roll.nonce (g.H.Handler.work c.args.handler.now) (g.H.Handler.work c.roll.new.self) (g.H.Handler.work c.roll-2.new.self) m f c.in-Some.ensures.rolled c.in-Some-roll.ensures.rolled

pub returns-in-Ok-asked-clause-asked : goal.returns-in-Ok-asked-clause-asked
returns-in-Ok-asked-clause-asked g c = λ held message rest m f.
    let talk = c.in-Some-roll.ensures.talk ∙ c.in-Some.ensures.talk in
    let password = c.password.ensures ∙ ap (λ (k : Talk g.row.H-Plan.Denot). k.password) talk in
    let login : c.in-Ok.login ≡ account (g.H.Handler.talk c.args.handler.now) = c.in-Ok.ensures ∙ ap (λ p. record { name = escaped (codes "admin"); password = p }) password in
    let asked = subst (λ l. option_map (asked_by l c.in-Some.salt c.in-Some-roll.nonce) (client_first_of c.args.text.now) ≡ Some (c.in-Ok-asked.asked.0, c.in-Ok-asked.asked.1.items)) login c.in-Ok-asked.ensures in
    asked_so (account (g.H.Handler.talk c.args.handler.now)) held message rest c.args.text.now c.in-Some.salt c.in-Some-roll.nonce c.in-Ok-asked.asked.1.items c.in-Ok-asked.asked.0 (g.H.Handler.work c.args.handler.now) (g.H.Handler.work c.roll.new.self) (g.H.Handler.work c.roll-2.new.self) m f c.in-Some.ensures.rolled c.in-Some-roll.ensures.rolled asked

pub returns-in-Err-clause-asked : goal.returns-in-Err-clause-asked
returns-in-Err-clause-asked g c = λ held message rest m f.
    wanted_so (account (g.H.Handler.talk c.args.handler.now)) held message rest c.args.text.now c.in-Some.salt c.in-Some-roll.nonce (g.H.Handler.work c.args.handler.now) (g.H.Handler.work c.roll.new.self) (g.H.Handler.work c.roll-2.new.self) m f c.in-Some.ensures.rolled c.in-Some-roll.ensures.rolled
