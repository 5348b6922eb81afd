use Rattle.std.proofs.Common.{◌≡◌, ◌∙◌, ◌++◌, length, sym, ap, arith}
use Rattle.reql_wire.specs.Greeting.{Listening, kept}
use Rattle.reql_wire.specs.declared.greeter.Greeting.TheVariants as greeting
use Rattle.reql_wire.proofs.Greetings.{keeps, listening, accepted_answer, login_answer, other_answer, waits}
use Rattle.reql_wire.proofs.greeter.Greeter.feed.Goals as goal
use Rattle.reql_wire.proofs.greeter.Greeter.feed.Goals.{in-Accepted, in-Login, in_default-verdict_of}

own_key : (c : goal.Joined-verdict_of) → c.self.inside.key.items ≡ c.args.self.now.key
own_key c = ap (λ (g : Listening). g.key) c.self.view_is

own_heard : (c : goal.Joined-verdict_of) → c.self.inside.heard.items ≡ c.args.self.now.heard
own_heard c = ap (λ (g : Listening). g.heard) c.self.view_is

now_heard : (c : goal.Joined-verdict_of) → c.extend_from_slice.new.self.items ≡ kept (c.args.self.now.heard ++ c.args.piece.now)
now_heard c =
    keeps c.self.inside.heard.items c.args.self.now.heard c.args.piece.now c.extend_from_slice.new.self.items c.len-before.result c.min-taken.result
    c.self.invariant.0 (own_heard c) (c.len-before.ensures ∙ c.self.inside.heard.ok.0) c.min-taken.ensures c.in-Ok.ensures.items

pub returns-clause-keeps : goal.returns-clause-keeps
returns-clause-keeps c = listening _ _ _ _ (own_key c) (now_heard c)

pub returns-clause-answers : goal.returns-clause-answers
returns-clause-answers c =
    elim c.match-verdict_of.branch [
      | in-Accepted w ↦
          rw w.result-is (accepted_answer c.args.self.now.key c.args.self.now.heard c.args.piece.now c.deref.result.now c.deref-2.result.now w.in-Accepted.used w.saturating_sub.result
          (c.deref.ensures.value ∙ own_key c) (c.deref-2.ensures.value ∙ now_heard c) w.in-Accepted.ensures.verdict w.in-Accepted.ensures.begins
          (omega (arith, w.saturating_sub.ensures, c.len-before.ensures, c.self.inside.heard.ok.0, ap length (own_heard c))))
      | in-Login w ↦
          rw w.result-is (login_answer c.args.self.now.key c.args.self.now.heard c.args.piece.now c.deref.result.now c.deref-2.result.now w.in-Login.used w.saturating_sub-in-Login.result
          (c.deref.ensures.value ∙ own_key c) (c.deref-2.ensures.value ∙ now_heard c) w.in-Login.ensures.verdict
          (omega (arith, w.saturating_sub-in-Login.ensures, c.len-before.ensures, c.self.inside.heard.ok.0, ap length (own_heard c))))
      | in_default-verdict_of w ↦
          rw w.result-is (other_answer c.args.self.now.key c.args.self.now.heard c.args.piece.now c.deref.result.now c.deref-2.result.now c.verdict_of.result
          (c.deref.ensures.value ∙ own_key c) (c.deref-2.ensures.value ∙ now_heard c) c.verdict_of.ensures.verdict w.in_default-verdict_of.not-Accepted w.in_default-verdict_of.not-Login)
    ]

pub returns-clause-waits : goal.returns-clause-waits
returns-clause-waits c =
    λ more. elim c.match-verdict_of.branch [
      | in-Accepted w ↦ absurd (let e : greeting.Accepted w.saturating_sub.result ≡ greeting.More = sym w.result-is ∙ more in cc)
      | in-Login w ↦ absurd (let e : greeting.Login w.saturating_sub-in-Login.result ≡ greeting.More = sym w.result-is ∙ more in cc)
      | in_default-verdict_of w ↦
          sym c.deref-2.ensures.value
          ∙ waits c.args.self.now.key c.args.self.now.heard c.args.piece.now c.deref.result.now c.deref-2.result.now (c.deref.ensures.value ∙ own_key c) (c.deref-2.ensures.value ∙ now_heard c) (c.verdict_of.ensures.verdict ∙ sym w.result-is ∙ more)
    ]
