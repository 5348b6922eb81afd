use Rattle.std.proofs.Common.{refl}
use Rattle.reql_datum.specs.View.{plain}
use Rattle.reql_term.specs.View.{form_of}
use Rattle.reql_term_analysis.specs.Bound.{bound}
use Rattle.reql_simple.proofs.Members.{made_first, put_next, made_last}
use Rattle.reql_simple.proofs.object.members_found.Goals as goal

pub loop-name-init : goal.loop-name-init
loop-name-init c = rw c.in_ok-members.ensures (made_first c.args.limit c.args.terms.now (bound c.args.vars.now), refl)

pub loop-name-preserved : goal.loop-name-preserved
loop-name-preserved c =
    put_next c.args.limit c.args.terms.now c.loop-name.place c.in-Some.name.now (form_of c.in-Some.term.now) (bound c.args.vars.now) (plain c.in-Some-2.d)
    c.loop-name.members c.put_copy.new.members c.in-Some.ensures.rest c.in-Some.ensures.rising (rw c.in-Some-2.is at c.in_ok-d.ensures) c.in_ok-put_copy.ensures c.loop-name.invariant

pub returns : goal.returns
returns c = made_last c.args.limit c.args.terms.now c.loop-name.place (bound c.args.vars.now) c.loop-name.members c.in_default.ensures.rest c.loop-name.invariant.0
