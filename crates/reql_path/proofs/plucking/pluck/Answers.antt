use Rattle.std.proofs.Common.{◌≡◌, ◌∷◌, []}
use Rattle.reql_datum.specs.Plain.{pairs_of}
use Rattle.reql_rules.specs.Lists.{object_of}
use Rattle.reql_rules.specs.Patterns.{pluck, pluck_pairs}
use Rattle.reql_path.proofs.Compiled.{ok_with}
use Rattle.reql_path.proofs.Parts.{plucks_one, plucks_several}
use Rattle.reql_path.proofs.plucking.pluck.Goals as goal

pub returns-clause-one : goal.returns-clause-one
returns-clause-one c =
    ok_with c.plucked.result (λ r. pairs_of r ≡ pluck_pairs (pairs_of c.args.o.now) (object_of c.p.inside.parts ∷ [])) (λ r. object_of r ≡ pluck (c.args.p.now ∷ []) (object_of c.args.o.now))
    (λ r h. plucks_one c.args.p.now c.p.inside.parts c.args.o.now r (rw (c.p.view_is) at c.p.invariant) h) c.plucked.ensures

pub returns-clause-several : goal.returns-clause-several
returns-clause-several c = λ ps is.
    ok_with c.plucked.result (λ r. pairs_of r ≡ pluck_pairs (pairs_of c.args.o.now) (object_of c.p.inside.parts ∷ [])) (λ r. object_of r ≡ pluck ps (object_of c.args.o.now))
    (λ r h. plucks_several c.args.p.now c.p.inside.parts c.args.o.now r ps is (rw (c.p.view_is) at c.p.invariant) h) c.plucked.ensures
