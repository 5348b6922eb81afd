use Rattle.std.proofs.Common.{◌≡◌, ◌∷◌, []}
use Rattle.reql_datum.specs.Plain.{pairs_of}
use Rattle.reql_rules.specs.Lists.{object_of}
use Rattle.reql_rules.specs.Patterns.{without, without_pairs}
use Rattle.reql_path.proofs.Compiled.{ok_with}
use Rattle.reql_path.proofs.Parts.{leaves_one, leaves_several}
use Rattle.reql_path.proofs.excluding.without.Goals as goal

pub returns-clause-one : goal.returns-clause-one
returns-clause-one c =
    ok_with c.left.result (λ r. pairs_of r ≡ without_pairs (pairs_of c.args.o.now) (object_of c.p.inside.parts ∷ [])) (λ r. object_of r ≡ without (c.args.p.now ∷ []) (object_of c.args.o.now))
    (λ r h. leaves_one c.args.p.now c.p.inside.parts c.args.o.now r (rw (c.p.view_is) at c.p.invariant) h) c.left.ensures

pub returns-clause-several : goal.returns-clause-several
returns-clause-several c = λ ps is.
    ok_with c.left.result (λ r. pairs_of r ≡ without_pairs (pairs_of c.args.o.now) (object_of c.p.inside.parts ∷ [])) (λ r. object_of r ≡ without ps (object_of c.args.o.now))
    (λ r h. leaves_several c.args.p.now c.p.inside.parts c.args.o.now r ps is (rw (c.p.view_is) at c.p.invariant) h) c.left.ensures
