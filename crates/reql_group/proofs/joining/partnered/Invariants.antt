use Rattle.std.proofs.Common.{◌≡◌, drop, map}
use Rattle.reql_datum.specs.Answer.{Answer}
use Rattle.reql_datum.specs.Called.{MeansTwo}
use Rattle.reql_datum.specs.Plain.{Plain}
use Rattle.reql_datum.specs.View.{plain}
use Rattle.reql_group.specs.Joined.{pairs_after}
use Rattle.reql_group.proofs.joining.partnered.Given as goal

abbrev pub invariant-loop-right : goal.invariant-loop-right
invariant-loop-right g l =
    (m : Plain → Plain → Answer Plain) → MeansTwo g.G.Fn l.f m
    → pairs_after m (plain l.left) (map plain l.rights) l.initial.all ≡ pairs_after m (plain l.left) (map plain (drop l.right-index l.rights)) l.all
