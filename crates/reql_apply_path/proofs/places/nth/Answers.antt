use Rattle.std.proofs.Common.{◌≡◌, pos, sym, subst, rules}
use Rattle.reql_datum.specs.Answer.{Answer}
use Rattle.reql_datum.specs.Outcome.{Gives}
use Rattle.reql_datum.specs.Plain.{Plain}
use Rattle.reql_datum.specs.View.{plain}
use Rattle.reql_operand.specs.Seen.{meant}
use Rattle.reql_operand.specs.Tables.{seen}
use Rattle.reql_apply_path.specs.Places.{reached}
use Rattle.reql_apply_path.proofs.Reached.{from_front_is}
use Rattle.reql_apply_path.proofs.places.nth.Goals as goal

pub returns-in-FromFront : goal.returns-in-FromFront
returns-in-FromFront g c =
    let w = seen g.V.TableView.documents g.V.TableView.indexes g.V.TableView.entries c.args.world.now in
    let is : pos c.in-FromFront.place ≡ c.args.at = search rules in
    let m = meant w c.args.value.now in
    let told : Gives plain c.reached.result (reached w c.in-FromFront.place c.args.at m) = search rules in
    subst (λ (x : Answer Plain). Gives plain c.reached.result x) (sym (from_front_is w m c.args.at c.in-FromFront.place is)) told
