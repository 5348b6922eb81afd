use Rattle.reql_datum.specs.View.{plain}
use Rattle.reql_ptree.proofs.RemoveInPlace.{dropped}
use Rattle.reql_ptree.proofs.remove_in_place.drop_pair.Goals as goal

pub returns-clause-pairs : goal.returns-clause-pairs
returns-clause-pairs c = dropped c.args.all.now.items c.remove.new.self.items c.args.place (plain c.args.key.now) c.requires.hit c.remove.ensures.items
