use Rattle.reql_ptree.proofs.remove_in_place.+side_remove_in.Given as goal

abbrev pub decreases-side_remove_in : goal.decreases-side_remove_in
decreases-side_remove_in g l = l.side.now.1
