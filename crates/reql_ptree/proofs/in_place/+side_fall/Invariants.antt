use Rattle.reql_ptree.proofs.in_place.+side_fall.Given as goal

abbrev pub decreases-side_fall : goal.decreases-side_fall
decreases-side_fall g l = l.side.now.1
