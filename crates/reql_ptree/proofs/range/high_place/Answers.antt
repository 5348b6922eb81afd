use Rattle.std.proofs.Common.{map, Option, sym, subst, option_map}
use Rattle.reql_ptree.specs.Chunk.{pair}
use Rattle.reql_ptree.specs.Ends.{cut_seen, IsTo}
use Rattle.reql_ptree.proofs.Gathered.{to_cut}
use Rattle.reql_ptree.specs.declared.range.Cut.{Cut}
use Rattle.reql_ptree.proofs.range.high_place.Goals as goal

pub returns-in-Some-clause-to : goal.returns-in-Some-clause-to
returns-in-Some-clause-to g c =
    subst (λ (o : Option Cut). IsTo (option_map cut_seen o) (map pair c.args.pairs.now) c.cut.result) (sym c.in-Some.is) (to_cut (cut_seen c.in-Some.place) (map pair c.args.pairs.now) c.cut.result c.cut.ensures.cut)
