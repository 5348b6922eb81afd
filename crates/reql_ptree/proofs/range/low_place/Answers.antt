use Rattle.std.proofs.Common.{map, Option, sym, subst, option_map}
use Rattle.reql_ptree.specs.Chunk.{pair}
use Rattle.reql_ptree.specs.Ends.{cut_seen, IsFrom}
use Rattle.reql_ptree.proofs.Gathered.{from_cut}
use Rattle.reql_ptree.specs.declared.range.Cut.{Cut}
use Rattle.reql_ptree.proofs.range.low_place.Goals as goal

pub returns-in-Some-clause-from : goal.returns-in-Some-clause-from
returns-in-Some-clause-from g c =
    subst (λ (o : Option Cut). IsFrom (option_map cut_seen o) (map pair c.args.pairs.now) c.cut.result) (sym c.in-Some.is) (from_cut (cut_seen c.in-Some.place) (map pair c.args.pairs.now) c.cut.result c.cut.ensures.cut)
