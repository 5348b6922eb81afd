use Rattle.reql_seq.proofs.Cuts.{cut_seen}
use Rattle.reql_seq.proofs.places.cut.Goals as goal

pub returns : goal.returns
returns c = cut_seen c.items_of.result c.as_slice.result.now c.args.list.now c.args.from c.args.to c.as_slice.ensures c.items_of.ensures
