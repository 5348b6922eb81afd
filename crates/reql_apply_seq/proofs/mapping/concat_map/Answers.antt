use Rattle.reql_apply_seq.proofs.Pairs.{two_of}
use Rattle.reql_apply_seq.proofs.mapping.concat_map.Goals as goal

pub returns-in-len2 : goal.returns-in-len2
returns-in-len2 g c = λ calls h opts.
    rw (two_of c.args.args.now c.source-item.result c.f-item.result c.in-len2.len_at_least c.in-len2.len_below c.source-item.is c.f-item.is) (c.concat_in.ensures calls h opts)
