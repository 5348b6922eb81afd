use Rattle.reql_operand.specs.Seen.{meant, shown, all_chosen}
use Rattle.reql_operand.specs.Tables.{seen}
use Rattle.reql_apply_seq.proofs.Edges.{place_apart}
use Rattle.reql_apply_seq.proofs.slicing.slice.Goals as goal

pub returns-in-len1-up : goal.returns-in-len1-up
returns-in-len1-up g c = λ calls.
    let w = seen g.V.TableView.documents g.V.TableView.indexes g.V.TableView.entries c.args.world.now in
    place_apart (meant w) c.slice_in.result w calls (shown w c.args.source.now) c.args.places.now c.from-item.result (all_chosen w c.args.opts.now)
    c.in-len1-up.len_at_least c.from-item.is (c.slice_in.ensures calls)
