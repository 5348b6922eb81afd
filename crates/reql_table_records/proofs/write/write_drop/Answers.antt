use Rattle.reql_table_records.proofs.Texts.{dropped_text}
use Rattle.reql_table_records.proofs.write.write_drop.Goals as goal

pub returns : goal.returns
returns c =
    dropped_text c.args.out.now.items _ _ _ c.args.name.now c.in_ok-extend_from_slice.ensures.items c.in_ok-write_name.ensures c.in_ok-push.ensures.items
