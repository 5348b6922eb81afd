use Rattle.reql_table_records.proofs.Texts.{wrote_text}
use Rattle.reql_table_records.proofs.write.write_changes.Goals as goal

pub returns : goal.returns
returns c =
    wrote_text c.args.out.now.items _ _ _ _ c.in_ok-extend_from_slice.ensures.items c.in_ok-write_all.ensures c.in_ok-push.ensures.items
