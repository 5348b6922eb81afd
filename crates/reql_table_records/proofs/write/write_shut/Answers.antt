use Rattle.reql_table_records.proofs.Texts.{shut_text}
use Rattle.reql_table_records.proofs.write.write_shut.Goals as goal

pub returns : goal.returns
returns c =
    shut_text c.args.out.now.items _ c.in_ok-extend_from_slice.ensures.items
