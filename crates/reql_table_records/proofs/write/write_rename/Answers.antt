use Rattle.reql_table_records.proofs.Texts.{renamed_text}
use Rattle.reql_table_records.proofs.write.write_rename.Goals as goal

pub returns : goal.returns
returns c =
    renamed_text c.args.out.now.items _ _ _ _ _ c.args.old.now c.args.new.now c.in_ok-extend_from_slice.ensures.items c.in_ok-write_name.ensures c.in_ok-push.ensures.items c.in_ok-write_name-2.ensures c.in_ok-push-2.ensures.items
