use Rattle.reql_table_records.proofs.Texts.{created_text}
use Rattle.reql_table_records.proofs.write.write_create.Goals as goal

pub returns : goal.returns
returns c =
    created_text c.args.out.now.items _ _ _ _ _ _ _ c.args.name.now c.args.multi c.args.text.now c.in_ok-extend_from_slice.ensures.items c.in_ok-write_name.ensures c.in_ok-push.ensures.items c.in_ok-write_bool.ensures c.in_ok-push-2.ensures.items c.in_ok-write_name-2.ensures c.in_ok-push-3.ensures.items
