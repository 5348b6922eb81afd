use Rattle.std.proofs.Common.{◌∙◌, sym}
use Rattle.rows_data.proofs.NewIds.{new_among}
use Rattle.rows_data.proofs.terms.push_new.Goals as goal

pub push-requires : goal.push-requires
push-requires c = record { new = new_among c.args.id c.args.params.now (rw c.as_slice.ensures.ids at (sym c.contains.ensures.value ∙ c.if-contains.false)) }
