use Rattle.std.proofs.Common.{refl}
use Rattle.reql_datum.specs.Members.{text_order}
use Rattle.reql_datum.proofs.Finds.{other_length}
use Rattle.reql_datum.proofs.name.Name.is.Goals as goal

pub returns-then-own-text : goal.returns-then-own-text
returns-then-own-text c =
    other_length (text_order c.args.text.now c.args.self.now) c.args.self.now c.args.text.now refl (rw c.as_str-own.ensures at c.if-own-text.true)
