use Rattle.json.proofs.Printed.Plain.{escape_on_plain}
use Rattle.reql_spell.proofs.plain.is_plain.Goals as goal

pub returns-then-text-lt8 : goal.returns-then-text-lt8
returns-then-text-lt8 c = escape_on_plain c.few.result c.args.text.now c.few.ensures

pub returns-else-text-lt8 : goal.returns-else-text-lt8
returns-else-text-lt8 c = escape_on_plain c.many.result c.args.text.now c.many.ensures
