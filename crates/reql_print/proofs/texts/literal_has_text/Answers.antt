use Rattle.reql_print.proofs.Spelled.{binary_text}
use Rattle.reql_print.proofs.texts.literal_has_text.Goals as goal

pub returns-in-Binary : goal.returns-in-Binary
returns-in-Binary c = rw c.in-Binary.is (binary_text c.in-Binary.field-0)
