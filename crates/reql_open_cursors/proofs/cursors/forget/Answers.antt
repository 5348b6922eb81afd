use Rattle.std.proofs.Common.{not, rules}
use Rattle.std.specs.Prelude.{nat_eq}
use Rattle.std.proofs.lemmas.Fn.{filter_same}
use Rattle.reql_open_cursors.specs.declared.open.Cursor.{Cursor}
use Rattle.reql_open_cursors.proofs.cursors.forget.Goals as goal

pub returns : goal.returns
returns c = filter_same _ (λ (x : Cursor). not (nat_eq x.token c.args.token)) _ (λ x b f k. search rules) _ _ c.retain.ensures.filtered
