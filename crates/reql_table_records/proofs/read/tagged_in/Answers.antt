use Rattle.std.proofs.Common.{refl, sym, ◌∙◌}
use Rattle.reql_table_records.proofs.read.tagged_in.Goals as goal

pub returns : goal.returns
returns c =
    rw (sym c.is.ensures ∙ c.if-is.false, sym c.is-2.ensures ∙ c.if-is-2.false, sym c.is-3.ensures ∙ c.if-is-3.false, sym c.is-4.ensures ∙ c.if-is-4.false, sym c.is-5.ensures ∙ c.if-is-5.false) refl
