use Rattle.std.proofs.Common.{rules, ap, sym, subst}
use Rattle.std.proofs.lemmas.List.{drop_all}
use Rattle.serde_json.specs.View.{items_view}
use Rattle.reql_query.specs.Printing.{Printed}
use Rattle.reql_query.proofs.Lines.{printed_none, printed_more, split_at}
use Rattle.reql_query.proofs.printing.print_values.Goals as goal

pub loop-value-preserved : goal.loop-value-preserved
loop-value-preserved g c = (
  search rules,
  λ last p.
      c.loop-value.invariant.1 last
      (subst (λ vs. Printed (g.K.Sink.told c.loop-value.out) last vs) (sym (split_at c.args.values.now c.loop-value.value-index c.value-item.result (search rules) c.value-item.is))
      (printed_more _ _ _ _ _ (search rules) p)),
)

pub returns : goal.returns
returns g c =
    c.loop-value.invariant.1 _
    (subst (λ vs. Printed (g.K.Sink.told c.loop-value.out) (g.K.Sink.told c.loop-value.out) vs) (sym (ap items_view (drop_all c.loop-value.value-index c.args.values.now (search rules)))) (printed_none _))
