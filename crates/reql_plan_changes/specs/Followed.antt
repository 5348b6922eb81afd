-- What feeds follow, and their openings, in smaller parts.
use Rattle.std.specs.Prelude.{List, [], ◌∷◌, Some, Ok}
use Rattle.reql_datum.specs.Answer.{Answer, ◌>>=◌}
use Rattle.reql_term.specs.Form.{Form, Forms, NamedForms}
use Rattle.reql_faults.specs.Places.{first, second}
use Rattle.reql_feed_spec.specs.declared.kind.FeedKind.TheVariants as kinds
use Rattle.reql_plan_spec.specs.declared.parts.Opening.{Opening}
use Rattle.reql_plan_spec.specs.Feeding.{Told, all_settled, feed_settled, limit_index, count_in, opening}
use Rattle.reql_plan_spec.specs.Held.{Held}
use Rattle.reql_plan_spec.specs.Settled.{there, options_given}

abbrev pub united : Held → Forms → NamedForms → Answer (List Form)
united e fs ms = all_settled e fs >>= λ gs. options_given e.world ms >>= λ _. Ok gs

abbrev pub alone : Held → Form → Answer (List Form)
alone e f = feed_settled e f >>= λ g. Ok (g ∷ [])

-- a limit feed over an order, with so many rows at most
abbrev pub limit_over : Held → Told → Form → Forms → Answer Opening
limit_over e t f fs = do
  order ← there (first fs)
  name ← limit_index e order
  c ← there (second fs)
  count ← count_in c
  Ok (opening e t f (Some name) (kinds.Limit count))
