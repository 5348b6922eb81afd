-- EQ, NE, LT, LE, GT and GE (ReQL API reference: eq, ne, lt, le, gt, ge): each neighbouring pair stands so in the order of plain values; NE is the contrary of EQ.
use Rattle.std.specs.Prelude.{List, [], ◌∷◌, Bool, true, not, ◌&&◌}
use Rattle.std.specs.Ordering.{is_lt, is_le, is_gt, is_ge}
use Rattle.reql_datum.specs.Order.{order}
use Rattle.reql_datum.specs.Plain.{Plain}
use Rattle.reql_rules.specs.Types.{same}
use Rattle.reql_rules.specs.declared.words.Relate.{Relate}
use Rattle.reql_rules.specs.declared.words.Relate.TheVariants.{Eq, Ne, Lt, Le, Gt, Ge}

abbrev pub stand_from : (Plain → Plain → Bool) → Plain → List Plain → Bool
stand_from test u [] = true
stand_from test u (v ∷ vs) = test u v && stand_from test v vs

abbrev pub neighbours : (Plain → Plain → Bool) → List Plain → Bool
neighbours test [] = true
neighbours test (v ∷ vs) = stand_from test v vs

abbrev pub relate : Relate → List Plain → Bool
relate Eq vs = neighbours same vs
relate Ne vs = not (neighbours same vs)
relate Lt vs = neighbours (λ u v. is_lt (order u v)) vs
relate Le vs = neighbours (λ u v. is_le (order u v)) vs
relate Gt vs = neighbours (λ u v. is_gt (order u v)) vs
relate Ge vs = neighbours (λ u v. is_ge (order u v)) vs
