-- GROUP, UNGROUP, SUM, AVG, MIN and MAX (ReQL API reference: group, ungroup, sum, avg, min, max).
use Rattle.std.specs.Prelude.{List, [], ◌∷◌, map, Option, Some, None, Ok, Err, codes}
use Rattle.reql_datum.specs.Answer.{Answer, ◌>>=◌}
use Rattle.reql_datum.specs.Plain.{Plain}
use Rattle.reql_rules.specs.Faults.{misplaced, misplaced_order}
use Rattle.reql_rules.specs.Grouping.{gather, group_all, or_null, ungroup}
use Rattle.reql_rules.specs.Lists.{Bytes, each, array_of}
use Rattle.reql_rules.specs.Totals.{total}
use Rattle.reql_rules.specs.declared.words.Total.{Total}
use Rattle.reql_value_spec.specs.Called.{answer_key}
use Rattle.reql_value_spec.specs.Meant.{Meant, grouped, Given, Calls, Gives, meant_of}
use Rattle.reql_value_spec.specs.Orders.{table_source}
use Rattle.reql_value_spec.specs.Wanted.{wrong, as_sequence, index_text}
use Rattle.reql_value_spec.specs.World.{World}

-- the value of one key, or the array of the values of several
abbrev pub group_value : Calls → Given → List Given → Plain → Answer Plain
group_value calls k [] d = answer_key calls k d
group_value calls k (j ∷ ks) d = each (λ g. or_null (answer_key calls g d)) (k ∷ j ∷ ks) >>= λ vs. Ok (array_of vs)

-- without keys by the values of an index
abbrev pub group_by_index : World → Meant → Option Bytes → Answer (List (Plain × Plain))
group_by_index w m None = Err misplaced_order
group_by_index w m (Some name) = do
  es ← table_source w name m
  Ok (gather (map (λ e. (e.0, e.1.1)) es))

abbrev pub group_in : World → Calls → Meant → List Given → List Plain → Option Bytes → Answer (List (Plain × Plain))
group_in w calls m [] ds i = group_by_index w m i
group_in w calls m (k ∷ ks) ds i = group_all (group_value calls k ks) ds

abbrev pub group_rule : Gives (List (Plain × Plain))
group_rule w calls (s ∷ ks) opts = do
  ds ← as_sequence w s
  i ← index_text opts
  group_in w calls (meant_of s) ks ds i
group_rule w calls [] opts = Err misplaced

abbrev pub ungrouped : Meant → Answer (List Plain)
ungrouped (grouped gs) = Ok (ungroup gs)
ungrouped m = Err (wrong (codes "GROUPED_DATA") m)

abbrev pub ungroup_rule : Gives (List Plain)
ungroup_rule w calls (g ∷ []) opts = ungrouped (meant_of g)
ungroup_rule w calls gs opts = Err misplaced

abbrev pub total_rule : Total → Gives Plain
total_rule op w calls (s ∷ []) opts = do
  ds ← as_sequence w s
  total op (λ v. Ok v) ds
total_rule op w calls (s ∷ k ∷ []) opts = do
  ds ← as_sequence w s
  total op (answer_key calls k) ds
total_rule op w calls gs opts = Err misplaced
