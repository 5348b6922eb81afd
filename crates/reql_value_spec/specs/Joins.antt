-- INNER_JOIN, OUTER_JOIN, EQ_JOIN and ZIP (ReQL API reference: innerJoin, outerJoin, eqJoin, zip).
use Rattle.std.specs.Prelude.{List, [], ◌∷◌, Bool, Err}
use Rattle.reql_datum.specs.Answer.{◌>>=◌}
use Rattle.reql_datum.specs.Plain.{Plain}
use Rattle.reql_term.specs.Views.{Entry, all_of}
use Rattle.reql_rules.specs.Faults.{misplaced}
use Rattle.reql_rules.specs.Joining.{join_all, eq_join_all, zip_all}
use Rattle.reql_value_spec.specs.Called.{answer_key, answer_two}
use Rattle.reql_value_spec.specs.Meant.{Gives}
use Rattle.reql_value_spec.specs.Tables.{entries_by}
use Rattle.reql_value_spec.specs.Wanted.{as_sequence, as_table, index_text}

abbrev pub join_rule : Bool → Gives (List Plain)
join_rule outer w calls (s ∷ t ∷ f ∷ []) opts = do
  ls ← as_sequence w s
  rs ← as_sequence w t
  join_all outer (answer_two calls f) ls rs
join_rule outer w calls gs opts = Err misplaced

-- the documents of the entries whose value is that key
abbrev pub having : List Entry → Plain → List Plain
having es k = all_of (k ∷ []) es

abbrev pub eq_join : Gives (List Plain)
eq_join w calls (s ∷ k ∷ t ∷ []) opts = do
  ls ← as_sequence w s
  v ← as_table w t
  i ← index_text opts
  es ← entries_by v.1 i
  eq_join_all (answer_key calls k) (having es) ls
eq_join w calls gs opts = Err misplaced

abbrev pub zip_rule : Gives (List Plain)
zip_rule w calls (s ∷ []) opts = do
  ds ← as_sequence w s
  zip_all ds
zip_rule w calls gs opts = Err misplaced
