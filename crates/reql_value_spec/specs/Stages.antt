-- Terms that go element by element over a sequence: MAP, FILTER, PLUCK, WITHOUT, MERGE, HAS_FIELDS and WITH_FIELDS.
use Rattle.std.specs.Prelude.{◌≡◌, List, [], ◌∷◌, map, if◌then◌else◌, Option, Some, None, Ok, Err, codes}
use Rattle.reql_datum.specs.Answer.{Answer, ◌>>=◌, Reason}
use Rattle.reql_datum.specs.Members.{find}
use Rattle.reql_datum.specs.Plain.{Plain}
use Rattle.reql_rules.specs.Faults.{misplaced}
use Rattle.reql_rules.specs.Fields.{on_objects}
use Rattle.reql_rules.specs.Lists.{each_joined}
use Rattle.reql_rules.specs.Mapping.{tested}
use Rattle.reql_rules.specs.Patterns.{pluck, without}
use Rattle.reql_value_spec.specs.Called.{answer_one, answer_test}
use Rattle.reql_value_spec.specs.Fields.{patterns, having_one, has_fields_rule, with_fields, by_patterns, merge_rule, merged_on}
use Rattle.reql_value_spec.specs.Meant.{Meant, Given, given, Calls, Options, Rule}
use Rattle.reql_value_spec.specs.Sequenced.{like, alike, like_first, alike_first}
use Rattle.reql_value_spec.specs.Sequences.{map_rule, filter_rule, default_given, in_its_place}
use Rattle.reql_value_spec.specs.Wanted.{to_sequence}
use Rattle.reql_value_spec.specs.World.{World}

-- what a stage refuses whatever the elements are, as a pattern that is none, and what it makes of one element
pub record Stage : Type 0 where
  pub refuses : Option Reason
  pub on : Plain → Answer (List Plain)

abbrev pub unless : Option Reason → Answer (List Plain) → Answer (List Plain)
unless None a = a
unless (Some e) a = Err e

-- the elements in order; the first fault counts
abbrev pub staged_by : Stage → List Plain → Answer (List Plain)
staged_by s vs = unless s.refuses (each_joined s.on vs)

abbrev pub refusing : Reason → Stage
refusing e = record { refuses = Some e; on = λ d. Err e }

abbrev pub going : (Plain → Answer (List Plain)) → Stage
going f = record { refuses = None; on = f }

-- one element of each
abbrev pub mapping : (Plain → Answer Plain) → Stage
mapping f = going (λ d. f d >>= λ e. Ok (e ∷ []))

module _ {A : Type 0} where
  abbrev pub by_answer : Answer A → (A → Stage) → Stage
  by_answer (Ok x) f = f x
  by_answer (Err e) f = refusing e

-- the stage of an operator, by its arguments after the sequence: it reads no table
abbrev pub StageBy : Type 0
StageBy = Calls → List Given → Options → Stage

abbrev pub map_stage : StageBy
map_stage calls (f ∷ []) opts = mapping (answer_one calls f)
map_stage calls gs opts = refusing misplaced

abbrev pub filter_stage : StageBy
filter_stage calls (f ∷ []) opts = by_answer (default_given (find (codes "default") opts)) (λ d.
    going (λ v. in_its_place d.1 (tested d.0 (answer_test calls f v)) >>= λ b. Ok (if b then v ∷ [] else [])))
filter_stage calls gs opts = refusing misplaced

abbrev pub pattern_stage : (List Plain → Plain → Plain) → StageBy
pattern_stage f calls gs opts = by_answer (patterns gs) (λ ps. mapping (on_objects (λ d. Ok (f ps d))))

abbrev pub merge_stage : StageBy
merge_stage calls gs opts = mapping (on_objects (λ d. merged_on calls d gs))

abbrev pub having_stage : StageBy
having_stage calls gs opts = by_answer (patterns gs) (λ ps. going (having_one ps))

abbrev pub with_fields_stage : StageBy
with_fields_stage calls gs opts = by_answer (patterns gs) (λ ps. going (λ d. having_one ps d >>= λ es. Ok (map (pluck ps) es)))

-- over any sequence a rule gives what its stage gives of the elements, in a sequence of the kind that `make` says
abbrev pub IsStage : (Meant → List Plain → Meant) → Rule → StageBy → Type 0
IsStage make rule stage = (w : World) (calls : Calls) (gs : List Given) (opts : Options) (m : Meant) (vs : List Plain) → to_sequence w m ≡ Ok vs
    → rule w calls (given m ∷ gs) opts ≡ (staged_by (stage calls gs opts) vs >>= λ ws. Ok (make m ws))

pub record StagesGoByElement : Type 0 where
  pub maps : IsStage like (like_first map_rule) map_stage
  pub filters : IsStage alike (alike_first filter_rule) filter_stage
  pub plucks : IsStage like (by_patterns pluck) (pattern_stage pluck)
  pub withouts : IsStage like (by_patterns without) (pattern_stage without)
  pub merges : IsStage like merge_rule merge_stage
  pub havings : IsStage like has_fields_rule having_stage
  pub with_all : IsStage like (like_first with_fields) with_fields_stage
