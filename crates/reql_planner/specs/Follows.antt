-- That what is left of a course is what is left of its request after what it heard.
use Rattle.std.specs.Prelude.{◌≡◌, List, [], ◌∷◌, ◌++◌, map, Bool, true, false}
use Rattle.std.specs.Coded.{Coded, codes, Coded-set, coded_bool, Unit-prop}
use Rattle.reql_datum.specs.Code.{plain_code, list_code, pairs_code}
use Rattle.reql_term.specs.FormCode.{form_code}
use Rattle.reql_term.specs.Views.{Document, Entry}
use Rattle.reql_rules.specs.Lists.{Bytes}
use Rattle.reql_table_spec.specs.Indexes.{Indexes}
use Rattle.reql_plan_spec.specs.declared.parts.Plan.{Plan}
use Rattle.reql_plan_spec.specs.declared.parts.Setting.{Setting}
use Rattle.reql_plan_spec.specs.Course.{course}
use Rattle.reql_plan_spec.specs.Move.{Heard}
use Rattle.reql_plan_spec.specs.Request.{Request, request, Next, next}
use Rattle.reql_plan_steps.specs.declared.moves.Move.{Move}
use Rattle.reql_plan_steps.specs.declared.moves.Move.TheVariants as move
use Rattle.reql_plan.specs.Moved.{left_in}
use Rattle.reql_plan.specs.declared.course.Course.{Course}
use Rattle.reql_session_spec.specs.Requests as story
use Rattle.reql_session_api.specs.Meant.{found_of}
use Rattle.reql_session_api.specs.declared.moves.Found.{Found}
use Rattle.reql_query_session_spec.specs.Told.{heard_of}

-- whether a list has nothing
abbrev pub is_none : {A : Type 0} → List A → Bool
is_none [] = true
is_none (x ∷ xs) = false

-- what was found, and what was heard of it
module _ {V : Type 0} (documents : V → List Document) (indexes : V → Indexes) where
  abbrev pub found_in : List (Found V × Unit {0}) → List story.Found
  found_in xs = map (λ x. found_of documents indexes x.0) xs

  abbrev pub heard_in : List (Found V × Unit {0}) → List Heard
  heard_in xs = map heard_of (found_in xs)

-- a move that is the answer
abbrev pub is_answer : Move → Bool
is_answer (move.Ask q) = false
is_answer (move.Answer o) = true

-- a request goes on from what it heard as another one does
abbrev pub GoesOn : Request → List Heard → (Heard → Request) → Type 0
GoesOn r hs left = (h : Heard) (rest : List Heard) → next (left h) rest ≡ next r (hs ++ h ∷ rest)

-- moves can be told apart
next_code : Coded Next
next_code = Prim.hlevel (codes, plain_code, list_code, pairs_code, form_code)

module _ {V : Type 0} (documents : V → List Document) (indexes : V → Indexes) (entries : V → Bytes → List Entry) where
  -- the course of a plan that has heard so much
  pub record Follows (p : Plan) (s : Setting) (hs : List Heard) (c : Course V) : Type 0 where
    pub goes : GoesOn (request (course p s)) hs (λ h. left_in documents indexes entries c.waiting h)
    pub quiet : c.noreply ≡ s.noreply

  -- unless it is over
  abbrev pub MayFollow : Plan → Setting → List Heard → Bool → Course V → Type 0
  MayFollow p s hs true c = Unit {0}
  MayFollow p s hs false c = Follows p s hs c

  -- which can hold in one way alone
  pub may_follow_prop : (p : Plan) (s : Setting) (hs : List Heard) (over : Bool) (c : Course V) → IsProp (MayFollow p s hs over c)
  may_follow_prop p s hs true c = Unit-prop
  may_follow_prop p s hs false c = λ a b i. record {
    goes = λ h rest. Coded-set next_code (next (left_in documents indexes entries c.waiting h) rest) (next (request (course p s)) (hs ++ h ∷ rest)) (a.goes h rest) (b.goes h rest) i;
    quiet = Coded-set coded_bool c.noreply s.noreply a.quiet b.quiet i;
  }
