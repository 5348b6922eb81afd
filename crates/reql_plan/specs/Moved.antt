-- The moves of a course, one after another.
use Rattle.std.specs.Prelude.{◌≡◌, List, Bool, true, false, cond, Option, Some, None, Result, Ok, Err}
use Rattle.reql_term.specs.Views.{Document, Entry}
use Rattle.reql_rules.specs.Faults.{misplaced}
use Rattle.reql_rules.specs.Lists.{Bytes}
use Rattle.reql_table_spec.specs.Indexes.{Indexes}
use Rattle.reql_plan_spec.specs.Course as c
use Rattle.reql_plan_spec.specs.Move as m
use Rattle.reql_plan_spec.specs.Request.{Request, ends, asks, Next, answered, moves}
use Rattle.reql_plan_steps.specs.Heard.{move_of}
use Rattle.reql_plan_steps.specs.declared.moves.Move.{Move}
use Rattle.reql_plan_state.specs.Rest.{rest_of}
use Rattle.reql_plan_state.specs.Turn.{lost_request}
use Rattle.reql_plan.specs.declared.course.Course.{Course}
use Rattle.reql_plan.specs.declared.course.Waiting.{Waiting}
use Rattle.reql_plan.specs.declared.course.Waiting.TheVariants as w

-- before the first answer
abbrev pub first_left : Bool → (m.Heard → Request) → Request
first_left true on = asks m.look_names on
first_left false on = lost_request

-- what is sent
abbrev pub quieted : Bool → m.Outcome → m.Outcome
quieted quiet o = cond quiet m.unsent o

-- the first move
abbrev pub first_move : Bool → Bool → Next
first_move true quiet = moves m.look_names
first_move false quiet = answered (quieted quiet (m.stop (m.fault misplaced)))

abbrev pub First : {E : Type 0} → Result Move E → Bool → Bool → Type 0
First (Ok mv) fresh quiet = move_of mv ≡ first_move fresh quiet
First (Err e) fresh quiet = Unit {0}

module _ {V : Type 0} (documents : V → List Document) (indexes : V → Indexes) (entries : V → Bytes → List Entry) where
  -- what is left by the answer to the last move
  abbrev pub left_in : Waiting V → m.Heard → Request
  left_in (w.Names p st) h = c.names_heard h (λ ns. c.resolving p st ns ends)
  left_in (w.In s) h = rest_of documents indexes entries s.value h
  left_in w.Over h = lost_request

  -- at first there is no answer, and the names are asked for
  abbrev pub left_of : Course V → Option m.Heard → Request
  left_of x None = first_left x.is_fresh (λ h. left_in x.waiting h)
  left_of x (Some h) = left_in x.waiting h

  -- A move of a request: its end, which isn't sent where no answer is wanted; or what it asks, and then what is left goes by what is heard.
  abbrev pub Moved : Move → Waiting V → Bool → Request → Type 0
  Moved mv s quiet (ends o) = move_of mv ≡ answered (quieted quiet o)
  Moved mv s quiet (asks q on) = (move_of mv ≡ moves q) × ((h : m.Heard) → left_in s h ≡ on h)

  abbrev pub Goes : {E : Type 0} → Result Move E → Waiting V → Bool → Request → Type 0
  Goes (Ok mv) s quiet r = Moved mv s quiet r
  Goes (Err e) s quiet r = Unit {0}
