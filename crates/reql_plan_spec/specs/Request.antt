-- A request as it goes: it is answered, or asks and goes on by what it hears.
use Rattle.std.specs.Prelude.{List, [], ◌∷◌, Ok, Err}
use Rattle.reql_datum.specs.Answer.{Answer, Reason}
use Rattle.reql_plan_spec.specs.Move.{Ask, Heard, Stop, fault, Outcome, stop}

pub data Request : Type 0 where
  ends : Outcome → Request
  asks : Ask → (Heard → Request) → Request

-- what gives an A on the way, by what a request does with it
abbrev pub Moves : Type 0 → Type 0
Moves A = (A → Request) → Request

infixl 10 ◌>>=◌
abbrev pub ◌>>=◌ : {A B : Type 0} → Moves A → (A → Moves B) → Moves B
(m >>= f) on = m (λ a. f a on)

abbrev pub give : {A : Type 0} → A → Moves A
give a on = on a

abbrev pub halt : {A : Type 0} → Stop → Moves A
halt why on = ends (stop why)

abbrev pub refuse : {A : Type 0} → Reason → Moves A
refuse why = halt (fault why)

-- an evaluation on the way: its fault is the answer
abbrev pub from : {A : Type 0} → Answer A → Moves A
from (Ok a) on = on a
from (Err e) on = ends (stop (fault e))

abbrev pub ask : Ask → Moves Heard
ask q on = asks q on

abbrev pub request : Moves Outcome → Request
request m = m ends

-- what it does next after these answers: its own answer, or a move
pub data Next : Type 0 where
  answered : Outcome → Next
  moves : Ask → Next

abbrev pub next : Request → List Heard → Next
next (ends o) hs = answered o
next (asks q on) [] = moves q
next (asks q on) (h ∷ hs) = next (on h) hs

-- where it stands after these answers
abbrev pub after : Request → List Heard → Request
after r [] = r
after (ends o) (h ∷ hs) = ends o
after (asks q on) (h ∷ hs) = after (on h) hs
