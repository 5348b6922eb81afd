-- From one point of a task to another, by moves on a desk alone.
use Rattle.std.specs.Prelude.{◌≡◌, ℕ, List, [], ◌∷◌, drop, Bool, true, false, Option}
use Rattle.reql_datum.specs.declared.point.Point.{Point}
use Rattle.reql_table_spec.specs.Machine.{State}
use Rattle.reql_table_spec.specs.Replies.{said_of}
use Rattle.reql_session_spec.specs.Requests.{Arm, Answer, Internal, put_point}
use Rattle.reql_session_spec.specs.Books.{Books, Open, closed, waits}
use Rattle.reql_session_spec.specs.Tasks.{Talk, Next, Visiting, Stops, at, done, only_tell, may_tell, close, took_said}
use Rattle.reql_session_spec.specs.Session.{Mach, goes_on}
use Rattle.reql_session_spec.specs.Worlds.{Does, at_desk}
use Rattle.reql_desk_moves.specs.Acting.{AtDesk, tells_something}
use Rattle.reql_desk_moves.specs.declared.taking.Visited.{Visited}
use Rattle.reql_desk_moves.specs.declared.taking.Visited.TheVariants as visited

-- the points that were seen one after another, by rising slot, the last of a slot
abbrev pub put_points : List Point → List Point → List Point
put_points ps [] = ps
put_points ps (q ∷ qs) = put_points (put_point q ps) qs

-- what is open on a token with these arms, after they were closed
abbrev pub after_closing : Books → ℕ → List Arm → Books
after_closing b token [] = b
after_closing b token (arm ∷ arms) = closed token b

module _ {PL : Type 0} (k : Talk PL) (some : State) where
  -- whatever else the session holds
  abbrev pub Steps : AtDesk → AtDesk → Next PL → Next PL → Type 0
  Steps p q x y = (m : Mach PL) (back : Option (List ℕ)) → Does k (at_desk some p (goes_on m back x)) (at_desk some q (goes_on m back y)) []

  -- a STOP's closing, of which the first Unsubscribe was answered or not
  abbrev pub StopsArms : AtDesk → AtDesk → Books → ℕ → List Arm → Option Answer → Bool → Type 0
  StopsArms p q b token arms a true = Steps p q (close b token arms Stops a) (may_tell (after_closing b token arms) token a)
  StopsArms p q b token arms a false = Steps p q (close b token arms Stops a) (only_tell b token Internal)

  -- a visit, from the first arm on
  abbrev pub VisitsArms : AtDesk → AtDesk → Books → Open → Visited → Type 0
  VisitsArms p q b f visited.Waits = Steps p q (at b (Visiting f.token f.arms [])) (done (waits f.token b))
  VisitsArms p q b f (visited.Took place reply points) = (arm : Arm) × (arms : List Arm) × (drop place f.arms ≡ arm ∷ arms) × (tells_something (said_of reply.said) ≡ true) × Steps p q (at b (Visiting f.token f.arms [])) (took_said k b f arm arms (put_points [] points) (said_of reply.said))
  VisitsArms p q b f visited.Denied = Steps p q (at b (Visiting f.token f.arms [])) (only_tell b f.token Internal)
