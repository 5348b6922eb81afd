-- What a session is at within a turn, and how each move goes on from there.
use Rattle.std.specs.Prelude.{◌≡◌, ℕ, ◌-◌, nat_eq, nat_lt, nat_le, List, [], ◌∷◌, ◌++◌, length, map, filter, take, drop, Bool, true, false, not, ◌||◌, cond, Option, Some, None}
use Rattle.reql_datum.specs.Plain.{Plain}
use Rattle.reql_datum.specs.declared.point.Point.{Point}
use Rattle.reql_answer.specs.Body.{Stamped}
use Rattle.reql_answer.specs.declared.error.ErrorType.TheVariants as errors
use Rattle.reql_feed_spec.specs.Shown.{skip_item}
use Rattle.reql_table_machine_spec.specs.declared.command.Said.{Said}
use Rattle.reql_table_machine_spec.specs.declared.command.Said.TheVariants as said
use Rattle.reql_table_spec.specs.Replies.{Answered as Told}
use Rattle.reql_table_spec.specs.declared.command.Cmd.{Cmd}
use Rattle.reql_table_spec.specs.declared.command.Cmd.TheVariants as cmds
use Rattle.reql_table_spec.specs.declared.command.Order.{Order}
use Rattle.reql_table_spec.specs.declared.limits.Limits.{Limits}
use Rattle.reql_table_spec.specs.declared.reply.Saved.{Saved}
use Rattle.reql_write_spec.specs.declared.command.Summary.{Summary}
use Rattle.reql_session_spec.specs.Requests.{Asked, Unreadable, Unplanned, Start, Continue, Stop, NoreplyWait, ServerInfo, Arm, Skip, Change, Shown, Answered, Unsent, One, Stream, Feed, Fault, Wanting, Move, RunSlot, Found, RanSlot, Answer, Client, Compile, Failed, Internal, Atom, Last, Part, Batch, Waited, Info, point, put_point, points_from, stamped}
use Rattle.reql_session_spec.specs.Books.{Cursor, Open, Books, has_token, without, cursor_of, feed_of, is_open, opened, closed, with_rest, with_left, with_cursor, with_feed, waits}
use Rattle.reql_session_spec.specs.Bodies.{body, in_use, not_open, at_wait, too_long, full}

-- what a client must know: the key that a greeting by a key must bring, and the password of a login
pub record Keys : Type 0 where
  pub key : List ℕ
  pub password : List ℕ

-- What a session is told, over plans PL: the key that its greeting must bring, and the password of a login; its limits; what a body
-- asks for; a plan's next move, with noreply, the number of open cursors and feeds, and what was found so far; and the batch that it
-- asks for.
pub record Talk (PL : Type 0) : Type 0 where
  pub key : List ℕ
  pub password : List ℕ
  pub limits : Limits
  pub asked : List ℕ → Asked PL
  pub next : PL → Bool → ℕ → List Found → Move
  pub batch : PL → ℕ

-- commands of the session's own read nothing
abbrev pub take_order : ℕ → ℕ → Order
take_order feed max = record { points = []; cmd = cmds.Take feed max }

abbrev pub close_order : ℕ → Order
close_order feed = record { points = []; cmd = cmds.Unsubscribe feed }

-- Whose closing it is: a STOP's, whose feed stays open where the first Unsubscribe is refused for memory; that of the other
-- arms after a drop; or one that is settled.
pub data Firm : Type 0 where
  Stops : Firm
  Drops : Firm
  Settled : Firm

-- What a session is at, for a token. Planning: a plan, noreply, how many were open, what it found, and the arms that it
-- opened. Visiting: the arms of a feed that are still to be taken from, and the points of the others. Telling: an answer,
-- what is kept after it, the arms that are closed where memory is wanted before it was sent, if its feed is lost with it, and
-- those that a STOP closes after it. Closing: the arms that are still to be closed, and the answer after that.
pub data Task (PL : Type 0) : Type 0 where
  Planning : ℕ → PL → Bool → ℕ → List Found → List Arm → Task PL
  Visiting : ℕ → List Arm → List Point → Task PL
  Telling : ℕ → Answer → Books → Option (List Arm) → Option (List Arm) → Task PL
  Closing : ℕ → List Arm → Firm → Option Answer → Task PL

-- what is kept, and what the session is at next, if anything
pub record Next (PL : Type 0) : Type 0 where
  pub books : Books
  pub task : Option (Task PL)

abbrev pub internal_for : Option Answer → Option Answer
internal_for None = None
internal_for (Some a) = Some Internal

-- the other arms
abbrev pub others : Arm → List Arm → List Arm
others arm arms = filter (λ a. not (nat_eq a.slot arm.slot) || not (nat_eq a.feed arm.feed)) arms

abbrev pub arms_said : ℕ → Said Summary Plain → List Arm → List Arm
arms_said slot (said.Opened feed opening) arms = arms ++ record { slot = slot; feed = feed; dropped = [] } ∷ []
arms_said slot other arms = arms

-- the arms that a plan has opened, after one more command
abbrev pub arms_after : ℕ → Cmd → Said Summary Plain → List Arm → List Arm
arms_after slot (cmds.Unsubscribe feed) s arms = others (record { slot = slot; feed = feed; dropped = [] }) arms
arms_after slot other s arms = arms_said slot s arms

-- and those that it gives up where a command of it is refused for memory
abbrev pub arms_denied : ℕ → Cmd → List Arm → List Arm
arms_denied slot (cmds.Unsubscribe feed) arms = others (record { slot = slot; feed = feed; dropped = [] }) arms
arms_denied slot other arms = arms

-- the points that an answer names
abbrev pub seen_in : Answer → Option Stamped
seen_in (Failed error text s) = s
seen_in (Atom v s) = Some s
seen_in (Last vs s) = s
seen_in (Part vs s) = s
seen_in (Batch notes xs s) = s
seen_in other = None

-- the items of a Batch, printed
abbrev pub skipped_item : ℕ → Arm → ℕ → ℕ → List Shown
skipped_item at arm skipped last = cond (nat_eq skipped 0) [] (record { at = at; arm = arm; sort = Skip; stamp = last; item = skip_item skipped } ∷ [])

abbrev pub change_items : ℕ → Arm → List (ℕ × Plain) → List Shown
change_items at arm items = map (λ p. record { at = at; arm = arm; sort = Change; stamp = p.0; item = p.1 }) items

abbrev pub is_empty : List Shown → Bool
is_empty [] = true
is_empty (x ∷ xs) = false

abbrev pub lesser : ℕ → ℕ → ℕ
lesser m n = cond (nat_lt m n) m n

module _ {PL : Type 0} where
  abbrev pub done : Books → Next PL
  done b = record { books = b; task = None }

  abbrev pub at : Books → Task PL → Next PL
  at b t = record { books = b; task = Some t }

  -- an answer that leaves all as it is
  abbrev pub only_tell : Books → ℕ → Answer → Next PL
  only_tell b token a = at b (Telling token a b None None)

  abbrev pub may_tell : Books → ℕ → Option Answer → Next PL
  may_tell b token None = done b
  may_tell b token (Some a) = only_tell b token a

  -- one Unsubscribe on each arm, and then an answer, where one is wanted
  abbrev pub close : Books → ℕ → List Arm → Firm → Option Answer → Next PL
  close b token [] firm a = may_tell b token a
  close b token (arm ∷ arms) firm a = at b (Closing token (arm ∷ arms) firm a)

  -- where memory is wanted
  abbrev pub wanted : Books → Task PL → Next PL
  wanted b (Planning token plan noreply count found arms) = close b token arms Settled (cond noreply None (Some Internal))
  wanted b (Visiting token arms points) = only_tell b token Internal
  wanted b (Telling token a kept None after) = only_tell b token Internal
  wanted b (Telling token a kept (Some arms) after) = close (closed token b) token arms Settled (Some Internal)
  wanted b (Closing token arms Settled a) = close b token arms Settled (internal_for a)
  wanted b (Closing token arms firm a) = only_tell b token Internal

  -- where a command on a slot is refused for memory; an arm whose Unsubscribe is refused stays in its table
  abbrev pub denied : Books → Task PL → ℕ → Cmd → Next PL
  denied b (Planning token plan noreply count found arms) slot cmd = wanted b (Planning token plan noreply count found (arms_denied slot cmd arms))
  denied b (Closing token (arm ∷ arms) Stops a) slot cmd = only_tell b token Internal
  denied b (Closing token (arm ∷ arms) firm a) slot cmd = close (closed token b) token arms Settled a
  denied b t slot cmd = wanted b t

  -- after an answer was sent
  abbrev pub told : ℕ → Books → Option (List Arm) → Next PL
  told token kept None = done kept
  told token kept (Some arms) = close kept token arms Stops (Some (Last [] None))

  -- a STOP: a CONTINUE that waits is answered first
  abbrev pub stop_feed : Books → ℕ → Option Open → Next PL
  stop_feed b token None = only_tell b token (Last [] None)
  stop_feed b token (Some f) = cond (has_token token b.waiting)
      (at b (Telling token (Last [] None) (record b { waiting = without token b.waiting }) None (Some f.arms)))
      (close b token f.arms Stops (Some (Last [] None)))

  abbrev pub stop : Books → ℕ → Option Cursor → Next PL
  stop b token (Some c) = at b (Telling token (Last [] None) (closed token b) None None)
  stop b token None = stop_feed b token (feed_of token b.feeds)

module _ {PL : Type 0} (k : Talk PL) where
  -- a body that would be longer than an answer's may be
  abbrev pub is_long : Answer → Bool
  is_long a = nat_lt k.limits.answer (length (body a))

  -- the fault that such an answer gives way to, with the same points
  abbrev pub cut_to : Answer → Answer
  cut_to a = Failed errors.ResourceLimit (too_long k.limits.answer) (seen_in a)

  abbrev pub fitted : Answer → Answer
  fitted a = cond (is_long a) (cut_to a) a

  -- what is open on its token is closed then
  abbrev pub cut : Books → ℕ → Answer → List Arm → Next PL
  cut b token a arms = close (closed token b) token arms Settled (Some (cut_to a))

  -- Tells an answer: what is kept after it, the arms of the feed that it is of, and those that are closed where memory is wanted.
  abbrev pub tell : Books → ℕ → Answer → Books → List Arm → Option (List Arm) → Next PL
  tell b token a kept arms lose = cond (is_long a) (cut b token a arms) (at b (Telling token a kept lose None))

  -- An answer that is of no plan, cursor or feed, as a refusal is: what is open on its token stays open, also where a fault takes
  -- its place.
  abbrev pub tell_now : Books → ℕ → Answer → Next PL
  tell_now b token a = only_tell b token (fitted a)

  -- an answer of a plan, after the arms that it left open were closed
  abbrev pub settle : Books → ℕ → List Arm → Answer → Next PL
  settle b token arms a = close b token arms Settled (Some (fitted a))

  -- the size of a plan's batches
  abbrev pub batch_size : PL → ℕ
  batch_size plan = lesser (k.batch plan) k.limits.batch

  -- What a request comes to. A feed is kept with all that its plan opened. What a plan opened for another end is closed, but for a
  -- stream that is longer than a batch: a plan that ends with a stream has nothing open (`bare` of `PlansMind`).
  abbrev pub comes_to : Books → ℕ → ℕ → List Found → List Arm → Answered → Next PL
  comes_to b token batch found opened Unsent = close b token opened Settled None
  comes_to b token batch found opened (One v) = settle b token opened (Atom v (stamped b.names (points_from [] found)))
  comes_to b token batch found opened (Stream vs) = cond (nat_le (length vs) batch)
      (settle b token opened (Last vs (Some (stamped b.names (points_from [] found)))))
      (tell b token (Part (take batch vs) (Some (stamped b.names (points_from [] found)))) (with_cursor (record { token = token; rest = drop batch vs; batch = batch }) b) opened None)
  comes_to b token batch found opened (Feed arms notes items) =
      tell b token (Batch notes (take batch items) (Some (stamped b.names (points_from [] found)))) (with_feed (record { token = token; arms = arms; left = drop batch items; batch = batch; notes = notes }) b) arms (Some arms)
  comes_to b token batch found opened (Fault error text) = settle b token opened (Failed error text (Some (stamped b.names (points_from [] found))))
  comes_to b token batch found opened Wanting = close b token opened Settled (Some Internal)

  -- a CONTINUE
  abbrev pub continue_cursor : Books → Cursor → Next PL
  continue_cursor b c = cond (nat_le (length c.rest) c.batch) (tell b c.token (Last c.rest None) (closed c.token b) [] None)
      (tell b c.token (Part (take c.batch c.rest) None) (with_rest c.token (drop c.batch c.rest) b) [] None)

  abbrev pub continue_left : Books → Open → List Shown → Next PL
  continue_left b f [] = at b (Visiting f.token f.arms [])
  continue_left b f (x ∷ xs) = tell b f.token (Batch f.notes (take f.batch (x ∷ xs)) None) (with_left f.token (drop f.batch (x ∷ xs)) b) f.arms None

  abbrev pub continue_feed : Books → ℕ → Option Open → Next PL
  continue_feed b token None = tell_now b token (Client (not_open token))
  continue_feed b token (Some f) = cond (has_token token b.waiting) (tell_now b token (Client (at_wait token))) (continue_left b f f.left)

  abbrev pub continue_on : Books → ℕ → Option Cursor → Next PL
  continue_on b token (Some c) = continue_cursor b c
  continue_on b token None = continue_feed b token (feed_of token b.feeds)

  -- a waiting CONTINUE is visited
  abbrev pub visit_feed : Books → ℕ → Option Open → Next PL
  visit_feed b token None = done b
  visit_feed b token (Some f) = continue_left b f f.left

  abbrev pub visit : Books → ℕ → Next PL
  visit b token = visit_feed b token (feed_of token b.feeds)

  -- a refusal, where an answer is wanted
  abbrev pub refuse : Books → ℕ → Bool → Answer → Next PL
  refuse b token noreply a = cond noreply (done b) (tell_now b token a)

  abbrev pub begin : Books → ℕ → Asked PL → Next PL
  begin b token (Unreadable noreply text) = refuse b token noreply (Client text)
  begin b token (Unplanned noreply text) = cond (is_open token b) (refuse b token noreply (Client (in_use token))) (refuse b token noreply (Compile text))
  begin b token (Start noreply plan) = cond (is_open token b) (refuse b token noreply (Client (in_use token))) (at b (Planning token plan noreply (opened b) [] []))
  begin b token Continue = continue_on b token (cursor_of token b.cursors)
  begin b token Stop = stop b token (cursor_of token b.cursors)
  begin b token NoreplyWait = tell_now b token Waited
  begin b token ServerInfo = tell_now b token Info

  -- a frame is begun with: its body is read, or memory is wanted while it is, when it is not known whether an answer is wanted
  abbrev pub takes_up : Books → ℕ → List ℕ → Bool → Next PL
  takes_up b token body true = begin b token (k.asked body)
  takes_up b token body false = only_tell b token Internal

  -- a Take's answer, of an arm with a number; further arms may be left
  abbrev pub next_arm : Books → ℕ → List Arm → List Point → Next PL
  next_arm b token [] points = done (waits token b)
  next_arm b token (arm ∷ arms) points = at b (Visiting token (arm ∷ arms) points)

  abbrev pub batch_of : Books → Open → ℕ → Arm → List Point → ℕ → ℕ → List (ℕ × Plain) → Next PL
  batch_of b f at arm points skipped last items =
      let skip : List Shown = skipped_item at arm skipped last in
      let changes : List Shown = change_items at arm items in
      cond (is_empty (skip ++ changes)) (done (waits f.token b))
      (tell b f.token (Batch f.notes (skip ++ take f.batch changes) (Some (stamped b.names points))) (with_left f.token (drop f.batch changes) b) f.arms (Some f.arms))

  -- the table of an arm was dropped: a feed without other arms stays open until the fault was sent
  abbrev pub gone : Books → Open → Arm → List Point → List Arm → Next PL
  gone b f arm points [] = at b (Telling f.token (fitted (Failed errors.OpFailed arm.dropped (Some (stamped b.names points)))) (closed f.token b) None None)
  gone b f arm points (other ∷ others) = close b f.token (other ∷ others) Drops (Some (fitted (Failed errors.OpFailed arm.dropped (Some (stamped b.names points)))))

  abbrev pub took_said : Books → Open → Arm → List Arm → List Point → Said Summary Plain → Next PL
  took_said b f arm arms points (said.Batch skipped last items) = batch_of b f (length f.arms - length (arm ∷ arms)) arm points skipped last items
  took_said b f arm arms points said.Gone = gone b f arm points (others arm f.arms)
  took_said b f arm arms points (said.HistoryFull count) = close (closed f.token b) f.token f.arms Settled (Some (fitted (Failed errors.ResourceLimit full None)))
  took_said b f arm arms points other = next_arm b f.token arms points

  abbrev pub took : Books → ℕ → Arm → List Arm → List Point → Told → Option Open → Next PL
  took b token arm arms points r None = done b
  took b token arm arms points r (Some f) = took_said b f arm arms (put_point (point arm.slot r.place r.stamp) points) r.said

  -- after a command that a task ran on a slot
  abbrev pub ran : Books → Task PL → ℕ → Cmd → Told → Saved → Next PL
  ran b (Planning token plan noreply count found arms) slot cmd r saved = at b (Planning token plan noreply count (found ++ RanSlot slot r saved ∷ []) (arms_after slot cmd r.said arms))
  ran b (Visiting token (arm ∷ arms) points) slot cmd r saved = took b token arm arms points r (feed_of token b.feeds)
  ran b (Closing token (arm ∷ arms) firm a) slot cmd r saved = close (closed token b) token arms Settled a
  ran b t slot cmd r saved = at b t

  -- what a plan found, other than by a command on a slot
  abbrev pub found_more : Books → Task PL → Found → Next PL
  found_more b (Planning token plan noreply count found arms) x = at b (Planning token plan noreply count (found ++ x ∷ []) arms)
  found_more b t x = at b t

  -- the command that a task runs next, on which slot
  abbrev pub Runs : Books → Task PL → ℕ → Order → Type 0
  Runs b (Planning token plan noreply count found arms) slot order = k.next plan noreply count found ≡ RunSlot slot order
  Runs b (Visiting token (arm ∷ arms) points) slot order = (f : Open) × (feed_of token b.feeds ≡ Some f) × (slot ≡ arm.slot) × (order ≡ take_order arm.feed f.batch)
  Runs b (Closing token (arm ∷ arms) firm a) slot order = (slot ≡ arm.slot) × (order ≡ close_order arm.feed)
  Runs b t slot order = ⊥

  -- what else a plan asks for next
  abbrev pub Asks : Task PL → Move → Type 0
  Asks (Planning token plan noreply count found arms) move = k.next plan noreply count found ≡ move
  Asks t move = ⊥
