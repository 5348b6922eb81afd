-- What a session still has to send of its feeds: of what their Takes gave, all that it has not sent is kept.
use Rattle.std.specs.Prelude.{◌≡◌, ℕ, true, List, [], ◌∷◌, ◌++◌, map, Some}
use Rattle.reql_datum.specs.Plain.{Plain}
use Rattle.reql_shared.specs.Acts.{Ran}
use Rattle.reql_table_machine_spec.specs.Fed.{takings}
use Rattle.reql_table_spec.specs.Laws.{known_act}
use Rattle.reql_session_spec.specs.Books.{Open, Books, has_token, feed_of}
use Rattle.reql_session_spec.specs.Tasks.{Talk, Task, Telling}
use Rattle.reql_session_spec.specs.Minding.{has_arm}
use Rattle.reql_session_spec.specs.Session.{Event, On, Doing, Busy, Leaving, Mach, fresh, Run, acts_on}
use Rattle.reql_session_spec.specs.Explained.{DeskShare, DeskSeen, Life, told_in, told_items, all_told, all_taken}
use Rattle.reql_session_spec.specs.Laws.{Opens}

module _ {PL : Type 0} where
  -- what is kept, where an answer is being told that after it
  abbrev pub task_keeps : Books → Task PL → Books
  task_keeps b (Telling token a kept lose after) = kept
  task_keeps b other = b

  abbrev pub keeps : Books → Doing PL → Books
  keeps b (Busy back task) = task_keeps b task
  keeps b other = b

  -- what the answer that is being told has of an arm, its changes and what tells that some were skipped
  abbrev pub task_tells : ℕ → ℕ → Task PL → List (ℕ × Plain)
  task_tells slot feed (Telling token a kept lose after) = told_in slot feed true a
  task_tells slot feed other = []

  abbrev pub telling : ℕ → ℕ → Doing PL → List (ℕ × Plain)
  telling slot feed (Busy back task) = task_tells slot feed task
  telling slot feed other = []

  -- a session that has not ended
  abbrev pub IsHere : Doing PL → Type 0
  IsHere (Leaving arms end) = ⊥
  IsHere other = Unit {0}

  -- with no task under way
  abbrev pub IsAtRest : Doing PL → Type 0
  IsAtRest (Busy back task) = ⊥
  IsAtRest (Leaving arms end) = ⊥
  IsAtRest other = Unit {0}

module _ {PL : Type 0} (k : Talk PL) where
  -- Of each feed that a request of an explained session opened, at every point of the session where a feed that is kept has it as an
  -- arm: what was sent of it, then what the answer that is being told has of it, and then what is left of it in the books, is just
  -- what its Takes gave up to there. So where no answer is being told and nothing is left, all that its Takes gave was sent; as where
  -- its CONTINUE begins to ask in vain. It rules out a session that takes of a feed and neither sends nor keeps what it was given.
  abbrev pub NothingKeptBack : Type 0
  NothingKeptBack = (seen : DeskSeen) (share : DeskShare) (life : Life) → ((slot : ℕ) → (share.slots slot).start.table.feeds ≡ [])
      → (slot feed stamp : ℕ) (after : List Event) (o : Opens k seen share life slot feed stamp after)
      → (es more : List Event) (m : Mach PL) → after ≡ es ++ more → Run k fresh (o.before ++ On slot (Ran o.place o.order o.reply) o.kept ∷ es) m
      → (f : Open) → IsHere m.doing → feed_of f.token (keeps m.books m.doing).feeds ≡ Some f → has_arm slot feed f.arms ≡ true
      → all_told slot feed true es ++ (telling slot feed m.doing ++ told_items slot feed true f.left) ≡ all_taken true (takings feed (map known_act (acts_on slot es)))

  -- So where its token waits, between tasks, all that its Takes gave was sent.
  abbrev pub AllIsSent : Type 0
  AllIsSent = (seen : DeskSeen) (share : DeskShare) (life : Life) → ((slot : ℕ) → (share.slots slot).start.table.feeds ≡ [])
      → (slot feed stamp : ℕ) (after : List Event) (o : Opens k seen share life slot feed stamp after)
      → (es more : List Event) (m : Mach PL) → after ≡ es ++ more → Run k fresh (o.before ++ On slot (Ran o.place o.order o.reply) o.kept ∷ es) m
      → (f : Open) → IsAtRest m.doing → feed_of f.token m.books.feeds ≡ Some f → has_arm slot feed f.arms ≡ true → has_token f.token m.books.waiting ≡ true
      → all_told slot feed true es ≡ all_taken true (takings feed (map known_act (acts_on slot es)))
