-- What the laws of explained sessions say of one session.
use Rattle.std.specs.Prelude.{◌≡◌, ◌≤◌, ◌<◌, ◌+◌, ◌⊎◌, ℕ, true, List, [], ◌++◌, length, map}
use Rattle.reql_outside.specs.Tape.{Tape}
use Rattle.reql_wire.specs.declared.frame.Frame.{Frame}
use Rattle.reql_table_machine_spec.specs.Fed.{upto, Whole, takings}
use Rattle.reql_table_machine_spec.specs.Feeding.{fold, bare}
use Rattle.reql_table_spec.specs.Laws.{docs_at, known_act}
use Rattle.reql_table_spec.specs.Table.{feeding}
use Rattle.reql_session_spec.specs.Explained.{DeskShare, DeskSeen, Life, Explained, sent_of}
use Rattle.reql_session_spec.specs.Laws.{Handled, LeftAs, IsValid, Opens}
use Rattle.reql_session_spec.specs.Session.{Event, acts_on, begun, fresh}
use Rattle.reql_session_spec.specs.Tasks.{Talk}
use Rattle.reql_session_spec.specs.declared.end.End.TheVariants as ends

module _ {PL : Type 0} (k : Talk PL) {share : DeskShare} {life : Life} (e : Explained k share life) where
  -- Nothing that was given is missing: it is a greeting, the frames that were handled, in order, and what is held; and that is
  -- what its end leaves.
  abbrev pub IsComplete : Type 0
  IsComplete = Handled k fresh e.final e.events × LeftAs k life.end e.final.greeted e.final.held

  -- All its turns were used up only where more came, or was idle, than so many turns may take.
  abbrev pub IsLate : Type 0
  IsLate = life.end ≡ ends.Worn → k.limits.turns < ((length life.given + length life.given) + life.idles) + 2

  -- What was given, with more to come only where the input wasn't over, is a valid input: nothing, or a greeting that is accepted
  -- or a whole login, and then frames within the limit alone. Then, where no call of the link failed, and twice what was given with the idle receives
  -- and two more is at most the limit of turns, every frame was handled, in order, and the session closed, as its input was over,
  -- unless memory was wanted.
  abbrev pub ClosesWhole : Tape → Type 0
  ClosesWhole tape = (more : List ℕ) (frames : List Frame) → IsValid k life.rolls (life.given ++ more) frames → (tape.over ≡ true → more ≡ [])
      → tape.faults_in ≡ 0 → tape.faults_out ≡ 0 → ((length life.given + length life.given) + tape.idles) + 2 ≤ k.limits.turns
      → ((life.end ≡ ends.Closed) × (begun e.events ≡ frames) × (tape.over ≡ true)) ⊎ (life.end ≡ ends.Memory)

  -- Each feed that the session opened: the changes that were sent of it, folded over its value at the opening, give its value
  -- at every change up to which its answers are whole.
  abbrev pub AreFed : Type 0
  AreFed = (seen : DeskSeen) (slot feed stamp : ℕ) (after : List Event) (o : Opens k seen share life slot feed stamp after)
      → (n : ℕ) → stamp ≤ n → Whole ((feeding (share.slots slot).start.most).squashes o.held) n (takings feed (map known_act (acts_on slot after))) (sent_of slot feed after)
      → fold (feeding (share.slots slot).start.most) o.held ((feeding (share.slots slot).start.most).value o.held (docs_at (share.slots slot).start (seen.slots slot) stamp))
      (bare (feeding (share.slots slot).start.most) (upto n (sent_of slot feed after)))
      ≡ (feeding (share.slots slot).start.most).value o.held (docs_at (share.slots slot).start (seen.slots slot) n)
