-- Feeds that are opened one after another.
use Rattle.std.proofs.Common.{◌≡◌, ℕ, ◌+◌, List, [], ◌∷◌, ◌++◌, drop, Result, sym, subst}
use Rattle.reql_term.specs.Views.{Document, Entry}
use Rattle.reql_rules.specs.Lists.{Bytes}
use Rattle.reql_table_spec.specs.Indexes.{Indexes}
use Rattle.reql_table_spec.specs.Replies.{Answered, told_of}
use Rattle.reql_table_spec.specs.declared.command.Cmd.TheVariants as cmds
use Rattle.reql_table_spec.specs.declared.reply.Reply.{Reply}
use Rattle.reql_table_spec.specs.declared.reply.Saved.{Saved}
use Rattle.reql_table_spec.specs.declared.reply.Saved.TheVariants as saved
use Rattle.reql_plan_spec.specs.declared.parts.Opening.{Opening}
use Rattle.reql_plan_spec.specs.Course.{Open, open_heard, opened_if, opened_by, order_of, subscribed}
use Rattle.reql_plan_spec.specs.Feeding as feeds
use Rattle.reql_plan_spec.specs.Held.{Held}
use Rattle.reql_plan_spec.specs.Move.{run}
use Rattle.reql_plan_spec.specs.Request.{Request, ends, asks}
use Rattle.reql_plan_steps.specs.Heard.{heard}
use Rattle.reql_plan_steps.specs.declared.moves.Found.{Found}
use Rattle.reql_plan_steps.specs.declared.moves.Found.TheVariants as found
use Rattle.reql_plan_state.specs.Rest.{feeds_rest, feed_answer}
use Rattle.reql_plan_state.specs.Turn.{Turns}
use Rattle.reql_plan_state.specs.declared.stage.Turn.{Turn}

module _ {V E : Type 0} (documents : V → List Document) (indexes : V → Indexes) (entries : V → Bytes → List Entry) where
  -- the next one, by a copy of what was asked for
  pub next_feed : (r : Result (Turn V) E) (e : Held) (f : feeds.Feeding) (before : List Open) (place : ℕ) (o copy : Opening) → drop place f.openings ≡ o ∷ drop (place + 1) f.openings → copy ≡ o
      → Turns documents indexes entries r (asks (run copy.slot (order_of e (cmds.Subscribe copy.spec))) (λ h. open_heard e before copy h (λ x. feeds_rest e f (before ++ x ∷ []) (place + 1))))
      → Turns documents indexes entries r (feeds_rest e f before place)
  next_feed r e f before place o copy at same goes = subst (λ (os : List Opening). Turns documents indexes entries r (subscribed e before os (λ xs. ends (feed_answer e f xs)))) (sym at)
      (subst (λ (p : Opening). Turns documents indexes entries r (asks (run p.slot (order_of e (cmds.Subscribe p.spec))) (λ h. open_heard e before p h (λ x. feeds_rest e f (before ++ x ∷ []) (place + 1))))) same goes)

  -- a reply that was saved
  pub if_saved : (r : Result (Turn V) E) (e : Held) (before : List Open) (o : Opening) (x : Answered) (s : Saved) (on : Open → Request) → s ≡ saved.Yes
      → Turns documents indexes entries r (opened_by e before o x.stamp x.said on) → Turns documents indexes entries r (opened_if e before o x s on)
  if_saved r e before o x s on is goes = subst (λ (k : Saved). Turns documents indexes entries r (opened_if e before o x k on)) (sym is) goes

  -- what was heard is a reply
  pub by_reply : (r : Result (Turn V) E) (e : Held) (before : List Open) (o : Opening) (x : Found V) (y : Reply) (on : Open → Request) → x ≡ found.Ran y
      → Turns documents indexes entries r (opened_if e before o (told_of y) y.saved on) → Turns documents indexes entries r (open_heard e before o (heard documents indexes x) on)
  by_reply r e before o x y on is goes = subst (λ (z : Found V). Turns documents indexes entries r (open_heard e before o (heard documents indexes z) on)) (sym is) goes
