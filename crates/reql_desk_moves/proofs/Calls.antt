-- What single calls of a desk come to.
use Rattle.std.proofs.Common.{◌≡◌, ◌≢◌, ℕ, List, [], ◌∷◌, ◌++◌, length, append-nil, Bool, false, Option, Some, Result, Ok, Err, IfOk, IfErr, refl, sym, ap, subst, ◌∙◌}
use Rattle.reql_memory.specs.declared.memory.Memory.{Memory}
use Rattle.reql_memory.specs.declared.memory.Refused.{Refused}
use Rattle.reql_shared.specs.Machine.{Machine, replay}
use Rattle.reql_shared.specs.Acts.{Acts, Ran, Looked, Denied}
use Rattle.reql_shared.specs.declared.engine.Snap.{Snap}
use Rattle.reql_shared.specs.declared.recorded.Recorded.{Recorded}
use Rattle.reql_catalog.specs.Catalog.{Named}
use Rattle.reql_catalog.specs.Machine.{catalogue_machine}
use Rattle.reql_catalog.specs.declared.command.CatCmd.{CatCmd}
use Rattle.reql_catalog.specs.declared.command.CatReply.{CatReply}
use Rattle.reql_hall.specs.Rooms.{pass, Tells}
use Rattle.reql_table_machine_spec.specs.declared.command.Look.{Look}
use Rattle.reql_table_spec.specs.Engines.{TellsAll, FailsByFaults}
use Rattle.reql_table_spec.specs.Machine.{State, Seen, machine, after}
use Rattle.reql_table_spec.specs.Replies.{Answered, told_of}
use Rattle.reql_table_spec.specs.declared.command.Order.{Order}
use Rattle.reql_table_spec.specs.declared.reply.Reply.{Reply}
use Rattle.reql_table_spec.specs.declared.reply.Saved.{Saved}
use Rattle.reql_table_spec.specs.declared.reply.Saved.TheVariants as saved
use Rattle.reql_session_spec.specs.Session.{On}
use Rattle.reql_session_spec.specs.Explained.{IsHonest}
use Rattle.reql_desk_moves.specs.Acting.{AtDesk, ActsAt, Answers, Denies, RunsAt, Shows, LooksAt, NamesAct, ChangesNames, LooksAtNames}

-- an engine stays as sound as it was made
replay_sound : (s : State) (es : List (Recorded Order)) → (replay machine s es).sound ≡ s.sound
replay_sound s [] = refl
replay_sound s (e ∷ es) = replay_sound (after s e.by e.cmd) es

module _ {E : Type 0} (m : Machine State Order Answered Snap Seen) (same : m ≡ machine) (state : E → State) (tells : E → E → ℕ → Order → Option Reply → Type 0) (faults : E → ℕ) (fails : FailsByFaults tells state faults) (some : State) (p : AtDesk) (slot : ℕ) where
  honest_as : (order : Order) (r : Reply) (place : ℕ) (s : Saved) → r.saved ≡ s → Tells m state tells (pass some p slot) order r → IsHonest (λ t. (pass some p t).object.start.sound) (On slot (Ran place order (told_of r)) s)
  honest_as order r place saved.Failed e t =
      sym (replay_sound (pass some p slot).object.start t.0) ∙ ap (λ (z : State). z.sound) (sym (t.3 ∙ ap (λ n. replay n (pass some p slot).object.start t.0) same)) ∙ (fails t.1 t.2 (pass some p slot).number order r t.4 e).1
  honest_as order r place saved.Yes e t = tt
  honest_as order r place saved.Memory e t = tt

  pub ran_at : (told : Reply → Answered) → TellsAll told → (q : AtDesk) (order : Order) (result : Result Reply (Refused Order)) → q.names ≡ p.names → ((t : ℕ) → t ≢ slot → pass some q t ≡ pass some p t) →
      IfOk result (λ reply. (place : ℕ) × Acts m (pass some p slot) (pass some q slot) (Ran place order (told reply))) → IfOk result (λ reply. Tells m state tells (pass some p slot) order reply) →
      IfErr result (λ refused. (place : ℕ) × Acts m (pass some p slot) (pass some q slot) (Denied place)) → RunsAt some p q slot order result
  ran_at told all q order (Ok r) n o a t e = record {
    place = a.0;
    acts = record { names = n; slots = (subst (λ (z : Machine State Order Answered Snap Seen × Answered). Acts z.0 (pass some p slot) (pass some q slot) (Ran a.0 order z.1)) (λ i. (same i, all r i)) a.1, o) };
    honest = honest_as order r a.0 r.saved refl t;
  }
  ran_at told all q order (Err x) n o a t e = record {
    place = e.0;
    acts = record { names = n; slots = (subst (λ z. Acts z (pass some p slot) (pass some q slot) (Denied e.0)) same e.1, o) };
  }

module _ (m : Machine State Order Answered Snap Seen) (same : m ≡ machine) {V : Type 0} (heard : Look V → Seen) (some : State) where
  pub looked_at : (p q : AtDesk) (slot : ℕ) (result : Result (Look V) Memory) → q.names ≡ p.names → ((t : ℕ) → t ≢ slot → pass some q t ≡ pass some p t) →
      IfOk result (λ look. (place : ℕ) × Acts m (pass some p slot) (pass some q slot) (Looked place (record {}) (heard look))) →
      IfErr result (λ memory. (place : ℕ) × Acts m (pass some p slot) (pass some q slot) (Denied place)) → LooksAt heard some p q slot result
  looked_at p q slot (Ok look) n o a e = record { place = a.0; acts = record { names = n; slots = (subst (λ z. Acts z (pass some p slot) (pass some q slot) (Looked a.0 (record {}) (heard look))) same a.1, o) } }
  looked_at p q slot (Err x) n o a e = record { place = e.0; acts = record { names = n; slots = (subst (λ z. Acts z (pass some p slot) (pass some q slot) (Denied e.0)) same e.1, o) } }

module _ (some : State) where
  pub names_changed : (p q : AtDesk) (cmd : CatCmd) (result : Result CatReply (Refused CatCmd)) → ((t : ℕ) → pass some q t ≡ pass some p t) →
      IfOk result (λ reply. (place : ℕ) × Acts catalogue_machine p.names q.names (Ran place cmd reply)) → IfErr result (λ refused. (place : ℕ) × Acts catalogue_machine p.names q.names (Denied place)) → ChangesNames some p q cmd result
  names_changed p q cmd (Ok reply) o a e = (a.0, record { slots = o; names = a.1 })
  names_changed p q cmd (Err x) o a e = (e.0, record { slots = o; names = e.1 })

  -- a look at the names is made at the place that the desk has seen
  pub names_seen : (p q : AtDesk) (names : Named) (seen : ℕ) → ((t : ℕ) → pass some q t ≡ pass some p t) → (place : ℕ) × Acts catalogue_machine p.names q.names (Looked place (record {}) names) → seen ≡ length q.names.seen → NamesAct some p q (Looked seen (record {}) names)
  names_seen p q names seen o a e = record {
    slots = o;
    names = subst (λ n. Acts catalogue_machine p.names q.names (Looked n (record {}) names)) (a.1.place ∙ sym (ap length (a.1.seen ∙ append-nil (p.names.seen ++ a.1.others))) ∙ sym e) a.1;
  }
