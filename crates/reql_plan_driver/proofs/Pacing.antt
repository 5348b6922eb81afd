-- Moves of a course, one after another.
use Rattle.std.proofs.Common.{◌≡◌, inl, inr, ℕ, ℤ, Bool, List, [], ◌∷◌, ◌++◌, Option, refl, ap}
use Rattle.reql_datum.specs.Plain.{Plain}
use Rattle.reql_datum.specs.declared.point.Point.{Point}
use Rattle.reql_outside.specs.Source.{Source, Gives}
use Rattle.reql_shared.specs.Acts.{Ran, Looked, Denied}
use Rattle.reql_catalog.specs.Catalog.{Named}
use Rattle.reql_catalog.specs.declared.command.CatCmd.{CatCmd}
use Rattle.reql_catalog.specs.declared.command.CatReply.{CatReply}
use Rattle.reql_table_machine_spec.specs.declared.command.Said.{Said}
use Rattle.reql_table_machine_spec.specs.declared.command.Said.TheVariants as said
use Rattle.reql_write_spec.specs.declared.command.Summary.{Summary}
use Rattle.reql_table_spec.specs.Machine.{State, Seen}
use Rattle.reql_table_spec.specs.Replies.{Answered}
use Rattle.reql_table_spec.specs.declared.command.Cmd.{Cmd}
use Rattle.reql_table_spec.specs.declared.command.Cmd.TheVariants as cmds
use Rattle.reql_table_spec.specs.declared.command.Order.{Order}
use Rattle.reql_table_spec.specs.declared.reply.Saved.{Saved}
use Rattle.reql_table_spec.specs.declared.reply.Saved.TheVariants as saved
use Rattle.reql_session_spec.specs.Requests.{Arm, LookNames, TellTime, LookSlot, RunSlot, ChangeNames, Roll, Found, SawNames, Clocked, SawSlot, RanSlot, ChangedNames, Rolled, point_of, points_from}
use Rattle.reql_session_spec.specs.Books.{Books, saw_names}
use Rattle.reql_session_spec.specs.Tasks.{Talk, Next, Planning, at, wanted, arms_said, arms_after, arms_denied}
use Rattle.reql_session_spec.specs.Session.{goes_on}
use Rattle.reql_session_spec.specs.Worlds.{at_desk}
use Rattle.reql_session_spec.proofs.Going.{goes_said}
use Rattle.reql_session_spec.proofs.Steps.{same_moves, does_act, does_names, goes_clocked, goes_rolled}
use Rattle.reql_session_api.specs.World.{world_of}
use Rattle.reql_session_api.proofs.Running.{gave_nothing, gave_one, runs_on}
use Rattle.reql_desk_moves.specs.Acting.{AtDesk, Answers, Denies, Shows, NamesAct}
use Rattle.reql_desk_moves.specs.Steps.{Steps}
use Rattle.reql_desk_moves.proofs.Stepping.{steps_ran, steps_denied}
use Rattle.reql_plan_driver.specs.Meeting.{closed_by, opened_by, without_closed, with_opened, noted}
use Rattle.reql_plan_driver.specs.Walking.{Tools, tools, at_work, Walks}

-- the points of what was found
pub points_more : (ps : List Point) (fs : List Found) (f : Found) → points_from ps (fs ++ f ∷ []) ≡ point_of f (points_from ps fs)
points_more ps [] f = refl
points_more ps (x ∷ fs) f = points_more (point_of x ps) fs f

-- the feeds that are open after a command
opened_after : (slot : ℕ) (s : Said Summary Plain) (arms : List Arm) → arms_said slot s arms ≡ with_opened slot (opened_by s) arms
opened_after slot (said.Opened feed opening) arms = refl
opened_after slot other arms = refl

pub noted_after : (slot : ℕ) (cmd : Cmd) (s : Said Summary Plain) (arms : List Arm) → arms_after slot cmd s arms ≡ noted slot (closed_by cmd) (opened_by s) arms
noted_after slot (cmds.Unsubscribe feed) s arms = refl
noted_after slot other s arms = opened_after slot s arms

denied_after : (slot : ℕ) (cmd : Cmd) (arms : List Arm) → arms_denied slot cmd arms ≡ without_closed slot (closed_by cmd) arms
denied_after slot (cmds.Unsubscribe feed) arms = refl
denied_after slot other arms = refl

module _ {PL : Type 0} (k : Talk PL) (some : State) where
  pub walks_steps : (p q : AtDesk) (c : Source ℤ) (d : Source (List ℕ)) (x y : Next PL) → Steps k some p q x y → Walks k some (tools p c d) (tools q c d) x y
  walks_steps p q c d x y s t m back = record {
    moments = [];
    rolls = [];
    goes = goes_said k t t (at_desk some p (goes_on m back x)) (at_desk some q (goes_on m back y)) [] (s m back) (same_moves t);
    clock = gave_nothing c;
    dice = gave_nothing d;
  }

  pub walks_on : (w v u : Tools) (x y z : Next PL) → Walks k some w v x y → Walks k some v u y z → Walks k some w u x z
  walks_on w v u x y z f g t m back = runs_on k (world_of t (at_work some w) (goes_on m back x)) (world_of t (at_work some v) (goes_on m back y)) (world_of t (at_work some u) (goes_on m back z)) 0 0 (f t m back) (g t m back)

  module _ (p q : AtDesk) (b : Books) (token : ℕ) (plan : PL) (noreply : Bool) (count : ℕ) (found : List Found) (arms : List Arm) where
    abbrev here : Next PL
    here = at b (Planning token plan noreply count found arms)

    abbrev there : Books → Found → Next PL
    there a x = at a (Planning token plan noreply count (found ++ x ∷ []) arms)

    pub steps_names : (place : ℕ) (names : Named) → k.next plan noreply count found ≡ LookNames → NamesAct some p q (Looked place (record {}) names) → Steps k some p q here (there (saw_names place b) (SawNames place names))
    steps_names place names h n m back = does_names k (at_desk some p (goes_on m back here)) (at_desk some q (goes_on m back (there (saw_names place b) (SawNames place names)))) (Looked place (record {}) names) n.names (λ i t. n.slots t i)
        (λ out. record { back = back; task = Planning token plan noreply count found arms; doing = refl; asks = h; goes = refl })

    pub steps_changed : (place : ℕ) (cmd : CatCmd) (reply : CatReply) → k.next plan noreply count found ≡ ChangeNames cmd → NamesAct some p q (Ran place cmd reply) → Steps k some p q here (there (saw_names reply.place b) (ChangedNames reply.place reply))
    steps_changed place cmd reply h n m back = does_names k (at_desk some p (goes_on m back here)) (at_desk some q (goes_on m back (there (saw_names reply.place b) (ChangedNames reply.place reply)))) (Ran place cmd reply) n.names (λ i t. n.slots t i)
        (λ out. record { back = back; task = Planning token plan noreply count found arms; doing = refl; asks = h; goes = refl })

    pub steps_names_denied : (place : ℕ) → k.next plan noreply count found ≡ LookNames → NamesAct some p q (Denied place) → Steps k some p q here (wanted b (Planning token plan noreply count found arms))
    steps_names_denied place h n m back = does_names k (at_desk some p (goes_on m back here)) (at_desk some q (goes_on m back (wanted b (Planning token plan noreply count found arms)))) (Denied place) n.names (λ i t. n.slots t i)
        (λ out. inl (record { back = back; task = Planning token plan noreply count found arms; doing = refl; asks = h; goes = refl }))

    pub steps_change_denied : (place : ℕ) (cmd : CatCmd) → k.next plan noreply count found ≡ ChangeNames cmd → NamesAct some p q (Denied place) → Steps k some p q here (wanted b (Planning token plan noreply count found arms))
    steps_change_denied place cmd h n m back = does_names k (at_desk some p (goes_on m back here)) (at_desk some q (goes_on m back (wanted b (Planning token plan noreply count found arms)))) (Denied place) n.names (λ i t. n.slots t i)
        (λ out. inr (cmd, record { back = back; task = Planning token plan noreply count found arms; doing = refl; asks = h; goes = refl }))

    pub steps_slot : (slot : ℕ) (look : Seen) → k.next plan noreply count found ≡ LookSlot slot → Shows some p q slot look → Steps k some p q here (there b (SawSlot slot look))
    steps_slot slot look h s m back = does_act k (at_desk some p (goes_on m back here)) (at_desk some q (goes_on m back (there b (SawSlot slot look)))) slot (Looked s.place (record {}) look) saved.Yes s.acts.slots s.acts.names tt
        (λ out. record { back = back; task = Planning token plan noreply count found arms; doing = refl; asks = h; goes = refl })

    pub steps_slot_denied : (slot : ℕ) → k.next plan noreply count found ≡ LookSlot slot → Denies some p q slot → Steps k some p q here (wanted b (Planning token plan noreply count found arms))
    steps_slot_denied slot h s m back = does_act k (at_desk some p (goes_on m back here)) (at_desk some q (goes_on m back (wanted b (Planning token plan noreply count found arms)))) slot (Denied s.place) saved.Yes s.acts.slots s.acts.names tt
        (λ out. inr (inl (record { back = back; task = Planning token plan noreply count found arms; doing = refl; asks = h; goes = refl })))

    pub steps_run : (slot : ℕ) (order : Order) (reply : Answered) (kept : Saved) → k.next plan noreply count found ≡ RunSlot slot order → Answers some p q slot order reply kept →
        Steps k some p q here (at b (Planning token plan noreply count (found ++ RanSlot slot reply kept ∷ []) (noted slot (closed_by order.cmd) (opened_by reply.said) arms)))
    steps_run slot order reply kept h a = steps_ran k some p q b (Planning token plan noreply count found arms) (at b (Planning token plan noreply count (found ++ RanSlot slot reply kept ∷ []) (noted slot (closed_by order.cmd) (opened_by reply.said) arms))) slot order reply kept h
        (ap (λ z. at b (Planning token plan noreply count (found ++ RanSlot slot reply kept ∷ []) z)) (noted_after slot order.cmd reply.said arms)) a

    pub steps_run_denied : (slot : ℕ) (order : Order) → k.next plan noreply count found ≡ RunSlot slot order → Denies some p q slot →
        Steps k some p q here (wanted b (Planning token plan noreply count found (without_closed slot (closed_by order.cmd) arms)))
    steps_run_denied slot order h d = steps_denied k some p q b (Planning token plan noreply count found arms) (wanted b (Planning token plan noreply count found (without_closed slot (closed_by order.cmd) arms))) slot order h
        (ap (λ z. wanted b (Planning token plan noreply count found z)) (denied_after slot order.cmd arms)) d

  -- what the clock told, and what the dice gave
  pub walks_clocked : (p : AtDesk) (c e : Source ℤ) (d : Source (List ℕ)) (b : Books) (token : ℕ) (plan : PL) (noreply : Bool) (count : ℕ) (found : List Found) (arms : List Arm) (moment : Option ℤ) → k.next plan noreply count found ≡ TellTime → Gives c e moment →
      Walks k some (tools p c d) (tools p e d) (at b (Planning token plan noreply count found arms)) (at b (Planning token plan noreply count (found ++ Clocked moment ∷ []) arms))
  walks_clocked p c e d b token plan noreply count found arms moment h g t m back = record {
    moments = moment ∷ [];
    rolls = [];
    goes = goes_clocked k t (at_desk some p (goes_on m back (at b (Planning token plan noreply count found arms)))) back (Planning token plan noreply count found arms) moment refl h;
    clock = gave_one c e moment g;
    dice = gave_nothing d;
  }

  pub walks_rolled : (p : AtDesk) (c : Source ℤ) (d e : Source (List ℕ)) (b : Books) (token : ℕ) (plan : PL) (noreply : Bool) (count : ℕ) (found : List Found) (arms : List Arm) (bytes : Option (List ℕ)) → k.next plan noreply count found ≡ Roll → Gives d e bytes →
      Walks k some (tools p c d) (tools p c e) (at b (Planning token plan noreply count found arms)) (at b (Planning token plan noreply count (found ++ Rolled bytes ∷ []) arms))
  walks_rolled p c d e b token plan noreply count found arms bytes h g t m back = record {
    moments = [];
    rolls = bytes ∷ [];
    goes = goes_rolled k t (at_desk some p (goes_on m back (at b (Planning token plan noreply count found arms)))) back (Planning token plan noreply count found arms) bytes refl h;
    clock = gave_nothing c;
    dice = gave_one d e bytes g;
  }
