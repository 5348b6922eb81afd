-- The Takes and Subscribes of an explained session are answered as their tables say at their places.
use Rattle.std.proofs.Common.{sym, subst, ◌∙◌, append_assoc}
use Rattle.reql_shared.specs.Parts.{Part}
use Rattle.reql_table_spec.specs.Laws.{AllPlaced, AllSubscribed}
use Rattle.reql_table_spec.specs.Machine.{State}
use Rattle.reql_table_spec.specs.declared.command.Order.{Order}
use Rattle.reql_table_spec.proofs.Weaves.{takes_placed, subscribes_placed}
use Rattle.reql_session_spec.specs.Tasks.{Talk}
use Rattle.reql_session_spec.specs.Session.{acts_on}
use Rattle.reql_session_spec.specs.Laws.{TakesArePlaced, SubscribesArePlaced}

module _ {PL : Type 0} (k : Talk PL) where
  pub takes_are_placed : TakesArePlaced k
  takes_are_placed seen share life x slot =
      let part : Part Order State = share.slots slot in
      subst (λ z. AllPlaced part.start z (acts_on slot x.explained.events)) (sym ((x.lies.slots slot).whole ∙ append_assoc part.before part.during (x.lies.slots slot).later))
      (takes_placed part.start part.before part.during (x.lies.slots slot).later part.number (acts_on slot x.explained.events) (x.explained.slots slot).woven)

  pub subscribes_are_placed : SubscribesArePlaced k
  subscribes_are_placed seen share life x slot =
      let part : Part Order State = share.slots slot in
      subst (λ z. AllSubscribed part.start z (acts_on slot x.explained.events)) (sym ((x.lies.slots slot).whole ∙ append_assoc part.before part.during (x.lies.slots slot).later))
      (subscribes_placed part.start part.before part.during (x.lies.slots slot).later part.number (acts_on slot x.explained.events) (x.explained.slots slot).woven)
