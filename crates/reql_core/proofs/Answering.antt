-- What an engine that does as its table does is to the table machine.
use Rattle.std.proofs.Common.{◌≡◌, ◌+◌, ℕ, suc, [], map, Bool, true, false, cond, refl, sym, ap, ◌∙◌, arith}
use Rattle.reql_table_machine_spec.specs.Fed.{changes_by}
use Rattle.reql_table_machine_spec.specs.Feeds.{adds, effect, one_more, reply_to_cmd}
use Rattle.reql_table_spec.specs.Machine.{known_cmd, after}
use Rattle.reql_table_spec.specs.Replies.{said_of, told_of}
use Rattle.reql_table_spec.specs.Table.{Held, DocumentTable, feeding, at_key}
use Rattle.reql_table_spec.specs.declared.command.Entry.{Entry}
use Rattle.reql_table_spec.specs.declared.command.Order.{Order}
use Rattle.reql_table_spec.specs.declared.reply.Reply.{Reply}
use Rattle.reql_table_spec.specs.declared.reply.Said.{Said as AsSaid}
use Rattle.reql_tail.specs.Kept.{Kept}
use Rattle.reql_core.specs.Core.{Hands, IsSame, GoesOn}
use Rattle.reql_core.specs.Counted.{effect_place}
use Rattle.reql_core.specs.Live.{Live, table_of, live_state, Does}
use Rattle.reql_core.specs.declared.moment.Moment.{Moment}
use Rattle.reql_core.proofs.Commands.{next}
use Rattle.reql_core.proofs.Tails.{adds_by, most_on}

module _ {F : Type 0} (held : F → Held) (by : ℕ) (order : Order) (old new : Live F) (s : AsSaid) (does : Does held by (known_cmd order.cmd) old new s) where
  abbrev before : DocumentTable
  before = table_of held old

  abbrev is_added : Bool → Type 0
  is_added b = adds (feeding 0) (said_of s) ≡ b

  left_by : (b : Bool) → is_added b → table_of held new ≡ cond b (one_more (feeding old.most) (effect (feeding old.most) before by (known_cmd order.cmd))) before
  left_by b e = does.leaves ∙ ap (λ c. cond c (one_more (feeding old.most) (effect (feeding old.most) before by (known_cmd order.cmd))) before) (adds_by held by order old new s does b e)

  pub replies : (r : Reply) → r.place ≡ new.moment.place → r.stamp ≡ new.moment.stamp → r.said ≡ s → told_of r ≡ reply_to_cmd (feeding old.most) before by (known_cmd order.cmd)
  replies r place stamp said =
      let p = place ∙ ap (λ (t : DocumentTable). t.place) does.leaves in
      let q = stamp ∙ ap (λ (t : DocumentTable). t.stamp) does.leaves in
      let x = ap said_of said ∙ does.says in
      λ i. record { place = p i; stamp = q i; said = x i }

  pub counted_one : is_added true → new.moment.place ≡ old.moment.place + 1
  counted_one e = ap (λ (t : DocumentTable). t.place) (left_by true e) ∙ (ap suc (effect_place old.most before by (known_cmd order.cmd)) ∙ sym (next old.moment.place))

  none_more : (b : Bool) → is_added b → new ≡ old → is_added false
  none_more false e same = e
  none_more true e same = let one : old.moment.place ≡ old.moment.place + 1 = sym (ap (λ (l : Live F). l.moment.place) same) ∙ counted_one e in absurd (omega (arith, one))

  -- what leaves all as it was adds no entry, and hands nothing over
  pub none_added : new ≡ old → is_added false
  none_added same = none_more (adds (feeding 0) (said_of s)) refl same

  pub hands_none : new ≡ old → Hands held old by order []
  hands_none same = sym (ap (λ c. map at_key (cond c (changes_by (feeding old.most) before (known_cmd order.cmd)) [])) (adds_by held by order old new s does false (none_added same)))

  -- beside a tail that goes on
  module _ (k n : Kept Moment Entry) (goes : GoesOn (adds (feeding 0) (said_of s)) k n (record { by = by; order = order })) where
    keeps_same : n.most ≡ k.most
    keeps_same = most_on (adds (feeding 0) (said_of s)) k n (record { by = by; order = order }) goes

    pub state_after : live_state held n.most new ≡ after (live_state held k.most old) by order
    state_after = λ i. record { table = does.leaves i; most = does.most i; keeps = keeps_same i; sound = true; journaled = false }

    pub state_same : is_added false → live_state held n.most new ≡ live_state held k.most old
    state_same e = let t = left_by false e in λ i. record { table = t i; most = does.most i; keeps = keeps_same i; sound = true; journaled = false }

-- where nothing has changed but the room
pub state_left : {F : Type 0} (held : F → Held) (old new : Live F) (k n : Kept Moment Entry) → new ≡ old → IsSame k n → live_state held n.most new ≡ live_state held k.most old
state_left held old new k n live tail = (λ i. live_state held (tail i).most new) ∙ ap (λ l. live_state held k.most l) live
