-- What a command makes of a table without its feeds, and of the tail.
use Rattle.std.proofs.Common.{◌≡◌, ℕ, suc, List, [], ◌∷◌, ◌++◌, Bool, true, false, cond, nat_lt, length, Option, Some, None, true≢false, inl, inr, ⊎_elim, subst, refl, sym, ap, ◌∙◌}
use Rattle.reql_table_machine_spec.specs.Feeds.{adds, answer, after_change, after_changes, new_feed, opened_in, effect, one_more}
use Rattle.reql_table_machine_spec.specs.declared.command.Cmd.TheVariants as known
use Rattle.reql_write_spec.specs.Treated.{Changed}
use Rattle.reql_table_spec.specs.Table.{Held, DocumentTable, feeding, held}
use Rattle.reql_table_spec.specs.Machine.{known_cmd}
use Rattle.reql_table_spec.specs.Replies.{said_of}
use Rattle.reql_table_spec.specs.declared.command.Entry.{Entry}
use Rattle.reql_table_spec.specs.declared.command.Order.{Order}
use Rattle.reql_table_spec.specs.declared.reply.Said.{Said as AsSaid}
use Rattle.reql_tail.specs.Kept.{Kept, Adds, Lengthens, Moves, standing}
use Rattle.reql_core.specs.Core.{stand_of, IsTail, IsSame, GoesOn}
use Rattle.reql_core.specs.Live.{Live, Asked, table_of, Does}
use Rattle.reql_core.specs.Moments.{bare, led_by}
use Rattle.reql_core.specs.declared.moment.Moment.{Moment}

-- ---- documents and indexes go their way whatever the feeds are
bare_changes : (most : ℕ) (t : DocumentTable) (xs : List Changed) → bare (after_changes (feeding most) t xs) ≡ bare (after_changes (feeding 0) (bare t) xs)
bare_changes most t [] = refl
bare_changes most t (x ∷ xs) = bare_changes most (after_change (feeding most) t x) xs

bare_if : (b c : Bool) (t u v w : DocumentTable) → bare t ≡ bare v → bare u ≡ bare v → bare t ≡ bare w → bare u ≡ bare w → bare (cond b t u) ≡ bare (cond c v w)
bare_if true true t u v w e f g h = e
bare_if true false t u v w e f g h = g
bare_if false true t u v w e f g h = f
bare_if false false t u v w e f g h = h

abbrev with_one : ℕ → ℕ → DocumentTable → Held → DocumentTable
with_one most by t h = record t { feeds = t.feeds ++ new_feed (feeding most) t by h ∷ [] }

bare_opened : (most by : ℕ) (t : DocumentTable) (o : Option Held) → bare (opened_in (feeding most) t by o) ≡ bare (opened_in (feeding 0) (bare t) by o)
bare_opened most by t None = refl
bare_opened most by t (Some h) = bare_if (nat_lt (length t.feeds) most) (nat_lt (length (bare t).feeds) 0) (with_one most by t h) t (with_one 0 by (bare t) h) (bare t) refl refl refl refl

pub bare_effect : (most by : ℕ) (t : DocumentTable) (cmd : Asked) → bare (one_more (feeding most) (effect (feeding most) t by cmd)) ≡ bare (one_more (feeding 0) (effect (feeding 0) (bare t) by cmd))
bare_effect most by t (known.Write w) = ap (λ (u : DocumentTable). record u { place = suc u.place }) (bare_changes most t ((feeding most).changes t.docs t.indexes w))
bare_effect most by t (known.Index n) = refl
bare_effect most by t (known.Subscribe spec) = ap (λ (u : DocumentTable). record u { place = suc u.place }) (bare_opened most by t (held t.indexes spec))
bare_effect most by t (known.Take feed max) = refl
bare_effect most by t (known.Unsubscribe feed) = refl
bare_effect most by t known.Shut = refl
bare_effect most by t known.Sync = refl

-- ---- the tail after a command
module _ {F : Type 0} (held : F → Held) (by : ℕ) (order : Order) (old new : Live F) (s : AsSaid) (does : Does held by (known_cmd order.cmd) old new s) where
  pub adds_by : (b : Bool) → adds (feeding 0) (said_of s) ≡ b → adds (feeding old.most) (answer (feeding old.most) (table_of held old) by (known_cmd order.cmd)) ≡ b
  adds_by b e = ap (adds (feeding 0)) (sym does.says) ∙ e

  bare_after : (b : Bool) → adds (feeding 0) (said_of s) ≡ b → stand_of new.moment ≡ bare (cond b (one_more (feeding old.most) (effect (feeding old.most) (table_of held old) by (known_cmd order.cmd))) (table_of held old))
  bare_after b e = ap bare does.leaves ∙ ap (λ c. bare (cond c (one_more (feeding old.most) (effect (feeding old.most) (table_of held old) by (known_cmd order.cmd))) (table_of held old))) (adds_by b e)

  -- the tail goes on by an entry where the command adds one, and stays where it adds none
  module _ (k n : Kept Moment Entry) (it : IsTail k old.moment) where
    abbrev Goes : Type 0
    Goes = adds (feeding 0) (said_of s) ≡ true → standing stand_of led_by n ≡ led_by (standing stand_of led_by k) (record { by = by; order = order })

    abbrev Stays : Type 0
    Stays = adds (feeding 0) (said_of s) ≡ false → n ≡ k

    on_by : (b : Bool) → adds (feeding 0) (said_of s) ≡ b → Goes → Stays → IsTail n new.moment
    on_by true some goes stays = goes some ∙ (ap (λ t. led_by t (record { by = by; order = order })) it ∙ sym (bare_after true some ∙ bare_effect old.most by (table_of held old) (known_cmd order.cmd)))
    on_by false none goes stays = ap (λ m. standing stand_of led_by m) (stays none) ∙ (it ∙ sym (bare_after false none))

    pub tail_on : Goes → Stays → IsTail n new.moment
    tail_on = on_by (adds (feeding 0) (said_of s)) refl

-- ---- how the tail goes on
pub goes_by : (b : Bool) (k n : Kept Moment Entry) (e : Entry) → b ≡ true → Adds stand_of led_by k n e → GoesOn b k n e
goes_by true k n e is a = a
goes_by false k n e is a = absurd (true≢false (sym is))

same_as : (k n : Kept Moment Entry) → n ≡ k → IsSame k n
same_as k n e = e ∙ ap (λ (m : Kept Moment Entry). record k { ready = m.ready }) (sym e)

pub stays_by : (b : Bool) (k n : Kept Moment Entry) (e : Entry) → b ≡ false → n ≡ k → GoesOn b k n e
stays_by true k n e is same = absurd (true≢false is)
stays_by false k n e is same = same_as k n same

-- it keeps as many as before
pub most_on : (b : Bool) (k n : Kept Moment Entry) (e : Entry) → GoesOn b k n e → n.most ≡ k.most
most_on true k n e a = a.most
most_on false k n e same = ap (λ (m : Kept Moment Entry). m.most) same

-- a command that adds no entry
pub goes_nowhere : (s : AsSaid) (k n : Kept Moment Entry) (e : Entry) → adds (feeding 0) (said_of s) ≡ false → n ≡ k → GoesOn (adds (feeding 0) (said_of s)) k n e
goes_nowhere s k n e is same = stays_by (adds (feeding 0) (said_of s)) k n e is same

-- from what differs in its room alone
module _ (k : Kept Moment Entry) (room : Bool) (n : Kept Moment Entry) (e : Entry) where
  abbrev roomy : Kept Moment Entry
  roomy = record k { ready = room }

  lengthens_from : Lengthens stand_of led_by roomy n e → Lengthens stand_of led_by k n e
  lengthens_from l = record { base = l.base; entries = l.entries }

  moves_from : Moves stand_of led_by roomy n e → Moves stand_of led_by k n e
  moves_from m = record { gone = m.gone; left = m.left; some = m.some; parts = m.parts; base = m.base; entries = m.entries; least = m.least }

  adds_from : Adds stand_of led_by roomy n e → Adds stand_of led_by k n e
  adds_from a = record { opening = a.opening; most = a.most; how = ⊎_elim (λ h. inl (h.0, lengthens_from h.1)) (λ h. inr (h.0, moves_from h.1)) a.how }

  goes_roomy : (b : Bool) → GoesOn b roomy n e → GoesOn b k n e
  goes_roomy true a = adds_from a
  goes_roomy false same = same

pub goes_from : (b : Bool) (k m n : Kept Moment Entry) (e : Entry) → IsSame k m → GoesOn b m n e → GoesOn b k n e
goes_from b k m n e same goes = goes_roomy k m.ready n e b (subst (λ (x : Kept Moment Entry). GoesOn b x n e) same goes)
