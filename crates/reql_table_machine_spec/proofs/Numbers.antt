-- The numbers of the feeds that a user opens rise.
use Rattle.std.proofs.Common.{◌≡◌, ◌≢◌, ◌<◌, ◌≤◌, ℕ, suc, ◌-◌, ◌^◌, cond, ◌&&◌, List, [], ◌∷◌, ◌++◌, length, Option, Some, None, refl, sym, subst, arith}
use Rattle.std.specs.List.{AllByRecursion}
use Rattle.std.specs.Prelude.{nat_lt}
use Rattle.reql_table_machine_spec.specs.Feeding.{Feeding}
use Rattle.reql_table_machine_spec.specs.Feeds.{Feed, Table, find_feed, has_something, opened_in, opens, new_feed, after_change, after_changes, effect, one_more, unless_shut, takes, closes, says, adds, is_past, if_room, answer, after, after_cmd, table_machine, given_by}
use Rattle.reql_shared.specs.Plays.{WovenTo}
use Rattle.reql_table_machine_spec.specs.declared.command.Cmd.{Cmd}
use Rattle.reql_table_machine_spec.specs.declared.command.Cmd.TheVariants as cmds
use Rattle.reql_table_machine_spec.specs.declared.command.Order.{Order}
use Rattle.reql_table_machine_spec.specs.declared.command.Reply.{Reply}
use Rattle.reql_table_machine_spec.specs.declared.command.Look.{Look}
use Rattle.reql_table_machine_spec.specs.declared.command.Said.{Said}
use Rattle.reql_table_machine_spec.specs.declared.command.Said.TheVariants as said
use Rattle.reql_shared.specs.declared.recorded.Recorded.{Recorded}
use Rattle.reql_shared.specs.Machine.{replay}
use Rattle.reql_shared.specs.Acts.{Act, Ran, Looked, Denied}
use Rattle.reql_table_machine_spec.proofs.Tracking.{split}
use Rattle.reql_table_machine_spec.proofs.Folding.{ran, idle}

module _ {M I : Type 0} where
  -- the number of the feed that a command opened
  abbrev pub number_in : Said M I → Option ℕ
  number_in (said.Opened feed opening) = Some feed
  number_in other = None

abbrev pub IsHigher : ℕ → Option ℕ → Type 0
IsHigher n None = Unit {0}
IsHigher n (Some f) = n < f

abbrev pub bound : ℕ → Option ℕ → ℕ
bound n None = n
bound n (Some f) = f

-- no other act opened a feed of that number
abbrev pub IsNot : ℕ → Option ℕ → Type 0
IsNot φ None = Unit {0}
IsNot φ (Some f) = f ≢ φ

higher_not : (φ : ℕ) (x : Option ℕ) → IsHigher φ x → IsNot φ x
higher_not φ None h = tt
higher_not φ (Some f) h = λ e. absurd (omega (arith, h, e))

module _ {C M I Q A : Type 0} where
  abbrev pub number_of : Act C (Reply (Said M I)) Q A → Option ℕ
  number_of (Ran place order r) = number_in r.said
  number_of (Looked place q a) = None
  number_of (Denied place) = None

  abbrev pub OpensFrom : ℕ → List (Act C (Reply (Said M I)) Q A) → Type 0
  OpensFrom n [] = Unit {0}
  OpensFrom n (a ∷ acts) = IsHigher n (number_of a) × OpensFrom (bound n (number_of a)) acts

  pub weaker : (m n : ℕ) (acts : List (Act C (Reply (Said M I)) Q A)) → m ≤ n → OpensFrom n acts → OpensFrom m acts
  weaker m n [] le o = tt
  weaker m n (a ∷ acts) le o = (higher (number_of a) o.0, weaker (bound m (number_of a)) (bound n (number_of a)) acts (less (number_of a)) o.1)
    where
      higher : (x : Option ℕ) → IsHigher n x → IsHigher m x
      higher None h = tt
      higher (Some f) h = omega (arith, le, h)

      less : (x : Option ℕ) → bound m x ≤ bound n x
      less None = le
      less (Some f) = omega arith

  pub all_higher : (n : ℕ) (acts : List (Act C (Reply (Said M I)) Q A)) → OpensFrom n acts → AllByRecursion (λ (a : Act C (Reply (Said M I)) Q A). IsHigher n (number_of a)) acts
  all_higher n [] o = tt
  all_higher n (a ∷ acts) o = (o.0, all_higher n acts (weaker n (bound n (number_of a)) acts (at_least (number_of a) o.0) o.1))
    where
      at_least : (x : Option ℕ) → IsHigher n x → n ≤ bound n x
      at_least None h = omega arith
      at_least (Some f) h = omega (arith, h)

  nots : (φ : ℕ) (acts : List (Act C (Reply (Said M I)) Q A)) → AllByRecursion (λ (a : Act C (Reply (Said M I)) Q A). IsHigher φ (number_of a)) acts → AllByRecursion (λ (a : Act C (Reply (Said M I)) Q A). IsNot φ (number_of a)) acts
  nots φ [] h = tt
  nots φ (a ∷ acts) h = (higher_not φ (number_of a) h.0, nots φ acts h.1)

  all_at : (n : ℕ) (xs ys : List (Act C (Reply (Said M I)) Q A)) (a : Act C (Reply (Said M I)) Q A) → AllByRecursion (λ (b : Act C (Reply (Said M I)) Q A). IsHigher n (number_of b)) (xs ++ a ∷ ys) → IsHigher n (number_of a)
  all_at n [] ys a h = h.0
  all_at n (x ∷ xs) ys a h = all_at n xs ys a h.1

  pub apart : (n φ : ℕ) (xs ys : List (Act C (Reply (Said M I)) Q A)) (a : Act C (Reply (Said M I)) Q A) → number_of a ≡ Some φ → OpensFrom n (xs ++ a ∷ ys) →
      AllByRecursion (λ (b : Act C (Reply (Said M I)) Q A). IsNot φ (number_of b)) xs × AllByRecursion (λ (b : Act C (Reply (Said M I)) Q A). IsNot φ (number_of b)) ys
  apart n φ [] ys a e o = (tt, nots φ ys (all_higher φ ys (subst (λ z. OpensFrom (bound n z) ys) e o.1)))
  apart n φ (x ∷ xs) ys a e o =
      let r = apart (bound n (number_of x)) φ xs ys a e o.1 in
      ((lower (number_of x) (subst (λ z. IsHigher (bound n (number_of x)) z) e (all_at (bound n (number_of x)) xs ys a (all_higher (bound n (number_of x)) (xs ++ a ∷ ys) o.1))), r.0), r.1)
    where
      lower : (y : Option ℕ) → bound n y < φ → IsNot φ y
      lower None h = tt
      lower (Some f) h = λ q. absurd (omega (arith, h, q))

module _ {D J W N P M X K I F : Type 0} (m : Feeding D J W N P M X K I F) (plain : (j : J) (n : N) → number_in (m.index_said j n) ≡ None) where
  abbrev T : Type 0
  T = Table D J K I

  -- a new feed's number is the place after it
  abbrev pub Numbered : T → T → Option ℕ → Type 0
  Numbered t u None = Unit {0}
  Numbered t u (Some f) = (f ≡ suc t.place) × (f ≤ u.place)

  abbrev So : T → T → Said M I → Type 0
  So t u x = Numbered t (cond (adds m x) u t) (number_in x)

  quiet : (t u : T) (x : Said M I) → number_in x ≡ None → So t u x
  quiet t u x e = subst (λ z. Numbered t (cond (adds m x) u t) z) (sym e) tt

  full_or : (t u : T) (x : Said M I) → So t u x → So t u (if_room m u x)
  full_or t u x h = split (adds m x && is_past m u) (λ b. So t u (cond b (said.HistoryFull (2 ^ 64 - 1)) x)) (λ _. tt) (λ _. h)

  shut_or : (t u : T) (x : Said M I) → So t u x → So t u (unless_shut m t x)
  shut_or t u x h = split t.shut (λ b. So t u (cond b said.Gone x)) (λ _. tt) (λ _. h)

  subscribed : (t : T) (who : ℕ) (o : Option K) → So t (one_more m (opened_in m t who o)) (opens m t o)
  subscribed t who None = tt
  subscribed t who (Some k) = split (nat_lt (length t.feeds) m.most) (λ b. So t (one_more m (cond b (record t { feeds = t.feeds ++ new_feed m t who k ∷ [] }) t)) (cond b (said.Opened (suc t.place) (m.opening k t.docs)) (said.FeedsFull m.most)))
      (λ _. (refl, omega arith)) (λ _. tt)

  took_none : (t u : T) (feed max : ℕ) (o : Option (Feed K I)) → So t u (takes m t feed max o)
  took_none t u feed max None = shut_or t u (said.FeedUnknown feed) tt
  took_none t u feed max (Some f) = split (has_something f) (λ b. So t u (cond b (said.Batch f.skipped f.last (given_by m max f)) (unless_shut m t said.Nothing))) (λ _. tt) (λ _. shut_or t u said.Nothing tt)

  closed_none : (t u : T) (feed : ℕ) (o : Option (Feed K I)) → So t u (closes m t feed o)
  closed_none t u feed None = shut_or t u (said.FeedUnknown feed) tt
  closed_none t u feed (Some f) = tt

  said_so : (t : T) (who : ℕ) (cmd : Cmd W N P) → So t (one_more m (effect m t who cmd)) (says m t who cmd)
  said_so t who (cmds.Write w) = shut_or t _ (said.Done (m.summary t.docs t.indexes w)) tt
  said_so t who (cmds.Index n) = shut_or t (one_more m (effect m t who (cmds.Index n))) (m.index_said t.indexes n) (quiet t (one_more m (effect m t who (cmds.Index n))) (m.index_said t.indexes n) (plain t.indexes n))
  said_so t who (cmds.Subscribe p) = shut_or t (one_more m (opened_in m t who (m.keep t.indexes p))) (opens m t (m.keep t.indexes p)) (subscribed t who (m.keep t.indexes p))
  said_so t who (cmds.Take feed max) = took_none t (one_more m (effect m t who (cmds.Take feed max))) feed max (find_feed who feed t.feeds)
  said_so t who (cmds.Unsubscribe feed) = closed_none t (one_more m (effect m t who (cmds.Unsubscribe feed))) feed (find_feed who feed t.feeds)
  said_so t who cmds.Shut = shut_or t (one_more m (effect m t who cmds.Shut)) said.Closed tt
  said_so t who cmds.Sync = shut_or t (one_more m (effect m t who cmds.Sync)) said.Changed tt

  pub numbered : (t : T) (who : ℕ) (cmd : Cmd W N P) → Numbered t (after_cmd m t who cmd) (number_in (answer m t who cmd))
  numbered t who cmd = full_or t (one_more m (effect m t who cmd)) (says m t who cmd) (said_so t who cmd)

  placed : (xs : List X) (t : T) → (after_changes m t xs).place ≡ t.place
  placed [] t = refl
  placed (x ∷ xs) t = placed xs (after_change m t x)

  effect_place : (t : T) (who : ℕ) (cmd : Cmd W N P) → (effect m t who cmd).place ≡ t.place
  effect_place t who (cmds.Write w) = placed (m.changes t.docs t.indexes w) t
  effect_place t who (cmds.Index n) = refl
  effect_place t who (cmds.Subscribe p) = opened (m.keep t.indexes p)
    where
      opened : (o : Option K) → (opened_in m t who o).place ≡ t.place
      opened None = refl
      opened (Some k) = split (nat_lt (length t.feeds) m.most) (λ b. (cond b (record t { feeds = t.feeds ++ new_feed m t who k ∷ [] }) t).place ≡ t.place) (λ _. refl) (λ _. refl)
  effect_place t who (cmds.Take feed max) = refl
  effect_place t who (cmds.Unsubscribe feed) = refl
  effect_place t who cmds.Shut = refl
  effect_place t who cmds.Sync = refl

  pub after_place : (t : T) (who : ℕ) (cmd : Cmd W N P) → t.place ≤ (after_cmd m t who cmd).place
  after_place t who cmd = split (adds m (answer m t who cmd)) (λ b. t.place ≤ (cond b (one_more m (effect m t who cmd)) t).place) (λ _. omega (arith, effect_place t who cmd)) (λ _. omega arith)

  replay_place : (t : T) (es : List (Recorded (Order (Cmd W N P)))) → t.place ≤ (replay (table_machine m) t es).place
  replay_place t [] = omega arith
  replay_place t (e ∷ es) = omega (arith, after_place t e.by e.cmd.cmd, replay_place (after m t e.by e.cmd) es)

  pub numbers_rise : (ends : List (Recorded (Order (Cmd W N P))) → Type 0) (by at : ℕ) (t : T) (acts : List (Act (Order (Cmd W N P)) (Reply (Said M I)) (Unit {0}) (Look (D × J)))) (history : List (Recorded (Order (Cmd W N P)))) → WovenTo (table_machine m) ends t by at acts history → OpensFrom t.place acts
  numbers_rise ends by at t [] history w = tt
  numbers_rise ends by at t (Ran p order r ∷ acts) history w =
      let a = ran m ends by t at p order r acts history w in
      let s : T = replay (table_machine m) t a.others in
      let later = numbers_rise ends by a.place (after_cmd m s by order.cmd) acts a.rest a.woven in
      let low : t.place ≤ s.place = replay_place t a.others in
      let up : s.place ≤ (after_cmd m s by order.cmd).place = after_place s by order.cmd in
      subst (λ (z : Reply (Said M I)). IsHigher t.place (number_in z.said) × OpensFrom (bound t.place (number_in z.said)) acts) (sym a.answered)
      (by_number s (after_cmd m s by order.cmd) (number_in (answer m s by order.cmd)) (numbered s by order.cmd) acts low up later)
    where
      by_number : (s u : T) (x : Option ℕ) → Numbered s u x → (acts : List (Act (Order (Cmd W N P)) (Reply (Said M I)) (Unit {0}) (Look (D × J)))) → t.place ≤ s.place → s.place ≤ u.place → OpensFrom u.place acts → IsHigher t.place x × OpensFrom (bound t.place x) acts
      by_number s u None n acts low up later = (tt, weaker t.place u.place acts (omega (arith, low, up)) later)
      by_number s u (Some f) n acts low up later = (omega (arith, n.0, low), weaker f u.place acts n.1 later)
  numbers_rise ends by at t (Looked p q x ∷ acts) history w =
      let a = idle m ends by t at (Looked p q x) acts history refl w in
      (tt, weaker t.place _ acts (replay_place t a.others) (numbers_rise ends by a.place (replay (table_machine m) t a.others) acts a.rest a.woven))
  numbers_rise ends by at t (Denied p ∷ acts) history w =
      let a = idle m ends by t at (Denied p) acts history refl w in
      (tt, weaker t.place _ acts (replay_place t a.others) (numbers_rise ends by a.place (replay (table_machine m) t a.others) acts a.rest a.woven))
