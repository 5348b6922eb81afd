-- A user's Take of a feed that it has open is never answered that the feed is unknown.
use Rattle.std.proofs.Common.{◌≡◌, ℕ, cond, List, [], ◌∷◌, ◌++◌, Some, refl, sym, subst, arith, append-nil}
use Rattle.std.specs.Prelude.{nat_eq}
use Rattle.std.proofs.lemmas.Bool.{eqb-true, eq-eqb, both_ways}
use Rattle.std.specs.List.{AllByRecursion}
use Rattle.reql_table_machine_spec.specs.Feeding.{Feeding, Folds}
use Rattle.reql_table_machine_spec.specs.Feeds.{Feed, Table, find_feed, left_by, answer, after_cmd, reply_to_cmd, table_machine}
use Rattle.reql_shared.specs.Plays.{WovenTo}
use Rattle.reql_table_machine_spec.specs.Fed.{Taking, taking_by, is_end, takings, changes_at}
use Rattle.reql_table_machine_spec.specs.declared.command.Cmd.{Cmd}
use Rattle.reql_table_machine_spec.specs.declared.command.Cmd.TheVariants as cmds
use Rattle.reql_table_machine_spec.specs.declared.command.Order.{Order}
use Rattle.reql_table_machine_spec.specs.declared.command.Reply.{Reply}
use Rattle.reql_table_machine_spec.specs.declared.command.Look.{Look}
use Rattle.reql_table_machine_spec.specs.declared.command.Said.{Said}
use Rattle.reql_table_machine_spec.specs.declared.command.Said.TheVariants as said
use Rattle.reql_shared.specs.declared.recorded.Recorded.{Recorded}
use Rattle.reql_shared.specs.Machine.{Machine, replay}
use Rattle.reql_shared.specs.Acts.{Act, Ran, Looked, Denied}
use Rattle.reql_table_machine_spec.proofs.Folding.{After, Idle, ran, idle, take_cases, so, more, find_taken}
use Rattle.reql_table_machine_spec.proofs.Tracking.{GoesOn, split, Leaves, Tracked, tracked_step, tracked_others}

module _ {M I : Type 0} where
  abbrev pub IsKnown : Said M I → Type 0
  IsKnown (said.FeedUnknown feed) = ⊥
  IsKnown other = Unit {0}

module _ {D J W N P M X K I F : Type 0} (m : Feeding D J W N P M X K I F) (good : D → Type 0) (may : D → X → Type 0) (l : Folds m good may) (ends : List (Recorded (Order (Cmd W N P))) → Type 0) (by number : ℕ) (k : K) (d : D) (n : ℕ) where
  abbrev T : Type 0
  T = Table D J K I

  abbrev Any : Feed K I → List X → Type 0
  Any f xs = Unit {0}

  any_on : GoesOn m good may l Any k d n
  any_on f xs x kept g c y h = tt

  abbrev Is : List X → T → Type 0
  Is xs t = Tracked m good may l Any by number k d n xs t

  abbrev Both : ℕ → T → List X → Said M I → Type 0
  Both max t xs s = IsKnown s × Is (more m good may l ends by number k d n xs t max s) (so m good may l ends by number k d n t max s)

  both : (max : ℕ) (t : T) (xs : List X) → Is xs t → Both max t xs (answer m t by (cmds.Take number max))
  both max t xs r =
      let same : Is (xs ++ []) t = subst (λ z. Is z t) (sym (append-nil xs)) r in
      take_cases m by number t max r.feed r.found (Both max t xs) (λ _. (tt, same))
      (λ _. (tt, record { feed = left_by m max r.feed; found = find_taken (left_by m max) by number (λ f. refl) t.feeds r.feed r.found; kept = r.kept; docs = same.docs; stamp = same.stamp; first = r.first; comes = same.comes; holding = tt }))
      (λ _. (tt, same)) (λ _. (tt, same))

  abbrev machine : Machine T (Order (Cmd W N P)) (Reply (Said M I)) (Unit {0}) (Look (D × J))
  machine = table_machine m

  abbrev Performed : Type 0
  Performed = Act (Order (Cmd W N P)) (Reply (Said M I)) (Unit {0}) (Look (D × J))

  abbrev Known : List (Taking M I) → Type 0
  Known ts = AllByRecursion (λ (t : Taking M I). IsKnown t.said) ts

  abbrev Knows : List Performed → Type 0
  Knows acts = (history : List (Recorded (Order (Cmd W N P)))) (place : ℕ) (t : T) (xs : List X) → WovenTo machine ends t by place acts history → Is xs t → Known (takings number acts)

  abbrev after_it : Cmd W N P → Reply (Said M I) → List Performed → List (Taking M I)
  after_it cmd reply acts = cond (is_end number cmd) [] (taking_by number cmd reply ++ takings number acts)

  step : (acts : List Performed) → Knows acts → (cmd : Cmd W N P) → Leaves by number by cmd → (rest : List (Recorded (Order (Cmd W N P)))) (place : ℕ) (t : T) (xs : List X) → WovenTo machine ends (after_cmd m t by cmd) by place acts rest → Is xs t → Known (takings number acts)
  step acts ih cmd v rest place t xs w r = ih rest place (after_cmd m t by cmd) (xs ++ changes_at m t by cmd) w (tracked_step m good may l Any by number k d n any_on xs t by cmd v r)

  known_cmd : (acts : List Performed) → Knows acts → (cmd : Cmd W N P) (rest : List (Recorded (Order (Cmd W N P)))) (place : ℕ) (t : T) (xs : List X) → WovenTo machine ends (after_cmd m t by cmd) by place acts rest → Is xs t → Known (after_it cmd (reply_to_cmd m t by cmd) acts)
  known_cmd acts ih (cmds.Write c) rest place t xs w r = step acts ih (cmds.Write c) tt rest place t xs w r
  known_cmd acts ih (cmds.Index c) rest place t xs w r = step acts ih (cmds.Index c) tt rest place t xs w r
  known_cmd acts ih (cmds.Subscribe c) rest place t xs w r = step acts ih (cmds.Subscribe c) tt rest place t xs w r
  known_cmd acts ih cmds.Shut rest place t xs w r = step acts ih cmds.Shut tt rest place t xs w r
  known_cmd acts ih cmds.Sync rest place t xs w r = step acts ih cmds.Sync tt rest place t xs w r
  known_cmd acts ih (cmds.Unsubscribe feed) rest place t xs w r = split (nat_eq feed number) (λ b. Known (cond b [] (takings number acts))) (λ _. tt)
      (λ e. step acts ih (cmds.Unsubscribe feed) (λ _ q. both_ways (nat_eq feed number) e (eq-eqb feed number q)) rest place t xs w r)
  known_cmd acts ih (cmds.Take feed max) rest place t xs w r =
      split (nat_eq feed number) (λ b. Known (cond b (record { max = max; stamp = (reply_to_cmd m t by (cmds.Take feed max)).stamp; said = answer m t by (cmds.Take feed max) } ∷ []) [] ++ takings number acts))
      (λ e. let q : feed ≡ number = eqb-true feed number e in
      let h : Both max t xs (answer m t by (cmds.Take number max)) = both max t xs r in (
        subst (λ z. IsKnown (answer m t by (cmds.Take z max))) (sym q) h.0,
        ih rest place (after_cmd m t by (cmds.Take number max)) _ (subst (λ z. WovenTo machine ends (after_cmd m t by (cmds.Take z max)) by place acts rest) q w) h.1,
      ))
      (λ e. step acts ih (cmds.Take feed max) (λ _ q. both_ways (nat_eq feed number) e (eq-eqb feed number q)) rest place t xs w r)

  known : (acts : List Performed) → Knows acts
  known [] history place t xs w r = tt
  known (Ran p order reply ∷ acts) history place t xs w r =
      let a : After m ends by t place p acts history order.cmd reply = ran m ends by t place p order reply acts history w in
      subst (λ z. Known (after_it order.cmd z acts)) (sym a.answered) (known_cmd acts (known acts) order.cmd a.rest a.place (replay machine t a.others) _ a.woven (tracked_others m good may l Any by number k d n any_on xs t a.others a.theirs r))
  known (Looked p q x ∷ acts) history place t xs w r =
      let a : Idle m ends by t acts history = idle m ends by t place (Looked p q x) acts history refl w in
      known acts a.rest a.place (replay machine t a.others) _ a.woven (tracked_others m good may l Any by number k d n any_on xs t a.others a.theirs r)
  known (Denied p ∷ acts) history place t xs w r =
      let a : Idle m ends by t acts history = idle m ends by t place (Denied p) acts history refl w in
      known acts a.rest a.place (replay machine t a.others) _ a.woven (tracked_others m good may l Any by number k d n any_on xs t a.others a.theirs r)

-- From where a feed was opened, until it is closed.
module _ {D J W N P M X K I F : Type 0} (m : Feeding D J W N P M X K I F) (good : D → Type 0) (may : D → X → Type 0) (l : Folds m good may) where
  pub always_known : (ends : List (Recorded (Order (Cmd W N P))) → Type 0) (by at : ℕ) (k : K) (t : Table D J K I) (f : Feed K I) (acts : List (Act (Order (Cmd W N P)) (Reply (Said M I)) (Unit {0}) (Look (D × J)))) (history : List (Recorded (Order (Cmd W N P)))) →
      good t.docs → find_feed by f.number t.feeds ≡ Some f → f.kept ≡ k → WovenTo (table_machine m) ends t by at acts history → AllByRecursion (λ (x : Taking M I). IsKnown x.said) (takings f.number acts)
  always_known ends by at k t f acts history g found kept w = known m good may l ends by f.number k t.docs t.stamp acts history at t [] w
      (record { feed = f; found = found; kept = kept; docs = refl; stamp = omega arith; first = g; comes = tt; holding = tt })
