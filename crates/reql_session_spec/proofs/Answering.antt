-- Each frame is answered: a balance of answers wanted, owed and said, for one token.
use Rattle.std.proofs.Common.{◌≡◌, ◌⊎◌, ◌≤◌, ◌+◌, inl, inr, ℕ, Bool, true, false, true≢false, cond, not, ◌||◌, List, [], ◌∷◌, ◌++◌, map, filter, drop, length, Option, Some, None, refl, sym, ap, subst, ◌∙◌, arith}
use Rattle.std.specs.Prelude.{nat_eq, nat_le, is_some}
use Rattle.std.proofs.lemmas.Bool.{eqb-true, eq-eqb}
use Rattle.reql_table_machine_spec.proofs.Tracking.{split}
use Rattle.reql_table_machine_spec.specs.declared.command.Said.{Said}
use Rattle.reql_table_machine_spec.specs.declared.command.Said.TheVariants as said_as
use Rattle.reql_datum.specs.Plain.{Plain}
use Rattle.reql_datum.specs.declared.point.Point.{Point}
use Rattle.reql_shared.specs.Acts.{Ran, Looked, Denied}
use Rattle.reql_table_spec.specs.Replies.{Answered as Told}
use Rattle.reql_table_spec.specs.declared.command.Cmd.{Cmd}
use Rattle.reql_table_spec.specs.declared.command.Order.{Order}
use Rattle.reql_table_spec.specs.declared.reply.Saved.{Saved}
use Rattle.reql_write_spec.specs.declared.command.Summary.{Summary}
use Rattle.reql_session_spec.specs.Requests.{Asked, Unreadable, Unplanned, Start, Continue, Stop, NoreplyWait, ServerInfo, Arm, Shown, Answered, Unsent, One, Stream, Feed, Fault, Wanting, Move, Ends, Found, Answer, Internal, Last}
use Rattle.reql_session_spec.specs.Books.{Cursor, Open, Books, has_token, without, cursor_of, feed_of, is_open, closed, with_rest, with_left, with_cursor, with_feed, waits, saw_names}
use Rattle.reql_session_spec.specs.Tasks.{Talk, Firm, Stops, Drops, Settled, Task, Planning, Visiting, Telling, Closing, Next, done, at, only_tell, close, wanted, denied, told, stop_feed, stop, is_long, cut, tell, comes_to, continue_cursor, continue_left, continue_feed, continue_on, visit_feed, visit, refuse, begin, takes_up, next_arm, batch_of, gone, took_said, took, ran, found_more, Runs, Asks, batch_size, is_empty, skipped_item, change_items, cut_to, fitted, others, arms_denied}
use Rattle.reql_session_spec.specs.Session.{Event, Turn, Visit, Greeted, Login, Cast, Begin, Heard, Lost, Quiet, Finish, Broken, Long, Wear, Poor, On, OnNames, Dice, Clock, Come, Say, Want, Doing, Rest, Visits, Busy, Leaving, Mach, fresh, Step, Run, doing_next, goes_on, Plans, PlanDenied, LeavesArm}
use Rattle.reql_session_spec.specs.Minding.{PlansMind}
use Rattle.reql_session_spec.specs.Answering as answering
use Rattle.reql_session_spec.specs.Answering.{same, times, said_of, wants, wants_answer, wanted_of, IsStill, Answers, EachIsAnswered}
use Rattle.reql_session_spec.specs.declared.end.End.TheVariants as ends
use Rattle.reql_session_spec.proofs.Shelves.{which, or_false, found_token}
use Rattle.reql_session_spec.proofs.Unsent.{IsBroken, all_closing}

either : {A : Type 0} (P : A → Type 0) (x : Bool) (y z : A) → (x ≡ true → P y) → (x ≡ false → P z) → P (cond x y z)
either P true y z f g = f refl
either P false y z f g = g refl

-- ---- who has something open, for one token
module _ (t : ℕ) where
  abbrev q : ℕ → ℕ
  q u = same t u

  is_one : (u : ℕ) → nat_eq u t ≡ true → q u ≡ 1
  is_one u e = ap (λ b. cond b 1 0) e

  is_none : (u : ℕ) → nat_eq u t ≡ false → q u ≡ 0
  is_none u e = ap (λ b. cond b 1 0) e

  q_most : (u : ℕ) → q u ≤ 1
  q_most u = elim (which (nat_eq u t)) [ inl e ↦ omega (arith, is_one u e) | inr e ↦ omega (arith, is_none u e) ]

  same_token : (u v : ℕ) → nat_eq u v ≡ true → q u ≡ q v
  same_token u v e = ap q (eqb-true u v e)

  times_append : (ts : List ℕ) (u : ℕ) → times t (ts ++ u ∷ []) ≡ times t ts + q u
  times_append [] u = omega arith
  times_append (x ∷ ts) u = omega (arith, times_append ts u)

  -- a token that is left out
  times_out : (u : ℕ) (ts : List ℕ) → nat_eq u t ≡ true → times t (without u ts) ≡ 0
  times_out u [] e = refl
  times_out u (x ∷ ts) e = split (nat_eq x u) (λ b. times t (cond (not b) (x ∷ without u ts) (without u ts)) ≡ 0) (λ _. times_out u ts e)
      (λ h. omega (arith, times_out u ts e, is_none x (subst (λ z. nat_eq x z ≡ false) (eqb-true u t e) h)))

  -- and another
  times_kept : (u : ℕ) (ts : List ℕ) → nat_eq u t ≡ false → times t (without u ts) ≡ times t ts
  times_kept u [] e = refl
  times_kept u (x ∷ ts) e = split (nat_eq x u) (λ b. times t (cond (not b) (x ∷ without u ts) (without u ts)) ≡ q x + times t ts)
      (λ h. omega (arith, times_kept u ts e, is_none x (subst (λ z. nat_eq z t ≡ false) (sym (eqb-true x u h)) e)))
      (λ h. omega (arith, times_kept u ts e))

  times_has : (u : ℕ) (ts : List ℕ) → nat_eq u t ≡ true → has_token u ts ≡ true → 1 ≤ times t ts
  times_has u [] e h = absurd (true≢false (sym h))
  times_has u (x ∷ ts) e h = split (nat_eq x u) (λ b. (b || has_token u ts) ≡ true → 1 ≤ q x + times t ts)
      (λ y _. omega (arith, is_one x (subst (λ z. nat_eq x z ≡ true) (eqb-true u t e) y))) (λ _ z. omega (arith, times_has u ts e z)) h

  times_not : (u : ℕ) (ts : List ℕ) → nat_eq u t ≡ true → has_token u ts ≡ false → times t ts ≡ 0
  times_not u [] e h = refl
  times_not u (x ∷ ts) e h = let a = or_false (nat_eq x u) (has_token u ts) h in omega (arith, times_not u ts e a.1, is_none x (subst (λ z. nat_eq x z ≡ false) (eqb-true u t e) a.0))

  module _ {A : Type 0} (tok : A → ℕ) where
    abbrev there : List A → Bool
    there [] = false
    there (x ∷ xs) = nat_eq (tok x) t || there xs

    there_filter : (u : ℕ) (xs : List A) → nat_eq u t ≡ false → there (filter (λ x. not (nat_eq (tok x) u)) xs) ≡ there xs
    there_filter u [] e = refl
    there_filter u (x ∷ xs) e = split (nat_eq (tok x) u) (λ b. there (cond (not b) (x ∷ filter (λ x. not (nat_eq (tok x) u)) xs) (filter (λ x. not (nat_eq (tok x) u)) xs)) ≡ (nat_eq (tok x) t || there xs))
        (λ h. there_filter u xs e ∙ ap (λ b. b || there xs) (sym (subst (λ z. nat_eq z t ≡ false) (sym (eqb-true (tok x) u h)) e)))
        (λ h. ap (λ b. nat_eq (tok x) t || b) (there_filter u xs e))

    there_map : (f : A → A) → ((x : A) → tok (f x) ≡ tok x) → (xs : List A) → there (map f xs) ≡ there xs
    there_map f h [] = refl
    there_map f h (x ∷ xs) = (λ i. nat_eq (h x i) t || there_map f h xs i)

    there_append : (xs : List A) (x : A) → nat_eq (tok x) t ≡ false → there (xs ++ x ∷ []) ≡ there xs
    there_append [] x e = ap (λ b. b || false) e
    there_append (y ∷ xs) x e = ap (λ b. nat_eq (tok y) t || b) (there_append xs x e)

  abbrev room_of : Bool → Bool → ℕ
  room_of true f = 0
  room_of false true = 1
  room_of false false = 0

  -- how many CONTINUEs may wait: one where there is a feed, and no cursor
  abbrev room : Books → ℕ
  room b = room_of (there (λ (c : Cursor). c.token) b.cursors) (there (λ (f : Open). f.token) b.feeds)

  abbrev w : Books → ℕ
  w b = times t b.waiting

  room_most : (c f : Bool) → room_of c f ≤ 1
  room_most true f = omega arith
  room_most false true = omega arith
  room_most false false = omega arith

  room_le : (b : Books) → room b ≤ 1
  room_le b = room_most (there (λ (c : Cursor). c.token) b.cursors) (there (λ (f : Open). f.token) b.feeds)

  has_cursor : (u : ℕ) (cs : List Cursor) → nat_eq u t ≡ true → is_some (cursor_of u cs) ≡ there (λ (c : Cursor). c.token) cs
  has_cursor u [] e = refl
  has_cursor u (c ∷ cs) e = split (nat_eq c.token u) (λ b. is_some (cond b (Some c) (cursor_of u cs)) ≡ (nat_eq c.token t || there (λ (c : Cursor). c.token) cs))
      (λ h. ap (λ b. b || there (λ (c : Cursor). c.token) cs) (sym (subst (λ z. nat_eq c.token z ≡ true) (eqb-true u t e) h)))
      (λ h. has_cursor u cs e ∙ ap (λ b. b || there (λ (c : Cursor). c.token) cs) (sym (subst (λ z. nat_eq c.token z ≡ false) (eqb-true u t e) h)))

  has_feed : (u : ℕ) (fs : List Open) → nat_eq u t ≡ true → is_some (feed_of u fs) ≡ there (λ (f : Open). f.token) fs
  has_feed u [] e = refl
  has_feed u (c ∷ cs) e = split (nat_eq c.token u) (λ b. is_some (cond b (Some c) (feed_of u cs)) ≡ (nat_eq c.token t || there (λ (f : Open). f.token) cs))
      (λ h. ap (λ b. b || there (λ (f : Open). f.token) cs) (sym (subst (λ z. nat_eq c.token z ≡ true) (eqb-true u t e) h)))
      (λ h. has_feed u cs e ∙ ap (λ b. b || there (λ (f : Open). f.token) cs) (sym (subst (λ z. nat_eq c.token z ≡ false) (eqb-true u t e) h)))

  cursor_token : (u : ℕ) (cs : List Cursor) (c : Cursor) → cursor_of u cs ≡ Some c → nat_eq c.token u ≡ true
  cursor_token u [] c e = absurd (let h : None ≡ Some c = e in cc)
  cursor_token u (g ∷ gs) c e = split (nat_eq g.token u) (λ b. nat_eq g.token u ≡ b → cond b (Some g) (cursor_of u gs) ≡ Some c → nat_eq c.token u ≡ true)
      (λ _ x h. subst (λ (z : Cursor). nat_eq z.token u ≡ true) (some_is g c h) x) (λ _ x h. cursor_token u gs c h) refl e
    where
      get : Cursor → Option Cursor → Cursor
      get d None = d
      get d (Some z) = z

      some_is : (x y : Cursor) → Some x ≡ Some y → x ≡ y
      some_is x y h = ap (λ o. get x o) h

  -- ---- rooms of changed books
  room_closed : (u : ℕ) (b : Books) → nat_eq u t ≡ false → room (closed u b) ≡ room b
  room_closed u b e = (λ i. room_of (there_filter (λ (c : Cursor). c.token) u b.cursors e i) (there_filter (λ (f : Open). f.token) u b.feeds e i))

  closes : (b : Books) (u v : ℕ) → q u + (w b + v) ≤ 1 → w b + v ≤ room b → (w (closed u b) ≡ w b) × (w (closed u b) + v ≤ room (closed u b))
  closes b u v o r = elim (which (nat_eq u t)) [
    | inl e ↦ (let z = times_out u b.waiting e in (omega (arith, z, o, is_one u e), omega (arith, z, o, is_one u e)))
    | inr e ↦ (let z = times_kept u b.waiting e in (z, omega (arith, z, r, room_closed u b e)))
  ]

  room_rest : (u : ℕ) (rest : List Plain) (b : Books) → room (with_rest u rest b) ≡ room b
  room_rest u rest b = ap (λ z. room_of z (there (λ (f : Open). f.token) b.feeds)) (there_map (λ (c : Cursor). c.token) (λ c. cond (nat_eq c.token u) (record c { rest = rest }) c) (λ c. kept c (nat_eq c.token u)) b.cursors)
    where
      kept : (c : Cursor) (x : Bool) → (let d : Cursor = cond x (record c { rest = rest }) c in d.token) ≡ c.token
      kept c true = refl
      kept c false = refl

  room_left : (u : ℕ) (left : List Shown) (b : Books) → room (with_left u left b) ≡ room b
  room_left u left b = ap (λ z. room_of (there (λ (c : Cursor). c.token) b.cursors) z) (there_map (λ (f : Open). f.token) (λ f. cond (nat_eq f.token u) (record f { left = left }) f) (λ f. kept f (nat_eq f.token u)) b.feeds)
    where
      kept : (f : Open) (x : Bool) → (let d : Open = cond x (record f { left = left }) f in d.token) ≡ f.token
      kept f true = refl
      kept f false = refl

  room_cursor : (c : Cursor) (b : Books) (v : ℕ) → q c.token + (w b + v) ≤ 1 → w b + v ≤ room b → w b + v ≤ room (with_cursor c b)
  room_cursor c b v o r = elim (which (nat_eq c.token t)) [
    | inl e ↦ omega (arith, o, is_one c.token e)
    | inr e ↦ omega (arith, r, ap (λ z. room_of z (there (λ (f : Open). f.token) b.feeds)) (there_append (λ (c : Cursor). c.token) b.cursors c e))
  ]

  room_feed : (f : Open) (b : Books) (v : ℕ) → q f.token + (w b + v) ≤ 1 → w b + v ≤ room b → w b + v ≤ room (with_feed f b)
  room_feed f b v o r = elim (which (nat_eq f.token t)) [
    | inl e ↦ omega (arith, o, is_one f.token e)
    | inr e ↦ omega (arith, r, ap (λ z. room_of (there (λ (c : Cursor). c.token) b.cursors) z) (there_append (λ (f : Open). f.token) b.feeds f e))
  ]

  -- where a token has no feed, or a cursor
  no_feed : (u : ℕ) (b : Books) → is_some (feed_of u b.feeds) ≡ false → q u + room b ≤ 1
  no_feed u b h = elim (which (nat_eq u t)) [
    | inl e ↦ omega (arith, q_most u, ap (λ z. room_of (there (λ (c : Cursor). c.token) b.cursors) z) (sym (has_feed u b.feeds e) ∙ h), none (there (λ (c : Cursor). c.token) b.cursors))
    | inr e ↦ omega (arith, is_none u e, room_le b)
  ]
    where
      none : (x : Bool) → room_of x false ≡ 0
      none true = refl
      none false = refl

  a_cursor : (u : ℕ) (b : Books) → is_some (cursor_of u b.cursors) ≡ true → q u + room b ≤ 1
  a_cursor u b h = elim (which (nat_eq u t)) [
    | inl e ↦ omega (arith, q_most u, ap (λ z. room_of z (there (λ (f : Open). f.token) b.feeds)) (sym (has_cursor u b.cursors e) ∙ h))
    | inr e ↦ omega (arith, is_none u e, room_le b)
  ]

  -- where a token has a feed, no cursor, and none waits
  may_wait : (u : ℕ) (b : Books) → is_some (cursor_of u b.cursors) ≡ false → is_some (feed_of u b.feeds) ≡ true → has_token u b.waiting ≡ false → w b + 0 ≤ room b → q u + (w b + 0) ≤ room b
  may_wait u b c f n r = elim (which (nat_eq u t)) [
    | inl e ↦ omega (arith, q_most u, times_not u b.waiting e n, (let g : room b ≡ 1 = (λ i. room_of ((sym (has_cursor u b.cursors e) ∙ c) i) ((sym (has_feed u b.feeds e) ∙ f) i)) in g))
    | inr e ↦ omega (arith, is_none u e, r)
  ]

  -- ---- what is owed, and what holds of a task
  abbrev due_back : Option (List ℕ) → ℕ
  due_back None = 0
  due_back (Some left) = times t left

  abbrev owes_some : ℕ → Option Answer → ℕ
  owes_some u None = 0
  owes_some u (Some a) = q u

  abbrev owes_after : ℕ → Option (List Arm) → ℕ
  owes_after u None = 0
  owes_after u (Some arms) = q u

  -- a feed may be lost only where none waits
  abbrev MayLose : Option (List Arm) → ℕ → Type 0
  MayLose None n = Unit {0}
  MayLose (Some arms) n = n ≤ 1

  may_lose : (lose : Option (List Arm)) (n : ℕ) → n ≤ 1 → MayLose lose n
  may_lose None n h = tt
  may_lose (Some arms) n h = h

  -- but for a plan's arms, an answer comes after a closing
  abbrev Firmly : Firm → Option Answer → Type 0
  Firmly Settled a = Unit {0}
  Firmly firm None = ⊥
  Firmly firm (Some a) = Unit {0}

  module _ {PL : Type 0} where
    abbrev owes : Task PL → ℕ
    owes (Planning u plan noreply count found arms) = cond (not noreply) (q u) 0
    owes (Visiting u arms points) = q u
    owes (Telling u a kept lose after) = q u
    owes (Closing u arms firm a) = owes_some u a

    abbrev owes_next : Option (Task PL) → ℕ
    owes_next None = 0
    owes_next (Some task) = owes task

    abbrev Fits : Books → ℕ → Task PL → Type 0
    Fits b v (Planning u plan noreply count found arms) = q u + (w b + v) ≤ 1
    Fits b v (Visiting u arms points) = q u + (w b + v) ≤ room b
    Fits b v (Telling u a kept lose after) = (w b ≡ w kept + owes_after u after) × (w kept + v ≤ room kept) × MayLose lose (q u + (w b + v))
    Fits b v (Closing u arms firm a) = (q u + (w b + v) ≤ 1) × Firmly firm a

    abbrev FitsNext : Books → ℕ → Option (Task PL) → Type 0
    FitsNext b v None = Unit {0}
    FitsNext b v (Some task) = Fits b v task

    -- what is next fits, where so many visits of the token are left, and so many answers are owed then
    record Good (v owed : ℕ) (y : Next PL) : Type 0 where
      fits : w y.books + v ≤ room y.books
      task : FitsNext y.books v y.task
      load : w y.books + owes_next y.task ≡ owed

    tell_good : (b : Books) (u : ℕ) (a : Answer) (v owed : ℕ) → w b + v ≤ room b → w b + q u ≡ owed → Good v owed (only_tell {PL = PL} b u a)
    tell_good b u a v owed r l = record { fits = r; task = (omega arith, r, tt); load = l }

    close_good : (b : Books) (u : ℕ) (arms : List Arm) (firm : Firm) (a : Option Answer) (v owed : ℕ) → w b + v ≤ room b → q u + (w b + v) ≤ 1 → Firmly firm a → w b + owes_some u a ≡ owed → Good v owed (close {PL = PL} b u arms firm a)
    close_good b u [] firm None v owed r o f l = record { fits = r; task = tt; load = l }
    close_good b u [] firm (Some a) v owed r o f l = tell_good b u a v owed r l
    close_good b u (arm ∷ arms) firm a v owed r o f l = record { fits = r; task = (o, f); load = l }

    closed_good : (b : Books) (u : ℕ) (arms : List Arm) (firm : Firm) (a : Option Answer) (v owed : ℕ) → w b + v ≤ room b → q u + (w b + v) ≤ 1 → Firmly firm a → w b + owes_some u a ≡ owed → Good v owed (close {PL = PL} (closed u b) u arms firm a)
    closed_good b u arms firm a v owed r o f l = let c = closes b u v o r in close_good (closed u b) u arms firm a v owed c.1 (omega (arith, c.0, o)) f (omega (arith, c.0, l))

    wanted_good : (b : Books) (task : Task PL) (v : ℕ) → w b + v ≤ room b → Fits b v task → Good v (w b + owes task) (wanted b task)
    wanted_good b (Planning u plan true count found arms) v r f = close_good b u arms Settled None v _ r f tt refl
    wanted_good b (Planning u plan false count found arms) v r f = close_good b u arms Settled (Some Internal) v _ r f tt refl
    wanted_good b (Visiting u arms points) v r f = tell_good b u Internal v _ r refl
    wanted_good b (Telling u a kept None after) v r f = tell_good b u Internal v _ r refl
    wanted_good b (Telling u a kept (Some arms) after) v r f = closed_good b u arms Settled (Some Internal) v _ r f.2 tt refl
    wanted_good b (Closing u arms Settled None) v r f = close_good b u arms Settled None v _ r f.0 tt refl
    wanted_good b (Closing u arms Settled (Some a)) v r f = close_good b u arms Settled (Some Internal) v _ r f.0 tt refl
    wanted_good b (Closing u arms Stops None) v r f = absurd f.1
    wanted_good b (Closing u arms Stops (Some a)) v r f = tell_good b u Internal v _ r refl
    wanted_good b (Closing u arms Drops None) v r f = absurd f.1
    wanted_good b (Closing u arms Drops (Some a)) v r f = tell_good b u Internal v _ r refl

    denied_good : (b : Books) (task : Task PL) (slot : ℕ) (cmd : Cmd) (v : ℕ) → w b + v ≤ room b → Fits b v task → Good v (w b + owes task) (denied b task slot cmd)
    denied_good b (Planning u plan noreply count found arms) slot cmd v r f = wanted_good b (Planning u plan noreply count found (arms_denied slot cmd arms)) v r f
    denied_good b (Visiting u arms points) slot cmd v r f = tell_good b u Internal v _ r refl
    denied_good b (Telling u a kept lose after) slot cmd v r f = wanted_good b (Telling u a kept lose after) v r f
    denied_good b (Closing u [] firm a) slot cmd v r f = wanted_good b (Closing u [] firm a) v r f
    denied_good b (Closing u (arm ∷ arms) Stops None) slot cmd v r f = absurd f.1
    denied_good b (Closing u (arm ∷ arms) Stops (Some a)) slot cmd v r f = tell_good b u Internal v _ r refl
    denied_good b (Closing u (arm ∷ arms) Drops a) slot cmd v r f = closed_good b u arms Settled a v _ r f.0 tt refl
    denied_good b (Closing u (arm ∷ arms) Settled a) slot cmd v r f = closed_good b u arms Settled a v _ r f.0 tt refl

    told_good : (b : Books) (u : ℕ) (kept : Books) (after : Option (List Arm)) (v : ℕ) → w b + v ≤ room b → w b ≡ w kept + owes_after u after → w kept + v ≤ room kept → Good v (w b) (told {PL = PL} u kept after)
    told_good b u kept None v r same rk = record { fits = rk; task = tt; load = omega (arith, same) }
    told_good b u kept (Some arms) v r same rk = close_good kept u arms Stops (Some (Last [] None)) v (w b) rk (omega (arith, r, same, room_le b)) tt (omega (arith, same))

  module _ {PL : Type 0} (k : Talk PL) where
    tell_kept : (b : Books) (u : ℕ) (a : Answer) (kept : Books) (arms : List Arm) (lose : Option (List Arm)) (v owed : ℕ) → w b + v ≤ room b → q u + (w b + v) ≤ 1 → w kept ≡ w b → w kept + v ≤ room kept → w b + q u ≡ owed →
        Good v owed (tell k b u a kept arms lose)
    tell_kept b u a kept arms lose v owed r o same rk l = either (Good v owed) (is_long k a) (cut k b u a arms) (at b (Telling u a kept lose None))
        (λ _. closed_good b u arms Settled (Some (cut_to k a)) v owed r o tt l)
        (λ _. record { fits = r; task = (omega (arith, same), rk, may_lose lose (q u + (w b + v)) o); load = l })

    refuse_good : (b : Books) (u : ℕ) (noreply : Bool) (a : Answer) (v : ℕ) → w b + v ≤ room b → Good v (w b + cond (not noreply) (q u) 0) (refuse k b u noreply a)
    refuse_good b u true a v r = record { fits = r; task = tt; load = refl }
    refuse_good b u false a v r = tell_good b u (fitted k a) v _ r refl

    -- ---- a CONTINUE and a STOP
    continue_cursor_good : (b : Books) (c : Cursor) (v owed : ℕ) → w b + v ≤ room b → q c.token + (w b + v) ≤ 1 → w b + q c.token ≡ owed → Good v owed (continue_cursor k b c)
    continue_cursor_good b c v owed r o l = either (Good v owed) (nat_le (length c.rest) c.batch) _ _
        (λ _. let z = closes b c.token v o r in tell_kept b c.token (Last c.rest None) (closed c.token b) [] None v owed r o z.0 z.1 l)
        (λ _. tell_kept b c.token _ (with_rest c.token (drop c.batch c.rest) b) [] None v owed r o refl (omega (arith, r, room_rest c.token (drop c.batch c.rest) b)) l)

    continue_left_good : (b : Books) (f : Open) (left : List Shown) (v owed : ℕ) → q f.token + (w b + v) ≤ room b → w b + q f.token ≡ owed → Good v owed (continue_left k b f left)
    continue_left_good b f [] v owed h l = record { fits = omega (arith, h); task = h; load = l }
    continue_left_good b f (x ∷ xs) v owed h l = tell_kept b f.token _ (with_left f.token (drop f.batch (x ∷ xs)) b) f.arms None v owed (omega (arith, h)) (omega (arith, h, room_le b)) refl (omega (arith, h, room_left f.token (drop f.batch (x ∷ xs)) b)) l

    continue_feed_good : (b : Books) (u : ℕ) (o : Option Open) → is_some (cursor_of u b.cursors) ≡ false → feed_of u b.feeds ≡ o → w b + 0 ≤ room b → Good 0 (w b + q u) (continue_feed k b u o)
    continue_feed_good b u None c e r = tell_good b u _ 0 _ r refl
    continue_feed_good b u (Some f) c e r = either (Good 0 (w b + q u)) (has_token u b.waiting) _ _
        (λ _. tell_good b u _ 0 _ r refl)
        (λ n. let s = same_token f.token u (found_token 0 0 false u b.feeds f e) in
        continue_left_good b f f.left 0 (w b + q u) (omega (arith, s, may_wait u b c (ap (λ z. is_some z) e) n r)) (omega (arith, s)))

    continue_good : (b : Books) (u : ℕ) (o : Option Cursor) → cursor_of u b.cursors ≡ o → w b + 0 ≤ room b → Good 0 (w b + q u) (continue_on k b u o)
    continue_good b u None e r = continue_feed_good b u (feed_of u b.feeds) (ap (λ z. is_some z) e) refl r
    continue_good b u (Some c) e r =
        let s = same_token c.token u (cursor_token u b.cursors c e) in
        continue_cursor_good b c 0 (w b + q u) r (omega (arith, s, r, a_cursor u b (ap (λ z. is_some z) e))) (omega (arith, s))

    stop_feed_good : (b : Books) (u : ℕ) (o : Option Open) → w b + 0 ≤ room b → Good {PL = PL} 0 (w b + q u) (stop_feed b u o)
    stop_feed_good b u None r = tell_good b u (Last [] None) 0 _ r refl
    stop_feed_good b u (Some f) r = either (Good 0 (w b + q u)) (has_token u b.waiting) _ _
        (λ h. let z = waited h (which (nat_eq u t)) in record { fits = r; task = (z, omega (arith, r, z), tt); load = refl })
        (λ n. close_good b u f.arms Stops (Some (Last [] None)) 0 (w b + q u) r (alone n (which (nat_eq u t))) tt refl)
      where
        waited : has_token u b.waiting ≡ true → (nat_eq u t ≡ true) ⊎ (nat_eq u t ≡ false) → w b ≡ times t (without u b.waiting) + q u
        waited h (inl e) = omega (arith, r, room_le b, times_has u b.waiting e h, times_out u b.waiting e, is_one u e)
        waited h (inr e) = omega (arith, times_kept u b.waiting e, is_none u e)

        alone : has_token u b.waiting ≡ false → (nat_eq u t ≡ true) ⊎ (nat_eq u t ≡ false) → q u + (w b + 0) ≤ 1
        alone h (inl e) = omega (arith, times_not u b.waiting e h, q_most u)
        alone h (inr e) = omega (arith, r, room_le b, is_none u e)

    stop_good : (b : Books) (u : ℕ) (o : Option Cursor) → cursor_of u b.cursors ≡ o → w b + 0 ≤ room b → Good {PL = PL} 0 (w b + q u) (stop b u o)
    stop_good b u None e r = stop_feed_good b u (feed_of u b.feeds) r
    stop_good b u (Some c) e r =
        let z = closes b u 0 (omega (arith, r, a_cursor u b (ap (λ z. is_some z) e))) r in
        record { fits = r; task = (omega (arith, z.0), z.1, tt); load = refl }

    begin_good : (b : Books) (u : ℕ) (x : Asked PL) → w b + 0 ≤ room b → Good 0 (w b + cond (wants x) (q u) 0) (begin k b u x)
    begin_good b u (Unreadable noreply text) r = refuse_good b u noreply _ 0 r
    begin_good b u (Unplanned noreply text) r = either (Good 0 (w b + cond (not noreply) (q u) 0)) (is_open u b) _ _ (λ _. refuse_good b u noreply _ 0 r) (λ _. refuse_good b u noreply _ 0 r)
    begin_good b u (Start noreply plan) r = either (Good 0 (w b + cond (not noreply) (q u) 0)) (is_open u b) _ _ (λ _. refuse_good b u noreply _ 0 r)
        (λ h. record { fits = r; task = omega (arith, r, no_feed u b (or_false (is_some (cursor_of u b.cursors)) (is_some (feed_of u b.feeds)) h).1); load = refl })
    begin_good b u Continue r = continue_good b u (cursor_of u b.cursors) refl r
    begin_good b u Stop r = stop_good b u (cursor_of u b.cursors) refl r
    begin_good b u NoreplyWait r = tell_good b u _ 0 _ r refl
    begin_good b u ServerInfo r = tell_good b u _ 0 _ r refl

    takes_up_good : (b : Books) (u : ℕ) (body : List ℕ) (is_read : Bool) → w b + 0 ≤ room b → Good 0 (w b + cond (wants_answer k body is_read) (q u) 0) (takes_up k b u body is_read)
    takes_up_good b u body true r = begin_good b u (k.asked body) r
    takes_up_good b u body false r = tell_good b u Internal 0 _ r refl

    -- ---- a visit
    visit_feed_good : (b : Books) (u : ℕ) (v : ℕ) (o : Option Open) → feed_of u b.feeds ≡ o → q u + (w b + v) ≤ room b → Good v (w b + q u) (visit_feed k b u o)
    visit_feed_good b u v None e h = let n = no_feed u b (ap (λ z. is_some z) e) in record { fits = omega (arith, h); task = tt; load = omega (arith, h, n) }
    visit_feed_good b u v (Some f) e h = let s = same_token f.token u (found_token 0 0 false u b.feeds f e) in continue_left_good b f f.left v (w b + q u) (omega (arith, s, h)) (omega (arith, s))

    -- ---- a Take
    waits_good : (b : Books) (u : ℕ) (v owed : ℕ) → q u + (w b + v) ≤ room b → w b + q u ≡ owed → Good {PL = PL} v owed (done (waits u b))
    waits_good b u v owed h l = let a = times_append b.waiting u in record { fits = omega (arith, h, a); task = tt; load = omega (arith, a, l) }

    next_arm_good : (b : Books) (u : ℕ) (arms : List Arm) (points : List Point) (v owed : ℕ) → q u + (w b + v) ≤ room b → w b + q u ≡ owed → Good v owed (next_arm k b u arms points)
    next_arm_good b u [] points v owed h l = waits_good b u v owed h l
    next_arm_good b u (arm ∷ arms) points v owed h l = record { fits = omega (arith, h); task = h; load = l }

    batch_good : (b : Books) (f : Open) (n : ℕ) (arm : Arm) (points : List Point) (skipped last : ℕ) (items : List (ℕ × Plain)) (v owed : ℕ) → q f.token + (w b + v) ≤ room b → w b + q f.token ≡ owed → Good v owed (batch_of k b f n arm points skipped last items)
    batch_good b f n arm points skipped last items v owed h l = either (Good v owed) (is_empty (skipped_item n arm skipped last ++ change_items n arm items)) _ _
        (λ _. waits_good b f.token v owed h l)
        (λ _. tell_kept b f.token _ (with_left f.token (drop f.batch (change_items n arm items)) b) f.arms (Some f.arms) v owed (omega (arith, h)) (omega (arith, h, room_le b)) refl (omega (arith, h, room_left f.token (drop f.batch (change_items n arm items)) b)) l)

    gone_good : (b : Books) (f : Open) (arm : Arm) (points : List Point) (arms : List Arm) (v owed : ℕ) → q f.token + (w b + v) ≤ room b → w b + q f.token ≡ owed → Good v owed (gone k b f arm points arms)
    gone_good b f arm points [] v owed h l = let z = closes b f.token v (omega (arith, h, room_le b)) (omega (arith, h)) in record { fits = omega (arith, h); task = (omega (arith, z.0), z.1, tt); load = l }
    gone_good b f arm points (x ∷ xs) v owed h l = record { fits = omega (arith, h); task = (omega (arith, h, room_le b), tt); load = l }

    took_said_good : (b : Books) (f : Open) (arm : Arm) (arms : List Arm) (points : List Point) (s : Said Summary Plain) (v owed : ℕ) → q f.token + (w b + v) ≤ room b → w b + q f.token ≡ owed → Good v owed (took_said k b f arm arms points s)
    took_said_good b f arm arms points (said_as.Batch skipped last items) v owed h l = batch_good b f _ arm points skipped last items v owed h l
    took_said_good b f arm arms points said_as.Gone v owed h l = gone_good b f arm points (others arm f.arms) v owed h l
    took_said_good b f arm arms points (said_as.HistoryFull count) v owed h l = closed_good b f.token f.arms Settled _ v owed (omega (arith, h)) (omega (arith, h, room_le b)) tt l
    took_said_good b f arm arms points other v owed h l = next_arm_good b f.token arms points v owed h l

    ran_good : (b : Books) (task : Task PL) (slot : ℕ) (order : Order) (reply : Told) (saved : Saved) (v : ℕ) → w b + v ≤ room b → Fits b v task → Runs k b task slot order → Good v (w b + owes task) (ran k b task slot order.cmd reply saved)
    ran_good b (Planning u plan noreply count found arms) slot order reply saved v r f x = record { fits = r; task = f; load = refl }
    ran_good b (Visiting u [] points) slot order reply saved v r f x = absurd x
    ran_good b (Visiting u (arm ∷ arms) points) slot order reply saved v r f x =
        let s = same_token x.0.token u (found_token 0 0 false u b.feeds x.0 x.1) in
        subst (λ o. Good v (w b + q u) (took k b u arm arms points reply o)) (sym x.1) (took_said_good b x.0 arm arms _ reply.said v (w b + q u) (omega (arith, s, f)) (omega (arith, s)))
    ran_good b (Telling u a kept lose after) slot order reply saved v r f x = absurd x
    ran_good b (Closing u [] firm a) slot order reply saved v r f x = absurd x
    ran_good b (Closing u (arm ∷ arms) firm a) slot order reply saved v r f x = closed_good b u arms Settled a v _ r f.0 tt refl

    found_good : (b : Books) (task : Task PL) (x : Found) (move : Move) (v : ℕ) → w b + v ≤ room b → Fits b v task → Asks k task move → Good v (w b + owes task) (found_more k b task x)
    found_good b (Planning u plan noreply count found arms) x move v r f a = record { fits = r; task = f; load = refl }
    found_good b (Visiting u arms points) x move v r f a = absurd a
    found_good b (Telling u s kept lose after) x move v r f a = absurd a
    found_good b (Closing u arms firm s) x move v r f a = absurd a

    -- what a plan comes to, where an answer is wanted
    comes_good : (b : Books) (u batch : ℕ) (found : List Found) (arms : List Arm) (to : Answered) (v : ℕ) → w b + v ≤ room b → q u + (w b + v) ≤ 1 → (to ≡ Unsent → ⊥) → Good v (w b + q u) (comes_to k b u batch found arms to)
    comes_good b u batch found arms Unsent v r o n = absurd (n refl)
    comes_good b u batch found arms (One x) v r o n = close_good b u arms Settled _ v _ r o tt refl
    comes_good b u batch found arms (Stream xs) v r o n = either (Good v (w b + q u)) (nat_le (length xs) batch) _ _
        (λ _. close_good b u arms Settled _ v _ r o tt refl)
        (λ _. let c : Cursor = record { token = u; rest = drop batch xs; batch = batch } in tell_kept b u _ (with_cursor c b) arms None v _ r o refl (room_cursor c b v o r) refl)
    comes_good b u batch found arms (Feed feed notes items) v r o n =
        let f : Open = record { token = u; arms = feed; left = drop batch items; batch = batch; notes = notes } in
        tell_kept b u _ (with_feed f b) feed (Some feed) v _ r o refl (room_feed f b v o r) refl
    comes_good b u batch found arms (Fault error text) v r o n = close_good b u arms Settled _ v _ r o tt refl
    comes_good b u batch found arms Wanting v r o n = close_good b u arms Settled _ v _ r o tt refl

    module _ (quiet : (plan : PL) (count : ℕ) (found : List Found) (a : Answered) → k.next plan true count found ≡ Ends a → a ≡ Unsent) (loud : (plan : PL) (count : ℕ) (found : List Found) → k.next plan false count found ≡ Ends Unsent → ⊥) where
      ends_good : (b : Books) (u batch : ℕ) (plan : PL) (noreply : Bool) (count : ℕ) (found : List Found) (arms : List Arm) (to : Answered) (v : ℕ) → w b + v ≤ room b → q u + (w b + v) ≤ 1 → k.next plan noreply count found ≡ Ends to →
          Good v (w b + cond (not noreply) (q u) 0) (comes_to k b u batch found arms to)
      ends_good b u batch plan true count found arms to v r o e = subst (λ z. Good v (w b + 0) (comes_to k b u batch found arms z)) (sym (quiet plan count found to e)) (close_good b u arms Settled None v _ r o tt refl)
      ends_good b u batch plan false count found arms to v r o e = comes_good b u batch found arms to v r o (λ z. loud plan count found (e ∙ ap (λ a. Ends a) z))

      -- ---- a step
      abbrev load : Books → Doing PL → ℕ
      load b Rest = w b
      load b (Visits left) = w b + times t left
      load b (Busy back task) = (w b + owes task) + due_back back
      load b (Leaving arms end) = w b

      abbrev Holds : Books → Doing PL → Type 0
      Holds b Rest = w b + 0 ≤ room b
      Holds b (Visits left) = w b + times t left ≤ room b
      Holds b (Busy back task) = (w b + due_back back ≤ room b) × Fits b (due_back back) task
      Holds b (Leaving arms end) = w b + 0 ≤ room b

      -- after so many answers that were wanted, and so many that were said
      record Fair (m n : Mach PL) (asked told : ℕ) : Type 0 where
        holds : Holds n.books n.doing
        most : told + load n.books n.doing ≤ asked + load m.books m.doing
        even : (told + load n.books n.doing ≡ asked + load m.books m.doing) ⊎ IsBroken n.doing

      next_holds : (b : Books) (back : Option (List ℕ)) (task : Option (Task PL)) → w b + due_back back ≤ room b → FitsNext b (due_back back) task → Holds b (doing_next back task) × (load b (doing_next back task) ≡ (w b + owes_next task) + due_back back)
      next_holds b None None r f = (r, omega arith)
      next_holds b (Some left) None r f = (r, omega arith)
      next_holds b back (Some task) r f = ((r, f), refl)

      -- to other books and another doing
      fair : (m n x : Mach PL) (asked told : ℕ) → n ≡ x → Holds x.books x.doing → told + load x.books x.doing ≡ asked + load m.books m.doing → Fair m n asked told
      fair m n x asked told e h l = subst (λ (z : Mach PL). Fair m z asked told) (sym e) (record { holds = h; most = omega (arith, l); even = inl l })

      goes_fair : (m n x : Mach PL) (back : Option (List ℕ)) (y : Next PL) (owed asked told : ℕ) → n ≡ goes_on x back y → Good (due_back back) owed y → told + (owed + due_back back) ≡ asked + load m.books m.doing → Fair m n asked told
      goes_fair m n x back y owed asked told e g l =
          let h = next_holds y.books back y.task g.fits g.task in
          fair m n (goes_on x back y) asked told e h.0 (omega (arith, h.1, g.load, l))

      held_at : (m : Mach PL) (d : Doing PL) → m.doing ≡ d → Holds m.books m.doing → Holds m.books d
      held_at m d e h = subst (λ z. Holds m.books z) e h

      load_at : (m : Mach PL) (d : Doing PL) → m.doing ≡ d → load m.books m.doing ≡ load m.books d
      load_at m d e = ap (λ z. load m.books z) e

      on : (m n : Mach PL) (back : Option (List ℕ)) (task : Task PL) (y : Next PL) → m.doing ≡ Busy back task → n ≡ goes_on m back y → Good (due_back back) (w m.books + owes task) y → Fair m n 0 0
      on m n back task y d e g = goes_fair m n m back y (w m.books + owes task) 0 0 e g (omega (arith, load_at m (Busy back task) d))

      planned : (m n : Mach PL) (move : Move) (b : Books) (x : Found) → Plans k m move b x n → w b ≡ w m.books → room b ≡ room m.books → ((task : Task PL) (v : ℕ) → Asks k task move → Fits m.books v task → Fits b v task) → Holds m.books m.doing → Fair m n 0 0
      planned m n move b x s sw sr keep h =
          let f = held_at m (Busy s.back s.task) s.doing h in
          let g = found_good b s.task x move (due_back s.back) (omega (arith, f.0, sw, sr)) (keep s.task (due_back s.back) s.asks f.1) s.asks in
          goes_fair m n m s.back (found_more k b s.task x) (w b + owes s.task) 0 0 s.goes g (omega (arith, sw, load_at m (Busy s.back s.task) s.doing))

      saw : (place : ℕ) (b : Books) (move : Move) (task : Task PL) (v : ℕ) → Asks k task move → Fits b v task → Fits (saw_names place b) v task
      saw place b move (Planning u plan noreply count found arms) v a f = f
      saw place b move (Visiting u arms points) v a f = absurd a
      saw place b move (Telling u s kept lose after) v a f = absurd a
      saw place b move (Closing u arms firm s) v a f = absurd a

      refused : (m n : Mach PL) (move : Move) → PlanDenied k m move n → Holds m.books m.doing → Fair m n 0 0
      refused m n move s h = let f = held_at m (Busy s.back s.task) s.doing h in on m n s.back s.task _ s.doing s.goes (wanted_good m.books s.task (due_back s.back) f.0 f.1)

      by_arm : (m n : Mach PL) (slot : ℕ) (arm : Arm) → LeavesArm k m slot arm n → Holds m.books m.doing → Fair m n 0 0
      by_arm m n slot arm s h = fair m n _ 0 0 s.goes (held_at m (Leaving (arm ∷ s.arms) s.end) s.doing h) (omega (arith, load_at m (Leaving (arm ∷ s.arms) s.end) s.doing))

      -- from the visits, with none left, or from between turns, to an end or to there
      moves : (m n x : Mach PL) (d : Doing PL) → m.doing ≡ d → n ≡ x → Holds x.books x.doing → load x.books x.doing ≡ load m.books d → Fair m n 0 0
      moves m n x d e g h l = fair m n x 0 0 g h (omega (arith, l, load_at m d e))

      step_fair : (m n : Mach PL) (e : Event) → Step k m e n → Holds m.books m.doing → Fair m n (wanted_of k t e) (said_of t e)
      step_fair m n Turn s h = let f = held_at m Rest s.0 h in moves m n _ Rest s.0 s.1 (omega (arith, f)) (omega arith)
      step_fair m n Visit s h =
          let f = held_at m (Visits (s.0 ∷ s.1)) s.2 h in
          goes_fair m n m (Some s.1) (visit k m.books s.0) (w m.books + q s.0) 0 0 s.3 (visit_feed_good m.books s.0 (times t s.1) (feed_of s.0 m.books.feeds) refl (omega (arith, f))) (omega (arith, load_at m (Visits (s.0 ∷ s.1)) s.2))
      step_fair m n (Greeted true) s h =
          let f = held_at m (Visits []) s.0 h in
          elim s.2 [ inl g ↦ moves m n _ (Visits []) s.0 g.4 f (omega arith) | inr g ↦ moves m n _ (Visits []) s.0 g.4 f (omega arith) ]
      step_fair m n (Greeted false) s h =
          let f = held_at m (Visits []) s.0 h in
          elim s.2 [ inl g ↦ moves m n _ (Visits []) s.0 g.4 f (omega arith) | inr g ↦ moves m n _ (Visits []) s.0 g.4 f (omega arith) ]
      step_fair m n (Login true) s h =
          let f = held_at m (Visits []) s.0 h in
          elim s.2 [
            | inl g ↦ moves m n _ (Visits []) s.0 g.5 f (omega arith)
            | inr r ↦ elim r [ inl g ↦ moves m n _ (Visits []) s.0 g.4 f (omega arith) | inr g ↦ moves m n _ (Visits []) s.0 g.3 f (omega arith) ]
          ]
      step_fair m n (Login false) s h =
          let f = held_at m (Visits []) s.0 h in
          elim s.2 [
            | inl g ↦ moves m n _ (Visits []) s.0 g.5 f (omega arith)
            | inr r ↦ elim r [ inl g ↦ moves m n _ (Visits []) s.0 g.4 f (omega arith) | inr g ↦ moves m n _ (Visits []) s.0 g.3 f (omega arith) ]
          ]
      step_fair m n (Cast bytes) s h = moves m n _ (Visits []) s.0 s.2 (held_at m (Visits []) s.0 h) refl
      step_fair m n (Begin frame is_read) s h =
          let f = held_at m (Visits []) s.1 h in
          goes_fair m n (record m { held = s.0 }) None (takes_up k m.books frame.token frame.body is_read) (w m.books + wanted_of k t (Begin frame is_read)) (wanted_of k t (Begin frame is_read)) 0 s.5
          (takes_up_good m.books frame.token frame.body is_read f) (omega (arith, load_at m (Visits []) s.1))
      step_fair m n (Heard bytes) s h = moves m n _ (Visits []) s.0.0 s.2 (held_at m (Visits []) s.0.0 h) (omega arith)
      step_fair m n (Lost bytes) s h = moves m n _ (Visits []) s.0.0 s.2 (held_at m (Visits []) s.0.0 h) (omega arith)
      step_fair m n Quiet s h = moves m n _ (Visits []) s.0.0 s.1 (held_at m (Visits []) s.0.0 h) (omega arith)
      step_fair m n Finish s h = moves m n _ (Visits []) s.0.0 s.1 (held_at m (Visits []) s.0.0 h) (omega arith)
      step_fair m n Broken s h = moves m n _ (Visits []) s.0.0 s.1 (held_at m (Visits []) s.0.0 h) (omega arith)
      step_fair m n (Long len) s h = moves m n _ (Visits []) s.0 s.3 (held_at m (Visits []) s.0 h) (omega arith)
      step_fair m n Wear s h = moves m n _ Rest s.0 s.1 (held_at m Rest s.0 h) refl
      step_fair m n Poor s h = elim s.0 [
        | inl d ↦ moves m n _ (Visits []) d.0 s.1 (held_at m (Visits []) d.0 h) (omega arith)
        | inr x ↦ elim x [
          | inl d ↦ moves m n _ Rest d.0 s.1 (held_at m Rest d.0 h) refl
          | inr d ↦ moves m n _ (Visits []) d.0 s.1 (held_at m (Visits []) d.0 h) (omega arith)
        ]
      ]
      step_fair m n (On slot (Ran place order reply) saved) s h = elim s [
        | inl x ↦ (let f = held_at m (Busy x.back x.task) x.doing h in on m n x.back x.task _ x.doing x.goes (ran_good m.books x.task slot order reply saved (due_back x.back) f.0 f.1 x.runs))
        | inr x ↦ by_arm m n slot x.0 x.2 h
      ]
      step_fair m n (On slot (Looked place question look) saved) s h = planned m n _ m.books _ s refl refl (λ task v a f. f) h
      step_fair m n (On slot (Denied place) saved) s h = elim s [
        | inl x ↦ (let f = held_at m (Busy x.back x.task) x.doing h in on m n x.back x.task _ x.doing x.goes (denied_good m.books x.task slot x.order.cmd (due_back x.back) f.0 f.1))
        | inr y ↦ elim y [ inl x ↦ refused m n _ x h | inr x ↦ by_arm m n slot x.0 x.1 h ]
      ]
      step_fair m n (OnNames (Ran place cmd reply)) s h = planned m n _ (saw_names reply.place m.books) _ s refl refl (λ task v a f. saw reply.place m.books _ task v a f) h
      step_fair m n (OnNames (Looked place question names)) s h = planned m n _ (saw_names place m.books) _ s refl refl (λ task v a f. saw place m.books _ task v a f) h
      step_fair m n (OnNames (Denied place)) s h = elim s [ inl x ↦ refused m n _ x h | inr x ↦ refused m n _ x.1 h ]
      step_fair m n (Clock moment) s h = planned m n _ m.books _ s refl refl (λ task v a f. f) h
      step_fair m n (Dice bytes) s h = planned m n _ m.books _ s refl refl (λ task v a f. f) h
      step_fair m n Come s h =
          let f = held_at m (Busy s.back (Planning s.token s.plan s.noreply s.count s.found s.arms)) s.doing h in
          on m n s.back (Planning s.token s.plan s.noreply s.count s.found s.arms) _ s.doing s.goes (ends_good m.books s.token (batch_size k s.plan) s.plan s.noreply s.count s.found s.arms s.to (due_back s.back) f.0 f.1 s.ends)
      step_fair m n (Say token a true) s h =
          let f = held_at m (Busy s.back (Telling token a s.kept s.lose s.after)) s.doing h in
          let l = load_at m (Busy s.back (Telling token a s.kept s.lose s.after)) s.doing in
          let g = told_good m.books token s.kept s.after (due_back s.back) f.0 f.1.0 f.1.1 in
          let x = next_holds (told {PL = PL} token s.kept s.after).books s.back (told {PL = PL} token s.kept s.after).task g.fits g.task in
          fair m n _ 0 (q token) s.goes x.0 (omega (arith, x.1, g.load, l))
      step_fair m n (Say token a false) s h =
          let f = held_at m (Busy s.back (Telling token a s.kept s.lose s.after)) s.doing h in
          let l = load_at m (Busy s.back (Telling token a s.kept s.lose s.after)) s.doing in
          subst (λ (z : Mach PL). Fair m z 0 (q token)) (sym s.goes) (record { holds = omega (arith, f.0); most = omega (arith, l); even = inr tt })
      step_fair m n Want s h = let f = held_at m (Busy s.back s.task) s.doing h in on m n s.back s.task _ s.doing s.goes (wanted_good m.books s.task (due_back s.back) f.0 f.1)

      fair_run : (m n : Mach PL) (es : List Event) → Run k m es n → Holds m.books m.doing → Fair m n (answering.wanted k t es) (answering.said t es)
      fair_run m n [] r h = fair m n m 0 0 r h refl
      fair_run m n (e ∷ es) r h =
          let a = step_fair m r.0 e r.1 h in
          let b = fair_run r.0 n es r.2 a.holds in
          record {
            holds = b.holds;
            most = omega (arith, a.most, b.most);
            even = elim a.even [ inl x ↦ elim b.even [ inl y ↦ inl (omega (arith, x, y)) | inr y ↦ inr y ] | inr x ↦ inr (all_closing k r.0 n es r.2 x).1 ];
          }

      load_least : (b : Books) (d : Doing PL) → w b ≤ load b d
      load_least b Rest = omega arith
      load_least b (Visits left) = omega arith
      load_least b (Busy back task) = omega arith
      load_least b (Leaving arms end) = omega arith

      load_still : (b : Books) (d : Doing PL) → IsStill d → load b d ≡ w b
      load_still b Rest h = refl
      load_still b (Visits []) h = omega arith
      load_still b (Visits (x ∷ xs)) h = absurd h
      load_still b (Busy back task) h = absurd h
      load_still b (Leaving arms end) h = refl

      not_broken : {A : Type 0} (d : Doing PL) → IsStill d → IsBroken d → A
      not_broken Rest h x = absurd x
      not_broken (Visits left) h x = absurd x
      not_broken (Busy back task) h x = absurd x
      not_broken (Leaving arms ends.WriteFault) h x = absurd h
      not_broken (Leaving arms end) h x = absurd x

      waits_one : (b : Books) (d : Doing PL) → Holds b d → w b ≤ 1
      waits_one b Rest h = omega (arith, h, room_le b)
      waits_one b (Visits left) h = omega (arith, h, room_le b)
      waits_one b (Busy back task) h = omega (arith, h.0, room_le b)
      waits_one b (Leaving arms end) h = omega (arith, h, room_le b)

      answered : (es : List Event) (m : Mach PL) → Run k fresh es m → Answers k t es m
      answered es m r =
          let f = fair_run fresh m es r (omega arith) in
          record {
            one = waits_one m.books m.doing f.holds;
            most = omega (arith, f.most, load_least m.books m.doing);
            all = λ s. elim f.even [ inl x ↦ omega (arith, x, load_still m.books m.doing s) | inr x ↦ not_broken m.doing s x ];
          }

module _ {PL : Type 0} (k : Talk PL) (on : PL → Bool → ℕ → List Found → List Arm → Type 0) (minds : PlansMind k on) where
  pub each_is_answered : EachIsAnswered k
  each_is_answered es m r token = answered token k minds.quiet minds.loud es m r

  -- whose CONTINUE is asking, or whose plan is going on, doesn't wait
  alone_at : (t : ℕ) (es : List Event) (m : Mach PL) → Run k fresh es m → (back : Option (List ℕ)) (task : Task PL) → m.doing ≡ Busy back task → (Fits t m.books (due_back t back) task → 1 + w t m.books ≤ 1) → has_token t m.books.waiting ≡ false
  alone_at t es m r back task d f =
      let h = (fair_run t k minds.quiet minds.loud fresh m es r (omega arith)).holds in
      let g : Holds t k minds.quiet minds.loud m.books (Busy back task) = subst (λ z. Holds t k minds.quiet minds.loud m.books z) d h in
      elim (which (has_token t m.books.waiting)) [
        | inl x ↦ absurd (omega (arith, f g.1, times_has t t m.books.waiting (eq-eqb t t refl) x))
        | inr x ↦ x
      ]

  pub asks_alone : (t : ℕ) (es : List Event) (m : Mach PL) → Run k fresh es m → (back : Option (List ℕ)) (arms : List Arm) (points : List Point) → m.doing ≡ Busy back (Visiting t arms points) → has_token t m.books.waiting ≡ false
  asks_alone t es m r back arms points d = alone_at t es m r back (Visiting t arms points) d (λ g. omega (arith, g, room_le t m.books, is_one t t (eq-eqb t t refl)))

  pub plans_alone : (t : ℕ) (es : List Event) (m : Mach PL) → Run k fresh es m → (back : Option (List ℕ)) (plan : PL) (noreply : Bool) (count : ℕ) (found : List Found) (arms : List Arm) → m.doing ≡ Busy back (Planning t plan noreply count found arms) → has_token t m.books.waiting ≡ false
  plans_alone t es m r back plan noreply count found arms d = alone_at t es m r back (Planning t plan noreply count found arms) d (λ g. omega (arith, g, is_one t t (eq-eqb t t refl)))
