-- Why feeds are closed, kept along a run.
use Rattle.std.proofs.Common.{◌≡◌, ◌⊎◌, inl, inr, ℕ, Bool, true, false, true≢false, cond, not, ◌||◌, filter, map, List, [], ◌∷◌, ◌++◌, take, drop, length, Option, Some, None, refl, sym, ap, subst, ◌∙◌, append_assoc, append-nil}
use Rattle.std.specs.Prelude.{nat_eq, nat_le, is_some}
use Rattle.std.proofs.lemmas.Bool.{eqb-true, eq-eqb}
use Rattle.reql_table_machine_spec.proofs.Items.{all_append}
use Rattle.reql_table_machine_spec.proofs.Tracking.{split}
use Rattle.reql_table_machine_spec.specs.declared.command.Said.{Said}
use Rattle.reql_table_machine_spec.specs.declared.command.Said.TheVariants as said_as
use Rattle.reql_answer.specs.Body.{Stamped}
use Rattle.reql_answer.specs.declared.error.ErrorType.TheVariants as errors
use Rattle.reql_datum.specs.Plain.{Plain}
use Rattle.reql_datum.specs.declared.point.Point.{Point}
use Rattle.reql_shared.specs.Acts.{Ran, Looked, Denied}
use Rattle.reql_table_spec.specs.Replies.{Answered as Told}
use Rattle.reql_table_spec.specs.declared.command.Cmd.{Cmd}
use Rattle.reql_table_spec.specs.declared.command.Order.{Order}
use Rattle.reql_table_spec.specs.declared.reply.Saved.{Saved}
use Rattle.reql_write_spec.specs.declared.command.Summary.{Summary}
use Rattle.reql_session_spec.specs.Requests.{Asked, Unreadable, Unplanned, Start, Continue, Stop, NoreplyWait, ServerInfo, Arm, Shown, Answered, Unsent, One, Stream, Feed, Fault, Wanting, Move, Found, SawNames, Clocked, SawSlot, ChangedNames, Rolled, Answer, Failed, Internal, Last, Part, Batch, points_from, stamped}
use Rattle.reql_session_spec.specs.Books.{Cursor, Open, Books, has_token, cursor_of, feed_of, is_open, closed, with_rest, with_left, with_cursor, with_feed, saw_names}
use Rattle.reql_session_spec.specs.Tasks.{Talk, Firm, Stops, Drops, Settled, Task, Planning, Visiting, Telling, Closing, Next, done, at, only_tell, close, internal_for, wanted, denied, told, stop_feed, stop, is_long, cut, tell, tell_now, comes_to, continue_cursor, continue_left, continue_feed, continue_on, visit_feed, visit, refuse, begin, takes_up, next_arm, batch_of, gone, took_said, took, ran, found_more, Runs, Asks, batch_size, is_empty, skipped_item, change_items, cut_to, fitted, others, arms_denied}
use Rattle.reql_session_spec.specs.Bodies.{full}
use Rattle.reql_session_spec.specs.Minding.{PlansMind}
use Rattle.reql_session_spec.specs.Session.{Event, Turn, Visit, Greeted, Login, Cast, Begin, Heard, Lost, Quiet, Finish, Broken, Long, Wear, Poor, On, OnNames, Dice, Clock, Come, Say, Want, Doing, Rest, Visits, Busy, Mach, fresh, Step, Run, doing_next, goes_on}
use Rattle.reql_session_spec.specs.Owed.{task_keeps, keeps, IsHere}
use Rattle.reql_session_spec.specs.Printed.{IsOpenAt}
use Rattle.reql_session_spec.specs.Endings.{IsFault, BeginsNone, IsStopped, Ends, TaskEnds, DoingEnds, EventEnds, FeedsEnd, DoingFaults, FeedsOpen}
use Rattle.reql_session_spec.proofs.Shelves.{which, or_false, or_true}
use Rattle.reql_session_spec.proofs.Printed.{feed_out, feed_kept, feed_left, feed_left_apart, feed_more, alone}

either : {A : Type 0} (P : A → Type 0) (x : Bool) (y z : A) → (x ≡ true → P y) → (x ≡ false → P z) → P (cond x y z)
either P true y z f g = f refl
either P false y z f g = g refl

twice : (x : Bool) → (x || x) ≡ true → x ≡ true
twice true h = h
twice false h = h

clash : {A : Type 0} {x : Bool} → x ≡ true → x ≡ false → A
clash a b = absurd (true≢false (sym a ∙ b))

module _ {PL : Type 0} (k : Talk PL) (τ : ℕ) (es : List Event) where
  abbrev o : Books → Bool
  o b = is_some (feed_of τ b.feeds)

  abbrev E : Option Answer → Type 0
  E a = Ends k τ es a

  record FitTelling (b : Books) (t : ℕ) (a : Answer) (kept : Books) (after : Option (List Arm)) : Type 0 where
    closes : o b ≡ true → o kept ≡ false → (t ≡ τ) × IsFault a
    opens : o b ≡ false → o kept ≡ true → nat_eq t τ ≡ true
    stops : nat_eq t τ ≡ true → (arms : List Arm) → after ≡ Some arms → IsStopped k τ es

  abbrev Fit : Books → Task PL → Type 0
  Fit b (Planning t plan noreply count found arms) = nat_eq t τ ≡ true → o b ≡ false
  Fit b (Visiting t arms points) = Unit {0}
  Fit b (Telling t a kept lose after) = FitTelling b t a kept after
  Fit b (Closing t arms firm a) = nat_eq t τ ≡ true → o b ≡ true → E a

  abbrev FitOption : Books → Option (Task PL) → Type 0
  FitOption b None = Unit {0}
  FitOption b (Some t) = Fit b t

  abbrev stands : Books → Option (Task PL) → Bool
  stands b None = o b || o b
  stands b (Some t) = o b || o (task_keeps b t)

  abbrev OptionEnds : Option (Task PL) → Type 0
  OptionEnds None = ⊥
  OptionEnds (Some t) = TaskEnds k τ es t

  -- where `w`, the token's feed was open
  module _ (w : Bool) where
    record Good (y : Next PL) : Type 0 where
      fits : FitOption y.books y.task
      shut : w ≡ true → stands y.books y.task ≡ false → OptionEnds y.task

    abbrev Up : Books → Type 0
    Up b = w ≡ true → o b ≡ true

    up_out : {A : Type 0} (b : Books) (x : Bool) → Up b → w ≡ true → (o b || x) ≡ false → A
    up_out b x up h s = clash (up h) (or_false (o b) x s).0

    closed_apart : (t : ℕ) (b : Books) → nat_eq t τ ≡ false → o (closed t b) ≡ o b
    closed_apart t b n = ap (λ z. is_some z) (feed_kept τ t b.feeds n)

    closed_own : (t : ℕ) (b : Books) → nat_eq t τ ≡ true → o (closed t b) ≡ false
    closed_own t b y = ap (λ z. is_some (feed_of τ (filter (λ (f : Open). not (nat_eq f.token z)) b.feeds))) (eqb-true t τ y) ∙ ap (λ z. is_some z) (feed_out τ b.feeds)

    -- an answer after which the token's feed is as it was
    tell_same : (b : Books) (t : ℕ) (a : Answer) (kept : Books) (lose : Option (List Arm)) → Up b → o kept ≡ o b → Good (at b (Telling t a kept lose None))
    tell_same b t a kept lose up e = record {
      fits = record { closes = λ x y. clash (e ∙ x) y; opens = λ x y. clash y (e ∙ x); stops = λ y arms h. absurd (let z : None ≡ Some arms = h in cc) };
      shut = λ h s. up_out b (o kept) up h s;
    }

    close_good : (b : Books) (t : ℕ) (arms : List Arm) (firm : Firm) (a : Option Answer) → Up b → (nat_eq t τ ≡ true → o b ≡ true → E a) → Good (close b t arms firm a)
    close_good b t [] firm None up e = record { fits = tt; shut = λ h s. up_out b (o b) up h s }
    close_good b t [] firm (Some a) up e = tell_same b t a b None up refl
    close_good b t (arm ∷ arms) firm a up e = record { fits = e; shut = λ h s. up_out b (o b) up h s }

    -- nothing of the token is open any more
    shut_own : (b : Books) (t : ℕ) (arms : List Arm) (firm : Firm) (a : Option Answer) → nat_eq t τ ≡ true → o b ≡ false → (w ≡ true → E a) → Good (close b t arms firm a)
    shut_own b t [] firm None y n e = record { fits = tt; shut = λ h s. absurd (e h) }
    shut_own b t [] firm (Some a) y n e = record {
      fits = record { closes = λ p q. clash p n; opens = λ p q. y; stops = λ p arms h. absurd (let z : None ≡ Some arms = h in cc) };
      shut = λ h s. (eqb-true t τ y, e h);
    }
    shut_own b t (arm ∷ arms) firm a y n e = record { fits = λ p q. clash q n; shut = λ h s. (eqb-true t τ y, e h) }

    shut_good : (b : Books) (t : ℕ) (arms : List Arm) (firm : Firm) (a : Option Answer) → (nat_eq t τ ≡ false → Up b) → (nat_eq t τ ≡ true → w ≡ true → E a) → Good (close (closed t b) t arms firm a)
    shut_good b t arms firm a up e = elim (which (nat_eq t τ)) [
      | inl y ↦ shut_own (closed t b) t arms firm a y (closed_own t b y) (e y)
      | inr n ↦ close_good (closed t b) t arms firm a (λ h. closed_apart t b n ∙ up n h) (λ y. clash y n)
    ]

    wants : (a : Option Answer) → E a → E (internal_for a)
    wants None e = e
    wants (Some a) e = inl tt

    from_stands : (b kept : Books) (t : ℕ) (a : Answer) (after : Option (List Arm)) → FitTelling b t a kept after → (w ≡ true → (o b || o kept) ≡ true) → nat_eq t τ ≡ false → Up b
    from_stands b kept t a after f s n h = elim (or_true (o b) (o kept) (s h)) [ inl x ↦ x | inr x ↦ elim (which (o b)) [ inl y ↦ y | inr y ↦ clash (f.opens y x) n ] ]

    internal_again : (b kept : Books) (t : ℕ) (a : Answer) (after : Option (List Arm)) → FitTelling b t a kept after → (w ≡ true → (o b || o kept) ≡ true) → Good (only_tell b t Internal)
    internal_again b kept t a after f s = record {
      fits = record { closes = λ x y. clash x y; opens = λ x y. clash y x; stops = λ y arms h. absurd (let z : None ≡ Some arms = h in cc) };
      shut = λ h n. let no = (or_false (o b) (o b) n).0 in elim (or_true (o b) (o kept) (s h)) [ inl x ↦ clash x no | inr x ↦ (eqb-true t τ (f.opens no x), inl tt) ];
    }

    once : (b : Books) → (w ≡ true → (o b || o b) ≡ true) → Up b
    once b s h = twice (o b) (s h)

    wanted_good : (b : Books) (task : Task PL) → Fit b task → (w ≡ true → stands b (Some task) ≡ true) → Good (wanted b task)
    wanted_good b (Planning t plan noreply count found arms) f s = close_good b t arms Settled (cond noreply None (Some Internal)) (once b s) (λ y x. clash x (f y))
    wanted_good b (Visiting t arms points) f s = tell_same b t Internal b None (once b s) refl
    wanted_good b (Telling t a kept None after) f s = internal_again b kept t a after f s
    wanted_good b (Telling t a kept (Some arms) after) f s = shut_good b t arms Settled (Some Internal) (from_stands b kept t a after f s) (λ y h. inl tt)
    wanted_good b (Closing t arms Settled a) f s = close_good b t arms Settled (internal_for a) (once b s) (λ y x. wants a (f y x))
    wanted_good b (Closing t arms Stops a) f s = tell_same b t Internal b None (once b s) refl
    wanted_good b (Closing t arms Drops a) f s = tell_same b t Internal b None (once b s) refl

    denied_good : (b : Books) (task : Task PL) (slot : ℕ) (cmd : Cmd) → Fit b task → (w ≡ true → stands b (Some task) ≡ true) → Good (denied b task slot cmd)
    denied_good b (Planning t plan noreply count found arms) slot cmd f s = close_good b t (arms_denied slot cmd arms) Settled (cond noreply None (Some Internal)) (once b s) (λ y x. clash x (f y))
    denied_good b (Visiting t arms points) slot cmd f s = wanted_good b (Visiting t arms points) f s
    denied_good b (Telling t a kept lose after) slot cmd f s = wanted_good b (Telling t a kept lose after) f s
    denied_good b (Closing t [] firm a) slot cmd f s = wanted_good b (Closing t [] firm a) f s
    denied_good b (Closing t (arm ∷ arms) Stops a) slot cmd f s = tell_same b t Internal b None (once b s) refl
    denied_good b (Closing t (arm ∷ arms) Drops a) slot cmd f s = shut_good b t arms Settled a (λ _. once b s) (λ y h. f y (once b s h))
    denied_good b (Closing t (arm ∷ arms) Settled a) slot cmd f s = shut_good b t arms Settled a (λ _. once b s) (λ y h. f y (once b s h))

    stop_feed_good : (b : Books) (t : ℕ) (g : Option Open) → Up b → (nat_eq t τ ≡ true → IsStopped k τ es) → Good (stop_feed b t g)
    stop_feed_good b t None up e = tell_same b t (Last [] None) b None up refl
    stop_feed_good b t (Some f) up e = either Good (has_token t b.waiting) _ _
        (λ _. record {
          fits = record { closes = λ x y. clash x y; opens = λ x y. clash y x; stops = λ y arms h. e y };
          shut = λ h s. up_out b (o b) up h s;
        })
        (λ _. close_good b t f.arms Stops (Some (Last [] None)) up (λ y x. inr (e y)))

    -- a token that has a cursor has no feed
    cursor_apart : (t : ℕ) (b : Books) (c : Cursor) → cursor_of t b.cursors ≡ Some c → (o b ≡ true → is_some (cursor_of τ b.cursors) ≡ false) → o b ≡ true → nat_eq t τ ≡ false
    cursor_apart t b c e lone h = elim (which (nat_eq t τ)) [
      | inl y ↦ clash (ap (λ z. is_some z) (ap (λ z. cursor_of z b.cursors) (sym (eqb-true t τ y)) ∙ e)) (lone h)
      | inr n ↦ n
    ]

    -- a cursor is closed
    tell_closed : (b : Books) (t : ℕ) (a : Answer) (lose : Option (List Arm)) → Up b → (o b ≡ true → nat_eq t τ ≡ false) → Good (at b (Telling t a (closed t b) lose None))
    tell_closed b t a lose up n = record {
      fits = record {
        closes = λ x y. clash (closed_apart t b (n x) ∙ x) y;
        opens = λ x y. elim (which (nat_eq t τ)) [ inl z ↦ z | inr z ↦ clash y (closed_apart t b z ∙ x) ];
        stops = λ y arms h. absurd (let z : None ≡ Some arms = h in cc);
      };
      shut = λ h s. up_out b (o (closed t b)) up h s;
    }

    stop_good : (b : Books) (t : ℕ) (c : Option Cursor) → cursor_of t b.cursors ≡ c → (o b ≡ true → is_some (cursor_of τ b.cursors) ≡ false) → Up b → (nat_eq t τ ≡ true → IsStopped k τ es) → Good (stop b t c)
    stop_good b t (Some c) e lone up s = tell_closed b t (Last [] None) None up (cursor_apart t b c e lone)
    stop_good b t None e lone up s = stop_feed_good b t (feed_of t b.feeds) up s

    long_good : (b : Books) (t : ℕ) (a : Answer) (kept : Books) (arms : List Arm) (lose : Option (List Arm)) → (nat_eq t τ ≡ false → Up b) → Good (at b (Telling t a kept lose None)) → Good (tell k b t a kept arms lose)
    long_good b t a kept arms lose up g = either Good (is_long k a) (cut k b t a arms) (at b (Telling t a kept lose None)) (λ _. shut_good b t arms Settled (Some (cut_to k a)) up (λ y h. inl tt)) (λ _. g)

    now_good : (b : Books) (t : ℕ) (a : Answer) → Up b → Good (tell_now k b t a)
    now_good b t a up = tell_same b t (fitted k a) b None up refl

    refuse_good : (b : Books) (t : ℕ) (noreply : Bool) (a : Answer) → Up b → Good (refuse k b t noreply a)
    refuse_good b t true a up = record { fits = tt; shut = λ h s. up_out b (o b) up h s }
    refuse_good b t false a up = now_good b t a up

    done_good : (b : Books) → Up b → Good (done b)
    done_good b up = record { fits = tt; shut = λ h s. up_out b (o b) up h s }

    -- ---- a CONTINUE
    continue_cursor_good : (b : Books) (c : Cursor) → Up b → (o b ≡ true → nat_eq c.token τ ≡ false) → Good (continue_cursor k b c)
    continue_cursor_good b c up n = either Good (nat_le (length c.rest) c.batch) _ _
        (λ _. long_good b c.token (Last c.rest None) (closed c.token b) [] None (λ _. up) (tell_closed b c.token (Last c.rest None) None up n))
        (λ _. long_good b c.token (Part (take c.batch c.rest) None) (with_rest c.token (drop c.batch c.rest) b) [] None (λ _. up) (tell_same b c.token (Part (take c.batch c.rest) None) (with_rest c.token (drop c.batch c.rest) b) None up refl))

    left_same : (t : ℕ) (left : List Shown) (b : Books) → o (with_left t left b) ≡ o b
    left_same t left b = elim (which (nat_eq t τ)) [
      | inl y ↦ ap (λ z. is_some (feed_of τ (map (λ (f : Open). cond (nat_eq f.token z) (record f { left = left }) f) b.feeds))) (eqb-true t τ y) ∙ own (feed_of τ b.feeds) refl
      | inr n ↦ ap (λ z. is_some z) (feed_left_apart τ t left b.feeds n)
    ]
      where
        none_left : (fs : List Open) → feed_of τ fs ≡ None → feed_of τ (map (λ (f : Open). cond (nat_eq f.token τ) (record f { left = left }) f) fs) ≡ None
        none_left [] e = refl
        none_left (f ∷ fs) e = split (nat_eq f.token τ) (λ x. nat_eq f.token τ ≡ x → cond x (Some f) (feed_of τ fs) ≡ None → feed_of τ (cond x (record f { left = left }) f ∷ map (λ (g : Open). cond (nat_eq g.token τ) (record g { left = left }) g) fs) ≡ None)
            (λ _ y h. absurd (let z : Some f ≡ None = h in cc))
            (λ _ y h. ap (λ x. cond x (Some f) (feed_of τ (map (λ (g : Open). cond (nat_eq g.token τ) (record g { left = left }) g) fs))) y ∙ none_left fs h) refl e

        own : (z : Option Open) → feed_of τ b.feeds ≡ z → is_some (feed_of τ (map (λ (f : Open). cond (nat_eq f.token τ) (record f { left = left }) f) b.feeds)) ≡ is_some (feed_of τ b.feeds)
        own (Some f) e = ap (λ z. is_some z) (feed_left τ left b.feeds f e) ∙ ap (λ z. is_some z) (sym e)
        own None e = ap (λ z. is_some z) (none_left b.feeds e) ∙ ap (λ z. is_some z) (sym e)

    continue_left_good : (b : Books) (f : Open) (left : List Shown) → Up b → Good (continue_left k b f left)
    continue_left_good b f [] up = record { fits = tt; shut = λ h s. up_out b (o b) up h s }
    continue_left_good b f (x ∷ xs) up = long_good b f.token _ (with_left f.token (drop f.batch (x ∷ xs)) b) f.arms None (λ _. up)
        (tell_same b f.token (Batch f.notes (take f.batch (x ∷ xs)) None) (with_left f.token (drop f.batch (x ∷ xs)) b) None up (left_same f.token (drop f.batch (x ∷ xs)) b))

    continue_feed_good : (b : Books) (t : ℕ) (g : Option Open) → Up b → Good (continue_feed k b t g)
    continue_feed_good b t None up = now_good b t _ up
    continue_feed_good b t (Some f) up = either Good (has_token t b.waiting) _ _ (λ _. now_good b t _ up) (λ _. continue_left_good b f f.left up)

    cursor_found : (t : ℕ) (cs : List Cursor) (c : Cursor) → cursor_of t cs ≡ Some c → nat_eq c.token t ≡ true
    cursor_found t [] c e = absurd (let h : None ≡ Some c = e in cc)
    cursor_found t (x ∷ cs) c e = split (nat_eq x.token t) (λ b. nat_eq x.token t ≡ b → cond b (Some x) (cursor_of t cs) ≡ Some c → nat_eq c.token t ≡ true)
        (λ _ y h. subst (λ (z : Cursor). nat_eq z.token t ≡ true) (ap (λ u. took_out x u) h) y) (λ _ y h. cursor_found t cs c h) refl e
      where
        took_out : Cursor → Option Cursor → Cursor
        took_out d None = d
        took_out d (Some z) = z

    continue_good : (b : Books) (t : ℕ) (c : Option Cursor) → cursor_of t b.cursors ≡ c → (o b ≡ true → is_some (cursor_of τ b.cursors) ≡ false) → Up b → Good (continue_on k b t c)
    continue_good b t (Some c) e lone up = continue_cursor_good b c up (λ h. ap (λ z. nat_eq z τ) (eqb-true c.token t (cursor_found t b.cursors c e)) ∙ cursor_apart t b c e lone h)
    continue_good b t None e lone up = continue_feed_good b t (feed_of t b.feeds) up

    visit_feed_good : (b : Books) (t : ℕ) (g : Option Open) → Up b → Good (visit_feed k b t g)
    visit_feed_good b t None up = done_good b up
    visit_feed_good b t (Some f) up = continue_left_good b f f.left up

    start_none : (b : Books) (t : ℕ) → is_open t b ≡ false → nat_eq t τ ≡ true → o b ≡ false
    start_none b t e y = ap (λ x. is_some (feed_of x b.feeds)) (sym (eqb-true t τ y)) ∙ (or_false (is_some (cursor_of t b.cursors)) (is_some (feed_of t b.feeds)) e).1

    begin_good : (b : Books) (t : ℕ) (x : Asked PL) → (o b ≡ true → is_some (cursor_of τ b.cursors) ≡ false) → Up b → (x ≡ Stop → nat_eq t τ ≡ true → IsStopped k τ es) → Good (begin k b t x)
    begin_good b t (Unreadable noreply text) lone up s = refuse_good b t noreply _ up
    begin_good b t (Unplanned noreply text) lone up s = either Good (is_open t b) _ _ (λ _. refuse_good b t noreply _ up) (λ _. refuse_good b t noreply _ up)
    begin_good b t (Start noreply plan) lone up s = either Good (is_open t b) _ _ (λ _. refuse_good b t noreply _ up) (λ e. record { fits = start_none b t e; shut = λ h n. up_out b (o b) up h n })
    begin_good b t Continue lone up s = continue_good b t (cursor_of t b.cursors) refl lone up
    begin_good b t Stop lone up s = stop_good b t (cursor_of t b.cursors) refl lone up (s refl)
    begin_good b t NoreplyWait lone up s = now_good b t _ up
    begin_good b t ServerInfo lone up s = now_good b t _ up

    -- ---- a Take
    next_arm_good : (b : Books) (t : ℕ) (arms : List Arm) (points : List Point) → Up b → Good (next_arm k b t arms points)
    next_arm_good b t [] points up = record { fits = tt; shut = λ h s. up_out b (o b) up h s }
    next_arm_good b t (arm ∷ arms) points up = record { fits = tt; shut = λ h s. up_out b (o b) up h s }

    fault_fits : (error : _) (text : List ℕ) (s : Option Stamped) → IsFault (fitted k (Failed error text s))
    fault_fits error text s = either IsFault (is_long k (Failed error text s)) (cut_to k (Failed error text s)) (Failed error text s) (λ _. tt) (λ _. tt)

    gone_good : (b : Books) (f : Open) (arm : Arm) (points : List Point) (arms : List Arm) → Up b → Good (gone k b f arm points arms)
    gone_good b f arm points (x ∷ xs) up = close_good b f.token (x ∷ xs) Drops _ up (λ y h. inl (fault_fits errors.OpFailed arm.dropped (Some (stamped b.names points))))
    gone_good b f arm points [] up = record {
      fits = record {
        closes = λ x y. elim (which (nat_eq f.token τ)) [ inl z ↦ (eqb-true f.token τ z, fault_fits errors.OpFailed arm.dropped (Some (stamped b.names points))) | inr z ↦ clash (closed_apart f.token b z ∙ x) y ];
        opens = λ x y. elim (which (nat_eq f.token τ)) [ inl z ↦ z | inr z ↦ clash y (closed_apart f.token b z ∙ x) ];
        stops = λ y arms h. absurd (let z : None ≡ Some arms = h in cc);
      };
      shut = λ h s. up_out b (o (closed f.token b)) up h s;
    }

    batch_good : (b : Books) (f : Open) (n : ℕ) (arm : Arm) (points : List Point) (skipped last : ℕ) (items : List (ℕ × Plain)) → Up b → Good (batch_of k b f n arm points skipped last items)
    batch_good b f n arm points skipped last items up = either Good (is_empty (skipped_item n arm skipped last ++ change_items n arm items)) _ _
        (λ _. record { fits = tt; shut = λ h s. up_out b (o b) up h s })
        (λ _. long_good b f.token _ (with_left f.token (drop f.batch (change_items n arm items)) b) f.arms (Some f.arms) (λ _. up)
        (tell_same b f.token _ (with_left f.token (drop f.batch (change_items n arm items)) b) (Some f.arms) up (left_same f.token (drop f.batch (change_items n arm items)) b)))

    took_good : (b : Books) (f : Open) (arm : Arm) (arms : List Arm) (points : List Point) (s : Said Summary Plain) → Up b → Good (took_said k b f arm arms points s)
    took_good b f arm arms points (said_as.Batch skipped last items) up = batch_good b f _ arm points skipped last items up
    took_good b f arm arms points said_as.Gone up = gone_good b f arm points (others arm f.arms) up
    took_good b f arm arms points (said_as.HistoryFull count) up = shut_good b f.token f.arms Settled _ (λ _. up) (λ y h. inl (fault_fits errors.ResourceLimit full None))
    took_good b f arm arms points other up = next_arm_good b f.token arms points up

    ran_good : (b : Books) (task : Task PL) (slot : ℕ) (order : Order) (r : Told) (saved : Saved) → Runs k b task slot order → Fit b task → (w ≡ true → stands b (Some task) ≡ true) → Good (ran k b task slot order.cmd r saved)
    ran_good b (Planning t plan noreply count found arms) slot order r saved e f s = record { fits = f; shut = λ h n. up_out b (o b) (once b s) h n }
    ran_good b (Visiting t [] points) slot order r saved e f s = absurd e
    ran_good b (Visiting t (arm ∷ arms) points) slot order r saved e f s = subst (λ z. Good (took k b t arm arms points r z)) (sym e.1) (took_good b e.0 arm arms _ r.said (once b s))
    ran_good b (Telling t a kept lose after) slot order r saved e f s = absurd e
    ran_good b (Closing t [] firm a) slot order r saved e f s = absurd e
    ran_good b (Closing t (arm ∷ arms) firm a) slot order r saved e f s = shut_good b t arms Settled a (λ _. once b s) (λ y h. f y (once b s h))

    found_good : (b u : Books) (task : Task PL) (x : Found) (move : Move) → u.feeds ≡ b.feeds → Asks k task move → Fit b task → (w ≡ true → stands b (Some task) ≡ true) → Good (found_more k u task x)
    found_good b u (Planning t plan noreply count found arms) x move e a f s =
        let same : o u ≡ o b = ap (λ z. is_some (feed_of τ z)) e in
        record { fits = λ y. same ∙ f y; shut = λ h n. up_out u (o u) (λ g. same ∙ once b s g) h n }
    found_good b u (Visiting t arms points) x move e a f s = absurd a
    found_good b u (Telling t y kept lose after) x move e a f s = absurd a
    found_good b u (Closing t arms firm y) x move e a f s = absurd a

    -- ---- what a request comes to
    comes_good : (b : Books) (t : ℕ) (batch : ℕ) (found : List Found) (arms : List Arm) (to : Answered) → (nat_eq t τ ≡ true → o b ≡ false) → Up b → Good (comes_to k b t batch found arms to)
    comes_good b t batch found arms Unsent n up = close_good b t arms Settled None up (λ y h. clash h (n y))
    comes_good b t batch found arms (One x) n up = close_good b t arms Settled _ up (λ y h. clash h (n y))
    comes_good b t batch found arms (Stream xs) n up = either Good (nat_le (length xs) batch) _ _
        (λ _. close_good b t arms Settled _ up (λ y h. clash h (n y)))
        (λ _. long_good b t _ (with_cursor (record { token = t; rest = drop batch xs; batch = batch }) b) arms None (λ _. up)
        (tell_same b t _ (with_cursor (record { token = t; rest = drop batch xs; batch = batch }) b) None up refl))
    comes_good b t batch found arms (Feed feed notes items) n up =
        let g : Open = record { token = t; arms = feed; left = drop batch items; batch = batch; notes = notes } in
        let same : nat_eq t τ ≡ false → o (with_feed g b) ≡ o b = λ z. ap (λ x. is_some x) (feed_more τ g b.feeds z) in
        long_good b t _ (with_feed g b) feed (Some feed) (λ _. up)
        (record {
          fits = record {
            closes = λ x y. elim (which (nat_eq t τ)) [ inl z ↦ clash x (n z) | inr z ↦ clash (same z ∙ x) y ];
            opens = λ x y. elim (which (nat_eq t τ)) [ inl z ↦ z | inr z ↦ clash y (same z ∙ x) ];
            stops = λ y arms h. absurd (let z : None ≡ Some arms = h in cc);
          };
          shut = λ h s. up_out b (o (with_feed g b)) up h s;
        })
    comes_good b t batch found arms (Fault error text) n up = close_good b t arms Settled _ up (λ y h. clash h (n y))
    comes_good b t batch found arms Wanting n up = close_good b t arms Settled _ up (λ y h. clash h (n y))

  abbrev FitD : Books → Doing PL → Type 0
  FitD b (Busy back task) = Fit b task
  FitD b other = Unit {0}

  abbrev FitM : Mach PL → Type 0
  FitM m = FitD m.books m.doing

-- ---- along a run
module _ {PL : Type 0} (k : Talk PL) (τ : ℕ) where
  -- the same frame is the last one
  stopped_more : (es : List Event) (e : Event) → BeginsNone e → IsStopped k τ es → IsStopped k τ (es ++ e ∷ [])
  stopped_more es e b s = record {
    before = s.before;
    frame = s.frame;
    since = s.since ++ e ∷ [];
    events = ap (λ z. z ++ e ∷ []) s.events ∙ append_assoc s.before (Begin s.frame true ∷ s.since) (e ∷ []);
    its = s.its;
    asks = s.asks;
    none = all_append BeginsNone s.since (e ∷ []) s.none (b, tt);
  }

  ends_more : (es : List Event) (e : Event) (a : Option Answer) → BeginsNone e → Ends k τ es a → Ends k τ (es ++ e ∷ []) a
  ends_more es e None b h = h
  ends_more es e (Some a) b (inl h) = inl h
  ends_more es e (Some a) b (inr h) = inr (stopped_more es e b h)

  fit_more : (es : List Event) (e : Event) (b : Books) (task : Task PL) → BeginsNone e → Fit k τ es b task → Fit k τ (es ++ e ∷ []) b task
  fit_more es e b (Planning t plan noreply count found arms) z f = f
  fit_more es e b (Visiting t arms points) z f = f
  fit_more es e b (Telling t a kept lose after) z f = record { closes = f.closes; opens = f.opens; stops = λ y arms h. stopped_more es e z (f.stops y arms h) }
  fit_more es e b (Closing t arms firm a) z f = λ y x. ends_more es e a z (f y x)

  module _ (es : List Event) (m n : Mach PL) (e : Event) where
    abbrev es2 : List Event
    es2 = es ++ e ∷ []

    abbrev was : Bool
    was = is_some (feed_of τ m.books.feeds) || is_some (feed_of τ (keeps m.books m.doing).feeds)

    abbrev open_now : Books → Doing PL → Bool
    open_now b d = is_some (feed_of τ b.feeds) || is_some (feed_of τ (keeps b d).feeds)

    record Goes : Type 0 where
      fits : FitM k τ es2 n
      shut : was ≡ true → IsHere n.doing → open_now n.books n.doing ≡ false → DoingEnds k τ es2 n.doing ⊎ EventEnds k τ e

    next_fits : (back : Option (List ℕ)) (b : Books) (t : Option (Task PL)) → FitOption k τ es2 b t → FitD k τ es2 b (doing_next back t)
    next_fits None b None f = tt
    next_fits (Some left) b None f = tt
    next_fits back b (Some t) f = f

    next_shut : (back : Option (List ℕ)) (b : Books) (t : Option (Task PL)) → (was ≡ true → stands k τ es2 b t ≡ false → OptionEnds k τ es2 t) → was ≡ true → open_now b (doing_next back t) ≡ false → DoingEnds k τ es2 (doing_next back t)
    next_shut None b None s w h = absurd (s w h)
    next_shut (Some left) b None s w h = absurd (s w h)
    next_shut back b (Some t) s w h = s w h

    by_next : (x : Mach PL) (back : Option (List ℕ)) (y : Next PL) → n ≡ goes_on x back y → Good k τ es2 was y → Goes
    by_next x back y g d = record {
      fits = subst (λ (z : Mach PL). FitM k τ es2 z) (sym g) (next_fits back y.books y.task d.fits);
      shut = λ w here h. inl (subst (λ (z : Mach PL). DoingEnds k τ es2 z.doing) (sym g) (next_shut back y.books y.task d.shut w (subst (λ (z : Mach PL). open_now z.books z.doing ≡ false) g h)));
    }

    -- with no task, and what was open is
    settled : (x : Mach PL) → n ≡ x → FitM k τ es2 x → (was ≡ true → open_now x.books x.doing ≡ true) → Goes
    settled x g f up = record { fits = subst (λ (z : Mach PL). FitM k τ es2 z) (sym g) f; shut = λ w here h. clash (up w) (subst (λ (z : Mach PL). open_now z.books z.doing ≡ false) g h) }

    leaving : (x : Mach PL) → n ≡ x → FitM k τ es2 x → (IsHere x.doing → ⊥) → Goes
    leaving x g f off = record { fits = subst (λ (z : Mach PL). FitM k τ es2 z) (sym g) f; shut = λ w here h. absurd (off (subst (λ (z : Mach PL). IsHere z.doing) g here)) }

    was_at : (d : Doing PL) → m.doing ≡ d → was ≡ true → open_now m.books d ≡ true
    was_at d e w = subst (λ z. open_now m.books z ≡ true) e w

    up_visits : (left : List ℕ) → m.doing ≡ Visits left → was ≡ true → is_some (feed_of τ m.books.feeds) ≡ true
    up_visits left e w = twice (is_some (feed_of τ m.books.feeds)) (was_at (Visits left) e w)

    task_fit : (back : Option (List ℕ)) (task : Task PL) → m.doing ≡ Busy back task → BeginsNone e → FitM k τ es m → Fit k τ es2 m.books task
    task_fit back task d b f = fit_more es e m.books task b (subst (λ z. FitD k τ es m.books z) d f)

    stands_at : (back : Option (List ℕ)) (task : Task PL) → m.doing ≡ Busy back task → was ≡ true → stands k τ es2 m.books (Some task) ≡ true
    stands_at back task d w = was_at (Busy back task) d w

    planned : (back : Option (List ℕ)) (task : Task PL) (u : Books) (x : Found) (move : Move) → m.doing ≡ Busy back task → n ≡ goes_on m back (found_more k u task x) → u.feeds ≡ m.books.feeds → Asks k task move → BeginsNone e → FitM k τ es m → Goes
    planned back task u x move d g u_is a b f = by_next m back (found_more k u task x) g (found_good k τ es2 was m.books u task x move u_is a (task_fit back task d b f) (stands_at back task d))

    refused : (back : Option (List ℕ)) (task : Task PL) → m.doing ≡ Busy back task → n ≡ goes_on m back (wanted m.books task) → BeginsNone e → FitM k τ es m → Goes
    refused back task d g b f = by_next m back (wanted m.books task) g (wanted_good k τ es2 was m.books task (task_fit back task d b f) (stands_at back task d))

  told_books : (t : ℕ) (kept : Books) (after : Option (List Arm)) → (told {PL = PL} t kept after).books ≡ kept
  told_books t kept None = refl
  told_books t kept (Some []) = refl
  told_books t kept (Some (arm ∷ arms)) = refl

  told_fits : (es : List Event) (t : ℕ) (kept : Books) (after : Option (List Arm)) → (nat_eq t τ ≡ true → (arms : List Arm) → after ≡ Some arms → IsStopped k τ es) → FitOption k τ es (told {PL = PL} t kept after).books (told {PL = PL} t kept after).task
  told_fits es t kept None s = tt
  told_fits es t kept (Some arms) s = (close_good k τ es false kept t arms Stops (Some (Last [] None)) (λ h. absurd (true≢false (sym h))) (λ y x. inr (s y arms refl))).fits

  step_goes : (es : List Event) (m n : Mach PL) (e : Event) → ((left : List ℕ) → m.doing ≡ Visits left → is_some (feed_of τ m.books.feeds) ≡ true → is_some (cursor_of τ m.books.cursors) ≡ false) → FitM k τ es m → Step k m e n → Goes es m n e
  step_goes es m n Turn lone f s = settled es m n Turn _ s.1 tt (λ w. was_at es m n Turn Rest s.0 w)
  step_goes es m n Visit lone f s = by_next es m n Visit m (Some s.1) (visit k m.books s.0) s.3 (visit_feed_good k τ (es ++ Visit ∷ []) (was es m n Visit) m.books s.0 (feed_of s.0 m.books.feeds) (up_visits es m n Visit (s.0 ∷ s.1) s.2))
  step_goes es m n (Greeted true) lone f s = elim s.2 [
    | inl g ↦ settled es m n (Greeted true) _ g.4 tt (λ w. was_at es m n (Greeted true) (Visits []) s.0 w)
    | inr g ↦ leaving es m n (Greeted true) _ g.4 tt (λ here. here)
  ]
  step_goes es m n (Greeted false) lone f s = elim s.2 [ inl g ↦ leaving es m n (Greeted false) _ g.4 tt (λ here. here) | inr g ↦ leaving es m n (Greeted false) _ g.4 tt (λ here. here) ]
  step_goes es m n (Login true) lone f s = elim s.2 [
    | inl g ↦ settled es m n (Login true) _ g.5 tt (λ w. was_at es m n (Login true) (Visits []) s.0 w)
    | inr r ↦ elim r [ inl g ↦ settled es m n (Login true) _ g.4 tt (λ w. was_at es m n (Login true) (Visits []) s.0 w) | inr g ↦ leaving es m n (Login true) _ g.3 tt (λ here. here) ]
  ]
  step_goes es m n (Login false) lone f s = elim s.2 [ inl g ↦ leaving es m n (Login false) _ g.5 tt (λ here. here) | inr r ↦ elim r [ inl g ↦ leaving es m n (Login false) _ g.4 tt (λ here. here) | inr g ↦ leaving es m n (Login false) _ g.3 tt (λ here. here) ] ]
  step_goes es m n (Cast bytes) lone f s = settled es m n (Cast bytes) _ s.2 tt (λ w. was_at es m n (Cast bytes) (Visits []) s.0 w)
  step_goes es m n (Begin frame true) lone f s =
      by_next es m n (Begin frame true) (record m { held = s.0 }) None (takes_up k m.books frame.token frame.body true) s.5
      (begin_good k τ (es ++ Begin frame true ∷ []) (was es m n (Begin frame true)) m.books frame.token (k.asked frame.body) (lone [] s.1) (up_visits es m n (Begin frame true) [] s.1)
      (λ a y. record { before = es; frame = frame; since = []; events = refl; its = eqb-true frame.token τ y; asks = a; none = tt }))
  step_goes es m n (Begin frame false) lone f s =
      by_next es m n (Begin frame false) (record m { held = s.0 }) None (takes_up k m.books frame.token frame.body false) s.5
      (tell_same k τ (es ++ Begin frame false ∷ []) (was es m n (Begin frame false)) m.books frame.token Internal m.books None (up_visits es m n (Begin frame false) [] s.1) refl)
  step_goes es m n (Heard bytes) lone f s = settled es m n (Heard bytes) _ s.2 tt (λ w. was_at es m n (Heard bytes) (Visits []) s.0.0 w)
  step_goes es m n (Lost bytes) lone f s = leaving es m n (Lost bytes) _ s.2 tt (λ here. here)
  step_goes es m n Quiet lone f s = settled es m n Quiet _ s.1 tt (λ w. was_at es m n Quiet (Visits []) s.0.0 w)
  step_goes es m n Finish lone f s = leaving es m n Finish _ s.1 tt (λ here. here)
  step_goes es m n Broken lone f s = leaving es m n Broken _ s.1 tt (λ here. here)
  step_goes es m n (Long len) lone f s = leaving es m n (Long len) _ s.3 tt (λ here. here)
  step_goes es m n Wear lone f s = leaving es m n Wear _ s.1 tt (λ here. here)
  step_goes es m n Poor lone f s = leaving es m n Poor _ s.1 tt (λ here. here)
  step_goes es m n (On slot (Ran place order r) saved) lone f s = elim s [
    | inl t ↦ by_next es m n (On slot (Ran place order r) saved) m t.back (ran k m.books t.task slot order.cmd r saved) t.goes
        (ran_good k τ (es ++ On slot (Ran place order r) saved ∷ []) (was es m n (On slot (Ran place order r) saved)) m.books t.task slot order r saved t.runs (task_fit es m n (On slot (Ran place order r) saved) t.back t.task t.doing tt f) (stands_at es m n (On slot (Ran place order r) saved) t.back t.task t.doing))
    | inr t ↦ leaving es m n (On slot (Ran place order r) saved) _ t.2.goes tt (λ here. here)
  ]
  step_goes es m n (On slot (Looked place question look) saved) lone f s = planned es m n (On slot (Looked place question look) saved) s.back s.task m.books (SawSlot slot look) _ s.doing s.goes refl s.asks tt f
  step_goes es m n (On slot (Denied place) saved) lone f s = elim s [
    | inl t ↦ by_next es m n (On slot (Denied place) saved) m t.back (denied m.books t.task slot t.order.cmd) t.goes
        (denied_good k τ (es ++ On slot (Denied place) saved ∷ []) (was es m n (On slot (Denied place) saved)) m.books t.task slot t.order.cmd (task_fit es m n (On slot (Denied place) saved) t.back t.task t.doing tt f) (stands_at es m n (On slot (Denied place) saved) t.back t.task t.doing))
    | inr u ↦ elim u [
      | inl t ↦ refused es m n (On slot (Denied place) saved) t.back t.task t.doing t.goes tt f
      | inr t ↦ leaving es m n (On slot (Denied place) saved) _ t.1.goes tt (λ here. here)
    ]
  ]
  step_goes es m n (OnNames (Ran place cmd r)) lone f s = planned es m n (OnNames (Ran place cmd r)) s.back s.task (saw_names r.place m.books) (ChangedNames r.place r) _ s.doing s.goes refl s.asks tt f
  step_goes es m n (OnNames (Looked place question names)) lone f s = planned es m n (OnNames (Looked place question names)) s.back s.task (saw_names place m.books) (SawNames place names) _ s.doing s.goes refl s.asks tt f
  step_goes es m n (OnNames (Denied place)) lone f s = elim s [
    | inl t ↦ refused es m n (OnNames (Denied place)) t.back t.task t.doing t.goes tt f
    | inr u ↦ refused es m n (OnNames (Denied place)) u.1.back u.1.task u.1.doing u.1.goes tt f
  ]
  step_goes es m n (Clock moment) lone f s = planned es m n (Clock moment) s.back s.task m.books (Clocked moment) _ s.doing s.goes refl s.asks tt f
  step_goes es m n (Dice bytes) lone f s = planned es m n (Dice bytes) s.back s.task m.books (Rolled bytes) _ s.doing s.goes refl s.asks tt f
  step_goes es m n Come lone f s =
      let p = task_fit es m n Come s.back (Planning s.token s.plan s.noreply s.count s.found s.arms) s.doing tt f in
      by_next es m n Come m s.back _ s.goes (comes_good k τ (es ++ Come ∷ []) (was es m n Come) m.books s.token (batch_size k s.plan) s.found s.arms s.to p
      (λ w. twice (is_some (feed_of τ m.books.feeds)) (stands_at es m n Come s.back (Planning s.token s.plan s.noreply s.count s.found s.arms) s.doing w)))
  step_goes es m n (Say t a true) lone f s =
      let p = task_fit es m n (Say t a true) s.back (Telling t a s.kept s.lose s.after) s.doing tt f in
      let y : Next PL = told t s.kept s.after in
      record {
        fits = subst (λ (z : Mach PL). FitM k τ (es ++ Say t a true ∷ []) z) (sym s.goes) (next_fits es m n (Say t a true) s.back y.books y.task (told_fits (es ++ Say t a true ∷ []) t s.kept s.after p.stops));
        shut = λ w here h.
            let none : is_some (feed_of τ s.kept.feeds) ≡ false =
            ap (λ (z : Books). is_some (feed_of τ z.feeds)) (sym (told_books t s.kept s.after) ∙ ap (λ (z : Mach PL). z.books) (sym s.goes)) ∙ (or_false (is_some (feed_of τ n.books.feeds)) (is_some (feed_of τ (keeps n.books n.doing).feeds)) h).0 in
            elim (or_true (is_some (feed_of τ m.books.feeds)) (is_some (feed_of τ s.kept.feeds)) (stands_at es m n (Say t a true) s.back (Telling t a s.kept s.lose s.after) s.doing w)) [
              | inl x ↦ inr (p.closes x none)
              | inr x ↦ clash x none
            ];
      }
  step_goes es m n (Say t a false) lone f s = leaving es m n (Say t a false) _ s.goes tt (λ here. here)
  step_goes es m n Want lone f s = refused es m n Want s.back s.task s.doing s.goes tt f

-- ---- where a feed is opened
more_is : (t : ℕ) (fs : List Open) (g : Open) → nat_eq g.token t ≡ true → is_some (feed_of t (fs ++ g ∷ [])) ≡ true
more_is t [] g y = ap (λ b. is_some (cond b (Some g) None)) y
more_is t (f ∷ fs) g y = split (nat_eq f.token t) (λ b. is_some (cond b (Some f) (feed_of t (fs ++ g ∷ []))) ≡ true) (λ _. refl) (λ _. more_is t fs g y)

module _ {PL : Type 0} (k : Talk PL) where
  -- its token has an open feed, or a fault is next
  abbrev Opens : ℕ → Option (List ℕ) → Next PL → Type 0
  Opens t back y = (IsHere (doing_next back y.task) × ((is_some (feed_of t y.books.feeds) || is_some (feed_of t (keeps y.books (doing_next back y.task)).feeds)) ≡ true)) ⊎ DoingFaults k t (doing_next back y.task)

  opens_closing : (t : ℕ) (back : Option (List ℕ)) (b : Books) (arms : List Arm) (a : Answer) → IsFault a → Opens t back (close b t arms Settled (Some a))
  opens_closing t back b [] a h = inr (refl, h)
  opens_closing t back b (arm ∷ arms) a h = inr (refl, h)

  or_second : (x y : Bool) → y ≡ true → (x || y) ≡ true
  or_second true y h = refl
  or_second false y h = h

  opens_feed : (t : ℕ) (back : Option (List ℕ)) (b : Books) (batch : ℕ) (found : List Found) (opened arms : List Arm) (notes : List ℕ) (items : List Shown) → Opens t back (comes_to k b t batch found opened (Feed arms notes items))
  opens_feed t back b batch found opened arms notes items =
      let g : Open = record { token = t; arms = arms; left = drop batch items; batch = batch; notes = notes } in
      let a : Answer = Batch notes (take batch items) (Some (stamped b.names (points_from [] found))) in
      either (Opens t back) (is_long k a) (cut k b t a arms) (at b (Telling t a (with_feed g b) (Some arms) None))
      (λ _. opens_closing t back (closed t b) arms (cut_to k a) tt)
      (λ _. inl (tt, or_second (is_some (feed_of t b.feeds)) (is_some (feed_of t (b.feeds ++ g ∷ []))) (more_is t b.feeds g (eq-eqb t t refl))))

  pub feeds_open : FeedsOpen k
  feeds_open m n p arms notes items e =
      let goes : n ≡ goes_on m p.back (comes_to k m.books p.token (batch_size k p.plan) p.found p.arms (Feed arms notes items)) = p.goes ∙ ap (λ z. goes_on m p.back (comes_to k m.books p.token (batch_size k p.plan) p.found p.arms z)) e in
      subst (λ (z : Mach PL). IsOpenAt p.token z ⊎ DoingFaults k p.token z.doing) (sym goes) (opens_feed p.token p.back m.books (batch_size k p.plan) p.found p.arms arms notes items)

module _ {PL : Type 0} (k : Talk PL) (on : PL → Bool → ℕ → List Found → List Arm → Type 0) (well : PlansMind k on) where
  run_more : (a m n : Mach PL) (es : List Event) (e : Event) → Run k a es m → Step k m e n → Run k a (es ++ e ∷ []) n
  run_more a m n [] e r s = (n, subst (λ z. Step k z e n) r s, refl)
  run_more a m n (x ∷ es) e r s = (r.0, r.1, run_more r.0 m n es e r.2 s)

  module _ (τ : ℕ) where
    record Kept (es : List Event) (m : Mach PL) : Type 0 where
      led : Run k fresh es m
      fits : FitM k τ es m

    goes_from : (es : List Event) (m n : Mach PL) (e : Event) → Step k m e n → Kept es m → Goes k τ es m n e
    goes_from es m n e s x = step_goes k τ es m n e (λ left d h. alone k on well τ es m x.led left d h) x.fits s

    step_kept : (es : List Event) (m n : Mach PL) (e : Event) → Step k m e n → Kept es m → Kept (es ++ e ∷ []) n
    step_kept es m n e s x = record { led = run_more fresh m n es e x.led s; fits = (goes_from es m n e s x).fits }

    run_kept : (es more : List Event) (m n : Mach PL) → Run k m more n → Kept es m → Kept (es ++ more) n
    run_kept es [] m n r x = subst (λ z. Kept z n) (sym (append-nil es)) (subst (Kept es) (sym r) x)
    run_kept es (e ∷ more) m n r x = subst (λ z. Kept z n) (append_assoc es (e ∷ []) more) (run_kept (es ++ e ∷ []) more r.0 n r.2 (step_kept es m r.0 e r.1 x))

    kept : (es : List Event) (m : Mach PL) → Run k fresh es m → Kept es m
    kept es m r = run_kept [] es fresh m r (record { led = refl; fits = tt })

  pub feeds_end : FeedsEnd k
  feeds_end es m n e r s token stood here shut =
      (goes_from token es m n e s (kept token es m r)).shut stood.1 here
      (elim (which (is_some (feed_of token n.books.feeds) || is_some (feed_of token (keeps n.books n.doing).feeds))) [ inl t ↦ absurd (shut (here, t)) | inr f ↦ f ])
