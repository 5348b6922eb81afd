-- Each open feed is that of a plan that a START of its token asked for, and what is left of it was given it.
use Rattle.std.proofs.Common.{◌≡◌, ◌-◌, inl, inr, ℕ, zero, suc, Bool, true, false, true≢false, cond, not, List, [], ◌∷◌, ◌++◌, map, filter, take, drop, length, Option, Some, None, refl, sym, ap, subst, ◌∙◌, arith, append_assoc, append-nil, length-append}
use Rattle.std.specs.List.{AllByRecursion}
use Rattle.std.specs.Prelude.{nat_eq, nat_le, is_some}
use Rattle.std.proofs.lemmas.Bool.{eqb-true, eq-eqb}
use Rattle.std.proofs.lemmas.Grind.{flat_map-append}
use Rattle.reql_table_machine_spec.proofs.Items.{all_append}
use Rattle.reql_table_machine_spec.proofs.Tracking.{split}
use Rattle.reql_table_machine_spec.specs.declared.command.Said.{Said}
use Rattle.reql_table_machine_spec.specs.declared.command.Said.TheVariants as said_as
use Rattle.reql_datum.specs.Plain.{Plain}
use Rattle.reql_datum.specs.declared.point.Point.{Point}
use Rattle.reql_shared.specs.Acts.{Ran, Looked, Denied}
use Rattle.reql_table_spec.specs.Replies.{Answered as Told}
use Rattle.reql_table_spec.specs.declared.command.Cmd.{Cmd}
use Rattle.reql_table_spec.specs.declared.command.Order.{Order}
use Rattle.reql_table_spec.specs.declared.reply.Saved.{Saved}
use Rattle.reql_write_spec.specs.declared.command.Summary.{Summary}
use Rattle.reql_session_spec.specs.Requests.{Asked, Unreadable, Unplanned, Start, Continue, Stop, NoreplyWait, ServerInfo, Arm, Shown, Answered, Unsent, One, Stream, Feed, Fault, Wanting, Move, Ends, Found, SawNames, Clocked, SawSlot, RanSlot, ChangedNames, Rolled, Answer, Internal, Last}
use Rattle.reql_session_spec.specs.Books.{Cursor, Open, Books, has_token, cursor_of, feed_of, is_open, opened, closed, with_rest, with_left, with_cursor, with_feed, saw_names}
use Rattle.reql_session_spec.specs.Tasks.{Talk, Firm, Stops, Drops, Settled, Task, Planning, Visiting, Telling, Closing, Next, at, close, wanted, denied, told, stop_feed, stop, is_long, cut, tell, comes_to, continue_cursor, continue_left, continue_feed, continue_on, visit_feed, visit, refuse, begin, takes_up, next_arm, batch_of, gone, took_said, took, ran, found_more, Runs, Asks, batch_size, is_empty, skipped_item, change_items, cut_to, others, arms_denied, take_order}
use Rattle.reql_session_spec.specs.Session.{Event, Turn, Visit, Greeted, Login, Cast, Begin, Heard, Lost, Quiet, Finish, Broken, Long, Wear, Poor, On, OnNames, Dice, Clock, Come, Say, Want, Doing, Rest, Visits, Busy, Leaving, Mach, fresh, Step, Run, begun, begun_of, doing_next, goes_on, Plans, PlanDenied, LeavesArm}
use Rattle.reql_session_spec.specs.Opened.{IsPlanned, IsOpened, EachIsOpened, IsTail, IsGiven, TookArm, AreApart, found_by, found_in}
use Rattle.reql_session_spec.proofs.Shelves.{all_filter, which, or_false, found_token}

either : {A : Type 0} (P : A → Type 0) (x : Bool) (y z : A) → (x ≡ true → P y) → (x ≡ false → P z) → P (cond x y z)
either P true y z f g = f refl
either P false y z f g = g refl

some_is : (x y : Open) → Some x ≡ Some y → x ≡ y
some_is x y h = ap (λ o. get x o) h
  where
    get : Open → Option Open → Open
    get d None = d
    get d (Some z) = z

pub found_so : (P : Open → Type 0) (token : ℕ) (fs : List Open) (f : Open) → feed_of token fs ≡ Some f → AllByRecursion P fs → P f
found_so P token [] f e h = absurd (let z : None ≡ Some f = e in cc)
found_so P token (g ∷ gs) f e h = split (nat_eq g.token token) (λ b. cond b (Some g) (feed_of token gs) ≡ Some f → P f) (λ _ z. subst P (some_is g f z) h.0) (λ _ z. found_so P token gs f z h.1) e

-- ---- lists of feeds
abbrev pub Others : ℕ → List Open → Type 0
Others token fs = AllByRecursion (λ (f : Open). nat_eq f.token token ≡ false) fs

abbrev lefts : ℕ → List Shown → List Open → List Open
lefts u left fs = map (λ f. cond (nat_eq f.token u) (record f { left = left }) f) fs

turned : (a b : ℕ) → nat_eq a b ≡ false → nat_eq b a ≡ false
turned a b h = elim (which (nat_eq b a)) [ inl t ↦ absurd (true≢false (sym (eq-eqb a b (sym (eqb-true b a t))) ∙ h)) | inr f ↦ f ]

apart_filter : (p : Open → Bool) (fs : List Open) → AreApart fs → AreApart (filter p fs)
apart_filter p [] h = tt
apart_filter p (f ∷ fs) h = split (p f) (λ b. AreApart (cond b (f ∷ filter p fs) (filter p fs))) (λ _. (all_filter (λ (g : Open). nat_eq g.token f.token ≡ false) p fs h.0, apart_filter p fs h.1)) (λ _. apart_filter p fs h.1)

apart_end : (fs : List Open) (f : Open) → AreApart fs → Others f.token fs → AreApart (fs ++ f ∷ [])
apart_end [] f h o = (tt, tt)
apart_end (g ∷ gs) f h o = (all_append (λ (x : Open). nat_eq x.token g.token ≡ false) gs (f ∷ []) h.0 (turned g.token f.token o.0, tt), apart_end gs f h.1 o.1)

others_left : (u t : ℕ) (left : List Shown) (fs : List Open) → Others t fs → Others t (lefts u left fs)
others_left u t left [] o = tt
others_left u t left (f ∷ fs) o = (split (nat_eq f.token u) (λ b. nat_eq (cond b (record f { left = left }) f).token t ≡ false) (λ _. o.0) (λ _. o.0), others_left u t left fs o.1)

apart_left : (u : ℕ) (left : List Shown) (fs : List Open) → AreApart fs → AreApart (lefts u left fs)
apart_left u left [] h = tt
apart_left u left (f ∷ fs) h = split (nat_eq f.token u) (λ b. AreApart (cond b (record f { left = left }) f ∷ lefts u left fs))
    (λ _. (others_left u f.token left fs h.0, apart_left u left fs h.1)) (λ _. (others_left u f.token left fs h.0, apart_left u left fs h.1))

same_left : (u : ℕ) (left : List Shown) (fs : List Open) → Others u fs → lefts u left fs ≡ fs
same_left u left [] o = refl
same_left u left (f ∷ fs) o = (λ i. cond (o.0 i) (record f { left = left }) f ∷ same_left u left fs o.1 i)

none_others : (token : ℕ) (fs : List Open) → is_some (feed_of token fs) ≡ false → Others token fs
none_others token [] e = tt
none_others token (f ∷ fs) e = split (nat_eq f.token token) (λ x. is_some (cond x (Some f) (feed_of token fs)) ≡ false → Others token (f ∷ fs)) (λ t z. absurd (true≢false z)) (λ t z. (t, none_others token fs z)) e

found_own : (token : ℕ) (fs : List Open) (f : Open) → feed_of token fs ≡ Some f → feed_of f.token fs ≡ Some f
found_own token fs f e = ap (λ z. feed_of z fs) (eqb-true f.token token (found_token 0 0 false token fs f e)) ∙ e

-- a feed goes on with other items left
all_left : (P : Open → Type 0) (u : ℕ) (left : List Shown) (f : Open) (fs : List Open) → feed_of u fs ≡ Some f → P (record f { left = left }) → AllByRecursion P fs → AreApart fs → AllByRecursion P (lefts u left fs)
all_left P u left f [] e b h a = tt
all_left P u left f (g ∷ gs) e b h a = split (nat_eq g.token u) (λ c. cond c (Some g) (feed_of u gs) ≡ Some f → AllByRecursion P (cond c (record g { left = left }) g ∷ lefts u left gs))
    (λ t z. (subst (λ (x : Open). P (record x { left = left })) (sym (some_is g f z)) b, subst (AllByRecursion P) (sym (same_left u left gs (subst (λ x. Others x gs) (eqb-true g.token u t) a.0))) h.1))
    (λ t z. (h.0, all_left P u left f gs z b h.1 a.1)) e

pub cut_at : (n : ℕ) (xs : List Shown) → xs ≡ take n xs ++ drop n xs
cut_at zero xs = refl
cut_at (suc n) [] = refl
cut_at (suc n) (x ∷ xs) = ap (λ z. x ∷ z) (cut_at n xs)

pub place_of : (prior arms : List Arm) (arm : Arm) → length (prior ++ arm ∷ arms) - length (arm ∷ arms) ≡ length prior
place_of prior arms arm = omega (arith, length-append prior (arm ∷ arms))

-- ---- what is next, where B is so of each open feed, and T of each plan that is under way
module _ {PL : Type 0} (k : Talk PL) (B : Open → Type 0) (T : ℕ → PL → Bool → ℕ → List Found → Type 0) (leaves_so : (f : Open) (left : List Shown) → B f → IsTail left f.left → B (record f { left = left })) where
  abbrev AreB : Books → Type 0
  AreB b = AllByRecursion B b.feeds × AreApart b.feeds

  abbrev IsFit : Books → Task PL → Type 0
  IsFit b (Planning u plan noreply count found arms) = T u plan noreply count found × Others u b.feeds
  IsFit b (Visiting u arms points) = (f : Open) → feed_of u b.feeds ≡ Some f → (prior : List Arm) × (f.arms ≡ prior ++ arms)
  IsFit b (Telling u a kept lose after) = AreB kept
  IsFit b (Closing u arms firm a) = Unit {0}

  abbrev FitsNext : Books → Option (Task PL) → Type 0
  FitsNext b None = Unit {0}
  FitsNext b (Some task) = IsFit b task

  abbrev Good : Next PL → Type 0
  Good y = AreB y.books × FitsNext y.books y.task

  in_closed : (u : ℕ) (b : Books) → AreB b → AreB (closed u b)
  in_closed u b h = (all_filter B (λ f. not (nat_eq f.token u)) b.feeds h.0, apart_filter (λ f. not (nat_eq f.token u)) b.feeds h.1)

  in_left : (u : ℕ) (left : List Shown) (f : Open) (b : Books) → feed_of u b.feeds ≡ Some f → B (record f { left = left }) → AreB b → AreB (with_left u left b)
  in_left u left f b e x h = (all_left B u left f b.feeds e x h.0 h.1, apart_left u left b.feeds h.1)

  close_good : (b : Books) (u : ℕ) (arms : List Arm) (firm : Firm) (a : Option Answer) → AreB b → Good (close b u arms firm a)
  close_good b u [] firm None h = (h, tt)
  close_good b u [] firm (Some a) h = (h, h)
  close_good b u (arm ∷ arms) firm a h = (h, tt)

  wanted_good : (b : Books) (task : Task PL) → AreB b → Good (wanted b task)
  wanted_good b (Planning u plan noreply count found arms) h = close_good b u arms Settled (cond noreply None (Some Internal)) h
  wanted_good b (Visiting u arms points) h = (h, h)
  wanted_good b (Telling u a kept None after) h = (h, h)
  wanted_good b (Telling u a kept (Some arms) after) h = close_good (closed u b) u arms Settled (Some Internal) (in_closed u b h)
  wanted_good b (Closing u arms Settled None) h = close_good b u arms Settled None h
  wanted_good b (Closing u arms Settled (Some a)) h = close_good b u arms Settled (Some Internal) h
  wanted_good b (Closing u arms Stops a) h = (h, h)
  wanted_good b (Closing u arms Drops a) h = (h, h)

  denied_good : (b : Books) (task : Task PL) (slot : ℕ) (cmd : Cmd) → AreB b → Good (denied b task slot cmd)
  denied_good b (Planning u plan noreply count found arms) slot cmd h = wanted_good b (Planning u plan noreply count found (arms_denied slot cmd arms)) h
  denied_good b (Visiting u arms points) slot cmd h = (h, h)
  denied_good b (Telling u a kept lose after) slot cmd h = wanted_good b (Telling u a kept lose after) h
  denied_good b (Closing u [] firm a) slot cmd h = wanted_good b (Closing u [] firm a) h
  denied_good b (Closing u (arm ∷ arms) Stops a) slot cmd h = (h, h)
  denied_good b (Closing u (arm ∷ arms) Drops a) slot cmd h = close_good (closed u b) u arms Settled a (in_closed u b h)
  denied_good b (Closing u (arm ∷ arms) Settled a) slot cmd h = close_good (closed u b) u arms Settled a (in_closed u b h)

  told_good : (u : ℕ) (kept : Books) (after : Option (List Arm)) → AreB kept → Good (told u kept after)
  told_good u kept None h = (h, tt)
  told_good u kept (Some arms) h = close_good kept u arms Stops (Some (Last [] None)) h

  tell_good : (b : Books) (u : ℕ) (a : Answer) (kept : Books) (arms : List Arm) (lose : Option (List Arm)) → AreB b → AreB kept → Good (tell k b u a kept arms lose)
  tell_good b u a kept arms lose h g = either Good (is_long k a) (cut k b u a arms) (at b (Telling u a kept lose None)) (λ _. close_good (closed u b) u arms Settled (Some (cut_to k a)) (in_closed u b h)) (λ _. (h, g))

  refuse_good : (b : Books) (u : ℕ) (noreply : Bool) (a : Answer) → AreB b → Good (refuse k b u noreply a)
  refuse_good b u true a h = (h, tt)
  refuse_good b u false a h = (h, h)

  continue_cursor_good : (b : Books) (c : Cursor) → AreB b → Good (continue_cursor k b c)
  continue_cursor_good b c h = either Good (nat_le (length c.rest) c.batch) _ _
      (λ _. tell_good b c.token (Last c.rest None) (closed c.token b) [] None h (in_closed c.token b h))
      (λ _. tell_good b c.token _ (with_rest c.token (drop c.batch c.rest) b) [] None h h)

  continue_left_good : (b : Books) (f : Open) (left : List Shown) → feed_of f.token b.feeds ≡ Some f → f.left ≡ left → AreB b → Good (continue_left k b f left)
  continue_left_good b f [] e q h = (h, λ g z. ([], ap (λ (x : Open). x.arms) (some_is g f (sym z ∙ e))))
  continue_left_good b f (x ∷ xs) e q h = tell_good b f.token _ (with_left f.token (drop f.batch (x ∷ xs)) b) f.arms None h
      (in_left f.token (drop f.batch (x ∷ xs)) f b e (leaves_so f (drop f.batch (x ∷ xs)) (found_so B f.token b.feeds f e h.0) (take f.batch (x ∷ xs), q ∙ cut_at f.batch (x ∷ xs))) h)

  continue_feed_good : (b : Books) (u : ℕ) (o : Option Open) → feed_of u b.feeds ≡ o → AreB b → Good (continue_feed k b u o)
  continue_feed_good b u None e h = (h, h)
  continue_feed_good b u (Some f) e h = either Good (has_token u b.waiting) _ _ (λ _. (h, h)) (λ _. continue_left_good b f f.left (found_own u b.feeds f e) refl h)

  continue_good : (b : Books) (u : ℕ) (o : Option Cursor) → AreB b → Good (continue_on k b u o)
  continue_good b u (Some c) h = continue_cursor_good b c h
  continue_good b u None h = continue_feed_good b u (feed_of u b.feeds) refl h

  visit_good : (b : Books) (u : ℕ) (o : Option Open) → feed_of u b.feeds ≡ o → AreB b → Good (visit_feed k b u o)
  visit_good b u None e h = (h, tt)
  visit_good b u (Some f) e h = continue_left_good b f f.left (found_own u b.feeds f e) refl h

  stop_feed_good : (b : Books) (u : ℕ) (o : Option Open) → AreB b → Good (stop_feed b u o)
  stop_feed_good b u None h = (h, h)
  stop_feed_good b u (Some f) h = either Good (has_token u b.waiting) _ _ (λ _. (h, h)) (λ _. close_good b u f.arms Stops (Some (Last [] None)) h)

  stop_good : (b : Books) (u : ℕ) (o : Option Cursor) → AreB b → Good (stop b u o)
  stop_good b u (Some c) h = (h, in_closed u b h)
  stop_good b u None h = stop_feed_good b u (feed_of u b.feeds) h

  begin_good : (b : Books) (u : ℕ) (x : Asked PL) → ((noreply : Bool) (plan : PL) → x ≡ Start noreply plan → is_open u b ≡ false → T u plan noreply (opened b) []) → AreB b → Good (begin k b u x)
  begin_good b u (Unreadable noreply text) t h = refuse_good b u noreply _ h
  begin_good b u (Unplanned noreply text) t h = either Good (is_open u b) _ _ (λ _. refuse_good b u noreply _ h) (λ _. refuse_good b u noreply _ h)
  begin_good b u (Start noreply plan) t h = either Good (is_open u b) _ _ (λ _. refuse_good b u noreply _ h) (λ free. (h, (t noreply plan refl free, none_others u b.feeds (or_false (is_some (cursor_of u b.cursors)) (is_some (feed_of u b.feeds)) free).1)))
  begin_good b u Continue t h = continue_good b u (cursor_of u b.cursors) h
  begin_good b u Stop t h = stop_good b u (cursor_of u b.cursors) h
  begin_good b u NoreplyWait t h = (h, h)
  begin_good b u ServerInfo t h = (h, h)

  next_arm_good : (b : Books) (u : ℕ) (arms : List Arm) (points : List Point) → ((f : Open) → feed_of u b.feeds ≡ Some f → (prior : List Arm) × (f.arms ≡ prior ++ arms)) → AreB b → Good (next_arm k b u arms points)
  next_arm_good b u [] points p h = (h, tt)
  next_arm_good b u (arm ∷ arms) points p h = (h, p)

  batch_good : (b : Books) (f : Open) (n : ℕ) (arm : Arm) (points : List Point) (skipped last : ℕ) (items : List (ℕ × Plain)) → feed_of f.token b.feeds ≡ Some f → B (record f { left = drop f.batch (change_items n arm items) }) → AreB b
      → Good (batch_of k b f n arm points skipped last items)
  batch_good b f n arm points skipped last items e x h = either Good (is_empty (skipped_item n arm skipped last ++ change_items n arm items)) _ _ (λ _. (h, tt))
      (λ _. tell_good b f.token _ (with_left f.token (drop f.batch (change_items n arm items)) b) f.arms (Some f.arms) h (in_left f.token (drop f.batch (change_items n arm items)) f b e x h))

  gone_good : (b : Books) (f : Open) (arm : Arm) (points : List Point) (arms : List Arm) → AreB b → Good (gone k b f arm points arms)
  gone_good b f arm points [] h = (h, in_closed f.token b h)
  gone_good b f arm points (x ∷ xs) h = (h, tt)

  module _ (b : Books) (f : Open) (e : feed_of f.token b.feeds ≡ Some f) (h : AreB b) (arm : Arm) (arms prior : List Arm) (all : f.arms ≡ prior ++ arm ∷ arms) where
    others_left_good : (g : Open) → feed_of f.token b.feeds ≡ Some g → (p : List Arm) × (g.arms ≡ p ++ arms)
    others_left_good g z = (prior ++ arm ∷ [], ap (λ (x : Open). x.arms) (some_is g f (sym z ∙ e)) ∙ (all ∙ sym (append_assoc prior (arm ∷ []) arms)))

    its_place : length f.arms - length (arm ∷ arms) ≡ length prior
    its_place = ap (λ z. length z - length (arm ∷ arms)) all ∙ place_of prior arms arm

    took_said_good : (points : List Point) (s : Said Summary Plain) → ((skipped last : ℕ) (items : List (ℕ × Plain)) → s ≡ said_as.Batch skipped last items → B (record f { left = drop f.batch (change_items (length prior) arm items) }))
        → Good (took_said k b f arm arms points s)
    took_said_good points (said_as.Batch skipped last items) p =
        batch_good b f (length f.arms - length (arm ∷ arms)) arm points skipped last items e (subst (λ z. B (record f { left = drop f.batch (change_items z arm items) })) (sym its_place) (p skipped last items refl)) h
    took_said_good points said_as.Gone p = gone_good b f arm points (others arm f.arms) h
    took_said_good points (said_as.HistoryFull count) p = close_good (closed f.token b) f.token f.arms Settled _ (in_closed f.token b h)
    took_said_good points other p = next_arm_good b f.token arms points others_left_good h

  -- the arms that are still to be taken from are behind others of the feed
  abbrev IsPast : Books → Task PL → Type 0
  IsPast b (Visiting u arms points) = (f : Open) → feed_of u b.feeds ≡ Some f → (prior : List Arm) × (f.arms ≡ prior ++ arms)
  IsPast b other = Unit {0}

  -- of a plan that is under way there is one more thing found
  abbrev Grows : Books → Task PL → Found → Type 0
  Grows b (Planning u plan noreply count found arms) x = T u plan noreply count (found ++ x ∷ []) × Others u b.feeds
  Grows b other x = Unit {0}

  ran_good : (b : Books) (task : Task PL) (slot : ℕ) (order : Order) (reply : Told) (saved : Saved) → Runs k b task slot order → AreB b → IsPast b task → Grows b task (RanSlot slot reply saved)
      → ((u : ℕ) (f : Open) (arm : Arm) (prior arms : List Arm) (skipped last : ℕ) (items : List (ℕ × Plain)) → feed_of u b.feeds ≡ Some f → f.arms ≡ prior ++ arm ∷ arms → slot ≡ arm.slot → order ≡ take_order arm.feed f.batch → reply.said ≡ said_as.Batch skipped last items
      → B (record f { left = drop f.batch (change_items (length prior) arm items) }))
      → Good (ran k b task slot order.cmd reply saved)
  ran_good b (Planning u plan noreply count found arms) slot order reply saved x h v g p = (h, g)
  ran_good b (Visiting u [] points) slot order reply saved x h v g p = absurd x
  ran_good b (Visiting u (arm ∷ arms) points) slot order reply saved x h v g p =
      let at = v x.0 x.1 in
      subst (λ o. Good (took k b u arm arms points reply o)) (sym x.1)
      (took_said_good b x.0 (found_own u b.feeds x.0 x.1) h arm arms at.0 at.1 _ reply.said (λ skipped last items q. p u x.0 arm at.0 arms skipped last items x.1 at.1 x.2 x.3 q))
  ran_good b (Telling u a kept lose after) slot order reply saved x h v g p = absurd x
  ran_good b (Closing u [] firm a) slot order reply saved x h v g p = absurd x
  ran_good b (Closing u (arm ∷ arms) firm a) slot order reply saved x h v g p = close_good (closed u b) u arms Settled a (in_closed u b h)

  found_good : (b : Books) (task : Task PL) (x : Found) (move : Move) → Asks k task move → AreB b → Grows b task x → Good (found_more k b task x)
  found_good b (Planning u plan noreply count found arms) x move a h g = (h, g)
  found_good b (Visiting u arms points) x move a h g = absurd a
  found_good b (Telling u z kept lose after) x move a h g = absurd a
  found_good b (Closing u arms firm z) x move a h g = absurd a

  comes_good : (b : Books) (u batch : ℕ) (found : List Found) (arms : List Arm) (to : Answered) → ((feed : List Arm) (notes : List ℕ) (items : List Shown) → to ≡ Feed feed notes items → B (record { token = u; arms = feed; left = drop batch items; batch = batch; notes = notes })) → Others u b.feeds → AreB b → Good (comes_to k b u batch found arms to)
  comes_good b u batch found arms Unsent p o h = close_good b u arms Settled None h
  comes_good b u batch found arms (One x) p o h = close_good b u arms Settled _ h
  comes_good b u batch found arms (Stream xs) p o h = either Good (nat_le (length xs) batch) _ _ (λ _. close_good b u arms Settled _ h)
      (λ _. tell_good b u _ (with_cursor (record { token = u; rest = drop batch xs; batch = batch }) b) arms None h h)
  comes_good b u batch found arms (Feed feed notes items) p o h =
      let f : Open = record { token = u; arms = feed; left = drop batch items; batch = batch; notes = notes } in
      tell_good b u _ (with_feed f b) feed (Some feed) h (all_append B b.feeds (f ∷ []) h.0 (p feed notes items refl, tt), apart_end b.feeds f h.1 o)
  comes_good b u batch found arms (Fault error text) p o h = close_good b u arms Settled _ h
  comes_good b u batch found arms Wanting p o h = close_good b u arms Settled _ h

  -- ---- a step
  abbrev DoingFits : Books → Doing PL → Type 0
  DoingFits b Rest = Unit {0}
  DoingFits b (Visits left) = Unit {0}
  DoingFits b (Busy back task) = IsFit b task
  DoingFits b (Leaving arms end) = Unit {0}

  abbrev Holds : Mach PL → Type 0
  Holds m = AreB m.books × DoingFits m.books m.doing

  by_next : (m n : Mach PL) (back : Option (List ℕ)) (y : Next PL) → n ≡ goes_on m back y → Good y → Holds n
  by_next m n back y e g = subst Holds (sym e) (g.0, fits back y.task g.1)
    where
      fits : (back : Option (List ℕ)) (task : Option (Task PL)) → FitsNext y.books task → DoingFits y.books (doing_next back task)
      fits None None f = tt
      fits (Some left) None f = tt
      fits back (Some task) f = f

-- ---- one more event
pub longer : (es before after : List Event) (x e : Event) → es ≡ before ++ x ∷ after → es ++ e ∷ [] ≡ before ++ x ∷ (after ++ e ∷ [])
longer es before after x e h = ap (λ z. z ++ e ∷ []) h ∙ append_assoc before (x ∷ after) (e ∷ [])

abbrev pub took_still : (arms : List Arm) (max : ℕ) (answer : Said Summary Plain) (es : List Event) (e : Event) → TookArm arms max answer es → TookArm arms max answer (es ++ e ∷ [])
took_still arms max answer es e t = record {
  prior = t.prior;
  arm = t.arm;
  rest = t.rest;
  all = t.all;
  took = record {
    before = t.took.before;
    after = t.took.after ++ e ∷ [];
    place = t.took.place;
    reply = t.took.reply;
    kept = t.took.kept;
    events = longer es t.took.before t.took.after (On t.arm.slot (Ran t.took.place (take_order t.arm.feed max) t.took.reply) t.took.kept) e t.took.events;
    says = t.took.says;
  };
}

given_still : (arms : List Arm) (max : ℕ) (left : List Shown) (es : List Event) (e : Event) → IsGiven arms max left es → IsGiven arms max left (es ++ e ∷ [])
given_still arms max left es e g = record { skipped = g.skipped; last = g.last; changes = g.changes; took = took_still arms max (said_as.Batch g.skipped g.last g.changes) es e g.took; tail = g.tail }

tail_of : (left more items : List Shown) → IsTail left more → IsTail more items → IsTail left items
tail_of left more items t h = (h.0 ++ t.0, h.1 ∙ (ap (λ z. h.0 ++ z) t.1 ∙ sym (append_assoc h.0 t.0 left)))

-- ---- along a run
module _ {PL : Type 0} (k : Talk PL) where
  more_found : (es : List Event) (e : Event) → found_in (es ++ e ∷ []) ≡ found_in es ++ found_by e
  more_found es e = flat_map-append found_by es (e ∷ []) ∙ ap (λ z. found_in es ++ z) (append-nil (found_by e))

  none_begun : (es : List Event) (e : Event) → begun es ≡ [] → begun_of e ≡ [] → begun (es ++ e ∷ []) ≡ []
  none_begun es e h g = flat_map-append begun_of es (e ∷ []) ∙ ap (λ z. z ++ begun (e ∷ [])) h ∙ append-nil (begun_of e) ∙ g

  -- an event that finds something
  finds_more : (token : ℕ) (plan : PL) (noreply : Bool) (count : ℕ) (found : List Found) (es : List Event) (e : Event) → begun_of e ≡ [] → IsPlanned k token plan noreply count found es → IsPlanned k token plan noreply count (found ++ found_by e) (es ++ e ∷ [])
  finds_more token plan noreply count found es e n p = record {
    before = p.before;
    start = p.start;
    frame = p.frame;
    during = p.during ++ e ∷ [];
    events = longer es p.before p.during (Begin p.frame true) e p.events;
    led = p.led;
    same = p.same;
    asks = p.asks;
    free = p.free;
    counts = p.counts;
    finds = ap (λ z. z ++ found_by e) p.finds ∙ sym (more_found p.during e);
    last = none_begun p.during e p.last n;
  }

  opened_still : (f : Open) (es : List Event) (e : Event) → IsOpened k f es → IsOpened k f (es ++ e ∷ [])
  opened_still f es e o = record {
    before = o.before;
    after = o.after ++ e ∷ [];
    events = longer es o.before o.after Come e o.events;
    plan = o.plan;
    noreply = o.noreply;
    count = o.count;
    found = o.found;
    planned = o.planned;
    items = o.items;
    ends = o.ends;
    batch = o.batch;
    left = elim o.left [ inl t ↦ inl t | inr g ↦ inr (given_still f.arms f.batch f.left o.after e g) ];
  }

  all_still : (fs : List Open) (es : List Event) (e : Event) → AllByRecursion (λ (f : Open). IsOpened k f es) fs → AllByRecursion (λ (f : Open). IsOpened k f (es ++ e ∷ [])) fs
  all_still [] es e h = tt
  all_still (f ∷ fs) es e h = (opened_still f es e h.0, all_still fs es e h.1)

  opened_with : (es : List Event) (f : Open) (left : List Shown) → IsOpened k f es → IsTail left f.left → IsOpened k (record f { left = left }) es
  opened_with es f left o t = record {
    before = o.before;
    after = o.after;
    events = o.events;
    plan = o.plan;
    noreply = o.noreply;
    count = o.count;
    found = o.found;
    planned = o.planned;
    items = o.items;
    ends = o.ends;
    batch = o.batch;
    left = elim o.left [
      | inl h ↦ inl (tail_of left f.left o.items t h)
      | inr g ↦ inr (record { skipped = g.skipped; last = g.last; changes = g.changes; took = g.took; tail = tail_of left f.left (change_items (length g.took.prior) g.took.arm g.changes) t g.tail })
    ];
  }

  -- a Take of an arm gave what is left now
  opened_took : (es : List Event) (f : Open) (place : ℕ) (order : Order) (reply : Told) (saved : Saved) (slot : ℕ) (arm : Arm) (prior arms : List Arm) (skipped last : ℕ) (items : List (ℕ × Plain))
      → f.arms ≡ prior ++ arm ∷ arms → slot ≡ arm.slot → order ≡ take_order arm.feed f.batch → reply.said ≡ said_as.Batch skipped last items → IsOpened k f es
      → IsOpened k (record f { left = drop f.batch (change_items (length prior) arm items) }) (es ++ On slot (Ran place order reply) saved ∷ [])
  opened_took es f place order reply saved slot arm prior arms skipped last items all a b says o = record {
    before = o.before;
    after = o.after ++ On slot (Ran place order reply) saved ∷ [];
    events = longer es o.before o.after Come (On slot (Ran place order reply) saved) o.events;
    plan = o.plan;
    noreply = o.noreply;
    count = o.count;
    found = o.found;
    planned = o.planned;
    items = o.items;
    ends = o.ends;
    batch = o.batch;
    left = inr (record {
      skipped = skipped;
      last = last;
      changes = items;
      took = record { prior = prior; arm = arm; rest = arms; all = all; took = record { before = o.after; after = []; place = place; reply = reply; kept = saved; events = λ i. o.after ++ On (a i) (Ran place (b i) reply) saved ∷ []; says = says } };
      tail = (take f.batch (change_items (length prior) arm items), cut_at f.batch (change_items (length prior) arm items));
    });
  }

  module _ (es : List Event) where
    abbrev Its : Open → Type 0
    Its f = IsOpened k f es

    abbrev Plan : ℕ → PL → Bool → ℕ → List Found → Type 0
    Plan token plan noreply count found = IsPlanned k token plan noreply count found es

    abbrev All : Mach PL → Type 0
    All m = Holds k Its Plan (opened_with es) m

    abbrev Are : Books → Type 0
    Are b = AreB k Its Plan (opened_with es) b

    abbrev Fits : Books → Task PL → Type 0
    Fits b task = IsFit k Its Plan (opened_with es) b task

  module _ (es : List Event) (m n : Mach PL) (e : Event) where
    abbrev now : List Event
    now = es ++ e ∷ []

    on : (x : Mach PL) (back : Option (List ℕ)) (y : Next PL) → n ≡ goes_on x back y → Good k (Its now) (Plan now) (opened_with now) y → All now n
    on x back y g d = by_next k (Its now) (Plan now) (opened_with now) x n back y g d

    still : (x : Mach PL) → n ≡ x → Are now x.books → DoingFits k (Its now) (Plan now) (opened_with now) x.books x.doing → All now n
    still x g h d = subst (All now) (sym g) (h, d)

    grows : (t : Task PL) (x : Found) → found_by e ≡ x ∷ [] → begun_of e ≡ [] → Fits es m.books t → Grows k (Its now) (Plan now) (opened_with now) m.books t x
    grows (Planning u plan noreply count found arms) x q n f = (subst (λ z. IsPlanned k u plan noreply count (found ++ z) now) q (finds_more u plan noreply count found es e n f.0), f.1)
    grows (Visiting u arms points) x q n f = tt
    grows (Telling u a kept lose after) x q n f = tt
    grows (Closing u arms firm a) x q n f = tt

    task_fits : (back : Option (List ℕ)) (task : Task PL) → m.doing ≡ Busy back task → All es m → Fits es m.books task
    task_fits back task d h = subst (λ z. DoingFits k (Its es) (Plan es) (opened_with es) m.books z) d h.1

    past : (t : Task PL) → Fits es m.books t → IsPast k (Its now) (Plan now) (opened_with now) m.books t
    past (Planning u plan noreply count found arms) f = tt
    past (Visiting u arms points) f = f
    past (Telling u a kept lose after) f = tt
    past (Closing u arms firm a) f = tt

    module _ (h : All es m) (a : Are now m.books) where
      same_grows : (b : Books) (t : Task PL) (x : Found) → b.feeds ≡ m.books.feeds → Grows k (Its now) (Plan now) (opened_with now) m.books t x → Grows k (Its now) (Plan now) (opened_with now) b t x
      same_grows b (Planning u plan noreply count found arms) x g z = (z.0, subst (Others u) (sym g) z.1)
      same_grows b (Visiting u arms points) x g z = tt
      same_grows b (Telling u y kept lose after) x g z = tt
      same_grows b (Closing u arms firm y) x g z = tt

      planned : (move : Move) (b : Books) (x : Found) → found_by e ≡ x ∷ [] → begun_of e ≡ [] → Plans k m move b x n → b.feeds ≡ m.books.feeds → All now n
      planned move b x q v s g = on m s.back (found_more k b s.task x) s.goes
          (found_good k (Its now) (Plan now) (opened_with now) b s.task x move s.asks (subst (λ z. AllByRecursion (Its now) z × AreApart z) (sym g) a) (same_grows b s.task x g (grows s.task x q v (task_fits s.back s.task s.doing h))))

      refused : (move : Move) → PlanDenied k m move n → All now n
      refused move s = on m s.back (wanted m.books s.task) s.goes (wanted_good k (Its now) (Plan now) (opened_with now) m.books s.task a)

      by_arm : (slot : ℕ) (arm : Arm) → LeavesArm k m slot arm n → All now n
      by_arm slot arm s = still _ s.goes a tt

  step_all : (es : List Event) (m n : Mach PL) (e : Event) → Run k fresh es m → Step k m e n → All es m → All (es ++ e ∷ []) n
  step_all es m n Turn r s h = still es m n Turn _ s.1 (all_still m.books.feeds es Turn h.0.0, h.0.1) tt
  step_all es m n Visit r s h = on es m n Visit m (Some s.1) (visit k m.books s.0) s.3 (visit_good k (Its (es ++ Visit ∷ [])) (Plan (es ++ Visit ∷ [])) (opened_with (es ++ Visit ∷ [])) m.books s.0 (feed_of s.0 m.books.feeds) refl (all_still m.books.feeds es Visit h.0.0, h.0.1))
  step_all es m n (Greeted true) r s h = elim s.2 [ inl g ↦ still es m n (Greeted true) _ g.4 (all_still m.books.feeds es (Greeted true) h.0.0, h.0.1) tt | inr g ↦ still es m n (Greeted true) _ g.4 (all_still m.books.feeds es (Greeted true) h.0.0, h.0.1) tt ]
  step_all es m n (Greeted false) r s h = elim s.2 [ inl g ↦ still es m n (Greeted false) _ g.4 (all_still m.books.feeds es (Greeted false) h.0.0, h.0.1) tt | inr g ↦ still es m n (Greeted false) _ g.4 (all_still m.books.feeds es (Greeted false) h.0.0, h.0.1) tt ]
  step_all es m n (Login true) r s h = elim s.2 [ inl g ↦ still es m n (Login true) _ g.5 (all_still m.books.feeds es (Login true) h.0.0, h.0.1) tt | inr u ↦ elim u [ inl g ↦ still es m n (Login true) _ g.4 (all_still m.books.feeds es (Login true) h.0.0, h.0.1) tt | inr g ↦ still es m n (Login true) _ g.3 (all_still m.books.feeds es (Login true) h.0.0, h.0.1) tt ] ]
  step_all es m n (Login false) r s h = elim s.2 [ inl g ↦ still es m n (Login false) _ g.5 (all_still m.books.feeds es (Login false) h.0.0, h.0.1) tt | inr u ↦ elim u [ inl g ↦ still es m n (Login false) _ g.4 (all_still m.books.feeds es (Login false) h.0.0, h.0.1) tt | inr g ↦ still es m n (Login false) _ g.3 (all_still m.books.feeds es (Login false) h.0.0, h.0.1) tt ] ]
  step_all es m n (Cast bytes) r s h = still es m n (Cast bytes) _ s.2 (all_still m.books.feeds es (Cast bytes) h.0.0, h.0.1) tt
  step_all es m n (Begin frame true) r s h =
      on es m n (Begin frame true) (record m { held = s.0 }) None (takes_up k m.books frame.token frame.body true) s.5
      (begin_good k (Its (es ++ (Begin frame true) ∷ [])) (Plan (es ++ (Begin frame true) ∷ [])) (opened_with (es ++ (Begin frame true) ∷ [])) m.books frame.token (k.asked frame.body)
      (λ noreply plan q free. record { before = es; start = m; frame = frame; during = []; events = refl; led = r; same = refl; asks = q; free = free; counts = refl; finds = refl; last = refl }) (all_still m.books.feeds es (Begin frame true) h.0.0, h.0.1))
  step_all es m n (Begin frame false) r s h = on es m n (Begin frame false) (record m { held = s.0 }) None (takes_up k m.books frame.token frame.body false) s.5 ((all_still m.books.feeds es (Begin frame false) h.0.0, h.0.1), (all_still m.books.feeds es (Begin frame false) h.0.0, h.0.1))
  step_all es m n (Heard bytes) r s h = still es m n (Heard bytes) _ s.2 (all_still m.books.feeds es (Heard bytes) h.0.0, h.0.1) tt
  step_all es m n (Lost bytes) r s h = still es m n (Lost bytes) _ s.2 (all_still m.books.feeds es (Lost bytes) h.0.0, h.0.1) tt
  step_all es m n Quiet r s h = still es m n Quiet _ s.1 (all_still m.books.feeds es Quiet h.0.0, h.0.1) tt
  step_all es m n Finish r s h = still es m n Finish _ s.1 (all_still m.books.feeds es Finish h.0.0, h.0.1) tt
  step_all es m n Broken r s h = still es m n Broken _ s.1 (all_still m.books.feeds es Broken h.0.0, h.0.1) tt
  step_all es m n (Long len) r s h = still es m n (Long len) _ s.3 (all_still m.books.feeds es (Long len) h.0.0, h.0.1) tt
  step_all es m n Wear r s h = still es m n Wear _ s.1 (all_still m.books.feeds es Wear h.0.0, h.0.1) tt
  step_all es m n Poor r s h = still es m n Poor _ s.1 (all_still m.books.feeds es Poor h.0.0, h.0.1) tt
  step_all es m n (On slot (Ran place order reply) saved) r s h = elim s [
    | inl x ↦ on es m n (On slot (Ran place order reply) saved) m x.back (ran k m.books x.task slot order.cmd reply saved) x.goes
        (ran_good k (Its (es ++ (On slot (Ran place order reply) saved) ∷ [])) (Plan (es ++ (On slot (Ran place order reply) saved) ∷ [])) (opened_with (es ++ (On slot (Ran place order reply) saved) ∷ [])) m.books x.task slot order reply saved x.runs (all_still m.books.feeds es (On slot (Ran place order reply) saved) h.0.0, h.0.1) (past es m n (On slot (Ran place order reply) saved) x.task (task_fits es m n (On slot (Ran place order reply) saved) x.back x.task x.doing h))
        (grows es m n (On slot (Ran place order reply) saved) x.task (RanSlot slot reply saved) refl refl (task_fits es m n (On slot (Ran place order reply) saved) x.back x.task x.doing h))
        (λ u f arm prior arms skipped last items e all a b says. opened_took es f place order reply saved slot arm prior arms skipped last items all a b says (found_so (λ (f : Open). IsOpened k f es) u m.books.feeds f e h.0.0)))
    | inr x ↦ by_arm es m n (On slot (Ran place order reply) saved) h (all_still m.books.feeds es (On slot (Ran place order reply) saved) h.0.0, h.0.1) slot x.0 x.2
  ]
  step_all es m n (On slot (Looked place question look) saved) r s h = planned es m n (On slot (Looked place question look) saved) h (all_still m.books.feeds es (On slot (Looked place question look) saved) h.0.0, h.0.1) _ m.books (SawSlot slot look) refl refl s refl
  step_all es m n (On slot (Denied place) saved) r s h = elim s [
    | inl x ↦ on es m n (On slot (Denied place) saved) m x.back (denied m.books x.task slot x.order.cmd) x.goes (denied_good k (Its (es ++ (On slot (Denied place) saved) ∷ [])) (Plan (es ++ (On slot (Denied place) saved) ∷ [])) (opened_with (es ++ (On slot (Denied place) saved) ∷ [])) m.books x.task slot x.order.cmd (all_still m.books.feeds es (On slot (Denied place) saved) h.0.0, h.0.1))
    | inr y ↦ elim y [ inl x ↦ refused es m n (On slot (Denied place) saved) h (all_still m.books.feeds es (On slot (Denied place) saved) h.0.0, h.0.1) _ x | inr x ↦ by_arm es m n (On slot (Denied place) saved) h (all_still m.books.feeds es (On slot (Denied place) saved) h.0.0, h.0.1) slot x.0 x.1 ]
  ]
  step_all es m n (OnNames (Ran place cmd reply)) r s h = planned es m n (OnNames (Ran place cmd reply)) h (all_still m.books.feeds es (OnNames (Ran place cmd reply)) h.0.0, h.0.1) _ (saw_names reply.place m.books) (ChangedNames reply.place reply) refl refl s refl
  step_all es m n (OnNames (Looked place question names)) r s h = planned es m n (OnNames (Looked place question names)) h (all_still m.books.feeds es (OnNames (Looked place question names)) h.0.0, h.0.1) _ (saw_names place m.books) (SawNames place names) refl refl s refl
  step_all es m n (OnNames (Denied place)) r s h = elim s [ inl x ↦ refused es m n (OnNames (Denied place)) h (all_still m.books.feeds es (OnNames (Denied place)) h.0.0, h.0.1) _ x | inr x ↦ refused es m n (OnNames (Denied place)) h (all_still m.books.feeds es (OnNames (Denied place)) h.0.0, h.0.1) _ x.1 ]
  step_all es m n (Clock moment) r s h = planned es m n (Clock moment) h (all_still m.books.feeds es (Clock moment) h.0.0, h.0.1) _ m.books (Clocked moment) refl refl s refl
  step_all es m n (Dice bytes) r s h = planned es m n (Dice bytes) h (all_still m.books.feeds es (Dice bytes) h.0.0, h.0.1) _ m.books (Rolled bytes) refl refl s refl
  step_all es m n Come r s h =
      let p : IsPlanned k s.token s.plan s.noreply s.count s.found es × Others s.token m.books.feeds = task_fits es m n Come s.back (Planning s.token s.plan s.noreply s.count s.found s.arms) s.doing h in
      on es m n Come m s.back (comes_to k m.books s.token (batch_size k s.plan) s.found s.arms s.to) s.goes
      (comes_good k (Its (es ++ Come ∷ [])) (Plan (es ++ Come ∷ [])) (opened_with (es ++ Come ∷ [])) m.books s.token (batch_size k s.plan) s.found s.arms s.to
      (λ feed notes items q. record { before = es; after = []; events = refl; plan = s.plan; noreply = s.noreply; count = s.count; found = s.found; planned = p.0; items = items; ends = s.ends ∙ ap (λ z. Ends z) q; batch = refl; left = inl (take (batch_size k s.plan) items, cut_at (batch_size k s.plan) items) }) p.1 (all_still m.books.feeds es Come h.0.0, h.0.1))
  step_all es m n (Say token a true) r s h =
      let kept : Are es s.kept = task_fits es m n (Say token a true) s.back (Telling token a s.kept s.lose s.after) s.doing h in
      on es m n (Say token a true) (record m { out = m.out ++ s.front }) s.back (told token s.kept s.after) s.goes (told_good k (Its (es ++ (Say token a true) ∷ [])) (Plan (es ++ (Say token a true) ∷ [])) (opened_with (es ++ (Say token a true) ∷ [])) token s.kept s.after (all_still s.kept.feeds es (Say token a true) kept.0, kept.1))
  step_all es m n (Say token a false) r s h = still es m n (Say token a false) _ s.goes (all_still m.books.feeds es (Say token a false) h.0.0, h.0.1) tt
  step_all es m n Want r s h = on es m n Want m s.back (wanted m.books s.task) s.goes (wanted_good k (Its (es ++ Want ∷ [])) (Plan (es ++ Want ∷ [])) (opened_with (es ++ Want ∷ [])) m.books s.task (all_still m.books.feeds es Want h.0.0, h.0.1))

  run_on : (a m n : Mach PL) (es : List Event) (e : Event) → Run k a es m → Step k m e n → Run k a (es ++ e ∷ []) n
  run_on a m n [] e r s = (n, subst (λ z. Step k z e n) r s, refl)
  run_on a m n (x ∷ es) e r s = (r.0, r.1, run_on r.0 m n es e r.2 s)

  run_all : (es more : List Event) (m n : Mach PL) → Run k fresh es m → Run k m more n → All es m → All (es ++ more) n
  run_all es [] m n l r h = subst (λ z. All z n) (sym (append-nil es)) (subst (All es) (sym r) h)
  run_all es (e ∷ more) m n l r h = subst (λ z. All z n) (append_assoc es (e ∷ []) more) (run_all (es ++ e ∷ []) more r.0 n (run_on fresh m r.0 es e l r.1) r.2 (step_all es m r.0 e l r.1 h))

  pub each_is_opened : EachIsOpened k
  each_is_opened es m r = (run_all [] es fresh m refl r ((tt, tt), tt)).0

  pub its_plan : (es : List Event) (m : Mach PL) → Run k fresh es m → (token : ℕ) (f : Open) → feed_of token m.books.feeds ≡ Some f → IsOpened k f es
  its_plan es m r token f e = found_so (λ (f : Open). IsOpened k f es) token m.books.feeds f e (each_is_opened es m r).0

  -- a plan that is under way has a token of no open feed
  pub free_of_feeds : (es : List Event) (m : Mach PL) → Run k fresh es m → (back : Option (List ℕ)) (token : ℕ) (plan : PL) (noreply : Bool) (count : ℕ) (found : List Found) (arms : List Arm) → m.doing ≡ Busy back (Planning token plan noreply count found arms)
      → Others token m.books.feeds
  free_of_feeds es m r back token plan noreply count found arms d = (subst (λ z. DoingFits k (Its es) (Plan es) (opened_with es) m.books z) d (run_all [] es fresh m refl r ((tt, tt), tt)).1).1
