-- Why a CONTINUE waits: the Takes of its last visit, kept along a run.
use Rattle.std.proofs.Common.{◌≡◌, ◌⊎◌, ◌+◌, inl, inr, ℕ, Bool, true, false, true≢false, cond, not, ◌||◌, List, [], ◌∷◌, ◌++◌, drop, length, Option, Some, None, refl, sym, ap, subst, ◌∙◌, arith, append_assoc, append-nil}
use Rattle.std.specs.Prelude.{nat_eq, nat_le}
use Rattle.std.proofs.lemmas.Bool.{eqb-true}
use Rattle.reql_table_machine_spec.proofs.Tracking.{split}
use Rattle.reql_table_machine_spec.specs.declared.command.Said.{Said}
use Rattle.reql_table_machine_spec.specs.declared.command.Said.TheVariants as said_as
use Rattle.reql_datum.specs.Plain.{Plain}
use Rattle.reql_datum.specs.declared.point.Point.{Point}
use Rattle.reql_feed_spec.specs.Shown.{skip_item}
use Rattle.reql_shared.specs.Acts.{Ran, Looked, Denied}
use Rattle.reql_table_spec.specs.Replies.{Answered as Told}
use Rattle.reql_table_spec.specs.declared.command.Cmd.{Cmd}
use Rattle.reql_table_spec.specs.declared.command.Order.{Order}
use Rattle.reql_table_spec.specs.declared.reply.Saved.{Saved}
use Rattle.reql_write_spec.specs.declared.command.Summary.{Summary}
use Rattle.reql_session_spec.specs.Requests.{Asked, Unreadable, Unplanned, Start, Continue, Stop, NoreplyWait, ServerInfo, Arm, Skip, Shown, Answered, Unsent, One, Stream, Feed, Fault, Wanting, Move, Found, Answer, Internal, Last}
use Rattle.reql_session_spec.specs.Books.{Cursor, Open, Books, has_token, without, cursor_of, feed_of, is_open, closed, with_rest, with_left, with_cursor, with_feed, waits, saw_names}
use Rattle.reql_session_spec.specs.Tasks.{Talk, Firm, Stops, Drops, Settled, Task, Planning, Visiting, Telling, Closing, Next, done, at, only_tell, close, wanted, denied, told, stop_feed, stop, is_long, cut, tell, comes_to, continue_cursor, continue_left, continue_feed, continue_on, visit_feed, visit, refuse, begin, takes_up, next_arm, batch_of, gone, took_said, took, ran, found_more, Runs, Asks, batch_size, is_empty, skipped_item, change_items, cut_to, fitted, others, arms_denied, take_order}
use Rattle.reql_session_spec.specs.Session.{Event, Turn, Visit, Greeted, Login, Cast, Begin, Heard, Lost, Quiet, Finish, Broken, Long, Wear, Poor, On, OnNames, Dice, Clock, Come, Say, Want, Doing, Rest, Visits, Busy, Leaving, Mach, fresh, Step, Run, doing_next, goes_on, Plans, PlanDenied, LeavesArm, turns, turns_of}
use Rattle.reql_session_spec.specs.Waiting.{IsNothing, IsBare, FoundNothing, IsVisited, EndsInVain, StartsToWait, StaysWaiting, WaitsInVain, WaitsOn}
use Rattle.reql_session_spec.proofs.Opened.{its_plan}
use Rattle.reql_session_spec.proofs.Shelves.{or_true, found_token}

either : {A : Type 0} (P : A → Type 0) (x : Bool) (y z : A) → (x ≡ true → P y) → (x ≡ false → P z) → P (cond x y z)
either P true y z f g = f refl
either P false y z f g = g refl

later : (a b : Bool) → b ≡ true → (a || b) ≡ true
later true b h = refl
later false b h = h

some_is : (x y : Open) → Some x ≡ Some y → x ≡ y
some_is x y h = ap (λ o. get x o) h
  where
    get : Open → Option Open → Open
    get d None = d
    get d (Some z) = z

-- ---- who waits in changed lists
has_without : (t u : ℕ) (ts : List ℕ) → has_token t (without u ts) ≡ true → has_token t ts ≡ true
has_without t u [] h = h
has_without t u (x ∷ ts) h = split (nat_eq x u) (λ b. has_token t (cond (not b) (x ∷ without u ts) (without u ts)) ≡ true → (nat_eq x t || has_token t ts) ≡ true)
    (λ _ z. later (nat_eq x t) (has_token t ts) (has_without t u ts z))
    (λ _ z. elim (or_true (nat_eq x t) (has_token t (without u ts)) z) [ inl a ↦ ap (λ b. b || has_token t ts) a | inr b ↦ later (nat_eq x t) (has_token t ts) (has_without t u ts b) ]) h

has_added : (t u : ℕ) (ts : List ℕ) → has_token t (ts ++ u ∷ []) ≡ true → (has_token t ts ≡ true) ⊎ (u ≡ t)
has_added t u [] h = elim (or_true (nat_eq u t) false h) [ inl a ↦ inr (eqb-true u t a) | inr b ↦ absurd (true≢false (sym b)) ]
has_added t u (x ∷ ts) h = elim (or_true (nat_eq x t) (has_token t (ts ++ u ∷ [])) h) [
  | inl a ↦ inl (ap (λ b. b || has_token t ts) a)
  | inr b ↦ elim (has_added t u ts b) [ inl c ↦ inl (later (nat_eq x t) (has_token t ts) c) | inr d ↦ inr d ]
]

-- a batch of which nothing is told has no items and no skip
bare_list : (b : Bool) (x : Shown) (xs : List Shown) → is_empty (cond b [] (x ∷ []) ++ xs) ≡ true → (b ≡ true) × (is_empty xs ≡ true)
bare_list true x xs h = (refl, h)
bare_list false x xs h = absurd (true≢false (sym h))

no_items : (n : ℕ) (arm : Arm) (items : List (ℕ × Plain)) → is_empty (change_items n arm items) ≡ true → items ≡ []
no_items n arm [] h = refl
no_items n arm (x ∷ xs) h = absurd (true≢false (sym h))

bare : (n : ℕ) (arm : Arm) (skipped last : ℕ) (items : List (ℕ × Plain)) → is_empty (skipped_item n arm skipped last ++ change_items n arm items) ≡ true → (skipped ≡ 0) × (items ≡ [])
bare n arm skipped last items h =
    let a = bare_list (nat_eq skipped 0) (record { at = n; arm = arm; sort = Skip; stamp = last; item = skip_item skipped }) (change_items n arm items) h in
    (eqb-true skipped 0 a.0, no_items n arm items a.1)

-- nobody waits in the one who doesn't in the other
abbrev Within : Books → Books → Type 0
Within x b = (t : ℕ) → has_token t x.waiting ≡ true → has_token t b.waiting ≡ true

in_closed : (u : ℕ) (b : Books) → Within (closed u b) b
in_closed u b t h = has_without t u b.waiting h

-- what is left to be taken from, or that the token waits
module _ (P : ℕ → List Arm → Type 0) (W : ℕ → Type 0) where
  abbrev Comes : ℕ → List Arm → Type 0
  Comes u [] = W u
  Comes u (arm ∷ arms) = P u (arm ∷ arms)

-- ---- what is next, where P is so of a token and the arms that are still to be taken from for it, and W of a token that comes to wait
module _ {PL : Type 0} (P : ℕ → List Arm → Type 0) (W : ℕ → Type 0) where
  abbrev IsFit : Books → Books → Task PL → Type 0
  IsFit b c (Planning u plan noreply count found arms) = Unit {0}
  IsFit b c (Visiting u arms points) = (c ≡ b) × P u arms
  IsFit b c (Telling u a kept lose after) = Within kept c
  IsFit b c (Closing u arms firm a) = Unit {0}

  abbrev FitsNext : Books → Books → Option (Task PL) → Type 0
  FitsNext b c None = Unit {0}
  FitsNext b c (Some task) = IsFit b c task

  record Good (b : Books) (y : Next PL) : Type 0 where
    waits : (t : ℕ) → has_token t y.books.waiting ≡ true → (has_token t b.waiting ≡ true) ⊎ W t
    task : FitsNext b y.books y.task

  done_good : (b : Books) → Good b (done b)
  done_good b = record { waits = λ t h. inl h; task = tt }

  tell_good : (b : Books) (u : ℕ) (a : Answer) → Good b (only_tell b u a)
  tell_good b u a = record { waits = λ t h. inl h; task = λ t h. h }

  close_good : (b c : Books) (u : ℕ) (arms : List Arm) (firm : Firm) (a : Option Answer) → Within c b → Good b (close c u arms firm a)
  close_good b c u [] firm None s = record { waits = λ t h. inl (s t h); task = tt }
  close_good b c u [] firm (Some a) s = record { waits = λ t h. inl (s t h); task = λ t h. h }
  close_good b c u (arm ∷ arms) firm a s = record { waits = λ t h. inl (s t h); task = tt }

  wanted_good : (b : Books) (task : Task PL) → Good b (wanted b task)
  wanted_good b (Planning u plan noreply count found arms) = close_good b b u arms Settled (cond noreply None (Some Internal)) (λ t h. h)
  wanted_good b (Visiting u arms points) = tell_good b u Internal
  wanted_good b (Telling u a kept None after) = tell_good b u Internal
  wanted_good b (Telling u a kept (Some arms) after) = close_good b (closed u b) u arms Settled (Some Internal) (in_closed u b)
  wanted_good b (Closing u arms Settled None) = close_good b b u arms Settled None (λ t h. h)
  wanted_good b (Closing u arms Settled (Some a)) = close_good b b u arms Settled (Some Internal) (λ t h. h)
  wanted_good b (Closing u arms Stops a) = tell_good b u Internal
  wanted_good b (Closing u arms Drops a) = tell_good b u Internal

  denied_good : (b : Books) (task : Task PL) (slot : ℕ) (cmd : Cmd) → Good b (denied b task slot cmd)
  denied_good b (Planning u plan noreply count found arms) slot cmd = wanted_good b (Planning u plan noreply count found (arms_denied slot cmd arms))
  denied_good b (Visiting u arms points) slot cmd = tell_good b u Internal
  denied_good b (Telling u a kept lose after) slot cmd = wanted_good b (Telling u a kept lose after)
  denied_good b (Closing u [] firm a) slot cmd = wanted_good b (Closing u [] firm a)
  denied_good b (Closing u (arm ∷ arms) Stops a) slot cmd = tell_good b u Internal
  denied_good b (Closing u (arm ∷ arms) Drops a) slot cmd = close_good b (closed u b) u arms Settled a (in_closed u b)
  denied_good b (Closing u (arm ∷ arms) Settled a) slot cmd = close_good b (closed u b) u arms Settled a (in_closed u b)

  told_good : (b : Books) (u : ℕ) (kept : Books) (after : Option (List Arm)) → Within kept b → Good b (told u kept after)
  told_good b u kept None s = record { waits = λ t h. inl (s t h); task = tt }
  told_good b u kept (Some arms) s = close_good b kept u arms Stops (Some (Last [] None)) s

  stop_feed_good : (b : Books) (u : ℕ) (o : Option Open) → Good b (stop_feed b u o)
  stop_feed_good b u None = tell_good b u (Last [] None)
  stop_feed_good b u (Some f) = either (Good b) (has_token u b.waiting) _ _
      (λ _. record { waits = λ t h. inl h; task = λ t h. has_without t u b.waiting h })
      (λ _. close_good b b u f.arms Stops (Some (Last [] None)) (λ t h. h))

  stop_good : (b : Books) (u : ℕ) (o : Option Cursor) → Good b (stop b u o)
  stop_good b u (Some c) = record { waits = λ t h. inl h; task = in_closed u b }
  stop_good b u None = stop_feed_good b u (feed_of u b.feeds)

  waits_good : (b : Books) (u : ℕ) → W u → Good b (done (waits u b))
  waits_good b u w = record { waits = λ t h. elim (has_added t u b.waiting h) [ inl a ↦ inl a | inr e ↦ inr (subst W e w) ]; task = tt }

  module _ (k : Talk PL) where
    tell_kept : (b : Books) (u : ℕ) (a : Answer) (kept : Books) (arms : List Arm) (lose : Option (List Arm)) → Within kept b → Good b (tell k b u a kept arms lose)
    tell_kept b u a kept arms lose s = either (Good b) (is_long k a) (cut k b u a arms) (at b (Telling u a kept lose None))
        (λ _. close_good b (closed u b) u arms Settled (Some (cut_to k a)) (in_closed u b))
        (λ _. record { waits = λ t h. inl h; task = s })

    refuse_good : (b : Books) (u : ℕ) (noreply : Bool) (a : Answer) → Good b (refuse k b u noreply a)
    refuse_good b u true a = done_good b
    refuse_good b u false a = tell_good b u (fitted k a)

    -- ---- a CONTINUE, and a visit
    continue_cursor_good : (b : Books) (c : Cursor) → Good b (continue_cursor k b c)
    continue_cursor_good b c = either (Good b) (nat_le (length c.rest) c.batch) _ _
        (λ _. tell_kept b c.token (Last c.rest None) (closed c.token b) [] None (in_closed c.token b))
        (λ _. tell_kept b c.token _ (with_rest c.token (drop c.batch c.rest) b) [] None (λ t h. h))

    continue_left_good : (b : Books) (f : Open) (left : List Shown) → (left ≡ [] → P f.token f.arms) → Good b (continue_left k b f left)
    continue_left_good b f [] p = record { waits = λ t h. inl h; task = (refl, p refl) }
    continue_left_good b f (x ∷ xs) p = tell_kept b f.token _ (with_left f.token (drop f.batch (x ∷ xs)) b) f.arms None (λ t h. h)

    continue_feed_good : (b : Books) (u : ℕ) (o : Option Open) → ((f : Open) → o ≡ Some f → f.left ≡ [] → P f.token f.arms) → Good b (continue_feed k b u o)
    continue_feed_good b u None p = tell_good b u _
    continue_feed_good b u (Some f) p = either (Good b) (has_token u b.waiting) _ _ (λ _. tell_good b u _) (λ _. continue_left_good b f f.left (p f refl))

    continue_good : (b : Books) (u : ℕ) (o : Option Cursor) → ((f : Open) → feed_of u b.feeds ≡ Some f → f.left ≡ [] → P f.token f.arms) → Good b (continue_on k b u o)
    continue_good b u (Some c) p = continue_cursor_good b c
    continue_good b u None p = continue_feed_good b u (feed_of u b.feeds) p

    visit_feed_good : (b : Books) (u : ℕ) (o : Option Open) → ((f : Open) → o ≡ Some f → f.left ≡ [] → P f.token f.arms) → Good b (visit_feed k b u o)
    visit_feed_good b u None p = done_good b
    visit_feed_good b u (Some f) p = continue_left_good b f f.left (p f refl)

    begin_good : (b : Books) (u : ℕ) (x : Asked PL) → (x ≡ Continue → (f : Open) → feed_of u b.feeds ≡ Some f → f.left ≡ [] → P f.token f.arms) → Good b (begin k b u x)
    begin_good b u (Unreadable noreply text) p = refuse_good b u noreply _
    begin_good b u (Unplanned noreply text) p = either (Good b) (is_open u b) _ _ (λ _. refuse_good b u noreply _) (λ _. refuse_good b u noreply _)
    begin_good b u (Start noreply plan) p = either (Good b) (is_open u b) _ _ (λ _. refuse_good b u noreply _) (λ _. record { waits = λ t h. inl h; task = tt })
    begin_good b u Continue p = continue_good b u (cursor_of u b.cursors) (p refl)
    begin_good b u Stop p = stop_good b u (cursor_of u b.cursors)
    begin_good b u NoreplyWait p = tell_good b u _
    begin_good b u ServerInfo p = tell_good b u _

    -- ---- a Take
    next_arm_good : (b : Books) (u : ℕ) (arms : List Arm) (points : List Point) → Comes P W u arms → Good b (next_arm k b u arms points)
    next_arm_good b u [] points h = waits_good b u h
    next_arm_good b u (arm ∷ arms) points h = record { waits = λ t z. inl z; task = (refl, h) }

    batch_good : (b : Books) (f : Open) (n : ℕ) (arm : Arm) (points : List Point) (skipped last : ℕ) (items : List (ℕ × Plain)) → ((skipped ≡ 0) × (items ≡ []) → W f.token) → Good b (batch_of k b f n arm points skipped last items)
    batch_good b f n arm points skipped last items w = either (Good b) (is_empty (skipped_item n arm skipped last ++ change_items n arm items)) _ _
        (λ h. waits_good b f.token (w (bare n arm skipped last items h)))
        (λ _. tell_kept b f.token _ (with_left f.token (drop f.batch (change_items n arm items)) b) f.arms (Some f.arms) (λ t h. h))

    gone_good : (b : Books) (f : Open) (arm : Arm) (points : List Point) (arms : List Arm) → Good b (gone k b f arm points arms)
    gone_good b f arm points [] = record { waits = λ t h. inl h; task = in_closed f.token b }
    gone_good b f arm points (x ∷ xs) = record { waits = λ t h. inl h; task = tt }

    took_said_good : (b : Books) (f : Open) (arm : Arm) (arms : List Arm) (points : List Point) (s : Said Summary Plain) → (IsNothing s → Comes P W f.token arms) → (IsBare s → W f.token) → Good b (took_said k b f arm arms points s)
    took_said_good b f arm arms points (said_as.Batch skipped last items) p w = batch_good b f _ arm points skipped last items w
    took_said_good b f arm arms points said_as.Gone p w = gone_good b f arm points (others arm f.arms)
    took_said_good b f arm arms points (said_as.HistoryFull count) p w = close_good b (closed f.token b) f.token f.arms Settled _ (in_closed f.token b)
    took_said_good b f arm arms points other p w = next_arm_good b f.token arms points (p tt)

    ran_good : (b : Books) (task : Task PL) (slot : ℕ) (order : Order) (reply : Told) (saved : Saved) → Runs k b task slot order
        → ((u : ℕ) (arm : Arm) (arms : List Arm) (points : List Point) (f : Open) → task ≡ Visiting u (arm ∷ arms) points → feed_of u b.feeds ≡ Some f → slot ≡ arm.slot → order ≡ take_order arm.feed f.batch → (IsNothing reply.said → Comes P W f.token arms) × (IsBare reply.said → W f.token))
        → Good b (ran k b task slot order.cmd reply saved)
    ran_good b (Planning u plan noreply count found arms) slot order reply saved x p = record { waits = λ t h. inl h; task = tt }
    ran_good b (Visiting u [] points) slot order reply saved x p = absurd x
    ran_good b (Visiting u (arm ∷ arms) points) slot order reply saved x p =
        let g = p u arm arms points x.0 refl x.1 x.2 x.3 in
        subst (λ o. Good b (took k b u arm arms points reply o)) (sym x.1) (took_said_good b x.0 arm arms _ reply.said g.0 g.1)
    ran_good b (Telling u a kept lose after) slot order reply saved x p = absurd x
    ran_good b (Closing u [] firm a) slot order reply saved x p = absurd x
    ran_good b (Closing u (arm ∷ arms) firm a) slot order reply saved x p = close_good b (closed u b) u arms Settled a (in_closed u b)

    found_good : (b c : Books) (task : Task PL) (x : Found) (move : Move) → Within c b → Asks k task move → Good b (found_more k c task x)
    found_good b c (Planning u plan noreply count found arms) x move s a = record { waits = λ t h. inl (s t h); task = tt }
    found_good b c (Visiting u arms points) x move s a = absurd a
    found_good b c (Telling u z kept lose after) x move s a = absurd a
    found_good b c (Closing u arms firm z) x move s a = absurd a

    comes_good : (b : Books) (u batch : ℕ) (found : List Found) (arms : List Arm) (to : Answered) → Good b (comes_to k b u batch found arms to)
    comes_good b u batch found arms Unsent = close_good b b u arms Settled None (λ t h. h)
    comes_good b u batch found arms (One x) = close_good b b u arms Settled _ (λ t h. h)
    comes_good b u batch found arms (Stream xs) = either (Good b) (nat_le (length xs) batch) _ _
        (λ _. close_good b b u arms Settled _ (λ t h. h))
        (λ _. tell_kept b u _ (with_cursor (record { token = u; rest = drop batch xs; batch = batch }) b) arms None (λ t h. h))
    comes_good b u batch found arms (Feed feed notes items) =
        tell_kept b u _ (with_feed (record { token = u; arms = feed; left = drop batch items; batch = batch; notes = notes }) b) feed (Some feed) (λ t h. h)
    comes_good b u batch found arms (Fault error text) = close_good b b u arms Settled _ (λ t h. h)
    comes_good b u batch found arms Wanting = close_good b b u arms Settled _ (λ t h. h)

-- ---- along a run
module _ {PL : Type 0} (k : Talk PL) where
  run_more : (a m n : Mach PL) (es : List Event) (e : Event) → Run k a es m → Step k m e n → Run k a (es ++ e ∷ []) n
  run_more a m n [] e r s = (n, subst (λ z. Step k z e n) r s, refl)
  run_more a m n (x ∷ es) e r s = (r.0, r.1, run_more r.0 m n es e r.2 s)

  -- A CONTINUE's visit is under way: it began with nothing of its feed left, and the Takes of its arms found nothing up to
  -- these arms.
  record Midst (es : List Event) (m : Mach PL) (b : Books) (token : ℕ) (arms : List Arm) : Type 0 where
    before : List Event
    start : Mach PL
    first : Event
    takes : List Event
    feed : Open
    events : es ≡ before ++ first ∷ takes
    led : Run k fresh before start
    begins : IsVisited k token start first
    run : Run k start (first ∷ takes) m
    its : feed_of token start.books.feeds ≡ Some feed
    here : feed_of token b.feeds ≡ Some feed
    left : feed.left ≡ []
    found : (more : List Event) → FoundNothing feed.batch arms more → FoundNothing feed.batch feed.arms (takes ++ more)

  abbrev TaskAt : List Event → Mach PL → Books → Task PL → Type 0
  TaskAt es m b (Planning u plan noreply count found arms) = Unit {0}
  TaskAt es m b (Visiting u arms points) = Midst es m b u arms
  TaskAt es m b (Telling u a kept lose after) = Within kept b
  TaskAt es m b (Closing u arms firm a) = Unit {0}

  abbrev At : List Event → Mach PL → Books → Doing PL → Type 0
  At es m b Rest = Unit {0}
  At es m b (Visits left) = Unit {0}
  At es m b (Busy back task) = TaskAt es m b task
  At es m b (Leaving arms end) = Unit {0}

  -- it has just been taken up
  first_midst : (es : List Event) (m n : Mach PL) (e : Event) (u : ℕ) (f : Open) → Run k fresh es m → Step k m e n → IsVisited k u m e → feed_of u m.books.feeds ≡ Some f → f.left ≡ [] → Midst (es ++ e ∷ []) n m.books f.token f.arms
  first_midst es m n e u f r s t o l =
      let same : f.token ≡ u = eqb-true f.token u (found_token 0 0 false u m.books.feeds f o) in
      subst (λ z. Midst (es ++ e ∷ []) n m.books z f.arms) (sym same)
      (record { before = es; start = m; first = e; takes = []; feed = f; events = refl; led = r; begins = t; run = (n, s, refl); its = o; here = o; left = l; found = λ more h. h })

  module _ (es : List Event) (m n : Mach PL) (e : Event) where
    abbrev P : ℕ → List Arm → Type 0
    P u arms = Midst (es ++ e ∷ []) n m.books u arms

    abbrev W : ℕ → Type 0
    W u = has_token u n.books.waiting ≡ true → EndsInVain k u (es ++ e ∷ []) n

  -- one more Take found nothing: further arms are taken from, or the token waits
  module _ (es : List Event) (m n : Mach PL) (slot place : ℕ) (order : Order) (reply : Told) (saved : Saved) (u : ℕ) (arm : Arm) (s : Step k m (On slot (Ran place order reply) saved) n) where
    abbrev taken : Event
    taken = On slot (Ran place order reply) saved

    more_events : (before takes : List Event) (first : Event) → es ≡ before ++ first ∷ takes → es ++ taken ∷ [] ≡ before ++ first ∷ (takes ++ taken ∷ [])
    more_events before takes first h = ap (λ z. z ++ taken ∷ []) h ∙ append_assoc before (first ∷ takes) (taken ∷ [])

    is_take : (max : ℕ) → slot ≡ arm.slot → order ≡ take_order arm.feed max → (more : List Event) → taken ∷ more ≡ On arm.slot (Ran place (take_order arm.feed max) reply) saved ∷ more
    is_take max a b more = λ i. On (a i) (Ran place (b i) reply) saved ∷ more

    next_midst : (arms : List Arm) (x : Midst es m m.books u (arm ∷ arms)) → slot ≡ arm.slot → order ≡ take_order arm.feed x.feed.batch → IsNothing reply.said → Midst (es ++ taken ∷ []) n m.books u arms
    next_midst arms x a b none = record {
      before = x.before;
      start = x.start;
      first = x.first;
      takes = x.takes ++ taken ∷ [];
      feed = x.feed;
      events = more_events x.before x.takes x.first x.events;
      led = x.led;
      begins = x.begins;
      run = run_more x.start m n (x.first ∷ x.takes) taken x.run s;
      its = x.its;
      here = x.here;
      left = x.left;
      found = λ more h. subst (FoundNothing x.feed.batch x.feed.arms) (sym (append_assoc x.takes (taken ∷ []) more)) (x.found (taken ∷ more) (place, reply, saved, more, is_take x.feed.batch a b more, inl (none, h)));
    }

    ends : (arms : List Arm) (x : Midst es m m.books u (arm ∷ arms)) → FoundNothing x.feed.batch (arm ∷ arms) (taken ∷ []) → has_token u n.books.waiting ≡ true → EndsInVain k u (es ++ taken ∷ []) n
    ends arms x h w = record {
      before = x.before;
      visit = x.first ∷ (x.takes ++ taken ∷ []);
      start = x.start;
      events = more_events x.before x.takes x.first x.events;
      led = x.led;
      vain = record {
        first = x.first;
        takes = x.takes ++ taken ∷ [];
        events = refl;
        begins = x.begins;
        feed = x.feed;
        its = x.its;
        left = x.left;
        found = x.found (taken ∷ []) h;
        run = run_more x.start m n (x.first ∷ x.takes) taken x.run s;
        waits = w;
      };
      opened = its_plan k x.before x.start x.led u x.feed x.its;
    }

    come : (arms : List Arm) (x : Midst es m m.books u (arm ∷ arms)) → slot ≡ arm.slot → order ≡ take_order arm.feed x.feed.batch → IsNothing reply.said → Comes (P es m n taken) (W es m n taken) u arms
    come [] x a b none = λ w. ends [] x (place, reply, saved, [], is_take x.feed.batch a b [], inl (none, refl)) w
    come (y ∷ ys) x a b none = next_midst (y ∷ ys) x a b none

    comes : (arms : List Arm) (f : Open) → Midst es m m.books u (arm ∷ arms) → feed_of u m.books.feeds ≡ Some f → slot ≡ arm.slot → order ≡ take_order arm.feed f.batch
        → (IsNothing reply.said → Comes (P es m n taken) (W es m n taken) f.token arms) × (IsBare reply.said → W es m n taken f.token)
    comes arms f x o a b =
        let same : x.feed ≡ f = some_is x.feed f (sym x.here ∙ o) in
        let own : u ≡ f.token = sym (eqb-true f.token u (found_token 0 0 false u m.books.feeds f o)) in
        let takes : order ≡ take_order arm.feed x.feed.batch = b ∙ ap (λ (z : Open). take_order arm.feed z.batch) (sym same) in
        subst (λ z. (IsNothing reply.said → Comes (P es m n taken) (W es m n taken) z arms) × (IsBare reply.said → W es m n taken z)) own
        (λ none. come arms x a takes none, λ none w. ends arms x (place, reply, saved, [], is_take x.feed.batch a takes [], inr (none, refl)) w)

  -- ---- a step
  module _ (es : List Event) (m n : Mach PL) (e : Event) where
    abbrev PThere : ℕ → List Arm → Type 0
    PThere = P es m n e

    abbrev WThere : ℕ → Type 0
    WThere = W es m n e

    record Goes : Type 0 where
      at : At (es ++ e ∷ []) n n.books n.doing
      waits : (t : ℕ) → has_token t n.books.waiting ≡ true → (has_token t m.books.waiting ≡ true) ⊎ EndsInVain k t (es ++ e ∷ []) n

    next_at : (c : Books) (back : Option (List ℕ)) (task : Option (Task PL)) → FitsNext PThere WThere m.books c task → At (es ++ e ∷ []) n c (doing_next back task)
    next_at c None None f = tt
    next_at c (Some left) None f = tt
    next_at c back (Some (Planning u plan noreply count found arms)) f = tt
    next_at c back (Some (Visiting u arms points)) f = subst (λ z. Midst (es ++ e ∷ []) n z u arms) (sym f.0) f.1
    next_at c back (Some (Telling u a kept lose after)) f = f
    next_at c back (Some (Closing u arms firm a)) f = tt

    by_next : (x : Mach PL) (back : Option (List ℕ)) (y : Next PL) → n ≡ goes_on x back y → Good PThere WThere m.books y → Goes
    by_next x back y g d = record {
      at = subst (λ (z : Mach PL). At (es ++ e ∷ []) n z.books z.doing) (sym g) (next_at y.books back y.task d.task);
      waits = λ t h. elim (d.waits t (subst (λ (z : Mach PL). has_token t z.books.waiting ≡ true) g h)) [ inl a ↦ inl a | inr w ↦ inr (w h) ];
    }

    -- to a place where no visit is under way, with who waited before
    moves : (x : Mach PL) → n ≡ x → ((b : Books) → At (es ++ e ∷ []) n b x.doing) → Within x.books m.books → Goes
    moves x g a s = record {
      at = subst (λ (z : Mach PL). At (es ++ e ∷ []) n z.books z.doing) (sym g) (a x.books);
      waits = λ t h. inl (s t (subst (λ (z : Mach PL). has_token t z.books.waiting ≡ true) g h));
    }

    planned : (move : Move) (b : Books) (x : Found) → Plans k m move b x n → Within b m.books → Goes
    planned move b x s w = by_next m s.back (found_more k b s.task x) s.goes (found_good PThere WThere k m.books b s.task x move w s.asks)

    refused : (move : Move) → PlanDenied k m move n → Goes
    refused move s = by_next m s.back (wanted m.books s.task) s.goes (wanted_good PThere WThere m.books s.task)

    by_arm : (slot : ℕ) (arm : Arm) → LeavesArm k m slot arm n → Goes
    by_arm slot arm s = moves _ s.goes (λ b. tt) (λ t h. h)

  task_at : (es : List Event) (m : Mach PL) (back : Option (List ℕ)) (task : Task PL) → m.doing ≡ Busy back task → At es m m.books m.doing → TaskAt es m m.books task
  task_at es m back task d h = subst (λ z. At es m m.books z) d h

  step_goes : (es : List Event) (m n : Mach PL) (e : Event) → Run k fresh es m → At es m m.books m.doing → Step k m e n → Goes es m n e
  step_goes es m n Turn r h s = moves es m n Turn _ s.1 (λ b. tt) (λ t z. absurd (true≢false (sym z)))
  step_goes es m n Visit r h s =
      by_next es m n Visit m (Some s.1) (visit k m.books s.0) s.3
      (visit_feed_good (P es m n Visit) (W es m n Visit) k m.books s.0 (feed_of s.0 m.books.feeds) (λ f o l. first_midst es m n Visit s.0 f r s (s.1, s.2) o l))
  step_goes es m n (Greeted true) r h s = elim s.2 [ inl g ↦ moves es m n (Greeted true) _ g.4 (λ b. tt) (λ t z. z) | inr g ↦ moves es m n (Greeted true) _ g.4 (λ b. tt) (λ t z. z) ]
  step_goes es m n (Greeted false) r h s = elim s.2 [ inl g ↦ moves es m n (Greeted false) _ g.4 (λ b. tt) (λ t z. z) | inr g ↦ moves es m n (Greeted false) _ g.4 (λ b. tt) (λ t z. z) ]
  step_goes es m n (Login true) r h s = elim s.2 [ inl g ↦ moves es m n (Login true) _ g.5 (λ b. tt) (λ t z. z) | inr u ↦ elim u [ inl g ↦ moves es m n (Login true) _ g.4 (λ b. tt) (λ t z. z) | inr g ↦ moves es m n (Login true) _ g.3 (λ b. tt) (λ t z. z) ] ]
  step_goes es m n (Login false) r h s = elim s.2 [ inl g ↦ moves es m n (Login false) _ g.5 (λ b. tt) (λ t z. z) | inr u ↦ elim u [ inl g ↦ moves es m n (Login false) _ g.4 (λ b. tt) (λ t z. z) | inr g ↦ moves es m n (Login false) _ g.3 (λ b. tt) (λ t z. z) ] ]
  step_goes es m n (Cast bytes) r h s = moves es m n (Cast bytes) _ s.2 (λ b. tt) (λ t z. z)
  step_goes es m n (Begin frame true) r h s =
      by_next es m n (Begin frame true) (record m { held = s.0 }) None (takes_up k m.books frame.token frame.body true) s.5
      (begin_good (P es m n (Begin frame true)) (W es m n (Begin frame true)) k m.books frame.token (k.asked frame.body) (λ c f o l. first_midst es m n (Begin frame true) frame.token f r s (refl, c) o l))
  step_goes es m n (Begin frame false) r h s =
      by_next es m n (Begin frame false) (record m { held = s.0 }) None (takes_up k m.books frame.token frame.body false) s.5
      (tell_good (P es m n (Begin frame false)) (W es m n (Begin frame false)) m.books frame.token Internal)
  step_goes es m n (Heard bytes) r h s = moves es m n (Heard bytes) _ s.2 (λ b. tt) (λ t z. z)
  step_goes es m n (Lost bytes) r h s = moves es m n (Lost bytes) _ s.2 (λ b. tt) (λ t z. z)
  step_goes es m n Quiet r h s = moves es m n Quiet _ s.1 (λ b. tt) (λ t z. z)
  step_goes es m n Finish r h s = moves es m n Finish _ s.1 (λ b. tt) (λ t z. z)
  step_goes es m n Broken r h s = moves es m n Broken _ s.1 (λ b. tt) (λ t z. z)
  step_goes es m n (Long len) r h s = moves es m n (Long len) _ s.3 (λ b. tt) (λ t z. z)
  step_goes es m n Wear r h s = moves es m n Wear _ s.1 (λ b. tt) (λ t z. z)
  step_goes es m n Poor r h s = moves es m n Poor _ s.1 (λ b. tt) (λ t z. z)
  step_goes es m n (On slot (Ran place order reply) saved) r h s = elim s [
    | inl x ↦ by_next es m n (On slot (Ran place order reply) saved) m x.back (ran k m.books x.task slot order.cmd reply saved) x.goes
        (ran_good (P es m n (On slot (Ran place order reply) saved)) (W es m n (On slot (Ran place order reply) saved)) k m.books x.task slot order reply saved x.runs
        (λ u arm arms points f is o a b. comes es m n slot place order reply saved u arm (inl x) arms f (subst (TaskAt es m m.books) is (task_at es m x.back x.task x.doing h)) o a b))
    | inr x ↦ by_arm es m n (On slot (Ran place order reply) saved) slot x.0 x.2
  ]
  step_goes es m n (On slot (Looked place question look) saved) r h s = planned es m n (On slot (Looked place question look) saved) _ m.books _ s (λ t z. z)
  step_goes es m n (On slot (Denied place) saved) r h s = elim s [
    | inl x ↦ by_next es m n (On slot (Denied place) saved) m x.back (denied m.books x.task slot x.order.cmd) x.goes (denied_good (P es m n (On slot (Denied place) saved)) (W es m n (On slot (Denied place) saved)) m.books x.task slot x.order.cmd)
    | inr y ↦ elim y [ inl x ↦ refused es m n (On slot (Denied place) saved) _ x | inr x ↦ by_arm es m n (On slot (Denied place) saved) slot x.0 x.1 ]
  ]
  step_goes es m n (OnNames (Ran place cmd reply)) r h s = planned es m n (OnNames (Ran place cmd reply)) _ (saw_names reply.place m.books) _ s (λ t z. z)
  step_goes es m n (OnNames (Looked place question names)) r h s = planned es m n (OnNames (Looked place question names)) _ (saw_names place m.books) _ s (λ t z. z)
  step_goes es m n (OnNames (Denied place)) r h s = elim s [ inl x ↦ refused es m n (OnNames (Denied place)) _ x | inr x ↦ refused es m n (OnNames (Denied place)) _ x.1 ]
  step_goes es m n (Clock moment) r h s = planned es m n (Clock moment) _ m.books _ s (λ t z. z)
  step_goes es m n (Dice bytes) r h s = planned es m n (Dice bytes) _ m.books _ s (λ t z. z)
  step_goes es m n Come r h s = by_next es m n Come m s.back _ s.goes (comes_good (P es m n Come) (W es m n Come) k m.books s.token (batch_size k s.plan) s.found s.arms s.to)
  step_goes es m n (Say token a true) r h s =
      let w : Within s.kept m.books = task_at es m s.back (Telling token a s.kept s.lose s.after) s.doing h in
      by_next es m n (Say token a true) (record m { out = m.out ++ s.front }) s.back (told token s.kept s.after) s.goes (told_good (P es m n (Say token a true)) (W es m n (Say token a true)) m.books token s.kept s.after w)
  step_goes es m n (Say token a false) r h s = moves es m n (Say token a false) _ s.goes (λ b. tt) (λ t z. z)
  step_goes es m n Want r h s = by_next es m n Want m s.back (wanted m.books s.task) s.goes (wanted_good (P es m n Want) (W es m n Want) m.books s.task)

  -- ---- since then
  stays_more : (t : ℕ) (a m n : Mach PL) (es : List Event) (e : Event) → StaysWaiting k t a es m → Step k m e n → has_token t n.books.waiting ≡ true → StaysWaiting k t a (es ++ e ∷ []) n
  stays_more t a m n [] e r s w = (r.1, n, subst (λ z. Step k z e n) r.0 s, (refl, w))
  stays_more t a m n (x ∷ es) e r s w = (r.0, r.1, r.2, stays_more t r.1 m n es e r.3 s w)

  no_turn : (t : ℕ) (m n : Mach PL) (e : Event) → Step k m e n → has_token t n.books.waiting ≡ true → turns_of e ≡ 0
  no_turn t m n Turn s w = absurd (true≢false (sym (subst (λ (z : Mach PL). has_token t z.books.waiting ≡ true) s.1 w)))
  no_turn t m n other s w = refl

  turns_more : (es : List Event) (e : Event) → turns (es ++ e ∷ []) ≡ turns es + turns_of e
  turns_more [] e = omega arith
  turns_more (x ∷ es) e = omega (arith, turns_more es e)

  waits_more : (t : ℕ) (es : List Event) (m n : Mach PL) (e : Event) → Step k m e n → has_token t n.books.waiting ≡ true → WaitsInVain k t es m → WaitsInVain k t (es ++ e ∷ []) n
  waits_more t es m n e s w x = record {
    before = x.before;
    since = x.since ++ e ∷ [];
    there = x.there;
    events = ap (λ z. z ++ e ∷ []) x.events ∙ append_assoc x.before x.since (e ∷ []);
    visited = x.visited;
    stays = stays_more t x.there m n x.since e x.stays s w;
    turn = omega (arith, turns_more x.since e, x.turn, no_turn t m n e s w);
  }

  record Kept (es : List Event) (m : Mach PL) : Type 0 where
    led : Run k fresh es m
    at : At es m m.books m.doing
    waits : (t : ℕ) → has_token t m.books.waiting ≡ true → WaitsInVain k t es m

  step_kept : (es : List Event) (m n : Mach PL) (e : Event) → Step k m e n → Kept es m → Kept (es ++ e ∷ []) n
  step_kept es m n e s x =
      let g = step_goes es m n e x.led x.at s in
      record {
        led = run_more fresh m n es e x.led s;
        at = g.at;
        waits = λ t w. elim (g.waits t w) [
          | inl a ↦ waits_more t es m n e s w (x.waits t a)
          | inr b ↦ record { before = es ++ e ∷ []; since = []; there = n; events = sym (append-nil (es ++ e ∷ [])); visited = b; stays = (refl, w); turn = refl }
        ];
      }

  run_kept : (es more : List Event) (m n : Mach PL) → Run k m more n → Kept es m → Kept (es ++ more) n
  run_kept es [] m n r x = subst (λ z. Kept z n) (sym (append-nil es)) (subst (Kept es) (sym r) x)
  run_kept es (e ∷ more) m n r x = subst (λ z. Kept z n) (append_assoc es (e ∷ []) more) (run_kept (es ++ e ∷ []) more r.0 n r.2 (step_kept es m r.0 e r.1 x))

  kept : (es : List Event) (m : Mach PL) → Run k fresh es m → Kept es m
  kept es m r = run_kept [] es fresh m r (record { led = refl; at = tt; waits = λ t h. absurd (true≢false (sym h)) })

  pub starts_to_wait : StartsToWait k
  starts_to_wait es m n e r s t not_before now = elim ((step_goes es m n e r (kept es m r).at s).waits t now) [ inl a ↦ absurd (true≢false (sym a ∙ not_before)) | inr b ↦ b ]

  pub waits_on : WaitsOn k
  waits_on es m r t w = (kept es m r).waits t w
