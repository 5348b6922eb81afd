-- What a CONTINUE on a feed is answered: from where it is visited to its answer.
use Rattle.std.proofs.Common.{◌≡◌, ◌≤◌, ◌-◌, inl, inr, ℕ, zero, suc, Bool, true, false, true≢false, cond, List, [], ◌∷◌, ◌++◌, map, take, drop, length, Option, Some, None, refl, sym, ap, subst, ◌∙◌, arith, append_assoc, append-nil}
use Rattle.std.specs.Prelude.{nat_eq}
use Rattle.std.specs.List.{AllByRecursion}
use Rattle.std.proofs.lemmas.Bool.{eqb-true}
use Rattle.reql_table_machine_spec.proofs.Tracking.{split}
use Rattle.reql_table_machine_spec.specs.declared.command.Said.{Said}
use Rattle.reql_table_machine_spec.specs.declared.command.Said.TheVariants as said_as
use Rattle.reql_datum.specs.Plain.{Plain}
use Rattle.reql_datum.specs.declared.point.Point.{Point}
use Rattle.reql_answer.specs.Body.{Stamped}
use Rattle.reql_shared.specs.Acts.{Ran, Looked, Denied}
use Rattle.reql_table_spec.specs.Replies.{Answered as Told}
use Rattle.reql_table_spec.specs.declared.command.Cmd.{Cmd}
use Rattle.reql_table_spec.specs.declared.command.Order.{Order}
use Rattle.reql_table_spec.specs.declared.reply.Saved.{Saved}
use Rattle.reql_write_spec.specs.declared.command.Summary.{Summary}
use Rattle.reql_session_spec.specs.Requests.{Continue, Arm, Shown, Move, Found, Answer, Client, Internal, Batch, stamped}
use Rattle.reql_session_spec.specs.Books.{Open, Books, feed_of, closed, with_left, saw_names}
use Rattle.reql_session_spec.specs.Bodies.{full, at_wait}
use Rattle.reql_session_spec.specs.Tasks.{Talk, Firm, Stops, Drops, Settled, Task, Planning, Visiting, Telling, Closing, Next, at, only_tell, close, wanted, denied, is_long, cut, cut_to, fitted, tell, continue_left, continue_feed, continue_on, visit_feed, begin, takes_up, next_arm, batch_of, gone, took_said, took, ran, Runs, Asks, is_empty, skipped_item, change_items, others, take_order, tell_now}
use Rattle.reql_session_spec.specs.Session.{Event, Turn, Visit, Greeted, Login, Cast, Begin, Heard, Lost, Quiet, Finish, Broken, Long, Wear, Poor, On, OnNames, Dice, Clock, Come, Say, Want, Doing, Rest, Visits, Busy, Leaving, Mach, Step, Run, doing_next, goes_on, tells, Plans, PlanDenied, LeavesArm}
use Rattle.reql_session_spec.specs.Waiting.{IsVisited, IsNothing}
use Rattle.reql_session_spec.specs.Opened.{Took}
use Rattle.reql_session_spec.specs.Continuing.{IsWithin, IsFree, TookNothing, TookFirst, IsWanting, IsTaken, TellsItems, IsAnswer, IsItsFirst, EachContinues}
use Rattle.reql_session_spec.proofs.Shelves.{found_token}
use Rattle.reql_session_spec.proofs.Opened.{longer, place_of, took_still}

either : {A : Type 0} (P : A → Type 0) (x : Bool) (y z : A) → (x ≡ true → P y) → (x ≡ false → P z) → P (cond x y z)
either P true y z f g = f refl
either P false y z f g = g refl

some_is : (x y : Open) → Some x ≡ Some y → x ≡ y
some_is x y h = ap (λ o. get x o) h
  where
    get : Open → Option Open → Open
    get d None = d
    get d (Some z) = z

found_left : (u : ℕ) (left : List Shown) (f : Open) (fs : List Open) → feed_of u fs ≡ Some f → feed_of u (map (λ g. cond (nat_eq g.token u) (record g { left = left }) g) fs) ≡ Some (record f { left = left })
found_left u left f [] e = absurd (let z : None ≡ Some f = e in cc)
found_left u left f (g ∷ gs) e =
    let more : List Open = map (λ g. cond (nat_eq g.token u) (record g { left = left }) g) gs in
    split (nat_eq g.token u) (λ c. nat_eq g.token u ≡ c → cond c (Some g) (feed_of u gs) ≡ Some f → feed_of u (cond c (record g { left = left }) g ∷ more) ≡ Some (record f { left = left }))
    (λ _ t z. ap (λ c. cond c (Some (record g { left = left })) (feed_of u more)) t ∙ ap (λ (x : Open). Some (record x { left = left })) (some_is g f z))
    (λ _ t z. ap (λ c. cond c (Some g) (feed_of u more)) t ∙ found_left u left f gs z) refl e

-- a batch of something that is cut to a size has an item
some_front : (n : ℕ) (xs : List Shown) → is_empty xs ≡ false → 1 ≤ n → take n xs ≡ [] → ⊥
some_front n [] h le e = absurd (true≢false h)
some_front zero (x ∷ xs) h le e = absurd (omega (arith, le))
some_front (suc n) (x ∷ xs) h le e = absurd (let z : x ∷ take n xs ≡ [] = e in cc)

some_batch : (n : ℕ) (skip changes : List Shown) → is_empty (skip ++ changes) ≡ false → 1 ≤ n → skip ++ take n changes ≡ [] → ⊥
some_batch n [] changes h le e = some_front n changes h le e
some_batch n (x ∷ xs) changes h le e = absurd (let z : x ∷ (xs ++ take n changes) ≡ [] = e in cc)

abbrev first_still : (arms : List Arm) (max : ℕ) (answer : Said Summary Plain) (es : List Event) (e : Event) → TookFirst arms max answer es → TookFirst arms max answer (es ++ e ∷ [])
first_still arms max answer es e t = record { took = took_still arms max answer es e t.took; firsts = t.firsts }

taken_still : (feed : Open) (items rest : List Shown) (es : List Event) (e : Event) → IsTaken feed items rest es → IsTaken feed items rest (es ++ e ∷ [])
taken_still feed items rest es e t = record { skipped = t.skipped; last = t.last; changes = t.changes; took = first_still feed.arms feed.batch (said_as.Batch t.skipped t.last t.changes) es e t.took; given = t.given; left = t.left }

-- one more arm was taken from in vain
nothing_more : (max : ℕ) (prior : List Arm) (arm : Arm) (es : List Event) (e : Event) (place : ℕ) (reply : Told) (kept : Saved) → e ≡ On arm.slot (Ran place (take_order arm.feed max) reply) kept → IsNothing reply.said → TookNothing max prior es
    → TookNothing max (prior ++ arm ∷ []) (es ++ e ∷ [])
nothing_more max [] arm es e place reply kept q none h = (place, reply, kept, [], (λ i. h i ++ q i ∷ []), none, refl)
nothing_more max (a ∷ prior) arm es e place reply kept q none h = (h.0, h.1, h.2, h.3 ++ e ∷ [], ap (λ z. z ++ e ∷ []) h.4, h.5, nothing_more max prior arm h.3 e place reply kept q none h.6)

module _ {PL : Type 0} (k : Talk PL) where
  answer_still : (feed : Open) (a : Answer) (es : List Event) (e : Event) (b : Books) → IsAnswer k feed a es b → IsAnswer k feed a (es ++ e ∷ []) b
  answer_still feed a es e b h = elim h [
    | inl x ↦ inl (record { items = x.items; rest = x.rest; points = x.points; is = x.is; some = x.some; source = elim x.source [ inl l ↦ inl l | inr t ↦ inr (t.0, taken_still feed x.items x.rest es e t.1) ]; kept = x.kept })
    | inr y ↦ elim y [
      | inl x ↦ inr (inl (record { points = x.points; took = first_still feed.arms feed.batch said_as.Gone es e x.took; is = x.is }))
      | inr z ↦ elim z [
        | inl x ↦ inr (inr (inl (record { count = x.count; took = first_still feed.arms feed.batch (said_as.HistoryFull x.count) es e x.took; is = x.is })))
        | inr x ↦ inr (inr (inr (x.0, record { before = x.1.before; event = x.1.event; after = x.1.after ++ e ∷ []; events = longer es x.1.before x.1.after x.1.event e x.1.events; is = x.1.is })))
      ]
    ]
  ]

  -- memory is wanted now
  wants_now : (feed : Open) (es : List Event) (e : Event) (b : Books) → IsWanting e → IsAnswer k feed Internal (es ++ e ∷ []) b
  wants_now feed es e b w = inr (inr (inr (refl, record { before = es; event = e; after = []; events = refl; is = w })))

  module _ (token : ℕ) (feed : Open) (es : List Event) where
    -- the arms that are still to be taken from, behind others
    record IsAt (b : Books) (u : ℕ) (arms : List Arm) : Type 0 where
      same : u ≡ token
      its : feed_of token b.feeds ≡ Some feed
      left : feed.left ≡ []
      prior : List Arm
      all : feed.arms ≡ prior ++ arms
      takes : TookNothing feed.batch prior es

    abbrev Tells : ℕ → Answer → Type 0
    Tells u a = (u ≡ token) × ((b : Books) → IsAnswer k feed a es b)

    abbrev OnTask : Books → Task PL → Type 0
    OnTask b (Planning u plan noreply count found arms) = ⊥
    OnTask b (Visiting u arms points) = IsAt b u arms
    OnTask b (Telling u a kept lose after) = (u ≡ token) × IsAnswer k feed a es kept × (after ≡ None)
    OnTask b (Closing u arms firm None) = ⊥
    OnTask b (Closing u arms firm (Some a)) = Tells u a

    -- of a task whose further Takes don't matter
    abbrev Owns : Task PL → Type 0
    Owns (Planning u plan noreply count found arms) = ⊥
    Owns (Visiting u arms points) = u ≡ token
    Owns (Telling u a kept lose after) = u ≡ token
    Owns (Closing u arms firm None) = ⊥
    Owns (Closing u arms firm (Some a)) = Tells u a

    abbrev OnNext : Books → Option (Task PL) → Type 0
    OnNext b None = Unit {0}
    OnNext b (Some task) = OnTask b task

    abbrev Good : Next PL → Type 0
    Good y = OnNext y.books y.task

    abbrev OnDoing : Books → Doing PL → Type 0
    OnDoing b Rest = Unit {0}
    OnDoing b (Visits left) = Unit {0}
    OnDoing b (Busy back task) = OnTask b task
    OnDoing b (Leaving arms end) = Unit {0}

    close_good : (b : Books) (u : ℕ) (arms : List Arm) (firm : Firm) (a : Answer) → Tells u a → Good (close b u arms firm (Some a))
    close_good b u [] firm a h = (h.0, h.1 b, refl)
    close_good b u (arm ∷ arms) firm a h = h

    telling_good : (b : Books) (u : ℕ) (a : Answer) (kept : Books) (lose : Option (List Arm)) → u ≡ token → IsAnswer k feed a es kept → Good (at b (Telling u a kept lose None))
    telling_good b u a kept lose own h = (own, h, refl)

    -- what is kept where an answer isn't too long
    tell_good : (b : Books) (u : ℕ) (a : Answer) (kept : Books) (arms : List Arm) (lose : Option (List Arm)) → u ≡ token → ((z : Answer) (c : Books) → z ≡ fitted k a → (is_long k a ≡ false → c ≡ kept) → IsAnswer k feed z es c) → Good (tell k b u a kept arms lose)
    tell_good b u a kept arms lose own h = either Good (is_long k a) (cut k b u a arms) (at b (Telling u a kept lose None))
        (λ t. close_good (closed u b) u arms Settled (cut_to k a) (own, λ c. h (cut_to k a) c (sym (ap (λ z. cond z (cut_to k a) a) t)) (λ f. absurd (true≢false (sym t ∙ f)))))
        (λ t. telling_good b u a kept lose own (h a kept (sym (ap (λ z. cond z (cut_to k a) a) t)) (λ f. refl)))

    only_good : (b : Books) (u : ℕ) (a : Answer) → Tells u a → Good (only_tell b u a)
    only_good b u a h = (h.0, h.1 b, refl)

    wanted_good : (b : Books) (u : ℕ) (task : Task PL) → Owns task → ((v : ℕ) → v ≡ token → Tells v Internal) → Good (wanted b task)
    wanted_good b w (Planning u plan noreply count found arms) h i = absurd h
    wanted_good b w (Visiting u arms points) h i = only_good b u Internal (i u h)
    wanted_good b w (Telling u a kept None after) h i = only_good b u Internal (i u h)
    wanted_good b w (Telling u a kept (Some arms) after) h i = close_good (closed u b) u arms Settled Internal (i u h)
    wanted_good b w (Closing u arms firm None) h i = absurd h
    wanted_good b w (Closing u arms Settled (Some a)) h i = close_good b u arms Settled Internal (i u h.0)
    wanted_good b w (Closing u arms Stops (Some a)) h i = only_good b u Internal (i u h.0)
    wanted_good b w (Closing u arms Drops (Some a)) h i = only_good b u Internal (i u h.0)

    denied_good : (b : Books) (task : Task PL) (slot : ℕ) (cmd : Cmd) → Owns task → ((v : ℕ) → v ≡ token → Tells v Internal) → Good (denied b task slot cmd)
    denied_good b (Planning u plan noreply count found arms) slot cmd h i = absurd h
    denied_good b (Visiting u arms points) slot cmd h i = only_good b u Internal (i u h)
    denied_good b (Telling u a kept lose after) slot cmd h i = wanted_good b u (Telling u a kept lose after) h i
    denied_good b (Closing u arms firm None) slot cmd h i = absurd h
    denied_good b (Closing u [] firm (Some a)) slot cmd h i = wanted_good b u (Closing u [] firm (Some a)) h i
    denied_good b (Closing u (arm ∷ arms) Stops (Some a)) slot cmd h i = only_good b u Internal (i u h.0)
    denied_good b (Closing u (arm ∷ arms) Drops (Some a)) slot cmd h i = close_good (closed u b) u arms Settled a h
    denied_good b (Closing u (arm ∷ arms) Settled (Some a)) slot cmd h i = close_good (closed u b) u arms Settled a h

    -- the feed is open still where it goes on with other items left
    keeps_on : (b : Books) → feed.token ≡ token → feed_of token b.feeds ≡ Some feed → (left : List Shown) (c : Books) → c ≡ with_left feed.token left b → feed_of feed.token c.feeds ≡ Some (record feed { left = left })
    keeps_on b own its left c g = ap (λ (z : Books). feed_of feed.token z.feeds) g ∙ found_left feed.token left feed b.feeds (ap (λ z. feed_of z b.feeds) own ∙ its)

    -- ---- a Take of an arm
    module _ (b : Books) (own : feed.token ≡ token) (its : feed_of token b.feeds ≡ Some feed) (none : feed.left ≡ []) (arm : Arm) (arms prior : List Arm) (all : feed.arms ≡ prior ++ arm ∷ arms) where
      next_good : (rest : List Arm) (points : List Point) → TookNothing feed.batch (prior ++ arm ∷ []) es → arms ≡ rest → Good (next_arm k b feed.token rest points)
      next_good [] points n q = tt
      next_good (x ∷ xs) points n q = record { same = own; its = its; left = none; prior = prior ++ arm ∷ []; all = all ∙ ap (λ z. prior ++ arm ∷ z) q ∙ sym (append_assoc prior (arm ∷ []) (x ∷ xs)); takes = n }

      batch_tells : (n : ℕ) (points : Stamped) (skipped last : ℕ) (items : List (ℕ × Plain)) → n ≡ length prior → (t : Took arm feed.batch (said_as.Batch skipped last items) es) → TookNothing feed.batch prior t.before → is_empty (skipped_item n arm skipped last ++ change_items n arm items) ≡ false
          → (a : Answer) (c : Books) → a ≡ fitted k (Batch feed.notes (skipped_item n arm skipped last ++ take feed.batch (change_items n arm items)) (Some points))
          → (is_long k (Batch feed.notes (skipped_item n arm skipped last ++ take feed.batch (change_items n arm items)) (Some points)) ≡ false → c ≡ with_left feed.token (drop feed.batch (change_items n arm items)) b) → TellsItems k feed a es c
      batch_tells n points skipped last items place t w full a c q g = record {
        items = skipped_item n arm skipped last ++ take feed.batch (change_items n arm items);
        rest = drop feed.batch (change_items n arm items);
        points = Some points;
        is = q;
        some = some_batch feed.batch (skipped_item n arm skipped last) (change_items n arm items) full;
        source = inr (
          none,
          record {
            skipped = skipped;
            last = last;
            changes = items;
            took = record { took = record { prior = prior; arm = arm; rest = arms; all = all; took = t }; firsts = w };
            given = ap (λ z. skipped_item z arm skipped last ++ take feed.batch (change_items z arm items)) place;
            left = ap (λ z. drop feed.batch (change_items z arm items)) place;
          },
        );
        kept = λ f. keeps_on b own its (drop feed.batch (change_items n arm items)) c (g f);
      }

      batch_good : (n : ℕ) (points : List Point) (skipped last : ℕ) (items : List (ℕ × Plain)) → n ≡ length prior → (t : Took arm feed.batch (said_as.Batch skipped last items) es) → TookNothing feed.batch prior t.before → Good (batch_of k b feed n arm points skipped last items)
      batch_good n points skipped last items place t w = either Good (is_empty (skipped_item n arm skipped last ++ change_items n arm items)) _ _ (λ _. tt)
          (λ full. tell_good b feed.token _ (with_left feed.token (drop feed.batch (change_items n arm items)) b) feed.arms (Some feed.arms) own (λ z c q g. inl (batch_tells n (stamped b.names points) skipped last items place t w full z c q g)))

      gone_good : (rest : List Arm) (points : List Point) → (t : Took arm feed.batch said_as.Gone es) → TookNothing feed.batch prior t.before → Good (gone k b feed arm points rest)
      gone_good [] points t w = (own, inr (inl (record { points = stamped b.names points; took = record { took = record { prior = prior; arm = arm; rest = arms; all = all; took = t }; firsts = w }; is = refl })), refl)
      gone_good (x ∷ xs) points t w = (own, λ c. inr (inl (record { points = stamped b.names points; took = record { took = record { prior = prior; arm = arm; rest = arms; all = all; took = t }; firsts = w }; is = refl })))

      took_good : (points : List Point) (s : Said Summary Plain) → (t : Took arm feed.batch s es) → TookNothing feed.batch prior t.before → (IsNothing s → TookNothing feed.batch (prior ++ arm ∷ []) es) → Good (took_said k b feed arm arms points s)
      took_good points (said_as.Batch skipped last items) t w n = batch_good (length feed.arms - length (arm ∷ arms)) points skipped last items (ap (λ z. length z - length (arm ∷ arms)) all ∙ place_of prior arms arm) t w
      took_good points said_as.Gone t w n = gone_good (others arm feed.arms) points t w
      took_good points (said_as.HistoryFull count) t w n = close_good (closed feed.token b) feed.token feed.arms Settled _
          (own, λ c. inr (inr (inl (record { count = count; took = record { took = record { prior = prior; arm = arm; rest = arms; all = all; took = t }; firsts = w }; is = refl }))))
      took_good points other t w n = next_good arms points (n tt) refl

    -- ---- where it is visited
    left_tells : (b : Books) (x : Shown) (xs : List Shown) → feed.token ≡ token → feed_of token b.feeds ≡ Some feed → feed.left ≡ x ∷ xs → (a : Answer) (c : Books) → a ≡ fitted k (Batch feed.notes (take feed.batch (x ∷ xs)) None)
        → (is_long k (Batch feed.notes (take feed.batch (x ∷ xs)) None) ≡ false → c ≡ with_left feed.token (drop feed.batch (x ∷ xs)) b) → TellsItems k feed a es c
    left_tells b x xs own its q a c e g = record {
      items = take feed.batch (x ∷ xs);
      rest = drop feed.batch (x ∷ xs);
      points = None;
      is = e;
      some = some_front feed.batch (x ∷ xs) refl;
      source = inl (λ none. absurd (let z : x ∷ xs ≡ [] = sym q ∙ none in cc), ap (λ z. take feed.batch z) (sym q), ap (λ z. drop feed.batch z) (sym q));
      kept = λ f. keeps_on b own its (drop feed.batch (x ∷ xs)) c (g f);
    }

    left_good : (b : Books) (left : List Shown) → es ≡ [] → feed.token ≡ token → feed_of token b.feeds ≡ Some feed → feed.left ≡ left → Good (continue_left k b feed left)
    left_good b [] start own its q = record { same = own; its = its; left = q; prior = []; all = refl; takes = start }
    left_good b (x ∷ xs) start own its q = tell_good b feed.token _ (with_left feed.token (drop feed.batch (x ∷ xs)) b) feed.arms None own (λ z c e g. inl (left_tells b x xs own its q z c e g))

  -- ---- a step
  module _ (token : ℕ) (feed : Open) (es : List Event) (m n : Mach PL) (e : Event) where
    abbrev now : List Event
    now = es ++ e ∷ []

    abbrev Now : Mach PL → Type 0
    Now x = OnDoing token feed now x.books x.doing

    by_next : (x : Mach PL) (back : Option (List ℕ)) (y : Next PL) → n ≡ goes_on x back y → Good token feed now y → Now n
    by_next x back y g d = subst Now (sym g) (fits back y.task d)
      where
        fits : (back : Option (List ℕ)) (task : Option (Task PL)) → OnNext token feed now y.books task → OnDoing token feed now y.books (doing_next back task)
        fits None None f = tt
        fits (Some left) None f = tt
        fits back (Some task) f = f

    moves : (x : Mach PL) → n ≡ x → Now x → Now n
    moves x g d = subst Now (sym g) d

    module _ (h : OnDoing token feed es m.books m.doing) where
      task_at : (back : Option (List ℕ)) (task : Task PL) → m.doing ≡ Busy back task → OnTask token feed es m.books task
      task_at back task d = subst (OnDoing token feed es m.books) d h

      task_still : (task : Task PL) → OnTask token feed es m.books task → Owns token feed now task
      task_still (Planning u plan noreply count found arms) t = absurd t
      task_still (Visiting u arms points) t = t.same
      task_still (Telling u a kept lose after) t = t.0
      task_still (Closing u arms firm None) t = absurd t
      task_still (Closing u arms firm (Some a)) t = (t.0, λ b. answer_still feed a es e b (t.1 b))

      no_plan : {A : Type 0} (move : Move) (b : Books) (task : Task PL) → Asks k task move → OnTask token feed es b task → A
      no_plan move b (Planning u plan noreply count found arms) s t = absurd t
      no_plan move b (Visiting u arms points) s t = absurd s
      no_plan move b (Telling u a kept lose after) s t = absurd s
      no_plan move b (Closing u arms firm a) s t = absurd s

      planned : (move : Move) (b : Books) (x : Found) → Plans k m move b x n → Now n
      planned move b x s = no_plan move m.books s.task s.asks (task_at s.back s.task s.doing)

      refused : (move : Move) → PlanDenied k m move n → Now n
      refused move s = no_plan move m.books s.task s.asks (task_at s.back s.task s.doing)

      by_arm : (slot : ℕ) (arm : Arm) → LeavesArm k m slot arm n → Now n
      by_arm slot arm s = moves _ s.goes tt

      by_want : IsWanting e → (v : ℕ) → v ≡ token → Tells token feed now v Internal
      by_want w v q = (q, λ b. wants_now feed es e b w)

  ran_now : (token : ℕ) (feed : Open) (es : List Event) (b : Books) (task : Task PL) (slot place : ℕ) (order : Order) (reply : Told) (saved : Saved) → Runs k b task slot order → OnTask token feed es b task
      → Good token feed (es ++ On slot (Ran place order reply) saved ∷ []) (ran k b task slot order.cmd reply saved)
  ran_now token feed es b (Planning u plan noreply count found arms) slot place order reply saved x t = absurd t
  ran_now token feed es b (Visiting u [] points) slot place order reply saved x t = absurd x
  ran_now token feed es b (Visiting u (arm ∷ arms) points) slot place order reply saved x t =
      let its : feed_of u b.feeds ≡ Some feed = ap (λ z. feed_of z b.feeds) t.same ∙ t.its in
      let same : x.0 ≡ feed = some_is x.0 feed (sym x.1 ∙ its) in
      let own : feed.token ≡ token = eqb-true feed.token token (found_token 0 0 false token b.feeds feed t.its) in
      let takes : order ≡ take_order arm.feed feed.batch = x.3 ∙ ap (λ (z : Open). take_order arm.feed z.batch) same in
      let e : Event = On slot (Ran place order reply) saved in
      let is : e ≡ On arm.slot (Ran place (take_order arm.feed feed.batch) reply) saved = λ i. On (x.2 i) (Ran place (takes i) reply) saved in
      subst (λ o. Good token feed (es ++ e ∷ []) (took k b u arm arms points reply o)) (sym its)
      (took_good token feed (es ++ e ∷ []) b own t.its t.left arm arms t.prior t.all _ reply.said
      (record { before = es; after = []; place = place; reply = reply; kept = saved; events = ap (λ z. es ++ z ∷ []) is; says = refl }) t.takes
      (λ none. nothing_more feed.batch t.prior arm es e place reply saved is none t.takes))
  ran_now token feed es b (Telling u a kept lose after) slot place order reply saved x t = absurd x
  ran_now token feed es b (Closing u arms firm None) slot place order reply saved x t = absurd t
  ran_now token feed es b (Closing u [] firm (Some a)) slot place order reply saved x t = absurd x
  ran_now token feed es b (Closing u (arm ∷ arms) firm (Some a)) slot place order reply saved x t =
      close_good token feed (es ++ On slot (Ran place order reply) saved ∷ []) (closed u b) u arms Settled a (t.0, λ c. answer_still feed a es (On slot (Ran place order reply) saved) c (t.1 c))

  step_now : (token : ℕ) (feed : Open) (es : List Event) (m n : Mach PL) (e : Event) → Step k m e n → IsWithin e → OnDoing token feed es m.books m.doing → OnDoing token feed (es ++ e ∷ []) n.books n.doing
  step_now token feed es m n Turn s w h = absurd w
  step_now token feed es m n Visit s w h = absurd w
  step_now token feed es m n (Begin frame is_read) s w h = absurd w
  step_now token feed es m n (Say t a whole) s w h = absurd w
  step_now token feed es m n (Greeted true) s w h = elim s.2 [ inl g ↦ moves token feed es m n (Greeted true) _ g.4 tt | inr g ↦ moves token feed es m n (Greeted true) _ g.4 tt ]
  step_now token feed es m n (Greeted false) s w h = elim s.2 [ inl g ↦ moves token feed es m n (Greeted false) _ g.4 tt | inr g ↦ moves token feed es m n (Greeted false) _ g.4 tt ]
  step_now token feed es m n (Login true) s w h = elim s.2 [ inl g ↦ moves token feed es m n (Login true) _ g.5 tt | inr r ↦ elim r [ inl g ↦ moves token feed es m n (Login true) _ g.4 tt | inr g ↦ moves token feed es m n (Login true) _ g.3 tt ] ]
  step_now token feed es m n (Login false) s w h = elim s.2 [ inl g ↦ moves token feed es m n (Login false) _ g.5 tt | inr r ↦ elim r [ inl g ↦ moves token feed es m n (Login false) _ g.4 tt | inr g ↦ moves token feed es m n (Login false) _ g.3 tt ] ]
  step_now token feed es m n (Cast bytes) s w h = moves token feed es m n (Cast bytes) _ s.2 tt
  step_now token feed es m n (Heard bytes) s w h = moves token feed es m n (Heard bytes) _ s.2 tt
  step_now token feed es m n (Lost bytes) s w h = moves token feed es m n (Lost bytes) _ s.2 tt
  step_now token feed es m n Quiet s w h = moves token feed es m n Quiet _ s.1 tt
  step_now token feed es m n Finish s w h = moves token feed es m n Finish _ s.1 tt
  step_now token feed es m n Broken s w h = moves token feed es m n Broken _ s.1 tt
  step_now token feed es m n (Long len) s w h = moves token feed es m n (Long len) _ s.3 tt
  step_now token feed es m n Wear s w h = moves token feed es m n Wear _ s.1 tt
  step_now token feed es m n Poor s w h = moves token feed es m n Poor _ s.1 tt
  step_now token feed es m n (On slot (Ran place order reply) saved) s w h = elim s [
    | inl x ↦ by_next token feed es m n (On slot (Ran place order reply) saved) m x.back (ran k m.books x.task slot order.cmd reply saved) x.goes
        (ran_now token feed es m.books x.task slot place order reply saved x.runs (task_at token feed es m n (On slot (Ran place order reply) saved) h x.back x.task x.doing))
    | inr x ↦ by_arm token feed es m n (On slot (Ran place order reply) saved) h slot x.0 x.2
  ]
  step_now token feed es m n (On slot (Looked place question look) saved) s w h = planned token feed es m n (On slot (Looked place question look) saved) h _ m.books _ s
  step_now token feed es m n (On slot (Denied place) saved) s w h = elim s [
    | inl x ↦ by_next token feed es m n (On slot (Denied place) saved) m x.back (denied m.books x.task slot x.order.cmd) x.goes
        (denied_good token feed (es ++ (On slot (Denied place) saved) ∷ []) m.books x.task slot x.order.cmd (task_still token feed es m n (On slot (Denied place) saved) h x.task (task_at token feed es m n (On slot (Denied place) saved) h x.back x.task x.doing)) (by_want token feed es m n (On slot (Denied place) saved) h tt))
    | inr y ↦ elim y [ inl x ↦ refused token feed es m n (On slot (Denied place) saved) h _ x | inr x ↦ by_arm token feed es m n (On slot (Denied place) saved) h slot x.0 x.1 ]
  ]
  step_now token feed es m n (OnNames (Ran place cmd reply)) s w h = planned token feed es m n (OnNames (Ran place cmd reply)) h _ (saw_names reply.place m.books) _ s
  step_now token feed es m n (OnNames (Looked place question names)) s w h = planned token feed es m n (OnNames (Looked place question names)) h _ (saw_names place m.books) _ s
  step_now token feed es m n (OnNames (Denied place)) s w h = elim s [ inl x ↦ refused token feed es m n (OnNames (Denied place)) h _ x | inr x ↦ refused token feed es m n (OnNames (Denied place)) h _ x.1 ]
  step_now token feed es m n (Clock moment) s w h = planned token feed es m n (Clock moment) h _ m.books _ s
  step_now token feed es m n (Dice bytes) s w h = planned token feed es m n (Dice bytes) h _ m.books _ s
  step_now token feed es m n Come s w h = absurd (task_at token feed es m n Come h s.back (Planning s.token s.plan s.noreply s.count s.found s.arms) s.doing)
  step_now token feed es m n Want s w h = by_next token feed es m n Want m s.back (wanted m.books s.task) s.goes (wanted_good token feed (es ++ Want ∷ []) m.books 0 s.task (task_still token feed es m n Want h s.task (task_at token feed es m n Want h s.back s.task s.doing)) (by_want token feed es m n Want h tt))

  run_now : (token : ℕ) (feed : Open) (es more : List Event) (m n : Mach PL) → Run k m more n → AllByRecursion IsWithin more → OnDoing token feed es m.books m.doing → OnDoing token feed (es ++ more) n.books n.doing
  run_now token feed es [] m n r w h = subst (λ z. OnDoing token feed z n.books n.doing) (sym (append-nil es)) (subst (λ (z : Mach PL). OnDoing token feed es z.books z.doing) (sym r) h)
  run_now token feed es (e ∷ more) m n r w h = subst (λ z. OnDoing token feed z n.books n.doing) (append_assoc es (e ∷ []) more) (run_now token feed (es ++ e ∷ []) more r.0 n r.2 w.1 (step_now token feed es m r.0 e r.1 w.0 h))

  -- where it begins
  begun : (m n : Mach PL) (token : ℕ) (feed : Open) (back : Option (List ℕ)) (x : Mach PL) → n ≡ goes_on x back (continue_left k m.books feed feed.left) → feed_of token m.books.feeds ≡ Some feed → OnDoing token feed [] n.books n.doing
  begun m n token feed back x g its =
      let own : feed.token ≡ token = eqb-true feed.token token (found_token 0 0 false token m.books.feeds feed its) in
      let y : Next PL = continue_left k m.books feed feed.left in
      subst (λ (z : Mach PL). OnDoing token feed [] z.books z.doing) (sym g) (fits y.books back y.task (left_good token feed [] m.books feed.left refl own its refl))
    where
      fits : (b : Books) (back : Option (List ℕ)) (task : Option (Task PL)) → OnNext token feed [] b task → OnDoing token feed [] b (doing_next back task)
      fits b None None f = tt
      fits b (Some left) None f = tt
      fits b back (Some task) f = f

  abbrev first_of : Doing PL → ℕ
  first_of (Visits (t ∷ left)) = t
  first_of other = 0

  starts : (m n : Mach PL) (token : ℕ) (feed : Open) (e : Event) → IsVisited k token m e → IsItsFirst k token m e → feed_of token m.books.feeds ≡ Some feed → Step k m e n → OnDoing token feed [] n.books n.doing
  starts m n token feed Visit t i its s =
      let same : s.0 ≡ token = ap first_of (sym s.2 ∙ t.1) in
      begun m n token feed (Some s.1) m (s.3 ∙ ap (λ z. goes_on m (Some s.1) (visit_feed k m.books s.0 z)) (ap (λ z. feed_of z m.books.feeds) same ∙ its)) its
  starts m n token feed (Begin frame true) t i its s =
      let x : Mach PL = record m { held = s.0 } in
      let on : takes_up k m.books frame.token frame.body true ≡ begin k m.books token Continue = λ j. begin k m.books (t.0 j) (t.1 j) in
      let goes : begin k m.books token Continue ≡ continue_left k m.books feed feed.left =
      ap (λ z. continue_on k m.books token z) i.0 ∙ (ap (λ z. continue_feed k m.books token z) its ∙ ap (λ z. cond z (tell_now k m.books token (Client (at_wait token))) (continue_left k m.books feed feed.left)) i.1) in
      begun m n token feed None x (s.5 ∙ ap (λ z. goes_on x None z) (on ∙ goes)) its
  starts m n token feed (Begin frame false) t i its s = absurd t
  starts m n token feed Turn t i its s = absurd t
  starts m n token feed (Greeted whole) t i its s = absurd t
  starts m n token feed (Login whole) t i its s = absurd t
  starts m n token feed (Cast bytes) t i its s = absurd t
  starts m n token feed (Heard bytes) t i its s = absurd t
  starts m n token feed (Lost bytes) t i its s = absurd t
  starts m n token feed Quiet t i its s = absurd t
  starts m n token feed Finish t i its s = absurd t
  starts m n token feed Broken t i its s = absurd t
  starts m n token feed (Long len) t i its s = absurd t
  starts m n token feed Wear t i its s = absurd t
  starts m n token feed Poor t i its s = absurd t
  starts m n token feed (On slot act saved) t i its s = absurd t
  starts m n token feed (OnNames act) t i its s = absurd t
  starts m n token feed (Clock moment) t i its s = absurd t
  starts m n token feed (Dice bytes) t i its s = absurd t
  starts m n token feed Come t i its s = absurd t
  starts m n token feed (Say u a whole) t i its s = absurd t
  starts m n token feed Want t i its s = absurd t

  pub over : (y : Mach PL) (back : Option (List ℕ)) (t : ℕ) (kept : Books) (after : Option (List Arm)) (whole : Bool) → after ≡ None → IsFree (tells y back t kept after whole).doing
  over y back t kept after false q = tt
  over y None t kept after true q = subst (λ o. IsFree (tells y None t kept o true).doing) (sym q) tt
  over y (Some left) t kept after true q = subst (λ o. IsFree (tells y (Some left) t kept o true).doing) (sym q) tt

  pub kept_so : (y : Mach PL) (back : Option (List ℕ)) (t : ℕ) (kept : Books) (after : Option (List Arm)) (whole : Bool) → after ≡ None → whole ≡ true → (tells y back t kept after whole).books ≡ kept
  kept_so y back t kept after false q w = absurd (true≢false (sym w))
  kept_so y back t kept after true q w = ap (λ o. (tells y back t kept o true).books) q

  pub each_continues : EachContinues k
  each_continues m x y z token feed first es t a whole up i its s r within says =
      let h : OnDoing token feed es y.books y.doing = run_now token feed [] es x y r within (starts m x token feed first up i its s) in
      let g : (t ≡ token) × IsAnswer k feed a es says.kept × (says.after ≡ None) = subst (OnDoing token feed es y.books) says.doing h in (
        g.0,
        subst (λ (w : Mach PL). IsFree w.doing) (sym says.goes) (over y says.back t says.kept says.after whole g.2),
        says.kept,
        (λ w. ap (λ (x : Mach PL). x.books) says.goes ∙ kept_so y says.back t says.kept says.after whole g.2 w),
        g.1,
      )
