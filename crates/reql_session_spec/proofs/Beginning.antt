-- What a START is answered whose plan came to a feed: from the plan's end to its answer.
use Rattle.std.proofs.Common.{◌≡◌, ◌⊎◌, inl, inr, ℕ, Bool, true, false, true≢false, cond, List, [], ◌∷◌, ◌++◌, Option, Some, None, refl, sym, ap, subst, ◌∙◌, append_assoc, append-nil}
use Rattle.std.specs.List.{AllByRecursion}
use Rattle.std.proofs.lemmas.Bool.{eq-eqb}
use Rattle.reql_shared.specs.Acts.{Ran, Looked, Denied}
use Rattle.reql_table_spec.specs.Replies.{Answered as Told}
use Rattle.reql_table_spec.specs.declared.command.Cmd.{Cmd}
use Rattle.reql_table_spec.specs.declared.command.Order.{Order}
use Rattle.reql_table_spec.specs.declared.reply.Saved.{Saved}
use Rattle.reql_session_spec.specs.Requests.{Arm, Feed, Move, Found, Answer, Internal}
use Rattle.reql_session_spec.specs.Books.{Open, Books, feed_of, closed, with_feed, saw_names}
use Rattle.reql_session_spec.specs.Tasks.{Talk, Firm, Stops, Drops, Settled, Task, Planning, Visiting, Telling, Closing, Next, at, only_tell, close, wanted, denied, is_long, cut, cut_to, fitted, tell, comes_to, batch_size, ran, Runs, Asks}
use Rattle.reql_session_spec.specs.Session.{Event, Turn, Visit, Greeted, Login, Cast, Begin, Heard, Lost, Quiet, Finish, Broken, Long, Wear, Poor, On, OnNames, Dice, Clock, Come, Say, Want, Doing, Rest, Visits, Busy, Leaving, Mach, Step, Run, doing_next, goes_on, Plans, PlanDenied, LeavesArm}
use Rattle.reql_session_spec.specs.Continuing.{IsWithin, IsFree, IsWanting, WasWanted}
use Rattle.reql_session_spec.specs.Beginning.{feed_from, first_batch, EachBegins}
use Rattle.reql_session_spec.proofs.Opened.{Others, longer, free_of_feeds}
use Rattle.reql_session_spec.proofs.Continuing.{over, kept_so}

either : {A : Type 0} (P : A → Type 0) (x : Bool) (y z : A) → (x ≡ true → P y) → (x ≡ false → P z) → P (cond x y z)
either P true y z f g = f refl
either P false y z f g = g refl

-- a further feed is found by its token
found_end : (f : Open) (fs : List Open) → Others f.token fs → feed_of f.token (fs ++ f ∷ []) ≡ Some f
found_end f [] o = ap (λ b. cond b (Some f) None) (eq-eqb f.token f.token refl)
found_end f (g ∷ gs) o = ap (λ b. cond b (Some g) (feed_of f.token (gs ++ f ∷ []))) o.0 ∙ found_end f gs o.1

-- ---- an answer that is so, with what is kept after it, where A is of it whatever the events
module _ {PL : Type 0} (k : Talk PL) (token : ℕ) (A : Answer → Books → Type 0) where
  abbrev IsSo : List Event → Answer → Books → Type 0
  IsSo es a b = A a b ⊎ ((a ≡ Internal) × WasWanted es)

  so_still : (es : List Event) (e : Event) (a : Answer) (b : Books) → IsSo es a b → IsSo (es ++ e ∷ []) a b
  so_still es e a b (inl h) = inl h
  so_still es e a b (inr h) = inr (h.0, record { before = h.1.before; event = h.1.event; after = h.1.after ++ e ∷ []; events = longer es h.1.before h.1.after h.1.event e h.1.events; is = h.1.is })

  module _ (es : List Event) where
    abbrev Tells : ℕ → Answer → Type 0
    Tells u a = (u ≡ token) × ((b : Books) → IsSo es a b)

    abbrev OnTask : Task PL → Type 0
    OnTask (Planning u plan noreply count found arms) = ⊥
    OnTask (Visiting u arms points) = ⊥
    OnTask (Telling u a kept lose after) = (u ≡ token) × IsSo es a kept × (after ≡ None)
    OnTask (Closing u arms firm None) = ⊥
    OnTask (Closing u arms firm (Some a)) = Tells u a

    abbrev Owns : Task PL → Type 0
    Owns (Planning u plan noreply count found arms) = ⊥
    Owns (Visiting u arms points) = ⊥
    Owns (Telling u a kept lose after) = u ≡ token
    Owns (Closing u arms firm None) = ⊥
    Owns (Closing u arms firm (Some a)) = Tells u a

    abbrev OnNext : Option (Task PL) → Type 0
    OnNext None = Unit {0}
    OnNext (Some task) = OnTask task

    abbrev Good : Next PL → Type 0
    Good y = OnNext y.task

    abbrev OnDoing : Doing PL → Type 0
    OnDoing Rest = Unit {0}
    OnDoing (Visits left) = Unit {0}
    OnDoing (Busy back task) = OnTask task
    OnDoing (Leaving arms end) = Unit {0}

    only_good : (b : Books) (u : ℕ) (a : Answer) → Tells u a → Good (only_tell b u a)
    only_good b u a h = (h.0, h.1 b, refl)

    close_good : (b : Books) (u : ℕ) (arms : List Arm) (firm : Firm) (a : Answer) → Tells u a → Good (close b u arms firm (Some a))
    close_good b u [] firm a h = (h.0, h.1 b, refl)
    close_good b u (arm ∷ arms) firm a h = h

    tell_good : (b : Books) (u : ℕ) (a : Answer) (kept : Books) (arms : List Arm) (lose : Option (List Arm)) → u ≡ token → ((z : Answer) (c : Books) → z ≡ fitted k a → (is_long k a ≡ false → c ≡ kept) → A z c) → Good (tell k b u a kept arms lose)
    tell_good b u a kept arms lose own h = either Good (is_long k a) (cut k b u a arms) (at b (Telling u a kept lose None))
        (λ t. close_good (closed u b) u arms Settled (cut_to k a) (own, λ c. inl (h (cut_to k a) c (sym (ap (λ z. cond z (cut_to k a) a) t)) (λ f. absurd (true≢false (sym t ∙ f))))))
        (λ t. (own, inl (h a kept (sym (ap (λ z. cond z (cut_to k a) a) t)) (λ f. refl)), refl))

    wanted_good : (b : Books) (task : Task PL) → Owns task → ((v : ℕ) → v ≡ token → Tells v Internal) → Good (wanted b task)
    wanted_good b (Planning u plan noreply count found arms) h i = absurd h
    wanted_good b (Visiting u arms points) h i = absurd h
    wanted_good b (Telling u a kept None after) h i = only_good b u Internal (i u h)
    wanted_good b (Telling u a kept (Some arms) after) h i = close_good (closed u b) u arms Settled Internal (i u h)
    wanted_good b (Closing u arms firm None) h i = absurd h
    wanted_good b (Closing u arms Settled (Some a)) h i = close_good b u arms Settled Internal (i u h.0)
    wanted_good b (Closing u arms Stops (Some a)) h i = only_good b u Internal (i u h.0)
    wanted_good b (Closing u arms Drops (Some a)) h i = only_good b u Internal (i u h.0)

    denied_good : (b : Books) (task : Task PL) (slot : ℕ) (cmd : Cmd) → Owns task → ((v : ℕ) → v ≡ token → Tells v Internal) → Good (denied b task slot cmd)
    denied_good b (Planning u plan noreply count found arms) slot cmd h i = absurd h
    denied_good b (Visiting u arms points) slot cmd h i = absurd h
    denied_good b (Telling u a kept lose after) slot cmd h i = wanted_good b (Telling u a kept lose after) h i
    denied_good b (Closing u arms firm None) slot cmd h i = absurd h
    denied_good b (Closing u [] firm (Some a)) slot cmd h i = wanted_good b (Closing u [] firm (Some a)) h i
    denied_good b (Closing u (arm ∷ arms) Stops (Some a)) slot cmd h i = only_good b u Internal (i u h.0)
    denied_good b (Closing u (arm ∷ arms) Drops (Some a)) slot cmd h i = close_good (closed u b) u arms Settled a h
    denied_good b (Closing u (arm ∷ arms) Settled (Some a)) slot cmd h i = close_good (closed u b) u arms Settled a h

  -- ---- a step
  module _ (es : List Event) (m n : Mach PL) (e : Event) where
    abbrev now : List Event
    now = es ++ e ∷ []

    by_next : (x : Mach PL) (back : Option (List ℕ)) (y : Next PL) → n ≡ goes_on x back y → Good now y → OnDoing now n.doing
    by_next x back y g d = subst (λ (z : Mach PL). OnDoing now z.doing) (sym g) (fits back y.task d)
      where
        fits : (back : Option (List ℕ)) (task : Option (Task PL)) → OnNext now task → OnDoing now (doing_next back task)
        fits None None f = tt
        fits (Some left) None f = tt
        fits back (Some task) f = f

    moves : (x : Mach PL) → n ≡ x → OnDoing now x.doing → OnDoing now n.doing
    moves x g d = subst (λ (z : Mach PL). OnDoing now z.doing) (sym g) d

    module _ (h : OnDoing es m.doing) where
      task_at : (back : Option (List ℕ)) (task : Task PL) → m.doing ≡ Busy back task → OnTask es task
      task_at back task d = subst (OnDoing es) d h

      task_still : (task : Task PL) → OnTask es task → Owns now task
      task_still (Planning u plan noreply count found arms) t = absurd t
      task_still (Visiting u arms points) t = absurd t
      task_still (Telling u a kept lose after) t = t.0
      task_still (Closing u arms firm None) t = absurd t
      task_still (Closing u arms firm (Some a)) t = (t.0, λ b. so_still es e a b (t.1 b))

      no_plan : {B : Type 0} (move : Move) (task : Task PL) → Asks k task move → OnTask es task → B
      no_plan move (Planning u plan noreply count found arms) s t = absurd t
      no_plan move (Visiting u arms points) s t = absurd t
      no_plan move (Telling u a kept lose after) s t = absurd s
      no_plan move (Closing u arms firm a) s t = absurd s

      planned : (move : Move) (b : Books) (x : Found) → Plans k m move b x n → OnDoing now n.doing
      planned move b x s = no_plan move s.task s.asks (task_at s.back s.task s.doing)

      refused : (move : Move) → PlanDenied k m move n → OnDoing now n.doing
      refused move s = no_plan move s.task s.asks (task_at s.back s.task s.doing)

      by_arm : (slot : ℕ) (arm : Arm) → LeavesArm k m slot arm n → OnDoing now n.doing
      by_arm slot arm s = moves _ s.goes tt

      by_want : IsWanting e → (v : ℕ) → v ≡ token → Tells now v Internal
      by_want w v q = (q, λ b. inr (refl, record { before = es; event = e; after = []; events = refl; is = w }))

  ran_now : (es : List Event) (e : Event) (b : Books) (task : Task PL) (slot : ℕ) (order : Order) (reply : Told) (saved : Saved) → Runs k b task slot order → OnTask es task → Good (es ++ e ∷ []) (ran k b task slot order.cmd reply saved)
  ran_now es e b (Planning u plan noreply count found arms) slot order reply saved x t = absurd t
  ran_now es e b (Visiting u arms points) slot order reply saved x t = absurd t
  ran_now es e b (Telling u a kept lose after) slot order reply saved x t = absurd x
  ran_now es e b (Closing u arms firm None) slot order reply saved x t = absurd t
  ran_now es e b (Closing u [] firm (Some a)) slot order reply saved x t = absurd x
  ran_now es e b (Closing u (arm ∷ arms) firm (Some a)) slot order reply saved x t = close_good (es ++ e ∷ []) (closed u b) u arms Settled a (t.0, λ c. so_still es e a c (t.1 c))

  step_now : (es : List Event) (m n : Mach PL) (e : Event) → Step k m e n → IsWithin e → OnDoing es m.doing → OnDoing (es ++ e ∷ []) n.doing
  step_now es m n Turn s w h = absurd w
  step_now es m n Visit s w h = absurd w
  step_now es m n (Begin frame is_read) s w h = absurd w
  step_now es m n (Say t a whole) s w h = absurd w
  step_now es m n (Greeted true) s w h = elim s.2 [ inl g ↦ moves es m n (Greeted true) _ g.4 tt | inr g ↦ moves es m n (Greeted true) _ g.4 tt ]
  step_now es m n (Greeted false) s w h = elim s.2 [ inl g ↦ moves es m n (Greeted false) _ g.4 tt | inr g ↦ moves es m n (Greeted false) _ g.4 tt ]
  step_now es m n (Login true) s w h = elim s.2 [ inl g ↦ moves es m n (Login true) _ g.5 tt | inr r ↦ elim r [ inl g ↦ moves es m n (Login true) _ g.4 tt | inr g ↦ moves es m n (Login true) _ g.3 tt ] ]
  step_now es m n (Login false) s w h = elim s.2 [ inl g ↦ moves es m n (Login false) _ g.5 tt | inr r ↦ elim r [ inl g ↦ moves es m n (Login false) _ g.4 tt | inr g ↦ moves es m n (Login false) _ g.3 tt ] ]
  step_now es m n (Cast bytes) s w h = moves es m n (Cast bytes) _ s.2 tt
  step_now es m n (Heard bytes) s w h = moves es m n (Heard bytes) _ s.2 tt
  step_now es m n (Lost bytes) s w h = moves es m n (Lost bytes) _ s.2 tt
  step_now es m n Quiet s w h = moves es m n Quiet _ s.1 tt
  step_now es m n Finish s w h = moves es m n Finish _ s.1 tt
  step_now es m n Broken s w h = moves es m n Broken _ s.1 tt
  step_now es m n (Long len) s w h = moves es m n (Long len) _ s.3 tt
  step_now es m n Wear s w h = moves es m n Wear _ s.1 tt
  step_now es m n Poor s w h = moves es m n Poor _ s.1 tt
  step_now es m n (On slot (Ran place order reply) saved) s w h = elim s [
    | inl x ↦ by_next es m n (On slot (Ran place order reply) saved) m x.back (ran k m.books x.task slot order.cmd reply saved) x.goes
        (ran_now es (On slot (Ran place order reply) saved) m.books x.task slot order reply saved x.runs (task_at es m n (On slot (Ran place order reply) saved) h x.back x.task x.doing))
    | inr x ↦ by_arm es m n (On slot (Ran place order reply) saved) h slot x.0 x.2
  ]
  step_now es m n (On slot (Looked place question look) saved) s w h = planned es m n (On slot (Looked place question look) saved) h _ m.books _ s
  step_now es m n (On slot (Denied place) saved) s w h = elim s [
    | inl x ↦ by_next es m n (On slot (Denied place) saved) m x.back (denied m.books x.task slot x.order.cmd) x.goes
        (denied_good (es ++ (On slot (Denied place) saved) ∷ []) m.books x.task slot x.order.cmd (task_still es m n (On slot (Denied place) saved) h x.task (task_at es m n (On slot (Denied place) saved) h x.back x.task x.doing)) (by_want es m n (On slot (Denied place) saved) h tt))
    | inr y ↦ elim y [ inl x ↦ refused es m n (On slot (Denied place) saved) h _ x | inr x ↦ by_arm es m n (On slot (Denied place) saved) h slot x.0 x.1 ]
  ]
  step_now es m n (OnNames (Ran place cmd reply)) s w h = planned es m n (OnNames (Ran place cmd reply)) h _ (saw_names reply.place m.books) _ s
  step_now es m n (OnNames (Looked place question names)) s w h = planned es m n (OnNames (Looked place question names)) h _ (saw_names place m.books) _ s
  step_now es m n (OnNames (Denied place)) s w h = elim s [ inl x ↦ refused es m n (OnNames (Denied place)) h _ x | inr x ↦ refused es m n (OnNames (Denied place)) h _ x.1 ]
  step_now es m n (Clock moment) s w h = planned es m n (Clock moment) h _ m.books _ s
  step_now es m n (Dice bytes) s w h = planned es m n (Dice bytes) h _ m.books _ s
  step_now es m n Come s w h = absurd (task_at es m n Come h s.back (Planning s.token s.plan s.noreply s.count s.found s.arms) s.doing)
  step_now es m n Want s w h = by_next es m n Want m s.back (wanted m.books s.task) s.goes (wanted_good (es ++ Want ∷ []) m.books s.task (task_still es m n Want h s.task (task_at es m n Want h s.back s.task s.doing)) (by_want es m n Want h tt))

  run_now : (es more : List Event) (m n : Mach PL) → Run k m more n → AllByRecursion IsWithin more → OnDoing es m.doing → OnDoing (es ++ more) n.doing
  run_now es [] m n r w h = subst (λ z. OnDoing z n.doing) (sym (append-nil es)) (subst (λ (z : Mach PL). OnDoing es z.doing) (sym r) h)
  run_now es (e ∷ more) m n r w h = subst (λ z. OnDoing z n.doing) (append_assoc es (e ∷ []) more) (run_now (es ++ e ∷ []) more r.0 n r.2 w.1 (step_now es m r.0 e r.1 w.0 h))

  -- where it begins
  begun : (n x : Mach PL) (back : Option (List ℕ)) (y : Next PL) → n ≡ goes_on x back y → Good [] y → OnDoing [] n.doing
  begun n x back y g d = subst (λ (z : Mach PL). OnDoing [] z.doing) (sym g) (fits back y.task d)
    where
      fits : (back : Option (List ℕ)) (task : Option (Task PL)) → OnNext [] task → OnDoing [] (doing_next back task)
      fits None None f = tt
      fits (Some left) None f = tt
      fits back (Some task) f = f

module _ {PL : Type 0} (k : Talk PL) where
  abbrev Firsts : ℕ → Answer → Open → Answer → Books → Type 0
  Firsts token first f a b = (a ≡ fitted k first) × (is_long k first ≡ false → feed_of token b.feeds ≡ Some f)

  pub each_begins : EachBegins k
  each_begins before m x y z s arms notes items es t a whole led is r within says =
      let f : Open = feed_from k m x s arms notes items in
      let first : Answer = first_batch k m x s notes items in
      let o : Others s.token m.books.feeds = free_of_feeds k before m led s.back s.token s.plan s.noreply s.count s.found s.arms s.doing in
      let goes : x ≡ goes_on m s.back (comes_to k m.books s.token (batch_size k s.plan) s.found s.arms (Feed arms notes items)) = s.goes ∙ ap (λ w. goes_on m s.back (comes_to k m.books s.token (batch_size k s.plan) s.found s.arms w)) is in
      let start : OnDoing k s.token (Firsts s.token first f) [] x.doing =
      begun k s.token (Firsts s.token first f) x m s.back (comes_to k m.books s.token (batch_size k s.plan) s.found s.arms (Feed arms notes items)) goes
      (tell_good k s.token (Firsts s.token first f) [] m.books s.token first (with_feed f m.books) arms (Some arms) refl
      (λ w c q g. (q, λ short. ap (λ (b : Books). feed_of s.token b.feeds) (g short) ∙ found_end f m.books.feeds o))) in
      let h : OnDoing k s.token (Firsts s.token first f) es y.doing = run_now k s.token (Firsts s.token first f) [] es x y r within start in
      let g : (t ≡ s.token) × IsSo k s.token (Firsts s.token first f) es a says.kept × (says.after ≡ None) = subst (OnDoing k s.token (Firsts s.token first f) es) says.doing h in (
        g.0,
        subst (λ (w : Mach PL). IsFree w.doing) (sym says.goes) (over k y says.back t says.kept says.after whole g.2),
        says.kept,
        (λ w. ap (λ (x : Mach PL). x.books) says.goes ∙ kept_so k y says.back t says.kept says.after whole g.2 w),
        g.1,
      )
