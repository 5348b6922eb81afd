-- The arms of all feeds that a session has open are apart: each was opened by itself, and no number is given twice.
use Rattle.std.proofs.Common.{◌≡◌, ◌≤◌, ◌+◌, ◌-◌, inl, inr, ℕ, Bool, true, false, cond, not, ◌&&◌, ◌||◌, List, [], ◌∷◌, ◌++◌, map, filter, drop, length, Option, Some, None, refl, sym, ap, subst, ◌∙◌, arith, append_assoc, append-nil}
use Rattle.std.specs.Prelude.{nat_eq, nat_le}
use Rattle.std.proofs.lemmas.Bool.{eqb-true, eq-eqb, ne_eqb}
use Rattle.std.proofs.lemmas.Grind.{flat_map-append}
use Rattle.std.proofs.lemmas.List.{map-append}
use Rattle.reql_table_machine_spec.proofs.Tracking.{split}
use Rattle.reql_table_machine_spec.proofs.Numbers.{number_in, number_of, IsHigher, bound, OpensFrom, numbers_rise}
use Rattle.reql_table_machine_spec.specs.declared.command.Reply.{Reply}
use Rattle.reql_table_machine_spec.specs.declared.command.Said.{Said}
use Rattle.reql_table_machine_spec.specs.declared.command.Said.TheVariants as said
use Rattle.reql_datum.specs.Plain.{Plain}
use Rattle.reql_datum.specs.declared.point.Point.{Point}
use Rattle.reql_shared.specs.Acts.{Act, Ran, Looked, Denied}
use Rattle.reql_shared.specs.Machine.{replay}
use Rattle.reql_shared.specs.Parts.{Part}
use Rattle.reql_table_spec.specs.Laws.{known_act}
use Rattle.reql_table_spec.specs.Machine.{State, machine, known_entry}
use Rattle.reql_table_spec.specs.Replies.{Answered as Told}
use Rattle.reql_table_spec.specs.Table.{feeding}
use Rattle.reql_table_spec.specs.declared.command.Cmd.{Cmd}
use Rattle.reql_table_spec.specs.declared.command.Cmd.TheVariants as cmds
use Rattle.reql_table_spec.specs.declared.command.Order.{Order}
use Rattle.reql_table_spec.specs.declared.reply.Saved.{Saved}
use Rattle.reql_table_spec.proofs.Numbers.{index_opens_none}
use Rattle.reql_table_spec.proofs.Weaves.{woven_known}
use Rattle.reql_write_spec.specs.declared.command.Summary.{Summary}
use Rattle.reql_session_spec.specs.Requests.{Asked, Unreadable, Unplanned, Start, Continue, Stop, NoreplyWait, ServerInfo, Arm, Shown, Answered, Unsent, One, Stream, Feed, Fault, Wanting, Move, Ends, Found, SawNames, Clocked, SawSlot, RanSlot, ChangedNames, Rolled, Answer, Internal, Last}
use Rattle.reql_session_spec.specs.Books.{Cursor, Open, Books, has_token, cursor_of, feed_of, is_open, opened, closed, with_rest, with_left, with_cursor, with_feed, saw_names, all_arms}
use Rattle.reql_session_spec.specs.Tasks.{Talk, Firm, Stops, Drops, Settled, Task, Planning, Visiting, Telling, Closing, Next, at, close, wanted, denied, told, stop_feed, stop, is_long, cut, tell, comes_to, continue_cursor, continue_left, continue_feed, continue_on, visit_feed, visit, refuse, begin, takes_up, next_arm, batch_of, gone, took_said, took, ran, found_more, Runs, Asks, batch_size, is_empty, skipped_item, change_items, cut_to, others, arms_said, arms_after, arms_denied}
use Rattle.reql_session_spec.specs.Session.{Event, Turn, Visit, Greeted, Login, Cast, Begin, Heard, Lost, Quiet, Finish, Broken, Long, Wear, Poor, On, OnNames, Dice, Clock, Come, Say, Want, Doing, Rest, Visits, Busy, Leaving, Mach, fresh, Step, Run, acts_of, acts_on, doing_next, goes_on, Plans, PlanDenied}
use Rattle.reql_session_spec.specs.Minding.{has_arm, places, are_apart, IsOther, PlansMind}
use Rattle.reql_session_spec.specs.Explained.{DeskShare, Life, Explained}
use Rattle.reql_session_spec.specs.Arms.{ArmsAreApart}
use Rattle.reql_session_spec.proofs.Fronts.{known_on}

either : {A : Type 0} (P : A → Type 0) (x : Bool) (y z : A) → P y → P z → P (cond x y z)
either P true y z f g = f
either P false y z f g = g

left_zero : (a : ℕ) → a ≡ 0 + a
left_zero a = omega arith

zero_still : (a : ℕ) → a ≡ 0 → 0 + a ≡ 0
zero_still a e = omega (arith, e)

few_still : (a b : ℕ) → a ≤ b → 0 + a ≤ b
few_still a b h = omega (arith, h)

-- ---- how often a number was given
module _ (φ : ℕ) where
  abbrev given : Option ℕ → ℕ
  given None = 0
  given (Some f) = cond (nat_eq f φ) 1 0

module _ {C M I Q A : Type 0} (φ : ℕ) where
  abbrev counted : List (Act C (Reply (Said M I)) Q A) → ℕ
  counted [] = 0
  counted (a ∷ acts) = given φ (number_of a) + counted acts

  counted_append : (xs ys : List (Act C (Reply (Said M I)) Q A)) → counted (xs ++ ys) ≡ counted xs + counted ys
  counted_append [] ys = left_zero (counted ys)
  counted_append (x ∷ xs) ys = joined (given φ (number_of x)) (counted (xs ++ ys)) (counted xs) (counted ys) (counted_append xs ys)
    where
      joined : (a b c d : ℕ) → b ≡ c + d → a + b ≡ (a + c) + d
      joined a b c d h = omega (arith, h)

  none_given : (n : ℕ) (acts : List (Act C (Reply (Said M I)) Q A)) → φ ≤ n → OpensFrom n acts → counted acts ≡ 0
  none_given n [] le o = refl
  none_given n (a ∷ acts) le o = by_number (number_of a) o.0 o.1 (λ i. none_given i acts)
    where
      by_number : (x : Option ℕ) → IsHigher n x → OpensFrom (bound n x) acts → ((i : ℕ) → φ ≤ i → OpensFrom i acts → counted acts ≡ 0) → given φ x + counted acts ≡ 0
      by_number None h o rec = zero_still (counted acts) (rec n le o)
      by_number (Some f) h o rec = ap (λ b. cond b 1 0 + counted acts) (ne_eqb f φ (λ e. absurd (omega (arith, le, h, e)))) ∙ zero_still (counted acts) (rec f (omega (arith, le, h)) o)

  given_once : (n : ℕ) (acts : List (Act C (Reply (Said M I)) Q A)) → OpensFrom n acts → counted acts ≤ 1
  given_once n [] o = omega arith
  given_once n (a ∷ acts) o = by_number (number_of a) o.0 o.1 (λ i. given_once i acts)
    where
      by_number : (x : Option ℕ) → IsHigher n x → OpensFrom (bound n x) acts → ((i : ℕ) → OpensFrom i acts → counted acts ≤ 1) → given φ x + counted acts ≤ 1
      by_number None h o rec = few_still (counted acts) 1 (rec n o)
      by_number (Some f) h o rec = split (nat_eq f φ) (λ b. nat_eq f φ ≡ b → cond b 1 0 + counted acts ≤ 1)
          (λ _ t. only (counted acts) (none_given f acts (at_least (eqb-true f φ t)) o)) (λ _ _. few_still (counted acts) 1 (rec f o)) refl
        where
          at_least : f ≡ φ → φ ≤ f
          at_least e = omega (arith, e)

          only : (c : ℕ) → c ≡ 0 → 1 + c ≤ 1
          only c e = omega (arith, e)

-- ---- how often an arm is in a list
module _ (σ φ : ℕ) where
  abbrev hit : ℕ → ℕ → ℕ
  hit slot feed = cond (nat_eq slot σ && nat_eq feed φ) 1 0

  abbrev hits : List (ℕ × ℕ) → ℕ
  hits [] = 0
  hits (p ∷ ps) = hit p.0 p.1 + hits ps

  abbrev num : List Arm → ℕ
  num arms = hits (places arms)

  -- in all feeds
  abbrev nums : List Open → ℕ
  nums [] = 0
  nums (f ∷ fs) = num f.arms + nums fs

  more : (a b c d : ℕ) → b ≤ c → a + b ≤ a + c
  more a b c d h = omega (arith, h)

  over : (a b c : ℕ) → b ≤ c → b ≤ a + c
  over a b c h = omega (arith, h)

  num_append : (xs ys : List Arm) → num (xs ++ ys) ≡ num xs + num ys
  num_append [] ys = left_zero (num ys)
  num_append (x ∷ xs) ys = joined (hit x.slot x.feed) (num (xs ++ ys)) (num xs) (num ys) (num_append xs ys)
    where
      joined : (a b c d : ℕ) → b ≡ c + d → a + b ≡ (a + c) + d
      joined a b c d h = omega (arith, h)

  num_filter : (p : Arm → Bool) (xs : List Arm) → num (filter p xs) ≤ num xs
  num_filter p [] = omega arith
  num_filter p (x ∷ xs) = split (p x) (λ b. num (cond b (x ∷ filter p xs) (filter p xs)) ≤ num (x ∷ xs))
      (λ _. more (hit x.slot x.feed) (num (filter p xs)) (num xs) 0 (num_filter p xs)) (λ _. over (hit x.slot x.feed) (num (filter p xs)) (num xs) (num_filter p xs))

  nums_append : (fs : List Open) (f : Open) → nums (fs ++ f ∷ []) ≡ nums fs + num f.arms
  nums_append [] f = ends (num f.arms)
    where
      ends : (a : ℕ) → a + 0 ≡ 0 + a
      ends a = omega arith
  nums_append (g ∷ gs) f = joined (num g.arms) (nums (gs ++ f ∷ [])) (nums gs) (num f.arms) (nums_append gs f)
    where
      joined : (a b c d : ℕ) → b ≡ c + d → a + b ≡ (a + c) + d
      joined a b c d h = omega (arith, h)

  nums_filter : (p : Open → Bool) (fs : List Open) → nums (filter p fs) ≤ nums fs
  nums_filter p [] = omega arith
  nums_filter p (f ∷ fs) = split (p f) (λ b. nums (cond b (f ∷ filter p fs) (filter p fs)) ≤ nums (f ∷ fs))
      (λ _. more (num f.arms) (nums (filter p fs)) (nums fs) 0 (nums_filter p fs)) (λ _. over (num f.arms) (nums (filter p fs)) (nums fs) (nums_filter p fs))

  nums_left : (u : ℕ) (left : List Shown) (fs : List Open) → nums (map (λ f. cond (nat_eq f.token u) (record f { left = left }) f) fs) ≡ nums fs
  nums_left u left [] = refl
  nums_left u left (f ∷ fs) = split (nat_eq f.token u) (λ b. num (cond b (record f { left = left }) f).arms + nums (map (λ f. cond (nat_eq f.token u) (record f { left = left }) f) fs) ≡ num f.arms + nums fs)
      (λ _. ap (λ z. num f.arms + z) (nums_left u left fs)) (λ _. ap (λ z. num f.arms + z) (nums_left u left fs))

  nums_all : (fs : List Open) (b : Books) → b.feeds ≡ fs → num (all_arms b) ≡ nums fs
  nums_all fs b e = ap (λ z. num (all_arms (record b { feeds = z }))) e ∙ along fs
    where
      along : (fs : List Open) → num (all_arms (record b { feeds = fs })) ≡ nums fs
      along [] = refl
      along (f ∷ fs) = num_append f.arms (all_arms (record b { feeds = fs })) ∙ ap (λ z. num f.arms + z) (along fs)

  -- ---- what a command opens
  abbrev opens_by : ℕ → Said Summary Plain → ℕ
  opens_by slot s = cond (nat_eq slot σ) (given φ (number_in s)) 0

  num_said : (slot : ℕ) (s : Said Summary Plain) (arms : List Arm) → num (arms_said slot s arms) ≤ num arms + opens_by slot s
  num_said slot (said.Opened feed opening) arms =
      ends (num (arms ++ record { slot = slot; feed = feed; dropped = [] } ∷ [])) (num arms) (hit slot feed) (opens_by slot (said.Opened feed opening)) (num_append arms (record { slot = slot; feed = feed; dropped = [] } ∷ []))
      (split (nat_eq slot σ) (λ b. cond {A = ℕ} (b && nat_eq feed φ) 1 0 ≡ cond {A = ℕ} b (cond {A = ℕ} (nat_eq feed φ) 1 0) 0) (λ _. refl) (λ _. refl))
    where
      ends : (a b c d : ℕ) → a ≡ b + (c + 0) → c ≡ d → a ≤ b + d
      ends a b c d h e = omega (arith, h, e)
  num_said slot other arms = omega arith

  num_after : (slot : ℕ) (cmd : Cmd) (s : Said Summary Plain) (arms : List Arm) → num (arms_after slot cmd s arms) ≤ num arms + opens_by slot s
  num_after slot (cmds.Unsubscribe feed) s arms =
      less (num (others (record { slot = slot; feed = feed; dropped = [] }) arms)) (num arms) (opens_by slot s) (num_filter (λ a. not (nat_eq a.slot slot) || not (nat_eq a.feed feed)) arms)
    where
      less : (a b c : ℕ) → a ≤ b → a ≤ b + c
      less a b c h = omega (arith, h)
  num_after slot other s arms = num_said slot s arms

-- ---- what is next, where no more than N were opened
module _ {PL : Type 0} (k : Talk PL) (on : PL → Bool → ℕ → List Found → List Arm → Type 0) (well : PlansMind k on) (σ φ N : ℕ) where
  abbrev Few : Books → Type 0
  Few b = nums σ φ b.feeds ≤ N

  abbrev IsFit : Books → Task PL → Type 0
  IsFit b (Planning u plan noreply count found arms) = on plan noreply count found arms × (nums σ φ b.feeds + num σ φ arms ≤ N)
  IsFit b (Visiting u arms points) = Unit {0}
  IsFit b (Telling u a kept lose after) = Few kept
  IsFit b (Closing u arms firm a) = Unit {0}

  abbrev FitsNext : Books → Option (Task PL) → Type 0
  FitsNext b None = Unit {0}
  FitsNext b (Some task) = IsFit b task

  abbrev Good : Next PL → Type 0
  Good y = Few y.books × FitsNext y.books y.task

  below : (a b : ℕ) → a ≤ b → b ≤ N → a ≤ N
  below a b h g = omega (arith, h, g)

  in_closed : (u : ℕ) (b : Books) → Few b → Few (closed u b)
  in_closed u b h = below (nums σ φ (closed u b).feeds) (nums σ φ b.feeds) (nums_filter σ φ (λ f. not (nat_eq f.token u)) b.feeds) h

  in_left : (u : ℕ) (left : List Shown) (b : Books) → Few b → Few (with_left u left b)
  in_left u left b h = subst (λ z. z ≤ N) (sym (nums_left σ φ u left b.feeds)) h

  close_good : (b : Books) (u : ℕ) (arms : List Arm) (firm : Firm) (a : Option Answer) → Few b → Good (close b u arms firm a)
  close_good b u [] firm None h = (h, tt)
  close_good b u [] firm (Some a) h = (h, h)
  close_good b u (arm ∷ arms) firm a h = (h, tt)

  wanted_good : (b : Books) (task : Task PL) → Few b → Good (wanted b task)
  wanted_good b (Planning u plan noreply count found arms) h = close_good b u arms Settled (cond noreply None (Some Internal)) h
  wanted_good b (Visiting u arms points) h = (h, h)
  wanted_good b (Telling u a kept None after) h = (h, h)
  wanted_good b (Telling u a kept (Some arms) after) h = close_good (closed u b) u arms Settled (Some Internal) (in_closed u b h)
  wanted_good b (Closing u arms Settled None) h = close_good b u arms Settled None h
  wanted_good b (Closing u arms Settled (Some a)) h = close_good b u arms Settled (Some Internal) h
  wanted_good b (Closing u arms Stops a) h = (h, h)
  wanted_good b (Closing u arms Drops a) h = (h, h)

  denied_good : (b : Books) (task : Task PL) (slot : ℕ) (cmd : Cmd) → Few b → Good (denied b task slot cmd)
  denied_good b (Planning u plan noreply count found arms) slot cmd h = wanted_good b (Planning u plan noreply count found (arms_denied slot cmd arms)) h
  denied_good b (Visiting u arms points) slot cmd h = (h, h)
  denied_good b (Telling u a kept lose after) slot cmd h = wanted_good b (Telling u a kept lose after) h
  denied_good b (Closing u [] firm a) slot cmd h = wanted_good b (Closing u [] firm a) h
  denied_good b (Closing u (arm ∷ arms) Stops a) slot cmd h = (h, h)
  denied_good b (Closing u (arm ∷ arms) Drops a) slot cmd h = close_good (closed u b) u arms Settled a (in_closed u b h)
  denied_good b (Closing u (arm ∷ arms) Settled a) slot cmd h = close_good (closed u b) u arms Settled a (in_closed u b h)

  told_good : (u : ℕ) (kept : Books) (after : Option (List Arm)) → Few kept → Good (told u kept after)
  told_good u kept None h = (h, tt)
  told_good u kept (Some arms) h = close_good kept u arms Stops (Some (Last [] None)) h

  tell_good : (b : Books) (u : ℕ) (a : Answer) (kept : Books) (arms : List Arm) (lose : Option (List Arm)) → Few b → Few kept → Good (tell k b u a kept arms lose)
  tell_good b u a kept arms lose h g = either Good (is_long k a) (cut k b u a arms) (at b (Telling u a kept lose None)) (close_good (closed u b) u arms Settled (Some (cut_to k a)) (in_closed u b h)) (h, g)

  refuse_good : (b : Books) (u : ℕ) (noreply : Bool) (a : Answer) → Few b → Good (refuse k b u noreply a)
  refuse_good b u true a h = (h, tt)
  refuse_good b u false a h = (h, h)

  continue_cursor_good : (b : Books) (c : Cursor) → Few b → Good (continue_cursor k b c)
  continue_cursor_good b c h = either Good (nat_le (length c.rest) c.batch) _ _
      (tell_good b c.token (Last c.rest None) (closed c.token b) [] None h (in_closed c.token b h))
      (tell_good b c.token _ (with_rest c.token (drop c.batch c.rest) b) [] None h h)

  continue_left_good : (b : Books) (f : Open) (left : List Shown) → Few b → Good (continue_left k b f left)
  continue_left_good b f [] h = (h, tt)
  continue_left_good b f (x ∷ xs) h = tell_good b f.token _ (with_left f.token (drop f.batch (x ∷ xs)) b) f.arms None h (in_left f.token (drop f.batch (x ∷ xs)) b h)

  continue_feed_good : (b : Books) (u : ℕ) (o : Option Open) → Few b → Good (continue_feed k b u o)
  continue_feed_good b u None h = (h, h)
  continue_feed_good b u (Some f) h = either Good (has_token u b.waiting) _ _ (h, h) (continue_left_good b f f.left h)

  continue_good : (b : Books) (u : ℕ) (o : Option Cursor) → Few b → Good (continue_on k b u o)
  continue_good b u (Some c) h = continue_cursor_good b c h
  continue_good b u None h = continue_feed_good b u (feed_of u b.feeds) h

  visit_good : (b : Books) (u : ℕ) (o : Option Open) → Few b → Good (visit_feed k b u o)
  visit_good b u None h = (h, tt)
  visit_good b u (Some f) h = continue_left_good b f f.left h

  stop_feed_good : (b : Books) (u : ℕ) (o : Option Open) → Few b → Good (stop_feed b u o)
  stop_feed_good b u None h = (h, h)
  stop_feed_good b u (Some f) h = either Good (has_token u b.waiting) _ _ (h, h) (close_good b u f.arms Stops (Some (Last [] None)) h)

  stop_good : (b : Books) (u : ℕ) (o : Option Cursor) → Few b → Good (stop b u o)
  stop_good b u (Some c) h = (h, in_closed u b h)
  stop_good b u None h = stop_feed_good b u (feed_of u b.feeds) h

  begin_good : (b : Books) (u : ℕ) (x : Asked PL) → Few b → Good (begin k b u x)
  begin_good b u (Unreadable noreply text) h = refuse_good b u noreply _ h
  begin_good b u (Unplanned noreply text) h = either Good (is_open u b) _ _ (refuse_good b u noreply _ h) (refuse_good b u noreply _ h)
  begin_good b u (Start noreply plan) h = either Good (is_open u b) _ _ (refuse_good b u noreply _ h) (h, (well.begins plan noreply (opened b), none_more (nums σ φ b.feeds) h))
    where
      none_more : (a : ℕ) → a ≤ N → a + 0 ≤ N
      none_more a h = omega (arith, h)
  begin_good b u Continue h = continue_good b u (cursor_of u b.cursors) h
  begin_good b u Stop h = stop_good b u (cursor_of u b.cursors) h
  begin_good b u NoreplyWait h = (h, h)
  begin_good b u ServerInfo h = (h, h)

  takes_up_good : (b : Books) (u : ℕ) (bytes : List ℕ) (is_read : Bool) → Few b → Good (takes_up k b u bytes is_read)
  takes_up_good b u bytes true h = begin_good b u (k.asked bytes) h
  takes_up_good b u bytes false h = (h, h)

  next_arm_good : (b : Books) (u : ℕ) (arms : List Arm) (points : List Point) → Few b → Good (next_arm k b u arms points)
  next_arm_good b u [] points h = (h, tt)
  next_arm_good b u (arm ∷ arms) points h = (h, tt)

  batch_good : (b : Books) (f : Open) (n : ℕ) (arm : Arm) (points : List Point) (skipped last : ℕ) (items : List (ℕ × Plain)) → Few b → Good (batch_of k b f n arm points skipped last items)
  batch_good b f n arm points skipped last items h = either Good (is_empty (skipped_item n arm skipped last ++ change_items n arm items)) _ _ (h, tt)
      (tell_good b f.token _ (with_left f.token (drop f.batch (change_items n arm items)) b) f.arms (Some f.arms) h (in_left f.token (drop f.batch (change_items n arm items)) b h))

  gone_good : (b : Books) (f : Open) (arm : Arm) (points : List Point) (arms : List Arm) → Few b → Good (gone k b f arm points arms)
  gone_good b f arm points [] h = (h, in_closed f.token b h)
  gone_good b f arm points (x ∷ xs) h = (h, tt)

  took_said_good : (b : Books) (f : Open) (arm : Arm) (arms : List Arm) (points : List Point) (s : Said Summary Plain) → Few b → Good (took_said k b f arm arms points s)
  took_said_good b f arm arms points (said.Batch skipped last items) h = batch_good b f (length f.arms - length (arm ∷ arms)) arm points skipped last items h
  took_said_good b f arm arms points said.Gone h = gone_good b f arm points (others arm f.arms) h
  took_said_good b f arm arms points (said.HistoryFull count) h = close_good (closed f.token b) f.token f.arms Settled _ (in_closed f.token b h)
  took_said_good b f arm arms points other h = next_arm_good b f.token arms points h

  took_good : (b : Books) (u : ℕ) (arm : Arm) (arms : List Arm) (points : List Point) (r : Told) (o : Option Open) → Few b → Good (took k b u arm arms points r o)
  took_good b u arm arms points r None h = (h, tt)
  took_good b u arm arms points r (Some f) h = took_said_good b f arm arms _ r.said h

  -- of a plan that is under way there is one more thing found
  abbrev Grows : Books → Task PL → ℕ → Cmd → Told → Saved → Type 0
  Grows b (Planning u plan noreply count found arms) slot cmd r saved = IsFit b (Planning u plan noreply count (found ++ RanSlot slot r saved ∷ []) (arms_after slot cmd r.said arms))
  Grows b other slot cmd r saved = Unit {0}

  ran_good : (b : Books) (task : Task PL) (slot : ℕ) (order : Order) (r : Told) (saved : Saved) → Runs k b task slot order → Few b → Grows b task slot order.cmd r saved → Good (ran k b task slot order.cmd r saved)
  ran_good b (Planning u plan noreply count found arms) slot order r saved e h g = (h, g)
  ran_good b (Visiting u [] points) slot order r saved e h g = absurd e
  ran_good b (Visiting u (arm ∷ arms) points) slot order r saved e h g = took_good b u arm arms points r (feed_of u b.feeds) h
  ran_good b (Telling u a kept lose after) slot order r saved e h g = absurd e
  ran_good b (Closing u [] firm a) slot order r saved e h g = absurd e
  ran_good b (Closing u (arm ∷ arms) firm a) slot order r saved e h g = close_good (closed u b) u arms Settled a (in_closed u b h)

  found_good : (b c : Books) (task : Task PL) (x : Found) (move : Move) → c.feeds ≡ b.feeds → IsOther x → Asks k task move → Few b → IsFit b task → Good (found_more k c task x)
  found_good b c (Planning u plan noreply count found arms) x move e o a h f =
      (subst (λ z. nums σ φ z ≤ N) (sym e) h, (well.finds plan noreply count found arms x f.0 o, subst (λ z. nums σ φ z + num σ φ arms ≤ N) (sym e) f.1))
  found_good b c (Visiting u arms points) x move e o a h f = absurd a
  found_good b c (Telling u z kept lose after) x move e o a h f = absurd a
  found_good b c (Closing u arms firm z) x move e o a h f = absurd a

  comes_good : (b : Books) (u batch : ℕ) (found : List Found) (arms : List Arm) (to : Answered) → ((feed : List Arm) (notes : List ℕ) (items : List Shown) → to ≡ Feed feed notes items → num σ φ feed ≡ num σ φ arms)
      → nums σ φ b.feeds + num σ φ arms ≤ N → Few b → Good (comes_to k b u batch found arms to)
  comes_good b u batch found arms Unsent p o h = close_good b u arms Settled None h
  comes_good b u batch found arms (One x) p o h = close_good b u arms Settled _ h
  comes_good b u batch found arms (Stream xs) p o h = either Good (nat_le (length xs) batch) _ _ (close_good b u arms Settled _ h)
      (tell_good b u _ (with_cursor (record { token = u; rest = drop batch xs; batch = batch }) b) arms None h h)
  comes_good b u batch found arms (Feed feed notes items) p o h =
      let f : Open = record { token = u; arms = feed; left = drop batch items; batch = batch; notes = notes } in
      tell_good b u _ (with_feed f b) feed (Some feed) h (joined (nums σ φ (b.feeds ++ f ∷ [])) (nums σ φ b.feeds) (num σ φ feed) (num σ φ arms) (nums_append σ φ b.feeds f) (p feed notes items refl) o)
    where
      joined : (a b c d : ℕ) → a ≡ b + c → c ≡ d → b + d ≤ N → a ≤ N
      joined a b c d h e g = omega (arith, h, e, g)
  comes_good b u batch found arms (Fault error text) p o h = close_good b u arms Settled _ h
  comes_good b u batch found arms Wanting p o h = close_good b u arms Settled _ h

  -- ---- a step
  abbrev DoingFits : Books → Doing PL → Type 0
  DoingFits b Rest = Unit {0}
  DoingFits b (Visits left) = Unit {0}
  DoingFits b (Busy back task) = IsFit b task
  DoingFits b (Leaving arms end) = Unit {0}

  abbrev Holds : Mach PL → Type 0
  Holds m = Few m.books × DoingFits m.books m.doing

  by_next : (m n : Mach PL) (back : Option (List ℕ)) (y : Next PL) → n ≡ goes_on m back y → Good y → Holds n
  by_next m n back y e g = subst Holds (sym e) (g.0, fits back y.task g.1)
    where
      fits : (back : Option (List ℕ)) (task : Option (Task PL)) → FitsNext y.books task → DoingFits y.books (doing_next back task)
      fits None None f = tt
      fits (Some left) None f = tt
      fits back (Some task) f = f

  still : (n x : Mach PL) → n ≡ x → Few x.books → DoingFits x.books x.doing → Holds n
  still n x g h d = subst Holds (sym g) (h, d)

  task_fits : (m : Mach PL) (back : Option (List ℕ)) (task : Task PL) → m.doing ≡ Busy back task → Holds m → IsFit m.books task
  task_fits m back task d h = subst (λ z. DoingFits m.books z) d h.1

  planned : (m n : Mach PL) (move : Move) (b : Books) (x : Found) → b.feeds ≡ m.books.feeds → IsOther x → Plans k m move b x n → Holds m → Holds n
  planned m n move b x e o s h = by_next m n s.back (found_more k b s.task x) s.goes (found_good m.books b s.task x move e o s.asks h.0 (task_fits m s.back s.task s.doing h))

  refused : (m n : Mach PL) (move : Move) → PlanDenied k m move n → Holds m → Holds n
  refused m n move s h = by_next m n s.back (wanted m.books s.task) s.goes (wanted_good m.books s.task h.0)

  -- every step but one that a command makes
  abbrev IsQuiet : Event → Type 0
  IsQuiet (On slot (Ran place order reply) saved) = ⊥
  IsQuiet e = Unit {0}

  step_holds : (m n : Mach PL) (e : Event) → IsQuiet e → Step k m e n → Holds m → Holds n
  step_holds m n Turn q s h = still n _ s.1 h.0 tt
  step_holds m n Visit q s h = by_next m n (Some s.1) (visit k m.books s.0) s.3 (visit_good m.books s.0 (feed_of s.0 m.books.feeds) h.0)
  step_holds m n (Greeted true) q s h = elim s.2 [ inl g ↦ still n _ g.4 h.0 tt | inr g ↦ still n _ g.4 h.0 tt ]
  step_holds m n (Greeted false) q s h = elim s.2 [ inl g ↦ still n _ g.4 h.0 tt | inr g ↦ still n _ g.4 h.0 tt ]
  step_holds m n (Login true) q s h = elim s.2 [ inl g ↦ still n _ g.5 h.0 tt | inr r ↦ elim r [ inl g ↦ still n _ g.4 h.0 tt | inr g ↦ still n _ g.3 h.0 tt ] ]
  step_holds m n (Login false) q s h = elim s.2 [ inl g ↦ still n _ g.5 h.0 tt | inr r ↦ elim r [ inl g ↦ still n _ g.4 h.0 tt | inr g ↦ still n _ g.3 h.0 tt ] ]
  step_holds m n (Cast bytes) q s h = still n _ s.2 h.0 tt
  step_holds m n (Begin frame is_read) q s h = by_next (record m { held = s.0 }) n None (takes_up k m.books frame.token frame.body is_read) s.5 (takes_up_good m.books frame.token frame.body is_read h.0)
  step_holds m n (Heard bytes) q s h = still n _ s.2 h.0 tt
  step_holds m n (Lost bytes) q s h = still n _ s.2 h.0 tt
  step_holds m n Quiet q s h = still n _ s.1 h.0 tt
  step_holds m n Finish q s h = still n _ s.1 h.0 tt
  step_holds m n Broken q s h = still n _ s.1 h.0 tt
  step_holds m n (Long len) q s h = still n _ s.3 h.0 tt
  step_holds m n Wear q s h = still n _ s.1 h.0 tt
  step_holds m n Poor q s h = still n _ s.1 h.0 tt
  step_holds m n (On slot (Ran place order reply) saved) q s h = absurd q
  step_holds m n (On slot (Looked place question look) saved) q s h = planned m n _ m.books (SawSlot slot look) refl tt s h
  step_holds m n (On slot (Denied place) saved) q s h = elim s [
    | inl x ↦ by_next m n x.back (denied m.books x.task slot x.order.cmd) x.goes (denied_good m.books x.task slot x.order.cmd h.0)
    | inr y ↦ elim y [ inl x ↦ refused m n _ x h | inr x ↦ still n _ x.1.goes h.0 tt ]
  ]
  step_holds m n (OnNames (Ran place cmd reply)) q s h = planned m n _ (saw_names reply.place m.books) (ChangedNames reply.place reply) refl tt s h
  step_holds m n (OnNames (Looked place question names)) q s h = planned m n _ (saw_names place m.books) (SawNames place names) refl tt s h
  step_holds m n (OnNames (Denied place)) q s h = elim s [ inl x ↦ refused m n _ x h | inr x ↦ refused m n _ x.1 h ]
  step_holds m n (Clock moment) q s h = planned m n _ m.books (Clocked moment) refl tt s h
  step_holds m n (Dice bytes) q s h = planned m n _ m.books (Rolled bytes) refl tt s h
  step_holds m n Come q s h =
      let f = task_fits m s.back (Planning s.token s.plan s.noreply s.count s.found s.arms) s.doing h in
      by_next m n s.back (comes_to k m.books s.token (batch_size k s.plan) s.found s.arms s.to) s.goes
      (comes_good m.books s.token (batch_size k s.plan) s.found s.arms s.to
      (λ feed notes items q. ap (hits σ φ) (well.whole s.plan s.noreply s.count s.found s.arms feed notes items f.0 (s.ends ∙ ap (λ z. Ends z) q)).all) f.1 h.0)
  step_holds m n (Say token a true) q s h = by_next (record m { out = m.out ++ s.front }) n s.back (told token s.kept s.after) s.goes (told_good token s.kept s.after (task_fits m s.back (Telling token a s.kept s.lose s.after) s.doing h))
  step_holds m n (Say token a false) q s h = still n _ s.goes h.0 tt
  step_holds m n Want q s h = by_next m n s.back (wanted m.books s.task) s.goes (wanted_good m.books s.task h.0)

-- ---- a command
module _ {PL : Type 0} (k : Talk PL) (on : PL → Bool → ℕ → List Found → List Arm → Type 0) (well : PlansMind k on) (σ φ : ℕ) where
  abbrev HoldsBy : ℕ → Mach PL → Type 0
  HoldsBy N m = Holds k on well σ φ N m

  later : (M N : ℕ) (m : Mach PL) → M ≤ N → HoldsBy M m → HoldsBy N m
  later M N m le h = (up (nums σ φ m.books.feeds) h.0, fits m.doing h.1)
    where
      up : (a : ℕ) → a ≤ M → a ≤ N
      up a h = omega (arith, le, h)

      task_fits : (t : Task PL) → IsFit k on well σ φ M m.books t → IsFit k on well σ φ N m.books t
      task_fits (Planning u plan noreply count found arms) f = (f.0, up (nums σ φ m.books.feeds + num σ φ arms) f.1)
      task_fits (Visiting u arms points) f = tt
      task_fits (Telling u a kept lose after) f = up (nums σ φ kept.feeds) f
      task_fits (Closing u arms firm a) f = tt

      fits : (d : Doing PL) → DoingFits k on well σ φ M m.books d → DoingFits k on well σ φ N m.books d
      fits Rest f = tt
      fits (Visits left) f = tt
      fits (Busy back t) f = task_fits t f
      fits (Leaving arms end) f = tt

  grows : (M : ℕ) (b : Books) (t : Task PL) (slot : ℕ) (order : Order) (r : Told) (saved : Saved) → Runs k b t slot order → IsFit k on well σ φ M b t → Grows k on well σ φ (M + opens_by σ φ slot r.said) b t slot order.cmd r saved
  grows M b (Planning u plan noreply count found arms) slot order r saved e f = (
    (well.runs plan noreply count found arms slot order r saved f.0 e).1,
    joined (nums σ φ b.feeds) (num σ φ (arms_after slot order.cmd r.said arms)) (num σ φ arms) (opens_by σ φ slot r.said) (num_after σ φ slot order.cmd r.said arms) f.1,
  )
    where
      joined : (a b c d : ℕ) → b ≤ c + d → a + c ≤ M → a + b ≤ M + d
      joined a b c d h g = omega (arith, h, g)
  grows M b (Visiting u arms points) slot order r saved e f = tt
  grows M b (Telling u a kept lose after) slot order r saved e f = tt
  grows M b (Closing u arms firm a) slot order r saved e f = tt

  ran_holds : (M : ℕ) (m n : Mach PL) (slot place : ℕ) (order : Order) (r : Told) (saved : Saved) → Step k m (On slot (Ran place order r) saved) n → HoldsBy M m → HoldsBy (M + opens_by σ φ slot r.said) n
  ran_holds M m n slot place order r saved s h =
      let N : ℕ = M + opens_by σ φ slot r.said in
      let g : HoldsBy N m = later M N m (omega arith) h in
      elim s [
        | inl x ↦ by_next k on well σ φ N m n x.back (ran k m.books x.task slot order.cmd r saved) x.goes
            (ran_good k on well σ φ N m.books x.task slot order r saved x.runs g.0 (grows M m.books x.task slot order r saved x.runs (task_fits k on well σ φ M m x.back x.task x.doing h)))
        | inr x ↦ still k on well σ φ N n _ x.2.goes g.0 tt
      ]

  -- ---- along a run
  abbrev along : List Event → ℕ
  along es = counted φ (known_on σ es)

  along_append : (xs ys : List Event) → along (xs ++ ys) ≡ along xs + along ys
  along_append xs ys = ap (λ z. counted φ (map known_act z)) (flat_map-append (acts_of σ) xs ys) ∙ ap (counted φ) (map-append known_act (acts_on σ xs) (acts_on σ ys)) ∙ counted_append φ (known_on σ xs) (known_on σ ys)

  along_ran : (slot place : ℕ) (order : Order) (r : Told) (saved : Saved) → along (On slot (Ran place order r) saved ∷ []) ≡ opens_by σ φ slot r.said
  along_ran slot place order r saved = split (nat_eq slot σ) (λ b. counted φ (map known_act (cond b (Ran place order r ∷ []) [] ++ [])) ≡ cond b (given φ (number_in r.said)) 0) (λ _. no_more (given φ (number_in r.said))) (λ _. refl)
    where
      no_more : (a : ℕ) → a + 0 ≡ a
      no_more a = omega arith

  at_least : (xs ys : List Event) → along xs ≤ along (xs ++ ys)
  at_least xs ys = front (along (xs ++ ys)) (along xs) (along ys) (along_append xs ys)
    where
      front : (a b c : ℕ) → a ≡ b + c → b ≤ a
      front a b c h = omega (arith, h)

  step_on : (es : List Event) (m n : Mach PL) (e : Event) → Step k m e n → HoldsBy (along es) m → HoldsBy (along (es ++ e ∷ [])) n
  step_on es m n (On slot (Ran place order r) saved) s h =
      subst (λ z. HoldsBy z n) (sym (along_append es (On slot (Ran place order r) saved ∷ []) ∙ ap (λ z. along es + z) (along_ran slot place order r saved))) (ran_holds (along es) m n slot place order r saved s h)
  step_on es m n e s h = quiet e tt s
    where
      quiet : (e : Event) → IsQuiet k on well σ φ 0 e → Step k m e n → HoldsBy (along (es ++ e ∷ [])) n
      quiet e q s = step_holds k on well σ φ (along (es ++ e ∷ [])) m n e q s (later (along es) (along (es ++ e ∷ [])) m (at_least es (e ∷ [])) h)

  run_on : (done es : List Event) (m n : Mach PL) → Run k m es n → HoldsBy (along done) m → HoldsBy (along (done ++ es)) n
  run_on done [] m n r h = subst (λ z. HoldsBy (along z) n) (sym (append-nil done)) (subst (HoldsBy (along done)) (sym r) h)
  run_on done (e ∷ es) m n r h = subst (λ z. HoldsBy (along z) n) (append_assoc done (e ∷ []) es) (run_on (done ++ e ∷ []) es r.0 n r.2 (step_on done m r.0 e r.1 h))

  -- in an explained session
  module _ (share : DeskShare) (life : Life) (x : Explained k share life) where
    opened_once : along x.events ≤ 1
    opened_once =
        let part : Part Order State = share.slots σ in
        let now : State = replay machine part.start part.before in
        given_once φ now.table.place (known_on σ x.events)
        (numbers_rise (feeding now.most) index_opens_none _ part.number (length part.before) now.table (known_on σ x.events) (map known_entry part.during)
        (woven_known now part.number (length part.before) (acts_on σ x.events) part.during (x.slots σ).woven))

    one_at_most : (before after : List Event) (m : Mach PL) → x.events ≡ before ++ after → Run k fresh before m → num σ φ (all_arms m.books) ≤ 1
    one_at_most before after m e r =
        few (num σ φ (all_arms m.books)) (nums σ φ m.books.feeds) (along before) (along x.events) (nums_all σ φ m.books.feeds m.books refl) (run_on [] before fresh m r (omega arith, tt)).0
        (subst (λ z. along before ≤ along z) (sym e) (at_least before after)) opened_once
      where
        few : (a b c d : ℕ) → a ≡ b → b ≤ c → c ≤ d → d ≤ 1 → a ≤ 1
        few a b c d p q r s = omega (arith, p, q, r, s)

-- ---- arms each of which is there once
none_there : (σ φ : ℕ) (arms : List Arm) → num σ φ arms ≤ 0 → has_arm σ φ arms ≡ false
none_there σ φ [] h = refl
none_there σ φ (a ∷ arms) h =
    split (nat_eq a.slot σ && nat_eq a.feed φ) (λ b. cond b 1 0 + num σ φ arms ≤ 0 → (b || has_arm σ φ arms) ≡ false) (λ _ g. absurd (some (num σ φ arms) g)) (λ _ g. none_there σ φ arms (zero (num σ φ arms) g)) h
  where
    some : (c : ℕ) → 1 + c ≤ 0 → ⊥
    some c g = omega (arith, g)

    zero : (c : ℕ) → 0 + c ≤ 0 → c ≤ 0
    zero c g = omega (arith, g)

all_apart : (arms : List Arm) → ((σ φ : ℕ) → num σ φ arms ≤ 1) → are_apart arms ≡ true
all_apart [] h = refl
all_apart (a ∷ arms) h = (λ i. not (none_there a.slot a.feed arms (rest (hit a.slot a.feed a.slot a.feed) (num a.slot a.feed arms) own (h a.slot a.feed)) i) && all_apart arms (λ σ φ. tail (hit σ φ a.slot a.feed) (num σ φ arms) (h σ φ)) i)
  where
    own : hit a.slot a.feed a.slot a.feed ≡ 1
    own = (λ i. cond (eq-eqb a.slot a.slot refl i && eq-eqb a.feed a.feed refl i) 1 0)

    rest : (x y : ℕ) → x ≡ 1 → x + y ≤ 1 → y ≤ 0
    rest x y e g = omega (arith, e, g)

    tail : (x y : ℕ) → x + y ≤ 1 → y ≤ 1
    tail x y g = omega (arith, g)

module _ {PL : Type 0} (k : Talk PL) (on : PL → Bool → ℕ → List Found → List Arm → Type 0) (well : PlansMind k on) where
  pub arms_are_apart : ArmsAreApart k
  arms_are_apart share life x before after m e r = all_apart (all_arms m.books) (λ σ φ. one_at_most k on well σ φ share life x before after m e r)
