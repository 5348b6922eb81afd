-- That plans, as a session is told of them, mind their feeds: what a session asks of plans, shown of these.
use Rattle.std.proofs.Common.{◌≡◌, ℕ, suc, ◌<◌, List, [], ◌∷◌, ◌++◌, map, length, Bool, true, false, true≢false, not, ◌&&◌, ◌||◌, cond, refl, sym, ap, subst, ◌∙◌}
use Rattle.std.specs.Prelude.{nat_eq}
use Rattle.std.specs.List.{AllByRecursion}
use Rattle.std.proofs.lemmas.Bool.{eqb-true}
use Rattle.reql_datum.specs.Answer.{query_logic, non_existence, resource_limit, op_failed, user, no_text}
use Rattle.reql_datum.specs.Plain.{Plain}
use Rattle.reql_table_machine_spec.specs.declared.command.Said.TheVariants as said
use Rattle.reql_table_spec.specs.declared.command.Cmd.{Cmd}
use Rattle.reql_table_spec.specs.declared.command.Cmd.TheVariants as cmds
use Rattle.reql_table_spec.specs.declared.command.Order.{Order}
use Rattle.reql_table_spec.specs.declared.limits.Limits.{Limits}
use Rattle.reql_plan_spec.specs.declared.parts.Plan.{Plan}
use Rattle.reql_plan_spec.specs.declared.parts.Setting.{Setting}
use Rattle.reql_plan_spec.specs.Course.{plan_next}
use Rattle.reql_plan_spec.specs.Minds.{Feeds, is_feed, has_feed, without_feed, with_opened, with_reply, MayRun, AreOpen, TellsAll, feeds_in, are_apart as apart_feeds, Comes, IsOther as IsOtherHeard}
use Rattle.reql_plan_spec.specs.Move as plans
use Rattle.reql_plan_spec.specs.Request as requests
use Rattle.reql_plan_spec.proofs.Following.{plans_mind_each_step}
use Rattle.reql_plan_spec.proofs.Unsent.{unsent_only_with_noreply}
use Rattle.reql_session_spec.specs.Requests.{Arm, Opening, State, Shown, Answered, Unsent, Stream, Feed, Wanting, Move, RunSlot, Ends, Found, SawNames, Clocked, SawSlot, RanSlot, ChangedNames, Rolled}
use Rattle.reql_session_spec.specs.Tasks.{Keys, arms_said, arms_after, others}
use Rattle.reql_session_spec.specs.Minding.{has_arm, Minds, IsAside, IsOther, are_apart, IsWhole, PlansMind}
use Rattle.reql_query_session_spec.specs.Told.{heard_of, arm_of, shown_of, answered_of, asked_of, move_of, setting_of, moves_of, talk, feeds_of, comes_by}

-- ---- lists
map_one : {A B : Type 0} (f : A → B) (xs : List A) (x : A) → map f (xs ++ x ∷ []) ≡ map f xs ++ f x ∷ []
map_one f [] x = refl
map_one f (y ∷ xs) x = ap (λ z. f y ∷ z) (map_one f xs x)

has_same : (n k : ℕ) (arms : List Arm) → has_feed n k (feeds_of arms) ≡ has_arm n k arms
has_same n k [] = refl
has_same n k (a ∷ arms) = ap (λ z. is_feed n k (a.slot, a.feed) || z) (has_same n k arms)

without_same : (n k : ℕ) (arms : List Arm) → without_feed n k (feeds_of arms) ≡ feeds_of (others (record { slot = n; feed = k; dropped = [] }) arms)
without_same n k [] = refl
without_same n k (a ∷ arms) = by_both (nat_eq a.slot n) (nat_eq a.feed k) a (others (record { slot = n; feed = k; dropped = [] }) arms) (without_feed n k (feeds_of arms)) (without_same n k arms)
  where
    by_both : (x y : Bool) (a : Arm) (rest : List Arm) (left : Feeds) → left ≡ feeds_of rest → cond (x && y) left ((a.slot, a.feed) ∷ left) ≡ feeds_of (cond (not x || not y) (a ∷ rest) rest)
    by_both true true a rest left e = e
    by_both true false a rest left e = ap (λ z. (a.slot, a.feed) ∷ z) e
    by_both false y a rest left e = ap (λ z. (a.slot, a.feed) ∷ z) e

opened_same : (n : ℕ) (s : plans.Replied) (arms : List Arm) → with_opened n s (feeds_of arms) ≡ feeds_of (arms_said n s arms)
opened_same n (said.Done x) arms = refl
opened_same n (said.HistoryFull count) arms = refl
opened_same n said.Changed arms = refl
opened_same n said.IndexExists arms = refl
opened_same n said.IndexMissing arms = refl
opened_same n (said.Opened f items) arms = sym (map_one (λ (a : Arm). (a.slot, a.feed)) arms (record { slot = n; feed = f; dropped = [] }))
opened_same n (said.FeedsFull count) arms = refl
opened_same n (said.Batch skipped last items) arms = refl
opened_same n said.Nothing arms = refl
opened_same n (said.FeedUnknown f) arms = refl
opened_same n said.Closed arms = refl
opened_same n said.Gone arms = refl

after_same : (n : ℕ) (c : Cmd) (s : plans.Replied) (arms : List Arm) → with_reply n c s (feeds_of arms) ≡ feeds_of (arms_after n c s arms)
after_same n (cmds.Write w) s arms = opened_same n s arms
after_same n (cmds.IndexCreate d) s arms = opened_same n s arms
after_same n (cmds.IndexDrop name) s arms = opened_same n s arms
after_same n (cmds.IndexRename old new overwrite) s arms = opened_same n s arms
after_same n (cmds.Subscribe spec) s arms = opened_same n s arms
after_same n (cmds.Take f max) s arms = opened_same n s arms
after_same n (cmds.Unsubscribe f) s arms = without_same n f arms
after_same n cmds.Shut s arms = opened_same n s arms
after_same n cmds.Sync s arms = opened_same n s arms

may_same : (n : ℕ) (c : Cmd) (arms : List Arm) → MayRun (feeds_of arms) n c → Minds arms n c
may_same n (cmds.Write w) arms m = tt
may_same n (cmds.IndexCreate d) arms m = tt
may_same n (cmds.IndexDrop name) arms m = tt
may_same n (cmds.IndexRename old new overwrite) arms m = tt
may_same n (cmds.Subscribe spec) arms m = tt
may_same n (cmds.Take f max) arms m = m
may_same n (cmds.Unsubscribe f) arms m = sym (has_same n f arms) ∙ m
may_same n cmds.Shut arms m = tt
may_same n cmds.Sync arms m = tt

-- ---- a move read back
abbrev is_run : Move → Bool
is_run (RunSlot n order) = true
is_run m = false

abbrev slot_in : Move → ℕ
slot_in (RunSlot n order) = n
slot_in m = 0

abbrev no_order : Order
no_order = record { points = []; cmd = cmds.Sync }

abbrev order_in : Move → Order
order_in (RunSlot n order) = order
order_in m = no_order

not_run : {A : Type 0} (m : Move) (n : ℕ) (order : Order) → is_run m ≡ false → m ≡ RunSlot n order → A
not_run m n order h e = absurd (true≢false (sym (ap is_run e) ∙ h))

asked_back : (q : plans.Ask) (n : ℕ) (order : Order) → asked_of q ≡ RunSlot n order → requests.moves q ≡ requests.moves (plans.run n order)
asked_back plans.look_names n order e = not_run (asked_of plans.look_names) n order refl e
asked_back plans.tell n order e = not_run (asked_of plans.tell) n order refl e
asked_back (plans.look k) n order e = not_run (asked_of (plans.look k)) n order refl e
asked_back (plans.run k o) n order e = λ i. requests.moves (plans.run (slot_in (e i)) (order_in (e i)))
asked_back (plans.change_names c) n order e = not_run (asked_of (plans.change_names c)) n order refl e
asked_back plans.roll n order e = not_run (asked_of plans.roll) n order refl e

run_back : (m : requests.Next) (n : ℕ) (order : Order) → move_of m ≡ RunSlot n order → m ≡ requests.moves (plans.run n order)
run_back (requests.answered o) n order e = not_run (Ends (answered_of o)) n order refl e
run_back (requests.moves q) n order e = asked_back q n order e

-- ---- an end
abbrev answered_in : Move → Answered
answered_in (Ends a) = a
answered_in m = Wanting

abbrev arms_in : Answered → List Arm
arms_in (Feed arms notes items) = arms
arms_in a = []

abbrev items_in : Answered → List Shown
items_in (Feed arms notes items) = items
items_in a = []

abbrev AreAside : List Shown → Type 0
AreAside items = AllByRecursion (λ (x : Shown). IsAside x.sort) items

abbrev Within : List Arm → List Arm → Type 0
Within feed arms = (n k : ℕ) → has_arm n k feed ≡ true → has_arm n k arms ≡ true

no_arms : (arms : List Arm) → Within [] arms
no_arms arms n k h = absurd (true≢false (sym h))

aside : (b : Bool) → IsAside (cond b State Opening)
aside true = tt
aside false = tt

all_aside : (arms : List Arm) (items : List plans.Item) → AreAside (map (shown_of arms) items)
all_aside arms [] = tt
all_aside arms (x ∷ items) = (aside x.is_state, all_aside arms items)

and_parts : (a b : Bool) → (a && b) ≡ true → (a ≡ true) × (b ≡ true)
and_parts true b h = (refl, h)
and_parts false b h = absurd (true≢false (sym h))

-- each arm of a feed that is told is open
all_within : (feed : List plans.Arm) (arms : List Arm) → AreOpen (feeds_of arms) feed → Within (map arm_of feed) arms
all_within [] arms opened n k h = absurd (true≢false (sym h))
all_within (a ∷ feed) arms opened n k h = by_first (nat_eq a.slot n && nat_eq a.feed k) refl h (all_within feed arms opened.1 n k)
  where
    by_first : (b : Bool) → (nat_eq a.slot n && nat_eq a.feed k) ≡ b → (b || has_arm n k (map arm_of feed)) ≡ true → (has_arm n k (map arm_of feed) ≡ true → has_arm n k arms ≡ true) → has_arm n k arms ≡ true
    by_first true e h later =
        let both : (nat_eq a.slot n ≡ true) × (nat_eq a.feed k ≡ true) = and_parts (nat_eq a.slot n) (nat_eq a.feed k) e in
        subst (λ m. has_arm m k arms ≡ true) (eqb-true a.slot n both.0) (subst (λ f. has_arm a.slot f arms ≡ true) (eqb-true a.feed k both.1) (sym (has_same a.slot a.feed arms) ∙ opened.0))
    by_first false e h later = later h

-- what an outcome that is told owes
ends_well : (o : plans.Outcome) (arms : List Arm) → ((feed : List plans.Arm) (notes : List ℕ) (items : List plans.Item) → o ≡ plans.feed feed notes items → AreOpen (feeds_of arms) feed) →
    Within (arms_in (answered_of o)) arms × AreAside (items_in (answered_of o))
ends_well plans.unsent arms are = (no_arms arms, tt)
ends_well (plans.atom d) arms are = (no_arms arms, tt)
ends_well (plans.grouped gs) arms are = (no_arms arms, tt)
ends_well (plans.sequence ds) arms are = (no_arms arms, tt)
ends_well (plans.feed feed notes items) arms are = (all_within feed arms (are feed notes items refl), all_aside (map arm_of feed) items)
ends_well (plans.stop plans.memory) arms are = (no_arms arms, tt)
ends_well (plans.stop (plans.fault (query_logic t))) arms are = (no_arms arms, tt)
ends_well (plans.stop (plans.fault (non_existence t))) arms are = (no_arms arms, tt)
ends_well (plans.stop (plans.fault (resource_limit t))) arms are = (no_arms arms, tt)
ends_well (plans.stop (plans.fault (op_failed t))) arms are = (no_arms arms, tt)
ends_well (plans.stop (plans.fault (user t))) arms are = (no_arms arms, tt)
ends_well (plans.stop (plans.fault no_text)) arms are = (no_arms arms, tt)

by_move : (m : Move) (arms feed : List Arm) (notes : List ℕ) (items : List Shown) → m ≡ Ends (Feed feed notes items) → Within (arms_in (answered_in m)) arms × AreAside (items_in (answered_in m)) → Within feed arms × AreAside items
by_move m arms feed notes items e w = subst (λ z. Within (arms_in (answered_in z)) arms × AreAside (items_in (answered_in z))) e w

asked_ends : (q : plans.Ask) (arms : List Arm) → Within (arms_in (answered_in (asked_of q))) arms × AreAside (items_in (answered_in (asked_of q)))
asked_ends plans.look_names arms = (no_arms arms, tt)
asked_ends plans.tell arms = (no_arms arms, tt)
asked_ends (plans.look k) arms = (no_arms arms, tt)
asked_ends (plans.run k o) arms = (no_arms arms, tt)
asked_ends (plans.change_names c) arms = (no_arms arms, tt)
asked_ends plans.roll arms = (no_arms arms, tt)

next_ends : (m : requests.Next) (arms : List Arm) → ((feed : List plans.Arm) (notes : List ℕ) (items : List plans.Item) → m ≡ requests.answered (plans.feed feed notes items) → AreOpen (feeds_of arms) feed) →
    Within (arms_in (answered_in (move_of m))) arms × AreAside (items_in (answered_in (move_of m)))
next_ends (requests.answered o) arms are = ends_well o arms (λ feed notes items e. are feed notes items (ap requests.answered e))
next_ends (requests.moves q) arms are = asked_ends q arms

-- what is owed by what is open where a plan ends
apart_same : (arms : List Arm) → apart_feeds (feeds_of arms) ≡ are_apart arms
apart_same [] = refl
apart_same (a ∷ arms) = λ i. not (has_same a.slot a.feed arms i) && apart_same arms i

feeds_same : (feed : List plans.Arm) → feeds_of (map arm_of feed) ≡ feeds_in feed
feeds_same [] = refl
feeds_same (a ∷ feed) = ap (λ z. (a.slot, a.feed) ∷ z) (feeds_same feed)

some_same : (feed : List plans.Arm) → length (map arm_of feed) ≡ length feed
some_same [] = refl
some_same (a ∷ feed) = ap suc (some_same feed)

no_feeds : (arms : List Arm) → feeds_of arms ≡ [] → arms ≡ []
no_feeds [] e = refl
no_feeds (a ∷ arms) e = absurd (cc (e))

is_whole : (feed : List plans.Arm) (arms : List Arm) → TellsAll (feeds_of arms) feed → IsWhole (map arm_of feed) arms
is_whole feed arms t = record {
  all = feeds_same feed ∙ t.all;
  apart = sym (apart_same (map arm_of feed)) ∙ ap apart_feeds (feeds_same feed ∙ t.all) ∙ t.apart;
  some = subst (λ n. 0 < n) (sym (some_same feed)) t.some;
}

abbrev Owed : List Arm → Answered → Type 0
Owed arms (Feed feed notes items) = IsWhole feed arms
Owed arms (Stream vs) = arms ≡ []
Owed arms a = Unit {0}

-- what a plan's outcome owes, by the plan's own law
pub record Pays (o : plans.Outcome) (arms : List Arm) : Type 0 where
  pub tells : (feed : List plans.Arm) (notes : List ℕ) (items : List plans.Item) → o ≡ plans.feed feed notes items → TellsAll (feeds_of arms) feed
  pub bare : (ds : List Plain) → o ≡ plans.sequence ds → feeds_of arms ≡ []

owes : (o : plans.Outcome) (arms : List Arm) → Pays o arms → Owed arms (answered_of o)
owes plans.unsent arms pays = tt
owes (plans.atom d) arms pays = tt
owes (plans.grouped gs) arms pays = tt
owes (plans.sequence ds) arms pays = no_feeds arms (pays.bare ds refl)
owes (plans.feed feed notes items) arms pays = is_whole feed arms (pays.tells feed notes items refl)
owes (plans.stop plans.memory) arms pays = tt
owes (plans.stop (plans.fault (query_logic t))) arms pays = tt
owes (plans.stop (plans.fault (non_existence t))) arms pays = tt
owes (plans.stop (plans.fault (resource_limit t))) arms pays = tt
owes (plans.stop (plans.fault (op_failed t))) arms pays = tt
owes (plans.stop (plans.fault (user t))) arms pays = tt
owes (plans.stop (plans.fault no_text)) arms pays = tt

asked_owes : (q : plans.Ask) (arms : List Arm) → Owed arms (answered_in (asked_of q))
asked_owes plans.look_names arms = tt
asked_owes plans.tell arms = tt
asked_owes (plans.look k) arms = tt
asked_owes (plans.run k o) arms = tt
asked_owes (plans.change_names c) arms = tt
asked_owes plans.roll arms = tt

next_owes : (m : requests.Next) (arms : List Arm) → ((o : plans.Outcome) → m ≡ requests.answered o → Pays o arms) → Owed arms (answered_in (move_of m))
next_owes (requests.answered o) arms pays = owes o arms (pays o refl)
next_owes (requests.moves q) arms pays = asked_owes q arms

-- where each end is without an answer, so is it as it is told
abbrev is_end : Move → Bool
is_end (Ends a) = true
is_end m = false

not_end : {A : Type 0} (m : Move) (a : Answered) → is_end m ≡ false → m ≡ Ends a → A
not_end m a h e = absurd (true≢false (sym (ap is_end e) ∙ h))

asked_quiet : (q : plans.Ask) (a : Answered) → asked_of q ≡ Ends a → a ≡ Unsent
asked_quiet plans.look_names a e = not_end (asked_of plans.look_names) a refl e
asked_quiet plans.tell a e = not_end (asked_of plans.tell) a refl e
asked_quiet (plans.look k) a e = not_end (asked_of (plans.look k)) a refl e
asked_quiet (plans.run k o) a e = not_end (asked_of (plans.run k o)) a refl e
asked_quiet (plans.change_names c) a e = not_end (asked_of (plans.change_names c)) a refl e
asked_quiet plans.roll a e = not_end (asked_of plans.roll) a refl e

next_quiet : (m : requests.Next) (a : Answered) → ((o : plans.Outcome) → m ≡ requests.answered o → o ≡ plans.unsent) → move_of m ≡ Ends a → a ≡ Unsent
next_quiet (requests.answered o) a none e = sym (ap answered_in e) ∙ ap answered_of (none o refl)
next_quiet (requests.moves q) a none e = asked_quiet q a e

-- where an answer is wanted there is one
abbrev Says : Answered → Type 0
Says Unsent = ⊥
Says a = Unit {0}

says : (o : plans.Outcome) → (o ≡ plans.unsent → ⊥) → Says (answered_of o)
says plans.unsent never = never refl
says (plans.atom d) never = tt
says (plans.grouped gs) never = tt
says (plans.sequence ds) never = tt
says (plans.feed feed notes items) never = tt
says (plans.stop plans.memory) never = tt
says (plans.stop (plans.fault (query_logic t))) never = tt
says (plans.stop (plans.fault (non_existence t))) never = tt
says (plans.stop (plans.fault (resource_limit t))) never = tt
says (plans.stop (plans.fault (op_failed t))) never = tt
says (plans.stop (plans.fault (user t))) never = tt
says (plans.stop (plans.fault no_text)) never = tt

asked_says : (q : plans.Ask) → Says (answered_in (asked_of q))
asked_says plans.look_names = tt
asked_says plans.tell = tt
asked_says (plans.look k) = tt
asked_says (plans.run k o) = tt
asked_says (plans.change_names c) = tt
asked_says plans.roll = tt

next_says : (m : requests.Next) → (m ≡ requests.answered plans.unsent → ⊥) → Says (answered_in (move_of m))
next_says (requests.answered o) never = says o (λ e. never (ap requests.answered e))
next_says (requests.moves q) never = asked_says q

-- ---- what is found is heard
other_heard : (x : Found) → IsOther x → IsOtherHeard (heard_of x)
other_heard (SawNames place ns) o = tt
other_heard (Clocked m) o = tt
other_heard (SawSlot n at) o = tt
other_heard (RanSlot n r kept) o = o
other_heard (ChangedNames place r) o = tt
other_heard (Rolled bytes) o = tt

-- of a plan in a session with these limits
ends_owe : (limits : Limits) (plan : Plan) (noreply : Bool) (count : ℕ) (found : List Found) (arms : List Arm) (a : Answered) →
    comes_by limits plan noreply count found arms → moves_of limits plan noreply count found ≡ Ends a → Owed arms a
ends_owe limits plan noreply count found arms a o e =
    let s : Setting = setting_of limits noreply count in
    let hs : List plans.Heard = map heard_of found in
    subst (λ z. Owed arms (answered_in z)) e (next_owes (plan_next plan s hs) arms (λ x h. record {
      tells = λ feed notes items t. plans_mind_each_step.tells_all plan s hs (feeds_of arms) feed notes items o (h ∙ ap requests.answered t);
      bare = λ ds t. plans_mind_each_step.bare plan s hs (feeds_of arms) ds o (h ∙ ap requests.answered t);
    }))

pub plans_are_told : (keys : Keys) (limits : Limits) → PlansMind (talk keys limits) (comes_by limits)
plans_are_told keys limits = record {
  begins = λ plan noreply count. plans_mind_each_step.begins plan (setting_of limits noreply count);
  runs = λ plan noreply count found arms slot order reply kept o e.
      let s : Setting = setting_of limits noreply count in
      let hs : List plans.Heard = map heard_of found in
      let step : MayRun (feeds_of arms) slot order.cmd × Comes plan s (hs ++ plans.ran reply kept ∷ []) (with_reply slot order.cmd reply.said (feeds_of arms)) =
      plans_mind_each_step.runs plan s hs (feeds_of arms) slot order (plans.ran reply kept) o (run_back (plan_next plan s hs) slot order e) in (
        may_same slot order.cmd arms step.0,
        subst (λ z. Comes plan s z (feeds_of (arms_after slot order.cmd reply.said arms))) (sym (map_one heard_of found (RanSlot slot reply kept)))
            (subst (λ z. Comes plan s (hs ++ plans.ran reply kept ∷ []) z) (after_same slot order.cmd reply.said arms) step.1),
      );
  finds = λ plan noreply count found arms x o other.
      subst (λ z. Comes plan (setting_of limits noreply count) z (feeds_of arms)) (sym (map_one heard_of found x))
      (plans_mind_each_step.finds plan (setting_of limits noreply count) (map heard_of found) (feeds_of arms) (heard_of x) o (other_heard x other));
  ends = λ plan noreply count found arms feed notes items o e.
      by_move (moves_of limits plan noreply count found) arms feed notes items e
      (next_ends (plan_next plan (setting_of limits noreply count) (map heard_of found)) arms
      (λ fs ns is h. plans_mind_each_step.tells plan (setting_of limits noreply count) (map heard_of found) (feeds_of arms) fs ns is o h));
  whole = λ plan noreply count found arms feed notes items o e. ends_owe limits plan noreply count found arms (Feed feed notes items) o e;
  bare = λ plan noreply count found arms vs o e. ends_owe limits plan noreply count found arms (Stream vs) o e;
  quiet = λ plan count found a e.
      next_quiet (plan_next plan (setting_of limits true count) (map heard_of found)) a (λ o h. plans_mind_each_step.quiet plan (setting_of limits true count) (map heard_of found) o refl h) e;
  loud = λ plan count found e.
      subst (λ z. Says (answered_in z)) e (next_says (plan_next plan (setting_of limits false count) (map heard_of found))
      (λ h. absurd (true≢false (sym (unsent_only_with_noreply plan (setting_of limits false count) (map heard_of found) h)))));
}
