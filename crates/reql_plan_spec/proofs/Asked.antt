-- That a plan asks its slots for the feeds of its CHANGES, in their order, and for no others.
use Rattle.std.proofs.Common.{◌≡◌, ℕ, ℤ, List, [], ◌∷◌, ◌++◌, map, filter, Option, Some, None, option_and_then, Bool, true, false, ◌&&◌, ◌||◌, cond, nat_eq, ◌⊎◌, inl, inr, Ok, Err, refl, sym, ap, subst, ◌∙◌}
use Rattle.reql_datum.specs.Answer.{Answer, Reason}
use Rattle.reql_datum.specs.Whole.{is_in}
use Rattle.reql_datum.specs.declared.whole.NumFault.TheVariants.{OverRange}
use Rattle.reql_rewrite.specs.Rewrite.{rewritten}
use Rattle.reql_rules.specs.Faults.{no_index, number_fault}
use Rattle.reql_term.specs.Form.{Form, literal, several, keyed, variable, implicit, function, slot, operation, Forms, NamedForms}
use Rattle.reql_term.specs.Table.{task_of}
use Rattle.reql_term.specs.Views.{Document}
use Rattle.reql_term.specs.declared.op.Op.{Op}
use Rattle.reql_term.specs.declared.op.Op.TheVariants as op
use Rattle.reql_term.specs.declared.role.Task.{Task}
use Rattle.reql_term.specs.declared.role.Task.TheVariants as task
use Rattle.reql_faults.specs.Faults.{plan_fault}
use Rattle.reql_catalog.specs.Catalog.{Named}
use Rattle.reql_naming.specs.Named.{resolved}
use Rattle.reql_table_machine_spec.specs.declared.command.Said.TheVariants as said
use Rattle.reql_table_spec.specs.Indexes.{Indexes}
use Rattle.reql_table_spec.specs.Machine.{Seen}
use Rattle.reql_table_spec.specs.Replies.{Answered as Reply}
use Rattle.reql_table_spec.specs.declared.command.Cmd.{Cmd}
use Rattle.reql_table_spec.specs.declared.command.Cmd.TheVariants as cmds
use Rattle.reql_table_spec.specs.declared.command.FeedSpec.{FeedSpec}
use Rattle.reql_table_spec.specs.declared.command.Order.{Order}
use Rattle.reql_table_spec.specs.declared.reply.Saved.{Saved}
use Rattle.reql_table_spec.specs.declared.reply.Saved.TheVariants as saved
use Rattle.reql_table_spec.proofs.Closed.{same_ok}
use Rattle.reql_plan_spec.specs.declared.parts.Opening.{Opening}
use Rattle.reql_plan_spec.specs.declared.parts.Plan.{Plan}
use Rattle.reql_plan_spec.specs.declared.parts.Setting.{Setting}
use Rattle.reql_plan_spec.specs.Asked.{asks_along, opens_feed, asks_feed, feeds_asked, clock, is_clocked, read_from, Changing, new_number, opened_as, once_opened, reached, asked_for, FeedsAreAskedInTurn, AsksForItsOwn, NoOtherFeedsAreAsked, unanswered, IsOfItsTerm, EachIsOfItsTerm, AreOpened, EndsWithItsOwn, FeedsEndWithTheirOwn}
use Rattle.reql_plan_spec.specs.Course.{Open, first_items, notes_of, arm_of, lost, moment_heard, seen_at, seen_heard, looks, name_or_empty, closing, is_among, opened_by, opened_if, open_heard, subscribed, opens, changes, has_room, shown, any_command, by_task, carried, branched, held, read, timed, at_moment, resolving, course, sent, order_of, names_heard}
use Rattle.reql_plan_spec.specs.Feeding.{Told, Feeding, feeding}
use Rattle.reql_plan_spec.specs.Held.{Held, Read, nothing_read, with_view, dropped}
use Rattle.reql_plan_spec.specs.Minds.{Feeds, has_feed}
use Rattle.reql_plan_spec.specs.Move.{Ask, look_names, tell, look, run, Replied, Heard, names, told, looked, ran, changed, rolled, Arm, Item, Outcome, unsent, atom, grouped, sequence, feed, stop}
use Rattle.reql_plan_spec.specs.Opens.{is_asked, at_time}
use Rattle.reql_plan_spec.specs.Reads.{has_now, leaks, now_rule, read_slots}
use Rattle.reql_plan_spec.specs.Request.{Request, ends, asks, request, give, refuse, from, Next, answered, moves, next}
use Rattle.reql_plan_spec.specs.Texts.{undetermined, too_many_cursors, too_many_feeds, history_full}
use Rattle.reql_plan_spec.specs.Theirs.{terms_of, IsItsOwn, AreTheirOwn}
use Rattle.reql_plan_spec.proofs.Carried.{Sound, AreBelow, SoundBy, resolved_sound, time_sound}
use Rattle.reql_plan_spec.proofs.Opens.{IsFollowed, Follows, EndsBy, Always, gives_cond, keeps_wrote, keeps_for_each, keeps_catalogue, keeps_table, keeps_closing, keeps_shown, keeps_branched}
use Rattle.reql_plan_spec.proofs.Theirs.{openings_are_theirs}

-- ---- what a request asks along these answers
abbrev along : Request → List Heard → List Ask
along (ends o) hs = []
along (asks q on) [] = q ∷ []
along (asks q on) (h ∷ hs) = q ∷ along (on h) hs

-- and the feeds among that
abbrev feeds_in : Request → List Heard → List Ask
feeds_in r hs = filter asks_feed (along r hs)

along_sent : (s : Setting) (r : Request) (hs : List Heard) → asks_along (λ gs. sent s (next r gs)) hs ≡ along r hs
along_sent s (ends o) [] = refl
along_sent s (ends o) (h ∷ hs) = along_sent s (ends o) hs
along_sent s (asks q on) [] = refl
along_sent s (asks q on) (h ∷ hs) = ap (λ qs. q ∷ qs) (along_sent s (on h) hs)

asked_by_plan : (p : Plan) (s : Setting) (hs : List Heard) → feeds_asked p s hs ≡ feeds_in (request (course p s)) hs
asked_by_plan p s hs = ap (filter asks_feed) (along_sent s (request (course p s)) hs)

-- a move that asks for none
skips_feed : (q : Ask) (on : Heard → Request) (h : Heard) (hs : List Heard) → asks_feed q ≡ false → feeds_in (asks q on) (h ∷ hs) ≡ feeds_in (on h) hs
skips_feed q on h hs none = ap (λ b. cond b (q ∷ feeds_in (on h) hs) (feeds_in (on h) hs)) none

-- ---- a request that never asks for a feed, and ends with none
abbrev Never : ℕ → FeedSpec → Type 0
Never n spec = ⊥

abbrev Quiet : Request → Type 0
Quiet r = Always Never ⊥ r

no_feed_by : (n : ℕ) (c : Cmd) → IsFollowed Never ⊥ n c → opens_feed c ≡ false
no_feed_by n (cmds.Subscribe spec) f = absurd f
no_feed_by n c f = refl

no_feed : (q : Ask) → Follows Never ⊥ q → asks_feed q ≡ false
no_feed (run n order) f = no_feed_by n order.cmd f
no_feed q f = refl

quiet_along : (r : Request) (hs : List Heard) → Quiet r → feeds_in r hs ≡ []
quiet_along (ends o) hs a = refl
quiet_along (asks q on) [] a = ap (λ b. cond b (q ∷ []) []) (no_feed q a.0)
quiet_along (asks q on) (h ∷ hs) a = skips_feed q on h hs (no_feed q a.0) ∙ quiet_along (on h) hs (a.1 h)

-- what comes next of a request is no feed that is told
abbrev NoFeed : Next → Type 0
NoFeed (answered (feed arms notes items)) = ⊥
NoFeed x = Unit {0}

no_end : (o : Outcome) → EndsBy Never ⊥ o → NoFeed (answered o)
no_end (feed arms notes items) e = absurd e
no_end unsent e = tt
no_end (atom d) e = tt
no_end (grouped gs) e = tt
no_end (sequence ds) e = tt
no_end (stop why) e = tt

quiet_end : (r : Request) (hs : List Heard) → Quiet r → NoFeed (next r hs)
quiet_end (ends o) hs a = no_end o a
quiet_end (asks q on) [] a = tt
quiet_end (asks q on) (h ∷ hs) a = quiet_end (on h) hs (a.1 h)

-- both: what it asked for, and what comes next
abbrev seen_of : Request → List Heard → List Ask × Next
seen_of r hs = (feeds_in r hs, next r hs)

skips_both : (q : Ask) (on : Heard → Request) (h : Heard) (hs : List Heard) → asks_feed q ≡ false → seen_of (asks q on) (h ∷ hs) ≡ seen_of (on h) hs
skips_both q on h hs none = ap (λ qs. (qs, next (on h) hs)) (skips_feed q on h hs none)

abbrev Silent : List Ask × Next → Type 0
Silent x = (x.0 ≡ []) × NoFeed x.1

quiet_silent : (r : Request) (hs : List Heard) → Quiet r → Silent (seen_of r hs)
quiet_silent r hs a = (quiet_along r hs a, quiet_end r hs a)

silent_as : (x y : List Ask × Next) → x ≡ y → Silent y → Silent x
silent_as x y same is = subst Silent (sym same) is

-- ---- the feeds of CHANGES in turn
abbrev pub held_of : List Open → Feeds
held_of os = map (λ (o : Open). (o.slot, o.feed)) os

pub held_with : (os : List Open) (k : Open) → held_of os ++ (k.slot, k.feed) ∷ [] ≡ held_of (os ++ k ∷ [])
held_with [] k = refl
held_with (o ∷ os) k = ap (λ z. (o.slot, o.feed) ∷ z) (held_with os k)

pub among_held : (n number : ℕ) (os : List Open) → is_among n number os ≡ has_feed n number (held_of os)
among_held n number [] = refl
among_held n number (o ∷ os) = ap (λ b. (nat_eq o.slot n && nat_eq o.feed number) || b) (among_held n number os)

module _ (e : Held) where
  abbrev all_for : List Opening → List Ask
  all_for os = map (asked_for e) os

  -- after the answer to one of them, where it goes on by each feed that it could open
  module _ (before : List Open) (o : Opening) (os : List Opening) (hs : List Heard) (on : Open → Request)
      (more : (k : Open) → feeds_in (on k) hs ≡ all_for (reached (held_of (before ++ k ∷ [])) os hs)) where
    abbrev rest : Option ℕ → List Ask
    rest number = all_for (once_opened number (λ n. reached (held_of before ++ (o.slot, n) ∷ []) os hs))

    opened_asks : (k : Open) → k.slot ≡ o.slot → (b : Bool) → feeds_in (cond b lost (give k) on) hs ≡ rest (cond b None (Some k.feed))
    opened_asks k at true = refl
    opened_asks k at false = more k ∙ ap (λ fs. all_for (reached fs os hs)) (sym (held_with before k)) ∙ ap (λ n. all_for (reached (held_of before ++ (n, k.feed) ∷ []) os hs)) at

    said_asks : (stamp : ℕ) (s : Replied) → feeds_in (opened_by e before o stamp s on) hs ≡ rest (new_number (held_of before) o.slot s)
    said_asks stamp (said.Opened number items) =
        let k : Open = record { slot = o.slot; feed = number; stamp = stamp; opening = items } in
        opened_asks k refl (is_among o.slot number before) ∙ ap (λ b. rest (cond b None (Some number))) (among_held o.slot number before)
    said_asks stamp said.IndexMissing = quiet_along _ hs (keeps_closing Never ⊥ e (no_index (name_or_empty o.spec.index)) before on)
    said_asks stamp (said.FeedsFull count) = quiet_along _ hs (keeps_closing Never ⊥ e too_many_feeds before on)
    said_asks stamp (said.HistoryFull count) = quiet_along _ hs (keeps_closing Never ⊥ e history_full before on)
    said_asks stamp said.Gone = quiet_along _ hs (keeps_closing Never ⊥ e (dropped e.names o.slot) before on)
    said_asks stamp (said.Done x) = refl
    said_asks stamp said.Changed = refl
    said_asks stamp said.IndexExists = refl
    said_asks stamp (said.Batch skipped last items) = refl
    said_asks stamp said.Nothing = refl
    said_asks stamp (said.FeedUnknown f) = refl
    said_asks stamp said.Closed = refl

    kept_asks : (r : Reply) (v : Saved) → feeds_in (opened_if e before o r v on) hs ≡ rest (opened_as (held_of before) o.slot (ran r v))
    kept_asks r saved.Yes = said_asks r.stamp r.said
    kept_asks r saved.Failed = refl
    kept_asks r saved.Memory = refl

    heard_asks : (h : Heard) → feeds_in (open_heard e before o h on) hs ≡ rest (opened_as (held_of before) o.slot h)
    heard_asks (names ns) = refl
    heard_asks (told m) = refl
    heard_asks (looked at) = refl
    heard_asks (ran r v) = kept_asks r v
    heard_asks (changed r) = refl
    heard_asks (rolled bytes) = refl

  subscribed_asks : (before : List Open) (os : List Opening) (out : List Open → Outcome) (hs : List Heard)
      → feeds_in (subscribed e before os (λ ks. ends (out ks))) hs ≡ all_for (reached (held_of before) os hs)
  subscribed_asks before [] out hs = refl
  subscribed_asks before (o ∷ os) out [] = refl
  subscribed_asks before (o ∷ os) out (h ∷ hs) = ap (λ qs. asked_for e o ∷ qs)
      (heard_asks before o os hs (λ k. subscribed e (before ++ k ∷ []) os (λ ks. ends (out ks))) (λ k. subscribed_asks (before ++ k ∷ []) os out hs) h)

  -- what is told of them, where all are open
  abbrev pub told_of : Feeding → List Open → Outcome
  told_of f ks = feed (map (arm_of e) ks) (notes_of f) (first_items f.told ks)

  opens_asks : (f : Feeding) (hs : List Heard) → feeds_in (opens e f ends) hs ≡ all_for (reached [] f.openings hs)
  opens_asks f hs = subscribed_asks [] f.openings (told_of f) hs

  -- where it may open them
  abbrev pub if_room : Bool → Feeding → Request
  if_room b f = cond b (opens e f) (refuse too_many_cursors) ends

  abbrev pub if_wanted : Bool → Feeding → Request
  if_wanted b f = cond b (give unsent) (cond (has_room e.setting) (opens e f) (refuse too_many_cursors)) ends

abbrev when_free : Plan → Setting → Named → Form → Bool → Request
when_free p s ns f b = cond b (refuse undetermined) (give f) (λ g. at_moment p s ns g ends)

-- ---- what is so of a request as it goes on, whatever moves it made that ask for no feed
module _ {X : Type 0} (F : Request → List Heard → X)
    (skips : (q : Ask) (on : Heard → Request) (h : Heard) (hs : List Heard) → asks_feed q ≡ false → F (asks q on) (h ∷ hs) ≡ F (on h) hs) where
  -- the snapshots
  module _ (ns : Named) (on : Read → Request) (read : Read) (replies : List Heard) where
    same_read : (r : Read) → Some r ≡ Some read → r ≡ read
    same_read r h = cc

    sees_on : (r : Read) (n : ℕ) (slots : List ℕ) (at : Seen) (hs : List Heard) (o : Option (List Document × Indexes)) (more : (List Document × Indexes) → Option Read)
        → ((found : List Document × Indexes) → more found ≡ Some read → F (looks ns (with_view ns r n at found) slots on) hs ≡ F (on read) replies)
        → option_and_then more o ≡ Some read → F (seen_at ns r n at o (λ s. looks ns s slots on)) hs ≡ F (on read) replies
    sees_on r n slots at hs None more goes h = absurd (cc (h))
    sees_on r n slots at hs (Some found) more goes h = goes found h

    pub looks_on : (r : Read) (slots : List ℕ) (seen : List Seen) → read_from ns r slots seen ≡ Some read → F (looks ns r slots on) (map looked seen ++ replies) ≡ F (on read) replies
    looks_on r [] [] h = ap (λ x. F (on x) replies) (same_read r h)
    looks_on r (n ∷ slots) (at ∷ seen) h =
        skips (look n) (λ x. seen_heard ns r n x (λ s. looks ns s slots on)) (looked at) (map looked seen ++ replies) refl
        ∙ sees_on r n slots at (map looked seen ++ replies) at.view (λ found. read_from ns (with_view ns r n at found) slots seen)
        (λ found. looks_on (with_view ns r n at found) slots seen) h
    looks_on r [] (at ∷ seen) h = absurd (cc (h))
    looks_on r (n ∷ slots) [] h = absurd (cc (h))

  -- the moment
  module _ (p : Plan) (s : Setting) (ns : Named) (f g : Form) (hs : List Heard) where
    abbrev then_read : Form → Request
    then_read x = read p s ns x ends

    abbrev with_moment : ℤ → Request
    with_moment n = from (rewritten (now_rule n) f) then_read

    pub clocked_on : (b : Bool) (moment : Option ℤ) → is_clocked b moment ≡ true → at_time moment f ≡ Ok g
        → F (cond b (timed p s ns f) (read p s ns f) ends) (clock moment ++ hs) ≡ F (then_read g) hs
    clocked_on true (Some n) c h =
        skips tell (λ x. moment_heard x with_moment) (told (Some n)) hs refl
        ∙ ap (λ b. F (cond b (give n) (refuse (number_fault OverRange)) with_moment) hs) c
        ∙ ap (λ a. F (from a then_read) hs) h
    clocked_on false None c h = ap (λ x. F (then_read x) hs) (same_ok f g h)
    clocked_on true None c h = absurd (cc (c))
    clocked_on false (Some n) c h = absurd (cc (c))

  -- the names
  module _ (p : Plan) (s : Setting) (ns : Named) where
    pub resolved_on : (f : Form) (hs : List Heard) → resolved ns p.db p.term ≡ Ok f → leaks false f ≡ false → F (resolving p s ns ends) hs ≡ F (at_moment p s ns f ends) hs
    resolved_on f hs same free =
        ap (λ a. F (from a (λ x. when_free p s ns x (leaks false x))) hs) same
        ∙ ap (λ b. F (when_free p s ns f b) hs) free

  -- and the feeds, where it may open them
  changes_on : (e : Held) (fs : Forms) (ms : NamedForms) (f : Feeding) (hs : List Heard) → feeding e fs ms ≡ Ok f → e.setting.noreply ≡ false → has_room e.setting ≡ true
      → F (changes e fs ms ends) hs ≡ F (opens e f ends) hs
  changes_on e fs ms f hs found wanted room =
      ap (λ a. F (from a (if_wanted e e.setting.noreply)) hs) found
      ∙ ap (λ b. F (if_wanted e b f) hs) wanted
      ∙ ap (λ b. F (if_room e b f) hs) room

  pub comes_to_feeds : (p : Plan) (s : Setting) (hs : List Heard) (c : Changing p s hs) → F (request (course p s)) hs ≡ F (opens (held p s c.known c.read) c.feeds ends) c.replies
  comes_to_feeds p s hs c =
      let g : Form = operation op.Changes c.arguments c.options in
      let seen : List Heard = map looked c.seen ++ c.replies in
      ap (F (request (course p s))) c.heard
      ∙ skips look_names (λ h. names_heard h (λ ns. resolving p s ns ends)) (names c.known) (clock c.moment ++ seen) refl
      ∙ resolved_on p s c.known c.term (clock c.moment ++ seen) c.looked_up c.free
      ∙ clocked_on p s c.known c.term g seen (has_now c.term) c.moment c.clocked c.carried
      ∙ looks_on c.known (λ r. carried (held p s c.known r) g ends) c.read c.replies nothing_read (read_slots g) c.seen c.sees
      ∙ changes_on (held p s c.known c.read) c.arguments c.options c.feeds c.replies c.found c.wanted c.room

pub feeds_are_asked_in_turn : FeedsAreAskedInTurn
feeds_are_asked_in_turn p s hs c = asked_by_plan p s hs ∙ comes_to_feeds feeds_in skips_feed p s hs c ∙ opens_asks (held p s c.known c.read) c.feeds c.replies

-- ---- a plan that asks for none and ends with none, or comes to the feeds of a CHANGES

-- the snapshots are heard, one after another, or it asks for none
module _ (ns : Named) (on : Read → Request) where
  pub record Seeing (r : Read) (slots : List ℕ) (hs : List Heard) : Type 0 where
    pub seen : List Seen
    pub replies : List Heard
    pub read : Read
    pub heard : hs ≡ map looked seen ++ replies
    pub sees : read_from ns r slots seen ≡ Some read

  abbrev LooksOr : Read → List ℕ → List Heard → Type 0
  LooksOr r slots hs = Silent (seen_of (looks ns r slots on) hs) ⊎ Seeing r slots hs

  one_more : (r : Read) (n : ℕ) (slots : List ℕ) (at : Seen) (hs : List Heard) (found : List Document × Indexes) → at.view ≡ Some found → Seeing (with_view ns r n at found) slots hs
      → Seeing r (n ∷ slots) (looked at ∷ hs)
  one_more r n slots at hs found same x = record {
    seen = at ∷ x.seen;
    replies = x.replies;
    read = x.read;
    heard = ap (λ gs. looked at ∷ gs) x.heard;
    sees = ap (option_and_then (λ v. read_from ns (with_view ns r n at v) slots x.seen)) same ∙ x.sees;
  }

  seen_or : (r : Read) (n : ℕ) (slots : List ℕ) (at : Seen) (hs : List Heard) (o : Option (List Document × Indexes)) → at.view ≡ o
      → ((found : List Document × Indexes) → LooksOr (with_view ns r n at found) slots hs)
      → Silent (seen_of (seen_at ns r n at o (λ s. looks ns s slots on)) hs) ⊎ Seeing r (n ∷ slots) (looked at ∷ hs)
  seen_or r n slots at hs None same more = inl (refl, tt)
  seen_or r n slots at hs (Some found) same more = elim (more found) [
    | inl none ↦ inl none
    | inr x ↦ inr (one_more r n slots at hs found same x)
  ]

  looks_or : (r : Read) (slots : List ℕ) (hs : List Heard) → LooksOr r slots hs
  looks_or r [] hs = inr (record { seen = []; replies = hs; read = r; heard = refl; sees = refl })
  looks_or r (n ∷ slots) [] = inl (refl, tt)
  looks_or r (n ∷ slots) (looked at ∷ hs) = seen_or r n slots at hs at.view refl (λ found. looks_or (with_view ns r n at found) slots hs)
  looks_or r (n ∷ slots) (names x ∷ hs) = inl (refl, tt)
  looks_or r (n ∷ slots) (told x ∷ hs) = inl (refl, tt)
  looks_or r (n ∷ slots) (ran x v ∷ hs) = inl (refl, tt)
  looks_or r (n ∷ slots) (changed x ∷ hs) = inl (refl, tt)
  looks_or r (n ∷ slots) (rolled x ∷ hs) = inl (refl, tt)

-- the moment is heard where it is asked for, or it asks for none
module _ (p : Plan) (s : Setting) (ns : Named) (f : Form) where
  pub record Timing (b : Bool) (hs : List Heard) : Type 0 where
    pub moment : Option ℤ
    pub rest : List Heard
    pub term : Form
    pub heard : hs ≡ clock moment ++ rest
    pub clocked : is_clocked b moment ≡ true
    pub carried : at_time moment f ≡ Ok term

  moment_or : (n : ℤ) (hs : List Heard) (b : Bool) (a : Answer Form) → is_in n ≡ b → rewritten (now_rule n) f ≡ a
      → Silent (seen_of (cond b (give n) (refuse (number_fault OverRange)) (λ m. from (rewritten (now_rule m) f) (λ g. read p s ns g ends))) hs) ⊎ Timing true (told (Some n) ∷ hs)
  moment_or n hs false a c h = inl (refl, tt)
  moment_or n hs true (Err why) c h = inl (silent_as _ _ (ap (λ x. seen_of (from x (λ g. read p s ns g ends)) hs) h) (refl, tt))
  moment_or n hs true (Ok g) c h = inr (record { moment = Some n; rest = hs; term = g; heard = refl; clocked = c; carried = h })

  clock_or : (b : Bool) (hs : List Heard) → Silent (seen_of (cond b (timed p s ns f) (read p s ns f) ends) hs) ⊎ Timing b hs
  clock_or false hs = inr (record { moment = None; rest = hs; term = f; heard = refl; clocked = refl; carried = refl })
  clock_or true [] = inl (refl, tt)
  clock_or true (told (Some n) ∷ hs) = moment_or n hs (is_in n) (rewritten (now_rule n) f) refl refl
  clock_or true (told None ∷ hs) = inl (refl, tt)
  clock_or true (names x ∷ hs) = inl (refl, tt)
  clock_or true (looked x ∷ hs) = inl (refl, tt)
  clock_or true (ran x v ∷ hs) = inl (refl, tt)
  clock_or true (changed x ∷ hs) = inl (refl, tt)
  clock_or true (rolled x ∷ hs) = inl (refl, tt)

-- what stands at the root is CHANGES, or asks for none
module _ (e : Held) (hs : List Heard) where
  pub record Following (f : Form) : Type 0 where
    pub arguments : Forms
    pub options : NamedForms
    pub is : f ≡ operation op.Changes arguments options
    pub feeds : Feeding
    pub found : feeding e arguments options ≡ Ok feeds
    pub wanted : e.setting.noreply ≡ false
    pub room : has_room e.setting ≡ true

  abbrev Or : Request → Form → Type 0
  Or r f = Silent (seen_of r hs) ⊎ Following f

  quiet_or : (r : Request) (f : Form) → Quiet r → Or r f
  quiet_or r f q = inl (quiet_silent r hs q)

  room_or : (fs : Forms) (ms : NamedForms) (x : Feeding) (b : Bool) → feeding e fs ms ≡ Ok x → e.setting.noreply ≡ false → has_room e.setting ≡ b
      → Or (if_room e b x) (operation op.Changes fs ms)
  room_or fs ms x false found wanted room = inl (refl, tt)
  room_or fs ms x true found wanted room = inr (record { arguments = fs; options = ms; is = refl; feeds = x; found = found; wanted = wanted; room = room })

  wanted_or : (fs : Forms) (ms : NamedForms) (x : Feeding) (b : Bool) → feeding e fs ms ≡ Ok x → e.setting.noreply ≡ b
      → Or (if_wanted e b x) (operation op.Changes fs ms)
  wanted_or fs ms x true found wanted = inl (refl, tt)
  wanted_or fs ms x false found wanted = room_or fs ms x (has_room e.setting) found wanted refl

  found_or : (fs : Forms) (ms : NamedForms) (a : Answer Feeding) → feeding e fs ms ≡ a → Or (from a (if_wanted e e.setting.noreply)) (operation op.Changes fs ms)
  found_or fs ms (Err why) found = inl (refl, tt)
  found_or fs ms (Ok x) found = wanted_or fs ms x e.setting.noreply found refl

  feed_or : (o : Op) (fs : Forms) (ms : NamedForms) → task_of o ≡ task.Feed → Or (changes e fs ms ends) (operation o fs ms)
  feed_or op.Changes fs ms t = found_or fs ms (feeding e fs ms) refl
  feed_or o fs ms t = absurd (cc (t))

  task_or : (t : Task) (o : Op) (fs : Forms) (ms : NamedForms) → task_of o ≡ t → SoundBy t true fs (AreBelow fs) → Or (by_task e t o fs ms (branched e fs) ends) (operation o fs ms)
  task_or task.Value o fs ms t is = quiet_or _ _ (keeps_shown Never ⊥ e (operation o fs ms) ends (λ x y. y))
  task_or task.Branch o fs ms t is = quiet_or _ _ (gives_cond Never ⊥ (any_command fs) (branched e fs) (shown e (operation o fs ms)) (keeps_branched Never ⊥ e fs is) (keeps_shown Never ⊥ e (operation o fs ms)) ends (λ x y. y))
  task_or task.ForEach o fs ms t is = quiet_or _ _ (keeps_for_each Never ⊥ e fs ends (λ x y. y))
  task_or task.Write o fs ms t is = quiet_or _ _ (keeps_wrote Never ⊥ e (operation o fs ms) ends (λ x y. y))
  task_or task.Catalogue o fs ms t is = quiet_or _ _ (keeps_catalogue Never ⊥ e o fs ms ends (λ x y. y))
  task_or task.Index o fs ms t is = quiet_or _ _ (keeps_table Never ⊥ e o fs ms ends (λ x y. y))
  task_or task.Sync o fs ms t is = quiet_or _ _ (keeps_table Never ⊥ e o fs ms ends (λ x y. y))
  task_or task.Feed o fs ms t is = feed_or o fs ms t

  shown_or : (f : Form) → Or (shown e f ends) f
  shown_or f = quiet_or _ _ (keeps_shown Never ⊥ e f ends (λ x y. y))

  carried_or : (f : Form) → Sound f → Or (carried e f ends) f
  carried_or (literal d) is = shown_or (literal d)
  carried_or (several fs) is = shown_or (several fs)
  carried_or (keyed ms) is = shown_or (keyed ms)
  carried_or (variable n) is = shown_or (variable n)
  carried_or implicit is = shown_or implicit
  carried_or (function ids f) is = shown_or (function ids f)
  carried_or (slot n) is = shown_or (slot n)
  carried_or (operation o fs ms) is = task_or (task_of o) o fs ms refl is

-- ---- from the names on
module _ (p : Plan) (s : Setting) (ns : Named) (hs : List Heard) where
  abbrev All : Type 0
  All = AsksForItsOwn p s (names ns ∷ hs)

  module _ (f : Form) (same : resolved ns p.db p.term ≡ Ok f) (free : leaks false f ≡ false) (sound : Sound f) where
    module _ (t : Timing p s ns f (has_now f) hs) where
      abbrev on_read : Read → Request
      on_read r = carried (held p s ns r) t.term ends

      is_sound : Sound t.term
      is_sound = time_sound t.moment f t.term sound t.carried

      module _ (x : Seeing ns on_read nothing_read (read_slots t.term) t.rest) where
        whole : Following (held p s ns x.read) x.replies t.term → All
        whole w =
            let e : Held = held p s ns x.read in
            let c : Changing p s (names ns ∷ hs) = record {
              known = ns;
              moment = t.moment;
              seen = x.seen;
              replies = x.replies;
              heard = ap (λ gs. names ns ∷ gs) (t.heard ∙ ap (λ gs. clock t.moment ++ gs) x.heard);
              term = f;
              arguments = w.arguments;
              options = w.options;
              looked_up = same;
              free = free;
              clocked = t.clocked;
              carried = subst (λ g. at_time t.moment f ≡ Ok g) w.is t.carried;
              read = x.read;
              sees = subst (λ g. read_from ns nothing_read (read_slots g) x.seen ≡ Some x.read) w.is x.sees;
              feeds = w.feeds;
              found = w.found;
              wanted = w.wanted;
              room = w.room;
            } in
            record { changes = c; asked = feeds_are_asked_in_turn p s (names ns ∷ hs) c; own = openings_are_theirs e w.arguments w.options w.feeds (subst Sound w.is is_sound) w.found }

        seen_asks : seen_of (read p s ns t.term ends) t.rest ≡ seen_of (on_read x.read) x.replies
        seen_asks = ap (seen_of (read p s ns t.term ends)) x.heard ∙ looks_on seen_of skips_both ns on_read x.read x.replies nothing_read (read_slots t.term) x.seen x.sees

        carried_all : Silent (seen_of (read p s ns t.term ends) t.rest) ⊎ All
        carried_all = elim (carried_or (held p s ns x.read) x.replies t.term is_sound) [
          | inl none ↦ inl (silent_as _ _ seen_asks none)
          | inr w ↦ inr (whole w)
        ]

      read_all : Silent (seen_of (read p s ns t.term ends) t.rest) ⊎ All
      read_all = elim (looks_or ns on_read nothing_read (read_slots t.term) t.rest) [
        | inl none ↦ inl none
        | inr x ↦ carried_all x
      ]

      clocked_asks : seen_of (at_moment p s ns f ends) hs ≡ seen_of (read p s ns t.term ends) t.rest
      clocked_asks = ap (seen_of (at_moment p s ns f ends)) t.heard ∙ clocked_on seen_of skips_both p s ns f t.term t.rest (has_now f) t.moment t.clocked t.carried

      timed_all : Silent (seen_of (at_moment p s ns f ends) hs) ⊎ All
      timed_all = elim read_all [
        | inl none ↦ inl (silent_as _ _ clocked_asks none)
        | inr x ↦ inr x
      ]

    moment_all : Silent (seen_of (at_moment p s ns f ends) hs) ⊎ All
    moment_all = elim (clock_or p s ns f (has_now f) hs) [
      | inl none ↦ inl none
      | inr t ↦ timed_all t
    ]

  module _ (asked : is_asked p.term ≡ true) (none : plan_fault p.term ≡ None) where
    free_all : (f : Form) (b : Bool) → resolved ns p.db p.term ≡ Ok f → leaks false f ≡ b → Silent (seen_of (when_free p s ns f b) hs) ⊎ All
    free_all f true same free = inl (refl, tt)
    free_all f false same free = moment_all f same free (resolved_sound ns p.db p.term f asked none same free)

    answer_all : (a : Answer Form) → resolved ns p.db p.term ≡ a → Silent (seen_of (from a (λ f. when_free p s ns f (leaks false f))) hs) ⊎ All
    answer_all (Err why) same = inl (refl, tt)
    answer_all (Ok f) same = free_all f (leaks false f) same refl

course_all : (p : Plan) (s : Setting) (hs : List Heard) → is_asked p.term ≡ true → plan_fault p.term ≡ None
    → Silent (seen_of (request (course p s)) hs) ⊎ AsksForItsOwn p s hs
course_all p s (names ns ∷ hs) asked none = answer_all p s ns hs asked none (resolved ns p.db p.term) refl
course_all p s [] asked none = inl (refl, tt)
course_all p s (told x ∷ hs) asked none = inl (refl, tt)
course_all p s (looked x ∷ hs) asked none = inl (refl, tt)
course_all p s (ran x v ∷ hs) asked none = inl (refl, tt)
course_all p s (changed x ∷ hs) asked none = inl (refl, tt)
course_all p s (rolled x ∷ hs) asked none = inl (refl, tt)

pub no_other_feeds_are_asked : NoOtherFeedsAreAsked
no_other_feeds_are_asked p s hs asked none = elim (course_all p s hs asked none) [
  | inl h ↦ inl (asked_by_plan p s hs ∙ h.0)
  | inr x ↦ inr x
]

-- ---- each such move by itself
abbrev slot_in : Ask → ℕ
slot_in (run n order) = n
slot_in q = 0

abbrev order_in : Order → Ask → Order
order_in other (run n order) = order
order_in other q = other

same_move : (q r : Ask) → moves q ≡ moves r → q ≡ r
same_move q r h = cc

same_spec : (x y : FeedSpec) → cmds.Subscribe x ≡ cmds.Subscribe y → x ≡ y
same_spec x y h = cc

same_opening : (x y : Opening) → Some x ≡ Some y → x ≡ y
same_opening x y h = cc

is_sent : (s : Setting) (n : Next) (q : Ask) → sent s n ≡ moves q → n ≡ moves q
is_sent s (answered o) q h = absurd (cc (h))
is_sent s (moves x) q h = h

none_left : (b : Bool) (q : Ask) (qs : List Ask) → cond b (q ∷ qs) qs ≡ [] → qs ≡ []
none_left true q qs h = absurd (cc (h))
none_left false q qs h = h

module _ (q : Ask) (is : asks_feed q ≡ true) where
  -- it is among the moves that ask for one
  asked_now : (r : Request) (hs : List Heard) → next r hs ≡ moves q → feeds_in r hs ≡ [] → ⊥
  asked_now (ends o) hs h none = cc (h)
  asked_now (asks x on) [] h none = let some : x ∷ [] ≡ [] = ap (λ b. cond b (x ∷ []) []) (sym (ap asks_feed (same_move x q h) ∙ is)) ∙ none in cc
  asked_now (asks x on) (y ∷ hs) h none = asked_now (on y) hs h (none_left (asks_feed x) x (feeds_in (on y) hs) none)

  quiet_next : (r : Request) (hs : List Heard) → Quiet r → next r hs ≡ moves q → ⊥
  quiet_next r hs a h = asked_now r hs h (quiet_along r hs a)

module _ (e : Held) (q : Ask) (is : asks_feed q ≡ true) where
  -- and asks for the first feed that has no answer yet
  abbrev IsNext : List Opening → List Heard → Type 0
  IsNext os hs = (o : Opening) × (unanswered os hs ≡ Some o) × (asked_for e o ≡ q)

  module _ (before : List Open) (o : Opening) (os : List Opening) (hs : List Heard) (on : Open → Request) (more : (k : Open) → next (on k) hs ≡ moves q → IsNext os hs) where
    opened_next : (k : Open) (b : Bool) → next (cond b lost (give k) on) hs ≡ moves q → IsNext os hs
    opened_next k true h = absurd (cc (h))
    opened_next k false h = more k h

    closing_next : (why : Reason) → next (closing e why before on) hs ≡ moves q → IsNext os hs
    closing_next why h = absurd (quiet_next q is (closing e why before on) hs (keeps_closing Never ⊥ e why before on) h)

    said_next : (stamp : ℕ) (s : Replied) → next (opened_by e before o stamp s on) hs ≡ moves q → IsNext os hs
    said_next stamp (said.Opened number items) h = opened_next (record { slot = o.slot; feed = number; stamp = stamp; opening = items }) (is_among o.slot number before) h
    said_next stamp said.IndexMissing h = closing_next (no_index (name_or_empty o.spec.index)) h
    said_next stamp (said.FeedsFull count) h = closing_next too_many_feeds h
    said_next stamp (said.HistoryFull count) h = closing_next history_full h
    said_next stamp said.Gone h = closing_next (dropped e.names o.slot) h
    said_next stamp (said.Done x) h = absurd (cc (h))
    said_next stamp said.Changed h = absurd (cc (h))
    said_next stamp said.IndexExists h = absurd (cc (h))
    said_next stamp (said.Batch skipped last items) h = absurd (cc (h))
    said_next stamp said.Nothing h = absurd (cc (h))
    said_next stamp (said.FeedUnknown f) h = absurd (cc (h))
    said_next stamp said.Closed h = absurd (cc (h))

    kept_next : (r : Reply) (v : Saved) → next (opened_if e before o r v on) hs ≡ moves q → IsNext os hs
    kept_next r saved.Yes h = said_next r.stamp r.said h
    kept_next r saved.Failed h = absurd (cc (h))
    kept_next r saved.Memory h = absurd (cc (h))

    heard_next : (x : Heard) → next (open_heard e before o x on) hs ≡ moves q → IsNext os hs
    heard_next (names ns) h = absurd (cc (h))
    heard_next (told m) h = absurd (cc (h))
    heard_next (looked at) h = absurd (cc (h))
    heard_next (ran r v) h = kept_next r v h
    heard_next (changed r) h = absurd (cc (h))
    heard_next (rolled bytes) h = absurd (cc (h))

  subscribed_next : (before : List Open) (os : List Opening) (out : List Open → Outcome) (hs : List Heard)
      → next (subscribed e before os (λ ks. ends (out ks))) hs ≡ moves q → IsNext os hs
  subscribed_next before [] out hs h = absurd (cc (h))
  subscribed_next before (o ∷ os) out [] h = (o, refl, same_move (asked_for e o) q h)
  subscribed_next before (o ∷ os) out (x ∷ hs) h =
      heard_next before o os hs (λ k. subscribed e (before ++ k ∷ []) os (λ ks. ends (out ks))) (λ k. subscribed_next (before ++ k ∷ []) os out hs) x h

  opens_next : (f : Feeding) (hs : List Heard) → next (opens e f ends) hs ≡ moves q → IsNext f.openings hs
  opens_next f hs h = subscribed_next [] f.openings (told_of e f) hs h

-- whose term is at its place
module _ (e : Held) (t : Told) where
  own_next : (fs : List Form) (os : List Opening) (hs : List Heard) (o : Opening) → AreTheirOwn e t fs os → unanswered os hs ≡ Some o
      → (f : Form) × (unanswered fs hs ≡ Some f) × IsItsOwn e t f o
  own_next [] [] hs o own h = absurd (cc (h))
  own_next (f ∷ fs) (x ∷ os) [] o own h = (f, refl, subst (IsItsOwn e t f) (same_opening x o h) own.0)
  own_next (f ∷ fs) (x ∷ os) (y ∷ hs) o own h = own_next fs os hs o own.1 h
  own_next [] (x ∷ os) hs o own h = absurd own
  own_next (f ∷ fs) [] hs o own h = absurd own

module _ (p : Plan) (s : Setting) (hs : List Heard) (n : ℕ) (order : Order) (spec : FeedSpec) (is : order.cmd ≡ cmds.Subscribe spec) (goes : next (request (course p s)) hs ≡ moves (run n order)) where
  of_its_term : AsksForItsOwn p s hs → IsOfItsTerm p s hs n order spec
  of_its_term x =
      let e : Held = held p s x.changes.known x.changes.read in
      let o = opens_next e (run n order) (ap opens_feed is) x.changes.feeds x.changes.replies (sym (comes_to_feeds next (λ q on h gs none. refl) p s hs x.changes) ∙ goes) in
      let f = own_next e x.changes.feeds.told (terms_of x.changes.arguments) x.changes.feeds.openings x.changes.replies o.0 x.own.openings o.1 in
      let orders : order_of e (cmds.Subscribe o.0.spec) ≡ order = ap (order_in order) o.2 in
      let specs : o.0.spec ≡ spec = same_spec o.0.spec spec (ap (λ (z : Order). z.cmd) orders ∙ is) in
      let at : IsItsOwn e x.changes.feeds.told f.0 (record { slot = n; spec = o.0.spec }) = subst (λ m. IsItsOwn e x.changes.feeds.told f.0 (record { slot = m; spec = o.0.spec })) (ap slot_in o.2) f.2 in
      record {
        changes = x.changes;
        term = f.0;
        place = f.1;
        own = subst (λ z. IsItsOwn e x.changes.feeds.told f.0 (record { slot = n; spec = z })) specs at;
        asked = sym orders ∙ ap (λ z. order_of e (cmds.Subscribe z)) specs;
      }

pub each_is_of_its_term : EachIsOfItsTerm
each_is_of_its_term p s hs n order spec asked none h is =
    let goes = is_sent s (next (request (course p s)) hs) (run n order) h in
    elim (no_other_feeds_are_asked p s hs asked none) [
      | inl empty ↦ absurd (asked_now (run n order) (ap opens_feed is) (request (course p s)) hs goes (sym (asked_by_plan p s hs) ∙ empty))
      | inr x ↦ of_its_term p s hs n order spec is goes x
    ]

-- ---- where it ends with a feed
abbrev outcome_in : Next → Outcome
outcome_in (answered o) = o
outcome_in (moves q) = unsent

pub more_after : (A : Type 0) (xs ys : List A) (x : A) → (xs ++ x ∷ []) ++ ys ≡ xs ++ (x ∷ ys)
more_after A [] ys x = refl
more_after A (z ∷ xs) ys x = ap (λ zs. z ∷ zs) (more_after A xs ys x)

pub nothing_after : (A : Type 0) (xs : List A) → xs ++ [] ≡ xs
nothing_after A [] = refl
nothing_after A (x ∷ xs) = ap (λ zs. x ∷ zs) (nothing_after A xs)

is_answered : (s : Setting) (n : Next) (arms : List Arm) (notes : List ℕ) (items : List Item) → sent s n ≡ answered (feed arms notes items) → n ≡ answered (feed arms notes items)
is_answered s (moves q) arms notes items h = absurd (cc (h))
is_answered s (answered o) arms notes items h = by_wish s.noreply h
  where
    by_wish : (b : Bool) → answered (cond b unsent o) ≡ answered (feed arms notes items) → answered o ≡ answered (feed arms notes items)
    by_wish true e = absurd (cc (e))
    by_wish false e = e

module _ (e : Held) (out : List Open → Outcome) (arms : List Arm) (notes : List ℕ) (items : List Item) where
  abbrev then_tell : List Open → Request
  then_tell ks = ends (out ks)

  abbrev Tells : Request → List Heard → Type 0
  Tells r hs = next r hs ≡ answered (feed arms notes items)

  pub record AllOpened (before : List Open) (os : List Opening) (hs : List Heard) : Type 0 where
    pub opened : List Open
    pub each : AreOpened os hs opened
    pub all : reached (held_of before) os hs ≡ os
    pub told : out (before ++ opened) ≡ feed arms notes items

  none_told : (A : Type 0) (r : Request) (hs : List Heard) → Quiet r → Tells r hs → A
  none_told A r hs a h = absurd (subst NoFeed h (quiet_end r hs a))

  module _ (before : List Open) (o : Opening) (os : List Opening) (hs : List Heard) (more : (k : Open) → Tells (subscribed e (before ++ k ∷ []) os then_tell) hs → AllOpened (before ++ k ∷ []) os hs) where
    abbrev on_open : Open → Request
    on_open k = subscribed e (before ++ k ∷ []) os then_tell

    opened_all : (place : ℕ) (k : Open) (b : Bool) → k.slot ≡ o.slot → is_among o.slot k.feed before ≡ b → Tells (cond b lost (give k) on_open) hs
        → AllOpened before (o ∷ os) (ran (record { place = place; stamp = k.stamp; said = said.Opened k.feed k.opening }) saved.Yes ∷ hs)
    opened_all place k true at new h = absurd (cc (h))
    opened_all place k false at new h =
        let x = more k h in
        record {
          opened = k ∷ x.opened;
          each = ((place, refl, at), x.each);
          all = ap (λ qs. o ∷ qs) (
              ap (λ b. once_opened (cond b None (Some k.feed)) (λ n. reached (held_of before ++ (o.slot, n) ∷ []) os hs)) (sym (among_held o.slot k.feed before) ∙ new)
              ∙ ap (λ n. reached (held_of before ++ (n, k.feed) ∷ []) os hs) (sym at)
              ∙ ap (λ fs. reached fs os hs) (held_with before k)
              ∙ x.all);
          told = ap out (sym (more_after Open before x.opened k)) ∙ x.told;
        }

    closing_all : (x : Heard) (why : Reason) → Tells (closing e why before on_open) hs → AllOpened before (o ∷ os) (x ∷ hs)
    closing_all x why h = none_told (AllOpened before (o ∷ os) (x ∷ hs)) (closing e why before on_open) hs (keeps_closing Never ⊥ e why before on_open) h

    abbrev said_in : ℕ → ℕ → Replied → Heard
    said_in place stamp x = ran (record { place = place; stamp = stamp; said = x }) saved.Yes

    said_all : (place stamp : ℕ) (x : Replied) → Tells (opened_by e before o stamp x on_open) hs → AllOpened before (o ∷ os) (said_in place stamp x ∷ hs)
    said_all place stamp (said.Opened number items) h = opened_all place (record { slot = o.slot; feed = number; stamp = stamp; opening = items }) (is_among o.slot number before) refl refl h
    said_all place stamp said.IndexMissing h = closing_all (said_in place stamp said.IndexMissing) (no_index (name_or_empty o.spec.index)) h
    said_all place stamp (said.FeedsFull count) h = closing_all (said_in place stamp (said.FeedsFull count)) too_many_feeds h
    said_all place stamp (said.HistoryFull count) h = closing_all (said_in place stamp (said.HistoryFull count)) history_full h
    said_all place stamp said.Gone h = closing_all (said_in place stamp said.Gone) (dropped e.names o.slot) h
    said_all place stamp (said.Done x) h = absurd (cc (h))
    said_all place stamp said.Changed h = absurd (cc (h))
    said_all place stamp said.IndexExists h = absurd (cc (h))
    said_all place stamp (said.Batch skipped last items) h = absurd (cc (h))
    said_all place stamp said.Nothing h = absurd (cc (h))
    said_all place stamp (said.FeedUnknown f) h = absurd (cc (h))
    said_all place stamp said.Closed h = absurd (cc (h))

    kept_all : (r : Reply) (v : Saved) → Tells (opened_if e before o r v on_open) hs → AllOpened before (o ∷ os) (ran r v ∷ hs)
    kept_all r saved.Yes h = said_all r.place r.stamp r.said h
    kept_all r saved.Failed h = absurd (cc (h))
    kept_all r saved.Memory h = absurd (cc (h))

    heard_all : (x : Heard) → Tells (open_heard e before o x on_open) hs → AllOpened before (o ∷ os) (x ∷ hs)
    heard_all (names ns) h = absurd (cc (h))
    heard_all (told m) h = absurd (cc (h))
    heard_all (looked at) h = absurd (cc (h))
    heard_all (ran r v) h = kept_all r v h
    heard_all (changed r) h = absurd (cc (h))
    heard_all (rolled bytes) h = absurd (cc (h))

  subscribed_all : (before : List Open) (os : List Opening) (hs : List Heard) → Tells (subscribed e before os then_tell) hs → AllOpened before os hs
  subscribed_all before [] hs h = record { opened = []; each = tt; all = refl; told = ap out (nothing_after Open before) ∙ ap outcome_in h }
  subscribed_all before (o ∷ os) [] h = absurd (cc (h))
  subscribed_all before (o ∷ os) (x ∷ hs) h = heard_all before o os hs (λ k. subscribed_all (before ++ k ∷ []) os hs) x h

module _ (p : Plan) (s : Setting) (hs : List Heard) (arms : List Arm) (notes : List ℕ) (items : List Item) (goes : next (request (course p s)) hs ≡ answered (feed arms notes items)) where
  with_its_own : AsksForItsOwn p s hs → EndsWithItsOwn p s hs (feed arms notes items)
  with_its_own x =
      let e : Held = held p s x.changes.known x.changes.read in
      let a = subscribed_all e (told_of e x.changes.feeds) arms notes items [] x.changes.feeds.openings x.changes.replies (sym (comes_to_feeds next (λ q on h gs none. refl) p s hs x.changes) ∙ goes) in
      record {
        changes = x.changes;
        own = x.own;
        asked = x.asked ∙ ap (map (asked_for e)) a.all;
        opened = a.opened;
        each = a.each;
        told = sym a.told;
      }

pub feeds_end_with_their_own : FeedsEndWithTheirOwn
feeds_end_with_their_own p s hs arms notes items asked none h =
    let goes = is_answered s (next (request (course p s)) hs) arms notes items h in
    elim (course_all p s hs asked none) [
      | inl x ↦ absurd (subst NoFeed goes x.1)
      | inr x ↦ with_its_own p s hs arms notes items goes x
    ]
