-- That a plan looks at the slots that its term reads, by rising number, and at no others, and goes on over what it saw at each.
use Rattle.std.proofs.Common.{◌≡◌, ℕ, ℤ, nat_eq, nat_lt, List, [], ◌∷◌, ◌++◌, map, Option, Some, None, option_and_then, is_some, Bool, true, false, not, ◌&&◌, ◌||◌, cond, if◌then◌else◌, ◌⊎◌, inl, inr, Ok, Err, refl, sym, ap, ◌∙◌, arith}
use Rattle.std.proofs.lemmas.Bool.{eqb-true}
use Rattle.std.proofs.lemmas.Bool.Decides.{nat_tests}
use Rattle.std.specs.Option.{unwrap_or}
use Rattle.reql_datum.specs.Answer.{Answer, Reason, ◌>>=◌, op_failed}
use Rattle.reql_datum.specs.Whole.{is_in}
use Rattle.reql_datum.specs.declared.whole.NumFault.TheVariants.{OverRange}
use Rattle.reql_datum.specs.declared.point.Point.{Point}
use Rattle.reql_rewrite.specs.Rewrite.{rewritten}
use Rattle.reql_rules.specs.Faults.{number_fault}
use Rattle.reql_term.specs.Form.{Form, literal, several, keyed, variable, implicit, function, slot, operation, Forms, NamedForms}
use Rattle.reql_term.specs.Table.{task_of}
use Rattle.reql_term.specs.Views.{Document}
use Rattle.reql_term.specs.declared.op.Op.{Op}
use Rattle.reql_term.specs.declared.role.Task.{Task}
use Rattle.reql_term.specs.declared.role.Task.TheVariants as task
use Rattle.reql_catalog.specs.Catalog.{Named}
use Rattle.reql_naming.specs.Named.{resolved}
use Rattle.reql_value_spec.specs.Meant.{Meant}
use Rattle.reql_value_spec.specs.Shown as values
use Rattle.reql_value_spec.specs.Shown.{Shown}
use Rattle.reql_value_spec.specs.World.{View}
use Rattle.reql_table_spec.specs.Indexes.{Indexes}
use Rattle.reql_table_spec.specs.Machine.{Seen}
use Rattle.reql_table_spec.proofs.Closed.{same_ok}
use Rattle.reql_plan_spec.specs.declared.parts.Plan.{Plan}
use Rattle.reql_plan_spec.specs.declared.parts.Setting.{Setting}
use Rattle.reql_plan_spec.specs.Asked.{clock, is_clocked, read_from}
use Rattle.reql_plan_spec.specs.Course.{seen_at, looks, fits_in, shown_as, shown, any_command, by_task, carried, branched, held, read, timed, at_moment, course, sent}
use Rattle.reql_plan_spec.specs.Held.{Held, Read, nothing_read, with_view, dropped}
use Rattle.reql_plan_spec.specs.Looks.{look_in, looks_along, has_slot, is_rising, ReadSlotsRise, Reading, in_turn, ReadSlotsAreLookedAt, NoOthersAreLookedAt, Sight, HasRead, EachIsSeenAtItsSlot, table_at, point_at, held_of, TermsGoOnInWhatWasSeen, DroppedTablesAreTold, reads_by, is_reading, told_as, shown_in, ValuesAreOfWhatWasSeen}
use Rattle.reql_plan_spec.specs.Move.{Ask, look_names, tell, look, run, change_names, roll, Heard, names, told, looked, ran, changed, rolled, fault, Outcome, sequence, stop}
use Rattle.reql_plan_spec.specs.Opens.{at_time}
use Rattle.reql_plan_spec.specs.Reads.{has_now, leaks, now_rule, reads, read_slots, rising, with_slot}
use Rattle.reql_plan_spec.specs.Request.{Request, ends, asks, Moves, request, give, refuse, from, answered, moves, next}
use Rattle.reql_plan_spec.specs.Settled.{meant_of}
use Rattle.reql_plan_spec.specs.Texts.{dropped_text, undetermined, too_many_cursors}
use Rattle.reql_plan_spec.proofs.Answering.{sent_wanted}
use Rattle.reql_plan_spec.proofs.Asked.{looks_on, clocked_on, resolved_on, more_after}
use Rattle.reql_plan_spec.proofs.Unsent.{Looks, Answers, tells_carried}

-- ---- the slots that a term reads
and_first : (a b : Bool) → a && b ≡ true → a ≡ true
and_first true b h = refl
and_first false b h = h

and_second : (a b : Bool) → a && b ≡ true → b ≡ true
and_second true b h = h
and_second false b h = absurd (cc (h))

and_both : (a b : Bool) → a ≡ true → b ≡ true → a && b ≡ true
and_both true b h k = k
and_both false b h k = h

or_twice : (a b : Bool) → a || b ≡ a || (a || b)
or_twice true b = refl
or_twice false b = refl

or_swap : (a b c : Bool) → a || (b || c) ≡ b || (a || c)
or_swap true true c = refl
or_swap true false c = refl
or_swap false b c = refl

above : (n k : ℕ) → nat_lt n k ≡ false → nat_eq n k ≡ false → nat_lt k n ≡ true
above n k less same = grind (arith, nat_tests)

-- a slot more
module _ (m n k : ℕ) (ks : List ℕ) (more : has_slot m (with_slot n ks) ≡ nat_eq m n || has_slot m ks) where
  abbrev with_all : List ℕ → Type 0
  with_all slots = has_slot m slots ≡ nat_eq m n || (nat_eq m k || has_slot m ks)

  same_slot : (b : Bool) → nat_eq n k ≡ b → with_all (if b then k ∷ ks else k ∷ with_slot n ks)
  same_slot true same = or_twice (nat_eq m k) (has_slot m ks) ∙ ap (λ j. nat_eq m j || (nat_eq m k || has_slot m ks)) (sym (eqb-true n k same))
  same_slot false same = ap (λ b. nat_eq m k || b) more ∙ or_swap (nat_eq m k) (nat_eq m n) (has_slot m ks)

  less_slot : (b : Bool) → with_all (if b then n ∷ k ∷ ks else (if nat_eq n k then k ∷ ks else k ∷ with_slot n ks))
  less_slot true = refl
  less_slot false = same_slot (nat_eq n k) refl

has_with : (m n : ℕ) (ks : List ℕ) → has_slot m (with_slot n ks) ≡ nat_eq m n || has_slot m ks
has_with m n [] = refl
has_with m n (k ∷ ks) = less_slot m n k ks (has_with m n ks) (nat_lt n k)

has_rising : (m : ℕ) (ns : List ℕ) → has_slot m (rising ns) ≡ has_slot m ns
has_rising m [] = refl
has_rising m (n ∷ ns) = has_with m n (rising ns) ∙ ap (λ b. nat_eq m n || b) (has_rising m ns)

-- it rises still, also above one that is below both
module _ (i n k : ℕ) (ks : List ℕ) (up : is_rising (i ∷ k ∷ ks) ≡ true) (below : nat_lt i n ≡ true) (more : nat_lt k n ≡ true → is_rising (k ∷ with_slot n ks) ≡ true) where
  same_above : (b : Bool) → nat_lt n k ≡ false → nat_eq n k ≡ b → is_rising (i ∷ (if b then k ∷ ks else k ∷ with_slot n ks)) ≡ true
  same_above true less same = up
  same_above false less same = and_both (nat_lt i k) (is_rising (k ∷ with_slot n ks)) (and_first (nat_lt i k) (is_rising (k ∷ ks)) up) (more (above n k less same))

  less_above : (b : Bool) → nat_lt n k ≡ b → is_rising (i ∷ (if b then n ∷ k ∷ ks else (if nat_eq n k then k ∷ ks else k ∷ with_slot n ks))) ≡ true
  less_above true less = and_both (nat_lt i n) (nat_lt n k && is_rising (k ∷ ks)) below (and_both (nat_lt n k) (is_rising (k ∷ ks)) less (and_second (nat_lt i k) (is_rising (k ∷ ks)) up))
  less_above false less = same_above (nat_eq n k) less refl

rising_above : (i n : ℕ) (ks : List ℕ) → is_rising (i ∷ ks) ≡ true → nat_lt i n ≡ true → is_rising (i ∷ with_slot n ks) ≡ true
rising_above i n [] up below = and_both (nat_lt i n) true below refl
rising_above i n (k ∷ ks) up below = less_above i n k ks up below (rising_above k n ks (and_second (nat_lt i k) (is_rising (k ∷ ks)) up)) (nat_lt n k) refl

module _ (n k : ℕ) (ks : List ℕ) (up : is_rising (k ∷ ks) ≡ true) where
  same_rises : (b : Bool) → nat_lt n k ≡ false → nat_eq n k ≡ b → is_rising (if b then k ∷ ks else k ∷ with_slot n ks) ≡ true
  same_rises true less same = up
  same_rises false less same = rising_above k n ks up (above n k less same)

  less_rises : (b : Bool) → nat_lt n k ≡ b → is_rising (if b then n ∷ k ∷ ks else (if nat_eq n k then k ∷ ks else k ∷ with_slot n ks)) ≡ true
  less_rises true less = and_both (nat_lt n k) (is_rising (k ∷ ks)) less up
  less_rises false less = same_rises (nat_eq n k) less refl

rising_with : (n : ℕ) (ks : List ℕ) → is_rising ks ≡ true → is_rising (with_slot n ks) ≡ true
rising_with n [] up = refl
rising_with n (k ∷ ks) up = less_rises n k ks up (nat_lt n k) refl

rising_rises : (ns : List ℕ) → is_rising (rising ns) ≡ true
rising_rises [] = refl
rising_rises (n ∷ ns) = rising_with n (rising ns) (rising_rises ns)

pub read_slots_rise : ReadSlotsRise
read_slots_rise f = record { rising = rising_rises (reads f); all = λ n. has_rising n (reads f) }

-- ---- the looks of a request
abbrev looks_in : Request → List Heard → List (ℕ × Option Heard)
looks_in (ends o) hs = []
looks_in (asks q on) [] = look_in (moves q) None
looks_in (asks q on) (h ∷ hs) = look_in (moves q) (Some h) ++ looks_in (on h) hs

looks_sent : (s : Setting) (r : Request) (hs : List Heard) → looks_along (λ gs. sent s (next r gs)) hs ≡ looks_in r hs
looks_sent s (ends o) [] = refl
looks_sent s (ends o) (h ∷ hs) = looks_sent s (ends o) hs
looks_sent s (asks q on) [] = refl
looks_sent s (asks q on) (h ∷ hs) = ap (λ ls. look_in (moves q) (Some h) ++ ls) (looks_sent s (on h) hs)

-- none, where it never looks
module _ (s : Setting) where
  no_look : (q : Ask) (h : Option Heard) → Looks ⊥ s q → look_in (moves q) h ≡ []
  no_look look_names h a = refl
  no_look tell h a = refl
  no_look (look n) h a = absurd a
  no_look (run n order) h a = refl
  no_look (change_names c) h a = refl
  no_look roll h a = refl

  none_along : (r : Request) (hs : List Heard) → Answers ⊥ s r → looks_in r hs ≡ []
  none_along (ends o) hs a = refl
  none_along (asks q on) [] a = no_look q None a.0
  none_along (asks q on) (h ∷ hs) a = ap (λ ls. ls ++ looks_in (on h) hs) (no_look q (Some h) a.0) ∙ none_along (on h) hs (a.1 h)

-- ---- those at its slots
module _ (ns : Named) (on : Read → Request) (none : (r : Read) (hs : List Heard) → looks_in (on r) hs ≡ []) where
  abbrev at_slots : Read → List ℕ → List Heard → List (ℕ × Option Heard)
  at_slots r slots hs = looks_in (looks ns r slots on) hs

  seen_then : (r : Read) (n : ℕ) (slots : List ℕ) (at : Seen) (hs : List Heard) (o : Option (List Document × Indexes))
      → ((found : List Document × Indexes) → at_slots (with_view ns r n at found) slots hs ≡ in_turn slots hs)
      → looks_in (seen_at ns r n at o (λ x. looks ns x slots on)) hs ≡ cond (is_some o) (in_turn slots hs) []
  seen_then r n slots at hs None more = refl
  seen_then r n slots at hs (Some found) more = more found

  looks_in_turn : (r : Read) (slots : List ℕ) (hs : List Heard) → at_slots r slots hs ≡ in_turn slots hs
  looks_in_turn r [] hs = none r hs
  looks_in_turn r (n ∷ slots) [] = refl
  looks_in_turn r (n ∷ slots) (looked at ∷ hs) =
      ap (λ ls. (n, Some (looked at)) ∷ ls) (seen_then r n slots at hs at.view (λ found. looks_in_turn (with_view ns r n at found) slots hs))
  looks_in_turn r (n ∷ slots) (names x ∷ hs) = refl
  looks_in_turn r (n ∷ slots) (told x ∷ hs) = refl
  looks_in_turn r (n ∷ slots) (ran x v ∷ hs) = refl
  looks_in_turn r (n ∷ slots) (changed x ∷ hs) = refl
  looks_in_turn r (n ∷ slots) (rolled x ∷ hs) = refl

-- ---- the whole
module _ (p : Plan) (s : Setting) (ns : Named) where
  abbrev if_free : Form → Bool → Request
  if_free f b = cond b (refuse undetermined) (give f) (λ g. at_moment p s ns g ends)

  abbrev then_read : Form → Request
  then_read g = read p s ns g ends

  abbrev if_in : Form → ℤ → Bool → Request
  if_in f n b = cond b (give n) (refuse (number_fault OverRange)) (λ m. from (rewritten (now_rule m) f) then_read)

  read_looks : (g : Form) (hs : List Heard) → looks_in (then_read g) hs ≡ in_turn (read_slots g) hs
  read_looks g hs = looks_in_turn ns (λ r. carried (held p s ns r) g ends)
      (λ r gs. none_along s (carried (held p s ns r) g ends) gs (tells_carried ⊥ s (held p s ns r) g refl)) nothing_read (read_slots g) hs

  timed_looks : (f g : Form) (hs : List Heard) (b : Bool) (moment : Option ℤ) → is_clocked b moment ≡ true → at_time moment f ≡ Ok g
      → looks_in (cond b (timed p s ns f) (read p s ns f) ends) (clock moment ++ hs) ≡ looks_in (then_read g) hs
  timed_looks f g hs true (Some n) c h = ap (λ b. looks_in (if_in f n b) hs) c ∙ ap (λ a. looks_in (from a then_read) hs) h
  timed_looks f g hs false None c h = ap (λ x. looks_in (then_read x) hs) (same_ok f g h)
  timed_looks f g hs true None c h = absurd (cc (c))
  timed_looks f g hs false (Some n) c h = absurd (cc (c))

pub read_slots_are_looked_at : ReadSlotsAreLookedAt
read_slots_are_looked_at p s hs r =
    let gs : List Heard = clock r.moment ++ r.rest in
    looks_sent s (request (course p s)) hs
    ∙ ap (looks_in (request (course p s))) r.heard
    ∙ ap (λ a. looks_in (from a (λ f. if_free p s r.known f (leaks false f))) gs) r.looked_up
    ∙ ap (λ b. looks_in (if_free p s r.known r.term b) gs) r.free
    ∙ timed_looks p s r.known r.term r.carried r.rest (has_now r.term) r.moment r.clocked r.at_moment
    ∙ read_looks p s r.known r.carried r.rest

-- ---- and no others
module _ (p : Plan) (s : Setting) (ns : Named) (hs : List Heard) where
  abbrev Or : Request → Type 0
  Or r = (looks_in r hs ≡ []) ⊎ Reading p (names ns ∷ hs)

  module _ (f : Form) (same : resolved ns p.db p.term ≡ Ok f) (free : leaks false f ≡ false) where
    reading_by : (moment : Option ℤ) (rest : List Heard) (g : Form) → hs ≡ clock moment ++ rest → is_clocked (has_now f) moment ≡ true → at_time moment f ≡ Ok g → Reading p (names ns ∷ hs)
    reading_by moment rest g heard c h = record {
      known = ns;
      moment = moment;
      rest = rest;
      heard = ap (λ gs. names ns ∷ gs) heard;
      term = f;
      looked_up = same;
      free = free;
      clocked = c;
      carried = g;
      at_moment = h;
    }

    in_or : (n : ℤ) (gs : List Heard) (b : Bool) (a : Answer Form) → hs ≡ told (Some n) ∷ gs → has_now f ≡ true → is_in n ≡ b → rewritten (now_rule n) f ≡ a
        → (looks_in (if_in p s ns f n b) gs ≡ []) ⊎ Reading p (names ns ∷ hs)
    in_or n gs false a is now c h = inl refl
    in_or n gs true (Err why) is now c h = inl (ap (λ x. looks_in (from x (then_read p s ns)) gs) h)
    in_or n gs true (Ok g) is now c h = inr (reading_by (Some n) gs g is (ap (λ b. is_clocked b (Some n)) now ∙ c) h)

    timed_or : (gs : List Heard) → hs ≡ gs → has_now f ≡ true → (looks_in (timed p s ns f ends) gs ≡ []) ⊎ Reading p (names ns ∷ hs)
    timed_or [] is now = inl refl
    timed_or (told (Some n) ∷ gs) is now = in_or n gs (is_in n) (rewritten (now_rule n) f) is now refl refl
    timed_or (told None ∷ gs) is now = inl refl
    timed_or (names x ∷ gs) is now = inl refl
    timed_or (looked x ∷ gs) is now = inl refl
    timed_or (ran x v ∷ gs) is now = inl refl
    timed_or (changed x ∷ gs) is now = inl refl
    timed_or (rolled x ∷ gs) is now = inl refl

    moment_or : (b : Bool) → has_now f ≡ b → Or (cond b (timed p s ns f) (read p s ns f) ends)
    moment_or true now = timed_or hs refl now
    moment_or false now = inr (reading_by None hs f refl (ap (λ b. is_clocked b None) now) refl)

  free_or : (f : Form) (b : Bool) → resolved ns p.db p.term ≡ Ok f → leaks false f ≡ b → Or (if_free p s ns f b)
  free_or f true same free = inl refl
  free_or f false same free = moment_or f same free (has_now f) refl

  term_or : (a : Answer Form) → resolved ns p.db p.term ≡ a → Or (from a (λ f. if_free p s ns f (leaks false f)))
  term_or (Err why) same = inl refl
  term_or (Ok f) same = free_or f (leaks false f) same refl

reading_or : (p : Plan) (s : Setting) (hs : List Heard) → (looks_in (request (course p s)) hs ≡ []) ⊎ Reading p hs
reading_or p s (names ns ∷ hs) = term_or p s ns hs (resolved ns p.db p.term) refl
reading_or p s [] = inl refl
reading_or p s (told x ∷ hs) = inl refl
reading_or p s (looked x ∷ hs) = inl refl
reading_or p s (ran x v ∷ hs) = inl refl
reading_or p s (changed x ∷ hs) = inl refl
reading_or p s (rolled x ∷ hs) = inl refl

pub no_others_are_looked_at : NoOthersAreLookedAt
no_others_are_looked_at p s hs = elim (reading_or p s hs) [
  | inl none ↦ inl (looks_sent s (request (course p s)) hs ∙ none)
  | inr r ↦ inr r
]

-- ---- what was seen
abbrev slots_of : List Sight → List ℕ
slots_of xs = map (λ (x : Sight). x.slot) xs

abbrev heard_in : List Sight → List Heard
heard_in xs = map (λ (x : Sight). looked x.at) xs

abbrev seen_in : List Sight → List Seen
seen_in xs = map (λ (x : Sight). x.at) xs

each_in_turn : (xs : List Sight) (hs : List Heard) → in_turn (slots_of xs) (heard_in xs ++ hs) ≡ map (λ (x : Sight). (x.slot, Some (looked x.at))) xs
each_in_turn [] hs = refl
each_in_turn (x ∷ xs) hs =
    let more : List (ℕ × Option Heard) = in_turn (slots_of xs) (heard_in xs ++ hs) in
    ap (λ o. (x.slot, Some (looked x.at)) ∷ cond (is_some o) more []) x.there ∙ ap (λ ls. (x.slot, Some (looked x.at)) ∷ ls) (each_in_turn xs hs)

pub each_is_seen_at_its_slot : EachIsSeenAtItsSlot
each_is_seen_at_its_slot p s hs r =
    read_slots_are_looked_at p s hs r.reading
    ∙ ap (λ ns. in_turn ns r.reading.rest) (sym r.slots)
    ∙ ap (in_turn (slots_of r.sights)) r.heard
    ∙ each_in_turn r.sights r.replies

heard_is_seen : (xs : List Sight) (hs : List Heard) → heard_in xs ++ hs ≡ map looked (seen_in xs) ++ hs
heard_is_seen [] hs = refl
heard_is_seen (x ∷ xs) hs = ap (λ gs. looked x.at ∷ gs) (heard_is_seen xs hs)

module _ (ns : Named) where
  abbrev read_of : List Sight → Read
  read_of xs = record { tables = map (table_at ns) xs; points = map point_at xs }

  abbrev read_with : Read → List Sight → Read
  read_with r xs = record { tables = r.tables ++ map (table_at ns) xs; points = r.points ++ map point_at xs }

  nothing_more : (A : Type 0) (xs : List A) → xs ≡ xs ++ []
  nothing_more A [] = refl
  nothing_more A (x ∷ xs) = ap (λ zs. x ∷ zs) (nothing_more A xs)

  abbrev reading_of : List (ℕ × View) → List Point → Option Read
  reading_of ts ps = Some (record { tables = ts; points = ps })

  sights_are_read : (r : Read) (xs : List Sight) → read_from ns r (slots_of xs) (seen_in xs) ≡ Some (read_with r xs)
  sights_are_read r [] = ap (λ ts. reading_of ts r.points) (nothing_more (ℕ × View) r.tables) ∙ ap (reading_of (r.tables ++ [])) (nothing_more Point r.points)
  sights_are_read r (x ∷ xs) =
      let more : Read = with_view ns r x.slot x.at x.found in
      ap (option_and_then (λ v. read_from ns (with_view ns r x.slot x.at v) (slots_of xs) (seen_in xs))) x.there
      ∙ sights_are_read more xs
      ∙ ap (λ ts. reading_of ts (more.points ++ map point_at xs)) (more_after (ℕ × View) r.tables (map (table_at ns) xs) (table_at ns x))
      ∙ ap (reading_of (r.tables ++ (table_at ns x ∷ map (table_at ns) xs))) (more_after Point r.points (map point_at xs) (point_at x))

goes_on : (p : Plan) (s : Setting) (hs : List Heard) (r : HasRead p hs) → next (request (course p s)) hs ≡ next (carried (held_of p s hs r) r.reading.carried ends) r.replies
goes_on p s hs r =
    let ns : Named = r.reading.known in
    let g : Form = r.reading.carried in
    let gs : List Heard = clock r.reading.moment ++ r.reading.rest in
    ap (next (request (course p s))) r.reading.heard
    ∙ resolved_on next (λ q on h gs none. refl) p s ns r.reading.term gs r.reading.looked_up r.reading.free
    ∙ clocked_on next (λ q on h gs none. refl) p s ns r.reading.term g r.reading.rest (has_now r.reading.term) r.reading.moment r.reading.clocked r.reading.at_moment
    ∙ ap (next (read p s ns g ends)) (r.heard ∙ heard_is_seen r.sights r.replies)
    ∙ looks_on next (λ q on h gs none. refl) ns (λ x. carried (held p s ns x) g ends) (read_of ns r.sights) r.replies nothing_read (read_slots g) (seen_in r.sights)
    (ap (λ slots. read_from ns nothing_read slots (seen_in r.sights)) (sym r.slots) ∙ sights_are_read ns nothing_read r.sights)

pub terms_go_on_in_what_was_seen : TermsGoOnInWhatWasSeen
terms_go_on_in_what_was_seen p s hs r = ap (sent s) (goes_on p s hs r)

-- ---- a table that was dropped
module _ (ns : Named) (on : Read → Request) (slot : ℕ) (unseen : List ℕ) (at : Seen) (replies : List Heard) (none : at.view ≡ None) where
  is_missed : (r : Read) (xs : List Sight) → next (looks ns r (slots_of xs ++ slot ∷ unseen) on) (heard_in xs ++ looked at ∷ replies) ≡ answered (stop (fault (dropped ns slot)))
  is_missed r [] = ap (λ o. next (seen_at ns r slot at o (λ s. looks ns s unseen on)) replies) none
  is_missed r (x ∷ xs) =
      ap (λ o. next (seen_at ns r x.slot x.at o (λ s. looks ns s (slots_of xs ++ slot ∷ unseen) on)) (heard_in xs ++ looked at ∷ replies)) x.there
      ∙ is_missed (with_view ns r x.slot x.at x.found) xs

pub dropped_tables_are_told : DroppedTablesAreTold
dropped_tables_are_told p s hs r =
    let ns : Named = r.reading.known in
    let g : Form = r.reading.carried in
    let gs : List Heard = clock r.reading.moment ++ r.reading.rest in
    ap (sent s) (
    ap (next (request (course p s))) r.reading.heard
    ∙ resolved_on next (λ q on h gs none. refl) p s ns r.reading.term gs r.reading.looked_up r.reading.free
    ∙ clocked_on next (λ q on h gs none. refl) p s ns r.reading.term g r.reading.rest (has_now r.reading.term) r.reading.moment r.reading.clocked r.reading.at_moment
    ∙ ap (next (read p s ns g ends)) r.heard
    ∙ ap (λ slots. next (looks ns nothing_read slots (λ x. carried (held p s ns x) g ends)) (heard_in r.sights ++ looked r.at ∷ r.replies)) (sym r.slots)
    ∙ is_missed ns (λ x. carried (held p s ns x) g ends) r.slot r.unseen r.at r.replies r.none nothing_read r.sights
    ∙ ap (λ (names : Option (List ℕ × List ℕ)). answered (stop (fault (op_failed (dropped_text (unwrap_or names ([], [])).0 (unwrap_or names ([], [])).1))))) r.named
    )

-- ---- a value
module _ (e : Held) (hs : List Heard) where
  fits_told : (b : Bool) (o : Outcome) (why : Reason) → next (cond b (give o) (refuse why) ends) hs ≡ answered (cond b o (stop (fault why)))
  fits_told true o why = refl
  fits_told false o why = refl

  shown_as_told : (v : Shown) → next (shown_as e v ends) hs ≡ answered (told_as e (Ok v))
  shown_as_told (values.atom d) = refl
  shown_as_told (values.groups gs) = refl
  shown_as_told (values.sequence ds) = fits_told (fits_in e ds) (sequence ds) too_many_cursors

  answer_told : (a : Answer Shown) → next (from a (λ v. shown_as e v ends)) hs ≡ answered (told_as e a)
  answer_told (Ok v) = shown_as_told v
  answer_told (Err why) = refl

  meant_told : (a : Answer Meant) → next (from a (λ m. from (values.shown e.world m) (λ v. shown_as e v ends))) hs ≡ answered (told_as e (a >>= values.shown e.world))
  meant_told (Ok m) = answer_told (values.shown e.world m)
  meant_told (Err why) = refl

  shown_told : (f : Form) → next (shown e f ends) hs ≡ answered (told_as e (shown_in e.world f))
  shown_told f = meant_told (meant_of e.world f)

  branch_told : (b : Bool) (arms : Moves Outcome) (f : Form) → not b ≡ true → next (cond b arms (shown e f) ends) hs ≡ answered (told_as e (shown_in e.world f))
  branch_told false arms f h = shown_told f
  branch_told true arms f h = absurd (cc (h))

  task_told : (t : Task) (o : Op) (fs : Forms) (ms : NamedForms) (arms : Moves Outcome) → reads_by t fs ≡ true
      → next (by_task e t o fs ms arms ends) hs ≡ answered (told_as e (shown_in e.world (operation o fs ms)))
  task_told task.Value o fs ms arms h = shown_told (operation o fs ms)
  task_told task.Branch o fs ms arms h = branch_told (any_command fs) arms (operation o fs ms) h
  task_told task.ForEach o fs ms arms h = absurd (cc (h))
  task_told task.Write o fs ms arms h = absurd (cc (h))
  task_told task.Catalogue o fs ms arms h = absurd (cc (h))
  task_told task.Index o fs ms arms h = absurd (cc (h))
  task_told task.Sync o fs ms arms h = absurd (cc (h))
  task_told task.Feed o fs ms arms h = absurd (cc (h))

  carried_told : (f : Form) → is_reading f ≡ true → next (carried e f ends) hs ≡ answered (told_as e (shown_in e.world f))
  carried_told (literal d) h = shown_told (literal d)
  carried_told (several fs) h = shown_told (several fs)
  carried_told (keyed ms) h = shown_told (keyed ms)
  carried_told (variable n) h = shown_told (variable n)
  carried_told implicit h = shown_told implicit
  carried_told (function ids f) h = shown_told (function ids f)
  carried_told (slot n) h = shown_told (slot n)
  carried_told (operation o fs ms) h = task_told (task_of o) o fs ms (branched e fs) h

pub values_are_of_what_was_seen : ValuesAreOfWhatWasSeen
values_are_of_what_was_seen p s hs r reads wanted =
    let e : Held = held_of p s hs r in
    ap (sent s) (goes_on p s hs r ∙ carried_told e r.replies r.reading.carried reads) ∙ sent_wanted s (answered (told_as e (shown_in e.world r.reading.carried))) wanted
