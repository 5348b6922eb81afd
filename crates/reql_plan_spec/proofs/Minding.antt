-- That plans take nothing of a feed, close no feed but those that they opened and that are open still, tell of all these where they
-- end with a feed and of no others, and open none where they end with a sequence.
use Rattle.std.proofs.Common.{◌≡◌, ℕ, ℤ, zero, suc, ◌<◌, List, [], ◌∷◌, ◌++◌, map, length, Option, Some, None, Bool, true, false, true≢false, not, ◌&&◌, ◌||◌, cond, Ok, Err, refl, sym, ap, subst, ◌∙◌, arith}
use Rattle.std.specs.Prelude.{nat_eq}
use Rattle.std.proofs.lemmas.Bool.{eqb-true, eq-eqb}
use Rattle.reql_datum.specs.Answer.{Answer, Reason}
use Rattle.reql_datum.specs.Plain.{Plain}
use Rattle.reql_datum.specs.Whole.{is_in}
use Rattle.reql_datum.specs.declared.whole.NumFault.TheVariants.{OverRange}
use Rattle.reql_rewrite.specs.Rewrite.{rewritten}
use Rattle.reql_rules.specs.Faults.{number_fault}
use Rattle.reql_rules.specs.Types.{truth}
use Rattle.reql_rules.specs.Lists.{Bytes}
use Rattle.reql_term.specs.Form.{Form, literal, several, keyed, variable, implicit, function, slot, operation, Forms, no_forms, form, NamedForms}
use Rattle.reql_term.specs.Table.{task_of}
use Rattle.reql_term.specs.Views.{Document}
use Rattle.reql_term.specs.declared.op.Op.{Op}
use Rattle.reql_term.specs.declared.role.Task.{Task}
use Rattle.reql_term.specs.declared.role.Task.TheVariants as task
use Rattle.reql_catalog.specs.Catalog.{Named}
use Rattle.reql_catalog.specs.declared.command.CatCmd.{CatCmd}
use Rattle.reql_catalog.specs.declared.command.CatSaid.{CatSaid}
use Rattle.reql_catalog.specs.declared.command.CatSaid.TheVariants as cat_said
use Rattle.reql_faults.specs.Places.{first, second}
use Rattle.reql_naming.specs.Named.{resolved}
use Rattle.reql_value_spec.specs.Shown as values
use Rattle.reql_value_spec.specs.Shown.{Shown}
use Rattle.reql_write_spec.specs.declared.command.Summary.{Summary}
use Rattle.reql_table_spec.specs.Indexes.{Indexes}
use Rattle.reql_table_spec.specs.Machine.{Seen}
use Rattle.reql_table_spec.specs.declared.command.Cmd.{Cmd}
use Rattle.reql_table_spec.specs.declared.command.Cmd.TheVariants as cmds
use Rattle.reql_table_spec.specs.Replies.{Answered as Reply}
use Rattle.reql_table_machine_spec.specs.declared.command.Said.TheVariants as said
use Rattle.reql_table_spec.specs.declared.reply.Saved.{Saved}
use Rattle.reql_table_spec.specs.declared.reply.Saved.TheVariants as saved
use Rattle.reql_plan_spec.specs.declared.parts.Plan.{Plan}
use Rattle.reql_plan_spec.specs.declared.parts.Setting.{Setting}
use Rattle.reql_plan_spec.specs.declared.parts.Prepared.{Prepared}
use Rattle.reql_plan_spec.specs.declared.parts.Commanded.{Commanded}
use Rattle.reql_plan_spec.specs.declared.parts.Opening.{Opening}
use Rattle.reql_plan_spec.specs.declared.parts.TableCmd.{TableCmd}
use Rattle.reql_plan_spec.specs.declared.parts.TableCmd.TheVariants as tables
use Rattle.reql_plan_spec.specs.Commands.{cat_command, table_command, cmd_of}
use Rattle.reql_plan_spec.specs.Course.{Open, lost, names_heard, moment_by, moment_heard, seen_at, seen_heard, looks, said_by, kept_by, reply_heard, command, key_by, key_heard, keys, summary_said, run_write, write, wrote, round, rounds, each_of, for_each, shuts, changed_by, change_heard, change_catalogue, table_said, change_table, closing, is_among, arm_of, opened_by, opened_if, open_heard, subscribed, opens, changes, has_room, fits_in, shown_as, shown, any_command, by_task, carried, branched, held, read, timed, resolving, course}
use Rattle.reql_plan_spec.specs.Feeding.{Feeding, feeding}
use Rattle.reql_plan_spec.specs.Held.{Held, Read, nothing_read}
use Rattle.reql_plan_spec.specs.Minds.{Feeds, is_feed, has_feed, without_feed, with_opened, with_ran, MayRun, AreOpen, feeds_in, are_apart, TellsAll, MayEnd, Minds, PlansMind}
use Rattle.reql_plan_spec.specs.Move.{Replied, Heard, names, told, looked, ran, changed, rolled, Outcome, unsent, sequence}
use Rattle.reql_plan_spec.specs.Reads.{has_now, leaks, now_rule, read_slots, with_element}
use Rattle.reql_plan_spec.specs.Request.{Request, ends, Moves, give, refuse, from}
use Rattle.reql_plan_spec.specs.Settled.{there, meant_of, datum_of, sequence_of}
use Rattle.reql_plan_spec.specs.Summed.{added, nothing_done}
use Rattle.reql_plan_spec.specs.Texts.{undetermined, too_many_cursors}
use Rattle.reql_plan_spec.specs.Writes.{prepared, with_keys}
use Rattle.reql_plan_spec.proofs.Arms.{HasOne, feeding_some}

-- moves after which a request minds what is its own, whatever it goes on with
abbrev Keeps : {A : Type 0} → Moves A → Type 0
Keeps {A} m = (opened : Feeds) (on : A → Request) → ((a : A) (more : Feeds) → Minds more (on a)) → Minds opened (m on)

-- and that open and close nothing on the way
abbrev Stays : {A : Type 0} → Moves A → Type 0
Stays {A} m = (opened : Feeds) (on : A → Request) → ((a : A) → Minds opened (on a)) → Minds opened (m on)

stays_from : {A : Type 0} (x : Answer A) → Stays (from x)
stays_from (Ok a) opened on k = k a
stays_from (Err e) opened on k = tt

from_ok : {A : Type 0} (x : Answer A) (opened : Feeds) (on : A → Request) → ((a : A) → x ≡ Ok a → Minds opened (on a)) → Minds opened (from x on)
from_ok (Ok a) opened on k = k a refl
from_ok (Err e) opened on k = tt

keeps_from : {A : Type 0} (x : Answer A) → Keeps (from x)
keeps_from x opened on k = stays_from x opened on (λ a. k a opened)

stays_cond : {A : Type 0} (b : Bool) (m n : Moves A) → Stays m → Stays n → Stays (cond b m n)
stays_cond true m n km kn opened on k = km opened on k
stays_cond false m n km kn opened on k = kn opened on k

-- moves that end in an outcome, of which the feeds that it tells are open, where none is open before them
abbrev Concludes : Moves Outcome → Type 0
Concludes m = (on : Outcome → Request) → ((o : Outcome) (more : Feeds) → MayEnd more o → Minds more (on o)) → Minds [] (m on)

ends_cond : (b : Bool) (m n : Moves Outcome) → Concludes m → Concludes n → Concludes (cond b m n)
ends_cond true m n km kn on k = km on k
ends_cond false m n km kn on k = kn on k

-- ---- what is heard
stays_names : (h : Heard) → Stays (names_heard h)
stays_names (names ns) opened on k = k ns
stays_names (told n) opened on k = tt
stays_names (looked at) opened on k = tt
stays_names (ran r q) opened on k = tt
stays_names (changed r) opened on k = tt
stays_names (rolled bs) opened on k = tt

stays_moment_by : (n : Option ℤ) → Stays (moment_by n)
stays_moment_by None opened on k = tt
stays_moment_by (Some n) opened on k = stays_cond (is_in n) (give n) (refuse (number_fault OverRange)) (λ o q j. j n) (λ o q j. tt) opened on k

stays_moment : (h : Heard) → Stays (moment_heard h)
stays_moment (names ns) opened on k = tt
stays_moment (told n) opened on k = stays_moment_by n opened on k
stays_moment (looked at) opened on k = tt
stays_moment (ran r q) opened on k = tt
stays_moment (changed r) opened on k = tt
stays_moment (rolled bs) opened on k = tt

stays_seen_at : (ns : Named) (r : Read) (n : ℕ) (at : Seen) (o : Option (List Document × Indexes)) → Stays (seen_at ns r n at o)
stays_seen_at ns r n at None opened on k = tt
stays_seen_at ns r n at (Some found) opened on k = k _

stays_seen : (ns : Named) (r : Read) (n : ℕ) (h : Heard) → Stays (seen_heard ns r n h)
stays_seen ns r n (names ns') opened on k = tt
stays_seen ns r n (told m) opened on k = tt
stays_seen ns r n (looked at) opened on k = stays_seen_at ns r n at at.view opened on k
stays_seen ns r n (ran q v) opened on k = tt
stays_seen ns r n (changed q) opened on k = tt
stays_seen ns r n (rolled bs) opened on k = tt

stays_looks : (ns : Named) (r : Read) (slots : List ℕ) → Stays (looks ns r slots)
stays_looks ns r [] opened on k = k r
stays_looks ns r (n ∷ rest) opened on k = (tt, λ h. stays_seen ns r n h opened (λ s. looks ns s rest on) (λ s. stays_looks ns s rest opened on k))

-- ---- commands
keeps_said : (ns : Named) (n : ℕ) (s : Replied) → Keeps (said_by ns n s)
keeps_said ns n (said.Done x) opened on k = k _ opened
keeps_said ns n (said.HistoryFull count) opened on k = tt
keeps_said ns n said.Changed opened on k = k _ opened
keeps_said ns n said.IndexExists opened on k = k _ opened
keeps_said ns n said.IndexMissing opened on k = k _ opened
keeps_said ns n (said.Opened f items) opened on k = k _ opened
keeps_said ns n (said.FeedsFull count) opened on k = k _ opened
keeps_said ns n (said.Batch skipped last items) opened on k = k _ opened
keeps_said ns n said.Nothing opened on k = k _ opened
keeps_said ns n (said.FeedUnknown f) opened on k = k _ opened
keeps_said ns n said.Closed opened on k = k _ opened
keeps_said ns n said.Gone opened on k = tt

keeps_kept : (ns : Named) (n : ℕ) (s : Replied) (v : Saved) → Keeps (kept_by ns n s v)
keeps_kept ns n s saved.Yes opened on k = keeps_said ns n s opened on k
keeps_kept ns n s saved.Failed opened on k = tt
keeps_kept ns n s saved.Memory opened on k = tt

keeps_reply : (ns : Named) (n : ℕ) (h : Heard) → Keeps (reply_heard ns n h)
keeps_reply ns n (names ns') opened on k = tt
keeps_reply ns n (told m) opened on k = tt
keeps_reply ns n (looked at) opened on k = tt
keeps_reply ns n (ran r q) opened on k = keeps_kept ns n r.said q opened on k
keeps_reply ns n (changed q) opened on k = tt
keeps_reply ns n (rolled bs) opened on k = tt

keeps_command : (e : Held) (n : ℕ) (c : Cmd) → ((opened : Feeds) → MayRun opened n c) → Keeps (command e n c)
keeps_command e n c may opened on k = (may opened, λ h. keeps_reply e.names n h (with_ran n c h opened) on k)

-- ---- writes
keeps_key_by : (bs : Option Bytes) → Keeps (key_by bs)
keeps_key_by None opened on k = tt
keeps_key_by (Some bs) opened on k = k _ opened

keeps_key : (h : Heard) → Keeps (key_heard h)
keeps_key (names ns) opened on k = tt
keeps_key (told m) opened on k = tt
keeps_key (looked at) opened on k = tt
keeps_key (ran r q) opened on k = tt
keeps_key (changed q) opened on k = tt
keeps_key (rolled bs) opened on k = keeps_key_by bs opened on k

keeps_keys : (made : List Plain) (n : ℕ) → Keeps (keys made n)
keeps_keys made zero opened on k = k made opened
keeps_keys made (suc n) opened on k = (tt, λ h. keeps_key h opened (λ d. keys (made ++ d ∷ []) n on) (λ d more. keeps_keys (made ++ d ∷ []) n more on k))

keeps_summary : (s : Replied) → Keeps (summary_said s)
keeps_summary (said.Done x) opened on k = k x opened
keeps_summary (said.HistoryFull count) opened on k = tt
keeps_summary said.Changed opened on k = tt
keeps_summary said.IndexExists opened on k = tt
keeps_summary said.IndexMissing opened on k = tt
keeps_summary (said.Opened f items) opened on k = tt
keeps_summary (said.FeedsFull count) opened on k = tt
keeps_summary (said.Batch skipped last items) opened on k = tt
keeps_summary said.Nothing opened on k = tt
keeps_summary (said.FeedUnknown f) opened on k = tt
keeps_summary said.Closed opened on k = tt
keeps_summary said.Gone opened on k = tt

keeps_run_write : (e : Held) (p : Prepared) (before : List Plain) (left : ℕ) → Keeps (run_write e p before left)
keeps_run_write e p before left opened on k = keeps_keys before left opened
    (λ made. command e p.slot (cmds.Write (with_keys made p.cmd)) (λ s. summary_said s on))
    (λ made more. keeps_command e p.slot (cmds.Write (with_keys made p.cmd)) (λ o. tt) more (λ s. summary_said s on) (λ s last. keeps_summary s last on k))

keeps_write : (e : Held) (f : Form) → Keeps (write e f)
keeps_write e f opened on k = keeps_from (prepared e f) opened (λ p. run_write e p [] p.rolls on) (λ p more. keeps_run_write e p [] p.rolls more on k)

keeps_wrote : (e : Held) (f : Form) → Concludes (wrote e f)
keeps_wrote e f on k = keeps_write e f [] _ (λ s more. k _ more tt)

keeps_round : (e : Held) (id : ℕ) (d : Plain) (total : Summary) (ws : List Form) → Keeps (round e id d total ws)
keeps_round e id d total [] opened on k = k total opened
keeps_round e id d total (w ∷ ws) opened on k = keeps_from (with_element id d w) opened
    (λ f. write e f (λ s. round e id d (added total s) ws on))
    (λ f more. keeps_write e f more (λ s. round e id d (added total s) ws on) (λ s last. keeps_round e id d (added total s) ws last on k))

keeps_rounds : (e : Held) (id : ℕ) (ws : List Form) (total : Summary) (ds : List Plain) → Keeps (rounds e id ws total ds)
keeps_rounds e id ws total [] opened on k = k total opened
keeps_rounds e id ws total (d ∷ ds) opened on k = keeps_round e id d total ws opened (λ t. rounds e id ws t ds on) (λ t more. keeps_rounds e id ws t ds more on k)

keeps_each : (f : Form) → Keeps (each_of f)
keeps_each (literal d) opened on k = tt
keeps_each (several fs) opened on k = tt
keeps_each (keyed ms) opened on k = tt
keeps_each (variable n) opened on k = tt
keeps_each implicit opened on k = tt
keeps_each (function ids f) opened on k = k _ opened
keeps_each (slot n) opened on k = tt
keeps_each (operation o fs ms) opened on k = tt

keeps_for_each : (e : Held) (fs : Forms) → Concludes (for_each e fs)
keeps_for_each e fs on k = keeps_from (there (first fs)) [] _
    (λ f m1. keeps_from (sequence_of e.world f) m1 _
    (λ ds m2. keeps_from (there (second fs)) m2 _
    (λ g m3. keeps_each g m3 _
    (λ b m4. keeps_rounds e b.id b.writes nothing_done ds m4 _ (λ s m5. k _ m5 tt)))))

-- ---- the catalogue and indexes
keeps_shuts : (e : Held) (slots : List ℕ) → Keeps (shuts e slots)
keeps_shuts e [] opened on k = k tt opened
keeps_shuts e (n ∷ ns) opened on k = keeps_command e n cmds.Shut (λ o. tt) opened (λ s. shuts e ns on) (λ s more. keeps_shuts e ns more on k)

keeps_changed : (e : Held) (c : CatCmd) (s : CatSaid) → Concludes (changed_by e c s)
keeps_changed e c cat_said.Made on k = k _ [] tt
keeps_changed e c (cat_said.Dropped slots) on k = keeps_shuts e slots [] _ (λ u more. k _ more tt)
keeps_changed e c cat_said.DbExists on k = tt
keeps_changed e c cat_said.DbMissing on k = tt
keeps_changed e c cat_said.TableExists on k = tt
keeps_changed e c cat_said.TableMissing on k = tt
keeps_changed e c (cat_said.SlotsFull count) on k = tt
keeps_changed e c cat_said.BadName on k = tt
keeps_changed e c (cat_said.HistoryFull count) on k = tt

keeps_change : (e : Held) (c : CatCmd) (h : Heard) → Concludes (change_heard e c h)
keeps_change e c (names ns) on k = tt
keeps_change e c (told m) on k = tt
keeps_change e c (looked at) on k = tt
keeps_change e c (ran r q) on k = tt
keeps_change e c (changed r) on k = keeps_changed e c r.said on k
keeps_change e c (rolled bs) on k = tt

keeps_catalogue : (e : Held) (o : Op) (fs : Forms) (ms : NamedForms) → Concludes (change_catalogue e o fs ms)
keeps_catalogue e o fs ms on k = stays_from (cat_command e o fs ms) [] _ (λ c. (tt, λ h. keeps_change e c h on k))

may_table : (opened : Feeds) (n : ℕ) (c : TableCmd) → MayRun opened n (cmd_of c)
may_table opened n (tables.IndexCreate d) = tt
may_table opened n (tables.IndexDrop name) = tt
may_table opened n (tables.IndexRename old new overwrite) = tt
may_table opened n tables.Sync = tt

keeps_table_said : (c : Commanded) (s : Replied) (opened : Feeds) (on : Outcome → Request) → ((o : Outcome) (more : Feeds) → MayEnd more o → Minds more (on o)) → Minds opened (table_said c s on)
keeps_table_said c (said.Done x) opened on k = tt
keeps_table_said c (said.HistoryFull count) opened on k = tt
keeps_table_said c said.Changed opened on k = k _ opened tt
keeps_table_said c said.IndexExists opened on k = tt
keeps_table_said c said.IndexMissing opened on k = tt
keeps_table_said c (said.Opened f items) opened on k = tt
keeps_table_said c (said.FeedsFull count) opened on k = tt
keeps_table_said c (said.Batch skipped last items) opened on k = tt
keeps_table_said c said.Nothing opened on k = tt
keeps_table_said c (said.FeedUnknown f) opened on k = tt
keeps_table_said c said.Closed opened on k = tt
keeps_table_said c said.Gone opened on k = tt

keeps_table : (e : Held) (o : Op) (fs : Forms) (ms : NamedForms) → Concludes (change_table e o fs ms)
keeps_table e o fs ms on k = stays_from (table_command e o fs ms) [] _
    (λ c. keeps_command e c.slot (cmd_of c.cmd) (λ all. may_table all c.slot c.cmd) [] (λ s. table_said c s on) (λ s last. keeps_table_said c s last on k))

-- ---- lists of feeds
or_left : (a b : Bool) → a ≡ true → (a || b) ≡ true
or_left true b h = refl
or_left false b h = absurd (true≢false (sym h))

or_right : (a b : Bool) → b ≡ true → (a || b) ≡ true
or_right true b h = refl
or_right false b h = h

has_more : (n number : ℕ) (f : ℕ × ℕ) (fs : Feeds) → has_feed n number fs ≡ true → has_feed n number (fs ++ f ∷ []) ≡ true
has_more n number f [] h = absurd (true≢false (sym h))
has_more n number f (g ∷ fs) h = by_first (is_feed n number g) (has_feed n number fs) (has_feed n number (fs ++ f ∷ [])) (has_more n number f fs) h
  where
    by_first : (a b c : Bool) → (b ≡ true → c ≡ true) → (a || b) ≡ true → (a || c) ≡ true
    by_first true b c f h = refl
    by_first false b c f h = f h

both : (a b : Bool) → a ≡ true → b ≡ true → (a && b) ≡ true
both true b h e = e
both false b h e = absurd (true≢false (sym h))

is_itself : (n number : ℕ) → is_feed n number (n, number) ≡ true
is_itself n number = both (nat_eq n n) (nat_eq number number) (eq-eqb n n refl) (eq-eqb number number refl)

has_last : (n number : ℕ) (fs : Feeds) → has_feed n number (fs ++ (n, number) ∷ []) ≡ true
has_last n number [] = or_left (is_feed n number (n, number)) false (is_itself n number)
has_last n number (g ∷ fs) = or_right (is_feed n number g) (has_feed n number (fs ++ (n, number) ∷ [])) (has_last n number fs)

first_of : (a b : Bool) → (a && b) ≡ true → a ≡ true
first_of true b h = refl
first_of false b h = h

second_of : (a b : Bool) → (a && b) ≡ true → b ≡ true
second_of true b h = h
second_of false b h = absurd (true≢false (sym h))

-- the feed that is closed is this one
is_this : (n number : ℕ) (f : ℕ × ℕ) → is_feed n number f ≡ true → f ≡ (n, number)
is_this n number f h i = (eqb-true f.0 n (first_of (nat_eq f.0 n) (nat_eq f.1 number) h) i, eqb-true f.1 number (second_of (nat_eq f.0 n) (nat_eq f.1 number) h) i)

-- another stays
stays : (n number m other : ℕ) (fs : Feeds) → is_feed m other (n, number) ≡ false → has_feed m other fs ≡ true → has_feed m other (without_feed n number fs) ≡ true
stays n number m other [] apart h = h
stays n number m other (f ∷ fs) apart h = by_first (is_feed n number f) refl (stays n number m other fs apart)
  where
    rest : (a : Bool) → a ≡ false → (a || has_feed m other fs) ≡ true → has_feed m other fs ≡ true
    rest true e h = absurd (true≢false e)
    rest false e h = h

    kept : (a b c : Bool) → (b ≡ true → c ≡ true) → (a || b) ≡ true → (a || c) ≡ true
    kept true b c f h = refl
    kept false b c f h = f h

    by_first : (b : Bool) → is_feed n number f ≡ b → (has_feed m other fs ≡ true → has_feed m other (without_feed n number fs) ≡ true) → has_feed m other (cond b (without_feed n number fs) (f ∷ without_feed n number fs)) ≡ true
    by_first true e later = later (rest (is_feed m other f) (ap (is_feed m other) (is_this n number f e) ∙ apart) h)
    by_first false e later = kept (is_feed m other f) (has_feed m other fs) (has_feed m other (without_feed n number fs)) later h

-- ---- feeds: just those that were opened so far are open, and each is another
abbrev held_of : List Open → Feeds
held_of os = map (λ (o : Open). (o.slot, o.feed)) os

held_with : (opened : Feeds) (os : List Open) (k : Open) → opened ≡ held_of os → opened ++ (k.slot, k.feed) ∷ [] ≡ held_of (os ++ k ∷ [])
held_with opened os k same = ap (λ z. z ++ (k.slot, k.feed) ∷ []) same ∙ by_each os
  where
    by_each : (os : List Open) → held_of os ++ (k.slot, k.feed) ∷ [] ≡ held_of (os ++ k ∷ [])
    by_each [] = refl
    by_each (o ∷ os) = ap (λ z. (o.slot, o.feed) ∷ z) (by_each os)

abbrev AllOpen : Feeds → List Open → Type 0
AllOpen opened [] = Unit {0}
AllOpen opened (o ∷ os) = (has_feed o.slot o.feed opened ≡ true) × AllOpen opened os

abbrev OthersThan : Open → List Open → Type 0
OthersThan o [] = Unit {0}
OthersThan o (x ∷ os) = (is_feed x.slot x.feed (o.slot, o.feed) ≡ false) × OthersThan o os

abbrev Apart : List Open → Type 0
Apart [] = Unit {0}
Apart (o ∷ os) = OthersThan o os × Apart os

none_of : (a b : Bool) → (a || b) ≡ false → (a ≡ false) × (b ≡ false)
none_of true b h = absurd (true≢false h)
none_of false b h = (refl, h)

others_with : (o : Open) (os : List Open) (k : Open) → OthersThan o os → is_feed k.slot k.feed (o.slot, o.feed) ≡ false → OthersThan o (os ++ k ∷ [])
others_with o [] k others h = (h, tt)
others_with o (x ∷ os) k others h = (others.0, others_with o os k others.1 h)

apart_with : (os : List Open) (k : Open) → Apart os → is_among k.slot k.feed os ≡ false → Apart (os ++ k ∷ [])
apart_with [] k apart h = (tt, tt)
apart_with (o ∷ os) k apart h =
    let no : (is_feed k.slot k.feed (o.slot, o.feed) ≡ false) × (is_among k.slot k.feed os ≡ false) = none_of (is_feed k.slot k.feed (o.slot, o.feed)) (is_among k.slot k.feed os) h in
    (others_with o os k apart.0 no.0, apart_with os k apart.1 no.1)

all_more : (f : ℕ × ℕ) (opened : Feeds) (os : List Open) → AllOpen opened os → AllOpen (opened ++ f ∷ []) os
all_more f opened [] all = tt
all_more f opened (o ∷ os) all = (has_more o.slot o.feed f opened all.0, all_more f opened os all.1)

all_with : (opened : Feeds) (os : List Open) (k : Open) → AllOpen opened os → has_feed k.slot k.feed opened ≡ true → AllOpen opened (os ++ k ∷ [])
all_with opened [] k all is = (is, tt)
all_with opened (o ∷ os) k all is = (all.0, all_with opened os k all.1 is)

all_without : (o : Open) (os : List Open) (opened : Feeds) → AllOpen opened os → OthersThan o os → AllOpen (without_feed o.slot o.feed opened) os
all_without o [] opened all others = tt
all_without o (x ∷ os) opened all others = (stays o.slot o.feed x.slot x.feed opened others.0 all.0, all_without o os opened all.1 others.1)

all_after : (o : Open) (h : Heard) (os : List Open) (opened : Feeds) → AllOpen opened os → OthersThan o os → AllOpen (with_ran o.slot (cmds.Unsubscribe o.feed) h opened) os
all_after o (names ns) os opened all others = all
all_after o (told m) os opened all others = all
all_after o (looked at) os opened all others = all
all_after o (ran r q) os opened all others = all_without o os opened all others
all_after o (changed q) os opened all others = all
all_after o (rolled bs) os opened all others = all

all_arms : (e : Held) (os : List Open) (opened : Feeds) → AllOpen opened os → AreOpen opened (map (arm_of e) os)
all_arms e [] opened all = tt
all_arms e (o ∷ os) opened all = (all.0, all_arms e os opened all.1)

-- what is told where a feed is told
arms_held : (e : Held) (os : List Open) → feeds_in (map (arm_of e) os) ≡ held_of os
arms_held e [] = refl
arms_held e (o ∷ os) = ap (λ z. (o.slot, o.feed) ∷ z) (arms_held e os)

other_way : (n number : ℕ) (f : ℕ × ℕ) → is_feed f.0 f.1 (n, number) ≡ false → is_feed n number f ≡ false
other_way n number f h = by_it (is_feed n number f) refl
  where
    by_it : (b : Bool) → is_feed n number f ≡ b → b ≡ false
    by_it true e =
        let itself : is_feed n number (n, number) ≡ false = subst (λ (z : ℕ × ℕ). is_feed z.0 z.1 (n, number) ≡ false) (is_this n number f e) h in
        absurd (true≢false (sym (is_itself n number) ∙ itself))
    by_it false e = refl

neither : (a b : Bool) → a ≡ false → b ≡ false → (a || b) ≡ false
neither true b h e = h
neither false b h e = e

none_held : (o : Open) (os : List Open) → OthersThan o os → has_feed o.slot o.feed (held_of os) ≡ false
none_held o [] others = refl
none_held o (x ∷ os) others =
    neither (is_feed o.slot o.feed (x.slot, x.feed)) (has_feed o.slot o.feed (held_of os)) (other_way o.slot o.feed (x.slot, x.feed) others.0) (none_held o os others.1)

apart_held : (os : List Open) → Apart os → are_apart (held_of os) ≡ true
apart_held [] apart = refl
apart_held (o ∷ os) apart = both (not (has_feed o.slot o.feed (held_of os))) (are_apart (held_of os)) (ap not (none_held o os apart.0)) (apart_held os apart.1)

more_than_none : (n : ℕ) → 0 < suc n
more_than_none n = omega arith

arms_some : (e : Held) (os : List Open) → HasOne os → 0 < length (map (arm_of e) os)
arms_some e [] some = absurd some
arms_some e (o ∷ os) some = more_than_none (length (map (arm_of e) os))

tells_all : (e : Held) (os : List Open) (opened : Feeds) → opened ≡ held_of os → AllOpen opened os → Apart os → HasOne os → TellsAll opened (map (arm_of e) os)
tells_all e os opened same all apart some = record {
  are = all_arms e os opened all;
  all = arms_held e os ∙ sym same;
  apart = ap are_apart same ∙ apart_held os apart;
  some = arms_some e os some;
}

minds_closing : {A : Type 0} (e : Held) (why : Reason) (os : List Open) (opened : Feeds) (on : A → Request) → AllOpen opened os → Apart os → Minds opened (closing e why os on)
minds_closing e why [] opened on all apart = tt
minds_closing e why (o ∷ os) opened on all apart =
    (all.0, λ h. minds_closing e why os (with_ran o.slot (cmds.Unsubscribe o.feed) h opened) on (all_after o h os opened all.1 apart.0) apart.1)

-- the moves after an opening go on with one more that is open
abbrev Goes : List Open → (Open → Request) → Type 0
Goes before on = (k : Open) (more : Feeds) → more ≡ held_of (before ++ k ∷ []) → AllOpen more (before ++ k ∷ []) → Apart (before ++ k ∷ []) → Minds more (on k)

-- what is open there: just what was opened before, each another
pub record Opened (opened : Feeds) (before : List Open) : Type 0 where
  pub same : opened ≡ held_of before
  pub all : AllOpen opened before
  pub apart : Apart before

minds_opened : (b : Bool) (k : Open) (before : List Open) (more : Feeds) (on : Open → Request) → is_among k.slot k.feed before ≡ b → more ≡ held_of (before ++ k ∷ []) → AllOpen more (before ++ k ∷ []) → Apart before → Goes before on →
    Minds more ((cond b lost (give k)) on)
minds_opened true k before more on e same all apart go = tt
minds_opened false k before more on e same all apart go = go k more same all (apart_with before k apart e)

minds_said : (e : Held) (before : List Open) (o : Opening) (stamp : ℕ) (s : Replied) (opened : Feeds) (on : Open → Request) → Opened opened before → Goes before on →
    Minds (with_opened o.slot s opened) (opened_by e before o stamp s on)
minds_said e before o stamp (said.Done x) opened on is go = tt
minds_said e before o stamp (said.HistoryFull count) opened on is go = minds_closing e _ before opened on is.all is.apart
minds_said e before o stamp said.Changed opened on is go = tt
minds_said e before o stamp said.IndexExists opened on is go = tt
minds_said e before o stamp said.IndexMissing opened on is go = minds_closing e _ before opened on is.all is.apart
minds_said e before o stamp (said.Opened f items) opened on is go =
    let k : Open = record { slot = o.slot; feed = f; stamp = stamp; opening = items } in
    let more : Feeds = opened ++ (o.slot, f) ∷ [] in
    minds_opened (is_among o.slot f before) k before more on refl (held_with opened before k is.same)
    (all_with more before k (all_more (o.slot, f) opened before is.all) (has_last o.slot f opened)) is.apart go
minds_said e before o stamp (said.FeedsFull count) opened on is go = minds_closing e _ before opened on is.all is.apart
minds_said e before o stamp (said.Batch skipped last items) opened on is go = tt
minds_said e before o stamp said.Nothing opened on is go = tt
minds_said e before o stamp (said.FeedUnknown f) opened on is go = tt
minds_said e before o stamp said.Closed opened on is go = tt
minds_said e before o stamp said.Gone opened on is go = minds_closing e _ before opened on is.all is.apart

minds_kept : (e : Held) (before : List Open) (o : Opening) (r : Reply) (v : Saved) (opened : Feeds) (on : Open → Request) → Opened opened before → Goes before on →
    Minds (with_opened o.slot r.said opened) (opened_if e before o r v on)
minds_kept e before o r saved.Yes opened on is go = minds_said e before o r.stamp r.said opened on is go
minds_kept e before o r saved.Failed opened on is go = tt
minds_kept e before o r saved.Memory opened on is go = tt

minds_heard : (e : Held) (before : List Open) (o : Opening) (h : Heard) (opened : Feeds) (on : Open → Request) → Opened opened before → Goes before on →
    Minds (with_ran o.slot (cmds.Subscribe o.spec) h opened) (open_heard e before o h on)
minds_heard e before o (names ns) opened on is go = tt
minds_heard e before o (told m) opened on is go = tt
minds_heard e before o (looked at) opened on is go = tt
minds_heard e before o (ran r q) opened on is go = minds_kept e before o r q opened on is go
minds_heard e before o (changed q) opened on is go = tt
minds_heard e before o (rolled bs) opened on is go = tt

-- one is opened at least, where one was before or is to be
abbrev Fills : List Open → List Opening → Type 0
Fills before [] = HasOne before
Fills before (o ∷ os) = Unit {0}

one_more : (before : List Open) (k : Open) → HasOne (before ++ k ∷ [])
one_more [] k = tt
one_more (o ∷ before) k = tt

fills_next : (before : List Open) (k : Open) (os : List Opening) → Fills (before ++ k ∷ []) os
fills_next before k [] = one_more before k
fills_next before k (o ∷ os) = tt

fills_first : (os : List Opening) → HasOne os → Fills [] os
fills_first [] some = absurd some
fills_first (o ∷ os) some = tt

minds_subscribed : (e : Held) (before : List Open) (os : List Opening) (opened : Feeds) (on : List Open → Request) → Opened opened before → Fills before os → ((a : List Open) (more : Feeds) → Opened more a → HasOne a → Minds more (on a)) →
    Minds opened (subscribed e before os on)
minds_subscribed e before [] opened on is some k = k before opened is some
minds_subscribed e before (o ∷ os) opened on is some k = (
  tt,
  λ h. minds_heard e before o h opened (λ x. subscribed e (before ++ x ∷ []) os on) is
      (λ x more same all apart. minds_subscribed e (before ++ x ∷ []) os more on (record { same = same; all = all; apart = apart }) (fills_next before x os) k),
)

none_opened : Opened [] []
none_opened = record { same = refl; all = tt; apart = tt }

keeps_opens : (e : Held) (f : Feeding) → HasOne f.openings → Concludes (opens e f)
keeps_opens e f some on k = minds_subscribed e [] f.openings [] _ none_opened (fills_first f.openings some)
    (λ os more is one. k _ more (tells_all e os more is.same is.all is.apart one))

keeps_changes : (e : Held) (fs : Forms) (ms : NamedForms) → Concludes (changes e fs ms)
keeps_changes e fs ms on k = from_ok (feeding e fs ms) [] _
    (λ f is. ends_cond e.setting.noreply (give unsent) (cond (has_room e.setting) (opens e f) (refuse too_many_cursors)) (λ q j. j unsent [] tt)
    (ends_cond (has_room e.setting) (opens e f) (refuse too_many_cursors) (keeps_opens e f (feeding_some e fs ms f is)) (λ q j. tt)) on k)

-- ---- values, and what stands at the root
keeps_shown_as : (e : Held) (s : Shown) → Concludes (shown_as e s)
keeps_shown_as e (values.atom d) on k = k _ [] tt
keeps_shown_as e (values.groups gs) on k = k _ [] tt
keeps_shown_as e (values.sequence ds) on k = ends_cond (fits_in e ds) (give (sequence ds)) (refuse too_many_cursors) (λ q j. j (sequence ds) [] refl) (λ q j. tt) on k

keeps_shown : (e : Held) (f : Form) → Concludes (shown e f)
keeps_shown e f on k = stays_from (meant_of e.world f) [] _ (λ m. stays_from (values.shown e.world m) [] _ (λ s. keeps_shown_as e s on k))

keeps_task : (e : Held) (t : Task) (o : Op) (fs : Forms) (ms : NamedForms) (arms : Moves Outcome) → Concludes arms → Concludes (by_task e t o fs ms arms)
keeps_task e task.Value o fs ms arms ka on k = keeps_shown e (operation o fs ms) on k
keeps_task e task.Branch o fs ms arms ka on k = ends_cond (any_command fs) arms (shown e (operation o fs ms)) ka (keeps_shown e (operation o fs ms)) on k
keeps_task e task.ForEach o fs ms arms ka on k = keeps_for_each e fs on k
keeps_task e task.Write o fs ms arms ka on k = keeps_wrote e (operation o fs ms) on k
keeps_task e task.Catalogue o fs ms arms ka on k = keeps_catalogue e o fs ms on k
keeps_task e task.Index o fs ms arms ka on k = keeps_table e o fs ms on k
keeps_task e task.Sync o fs ms arms ka on k = keeps_table e o fs ms on k
keeps_task e task.Feed o fs ms arms ka on k = keeps_changes e fs ms on k

mutual
  keeps_carried : (e : Held) (f : Form) → Concludes (carried e f)
  keeps_carried e (literal d) on k = keeps_shown e (literal d) on k
  keeps_carried e (several fs) on k = keeps_shown e (several fs) on k
  keeps_carried e (keyed ms) on k = keeps_shown e (keyed ms) on k
  keeps_carried e (variable n) on k = keeps_shown e (variable n) on k
  keeps_carried e implicit on k = keeps_shown e implicit on k
  keeps_carried e (function ids f) on k = keeps_shown e (function ids f) on k
  keeps_carried e (slot n) on k = keeps_shown e (slot n) on k
  keeps_carried e (operation o fs ms) on k = keeps_task e (task_of o) o fs ms (branched e fs) (keeps_branched e fs) on k

  keeps_branched : (e : Held) (fs : Forms) → Concludes (branched e fs)
  keeps_branched e no_forms on k = tt
  keeps_branched e (form f no_forms) on k = keeps_carried e f on k
  keeps_branched e (form f (form g fs)) on k = stays_from (datum_of e.world f) [] (λ d. cond (truth d) (carried e g) (branched e fs) on)
      (λ d. ends_cond (truth d) (carried e g) (branched e fs) (keeps_carried e g) (keeps_branched e fs) on k)

-- ---- the whole
keeps_read : (p : Plan) (s : Setting) (ns : Named) (f : Form) → Concludes (read p s ns f)
keeps_read p s ns f on k = stays_looks ns nothing_read (read_slots f) [] (λ r. carried (held p s ns r) f on) (λ r. keeps_carried (held p s ns r) f on k)

keeps_timed : (p : Plan) (s : Setting) (ns : Named) (f : Form) → Concludes (timed p s ns f)
keeps_timed p s ns f on k = (tt, λ h. stays_moment h [] _ (λ n. stays_from (rewritten (now_rule n) f) [] _ (λ g. keeps_read p s ns g on k)))

keeps_resolving : (p : Plan) (s : Setting) (ns : Named) → Concludes (resolving p s ns)
keeps_resolving p s ns on k = stays_from (resolved ns p.db p.term) [] _
    (λ f. stays_cond (leaks false f) (refuse undetermined) (give f) (λ o q j. tt) (λ o q j. j f) [] _
    (λ g. ends_cond (has_now g) (timed p s ns g) (read p s ns g) (keeps_timed p s ns g) (keeps_read p s ns g) on k))

keeps_course : (p : Plan) (s : Setting) → Concludes (course p s)
keeps_course p s on k = (tt, λ h. stays_names h [] (λ ns. resolving p s ns on) (λ ns. keeps_resolving p s ns on k))

pub plans_mind : PlansMind
plans_mind p s = keeps_course p s ends (λ o more may. may)
