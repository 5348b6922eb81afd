-- What every feed is that a plan asks a slot for, along all its moves: that it is followed, and whose it is.
use Rattle.std.proofs.Common.{◌≡◌, ℕ, ℤ, zero, suc, List, [], ◌∷◌, ◌++◌, Option, Some, None, Bool, true, false, true≢false, cond, Ok, Err, refl, sym, ap, subst, ◌∙◌}
use Rattle.std.specs.List.{AllByRecursion}
use Rattle.reql_datum.specs.Answer.{Answer, Reason}
use Rattle.reql_datum.specs.Plain.{Plain}
use Rattle.reql_datum.specs.Whole.{is_in}
use Rattle.reql_datum.specs.declared.whole.NumFault.TheVariants.{OverRange}
use Rattle.reql_rewrite.specs.Rewrite.{rewritten}
use Rattle.reql_rules.specs.Faults.{number_fault}
use Rattle.reql_rules.specs.Types.{truth}
use Rattle.reql_rules.specs.Lists.{Bytes}
use Rattle.reql_term.specs.Form.{Form, literal, several, keyed, variable, implicit, function, slot, operation, Forms, no_forms, form, NamedForms}
use Rattle.reql_term.specs.Table.{task_of}
use Rattle.reql_term.specs.Views.{Document}
use Rattle.reql_term.specs.declared.op.Op.{Op}
use Rattle.reql_term.specs.declared.role.Task.{Task}
use Rattle.reql_term.specs.declared.role.Task.TheVariants as task
use Rattle.reql_catalog.specs.Catalog.{Named}
use Rattle.reql_catalog.specs.declared.command.CatCmd.{CatCmd}
use Rattle.reql_catalog.specs.declared.command.CatSaid.{CatSaid}
use Rattle.reql_catalog.specs.declared.command.CatSaid.TheVariants as cat_said
use Rattle.reql_faults.specs.Faults.{plan_fault}
use Rattle.reql_faults.specs.Places.{first, second}
use Rattle.reql_naming.specs.Named.{resolved}
use Rattle.reql_value_spec.specs.Shown as values
use Rattle.reql_value_spec.specs.Shown.{Shown}
use Rattle.reql_write_spec.specs.declared.command.Summary.{Summary}
use Rattle.reql_table_spec.specs.Indexes.{Indexes}
use Rattle.reql_table_spec.specs.Machine.{Seen}
use Rattle.reql_table_spec.specs.declared.command.Cmd.{Cmd}
use Rattle.reql_table_spec.specs.declared.command.Cmd.TheVariants as cmds
use Rattle.reql_table_spec.specs.declared.command.FeedSpec.{FeedSpec}
use Rattle.reql_table_spec.specs.declared.command.Order.{Order}
use Rattle.reql_table_spec.specs.Replies.{Answered as Reply}
use Rattle.reql_table_machine_spec.specs.declared.command.Said.TheVariants as said
use Rattle.reql_table_spec.specs.declared.reply.Saved.{Saved}
use Rattle.reql_table_spec.specs.declared.reply.Saved.TheVariants as saved
use Rattle.reql_plan_spec.specs.declared.parts.Plan.{Plan}
use Rattle.reql_plan_spec.specs.declared.parts.Setting.{Setting}
use Rattle.reql_plan_spec.specs.declared.parts.Prepared.{Prepared}
use Rattle.reql_plan_spec.specs.declared.parts.Commanded.{Commanded}
use Rattle.reql_plan_spec.specs.declared.parts.Opening.{Opening}
use Rattle.reql_plan_spec.specs.declared.parts.TableCmd.{TableCmd}
use Rattle.reql_plan_spec.specs.declared.parts.TableCmd.TheVariants as tables
use Rattle.reql_plan_spec.specs.Commands.{cat_command, table_command, cmd_of}
use Rattle.reql_plan_spec.specs.Course.{Open, lost, names_heard, moment_by, moment_heard, seen_at, seen_heard, looks, said_by, kept_by, reply_heard, command, key_by, key_heard, keys, summary_said, run_write, write, wrote, round, rounds, each_of, for_each, shuts, changed_by, change_heard, change_catalogue, table_said, change_table, closing, is_among, opened_by, opened_if, open_heard, subscribed, opens, changes, has_room, fits_in, shown_as, shown, any_command, by_task, carried, branched, held, read, timed, at_moment, resolving, sent, plan_next}
use Rattle.reql_plan_spec.specs.Feeding.{Feeding, feeding}
use Rattle.reql_plan_spec.specs.Follows.{IsRead, are_planned}
use Rattle.reql_plan_spec.specs.Held.{Held, Read, nothing_read}
use Rattle.reql_plan_spec.specs.Move.{Ask, run, roll, Replied, Heard, names, told, looked, ran, changed, rolled, Outcome, unsent, sequence, feed}
use Rattle.reql_plan_spec.specs.Opens.{is_asked, AskedFeedsAreRead}
use Rattle.reql_plan_spec.specs.Reads.{has_now, leaks, now_rule, read_slots, with_element}
use Rattle.reql_plan_spec.specs.Request.{Request, ends, asks, Moves, give, refuse, from, Next, answered, moves, next}
use Rattle.reql_plan_spec.specs.Settled.{there, meant_of, datum_of, sequence_of}
use Rattle.reql_plan_spec.specs.Summed.{added, nothing_done}
use Rattle.reql_plan_spec.specs.Texts.{undetermined, too_many_cursors}
use Rattle.reql_plan_spec.specs.Writes.{prepared, with_keys}
use Rattle.reql_plan_spec.proofs.Carried.{Sound, SoundAt, AreBelow, SoundBy, resolved_sound, sound_then}
use Rattle.reql_plan_spec.proofs.Opened.{feeds_are_read}

-- What is so of every feed that is asked for, and wherever a request ends with a feed.
module _ (P : ℕ → FeedSpec → Type 0) (R : Type 0) where
  -- a feed that is asked for on a slot is such a one
  abbrev pub IsFollowed : ℕ → Cmd → Type 0
  IsFollowed n (cmds.Subscribe spec) = P n spec
  IsFollowed n c = Unit {0}

  abbrev pub Follows : Ask → Type 0
  Follows (run n order) = IsFollowed n order.cmd
  Follows q = Unit {0}

  abbrev pub EndsBy : Outcome → Type 0
  EndsBy (feed arms notes items) = R
  EndsBy o = Unit {0}

  -- at each move of a request, whatever it is answered
  abbrev pub Always : Request → Type 0
  Always (ends o) = EndsBy o
  Always (asks q on) = Follows q × ((h : Heard) → Always (on h))

  abbrev pub Keeps : {A : Type 0} → Moves A → Type 0
  Keeps {A} m = (on : A → Request) → ((a : A) → Always (on a)) → Always (m on)

  -- and so of what gives an outcome
  abbrev pub Gives : Moves Outcome → Type 0
  Gives m = (on : Outcome → Request) → ((o : Outcome) → EndsBy o → Always (on o)) → Always (m on)

  keeps_from : {A : Type 0} (x : Answer A) → Keeps (from x)
  keeps_from (Ok a) on k = k a
  keeps_from (Err e) on k = tt

  -- where what an evaluation gave is known on the way
  from_ok : {A : Type 0} (x : Answer A) (on : A → Request) → ((a : A) → x ≡ Ok a → Always (on a)) → Always (from x on)
  from_ok (Ok a) on k = k a refl
  from_ok (Err e) on k = tt

  keeps_cond : {A : Type 0} (b : Bool) (m n : Moves A) → Keeps m → Keeps n → Keeps (cond b m n)
  keeps_cond true m n km kn on k = km on k
  keeps_cond false m n km kn on k = kn on k

  pub gives_cond : (b : Bool) (m n : Moves Outcome) → Gives m → Gives n → Gives (cond b m n)
  gives_cond true m n km kn on k = km on k
  gives_cond false m n km kn on k = kn on k

  -- ---- what is heard
  keeps_names : (h : Heard) → Keeps (names_heard h)
  keeps_names (names ns) on k = k ns
  keeps_names (told n) on k = tt
  keeps_names (looked at) on k = tt
  keeps_names (ran r q) on k = tt
  keeps_names (changed r) on k = tt
  keeps_names (rolled bs) on k = tt

  keeps_moment_by : (n : Option ℤ) → Keeps (moment_by n)
  keeps_moment_by None on k = tt
  keeps_moment_by (Some n) on k = keeps_cond (is_in n) (give n) (refuse (number_fault OverRange)) (λ q j. j n) (λ q j. tt) on k

  keeps_moment : (h : Heard) → Keeps (moment_heard h)
  keeps_moment (names ns) on k = tt
  keeps_moment (told n) on k = keeps_moment_by n on k
  keeps_moment (looked at) on k = tt
  keeps_moment (ran r q) on k = tt
  keeps_moment (changed r) on k = tt
  keeps_moment (rolled bs) on k = tt

  keeps_seen_at : (ns : Named) (r : Read) (n : ℕ) (at : Seen) (o : Option (List Document × Indexes)) → Keeps (seen_at ns r n at o)
  keeps_seen_at ns r n at None on k = tt
  keeps_seen_at ns r n at (Some found) on k = k _

  keeps_seen : (ns : Named) (r : Read) (n : ℕ) (h : Heard) → Keeps (seen_heard ns r n h)
  keeps_seen ns r n (names ns') on k = tt
  keeps_seen ns r n (told m) on k = tt
  keeps_seen ns r n (looked at) on k = keeps_seen_at ns r n at at.view on k
  keeps_seen ns r n (ran q v) on k = tt
  keeps_seen ns r n (changed q) on k = tt
  keeps_seen ns r n (rolled bs) on k = tt

  keeps_looks : (ns : Named) (r : Read) (slots : List ℕ) → Keeps (looks ns r slots)
  keeps_looks ns r [] on k = k r
  keeps_looks ns r (n ∷ rest) on k = (tt, λ h. keeps_seen ns r n h (λ s. looks ns s rest on) (λ s. keeps_looks ns s rest on k))

  -- ---- commands
  keeps_said : (ns : Named) (n : ℕ) (s : Replied) → Keeps (said_by ns n s)
  keeps_said ns n (said.Done x) on k = k _
  keeps_said ns n (said.HistoryFull count) on k = tt
  keeps_said ns n said.Changed on k = k _
  keeps_said ns n said.IndexExists on k = k _
  keeps_said ns n said.IndexMissing on k = k _
  keeps_said ns n (said.Opened f items) on k = k _
  keeps_said ns n (said.FeedsFull count) on k = k _
  keeps_said ns n (said.Batch skipped last items) on k = k _
  keeps_said ns n said.Nothing on k = k _
  keeps_said ns n (said.FeedUnknown f) on k = k _
  keeps_said ns n said.Closed on k = k _
  keeps_said ns n said.Gone on k = tt

  keeps_kept : (ns : Named) (n : ℕ) (s : Replied) (v : Saved) → Keeps (kept_by ns n s v)
  keeps_kept ns n s saved.Yes on k = keeps_said ns n s on k
  keeps_kept ns n s saved.Failed on k = tt
  keeps_kept ns n s saved.Memory on k = tt

  keeps_reply : (ns : Named) (n : ℕ) (h : Heard) → Keeps (reply_heard ns n h)
  keeps_reply ns n (names ns') on k = tt
  keeps_reply ns n (told m) on k = tt
  keeps_reply ns n (looked at) on k = tt
  keeps_reply ns n (ran r q) on k = keeps_kept ns n r.said q on k
  keeps_reply ns n (changed q) on k = tt
  keeps_reply ns n (rolled bs) on k = tt

  keeps_command : (e : Held) (n : ℕ) (c : Cmd) → IsFollowed n c → Keeps (command e n c)
  keeps_command e n c may on k = (may, λ h. keeps_reply e.names n h on k)

  -- ---- writes
  keeps_key_by : (bs : Option Bytes) → Keeps (key_by bs)
  keeps_key_by None on k = tt
  keeps_key_by (Some bs) on k = k _

  keeps_key : (h : Heard) → Keeps (key_heard h)
  keeps_key (names ns) on k = tt
  keeps_key (told m) on k = tt
  keeps_key (looked at) on k = tt
  keeps_key (ran r q) on k = tt
  keeps_key (changed q) on k = tt
  keeps_key (rolled bs) on k = keeps_key_by bs on k

  keeps_keys : (made : List Plain) (n : ℕ) → Keeps (keys made n)
  keeps_keys made zero on k = k made
  keeps_keys made (suc n) on k = (tt, λ h. keeps_key h (λ d. keys (made ++ d ∷ []) n on) (λ d. keeps_keys (made ++ d ∷ []) n on k))

  keeps_summary : (s : Replied) → Keeps (summary_said s)
  keeps_summary (said.Done x) on k = k x
  keeps_summary (said.HistoryFull count) on k = tt
  keeps_summary said.Changed on k = tt
  keeps_summary said.IndexExists on k = tt
  keeps_summary said.IndexMissing on k = tt
  keeps_summary (said.Opened f items) on k = tt
  keeps_summary (said.FeedsFull count) on k = tt
  keeps_summary (said.Batch skipped last items) on k = tt
  keeps_summary said.Nothing on k = tt
  keeps_summary (said.FeedUnknown f) on k = tt
  keeps_summary said.Closed on k = tt
  keeps_summary said.Gone on k = tt

  keeps_run_write : (e : Held) (p : Prepared) (before : List Plain) (left : ℕ) → Keeps (run_write e p before left)
  keeps_run_write e p before left on k = keeps_keys before left
      (λ made. command e p.slot (cmds.Write (with_keys made p.cmd)) (λ s. summary_said s on))
      (λ made. keeps_command e p.slot (cmds.Write (with_keys made p.cmd)) tt (λ s. summary_said s on) (λ s. keeps_summary s on k))

  keeps_write : (e : Held) (f : Form) → Keeps (write e f)
  keeps_write e f on k = keeps_from (prepared e f) (λ p. run_write e p [] p.rolls on) (λ p. keeps_run_write e p [] p.rolls on k)

  pub keeps_wrote : (e : Held) (f : Form) → Gives (wrote e f)
  keeps_wrote e f on k = keeps_write e f _ (λ s. k _ tt)

  keeps_round : (e : Held) (id : ℕ) (d : Plain) (total : Summary) (ws : List Form) → Keeps (round e id d total ws)
  keeps_round e id d total [] on k = k total
  keeps_round e id d total (w ∷ ws) on k = keeps_from (with_element id d w)
      (λ f. write e f (λ s. round e id d (added total s) ws on))
      (λ f. keeps_write e f (λ s. round e id d (added total s) ws on) (λ s. keeps_round e id d (added total s) ws on k))

  keeps_rounds : (e : Held) (id : ℕ) (ws : List Form) (total : Summary) (ds : List Plain) → Keeps (rounds e id ws total ds)
  keeps_rounds e id ws total [] on k = k total
  keeps_rounds e id ws total (d ∷ ds) on k = keeps_round e id d total ws (λ t. rounds e id ws t ds on) (λ t. keeps_rounds e id ws t ds on k)

  keeps_each : (f : Form) → Keeps (each_of f)
  keeps_each (literal d) on k = tt
  keeps_each (several fs) on k = tt
  keeps_each (keyed ms) on k = tt
  keeps_each (variable n) on k = tt
  keeps_each implicit on k = tt
  keeps_each (function ids f) on k = k _
  keeps_each (slot n) on k = tt
  keeps_each (operation o fs ms) on k = tt

  pub keeps_for_each : (e : Held) (fs : Forms) → Gives (for_each e fs)
  keeps_for_each e fs on k = keeps_from (there (first fs)) _
      (λ f. keeps_from (sequence_of e.world f) _
      (λ ds. keeps_from (there (second fs)) _
      (λ g. keeps_each g _
      (λ b. keeps_rounds e b.id b.writes nothing_done ds _ (λ s. k _ tt)))))

  -- ---- the catalogue and indexes
  keeps_shuts : (e : Held) (slots : List ℕ) → Keeps (shuts e slots)
  keeps_shuts e [] on k = k tt
  keeps_shuts e (n ∷ ns) on k = keeps_command e n cmds.Shut tt (λ s. shuts e ns on) (λ s. keeps_shuts e ns on k)

  keeps_changed : (e : Held) (c : CatCmd) (s : CatSaid) → Gives (changed_by e c s)
  keeps_changed e c cat_said.Made on k = k _ tt
  keeps_changed e c (cat_said.Dropped slots) on k = keeps_shuts e slots _ (λ u. k _ tt)
  keeps_changed e c cat_said.DbExists on k = tt
  keeps_changed e c cat_said.DbMissing on k = tt
  keeps_changed e c cat_said.TableExists on k = tt
  keeps_changed e c cat_said.TableMissing on k = tt
  keeps_changed e c (cat_said.SlotsFull count) on k = tt
  keeps_changed e c cat_said.BadName on k = tt
  keeps_changed e c (cat_said.HistoryFull count) on k = tt

  keeps_change : (e : Held) (c : CatCmd) (h : Heard) → Gives (change_heard e c h)
  keeps_change e c (names ns) on k = tt
  keeps_change e c (told m) on k = tt
  keeps_change e c (looked at) on k = tt
  keeps_change e c (ran r q) on k = tt
  keeps_change e c (changed r) on k = keeps_changed e c r.said on k
  keeps_change e c (rolled bs) on k = tt

  pub keeps_catalogue : (e : Held) (o : Op) (fs : Forms) (ms : NamedForms) → Gives (change_catalogue e o fs ms)
  keeps_catalogue e o fs ms on k = keeps_from (cat_command e o fs ms) _ (λ c. (tt, λ h. keeps_change e c h on k))

  no_feed : (n : ℕ) (c : TableCmd) → IsFollowed n (cmd_of c)
  no_feed n (tables.IndexCreate d) = tt
  no_feed n (tables.IndexDrop name) = tt
  no_feed n (tables.IndexRename old new overwrite) = tt
  no_feed n tables.Sync = tt

  keeps_table_said : (c : Commanded) (s : Replied) → Gives (table_said c s)
  keeps_table_said c (said.Done x) on k = tt
  keeps_table_said c (said.HistoryFull count) on k = tt
  keeps_table_said c said.Changed on k = k _ tt
  keeps_table_said c said.IndexExists on k = tt
  keeps_table_said c said.IndexMissing on k = tt
  keeps_table_said c (said.Opened f items) on k = tt
  keeps_table_said c (said.FeedsFull count) on k = tt
  keeps_table_said c (said.Batch skipped last items) on k = tt
  keeps_table_said c said.Nothing on k = tt
  keeps_table_said c (said.FeedUnknown f) on k = tt
  keeps_table_said c said.Closed on k = tt
  keeps_table_said c said.Gone on k = tt

  pub keeps_table : (e : Held) (o : Op) (fs : Forms) (ms : NamedForms) → Gives (change_table e o fs ms)
  keeps_table e o fs ms on k = keeps_from (table_command e o fs ms) _
      (λ c. keeps_command e c.slot (cmd_of c.cmd) (no_feed c.slot c.cmd) (λ s. table_said c s on) (λ s. keeps_table_said c s on k))

  -- ---- feeds
  pub keeps_closing : {A : Type 0} (e : Held) (why : Reason) (os : List Open) (on : A → Request) → Always (closing e why os on)
  keeps_closing e why [] on = tt
  keeps_closing e why (o ∷ os) on = (tt, λ h. keeps_closing e why os on)

  keeps_opened : (e : Held) (before : List Open) (o : Opening) (stamp : ℕ) (s : Replied) → Keeps (opened_by e before o stamp s)
  keeps_opened e before o stamp (said.Done x) on k = tt
  keeps_opened e before o stamp (said.HistoryFull count) on k = keeps_closing e _ before on
  keeps_opened e before o stamp said.Changed on k = tt
  keeps_opened e before o stamp said.IndexExists on k = tt
  keeps_opened e before o stamp said.IndexMissing on k = keeps_closing e _ before on
  keeps_opened e before o stamp (said.Opened f items) on k =
      let one : Open = record { slot = o.slot; feed = f; stamp = stamp; opening = items } in
      keeps_cond (is_among o.slot f before) lost (give one) (λ q j. tt) (λ q j. j one) on k
  keeps_opened e before o stamp (said.FeedsFull count) on k = keeps_closing e _ before on
  keeps_opened e before o stamp (said.Batch skipped last items) on k = tt
  keeps_opened e before o stamp said.Nothing on k = tt
  keeps_opened e before o stamp (said.FeedUnknown f) on k = tt
  keeps_opened e before o stamp said.Closed on k = tt
  keeps_opened e before o stamp said.Gone on k = keeps_closing e _ before on

  keeps_opened_if : (e : Held) (before : List Open) (o : Opening) (r : Reply) (v : Saved) → Keeps (opened_if e before o r v)
  keeps_opened_if e before o r saved.Yes on k = keeps_opened e before o r.stamp r.said on k
  keeps_opened_if e before o r saved.Failed on k = tt
  keeps_opened_if e before o r saved.Memory on k = tt

  keeps_heard : (e : Held) (before : List Open) (o : Opening) (h : Heard) → Keeps (open_heard e before o h)
  keeps_heard e before o (names ns) on k = tt
  keeps_heard e before o (told m) on k = tt
  keeps_heard e before o (looked at) on k = tt
  keeps_heard e before o (ran r q) on k = keeps_opened_if e before o r q on k
  keeps_heard e before o (changed q) on k = tt
  keeps_heard e before o (rolled bs) on k = tt

  keeps_subscribed : (e : Held) (before : List Open) (os : List Opening) → AllByRecursion (λ o. P o.slot o.spec) os → Keeps (subscribed e before os)
  keeps_subscribed e before [] all on k = k before
  keeps_subscribed e before (o ∷ os) all on k =
      (all.0, λ h. keeps_heard e before o h (λ x. subscribed e (before ++ x ∷ []) os on) (λ x. keeps_subscribed e (before ++ x ∷ []) os all.1 on k))

  keeps_opens : (e : Held) (f : Feeding) → R → AllByRecursion (λ o. P o.slot o.spec) f.openings → Gives (opens e f)
  keeps_opens e f r all on k = keeps_subscribed e [] f.openings all _ (λ os. k _ r)

  -- ---- values, and what stands below the root: there no feed is asked for
  keeps_shown_as : (e : Held) (s : Shown) → Gives (shown_as e s)
  keeps_shown_as e (values.atom d) on k = k _ tt
  keeps_shown_as e (values.groups gs) on k = k _ tt
  keeps_shown_as e (values.sequence ds) on k = gives_cond (fits_in e ds) (give (sequence ds)) (refuse too_many_cursors) (λ q j. j (sequence ds) tt)
      (λ q j. tt) on k

  pub keeps_shown : (e : Held) (f : Form) → Gives (shown e f)
  keeps_shown e f on k = keeps_from (meant_of e.world f) _ (λ m. keeps_from (values.shown e.world m) _ (λ s. keeps_shown_as e s on k))

  keeps_task : (e : Held) (t : Task) (o : Op) (fs : Forms) (ms : NamedForms) (arms : Moves Outcome) → SoundBy t false fs (AreBelow fs)
      → (AreBelow fs → Gives arms) → Gives (by_task e t o fs ms arms)
  keeps_task e task.Value o fs ms arms s ka on k = keeps_shown e (operation o fs ms) on k
  keeps_task e task.Branch o fs ms arms s ka on k = gives_cond (any_command fs) arms (shown e (operation o fs ms)) (ka s)
      (keeps_shown e (operation o fs ms)) on k
  keeps_task e task.ForEach o fs ms arms s ka on k = keeps_for_each e fs on k
  keeps_task e task.Write o fs ms arms s ka on k = keeps_wrote e (operation o fs ms) on k
  keeps_task e task.Catalogue o fs ms arms s ka on k = keeps_catalogue e o fs ms on k
  keeps_task e task.Index o fs ms arms s ka on k = keeps_table e o fs ms on k
  keeps_task e task.Sync o fs ms arms s ka on k = keeps_table e o fs ms on k
  keeps_task e task.Feed o fs ms arms s ka on k = absurd s

  mutual
    keeps_below : (e : Held) (f : Form) → SoundAt false f → Gives (carried e f)
    keeps_below e (literal d) s on k = keeps_shown e (literal d) on k
    keeps_below e (several fs) s on k = keeps_shown e (several fs) on k
    keeps_below e (keyed ms) s on k = keeps_shown e (keyed ms) on k
    keeps_below e (variable n) s on k = keeps_shown e (variable n) on k
    keeps_below e implicit s on k = keeps_shown e implicit on k
    keeps_below e (function ids f) s on k = keeps_shown e (function ids f) on k
    keeps_below e (slot n) s on k = keeps_shown e (slot n) on k
    keeps_below e (operation o fs ms) s on k = keeps_task e (task_of o) o fs ms (branched e fs) s (λ arms. keeps_branched e fs arms) on k

    pub keeps_branched : (e : Held) (fs : Forms) → AreBelow fs → Gives (branched e fs)
    keeps_branched e no_forms s on k = tt
    keeps_branched e (form f no_forms) s on k = keeps_below e f s.0 on k
    keeps_branched e (form f (form g fs)) s on k = keeps_from (datum_of e.world f) (λ d. cond (truth d) (carried e g) (branched e fs) on)
        (λ d. gives_cond (truth d) (carried e g) (branched e fs) (keeps_below e g s.1.0) (keeps_branched e fs s.1.1) on k)

  leak_by : (b : Bool) (f : Form) (on : Form → Request) → (b ≡ false → Always (on f)) → Always (cond b (refuse undetermined) (give f) on)
  leak_by true f on k = tt
  leak_by false f on k = k refl

  -- ---- what a plan asks after its answers so far
  abbrev is_move : Next → Bool
  is_move (answered o) = false
  is_move (moves q) = true

  abbrev move_in : Next → Ask
  move_in (answered o) = roll
  move_in (moves q) = q

  asks_followed : (s : Setting) (r : Request) (hs : List Heard) (q : Ask) → Always r → sent s (next r hs) ≡ moves q → Follows q
  asks_followed s (ends o) hs q a h = absurd (true≢false (sym (ap is_move h)))
  asks_followed s (asks x on) [] q a h = subst Follows (ap move_in h) a.0
  asks_followed s (asks x on) (y ∷ hs) q a h = asks_followed s (on y) hs q (a.1 y) h

  -- What holds of every opening of CHANGES with planned arguments, where these names are known, holds of every feed that a plan asks for.
  module _ (known : Named) (r : R)
      (all : (e : Held) (fs : Forms) (ms : NamedForms) (x : Feeding) → e.names ≡ known → are_planned fs ≡ true → feeding e fs ms ≡ Ok x → AllByRecursion (λ o. P o.slot o.spec) x.openings) where
    keeps_changes : (e : Held) (fs : Forms) (ms : NamedForms) → e.names ≡ known → are_planned fs ≡ true → Gives (changes e fs ms)
    keeps_changes e fs ms own planned on k = from_ok (feeding e fs ms) _
        (λ f same. gives_cond e.setting.noreply (give unsent) (cond (has_room e.setting) (opens e f) (refuse too_many_cursors)) (λ q j. j unsent tt)
        (gives_cond (has_room e.setting) (opens e f) (refuse too_many_cursors) (keeps_opens e f r (all e fs ms f own planned same)) (λ q j. tt)) on
        k)

    keeps_root : (e : Held) (t : Task) (o : Op) (fs : Forms) (ms : NamedForms) → e.names ≡ known → SoundBy t true fs (AreBelow fs)
        → Gives (by_task e t o fs ms (branched e fs))
    keeps_root e task.Value o fs ms own s on k = keeps_shown e (operation o fs ms) on k
    keeps_root e task.Branch o fs ms own s on k = gives_cond (any_command fs) (branched e fs) (shown e (operation o fs ms)) (keeps_branched e fs s)
        (keeps_shown e (operation o fs ms)) on k
    keeps_root e task.ForEach o fs ms own s on k = keeps_for_each e fs on k
    keeps_root e task.Write o fs ms own s on k = keeps_wrote e (operation o fs ms) on k
    keeps_root e task.Catalogue o fs ms own s on k = keeps_catalogue e o fs ms on k
    keeps_root e task.Index o fs ms own s on k = keeps_table e o fs ms on k
    keeps_root e task.Sync o fs ms own s on k = keeps_table e o fs ms on k
    keeps_root e task.Feed o fs ms own s on k = keeps_changes e fs ms own s on k

    keeps_carried : (e : Held) (f : Form) → e.names ≡ known → Sound f → Gives (carried e f)
    keeps_carried e (literal d) own s on k = keeps_shown e (literal d) on k
    keeps_carried e (several fs) own s on k = keeps_shown e (several fs) on k
    keeps_carried e (keyed ms) own s on k = keeps_shown e (keyed ms) on k
    keeps_carried e (variable n) own s on k = keeps_shown e (variable n) on k
    keeps_carried e implicit own s on k = keeps_shown e implicit on k
    keeps_carried e (function ids f) own s on k = keeps_shown e (function ids f) on k
    keeps_carried e (slot n) own s on k = keeps_shown e (slot n) on k
    keeps_carried e (operation o fs ms) own s on k = keeps_root e (task_of o) o fs ms own s on k

    -- ---- the whole
    keeps_read : (p : Plan) (s : Setting) (f : Form) → Sound f → Gives (read p s known f)
    keeps_read p s f is on k = keeps_looks known nothing_read (read_slots f) (λ r. carried (held p s known r) f on)
        (λ r. keeps_carried (held p s known r) f refl is on k)

    keeps_timed : (p : Plan) (s : Setting) (f : Form) → Sound f → Gives (timed p s known f)
    keeps_timed p s f is on k = (
      tt,
      λ h. keeps_moment h _ (λ n. from_ok (rewritten (now_rule n) f) _
          (λ g same. keeps_read p s g (sound_then n true f g is same) on k)),
    )

    keeps_at_moment : (p : Plan) (s : Setting) (f : Form) → Sound f → Gives (at_moment p s known f)
    keeps_at_moment p s f is on k = gives_cond (has_now f) (timed p s known f) (read p s known f) (keeps_timed p s f is) (keeps_read p s f is) on k

    keeps_resolving : (p : Plan) (s : Setting) → is_asked p.term ≡ true → plan_fault p.term ≡ None → Gives (resolving p s known)
    keeps_resolving p s asked none on k = from_ok (resolved known p.db p.term) _
        (λ f same. leak_by (leaks false f) f _ (λ free. keeps_at_moment p s f (resolved_sound known p.db p.term f asked none same free) on k))

    pub always_asked : (p : Plan) (s : Setting) (hs : List Heard) (n : ℕ) (order : Order) (spec : FeedSpec) → is_asked p.term ≡ true → plan_fault p.term ≡ None
        → plan_next p s (names known ∷ hs) ≡ moves (run n order) → order.cmd ≡ cmds.Subscribe spec → P n spec
    always_asked p s hs n order spec asked none h is =
        subst (IsFollowed n) is (asks_followed s (resolving p s known ends) hs (run n order) (keeps_resolving p s asked none ends (λ o x. x)) h)

-- before it heard the names, or where it heard what is none, a plan asks no slot
abbrev asks_slot : Next → Bool
asks_slot (moves (run n order)) = true
asks_slot q = false

no_slot : (q : Next) (n : ℕ) (order : Order) → asks_slot q ≡ false → q ≡ moves (run n order) → ⊥
no_slot q n order none h = true≢false (sym (ap asks_slot h) ∙ none)

pub asked_feeds_are_read : AskedFeedsAreRead
asked_feeds_are_read p s (names ns ∷ hs) n order spec asked none h is =
    always_asked (λ n spec. IsRead spec) (Unit {0}) ns tt (λ e fs ms x own planned opens. feeds_are_read e fs ms x planned opens) p s hs n order spec asked none h is
asked_feeds_are_read p s [] n order spec asked none h is = absurd (no_slot (plan_next p s []) n order refl h)
asked_feeds_are_read p s (told m ∷ hs) n order spec asked none h is = absurd (no_slot (plan_next p s (told m ∷ hs)) n order refl h)
asked_feeds_are_read p s (looked at ∷ hs) n order spec asked none h is = absurd (no_slot (plan_next p s (looked at ∷ hs)) n order refl h)
asked_feeds_are_read p s (ran r q ∷ hs) n order spec asked none h is = absurd (no_slot (plan_next p s (ran r q ∷ hs)) n order refl h)
asked_feeds_are_read p s (changed r ∷ hs) n order spec asked none h is = absurd (no_slot (plan_next p s (changed r ∷ hs)) n order refl h)
asked_feeds_are_read p s (rolled bs ∷ hs) n order spec asked none h is = absurd (no_slot (plan_next p s (rolled bs ∷ hs)) n order refl h)
