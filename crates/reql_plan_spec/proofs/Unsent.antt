-- That a request that wants an answer is never answered with none; and that it looks at no slot once it has seen what its term reads.
use Rattle.std.proofs.Common.{◌≡◌, ℕ, ℤ, zero, suc, List, [], ◌∷◌, ◌++◌, Option, Some, None, Bool, true, false, true≢false, cond, Ok, Err, refl, sym, ap, subst}
use Rattle.reql_datum.specs.Answer.{Answer, Reason}
use Rattle.reql_datum.specs.Plain.{Plain}
use Rattle.reql_datum.specs.Whole.{is_in}
use Rattle.reql_datum.specs.declared.whole.NumFault.TheVariants.{OverRange}
use Rattle.reql_rewrite.specs.Rewrite.{rewritten}
use Rattle.reql_rules.specs.Faults.{number_fault}
use Rattle.reql_rules.specs.Lists.{Bytes}
use Rattle.reql_rules.specs.Types.{truth}
use Rattle.reql_term.specs.Form.{Form, literal, several, keyed, variable, implicit, function, slot, operation, Forms, no_forms, form, NamedForms}
use Rattle.reql_term.specs.Table.{task_of}
use Rattle.reql_term.specs.Views.{Document}
use Rattle.reql_term.specs.declared.op.Op.{Op}
use Rattle.reql_term.specs.declared.role.Task.{Task}
use Rattle.reql_term.specs.declared.role.Task.TheVariants as task
use Rattle.reql_catalog.specs.Catalog.{Named}
use Rattle.reql_catalog.specs.declared.command.CatCmd.{CatCmd}
use Rattle.reql_catalog.specs.declared.command.CatSaid.{CatSaid}
use Rattle.reql_catalog.specs.declared.command.CatSaid.TheVariants as cat_said
use Rattle.reql_faults.specs.Places.{first, second}
use Rattle.reql_naming.specs.Named.{resolved}
use Rattle.reql_value_spec.specs.Shown as values
use Rattle.reql_value_spec.specs.Shown.{Shown}
use Rattle.reql_write_spec.specs.declared.command.Summary.{Summary}
use Rattle.reql_table_spec.specs.Indexes.{Indexes}
use Rattle.reql_table_spec.specs.Machine.{Seen}
use Rattle.reql_table_spec.specs.declared.command.Cmd.{Cmd}
use Rattle.reql_table_spec.specs.declared.command.Cmd.TheVariants as cmds
use Rattle.reql_table_spec.specs.Replies.{Answered as Reply}
use Rattle.reql_table_machine_spec.specs.declared.command.Said.TheVariants as said
use Rattle.reql_table_spec.specs.declared.reply.Saved.{Saved}
use Rattle.reql_table_spec.specs.declared.reply.Saved.TheVariants as saved
use Rattle.reql_plan_spec.specs.declared.parts.Plan.{Plan}
use Rattle.reql_plan_spec.specs.declared.parts.Setting.{Setting}
use Rattle.reql_plan_spec.specs.declared.parts.Prepared.{Prepared}
use Rattle.reql_plan_spec.specs.declared.parts.Commanded.{Commanded}
use Rattle.reql_plan_spec.specs.declared.parts.Opening.{Opening}
use Rattle.reql_plan_spec.specs.Commands.{cat_command, table_command, cmd_of}
use Rattle.reql_plan_spec.specs.Course.{Open, lost, names_heard, moment_by, moment_heard, seen_at, seen_heard, looks, said_by, kept_by, reply_heard, command, key_by, key_heard, keys, summary_said, run_write, write, wrote, round, rounds, each_of, for_each, shuts, changed_by, change_heard, change_catalogue, table_said, change_table, closing, is_among, opened_by, opened_if, open_heard, subscribed, opens, changes, has_room, fits_in, shown_as, shown, any_command, by_task, carried, branched, held, read, timed, at_moment, resolving, course, sent}
use Rattle.reql_plan_spec.specs.Feeding.{Feeding, feeding}
use Rattle.reql_plan_spec.specs.Held.{Held, Read, nothing_read}
use Rattle.reql_plan_spec.specs.Minds.{UnsentOnlyWithNoreply}
use Rattle.reql_plan_spec.specs.Move.{Ask, look, Replied, Heard, names, told, looked, ran, changed, rolled, Outcome, unsent, sequence}
use Rattle.reql_plan_spec.specs.Reads.{has_now, leaks, now_rule, read_slots, with_element}
use Rattle.reql_plan_spec.specs.Request.{Request, ends, asks, Moves, give, refuse, from, request, Next, answered, moves, next}
use Rattle.reql_plan_spec.specs.Settled.{there, meant_of, datum_of, sequence_of}
use Rattle.reql_plan_spec.specs.Summed.{added, nothing_done}
use Rattle.reql_plan_spec.specs.Texts.{undetermined, too_many_cursors}
use Rattle.reql_plan_spec.specs.Writes.{prepared, with_keys}

-- of a request in this setting, where a look at a slot is so much
module _ (Look : Type 0) (s : Setting) where
  -- no answer is one only where none is wanted
  abbrev Wanted : Outcome → Type 0
  Wanted unsent = s.noreply ≡ true
  Wanted o = Unit {0}

  abbrev pub Looks : Ask → Type 0
  Looks (look n) = Look
  Looks q = Unit {0}

  -- at each move and each end of a request, whatever it is answered
  abbrev pub Answers : Request → Type 0
  Answers (ends o) = Wanted o
  Answers (asks q on) = Looks q × ((h : Heard) → Answers (on h))

  abbrev Keeps : {A : Type 0} → Moves A → Type 0
  Keeps {A} m = (on : A → Request) → ((a : A) → Answers (on a)) → Answers (m on)

  -- what gives an outcome, as the last that is done
  abbrev pub Tells : Moves Outcome → Type 0
  Tells m = Answers (m ends)

  keeps_from : {A : Type 0} (x : Answer A) → Keeps (from x)
  keeps_from (Ok a) on k = k a
  keeps_from (Err e) on k = tt

  keeps_cond : {A : Type 0} (b : Bool) (m n : Moves A) → Keeps m → Keeps n → Keeps (cond b m n)
  keeps_cond true m n km kn on k = km on k
  keeps_cond false m n km kn on k = kn on k

  tells_cond : (b : Bool) (m n : Moves Outcome) → Tells m → Tells n → Tells (cond b m n)
  tells_cond true m n t u = t
  tells_cond false m n t u = u

  tells_unless : (b : Bool) (m : Moves Outcome) → (b ≡ true → s.noreply ≡ true) → Tells m → Tells (cond b (give unsent) m)
  tells_unless true m quiet t = quiet refl
  tells_unless false m quiet t = t

  -- ---- what is heard
  keeps_names : (h : Heard) → Keeps (names_heard h)
  keeps_names (names ns) on k = k ns
  keeps_names (told n) on k = tt
  keeps_names (looked at) on k = tt
  keeps_names (ran r q) on k = tt
  keeps_names (changed r) on k = tt
  keeps_names (rolled bs) on k = tt

  keeps_moment_by : (n : Option ℤ) → Keeps (moment_by n)
  keeps_moment_by None on k = tt
  keeps_moment_by (Some n) on k = keeps_cond (is_in n) (give n) (refuse (number_fault OverRange)) (λ q j. j n) (λ q j. tt) on k

  keeps_moment : (h : Heard) → Keeps (moment_heard h)
  keeps_moment (names ns) on k = tt
  keeps_moment (told n) on k = keeps_moment_by n on k
  keeps_moment (looked at) on k = tt
  keeps_moment (ran r q) on k = tt
  keeps_moment (changed r) on k = tt
  keeps_moment (rolled bs) on k = tt

  keeps_seen_at : (ns : Named) (r : Read) (n : ℕ) (at : Seen) (o : Option (List Document × Indexes)) → Keeps (seen_at ns r n at o)
  keeps_seen_at ns r n at None on k = tt
  keeps_seen_at ns r n at (Some found) on k = k _

  keeps_seen : (ns : Named) (r : Read) (n : ℕ) (h : Heard) → Keeps (seen_heard ns r n h)
  keeps_seen ns r n (names ns') on k = tt
  keeps_seen ns r n (told m) on k = tt
  keeps_seen ns r n (looked at) on k = keeps_seen_at ns r n at at.view on k
  keeps_seen ns r n (ran q v) on k = tt
  keeps_seen ns r n (changed q) on k = tt
  keeps_seen ns r n (rolled bs) on k = tt

  keeps_looks : Look → (ns : Named) (r : Read) (slots : List ℕ) → Keeps (looks ns r slots)
  keeps_looks may ns r [] on k = k r
  keeps_looks may ns r (n ∷ rest) on k = (may, λ h. keeps_seen ns r n h (λ seen. looks ns seen rest on) (λ seen. keeps_looks may ns seen rest on k))

  -- ---- commands
  keeps_said : (ns : Named) (n : ℕ) (r : Replied) → Keeps (said_by ns n r)
  keeps_said ns n (said.Done x) on k = k _
  keeps_said ns n (said.HistoryFull count) on k = tt
  keeps_said ns n said.Changed on k = k _
  keeps_said ns n said.IndexExists on k = k _
  keeps_said ns n said.IndexMissing on k = k _
  keeps_said ns n (said.Opened f items) on k = k _
  keeps_said ns n (said.FeedsFull count) on k = k _
  keeps_said ns n (said.Batch skipped last items) on k = k _
  keeps_said ns n said.Nothing on k = k _
  keeps_said ns n (said.FeedUnknown f) on k = k _
  keeps_said ns n said.Closed on k = k _
  keeps_said ns n said.Gone on k = tt

  keeps_kept : (ns : Named) (n : ℕ) (r : Replied) (v : Saved) → Keeps (kept_by ns n r v)
  keeps_kept ns n r saved.Yes on k = keeps_said ns n r on k
  keeps_kept ns n r saved.Failed on k = tt
  keeps_kept ns n r saved.Memory on k = tt

  keeps_reply : (ns : Named) (n : ℕ) (h : Heard) → Keeps (reply_heard ns n h)
  keeps_reply ns n (names ns') on k = tt
  keeps_reply ns n (told m) on k = tt
  keeps_reply ns n (looked at) on k = tt
  keeps_reply ns n (ran r q) on k = keeps_kept ns n r.said q on k
  keeps_reply ns n (changed q) on k = tt
  keeps_reply ns n (rolled bs) on k = tt

  keeps_command : (e : Held) (n : ℕ) (c : Cmd) → Keeps (command e n c)
  keeps_command e n c on k = (tt, λ h. keeps_reply e.names n h on k)

  -- ---- writes
  keeps_key_by : (bs : Option Bytes) → Keeps (key_by bs)
  keeps_key_by None on k = tt
  keeps_key_by (Some bs) on k = k _

  keeps_key : (h : Heard) → Keeps (key_heard h)
  keeps_key (names ns) on k = tt
  keeps_key (told m) on k = tt
  keeps_key (looked at) on k = tt
  keeps_key (ran r q) on k = tt
  keeps_key (changed q) on k = tt
  keeps_key (rolled bs) on k = keeps_key_by bs on k

  keeps_keys : (made : List Plain) (n : ℕ) → Keeps (keys made n)
  keeps_keys made zero on k = k made
  keeps_keys made (suc n) on k = (tt, λ h. keeps_key h (λ d. keys (made ++ d ∷ []) n on) (λ d. keeps_keys (made ++ d ∷ []) n on k))

  keeps_summary : (r : Replied) → Keeps (summary_said r)
  keeps_summary (said.Done x) on k = k x
  keeps_summary (said.HistoryFull count) on k = tt
  keeps_summary said.Changed on k = tt
  keeps_summary said.IndexExists on k = tt
  keeps_summary said.IndexMissing on k = tt
  keeps_summary (said.Opened f items) on k = tt
  keeps_summary (said.FeedsFull count) on k = tt
  keeps_summary (said.Batch skipped last items) on k = tt
  keeps_summary said.Nothing on k = tt
  keeps_summary (said.FeedUnknown f) on k = tt
  keeps_summary said.Closed on k = tt
  keeps_summary said.Gone on k = tt

  keeps_run_write : (e : Held) (p : Prepared) (before : List Plain) (left : ℕ) → Keeps (run_write e p before left)
  keeps_run_write e p before left on k = keeps_keys before left
      (λ made. command e p.slot (cmds.Write (with_keys made p.cmd)) (λ r. summary_said r on))
      (λ made. keeps_command e p.slot (cmds.Write (with_keys made p.cmd)) (λ r. summary_said r on) (λ r. keeps_summary r on k))

  keeps_write : (e : Held) (f : Form) → Keeps (write e f)
  keeps_write e f on k = keeps_from (prepared e f) (λ p. run_write e p [] p.rolls on) (λ p. keeps_run_write e p [] p.rolls on k)

  tells_wrote : (e : Held) (f : Form) → Tells (wrote e f)
  tells_wrote e f = keeps_write e f _ (λ total. tt)

  keeps_round : (e : Held) (id : ℕ) (d : Plain) (total : Summary) (ws : List Form) → Keeps (round e id d total ws)
  keeps_round e id d total [] on k = k total
  keeps_round e id d total (w ∷ ws) on k = keeps_from (with_element id d w)
      (λ f. write e f (λ t. round e id d (added total t) ws on))
      (λ f. keeps_write e f (λ t. round e id d (added total t) ws on) (λ t. keeps_round e id d (added total t) ws on k))

  keeps_rounds : (e : Held) (id : ℕ) (ws : List Form) (total : Summary) (ds : List Plain) → Keeps (rounds e id ws total ds)
  keeps_rounds e id ws total [] on k = k total
  keeps_rounds e id ws total (d ∷ ds) on k = keeps_round e id d total ws (λ t. rounds e id ws t ds on) (λ t. keeps_rounds e id ws t ds on k)

  keeps_each : (f : Form) → Keeps (each_of f)
  keeps_each (literal d) on k = tt
  keeps_each (several fs) on k = tt
  keeps_each (keyed ms) on k = tt
  keeps_each (variable n) on k = tt
  keeps_each implicit on k = tt
  keeps_each (function ids f) on k = k _
  keeps_each (slot n) on k = tt
  keeps_each (operation o fs ms) on k = tt

  tells_for_each : (e : Held) (fs : Forms) → Tells (for_each e fs)
  tells_for_each e fs = keeps_from (there (first fs)) _
      (λ f. keeps_from (sequence_of e.world f) _
      (λ ds. keeps_from (there (second fs)) _
      (λ g. keeps_each g _
      (λ b. keeps_rounds e b.id b.writes nothing_done ds _ (λ total. tt)))))

  -- ---- the catalogue and indexes
  keeps_shuts : (e : Held) (slots : List ℕ) → Keeps (shuts e slots)
  keeps_shuts e [] on k = k tt
  keeps_shuts e (n ∷ ns) on k = keeps_command e n cmds.Shut (λ r. shuts e ns on) (λ r. keeps_shuts e ns on k)

  tells_changed : (e : Held) (c : CatCmd) (r : CatSaid) → Tells (changed_by e c r)
  tells_changed e c cat_said.Made = tt
  tells_changed e c (cat_said.Dropped slots) = keeps_shuts e slots _ (λ u. tt)
  tells_changed e c cat_said.DbExists = tt
  tells_changed e c cat_said.DbMissing = tt
  tells_changed e c cat_said.TableExists = tt
  tells_changed e c cat_said.TableMissing = tt
  tells_changed e c (cat_said.SlotsFull count) = tt
  tells_changed e c cat_said.BadName = tt
  tells_changed e c (cat_said.HistoryFull count) = tt

  tells_change : (e : Held) (c : CatCmd) (h : Heard) → Tells (change_heard e c h)
  tells_change e c (names ns) = tt
  tells_change e c (told m) = tt
  tells_change e c (looked at) = tt
  tells_change e c (ran r q) = tt
  tells_change e c (changed r) = tells_changed e c r.said
  tells_change e c (rolled bs) = tt

  tells_catalogue : (e : Held) (o : Op) (fs : Forms) (ms : NamedForms) → Tells (change_catalogue e o fs ms)
  tells_catalogue e o fs ms = keeps_from (cat_command e o fs ms) _ (λ c. (tt, λ h. tells_change e c h))

  tells_table_said : (c : Commanded) (r : Replied) → Tells (table_said c r)
  tells_table_said c (said.Done x) = tt
  tells_table_said c (said.HistoryFull count) = tt
  tells_table_said c said.Changed = tt
  tells_table_said c said.IndexExists = tt
  tells_table_said c said.IndexMissing = tt
  tells_table_said c (said.Opened f items) = tt
  tells_table_said c (said.FeedsFull count) = tt
  tells_table_said c (said.Batch skipped last items) = tt
  tells_table_said c said.Nothing = tt
  tells_table_said c (said.FeedUnknown f) = tt
  tells_table_said c said.Closed = tt
  tells_table_said c said.Gone = tt

  tells_table : (e : Held) (o : Op) (fs : Forms) (ms : NamedForms) → Tells (change_table e o fs ms)
  tells_table e o fs ms = keeps_from (table_command e o fs ms) _
      (λ c. keeps_command e c.slot (cmd_of c.cmd) (λ r. table_said c r ends) (λ r. tells_table_said c r))

  -- ---- feeds
  keeps_closing : {A : Type 0} (e : Held) (why : Reason) (os : List Open) (on : A → Request) → Answers (closing e why os on)
  keeps_closing e why [] on = tt
  keeps_closing e why (o ∷ os) on = (tt, λ h. keeps_closing e why os on)

  keeps_opened : (e : Held) (before : List Open) (o : Opening) (stamp : ℕ) (r : Replied) → Keeps (opened_by e before o stamp r)
  keeps_opened e before o stamp (said.Done x) on k = tt
  keeps_opened e before o stamp (said.HistoryFull count) on k = keeps_closing e _ before on
  keeps_opened e before o stamp said.Changed on k = tt
  keeps_opened e before o stamp said.IndexExists on k = tt
  keeps_opened e before o stamp said.IndexMissing on k = keeps_closing e _ before on
  keeps_opened e before o stamp (said.Opened f items) on k =
      let one : Open = record { slot = o.slot; feed = f; stamp = stamp; opening = items } in
      keeps_cond (is_among o.slot f before) lost (give one) (λ q j. tt) (λ q j. j one) on k
  keeps_opened e before o stamp (said.FeedsFull count) on k = keeps_closing e _ before on
  keeps_opened e before o stamp (said.Batch skipped last items) on k = tt
  keeps_opened e before o stamp said.Nothing on k = tt
  keeps_opened e before o stamp (said.FeedUnknown f) on k = tt
  keeps_opened e before o stamp said.Closed on k = tt
  keeps_opened e before o stamp said.Gone on k = keeps_closing e _ before on

  keeps_opened_if : (e : Held) (before : List Open) (o : Opening) (r : Reply) (v : Saved) → Keeps (opened_if e before o r v)
  keeps_opened_if e before o r saved.Yes on k = keeps_opened e before o r.stamp r.said on k
  keeps_opened_if e before o r saved.Failed on k = tt
  keeps_opened_if e before o r saved.Memory on k = tt

  keeps_heard : (e : Held) (before : List Open) (o : Opening) (h : Heard) → Keeps (open_heard e before o h)
  keeps_heard e before o (names ns) on k = tt
  keeps_heard e before o (told m) on k = tt
  keeps_heard e before o (looked at) on k = tt
  keeps_heard e before o (ran r q) on k = keeps_opened_if e before o r q on k
  keeps_heard e before o (changed q) on k = tt
  keeps_heard e before o (rolled bs) on k = tt

  keeps_subscribed : (e : Held) (before : List Open) (os : List Opening) → Keeps (subscribed e before os)
  keeps_subscribed e before [] on k = k before
  keeps_subscribed e before (o ∷ os) on k =
      (tt, λ h. keeps_heard e before o h (λ x. subscribed e (before ++ x ∷ []) os on) (λ x. keeps_subscribed e (before ++ x ∷ []) os on k))

  tells_opens : (e : Held) (f : Feeding) → Tells (opens e f)
  tells_opens e f = keeps_subscribed e [] f.openings _ (λ os. tt)

  tells_changes : (e : Held) (fs : Forms) (ms : NamedForms) → e.setting ≡ s → Tells (changes e fs ms)
  tells_changes e fs ms own = keeps_from (feeding e fs ms) _
      (λ f. tells_unless e.setting.noreply (cond (has_room e.setting) (opens e f) (refuse too_many_cursors)) (λ quiet. subst (λ (x : Setting). x.noreply ≡ true) own quiet)
      (tells_cond (has_room e.setting) (opens e f) (refuse too_many_cursors) (tells_opens e f) tt))

  -- ---- values, and what stands at the root
  tells_shown_as : (e : Held) (v : Shown) → Tells (shown_as e v)
  tells_shown_as e (values.atom d) = tt
  tells_shown_as e (values.groups gs) = tt
  tells_shown_as e (values.sequence ds) = tells_cond (fits_in e ds) (give (sequence ds)) (refuse too_many_cursors) tt tt

  tells_shown : (e : Held) (f : Form) → Tells (shown e f)
  tells_shown e f = keeps_from (meant_of e.world f) _ (λ m. keeps_from (values.shown e.world m) _ (λ v. tells_shown_as e v))

  tells_task : (e : Held) (t : Task) (o : Op) (fs : Forms) (ms : NamedForms) (arms : Moves Outcome) → e.setting ≡ s → Tells arms → Tells (by_task e t o fs ms arms)
  tells_task e task.Value o fs ms arms own ta = tells_shown e (operation o fs ms)
  tells_task e task.Branch o fs ms arms own ta = tells_cond (any_command fs) arms (shown e (operation o fs ms)) ta (tells_shown e (operation o fs ms))
  tells_task e task.ForEach o fs ms arms own ta = tells_for_each e fs
  tells_task e task.Write o fs ms arms own ta = tells_wrote e (operation o fs ms)
  tells_task e task.Catalogue o fs ms arms own ta = tells_catalogue e o fs ms
  tells_task e task.Index o fs ms arms own ta = tells_table e o fs ms
  tells_task e task.Sync o fs ms arms own ta = tells_table e o fs ms
  tells_task e task.Feed o fs ms arms own ta = tells_changes e fs ms own

  mutual
    pub tells_carried : (e : Held) (f : Form) → e.setting ≡ s → Tells (carried e f)
    tells_carried e (literal d) own = tells_shown e (literal d)
    tells_carried e (several fs) own = tells_shown e (several fs)
    tells_carried e (keyed ms) own = tells_shown e (keyed ms)
    tells_carried e (variable n) own = tells_shown e (variable n)
    tells_carried e implicit own = tells_shown e implicit
    tells_carried e (function ids f) own = tells_shown e (function ids f)
    tells_carried e (slot n) own = tells_shown e (slot n)
    tells_carried e (operation o fs ms) own = tells_task e (task_of o) o fs ms (branched e fs) own (tells_branched e fs own)

    tells_branched : (e : Held) (fs : Forms) → e.setting ≡ s → Tells (branched e fs)
    tells_branched e no_forms own = tt
    tells_branched e (form f no_forms) own = tells_carried e f own
    tells_branched e (form f (form g fs)) own = keeps_from (datum_of e.world f) _
        (λ d. tells_cond (truth d) (carried e g) (branched e fs) (tells_carried e g own) (tells_branched e fs own))

  -- ---- the whole
  tells_read : Look → (p : Plan) (ns : Named) (f : Form) → Tells (read p s ns f)
  tells_read may p ns f = keeps_looks may ns nothing_read (read_slots f) (λ r. carried (held p s ns r) f ends) (λ r. tells_carried (held p s ns r) f refl)

  tells_timed : Look → (p : Plan) (ns : Named) (f : Form) → Tells (timed p s ns f)
  tells_timed may p ns f = (tt, λ h. keeps_moment h _ (λ n. keeps_from (rewritten (now_rule n) f) _ (λ g. tells_read may p ns g)))

  tells_at_moment : Look → (p : Plan) (ns : Named) (f : Form) → Tells (at_moment p s ns f)
  tells_at_moment may p ns f = tells_cond (has_now f) (timed p s ns f) (read p s ns f) (tells_timed may p ns f) (tells_read may p ns f)

  tells_resolving : Look → (p : Plan) (ns : Named) → Tells (resolving p s ns)
  tells_resolving may p ns = keeps_from (resolved ns p.db p.term) _
      (λ f. keeps_cond (leaks false f) (refuse undetermined) (give f) (λ q j. tt) (λ q j. j f) _ (λ g. tells_at_moment may p ns g))

  tells_course : Look → (p : Plan) → Answers (request (course p s))
  tells_course may p = (tt, λ h. keeps_names h _ (λ ns. tells_resolving may p ns))

  -- ---- what a plan is answered after its answers so far
  abbrev is_move : Next → Bool
  is_move (answered o) = false
  is_move (moves q) = true

  abbrev outcome_in : Next → Outcome
  outcome_in (answered o) = o
  outcome_in (moves q) = unsent

  none_wanted : (b : Bool) (o : Outcome) → b ≡ s.noreply → Wanted o → cond b unsent o ≡ unsent → s.noreply ≡ true
  none_wanted true o own w h = sym own
  none_wanted false o own w h = subst Wanted h w

  unsent_then : (r : Request) (hs : List Heard) → Answers r → sent s (next r hs) ≡ answered unsent → s.noreply ≡ true
  unsent_then (ends o) hs a h = none_wanted s.noreply o refl a (ap outcome_in h)
  unsent_then (asks q on) [] a h = absurd (true≢false (ap is_move h))
  unsent_then (asks q on) (x ∷ hs) a h = unsent_then (on x) hs (a.1 x) h

pub unsent_only_with_noreply : UnsentOnlyWithNoreply
unsent_only_with_noreply p s hs h = unsent_then (Unit {0}) s (request (course p s)) hs (tells_course (Unit {0}) s tt p) h
