-- The machine of documents is the machine of tables, along any history.
use Rattle.std.proofs.Common.{◌≡◌, ◌≤◌, ℕ, ◌-◌, Bool, false, List, [], ◌∷◌, ◌++◌, length, map, take, refl, sym, ap, subst, ◌∙◌, arith}
use Rattle.std.proofs.lemmas.List.{map-append, take-append-le}
use Rattle.reql_datum.specs.Plain.{Plain}
use Rattle.reql_term.specs.Views.{Document}
use Rattle.reql_write_spec.specs.Treated.{Changed}
use Rattle.reql_write_spec.specs.declared.command.Summary.{Summary}
use Rattle.reql_write_spec.specs.declared.command.WriteCmd.{WriteCmd}
use Rattle.reql_shared.specs.Machine.{Machine, replay}
use Rattle.reql_shared.specs.declared.recorded.Recorded.{Recorded}
use Rattle.reql_table_machine_spec.specs.Feeding.{Feeding, changed}
use Rattle.reql_table_machine_spec.specs.Feeds.{adds, table_machine}
use Rattle.reql_table_machine_spec.specs.Fed as fed
use Rattle.reql_table_machine_spec.specs.declared.command.Cmd.{Cmd as Known}
use Rattle.reql_table_machine_spec.specs.declared.command.Look.{Look}
use Rattle.reql_table_machine_spec.specs.declared.command.Order.{Order as Asked}
use Rattle.reql_table_machine_spec.specs.declared.command.Reply.{Reply}
use Rattle.reql_table_machine_spec.specs.declared.command.Said.{Said}
use Rattle.reql_table_machine_spec.specs.declared.command.Said.TheVariants as said
use Rattle.reql_table_machine_spec.proofs.Reach as of_tables
use Rattle.reql_table_machine_spec.proofs.Shutting.{shut_where_dropped as dropped}
use Rattle.reql_table_spec.specs.Indexes.{Indexes, IndexCmd}
use Rattle.reql_table_spec.specs.Laws.{History, docs_at, RefusedStays, DocsAtStamp, StampCounts, ShutWhereDropped, LaterDocs, DocsStay, TablesStay, MakingStays}
use Rattle.reql_table_spec.specs.Machine.{State, Seen, known_cmd, known_entry, machine, after, reply}
use Rattle.reql_table_spec.specs.Replies.{Answered}
use Rattle.reql_table_spec.specs.Table.{DocumentTable, Held, feeding}
use Rattle.reql_table_spec.specs.declared.command.FeedSpec.{FeedSpec}

abbrev pub Entries : Type 0
Entries = List (Recorded (Asked (Known WriteCmd IndexCmd FeedSpec)))

abbrev pub tables : ℕ → Machine DocumentTable (Asked (Known WriteCmd IndexCmd FeedSpec)) Answered (Unit {0}) Seen
tables most = table_machine (feeding most)

-- with the limits of s, this table
abbrev pub beside : State → DocumentTable → State
beside s t = record s { table = t }

pub replay_is : (s : State) (es : History) → replay machine s es ≡ beside s (replay (tables s.most) s.table (map known_entry es))
replay_is s [] = refl
replay_is s (e ∷ es) = replay_is (after s e.by e.cmd) es

pub adds_any : (n : ℕ) (x : Said Summary Plain) → adds (feeding 0) x ≡ adds (feeding n) x
adds_any n (said.Done m) = refl
adds_any n (said.HistoryFull count) = refl
adds_any n said.Changed = refl
adds_any n said.IndexExists = refl
adds_any n said.IndexMissing = refl
adds_any n (said.Opened feed opening) = refl
adds_any n (said.FeedsFull count) = refl
adds_any n (said.Batch skipped last items) = refl
adds_any n said.Nothing = refl
adds_any n (said.FeedUnknown feed) = refl
adds_any n said.Closed = refl
adds_any n said.Gone = refl

pub refused_stays : RefusedStays
refused_stays s by o h = ap (beside s) (of_tables.refused_stays (feeding s.most) s.table by (known_cmd o.cmd) (sym (adds_any s.most (reply s by o).said) ∙ h))

pub making_stays : MakingStays
making_stays s history = replay_is s history ∙ sym (ap (λ (z : State). beside s z.table) (replay_is s history))

pub docs_at_stamp : DocsAtStamp
docs_at_stamp s history = subst (λ (z : State). docs_at s history z.table.stamp ≡ z.table.docs) (sym (replay_is s history)) (of_tables.docs_at_stamp (feeding s.most) s.table (map known_entry history))

pub stamp_counts : StampCounts
stamp_counts s history = ap (λ (z : State). z.table.stamp) (replay_is s history) ∙ (of_tables.reach (feeding s.most) s.table (map known_entry history)).1

pub shut_where_dropped : ShutWhereDropped
shut_where_dropped s history = ap (λ (z : State). z.table.shut) (replay_is s history) ∙ dropped (feeding s.most) s.table (map known_entry history)

pub later_docs : LaterDocs
later_docs s history more n le =
    ap (λ z. fed.docs_at (feeding s.most) s.table z n) (map-append known_entry history more)
    ∙ of_tables.later_docs (feeding s.most) s.table (map known_entry history) (map known_entry more) n (subst (λ (z : State). z.table.stamp ≤ n) (replay_is s history) le)
    ∙ ap (λ (z : State). docs_at z more n) (sym (replay_is s history))

pub tables_stay : TablesStay
tables_stay s history more place le = ap (λ z. replay machine s z) (take-append-le place history more le)

-- of the changes of a longer history, those up to a stamp that was reached
stay_for : (most : ℕ) (t : DocumentTable) (xs ys : Entries) (n : ℕ) → n ≤ (replay (tables most) t xs).stamp → fed.docs_at (feeding most) t (xs ++ ys) n ≡ fed.docs_at (feeding most) t xs n
stay_for most t xs ys n le =
    let m : Feeding (List Document) Indexes WriteCmd IndexCmd FeedSpec Summary Changed Held Plain (List Plain) = feeding most in
    let first : List Changed = fed.changes_from m t xs in
    let second : List Changed = fed.changes_from m (replay (tables most) t xs) ys in
    let within : n - t.stamp ≤ length first = omega (arith, (of_tables.reach m t xs).1, le) in
    ap (λ z. changed m t.docs (take (n - t.stamp) z)) (of_tables.changes_append m t xs ys) ∙ ap (λ z. changed m t.docs z) (take-append-le (n - t.stamp) first second within)

pub docs_stay : DocsStay
docs_stay s history more n le =
    ap (λ z. fed.docs_at (feeding s.most) s.table z n) (map-append known_entry history more)
    ∙ stay_for s.most s.table (map known_entry history) (map known_entry more) n (subst (λ (z : State). n ≤ z.table.stamp) (replay_is s history) le)
