-- What a request has left to do where it waits.
use Rattle.std.specs.Prelude.{ℕ, ℤ, List, [], ◌∷◌, ◌++◌, map, drop, length, cond, Bool, ◌||◌, nat_le}
use Rattle.reql_datum.specs.Answer.{Reason}
use Rattle.reql_datum.specs.Plain.{Plain}
use Rattle.reql_datum.specs.View.{plain}
use Rattle.reql_term.specs.Form.{Form}
use Rattle.reql_term.specs.View.{form_of}
use Rattle.reql_term.specs.Views.{Document, Entry}
use Rattle.reql_rules.specs.Faults.{no_index}
use Rattle.reql_rules.specs.Lists.{Bytes}
use Rattle.reql_rewrite.specs.Rewrite.{rewritten}
use Rattle.reql_catalog.specs.Catalog.{Named}
use Rattle.reql_catalog.specs.declared.command.CatCmd.{CatCmd}
use Rattle.reql_table_spec.specs.Indexes.{Indexes}
use Rattle.reql_write_spec.specs.declared.command.Summary.{Summary}
use Rattle.reql_plan_spec.specs.declared.parts.Plan.{Plan}
use Rattle.reql_plan_spec.specs.declared.parts.Setting.{Setting}
use Rattle.reql_plan_spec.specs.Commands.{dropped_by}
use Rattle.reql_plan_spec.specs.Course as c
use Rattle.reql_plan_spec.specs.Held as law
use Rattle.reql_plan_spec.specs.Held.{dropped}
use Rattle.reql_plan_spec.specs.Feeding as feeds
use Rattle.reql_plan_spec.specs.Move as m
use Rattle.reql_plan_spec.specs.Reads.{now_rule}
use Rattle.reql_plan_spec.specs.Request.{Request, ends, from, give, refuse}
use Rattle.reql_plan_spec.specs.Summed.{added, nothing_done, summary_shown}
use Rattle.reql_plan_spec.specs.Texts.{too_many_feeds, too_many_cursors, history_full}
use Rattle.reql_plan_results.specs.Seen.{opened}
use Rattle.reql_plan_context.specs.Seen.{read, held}
use Rattle.reql_plan_changes.specs.Seen.{asked}
use Rattle.reql_plan_state.specs.declared.stage.Refusal.{Refusal}
use Rattle.reql_plan_state.specs.declared.stage.Refusal.TheVariants as why
use Rattle.reql_plan_state.specs.declared.stage.Rounds.{Rounds}
use Rattle.reql_plan_state.specs.declared.stage.Stage.{Stage}
use Rattle.reql_plan_state.specs.declared.stage.Stage.TheVariants as s
use Rattle.reql_plan_state.specs.declared.stage.Then.{Then}
use Rattle.reql_plan_state.specs.declared.stage.Then.TheVariants as then

-- a write's summary is shown
abbrev pub counted : Summary → Request
counted s = ends (m.atom (summary_shown s))

-- the writes of a FOR_EACH over these elements
abbrev pub each_rest : law.Held → List Plain → Form → Request
each_rest e ds f = c.each_of f (λ b. c.rounds e b.id b.writes nothing_done ds counted)

-- whether so many items are answered
abbrev pub counts_fit : law.Held → ℕ → Bool
counts_fit e n = nat_le n e.batch || c.has_room e.setting

-- what is left after the summary of one of many writes
abbrev pub rest_of_rounds : law.Held → Rounds → Summary → Request
rest_of_rounds e r s = c.round e r.id (plain r.element) (added r.total s) (drop r.next r.writes) (λ t. c.rounds e r.id r.writes t (drop r.place r.elements) counted)

-- what is left after a write's summary
abbrev pub rest_of_writes : law.Held → Then → Summary → Request
rest_of_writes e then.Once = counted
rest_of_writes e (then.Each r) = rest_of_rounds e r.value

-- a request at a moment
abbrev pub moment_rest : Plan → Setting → Named → Form → ℤ → Request
moment_rest p st ns f n = from (rewritten (now_rule n) f) (λ g. c.read p st ns g ends)

-- the slots are shut, and the drop is told
abbrev pub shut_rest : law.Held → CatCmd → List ℕ → ℕ → Request
shut_rest e cmd slots count = c.shuts e slots (λ u. ends (m.atom (dropped_by cmd count)))

-- what is answered of the feeds that were opened
abbrev pub feed_answer : law.Held → feeds.Feeding → List c.Open → m.Outcome
feed_answer e f os = m.feed (map (c.arm_of e) os) (c.notes_of f) (c.first_items f.told os)

abbrev pub feeds_rest : law.Held → feeds.Feeding → List c.Open → ℕ → Request
feeds_rest e f before place = c.subscribed e before (drop place f.openings) (λ os. ends (feed_answer e f os))

abbrev pub opens_rest : law.Held → feeds.Feeding → Request
opens_rest e f = cond e.setting.noreply (give m.unsent) (cond (c.has_room e.setting) (c.opens e f) (refuse too_many_cursors)) ends

-- why a feed isn't opened
abbrev pub reason_of : Named → Refusal → Reason
reason_of ns (why.NoIndex name) = no_index name
reason_of ns why.FeedsFull = too_many_feeds
reason_of ns why.HistoryFull = history_full
reason_of ns (why.Dropped n) = dropped ns n

abbrev pub closing_rest : law.Held → Reason → List c.Open → Request
closing_rest e why os = c.closing {A = m.Outcome} e why os ends

module _ {V : Type 0} (documents : V → List Document) (indexes : V → Indexes) (entries : V → Bytes → List Entry) where
  abbrev pub rest_of : Stage V → m.Heard → Request
  rest_of (s.Clock a) h = c.moment_heard h (moment_rest a.plan a.setting a.names (form_of a.term))
  rest_of (s.Looks a r n slots place) h = c.seen_heard a.names (read documents indexes entries r) n h (λ t. c.reading a.plan a.setting a.names (form_of a.term) t (drop place slots) ends)
  rest_of (s.Keys e p made left th) h = let k = held documents indexes entries e in c.key_heard h (λ x. c.run_write k p (made ++ x ∷ []) left (rest_of_writes k th))
  rest_of (s.Wrote e n th) h = let k = held documents indexes entries e in c.reply_heard e.names n h (λ x. c.summary_said x (rest_of_writes k th))
  rest_of (s.Catalogue e cmd) h = c.change_heard (held documents indexes entries e) cmd h ends
  rest_of (s.Shuts e cmd n slots place) h = let k = held documents indexes entries e in c.reply_heard e.names n h (λ x. shut_rest k cmd (drop place slots) (length slots))
  rest_of (s.Table e t) h = c.reply_heard e.names t.slot h (λ x. c.table_said t x ends)
  rest_of (s.Feeds e f o before place) h = let k = held documents indexes entries e in let os = map opened before in c.open_heard k os o h (λ x. feeds_rest k (asked f) (os ++ x ∷ []) place)
  rest_of (s.Closing e w before place) h = closing_rest (held documents indexes entries e) (reason_of e.names w) (map opened (drop place before))
