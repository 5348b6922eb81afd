-- Records lead where the table machine goes.
use Rattle.std.proofs.Common.{◌≡◌, ℕ, ◌-◌, ◌^◌, List, [], ◌∷◌, ◌++◌, map, Bool, true, false, ◌&&◌, not, cond, if◌then◌else◌, nat_lt, length, Option, Some, None, is_some, option_map, option_and_then, option_to_list, Ok, refl, sym, ap, ◌∙◌, subst}
use Rattle.std.specs.List.{AllByRecursion}
use Rattle.reql_datum.specs.Members.{find, put, without}
use Rattle.reql_datum.specs.Plain.{Plain}
use Rattle.reql_term.specs.Form.{Form}
use Rattle.reql_term.specs.Views.{Index, index_of}
use Rattle.reql_term.specs.declared.view.IndexDef.{IndexDef}
use Rattle.reql_rules.specs.Lists.{Bytes}
use Rattle.reql_rules.specs.Types.{same_text}
use Rattle.reql_print.specs.Indexed.{printed_index, ReadsSameEntries}
use Rattle.reql_write_spec.specs.Laws.{AllCome, ChangesCome, ChangesLeaveGood, IsLeftGood}
use Rattle.reql_write_spec.specs.Treated.{Changed}
use Rattle.reql_write_spec.specs.Write.{write}
use Rattle.reql_write_spec.specs.declared.command.WriteCmd.{WriteCmd}
use Rattle.reql_shared.specs.Machine.{replay}
use Rattle.reql_table_machine_spec.specs.Fed.{changes_at}
use Rattle.reql_table_machine_spec.specs.Feeds.{adds, answer, says, if_room, one_more, effect, Feed, new_feed, opened_in, after_changes, is_past}
use Rattle.reql_table_machine_spec.specs.declared.command.Cmd.TheVariants as known
use Rattle.reql_table_machine_spec.specs.declared.command.Said.TheVariants as said
use Rattle.reql_table_spec.specs.Indexes.{Indexes, IndexCmd, create, drop, rename, is_there, is_taken, indexed, index_said}
use Rattle.reql_table_spec.specs.Indexes as indexes
use Rattle.reql_table_spec.specs.Machine.{State, known_cmd, machine, after, reply}
use Rattle.reql_table_spec.specs.Table.{Held, DocumentTable, feeding, at_key, held}
use Rattle.reql_table_spec.specs.declared.command.Cmd.{Cmd}
use Rattle.reql_table_spec.specs.declared.command.Cmd.TheVariants as cmds
use Rattle.reql_table_spec.specs.declared.command.Order.{Order}
use Rattle.reql_table_records.specs.Laws.{IsChangeHeld, CanBeWritten}
use Rattle.reql_table_records.specs.Records.{Change, Recorded, wrote, created, dropped, renamed, shut}
use Rattle.reql_table_records.specs.Standing.{Standing, with_changes, function_in, with_index, without_index, with_renamed, after_record, after_open, after_records, started_by}
use Rattle.reql_journal.specs.Commands.{Heard, IsWritten, if_changed, if_closed, if_any, creation, of_command}
use Rattle.reql_journal.specs.Leading.{standing, IsLikeIndex, AreLike, IsLike, Leads, records_of_order, IsKept, CommandsLead, History, records_of, AreKept, HistoriesLead}
use Rattle.reql_journal.proofs.Changes.{changes_lead, indexes_stay, shut_stays}
use Rattle.reql_journal.proofs.Recovering.{records_both}
use Rattle.reql_journal.proofs.Likes.{put_like, without_like, there_like, renamed_like, without_absent}

adds_any : (n : ℕ) (x : Heard) → adds (feeding 0) x ≡ adds (feeding n) x
adds_any n (said.Done m) = refl
adds_any n (said.HistoryFull count) = refl
adds_any n said.Changed = refl
adds_any n said.IndexExists = refl
adds_any n said.IndexMissing = refl
adds_any n (said.Opened feed opening) = refl
adds_any n (said.FeedsFull count) = refl
adds_any n (said.Batch skipped last items) = refl
adds_any n said.Nothing = refl
adds_any n (said.FeedUnknown feed) = refl
adds_any n said.Closed = refl
adds_any n said.Gone = refl

-- no record leads nowhere
nothing_leads : (t u : Standing) → IsLike t u → Leads t [] u
nothing_leads t u like = record { reached = t; leads = refl; like = like }

unshut_by : (b : Bool) (x : Option Standing) → b ≡ false → (if b then None else x) ≡ x
unshut_by true x h = absurd (let g : true ≡ false = h in cc)
unshut_by false x h = refl

-- one record leads to what it makes of a table that wasn't dropped
one_leads : (t r : Standing) (made : Recorded) (u : Standing) → t.shut ≡ false → after_open t made ≡ Some r → IsLike r u → Leads t (made ∷ []) u
one_leads t r made u is_open leads like =
    let one : after_record t made ≡ Some r = unshut_by t.shut (after_open t made) is_open ∙ leads in
    record { reached = r; leads = ap (option_and_then (λ v. Some v)) one; like = like }

module _ (n : ℕ) where
  -- ---- what is told by a command that is recorded

  settled_by : (c : Bool) (k : ℕ) (x : Heard) → adds (feeding n) (cond c (said.HistoryFull k) x) ≡ true → cond c (said.HistoryFull k) x ≡ x
  settled_by true k x h = absurd (let g : false ≡ true = h in cc)
  settled_by false k x h = refl

  -- it is answered what is said where there is room
  settled : (then_so : DocumentTable) (x : Heard) → adds (feeding n) (if_room (feeding n) then_so x) ≡ true → if_room (feeding n) then_so x ≡ x
  settled then_so x h = settled_by (adds (feeding n) x && is_past (feeding n) then_so) (2 ^ 64 - 1) x h

  gone_by : (b : Bool) (x : Heard) → adds (feeding n) (cond b said.Gone x) ≡ true → (b ≡ false) × (cond b said.Gone x ≡ x)
  gone_by true x h = absurd (let g : false ≡ true = h in cc)
  gone_by false x h = (refl, refl)

  -- of a table that wasn't dropped
  unshut : (t : DocumentTable) (then_so : DocumentTable) (x : Heard) → adds (feeding n) (if_room (feeding n) then_so (cond t.shut said.Gone x)) ≡ true
      → (t.shut ≡ false) × (if_room (feeding n) then_so (cond t.shut said.Gone x) ≡ x)
  unshut t then_so x h =
      let e = settled then_so (cond t.shut said.Gone x) h in
      let g = gone_by t.shut x (subst (λ y. adds (feeding n) y ≡ true) e h) in
      (g.0, e ∙ g.1)

  -- ---- writes

  write_leads : (field : Bytes) (tab : DocumentTable) (t : Standing) → IsLike t (standing tab) → tab.shut ≡ false → (xs : List Changed) → AllCome tab.docs xs → AllByRecursion (λ (c : Changed). IsLeftGood field c.key c.new) xs
      → AllByRecursion CanBeWritten (option_to_list (if_any (map at_key xs))) → Leads t (option_to_list (if_any (map at_key xs))) (standing (after_changes (feeding n) tab xs))
  write_leads field tab t like is_open [] come good held = nothing_leads t (standing tab) like
  write_leads field tab t like is_open (x ∷ xs) come good held =
      let after = after_changes (feeding n) tab (x ∷ xs) in
      let all : with_changes t.docs (map at_key (x ∷ xs)) ≡ Some after.docs = ap (λ docs. with_changes docs (map at_key (x ∷ xs))) like.docs ∙ changes_lead n field tab (x ∷ xs) come good held.0 in
      one_leads t (record t { docs = after.docs }) (wrote (map at_key (x ∷ xs))) (standing after) (like.shut ∙ is_open)
      (ap (option_map (λ docs. record t { docs = docs })) all)
      (record { docs = refl; indexes = subst (AreLike t.indexes) (sym (indexes_stay n field tab (x ∷ xs))) like.indexes; shut = like.shut ∙ sym (shut_stays n field tab (x ∷ xs)) })

  -- ---- commands on indexes

  with_those : (tab : DocumentTable) (t : Standing) (is js : Indexes) → IsLike t (standing tab) → AreLike is js → IsLike (record t { indexes = is }) (standing (record tab { indexes = js }))
  with_those tab t is js like same = record { docs = like.docs; indexes = same; shut = like.shut }

  -- an index that is told to be there already, and one that is made
  create_leads : (tab : DocumentTable) (t : Standing) (d : IndexDef) → IsLike t (standing tab) → t.shut ≡ false → IsWritten (cmds.IndexCreate d) → (b : Bool) → is_there d.name tab.indexes ≡ b
      → Leads t (option_to_list (if_changed (if b then said.IndexExists else said.Changed) (creation d))) (standing (record tab { indexes = if b then tab.indexes else put d.name (index_of d) tab.indexes }))
  create_leads tab t d like is_open w true there = nothing_leads t (standing tab) like
  create_leads tab t d like is_open (text, is, (g, reads, same)) false there =
      let absent : is_there d.name t.indexes ≡ false = there_like d.name t.indexes tab.indexes like.indexes ∙ there in
      let found : function_in text ≡ Some g = ap started_by reads in
      let made : with_index d.name d.multi text t.indexes ≡ Some (put d.name (g, d.multi) t.indexes) = rw (absent, found) refl in
      let one = one_leads t (record t { indexes = put d.name (g, d.multi) t.indexes }) (created d.name d.multi text) (standing (record tab { indexes = put d.name (index_of d) tab.indexes })) is_open
      (ap (option_map (λ is. record t { indexes = is })) made)
      (with_those tab t (put d.name (g, d.multi) t.indexes) (put d.name (index_of d) tab.indexes) like (put_like d.name (g, d.multi) (index_of d) (record { multi = refl; same = same }) t.indexes tab.indexes like.indexes)) in
      subst (λ o. Leads t (option_to_list (option_map (created d.name d.multi) o)) (standing (record tab { indexes = put d.name (index_of d) tab.indexes }))) (sym is) one

  drop_leads : (tab : DocumentTable) (t : Standing) (name : Bytes) → IsLike t (standing tab) → t.shut ≡ false → (b : Bool) → is_there name tab.indexes ≡ b
      → Leads t (option_to_list (if_changed (if b then said.Changed else said.IndexMissing) (Some (dropped name)))) (standing (record tab { indexes = without name tab.indexes }))
  drop_leads tab t name like is_open false there =
      nothing_leads t (standing (record tab { indexes = without name tab.indexes })) (with_those tab t t.indexes (without name tab.indexes) like (subst (AreLike t.indexes) (sym (without_absent name tab.indexes there)) like.indexes))
  drop_leads tab t name like is_open true there =
      let held : is_there name t.indexes ≡ true = there_like name t.indexes tab.indexes like.indexes ∙ there in
      let made : without_index name t.indexes ≡ Some (without name t.indexes) = rw held refl in
      one_leads t (record t { indexes = without name t.indexes }) (dropped name) (standing (record tab { indexes = without name tab.indexes })) is_open
      (ap (option_map (λ is. record t { indexes = is })) made)
      (with_those tab t (without name t.indexes) (without name tab.indexes) like (without_like name t.indexes tab.indexes like.indexes))

  rename_there : (tab : DocumentTable) (t : Standing) (old new : Bytes) → IsLike t (standing tab) → t.shut ≡ false → is_there old tab.indexes ≡ true
      → Leads t (renamed old new ∷ []) (standing (record tab { indexes = indexes.renamed old new (find old tab.indexes) tab.indexes }))
  rename_there tab t old new like is_open there =
      let held : is_there old t.indexes ≡ true = there_like old t.indexes tab.indexes like.indexes ∙ there in
      let made : with_renamed old new t.indexes ≡ Some (indexes.renamed old new (find old t.indexes) t.indexes) = rw held refl in
      one_leads t (record t { indexes = indexes.renamed old new (find old t.indexes) t.indexes }) (renamed old new) (standing (record tab { indexes = indexes.renamed old new (find old tab.indexes) tab.indexes })) is_open
      (ap (option_map (λ is. record t { indexes = is })) made)
      (with_those tab t (indexes.renamed old new (find old t.indexes) t.indexes) (indexes.renamed old new (find old tab.indexes) tab.indexes) like (renamed_like old new t.indexes tab.indexes like.indexes))

  find_none : (o : Option Index) → is_some o ≡ false → o ≡ None
  find_none None h = refl
  find_none (Some i) h = absurd (let g : true ≡ false = h in cc)

  rename_leads : (tab : DocumentTable) (t : Standing) (old new : Bytes) → IsLike t (standing tab) → t.shut ≡ false → (there same taken : Bool) → is_there old tab.indexes ≡ there
      → Leads t (option_to_list (if same then None else if_changed (if not there then said.IndexMissing else (if same then said.Changed else (if taken then said.IndexExists else said.Changed))) (Some (renamed old new))))
      (standing (record tab { indexes = if same then tab.indexes else (if taken then tab.indexes else indexes.renamed old new (find old tab.indexes) tab.indexes) }))
  rename_leads tab t old new like is_open there true taken held = nothing_leads t (standing tab) like
  rename_leads tab t old new like is_open true false true held = nothing_leads t (standing tab) like
  rename_leads tab t old new like is_open true false false held = rename_there tab t old new like is_open held
  rename_leads tab t old new like is_open false false true held = nothing_leads t (standing tab) like
  rename_leads tab t old new like is_open false false false held =
      nothing_leads t (standing (record tab { indexes = indexes.renamed old new (find old tab.indexes) tab.indexes }))
      (with_those tab t t.indexes (indexes.renamed old new (find old tab.indexes) tab.indexes) like
      (subst (λ o. AreLike t.indexes (indexes.renamed old new o tab.indexes)) (sym (find_none (find old tab.indexes) held)) like.indexes))

  -- ---- commands that leave the documents and the indexes alone

  by_room : (b : Bool) (tab : DocumentTable) (feeds : List (Feed Held Plain)) → standing (cond b (record tab { feeds = feeds }) tab) ≡ standing tab
  by_room true tab feeds = refl
  by_room false tab feeds = refl

  opened_standing : (tab : DocumentTable) (by : ℕ) (o : Option Held) → standing (opened_in (feeding n) tab by o) ≡ standing tab
  opened_standing tab by None = refl
  opened_standing tab by (Some h) = by_room (nat_lt (length tab.feeds) n) tab (tab.feeds ++ new_feed (feeding n) tab by h ∷ [])

module _ (come : ChangesCome) (good : ChangesLeaveGood) where
  -- what a command that is recorded leads to, its entry aside
  effect_leads : (n : ℕ) (tab : DocumentTable) (by : ℕ) (cmd : Cmd) (t : Standing) → IsLike t (standing tab) → adds (feeding n) (answer (feeding n) tab by (known_cmd cmd)) ≡ true → IsWritten cmd
      → AllByRecursion CanBeWritten (option_to_list (of_command cmd (answer (feeding n) tab by (known_cmd cmd)) (map at_key (changes_at (feeding n) tab by (known_cmd cmd)))))
      → Leads t (option_to_list (of_command cmd (answer (feeding n) tab by (known_cmd cmd)) (map at_key (changes_at (feeding n) tab by (known_cmd cmd))))) (standing (effect (feeding n) tab by (known_cmd cmd)))
  effect_leads n tab by (cmds.Write w) t like h written can =
      let xs = (write tab.docs tab.indexes w).changes in
      let u = unshut n tab (one_more (feeding n) (after_changes (feeding n) tab xs)) (said.Done ((write tab.docs tab.indexes w).summary)) h in
      let all : changes_at (feeding n) tab by (known.Write w) ≡ xs = rw h refl in
      subst (λ cs. Leads t (option_to_list (if_any (map at_key cs))) (standing (after_changes (feeding n) tab xs))) (sym all)
      (write_leads n w.key tab t like u.0 xs (come tab.docs tab.indexes w) (good tab.docs tab.indexes w) (subst (λ cs. AllByRecursion CanBeWritten (option_to_list (if_any (map at_key cs)))) all can))
  effect_leads n tab by (cmds.IndexCreate d) t like h written can =
      let u = unshut n tab (one_more (feeding n) (effect (feeding n) tab by (known_cmd (cmds.IndexCreate d)))) (index_said tab.indexes (create d.name (index_of d))) h in
      subst (λ s. Leads t (option_to_list (if_changed s (creation d))) (standing (effect (feeding n) tab by (known_cmd (cmds.IndexCreate d))))) (sym u.1)
      (create_leads n tab t d like (like.shut ∙ u.0) written (is_there d.name tab.indexes) refl)
  effect_leads n tab by (cmds.IndexDrop name) t like h written can =
      let u = unshut n tab (one_more (feeding n) (effect (feeding n) tab by (known_cmd (cmds.IndexDrop name)))) (index_said tab.indexes (drop name)) h in
      subst (λ s. Leads t (option_to_list (if_changed s (Some (dropped name)))) (standing (effect (feeding n) tab by (known_cmd (cmds.IndexDrop name))))) (sym u.1)
      (drop_leads n tab t name like (like.shut ∙ u.0) (is_there name tab.indexes) refl)
  effect_leads n tab by (cmds.IndexRename old new overwrite) t like h written can =
      let u = unshut n tab (one_more (feeding n) (effect (feeding n) tab by (known_cmd (cmds.IndexRename old new overwrite)))) (index_said tab.indexes (rename old new overwrite)) h in
      subst (λ s. Leads t (option_to_list (if same_text old new then None else if_changed s (Some (renamed old new)))) (standing (effect (feeding n) tab by (known_cmd (cmds.IndexRename old new overwrite))))) (sym u.1)
      (rename_leads n tab t old new like (like.shut ∙ u.0) (is_there old tab.indexes) (same_text old new) (is_taken new overwrite tab.indexes) refl)
  effect_leads n tab by (cmds.Subscribe spec) t like h written can =
      nothing_leads t (standing (opened_in (feeding n) tab by (held tab.indexes spec))) (subst (IsLike t) (sym (opened_standing n tab by (held tab.indexes spec))) like)
  effect_leads n tab by (cmds.Take feed max) t like h written can = nothing_leads t (standing tab) like
  effect_leads n tab by (cmds.Unsubscribe feed) t like h written can = nothing_leads t (standing tab) like
  effect_leads n tab by cmds.Shut t like h written can =
      let u = unshut n tab (one_more (feeding n) (record tab { shut = true })) said.Closed h in
      subst (λ s. Leads t (option_to_list (if_closed s (Some shut))) (standing (record tab { shut = true }))) (sym u.1)
      (one_leads t (record t { shut = true }) shut (standing (record tab { shut = true })) (like.shut ∙ u.0) refl (record { docs = like.docs; indexes = like.indexes; shut = refl }))
  effect_leads n tab by cmds.Sync t like h written can = nothing_leads t (standing tab) like

  -- the entry counts one more, and no record tells it
  recorded_by : (b : Bool) (tab then_so : DocumentTable) → b ≡ true → cond b then_so tab ≡ then_so
  recorded_by true tab then_so h = refl
  recorded_by false tab then_so h = absurd (let g : false ≡ true = h in cc)

  pub commands_lead : CommandsLead
  commands_lead s by o t like k =
      let added = sym (adds_any s.most (reply s by o).said) ∙ k.is_recorded in
      let gone = recorded_by (adds (feeding s.most) (reply s by o).said) s.table (one_more (feeding s.most) (effect (feeding s.most) s.table by (known_cmd o.cmd))) added in
      subst (λ tab. Leads t (records_of_order s by o) (standing tab)) (sym gone) (effect_leads s.most s.table by o.cmd t like added k.written k.can_be)

  -- ---- histories

  after_both : (t : Standing) (rs qs : List Recorded) (u : Standing) → after_records t rs ≡ Some u → after_records t (rs ++ qs) ≡ after_records u qs
  after_both t rs qs u h = records_both t rs qs ∙ ap (option_and_then (λ v. after_records v qs)) h

  pub histories_lead : HistoriesLead
  histories_lead s [] t like kept = nothing_leads t (standing s.table) like
  histories_lead s (e ∷ es) t like kept =
      let one = commands_lead s e.by e.cmd t like kept.0 in
      let rest = histories_lead (after s e.by e.cmd) es one.reached one.like kept.1 in
      record { reached = rest.reached; leads = after_both t (records_of_order s e.by e.cmd) (records_of (after s e.by e.cmd) es) one.reached one.leads ∙ rest.leads; like = rest.like }
