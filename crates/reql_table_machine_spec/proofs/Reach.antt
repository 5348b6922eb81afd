-- The documents and the stamp of a table that a history leads to, whatever its feeds are.
use Rattle.std.proofs.Common.{◌≡◌, ◌≤◌, ℕ, ◌+◌, ◌-◌, cond, List, [], ◌∷◌, ◌++◌, length, take, Option, Some, None, refl, sym, ap, ◌∙◌, arith, append_assoc, length-append}
use Rattle.std.specs.Prelude.{nat_lt}
use Rattle.std.proofs.Math.Seq.{take-length, take-append-add}
use Rattle.reql_table_machine_spec.specs.Feeding.{Feeding, changed}
use Rattle.reql_table_machine_spec.specs.Feeds.{Table, after_change, after_changes, opened_in, new_feed, effect, one_more, adds, answer, after, after_cmd, table_machine}
use Rattle.reql_table_machine_spec.specs.Fed.{changes_by, changes_at, changes_from, docs_at}
use Rattle.reql_table_machine_spec.specs.Laws.{RefusedStays, DocsAtStamp, LaterDocs}
use Rattle.reql_table_machine_spec.specs.declared.command.Cmd.{Cmd}
use Rattle.reql_table_machine_spec.specs.declared.command.Cmd.TheVariants as cmds
use Rattle.reql_table_machine_spec.specs.declared.command.Order.{Order}
use Rattle.reql_table_machine_spec.specs.declared.command.Reply.{Reply}
use Rattle.reql_table_machine_spec.specs.declared.command.Look.{Look}
use Rattle.reql_table_machine_spec.specs.declared.command.Said.{Said}
use Rattle.reql_shared.specs.declared.recorded.Recorded.{Recorded}
use Rattle.reql_shared.specs.Machine.{Machine, replay}
use Rattle.reql_table_machine_spec.proofs.Items.{changed_append}
use Rattle.reql_table_machine_spec.proofs.Tracking.{split}

module _ {D J W N P M X K I F : Type 0} (m : Feeding D J W N P M X K I F) where
  abbrev T : Type 0
  T = Table D J K I

  abbrev Entries : Type 0
  Entries = List (Recorded (Order (Cmd W N P)))

  abbrev machine : Machine T (Order (Cmd W N P)) (Reply (Said M I)) (Unit {0}) (Look (D × J))
  machine = table_machine m

  pub changes_place : (xs : List X) (t : T) → (after_changes m t xs).place ≡ t.place
  changes_place [] t = refl
  changes_place (x ∷ xs) t = changes_place xs (after_change m t x)

  pub changes_docs : (xs : List X) (t : T) → (after_changes m t xs).docs ≡ changed m t.docs xs
  changes_docs [] t = refl
  changes_docs (x ∷ xs) t = changes_docs xs (after_change m t x)

  pub changes_stamp : (xs : List X) (t : T) → (after_changes m t xs).stamp ≡ t.stamp + length xs
  changes_stamp [] t = omega arith
  changes_stamp (x ∷ xs) t = omega (arith, changes_stamp xs (after_change m t x))

  -- documents and stamp after a command
  pub effect_docs : (t : T) (who : ℕ) (cmd : Cmd W N P) → ((effect m t who cmd).docs ≡ changed m t.docs (changes_by m t cmd)) × ((effect m t who cmd).stamp ≡ t.stamp + length (changes_by m t cmd))
  effect_docs t who (cmds.Write w) = (changes_docs (m.changes t.docs t.indexes w) t, changes_stamp (m.changes t.docs t.indexes w) t)
  effect_docs t who (cmds.Index j) = (refl, omega arith)
  effect_docs t who (cmds.Subscribe p) = opened (m.keep t.indexes p)
    where
      opened : (o : Option K) → ((opened_in m t who o).docs ≡ t.docs) × ((opened_in m t who o).stamp ≡ t.stamp + 0)
      opened None = (refl, omega arith)
      opened (Some k) = split (nat_lt (length t.feeds) m.most) (λ b. ((cond b (record t { feeds = t.feeds ++ new_feed m t who k ∷ [] }) t).docs ≡ t.docs) × ((cond b (record t { feeds = t.feeds ++ new_feed m t who k ∷ [] }) t).stamp ≡ t.stamp + 0))
          (λ _. (refl, omega arith)) (λ _. (refl, omega arith))
  effect_docs t who (cmds.Take feed max) = (refl, omega arith)
  effect_docs t who (cmds.Unsubscribe feed) = (refl, omega arith)
  effect_docs t who cmds.Shut = (refl, omega arith)
  effect_docs t who cmds.Sync = (refl, omega arith)

  pub after_docs : (t : T) (who : ℕ) (cmd : Cmd W N P) → ((after_cmd m t who cmd).docs ≡ changed m t.docs (changes_at m t who cmd)) × ((after_cmd m t who cmd).stamp ≡ t.stamp + length (changes_at m t who cmd))
  after_docs t who cmd = split (adds m (answer m t who cmd)) (λ b. ((cond b (one_more m (effect m t who cmd)) t).docs ≡ changed m t.docs (cond b (changes_by m t cmd) [])) × ((cond b (one_more m (effect m t who cmd)) t).stamp ≡ t.stamp + length (cond b (changes_by m t cmd) [])))
      (λ _. effect_docs t who cmd) (λ _. (refl, omega arith))

  pub reach : (t : T) (es : Entries) → ((replay machine t es).docs ≡ changed m t.docs (changes_from m t es)) × ((replay machine t es).stamp ≡ t.stamp + length (changes_from m t es))
  reach t [] = (refl, omega arith)
  reach t (e ∷ es) =
      let a = after_docs t e.by e.cmd.cmd in
      let r = reach (after m t e.by e.cmd) es in
      let xs : List X = changes_at m t e.by e.cmd.cmd in
      let ys : List X = changes_from m (after m t e.by e.cmd) es in
      (r.0 ∙ ap (λ z. changed m z ys) a.0 ∙ sym (changed_append m t.docs xs ys), omega (arith, r.1, a.1, length-append xs ys))

  pub changes_append : (t : T) (xs ys : Entries) → changes_from m t (xs ++ ys) ≡ changes_from m t xs ++ changes_from m (replay machine t xs) ys
  changes_append t [] ys = refl
  changes_append t (e ∷ es) ys = ap (λ z. changes_at m t e.by e.cmd.cmd ++ z) (changes_append (after m t e.by e.cmd) es ys)
      ∙ sym (append_assoc (changes_at m t e.by e.cmd.cmd) (changes_from m (after m t e.by e.cmd) es) (changes_from m (replay machine (after m t e.by e.cmd) es) ys))

  -- the documents at a later stamp, seen from a later table
  pub docs_later : (t : T) (pre rest : Entries) (n : ℕ) → (replay machine t pre).stamp ≤ n → docs_at m t (pre ++ rest) n ≡ docs_at m (replay machine t pre) rest n
  docs_later t pre rest n le =
      let xs : List X = changes_from m t pre in
      let s : T = replay machine t pre in
      let ys : List X = changes_from m s rest in
      let r = reach t pre in
      let k : n - t.stamp ≡ length xs + (n - s.stamp) = omega (arith, r.1, le) in
      ap (λ z. changed m t.docs (take (n - t.stamp) z)) (changes_append t pre rest) ∙ ap (λ z. changed m t.docs (take z (xs ++ ys))) k
      ∙ ap (λ z. changed m t.docs z) (take-append-add xs ys (n - s.stamp)) ∙ changed_append m t.docs xs (take (n - s.stamp) ys) ∙ ap (λ z. changed m z (take (n - s.stamp) ys)) (sym r.0)

  -- ---- the laws
  pub refused_stays : RefusedStays m
  refused_stays t who cmd h = ap (λ b. cond b (one_more m (effect m t who cmd)) t) h

  pub docs_at_stamp : DocsAtStamp m
  docs_at_stamp t es =
      let r = reach t es in
      let xs : List X = changes_from m t es in
      let k : (replay machine t es).stamp - t.stamp ≡ length xs = omega (arith, r.1) in
      ap (λ n. changed m t.docs (take n xs)) k ∙ ap (λ z. changed m t.docs z) (take-length xs) ∙ sym r.0

  pub later_docs : LaterDocs m
  later_docs t history more n le = docs_later t history more n le
