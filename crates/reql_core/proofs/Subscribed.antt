-- Feeds that open.
use Rattle.std.proofs.Common.{◌≡◌, ◌<◌, ◌≤◌, ◌^◌, ◌+◌, ℕ, suc, List, [], ◌∷◌, ◌++◌, length, true, false, cond, Option, Some, None, refl, sym, ap, ◌∙◌, arith}
use Rattle.std.specs.Prelude.{nat_lt}
use Rattle.std.proofs.lemmas.Bool.Decides.{nat_tests}
use Rattle.std.proofs.lemmas.List.{length-map, map-append}
use Rattle.reql_datum.specs.Plain.{Plain}
use Rattle.reql_table.specs.Seen.{documents_of, indexes_of}
use Rattle.reql_table_machine_spec.specs.Feeds.{opens, opened_in, says, one_more}
use Rattle.reql_table_machine_spec.specs.declared.command.Cmd.TheVariants as known
use Rattle.reql_table_machine_spec.specs.declared.command.Said.{Said}
use Rattle.reql_table_machine_spec.specs.declared.command.Said.TheVariants as said
use Rattle.reql_write_spec.specs.declared.command.Summary.{Summary}
use Rattle.reql_table_spec.specs.Table.{Held, DocumentTable, feeding}
use Rattle.reql_table_spec.specs.Table as law
use Rattle.reql_table_spec.specs.declared.command.FeedSpec.{FeedSpec}
use Rattle.reql_table_spec.specs.declared.reply.Said.TheVariants as answers
use Rattle.reql_feeds.specs.Record.{records, record_of, fresh}
use Rattle.reql_core.specs.Live.{Live, table_of, Does}
use Rattle.reql_core.proofs.Doing.{done, idle}
use Rattle.reql_core.proofs.Commands.{moved, moved_is, next}

module _ {F : Type 0} (held : F → Held) (by : ℕ) (spec : FeedSpec) (old : Live F) where
  abbrev kept : Option Held
  kept = law.held (indexes_of old.moment.table) spec

  -- what is answered, and what becomes of the table, by what is kept of the request
  says_by : (o : Option Held) (x : Said Summary Plain) → kept ≡ o → old.shut ≡ false → opens (feeding old.most) (table_of held old) o ≡ x → x ≡ says (feeding old.most) (table_of held old) by (known.Subscribe spec)
  says_by o x is alive e = sym (ap (λ b. cond b said.Gone (opens (feeding old.most) (table_of held old) kept)) alive ∙ (ap (opens (feeding old.most) (table_of held old)) is ∙ e))

  pub gone : old.shut ≡ true → Does held by (known.Subscribe spec) old old answers.Gone
  gone shut = idle held by (known.Subscribe spec) old old answers.Gone (sym (ap (λ b. cond b said.Gone (opens (feeding old.most) (table_of held old) kept)) shut)) refl refl

  pub missing : old.shut ≡ false → kept ≡ None → old.moment.place + 1 < 2 ^ 64 → old.moment.stamp < 2 ^ 64 → Does held by (known.Subscribe spec) old (moved old) answers.IndexMissing
  missing alive none place stamp = done held by (known.Subscribe spec) old (moved old) answers.IndexMissing (says_by None said.IndexMissing none alive refl) refl
      (moved_is held by old ∙ sym (ap (λ o. one_more (feeding old.most) (opened_in (feeding old.most) (table_of held old) by o)) none)) refl place stamp

  no_room : old.most ≤ length old.feeds → nat_lt (length (records held old.feeds)) old.most ≡ false
  no_room h = let e : length (records held old.feeds) ≡ length old.feeds = length-map old.feeds (record_of held) in ap (λ n. nat_lt n old.most) e ∙ not_less (length old.feeds) old.most h
    where
      not_less : (a b : ℕ) → b ≤ a → nat_lt a b ≡ false
      not_less a b h = grind (arith, nat_tests)

  is_room : length old.feeds < old.most → nat_lt (length (records held old.feeds)) old.most ≡ true
  is_room h = let e : length (records held old.feeds) ≡ length old.feeds = length-map old.feeds (record_of held) in ap (λ n. nat_lt n old.most) e ∙ less (length old.feeds) old.most h
    where
      less : (a b : ℕ) → a < b → nat_lt a b ≡ true
      less a b h = grind (arith, nat_tests)

  pub full : (h : Held) → old.shut ≡ false → kept ≡ Some h → old.most ≤ length old.feeds → old.moment.place + 1 < 2 ^ 64 → old.moment.stamp < 2 ^ 64
      → Does held by (known.Subscribe spec) old (moved old) (answers.FeedsFull old.most)
  full h alive is many place stamp = done held by (known.Subscribe spec) old (moved old) (answers.FeedsFull old.most)
      (says_by (Some h) (said.FeedsFull old.most) is alive (ap (λ b. cond b (said.Opened (suc old.moment.place) ((feeding old.most).opening h (documents_of old.moment.table))) (said.FeedsFull old.most)) (no_room many))) refl
      (moved_is held by old ∙ sym (ap (λ o. one_more (feeding old.most) (opened_in (feeding old.most) (table_of held old) by o)) is
      ∙ ap (λ b. one_more (feeding old.most) (cond b (record (table_of held old) { feeds = records held old.feeds ++ fresh by (suc old.moment.place) old.moment.stamp h ∷ [] }) (table_of held old))) (no_room many))) refl place stamp

  -- the feed that comes last
  comes : (f : F) → records held (old.feeds ++ fresh by (old.moment.place + 1) old.moment.stamp f ∷ []) ≡ records held old.feeds ++ fresh by (suc old.moment.place) old.moment.stamp (held f) ∷ []
  comes f = map-append (record_of held) old.feeds (fresh by (old.moment.place + 1) old.moment.stamp f ∷ [])
      ∙ ap (λ n. records held old.feeds ++ fresh by n old.moment.stamp (held f) ∷ []) (next old.moment.place)

  pub opened_it : (f : F) (items : List Plain) → old.shut ≡ false → kept ≡ Some (held f) → items ≡ (feeding 0).opening (held f) (documents_of old.moment.table) → length old.feeds < old.most
      → old.moment.place + 1 < 2 ^ 64 → old.moment.stamp < 2 ^ 64
      → Does held by (known.Subscribe spec) old (moved (record old { feeds = old.feeds ++ fresh by (old.moment.place + 1) old.moment.stamp f ∷ [] })) (answers.Opened (old.moment.place + 1) items)
  opened_it f items alive is shows less place stamp =
      let more : Live F = record old { feeds = old.feeds ++ fresh by (old.moment.place + 1) old.moment.stamp f ∷ [] } in
      done held by (known.Subscribe spec) old (moved (record old { feeds = old.feeds ++ fresh by (old.moment.place + 1) old.moment.stamp f ∷ [] })) (answers.Opened (old.moment.place + 1) items)
      (says_by (Some (held f)) (said.Opened (old.moment.place + 1) items) is alive
      (ap (λ b. cond b (said.Opened (suc old.moment.place) ((feeding old.most).opening (held f) (documents_of old.moment.table))) (said.FeedsFull old.most)) (is_room less)
      ∙ sym (ap (λ n. said.Opened n items) (next old.moment.place) ∙ ap (λ is. said.Opened (suc old.moment.place) is) shows))) refl
      (moved_is held by more ∙ ap (λ rs. record (table_of held old) { feeds = rs; place = suc old.moment.place }) (comes f)
      ∙ sym (ap (λ o. one_more (feeding old.most) (opened_in (feeding old.most) (table_of held old) by o)) is
      ∙ ap (λ b. one_more (feeding old.most) (cond b (record (table_of held old) { feeds = records held old.feeds ++ fresh by (suc old.moment.place) old.moment.stamp (held f) ∷ [] }) (table_of held old))) (is_room less))) refl place stamp
