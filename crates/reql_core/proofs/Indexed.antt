-- Commands on indexes.
use Rattle.std.proofs.Common.{◌≡◌, ◌<◌, ◌^◌, ◌+◌, ℕ, suc, List, [], ◌∷◌, Bool, true, false, not, cond, if◌then◌else◌, Option, Some, None, is_some, true≢false, refl, sym, ap, subst, ◌∙◌, arith}
use Rattle.std.specs.List.{All}
use Rattle.reql_datum.specs.Members.{text_order, find, put, without}
use Rattle.reql_datum.specs.Plain.{Plain}
use Rattle.std.specs.Ordering.{is_eq}
use Rattle.reql_rules.specs.Lists.{Bytes}
use Rattle.reql_rules.specs.Types.{same_text}
use Rattle.reql_term.specs.Views.{Document, Index}
use Rattle.reql_table.specs.Edits.{renamed as moved_name}
use Rattle.reql_table.specs.Seen.{Standing, documents_of, indexes_of}
use Rattle.reql_table_machine_spec.specs.Feeds.{says, adds}
use Rattle.reql_table_machine_spec.specs.declared.command.Cmd.TheVariants as known
use Rattle.reql_table_machine_spec.specs.declared.command.Said.{Said}
use Rattle.reql_table_machine_spec.specs.declared.command.Said.TheVariants as said
use Rattle.reql_write_spec.specs.declared.command.Summary.{Summary}
use Rattle.reql_table_spec.specs.Indexes.{Indexes, IndexCmd, create, drop, rename, is_there, is_taken, renamed, indexed, index_said}
use Rattle.reql_table_spec.specs.Replies.{said_of}
use Rattle.reql_table_spec.specs.Table.{Held, feeding}
use Rattle.reql_table_spec.specs.declared.reply.Said.{Said as AsSaid}
use Rattle.reql_table_spec.specs.declared.reply.Said.TheVariants as answers
use Rattle.reql_feeds.specs.Record.{kept_in}
use Rattle.reql_core.specs.Live.{Live, Lives, gone_on, table_of, Does}
use Rattle.reql_opening.specs.Opens.{Follows}
use Rattle.reql_core.proofs.Doing.{done, idle}
use Rattle.reql_core.proofs.Commands.{moved, moved_is, next}

-- what it keeps on another table with the same documents
pub lives_on : {F : Type 0} (fits : F → List Document → Type 0) (reads : F → Standing → Type 0) (l : Live F) (table : Standing)
    → ((f : F) (t u : Standing) → Follows t u → reads f t → reads f u) → Lives fits reads l → documents_of table ≡ documents_of l.moment.table → Follows l.moment.table table → l.moment.place + 1 < 2 ^ 64
    → Lives fits reads (gone_on table l)
lives_on fits reads l table stays v docs follows room = record {
  fit = subst (λ d. All (λ k. fits k d) (kept_in l.feeds)) (sym docs) v.fit;
  read = λ k d less. stays _ l.moment.table table follows (v.read k d less);
  below = λ k d less. let b = v.below k d less in omega (arith, b);
  place = room;
  stamp = v.stamp;
}

none_of : {X : Type 0} (o : Option X) → is_some o ≡ false → o ≡ None
none_of None e = refl
none_of (Some x) e = absurd (true≢false e)

module _ {F : Type 0} (held : F → Held) (by : ℕ) (n : IndexCmd) (old : Live F) where
  abbrev there : Indexes
  there = indexes_of old.moment.table

  says_by : (x : Said Summary Plain) → index_said there n ≡ x → old.shut ≡ false → x ≡ says (feeding old.most) (table_of held old) by (known.Index n)
  says_by x is alive = sym (ap (λ b. cond b said.Gone (index_said there n)) alive ∙ is)

  pub gone : old.shut ≡ true → Does held by (known.Index n) old old answers.Gone
  gone shut = idle held by (known.Index n) old old answers.Gone (sym (ap (λ b. cond b said.Gone (index_said there n)) shut)) refl refl

  passed : (s : AsSaid) → index_said there n ≡ said_of s → adds (feeding old.most) (said_of s) ≡ true → indexed there n ≡ there → old.shut ≡ false
      → old.moment.place + 1 < 2 ^ 64 → old.moment.stamp < 2 ^ 64 → Does held by (known.Index n) old (moved old) s
  passed s says_so adds_so same alive place stamp = done held by (known.Index n) old (moved old) s (says_by (said_of s) says_so alive) adds_so
      (moved_is held by old ∙ ap (λ is. record (table_of held old) { indexes = is; place = suc old.moment.place }) (sym same)) refl place stamp

  went_on : (table : Standing) → documents_of table ≡ documents_of old.moment.table → indexes_of table ≡ indexed there n → ◌≡◌ {A = Said Summary Plain} (index_said there n) said.Changed → old.shut ≡ false
      → old.moment.place + 1 < 2 ^ 64 → old.moment.stamp < 2 ^ 64 → Does held by (known.Index n) old (gone_on table old) answers.Changed
  went_on table docs is says_so alive place stamp = done held by (known.Index n) old (gone_on table old) answers.Changed (says_by said.Changed says_so alive) refl
      (ap (λ d. record (table_of held old) { docs = d; indexes = indexes_of table; place = old.moment.place + 1 }) docs
      ∙ (ap (λ is. record (table_of held old) { indexes = is; place = old.moment.place + 1 }) is
      ∙ ap (λ p. record (table_of held old) { indexes = indexed there n; place = p }) (next old.moment.place))) refl place stamp

module _ {F : Type 0} (held : F → Held) (by : ℕ) (old : Live F) where
  abbrev now : Indexes
  now = indexes_of old.moment.table

  pub create_passed : (name : Bytes) (i : Index) → is_there name now ≡ true → old.shut ≡ false → old.moment.place + 1 < 2 ^ 64 → old.moment.stamp < 2 ^ 64
      → Does held by (known.Index (create name i)) old (moved old) answers.IndexExists
  create_passed name i h alive place stamp = passed held by (create name i) old answers.IndexExists (ap (λ b. if b then said.IndexExists else said.Changed) h) refl (ap (λ b. if b then now else put name i now) h) alive place stamp

  pub created : (name : Bytes) (i : Index) (table : Standing) → is_there name now ≡ false → documents_of table ≡ documents_of old.moment.table → indexes_of table ≡ put name i now → old.shut ≡ false
      → old.moment.place + 1 < 2 ^ 64 → old.moment.stamp < 2 ^ 64 → Does held by (known.Index (create name i)) old (gone_on table old) answers.Changed
  created name i table h docs is alive place stamp = went_on held by (create name i) old table docs (is ∙ sym (ap (λ b. if b then now else put name i now) h)) (ap (λ b. if b then said.IndexExists else said.Changed) h) alive place stamp

  pub drop_passed : (name : Bytes) → is_there name now ≡ false → old.shut ≡ false → old.moment.place + 1 < 2 ^ 64 → old.moment.stamp < 2 ^ 64
      → Does held by (known.Index (drop name)) old (moved old) answers.IndexMissing
  drop_passed name h alive place stamp = passed held by (drop name) old answers.IndexMissing (ap (λ b. if b then said.Changed else said.IndexMissing) h) refl (without_none name now (none_of (find name now) h)) alive place stamp
    where
      cut : (b : Bool) (m : Bytes × Index) (ms rest : Indexes) (o : Option Index) → cond b (Some m.1) o ≡ None → (o ≡ None → rest ≡ ms) → cond b ms (m ∷ rest) ≡ m ∷ ms
      cut true m ms rest o e on = absurd cc
      cut false m ms rest o e on = ap (λ t. m ∷ t) (on e)

      without_none : (k : Bytes) (ms : Indexes) → find k ms ≡ None → without k ms ≡ ms
      without_none k [] e = refl
      without_none k (m ∷ ms) e = cut (is_eq (text_order k m.0)) m ms (without k ms) (find k ms) e (without_none k ms)

  pub dropped : (name : Bytes) (table : Standing) → is_there name now ≡ true → documents_of table ≡ documents_of old.moment.table → indexes_of table ≡ without name now → old.shut ≡ false
      → old.moment.place + 1 < 2 ^ 64 → old.moment.stamp < 2 ^ 64 → Does held by (known.Index (drop name)) old (gone_on table old) answers.Changed
  dropped name table h docs is alive place stamp = went_on held by (drop name) old table docs is (ap (λ b. if b then said.Changed else said.IndexMissing) h) alive place stamp

  module _ (from to : Bytes) (overwrite : Bool) where
    abbrev after_name : Said Summary Plain
    after_name = if is_taken to overwrite now then said.IndexExists else said.Changed

    abbrev after_there : Said Summary Plain
    after_there = if same_text from to then said.Changed else after_name

    abbrev with_name : Indexes
    with_name = if is_taken to overwrite now then now else renamed from to (find from now) now

    stays : (a b : Bool) (x : Indexes) → x ≡ now → (if a then now else (if b then now else x)) ≡ now
    stays true b x e = refl
    stays false true x e = refl
    stays false false x e = e

    pub rename_missing : is_there from now ≡ false → old.shut ≡ false → old.moment.place + 1 < 2 ^ 64 → old.moment.stamp < 2 ^ 64
        → Does held by (known.Index (rename from to overwrite)) old (moved old) answers.IndexMissing
    rename_missing h alive place stamp = passed held by (rename from to overwrite) old answers.IndexMissing (ap (λ b. if not b then said.IndexMissing else after_there) h) refl
        (stays (same_text from to) (is_taken to overwrite now) (renamed from to (find from now) now) (ap (λ o. renamed from to o now) (none_of (find from now) h))) alive place stamp

    pub rename_same : is_there from now ≡ true → same_text from to ≡ true → old.shut ≡ false → old.moment.place + 1 < 2 ^ 64 → old.moment.stamp < 2 ^ 64
        → Does held by (known.Index (rename from to overwrite)) old (moved old) answers.Changed
    rename_same h same alive place stamp = passed held by (rename from to overwrite) old answers.Changed (ap (λ b. if not b then said.IndexMissing else after_there) h ∙ ap (λ b. if b then said.Changed else after_name) same) refl
        (ap (λ b. if b then now else with_name) same) alive place stamp

    says_name : is_there from now ≡ true → same_text from to ≡ false → index_said now (rename from to overwrite) ≡ after_name
    says_name h other = ap (λ b. if not b then said.IndexMissing else after_there) h ∙ ap (λ b. if b then said.Changed else after_name) other

    pub rename_taken : is_there from now ≡ true → same_text from to ≡ false → is_taken to overwrite now ≡ true → old.shut ≡ false → old.moment.place + 1 < 2 ^ 64 → old.moment.stamp < 2 ^ 64
        → Does held by (known.Index (rename from to overwrite)) old (moved old) answers.IndexExists
    rename_taken h other taken alive place stamp = passed held by (rename from to overwrite) old answers.IndexExists (says_name h other ∙ ap (λ b. if b then said.IndexExists else said.Changed) taken) refl
        (ap (λ b. if b then now else with_name) other ∙ ap (λ b. if b then now else renamed from to (find from now) now) taken) alive place stamp

    same_name : (o : Option Index) → moved_name from to o now ≡ renamed from to o now
    same_name None = refl
    same_name (Some i) = refl

    pub renamed_it : (table : Standing) → is_there from now ≡ true → same_text from to ≡ false → is_taken to overwrite now ≡ false → documents_of table ≡ documents_of old.moment.table
        → indexes_of table ≡ moved_name from to (find from now) now → old.shut ≡ false → old.moment.place + 1 < 2 ^ 64 → old.moment.stamp < 2 ^ 64
        → Does held by (known.Index (rename from to overwrite)) old (gone_on table old) answers.Changed
    renamed_it table h other free docs is alive place stamp = went_on held by (rename from to overwrite) old table docs
        (is ∙ (same_name (find from now) ∙ sym (ap (λ b. if b then now else with_name) other ∙ ap (λ b. if b then now else renamed from to (find from now) now) free)))
        (says_name h other ∙ ap (λ b. if b then said.IndexExists else said.Changed) free) alive place stamp
