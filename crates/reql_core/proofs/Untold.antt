-- A table without open feeds after changes.
use Rattle.std.proofs.Common.{◌≡◌, ◌+◌, ℕ, suc, List, [], ◌∷◌, map, length, false, sym, ap, subst, ◌∙◌, arith}
use Rattle.std.proofs.lemmas.List.{nil_from_length, length-map}
use Rattle.reql_datum.specs.Plain.{Plain}
use Rattle.reql_rules.specs.Lists.{Bytes}
use Rattle.reql_term.specs.Views.{Document, Index}
use Rattle.reql_table.specs.Seen.{Standing, Numbered, documents_of, indexes_of}
use Rattle.reql_table_machine_spec.specs.Feeds.{Feed, after_changes}
use Rattle.reql_write_spec.specs.Treated.{Changed, set_at, changed_by}
use Rattle.reql_write_spec.specs.declared.command.Change.{Change}
use Rattle.reql_feed_spec.specs.Value as value
use Rattle.reql_table_spec.specs.Table.{Held, DocumentTable, feeding}
use Rattle.reql_feeds.specs.Ahead.{Pending, all_ahead, IsDraft}
use Rattle.reql_feeds.specs.Record.{records, kept_in, AllFit}
use Rattle.reql_feeds.specs.Turn.{told}
use Rattle.reql_core.specs.Writing.{AreAt, with_feeds}
use Rattle.reql_core.proofs.Changes.{same_changed}

abbrev untold : List Document → List (Bytes × Index) → ℕ → DocumentTable
untold docs indexes stamp = record { docs = docs; indexes = indexes; feeds = []; shut = false; place = 0; stamp = stamp }

after_all : (docs : List Document) (indexes : List (Bytes × Index)) (stamp : ℕ) (xs : List Changed) → after_changes (feeding 0) (untold docs indexes stamp) xs ≡ untold (changed_by docs xs) indexes (stamp + length xs)
after_all docs indexes stamp [] = ap (λ n. untold docs indexes n) (nothing stamp)
  where
    nothing : (n : ℕ) → n ≡ n + 0
    nothing n = omega arith
after_all docs indexes stamp (x ∷ xs) =
    after_all (value.changed x.key x.new docs) indexes (suc stamp) xs
    ∙ (ap (λ d. untold (changed_by d xs) indexes (suc stamp + length xs)) (same_changed x.key x.new docs)
    ∙ ap (λ n. untold (changed_by (set_at x.key x.new docs) xs) indexes n) (count stamp (length xs)))
  where
    count : (a b : ℕ) → suc a + b ≡ a + suc b
    count a b = omega arith

module _ {F : Type 0} (held : F → Held) (feeds : List (Feed F Plain)) (draft : List (Pending F)) (none : length feeds ≡ 0) (same : all_ahead held feeds draft ≡ feeds) where
  no_feeds : all_ahead held feeds draft ≡ []
  no_feeds = same ∙ nil_from_length feeds none

  pub at_untold : (fits : F → List Document → Type 0) (reads : F → Standing → Type 0) (u : Standing) → IsDraft held feeds draft → AreAt held fits reads feeds u draft
  at_untold fits reads u is = record {
    draft_of = is;
    fit = subst (λ (x : List (Feed F Plain)). AllFit fits (documents_of u) (kept_in x)) (sym no_feeds) (λ k d less. absurd (omega (arith, less)));
    read = subst (λ (x : List (Feed F Plain)). AllFit reads u (kept_in x)) (sym no_feeds) (λ k d less. absurd (omega (arith, less)));
  }

  pub leads_untold : (t u : Standing) (stamp : ℕ) (cs : List Change) → documents_of u ≡ changed_by (documents_of t) (map told cs) → u.1 ≡ t.1
      → with_feeds u (stamp + length cs) (records held (all_ahead held feeds draft)) ≡ after_changes (feeding 0) (with_feeds t stamp (records held feeds)) (map told cs)
  leads_untold t u stamp cs docs alike =
      ap (λ fs. with_feeds u (stamp + length cs) (records held fs)) no_feeds
      ∙ (ap (λ d. record (with_feeds u (stamp + length cs) []) { docs = d }) docs
      ∙ (ap (λ (y : List (Bytes × Numbered) × ℕ). record (with_feeds u (stamp + length cs) []) { docs = changed_by (documents_of t) (map told cs); indexes = map (λ m. (m.0, m.1.1)) y.0 }) alike
      ∙ (ap (λ n. untold (changed_by (documents_of t) (map told cs)) (indexes_of t) (stamp + n)) (sym (length-map cs told))
      ∙ (sym (after_all (documents_of t) (indexes_of t) stamp (map told cs))
      ∙ ap (λ fs. after_changes (feeding 0) (with_feeds t stamp (records held fs)) (map told cs)) (sym (nil_from_length feeds none))))))
