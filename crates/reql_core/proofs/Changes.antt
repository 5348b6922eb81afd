-- Changes of a table, and its feeds that are told of them.
use Rattle.std.proofs.Common.{◌≡◌, ◌<◌, ◌+◌, ℕ, zero, suc, List, [], ◌∷◌, map, drop, length, Option, Some, None, refl, sym, ap, subst, ◌∙◌, arith}
use Rattle.std.specs.Prelude.{slice_index_or}
use Rattle.reql_datum.specs.Order.{order}
use Rattle.reql_datum.specs.Plain.{Plain}
use Rattle.reql_memory.specs.Sorted.{AreRisingBy, find_by}
use Rattle.reql_term.specs.Views.{Document}
use Rattle.reql_table.specs.Seen.{Standing, Numbered, documents_of}
use Rattle.reql_rules.specs.Lists.{Bytes}
use Rattle.reql_table_machine_spec.specs.Feeds.{Feed, notice, after_change, after_changes}
use Rattle.reql_write_spec.specs.Laws.{AllCome}
use Rattle.reql_write_spec.specs.Treated.{Changed, set_at, changed}
use Rattle.reql_feed_spec.specs.Value as value
use Rattle.reql_table_spec.specs.Table.{Held, DocumentTable, feeding}
use Rattle.reql_feeds.specs.Ahead.{Pending, all_ahead, IsDraft}
use Rattle.reql_feeds.specs.Laws.{ChangesLead}
use Rattle.reql_feeds.specs.Record.{records, kept_in, AllFit}
use Rattle.reql_feeds.specs.Told.{noticed}
use Rattle.reql_feeds.specs.Turn.{told, done, undone, Leads}
use Rattle.reql_write_spec.specs.declared.command.Change.{Change}
use Rattle.reql_opening.specs.Opens.{Follows}
use Rattle.reql_core.specs.Writing.{AreAt, with_feeds}
use Rattle.reql_core.proofs.Numbers.{same_follows}

pub same_changed : (key : Plain) (new : Option Plain) (docs : List Document) → value.changed key new docs ≡ set_at key new docs
same_changed key None docs = refl
same_changed key (Some doc) docs = refl

-- ---- one change
module _ (sight : Standing → List Document) (sees : (t : Standing) → sight t ≡ documents_of t) (law : ChangesLead) (x : Changed) (t u : Standing)
    (up : AreRisingBy order (documents_of t)) (comes : find_by order x.key (documents_of t) ≡ x.old) (docs : documents_of u ≡ changed (documents_of t) x) where
  sight_is : sight u ≡ done x (documents_of t)
  sight_is = sees u ∙ (docs ∙ sym (same_changed x.key x.new (documents_of t)))

  pub leads_to : Leads x (sight u)
  leads_to = subst (Leads x) (sym sight_is) (law x (documents_of t) up comes).0

  pub undone_is : undone x (sight u) ≡ documents_of t
  undone_is = ap (λ d. undone x d) sight_is ∙ (law x (documents_of t) up comes).1

  pub fit_before : {F : Type 0} (fits : F → List Document → Type 0) (ks : List F) → AllFit fits (documents_of t) ks → AllFit fits (undone x (sight u)) ks
  fit_before fits ks all = subst (λ d. AllFit fits d ks) (sym undone_is) all

  pub told_so : (stamp : ℕ) (rs ss : List (Feed Held Plain)) → rs ≡ map (noticed stamp x (sight u)) ss → rs ≡ map (notice (feeding 0) (documents_of t) stamp x) ss
  told_so stamp rs ss e = e ∙ ap (λ d. map (notice (feeding 0) d stamp x) ss) undone_is

pub reads_on : {F : Type 0} (reads : F → Standing → Type 0) (stays : (f : F) (t u : Standing) → Follows t u → reads f t → reads f u) (t u : Standing) (ks : List F) → u.1 ≡ t.1 → AllFit reads t ks → AllFit reads u ks
reads_on reads stays t u ks same all = λ k d less. stays _ t u (same_follows t u same) (all k d less)

pub fit_after : {F : Type 0} (sight : Standing → List Document) (sees : (t : Standing) → sight t ≡ documents_of t) (fits : F → List Document → Type 0) (u : Standing) (ks : List F) → AllFit fits (sight u) ks → AllFit fits (documents_of u) ks
fit_after sight sees fits u ks all = subst (λ d. AllFit fits d ks) (sees u) all

-- the table after a change
pub one_change : (x : Changed) (t u : Standing) (stamp : ℕ) (rs ss : List (Feed Held Plain)) → documents_of u ≡ changed (documents_of t) x → u.1 ≡ t.1 → rs ≡ map (notice (feeding 0) (documents_of t) stamp x) ss
    → with_feeds u (suc stamp) rs ≡ after_change (feeding 0) (with_feeds t stamp ss) x
one_change x t u stamp rs ss docs same heard =
    ap (λ d. record (with_feeds u (suc stamp) rs) { docs = d }) (docs ∙ sym (same_changed x.key x.new (documents_of t)))
    ∙ (ap (λ (y : List (Bytes × Numbered) × ℕ). record (after_change (feeding 0) (with_feeds t stamp rs) x) { indexes = map (λ m. (m.0, m.1.1)) y.0; feeds = rs }) same
    ∙ ap (λ fs. record (after_change (feeding 0) (with_feeds t stamp rs) x) { feeds = fs }) heard)

-- ---- several changes
-- what is left of a list at a place begins with what stands there
drop_suc : {X : Type 0} (xs : List X) (n : ℕ) (d : X) → n < length xs → drop n xs ≡ slice_index_or xs n d ∷ drop (suc n) xs
drop_suc [] n d less = absurd (omega (arith, less))
drop_suc (x ∷ xs) zero d less = refl
drop_suc (x ∷ xs) (suc n) d less = drop_suc xs n d (omega (arith, less))

pub drop_at : {X : Type 0} (xs : List X) (n : ℕ) (d : X) → n < length xs → drop n xs ≡ slice_index_or xs n d ∷ drop (n + 1) xs
drop_at xs n d less = let e : suc n ≡ n + 1 = omega arith in drop_suc xs n d less ∙ ap (λ k. slice_index_or xs n d ∷ drop k xs) e

module _ {F : Type 0} (held : F → Held) (feeds : List (Feed F Plain)) (start : DocumentTable) (all : List Changed) where
  -- what is left of the changes leads from here to where all of them lead
  abbrev pub LeadsOn : Standing → ℕ → List (Pending F) → List Changed → Type 0
  LeadsOn table stamp draft rest = after_changes (feeding 0) (with_feeds table stamp (records held (all_ahead held feeds draft))) rest ≡ after_changes (feeding 0) start all

  pub step : (x : Changed) (rest : List Changed) (t u : Standing) (stamp : ℕ) (before after : List (Pending F)) → documents_of u ≡ changed (documents_of t) x → u.1 ≡ t.1
      → records held (all_ahead held feeds after) ≡ map (notice (feeding 0) (documents_of t) stamp x) (records held (all_ahead held feeds before))
      → LeadsOn t stamp before (x ∷ rest) → LeadsOn u (suc stamp) after rest
  step x rest t u stamp before after docs same heard leads =
      ap (λ s. after_changes (feeding 0) s rest) (one_change x t u stamp (records held (all_ahead held feeds after)) (records held (all_ahead held feeds before)) docs same heard) ∙ leads

pub at_after : {F : Type 0} (held : F → Held) (fits : F → List Document → Type 0) (reads : F → Standing → Type 0) (sight : Standing → List Document) (sees : (t : Standing) → sight t ≡ documents_of t)
    (stays : (f : F) (t u : Standing) → Follows t u → reads f t → reads f u) (feeds : List (Feed F Plain)) (t u : Standing) (before after : List (Pending F)) → AreAt held fits reads feeds t before → u.1 ≡ t.1
    → IsDraft held feeds after → AllFit fits (sight u) (kept_in (all_ahead held feeds after))
    → ((v : Standing) → AllFit reads v (kept_in (all_ahead held feeds before)) → AllFit reads v (kept_in (all_ahead held feeds after))) → AreAt held fits reads feeds u after
at_after held fits reads sight sees stays feeds t u before after at same draft fit read = record {
  draft_of = draft;
  fit = fit_after sight sees fits u (kept_in (all_ahead held feeds after)) fit;
  read = read u (reads_on reads stays t u (kept_in (all_ahead held feeds before)) same at.read);
}

-- the draft of all feeds as they are
pub at_first : {F : Type 0} (held : F → Held) (fits : F → List Document → Type 0) (reads : F → Standing → Type 0) (feeds : List (Feed F Plain)) (t u : Standing) (draft : List (Pending F)) → IsDraft held feeds draft → all_ahead held feeds draft ≡ feeds
    → u ≡ t → AllFit fits (documents_of t) (kept_in feeds) → AllFit reads t (kept_in feeds) → AreAt held fits reads feeds u draft
at_first held fits reads feeds t u draft is same e fit read = record {
  draft_of = is;
  fit = subst (λ (x : List (Feed _ Plain)). AllFit fits (documents_of u) (kept_in x)) (sym same) (subst (λ (v : Standing). AllFit fits (documents_of v) (kept_in feeds)) (sym e) fit);
  read = subst (λ (x : List (Feed _ Plain)). AllFit reads u (kept_in x)) (sym same) (subst (λ (v : Standing). AllFit reads v (kept_in feeds)) (sym e) read);
}

module _ {F : Type 0} (held : F → Held) (feeds : List (Feed F Plain)) where
  -- nothing has changed yet
  pub leads_first : (t u : Standing) (stamp : ℕ) (draft : List (Pending F)) (all : List Changed) → u ≡ t → all_ahead held feeds draft ≡ feeds → LeadsOn held feeds (with_feeds t stamp (records held feeds)) all u (stamp + 0) draft all
  leads_first t u stamp draft all e same =
      ap (λ n. after_changes (feeding 0) (with_feeds u n (records held (all_ahead held feeds draft))) all) (nothing stamp)
      ∙ (ap (λ v. after_changes (feeding 0) (with_feeds v stamp (records held (all_ahead held feeds draft))) all) e
      ∙ ap (λ fs. after_changes (feeding 0) (with_feeds t stamp (records held fs)) all) same)
    where
      nothing : (n : ℕ) → n + 0 ≡ n
      nothing n = omega arith

module _ (cs : List Change) (place : ℕ) (d : Change) (less : place < length cs) where
  abbrev here : Changed
  here = told (slice_index_or cs place d)

  abbrev rest : List Changed
  rest = map told (drop (place + 1) cs)

  parts : map told (drop place cs) ≡ here ∷ rest
  parts = ap (map told) (drop_at cs place d less)

  pub comes_at : (docs : List Document) → AllCome docs (map told (drop place cs)) → find_by order here.key docs ≡ here.old
  comes_at docs come = (subst (AllCome docs) parts come).0.there

  pub come_next : (docs after : List Document) → AllCome docs (map told (drop place cs)) → after ≡ changed docs here → AllCome after rest
  come_next docs after come is = subst (λ ds. AllCome ds rest) (sym is) (subst (AllCome docs) parts come).1

  pub leads_next : {F : Type 0} (held : F → Held) (feeds : List (Feed F Plain)) (start : DocumentTable) (all : List Changed) (t u : Standing) (stamp : ℕ) (before after : List (Pending F))
      → documents_of u ≡ changed (documents_of t) here → u.1 ≡ t.1 → records held (all_ahead held feeds after) ≡ map (notice (feeding 0) (documents_of t) (stamp + place) here) (records held (all_ahead held feeds before))
      → LeadsOn held feeds start all t (stamp + place) before (map told (drop place cs)) → LeadsOn held feeds start all u (stamp + (place + 1)) after rest
  leads_next held feeds start all t u stamp before after docs same heard leads =
      ap (λ n. after_changes (feeding 0) (with_feeds u n (records held (all_ahead held feeds after))) rest) (count stamp place)
      ∙ step held feeds start all here rest t u (stamp + place) before after docs same heard
      (ap (λ ys. after_changes (feeding 0) (with_feeds t (stamp + place) (records held (all_ahead held feeds before))) ys) (sym parts) ∙ leads)
    where
      count : (a b : ℕ) → a + (b + 1) ≡ suc (a + b)
      count a b = omega arith
