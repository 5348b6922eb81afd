-- One entry more of what is counted.
use Rattle.std.proofs.Common.{◌≡◌, ◌≤◌, inl, inr, ℕ, suc, ◌+◌, nat_lt, List, [], ◌∷◌, ◌++◌, length, map, drop, Option, Some, None, Bool, true, false, cond, refl, sym, ap, subst, ◌∙◌, arith}
use Rattle.std.proofs.lemmas.Bool.Decides.{nat_tests}
use Rattle.reql_datum.specs.Plain.{Plain}
use Rattle.reql_table_machine_spec.proofs.Tracking.{split}
use Rattle.reql_feed_spec.specs.Feeds.{bare}
use Rattle.reql_table_spec.specs.Laws.{docs_at}
use Rattle.reql_table_spec.specs.Machine.{State, after, reply, entry_of}
use Rattle.reql_table_spec.specs.Table.{Held}
use Rattle.reql_table_spec.specs.declared.command.Entry.{Entry}
use Rattle.reql_load.specs.Folded.{folded}
use Rattle.reql_tally.specs.Past.{OpenedFeed, Sent, feeds_opened, batches_taken, opened_by, sent_to, latest}
use Rattle.reql_tally.specs.Tallied.{IsCount, FoldsUp, value_of}
use Rattle.reql_tally.specs.Views.{made, docs_after, FoldsOver, IsTold, IsCounted, LeadsOn, one_fed, one_folds}
use Rattle.reql_tally.proofs.Histories.{docs_now, docs_then, begins, goes_on}

-- ---- the last stamp is none before the first
no_less : (a b : ℕ) → nat_lt a b ≡ true → a ≤ b
no_less a b h = grind (arith, nat_tests)

one_later : (stamp n : ℕ) → stamp ≤ cond (nat_lt stamp n) n stamp
one_later stamp n = split (nat_lt stamp n) (λ b. stamp ≤ cond b n stamp) (λ h. no_less stamp n h) (λ h. omega arith)

pub no_earlier : (stamp : ℕ) (items : List (ℕ × Plain)) → stamp ≤ latest stamp items
no_earlier stamp [] = omega arith
no_earlier stamp (i ∷ items) =
    let first : stamp ≤ cond (nat_lt stamp i.0) i.0 stamp = one_later stamp i.0 in
    let rest : cond (nat_lt stamp i.0) i.0 stamp ≤ latest (cond (nat_lt stamp i.0) i.0 stamp) items = no_earlier (cond (nat_lt stamp i.0) i.0 stamp) items in
    omega (arith, first, rest)

-- ---- a feed that was opened where the history leads folds over the history exactly where it folds from there
module _ (start s : State) (all rest : List Entry) (l : LeadsOn start all s rest) (none : start.table.stamp ≡ 0) (owner number : ℕ) (kept : Option Held) where
  abbrev feed : OpenedFeed
  feed = record { owner = owner; number = number; kept = kept; opened = s.table.stamp }

  abbrev sent : List (ℕ × Plain)
  sent = sent_to owner number (batches_taken start all)

  abbrev Over : Type 0
  Over = FoldsOver kept s.table.docs (made start all) (batches_taken start all) owner number s.table.stamp

  then_docs : value_of kept (docs_after s.table.docs (made start all) s.table.stamp (latest s.table.stamp sent)) ≡ value_of kept (docs_at start (map entry_of all) (latest s.table.stamp sent))
  then_docs = sym (ap (value_of kept) (docs_then start s all rest l none (latest s.table.stamp sent) (no_earlier s.table.stamp sent)))

  now_docs : value_of kept s.table.docs ≡ value_of kept (docs_at start (map entry_of all) s.table.stamp)
  now_docs = sym (ap (value_of kept) (docs_now start s all rest l none))

  up : Over → FoldsUp start all feed
  up o = record {
    whole = o.whole;
    folds = ap (λ z. folded z (bare sent)) (sym now_docs) ∙ o.folds ∙ ap Some then_docs;
  }

  over : FoldsUp start all feed → Over
  over u = record {
    whole = u.whole;
    folds = ap (λ z. folded z (bare sent)) now_docs ∙ u.folds ∙ ap Some (sym then_docs);
  }

-- ---- counts
module _ (P : OpenedFeed → Type 0) (whole fs rest : List OpenedFeed) (m n : ℕ) where
  add_none : fs ≡ [] → IsCounted P whole (fs ++ rest) m n → IsCounted P whole rest (m + 0) (n + 0)
  add_none e c =
      let d : IsCounted P whole rest m n = subst (λ z. IsCounted P whole (z ++ rest) m n) e c in
      let is : length whole ≡ m + length rest = d.feeds in
      record {
        feeds = omega (arith, is);
        folds = λ k h. subst (λ z. IsCount P whole z) (same k) (d.folds k h);
      }
    where
      same : (k : ℕ) → n + k ≡ n + 0 + k
      same k = omega arith

  add_so : (f : OpenedFeed) → fs ≡ f ∷ [] → P f → IsCounted P whole (fs ++ rest) m n → IsCounted P whole rest (m + 1) (n + 1)
  add_so f e p c =
      let d : IsCounted P whole (f ∷ rest) m n = subst (λ z. IsCounted P whole (z ++ rest) m n) e c in
      let is : length whole ≡ m + suc (length rest) = d.feeds in
      record {
        feeds = omega (arith, is);
        folds = λ k h. subst (λ z. IsCount P whole z) (same k) (d.folds (suc k) (inl (k, refl, p, h)));
      }
    where
      same : (k : ℕ) → n + suc k ≡ n + 1 + k
      same k = omega arith

  add_not : (f : OpenedFeed) → fs ≡ f ∷ [] → (P f → ⊥) → IsCounted P whole (fs ++ rest) m n → IsCounted P whole rest (m + 1) (n + 0)
  add_not f e p c =
      let d : IsCounted P whole (f ∷ rest) m n = subst (λ z. IsCounted P whole (z ++ rest) m n) e c in
      let is : length whole ≡ m + suc (length rest) = d.feeds in
      record {
        feeds = omega (arith, is);
        folds = λ k h. subst (λ z. IsCount P whole z) (same k) (d.folds k (inr (p, h)));
      }
    where
      same : (k : ℕ) → n + k ≡ n + 0 + k
      same k = omega arith

no_truth : false ≡ true → ⊥
no_truth h = subst is_false h tt
  where
    is_false : Bool → Type 0
    is_false true = ⊥
    is_false false = Unit {0}

pub counted_next : (start s : State) (all rest : List Entry) (e : Entry) (cs : List (Plain × Option Plain)) (bs : List Sent) (told : Option Bool) (m n : ℕ)
    → start.table.stamp ≡ 0 → cs ≡ made start all → bs ≡ batches_taken start all → LeadsOn start all s (e ∷ rest)
    → IsTold s.table.docs cs bs s.table.stamp (opened_by s e.by e.order.cmd (reply s e.by e.order).said) told
    → IsCounted (FoldsUp start all) (feeds_opened start all) (feeds_opened s (e ∷ rest)) m n
    → IsCounted (FoldsUp start all) (feeds_opened start all) (feeds_opened (after s e.by e.order) rest) (m + one_fed told) (n + one_folds told)
counted_next start s all rest e cs bs None m n none is_made is_sent l t c =
    add_none (FoldsUp start all) (feeds_opened start all) (opened_by s e.by e.order.cmd (reply s e.by e.order).said) (feeds_opened (after s e.by e.order) rest) m n t c
counted_next start s all rest e cs bs (Some true) m n none is_made is_sent l t c =
    let over_history : FoldsOver t.kept s.table.docs (made start all) (batches_taken start all) t.owner t.number s.table.stamp =
    subst (λ b. FoldsOver t.kept s.table.docs (made start all) b t.owner t.number s.table.stamp) is_sent
    (subst (λ z. FoldsOver t.kept s.table.docs z bs t.owner t.number s.table.stamp) is_made (t.folds.0 refl)) in
    add_so (FoldsUp start all) (feeds_opened start all) (opened_by s e.by e.order.cmd (reply s e.by e.order).said) (feeds_opened (after s e.by e.order) rest) m n
    (record { owner = t.owner; number = t.number; kept = t.kept; opened = s.table.stamp }) t.one (up start s all (e ∷ rest) l none t.owner t.number t.kept over_history) c
counted_next start s all rest e cs bs (Some false) m n none is_made is_sent l t c =
    add_not (FoldsUp start all) (feeds_opened start all) (opened_by s e.by e.order.cmd (reply s e.by e.order).said) (feeds_opened (after s e.by e.order) rest) m n
    (record { owner = t.owner; number = t.number; kept = t.kept; opened = s.table.stamp }) t.one
    (λ u. no_truth (t.folds.1
    (subst (λ z. FoldsOver t.kept s.table.docs z bs t.owner t.number s.table.stamp) (sym is_made)
    (subst (λ b. FoldsOver t.kept s.table.docs (made start all) b t.owner t.number s.table.stamp) (sym is_sent) (over start s all (e ∷ rest) l none t.owner t.number t.kept u))))) c

pub counts_all : (P : OpenedFeed → Type 0) (fs : List OpenedFeed) → IsCounted P fs fs 0 0
counts_all P fs = record { feeds = omega arith; folds = λ k h. subst (λ z. IsCount P fs z) (none k) h }
  where
    none : (k : ℕ) → k ≡ 0 + k
    none k = omega arith

pub all_counted : (P : OpenedFeed → Type 0) (fs : List OpenedFeed) (m n : ℕ) → IsCounted P fs [] m n → (m ≡ length fs) × IsCount P fs n
all_counted P fs m n c =
    let is : length fs ≡ m + 0 = c.feeds in
    (omega (arith, is), subst (λ z. IsCount P fs z) same (c.folds 0 refl))
  where
    same : n + 0 ≡ n
    same = omega arith

-- ---- along a history
abbrev pub Along : State → List Entry → State → List Entry → ℕ → ℕ → ℕ → Type 0
Along start all s rest place m n = LeadsOn start all s rest × IsCounted (FoldsUp start all) (feeds_opened start all) (feeds_opened s rest) m n × (m ≤ place) × (n ≤ m)

pub along_first : (start s : State) (all : List Entry) → s ≡ start → Along start all s (drop 0 all) 0 0 0
along_first start s all e = subst (λ z. Along start all z (drop 0 all) 0 0 0) (sym e) (begins start all, counts_all (FoldsUp start all) (feeds_opened start all), omega arith, omega arith)

fewer : (told : Option Bool) (place m n : ℕ) → m ≤ place → n ≤ m → (m + one_fed told ≤ place + 1) × (n + one_folds told ≤ m + one_fed told)
fewer None place m n h k = (omega (arith, h), omega (arith, k))
fewer (Some true) place m n h k = (omega (arith, h), omega (arith, k))
fewer (Some false) place m n h k = (omega (arith, h), omega (arith, k))

pub along_next : (start s now : State) (all es rest : List Entry) (e : Entry) (cs : List (Plain × Option Plain)) (bs : List Sent) (told : Option Bool) (place m n feeds folds : ℕ)
    → start.table.stamp ≡ 0 → cs ≡ made start all → bs ≡ batches_taken start all → es ≡ e ∷ rest → now ≡ after s e.by e.order
    → IsTold s.table.docs cs bs s.table.stamp (opened_by s e.by e.order.cmd (reply s e.by e.order).said) told → feeds ≡ m + one_fed told → folds ≡ n + one_folds told
    → Along start all s es place m n → Along start all now rest (place + 1) feeds folds
along_next start s now all es rest e cs bs told place m n feeds folds none is_made is_sent is goes t more so a =
    let here : Along start all s (e ∷ rest) place m n = subst (λ z. Along start all s z place m n) is a in
    let few = fewer told place m n a.2 a.3 in
    subst (λ z. Along start all z rest (place + 1) feeds folds) (sym goes)
    (subst (λ z. Along start all (after s e.by e.order) rest (place + 1) z folds) (sym more)
    (subst (λ z. Along start all (after s e.by e.order) rest (place + 1) (m + one_fed told) z) (sym so)
    (goes_on start s all rest e here.0, counted_next start s all rest e cs bs told m n none is_made is_sent here.0 t here.1, few.0, few.1)))

pub along_last : (start s : State) (all es : List Entry) (place m n : ℕ) → es ≡ [] → Along start all s es place m n → (m ≡ length (feeds_opened start all)) × IsCount (FoldsUp start all) (feeds_opened start all) n
along_last start s all es place m n none a =
    all_counted (FoldsUp start all) (feeds_opened start all) m n (subst (λ z. IsCounted (FoldsUp start all) (feeds_opened start all) (feeds_opened s z) m n) none a.1)
