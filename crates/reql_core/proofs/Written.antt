-- Writes.
use Rattle.std.proofs.Common.{◌≡◌, ◌<◌, ◌^◌, ◌+◌, ◌-◌, ℕ, suc, List, [], ◌∷◌, map, length, Bool, true, false, cond, nat_lt, refl, sym, ap, subst, ◌∙◌, arith}
use Rattle.std.proofs.lemmas.List.{nil_from_length}
use Rattle.reql_datum.specs.Order.{order}
use Rattle.reql_datum.specs.Plain.{Plain}
use Rattle.reql_memory.specs.Sorted.{AreRisingBy, find_by}
use Rattle.reql_term.specs.Views.{Document}
use Rattle.reql_table.specs.Seen.{Standing, documents_of, indexes_of}
use Rattle.reql_table_machine_spec.specs.Fed.{changes_at}
use Rattle.reql_table_machine_spec.specs.Feeds.{Feed, push, push_all, dropping, adds, after_change, after_changes, one_more, says}
use Rattle.reql_table_machine_spec.specs.declared.command.Cmd.TheVariants as known
use Rattle.reql_table_machine_spec.specs.declared.command.Said.TheVariants as said
use Rattle.reql_write_spec.specs.Laws.{AllCome}
use Rattle.reql_write_spec.specs.Treated.{Changed, changed}
use Rattle.reql_write_spec.specs.Write.{write}
use Rattle.reql_write_spec.specs.declared.command.Change.{Change}
use Rattle.reql_write_spec.specs.declared.command.Summary.{Summary}
use Rattle.reql_write_spec.specs.declared.command.WriteCmd.{WriteCmd}
use Rattle.reql_table_spec.specs.Replies.{said_of}
use Rattle.reql_table_spec.specs.Table.{Held, DocumentTable, feeding, at_key}
use Rattle.reql_table_spec.specs.declared.reply.Said.{Said}
use Rattle.reql_table_spec.specs.declared.reply.Said.TheVariants as answers
use Rattle.reql_feeds.specs.Ahead.{Pending, all_ahead}
use Rattle.reql_feeds.specs.Laws.{ChangesLead}
use Rattle.reql_feeds.specs.Record.{records, kept_in, AllFit}
use Rattle.reql_feeds.specs.Told.{noticed}
use Rattle.reql_feeds.specs.Turn.{told, undone}
use Rattle.reql_core.specs.Live.{Live, Lives, table_of, Does}
use Rattle.reql_opening.specs.Opens.{Follows}
use Rattle.reql_core.specs.Writing.{AreAt, with_feeds, landed, landed_one}
use Rattle.reql_core.proofs.Batches.{numbers, below_by}
use Rattle.reql_core.proofs.Changes.{told_so as told_as, fit_after, reads_on, one_change}
use Rattle.reql_core.proofs.Doing.{done, idle, refused, past_by}
use Rattle.reql_core.proofs.Commands.{next}
use Rattle.reql_core.proofs.Untold.{leads_untold}

-- ---- what a draft is committed to keeps the numbers of the feeds
module _ {K : Type 0} where
  either : (n : ℕ) (b : Bool) (f g : Feed K Plain) → f.number ≡ n → g.number ≡ n → (cond b f g).number ≡ n
  either n true f g e h = e
  either n false f g e h = h

  number_dropping : (f : Feed K Plain) (q : List (ℕ × Plain)) (p : ℕ × Plain) → (dropping f q p).number ≡ f.number
  number_dropping f [] p = refl
  number_dropping f (o ∷ q) p = refl

  number_pushed : (size : ℕ) (ps : List (ℕ × Plain)) (f : Feed K Plain) → (push_all size f ps).number ≡ f.number
  number_pushed size [] f = refl
  number_pushed size (p ∷ ps) f = number_pushed size ps (push size f p) ∙ either f.number (nat_lt (length f.queue) size) _ (dropping f f.queue p) refl (number_dropping f f.queue p)

numbers_ahead : {F : Type 0} (held : F → Held) (fs : List (Feed F Plain)) (ps : List (Pending F)) → numbers (all_ahead held fs ps) ≡ numbers fs
numbers_ahead held [] ps = refl
numbers_ahead held (f ∷ fs) [] = refl
numbers_ahead held (f ∷ fs) (p ∷ ps) =
    ap (λ n. n ∷ numbers (all_ahead held fs ps)) (number_pushed _ p.items _) ∙ ap (λ ns. f.number ∷ ns) (numbers_ahead held fs ps)

-- ---- a table after the changes of a write
module _ {F : Type 0} (held : F → Held) where
  pub lives_landed : (fits : F → List Document → Type 0) (reads : F → Standing → Type 0) (l : Live F) (table : Standing) (stamp : ℕ) (draft : List (Pending F))
      → Lives fits reads l → AreAt held fits reads l.feeds table draft → l.moment.place + 1 < 2 ^ 64 → stamp < 2 ^ 64 → Lives fits reads (landed held l table stamp draft)
  lives_landed fits reads l table stamp draft v at room less = record {
    fit = at.fit;
    read = at.read;
    below = λ k d small. let b = below_by (suc l.moment.place) l.feeds (all_ahead held l.feeds draft) (numbers_ahead held l.feeds draft) v.below k d small in omega (arith, b);
    place = room;
    stamp = less;
  }

carried : (most place : ℕ) (b : Bool) (t : DocumentTable) (xs : List Changed) → after_changes (feeding most) (record t { shut = b; place = place }) xs ≡ record (after_changes (feeding 0) t xs) { shut = b; place = place }
carried most place b t [] = refl
carried most place b t (x ∷ xs) = carried most place b (after_change (feeding 0) t x) xs

pub leaves_it : {F : Type 0} (held : F → Held) (l : Live F) (table : Standing) (stamp : ℕ) (draft : List (Pending F)) (xs : List Changed)
    → with_feeds table stamp (records held (all_ahead held l.feeds draft)) ≡ after_changes (feeding 0) (with_feeds l.moment.table l.moment.stamp (records held l.feeds)) xs → l.shut ≡ false
    → table_of held (landed held l table stamp draft) ≡ one_more (feeding l.most) (after_changes (feeding l.most) (table_of held l) xs)
leaves_it held l table stamp draft xs e alive =
    ap (λ p. record (with_feeds table stamp (records held (all_ahead held l.feeds draft))) { shut = l.shut; place = p }) (next l.moment.place)
    ∙ (ap (λ (t : DocumentTable). record t { shut = l.shut; place = suc l.moment.place }) e
    ∙ ap (λ (t : DocumentTable). record t { place = suc t.place }) (sym (carried l.most l.moment.place l.shut (with_feeds l.moment.table l.moment.stamp (records held l.feeds)) xs))
    )

-- changes that come where others do that are the same
pub all_come : (docs : List Document) (xs ys : List Changed) → xs ≡ ys → AllCome docs ys → AllCome docs xs
all_come docs xs ys e come = subst (AllCome docs) (sym e) come

-- ---- one change
numbers_of_records : {F : Type 0} (held : F → Held) (fs : List (Feed F Plain)) → numbers (records held fs) ≡ numbers fs
numbers_of_records held [] = refl
numbers_of_records held (f ∷ fs) = ap (λ ns. f.number ∷ ns) (numbers_of_records held fs)

numbers_noticed : (stamp : ℕ) (x : Changed) (docs : List Document) (rs : List (Feed Held Plain)) → numbers (map (noticed stamp x docs) rs) ≡ numbers rs
numbers_noticed stamp x docs [] = refl
numbers_noticed stamp x docs (r ∷ rs) =
    ap (λ n. n ∷ numbers (map (noticed stamp x docs) rs)) (number_pushed _ (map (λ i. (suc stamp, i)) ((feeding 0).items r.kept (undone x docs) x)) r) ∙ ap (λ ns. r.number ∷ ns) (numbers_noticed stamp x docs rs)

module _ {F : Type 0} (held : F → Held) (sight : Standing → List Document) (sees : (t : Standing) → sight t ≡ documents_of t) (l : Live F) (x : Changed) (u : Standing) (fs : List (Feed F Plain))
    (told_so : records held fs ≡ map (noticed l.moment.stamp x (sight u)) (records held l.feeds)) (same : u.1 ≡ l.moment.table.1) where
  pub lives_one : (fits : F → List Document → Type 0) (reads : F → Standing → Type 0) → ((f : F) (t v : Standing) → Follows t v → reads f t → reads f v) → Lives fits reads l → AllFit fits (sight u) (kept_in fs)
      → ((v : Standing) → AllFit reads v (kept_in l.feeds) → AllFit reads v (kept_in fs)) → l.moment.place + 1 < 2 ^ 64 → l.moment.stamp + 1 < 2 ^ 64 → Lives fits reads (landed_one l u fs)
  lives_one fits reads stays v fit read room less =
      let same_numbers : numbers fs ≡ numbers l.feeds = sym (numbers_of_records held fs) ∙ (ap (λ (rs : List (Feed Held Plain)). numbers rs) told_so ∙ (numbers_noticed l.moment.stamp x (sight u) (records held l.feeds) ∙ numbers_of_records held l.feeds)) in record {
        fit = fit_after sight sees fits u (kept_in fs) fit;
        read = read u (reads_on reads stays l.moment.table u (kept_in l.feeds) same v.read);
        below = λ k d small. let b = below_by (suc l.moment.place) l.feeds fs same_numbers v.below k d small in omega (arith, b);
        place = room;
        stamp = less;
      }

  pub leaves_one : ChangesLead → AreRisingBy order (documents_of l.moment.table) → find_by order x.key (documents_of l.moment.table) ≡ x.old → documents_of u ≡ changed (documents_of l.moment.table) x
      → table_of held (landed_one l u fs) ≡ one_more (feeding l.most) (after_changes (feeding l.most) (table_of held l) (x ∷ []))
  leaves_one law up comes docs =
      let heard = told_as sight sees law x l.moment.table u up comes docs l.moment.stamp (records held fs) (records held l.feeds) told_so in
      let e = one_change x l.moment.table u l.moment.stamp (records held fs) (records held l.feeds) docs same heard in
      (λ i. record (with_feeds u (next l.moment.stamp i) (records held fs)) { shut = l.shut; place = next l.moment.place i })
      ∙ (ap (λ (t : DocumentTable). record t { shut = l.shut; place = suc l.moment.place }) e
      ∙ ap (λ (t : DocumentTable). record t { place = suc t.place }) (sym (carried l.most l.moment.place l.shut (with_feeds l.moment.table l.moment.stamp (records held l.feeds)) (x ∷ []))))

-- one change, of which no feed has to be told
none_ahead : {F : Type 0} (held : F → Held) (fs : List (Feed F Plain)) → all_ahead held fs [] ≡ fs
none_ahead held [] = refl
none_ahead held (f ∷ fs) = refl

module _ {F : Type 0} (held : F → Held) (l : Live F) (u : Standing) (none : length l.feeds ≡ 0) where
  pub lives_unheard : (fits : F → List Document → Type 0) (reads : F → Standing → Type 0) → Lives fits reads l → l.moment.place + 1 < 2 ^ 64 → l.moment.stamp + 1 < 2 ^ 64 → Lives fits reads (landed_one l u l.feeds)
  lives_unheard fits reads v room less = record {
    fit = subst (λ (x : List (Feed F Plain)). AllFit fits (documents_of u) (kept_in x)) (sym (nil_from_length l.feeds none)) (λ k d small. absurd (omega (arith, small)));
    read = subst (λ (x : List (Feed F Plain)). AllFit reads u (kept_in x)) (sym (nil_from_length l.feeds none)) (λ k d small. absurd (omega (arith, small)));
    below = λ k d small. let b = below_by (suc l.moment.place) l.feeds l.feeds refl v.below k d small in omega (arith, b);
    place = room;
    stamp = less;
  }

  pub leaves_unheard : (change : Change) → documents_of u ≡ changed (documents_of l.moment.table) (told change) → u.1 ≡ l.moment.table.1 → l.shut ≡ false
      → table_of held (landed_one l u l.feeds) ≡ one_more (feeding l.most) (after_changes (feeding l.most) (table_of held l) (told change ∷ []))
  leaves_unheard change docs same alive =
      let unheard = none_ahead held l.feeds in
      subst (λ (fs : List (Feed F Plain)). table_of held (landed_one l u fs) ≡ one_more (feeding l.most) (after_changes (feeding l.most) (table_of held l) (told change ∷ []))) unheard
      (leaves_it held l u (l.moment.stamp + 1) [] (told change ∷ []) (leads_untold held l.feeds [] none unheard l.moment.table u l.moment.stamp (change ∷ []) docs same) alive)

stamps : (most : ℕ) (t : DocumentTable) (xs : List Changed) → (after_changes (feeding most) t xs).stamp ≡ t.stamp + length xs
stamps most t [] = omega arith
stamps most t (x ∷ xs) = let ih = stamps most (after_change (feeding most) t x) xs in ih ∙ count t.stamp (length xs)
  where
    count : (a b : ℕ) → suc a + b ≡ a + suc b
    count a b = omega arith

module _ {F : Type 0} (held : F → Held) (by : ℕ) (w : WriteCmd) (old : Live F) where
  abbrev changes : List Changed
  changes = (write (documents_of old.moment.table) (indexes_of old.moment.table) w).changes

  abbrev summary : Summary
  summary = (write (documents_of old.moment.table) (indexes_of old.moment.table) w).summary

  pub gone : old.shut ≡ true → Does held by (known.Write w) old old answers.Gone
  gone shut = idle held by (known.Write w) old old answers.Gone (sym (ap (λ b. cond b said.Gone (said.Done summary)) shut)) refl refl

  adds_it : old.shut ≡ false → adds (feeding old.most) (says (feeding old.most) (table_of held old) by (known.Write w)) ≡ true
  adds_it alive = ap (λ b. adds (feeding old.most) (cond b said.Gone (said.Done summary))) alive

  pub full : (xs : List Changed) → xs ≡ changes → old.shut ≡ false → 2 ^ 64 - 1 - old.moment.stamp < length xs → Does held by (known.Write w) old old (answers.HistoryFull (2 ^ 64 - 1))
  full xs is alive many = refused held by (known.Write w) old old (answers.HistoryFull (2 ^ 64 - 1)) (adds_it alive) (past_by (suc _) _ (above is)) refl refl
    where
      above : xs ≡ changes → 2 ^ 64 - 1 < (after_changes (feeding old.most) (table_of held old) changes).stamp
      above is = let e = stamps old.most (table_of held old) changes in let f = ap length is in omega (arith, e, f, many)

  pub wrote : (xs : List Changed) (s : Summary) (new : Live F) → xs ≡ changes → s ≡ summary → old.shut ≡ false
      → table_of held new ≡ one_more (feeding old.most) (after_changes (feeding old.most) (table_of held old) xs) → new.most ≡ old.most → new.moment.place < 2 ^ 64 → new.moment.stamp < 2 ^ 64
      → Does held by (known.Write w) old new (answers.Done s)
  wrote xs s new is sums alive leaves most place stamp = done held by (known.Write w) old new (answers.Done s)
      (ap said.Done sums ∙ sym (ap (λ b. cond b said.Gone (said.Done summary)) alive)) refl
      (leaves ∙ ap (λ ys. one_more (feeding old.most) (after_changes (feeding old.most) (table_of held old) ys)) is) most place stamp

  -- ---- what is handed over
  pub kept_none : (new : Live F) (s : Said) → Does held by (known.Write w) old new s → adds (feeding 0) (said_of s) ≡ false → [] ≡ map at_key (changes_at (feeding old.most) (table_of held old) by (known.Write w))
  kept_none new s does none = sym (ap (λ b. map at_key (cond b changes [])) (ap (adds (feeding 0)) (sym does.says) ∙ none))

  pub kept_all : (new : Live F) (s : Said) (xs : List Changed) → Does held by (known.Write w) old new s → adds (feeding 0) (said_of s) ≡ true → xs ≡ changes
      → map at_key xs ≡ map at_key (changes_at (feeding old.most) (table_of held old) by (known.Write w))
  kept_all new s xs does some is = ap (map at_key) is ∙ sym (ap (λ b. map at_key (cond b changes [])) (ap (adds (feeding 0)) (sym does.says) ∙ some))
