-- What a history makes, and the documents at a stamp of it.
use Rattle.std.proofs.Common.{◌≡◌, ◌≤◌, ℕ, ◌+◌, ◌-◌, List, [], ◌∷◌, ◌++◌, length, map, take, drop, Option, refl, sym, ap, subst, ◌∙◌, arith, append_assoc}
use Rattle.std.proofs.lemmas.List.{map-append, take-map, length-map}
use Rattle.std.proofs.Math.Seq.{drop-append_seam}
use Rattle.reql_datum.specs.Plain.{Plain}
use Rattle.reql_term.specs.Views.{Document}
use Rattle.reql_write_spec.specs.Treated.{Changed}
use Rattle.reql_shared.specs.Machine.{replay}
use Rattle.reql_table_machine_spec.specs.Feeding.{changed}
use Rattle.reql_table_machine_spec.specs.Fed.{changes_at}
use Rattle.reql_table_machine_spec.proofs.Reach as of_tables
use Rattle.reql_feed_spec.specs.Feeds.{changed_by}
use Rattle.reql_feed_spec.specs.Value as one
use Rattle.reql_table_spec.specs.Laws.{changes, docs_at}
use Rattle.reql_table_spec.specs.Machine.{State, machine, after, entry_of, known_cmd, known_entry}
use Rattle.reql_table_spec.specs.Table.{feeding, at_key}
use Rattle.reql_table_spec.specs.declared.command.Entry.{Entry}
use Rattle.reql_table_spec.proofs.Replays.{replay_is, stamp_counts, later_docs}
use Rattle.reql_tally.specs.Views.{made, made_by, docs_after, LeadsOn}

-- ---- changes
docs_made : (most : ℕ) (docs : List Document) (xs : List Changed) → changed_by docs (map at_key xs) ≡ changed (feeding most) docs xs
docs_made most docs [] = refl
docs_made most docs (x ∷ xs) = docs_made most (one.changed x.key x.new docs) xs

pub made_next : (s : State) (e : Entry) (es : List Entry) → made s (e ∷ es) ≡ made_by s e.by e.order.cmd ++ made (after s e.by e.order) es
made_next s e es = map-append at_key (changes_at (feeding s.most) s.table e.by (known_cmd e.order.cmd)) (changes (after s e.by e.order) (map entry_of es))

made_append : (s : State) (xs ys : List Entry) → made s (xs ++ ys) ≡ made s xs ++ made (replay machine s (map entry_of xs)) ys
made_append s [] ys = refl
made_append s (e ∷ es) ys =
    let first : List (Plain × Option Plain) = made_by s e.by e.order.cmd in
    let second : List (Plain × Option Plain) = made (after s e.by e.order) es in
    let third : List (Plain × Option Plain) = made (replay machine (after s e.by e.order) (map entry_of es)) ys in
    made_next s e (es ++ ys) ∙ ap (λ z. first ++ z) (made_append (after s e.by e.order) es ys) ∙ sym (append_assoc first second third) ∙ ap (λ z. z ++ third) (sym (made_next s e es))

-- the documents after all changes, which the stamp counts
pub all_docs : (s : State) (es : List Entry) → changed_by s.table.docs (made s es) ≡ (replay machine s (map entry_of es)).table.docs
all_docs s es =
    docs_made s.most s.table.docs (changes s (map entry_of es))
    ∙ sym (of_tables.reach (feeding s.most) s.table (map known_entry (map entry_of es))).0
    ∙ sym (ap (λ (z : State). z.table.docs) (replay_is s (map entry_of es)))

pub all_stamps : (s : State) (es : List Entry) → s.table.stamp ≡ 0 → length (made s es) ≡ (replay machine s (map entry_of es)).table.stamp
all_stamps s es none =
    let count : (replay machine s (map entry_of es)).table.stamp ≡ s.table.stamp + length (changes s (map entry_of es)) = stamp_counts s (map entry_of es) in
    let same : length (made s es) ≡ length (changes s (map entry_of es)) = length-map (changes s (map entry_of es)) at_key in
    omega (arith, count, same, none)

-- ---- where a history leads
pub begins : (s : State) (es : List Entry) → LeadsOn s es s es
begins s es = record { past = []; parts = refl; state = refl }

replay_last : (s : State) (xs : List Entry) (e : Entry) → replay machine s (map entry_of (xs ++ e ∷ [])) ≡ after (replay machine s (map entry_of xs)) e.by e.order
replay_last s [] e = refl
replay_last s (x ∷ xs) e = replay_last (after s x.by x.order) xs e

pub goes_on : (start s : State) (all rest : List Entry) (e : Entry) → LeadsOn start all s (e ∷ rest) → LeadsOn start all (after s e.by e.order) rest
goes_on start s all rest e l = record {
  past = l.past ++ e ∷ [];
  parts = l.parts ∙ sym (append_assoc l.past (e ∷ []) rest);
  state = ap (λ (z : State). after z e.by e.order) l.state ∙ sym (replay_last start l.past e);
}

module _ (start s : State) (all rest : List Entry) (l : LeadsOn start all s rest) (none : start.table.stamp ≡ 0) where
  -- the changes that are to come
  to_come : drop s.table.stamp (made start all) ≡ made s rest
  to_come =
      let stands : State = replay machine start (map entry_of l.past) in
      let n : s.table.stamp ≡ length (made start l.past) = ap (λ (z : State). z.table.stamp) l.state ∙ sym (all_stamps start l.past none) in
      ap (λ k. drop k (made start all)) n ∙ ap (λ z. drop (length (made start l.past)) (made start z)) l.parts
      ∙ ap (λ z. drop (length (made start l.past)) z) (made_append start l.past rest)
      ∙ drop-append_seam (made start l.past) (made (replay machine start (map entry_of l.past)) rest)
      ∙ ap (λ (z : State). made z rest) (sym l.state)

  -- the documents at a later stamp
  pub docs_then : (n : ℕ) → s.table.stamp ≤ n → docs_at start (map entry_of all) n ≡ docs_after s.table.docs (made start all) s.table.stamp n
  docs_then n le =
      let at_most : (replay machine start (map entry_of l.past)).table.stamp ≤ n = subst (λ (z : State). z.table.stamp ≤ n) l.state le in
      let seen : docs_at start (map entry_of all) n ≡ docs_at s (map entry_of rest) n =
      ap (λ z. docs_at start (map entry_of z) n) l.parts ∙ ap (λ z. docs_at start z n) (map-append entry_of l.past rest)
      ∙ later_docs start (map entry_of l.past) (map entry_of rest) n at_most ∙ ap (λ (z : State). docs_at z (map entry_of rest) n) (sym l.state) in
      seen ∙ sym (docs_made s.most s.table.docs (take (n - s.table.stamp) (changes s (map entry_of rest))))
      ∙ ap (λ z. changed_by s.table.docs z) (sym (take-map at_key (n - s.table.stamp) (changes s (map entry_of rest))))
      ∙ ap (λ z. changed_by s.table.docs (take (n - s.table.stamp) z)) (sym to_come)

  -- the documents here
  pub docs_now : docs_at start (map entry_of all) s.table.stamp ≡ s.table.docs
  docs_now =
      let none_more : s.table.stamp - s.table.stamp ≡ 0 = omega arith in
      docs_then s.table.stamp (omega arith) ∙ ap (λ k. changed_by s.table.docs (take k (drop s.table.stamp (made start all)))) none_more
