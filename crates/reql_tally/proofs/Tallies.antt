-- What functions find, put together.
use Rattle.std.proofs.Common.{◌≡◌, ◌↔◌, ℕ, ◌-◌, ◌^◌, nat_eq, inl, inr, List, [], ◌∷◌, ◌++◌, length, map, Option, Some, None, Bool, true, false, ◌&&◌, cond, refl, sym, ap, subst, ◌∙◌, append_assoc, append-nil}
use Rattle.std.specs.Prelude.{IsTrue}
use Rattle.std.proofs.lemmas.List.{length-map}
use Rattle.reql_datum.specs.Plain.{Plain}
use Rattle.reql_datum.specs.View.{plain}
use Rattle.reql_datum.specs.declared.datum.Datum.{Datum}
use Rattle.reql_term.specs.Views.{Document}
use Rattle.reql_write_spec.specs.declared.command.Summary.{Summary}
use Rattle.reql_table_machine_spec.specs.declared.command.Said.{Said}
use Rattle.reql_table_machine_spec.specs.declared.command.Said.TheVariants as said
use Rattle.reql_table_machine_spec.specs.Feeds.{adds, opens, is_past, one_more, effect}
use Rattle.reql_feed_spec.specs.Feeds.{bare, changed_by}
use Rattle.reql_table_spec.specs.Engines.{kept_of}
use Rattle.reql_table_spec.specs.Machine.{State, after, reply, unused, known_cmd}
use Rattle.reql_table_spec.specs.Table.{Held, DocumentTable, held, feeding}
use Rattle.reql_table_spec.specs.declared.command.Cmd.{Cmd}
use Rattle.reql_table_spec.specs.declared.command.Cmd.TheVariants as cmds
use Rattle.reql_table_spec.specs.declared.command.Entry.{Entry}
use Rattle.reql_table_spec.specs.declared.command.FeedSpec.{FeedSpec}
use Rattle.reql_table_spec.specs.declared.command.Order.{Order}
use Rattle.reql_table_spec.specs.declared.engine.Kept.{Kept}
use Rattle.reql_load.specs.Folded.{folded}
use Rattle.reql_tally.specs.Past.{Sent, feeds_opened, batches_taken, number_of, opened_as, opened_by, sent_by, sent_to, skips, latest}
use Rattle.reql_tally.specs.Tallied.{Counts, FoldsUp, IsCount, value_of, stands, Ends}
use Rattle.reql_tally.specs.Views.{made, made_by, docs_after, stamped, FoldsOver, IsTable}
use Rattle.reql_table.specs.Seen.{documents_of}
use Rattle.reql_tally.specs.declared.replica.SeenTable.{SeenTable}
use Rattle.reql_tally.specs.declared.tally.Tally.{Tally}
use Rattle.reql_tally.proofs.Histories.{made_next, all_docs, all_stamps}

-- ---- one entry more of what was heard
pub hears_changes : (whole before now one : List (Plain × Option Plain)) (s next : State) (es rest : List Entry) (e : Entry) → es ≡ e ∷ rest → next ≡ after s e.by e.order
    → whole ≡ before ++ made s es → now ≡ before ++ one → one ≡ made_by s e.by e.order.cmd → whole ≡ now ++ made next rest
hears_changes whole before now one s next es rest e is goes h n o =
    h ∙ ap (λ z. before ++ made s z) is ∙ ap (λ z. before ++ z) (made_next s e rest) ∙ sym (append_assoc before (made_by s e.by e.order.cmd) (made (after s e.by e.order) rest))
    ∙ ap (λ z. before ++ z ++ made (after s e.by e.order) rest) (sym o) ∙ ap (λ z. z ++ made (after s e.by e.order) rest) (sym n) ∙ ap (λ z. now ++ made z rest) (sym goes)

pub hears_batches : (whole before now : List Sent) (s next : State) (es rest : List Entry) (e : Entry) (a : Said Summary Plain) → es ≡ e ∷ rest → next ≡ after s e.by e.order
    → whole ≡ before ++ batches_taken s es → now ≡ before ++ sent_by e.by e.order.cmd a → a ≡ (reply s e.by e.order).said → whole ≡ now ++ batches_taken next rest
hears_batches whole before now s next es rest e a is goes h n o =
    let one : List Sent = sent_by e.by e.order.cmd (reply s e.by e.order).said in
    h ∙ ap (λ z. before ++ batches_taken s z) is ∙ sym (append_assoc before one (batches_taken (after s e.by e.order) rest))
    ∙ ap (λ z. before ++ sent_by e.by e.order.cmd z ++ batches_taken (after s e.by e.order) rest) (sym o) ∙ ap (λ z. z ++ batches_taken (after s e.by e.order) rest) (sym n)
    ∙ ap (λ z. now ++ batches_taken z rest) (sym goes)

pub heard_changes : (whole before : List (Plain × Option Plain)) (s : State) (es : List Entry) → es ≡ [] → whole ≡ before ++ made s es → before ≡ whole
heard_changes whole before s es none h = sym (h ∙ ap (λ z. before ++ made s z) none ∙ append-nil before)

pub heard_batches : (whole before : List Sent) (s : State) (es : List Entry) → es ≡ [] → whole ≡ before ++ batches_taken s es → before ≡ whole
heard_batches whole before s es none h = sym (h ∙ ap (λ z. before ++ batches_taken s z) none ∙ append-nil before)

-- ---- whether a feed folds
stamps_off : (items : List (ℕ × Datum)) → bare (map stamped items) ≡ map (λ i. plain i.1) items
stamps_off [] = refl
stamps_off (i ∷ items) = ap (λ z. plain i.1 ∷ z) (stamps_off items)

pub skipped : (kept : Option Held) (docs : List Document) (cs : List (Plain × Option Plain)) (bs : List Sent) (owner number stamp : ℕ) (b : Bool) → b ≡ skips owner number bs → b ≡ true
    → IsTrue false ↔ FoldsOver kept docs cs bs owner number stamp
skipped kept docs cs bs owner number stamp b is t = (λ h. absurd (differ h), λ o. absurd (differ (sym o.whole ∙ sym is ∙ t)))
  where
    is_false : Bool → Type 0
    is_false true = ⊥
    is_false false = Unit {0}

    differ : false ≡ true → ⊥
    differ h = subst is_false h tt

pub folds_there : (kept later : Option Held) (docs then_docs : List Document) (cs : List (Plain × Option Plain)) (bs : List Sent) (owner number stamp last : ℕ) (items : List (ℕ × Datum))
    (opening wanted : List Plain) (goes b : Bool) → b ≡ skips owner number bs → b ≡ false → map stamped items ≡ sent_to owner number bs → last ≡ latest stamp (map stamped items)
    → opening ≡ value_of kept docs → later ≡ kept → then_docs ≡ docs_after docs cs stamp last → wanted ≡ value_of later then_docs
    → (IsTrue goes ↔ (folded opening (map (λ i. plain i.1) items) ≡ Some wanted)) → IsTrue goes ↔ FoldsOver kept docs cs bs owner number stamp
folds_there kept later docs then_docs cs bs owner number stamp last items opening wanted goes b is whole sent at opens keeps stands wants f =
    (λ h. record { whole = sym is ∙ whole; folds = sym given ∙ f.0 h ∙ ap Some meant }, λ o. f.1 (given ∙ o.folds ∙ ap Some (sym meant)))
  where
    last_is : last ≡ latest stamp (sent_to owner number bs)
    last_is = at ∙ ap (latest stamp) sent

    meant : wanted ≡ value_of kept (docs_after docs cs stamp (latest stamp (sent_to owner number bs)))
    meant = wants ∙ ap (λ z. value_of z then_docs) keeps ∙ ap (value_of kept) stands ∙ ap (λ n. value_of kept (docs_after docs cs stamp n)) last_is

    without_stamps : map (λ i. plain i.1) items ≡ bare (sent_to owner number bs)
    without_stamps = sym (stamps_off items) ∙ ap bare sent

    given : folded opening (map (λ i. plain i.1) items) ≡ folded (value_of kept docs) (bare (sent_to owner number bs))
    given = ap (λ z. folded z (map (λ i. plain i.1) items)) opens ∙ ap (λ z. folded (value_of kept docs) z) without_stamps

-- ---- a request of a feed
pub opens_none : (s : State) (by : ℕ) (cmd : Cmd) (spec : FeedSpec) (a : Said Summary Plain) (number : Option ℕ) → cmd ≡ cmds.Subscribe spec → number ≡ number_of a → number ≡ None
    → opened_by s by cmd a ≡ []
opens_none s by cmd spec a number is n none = ap (λ c. opened_by s by c a) is ∙ ap (λ k. opened_as s.table.indexes s.table.stamp by spec k) (sym n ∙ none)

pub opens_one : (s : State) (by : ℕ) (cmd : Cmd) (spec : FeedSpec) (a : Said Summary Plain) (number : Option ℕ) (k : ℕ) → cmd ≡ cmds.Subscribe spec → number ≡ number_of a → number ≡ Some k
    → opened_by s by cmd a ≡ record { owner = by; number = k; kept = held s.table.indexes spec; opened = s.table.stamp } ∷ []
opens_one s by cmd spec a number k is n some = ap (λ c. opened_by s by c a) is ∙ ap (λ z. opened_as s.table.indexes s.table.stamp by spec z) (sym n ∙ some)

gone_opens_none : (s : State) (by : ℕ) (order : Order) (spec : FeedSpec) → order.cmd ≡ cmds.Subscribe spec → s.table.shut ≡ true → number_of (reply s by order).said ≡ None
gone_opens_none s by order spec is shut =
    ap (λ c. number_of (reply s by (record { points = order.points; cmd = c })).said) is
    ∙ ap (λ b. number_of (cond (answered b && is_past (feeding s.most) next) (said.HistoryFull (2 ^ 64 - 1)) (cond b said.Gone (opens (feeding s.most) s.table (held s.table.indexes spec))))) shut
  where
    next : DocumentTable
    next = one_more (feeding s.most) (effect (feeding s.most) s.table by (known_cmd (cmds.Subscribe spec)))

    answered : Bool → Bool
    answered b = adds (feeding s.most) (cond b said.Gone (opens (feeding s.most) s.table (held s.table.indexes spec)))

not_gone : {A : Type 0} {x : A} {o : Option A} → o ≡ Some x → o ≡ None → ⊥
not_gone {A} {x} {o} some none = subst is_some (sym some ∙ none) tt
  where
    is_some : Option A → Type 0
    is_some (Some y) = Unit {0}
    is_some None = ⊥

pub gone_opens : (s : State) (by : ℕ) (order : Order) (spec : FeedSpec) (number : Option ℕ) (k : ℕ) → order.cmd ≡ cmds.Subscribe spec → number ≡ number_of (reply s by order).said → number ≡ Some k → s.table.shut ≡ true → ⊥
gone_opens s by order spec number k is n some shut = not_gone some (n ∙ gone_opens_none s by order spec is shut)

-- ---- the four numbers
pub counts : (most keeps : ℕ) (es : List Entry) (cs : List Kept) (t : Tally) → map kept_of cs ≡ made (unused most keeps) es → t.documents ≡ length (changed_by [] (map kept_of cs)) → t.changes ≡ length cs
    → t.feeds ≡ length (feeds_opened (unused most keeps) es) → IsCount (FoldsUp (unused most keeps) es) (feeds_opened (unused most keeps) es) t.folds → Counts (unused most keeps) es t
counts most keeps es cs t is documents changes feeds folds = record {
  documents = documents ∙ ap (λ z. length (changed_by [] z)) is ∙ ap length (all_docs (unused most keeps) es);
  changes = changes ∙ sym (length-map cs kept_of) ∙ ap length is ∙ all_stamps (unused most keeps) es refl;
  feeds = feeds;
  folds = folds;
}

-- ---- where the table stands
pub ends_dropped : (s : State) (t : Tally) → s.table.shut ≡ true → Ends s t false
ends_dropped s t h = inl h

there : (s : State) (t : Tally) (v : SeenTable) → IsTable s v → (nat_eq t.documents (length (documents_of v.table)) && nat_eq t.changes v.stamp) ≡ stands s t
there s t v is = λ i. nat_eq t.documents (length (is.docs i)) && nat_eq t.changes (is.stamp i)

pub ends_at : (s : State) (t : Tally) (v : SeenTable) (b : Bool) → IsTable s v → b ≡ (nat_eq t.documents (length (documents_of v.table)) && nat_eq t.changes v.stamp) → Ends s t b
ends_at s t v true is h = sym (h ∙ there s t v is)
ends_at s t v false is h = inr (sym (h ∙ there s t v is))
