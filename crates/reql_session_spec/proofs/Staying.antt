-- A feed that a session opened stays open in its table until the session closes it; and what a Take of it that found nothing says.
use Rattle.std.proofs.Common.{◌≡◌, ◌⊎◌, ◌≤◌, ◌+◌, ◌^◌, ◌-◌, inl, inr, ℕ, zero, suc, Bool, true, false, true≢false, cond, not, ◌&&◌, ◌||◌, List, [], ◌∷◌, ◌++◌, length, map, take, Option, Some, None, refl, sym, ap, subst, ◌∙◌, arith, append_assoc, length-append}
use Rattle.std.specs.List.{AllByRecursion}
use Rattle.std.specs.Prelude.{nat_eq, nat_lt}
use Rattle.std.proofs.lemmas.Bool.{eq-eqb}
use Rattle.reql_datum.specs.Plain.{Plain}
use Rattle.reql_term.specs.Views.{Document, index_of}
use Rattle.reql_write_spec.specs.Treated.{Changed}
use Rattle.reql_write_spec.specs.declared.command.Summary.{Summary}
use Rattle.reql_write_spec.specs.declared.command.WriteCmd.{WriteCmd}
use Rattle.reql_shared.specs.Acts.{Ran, Looked, Denied, entries_of}
use Rattle.reql_shared.specs.History.{noted, own}
use Rattle.reql_shared.specs.Machine.{replay}
use Rattle.reql_shared.specs.Plays.{Woven}
use Rattle.reql_shared.proofs.Weaving.{replay_append}
use Rattle.reql_table_machine_spec.specs.Feeds.{Feed, is_of, find_feed, is_none_queued, has_something, given_by, left_by, notice, new_feed, opened_in, opens, unless_shut, takes, closes, says, adds, effect, one_more, is_past, if_room, answer, after_change, after_changes, after_cmd}
use Rattle.reql_table_machine_spec.specs.Fed.{is_end}
use Rattle.reql_table_machine_spec.specs.declared.command.Cmd.{Cmd as Known}
use Rattle.reql_table_machine_spec.specs.declared.command.Cmd.TheVariants as known
use Rattle.reql_table_machine_spec.specs.declared.command.Said.{Said}
use Rattle.reql_table_machine_spec.specs.declared.command.Said.TheVariants as said
use Rattle.reql_table_machine_spec.proofs.Tracking.{split, not_own, Same, same_self, same_pushes, find_map, find_end, find_kept}
use Rattle.reql_table_machine_spec.proofs.Folding.{found_nothing}
use Rattle.reql_table_machine_spec.proofs.Numbers.{number_in}
use Rattle.reql_table_spec.specs.Indexes.{IndexCmd, create, drop, rename, index_said}
use Rattle.reql_table_spec.specs.Laws.{History, Done}
use Rattle.reql_table_spec.specs.Machine.{State, machine, known_cmd, after, reply}
use Rattle.reql_table_spec.specs.Replies.{Answered as Told}
use Rattle.reql_table_spec.specs.Table.{DocumentTable, Held, feeding}
use Rattle.reql_table_spec.specs.declared.command.Cmd.{Cmd}
use Rattle.reql_table_spec.specs.declared.command.Cmd.TheVariants as cmds
use Rattle.reql_table_spec.specs.declared.command.FeedSpec.{FeedSpec}
use Rattle.reql_table_spec.specs.declared.command.Order.{Order}
use Rattle.reql_table_spec.proofs.Numbers.{index_opens_none}
use Rattle.reql_session_spec.specs.Waiting.{IsNothing, IsBare}

abbrev Command : Type 0
Command = Known WriteCmd IndexCmd FeedSpec

-- ---- a table's answers
module _ (most : ℕ) where
  none_room : (u : DocumentTable) (s : Said Summary Plain) → number_in s ≡ None → number_in (if_room (feeding most) u s) ≡ None
  none_room u s h = split (adds (feeding most) s && is_past (feeding most) u) (λ b. number_in {M = Summary} {I = Plain} (cond b (said.HistoryFull (2 ^ 64 - 1)) s) ≡ None) (λ _. refl) (λ _. h)

  none_shut : (t : DocumentTable) (s : Said Summary Plain) → number_in s ≡ None → number_in (unless_shut (feeding most) t s) ≡ None
  none_shut t s h = split t.shut (λ b. number_in {M = Summary} {I = Plain} (cond b said.Gone s) ≡ None) (λ _. refl) (λ _. h)

  took_none : (t : DocumentTable) (feed max : ℕ) (o : Option (Feed Held Plain)) → number_in (takes (feeding most) t feed max o) ≡ None
  took_none t feed max None = none_shut t (said.FeedUnknown feed) refl
  took_none t feed max (Some f) = split (has_something f) (λ b. number_in {M = Summary} {I = Plain} (cond b (said.Batch f.skipped f.last (given_by (feeding most) max f)) (unless_shut (feeding most) t said.Nothing)) ≡ None) (λ _. refl) (λ _. none_shut t said.Nothing refl)

  closed_none : (t : DocumentTable) (feed : ℕ) (o : Option (Feed Held Plain)) → number_in (closes (feeding most) t feed o) ≡ None
  closed_none t feed None = none_shut t (said.FeedUnknown feed) refl
  closed_none t feed (Some f) = refl

  module _ (by number : ℕ) where
    abbrev Opens : DocumentTable → Command → Type 0
    Opens t cmd = number_in (answer (feeding most) t by cmd) ≡ Some number

    never : {A : Type 0} (t : DocumentTable) (cmd : Command) → number_in (answer (feeding most) t by cmd) ≡ None → Opens t cmd → A
    never t cmd h e = absurd (let z : None ≡ Some number = sym h ∙ e in cc)

    closes_none : {A : Type 0} (t : DocumentTable) (cmd : Command) → number_in (says (feeding most) t by cmd) ≡ None → Opens t cmd → A
    closes_none t cmd h e = never t cmd (none_room (one_more (feeding most) (effect (feeding most) t by cmd)) (says (feeding most) t by cmd) h) e

    index_none : (t : DocumentTable) (n : IndexCmd) → number_in (says (feeding most) t by (known.Index n)) ≡ None
    index_none t n = none_shut t (index_said {M = Summary} {I = Plain} t.indexes n) (index_opens_none t.indexes n)

    -- only a Subscribe opens a feed
    pub is_subscribe : (t : DocumentTable) (cmd : Cmd) → Opens t (known_cmd cmd) → (spec : FeedSpec) × (cmd ≡ cmds.Subscribe spec)
    is_subscribe t (cmds.Subscribe spec) e = (spec, refl)
    is_subscribe t (cmds.Write w) e = closes_none t (known.Write w) (none_shut t (said.Done ((feeding most).summary t.docs t.indexes w)) refl) e
    is_subscribe t (cmds.IndexCreate d) e = closes_none t (known.Index (create d.name (index_of d))) (index_none t (create d.name (index_of d))) e
    is_subscribe t (cmds.IndexDrop name) e = closes_none t (known.Index (drop name)) (index_none t (drop name)) e
    is_subscribe t (cmds.IndexRename old new overwrite) e = closes_none t (known.Index (rename old new overwrite)) (index_none t (rename old new overwrite)) e
    is_subscribe t (cmds.Take feed max) e = closes_none t (known.Take feed max) (took_none t feed max (find_feed by feed t.feeds)) e
    is_subscribe t (cmds.Unsubscribe feed) e = closes_none t (known.Unsubscribe feed) (closed_none t feed (find_feed by feed t.feeds)) e
    is_subscribe t cmds.Shut e = closes_none t known.Shut (none_shut t said.Closed refl) e
    is_subscribe t cmds.Sync e = closes_none t known.Sync (none_shut t said.Changed refl) e

    -- ---- a feed that is open
    abbrev pub IsOpen : DocumentTable → Type 0
    IsOpen t = (f : Feed Held Plain) × (find_feed by number t.feeds ≡ Some f)

    found_last : (fs : List (Feed Held Plain)) (g : Feed Held Plain) → is_of by number g ≡ true → (f : Feed Held Plain) × (find_feed by number (fs ++ g ∷ []) ≡ Some f)
    found_last [] g e = (g, ap (λ b. cond b (Some g) None) e)
    found_last (x ∷ fs) g e = split (is_of by number x) (λ b. (f : Feed Held Plain) × (cond b (Some x) (find_feed by number (fs ++ g ∷ [])) ≡ Some f)) (λ _. (x, refl)) (λ _. found_last fs g e)

    new_is_open : (t : DocumentTable) (o : Option Held) → number_in (opens (feeding most) t o) ≡ Some number → IsOpen (cond (adds (feeding most) (opens (feeding most) t o)) (one_more (feeding most) (opened_in (feeding most) t by o)) t)
    new_is_open t None e = absurd (let z : None ≡ Some number = e in cc)
    new_is_open t (Some k) e =
        split (nat_lt (length t.feeds) most)
        (λ b. number_in {M = Summary} {I = Plain} (cond b (said.Opened (suc t.place) ((feeding most).opening k t.docs)) (said.FeedsFull most)) ≡ Some number
        → IsOpen (cond (adds (feeding most) (cond b (said.Opened (suc t.place) ((feeding most).opening k t.docs)) (said.FeedsFull most))) (one_more (feeding most) (cond b (record t { feeds = t.feeds ++ new_feed (feeding most) t by k ∷ [] }) t)) t))
        (λ _ h. found_last t.feeds (new_feed (feeding most) t by k) (λ i. both (eq-eqb by by refl) (eq-eqb (suc t.place) number (some_is h)) i))
        (λ _ h. absurd (let z : None ≡ Some number = h in cc)) e
      where
        get : Option ℕ → ℕ
        get None = 0
        get (Some x) = x

        some_is : {x y : ℕ} → Some x ≡ Some y → x ≡ y
        some_is h = ap get h

        both : {x y : Bool} → x ≡ true → y ≡ true → (x && y) ≡ true
        both h g = λ i. h i && g i

    -- an answer that a feed of this number was opened leaves it open
    pub opened_is_open : (t : DocumentTable) (p : FeedSpec) → Opens t (known.Subscribe p) → IsOpen (after_cmd (feeding most) t by (known.Subscribe p))
    opened_is_open t p e =
        let o : Option Held = (feeding most).keep t.indexes p in
        let u : DocumentTable = one_more (feeding most) (opened_in (feeding most) t by o) in
        split (adds (feeding most) (unless_shut (feeding most) t (opens (feeding most) t o)) && is_past (feeding most) u)
        (λ b. number_in {M = Summary} {I = Plain} (cond b (said.HistoryFull (2 ^ 64 - 1)) (unless_shut (feeding most) t (opens (feeding most) t o))) ≡ Some number → IsOpen (cond (adds (feeding most) (cond b (said.HistoryFull (2 ^ 64 - 1)) (unless_shut (feeding most) t (opens (feeding most) t o)))) u t))
        (λ _ h. absurd (let z : None ≡ Some number = h in cc))
        (λ _ h. split t.shut (λ b. number_in {M = Summary} {I = Plain} (cond b said.Gone (opens (feeding most) t o)) ≡ Some number → IsOpen (cond (adds (feeding most) (cond b said.Gone (opens (feeding most) t o))) u t))
        (λ _ g. absurd (let z : None ≡ Some number = g in cc)) (λ _ g. new_is_open t o g) h)
        e

    -- ---- it stays open through all that does not close it
    same_notice : (d : List Document) (n : ℕ) (x : Changed) (f : Feed Held Plain) → Same f (notice (feeding most) d n x f)
    same_notice d n x f = same_pushes ((feeding most).size f.kept) f (map (λ i. (suc n, i)) ((feeding most).items f.kept d x))

    open_changes : (xs : List Changed) (t : DocumentTable) → IsOpen t → IsOpen (after_changes (feeding most) t xs)
    open_changes [] t x = x
    open_changes (y ∷ ys) t x =
        open_changes ys (after_change (feeding most) t y) (notice (feeding most) t.docs t.stamp y x.0, find_map (notice (feeding most) t.docs t.stamp y) (same_notice t.docs t.stamp y) by number t.feeds x.0 x.1)

    open_more : (t : DocumentTable) (who : ℕ) (o : Option Held) → IsOpen t → IsOpen (opened_in (feeding most) t who o)
    open_more t who None x = x
    open_more t who (Some k) x = split (nat_lt (length t.feeds) most) (λ b. IsOpen (cond b (record t { feeds = t.feeds ++ new_feed (feeding most) t who k ∷ [] }) t))
        (λ _. (x.0, find_end by number t.feeds (new_feed (feeding most) t who k ∷ []) x.0 x.1)) (λ _. x)

    open_effect : (t : DocumentTable) (who : ℕ) (cmd : Command) → (who ≡ by → is_end number cmd ≡ false) → IsOpen t → IsOpen (effect (feeding most) t who cmd)
    open_effect t who (known.Write w) h x = open_changes ((feeding most).changes t.docs t.indexes w) t x
    open_effect t who (known.Index n) h x = x
    open_effect t who (known.Subscribe p) h x = open_more t who ((feeding most).keep t.indexes p) x
    open_effect t who (known.Take feed max) h x =
        let left : Feed Held Plain → Feed Held Plain = λ f. cond (is_of who feed f) (left_by (feeding most) max f) f in
        (left x.0, find_map left (λ f. split (is_of who feed f) (λ b. Same f (cond b (left_by (feeding most) max f) f)) (λ _. record { owner = refl; number = refl; kept = refl; opened = refl }) (λ _. same_self f)) by number t.feeds x.0 x.1)
    open_effect t who (known.Unsubscribe feed) h x = (x.0, find_kept by number who feed (λ e q. absurd (true≢false (sym (eq-eqb feed number q) ∙ h e))) t.feeds x.0 x.1)
    open_effect t who known.Shut h x = x
    open_effect t who known.Sync h x = x

    open_cmd : (t : DocumentTable) (who : ℕ) (cmd : Command) → (who ≡ by → is_end number cmd ≡ false) → IsOpen t → IsOpen (after_cmd (feeding most) t who cmd)
    open_cmd t who cmd h x = split (adds (feeding most) (answer (feeding most) t who cmd)) (λ b. IsOpen (cond b (one_more (feeding most) (effect (feeding most) t who cmd)) t)) (λ _. open_effect t who cmd h x) (λ _. x)

  -- ---- a Take that found nothing
  abbrev pub Vain : Said Summary Plain → Type 0
  Vain s = IsNothing s ⊎ IsBare s

  pub took_nothing : (t : DocumentTable) (by number max : ℕ) (f : Feed Held Plain) → find_feed by number t.feeds ≡ Some f → Vain (answer (feeding most) t by (known.Take number max))
      → (f.skipped ≡ 0) × (1 ≤ max → ((f.queue ≡ []) × (t.shut ≡ false)) ⊎ ((f.queue ≡ [] → ⊥) × ((feeding most).squashes f.kept ≡ true) × ((feeding most).net f.kept f.queue ≡ [])))
  took_nothing t by number max f e v = given (subst (λ o. Vain (takes (feeding most) t number max o)) e (room (one_more (feeding most) (effect (feeding most) t by (known.Take number max))) (takes (feeding most) t number max (find_feed by number t.feeds)) v))
    where
      room : (u : DocumentTable) (s : Said Summary Plain) → Vain (if_room (feeding most) u s) → Vain s
      room u s h = split (adds (feeding most) s && is_past (feeding most) u) (λ b. Vain (cond b (said.HistoryFull (2 ^ 64 - 1)) s) → Vain s) (λ _ g. elim g [ inl x ↦ absurd x | inr x ↦ absurd x ]) (λ _ g. g) h

      empty : (b : Bool) → t.shut ≡ b → Vain (cond b said.Gone said.Nothing) → b ≡ false
      empty true g h = elim h [ inl x ↦ absurd x | inr x ↦ absurd x ]
      empty false g h = refl

      all_of : (n : ℕ) (q : List (ℕ × Plain)) → 1 ≤ n → take n q ≡ [] → q ≡ []
      all_of zero q le h = absurd (omega (arith, le))
      all_of (suc n) [] le h = refl
      all_of (suc n) (p ∷ q) le h = absurd (let z : p ∷ take n q ≡ [] = h in cc)

      none_there : f.skipped ≡ 0 → f.queue ≡ [] → has_something f ≡ false
      none_there h q = (λ i. not (nat_eq (h i) 0) || not (is_none_queued (q i))) ∙ ap (λ b. not b || false) (eq-eqb 0 0 refl)

      netted : has_something f ≡ true → f.skipped ≡ 0 → given_by (feeding most) max f ≡ [] → 1 ≤ max → (f.queue ≡ [] → ⊥) × ((feeding most).squashes f.kept ≡ true) × ((feeding most).net f.kept f.queue ≡ [])
      netted has h g le = split ((feeding most).squashes f.kept) (λ b. (feeding most).squashes f.kept ≡ b → cond b ((feeding most).net f.kept f.queue) (take max f.queue) ≡ [] → (f.queue ≡ [] → ⊥) × ((feeding most).squashes f.kept ≡ true) × ((feeding most).net f.kept f.queue ≡ []))
          (λ _ is z. (λ q. true≢false (sym has ∙ none_there h q), is, z)) (λ _ is z. absurd (true≢false (sym has ∙ none_there h (all_of max f.queue le z)))) refl g

      given : Vain (takes (feeding most) t number max (Some f)) → (f.skipped ≡ 0) × (1 ≤ max → ((f.queue ≡ []) × (t.shut ≡ false)) ⊎ ((f.queue ≡ [] → ⊥) × ((feeding most).squashes f.kept ≡ true) × ((feeding most).net f.kept f.queue ≡ [])))
      given h = split (has_something f) (λ b. has_something f ≡ b → Vain (cond b (said.Batch f.skipped f.last (given_by (feeding most) max f)) (unless_shut (feeding most) t said.Nothing))
          → (f.skipped ≡ 0) × (1 ≤ max → ((f.queue ≡ []) × (t.shut ≡ false)) ⊎ ((f.queue ≡ [] → ⊥) × ((feeding most).squashes f.kept ≡ true) × ((feeding most).net f.kept f.queue ≡ []))))
          (λ _ e g. elim g [ inl x ↦ absurd x | inr x ↦ (x.0, λ le. inr (netted e x.0 x.1 le)) ])
          (λ _ e g. let n = found_nothing f e in (n.0, λ le. inl (n.1, empty t.shut refl g)))
          refl h

-- ---- along the acts of a user
module _ (by : ℕ) where
  -- an act of the user, as a state of a table that is reached by a front of a history, where Q is so
  pub record Reached (Q : State → Type 0) (s : State) (at : ℕ) (history : History) (place : ℕ) (order : Order) (r : Told) : Type 0 where
    pub front : History
    pub rest : History
    pub whole : history ≡ front ++ rest
    pub stands : place ≡ at + length front
    pub answered : r ≡ reply (replay machine s front) by order
    pub so : Q (replay machine s front)

  shift : (Q : State → Type 0) (s : State) (at : ℕ) (piece rest history : History) (place : ℕ) (order : Order) (r : Told) → history ≡ piece ++ rest → Reached Q (replay machine s piece) (at + length piece) rest place order r → Reached Q s at history place order r
  shift Q s at piece rest history place order r h x = record {
    front = piece ++ x.front;
    rest = x.rest;
    whole = h ∙ ap (λ z. piece ++ z) x.whole ∙ sym (append_assoc piece x.front x.rest);
    stands = omega (arith, x.stands, length-append piece x.front);
    answered = x.answered ∙ ap (λ (z : State). reply z by order) (sym (replay_append machine s piece x.front));
    so = subst Q (sym (replay_append machine s piece x.front)) x.so;
  }

  module _ (Q : State → Type 0) (A : Done → Type 0) (others_keep : (s : State) (es : History) → own by es ≡ [] → Q s → Q (replay machine s es)) (acts_keep : (s : State) (a : Done) → A a → Q s → Q (replay machine s (entries_of machine by a))) where
    after_act : (s : State) (others : History) (a : Done) → own by others ≡ [] → A a → Q s → Q (replay machine s (others ++ entries_of machine by a))
    after_act s others a n h q = subst Q (sym (replay_append machine s others (entries_of machine by a))) (acts_keep (replay machine s others) a h (others_keep s others n q))

    pub reach : (xs ys : List Done) (place : ℕ) (order : Order) (r : Told) (s : State) (at : ℕ) (history : History) → AllByRecursion A xs → Q s → Woven machine s by at (xs ++ Ran place order r ∷ ys) history → Reached Q s at history place order r
    reach [] ys place order r s at history h q w = record {
      front = w.0;
      rest = entries_of machine by (Ran place order r) ++ w.1;
      whole = w.2 ∙ append_assoc w.0 (entries_of machine by (Ran place order r)) w.1;
      stands = w.4;
      answered = w.5;
      so = others_keep s w.0 w.3 q;
    }
    reach (x ∷ xs) ys place order r s at history h q w =
        shift Q s at (w.0 ++ entries_of machine by x) w.1 history place order r w.2
        (reach xs ys place order r (replay machine s (w.0 ++ entries_of machine by x)) (at + length (w.0 ++ entries_of machine by x)) w.1 h.1 (after_act s w.0 x w.3 h.0 q) w.6)

  -- where an act stands, of which nothing more is asked
  abbrev Any : State → Type 0
  Any s = Unit {0}

  abbrev Every : Done → Type 0
  Every a = Unit {0}

  every : (xs : List Done) → AllByRecursion Every xs
  every [] = tt
  every (x ∷ xs) = (tt, every xs)

  pub stands : (xs ys : List Done) (place : ℕ) (order : Order) (r : Told) (s : State) (at : ℕ) (history : History) → Woven machine s by at (xs ++ Ran place order r ∷ ys) history → Reached Any s at history place order r
  stands xs ys place order r s at history w = reach Any Every (λ s es n q. tt) (λ s a h q. tt) xs ys place order r s at history (every xs) tt w

  module _ (number : ℕ) where
    abbrev pub Stays : State → Type 0
    Stays s = IsOpen s.most by number s.table

    -- the act does not close the feed
    abbrev pub Keeps : Done → Type 0
    Keeps (Ran place order r) = is_end number (known_cmd order.cmd) ≡ false
    Keeps other = Unit {0}

    stays_cmd : (s : State) (who : ℕ) (o : Order) → (who ≡ by → is_end number (known_cmd o.cmd) ≡ false) → Stays s → Stays (after s who o)
    stays_cmd s who o h x = open_cmd s.most by number s.table who (known_cmd o.cmd) h x

    stays_others : (s : State) (es : History) → own by es ≡ [] → Stays s → Stays (replay machine s es)
    stays_others s [] n x = x
    stays_others s (e ∷ es) n x = stays_others (after s e.by e.cmd) es (not_own by e es n).1 (stays_cmd s e.by e.cmd (λ q. absurd ((not_own by e es n).0 q)) x)

    stays_act : (s : State) (a : Done) → Keeps a → Stays s → Stays (replay machine s (entries_of machine by a))
    stays_act s (Ran place order r) h x = split (adds (feeding 0) r.said) (λ b. Stays (replay machine s (cond b (noted by order ∷ []) []))) (λ _. stays_cmd s by order (λ _. h) x) (λ _. x)
    stays_act s (Looked place q y) h x = x
    stays_act s (Denied place) h x = x

    -- From where the feed was opened to a later act, with no act between that closes it: it is open there.
    opened_at : (s : State) (place : ℕ) (order : Order) (r : Told) (opening : List Plain) → r ≡ reply s by order → r.said ≡ said.Opened number opening → Stays (replay machine s (entries_of machine by (Ran place order r)))
    opened_at s place order r opening a o =
        let opens : Opens s.most by number s.table (known_cmd order.cmd) = ap (λ (z : Told). number_in z.said) (sym a) ∙ ap (λ z. number_in z) o in
        let is = is_subscribe s.most by number s.table order.cmd opens in
        let opened : IsOpen s.most by number (after_cmd (feeding s.most) s.table by (known_cmd order.cmd)) =
        subst (λ z. IsOpen s.most by number (after_cmd (feeding s.most) s.table by (known_cmd z))) (sym is.1) (opened_is_open s.most by number s.table is.0 (subst (λ z. Opens s.most by number s.table (known_cmd z)) is.1 opens)) in
        subst (λ z. Stays (replay machine s (cond (adds (feeding 0) z) (noted by order ∷ []) []))) (sym o) opened

    pub stays_open : (xs ys zs : List Done) (p : ℕ) (o : Order) (q : Told) (opening : List Plain) (place : ℕ) (order : Order) (r : Told) (s : State) (at : ℕ) (history : History) → q.said ≡ said.Opened number opening → AllByRecursion Keeps ys
        → Woven machine s by at (xs ++ Ran p o q ∷ (ys ++ Ran place order r ∷ zs)) history → Reached Stays s at history place order r
    stays_open [] ys zs p o q opening place order r s at history is h w =
        shift Stays s at (w.0 ++ entries_of machine by (Ran p o q)) w.1 history place order r w.2
        (reach Stays Keeps stays_others stays_act ys zs place order r (replay machine s (w.0 ++ entries_of machine by (Ran p o q))) (at + length (w.0 ++ entries_of machine by (Ran p o q))) w.1 h
        (subst Stays (sym (replay_append machine s w.0 (entries_of machine by (Ran p o q)))) (opened_at (replay machine s w.0) p o q opening w.5 is)) w.6)
    stays_open (x ∷ xs) ys zs p o q opening place order r s at history is h w =
        shift Stays s at (w.0 ++ entries_of machine by x) w.1 history place order r w.2
        (stays_open xs ys zs p o q opening place order r (replay machine s (w.0 ++ entries_of machine by x)) (at + length (w.0 ++ entries_of machine by x)) w.1 is h w.6)
