-- Every feed of an explained session: what was sent of it folds to its query, and tells what its queue skipped.
use Rattle.std.proofs.Common.{◌≡◌, ◌≤◌, ℕ, zero, suc, Bool, true, false, not, ◌&&◌, cond, nat_eq, map, List, [], ◌∷◌, ◌++◌, length, take, Option, Some, None, refl, sym, ap, subst, ◌∙◌, append_assoc}
use Rattle.std.specs.List.{AllByRecursion}
use Rattle.std.proofs.lemmas.Grind.{flat_map-append}
use Rattle.std.proofs.lemmas.Bool.{eq-eqb, ne_eqb}
use Rattle.std.proofs.lemmas.List.{map-append}
use Rattle.reql_datum.specs.Plain.{Plain}
use Rattle.reql_write_spec.specs.declared.command.Summary.{Summary}
use Rattle.reql_write_spec.specs.declared.command.WriteCmd.{WriteCmd}
use Rattle.reql_shared.specs.Machine.{replay}
use Rattle.reql_shared.specs.Acts.{Act, Ran, Looked, Denied}
use Rattle.reql_shared.specs.Parts.{Part}
use Rattle.reql_table_machine_spec.specs.Fed as fed
use Rattle.reql_table_machine_spec.specs.Feeding.{fold, bare}
use Rattle.reql_table_machine_spec.specs.Fed.{Taking, items_of, given, takings}
use Rattle.reql_table_machine_spec.specs.Telling as telling
use Rattle.reql_table_machine_spec.specs.declared.command.Cmd.{Cmd as Known}
use Rattle.reql_table_machine_spec.specs.declared.command.Order.{Order as Asked}
use Rattle.reql_table_machine_spec.specs.declared.command.Said.{Said}
use Rattle.reql_table_machine_spec.specs.declared.command.Said.TheVariants as said
use Rattle.reql_table_machine_spec.proofs.Items.{all_left, all_right}
use Rattle.reql_table_machine_spec.proofs.Numbers.{number_in, number_of, IsNot, OpensFrom, apart, numbers_rise}
use Rattle.reql_table_spec.specs.Indexes.{IndexCmd}
use Rattle.reql_table_spec.specs.Laws.{History, known_act, docs_at, AreGood, AllFed, OfAllOpened, TellSkips, LieInOrder}
use Rattle.reql_table_spec.specs.Machine.{State, Seen, machine, known_cmd, known_order, known_entry}
use Rattle.reql_table_spec.specs.Replies.{Answered as Told}
use Rattle.reql_table_spec.specs.Table.{Held, held, feeding}
use Rattle.reql_table_spec.specs.declared.command.Cmd.TheVariants as cmds
use Rattle.reql_table_spec.specs.declared.command.FeedSpec.{FeedSpec}
use Rattle.reql_table_spec.specs.declared.command.Order.{Order}
use Rattle.reql_table_spec.proofs.Numbers.{index_opens_none}
use Rattle.reql_table_spec.proofs.Replays.{tables, replay_is}
use Rattle.reql_table_spec.proofs.Weaves.{woven_known, feeds_fold, takes_tell, takes_lie}
use Rattle.reql_session_spec.specs.Requests.{Arm, Sort, Opening, State as StateItem, Skip, Change, Shown, Answer, Client, Compile, Failed, Internal, Atom, Last, Part as PartOf, Batch, Waited, Info, Found}
use Rattle.reql_session_spec.specs.Tasks.{Talk}
use Rattle.reql_session_spec.specs.Minding.{PlansMind}
use Rattle.reql_session_spec.specs.Session.{Event, Turn, Visit, Greeted, Login, Cast, Begin, Heard, Lost, Quiet, Finish, Broken, Long, Wear, Poor, On, OnNames, Dice, Clock, Come, Say, Want, Run, fresh, acts_of, acts_on}
use Rattle.reql_session_spec.specs.Explained.{DeskShare, DeskSeen, Life, if_change, changes_in, sent_in, sent_by, sent_of, if_told, told_items, told_in, told_by, all_told, taken_in, all_taken}
use Rattle.reql_session_spec.specs.Laws.{Opens, items_after, SendsSkips}
use Rattle.reql_session_spec.proofs.Sendings.{NotOpened}
use Rattle.reql_session_spec.proofs.Fronts.{NotOpens, known_on, front}

module _ {A B : Type 0} where
  take_map : (f : A → B) (n : ℕ) (xs : List A) → take n (map f xs) ≡ map f (take n xs)
  take_map f zero xs = refl
  take_map f (suc n) [] = refl
  take_map f (suc n) (x ∷ xs) = ap (λ z. f x ∷ z) (take_map f n xs)

abbrev pub Known1 : Type 0
Known1 = Act (Asked (Known WriteCmd IndexCmd FeedSpec)) Told (Unit {0}) Seen

-- changes alone are what is told where nothing of skips is
module _ (σ φ : ℕ) where
  same_sort : (s : Sort) (l : List (ℕ × Plain)) → if_told false s l ≡ if_change s l
  same_sort Change l = refl
  same_sort Skip l = refl
  same_sort Opening l = refl
  same_sort StateItem l = refl

  same_items : (xs : List Shown) → told_items σ φ false xs ≡ changes_in σ φ xs
  same_items [] = refl
  same_items (x ∷ xs) = (λ i. same_sort x.sort (cond (nat_eq x.arm.slot σ && nat_eq x.arm.feed φ) ((x.stamp, x.item) ∷ []) []) i ++ same_items xs i)

  same_answer : (a : Answer) → told_in σ φ false a ≡ sent_in σ φ a
  same_answer (Batch notes xs s) = same_items xs
  same_answer (Client text) = refl
  same_answer (Compile text) = refl
  same_answer (Failed error text s) = refl
  same_answer Internal = refl
  same_answer (Atom v s) = refl
  same_answer (Last vs s) = refl
  same_answer (PartOf vs s) = refl
  same_answer Waited = refl
  same_answer Info = refl

  same_event : (e : Event) → told_by σ φ false e ≡ sent_by σ φ e
  same_event (Say token a true) = same_answer a
  same_event (Say token a false) = refl
  same_event Turn = refl
  same_event Visit = refl
  same_event (Greeted w) = refl
  same_event (Login w) = refl
  same_event (Cast bytes) = refl
  same_event (Begin frame is_read) = refl
  same_event (Heard bytes) = refl
  same_event (Lost bytes) = refl
  same_event Quiet = refl
  same_event Finish = refl
  same_event Broken = refl
  same_event (Long len) = refl
  same_event Wear = refl
  same_event Poor = refl
  same_event (On slot a saved) = refl
  same_event (OnNames a) = refl
  same_event (Clock moment) = refl
  same_event (Dice bytes) = refl
  same_event Come = refl
  same_event Want = refl

  same_sent : (es : List Event) → all_told σ φ false es ≡ sent_of σ φ es
  same_sent [] = refl
  same_sent (e ∷ es) = (λ i. same_event e i ++ same_sent es i)

same_said : (s : Said Summary Plain) → taken_in false s ≡ items_of s
same_said (said.Batch skipped last items) = refl
same_said (said.Done x) = refl
same_said (said.HistoryFull x) = refl
same_said said.Changed = refl
same_said said.IndexExists = refl
same_said said.IndexMissing = refl
same_said (said.Opened x y) = refl
same_said (said.FeedsFull x) = refl
same_said said.Nothing = refl
same_said (said.FeedUnknown x) = refl
same_said said.Closed = refl
same_said said.Gone = refl

same_given : (ts : List (Taking Summary Plain)) → all_taken false ts ≡ given ts
same_given [] = refl
same_given (t ∷ ts) = (λ i. same_said t.said i ++ same_given ts i)

module _ {PL : Type 0} (k : Talk PL) (on : PL → Bool → ℕ → List Found → List Arm → Type 0) (σ φ : ℕ) (skips : Bool) where
  abbrev pub Apart : Known1 → Type 0
  Apart a = IsNot φ (number_of a)

  not_opened : (s : Said Summary Plain) → IsNot φ (number_in s) → NotOpened k on σ φ skips false s
  not_opened (said.Opened f o) h = ne_eqb f φ h
  not_opened (said.Done x) h = tt
  not_opened (said.HistoryFull x) h = tt
  not_opened said.Changed h = tt
  not_opened said.IndexExists h = tt
  not_opened said.IndexMissing h = tt
  not_opened (said.FeedsFull x) h = tt
  not_opened (said.Batch x y z) h = tt
  not_opened said.Nothing h = tt
  not_opened (said.FeedUnknown x) h = tt
  not_opened said.Closed h = tt
  not_opened said.Gone h = tt

  not_opens : (e : Event) → AllByRecursion Apart (map known_act (acts_of σ e)) → NotOpens k on σ φ skips e
  not_opens (On slot (Ran place order r) saved) h = λ e. not_opened r.said (subst (λ b. AllByRecursion Apart (map known_act (cond b (Ran place order r ∷ []) []))) e h).0
  not_opens other h = tt

  pub all_not : (es : List Event) → AllByRecursion Apart (known_on σ es) → AllByRecursion (NotOpens k on σ φ skips) es
  all_not [] h = tt
  all_not (e ∷ es) h =
      let both = subst (AllByRecursion Apart) (map-append known_act (acts_of σ e) (acts_on σ es)) h in
      (not_opens e (all_left Apart (map known_act (acts_of σ e)) (known_on σ es) both), all_not es (all_right Apart (map known_act (acts_of σ e)) (known_on σ es) both))

module _ {PL : Type 0} (k : Talk PL) (on : PL → Bool → ℕ → List Found → List Arm → Type 0) (well : PlansMind k on) (σ φ : ℕ) where
  fed_at : (s : State) (history : History) (xs ys : List Known1) (place : ℕ) (order : Asked (Known WriteCmd IndexCmd FeedSpec)) (r : Told)
      → fed.AllFed (feeding s.most) s.table (map known_entry history) (xs ++ Ran place order r ∷ ys) → fed.FedCmd (feeding s.most) s.table (map known_entry history) place order.cmd r ys
  fed_at s history [] ys place order r h = h.0
  fed_at s history (Ran p o q ∷ xs) ys place order r h = fed_at s history xs ys place order r h.1
  fed_at s history (Looked p o q ∷ xs) ys place order r h = fed_at s history xs ys place order r h
  fed_at s history (Denied p ∷ xs) ys place order r h = fed_at s history xs ys place order r h

  opened_at : (holds : Held → List (ℕ × Plain) → List (Taking Summary Plain) → Type 0) (s : State) (history : History) (xs ys : List Known1) (place : ℕ) (order : Asked (Known WriteCmd IndexCmd FeedSpec)) (r : Told)
      → telling.AllOpened (feeding s.most) holds s.table (map known_entry history) (xs ++ Ran place order r ∷ ys) → telling.OpenedCmd (feeding s.most) holds s.table (map known_entry history) place order.cmd r ys
  opened_at holds s history [] ys place order r h = h.0
  opened_at holds s history (Ran p o q ∷ xs) ys place order r h = opened_at holds s history xs ys place order r h.1
  opened_at holds s history (Looked p o q ∷ xs) ys place order r h = opened_at holds s history xs ys place order r h
  opened_at holds s history (Denied p ∷ xs) ys place order r h = opened_at holds s history xs ys place order r h

  -- A feed that a session opened, in its acts on the slot.
  module _ (seen : DeskSeen) (share : DeskShare) (life : Life) (stamp : ℕ) (after : List Event) (o : Opens k seen share life σ φ stamp after) where
    abbrev start : State
    start = (share.slots σ).start

    abbrev history : History
    history = seen.slots σ

    known : known_on σ o.story.explained.events ≡ known_on σ o.before ++ Ran o.place (known_order o.order) o.reply ∷ known_on σ after
    known =
        let split_at : acts_on σ (o.before ++ On σ (Ran o.place o.order o.reply) o.kept ∷ after) ≡ acts_on σ o.before ++ Ran o.place o.order o.reply ∷ acts_on σ after =
        flat_map-append (acts_of σ) o.before (On σ (Ran o.place o.order o.reply) o.kept ∷ after) ∙ ap (λ b. acts_on σ o.before ++ (cond b (Ran o.place o.order o.reply ∷ []) [] ++ acts_on σ after)) (eq-eqb σ σ refl) in
        ap (map known_act) (ap (acts_on σ) o.events ∙ split_at) ∙ map-append known_act (acts_on σ o.before) (Ran o.place o.order o.reply ∷ acts_on σ after)

    -- no other feed is opened with its number
    pub no_others : (skips : Bool) → AllByRecursion (NotOpens k on σ φ skips) o.before × AllByRecursion (NotOpens k on σ φ skips) after
    no_others skips =
        let part : Part Order State = share.slots σ in
        let now : State = replay machine start part.before in
        let rise : OpensFrom now.table.place (known_on σ o.before ++ Ran o.place (known_order o.order) o.reply ∷ known_on σ after) =
        subst (OpensFrom now.table.place) known (numbers_rise (feeding now.most) index_opens_none _ part.number (length part.before) now.table (known_on σ o.story.explained.events) (map known_entry part.during)
        (woven_known now part.number (length part.before) (acts_on σ o.story.explained.events) part.during (o.story.explained.slots σ).woven)) in
        let others = apart now.table.place φ (known_on σ o.before) (known_on σ after) (Ran o.place (known_order o.order) o.reply) (ap (λ z. number_in z) o.says) rise in
        (all_not k on σ φ skips o.before others.0, all_not k on σ φ skips after others.1)

    -- what was sent is a front of what its Takes gave
    sends : (skips : Bool) → (unsent : List (ℕ × Plain)) × (all_told σ φ skips after ++ unsent ≡ all_taken skips (takings φ (known_on σ after)))
    sends skips =
        let others = no_others skips in
        front k on σ φ skips well o.story.explained.final o.before after o.place o.order o.reply o.kept o.spec o.opening o.asks o.says others.0 others.1
        (subst (λ z. Run k fresh z o.story.explained.final) o.events o.story.explained.run)

    lies : history ≡ (share.slots σ).before ++ ((share.slots σ).during ++ (o.story.lies.slots σ).later)
    lies = (o.story.lies.slots σ).whole ∙ append_assoc (share.slots σ).before (share.slots σ).during (o.story.lies.slots σ).later

    keeps : held (replay (tables start.most) start.table (take o.place (map known_entry history))).indexes o.spec ≡ Some o.held
    keeps = ap (λ z. held (replay (tables start.most) start.table z).indexes o.spec) (take_map known_entry o.place history)
        ∙ ap (λ (z : State). held z.table.indexes o.spec) (sym (replay_is start (take o.place history))) ∙ o.holds

    fed_here : AreGood start.table.docs → start.table.feeds ≡ [] → (n : ℕ) → stamp ≤ n → fed.Whole ((feeding start.most).squashes o.held) n (takings φ (known_on σ after)) (sent_of σ φ after)
        → fold (feeding start.most) o.held ((feeding start.most).value o.held (docs_at start history stamp)) (bare (feeding start.most) (fed.upto n (sent_of σ φ after))) ≡ (feeding start.most).value o.held (docs_at start history n)
    fed_here good none n le whole =
        let m : ℕ = start.most in
        let part : Part Order State = share.slots σ in
        let all : AllFed start history (acts_on σ o.story.explained.events) =
        subst (λ z. AllFed start z (acts_on σ o.story.explained.events)) (sym lies)
        (feeds_fold start part.before part.during (o.story.lies.slots σ).later part.number (acts_on σ o.story.explained.events) good none (o.story.explained.slots σ).woven) in
        let here : fed.FedCmd (feeding m) start.table (map known_entry history) o.place (known_cmd o.order.cmd) o.reply (known_on σ after) =
        fed_at start history (known_on σ o.before) (known_on σ after) o.place (known_order o.order) o.reply (subst (fed.AllFed (feeding m) start.table (map known_entry history)) known all) in
        let there : fed.FedCmd (feeding m) start.table (map known_entry history) o.place (known_cmd (cmds.Subscribe o.spec)) o.reply (known_on σ after) =
        subst (λ z. fed.FedCmd (feeding m) start.table (map known_entry history) o.place (known_cmd z) o.reply (known_on σ after)) o.asks here in
        let said_so : fed.FedSaid (feeding m) start.table (map known_entry history) (Some o.held) stamp (said.Opened φ o.opening) (known_on σ after) =
        subst (λ (z : Option Held × ℕ × Said Summary Plain). fed.FedSaid (feeding m) start.table (map known_entry history) z.0 z.1 z.2 (known_on σ after)) (λ i. (keeps i, o.at i, o.says i)) there in
        let fronts = sends false in
        said_so (sent_of σ φ after) fronts.0 (ap (λ z. z ++ fronts.0) (sym (same_sent σ φ after)) ∙ fronts.1 ∙ same_given (takings φ (known_on σ after))) n le whole

    opened_here : (holds : ℕ → Held → List (ℕ × Plain) → List (Taking Summary Plain) → Type 0) → OfAllOpened holds → start.table.feeds ≡ [] → holds start.most o.held (items_after start history o.held stamp) (takings φ (known_on σ after))
    opened_here holds law none =
        let m : ℕ = start.most in
        let part : Part Order State = share.slots σ in
        let all : telling.AllOpened (feeding m) (holds m) start.table (map known_entry history) (known_on σ o.story.explained.events) =
        subst (λ z. telling.AllOpened (feeding m) (holds m) start.table (map known_entry z) (known_on σ o.story.explained.events)) (sym lies)
        (law start part.before part.during (o.story.lies.slots σ).later part.number (acts_on σ o.story.explained.events) none (o.story.explained.slots σ).woven) in
        let here : telling.OpenedCmd (feeding m) (holds m) start.table (map known_entry history) o.place (known_cmd o.order.cmd) o.reply (known_on σ after) =
        opened_at (holds m) start history (known_on σ o.before) (known_on σ after) o.place (known_order o.order) o.reply (subst (telling.AllOpened (feeding m) (holds m) start.table (map known_entry history)) known all) in
        let there : telling.OpenedCmd (feeding m) (holds m) start.table (map known_entry history) o.place (known_cmd (cmds.Subscribe o.spec)) o.reply (known_on σ after) =
        subst (λ z. telling.OpenedCmd (feeding m) (holds m) start.table (map known_entry history) o.place (known_cmd z) o.reply (known_on σ after)) o.asks here in
        let said_so : telling.OpenedSaid (feeding m) (holds m) start.table (map known_entry history) (Some o.held) stamp (said.Opened φ o.opening) (known_on σ after) =
        subst (λ (z : Option Held × ℕ × Said Summary Plain). telling.OpenedSaid (feeding m) (holds m) start.table (map known_entry history) z.0 z.1 z.2 (known_on σ after)) (λ i. (keeps i, o.at i, o.says i)) there in
        said_so

    sends_skips : start.table.feeds ≡ [] → SendsSkips start.most σ φ o.held (items_after start history o.held stamp) after
    sends_skips none = record { unsent = (sends true).0; sent = (sends true).1; tells = opened_here TellSkips takes_tell none; laid = opened_here LieInOrder takes_lie none }

  pub session_fed : (seen : DeskSeen) (share : DeskShare) (life : Life) → ((slot : ℕ) → AreGood (share.slots slot).start.table.docs) → ((slot : ℕ) → (share.slots slot).start.table.feeds ≡ [])
      → (stamp : ℕ) (after : List Event) (o : Opens k seen share life σ φ stamp after)
      → (n : ℕ) → stamp ≤ n → fed.Whole ((feeding (share.slots σ).start.most).squashes o.held) n (takings φ (known_on σ after)) (sent_of σ φ after)
      → fold (feeding (share.slots σ).start.most) o.held ((feeding (share.slots σ).start.most).value o.held (docs_at (share.slots σ).start (seen.slots σ) stamp))
      (bare (feeding (share.slots σ).start.most) (fed.upto n (sent_of σ φ after)))
      ≡ (feeding (share.slots σ).start.most).value o.held (docs_at (share.slots σ).start (seen.slots σ) n)
  session_fed seen share life good none stamp after o n le whole = fed_here seen share life stamp after o (good σ) (none σ) n le whole

  pub session_tells : (seen : DeskSeen) (share : DeskShare) (life : Life) → ((slot : ℕ) → (share.slots slot).start.table.feeds ≡ [])
      → (stamp : ℕ) (after : List Event) (o : Opens k seen share life σ φ stamp after) → SendsSkips (share.slots σ).start.most σ φ o.held (items_after (share.slots σ).start (seen.slots σ) o.held stamp) after
  session_tells seen share life none stamp after o = sends_skips seen share life stamp after o (none σ)
