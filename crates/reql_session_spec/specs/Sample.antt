-- Plans that are easy to see through: plan 0 follows the table in slot 0, any other plan is answered its number less one.
use Rattle.std.specs.Prelude.{◌≡◌, ℕ, zero, suc, pos, List, [], ◌∷◌, ◌++◌, Bool, true, false, cond, None, codes}
use Rattle.std.specs.List.{AllByRecursion}
use Rattle.std.proofs.Common.{refl, sym, ap, subst, ◌∙◌, true≢false, arith}
use Rattle.reql_datum.specs.Plain.{Plain, number}
use Rattle.reql_answer.specs.declared.error.ErrorType.TheVariants as errors
use Rattle.reql_feed_spec.specs.declared.kind.FeedKind.TheVariants as kinds
use Rattle.reql_table_machine_spec.specs.declared.command.Said.{Said}
use Rattle.reql_table_machine_spec.specs.declared.command.Said.TheVariants as said
use Rattle.reql_term.specs.Form as form
use Rattle.reql_write_spec.specs.declared.command.Summary.{Summary}
use Rattle.reql_table_spec.specs.Limits.{usual_limits}
use Rattle.reql_table_spec.specs.Replies.{Answered as Told}
use Rattle.reql_table_spec.specs.declared.command.Cmd.{Cmd}
use Rattle.reql_table_spec.specs.declared.command.Cmd.TheVariants as cmds
use Rattle.reql_table_spec.specs.declared.command.FeedSpec.{FeedSpec}
use Rattle.reql_table_spec.specs.declared.command.Order.{Order}
use Rattle.reql_table_spec.specs.declared.reply.Saved.{Saved}
use Rattle.reql_table_spec.specs.declared.reply.Saved.TheVariants as saved
use Rattle.reql_session_spec.specs.Requests.{ServerInfo, Arm, Shown, Answered, Unsent, One, Stream, Feed, Fault, Wanting, Move, LookNames, RunSlot, Ends, Found, SawNames, Clocked, SawSlot, RanSlot, ChangedNames, Rolled}
use Rattle.reql_session_spec.specs.Tasks.{Talk, arms_said, arms_after}
use Rattle.reql_session_spec.specs.Minding.{has_arm, Minds, IsAside, IsOther, IsWhole, PlansMind}

abbrev pub watch : FeedSpec
watch = record { key = codes "id"; shape = form.slot 0; index = None; kind = kinds.Range; size = 2; offsets = false; types = false; squash = false }

abbrev pub subscribe : Order
subscribe = record { points = []; cmd = cmds.Subscribe watch }

abbrev pub dropped : List ℕ
dropped = codes "Table `test.docs` was dropped."

-- what the answer to a Subscribe comes to, by whether it was kept on disk
abbrev pub feed_end : Said Summary Plain → Answered
feed_end (said.Opened feed opening) = Feed (record { slot = 0; feed = feed; dropped = dropped } ∷ []) (1 ∷ []) []
feed_end (said.FeedsFull count) = Fault errors.ResourceLimit (codes "Too many feeds.")
feed_end other = Fault errors.OpFailed dropped

abbrev pub kept_end : Said Summary Plain → Saved → Answered
kept_end s saved.Yes = feed_end s
kept_end s saved.Failed = Fault errors.OpFailed (codes "Journal failed.")
kept_end s saved.Memory = Wanting

abbrev pub feed_next : List Found → Move
feed_next [] = LookNames
feed_next (x ∷ []) = RunSlot 0 subscribe
feed_next (x ∷ RanSlot slot r kept ∷ more) = Ends (kept_end r.said kept)
feed_next (x ∷ y ∷ more) = Ends Wanting

abbrev pub next : ℕ → List Found → Move
next zero found = feed_next found
next (suc n) [] = LookNames
next (suc n) (x ∷ more) = Ends (One (number (pos n)))

-- where no answer is wanted there is none
abbrev pub hushed : Bool → Move → Move
hushed noreply (Ends a) = Ends (cond noreply Unsent a)
hushed noreply other = other

abbrev pub sample : Talk ℕ
sample = record {
  key = [];
  password = [];
  limits = usual_limits;
  asked = λ body. ServerInfo;
  next = λ plan noreply count found. hushed noreply (next plan found);
  batch = λ plan. 2;
}

-- a course comes by with the arm that its Subscribe opened
abbrev pub arms_of : List Found → List Arm
arms_of [] = []
arms_of (x ∷ []) = []
arms_of (x ∷ RanSlot slot r kept ∷ more) = arms_said 0 r.said []
arms_of (x ∷ y ∷ more) = []

abbrev pub comes_by : ℕ → Bool → ℕ → List Found → List Arm → Type 0
comes_by plan noreply count found arms = arms ≡ arms_of found

-- ---- these plans mind their feeds
abbrev is_run : Move → Bool
is_run (RunSlot slot order) = true
is_run other = false

abbrev slot_in : Move → ℕ
slot_in (RunSlot slot order) = slot
slot_in other = 7

abbrev cmd_in : Move → Cmd
cmd_in (RunSlot slot order) = order.cmd
cmd_in other = cmds.Shut

abbrev answered_in : Move → Answered
answered_in (Ends a) = a
answered_in other = Wanting

abbrev arms_in : Answered → List Arm
arms_in (Feed arms notes items) = arms
arms_in other = []

abbrev items_in : Answered → List Shown
items_in (Feed arms notes items) = items
items_in other = []

abbrev AreAside : List Shown → Type 0
AreAside items = AllByRecursion (λ (x : Shown). IsAside x.sort) items

-- what a course owes where a plan runs a command
abbrev Owes : ℕ → Bool → ℕ → List Found → List Arm → ℕ → Order → Told → Saved → Type 0
Owes plan noreply count found arms slot order reply kept = Minds arms slot order.cmd × comes_by plan noreply count (found ++ RanSlot slot reply kept ∷ []) (arms_after slot order.cmd reply.said arms)

abbrev is_end : Move → Bool
is_end (Ends a) = true
is_end other = false

no_end : {A : Type 0} (m : Move) (a : Answered) → is_end m ≡ false → m ≡ Ends a → A
no_end m a h e = absurd (true≢false (sym (ap is_end e) ∙ h))

no_run : {A : Type 0} (m : Move) (slot : ℕ) (order : Order) → is_run m ≡ false → m ≡ RunSlot slot order → A
no_run m slot order h e = absurd (true≢false (sym (ap is_run e) ∙ h))

runs : (plan : ℕ) (noreply : Bool) (count : ℕ) (found : List Found) (arms : List Arm) (slot : ℕ) (order : Order) (reply : Told) (kept : Saved) → comes_by plan noreply count found arms → next plan found ≡ RunSlot slot order → Owes plan noreply count found arms slot order reply kept
runs zero noreply count [] arms slot order reply kept o e = no_run LookNames slot order refl e
runs zero noreply count (x ∷ []) arms slot order reply kept o e =
    let s : 0 ≡ slot = ap slot_in e in
    let c : cmds.Subscribe watch ≡ order.cmd = ap cmd_in e in
    (subst (λ z. Minds arms slot z) c tt, subst (λ z. arms_after slot z reply.said arms ≡ arms_said 0 reply.said []) c (λ i. arms_said (sym s i) reply.said (o i)))
runs zero noreply count (x ∷ RanSlot t r q ∷ more) arms slot order reply kept o e = no_run (Ends (kept_end r.said q)) slot order refl e
runs zero noreply count (x ∷ SawNames p n ∷ more) arms slot order reply kept o e = no_run (Ends Wanting) slot order refl e
runs zero noreply count (x ∷ Clocked t ∷ more) arms slot order reply kept o e = no_run (Ends Wanting) slot order refl e
runs zero noreply count (x ∷ SawSlot s l ∷ more) arms slot order reply kept o e = no_run (Ends Wanting) slot order refl e
runs zero noreply count (x ∷ ChangedNames p r ∷ more) arms slot order reply kept o e = no_run (Ends Wanting) slot order refl e
runs zero noreply count (x ∷ Rolled b ∷ more) arms slot order reply kept o e = no_run (Ends Wanting) slot order refl e
runs (suc n) noreply count [] arms slot order reply kept o e = no_run LookNames slot order refl e
runs (suc n) noreply count (x ∷ more) arms slot order reply kept o e = no_run (Ends (One (number (pos n)))) slot order refl e

finds : (plan : ℕ) (noreply : Bool) (count : ℕ) (found : List Found) (arms : List Arm) (x : Found) → comes_by plan noreply count found arms → IsOther x → comes_by plan noreply count (found ++ x ∷ []) arms
finds plan noreply count [] arms x o h = o
finds plan noreply count (y ∷ []) arms (RanSlot slot r kept) o h = absurd h
finds plan noreply count (y ∷ []) arms other o h = o
finds plan noreply count (y ∷ RanSlot slot r kept ∷ more) arms x o h = o
finds plan noreply count (y ∷ z ∷ more) arms x o h = o

-- what a Subscribe's answer leads to
arms_end : (s : Said Summary Plain) (σ φ : ℕ) → has_arm σ φ (arms_in (feed_end s)) ≡ true → has_arm σ φ (arms_said 0 s []) ≡ true
arms_end (said.Opened f o) σ φ h = h
arms_end other σ φ h = absurd (true≢false (sym h))

arms_kept : (s : Said Summary Plain) (kept : Saved) (σ φ : ℕ) → has_arm σ φ (arms_in (kept_end s kept)) ≡ true → has_arm σ φ (arms_said 0 s []) ≡ true
arms_kept s saved.Yes σ φ h = arms_end s σ φ h
arms_kept s saved.Failed σ φ h = absurd (true≢false (sym h))
arms_kept s saved.Memory σ φ h = absurd (true≢false (sym h))

items_end : (s : Said Summary Plain) (kept : Saved) → AreAside (items_in (kept_end s kept))
items_end (said.Opened f o) saved.Yes = tt
items_end other saved.Yes = tt
items_end s saved.Failed = tt
items_end s saved.Memory = tt

abbrev Within : List Arm → List Arm → Type 0
Within feed arms = (σ φ : ℕ) → has_arm σ φ feed ≡ true → has_arm σ φ arms ≡ true

no_arms : (arms : List Arm) → Within [] arms
no_arms arms σ φ h = absurd (true≢false (sym h))

by_move : (m : Move) (arms feed : List Arm) (notes : List ℕ) (items : List Shown) → m ≡ Ends (Feed feed notes items) → Within (arms_in (answered_in m)) arms → AreAside (items_in (answered_in m)) → Within feed arms × AreAside items
by_move m arms feed notes items e w a = (
  (λ σ φ h. w σ φ (subst (λ z. has_arm σ φ z ≡ true) (sym (ap (λ z. arms_in (answered_in z)) e)) h)),
  subst AreAside (ap (λ z. items_in (answered_in z)) e) a,
)

ends : (plan : ℕ) (noreply : Bool) (count : ℕ) (found : List Found) (arms feed : List Arm) (notes : List ℕ) (items : List Shown) → comes_by plan noreply count found arms → next plan found ≡ Ends (Feed feed notes items) → Within feed arms × AreAside items
ends zero noreply count [] arms feed notes items o e = by_move LookNames arms feed notes items e (no_arms arms) tt
ends zero noreply count (x ∷ []) arms feed notes items o e = by_move (RunSlot 0 subscribe) arms feed notes items e (no_arms arms) tt
ends zero noreply count (x ∷ RanSlot t r kept ∷ more) arms feed notes items o e =
    by_move (Ends (kept_end r.said kept)) arms feed notes items e (λ σ φ h. subst (λ z. has_arm σ φ z ≡ true) (sym o) (arms_kept r.said kept σ φ h)) (items_end r.said kept)
ends zero noreply count (x ∷ SawNames p n ∷ more) arms feed notes items o e = by_move (Ends Wanting) arms feed notes items e (no_arms arms) tt
ends zero noreply count (x ∷ Clocked t ∷ more) arms feed notes items o e = by_move (Ends Wanting) arms feed notes items e (no_arms arms) tt
ends zero noreply count (x ∷ SawSlot s l ∷ more) arms feed notes items o e = by_move (Ends Wanting) arms feed notes items e (no_arms arms) tt
ends zero noreply count (x ∷ ChangedNames p r ∷ more) arms feed notes items o e = by_move (Ends Wanting) arms feed notes items e (no_arms arms) tt
ends zero noreply count (x ∷ Rolled b ∷ more) arms feed notes items o e = by_move (Ends Wanting) arms feed notes items e (no_arms arms) tt
ends (suc n) noreply count [] arms feed notes items o e = by_move LookNames arms feed notes items e (no_arms arms) tt
ends (suc n) noreply count (x ∷ more) arms feed notes items o e = by_move (Ends (One (number (pos n)))) arms feed notes items e (no_arms arms) tt

-- what was hushed is what it was, but for its answer
run_back : (noreply : Bool) (m : Move) (slot : ℕ) (order : Order) → hushed noreply m ≡ RunSlot slot order → m ≡ RunSlot slot order
run_back noreply (Ends a) slot order e = no_run (Ends (cond noreply Unsent a)) slot order refl e
run_back noreply other slot order e = e

abbrev is_feed : Answered → Bool
is_feed (Feed arms notes items) = true
is_feed other = false

feed_back : (noreply : Bool) (m : Move) (feed : List Arm) (notes : List ℕ) (items : List Shown) → hushed noreply m ≡ Ends (Feed feed notes items) → m ≡ Ends (Feed feed notes items)
feed_back true (Ends a) feed notes items e = absurd (true≢false (sym (ap (λ z. is_feed (answered_in z)) e)))
feed_back false (Ends a) feed notes items e = e
feed_back noreply other feed notes items e = e

quiet : (m : Move) (a : Answered) → hushed true m ≡ Ends a → a ≡ Unsent
quiet (Ends x) a e = sym (ap answered_in e)
quiet other a e = no_end other a refl e

-- where an answer is wanted there is one
abbrev Says : Answered → Type 0
Says Unsent = ⊥
Says other = Unit {0}

end_says : (s : Said Summary Plain) → Says (feed_end s)
end_says (said.Opened f o) = tt
end_says other = tt

kept_says : (s : Said Summary Plain) (kept : Saved) → Says (kept_end s kept)
kept_says s saved.Yes = end_says s
kept_says s saved.Failed = tt
kept_says s saved.Memory = tt

says : (plan : ℕ) (found : List Found) → Says (answered_in (next plan found))
says zero [] = tt
says zero (x ∷ []) = tt
says zero (x ∷ RanSlot t r kept ∷ more) = kept_says r.said kept
says zero (x ∷ SawNames p n ∷ more) = tt
says zero (x ∷ Clocked t ∷ more) = tt
says zero (x ∷ SawSlot s l ∷ more) = tt
says zero (x ∷ ChangedNames p r ∷ more) = tt
says zero (x ∷ Rolled b ∷ more) = tt
says (suc n) [] = tt
says (suc n) (x ∷ more) = tt

unhushed_says : (m : Move) → Says (answered_in m) → Says (answered_in (hushed false m))
unhushed_says (Ends a) h = h
unhushed_says other h = h

-- what is owed by what is open where a plan ends
abbrev Owed : List Arm → Answered → Type 0
Owed arms (Feed feed notes items) = IsWhole feed arms
Owed arms (Stream vs) = arms ≡ []
Owed arms other = Unit {0}

end_owed : (s : Said Summary Plain) → Owed (arms_said 0 s []) (feed_end s)
end_owed (said.Opened f o) = record { all = refl; apart = refl; some = omega arith }
end_owed other = tt

kept_owed : (s : Said Summary Plain) (kept : Saved) → Owed (arms_said 0 s []) (kept_end s kept)
kept_owed s saved.Yes = end_owed s
kept_owed s saved.Failed = tt
kept_owed s saved.Memory = tt

owed : (plan : ℕ) (found : List Found) → Owed (arms_of found) (answered_in (next plan found))
owed zero [] = tt
owed zero (x ∷ []) = tt
owed zero (x ∷ RanSlot t r kept ∷ more) = kept_owed r.said kept
owed zero (x ∷ SawNames p n ∷ more) = tt
owed zero (x ∷ Clocked t ∷ more) = tt
owed zero (x ∷ SawSlot s l ∷ more) = tt
owed zero (x ∷ ChangedNames p r ∷ more) = tt
owed zero (x ∷ Rolled b ∷ more) = tt
owed (suc n) [] = tt
owed (suc n) (x ∷ more) = tt

hushed_owed : (noreply : Bool) (m : Move) (arms : List Arm) → Owed arms (answered_in m) → Owed arms (answered_in (hushed noreply m))
hushed_owed true (Ends a) arms o = tt
hushed_owed false (Ends a) arms o = o
hushed_owed noreply other arms o = o

ends_owed : (plan : ℕ) (noreply : Bool) (found : List Found) (arms : List Arm) (a : Answered) → arms ≡ arms_of found → hushed noreply (next plan found) ≡ Ends a → Owed arms a
ends_owed plan noreply found arms a o e =
    let owes : Owed arms (answered_in (next plan found)) = subst (λ z. Owed z (answered_in (next plan found))) (sym o) (owed plan found) in
    subst (λ z. Owed arms (answered_in z)) e (hushed_owed noreply (next plan found) arms owes)

pub sample_minds : PlansMind sample comes_by
sample_minds = record {
  begins = λ plan noreply count. refl;
  runs = λ plan noreply count found arms slot order reply kept o e. runs plan noreply count found arms slot order reply kept o (run_back noreply (next plan found) slot order e);
  finds = λ plan noreply count found arms x o h. finds plan noreply count found arms x o h;
  ends = λ plan noreply count found arms feed notes items o e. ends plan noreply count found arms feed notes items o (feed_back noreply (next plan found) feed notes items e);
  whole = λ plan noreply count found arms feed notes items o e. ends_owed plan noreply found arms (Feed feed notes items) o e;
  bare = λ plan noreply count found arms vs o e. ends_owed plan noreply found arms (Stream vs) o e;
  quiet = λ plan count found a e. quiet (next plan found) a e;
  loud = λ plan count found e. subst (λ z. Says (answered_in z)) e (unhushed_says (next plan found) (says plan found));
}
