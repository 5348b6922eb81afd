-- A user's acts on a table of documents are its acts on the machine of tables; so its feeds fold, and their Takes tell what was skipped.
use Rattle.std.proofs.Common.{◌≡◌, ℕ, ◌+◌, Bool, true, false, cond, List, [], ◌∷◌, ◌++◌, length, map, refl, sym, ap, subst, ◌∙◌, arith, length-append}
use Rattle.std.specs.List.{AllByRecursion}
use Rattle.std.specs.Prelude.{◌==◌}
use Rattle.std.proofs.lemmas.List.{map-append, length-map}
use Rattle.reql_datum.specs.Plain.{Plain}
use Rattle.reql_write_spec.specs.declared.command.Summary.{Summary}
use Rattle.reql_write_spec.specs.declared.command.WriteCmd.{WriteCmd}
use Rattle.reql_shared.specs.Acts.{Act, Ran, Looked, Denied, place_of, entries_of, IsAnswered}
use Rattle.reql_shared.specs.History.{own}
use Rattle.reql_shared.specs.Machine.{replay}
use Rattle.reql_shared.specs.Plays.{Woven}
use Rattle.reql_shared.specs.declared.recorded.Recorded.{Recorded}
use Rattle.reql_shared.proofs.Weaving.{woven_as}
use Rattle.reql_table_machine_spec.specs.Feeds.{adds}
use Rattle.reql_table_machine_spec.specs.Fed as fed
use Rattle.reql_table_machine_spec.specs.Fed.{Taking}
use Rattle.reql_table_machine_spec.specs.Telling as telling
use Rattle.reql_table_machine_spec.specs.Subscribing as subscribing
use Rattle.reql_table_machine_spec.specs.declared.command.Cmd.{Cmd as Known}
use Rattle.reql_table_machine_spec.specs.declared.command.Order.{Order as Asked}
use Rattle.reql_table_machine_spec.proofs.Tables.{all_fed}
use Rattle.reql_table_machine_spec.proofs.Telling.{takes_tell_skips, takes_lie_in_order}
use Rattle.reql_table_machine_spec.proofs.Placing.{takes_are_placed}
use Rattle.reql_table_machine_spec.proofs.Subscribing.{subscribes_are_placed}
use Rattle.reql_table_spec.specs.Indexes.{IndexCmd}
use Rattle.reql_table_spec.specs.Laws.{History, Done, AreGood, May, known_act, FeedsFold, OfAllOpened, TellSkips, TakesTellSkips, LieInOrder, TakesLieInOrder, TakesArePlaced, SubscribesArePlaced}
use Rattle.reql_table_spec.specs.Machine.{State, Seen, known_order, known_entry, machine, reply, seen}
use Rattle.reql_table_spec.specs.Replies.{Answered}
use Rattle.reql_table_spec.specs.Table.{Held, feeding}
use Rattle.reql_table_spec.specs.declared.command.FeedSpec.{FeedSpec}
use Rattle.reql_table_spec.proofs.Folding.{kinds_fold}
use Rattle.reql_table_spec.proofs.Replays.{Entries, tables, beside, replay_is, adds_any}

own_known : (number : ℕ) (es : History) → own number (map known_entry es) ≡ map known_entry (own number es)
own_known number [] = refl
own_known number (e ∷ es) = by_case (e.by == number) ∙ ap (λ z. cond (e.by == number) (known_entry e ∷ z) z) (own_known number es) ∙ outside (e.by == number)
  where
    by_case : (b : Bool) → cond b (known_entry e ∷ own number (map known_entry es)) (own number (map known_entry es)) ≡ cond b (known_entry e ∷ own number (map known_entry es)) (own number (map known_entry es))
    by_case b = refl

    outside : (b : Bool) → cond b (known_entry e ∷ map known_entry (own number es)) (map known_entry (own number es)) ≡ map known_entry (cond b (e ∷ own number es) (own number es))
    outside true = refl
    outside false = refl

none_known : (number : ℕ) (es : History) → own number es ≡ [] → own number (map known_entry es) ≡ []
none_known number es h = own_known number es ∙ ap (map known_entry) h

entries_known : (most number : ℕ) (a : Done) → entries_of (tables most) number (known_act a) ≡ map known_entry (entries_of machine number a)
entries_known most number (Ran place o r) = ap (λ b. cond b (known_entry (record { by = number; cmd = o }) ∷ []) []) (sym (adds_any most r.said)) ∙ outside (adds (feeding 0) r.said)
  where
    outside : (b : Bool) → cond b (known_entry (record { by = number; cmd = o }) ∷ []) [] ≡ map known_entry (cond b (record { by = number; cmd = o } ∷ []) [])
    outside true = refl
    outside false = refl
entries_known most number (Looked place q x) = refl
entries_known most number (Denied place) = refl

place_known : (a : Done) → place_of (known_act a) ≡ place_of a
place_known (Ran place o r) = refl
place_known (Looked place q x) = refl
place_known (Denied place) = refl

answer_known : (s : State) (number : ℕ) (others : History) (a : Done) → IsAnswered machine s others number a → IsAnswered (tables s.most) s.table (map known_entry others) number (known_act a)
answer_known s number others (Ran place o r) h = h ∙ ap (λ (z : State). reply z number o) (replay_is s others)
answer_known s number others (Looked place q x) h = h ∙ ap (λ (z : State). seen z) (replay_is s others)
answer_known s number others (Denied place) h = tt

front_known : (most number : ℕ) (others : History) (a : Done) → map known_entry (others ++ entries_of machine number a) ≡ map known_entry others ++ entries_of (tables most) number (known_act a)
front_known most number others a = map-append known_entry others (entries_of machine number a) ∙ ap (λ z. map known_entry others ++ z) (sym (entries_known most number a))

-- from this state, with so many entries behind it
abbrev IsWoven : State → ℕ → ℕ → List Done → History → Type 0
IsWoven s number at acts history = Woven (tables s.most) s.table number at (map known_act acts) (map known_entry history)

pub woven_known : (s : State) (number at : ℕ) (acts : List Done) (history : History) → Woven machine s number at acts history → IsWoven s number at acts history
woven_known s number at [] history w = none_known number history w
woven_known s number at (a ∷ acts) history w =
    let others : History = w.0 in
    let rest : History = w.1 in
    let all : History = others ++ entries_of machine number a in
    let front : map known_entry all ≡ map known_entry others ++ entries_of (tables s.most) number (known_act a) = front_known s.most number others a in
    let on : IsWoven (replay machine s all) number (at + length all) acts rest = woven_known (replay machine s all) number (at + length all) acts rest w.6 in
    let here : IsWoven (beside s (replay (tables s.most) s.table (map known_entry all))) number (at + length all) acts rest = subst (λ (z : State). IsWoven z number (at + length all) acts rest) (replay_is s all) on in (
      map known_entry others,
      map known_entry rest,
      ap (map known_entry) w.2 ∙ map-append known_entry all rest ∙ ap (λ z. z ++ map known_entry rest) front,
      none_known number others w.3,
      place_known a ∙ w.4 ∙ ap (λ z. at + z) (sym (length-map others known_entry)),
      answer_known s number others a w.5,
      woven_as (tables s.most) (λ es. own number es ≡ []) (replay (tables s.most) s.table (map known_entry all)) (replay (tables s.most) s.table (map known_entry others ++ entries_of (tables s.most) number (known_act a))) number (at + length all)
          (at + length (map known_entry others ++ entries_of (tables s.most) number (known_act a))) (map known_act acts) (map known_entry rest)
          (ap (λ z. replay (tables s.most) s.table z) front) (ap (λ z. at + z) (sym (length-map all known_entry) ∙ ap length front)) here,
    )

-- a user's acts after a history
abbrev Begun : State → History → History → ℕ → List Done → Type 0
Begun s before during by acts = Woven (tables s.most) (replay (tables s.most) s.table (map known_entry before)) by (length (map known_entry before)) (map known_act acts) (map known_entry during)

begun : (s : State) (before during : History) (by : ℕ) (acts : List Done) → Woven machine (replay machine s before) by (length before) acts during → Begun s before during by acts
begun s before during by acts w =
    let start : Woven (tables s.most) (replay (tables s.most) s.table (map known_entry before)) by (length before) (map known_act acts) (map known_entry during) =
    subst (λ (z : State). IsWoven z by (length before) acts during) (replay_is s before) (woven_known (replay machine s before) by (length before) acts during w) in
    subst (λ k. Woven (tables s.most) (replay (tables s.most) s.table (map known_entry before)) by k (map known_act acts) (map known_entry during)) (sym (length-map before known_entry)) start

parts_known : (before during later : History) → map known_entry (before ++ (during ++ later)) ≡ map known_entry before ++ (map known_entry during ++ map known_entry later)
parts_known before during later = map-append known_entry before (during ++ later) ∙ ap (λ z. map known_entry before ++ z) (map-append known_entry during later)

pub feeds_fold : FeedsFold
feeds_fold s before during later by acts good none w =
    subst (λ z. fed.AllFed (feeding s.most) s.table z (map known_act acts)) (sym (parts_known before during later))
    (all_fed (feeding s.most) AreGood May (kinds_fold s.most) s.table (map known_entry before) (map known_entry during) (map known_entry later) by (map known_act acts) good none (begun s before during by acts w))

-- ---- the feeds that a user opens
of_all_opened : (holds : ℕ → Held → List (ℕ × Plain) → List (Taking Summary Plain) → Type 0) → ((most : ℕ) → telling.OfAllOpened (feeding most) (holds most)) → OfAllOpened holds
of_all_opened holds known s before during later by acts none w =
    subst (λ z. telling.AllOpened (feeding s.most) (holds s.most) s.table z (map known_act acts)) (sym (parts_known before during later))
    (known s.most s.table (map known_entry before) (map known_entry during) (map known_entry later) by (map known_act acts) none (begun s before during by acts w))

pub takes_tell : TakesTellSkips
takes_tell = of_all_opened TellSkips (λ most. takes_tell_skips (feeding most))

pub takes_lie : TakesLieInOrder
takes_lie = of_all_opened LieInOrder (λ most. takes_lie_in_order (feeding most))

pub takes_placed : TakesArePlaced
takes_placed s before during later by acts w =
    subst (λ z. AllByRecursion (telling.ActIsPlaced (feeding s.most) s.table z) (map known_act acts)) (sym (parts_known before during later))
    (takes_are_placed (feeding s.most) s.table (map known_entry before) (map known_entry during) (map known_entry later) by (map known_act acts) (begun s before during by acts w))

pub subscribes_placed : SubscribesArePlaced
subscribes_placed s before during later by acts w =
    subst (λ z. AllByRecursion (subscribing.SubscribeIsPlaced (feeding s.most) s.table z) (map known_act acts)) (sym (parts_known before during later))
    (subscribes_are_placed (feeding s.most) s.table (map known_entry before) (map known_entry during) (map known_entry later) by (map known_act acts) (begun s before during by acts w))
