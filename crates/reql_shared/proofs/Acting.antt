-- What happens under the lock is one act of the pass.
use Rattle.std.proofs.Common.{rules, ◌≡◌, ℕ, List, [], ◌∷◌, ◌++◌, length, Bool, true, false, cond, Result, Ok, Err, IfOk, IfErr, refl, sym, ap, ◌∙◌, subst, append-nil}
use Rattle.std.specs.Prelude.{◌==◌}
use Rattle.atomic_table.specs.Seated.{TableId}
use Rattle.atomic_table.specs.Table.{Me}
use Rattle.reql_shared.specs.declared.recorded.Recorded.{Recorded}
use Rattle.reql_shared.specs.declared.view.View.{View}
use Rattle.reql_memory.specs.declared.memory.Refused.{Refused}
use Rattle.reql_shared.specs.History.{noted, own, Begins}
use Rattle.reql_shared.specs.Machine.{Machine, replay}
use Rattle.reql_shared.specs.Acts.{Act, Ran, Looked, Denied, place_of, entries_of, IsAnswered, Acts}
use Rattle.reql_shared.specs.Rule.{caught, Entered, grown, released, sight}
use Rattle.reql_shared.proofs.Histories.{own-append, none_added}

same_number : (n : ℕ) → (n == n) ≡ true
same_number n = search rules

module _ {C S : Type 0} where
  -- the view of a pass that has given the lock back, after it was taken at this history
  abbrev back : View C S → List (Recorded C) → List (Recorded C) → View C S
  back v log seen = record { live = v.live; start = v.start; passes = v.passes; seen = seen; own = v.own; number = v.number; marks = v.marks ++ length log ∷ []; holds = false; maker = v.maker; next = v.next; joined = false; mine_old = []; other_old = [] }

  back_grown : (b : Bool) (v : View C S) (log : List (Recorded C)) (e : Recorded C) → released (grown b (caught v log) e) ≡ back v log (log ++ cond b (e ∷ []) [])
  back_grown true v log e = refl
  back_grown false v log e = ap (back v log) (sym (append-nil log))

module _ {S C R Q A : Type 0} (machine : Machine S C R Q A) where
  own_entries : (number : ℕ) (act : Act C R Q A) → own number (entries_of machine number act) ≡ entries_of machine number act
  own_entries number (Ran place cmd reply) = alone (machine.recorded reply)
    where
      alone : (b : Bool) → own number (cond b (noted number cmd ∷ []) []) ≡ cond b (noted number cmd ∷ []) []
      alone true = ap (λ t. cond t (noted number cmd ∷ []) []) (same_number number)
      alone false = refl
  own_entries number (Looked place question answer) = refl
  own_entries number (Denied place) = refl

  acts_from : (id : TableId) (v : View C S) (log : List (Recorded C)) (act : Act C R Q A) → Begins v.seen log → own v.number log ≡ own v.number v.seen
      → place_of act ≡ length log → IsAnswered machine v.start log v.number act
      → Acts machine (sight id v) (sight id (back v log (log ++ entries_of machine v.number act))) act
  acts_from id v log act p all at answers = record {
    others = p.0;
    object = refl;
    number = refl;
    theirs = none_added v.number v.seen p.0 (ap (own v.number) (sym p.1) ∙ all);
    seen = ap (λ l. l ++ entries_of machine v.number act) p.1;
    place = at ∙ ap length p.1;
    answers = subst (λ h. IsAnswered machine v.start h v.number act) p.1 answers;
    mine = own-append v.number log (entries_of machine v.number act) ∙ (λ k. all k ++ own_entries v.number act k);
    marks = ap (λ k. v.marks ++ k ∷ []) (sym at);
  }

module _ {S C R Q A D : Type 0} (machine : Machine S C R Q A) (lodges : S → List (Recorded C) → D → Type 0) (id now : TableId) (v : View C S) (m : Me D (View C S)) (w : View C S) (same : now ≡ id) (has : v.own ≡ true) (e : Entered lodges v m) where
  became : (act : Act C R Q A) → w ≡ back v e.log (e.log ++ entries_of machine v.number act) → place_of act ≡ length e.log → IsAnswered machine v.start e.log v.number act → Acts machine (sight id v) (sight now w) act
  became act is at answers =
      subst (λ (x : TableId × View C S). Acts machine (sight id v) (sight x.0 x.1) act) (λ k. (sym same k, sym is k))
      (acts_from machine id v e.log act e.prefix (e.all has) at answers)

  pub ran : {X : Type 0} (told : X → R) (n : View C S) (number : ℕ) (cmd : C) (result : Result X (Refused C)) → v.number ≡ number → w ≡ released n
      → IfOk result (λ r. told r ≡ machine.reply (replay machine m.0.start m.0.seen) number cmd)
      → IfOk result (λ r. n ≡ grown (machine.recorded (told r)) m.0 (noted number cmd))
      → IfOk result (λ r. (place : ℕ) × Acts machine (sight id v) (sight now w) (Ran place cmd (told r)))
  ran told n number cmd (Ok r) numbered freed reply grew = (
    length e.log,
    became (Ran (length e.log) cmd (told r))
        (freed ∙ ap released grew ∙ (λ k. released (grown (machine.recorded (told r)) (e.now k).0 (noted (sym numbered k) cmd))) ∙ back_grown (machine.recorded (told r)) v e.log (noted v.number cmd))
        refl
        (reply ∙ (λ k. machine.reply (replay machine (e.now k).0.start (e.now k).0.seen) (sym numbered k) cmd)),
  )
  ran told n number cmd (Err x) numbered freed reply grew = tt

  -- what an engine tells, it tells in a state to which some history leads
  pub tells_on : {E X : Type 0} (state : E → S) (tells : E → E → ℕ → X → Type 0) (number : ℕ) (result : Result X (Refused C)) → v.number ≡ number
      → IfOk result (λ r. (old new : E) × (state old ≡ replay machine m.0.start m.0.seen) × tells old new number r)
      → IfOk result (λ r. (before : List (Recorded C)) × (old new : E) × (state old ≡ replay machine v.start before) × tells old new v.number r)
  tells_on state tells number (Ok r) numbered h = (m.0.seen, h.0, h.1, h.2 ∙ (λ k. replay machine (e.now k).0.start m.0.seen), subst (λ k. tells h.0 h.1 k r) (sym numbered) h.3)
  tells_on state tells number (Err x) numbered h = tt

  stayed : w ≡ released m.0 → w ≡ back v e.log (e.log ++ [])
  stayed is = is ∙ (λ k. released (e.now k).0) ∙ ap (back v e.log) (sym (append-nil e.log))

  pub denied : w ≡ released m.0 → (place : ℕ) × Acts machine (sight id v) (sight now w) (Denied place)
  denied is = (length e.log, became (Denied (length e.log)) (stayed is) refl tt)

  pub looked : {X : Type 0} (heard : X → A) (M : Type 0) (question : Q) (result : Result X M) → IfOk result (λ a. heard a ≡ machine.answer (replay machine m.0.start m.0.seen) question) → w ≡ released m.0
      → IfOk result (λ a. (place : ℕ) × Acts machine (sight id v) (sight now w) (Looked place question (heard a)))
  looked heard M question (Ok a) says is =
      (length e.log, became (Looked (length e.log) question (heard a)) (stayed is) refl (says ∙ (λ k. machine.answer (replay machine (e.now k).0.start (e.now k).0.seen) question)))
  looked heard M question (Err x) says is = tt

module _ {T X : Type 0} where
  pub if_err : (P Q : X → Type 0) (result : Result T X) → ((x : X) → P x → Q x) → IfErr result P → IfErr result Q
  if_err P Q (Ok t) f p = tt
  if_err P Q (Err x) f p = f x p

  pub always_err : (Q : X → Type 0) (result : Result T X) → ((x : X) → Q x) → IfErr result Q
  always_err Q (Ok t) f = tt
  always_err Q (Err x) f = f x
