-- What the engine in the slot is, from step to step under the lock.
use Rattle.std.proofs.Common.{◌≡◌, ℕ, ◌+◌, List, [], ◌∷◌, ◌++◌, length, Some, true, refl, sym, ap, ◌∙◌, subst, arith, length-append}
use Rattle.std.specs.Prelude.{Option}
use Rattle.std.specs.declared.snapshot.Snapshot.{Snapshot}
use Rattle.atomic_table.specs.Table.{Me}
use Rattle.reql_shared.specs.declared.recorded.Recorded.{Recorded}
use Rattle.reql_shared.specs.declared.view.View.{View}
use Rattle.reql_shared.specs.declared.view.Lodged.{Lodged}
use Rattle.reql_shared.specs.History.{noted}
use Rattle.reql_shared.specs.Machine.{Machine, replay}
use Rattle.reql_shared.specs.Rule.{Lodges, IsIn, add_asked, added}

module _ {S C R Q A E : Type 0} (state : E → S) (machine : Machine S C R Q A) where
  replay-snoc : (s : S) (log : List (Recorded C)) (e : Recorded C) → replay machine s (log ++ e ∷ []) ≡ machine.after (replay machine s log) e.by e.cmd
  replay-snoc s [] e = refl
  replay-snoc s (x ∷ xs) e = replay-snoc (machine.after s x.by x.cmd) xs e

  -- the engine after one command
  pub lodges_on : (start : S) (log : List (Recorded C)) (y z : E) (asked : Option (Snapshot C)) (by : ℕ) (cmd : C) → state y ≡ replay machine start log → machine.place (state y) ≡ length log
      → state z ≡ machine.after (state y) by cmd → machine.place (state z) ≡ machine.place (state y) + 1 → Lodges state machine start (log ++ noted by cmd ∷ []) (record { engine = Some z; asked = asked })
  lodges_on start log y z asked by cmd is at now up =
      (z, refl, now ∙ ap (λ s. machine.after s by cmd) is ∙ sym (replay-snoc start log (noted by cmd)), omega (arith, up, at, length-append log (noted by cmd ∷ [])))

  pub lodges_still : (start : S) (log : List (Recorded C)) (y z : E) (asked : Option (Snapshot C)) → state y ≡ replay machine start log → machine.place (state y) ≡ length log
      → state z ≡ state y → Lodges state machine start log (record { engine = Some z; asked = asked })
  lodges_still start log y z asked is at now = (z, refl, now ∙ is, ap machine.place now ∙ at)

module _ {C S E : Type 0} (lodges : S → List (Recorded C) → Lodged E C → Type 0) where
  pub in_same : (m : Me (Lodged E C) (View C S)) (v : View C S) (d : Lodged E C) → m ≡ (v, (0, d) ∷ []) → v.holds ≡ true → lodges v.start v.seen d → IsIn lodges m
  in_same m v d is held ok = subst (IsIn lodges) (sym is) (held, (d, refl, ok))

  pub in_added : (m r : Me (Lodged E C) (View C S)) (v : View C S) (d : Lodged E C) (c : Snapshot C) → m ≡ (v, (0, d) ∷ []) → r ≡ (added m.0 m.1, m.1) → d.asked ≡ Some c → v.holds ≡ true
      → lodges v.start (v.seen ++ noted v.number c.value ∷ []) d → IsIn lodges r
  in_added m r v d c is now asked held ok =
      subst (IsIn lodges) (sym (now ∙ (λ k. (added (is k).0 (is k).1, (is k).1)) ∙ (λ k. (add_asked v (asked k), (0, d) ∷ [])))) (held, (d, refl, ok))
