-- What the calls of a journal of blocks come to.
use Rattle.std.proofs.Common.{◌≡◌, ℕ, ◌+◌, List, [], ◌∷◌, ◌++◌, length, Option, Some, None, sym, ap, ◌∙◌}
use Rattle.reql_disk.specs.Disk.{Past, Leaves}
use Rattle.reql_disk.specs.Calls.{Going}
use Rattle.reql_disk.proofs.Crashes.{starts, leaves_more}
use Rattle.reql_blocks.specs.Format.{StandsFor, Awaits, WithOrWithout}
use Rattle.reql_blocks.specs.Held.{Held, Rests, Waits}
use Rattle.reql_blocks.proofs.Bytes.{with_or_without, length_pushed}

module _ (bodies : List (List ℕ)) (past : Past) where
  pub rests_going : (held : Held) → Rests bodies past held → Going (StandsFor bodies) (StandsFor bodies) past held.told
  rests_going held r = starts (StandsFor bodies) past held.told r.told r.safe

  pub stage_fails : (old new : Held) → Rests bodies past old → new.gate ≡ old.gate → new.next ≡ old.next → Going (StandsFor bodies) (StandsFor bodies) past new.told → (now : Past) × Rests bodies now new × Leaves (StandsFor bodies) past now
  stage_fails old new r gate next g = (g.now, record { told = g.told_now; gate = gate ∙ r.gate; next = next ∙ r.next; safe = g.holds }, g.leaves)

  pub stage_done : (body : List ℕ) (old new : Held) → Rests bodies past old → new.gate ≡ old.gate → new.next ≡ Some (old.gate + 9 + length body) → Going (StandsFor bodies) (Awaits bodies body) past new.told → (now : Past) × Waits bodies body now new × Leaves (StandsFor bodies) past now
  stage_done body old new r gate next g =
      (g.now, record { told = g.told_now; gate = gate ∙ r.gate; next = next ∙ ap (λ n. Some (n + 9 + length body)) (sym gate); safe = g.holds }, g.leaves)

  pub waits_going : (body : List ℕ) (held : Held) → Waits bodies body past held → Going (Awaits bodies body) (Awaits bodies body) past held.told
  waits_going body held w = starts (Awaits bodies body) past held.told w.told w.safe

  pub open_fails : (body : List ℕ) (old new : Held) → Waits bodies body past old → new.gate ≡ old.gate → new.next ≡ old.next → Going (Awaits bodies body) (Awaits bodies body) past new.told → (now : Past) × Waits bodies body now new × Leaves (WithOrWithout bodies body) past now
  open_fails body old new w gate next g = (
    g.now,
    record { told = g.told_now; gate = gate ∙ w.gate; next = next ∙ w.next ∙ ap (λ n. Some (n + 9 + length body)) (sym gate); safe = g.holds },
    leaves_more (Awaits bodies body) (WithOrWithout bodies body) past g.now (with_or_without bodies body) g.leaves,
  )

  pub open_done : (body : List ℕ) (old new : Held) (next : ℕ) → Waits bodies body past old → old.next ≡ Some next → new.gate ≡ next → new.next ≡ None → Going (Awaits bodies body) (StandsFor (bodies ++ body ∷ [])) past new.told → (now : Past) × Rests (bodies ++ body ∷ []) now new × Leaves (WithOrWithout bodies body) past now
  open_done body old new next w was gate none g =
      let behind : next ≡ old.gate + 9 + length body = some_is next (old.gate + 9 + length body) (sym was ∙ w.next) in (
        g.now,
        record { told = g.told_now; gate = gate ∙ behind ∙ ap (λ n. n + 9 + length body) w.gate ∙ sym (length_pushed bodies body); next = none; safe = g.holds },
        leaves_more (Awaits bodies body) (WithOrWithout bodies body) past g.now (with_or_without bodies body) g.leaves,
      )
    where
      of : Option ℕ → ℕ
      of None = 0
      of (Some n) = n

      some_is : (a b : ℕ) → Some a ≡ Some b → a ≡ b
      some_is a b e = ap of e
