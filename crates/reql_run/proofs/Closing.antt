-- How a session ends that was given a valid input over a link without a fault.
use Rattle.std.proofs.Common.{◌≡◌, ◌<◌, ◌≤◌, ◌+◌, ◌-◌, ◌^◌, ◌⊎◌, ℕ, zero, suc, true, List, ◌++◌, length, refl, sym, ap, ◌∙◌, inl, inr, arith, append-nil}
use Rattle.reql_outside.specs.Tape.{counted}
use Rattle.reql_wire.specs.declared.frame.Frame.{Frame}
use Rattle.reql_session_spec.specs.Explained.{Life}
use Rattle.reql_session_spec.specs.Laws.{Leaves}
use Rattle.reql_session_spec.specs.Tasks.{Talk}
use Rattle.reql_session_spec.specs.Worlds.{faults_in_at, faults_out_at}
use Rattle.reql_session_spec.specs.declared.end.End.{End}
use Rattle.reql_session_spec.specs.declared.end.End.TheVariants as ends

-- a count that has not come to its last value tells all
counts_all : (n told : ℕ) → told ≡ counted 0 n → told < 2 ^ 64 - 1 → told ≡ n
counts_all zero told e h = e
counts_all (suc n) told e h = omega (arith, e)

module _ {PL : Type 0} (k : Talk PL) where
  pub closes_by : (life : Life) (more : List ℕ) (end : End) (idles faults_in faults_out : ℕ) (frames handled left : List Frame)
      → idles ≡ counted 0 life.idles → faults_in ≡ faults_in_at end → faults_out ≡ faults_out_at end → faults_in ≡ 0 → faults_out ≡ 0
      → k.limits.turns < 2 ^ 64 → ((length life.given + length life.given) + idles) + 2 ≤ k.limits.turns → frames ≡ handled ++ left → Leaves k life more end left
      → ((end ≡ ends.Closed) × (handled ≡ frames) × (life.over ≡ true)) ⊎ (end ≡ ends.Memory)
  closes_by life more ends.Closed idles faults_in faults_out frames handled left c i o none_in none_out most few first l = inl (refl, sym (first ∙ ap (λ z. handled ++ z) l.0 ∙ append-nil handled), l.1)
  closes_by life more (ends.Cut n) idles faults_in faults_out frames handled left c i o none_in none_out most few first l = absurd l
  closes_by life more (ends.Refused f) idles faults_in faults_out frames handled left c i o none_in none_out most few first l = absurd l
  closes_by life more (ends.TooLong len) idles faults_in faults_out frames handled left c i o none_in none_out most few first l = absurd l
  closes_by life more ends.ReadFault idles faults_in faults_out frames handled left c i o none_in none_out most few first l = absurd (omega (arith, i, none_in))
  closes_by life more ends.WriteFault idles faults_in faults_out frames handled left c i o none_in none_out most few first l = absurd (omega (arith, o, none_out))
  closes_by life more ends.Worn idles faults_in faults_out frames handled left c i o none_in none_out most few first l = absurd (omega (arith, counts_all life.idles idles c (omega (arith, most, few)), few, l))
  closes_by life more ends.Memory idles faults_in faults_out frames handled left c i o none_in none_out most few first l = inr refl
