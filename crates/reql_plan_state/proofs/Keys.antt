-- Keys that are left to be made.
use Rattle.std.proofs.Common.{◌≡◌, ℕ, zero, suc, ◌<◌, ◌-◌, ◌++◌, [], ◌∷◌, arith, subst, ap, ◌∙◌, List, Result}
use Rattle.reql_datum.specs.Plain.{Plain}
use Rattle.reql_term.specs.Views.{Document, Entry}
use Rattle.reql_rules.specs.Lists.{Bytes}
use Rattle.reql_table_spec.specs.Indexes.{Indexes}
use Rattle.reql_write_spec.specs.declared.command.Summary.{Summary}
use Rattle.reql_plan_spec.specs.declared.parts.Prepared.{Prepared}
use Rattle.reql_plan_spec.specs.Course.{key_heard, run_write}
use Rattle.reql_plan_spec.specs.Held.{Held}
use Rattle.reql_plan_spec.specs.Move.{roll}
use Rattle.reql_plan_spec.specs.Request.{Request, asks}
use Rattle.reql_plan_state.specs.Turn.{Turns}
use Rattle.reql_plan_state.specs.declared.stage.Turn.{Turn}

module _ {V E : Type 0} (documents : V → List Document) (indexes : V → Indexes) (entries : V → Bytes → List Entry) where
  pub key_more : (r : Result (Turn V) E) (e : Held) (p : Prepared) (made : List Plain) (n : ℕ) (on : Summary → Request) → 0 < n
      → Turns documents indexes entries r (asks roll (λ h. key_heard h (λ k. run_write e p (made ++ k ∷ []) (n - 1) on))) → Turns documents indexes entries r (run_write e p made n on)
  key_more r e p made zero on h is = absurd (omega arith)
  key_more r e p made (suc n) on h is = let q : suc n - 1 ≡ n = omega arith in subst (λ (k : ℕ). Turns documents indexes entries r (asks roll (λ h'. key_heard h' (λ x. run_write e p (made ++ x ∷ []) k on)))) q is

  -- the keys with one more
  pub keyed : (r : Result (Turn V) E) (e : Held) (p : Prepared) (made keys : List Plain) (d k : Plain) (n : ℕ) (on : Summary → Request) → keys ≡ made ++ d ∷ [] → d ≡ k
      → Turns documents indexes entries r (run_write e p keys n on) → Turns documents indexes entries r (run_write e p (made ++ k ∷ []) n on)
  keyed r e p made keys d k n on is same goes = subst (λ (ks : List Plain). Turns documents indexes entries r (run_write e p ks n on)) (is ∙ ap (λ (x : Plain). made ++ x ∷ []) same) goes
