-- AND and OR of two terms.
use Rattle.std.proofs.Common.{◌≡◌, ℕ, List, [], ◌∷◌, Bool, true, false, if◌then◌else◌, Option, Some, None, IfSome, Ok, refl, ap, sym, ◌∙◌}
use Rattle.reql_datum.specs.Answer.{Answer, ◌>>=◌}
use Rattle.reql_datum.specs.Plain.{Plain}
use Rattle.reql_rules.specs.Sizes.{within}
use Rattle.reql_value_spec.specs.Lazy.{stops, chain, chained, by_first}
use Rattle.reql_value_spec.specs.Meant.{Meant, one}
use Rattle.reql_value_spec.specs.Sense.{Sense, plain, value}
use Rattle.reql_value_spec.specs.Sequenced.{on_groups, sized}
use Rattle.reql_value_spec.specs.World.{World, Vars}
use Rattle.reql_simple.specs.Found.{document}
use Rattle.reql_simple.specs.Stands.{Stands}
use Rattle.reql_simple.specs.declared.lying.Found.{Found}

first_is : (at : Bool) (s t : Sense) (w : World) (vars : Vars) (d : Plain) → value s w vars ≡ Ok (one d)
    → chained at (s ∷ t ∷ []) w vars ≡ (chain at (t ∷ []) w vars (one d) >>= sized w.array_limit)
first_is at s t w vars d h = ap (λ (a : Answer Meant). a >>= λ m. on_groups (λ n. chain at (t ∷ []) w vars n >>= sized w.array_limit) m) h

sized_is : (limit : ℕ) (w : World) (v : Plain) → w.array_limit ≡ limit → within limit v ≡ Ok v → sized w.array_limit (one v) ≡ Ok (one v)
sized_is limit w v l k = rw (l, k) refl

-- where the first ends it
pub chain_ends : (limit : ℕ) (at : Bool) (s t : Sense) (vars : Vars) (d e : Plain) → stops at d ≡ true → e ≡ d → within limit e ≡ Ok e
    → Stands limit s vars d → Stands limit (plain (chained at (s ∷ t ∷ []))) vars e
chain_ends limit at s t vars d e b same k h w l =
    first_is at s t w vars d (h w l)
    ∙ (ap (λ (c : Bool). (if c then Ok (one d) else (value t w vars >>= λ m. Ok m)) >>= sized w.array_limit) b
    ∙ (ap (λ (v : Plain). sized w.array_limit (one v)) (sym same) ∙ sized_is limit w e l k))

-- where it doesn't
pub chain_goes : (limit : ℕ) (at : Bool) (s t : Sense) (vars : Vars) (d e f : Plain) → stops at d ≡ false → f ≡ e → within limit f ≡ Ok f
    → Stands limit s vars d → Stands limit t vars e → Stands limit (plain (chained at (s ∷ t ∷ []))) vars f
chain_goes limit at s t vars d e f b same k h j w l =
    first_is at s t w vars d (h w l)
    ∙ (ap (λ (c : Bool). (if c then Ok (one d) else (value t w vars >>= λ m. Ok m)) >>= sized w.array_limit) b
    ∙ (ap (λ (a : Answer Meant). (a >>= λ m. Ok m) >>= sized w.array_limit) (j w l)
    ∙ (ap (λ (v : Plain). sized w.array_limit (one v)) (sym same) ∙ sized_is limit w f l k)))

-- where one is found
pub ends_found : (limit : ℕ) (at : Bool) (t : Sense) (vars : Vars) (d : Plain) (r : Option Found) → stops at d ≡ true
    → IfSome r (λ z. document z ≡ d) → IfSome r (λ z. within limit (document z) ≡ Ok (document z))
    → IfSome r (λ z. (s : Sense) → Stands limit s vars d → Stands limit (plain (chained at (s ∷ t ∷ []))) vars (document z))
ends_found limit at t vars d None b same k = tt
ends_found limit at t vars d (Some z) b same k = λ s h. chain_ends limit at s t vars d (document z) b same k h

pub goes_found : (limit : ℕ) (at : Bool) (t : Sense) (vars : Vars) (d e : Plain) (r : Option Found) → stops at d ≡ false
    → IfSome r (λ z. document z ≡ e) → IfSome r (λ z. within limit (document z) ≡ Ok (document z)) → Stands limit t vars e
    → IfSome r (λ z. (s : Sense) → Stands limit s vars d → Stands limit (plain (chained at (s ∷ t ∷ []))) vars (document z))
goes_found limit at t vars d e None b same k j = tt
goes_found limit at t vars d e (Some z) b same k j = λ s h. chain_goes limit at s t vars d e (document z) b same k h j
