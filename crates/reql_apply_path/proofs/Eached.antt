-- One step of a walk over the elements that a function works on.
use Rattle.std.proofs.Common.{◌≡◌, refl, sym, ap, ◌∙◌, ℕ, ◌+◌, List, [], ◌∷◌, ◌++◌, append_assoc, drop, Ok, Err}
use Rattle.reql_datum.specs.Answer.{Answer, ◌>>=◌}
use Rattle.reql_datum.specs.Plain.{Plain}
use Rattle.reql_rules.specs.Fields.{on_objects, on_each}

one_more : (ys : List Plain) (y : Plain) (r : Answer (List Plain)) → ((r >>= λ zs. Ok (y ∷ zs)) >>= λ zs. Ok (ys ++ zs)) ≡ (r >>= λ zs. Ok ((ys ++ y ∷ []) ++ zs))
one_more ys y (Ok zs) = ap Ok (sym (append_assoc ys (y ∷ []) zs))
one_more ys y (Err e) = refl

pub on_each_step : (m : Plain → Answer Plain) (items : List Plain) (place : ℕ) (d e : Plain) (before after : List Plain) (all : Answer (List Plain))
    → drop place items ≡ d ∷ drop (place + 1) items → on_objects m d ≡ Ok e → after ≡ before ++ e ∷ []
    → all ≡ (on_each m (drop place items) >>= λ vs. Ok (before ++ vs)) → all ≡ (on_each m (drop (place + 1) items) >>= λ vs. Ok (after ++ vs))
on_each_step m items place d e before after all rest gives a invariant =
    let walked = rw gives at (rw rest at invariant) in
    rw a (walked ∙ one_more before e (on_each m (drop (place + 1) items)))
