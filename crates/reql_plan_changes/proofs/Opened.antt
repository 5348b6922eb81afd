-- Range feeds that are opened one after another, and what several terms under a limit open.
use Rattle.std.proofs.Common.{◌≡◌, refl, sym, ap, ◌∙◌, ℕ, ◌+◌, ◌<◌, ◌≤◌, List, [], ◌∷◌, ◌++◌, append_assoc, length, get_or, drop, map, Result, Ok, Err, arith}
use Rattle.std.proofs.lemmas.List.{drop_more}
use Rattle.reql_datum.specs.Answer.{Answer, ◌>>=◌}
use Rattle.reql_datum.specs.Outcome.{Gives}
use Rattle.reql_datum.specs.declared.fault.Fault.{Fault}
use Rattle.reql_term.specs.Form.{Form}
use Rattle.reql_faults.specs.declared.shape.Shape.TheVariants as shapes
use Rattle.reql_plan_spec.specs.declared.parts.Opening.{Opening}
use Rattle.reql_plan_spec.specs.Feeding.{Told, range_opening, range_openings, openings}
use Rattle.reql_plan_spec.specs.Held.{Held}

one_more : (out : List Opening) (o : Opening) (r : Answer (List Opening)) → ((r >>= λ os. Ok (o ∷ os)) >>= λ os. Ok (out ++ os)) ≡ (r >>= λ os. Ok ((out ++ o ∷ []) ++ os))
one_more out o (Ok os) = ap Ok (sym (append_assoc out (o ∷ []) os))
one_more out o (Err e) = refl

rest_is : {X : Type 0} (xs : List X) (i : ℕ) (x : X) → i < length xs → x ≡ get_or xs i x → drop i xs ≡ x ∷ drop (i + 1) xs
rest_is xs i x below here = drop_more xs i x below ∙ ap (λ u. u ∷ drop (i + 1) xs) (sym here)

module _ {X : Type 0} (view : X → Form) (e : Held) (t : Told) where
  -- one more feed that is opened
  pub opened_step : (ts : List X) (i : ℕ) (x : X) (o : Opening) (out new : List Opening) (all : Answer (List Opening)) → i < length ts → x ≡ get_or ts i x → range_opening e t (view x) ≡ Ok o → new ≡ out ++ o ∷ []
      → all ≡ (range_openings e t (map view (drop i ts)) >>= λ os. Ok (out ++ os)) → all ≡ (range_openings e t (map view (drop (i + 1) ts)) >>= λ os. Ok (new ++ os))
  opened_step ts i x o out new all below here gives grown invariant =
      let before = rw gives at (rw (rest_is ts i x below here) at invariant) in
      rw grown (before ∙ one_more out o (range_openings e t (map view (drop (i + 1) ts))))

  -- two terms or more are opened as ranges
  pub several_opened : {V : Type 0} (items : V → List Opening) (ts : List X) (r : Result V Fault) → 2 ≤ length ts → Gives items r (range_openings e t (map view ts)) → Gives items r (openings e t shapes.Limit (map view ts))
  several_opened items [] r many gives = absurd (omega (arith, many))
  several_opened items (a ∷ []) r many gives = absurd (omega (arith, many))
  several_opened items (a ∷ b ∷ ts) r many gives = gives
