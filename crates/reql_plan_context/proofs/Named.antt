-- Arguments that are settled one after another, and optional ones by rising name.
use Rattle.std.proofs.Common.{◌≡◌, ℕ, ◌+◌, List, [], ◌∷◌, ◌++◌, take, drop, set, Bool, Ok, Err, refl, sym, ap, append_assoc}
use Rattle.std.specs.Map.{keys_of}
use Rattle.reql_datum.specs.Answer.{Answer, ◌>>=◌}
use Rattle.reql_datum.specs.Members.{AreRising, put}
use Rattle.reql_term.specs.Form.{Form, forms_of, named_of}
use Rattle.reql_term.specs.declared.op.Op.{Op}
use Rattle.reql_rules.specs.Lists.{Bytes}
use Rattle.reql_value_spec.specs.World.{World}
use Rattle.reql_plan_spec.specs.Settled.{argument, arguments, named_arguments}
use Rattle.reql_rewrite.proofs.Steps.{put_is_set, step_set, left_set, names_set, is_there}

later_on : (g : Form) (later : Answer (List Form)) (out : List Form) → ((later >>= λ gs. Ok (g ∷ gs)) >>= λ gs. Ok (out ++ gs)) ≡ (later >>= λ gs. Ok ((out ++ g ∷ []) ++ gs))
later_on g (Ok gs) out = ap Ok (sym (append_assoc out (g ∷ []) gs))
later_on g (Err e) out = refl

one_more : (whole later : Answer (List Form)) (one : Answer Form) (g : Form) (out new : List Form) → whole ≡ ((one >>= λ g. later >>= λ gs. Ok (g ∷ gs)) >>= λ gs. Ok (out ++ gs)) → one ≡ Ok g → new ≡ out ++ g ∷ []
    → whole ≡ (later >>= λ gs. Ok (new ++ gs))
one_more whole later one g out new known is new_is = rw (known, is, new_is) (later_on g later out)

module _ (keeps : Op → Bool) (w : World) where
  abbrev pub Step : List (Bytes × Form) → List (Bytes × Form) → ℕ → Type 0
  Step ms new i = record {
    whole : named_arguments keeps w (named_of ms) ≡ (named_arguments keeps w (named_of (drop i ms)) >>= λ ns. Ok (take i new ++ ns));
    left : drop i new ≡ drop i ms;
    names : keys_of new ≡ keys_of ms;
  }

  -- one more argument that is settled
  pub listed : (whole : Answer (List Form)) (ts : List Form) (i : ℕ) (out new : List Form) (f g : Form) → whole ≡ (arguments keeps w (forms_of (drop i ts)) >>= λ gs. Ok (out ++ gs)) → drop i ts ≡ f ∷ drop (i + 1) ts
      → argument keeps w f ≡ Ok g → new ≡ out ++ g ∷ [] → whole ≡ (arguments keeps w (forms_of (drop (i + 1) ts)) >>= λ gs. Ok (new ++ gs))
  listed whole ts i out new f g known rest is new_is = one_more whole (arguments keeps w (forms_of (drop (i + 1) ts))) (argument keeps w f) g out new (rw rest at known) is new_is

  -- one more optional argument that is settled
  pub step : (ms so new : List (Bytes × Form)) (i : ℕ) (k : Bytes) (f g : Form) → Step ms so i → AreRising ms → drop i ms ≡ (k, f) ∷ drop (i + 1) ms → argument keeps w f ≡ Ok g → new ≡ put k g so → Step ms new (i + 1)
  step ms so new i k f g known up rest is put_is =
      let set_is : new ≡ set so i (k, g) = put_is_set new so ms i k g f put_is known.names up known.left rest in record {
        whole = step_set (λ x. (k, x)) _ (named_arguments keeps w (named_of (drop (i + 1) ms))) (argument keeps w f) g new so i (rw rest at known.whole) is set_is (is_there so ms i (k, f) known.left rest);
        left = left_set new so ms i (k, f) (k, g) set_is known.left rest;
        names = names_set new so ms i k g f set_is known.names known.left rest;
      }
