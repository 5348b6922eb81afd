-- One step of a loop over the parts of a list, with what is done and what is still to come.
use Rattle.std.proofs.Common.{◌≡◌, List, [], ◌∷◌, ◌++◌, Result, Ok, Err, refl, sym, ap, append_assoc}
use Rattle.reql_datum.specs.Answer.{◌>>=◌}
use Rattle.reql_json.specs.declared.fault.JsonFault.{JsonFault}

module _ {A B : Type 0} where
  abbrev pub read_on : Result A JsonFault → (A → B) → Result (List B) JsonFault → List B → Result (List B) JsonFault
  read_on one f later out = (one >>= λ a. later >>= λ bs. Ok (f a ∷ bs)) >>= λ bs. Ok (out ++ bs)

  read_later : (f : A → B) (x : A) (later : Result (List B) JsonFault) (out : List B) → read_on (Ok x) f later out ≡ (later >>= λ bs. Ok ((out ++ f x ∷ []) ++ bs))
  read_later f x (Ok bs) out = ap Ok (sym (append_assoc out (f x ∷ []) bs))
  read_later f x (Err e) out = refl

  pub read_step : (whole : Result (List B) JsonFault) (one : Result A JsonFault) (f : A → B) (later : Result (List B) JsonFault) (x : A) (out new : List B)
      → whole ≡ read_on one f later out → one ≡ Ok x → new ≡ out ++ f x ∷ [] → whole ≡ (later >>= λ bs. Ok (new ++ bs))
  read_step whole one f later x out new known is added = rw (known, is, added) (read_later f x later out)
