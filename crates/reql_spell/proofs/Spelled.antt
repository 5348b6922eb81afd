-- The texts of documents, from the bytes that are appended for them.
use Rattle.std.proofs.Common.{◌≡◌, ℕ, ℤ, codes, pos, negsuc, List, [], ◌∷◌, ◌++◌, refl, ◌∙◌, append_assoc}
use Rattle.std.specs.Fmt.{signed_decimal}
use Rattle.json.specs.Print.{escape_byte, escape, quoted}
use Rattle.serde_json.specs.Find.{of_integer}
use Rattle.serde_json.specs.Written.{number_text, compact_text}
use Rattle.base64.specs.Engines.{standard}
use Rattle.base64.specs.GeneralPurpose.{encode_of}
use Rattle.reql_datum.specs.Zone.{zone_text}
use Rattle.reql_json.specs.Literal.{binary_shown, time_shown}

number_spelled : (z : ℤ) → number_text (of_integer z) ≡ signed_decimal z
number_spelled (pos n) = refl
number_spelled (negsuc n) = refl

pub quoted_after : (t s : List ℕ) → escape s ≡ s → ((t ++ 34 ∷ []) ++ s) ++ 34 ∷ [] ≡ t ++ quoted s
quoted_after t s is = rw is (append_assoc (t ++ 34 ∷ []) s (34 ∷ []) ∙ append_assoc t (34 ∷ []) (s ++ 34 ∷ []))

three : (t a n b z e : List ℕ) → ((((t ++ a) ++ n) ++ b) ++ z) ++ e ≡ t ++ (a ++ (n ++ (b ++ (z ++ e))))
three t a n b z e = simp append_assoc

pub time_spelled : (t : List ℕ) (m : ℤ × ℤ) → ((((t ++ codes "{\"$reql_type$\":\"TIME\",\"epoch_time\":") ++ signed_decimal m.0) ++ codes ",\"timezone\":") ++ quoted (zone_text m.1)) ++ 125 ∷ [] ≡ t ++ compact_text (time_shown m)
unfolding escape_byte
time_spelled t m =
    rw (number_spelled m.0) (three t (codes "{\"$reql_type$\":\"TIME\",\"epoch_time\":") (signed_decimal m.0) (codes ",\"timezone\":") (quoted (zone_text m.1)) (125 ∷ []))

two : (t a s e : List ℕ) → ((t ++ a) ++ s) ++ e ≡ t ++ (a ++ (s ++ e))
two t a s e = simp append_assoc

regroup : (s : List ℕ) → (s ++ 34 ∷ []) ++ 125 ∷ [] ≡ s ++ (34 ∷ 125 ∷ [])
regroup s = append_assoc s (34 ∷ []) (125 ∷ [])

pub binary_spelled : (t s : List ℕ) → escape (encode_of standard s) ≡ encode_of standard s
    → ((t ++ codes "{\"$reql_type$\":\"BINARY\",\"data\":\"") ++ encode_of standard s) ++ codes "\"}" ≡ t ++ compact_text (binary_shown s)
unfolding escape_byte
binary_spelled t s is = rw (is, regroup (encode_of standard s)) (two t (codes "{\"$reql_type$\":\"BINARY\",\"data\":\"") (encode_of standard s) (codes "\"}"))
