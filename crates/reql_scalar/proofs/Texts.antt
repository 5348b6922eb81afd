-- A binary as a text.
use Rattle.std.proofs.Common.{◌≡◌, Bool, true, false, if◌then◌else◌, Some, None, Ok, Err, refl, sym, ap, ◌∙◌}
use Rattle.std.specs.Str.{IsUtf8, is_utf8}
use Rattle.std.proofs.lemmas.Str.{IsUtf8-from_is_utf8, is_utf8-from_IsUtf8}
use Rattle.reql_datum.specs.Plain.{text, binary}
use Rattle.reql_rules.specs.Coercing.{coerced, string_in}
use Rattle.reql_rules.specs.Faults.{cannot_coerce}
use Rattle.reql_rules.specs.Lists.{Bytes}

told_text : (b : Bool) (kind to s : Bytes) → b ≡ true → coerced kind to (if b then Some (text s) else None) ≡ Ok (text s)
told_text true kind to s h = refl
told_text false kind to s h = absurd (false_is h)
  where
    false_is : false ≡ true → ⊥
    false_is e = absurd (cc (e))

pub text_told : (kind to s b t r : Bytes) → b ≡ s → t ≡ b → IsUtf8 b → r ≡ t → coerced kind to (string_in (binary s)) ≡ Ok (text r)
text_told kind to s b t r is_b is_t utf8 is_r =
    told_text (is_utf8 s) kind to s (rw (← is_b) (is_utf8-from_IsUtf8 b utf8)) ∙ ap (λ x. Ok (text x)) (sym (is_r ∙ is_t ∙ is_b))

none_at : (b : Bool) (kind to s : Bytes) → (b ≡ true → ⊥) → coerced kind to (if b then Some (text s) else None) ≡ Err (cannot_coerce kind to)
none_at true kind to s off = absurd (off refl)
none_at false kind to s off = refl

pub none_told : (kind to s b : Bytes) → b ≡ s → ¬ IsUtf8 b → coerced kind to (string_in (binary s)) ≡ Err (cannot_coerce kind to)
none_told kind to s b is_b off = none_at (is_utf8 s) kind to s (λ h. off (rw is_b (IsUtf8-from_is_utf8 s h)))
