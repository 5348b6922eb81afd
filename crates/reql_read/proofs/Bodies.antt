-- What a body is the text of.
use Rattle.std.proofs.Common.{◌≡◌, ℕ, List, Option, Some, None, Bool, true, false, cond, refl}
use Rattle.std.specs.Str.{is_utf8, IsUtf8}
use Rattle.std.proofs.lemmas.Str.{IsUtf8-from_is_utf8, is_utf8-from_IsUtf8}
use Rattle.serde_json.specs.Data.{Data}
use Rattle.serde_json.specs.Read.{read}

module _ {A : Type 0} (f : Option Data → A) (none : A) where
  no_json_by : (body : List ℕ) (b : Bool) → is_utf8 body ≡ b → f None ≡ none → (b ≡ true → read body ≡ None) → cond (is_utf8 body) (f (read body)) none ≡ none
  no_json_by body true is same absent = rw (is, absent refl) same
  no_json_by body false is same absent = rw is refl

  pub no_json : (body : List ℕ) → f None ≡ none → (IsUtf8 body → read body ≡ None) → cond (is_utf8 body) (f (read body)) none ≡ none
  no_json body same absent = no_json_by body (is_utf8 body) refl same (λ e. absent (IsUtf8-from_is_utf8 body e))

  pub is_json : (body : List ℕ) (d : Data) → IsUtf8 body → read body ≡ Some d → cond (is_utf8 body) (f (read body)) none ≡ f (Some d)
  is_json body d utf8 is = rw (is_utf8-from_IsUtf8 body utf8, is) refl
