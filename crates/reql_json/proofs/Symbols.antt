-- Bytes and their text in base64.
use Rattle.std.proofs.Common.{◌≡◌, ℕ, zero, suc, ◌+◌, ◌*◌, ◌/◌, ◌%◌, ◌<◌, List, [], ◌∷◌, ◌++◌, length, replicate, slice_index, Bool, true, false, ◌&&◌, not, nat_lt, Some, Ok, is_eq, refl, sym, ap, ◌∙◌, arith}
use Rattle.std.proofs.lemmas.Bool.{ltb-true, lt-ltb}
use Rattle.std.proofs.lemmas.Cmp.{nat_list_cmp_total, tied_itself}
use Rattle.json.specs.Print.{escape_letter, escape_byte, escape}
use Rattle.base64.specs.Rfc4648.{encode_symbols, padding_len}
use Rattle.base64.specs.Engines.{standard}
use Rattle.base64.specs.GeneralPurpose.{encode_of, decode_of, engine_symbols, IsBytes}
use Rattle.base64.proofs.EngineFacts.{decode_of-encode_of}
use Rattle.base64.proofs.Tables.{all_below_at}
use Rattle.reql_datum.specs.Members.{text_order}
use Rattle.reql_json.specs.Literal.{is_line_end, without_line_ends, are_bytes, if_encoded, decoded, bytes_in}

both : (a b : Bool) → (a && b) ≡ true → (a ≡ true) × (b ≡ true)
both true b h = (refl, h)
both false b h = cc

-- ---- lists of bytes

pub bytes_at : (s : List ℕ) → are_bytes s ≡ true → IsBytes s
bytes_at [] h i = omega arith
bytes_at (x ∷ xs) h zero = ltb-true x 256 (both (nat_lt x 256) (are_bytes xs) h).0
bytes_at (x ∷ xs) h (suc i) = bytes_at xs (both (nat_lt x 256) (are_bytes xs) h).1 i

pub bytes_from : (s : List ℕ) → IsBytes s → are_bytes s ≡ true
bytes_from [] h = refl
bytes_from (x ∷ xs) h = rw (lt-ltb x 256 (h 0)) (bytes_from xs (λ i. h (suc i)))

-- ---- the text has no line end, and nothing that JSON escapes

abbrev symbols : List ℕ
symbols = engine_symbols standard

abbrev is_plain : ℕ → Bool
is_plain x = not (is_line_end x) && (not (nat_lt 0 (escape_letter x)) && not (nat_lt x 32))

abbrev are_plain : List ℕ → Bool
are_plain [] = true
are_plain (x ∷ xs) = is_plain x && are_plain xs

plain_symbol : (i : ℕ) → i < 64 → is_plain (slice_index symbols i) ≡ true
plain_symbol i h = all_below_at (λ k. is_plain (slice_index symbols k)) 64 i refl h

plain_joined : (s t : List ℕ) → are_plain s ≡ true → are_plain t ≡ true → are_plain (s ++ t) ≡ true
plain_joined [] t h k = k
plain_joined (x ∷ xs) t h k = let hs = both (is_plain x) (are_plain xs) h in rw (hs.0, plain_joined xs t hs.1 k) refl

plain_padding : (n : ℕ) → are_plain (replicate n 61) ≡ true
plain_padding zero = refl
plain_padding (suc n) = plain_padding n

plain_symbols : (s : List ℕ) → are_bytes s ≡ true → are_plain (encode_symbols symbols s) ≡ true
unfolding encode_symbols
plain_symbols [] h = refl
plain_symbols (a ∷ []) h =
    let l : a < 256 = ltb-true a 256 (both (nat_lt a 256) true h).0 in
    rw (plain_symbol (a / 4) (omega arith), plain_symbol (a % 4 * 16) (omega arith)) refl
plain_symbols (a ∷ b ∷ []) h =
    let hs = both (nat_lt a 256) (nat_lt b 256 && true) h in
    let l : a < 256 = ltb-true a 256 hs.0 in
    let m : b < 256 = ltb-true b 256 (both (nat_lt b 256) true hs.1).0 in
    rw (plain_symbol (a / 4) (omega arith), plain_symbol (a % 4 * 16 + b / 16) (omega arith), plain_symbol (b % 16 * 4) (omega arith)) refl
plain_symbols (a ∷ b ∷ c ∷ rest) h =
    let hs = both (nat_lt a 256) (nat_lt b 256 && (nat_lt c 256 && are_bytes rest)) h in
    let ks = both (nat_lt b 256) (nat_lt c 256 && are_bytes rest) hs.1 in
    let ls = both (nat_lt c 256) (are_bytes rest) ks.1 in
    let l : a < 256 = ltb-true a 256 hs.0 in
    let m : b < 256 = ltb-true b 256 ks.0 in
    let n : c < 256 = ltb-true c 256 ls.0 in
    rw (plain_symbol (a / 4) (omega arith), plain_symbol (a % 4 * 16 + b / 16) (omega arith), plain_symbol (b % 16 * 4 + c / 64) (omega arith), plain_symbol (c % 64) (omega arith)) (plain_symbols rest ls.1)

plain_text : (s : List ℕ) → are_bytes s ≡ true → are_plain (encode_of standard s) ≡ true
plain_text s h = plain_joined (encode_symbols symbols s) (replicate (padding_len (length s)) 61) (plain_symbols s h) (plain_padding (padding_len (length s)))

kept_one : (x : ℕ) (xs : List ℕ) → is_plain x ≡ true → without_line_ends (x ∷ xs) ≡ x ∷ without_line_ends xs
kept_one x xs h = let hs = both (not (is_line_end x)) _ h in rw hs.0 refl

kept : (s : List ℕ) → are_plain s ≡ true → without_line_ends s ≡ s
kept [] h = refl
kept (x ∷ xs) h = let hs = both (is_plain x) (are_plain xs) h in kept_one x xs hs.0 ∙ ap (λ t. x ∷ t) (kept xs hs.1)

no : (b : Bool) → not b ≡ true → b ≡ false
no true h = cc
no false h = refl

escaped_one : (x : ℕ) → is_plain x ≡ true → escape_byte x ≡ x ∷ []
unfolding escape_byte
escaped_one x h =
    let hs = both (not (is_line_end x)) (not (nat_lt 0 (escape_letter x)) && not (nat_lt x 32)) h in
    let ks = both (not (nat_lt 0 (escape_letter x))) (not (nat_lt x 32)) hs.1 in
    rw (no (nat_lt 0 (escape_letter x)) ks.0, no (nat_lt x 32) ks.1) refl

unescaped : (s : List ℕ) → are_plain s ≡ true → escape s ≡ s
unescaped [] h = refl
unescaped (x ∷ xs) h = let hs = both (is_plain x) (are_plain xs) h in rw (escaped_one x hs.0) (ap (λ t. x ∷ t) (unescaped xs hs.1))

pub escape_encoded : (s : List ℕ) → are_bytes s ≡ true → escape (encode_of standard s) ≡ encode_of standard s
escape_encoded s h = unescaped (encode_of standard s) (plain_text s h)

-- ---- both ways

same_text : (s t : List ℕ) → s ≡ t → is_eq (text_order s t) ≡ true
same_text s t e = rw e (ap is_eq (tied_itself nat_list_cmp_total t))

if_right : (s b : List ℕ) → are_bytes b ≡ true → s ≡ encode_of standard b → if_encoded s b ≡ Some b
if_right s b h e = rw (h, same_text (encode_of standard b) s (sym e)) refl

pub decoded_back : (s : List ℕ) → are_bytes s ≡ true → decoded (encode_of standard s) ≡ Some s
decoded_back s h =
    let back : decode_of standard (encode_of standard s) ≡ Ok s = decode_of-encode_of standard s refl (bytes_at s h) in
    rw back (if_right (encode_of standard s) s h refl)

pub bytes_back : (s : List ℕ) → are_bytes s ≡ true → bytes_in (encode_of standard s) ≡ Some s
bytes_back s h = ap decoded (kept (encode_of standard s) (plain_text s h)) ∙ decoded_back s h

pub decode_right : (s b : List ℕ) → decode_of standard s ≡ Ok b → s ≡ encode_of standard b → IsBytes b → decoded s ≡ Some b
decode_right s b is e h = rw is (if_right s b (bytes_from b h) e)
