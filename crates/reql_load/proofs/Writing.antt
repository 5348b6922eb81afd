-- Requests one after another, and the bytes that they make.
use Rattle.std.proofs.Common.{◌≡◌, ℕ, suc, ◌+◌, ◌<◌, ◌≤◌, List, [], ◌∷◌, ◌++◌, length, drop, get_or, flat_map, refl, sym, ap, ◌∙◌, append_assoc, add-one, arith, length-append, drop-cons}
use Rattle.std.proofs.lemmas.List.{append-nil}
use Rattle.reql_wire.specs.Frames.{header, spelling, spellings}
use Rattle.reql_wire.specs.Greeting.{greeting_by}
use Rattle.reql_wire.proofs.Fronts.{length-header}
use Rattle.reql_load.specs.Script.{Request, under, next, frame, framed, edits, ending, round, range_body, limit_body, insert_body}
use Rattle.reql_load.specs.Writing.{Written, greeted, with_request, with_all}

pub longer : (old : List ℕ) (token : ℕ) (body : List ℕ) → length old + 12 ≤ length (old ++ spelling (frame token body))
longer old token body = omega (arith, length-append old (spelling (frame token body)), length-append (header token (length body)) body, length-header token (length body))

pub with_all_joined : (w : Written) (xs ys : List Request) → with_all w (xs ++ ys) ≡ with_all (with_all w xs) ys
with_all_joined w [] ys = refl
with_all_joined w (x ∷ xs) ys = with_all_joined (with_request w x) xs ys

pub bytes_written : (w : Written) (rs : List Request) → (with_all w rs).bytes ≡ w.bytes ++ spellings (framed w.token rs)
bytes_written w [] = sym (append-nil w.bytes)
bytes_written w (under n body ∷ rs) = bytes_written (with_request w (under n body)) rs ∙ append_assoc w.bytes (spelling (frame n body)) (spellings (framed w.token rs))
bytes_written w (next body ∷ rs) = bytes_written (with_request w (next body)) rs ∙ append_assoc w.bytes (spelling (frame w.token body)) (spellings (framed (suc w.token) rs))

-- the edits of one document more
pub edits_on : (w v all : Written) (docs : List ℕ) (k : ℕ) → k < length docs → v ≡ with_all w (edits (get_or docs k 0))
    → with_all w (flat_map edits (drop k docs)) ≡ all → with_all v (flat_map edits (drop (k + 1) docs)) ≡ all
edits_on w v all docs k h now so_far =
    let rest : List Request = flat_map edits (drop (suc k) docs) in
    rw (add-one, now) (sym (with_all_joined w (edits (get_or docs k 0)) rest) ∙ ap (λ (t : List ℕ). with_all w (flat_map edits t)) (sym (drop-cons docs k 0 h)) ∙ so_far)

-- one text more of those that f gives
pub texts_on : (f : ℕ → List ℕ) (before after all docs : List ℕ) (k : ℕ) → k < length docs → after ≡ before ++ f (get_or docs k 0)
    → before ++ flat_map f (drop k docs) ≡ all → after ++ flat_map f (drop (k + 1) docs) ≡ all
texts_on f before after all docs k h now so_far =
    rw (add-one, now) (append_assoc before (f (get_or docs k 0)) (flat_map f (drop (suc k) docs)) ∙ ap (λ (t : List ℕ). before ++ flat_map f t) (sym (drop-cons docs k 0 h)) ∙ so_far)

-- a whole round, request by request
pub round_written : (seed : ℕ) (docs : List ℕ) (w a b c d e : Written) → a ≡ with_request w (under 1 range_body) → b ≡ with_request a (under 2 limit_body) → c ≡ with_request b (next (insert_body seed docs))
    → d ≡ with_all c (flat_map edits docs) → e ≡ with_all d ending → e ≡ with_all w (round seed docs)
round_written seed docs w a b c d e is_a is_b is_c is_d is_e =
    let begun : c ≡ with_request (with_request (with_request w (under 1 range_body)) (under 2 limit_body)) (next (insert_body seed docs)) =
    is_c ∙ ap (λ (t : Written). with_request t (next (insert_body seed docs))) (is_b ∙ ap (λ (t : Written). with_request t (under 2 limit_body)) is_a) in
    is_e ∙ ap (λ (t : Written). with_all t ending) is_d ∙ sym (with_all_joined c (flat_map edits docs) ending) ∙ ap (λ (t : Written). with_all t (flat_map edits docs ++ ending)) begun

-- all requests behind the greeting
pub script_written : (w : Written) (rs : List Request) → w ≡ with_all greeted rs → w.bytes ≡ greeting_by [] ++ spellings (framed 3 rs)
script_written w rs is = ap (λ (t : Written). t.bytes) is ∙ bytes_written greeted rs
