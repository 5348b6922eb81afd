-- What files of blocks stand for, and what torn writes make of them.
use Rattle.std.proofs.Common.{◌≡◌, inl, inr, ℕ, suc, ◌+◌, ◌<◌, List, [], ◌∷◌, ◌++◌, length, get_or, take, drop, sym, ap, ◌∙◌, append_assoc, append-nil, arith, length-append}
use Rattle.std.specs.List.{flat_map, AllByRecursion}
use Rattle.std.proofs.lemmas.Bool.{cases_eq}
use Rattle.std.proofs.lemmas.List.{take_at, drop_at, drop_more, take-append-drop, take-take, drop-drop}
use Rattle.byteorder.specs.Endian.{little_bytes}
use Rattle.byteorder.specs.Numbers.{length-bytes_low_first}
use Rattle.reql_disk.specs.Disk.{Torn, over}
use Rattle.reql_blocks.specs.Format.{magic, behind, block, content, Fits, StandsFor, Awaits, WithOrWithout}

-- ---- laws of the format
pub length_behind : (body : List ℕ) → length (behind body) ≡ 8 + length body
unfolding behind
length_behind body = length-append (little_bytes 8 (length body)) body ∙ ap (λ n. n + length body) (length-bytes_low_first 0 8 (length body))

blocks_push : (bodies : List (List ℕ)) (body rest : List ℕ) → flat_map block (bodies ++ body ∷ []) ++ rest ≡ flat_map block bodies ++ (block body ++ rest)
blocks_push [] body rest = ap (λ l. l ++ rest) (append-nil (block body))
blocks_push (b ∷ bodies) body rest =
    append_assoc (block b) (flat_map block (bodies ++ body ∷ [])) rest ∙ ap (λ l. block b ++ l) (blocks_push bodies body rest) ∙ sym (append_assoc (block b) (flat_map block bodies) (block body ++ rest))

-- one block more
pub content_push : (bodies : List (List ℕ)) (body rest : List ℕ) → content (bodies ++ body ∷ []) ++ rest ≡ content bodies ++ 1 ∷ (behind body ++ rest)
unfolding content
content_push bodies body rest =
    append_assoc magic (flat_map block (bodies ++ body ∷ [])) rest ∙ ap (λ l. magic ++ l) (blocks_push bodies body rest) ∙ sym (append_assoc magic (flat_map block bodies) (block body ++ rest))

pub length_pushed : (bodies : List (List ℕ)) (body : List ℕ) → length (content (bodies ++ body ∷ [])) ≡ length (content bodies) + 9 + length body
length_pushed bodies body =
    let all : length (content (bodies ++ body ∷ [])) ≡ length (content bodies ++ 1 ∷ (behind body ++ [])) = ap length (sym (append-nil (content (bodies ++ body ∷ []))) ∙ content_push bodies body []) in
    all ∙ length-append (content bodies) (1 ∷ (behind body ++ [])) ∙ omega (arith, length-append (behind body) [], length_behind body)

pub fit_push : (bodies : List (List ℕ)) (body : List ℕ) → AllByRecursion Fits bodies → Fits body → AllByRecursion Fits (bodies ++ body ∷ [])
fit_push [] body fit fits = (fits, _)
fit_push (b ∷ bodies) body (f, fit) fits = (f, fit_push bodies body fit fits)

-- ---- what a file with a block behind its gate stands for
pub with_or_without : (bodies : List (List ℕ)) (body bytes : List ℕ) → Awaits bodies body bytes → WithOrWithout bodies body bytes
with_or_without bodies body bytes a = elim (cases_eq a.gate 1) [
  | inl is_open ↦ inr (record {
    gate = 0;
    rest = a.rest;
    joined = a.joined ∙ ap (λ g. content bodies ++ g ∷ (behind body ++ 0 ∷ a.rest)) is_open ∙ sym (content_push bodies body (0 ∷ a.rest));
    closed = omega arith;
    fit = fit_push bodies body a.fit a.fits;
  })
  | inr shut ↦ inl (record { gate = a.gate; rest = behind body ++ 0 ∷ a.rest; joined = a.joined; closed = shut; fit = a.fit })
]

-- ---- torn writes
-- behind the closed gate
pub stands_torn : (bodies : List (List ℕ)) (place count : ℕ) → length (content bodies) < place → (old new : List ℕ) → StandsFor bodies old → Torn place count old new → StandsFor bodies new
stands_torn bodies place count h old new s t =
    let front = content bodies ++ s.gate ∷ [] in
    let n = length (content bodies) + 1 in
    let long : length front ≡ n = length-append (content bodies) (s.gate ∷ []) in
    let was : old ≡ front ++ s.rest = s.joined ∙ sym (append_assoc (content bodies) (s.gate ∷ []) s.rest) in
    let same : take n new ≡ front = sym (take-take n place new (omega arith)) ∙ ap (take n) t.before ∙ take-take n place old (omega arith) ∙ ap (take n) was ∙ take_at front s.rest n long in
    record {
      gate = s.gate;
      rest = drop n new;
      joined = sym (take-append-drop n new) ∙ ap (λ l. l ++ drop n new) same ∙ append_assoc (content bodies) (s.gate ∷ []) (drop n new);
      closed = s.closed;
      fit = s.fit;
    }

-- over the gate
pub awaits_torn : (bodies : List (List ℕ)) (body : List ℕ) (place : ℕ) → place ≡ length (content bodies) → (old new : List ℕ) → Awaits bodies body old → Torn place 1 old new → Awaits bodies body new
awaits_torn bodies body place is old new a t =
    let after = behind body ++ 0 ∷ a.rest in
    let front : take place new ≡ content bodies = t.before ∙ ap (take place) a.joined ∙ take_at (content bodies) (a.gate ∷ after) place (sym is) in
    let long : length old ≡ place + suc (length after) = ap length a.joined ∙ length-append (content bodies) (a.gate ∷ after) ∙ ap (λ n. n + suc (length after)) (sym is) in
    let one : length (content bodies ++ a.gate ∷ []) ≡ place + 1 = length-append (content bodies) (a.gate ∷ []) ∙ ap (λ n. n + 1) (sym is) in
    let back : drop (place + 1) new ≡ after = t.after ∙ ap (drop (place + 1)) (a.joined ∙ sym (append_assoc (content bodies) (a.gate ∷ []) after)) ∙ drop_at (content bodies ++ a.gate ∷ []) after (place + 1) one in
    let gate = get_or new place 0 in
    let rest : drop place new ≡ gate ∷ after = drop_more new place 0 (omega (arith, t.no_shorter, long)) ∙ ap (λ l. gate ∷ l) back in
    record {
      gate = gate;
      rest = a.rest;
      joined = sym (take-append-drop place new) ∙ ap (λ l. l ++ drop place new) front ∙ ap (λ l. content bodies ++ l) rest;
      fit = a.fit;
      fits = a.fits;
    }

-- ---- writes
-- over what stands behind some bytes
over_at : (front rest bytes : List ℕ) (place : ℕ) → length front ≡ place → over (front ++ rest) place bytes ≡ (front ++ bytes) ++ drop (length bytes) rest
over_at front rest bytes place is =
    ap (λ l. l ++ bytes ++ drop (place + length bytes) (front ++ rest)) (take_at front rest place is)
    ∙ ap (λ l. (front ++ bytes) ++ l) (sym (drop-drop (length bytes) place (front ++ rest)) ∙ ap (drop (length bytes)) (drop_at front rest place is))

-- a block behind the gate, in three writes
pub staged : (bodies : List (List ℕ)) (body old : List ℕ) (gate : ℕ) → gate ≡ length (content bodies) → Fits body → StandsFor bodies old →
    Awaits bodies body (over (over (over old (gate + 1) (little_bytes 8 (length body))) (gate + 9) body) (gate + 9 + length body) (0 ∷ []))
unfolding behind
staged bodies body old gate is fits s =
    let size = little_bytes 8 (length body) in
    let front = content bodies ++ s.gate ∷ [] in
    let n8 : length size ≡ 8 = length-bytes_low_first 0 8 (length body) in
    let n0 : length front ≡ gate + 1 = length-append (content bodies) (s.gate ∷ []) ∙ ap (λ n. n + 1) (sym is) in
    let n1 : length (front ++ size) ≡ gate + 9 = omega (arith, length-append front size, n0, n8) in
    let n2 : length ((front ++ size) ++ body) ≡ gate + 9 + length body = omega (arith, length-append (front ++ size) body, n1) in
    let r1 = drop (length size) s.rest in
    let r2 = drop (length body) r1 in
    let was : old ≡ front ++ s.rest = s.joined ∙ sym (append_assoc (content bodies) (s.gate ∷ []) s.rest) in
    let w1 : over old (gate + 1) size ≡ (front ++ size) ++ r1 = ap (λ l. over l (gate + 1) size) was ∙ over_at front s.rest size (gate + 1) n0 in
    let w2 : over (over old (gate + 1) size) (gate + 9) body ≡ ((front ++ size) ++ body) ++ r2 = ap (λ l. over l (gate + 9) body) w1 ∙ over_at (front ++ size) r1 body (gate + 9) n1 in
    let w3 : over (over (over old (gate + 1) size) (gate + 9) body) (gate + 9 + length body) (0 ∷ []) ≡ (((front ++ size) ++ body) ++ 0 ∷ []) ++ drop 1 r2 =
    ap (λ l. over l (gate + 9 + length body) (0 ∷ [])) w2 ∙ over_at ((front ++ size) ++ body) r2 (0 ∷ []) (gate + 9 + length body) n2 in
    let order : (((front ++ size) ++ body) ++ 0 ∷ []) ++ drop 1 r2 ≡ content bodies ++ s.gate ∷ ((size ++ body) ++ 0 ∷ drop 1 r2) =
    append_assoc ((front ++ size) ++ body) (0 ∷ []) (drop 1 r2) ∙ append_assoc (front ++ size) body (0 ∷ drop 1 r2) ∙ append_assoc front size (body ++ 0 ∷ drop 1 r2)
    ∙ append_assoc (content bodies) (s.gate ∷ []) (size ++ (body ++ 0 ∷ drop 1 r2)) ∙ ap (λ l. content bodies ++ s.gate ∷ l) (sym (append_assoc size body (0 ∷ drop 1 r2))) in
    record { gate = s.gate; rest = drop 1 r2; joined = w3 ∙ order; fit = s.fit; fits = fits }

-- the gate
pub opened : (bodies : List (List ℕ)) (body old : List ℕ) (gate : ℕ) → gate ≡ length (content bodies) → Awaits bodies body old → StandsFor (bodies ++ body ∷ []) (over old gate (1 ∷ []))
opened bodies body old gate is a =
    let after = behind body ++ 0 ∷ a.rest in
    record {
      gate = 0;
      rest = a.rest;
      joined = ap (λ l. over l gate (1 ∷ [])) a.joined ∙ over_at (content bodies) (a.gate ∷ after) (1 ∷ []) gate (sym is) ∙ append_assoc (content bodies) (1 ∷ []) after ∙ sym (content_push bodies body (0 ∷ a.rest));
      closed = omega arith;
      fit = fit_push bodies body a.fit a.fits;
    }
