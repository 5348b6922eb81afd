-- What stands at a place of a file, from what was read there.
use Rattle.std.proofs.Common.{◌≡◌, inl, inr, ℕ, ◌+◌, ◌-◌, ◌^◌, ◌<◌, ◌≤◌, List, [], ◌∷◌, ◌++◌, length, take, drop, Option, Some, None, refl, sym, ap, ◌∙◌, subst, append_assoc, arith, length-append, length-drop}
use Rattle.std.proofs.lemmas.List.{drop_at, drop_all, take-append-drop, drop-drop}
use Rattle.byteorder.specs.Endian.{little_bytes, little_number}
use Rattle.byteorder.specs.Numbers.{little_number-reads_back}
use Rattle.reql_disk.specs.Disk.{Past, seen}
use Rattle.reql_disk.specs.Calls.{OfSeen}
use Rattle.reql_blocks.specs.Format.{behind, content, Fits}
use Rattle.reql_blocks.specs.Recovery.{NoBlock, NoGate, BlockAt, HasRead, Place}
use Rattle.reql_blocks.proofs.Bytes.{length_behind, content_push, length_pushed, fit_push}

pub seen_more : (P Q : List ℕ → Type 0) (o : Option Past) → ((bytes : List ℕ) → P bytes → Q bytes) → OfSeen P o → OfSeen Q o
seen_more P Q None implies h = _
seen_more P Q (Some past) implies h = implies (seen past) h

pub seen_both : (P Q : List ℕ → Type 0) (o : Option Past) → OfSeen P o → OfSeen Q o → OfSeen (λ bytes. P bytes × Q bytes) o
seen_both P Q None p q = _
seen_both P Q (Some past) p q = (p, q)

-- the byte at a place, and what is behind it
after_one : (bytes : List ℕ) (place gate : ℕ) → gate ∷ [] ≡ take 1 (drop place bytes) → drop place bytes ≡ gate ∷ drop (place + 1) bytes
after_one bytes place gate is = sym (take-append-drop 1 (drop place bytes)) ∙ ap (λ l. l ++ drop 1 (drop place bytes)) (sym is) ∙ ap (λ l. gate ∷ l) (drop-drop 1 place bytes)

-- the file ends
pub none_there : (bytes : List ℕ) (place left : ℕ) → place + left ≡ length bytes → left ≡ 0 → NoGate (drop place bytes)
none_there bytes place left e z = inl (drop_all place bytes (omega (arith, e, z)))

-- there are too few bytes for a block
short : (more : List ℕ) → length more < 8 → NoBlock more
short more h body rest fits is = absurd (omega (arith, ap length is, length-append (behind body) rest, length_behind body))

pub short_there : (bytes : List ℕ) (place left : ℕ) → place + left ≡ length bytes → left < 9 → 1 ∷ [] ≡ take 1 (drop place bytes) → NoGate (drop place bytes)
short_there bytes place left e h is = inr (drop (place + 1) bytes, after_one bytes place 1 is, short (drop (place + 1) bytes) (omega (arith, e, h, length-drop (place + 1) bytes)))

-- or too few for a body of the size that is written
size_is : (more body rest : List ℕ) (size : ℕ) → size < 2 ^ 64 → Fits body → little_bytes 8 size ≡ take 8 more → more ≡ behind body ++ rest → size ≡ length body
unfolding behind
size_is more body rest size h fits is joined =
    let front : little_number 8 more ≡ size = ap (little_number 8) (sym (take-append-drop 8 more) ∙ ap (λ l. l ++ drop 8 more) (sym is)) ∙ little_number-reads_back 8 size (drop 8 more) h in
    let back : little_number 8 more ≡ length body = ap (little_number 8) (joined ∙ append_assoc (little_bytes 8 (length body)) body rest) ∙ little_number-reads_back 8 (length body) (body ++ rest) fits in
    sym front ∙ back

large : (more : List ℕ) (size : ℕ) → size < 2 ^ 64 → little_bytes 8 size ≡ take 8 more → length more < 8 + size → NoBlock more
large more size small is h body rest fits joined =
    absurd (omega (arith, ap length joined, length-append (behind body) rest, length_behind body, size_is more body rest size small fits is joined))

pub large_there : (bytes : List ℕ) (place left size : ℕ) → place + left ≡ length bytes → 9 ≤ left → left - 9 < size → size < 2 ^ 64 → 1 ∷ [] ≡ take 1 (drop place bytes) → little_bytes 8 size ≡ take 8 (drop (place + 1) bytes) → NoGate (drop place bytes)
large_there bytes place left size e h over small is written =
    inr (drop (place + 1) bytes, after_one bytes place 1 is, large (drop (place + 1) bytes) size small written (omega (arith, e, h, over, length-drop (place + 1) bytes)))

-- a whole block
pub block_there : (bytes body : List ℕ) (place size : ℕ) → size < 2 ^ 64 → 1 ∷ [] ≡ take 1 (drop place bytes) → little_bytes 8 size ≡ take 8 (drop (place + 1) bytes) → body ≡ take size (drop (place + 9) bytes) → length body ≡ size → BlockAt place body bytes
unfolding behind
block_there bytes body place size small is written read long =
    let nine : place + 1 + 8 ≡ place + 9 = omega arith in
    let field : little_bytes 8 size ≡ little_bytes 8 (length body) = ap (little_bytes 8) (sym long) in
    let rest = drop size (drop (place + 9) bytes) in
    let tail : drop (place + 9) bytes ≡ body ++ rest = sym (take-append-drop size (drop (place + 9) bytes)) ∙ ap (λ l. l ++ rest) (sym read) in
    let more : drop (place + 1) bytes ≡ (little_bytes 8 (length body) ++ body) ++ rest =
    sym (take-append-drop 8 (drop (place + 1) bytes)) ∙ ap (λ l. l ++ drop 8 (drop (place + 1) bytes)) (sym written ∙ field)
    ∙ ap (λ l. little_bytes 8 (length body) ++ l) (drop-drop 8 (place + 1) bytes ∙ ap (λ n. drop n bytes) nine ∙ tail)
    ∙ sym (append_assoc (little_bytes 8 (length body)) body rest) in
    record {
      rest = rest;
      there = after_one bytes place 1 is ∙ ap (λ l. 1 ∷ l) more;
      fits = omega (arith, small, long);
    }

-- ---- what a reader has read
rest_there : (bodies : List (List ℕ)) (past : Past) (p : Place) (h : HasRead bodies past p) → drop p.gate (seen past) ≡ h.rest
rest_there bodies past p h = ap (drop p.gate) h.joined ∙ drop_at (content bodies) h.rest p.gate (sym h.gate)

pub read_one : (bodies : List (List ℕ)) (body : List ℕ) (past : Past) (old new : Place) → HasRead bodies past old → OfSeen (BlockAt old.gate body) old.told.past → new.told.past ≡ old.told.past → new.gate ≡ old.gate + 9 + length body → HasRead (bodies ++ body ∷ []) past new
read_one bodies body past old new h at same gate =
    let here : BlockAt old.gate body (seen past) = subst (λ o. OfSeen (BlockAt old.gate body) o) h.told at in
    let joined : seen past ≡ content bodies ++ 1 ∷ (behind body ++ here.rest) = h.joined ∙ ap (λ l. content bodies ++ l) (sym (rest_there bodies past old h) ∙ here.there) in
    record {
      told = same ∙ h.told;
      gate = gate ∙ ap (λ n. n + 9 + length body) h.gate ∙ sym (length_pushed bodies body);
      rest = here.rest;
      joined = joined ∙ sym (content_push bodies body here.rest);
      fit = fit_push bodies body h.fit here.fits;
      safe = h.safe;
    }

-- ---- the same, of what is told of a file
pub short_seen : (o : Option Past) (place left : ℕ) → left < 9 → OfSeen (λ bytes. place + left ≡ length bytes) o → OfSeen (λ bytes. 1 ∷ [] ≡ take 1 (drop place bytes)) o → OfSeen (λ bytes. (place ≡ place) × NoGate (drop place bytes)) o
short_seen None place left h e is = _
short_seen (Some past) place left h e is = (refl, short_there (seen past) place left e h is)

pub large_seen : (o : Option Past) (place left size : ℕ) → 9 ≤ left → left - 9 < size → size < 2 ^ 64 → OfSeen (λ bytes. place + left ≡ length bytes) o → OfSeen (λ bytes. 1 ∷ [] ≡ take 1 (drop place bytes)) o → OfSeen (λ bytes. little_bytes 8 size ≡ take 8 (drop (place + 1) bytes)) o → OfSeen (λ bytes. (place ≡ place) × NoGate (drop place bytes)) o
large_seen None place left size h over small e is written = _
large_seen (Some past) place left size h over small e is written = (refl, large_there (seen past) place left size e h over small is written)

pub block_seen_at : (o : Option Past) (body : List ℕ) (place size : ℕ) → size < 2 ^ 64 → length body ≡ size → OfSeen (λ bytes. 1 ∷ [] ≡ take 1 (drop place bytes)) o → OfSeen (λ bytes. little_bytes 8 size ≡ take 8 (drop (place + 1) bytes)) o → OfSeen (λ bytes. body ≡ take size (drop (place + 9) bytes)) o → OfSeen (BlockAt place body) o
block_seen_at None body place size small long is written read = _
block_seen_at (Some past) body place size small long is written read = block_there (seen past) body place size small is written read long
