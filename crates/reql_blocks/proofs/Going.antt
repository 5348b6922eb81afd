-- A block written and a gate opened, call by call.
use Rattle.std.proofs.Common.{◌≡◌, ℕ, ◌+◌, ◌<◌, ◌≤◌, List, [], ◌∷◌, ◌++◌, length, Option, Some, None, Result, sym, ap, ◌∙◌, subst, arith}
use Rattle.byteorder.specs.Endian.{little_bytes}
use Rattle.byteorder.specs.Numbers.{length-bytes_low_first}
use Rattle.reql_disk.specs.Disk.{Past, Wrote, over}
use Rattle.reql_disk.specs.Calls.{Told, OfSeen, Writes, Going, stepped}
use Rattle.reql_disk.specs.declared.disk.DiskFault.{DiskFault}
use Rattle.reql_disk.proofs.Crashes.{goes_write, seen_write, reaches, of_going}
use Rattle.reql_blocks.specs.Format.{content, Fits, StandsFor, Awaits}
use Rattle.reql_blocks.proofs.Bytes.{stands_torn, awaits_torn, staged, opened}

-- a write behind the gate
pub goes_behind : (bodies : List (List ℕ)) (past : Past) (old new : Told) (place : ℕ) (piece : List ℕ) (result : Result (Unit {0}) DiskFault) → length (content bodies) < place → OfSeen (λ bytes. place ≤ length bytes) old.past → Writes old new place piece result → Going (StandsFor bodies) (StandsFor bodies) past old → Going (StandsFor bodies) (StandsFor bodies) past new
goes_behind bodies past old new place piece result h at w g = goes_write (StandsFor bodies) past old new place piece result (stands_torn bodies place (length piece) h) at w g

-- how far the size reaches, and the body
pub size_reaches : (old new : Told) (gate : ℕ) (size body : List ℕ) → size ≡ little_bytes 8 (length body) → OfSeen (λ bytes. gate + 1 ≤ length bytes) old.past → new ≡ stepped (Wrote (gate + 1) (length size) size) old → OfSeen (λ bytes. gate + 9 ≤ length bytes) new.past
size_reaches old new gate size body is at w =
    let long : length size ≡ 8 = ap length is ∙ length-bytes_low_first 0 8 (length body) in
    let far : (gate + 1) + length size ≡ gate + 9 = omega (arith, long) in
    subst (λ n. OfSeen (λ bytes. n ≤ length bytes) new.past) far (reaches old new (gate + 1) size at w)

pub body_reaches : (old new : Told) (gate next : ℕ) (body : List ℕ) → next ≡ gate + 9 + length body → OfSeen (λ bytes. gate + 9 ≤ length bytes) old.past → new ≡ stepped (Wrote (gate + 9) (length body) body) old → OfSeen (λ bytes. next ≤ length bytes) new.past
body_reaches old new gate next body is at w = subst (λ n. OfSeen (λ bytes. n ≤ length bytes) new.past) (sym is) (reaches old new (gate + 9) body at w)

-- what a read gives once the block is written
pub block_seen : (bodies : List (List ℕ)) (t0 t1 t2 t3 : Told) (gate next : ℕ) (size body : List ℕ) → gate ≡ length (content bodies) → next ≡ gate + 9 + length body → size ≡ little_bytes 8 (length body) → Fits body →
    t1 ≡ stepped (Wrote (gate + 1) (length size) size) t0 → t2 ≡ stepped (Wrote (gate + 9) (length body) body) t1 → t3 ≡ stepped (Wrote next 1 (0 ∷ [])) t2 →
    OfSeen (StandsFor bodies) t0.past → OfSeen (Awaits bodies body) t3.past
block_seen bodies t0 t1 t2 t3 gate next size body g n s f w1 w2 w3 h =
    let First : List ℕ → Type 0 = λ bytes. Awaits bodies body (over (over bytes (gate + 9) body) next (0 ∷ [])) in
    let Second : List ℕ → Type 0 = λ bytes. Awaits bodies body (over bytes next (0 ∷ [])) in
    let start : (bytes : List ℕ) → StandsFor bodies bytes → First (over bytes (gate + 1) size) = λ bytes stands.
    subst (λ m. Awaits bodies body (over (over (over bytes (gate + 1) size) (gate + 9) body) m (0 ∷ []))) (sym n)
    (subst (λ z. Awaits bodies body (over (over (over bytes (gate + 1) z) (gate + 9) body) (gate + 9 + length body) (0 ∷ []))) (sym s) (staged bodies body bytes gate g f stands)) in
    let one = seen_write (StandsFor bodies) First t0 t1 (gate + 1) size start w1 h in
    let two = seen_write First Second t1 t2 (gate + 9) body (λ bytes x. x) w2 one in
    seen_write Second (Awaits bodies body) t2 t3 next (0 ∷ []) (λ bytes x. x) w3 two

pub seen_now : (P Q : List ℕ → Type 0) (past : Past) (told : Told) → Going P Q past told → OfSeen Q told.past
seen_now P Q past told g = of_going P Q past told g

-- the gate
within : (gate : ℕ) (o : Option Past) → OfSeen (λ bytes. gate + 1 ≤ length bytes) o → OfSeen (λ bytes. gate ≤ length bytes) o
within gate None h = _
within gate (Some past) h = omega (arith, h)

pub goes_gate : (bodies : List (List ℕ)) (body : List ℕ) (past : Past) (old new : Told) (gate : ℕ) (result : Result (Unit {0}) DiskFault) → gate ≡ length (content bodies) → OfSeen (λ bytes. gate + 1 ≤ length bytes) old.past → Writes old new gate (1 ∷ []) result → Going (Awaits bodies body) (Awaits bodies body) past old → Going (Awaits bodies body) (Awaits bodies body) past new
goes_gate bodies body past old new gate result is at w g = goes_write (Awaits bodies body) past old new gate (1 ∷ []) result (awaits_torn bodies body gate is) (within gate old.past at) w g

pub gate_seen : (bodies : List (List ℕ)) (body : List ℕ) (old new : Told) (gate : ℕ) → gate ≡ length (content bodies) → new ≡ stepped (Wrote gate 1 (1 ∷ [])) old → OfSeen (Awaits bodies body) old.past → OfSeen (StandsFor (bodies ++ body ∷ [])) new.past
gate_seen bodies body old new gate is w h = seen_write (Awaits bodies body) (StandsFor (bodies ++ body ∷ [])) old new gate (1 ∷ []) (λ bytes a. opened bodies body bytes gate is a) w h
