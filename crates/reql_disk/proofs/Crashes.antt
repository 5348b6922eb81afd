-- Laws of disks: how runs of calls join, and what each call leaves.
use Rattle.std.proofs.Common.{◌≡◌, inl, inr, ⊎_elim, ℕ, ◌+◌, ◌≤◌, List, [], ◌∷◌, ◌++◌, length, take, drop, refl, sym, ap, ◌∙◌, subst, append_assoc, arith, ◌-◌, length-append, length-drop, Option, Some, None, Result, Ok, Err}
use Rattle.std.proofs.lemmas.List.{length-take-le, take_at, drop-drop}
use Rattle.std.proofs.Math.Seq.{drop-append-add}
use Rattle.reql_disk.specs.Disk.{Step, Wrote, Synced, Past, over, seen_after, Torn, LeftAfter, LeftSince, Leaves, Holds, MadeBy, seen, Left}
use Rattle.reql_disk.specs.Calls.{Told, grown, with_step, stepped, OfSeen, Writes, Syncs, Going}
use Rattle.reql_disk.specs.declared.disk.DiskFault.{DiskFault}
use Rattle.reql_disk.specs.declared.disk.DiskFault.TheVariants as fault

-- ---- runs
-- nothing was done
pub stays : (P : List ℕ → Type 0) (past : Past) → ((image : List ℕ) → Left past image → P image) → Leaves P past past
stays P past now = record { since = []; first = refl; steps = refl; each = now }

since_both : (P : List ℕ → Type 0) (first : List ℕ) (earlier sooner later : List Step) →
    ((image : List ℕ) → LeftSince first earlier sooner image → P image) → ((image : List ℕ) → LeftSince first (sooner ++ earlier) later image → P image) →
    (image : List ℕ) → LeftSince first earlier (later ++ sooner) image → P image
since_both P first earlier sooner [] early late image left = early image left
since_both P first earlier sooner (step ∷ later) early late image (inl now) =
    late image (inl (subst (λ steps. LeftAfter first (step ∷ steps) image) (append_assoc later sooner earlier) now))
since_both P first earlier sooner (step ∷ later) early late image (inr then) =
    since_both P first earlier sooner later early (λ i l. late i (inr l)) image then

-- one run after another
pub leaves_on : (P : List ℕ → Type 0) (a b c : Past) → Leaves P a b → Leaves P b c → Leaves P a c
leaves_on P a b c p q = record {
  since = q.since ++ p.since;
  first = q.first ∙ p.first;
  steps = q.steps ∙ ap (λ steps. q.since ++ steps) p.steps ∙ sym (append_assoc q.since p.since a.steps);
  each = since_both P a.first a.steps p.since q.since p.each
      (subst (λ steps. (image : List ℕ) → LeftSince a.first steps q.since image → P image) p.steps
      (subst (λ first. (image : List ℕ) → LeftSince first b.steps q.since image → P image) p.first q.each));
}

-- what is known at each moment is known at the last one
last_of : (P : List ℕ → Type 0) (first : List ℕ) (earlier since : List Step) → ((image : List ℕ) → LeftSince first earlier since image → P image) → (image : List ℕ) → LeftAfter first (since ++ earlier) image → P image
last_of P first earlier [] each image left = each image left
last_of P first earlier (step ∷ since) each image left = each image (inl left)

pub last_moment : (P : List ℕ → Type 0) (old new : Past) → Leaves P old new → (image : List ℕ) → Left new image → P image
last_moment P old new p image left =
    last_of P old.first old.steps p.since p.each image
    (subst (λ steps. LeftAfter old.first steps image) p.steps (subst (λ first. LeftAfter first new.steps image) p.first left))

-- one step more
pub leaves_step : (P : List ℕ → Type 0) (old new : Past) (step : Step) → Leaves P old new → ((image : List ℕ) → Left (grown step new) image → P image) → Leaves P old (grown step new)
leaves_step P old new step p now = leaves_on P old new (grown step new) p (record {
  since = step ∷ [];
  first = refl;
  steps = refl;
  each = λ image left. ⊎_elim (λ here. now image here) (λ then. p_now image then) left;
})
  where
    p_now : (image : List ℕ) → Left new image → P image
    p_now image left = last_moment P old new p image left

-- what has P has Q
pub leaves_more : (P Q : List ℕ → Type 0) (old new : Past) → ((image : List ℕ) → P image → Q image) → Leaves P old new → Leaves Q old new
leaves_more P Q old new implies p = record { since = p.since; first = p.first; steps = p.steps; each = λ image left. implies image (p.each image left) }

-- ---- what a write and a sync make of what is known
-- what a write leaves, whole or not, is among what a crash in it may leave
pub over_torn : (place count : ℕ) (old bytes : List ℕ) → place ≤ length old → length bytes ≤ count → Torn place count old (over old place bytes)
over_torn place count old bytes h k =
    let front : length (take place old) ≡ place = length-take-le place old h in
    let long : length (take place old ++ bytes) ≡ place + length bytes = omega (arith, length-append (take place old) bytes) in
    let gap = count - length bytes in
    let reach : place + count ≡ (place + length bytes) + gap = omega arith in
    let all : length (over old place bytes) ≡ length (take place old ++ bytes) + length (drop (place + length bytes) old) = length-append (take place old ++ bytes) (drop (place + length bytes) old) in
    let rest = length-drop (place + length bytes) old in
    record {
      before = ap (take place) (append_assoc (take place old) bytes (drop (place + length bytes) old)) ∙ take_at (take place old) (bytes ++ drop (place + length bytes) old) place front;
      after = ap (λ n. drop n ((take place old ++ bytes) ++ drop (place + length bytes) old)) (reach ∙ ap (λ n. n + gap) (sym long))
          ∙ drop-append-add (take place old ++ bytes) (drop (place + length bytes) old) gap
          ∙ drop-drop gap (place + length bytes) old
          ∙ ap (λ n. drop n old) (sym reach);
      no_shorter = omega (arith, all, long, rest);
      no_longer = omega (arith, all, long, rest);
    }

-- P stays under any write of so many bytes at a place
abbrev pub Withstands : (List ℕ → Type 0) → ℕ → ℕ → Type 0
Withstands P place count = (old new : List ℕ) → P old → Torn place count old new → P new

pub holds_write : (P : List ℕ → Type 0) (past : Past) (place count : ℕ) (left : List ℕ) → Withstands P place count → place ≤ length (seen past) → length left ≤ count → Holds P past → Holds P (grown (Wrote place count left) past)
holds_write P past place count left stands h k p = record {
  reads = stands (seen past) (over (seen past) place left) p.reads (over_torn place count (seen past) left h k);
  crashes = λ image l. stands l.0 image (p.crashes l.0 l.1) l.2;
}

-- after a sync a crash leaves what a read gives
pub holds_sync : (P : List ℕ → Type 0) (past : Past) → P (seen past) → Holds P (grown Synced past)
holds_sync P past reads = record { reads = reads; crashes = λ image l. subst P (sym l) reads }

-- ---- calls, whatever they answer
pub starts : (P : List ℕ → Type 0) (past : Past) (told : Told) → told.past ≡ Some past → Holds P past → Going P P past told
starts P past told is h = record { now = past; told_now = is; leaves = stays P past h.crashes; holds = h }

of_seen : (P : List ℕ → Type 0) (o : Option Past) (past : Past) → o ≡ Some past → OfSeen P o → P (seen past)
of_seen P o past is h = subst (OfSeen P) is h

with_of : (step : Step) (o : Option Past) (past : Past) → o ≡ Some past → with_step step o ≡ Some (grown step past)
with_of step o past is = ap (with_step step) is

write_of : (P : List ℕ → Type 0) (past : Past) (old new : Told) (place count : ℕ) (left : List ℕ) → Withstands P place count → OfSeen (λ bytes. place ≤ length bytes) old.past → length left ≤ count → new.past ≡ with_step (Wrote place count left) old.past → Going P P past old → Going P P past new
write_of P past old new place count left stands h k e g =
    let at : place ≤ length (seen g.now) = of_seen (λ bytes. place ≤ length bytes) old.past g.now g.told_now h in
    let then = holds_write P g.now place count left stands at k g.holds in
    record {
      now = grown (Wrote place count left) g.now;
      told_now = e ∙ with_of (Wrote place count left) old.past g.now g.told_now;
      leaves = leaves_step P past g.now (Wrote place count left) g.leaves then.crashes;
      holds = then;
    }

same_of : (P Q : List ℕ → Type 0) (past : Past) (old new : Told) → new.past ≡ old.past → Going P Q past old → Going P Q past new
same_of P Q past old new e g = record { now = g.now; told_now = e ∙ g.told_now; leaves = g.leaves; holds = g.holds }

-- a write that P withstands
pub goes_write : (P : List ℕ → Type 0) (past : Past) (old new : Told) (place : ℕ) (piece : List ℕ) (result : Result (Unit {0}) DiskFault) → Withstands P place (length piece) → OfSeen (λ bytes. place ≤ length bytes) old.past → Writes old new place piece result → Going P P past old → Going P P past new
goes_write P past old new place piece (Ok done) stands h w g = write_of P past old new place (length piece) piece stands h (omega arith) (ap (λ t. t.past) w) g
goes_write P past old new place piece (Err fault.Failed) stands h w g = write_of P past old new place (length piece) w.1 stands h w.2 (ap (λ t. t.past) w.3) g
goes_write P past old new place piece (Err fault.Memory) stands h w g = same_of P P past old new (ap (λ t. t.past) w) g

sync_of : (P Q : List ℕ → Type 0) (past : Past) (old new : Told) → new.past ≡ with_step Synced old.past → ((now : Past) → old.past ≡ Some now → Q (seen now)) → Going P P past old → Going P Q past new
sync_of P Q past old new e reads g = record {
  now = grown Synced g.now;
  told_now = e ∙ with_of Synced old.past g.now g.told_now;
  leaves = leaves_step P past g.now Synced g.leaves (λ image l. subst P (sym l) g.holds.reads);
  holds = holds_sync Q g.now (reads g.now g.told_now);
}

-- a sync
pub goes_sync : (P : List ℕ → Type 0) (past : Past) (old new : Told) (result : Result (Unit {0}) DiskFault) → Syncs old new result → Going P P past old → Going P P past new
goes_sync P past old new (Ok done) w g = sync_of P P past old new (ap (λ t. t.past) w) (λ now is. subst (λ o. OfSeen P o) (sym g.told_now ∙ is) g.holds.reads) g
goes_sync P past old new (Err fault.Failed) w g = same_of P P past old new (ap (λ t. t.past) w.1) g
goes_sync P past old new (Err fault.Memory) w g = same_of P P past old new (ap (λ t. t.past) w) g

-- a sync that was answered Ok, where more is known of what a read gives
pub ends_sync : (P Q : List ℕ → Type 0) (past : Past) (old new : Told) → new ≡ stepped Synced old → OfSeen Q old.past → Going P P past old → Going P Q past new
ends_sync P Q past old new w reads g = sync_of P Q past old new (ap (λ t. t.past) w) (λ now is. of_seen Q old.past now is reads) g

-- ---- what a read gives after a write
pub over_longer : (old bytes : List ℕ) (place : ℕ) → place ≤ length old → (length old ≤ length (over old place bytes)) × (place + length bytes ≤ length (over old place bytes))
over_longer old bytes place h =
    let all : length (over old place bytes) ≡ place + length bytes + (length old - (place + length bytes)) =
    length-append (take place old ++ bytes) (drop (place + length bytes) old) ∙ omega (arith, length-append (take place old) bytes, length-take-le place old h, length-drop (place + length bytes) old) in
    (omega (arith, all), omega (arith, all))

-- no write makes a file shorter
long_of : (o new : Option Past) (n place count : ℕ) (left : List ℕ) → OfSeen (λ bytes. place ≤ length bytes) o → new ≡ with_step (Wrote place count left) o → OfSeen (λ bytes. n ≤ length bytes) o → OfSeen (λ bytes. n ≤ length bytes) new
long_of None new n place count left at e h = subst (OfSeen (λ bytes. n ≤ length bytes)) (sym e) _
long_of (Some past) new n place count left at e h = subst (OfSeen (λ bytes. n ≤ length bytes)) (sym e) (omega (arith, h, (over_longer (seen past) left place at).0))

pub long_write : (old new : Told) (n place : ℕ) (piece : List ℕ) (result : Result (Unit {0}) DiskFault) → OfSeen (λ bytes. place ≤ length bytes) old.past → Writes old new place piece result → OfSeen (λ bytes. n ≤ length bytes) old.past → OfSeen (λ bytes. n ≤ length bytes) new.past
long_write old new n place piece (Ok done) at w h = long_of old.past new.past n place (length piece) piece at (ap (λ t. t.past) w) h
long_write old new n place piece (Err fault.Failed) at w h = long_of old.past new.past n place (length piece) w.1 at (ap (λ t. t.past) w.3) h
long_write old new n place piece (Err fault.Memory) at w h = subst (λ t. OfSeen (λ bytes. n ≤ length bytes) t.past) (sym w) h

pub long_sync : (old new : Told) (n : ℕ) (result : Result (Unit {0}) DiskFault) → Syncs old new result → OfSeen (λ bytes. n ≤ length bytes) old.past → OfSeen (λ bytes. n ≤ length bytes) new.past
long_sync old new n (Ok done) w h = subst (λ t. OfSeen (λ bytes. n ≤ length bytes) t.past) (sym w) (synced old.past h)
  where
    synced : (o : Option Past) → OfSeen (λ bytes. n ≤ length bytes) o → OfSeen (λ bytes. n ≤ length bytes) (with_step Synced o)
    synced None h = _
    synced (Some past) h = h
long_sync old new n (Err fault.Failed) w h = subst (λ t. OfSeen (λ bytes. n ≤ length bytes) t.past) (sym w.1) h
long_sync old new n (Err fault.Memory) w h = subst (λ t. OfSeen (λ bytes. n ≤ length bytes) t.past) (sym w) h

-- what is known of all that a write gives
pub seen_write : (P Q : List ℕ → Type 0) (old new : Told) (place : ℕ) (piece : List ℕ) → ((bytes : List ℕ) → P bytes → Q (over bytes place piece)) → new ≡ stepped (Wrote place (length piece) piece) old → OfSeen P old.past → OfSeen Q new.past
seen_write P Q old new place piece implies w h = subst (λ t. OfSeen Q t.past) (sym w) (wrote old.past h)
  where
    wrote : (o : Option Past) → OfSeen P o → OfSeen Q (with_step (Wrote place (length piece) piece) o)
    wrote None h = _
    wrote (Some past) h = implies (seen past) h

-- how far a write reaches
pub reaches : (old new : Told) (place : ℕ) (piece : List ℕ) → OfSeen (λ bytes. place ≤ length bytes) old.past → new ≡ stepped (Wrote place (length piece) piece) old → OfSeen (λ bytes. place + length piece ≤ length bytes) new.past
reaches old new place piece h w = seen_write (λ bytes. place ≤ length bytes) (λ bytes. place + length piece ≤ length bytes) old new place piece (λ bytes at. (over_longer bytes piece place at).1) w h

-- what is known of all that a read gives at the end of a run
pub of_going : (P Q : List ℕ → Type 0) (past : Past) (told : Told) → Going P Q past told → OfSeen Q told.past
of_going P Q past told g = subst (OfSeen Q) (sym g.told_now) g.holds.reads

-- what a read gives is among what a crash may leave
pub seen_left : (first : List ℕ) (steps : List Step) → MadeBy first steps → LeftAfter first steps (seen_after first steps)
seen_left first [] made = refl
seen_left first (Wrote place count left ∷ steps) ((at, few), made) = (seen_after first steps, seen_left first steps made, over_torn place count (seen_after first steps) left at few)
seen_left first (Synced ∷ steps) made = refl
