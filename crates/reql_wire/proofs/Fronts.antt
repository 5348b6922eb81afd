use Rattle.std.proofs.Common.{◌≡◌, ℕ, ◌+◌, ◌-◌, ◌<◌, ◌≤◌, ◌^◌, ltb, Bool, true, false, cond, List, [], ◌∷◌, ◌++◌, length, take, drop, refl, sym, ap, subst, ◌∙◌, append_assoc, arith, length-append, length-drop, inl, inr, ◌⊎◌}
use Rattle.std.proofs.lemmas.List.{drop-append-le, get_or-take, get_or_past, take-append-drop, length-take-le, length-take, get_or-drop, drop-drop}
use Rattle.std.proofs.Math.Seq.{take-append_seam, drop-append_seam, drop-append-add}
use Rattle.std.proofs.lemmas.Bool.{ltb-false, ltb-true, le-ltb, lt-ltb, cases_lt}
use Rattle.std.proofs.lemmas.Nat.{le_bytes_4, le_bytes_8}
use Rattle.std.specs.Int.{w32, w64, from_le_bytes}
use Rattle.std.specs.List.{AllByRecursion}
use Rattle.byteorder.specs.Endian.{little_bytes, little_number}
use Rattle.byteorder.specs.Numbers.{little_from-append, little_from-lt, little_from-take, little_number-reads_back}
use Rattle.reql_wire.specs.declared.frame.Frame.{Frame}
use Rattle.reql_wire.specs.Frames.{Fits, NoFrame, BeginsWith, Over, header, spelling, spellings, Front, More, Whole, TooLong, front, length_of, token_of, IsBytes}

pub length-header : (token len : ℕ) → length (header token len) ≡ 12
unfolding header
length-header token len = refl

pub token_of-header : (token len : ℕ) (rest : List ℕ) → token < 2 ^ 64 → token_of (header token len ++ rest) ≡ token
unfolding header
token_of-header token len rest h = little_number-reads_back 8 token (little_bytes 4 len ++ rest) h

pub length_of-header : (token len : ℕ) (rest : List ℕ) → len < 2 ^ 32 → length_of (header token len ++ rest) ≡ len
unfolding header
length_of-header token len rest h = little_number-reads_back 4 len rest h

pub drop-header : (token len n : ℕ) (rest : List ℕ) → drop (12 + n) (header token len ++ rest) ≡ drop n rest
drop-header token len n rest = subst (λ k. drop (k + n) (header token len ++ rest) ≡ drop n rest) (length-header token len) (drop-append-add (header token len) rest n)

pub drop-header-12 : (token len : ℕ) (rest : List ℕ) → drop 12 (header token len ++ rest) ≡ rest
drop-header-12 token len rest = subst (λ k. drop k (header token len ++ rest) ≡ rest) (length-header token len) (drop-append_seam (header token len) rest)

-- the front of bytes that are long enough
pub front_whole : (limit : ℕ) (bytes : List ℕ) → 12 ≤ length bytes → length_of bytes ≤ limit → 12 + length_of bytes ≤ length bytes → front limit bytes ≡ Whole (record { token = token_of bytes; body = take (length_of bytes) (drop 12 bytes) }) (drop (12 + length_of bytes) bytes)
unfolding front
front_whole limit bytes a b d = rw (le-ltb (length bytes) 12 a, le-ltb limit (length_of bytes) b, le-ltb (length bytes) (12 + length_of bytes) d) refl

pub front_spelling : (limit : ℕ) (m : Frame) (rest : List ℕ) → limit < 2 ^ 32 → Fits limit m → front limit (spelling m ++ rest) ≡ Whole m rest
front_spelling limit m rest h f =
    let text : spelling m ++ rest ≡ header m.token (length m.body) ++ (m.body ++ rest) = append_assoc (header m.token (length m.body)) m.body rest in
    let len : length_of (header m.token (length m.body) ++ (m.body ++ rest)) ≡ length m.body = length_of-header m.token (length m.body) (m.body ++ rest) (omega (arith, f.body)) in
    let size : length (header m.token (length m.body) ++ (m.body ++ rest)) ≡ 12 + (length m.body + length rest) = omega (arith, length-append (header m.token (length m.body)) (m.body ++ rest), length-append m.body rest, length-header m.token (length m.body)) in
    let whole = front_whole limit (header m.token (length m.body) ++ (m.body ++ rest)) (omega arith) (omega (arith, f.body)) (omega arith) in
    ap (front limit) text ∙ whole ∙ rw (len, token_of-header m.token (length m.body) (m.body ++ rest) f.token, drop-header-12 m.token (length m.body) (m.body ++ rest), drop-header m.token (length m.body) (length m.body) (m.body ++ rest), take-append_seam m.body rest, drop-append_seam m.body rest) refl

-- bytes that begin with a part of 8 and a part of 4
parts : (a b bytes : List ℕ) → a ≡ take 8 bytes → b ≡ take 4 (drop 8 bytes) → (a ++ b) ++ drop 12 bytes ≡ bytes
parts a b bytes p q =
    ap (λ x. (x ++ b) ++ drop 12 bytes) p ∙ ap (λ x. (take 8 bytes ++ x) ++ drop 12 bytes) q
    ∙ append_assoc (take 8 bytes) (take 4 (drop 8 bytes)) (drop 12 bytes)
    ∙ ap (λ x. take 8 bytes ++ (take 4 (drop 8 bytes) ++ x)) (sym (drop-drop 4 8 bytes))
    ∙ ap (λ x. take 8 bytes ++ x) (take-append-drop 4 (drop 8 bytes))
    ∙ take-append-drop 8 bytes

bytes_take : (n : ℕ) (bytes : List ℕ) → IsBytes bytes → IsBytes (take n bytes)
bytes_take n bytes each i = elim (cases_lt i n) [
  | inl h ↦ rw (get_or-take n bytes i 0 h) (each i)
  | inr h ↦ rw (get_or_past (take n bytes) i 0 (omega (arith, length-take n bytes))) (omega arith)
]

pub bytes_drop : (n : ℕ) (bytes : List ℕ) → IsBytes bytes → IsBytes (drop n bytes)
bytes_drop n bytes each i = rw (get_or-drop n bytes i 0) (each (n + i))

token_small : (bytes : List ℕ) → IsBytes bytes → token_of bytes < 2 ^ 64
token_small bytes each = little_from-lt 0 8 bytes each

-- the two ways to say the number of some bytes
number_of_8 : (bytes : List ℕ) → little_number 8 bytes ≡ from_le_bytes w64 bytes
number_of_8 bytes = omega arith

number_of_4 : (bytes : List ℕ) → little_number 4 bytes ≡ from_le_bytes w32 bytes
number_of_4 bytes = omega arith

-- long bytes begin with the bytes of the number that they have
bytes_8 : (bytes : List ℕ) → IsBytes bytes → 8 ≤ length bytes → little_bytes 8 (little_number 8 bytes) ≡ take 8 bytes
bytes_8 bytes each h = le_bytes_8 (take 8 bytes) (little_number 8 bytes) (length-take-le 8 bytes h) (bytes_take 8 bytes each) (sym (little_from-take 0 8 8 bytes (omega arith)) ∙ number_of_8 (take 8 bytes))

pub bytes_4 : (bytes : List ℕ) → IsBytes bytes → 4 ≤ length bytes → little_bytes 4 (little_number 4 bytes) ≡ take 4 bytes
bytes_4 bytes each h = le_bytes_4 (take 4 bytes) (little_number 4 bytes) (length-take-le 4 bytes h) (bytes_take 4 bytes each) (sym (little_from-take 0 4 4 bytes (omega arith)) ∙ number_of_4 (take 4 bytes))

-- long bytes begin with the header that they have
header_there : (bytes : List ℕ) → IsBytes bytes → 12 ≤ length bytes → header (token_of bytes) (length_of bytes) ++ drop 12 bytes ≡ bytes
unfolding header
header_there bytes each h =
    parts (little_bytes 8 (token_of bytes)) (little_bytes 4 (length_of bytes)) bytes
    (bytes_8 bytes each (omega arith))
    (bytes_4 (drop 8 bytes) (bytes_drop 8 bytes each) (omega (arith, length-drop 8 bytes)))

pub chosen : {A : Type 0} (b : Bool) (x y z : A) → cond b x y ≡ z → ((b ≡ true) × (x ≡ z)) ⊎ ((b ≡ false) × (y ≡ z))
chosen true x y z h = inl (refl, h)
chosen false x y z h = inr (refl, h)

-- what a whole frame at the front says of the bytes
pub record IsFront (limit : ℕ) (bytes : List ℕ) (m : Frame) (rest : List ℕ) : Type 0 where
  pub room : 12 ≤ length bytes
  pub small : length_of bytes ≤ limit
  pub there : 12 + length_of bytes ≤ length bytes
  pub token : m.token ≡ token_of bytes
  pub body : m.body ≡ take (length_of bytes) (drop 12 bytes)
  pub left : rest ≡ drop (12 + length_of bytes) bytes

is_front : (limit : ℕ) (bytes : List ℕ) (m : Frame) (rest : List ℕ) → front limit bytes ≡ Whole m rest → IsFront limit bytes m rest
unfolding front
is_front limit bytes m rest h =
    elim (chosen (ltb (length bytes) 12) _ _ _ h) [
      | inl p ↦ absurd (let e : More ≡ Whole m rest = p.1 in cc)
      | inr p ↦ elim (chosen (ltb limit (length_of bytes)) _ _ _ p.1) [
        | inl q ↦ absurd (let e : TooLong (length_of bytes) ≡ Whole m rest = q.1 in cc)
        | inr q ↦ elim (chosen (ltb (length bytes) (12 + length_of bytes)) _ _ _ q.1) [
          | inl r ↦ absurd (let e : More ≡ Whole m rest = r.1 in cc)
          | inr r ↦
              let e : Whole (record { token = token_of bytes; body = take (length_of bytes) (drop 12 bytes) }) (drop (12 + length_of bytes) bytes) ≡ Whole m rest = r.1 in
              let f : record { token = token_of bytes; body = take (length_of bytes) (drop 12 bytes) } ≡ m = cc in
              record {
                room = ltb-false _ _ p.0;
                small = ltb-false _ _ q.0;
                there = ltb-false _ _ r.0;
                token = sym (ap (λ (x : Frame). x.token) f);
                body = sym (ap (λ (x : Frame). x.body) f);
                left = cc;
              }
        ]
      ]
    ]

pub spelled_there : (limit : ℕ) (bytes : List ℕ) (m : Frame) (rest : List ℕ) → IsBytes bytes → front limit bytes ≡ Whole m rest → (bytes ≡ spelling m ++ rest) × Fits limit m × IsBytes rest
spelled_there limit bytes m rest each h =
    let f = is_front limit bytes m rest h in
    let size : length m.body ≡ length_of bytes = ap length f.body ∙ length-take-le (length_of bytes) (drop 12 bytes) (omega (arith, length-drop 12 bytes)) in
    let whole : m.body ++ rest ≡ drop 12 bytes = ap (λ x. x ++ rest) f.body ∙ ap (λ x. take (length_of bytes) (drop 12 bytes) ++ x) (f.left ∙ sym (drop-drop (length_of bytes) 12 bytes)) ∙ take-append-drop (length_of bytes) (drop 12 bytes) in (
      sym (append_assoc (header m.token (length m.body)) m.body rest ∙ ap (λ x. header m.token (length m.body) ++ x) whole ∙ rw (f.token, size) (header_there bytes each f.room)),
      record { token = rw f.token (token_small bytes each); body = omega arith },
      rw f.left (bytes_drop (12 + length_of bytes) bytes each),
    )

-- the same, from the tests of the code
pub there_whole : (limit token len : ℕ) (bytes : List ℕ) → token ≡ token_of bytes → len ≡ length_of bytes → 12 ≤ length bytes → len ≤ limit → 12 + len ≤ length bytes →
    (12 + len ≤ length bytes) × (front limit bytes ≡ Whole (record { token = token; body = take (12 + len - 12) (drop 12 bytes) }) (drop (12 + len) bytes))
there_whole limit token len bytes p q a b d =
    let e : 12 + len - 12 ≡ len = omega arith in
    (d, rw (e, p, q) (front_whole limit bytes a (rw (← q) b) (rw (← q) d)))

pub there_spelled : (limit token len : ℕ) (bytes : List ℕ) → IsBytes bytes → token ≡ token_of bytes → len ≡ length_of bytes → 12 ≤ length bytes → len ≤ limit → 12 + len ≤ length bytes →
    (bytes ≡ spelling (record { token = token; body = take (12 + len - 12) (drop 12 bytes) }) ++ drop (12 + len) bytes) × Fits limit (record { token = token; body = take (12 + len - 12) (drop 12 bytes) })
there_spelled limit token len bytes each p q a b d =
    let e : 12 + len - 12 ≡ len = omega arith in
    let s = spelled_there limit bytes (record { token = token_of bytes; body = take (length_of bytes) (drop 12 bytes) }) (drop (12 + length_of bytes) bytes) each (front_whole limit bytes a (rw (← q) b) (rw (← q) d)) in
    rw (e, p, q) (s.0, s.1)

-- where no whole frame is read, none is spelled
pub no_frame : (limit : ℕ) (bytes : List ℕ) → limit < 2 ^ 32 → ((frame : Frame) (rest : List ℕ) → front limit bytes ≡ Whole frame rest → ⊥) → NoFrame limit bytes
no_frame limit bytes h none frame rest fits e = none frame rest (ap (front limit) e ∙ front_spelling limit frame rest h fits)

pub more_no_frame : (limit : ℕ) (bytes : List ℕ) → limit < 2 ^ 32 → front limit bytes ≡ More → NoFrame limit bytes
more_no_frame limit bytes h e = no_frame limit bytes h (λ frame rest w. cc)

pub too_long_over : (limit : ℕ) (bytes : List ℕ) (len : ℕ) → front limit bytes ≡ TooLong len → Over limit bytes len
unfolding front
too_long_over limit bytes len h =
    elim (chosen (ltb (length bytes) 12) _ _ _ h) [
      | inl p ↦ absurd (let e : More ≡ TooLong len = p.1 in cc)
      | inr p ↦ elim (chosen (ltb limit (length_of bytes)) _ _ _ p.1) [
        | inl q ↦
            let e : TooLong (length_of bytes) ≡ TooLong len = q.1 in
            let f : length_of bytes ≡ len = cc in
            record { room = ltb-false _ _ p.0; field = f; above = rw (← f) (ltb-true _ _ q.0) }
        | inr q ↦ elim (chosen (ltb (length bytes) (12 + length_of bytes)) _ _ _ q.1) [
          | inl r ↦ absurd (let e : More ≡ TooLong len = r.1 in cc)
          | inr r ↦ absurd (let e : Whole (record { token = token_of bytes; body = take (length_of bytes) (drop 12 bytes) }) (drop (12 + length_of bytes) bytes) ≡ TooLong len = r.1 in cc)
        ]
      ]
    ]

pub over_too_long : (limit : ℕ) (bytes : List ℕ) (len : ℕ) → Over limit bytes len → front limit bytes ≡ TooLong len
unfolding front
over_too_long limit bytes len o =
    let above : limit < length_of bytes = omega arith in
    rw (le-ltb (length bytes) 12 o.room, lt-ltb limit (length_of bytes) above) (ap TooLong o.field)

pub over_no_frame : (limit : ℕ) (bytes : List ℕ) (len : ℕ) → limit < 2 ^ 32 → Over limit bytes len → NoFrame limit bytes
over_no_frame limit bytes len h o = let e = over_too_long limit bytes len o in no_frame limit bytes h (λ frame rest w. cc)

-- a header that is too long stands when more comes
pub over_stands : (limit : ℕ) (bytes more : List ℕ) (len : ℕ) → Over limit bytes len → Over limit (bytes ++ more) len
over_stands limit bytes more len o =
    let same : length_of (bytes ++ more) ≡ length_of bytes = rw (drop-append-le 8 bytes more (omega (arith, o.room))) (little_from-append 4 (drop 8 bytes) more (omega (arith, o.room, length-drop 8 bytes))) in
    record { room = omega (arith, o.room, length-append bytes more); field = same ∙ o.field; above = o.above }

fronts_of : (limit : ℕ) (bytes : List ℕ) (f : Front) → IsBytes bytes → NoFrame limit bytes → front limit bytes ≡ f → (front limit bytes ≡ More) ⊎ ((len : ℕ) × Over limit bytes len)
fronts_of limit bytes More each none e = inl e
fronts_of limit bytes (Whole frame rest) each none e = let s = spelled_there limit bytes frame rest each e in absurd (none frame rest s.1 s.0)
fronts_of limit bytes (TooLong len) each none e = inr (len, too_long_over limit bytes len e)

pub no_frame_fronts : (limit : ℕ) (bytes : List ℕ) → IsBytes bytes → NoFrame limit bytes → (front limit bytes ≡ More) ⊎ ((len : ℕ) × Over limit bytes len)
no_frame_fronts limit bytes each none = fronts_of limit bytes (front limit bytes) each none refl

-- fewer bytes than a header has
pub short_more : (limit : ℕ) (bytes : List ℕ) → length bytes < 12 → front limit bytes ≡ More
unfolding front
short_more limit bytes h = rw (lt-ltb (length bytes) 12 h) refl

-- a header, and not all of the body
pub part_more : (limit : ℕ) (bytes : List ℕ) → 12 ≤ length bytes → length_of bytes ≤ limit → length bytes < 12 + length_of bytes → front limit bytes ≡ More
unfolding front
part_more limit bytes a b d = rw (le-ltb (length bytes) 12 a, le-ltb limit (length_of bytes) b, lt-ltb (length bytes) (12 + length_of bytes) d) refl

-- bytes have one reading
pub once : (limit : ℕ) (fs gs : List Frame) (a b : List ℕ) → limit < 2 ^ 32 → AllByRecursion (Fits limit) fs → AllByRecursion (Fits limit) gs → NoFrame limit a → NoFrame limit b → spellings fs ++ a ≡ spellings gs ++ b → (fs ≡ gs) × (a ≡ b)
once limit [] [] a b h p q na nb e = (refl, e)
once limit [] (g ∷ gs) a b h p q na nb e = absurd (na g (spellings gs ++ b) q.0 (e ∙ append_assoc (spelling g) (spellings gs) b))
once limit (f ∷ fs) [] a b h p q na nb e = absurd (nb f (spellings fs ++ a) p.0 (sym e ∙ append_assoc (spelling f) (spellings fs) a))
once limit (f ∷ fs) (g ∷ gs) a b h p q na nb e =
    let both : spelling f ++ (spellings fs ++ a) ≡ spelling g ++ (spellings gs ++ b) = sym (append_assoc (spelling f) (spellings fs) a) ∙ e ∙ append_assoc (spelling g) (spellings gs) b in
    let same : Whole f (spellings fs ++ a) ≡ Whole g (spellings gs ++ b) = sym (front_spelling limit f (spellings fs ++ a) h p.0) ∙ ap (front limit) both ∙ front_spelling limit g (spellings gs ++ b) h q.0 in
    let first : f ≡ g = cc in
    let after : spellings fs ++ a ≡ spellings gs ++ b = cc in
    let others = once limit fs gs a b h p.1 q.1 na nb after in
    (ap (λ x. x ∷ fs) first ∙ ap (λ xs. g ∷ xs) others.0, others.1)

-- frames whose bytes begin with those of others
pub first_of : (limit : ℕ) (fs gs : List Frame) (rest : List ℕ) → limit < 2 ^ 32 → AllByRecursion (Fits limit) fs → AllByRecursion (Fits limit) gs → spellings fs ≡ spellings gs ++ rest → BeginsWith limit fs gs rest
first_of limit fs [] rest h p q e = record { left = fs; each = p; first = refl; spelled = sym e }
first_of limit [] (g ∷ gs) rest h p q e =
    absurd (omega (arith, ap length e, length-append (spelling g ++ spellings gs) rest, length-append (spelling g) (spellings gs), length-append (header g.token (length g.body)) g.body, length-header g.token (length g.body)))
first_of limit (f ∷ fs) (g ∷ gs) rest h p q e =
    let both : spelling f ++ spellings fs ≡ spelling g ++ (spellings gs ++ rest) = e ∙ append_assoc (spelling g) (spellings gs) rest in
    let same : Whole f (spellings fs) ≡ Whole g (spellings gs ++ rest) = sym (front_spelling limit f (spellings fs) h p.0) ∙ ap (front limit) both ∙ front_spelling limit g (spellings gs ++ rest) h q.0 in
    let first : f ≡ g = cc in
    let after : spellings fs ≡ spellings gs ++ rest = cc in
    let others = first_of limit fs gs rest h p.1 q.1 after in
    record { left = others.left; each = others.each; first = ap (λ x. x ∷ fs) first ∙ ap (λ xs. g ∷ xs) others.first; spelled = others.spelled }
