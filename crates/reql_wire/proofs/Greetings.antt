use Rattle.std.proofs.Common.{◌≡◌, ℕ, ◌+◌, ◌-◌, ◌<◌, ◌≤◌, ◌^◌, List, [], ◌∷◌, ◌++◌, length, take, drop, min, lit<, refl, sym, ap, subst, ◌∙◌, arith, append_assoc, length-append, length-drop, Bool, true, false, cond, ltb, eqb, inl, inr}
use Rattle.std.proofs.lemmas.List.{take_min, take_all, take_at, take-take, take-append-le, take-append-drop, drop-append-le, drop_at, drop-drop, length-take, length-take-le}
use Rattle.std.proofs.lemmas.Slice.Eq.{bytes_eq-Decides}
use Rattle.std.specs.Str.{bytes_eq}
use Rattle.std.proofs.Math.Seq.{take-append-add, drop-append-add}
use Rattle.std.proofs.lemmas.Bool.{cases_lt, ltb-false, ltb-true, le-ltb, lt-ltb, eqb-true, eq-eqb}
use Rattle.byteorder.specs.Numbers.{little_from-append, little_number-reads_back}
use Rattle.reql_wire.specs.Frames.{IsBytes}
use Rattle.reql_wire.specs.Greeting.{kept, field, field_at, version, protocol, longest_key, longest_greeting, greeting_by, protocol_verdict, key_verdict, length_verdict, login_version, other_verdict, verdict_of, Greets, Begins, EndsIn, CallsIn, Answers, Listening}
use Rattle.reql_wire.specs.declared.greeter.Greeting.{Greeting}
use Rattle.reql_wire.specs.declared.greeter.Greeting.TheVariants as greeting
use Rattle.reql_wire.specs.declared.greeter.GreetFault.TheVariants as fault
use Rattle.reql_wire.proofs.Fronts.{chosen, bytes_4, bytes_drop}

-- fields

pub length-field : (n : ℕ) → length (field n) ≡ 4
unfolding field
length-field n = refl

-- a field is read back
pub field_at-field : (front rest : List ℕ) (place n : ℕ) → length front ≡ place → n < 2 ^ 32 → field_at place (front ++ (field n ++ rest)) ≡ n
unfolding field field_at
field_at-field front rest place n e h =
    rw (drop_at front (field n ++ rest) place e) (little_number-reads_back 4 n rest h)

-- a field that is there stays
pub field_at-append : (place : ℕ) (bytes more : List ℕ) → place + 4 ≤ length bytes → field_at place (bytes ++ more) ≡ field_at place bytes
unfolding field_at
field_at-append place bytes more h =
    rw (drop-append-le place bytes more (omega arith)) (little_from-append 4 (drop place bytes) more (omega (arith, length-drop place bytes)))

-- a field that is there is spelled so
field_there : (place : ℕ) (bytes : List ℕ) → IsBytes bytes → place + 4 ≤ length bytes → field (field_at place bytes) ≡ take 4 (drop place bytes)
unfolding field field_at
field_there place bytes each h = bytes_4 (drop place bytes) (bytes_drop place bytes each) (omega (arith, length-drop place bytes))

-- a verdict stays when more bytes come

cond_stays : {A : Type 0} (b : Bool) (x y z w : A) → (cond b x z ≡ w → ⊥) → ((x ≡ w → ⊥) → y ≡ x) → cond b y z ≡ cond b x z
cond_stays true x y z w n f = f n
cond_stays false x y z w n f = refl

protocol_stays : (len : ℕ) (bytes more : List ℕ) → (protocol_verdict len bytes ≡ greeting.More → ⊥) → protocol_verdict len (bytes ++ more) ≡ protocol_verdict len bytes
unfolding protocol_verdict
protocol_stays len bytes more n = elim (cases_lt (length bytes) (12 + len)) [
  | inl short ↦ absurd (n (rw (lt-ltb (length bytes) (12 + len) short) refl))
  | inr long ↦
      rw (
        le-ltb (length bytes) (12 + len) long,
        le-ltb (length (bytes ++ more)) (12 + len) (omega (arith, length-append bytes more)),
        field_at-append (8 + len) bytes more (omega arith),
      ) refl
]

key_stays : (key : List ℕ) (len : ℕ) (bytes more : List ℕ) → (key_verdict key len bytes ≡ greeting.More → ⊥) → key_verdict key len (bytes ++ more) ≡ key_verdict key len bytes
unfolding key_verdict
key_stays key len bytes more n = elim (cases_lt (length bytes) (8 + len)) [
  | inl short ↦ absurd (n (rw (lt-ltb (length bytes) (8 + len) short) refl))
  | inr long ↦
      let there : take len (drop 8 (bytes ++ more)) ≡ take len (drop 8 bytes) =
      ap (take len) (drop-append-le 8 bytes more (omega arith)) ∙ take-append-le len (drop 8 bytes) more (omega (arith, length-drop 8 bytes)) in
      let test = le-ltb (length bytes) (8 + len) long in
      rw (test, le-ltb (length (bytes ++ more)) (8 + len) (omega (arith, length-append bytes more)), there)
      (cond_stays (bytes_eq (take len (drop 8 bytes)) key) (protocol_verdict len bytes) (protocol_verdict len (bytes ++ more)) (greeting.Refused fault.BadKey) greeting.More
      (λ e. n (rw test e)) (protocol_stays len bytes more))
]

length_stays : (key bytes more : List ℕ) → (length_verdict key bytes ≡ greeting.More → ⊥) → length_verdict key (bytes ++ more) ≡ length_verdict key bytes
unfolding length_verdict
length_stays key bytes more n = elim (cases_lt (length bytes) 8) [
  | inl short ↦ absurd (n (rw (lt-ltb (length bytes) 8 short) refl))
  | inr long ↦
      let test = le-ltb (length bytes) 8 long in
      let kept = field_at-append 4 bytes more (omega arith) in
      elim (cases_lt 1024 (field_at 4 bytes)) [
        | inl above ↦
            rw (test, le-ltb (length (bytes ++ more)) 8 (omega (arith, length-append bytes more)), kept, lt-ltb 1024 (field_at 4 bytes) above) refl
        | inr within ↦
            let limit = le-ltb 1024 (field_at 4 bytes) within in
            rw (test, le-ltb (length (bytes ++ more)) 8 (omega (arith, length-append bytes more)), kept, limit)
            (key_stays key (field_at 4 bytes) bytes more (λ e. n (rw (test, limit) e)))
      ]
]

pub stays : (key bytes more : List ℕ) → (verdict_of key bytes ≡ greeting.More → ⊥) → verdict_of key (bytes ++ more) ≡ verdict_of key bytes
unfolding verdict_of
stays key bytes more n = elim (cases_lt (length bytes) 4) [
  | inl short ↦ absurd (n (rw (lt-ltb (length bytes) 4 short) refl))
  | inr long ↦
      let test = le-ltb (length bytes) 4 long in
      rw (test, le-ltb (length (bytes ++ more)) 4 (omega (arith, length-append bytes more)), field_at-append 0 bytes more (omega arith))
      (cond_stays (eqb (field_at 0 bytes) version) (length_verdict key bytes) (length_verdict key (bytes ++ more)) (other_verdict (field_at 0 bytes)) greeting.More
      (λ e. n (rw test e)) (length_stays key bytes more))
]

-- another version decides, and isn't accepted

other_decided : (got : ℕ) → other_verdict got ≡ greeting.More → ⊥
unfolding other_verdict
other_decided got h = elim (chosen (eqb got login_version) _ _ _ h) [
  | inl p ↦ let e : greeting.Login 4 ≡ greeting.More = p.1 in cc
  | inr p ↦ let e : greeting.Refused (fault.BadVersion got) ≡ greeting.More = p.1 in cc
]

other_not_accepted : (got used : ℕ) → other_verdict got ≡ greeting.Accepted used → ⊥
unfolding other_verdict
other_not_accepted got used h = elim (chosen (eqb got login_version) _ _ _ h) [
  | inl p ↦ let e : greeting.Login 4 ≡ greeting.Accepted used = p.1 in cc
  | inr p ↦ let e : greeting.Refused (fault.BadVersion got) ≡ greeting.Accepted used = p.1 in cc
]

-- where more is wanted, few bytes are there

protocol_more : (len : ℕ) (bytes : List ℕ) → protocol_verdict len bytes ≡ greeting.More → length bytes < 12 + len
unfolding protocol_verdict
protocol_more len bytes h = elim (chosen (ltb (length bytes) (12 + len)) _ _ _ h) [
  | inl p ↦ ltb-true _ _ p.0
  | inr p ↦ elim (chosen (eqb (field_at (8 + len) bytes) protocol) _ _ _ p.1) [
    | inl q ↦ absurd (let e : greeting.Accepted (12 + len) ≡ greeting.More = q.1 in cc)
    | inr q ↦ absurd (let e : greeting.Refused (fault.BadProtocol (field_at (8 + len) bytes)) ≡ greeting.More = q.1 in cc)
  ]
]

key_more : (key : List ℕ) (len : ℕ) (bytes : List ℕ) → key_verdict key len bytes ≡ greeting.More → length bytes < 12 + len
unfolding key_verdict
key_more key len bytes h = elim (chosen (ltb (length bytes) (8 + len)) _ _ _ h) [
  | inl p ↦ omega (arith, ltb-true _ _ p.0)
  | inr p ↦ elim (chosen (bytes_eq (take len (drop 8 bytes)) key) _ _ _ p.1) [
    | inl q ↦ protocol_more len bytes q.1
    | inr q ↦ absurd (let e : greeting.Refused fault.BadKey ≡ greeting.More = q.1 in cc)
  ]
]

length_more : (key bytes : List ℕ) → length_verdict key bytes ≡ greeting.More → length bytes < longest_greeting
unfolding length_verdict
length_more key bytes h = elim (chosen (ltb (length bytes) 8) _ _ _ h) [
  | inl p ↦ omega (arith, ltb-true _ _ p.0)
  | inr p ↦ elim (chosen (ltb 1024 (field_at 4 bytes)) _ _ _ p.1) [
    | inl q ↦ absurd (let e : greeting.Refused (fault.KeyTooLong (field_at 4 bytes)) ≡ greeting.More = q.1 in cc)
    | inr q ↦ omega (arith, ltb-false _ _ q.0, key_more key (field_at 4 bytes) bytes q.1)
  ]
]

pub more_short : (key bytes : List ℕ) → Greets key bytes greeting.More → length bytes < longest_greeting
unfolding verdict_of
more_short key bytes h = elim (chosen (ltb (length bytes) 4) _ _ _ h) [
  | inl p ↦ omega (arith, ltb-true _ _ p.0)
  | inr p ↦ elim (chosen (eqb (field_at 0 bytes) version) _ _ _ p.1) [
    | inl q ↦ length_more key bytes q.1
    | inr q ↦ absurd (other_decided (field_at 0 bytes) q.1)
  ]
]

-- what an accepted greeting says of its fields

pub record IsWhole (key bytes : List ℕ) (used : ℕ) : Type 0 where
  pub version_is : field_at 0 bytes ≡ version
  pub key_fits : field_at 4 bytes ≤ longest_key
  pub key_is : take (field_at 4 bytes) (drop 8 bytes) ≡ key
  pub there : 12 + field_at 4 bytes ≤ length bytes
  pub protocol_is : field_at (8 + field_at 4 bytes) bytes ≡ protocol
  pub used_is : used ≡ 12 + field_at 4 bytes

protocol_whole : (len : ℕ) (bytes : List ℕ) (used : ℕ) → protocol_verdict len bytes ≡ greeting.Accepted used → (12 + len ≤ length bytes) × (field_at (8 + len) bytes ≡ protocol) × (used ≡ 12 + len)
unfolding protocol_verdict
protocol_whole len bytes used h = elim (chosen (ltb (length bytes) (12 + len)) _ _ _ h) [
  | inl p ↦ absurd (let e : greeting.More ≡ greeting.Accepted used = p.1 in cc)
  | inr p ↦ elim (chosen (eqb (field_at (8 + len) bytes) protocol) _ _ _ p.1) [
    | inl q ↦ let e : greeting.Accepted (12 + len) ≡ greeting.Accepted used = q.1 in (ltb-false _ _ p.0, eqb-true _ _ q.0, cc)
    | inr q ↦ absurd (let e : greeting.Refused (fault.BadProtocol (field_at (8 + len) bytes)) ≡ greeting.Accepted used = q.1 in cc)
  ]
]

key_whole : (key : List ℕ) (len : ℕ) (bytes : List ℕ) (used : ℕ) → key_verdict key len bytes ≡ greeting.Accepted used →
    (take len (drop 8 bytes) ≡ key) × (12 + len ≤ length bytes) × (field_at (8 + len) bytes ≡ protocol) × (used ≡ 12 + len)
unfolding key_verdict
key_whole key len bytes used h = elim (chosen (ltb (length bytes) (8 + len)) _ _ _ h) [
  | inl p ↦ absurd (let e : greeting.More ≡ greeting.Accepted used = p.1 in cc)
  | inr p ↦ elim (chosen (bytes_eq (take len (drop 8 bytes)) key) _ _ _ p.1) [
    | inl q ↦ let w = protocol_whole len bytes used q.1 in ((bytes_eq-Decides (take len (drop 8 bytes)) key).0 q.0, w.0, w.1, w.2)
    | inr q ↦ absurd (let e : greeting.Refused fault.BadKey ≡ greeting.Accepted used = q.1 in cc)
  ]
]

pub whole : (key bytes : List ℕ) (used : ℕ) → Greets key bytes (greeting.Accepted used) → IsWhole key bytes used
unfolding verdict_of length_verdict
whole key bytes used h = elim (chosen (ltb (length bytes) 4) _ _ _ h) [
  | inl p ↦ absurd (let e : greeting.More ≡ greeting.Accepted used = p.1 in cc)
  | inr p ↦ elim (chosen (eqb (field_at 0 bytes) version) _ _ _ p.1) [
    | inr q ↦ absurd (other_not_accepted (field_at 0 bytes) used q.1)
    | inl q ↦ elim (chosen (ltb (length bytes) 8) _ _ _ q.1) [
      | inl r ↦ absurd (let e : greeting.More ≡ greeting.Accepted used = r.1 in cc)
      | inr r ↦ elim (chosen (ltb 1024 (field_at 4 bytes)) _ _ _ r.1) [
        | inl s ↦ absurd (let e : greeting.Refused (fault.KeyTooLong (field_at 4 bytes)) ≡ greeting.Accepted used = s.1 in cc)
        | inr s ↦
            let w = key_whole key (field_at 4 bytes) bytes used s.1 in
            record {
              version_is = eqb-true _ _ q.0;
              key_fits = ltb-false _ _ s.0;
              key_is = w.0;
              there = w.1;
              protocol_is = w.2;
              used_is = w.3;
            }
      ]
    ]
  ]
]

-- the greeting by a key

pub length-greeting_by : (key : List ℕ) → length (greeting_by key) ≡ 12 + length key
unfolding greeting_by
length-greeting_by key = omega (
  arith,
  length-append (field version) (field (length key) ++ (key ++ field protocol)),
  length-append (field (length key)) (key ++ field protocol),
  length-append key (field protocol),
  length-field version,
  length-field (length key),
  length-field protocol,
)

-- bytes in five parts
five : (len : ℕ) (bytes a b c d : List ℕ) → a ≡ take 4 bytes → b ≡ take 4 (drop 4 bytes) → c ≡ take len (drop 8 bytes) → d ≡ take 4 (drop (8 + len) bytes) → (a ++ (b ++ (c ++ d))) ++ drop (12 + len) bytes ≡ bytes
five len bytes a b c d p q r s =
    let last : take 4 (drop (8 + len) bytes) ++ drop (12 + len) bytes ≡ drop (8 + len) bytes =
    ap (λ t. take 4 (drop (8 + len) bytes) ++ t) (subst (λ n. drop n bytes ≡ drop 4 (drop (8 + len) bytes)) (let e : 8 + len + 4 ≡ 12 + len = omega arith in e) (sym (drop-drop 4 (8 + len) bytes)))
    ∙ take-append-drop 4 (drop (8 + len) bytes) in
    let third : take len (drop 8 bytes) ++ drop (8 + len) bytes ≡ drop 8 bytes =
    ap (λ t. take len (drop 8 bytes) ++ t) (sym (drop-drop len 8 bytes)) ∙ take-append-drop len (drop 8 bytes) in
    let second : take 4 (drop 4 bytes) ++ drop 8 bytes ≡ drop 4 bytes =
    ap (λ t. take 4 (drop 4 bytes) ++ t) (sym (drop-drop 4 4 bytes)) ∙ take-append-drop 4 (drop 4 bytes) in
    rw (p, q, r, s)
    (append_assoc (take 4 bytes) (take 4 (drop 4 bytes) ++ (take len (drop 8 bytes) ++ take 4 (drop (8 + len) bytes))) (drop (12 + len) bytes)
    ∙ ap (λ t. take 4 bytes ++ t) (append_assoc (take 4 (drop 4 bytes)) (take len (drop 8 bytes) ++ take 4 (drop (8 + len) bytes)) (drop (12 + len) bytes)
    ∙ ap (λ t. take 4 (drop 4 bytes) ++ t) (append_assoc (take len (drop 8 bytes)) (take 4 (drop (8 + len) bytes)) (drop (12 + len) bytes)
    ∙ ap (λ t. take len (drop 8 bytes) ++ t) last ∙ third) ∙ second)
    ∙ take-append-drop 4 bytes)

-- an accepted greeting is the one by the key
pub spelled : (key bytes : List ℕ) (used : ℕ) → IsBytes bytes → Greets key bytes (greeting.Accepted used) → (used ≡ 12 + length key) × (bytes ≡ greeting_by key ++ drop used bytes)
unfolding greeting_by
spelled key bytes used each h =
    let w = whole key bytes used h in
    let len : field_at 4 bytes ≡ length key =
    sym (length-take-le (field_at 4 bytes) (drop 8 bytes) (omega (arith, w.there, length-drop 8 bytes))) ∙ ap length w.key_is in
    let used_is : used ≡ 12 + length key = omega (arith, w.used_is) in
    let there : 12 + length key ≤ length bytes = omega (arith, w.there) in (
      used_is,
      rw used_is (sym (five (length key) bytes (field version) (field (length key)) key (field protocol)
          (ap field (sym w.version_is) ∙ field_there 0 bytes each (omega arith))
          (ap field (sym len) ∙ field_there 4 bytes each (omega arith))
          (sym w.key_is ∙ ap (λ n. take n (drop 8 bytes)) len)
          (ap field (sym (subst (λ n. field_at (8 + n) bytes ≡ protocol) len w.protocol_is)) ∙ field_there (8 + length key) bytes each (omega arith)))),
    )

pub begins : (key bytes : List ℕ) (verdict : Greeting) → IsBytes bytes → Greets key bytes verdict → Begins key bytes verdict
begins key bytes greeting.More each h = tt
begins key bytes (greeting.Accepted used) each h = spelled key bytes used each h
begins key bytes (greeting.Refused f) each h = tt
begins key bytes (greeting.Login used) each h = tt

pub begins_other : (key bytes : List ℕ) (got : ℕ) (verdict : Greeting) → verdict ≡ other_verdict got → Begins key bytes verdict
begins_other key bytes got greeting.More e = tt
begins_other key bytes got (greeting.Accepted used) e = absurd (other_not_accepted got used (sym e))
begins_other key bytes got (greeting.Refused f) e = tt
begins_other key bytes got (greeting.Login used) e = tt

accepted_by_fields : (key bytes : List ℕ) (used : ℕ) → IsWhole key bytes used → Greets key bytes (greeting.Accepted used)
unfolding verdict_of length_verdict key_verdict protocol_verdict
accepted_by_fields key bytes used w =
    rw (
      le-ltb (length bytes) 4 (omega (arith, w.there)),
      eq-eqb (field_at 0 bytes) version w.version_is,
      le-ltb (length bytes) 8 (omega (arith, w.there)),
      le-ltb 1024 (field_at 4 bytes) w.key_fits,
      le-ltb (length bytes) (8 + field_at 4 bytes) (omega (arith, w.there)),
      (bytes_eq-Decides (take (field_at 4 bytes) (drop 8 bytes)) key).1 w.key_is,
      le-ltb (length bytes) (12 + field_at 4 bytes) w.there,
      eq-eqb (field_at (8 + field_at 4 bytes) bytes) protocol w.protocol_is,
    ) (ap (λ n. greeting.Accepted n) (sym w.used_is))

-- an accepted greeting is accepted by its own bytes alone
pub alone : (key bytes : List ℕ) (used : ℕ) → Greets key bytes (greeting.Accepted used) → (used ≤ length bytes) × Greets key (take used bytes) (greeting.Accepted used)
alone key bytes used h =
    let w = whole key bytes used h in
    let own = take used bytes in
    let more = drop used bytes in
    let len = field_at 4 bytes in
    let both : own ++ more ≡ bytes = take-append-drop used bytes in
    let there : used ≤ length bytes = omega (arith, w.there, w.used_is) in
    let size : length own ≡ used = length-take-le used bytes there in
    let same : field_at 4 own ≡ len = sym (field_at-append 4 own more (omega (arith, w.used_is))) ∙ ap (field_at 4) both in
    let key_there : take len (drop 8 own) ≡ take len (drop 8 bytes) =
    sym (ap (take len) (drop-append-le 8 own more (omega (arith, w.used_is))) ∙ take-append-le len (drop 8 own) more (omega (arith, w.used_is, length-drop 8 own))) ∙ ap (λ t. take len (drop 8 t)) both in (
      there,
      accepted_by_fields key own used (record {
        version_is = sym (field_at-append 0 own more (omega (arith, w.used_is))) ∙ ap (field_at 0) both ∙ w.version_is;
        key_fits = rw same w.key_fits;
        key_is = rw same (key_there ∙ w.key_is);
        there = omega (arith, w.used_is);
        protocol_is = rw same (sym (field_at-append (8 + len) own more (omega (arith, w.used_is))) ∙ ap (field_at (8 + len)) both ∙ w.protocol_is);
        used_is = w.used_is ∙ ap (λ n. 12 + n) (sym same);
      }),
    )

-- the fields of the greeting by a key, whatever follows it
fields_by : (key rest : List ℕ) → length key ≤ longest_key → IsWhole key (field version ++ (field (length key) ++ (key ++ (field protocol ++ rest)))) (12 + length key)
fields_by key rest h =
    let behind = key ++ (field protocol ++ rest) in
    let bytes = field version ++ (field (length key) ++ behind) in
    let in_two : bytes ≡ (field version ++ field (length key)) ++ behind = sym (append_assoc (field version) (field (length key)) behind) in
    let in_three : bytes ≡ ((field version ++ field (length key)) ++ key) ++ (field protocol ++ rest) = in_two ∙ sym (append_assoc (field version ++ field (length key)) key (field protocol ++ rest)) in
    let eight : length (field version ++ field (length key)) ≡ 8 = omega (arith, length-append (field version) (field (length key)), length-field version, length-field (length key)) in
    let len : field_at 4 bytes ≡ length key = field_at-field (field version) behind 4 (length key) (length-field version) (omega arith) in
    let key_is : take (length key) (drop 8 bytes) ≡ key =
    ap (λ t. take (length key) (drop 8 t)) in_two ∙ ap (take (length key)) (drop_at (field version ++ field (length key)) behind 8 eight) ∙ take_at key (field protocol ++ rest) (length key) refl in
    let last : field_at (8 + length key) bytes ≡ protocol =
    ap (field_at (8 + length key)) in_three
    ∙ field_at-field ((field version ++ field (length key)) ++ key) rest (8 + length key) protocol (omega (arith, length-append (field version ++ field (length key)) key)) (omega arith) in
    record {
      version_is = field_at-field [] (field (length key) ++ behind) 0 version refl (omega arith);
      key_fits = rw len h;
      key_is = rw len key_is;
      there = rw len (omega (
        arith,
        ap length in_three,
        length-append ((field version ++ field (length key)) ++ key) (field protocol ++ rest),
        length-append (field version ++ field (length key)) key,
        length-append (field protocol) rest,
        length-field protocol,
      ));
      protocol_is = rw len last;
      used_is = rw len refl;
    }

pub accepted_by : (key rest : List ℕ) → length key ≤ longest_key → Greets key (greeting_by key ++ rest) (greeting.Accepted (12 + length key))
unfolding greeting_by
accepted_by key rest h =
    let flat : (field version ++ (field (length key) ++ (key ++ field protocol))) ++ rest ≡ field version ++ (field (length key) ++ (key ++ (field protocol ++ rest))) =
    append_assoc (field version) (field (length key) ++ (key ++ field protocol)) rest
    ∙ ap (λ t. field version ++ t) (append_assoc (field (length key)) (key ++ field protocol) rest ∙ ap (λ t. field (length key) ++ t) (append_assoc key (field protocol) rest)) in
    ap (verdict_of key) flat ∙ accepted_by_fields key _ (12 + length key) (fields_by key rest h)

-- a greeting is decided by its first bytes

pub cut : (key bytes : List ℕ) → verdict_of key (kept bytes) ≡ verdict_of key bytes
unfolding kept
cut key bytes = elim (cases_lt (length bytes) longest_greeting) [
  | inl short ↦ ap (verdict_of key) (take_all longest_greeting bytes (omega arith))
  | inr long ↦
      let size : length (take longest_greeting bytes) ≡ longest_greeting = length-take-le longest_greeting bytes long in
      sym (stays key (take longest_greeting bytes) (drop longest_greeting bytes) (λ e. absurd (omega (arith, more_short key (take longest_greeting bytes) e))))
      ∙ ap (verdict_of key) (take-append-drop longest_greeting bytes)
]

pub cut_kept : (bytes piece : List ℕ) → kept (kept bytes ++ piece) ≡ kept (bytes ++ piece)
unfolding kept
cut_kept bytes piece = elim (cases_lt (length bytes) longest_greeting) [
  | inl short ↦ ap (λ xs. take longest_greeting (xs ++ piece)) (take_all longest_greeting bytes (omega arith))
  | inr long ↦
      let size : length (take longest_greeting bytes) ≡ longest_greeting = length-take-le longest_greeting bytes long in
      take-append-le longest_greeting (take longest_greeting bytes) piece (omega arith)
      ∙ take_all longest_greeting (take longest_greeting bytes) (omega arith)
      ∙ sym (take-append-le longest_greeting bytes piece long)
]

pub cut_greets : (key bytes piece : List ℕ) (verdict : Greeting) → Greets key (kept bytes ++ piece) verdict → Greets key (bytes ++ piece) verdict
cut_greets key bytes piece verdict h =
    sym (cut key (bytes ++ piece)) ∙ ap (verdict_of key) (sym (cut_kept bytes piece)) ∙ cut key (kept bytes ++ piece) ∙ h

pub stands : (key bytes more : List ℕ) (verdict : Greeting) → (verdict ≡ greeting.More → ⊥) → Greets key bytes verdict → Greets key (bytes ++ more) verdict
stands key bytes more verdict n h = stays key bytes more (λ e. n (sym h ∙ e)) ∙ h

-- a piece after some bytes

-- a list that is filled up to the longest greeting
pub filled : (heard piece : List ℕ) (taken : ℕ) → length heard ≤ longest_greeting → taken ≡ min (length piece) (longest_greeting - length heard) → heard ++ take taken piece ≡ take longest_greeting (heard ++ piece)
filled heard piece taken h e =
    let room : length heard + (longest_greeting - length heard) ≡ longest_greeting = omega arith in
    let least : taken ≡ min (longest_greeting - length heard) (length piece) = omega arith in
    ap (λ n. heard ++ take n piece) least
    ∙ ap (λ xs. heard ++ xs) (take_min (longest_greeting - length heard) piece)
    ∙ sym (take-append-add heard piece (longest_greeting - length heard))
    ∙ ap (λ n. take n (heard ++ piece)) room

-- what begins with the greeting is no part of one
not_more : (key bytes : List ℕ) → length key ≤ longest_key → take (12 + length key) bytes ≡ greeting_by key → Greets key bytes greeting.More → ⊥
not_more key bytes h front more =
    let is : bytes ≡ greeting_by key ++ drop (12 + length key) bytes = sym (take-append-drop (12 + length key) bytes) ∙ ap (λ t. t ++ drop (12 + length key) bytes) front in
    let e : greeting.More ≡ greeting.Accepted (12 + length key) = sym more ∙ ap (verdict_of key) is ∙ accepted_by key (drop (12 + length key) bytes) h in
    cc

-- what is behind a greeting that ends in a piece
behind_it : (key before piece : List ℕ) (used : ℕ) → length key ≤ longest_key → take (12 + length key) (before ++ piece) ≡ greeting_by key → used ≡ 12 + length key - length before
    → Greets key before greeting.More → before ++ piece ≡ greeting_by key ++ drop used piece
behind_it key before piece used h front e more = elim (cases_lt (length before) (12 + length key)) [
  | inr long ↦ absurd (not_more key before h (sym (take-append-le (12 + length key) before piece long) ∙ front) more)
  | inl short ↦
      let whole : length before + used ≡ 12 + length key = omega arith in
      sym (take-append-drop (12 + length key) (before ++ piece))
      ∙ ap (λ t. t ++ drop (12 + length key) (before ++ piece)) front
      ∙ ap (λ t. greeting_by key ++ t) (subst (λ n. drop n (before ++ piece) ≡ drop used piece) whole (drop-append-add before piece used))
]

pub ends_in : (key before piece : List ℕ) (n used : ℕ) → Greets key (kept (before ++ piece)) (greeting.Accepted n) → Begins key (kept (before ++ piece)) (greeting.Accepted n)
    → used ≡ n - length before → EndsIn key before piece used
unfolding kept
ends_in key before piece n used h b e =
    let all = before ++ piece in
    let w = whole key (take longest_greeting all) n h in
    let size : length (take longest_greeting all) ≤ length all = omega (arith, length-take longest_greeting all) in
    let n_fits : n ≤ longest_greeting = omega (arith, w.key_fits, w.used_is) in
    let n_there : n ≤ length all = omega (arith, w.there, w.used_is) in
    let n_is : n ≡ 12 + length key = b.0 in
    let greets : Greets key all (greeting.Accepted (12 + length key)) = sym (cut key all) ∙ h ∙ ap (λ k. greeting.Accepted k) n_is in
    let front : take n all ≡ greeting_by key =
    sym (take-take n longest_greeting all n_fits) ∙ ap (take n) b.1 ∙ take_at (greeting_by key) (drop n (take longest_greeting all)) n (length-greeting_by key ∙ sym n_is) in
    let taken : used ≡ 12 + length key - length before = omega arith in
    record {
      accepted = greets;
      taken = taken;
      within = omega (arith, length-append before piece);
      behind = behind_it key before piece used (omega arith) (subst (λ k. take k all ≡ greeting_by key) n_is front) taken;
    }

-- while more is wanted all bytes are kept
all_kept : (key bytes : List ℕ) → Greets key (kept bytes) greeting.More → kept bytes ≡ bytes
unfolding kept
all_kept key bytes h =
    let short = more_short key bytes (sym (cut key bytes) ∙ h) in
    take_all longest_greeting bytes (omega arith)

-- what a greeter keeps of a piece
pub keeps : (inside heard piece now : List ℕ) (before taken : ℕ) → length inside ≤ longest_greeting → inside ≡ heard → before ≡ length inside → taken ≡ min (length piece) (longest_greeting - before) → now ≡ inside ++ take taken piece → now ≡ kept (heard ++ piece)
unfolding kept
keeps inside heard piece now before taken h is size least e =
    e ∙ filled inside piece taken h (least ∙ ap (λ n. min (length piece) (longest_greeting - n)) size) ∙ ap (λ x. take longest_greeting (x ++ piece)) is

pub listening : (a b x y : List ℕ) → a ≡ b → x ≡ y → (let r : Listening = record { key = a; heard = x } in r) ≡ (let r : Listening = record { key = b; heard = y } in r)
listening a b x y p q = ap (λ k. let r : Listening = record { key = k; heard = x } in r) p ∙ ap (λ h. let r : Listening = record { key = b; heard = h } in r) q

-- the verdict on what is kept, as one on all
greets_all : (key heard piece own now : List ℕ) (verdict : Greeting) → own ≡ key → now ≡ kept (heard ++ piece) → Greets own now verdict → Greets key (heard ++ piece) verdict
greets_all key heard piece own now verdict p q h =
    sym (cut key (heard ++ piece)) ∙ ap (verdict_of key) (sym q) ∙ ap (λ k. verdict_of k now) (sym p) ∙ h

pub accepted_answer : (key heard piece own now : List ℕ) (n used : ℕ) → own ≡ key → now ≡ kept (heard ++ piece) → Greets own now (greeting.Accepted n) → Begins own now (greeting.Accepted n)
    → used ≡ n - length heard → Answers key heard piece (greeting.Accepted used)
accepted_answer key heard piece own now n used p q h b e =
    ends_in key heard piece n used
    (subst (λ k. Greets k (kept (heard ++ piece)) (greeting.Accepted n)) p (subst (λ t. Greets own t (greeting.Accepted n)) q h))
    (subst (λ k. Begins k (kept (heard ++ piece)) (greeting.Accepted n)) p (subst (λ t. Begins own t (greeting.Accepted n)) q b))
    e

pub other_answer : (key heard piece own now : List ℕ) (verdict : Greeting) → own ≡ key → now ≡ kept (heard ++ piece) → Greets own now verdict → ((n : ℕ) → verdict ≡ greeting.Accepted n → ⊥) → ((n : ℕ) → verdict ≡ greeting.Login n → ⊥) → Answers key heard piece verdict
other_answer key heard piece own now greeting.More p q h none never = greets_all key heard piece own now greeting.More p q h
other_answer key heard piece own now (greeting.Accepted n) p q h none never = absurd (none n refl)
other_answer key heard piece own now (greeting.Login n) p q h none never = absurd (never n refl)
other_answer key heard piece own now (greeting.Refused f) p q h none never = greets_all key heard piece own now (greeting.Refused f) p q h

-- ---- the version of a login

-- it is there, where the verdict is that it is
pub record IsCall (bytes : List ℕ) (used : ℕ) : Type 0 where
  pub version_is : field_at 0 bytes ≡ login_version
  pub there : 4 ≤ length bytes
  pub used_is : used ≡ 4

protocol_no_call : (len : ℕ) (bytes : List ℕ) (used : ℕ) → protocol_verdict len bytes ≡ greeting.Login used → ⊥
unfolding protocol_verdict
protocol_no_call len bytes used h = elim (chosen (ltb (length bytes) (12 + len)) _ _ _ h) [
  | inl p ↦ let e : greeting.More ≡ greeting.Login used = p.1 in cc
  | inr p ↦ elim (chosen (eqb (field_at (8 + len) bytes) protocol) _ _ _ p.1) [
    | inl q ↦ let e : greeting.Accepted (12 + len) ≡ greeting.Login used = q.1 in cc
    | inr q ↦ let e : greeting.Refused (fault.BadProtocol (field_at (8 + len) bytes)) ≡ greeting.Login used = q.1 in cc
  ]
]

key_no_call : (key : List ℕ) (len : ℕ) (bytes : List ℕ) (used : ℕ) → key_verdict key len bytes ≡ greeting.Login used → ⊥
unfolding key_verdict
key_no_call key len bytes used h = elim (chosen (ltb (length bytes) (8 + len)) _ _ _ h) [
  | inl p ↦ let e : greeting.More ≡ greeting.Login used = p.1 in cc
  | inr p ↦ elim (chosen (bytes_eq (take len (drop 8 bytes)) key) _ _ _ p.1) [
    | inl q ↦ protocol_no_call len bytes used q.1
    | inr q ↦ let e : greeting.Refused fault.BadKey ≡ greeting.Login used = q.1 in cc
  ]
]

length_no_call : (key bytes : List ℕ) (used : ℕ) → length_verdict key bytes ≡ greeting.Login used → ⊥
unfolding length_verdict
length_no_call key bytes used h = elim (chosen (ltb (length bytes) 8) _ _ _ h) [
  | inl p ↦ let e : greeting.More ≡ greeting.Login used = p.1 in cc
  | inr p ↦ elim (chosen (ltb 1024 (field_at 4 bytes)) _ _ _ p.1) [
    | inl q ↦ let e : greeting.Refused (fault.KeyTooLong (field_at 4 bytes)) ≡ greeting.Login used = q.1 in cc
    | inr q ↦ key_no_call key (field_at 4 bytes) bytes used q.1
  ]
]

other_call : (got used : ℕ) → other_verdict got ≡ greeting.Login used → (got ≡ login_version) × (used ≡ 4)
unfolding other_verdict
other_call got used h = elim (chosen (eqb got login_version) _ _ _ h) [
  | inl p ↦ (eqb-true _ _ p.0, let e : greeting.Login 4 ≡ greeting.Login used = p.1 in let f : used ≡ 4 = cc in f)
  | inr p ↦ absurd (let e : greeting.Refused (fault.BadVersion got) ≡ greeting.Login used = p.1 in cc)
]

pub call : (key bytes : List ℕ) (used : ℕ) → Greets key bytes (greeting.Login used) → IsCall bytes used
unfolding verdict_of
call key bytes used h = elim (chosen (ltb (length bytes) 4) _ _ _ h) [
  | inl p ↦ absurd (let e : greeting.More ≡ greeting.Login used = p.1 in cc)
  | inr p ↦ elim (chosen (eqb (field_at 0 bytes) version) _ _ _ p.1) [
    | inl q ↦ absurd (length_no_call key bytes used q.1)
    | inr q ↦ let w = other_call (field_at 0 bytes) used q.1 in record { version_is = w.0; there = ltb-false _ _ p.0; used_is = w.1 }
  ]
]

pub called : (key bytes : List ℕ) → 4 ≤ length bytes → field_at 0 bytes ≡ login_version → Greets key bytes (greeting.Login 4)
unfolding verdict_of other_verdict
called key bytes there is = rw (le-ltb (length bytes) 4 there, is) refl

-- bytes of which more is wanted end within it
call_after : (key before piece : List ℕ) → Greets key before greeting.More → Greets key (before ++ piece) (greeting.Login 4) → length before < 4
call_after key before piece more h = elim (cases_lt (length before) 4) [
  | inl short ↦ short
  | inr long ↦
      let w = call key (before ++ piece) 4 h in
      let e : greeting.More ≡ greeting.Login 4 = sym more ∙ called key before long (sym (field_at-append 0 before piece long) ∙ w.version_is) in
      absurd (let f : greeting.More ≡ greeting.Login 4 = e in cc)
]

pub calls_in : (key before piece : List ℕ) (n used : ℕ) → Greets key (before ++ piece) (greeting.Login n) → used ≡ n - length before → CallsIn key before piece used
calls_in key before piece n used h e =
    let w = call key (before ++ piece) n h in
    let four : n ≡ 4 = w.used_is in
    let greets : Greets key (before ++ piece) (greeting.Login 4) = h ∙ ap (λ k. greeting.Login k) four in
    let size : length (before ++ piece) ≡ length before + length piece = length-append before piece in
    let there : 4 ≤ length (before ++ piece) = w.there in
    record {
      called = greets;
      taken = omega arith;
      within = omega arith;
      behind = λ more.
          let short = call_after key before piece more greets in
          let whole : length before + used ≡ 4 = omega arith in
          subst (λ k. drop k (before ++ piece) ≡ drop used piece) whole (drop-append-add before piece used);
    }

pub login_answer : (key heard piece own now : List ℕ) (n used : ℕ) → own ≡ key → now ≡ kept (heard ++ piece) → Greets own now (greeting.Login n) → used ≡ n - length heard → Answers key heard piece (greeting.Login used)
login_answer key heard piece own now n used p q h e = calls_in key heard piece n used (greets_all key heard piece own now (greeting.Login n) p q h) e

-- it is these four bytes
pub call_spelled : (key bytes : List ℕ) (used : ℕ) → IsBytes bytes → Greets key bytes (greeting.Login used) → (used ≡ 4) × (take 4 bytes ≡ 195 ∷ 189 ∷ 194 ∷ 52 ∷ [])
unfolding field
call_spelled key bytes used each h =
    let w = call key bytes used h in
    (w.used_is, sym (ap field (sym w.version_is) ∙ field_there 0 bytes each w.there))

pub call_by : (key bytes : List ℕ) → take 4 bytes ≡ 195 ∷ 189 ∷ 194 ∷ 52 ∷ [] → Greets key bytes (greeting.Login 4)
unfolding field
call_by key bytes e =
    let whole : field login_version ++ drop 4 bytes ≡ bytes = ap (λ t. t ++ drop 4 bytes) (sym e) ∙ take-append-drop 4 bytes in
    let there : 4 ≤ length bytes = omega (arith, sym (length-take 4 bytes) ∙ ap length e) in
    called key bytes there (ap (field_at 0) (sym whole) ∙ field_at-field [] (drop 4 bytes) 0 login_version refl (lit< tt))

pub waits : (key heard piece own now : List ℕ) → own ≡ key → now ≡ kept (heard ++ piece) → Greets own now greeting.More → now ≡ heard ++ piece
waits key heard piece own now p q h = q ∙ all_kept key (heard ++ piece) (ap (verdict_of key) (sym q) ∙ ap (λ k. verdict_of k now) (sym p) ∙ h)

-- the verdict behind a version that is right
pub behind_version : (key bytes : List ℕ) (got : ℕ) (verdict : Greeting) → 4 ≤ length bytes → got ≡ field_at 0 bytes → got ≡ version → verdict ≡ length_verdict key bytes → Greets key bytes verdict
unfolding verdict_of
behind_version key bytes got verdict h e is v = rw (le-ltb (length bytes) 4 h, eq-eqb (field_at 0 bytes) version (sym e ∙ is)) (sym v)
