-- Where the messages of a login end, and what comes of them: by themselves, and with more behind them.
use Rattle.std.proofs.Common.{◌≡◌, ◌≤◌, ◌<◌, ◌+◌, ◌-◌, ℕ, suc, Bool, true, false, cond, List, [], ◌∷◌, ◌++◌, length, take, drop, Option, Some, None, Result, Ok, Err, refl, sym, ap, subst, ◌∙◌, inl, inr, arith, length-append, length-drop, append-nil}
use Rattle.std.specs.Prelude.{nat_lt, option_map}
use Rattle.std.specs.List.{prefix_len}
use Rattle.std.proofs.lemmas.Bool.{cases_lt, le-ltb, lt-ltb}
use Rattle.std.proofs.lemmas.List.{take_all, take-append-drop, take-append-le, drop-append-le, length-take, length-take-le, append_cancel_right}
use Rattle.std.proofs.lemmas.List.Sums.{prefix_len-le-length}
use Rattle.std.proofs.Math.Seq.{drop-length, take-append-add}
use Rattle.std.proofs.Math.ListN.{drop_of_length-le}
use Rattle.reql_scram.specs.Scram.{Account, Challenge, client_first_of}
use Rattle.reql_scram.specs.declared.fault.LoginFault.{LoginFault}
use Rattle.reql_scram.specs.declared.fault.LoginFault.TheVariants as fault
use Rattle.reql_login.specs.Messages.{Message, More, Whole, Oversize, looked_at, message_len, message_of, not_zero, hello}
use Rattle.reql_login.specs.Fields.{first_text}
use Rattle.reql_login.specs.Turns.{Gate, Called, Greeted, Salted, Rolled, Unrolled, Asked, Turn, Waits, Rolls, Says, Admits, Refuses, admits, asked_by, asking_turn, asks_for, first_turn, last_answer, last_turn, rolls_for, says_asked, after_roll, turn_of}

-- ---- how many bytes from the front on pass, in a longer list
module _ {X : Type 0} (p : X → Bool) where
  prefix_stands : (xs ys : List X) → prefix_len p xs < length xs → prefix_len p (xs ++ ys) ≡ prefix_len p xs
  prefix_stands [] ys h = absurd (omega arith)
  prefix_stands (x ∷ xs) ys h = by (p x) h (λ l. prefix_stands xs ys l)
    where
      by : (b : Bool) → cond b (1 + prefix_len p xs) 0 < length (x ∷ xs) → (prefix_len p xs < length xs → prefix_len p (xs ++ ys) ≡ prefix_len p xs) → cond b (1 + prefix_len p (xs ++ ys)) 0 ≡ cond b (1 + prefix_len p xs) 0
      by true l rest = ap (λ n. 1 + n) (rest (omega arith))
      by false l rest = refl

  prefix_within : (xs ys : List X) → prefix_len p (xs ++ ys) < length xs → prefix_len p xs ≡ prefix_len p (xs ++ ys)
  prefix_within [] ys h = absurd (omega arith)
  prefix_within (x ∷ xs) ys h = by (p x) h (λ l. prefix_within xs ys l)
    where
      by : (b : Bool) → cond b (1 + prefix_len p (xs ++ ys)) 0 < length (x ∷ xs) → (prefix_len p (xs ++ ys) < length xs → prefix_len p xs ≡ prefix_len p (xs ++ ys)) → cond b (1 + prefix_len p xs) 0 ≡ cond b (1 + prefix_len p (xs ++ ys)) 0
      by true l rest = ap (λ n. 1 + n) (rest (omega arith))
      by false l rest = refl

-- ---- the bytes that are looked at
cut_more : (limit : ℕ) (held more : List ℕ) → (z : List ℕ) × (take limit (held ++ more) ≡ take limit held ++ z)
cut_more limit held more = elim (cases_lt (length held) limit) [
  | inl l ↦
      let e : limit ≡ length held + (limit - length held) = omega arith in
      (take (limit - length held) more, ap (λ n. take n (held ++ more)) e ∙ take-append-add held more (limit - length held) ∙ ap (λ h. h ++ take (limit - length held) more) (sym (take_all limit held (omega arith))))
  | inr g ↦ ([], take-append-le limit held more g ∙ sym (append-nil (take limit held)))
]

looked_more : (held more : List ℕ) → (z : List ℕ) × (looked_at (held ++ more) ≡ looked_at held ++ z)
unfolding looked_at
looked_more held more = cut_more 2048 held more

looked_few : (held : List ℕ) → length held ≤ 2048 → looked_at held ≡ held
unfolding looked_at
looked_few held h = take_all 2048 held h

looked_fits : (held : List ℕ) → (length (looked_at held) ≤ 2048) × (length (looked_at held) ≤ length held)
unfolding looked_at
looked_fits held = (omega (arith, length-take 2048 held), omega (arith, length-take 2048 held))

looked_full : (held more : List ℕ) → 2048 ≤ length held → looked_at (held ++ more) ≡ looked_at held
unfolding looked_at
looked_full held more h = take-append-le 2048 held more h

-- ---- a message
abbrev shape : Bool → Bool → ℕ → List ℕ → Message
shape b c n held = cond b (Whole (take n held) (drop (n + 1) held)) (cond c More Oversize)

message_is : (held : List ℕ) → message_of held ≡ shape (nat_lt (message_len held) (length (looked_at held))) (nat_lt (length held) 2048) (message_len held) held
unfolding message_of
message_is held = refl

whole_by : (held : List ℕ) → message_len held < length (looked_at held) → message_of held ≡ Whole (take (message_len held) held) (drop (message_len held + 1) held)
whole_by held l = message_is held ∙ ap (λ b. shape b (nat_lt (length held) 2048) (message_len held) held) (lt-ltb (message_len held) (length (looked_at held)) l)

over_by : (held : List ℕ) → length (looked_at held) ≤ message_len held → 2048 ≤ length held → message_of held ≡ Oversize
over_by held l g = message_is held ∙ ap (λ b. shape b (nat_lt (length held) 2048) (message_len held) held) (le-ltb (message_len held) (length (looked_at held)) l)
    ∙ ap (λ c. shape false c (message_len held) held) (le-ltb (length held) 2048 g)

more_by : (held : List ℕ) → length (looked_at held) ≤ message_len held → length held < 2048 → message_of held ≡ More
more_by held l g = message_is held ∙ ap (λ b. shape b (nat_lt (length held) 2048) (message_len held) held) (le-ltb (message_len held) (length (looked_at held)) l)
    ∙ ap (λ c. shape false c (message_len held) held) (lt-ltb (length held) 2048 g)

abbrev text_in : Message → List ℕ
text_in (Whole m rest) = m
text_in other = []

abbrev behind_in : Message → List ℕ
behind_in (Whole m rest) = rest
behind_in other = []

record IsWhole (held message rest : List ℕ) : Type 0 where
  there : message_len held < length (looked_at held)
  text : message ≡ take (message_len held) held
  behind : rest ≡ drop (message_len held + 1) held

is_whole : (held message rest : List ℕ) → message_of held ≡ Whole message rest → IsWhole held message rest
is_whole held message rest e = elim (cases_lt (message_len held) (length (looked_at held))) [
  | inl l ↦ (let f : Whole message rest ≡ Whole (take (message_len held) held) (drop (message_len held + 1) held) = sym e ∙ whole_by held l in record { there = l; text = ap text_in f; behind = ap behind_in f })
  | inr g ↦ elim (cases_lt (length held) 2048) [
    | inl l ↦ absurd (let f : More ≡ Whole message rest = sym (more_by held g l) ∙ e in cc)
    | inr m ↦ absurd (let f : Oversize ≡ Whole message rest = sym (over_by held g m) ∙ e in cc)
  ]
]

-- with its bytes
pub took : (held message rest : List ℕ) → message_of held ≡ Whole message rest → (used : List ℕ) × (held ≡ used ++ rest) × (1 ≤ length used)
took held message rest e =
    let w = is_whole held message rest e in
    let n : ℕ = message_len held + 1 in (
      take n held,
      sym (take-append-drop n held) ∙ ap (λ z. take n held ++ z) (sym w.behind),
      omega (arith, length-take-le n held (omega (arith, w.there, (looked_fits held).1))),
    )

-- with more behind it
abbrev pub and_more : List ℕ → Message → Message
and_more more (Whole m rest) = Whole m (rest ++ more)
and_more more other = other

pub message_stands : (held more : List ℕ) → (message_of held ≡ More → ⊥) → message_of (held ++ more) ≡ and_more more (message_of held)
message_stands held more n = elim (cases_lt (message_len held) (length (looked_at held))) [
  | inl l ↦
      let z = looked_more held more in
      let same : message_len (held ++ more) ≡ message_len held = ap (prefix_len not_zero) z.1 ∙ prefix_stands not_zero (looked_at held) z.0 l in
      let longer : length (looked_at (held ++ more)) ≡ length (looked_at held) + length z.0 = ap length z.1 ∙ length-append (looked_at held) z.0 in
      let within : message_len held + 1 ≤ length held = omega (arith, l, (looked_fits held).1) in
      whole_by (held ++ more) (omega (arith, same, longer, l))
      ∙ ap (λ k. Whole (take k (held ++ more)) (drop (k + 1) (held ++ more))) same
      ∙ ap (λ t. Whole t (drop (message_len held + 1) (held ++ more))) (take-append-le (message_len held) held more (omega (arith, within)))
      ∙ ap (λ t. Whole (take (message_len held) held) t) (drop-append-le (message_len held + 1) held more within)
      ∙ ap (and_more more) (sym (whole_by held l))
  | inr g ↦ elim (cases_lt (length held) 2048) [
    | inl l ↦ absurd (n (more_by held g l))
    | inr m ↦
        let full = looked_full held more m in
        over_by (held ++ more) (omega (arith, g, ap length full, ap (prefix_len not_zero) full)) (omega (arith, m, length-append held more)) ∙ ap (and_more more) (sym (over_by held g m))
  ]
]

-- by itself
pub message_alone : (used behind message : List ℕ) → message_of (used ++ behind) ≡ Whole message behind → message_of used ≡ Whole message []
message_alone used behind message e =
    let held : List ℕ = used ++ behind in
    let w = is_whole held message behind e in
    let n : ℕ = message_len held in
    let fits = looked_fits held in
    let size : length used ≡ n + 1 = omega (arith, w.there, fits.1, ap length w.behind, length-drop (n + 1) held, length-append used behind) in
    let few : looked_at used ≡ used = looked_few used (omega (arith, size, w.there, fits.0)) in
    let z = looked_more used behind in
    let all : looked_at held ≡ used ++ z.0 = z.1 ∙ ap (λ h. h ++ z.0) few in
    let same : prefix_len not_zero used ≡ n = prefix_within not_zero used z.0 (omega (arith, ap (prefix_len not_zero) all, size)) ∙ sym (ap (prefix_len not_zero) all) in
    let len : message_len used ≡ n = ap (prefix_len not_zero) few ∙ same in
    whole_by used (omega (arith, len, ap length few, size))
    ∙ ap (λ k. Whole (take k used) (drop (k + 1) used)) len
    ∙ ap (λ k. Whole (take n used) (drop k used)) (sym size)
    ∙ ap (λ t. Whole (take n used) t) (drop-length used)
    ∙ ap (λ t. Whole t []) (sym (take-append-le n used behind (omega (arith, size))) ∙ sym w.text)

-- ---- the turns of a login whose version was answered
abbrev pub IsPast : Gate → Type 0
IsPast Called = ⊥
IsPast gate = Unit {0}

-- by the message that is held
abbrev turn_by : Account → Gate → Message → Turn
turn_by account Called m = Waits
turn_by account Greeted m = first_turn m
turn_by account (Salted salt) m = Rolls
turn_by account (Rolled salt roll) m = asking_turn account salt roll m
turn_by account Unrolled m = Refuses fault.DiceFailed
turn_by account (Asked challenge) m = last_turn challenge m

turn_is : (account : Account) (gate : Gate) (held : List ℕ) → IsPast gate → turn_of account gate held ≡ turn_by account gate (message_of held)
unfolding turn_of
turn_is account Called held p = absurd p
turn_is account Greeted held p = refl
turn_is account (Salted salt) held p = refl
turn_is account (Rolled salt roll) held p = refl
turn_is account Unrolled held p = refl
turn_is account (Asked challenge) held p = refl

pub called_says : (account : Account) (held : List ℕ) → turn_of account Called held ≡ Says hello (drop 4 held) Greeted
unfolding turn_of
called_says account held = refl

pub salted_rolls : (account : Account) (salt held : List ℕ) → turn_of account (Salted salt) held ≡ Rolls
unfolding turn_of
salted_rolls account salt held = refl

pub unrolled_refuses : (account : Account) (held : List ℕ) → turn_of account Unrolled held ≡ Refuses fault.DiceFailed
unfolding turn_of
unrolled_refuses account held = refl

-- what is in a turn
abbrev pub said_in : Turn → List ℕ
said_in (Says said rest next) = said
said_in (Admits said rest) = said
said_in other = []

abbrev pub rest_in : Turn → List ℕ
rest_in (Says said rest next) = rest
rest_in (Admits said rest) = rest
rest_in other = []

abbrev pub next_in : Turn → Gate
next_in (Says said rest next) = next
next_in other = Called

-- with more behind what is held
abbrev pub with_more : List ℕ → Turn → Turn
with_more more (Says said rest next) = Says said (rest ++ more) next
with_more more (Admits said rest) = Admits said (rest ++ more)
with_more more other = other

more_rolls : (more : List ℕ) (t : Result (List ℕ) LoginFault) → rolls_for t ≡ with_more more (rolls_for t)
more_rolls more (Ok text) = refl
more_rolls more (Err f) = refl

more_said : (more rest : List ℕ) (o : Option (Challenge × List ℕ)) → says_asked (rest ++ more) o ≡ with_more more (says_asked rest o)
more_said more rest None = refl
more_said more rest (Some asked) = refl

more_asks : (account : Account) (salt roll more rest : List ℕ) (t : Result (List ℕ) LoginFault) → asks_for account salt roll (rest ++ more) t ≡ with_more more (asks_for account salt roll rest t)
more_asks account salt roll more rest (Ok text) = more_said more rest (option_map (asked_by account salt roll) (client_first_of text))
more_asks account salt roll more rest (Err f) = refl

more_admits : (more rest : List ℕ) (t : Result (List ℕ) LoginFault) → admits (rest ++ more) t ≡ with_more more (admits rest t)
more_admits more rest (Ok bytes) = refl
more_admits more rest (Err f) = refl

by_more : (account : Account) (gate : Gate) (more : List ℕ) (m : Message) → turn_by account gate (and_more more m) ≡ with_more more (turn_by account gate m)
by_more account Called more m = refl
by_more account Greeted more More = refl
by_more account Greeted more Oversize = refl
by_more account Greeted more (Whole m rest) = more_rolls more (first_text m)
by_more account (Salted salt) more m = refl
by_more account (Rolled salt roll) more More = refl
by_more account (Rolled salt roll) more Oversize = refl
by_more account (Rolled salt roll) more (Whole m rest) = more_asks account salt roll more rest (first_text m)
by_more account Unrolled more m = refl
by_more account (Asked challenge) more More = refl
by_more account (Asked challenge) more Oversize = refl
by_more account (Asked challenge) more (Whole m rest) = more_admits more rest (last_answer challenge m)

pub turn_stands : (account : Account) (gate : Gate) (held more : List ℕ) → IsPast gate → (turn_of account gate held ≡ Waits → ⊥) → turn_of account gate (held ++ more) ≡ with_more more (turn_of account gate held)
turn_stands account Called held more p n = absurd p
turn_stands account Greeted held more p n = turn_is account Greeted (held ++ more) tt ∙ ap first_turn (message_stands held more (λ e. n (turn_is account Greeted held tt ∙ ap first_turn e))) ∙ by_more account Greeted more (message_of held) ∙ ap (with_more more) (sym (turn_is account Greeted held tt))
turn_stands account (Salted salt) held more p n = salted_rolls account salt (held ++ more) ∙ ap (with_more more) (sym (salted_rolls account salt held))
turn_stands account (Rolled salt roll) held more p n =
    let gate : Gate = Rolled salt roll in
    turn_is account gate (held ++ more) tt ∙ ap (turn_by account gate) (message_stands held more (λ e. n (turn_is account gate held tt ∙ ap (turn_by account gate) e))) ∙ by_more account gate more (message_of held) ∙ ap (with_more more) (sym (turn_is account gate held tt))
turn_stands account Unrolled held more p n = unrolled_refuses account (held ++ more) ∙ ap (with_more more) (sym (unrolled_refuses account held))
turn_stands account (Asked challenge) held more p n =
    let gate : Gate = Asked challenge in
    turn_is account gate (held ++ more) tt ∙ ap (turn_by account gate) (message_stands held more (λ e. n (turn_is account gate held tt ∙ ap (turn_by account gate) e))) ∙ by_more account gate more (message_of held) ∙ ap (with_more more) (sym (turn_is account gate held tt))

-- ---- a turn that says or admits took a whole message
abbrev Takes : Turn → Type 0
Takes (Says said rest next) = Unit {0}
Takes (Admits said rest) = Unit {0}
Takes other = ⊥

no_rolls_take : (t : Result (List ℕ) LoginFault) → Takes (rolls_for t) → ⊥
no_rolls_take (Ok text) h = h
no_rolls_take (Err f) h = h

said_rest : (rest : List ℕ) (o : Option (Challenge × List ℕ)) → Takes (says_asked rest o) → rest_in (says_asked rest o) ≡ rest
said_rest rest None h = absurd h
said_rest rest (Some asked) h = refl

asks_rest : (account : Account) (salt roll rest : List ℕ) (t : Result (List ℕ) LoginFault) → Takes (asks_for account salt roll rest t) → rest_in (asks_for account salt roll rest t) ≡ rest
asks_rest account salt roll rest (Ok text) h = said_rest rest (option_map (asked_by account salt roll) (client_first_of text)) h
asks_rest account salt roll rest (Err f) h = absurd h

admits_rest : (rest : List ℕ) (t : Result (List ℕ) LoginFault) → Takes (admits rest t) → rest_in (admits rest t) ≡ rest
admits_rest rest (Ok bytes) h = refl
admits_rest rest (Err f) h = absurd h

whole_of : (account : Account) (gate : Gate) (m : Message) → Takes (turn_by account gate m) → (message : List ℕ) × (m ≡ Whole message (rest_in (turn_by account gate m)))
whole_of account Called m h = absurd h
whole_of account Greeted More h = absurd h
whole_of account Greeted Oversize h = absurd h
whole_of account Greeted (Whole m rest) h = absurd (no_rolls_take (first_text m) h)
whole_of account (Salted salt) m h = absurd h
whole_of account (Rolled salt roll) More h = absurd h
whole_of account (Rolled salt roll) Oversize h = absurd h
whole_of account (Rolled salt roll) (Whole m rest) h = (m, ap (Whole m) (sym (asks_rest account salt roll rest (first_text m) h)))
whole_of account Unrolled m h = absurd h
whole_of account (Asked challenge) More h = absurd h
whole_of account (Asked challenge) Oversize h = absurd h
whole_of account (Asked challenge) (Whole m rest) h = (m, ap (Whole m) (sym (admits_rest rest (last_answer challenge m) h)))

-- of which so many bytes are used, by which it comes to the same by itself
pub record Used (account : Account) (gate : Gate) (held rest : List ℕ) (own : Turn) : Type 0 where
  pub used : List ℕ
  pub all : held ≡ used ++ rest
  pub some : IsPast gate → 1 ≤ length used
  pub alone : turn_of account gate used ≡ own

abbrev Alone : Turn → Turn
Alone (Says said rest next) = Says said [] next
Alone (Admits said rest) = Admits said []
Alone other = other

-- a turn with so much more behind it that nothing is left without
own_turn : (behind : List ℕ) (t u : Turn) → with_more behind t ≡ u → Takes u → rest_in u ≡ behind → t ≡ Alone u
own_turn behind Waits u e h r = absurd (subst Takes (sym e) h)
own_turn behind Rolls u e h r = absurd (subst Takes (sym e) h)
own_turn behind (Refuses f) u e h r = absurd (subst Takes (sym e) h)
own_turn behind (Says said rest next) u e h r =
    let none : rest ≡ [] = append_cancel_right rest [] behind (ap rest_in e ∙ r) in
    ap (λ z. Says said z next) none ∙ ap Alone e
own_turn behind (Admits said rest) u e h r =
    let none : rest ≡ [] = append_cancel_right rest [] behind (ap rest_in e ∙ r) in
    ap (λ z. Admits said z) none ∙ ap Alone e

used_past : (account : Account) (gate : Gate) (held : List ℕ) (u : Turn) → IsPast gate → turn_of account gate held ≡ u → Takes u → Used account gate held (rest_in u) (Alone u)
used_past account gate held u p e h =
    let t : turn_by account gate (message_of held) ≡ u = sym (turn_is account gate held p) ∙ e in
    let w = whole_of account gate (message_of held) (subst Takes (sym t) h) in
    let whole : message_of held ≡ Whole w.0 (rest_in u) = w.1 ∙ ap (λ z. Whole w.0 (rest_in z)) t in
    let k = took held w.0 (rest_in u) whole in
    let lone : message_of k.0 ≡ Whole w.0 [] = message_alone k.0 (rest_in u) w.0 (subst (λ z. message_of z ≡ Whole w.0 (rest_in u)) k.1 whole) in
    let more : with_more (rest_in u) (turn_by account gate (Whole w.0 [])) ≡ u = sym (by_more account gate (rest_in u) (Whole w.0 [])) ∙ ap (turn_by account gate) (sym whole) ∙ t in
    record { used = k.0; all = k.1; some = λ q. k.2; alone = turn_is account gate k.0 p ∙ ap (turn_by account gate) lone ∙ own_turn (rest_in u) (turn_by account gate (Whole w.0 [])) u more h refl }

-- also of a version, whose bytes are used though they weren't all held
drop_front : (n : ℕ) (held : List ℕ) → drop n (take n held) ≡ []
drop_front n held = drop_of (omega (arith, length-take n held))
  where
    drop_of : length (take n held) ≤ n → drop n (take n held) ≡ []
    drop_of le = drop_of_length-le (take n held) le

used_called : (account : Account) (held said rest : List ℕ) (next : Gate) → turn_of account Called held ≡ Says said rest next → Used account Called held rest (Says said [] next)
used_called account held said rest next e =
    let f : Says hello (drop 4 held) Greeted ≡ Says said rest next = sym (called_says account held) ∙ e in
    record {
      used = take 4 held;
      all = sym (take-append-drop 4 held) ∙ ap (λ z. take 4 held ++ z) (ap rest_in f);
      some = λ p. absurd p;
      alone = called_says account (take 4 held) ∙ ap (λ z. Says hello z Greeted) (drop_front 4 held) ∙ ap Alone f;
    }

pub says_used : (account : Account) (gate : Gate) (held said rest : List ℕ) (next : Gate) → turn_of account gate held ≡ Says said rest next → Used account gate held rest (Says said [] next)
says_used account Called held said rest next e = used_called account held said rest next e
says_used account Greeted held said rest next e = used_past account Greeted held (Says said rest next) tt e tt
says_used account (Salted salt) held said rest next e = used_past account (Salted salt) held (Says said rest next) tt e tt
says_used account (Rolled salt roll) held said rest next e = used_past account (Rolled salt roll) held (Says said rest next) tt e tt
says_used account Unrolled held said rest next e = used_past account Unrolled held (Says said rest next) tt e tt
says_used account (Asked challenge) held said rest next e = used_past account (Asked challenge) held (Says said rest next) tt e tt

pub admits_used : (account : Account) (gate : Gate) (held said rest : List ℕ) → turn_of account gate held ≡ Admits said rest → Used account gate held rest (Admits said [])
admits_used account Called held said rest e = absurd (let f : Says hello (drop 4 held) Greeted ≡ Admits said rest = sym (called_says account held) ∙ e in cc)
admits_used account Greeted held said rest e = used_past account Greeted held (Admits said rest) tt e tt
admits_used account (Salted salt) held said rest e = used_past account (Salted salt) held (Admits said rest) tt e tt
admits_used account (Rolled salt roll) held said rest e = used_past account (Rolled salt roll) held (Admits said rest) tt e tt
admits_used account Unrolled held said rest e = used_past account Unrolled held (Admits said rest) tt e tt
admits_used account (Asked challenge) held said rest e = used_past account (Asked challenge) held (Admits said rest) tt e tt

-- ---- where a login stands after a message or a roll
pub called_admits_none : (account : Account) (held said rest : List ℕ) → turn_of account Called held ≡ Admits said rest → ⊥
called_admits_none account held said rest e = let f : Says hello (drop 4 held) Greeted ≡ Admits said rest = sym (called_says account held) ∙ e in cc

abbrev NextPast : Turn → Type 0
NextPast (Says said rest next) = IsPast next
NextPast other = Unit {0}

rolls_next : (t : Result (List ℕ) LoginFault) → NextPast (rolls_for t)
rolls_next (Ok text) = tt
rolls_next (Err f) = tt

asked_next : (rest : List ℕ) (o : Option (Challenge × List ℕ)) → NextPast (says_asked rest o)
asked_next rest None = tt
asked_next rest (Some asked) = tt

asks_next : (account : Account) (salt roll rest : List ℕ) (t : Result (List ℕ) LoginFault) → NextPast (asks_for account salt roll rest t)
asks_next account salt roll rest (Ok text) = asked_next rest (option_map (asked_by account salt roll) (client_first_of text))
asks_next account salt roll rest (Err f) = tt

admits_next : (rest : List ℕ) (t : Result (List ℕ) LoginFault) → NextPast (admits rest t)
admits_next rest (Ok bytes) = tt
admits_next rest (Err f) = tt

by_next : (account : Account) (gate : Gate) (m : Message) → NextPast (turn_by account gate m)
by_next account Called m = tt
by_next account Greeted More = tt
by_next account Greeted Oversize = tt
by_next account Greeted (Whole m rest) = rolls_next (first_text m)
by_next account (Salted salt) m = tt
by_next account (Rolled salt roll) More = tt
by_next account (Rolled salt roll) Oversize = tt
by_next account (Rolled salt roll) (Whole m rest) = asks_next account salt roll rest (first_text m)
by_next account Unrolled m = tt
by_next account (Asked challenge) More = tt
by_next account (Asked challenge) Oversize = tt
by_next account (Asked challenge) (Whole m rest) = admits_next rest (last_answer challenge m)

next_by : (account : Account) (gate : Gate) (held said rest : List ℕ) (next : Gate) → IsPast gate → turn_of account gate held ≡ Says said rest next → IsPast next
next_by account gate held said rest next p e = subst NextPast (sym (turn_is account gate held p) ∙ e) (by_next account gate (message_of held))

pub next_past : (account : Account) (gate : Gate) (held said rest : List ℕ) (next : Gate) → turn_of account gate held ≡ Says said rest next → IsPast next
next_past account Called held said rest next e = subst NextPast (sym (called_says account held) ∙ e) tt
next_past account Greeted held said rest next e = next_by account Greeted held said rest next tt e
next_past account (Salted salt) held said rest next e = next_by account (Salted salt) held said rest next tt e
next_past account (Rolled salt roll) held said rest next e = next_by account (Rolled salt roll) held said rest next tt e
next_past account Unrolled held said rest next e = next_by account Unrolled held said rest next tt e
next_past account (Asked challenge) held said rest next e = next_by account (Asked challenge) held said rest next tt e

pub rolled_past : (gate : Gate) (bytes : Option (List ℕ)) → IsPast (after_roll gate bytes)
rolled_past Called bytes = tt
rolled_past Greeted None = tt
rolled_past Greeted (Some bytes) = tt
rolled_past (Salted salt) None = tt
rolled_past (Salted salt) (Some bytes) = tt
rolled_past (Rolled salt roll) bytes = tt
rolled_past Unrolled bytes = tt
rolled_past (Asked challenge) bytes = tt

-- ---- where a login rolls
abbrev pub IsRolling : Gate → Type 0
IsRolling Greeted = Unit {0}
IsRolling (Salted salt) = Unit {0}
IsRolling other = ⊥

abbrev IsRolls : Turn → Type 0
IsRolls Rolls = Unit {0}
IsRolls other = ⊥

no_asked : (rest : List ℕ) (o : Option (Challenge × List ℕ)) → IsRolls (says_asked rest o) → ⊥
no_asked rest None h = h
no_asked rest (Some asked) h = h

no_asks : (account : Account) (salt roll rest : List ℕ) (t : Result (List ℕ) LoginFault) → IsRolls (asks_for account salt roll rest t) → ⊥
no_asks account salt roll rest (Ok text) h = no_asked rest (option_map (asked_by account salt roll) (client_first_of text)) h
no_asks account salt roll rest (Err f) h = h

no_admits : (rest : List ℕ) (t : Result (List ℕ) LoginFault) → IsRolls (admits rest t) → ⊥
no_admits rest (Ok bytes) h = h
no_admits rest (Err f) h = h

by_rolls : (account : Account) (gate : Gate) (m : Message) → IsRolls (turn_by account gate m) → IsRolling gate
by_rolls account Called m h = h
by_rolls account Greeted m h = tt
by_rolls account (Salted salt) m h = tt
by_rolls account (Rolled salt roll) More h = h
by_rolls account (Rolled salt roll) Oversize h = h
by_rolls account (Rolled salt roll) (Whole m rest) h = absurd (no_asks account salt roll rest (first_text m) h)
by_rolls account Unrolled m h = h
by_rolls account (Asked challenge) More h = h
by_rolls account (Asked challenge) Oversize h = h
by_rolls account (Asked challenge) (Whole m rest) h = absurd (no_admits rest (last_answer challenge m) h)

rolling_by : (account : Account) (gate : Gate) (held : List ℕ) → IsPast gate → turn_of account gate held ≡ Rolls → IsRolling gate
rolling_by account gate held p e = by_rolls account gate (message_of held) (subst IsRolls (sym (sym (turn_is account gate held p) ∙ e)) tt)

pub is_rolling : (account : Account) (gate : Gate) (held : List ℕ) → turn_of account gate held ≡ Rolls → IsRolling gate
is_rolling account Called held e = absurd (let f : Says hello (drop 4 held) Greeted ≡ Rolls = sym (called_says account held) ∙ e in cc)
is_rolling account Greeted held e = tt
is_rolling account (Salted salt) held e = tt
is_rolling account (Rolled salt roll) held e = rolling_by account (Rolled salt roll) held tt e
is_rolling account Unrolled held e = rolling_by account Unrolled held tt e
is_rolling account (Asked challenge) held e = rolling_by account (Asked challenge) held tt e

-- and says nothing there
none_taken : (account : Account) (gate : Gate) (m : Message) → IsRolling gate → Takes (turn_by account gate m) → ⊥
none_taken account Called m r h = h
none_taken account Greeted More r h = h
none_taken account Greeted Oversize r h = h
none_taken account Greeted (Whole m rest) r h = no_rolls_take (first_text m) h
none_taken account (Salted salt) m r h = h
none_taken account (Rolled salt roll) m r h = r
none_taken account Unrolled m r h = h
none_taken account (Asked challenge) m r h = r

none_by : (account : Account) (gate : Gate) (held : List ℕ) (u : Turn) → IsPast gate → IsRolling gate → turn_of account gate held ≡ u → Takes u → ⊥
none_by account gate held u p r e h = none_taken account gate (message_of held) r (subst Takes (sym (sym (turn_is account gate held p) ∙ e)) h)

none_told : (account : Account) (gate : Gate) (held : List ℕ) (u : Turn) → IsRolling gate → turn_of account gate held ≡ u → Takes u → ⊥
none_told account Called held u r e h = r
none_told account Greeted held u r e h = none_by account Greeted held u tt r e h
none_told account (Salted salt) held u r e h = none_by account (Salted salt) held u tt r e h
none_told account (Rolled salt roll) held u r e h = r
none_told account Unrolled held u r e h = r
none_told account (Asked challenge) held u r e h = r

pub rolls_or_says : {A : Type 0} (account : Account) (gate : Gate) (held used said rest : List ℕ) (next : Gate) → turn_of account gate held ≡ Rolls → turn_of account gate used ≡ Says said rest next → A
rolls_or_says account gate held used said rest next r e = absurd (none_told account gate used (Says said rest next) (is_rolling account gate held r) e tt)

pub rolls_or_admits : {A : Type 0} (account : Account) (gate : Gate) (held used said rest : List ℕ) → turn_of account gate held ≡ Rolls → turn_of account gate used ≡ Admits said rest → A
rolls_or_admits account gate held used said rest r e = absurd (none_told account gate used (Admits said rest) (is_rolling account gate held r) e tt)

-- ---- what is held of a login that goes on: a text is there where it is rolled for and asked, and a turn that neither waits nor is refused
pub record HasText (held : List ℕ) : Type 0 where
  pub message : List ℕ
  pub rest : List ℕ
  pub text : List ℕ
  pub whole : message_of held ≡ Whole message rest
  pub reads : first_text message ≡ Ok text

abbrev pub IsFine : Turn → Type 0
IsFine Waits = ⊥
IsFine (Refuses f) = ⊥
IsFine other = Unit {0}

text_asked : (account : Account) (salt roll rest : List ℕ) (t : Result (List ℕ) LoginFault) → Takes (asks_for account salt roll rest t) → (text : List ℕ) × (t ≡ Ok text)
text_asked account salt roll rest (Ok text) h = (text, refl)
text_asked account salt roll rest (Err f) h = absurd h

text_by : (account : Account) (salt roll held : List ℕ) (m : Message) → message_of held ≡ m → Takes (asking_turn account salt roll m) → HasText held
text_by account salt roll held More e h = absurd h
text_by account salt roll held Oversize e h = absurd h
text_by account salt roll held (Whole m rest) e h = let t = text_asked account salt roll rest (first_text m) h in record { message = m; rest = rest; text = t.0; whole = e; reads = t.1 }

has_text : (account : Account) (salt roll held : List ℕ) (u : Turn) → turn_of account (Rolled salt roll) held ≡ u → Takes u → HasText held
has_text account salt roll held u e h = text_by account salt roll held (message_of held) refl (subst Takes (sym (sym (turn_is account (Rolled salt roll) held tt) ∙ e)) h)

abbrev pub Ahead : Account → Gate → List ℕ → Type 0
Ahead account Called held = ⊥
Ahead account Greeted held = HasText held
Ahead account (Salted salt) held = HasText held
Ahead account (Rolled salt roll) held = HasText held × IsFine (turn_of account (Rolled salt roll) held)
Ahead account Unrolled held = ⊥
Ahead account (Asked challenge) held = IsFine (turn_of account (Asked challenge) held)

rolls_so : (held message rest text : List ℕ) → message_of held ≡ Whole message rest → first_text message ≡ Ok text → first_turn (message_of held) ≡ Rolls
rolls_so held message rest text e f = ap first_turn e ∙ ap rolls_for f

pub fine_ahead : (account : Account) (gate : Gate) (held : List ℕ) → Ahead account gate held → IsFine (turn_of account gate held)
fine_ahead account Called held a = absurd a
fine_ahead account Greeted held a = subst IsFine (sym (turn_is account Greeted held tt ∙ rolls_so held a.message a.rest a.text a.whole a.reads)) tt
fine_ahead account (Salted salt) held a = subst IsFine (sym (salted_rolls account salt held)) tt
fine_ahead account (Rolled salt roll) held a = a.1
fine_ahead account Unrolled held a = absurd a
fine_ahead account (Asked challenge) held a = a

ahead_by : (account : Account) (gate : Gate) (held : List ℕ) (u : Turn) → IsPast gate → turn_of account gate held ≡ u → Takes u → IsFine u → Ahead account gate held
ahead_by account Called held u p e h f = absurd p
ahead_by account Greeted held u p e h f = absurd (none_told account Greeted held u tt e h)
ahead_by account (Salted salt) held u p e h f = absurd (none_told account (Salted salt) held u tt e h)
ahead_by account (Rolled salt roll) held u p e h f = (has_text account salt roll held u e h, subst IsFine (sym e) f)
ahead_by account Unrolled held u p e h f = subst Takes (sym e ∙ unrolled_refuses account held) h
ahead_by account (Asked challenge) held u p e h f = subst IsFine (sym e) f

pub ahead_says : (account : Account) (gate : Gate) (held said rest : List ℕ) (next : Gate) → IsPast gate → turn_of account gate held ≡ Says said rest next → Ahead account gate held
ahead_says account gate held said rest next p e = ahead_by account gate held (Says said rest next) p e tt tt

pub ahead_admits : (account : Account) (gate : Gate) (held said rest : List ℕ) → IsPast gate → turn_of account gate held ≡ Admits said rest → Ahead account gate held
ahead_admits account gate held said rest p e = ahead_by account gate held (Admits said rest) p e tt tt

-- before a roll as after it
pub ahead_rolls : (account : Account) (gate : Gate) (bytes : Option (List ℕ)) (held : List ℕ) → IsRolling gate → Ahead account (after_roll gate bytes) held → Ahead account gate held
ahead_rolls account Called bytes held r a = absurd r
ahead_rolls account Greeted None held r a = absurd a
ahead_rolls account Greeted (Some bytes) held r a = a
ahead_rolls account (Salted salt) None held r a = absurd a
ahead_rolls account (Salted salt) (Some bytes) held r a = a.0
ahead_rolls account (Rolled salt roll) bytes held r a = absurd r
ahead_rolls account Unrolled bytes held r a = absurd r
ahead_rolls account (Asked challenge) bytes held r a = absurd r
