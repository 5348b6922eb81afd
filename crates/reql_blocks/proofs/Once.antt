-- Bytes stand for one list of bodies at most, or else aren't of the format from one place on.
use Rattle.std.proofs.Common.{◌≡◌, ◌≢◌, inl, inr, ℕ, List, [], ◌∷◌, ◌++◌, length, take, drop, refl, sym, ap, ◌∙◌, append_assoc}
use Rattle.std.specs.List.{flat_map, AllByRecursion}
use Rattle.std.proofs.lemmas.List.{take_at, drop_at, append_cancel_left}
use Rattle.byteorder.specs.Endian.{little_bytes, little_number}
use Rattle.byteorder.specs.Numbers.{little_number-reads_back}
use Rattle.reql_blocks.specs.Format.{magic, behind, block, content, Fits}
use Rattle.reql_blocks.specs.Recovery.{NoGate}
use Rattle.reql_blocks.specs.Laws.{StandOnce, WholeIsNotDamaged, DamagedOnce}

abbrev head : List ℕ → ℕ
head [] = 0
head (x ∷ xs) = x

abbrev tail : List ℕ → List ℕ
tail [] = []
tail (x ∷ xs) = xs

-- one body
body_once : (a b x y : List ℕ) → Fits a → Fits b → behind a ++ x ≡ behind b ++ y → (a ≡ b) × (x ≡ y)
unfolding behind
body_once a b x y fa fb e =
    let first : little_number 8 ((little_bytes 8 (length a) ++ a) ++ x) ≡ length a = ap (little_number 8) (append_assoc (little_bytes 8 (length a)) a x) ∙ little_number-reads_back 8 (length a) (a ++ x) fa in
    let second : little_number 8 ((little_bytes 8 (length b) ++ b) ++ y) ≡ length b = ap (little_number 8) (append_assoc (little_bytes 8 (length b)) b y) ∙ little_number-reads_back 8 (length b) (b ++ y) fb in
    let long : length a ≡ length b = sym first ∙ ap (little_number 8) e ∙ second in
    let same : little_bytes 8 (length a) ++ (a ++ x) ≡ little_bytes 8 (length a) ++ (b ++ y) =
    sym (append_assoc (little_bytes 8 (length a)) a x) ∙ e ∙ append_assoc (little_bytes 8 (length b)) b y ∙ ap (λ n. little_bytes 8 n ++ (b ++ y)) (sym long) in
    let rest : a ++ x ≡ b ++ y = append_cancel_left (little_bytes 8 (length a)) (a ++ x) (b ++ y) same in (
      sym (take_at a x (length a) refl) ∙ ap (take (length a)) rest ∙ take_at b y (length a) (sym long),
      sym (drop_at a x (length a) refl) ∙ ap (drop (length a)) rest ∙ drop_at b y (length a) (sym long),
    )

-- no whole block begins here
abbrev Stops : List ℕ → Type 0
Stops bytes = (body rest : List ℕ) → Fits body → bytes ≡ 1 ∷ (behind body ++ rest) → ⊥

closed_stops : (gate : ℕ) (rest : List ℕ) → gate ≢ 1 → Stops (gate ∷ rest)
closed_stops gate rest closed = λ body more f e. closed (ap head e)

none_stops : (bytes : List ℕ) → NoGate bytes → Stops bytes
none_stops bytes (inl empty) = λ body more f e. absurd (let no : [] ≡ 1 ∷ (behind body ++ more) = sym empty ∙ e in cc)
none_stops bytes (inr (more, is, none)) = λ body rest f e. none body rest f (ap tail (sym is ∙ e))

blocks_once : (xs ys : List (List ℕ)) (r s : List ℕ) → AllByRecursion Fits xs → AllByRecursion Fits ys → Stops r → Stops s → flat_map block xs ++ r ≡ flat_map block ys ++ s → (xs ≡ ys) × (r ≡ s)
blocks_once [] [] r s fa fb p q e = (refl, e)
blocks_once [] (b ∷ ys) r s fa (fb, fbs) p q e = absurd (p b (flat_map block ys ++ s) fb (e ∙ ap (λ l. 1 ∷ l) (append_assoc (behind b) (flat_map block ys) s)))
blocks_once (a ∷ xs) [] r s (fa, fas) fb p q e = absurd (q a (flat_map block xs ++ r) fa (sym e ∙ ap (λ l. 1 ∷ l) (append_assoc (behind a) (flat_map block xs) r)))
blocks_once (a ∷ xs) (b ∷ ys) r s (fa, fas) (fb, fbs) p q e =
    let rest : behind a ++ (flat_map block xs ++ r) ≡ behind b ++ (flat_map block ys ++ s) =
    sym (append_assoc (behind a) (flat_map block xs) r) ∙ ap tail e ∙ append_assoc (behind b) (flat_map block ys) s in
    let both = body_once a b (flat_map block xs ++ r) (flat_map block ys ++ s) fa fb rest in
    let more = blocks_once xs ys r s fas fbs p q both.1 in
    (ap (λ l. l ∷ xs) both.0 ∙ ap (λ l. b ∷ l) more.0, more.1)

-- behind blocks of these bodies no whole block begins
contents_once : (xs ys : List (List ℕ)) (bytes r s : List ℕ) → AllByRecursion Fits xs → AllByRecursion Fits ys → Stops r → Stops s → bytes ≡ content xs ++ r → bytes ≡ content ys ++ s → (xs ≡ ys) × (r ≡ s)
unfolding content
contents_once xs ys bytes r s fa fb p q a b =
    let e : magic ++ (flat_map block xs ++ r) ≡ magic ++ (flat_map block ys ++ s) = sym (append_assoc magic (flat_map block xs) r) ∙ sym a ∙ b ∙ append_assoc magic (flat_map block ys) s in
    blocks_once xs ys r s fa fb p q (append_cancel_left magic (flat_map block xs ++ r) (flat_map block ys ++ s) e)

has_magic : (xs : List (List ℕ)) (bytes r : List ℕ) → bytes ≡ content xs ++ r → (rest : List ℕ) × (bytes ≡ magic ++ rest)
unfolding content
has_magic xs bytes r e = (flat_map block xs ++ r, e ∙ append_assoc magic (flat_map block xs) r)

not_closed : (gate : ℕ) (rest bytes : List ℕ) → gate ≢ 1 → gate ∷ rest ≡ bytes → NoGate bytes → ⊥
not_closed gate rest bytes closed e (inl empty) = absurd (let no : gate ∷ rest ≡ [] = e ∙ empty in cc)
not_closed gate rest bytes closed e (inr (more, is, none)) = closed (ap head (e ∙ is))

pub stands_once : StandOnce
stands_once xs ys bytes s t =
    (contents_once xs ys bytes (s.gate ∷ s.rest) (t.gate ∷ t.rest) s.fit t.fit (closed_stops s.gate s.rest s.closed) (closed_stops t.gate t.rest t.closed) s.joined t.joined).0

pub whole_or_damaged : WholeIsNotDamaged
whole_or_damaged bodies bytes place s (inl (none, at)) = let m = has_magic bodies bytes (s.gate ∷ s.rest) s.joined in none m.0 m.1
whole_or_damaged bodies bytes place s (inr cut) =
    let e = contents_once bodies cut.bodies bytes (s.gate ∷ s.rest) cut.rest s.fit cut.fit (closed_stops s.gate s.rest s.closed) (none_stops cut.rest cut.none) s.joined cut.joined in
    not_closed s.gate s.rest cut.rest s.closed e.1 cut.none

pub damaged_once : DamagedOnce
damaged_once bytes p q (inl (none, at)) (inl (none2, at2)) = at ∙ sym at2
damaged_once bytes p q (inl (none, at)) (inr cut) = absurd (let m = has_magic cut.bodies bytes cut.rest cut.joined in none m.0 m.1)
damaged_once bytes p q (inr cut) (inl (none, at)) = absurd (let m = has_magic cut.bodies bytes cut.rest cut.joined in none m.0 m.1)
damaged_once bytes p q (inr a) (inr b) =
    a.at ∙ ap (λ bodies. length (content bodies)) (contents_once a.bodies b.bodies bytes a.rest b.rest a.fit b.fit (none_stops a.rest a.none) (none_stops b.rest b.none) a.joined b.joined).0 ∙ sym b.at
