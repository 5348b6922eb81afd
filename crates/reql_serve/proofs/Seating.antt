-- Workers are made of posts and desks, one by one, and taken apart so.
use Rattle.std.proofs.Common.{◌≡◌, ℕ, zero, suc, ◌+◌, ◌<◌, ◌≤◌, List, [], ◌∷◌, ◌++◌, length, map, All, refl, sym, ap, subst, ◌∙◌, arith, length-append, append-nil, append_assoc, Option, Some, None}
use Rattle.std.specs.Prelude.{slice_index_or, ⊤}
use Rattle.std.specs.List.{AllZip, range_with_len}
use Rattle.std.proofs.lemmas.List.{map_push, length_push, nil_from_length}
use Rattle.std.proofs.lemmas.List.Elements.{All-push}
use Rattle.std.proofs.lemmas.List.FromFn.{map-range_with_len_more}
use Rattle.std.proofs.lemmas.Slice.Zip.{AllZip-long, all_zipped_more}
use Rattle.reql_serve.specs.Many.{share_of, shares_of}
use Rattle.reql_serve.specs.Working.{IsThere}

module _ {A : Type 0} where
  -- where nothing is left, all were taken
  pub all_taken : (yielded rest all : List A) → yielded ++ rest ≡ all → length rest ≡ 0 → yielded ≡ all
  all_taken yielded rest all a z = sym (append-nil yielded) ∙ ap (λ r. yielded ++ r) (sym (nil_from_length rest z)) ∙ a

module _ {A B : Type 0} (R : A → B → Type 0) where
  -- what holds of two lists place by place holds at each place
  pub zipped_at : (xs : List A) (ys : List B) (n : ℕ) (x : A) (y : B) → AllZip R xs ys → n < length xs → R (slice_index_or xs n x) (slice_index_or ys n y)
  zipped_at [] ys n x y z lt = absurd (omega (arith, lt))
  zipped_at (a ∷ xs) [] n x y z lt = absurd z
  zipped_at (a ∷ xs) (b ∷ ys) zero x y z lt = z.0
  zipped_at (a ∷ xs) (b ∷ ys) (suc n) x y z lt = zipped_at xs ys n x y z.1 (omega (arith, lt))

  -- there is an element at each place
  pub elements : (xs : List A) (ys : List B) (n : ℕ) → AllZip R xs ys → n < length xs → A × B
  elements [] ys n z lt = absurd (omega (arith, lt))
  elements (a ∷ xs) [] n z lt = absurd z
  elements (a ∷ xs) (b ∷ ys) n z lt = (a, b)

  pub zip_weaker : (S : A → B → Type 0) → ((a : A) (b : B) → R a b → S a b) → (xs : List A) (ys : List B) → AllZip R xs ys → AllZip S xs ys
  zip_weaker S f [] [] z = tt
  zip_weaker S f [] (b ∷ ys) z = z
  zip_weaker S f (a ∷ xs) [] z = z
  zip_weaker S f (a ∷ xs) (b ∷ ys) z = (f a b z.0, zip_weaker S f xs ys z.1)

  -- while an element is still to come there is room for what is made of it
  pub room_for : (yielded rest later all : List A) (x : A) (made : List B) (len cap : ℕ)
      → yielded ++ rest ≡ all → rest ≡ x ∷ later → length all ≤ cap → AllZip R yielded made → length made ≡ len → len < cap
  room_for yielded rest later all x made len cap a r c z l =
      let whole : length yielded + length rest ≡ length all = sym (length-append yielded rest) ∙ ap length a in
      omega (arith, whole, ap length r, c, AllZip-long R yielded made z, l)

  pub zip_more : (xs : List A) (ys more : List B) (x : A) (y : B) → more ≡ ys ++ y ∷ [] → AllZip R xs ys → R x y → AllZip R (xs ++ x ∷ []) more
  zip_more xs ys more x y e z r = subst (AllZip R (xs ++ x ∷ [])) (sym e) (all_zipped_more R xs ys x y z r)

module _ {A : Type 0} where
  at_next : (xs later : List A) (x d : A) → slice_index_or (xs ++ x ∷ later) (length xs) d ≡ x
  at_next [] later x d = refl
  at_next (y ∷ xs) later x d = at_next xs later x d

  -- what holds of all holds of the next one
  pub next_of : (P : A → Type 0) (yielded rest later all given : List A) (x : A) → All P given → all ≡ given → yielded ++ rest ≡ all → rest ≡ x ∷ later → P x
  next_of P yielded rest later all given x h e a r =
      let is : given ≡ yielded ++ x ∷ later = sym e ∙ sym a ∙ ap (λ l. yielded ++ l) r in
      subst P (at_next yielded later x x) (subst (All P) is h (length yielded) x (omega (arith, length-append yielded (x ∷ later))))

module _ {A B : Type 0} (R : A → B → Type 0) where
  -- where nothing is left, all have theirs
  pub zip_whole : (yielded rest all given : List A) (made : List B) → AllZip R yielded made → yielded ++ rest ≡ all → length rest ≡ 0 → all ≡ given → AllZip R given made
  zip_whole yielded rest all given made z a n e = subst (λ xs. AllZip R xs made) (all_taken yielded rest all a n ∙ e) z

  pub zip_of : (all given : List A) (made : List B) → AllZip R all made → all ≡ given → AllZip R given made
  zip_of all given made z e = subst (λ xs. AllZip R xs made) e z

module _ {A : Type 0} where
  pub step_on : (yielded rest later all : List A) (x : A) → yielded ++ rest ≡ all → rest ≡ x ∷ later → (yielded ++ x ∷ []) ++ later ≡ all
  step_on yielded rest later all x a r = append_assoc yielded (x ∷ []) later ∙ ap (λ l. yielded ++ l) (sym r) ∙ a

  -- what is there now was there and is there
  pub there_now : (P : A → Type 0) (o : Option A) → IsThere o P → IsThere o (λ a. ⊤)
  there_now P None h = h
  there_now P (Some a) h = tt

  pub there_weaker : (P Q : A → Type 0) (o : Option A) → ((a : A) → P a → Q a) → IsThere o P → IsThere o Q
  there_weaker P Q None f h = h
  there_weaker P Q (Some a) f h = f a h

module _ {P D W : Type 0} (AtPost : P → W → Type 0) (AtDesk : D → W → Type 0) (Unused : W → Type 0) (left : W → ℕ) (share : ℕ → ℕ) where
  -- so many posts and desks have their worker
  pub record Seating (posts : List P) (desks : List D) (yielded rest : List P) (free : List D) (workers : List W) : Type 0 where
    pub whole : yielded ++ rest ≡ posts
    pub given : List D
    pub desks_whole : given ++ free ≡ desks
    pub enough : length free ≡ length rest
    pub at_posts : AllZip AtPost yielded workers
    pub at_desks : AllZip AtDesk given workers
    pub shares : map left workers ≡ map share (range_with_len 0 (length workers))
    pub unused : All Unused workers

  pub seats_none : (posts : List P) (desks : List D) (workers : List W) → length desks ≡ length posts → workers ≡ [] → Seating posts desks [] posts desks workers
  seats_none posts desks workers e n = subst (Seating posts desks [] posts desks) (sym n) (record {
    whole = refl;
    given = [];
    desks_whole = refl;
    enough = e;
    at_posts = tt;
    at_desks = tt;
    shares = refl;
    unused = λ k d lt. absurd (omega (arith, lt));
  })

  -- where a post is still to come a desk is
  pub desk_left : (posts : List P) (desks : List D) (yielded rest : List P) (free : List D) (workers : List W) (p : P) (rest2 : List P)
      → Seating posts desks yielded rest free workers → rest ≡ p ∷ rest2 → free ≡ [] → ⊥
  desk_left posts desks yielded rest free workers p rest2 s r f = absurd (omega (arith, s.enough, ap length r, ap length f))

  pub seats_more : (posts : List P) (desks : List D) (yielded rest : List P) (free : List D) (workers more : List W) (p : P) (rest2 : List P) (d : D) (free2 : List D) (w : W) (len : ℕ)
      → Seating posts desks yielded rest free workers → rest ≡ p ∷ rest2 → free ≡ d ∷ free2 → more ≡ workers ++ w ∷ [] → len ≡ length workers
      → AtPost p w → AtDesk d w → left w ≡ share len → Unused w → Seating posts desks (yielded ++ p ∷ []) rest2 free2 more
  seats_more posts desks yielded rest free workers more p rest2 d free2 w len s r f m n at_p at_d l u = subst (Seating posts desks (yielded ++ p ∷ []) rest2 free2) (sym m) (record {
    whole = step_on yielded rest rest2 posts p s.whole r;
    given = s.given ++ d ∷ [];
    desks_whole = step_on s.given free free2 desks d s.desks_whole f;
    enough = omega (arith, s.enough, ap length r, ap length f);
    at_posts = all_zipped_more AtPost yielded workers p w s.at_posts at_p;
    at_desks = all_zipped_more AtDesk s.given workers d w s.at_desks at_d;
    shares = map_push left workers w ∙ (λ i. s.shares i ++ (l ∙ ap share n) i ∷ [])
        ∙ sym (map-range_with_len_more share 0 (length workers) (length workers) (omega arith))
        ∙ ap (λ c. map share (range_with_len 0 c)) (sym (length_push workers w));
    unused = All-push Unused workers w s.unused u;
  })

  pub seats_posts : (posts : List P) (desks : List D) (yielded rest : List P) (free : List D) (workers : List W) → Seating posts desks yielded rest free workers → length rest ≡ 0 → AllZip AtPost posts workers
  seats_posts posts desks yielded rest free workers s z = subst (λ ps. AllZip AtPost ps workers) (all_taken yielded rest posts s.whole z) s.at_posts

  pub seats_desks : (posts : List P) (desks : List D) (yielded rest : List P) (free : List D) (workers : List W) → Seating posts desks yielded rest free workers → length rest ≡ 0 → AllZip AtDesk desks workers
  seats_desks posts desks yielded rest free workers s z = subst (λ ds. AllZip AtDesk ds workers) (all_taken s.given free desks s.desks_whole (s.enough ∙ z)) s.at_desks

  pub seats_shares : (posts : List P) (desks : List D) (yielded rest : List P) (free : List D) (workers : List W) → Seating posts desks yielded rest free workers → length rest ≡ 0
      → map left workers ≡ map share (range_with_len 0 (length posts))
  seats_shares posts desks yielded rest free workers s z = s.shares ∙ ap (λ c. map share (range_with_len 0 c)) (AllZip-long AtPost posts workers (seats_posts posts desks yielded rest free workers s z))

-- the shares by the number of posts
pub shares_are : (sessions count many posts : ℕ) (shares : List ℕ) → shares ≡ map (share_of sessions count) (range_with_len 0 many) → count ≡ posts → many ≡ posts → shares ≡ shares_of sessions posts
shares_are sessions count many posts shares h c m = h ∙ (λ i. map (share_of sessions (c i)) (range_with_len 0 (m i)))
