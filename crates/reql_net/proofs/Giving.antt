-- The posts that a net in memory gives, and those that are left.
use Rattle.std.proofs.Common.{◌≡◌, ℕ, ◌+◌, zero, suc, Bool, true, false, ◌&&◌, List, [], ◌∷◌, ◌++◌, All, length, drop, get_or, Result, Ok, Err, IfOk, OnErr, refl, sym, ap, subst, ◌∙◌, arith, length-append}
use Rattle.std.proofs.lemmas.List.Elements.{All-nil, All-cons, All-append, All-head, All-tail, All-drop, All-same}
use Rattle.reql_outside.specs.Source.{source, first, is_sound}
use Rattle.reql_net.specs.Nets.{IsUntouched, IsSound}
use Rattle.reql_net.specs.Posts.{MemPost, blank_post, is_sound_post, all_sound}

module _ {X : Type 0} where
  next_left : (xs : List X) (d : X) (k : ℕ) → get_or (drop k xs) 0 d ≡ get_or xs k d
  next_left xs d zero = refl
  next_left [] d (suc k) = refl
  next_left (x ∷ xs) d (suc k) = next_left xs d k

  left_next : (xs : List X) (k : ℕ) → drop 1 (drop k xs) ≡ drop (suc k) xs
  left_next xs zero = refl
  left_next [] (suc k) = refl
  left_next (x ∷ xs) (suc k) = left_next xs k

  -- one more was given
  pub one_more : (xs : List X) (d : X) (k : ℕ) (left given now : List X) (x : X) → given ≡ first xs d k → left ≡ drop k xs → x ≡ get_or left 0 d → now ≡ given ++ x ∷ [] → now ≡ first xs d (k + 1)
  one_more xs d k left given now x g l e f =
      f ∙ ap (λ (y : X). given ++ y ∷ []) (e ∙ ap (λ (ys : List X). get_or ys 0 d) l ∙ next_left xs d k) ∙ ap (λ (ys : List X). ys ++ get_or xs k d ∷ []) g
      ∙ ap (first xs d) (let same : suc k ≡ k + 1 = omega arith in same)

  pub one_less : (xs : List X) (k : ℕ) (left now : List X) → left ≡ drop k xs → now ≡ drop 1 left → now ≡ drop (k + 1) xs
  one_less xs k left now l e = e ∙ ap (drop 1) l ∙ left_next xs k ∙ ap (λ j. drop j xs) (let same : suc k ≡ k + 1 = omega arith in same)

  pub first_length : (xs : List X) (d : X) (n : ℕ) → length (first xs d n) ≡ n
  first_length xs d zero = refl
  first_length xs d (suc n) = length-append (first xs d n) (get_or xs n d ∷ []) ∙ omega (arith, first_length xs d n)

module _ {X : Type 0} (P : X → Type 0) where
  at_any : (xs : List X) (d : X) (n : ℕ) → P d → All P xs → P (get_or xs n d)
  at_any [] d n p h = p
  at_any (x ∷ xs) d zero p h = All-head P x xs h
  at_any (x ∷ xs) d (suc n) p h = at_any xs d n p (All-tail P x xs h)

  pub first_all : (xs : List X) (d : X) (n : ℕ) → P d → All P xs → All P (first xs d n)
  first_all xs d zero p h = All-nil P
  first_all xs d (suc n) p h = All-append P (first xs d n) (get_or xs n d ∷ []) (first_all xs d n p h) (All-cons P (get_or xs n d) [] (at_any xs d n p h) (All-nil P))

both : (a b : Bool) → (a && b) ≡ true → (a ≡ true) × (b ≡ true)
both true b e = (refl, e)
both false b e = absurd (let f : false ≡ true = e in cc)

abbrev pub Untouched : MemPost → Type 0
Untouched = IsUntouched (λ d. d.told)

abbrev pub Sound : MemPost → Type 0
Sound = IsSound source source

all_are_sound : (posts : List MemPost) → all_sound posts ≡ true → All Sound posts
all_are_sound [] e = All-nil Sound
all_are_sound (p ∷ ps) e =
    let h = both (is_sound_post p) (all_sound ps) e in
    All-cons Sound p ps (both (is_sound p.dice.fails) (is_sound p.clock.fails) h.0) (all_are_sound ps h.1)

left_sound : (posts : List MemPost) (n : ℕ) → all_sound posts ≡ true → all_sound (drop n posts) ≡ true
left_sound posts zero e = e
left_sound [] (suc n) e = e
left_sound (p ∷ ps) (suc n) e = left_sound ps n (both (is_sound_post p) (all_sound ps) e).1

-- the posts that are left of a list that was made of these
abbrev pub Kept : List MemPost → List MemPost → Type 0
Kept made posts = All Untouched posts × (all_sound made ≡ true → all_sound posts ≡ true)

pub kept : (made posts now : List MemPost) (n : ℕ) {G E : Type 0} (r : Result G E) → IfOk r (λ _. now ≡ drop n posts) → OnErr r (now ≡ posts) → Kept made posts → Kept made now
kept made posts now n (Ok given) left same h = subst (Kept made) (sym left) (All-drop Untouched n posts h.0, λ e. left_sound posts n (h.1 e))
kept made posts now n (Err fault) left same h = subst (Kept made) (sym same) h

pub given_count : (posts given : List MemPost) (n : ℕ) → given ≡ first posts blank_post n → length given ≡ n
given_count posts given n is = ap length is ∙ first_length posts blank_post n

pub given_untouched : (posts given : List MemPost) (n : ℕ) → given ≡ first posts blank_post n → All Untouched posts → All Untouched given
given_untouched posts given n is h = All-same Untouched given (first posts blank_post n) is (first_all Untouched posts blank_post n refl h)

pub given_sound : (posts given : List MemPost) (n : ℕ) → given ≡ first posts blank_post n → all_sound posts ≡ true → All Sound given
given_sound posts given n is e = All-same Sound given (first posts blank_post n) is (first_all Sound posts blank_post n (refl, refl) (all_are_sound posts e))
