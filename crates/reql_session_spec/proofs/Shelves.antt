-- One arm of one feed in what a session keeps; its changes alone, or with what is told of skipped ones.
use Rattle.std.proofs.Common.{◌≡◌, ◌⊎◌, inl, inr, ℕ, Bool, true, false, true≢false, cond, not, ◌&&◌, ◌||◌, List, [], ◌∷◌, ◌++◌, map, filter, take, drop, Option, Some, None, refl, sym, ap, subst, ◌∙◌, append_assoc}
use Rattle.std.specs.List.{AllByRecursion}
use Rattle.std.specs.Prelude.{nat_eq}
use Rattle.std.proofs.lemmas.Grind.{flat_map-append}
use Rattle.std.proofs.lemmas.Bool.{eqb-true, eq-eqb, ne_eqb, both_ways}
use Rattle.std.proofs.lemmas.List.{take-append-drop}
use Rattle.reql_table_machine_spec.proofs.Items.{all_append, all_right}
use Rattle.reql_table_machine_spec.proofs.Tracking.{split}
use Rattle.reql_datum.specs.Plain.{Plain}
use Rattle.reql_session_spec.specs.Requests.{Arm, Sort, Opening, State, Skip, Change, Shown}
use Rattle.reql_session_spec.specs.Books.{Open, feed_of}
use Rattle.reql_session_spec.specs.Minding.{has_arm, IsAside}
use Rattle.reql_session_spec.specs.Explained.{if_told, told_item, told_items}

pub or_false : (x y : Bool) → (x || y) ≡ false → (x ≡ false) × (y ≡ false)
or_false true y e = absurd (true≢false e)
or_false false y e = (refl, e)

pub or_true : (x y : Bool) → (x || y) ≡ true → (x ≡ true) ⊎ (y ≡ true)
or_true true y e = inl refl
or_true false y e = inr e

pub which : (b : Bool) → (b ≡ true) ⊎ (b ≡ false)
which true = inl refl
which false = inr refl

module _ {A : Type 0} where
  pub filter_append : (p : A → Bool) (xs ys : List A) → filter p (xs ++ ys) ≡ filter p xs ++ filter p ys
  filter_append p [] ys = refl
  filter_append p (x ∷ xs) ys = split (p x) (λ b. cond b (x ∷ filter p (xs ++ ys)) (filter p (xs ++ ys)) ≡ cond b (x ∷ filter p xs) (filter p xs) ++ filter p ys) (λ _. ap (λ z. x ∷ z) (filter_append p xs ys)) (λ _. filter_append p xs ys)

  pub all_filter : (P : A → Type 0) (p : A → Bool) (xs : List A) → AllByRecursion P xs → AllByRecursion P (filter p xs)
  all_filter P p [] a = tt
  all_filter P p (x ∷ xs) a = split (p x) (λ b. AllByRecursion P (cond b (x ∷ filter p xs) (filter p xs))) (λ _. (a.0, all_filter P p xs a.1)) (λ _. all_filter P p xs a.1)

module _ (σ φ : ℕ) where
  abbrev pub has : List Arm → Bool
  has arms = has_arm σ φ arms

  pub has_append : (xs ys : List Arm) → has (xs ++ ys) ≡ (has xs || has ys)
  has_append [] ys = refl
  has_append (x ∷ xs) ys = ap (λ b. (nat_eq x.slot σ && nat_eq x.feed φ) || b) (has_append xs ys) ∙ assoc (nat_eq x.slot σ && nat_eq x.feed φ) (has xs) (has ys)
    where
      assoc : (a b c : Bool) → (a || (b || c)) ≡ ((a || b) || c)
      assoc true b c = refl
      assoc false b c = refl

  pub has_filter : (p : Arm → Bool) (arms : List Arm) → has (filter p arms) ≡ true → has arms ≡ true
  has_filter p [] e = e
  has_filter p (x ∷ xs) e = split (p x) (λ b. has (cond b (x ∷ filter p xs) (filter p xs)) ≡ true → ((nat_eq x.slot σ && nat_eq x.feed φ) || has xs) ≡ true)
      (λ _ h. elim (or_true (nat_eq x.slot σ && nat_eq x.feed φ) (has (filter p xs)) h) [ inl a ↦ ap (λ b. b || has xs) a | inr b ↦ later (nat_eq x.slot σ && nat_eq x.feed φ) (has xs) (has_filter p xs b) ])
      (λ _ h. later (nat_eq x.slot σ && nat_eq x.feed φ) (has xs) (has_filter p xs h)) e
    where
      later : (a b : Bool) → b ≡ true → (a || b) ≡ true
      later true b h = refl
      later false b h = h

module _ (σ φ : ℕ) (skips : Bool) where
  abbrev pub of : List Shown → List (ℕ × Plain)
  of xs = told_items σ φ skips xs

  pub of_append : (xs ys : List Shown) → of (xs ++ ys) ≡ of xs ++ of ys
  of_append xs ys = flat_map-append (told_item σ φ skips) xs ys

  pub of_cut : (n : ℕ) (xs : List Shown) → of (take n xs) ++ of (drop n xs) ≡ of xs
  of_cut n xs = sym (of_append (take n xs) (drop n xs)) ∙ ap of (take-append-drop n xs)

  pub of_aside : (xs : List Shown) → AllByRecursion (λ (x : Shown). IsAside x.sort) xs → of xs ≡ []
  of_aside [] a = refl
  of_aside (x ∷ xs) a = (λ i. aside x.sort (cond (nat_eq x.arm.slot σ && nat_eq x.arm.feed φ) ((x.stamp, x.item) ∷ []) []) a.0 i ++ of_aside xs a.1 i)
    where
      aside : (s : Sort) (l : List (ℕ × Plain)) → IsAside s → if_told skips s l ≡ []
      aside Change l h = absurd h
      aside Opening l h = refl
      aside State l h = refl
      aside Skip l h = absurd h

  -- a feed of which nothing is left, and that has other arms
  pub record IsClean (f : Open) : Type 0 where
    pub arms : has σ φ f.arms ≡ false
    pub left : of f.left ≡ []

  abbrev pub Cleans : List Open → Type 0
  Cleans fs = AllByRecursion IsClean fs

  abbrev pub Others : ℕ → List Open → Type 0
  Others token fs = AllByRecursion (λ (f : Open). nat_eq f.token token ≡ false) fs

  -- just one open feed may have the arm, and these changes of it are left
  pub record LiveIn (fs : List Open) (p : List (ℕ × Plain)) : Type 0 where
    pub pre : List Open
    pub post : List Open
    pub feed : Open
    pub all : fs ≡ pre ++ feed ∷ post
    pub before : Cleans pre
    pub behind : Cleans post
    pub not_before : Others feed.token pre
    pub not_behind : Others feed.token post
    pub left : p ≡ of feed.left

  -- where `c` is false, no feed has the arm
  abbrev pub Fine : Bool → List Open → List (ℕ × Plain) → Type 0
  Fine c fs p = Cleans fs ⊎ ((c ≡ true) × LiveIn fs p)

  -- a feed that is found by its token
  pub found_clean : (token : ℕ) (fs : List Open) (f : Open) → feed_of token fs ≡ Some f → Cleans fs → IsClean f
  found_clean token [] f e c = absurd (let h : None ≡ Some f = e in cc)
  found_clean token (g ∷ gs) f e c = split (nat_eq g.token token) (λ b. cond b (Some g) (feed_of token gs) ≡ Some f → IsClean f)
      (λ _ h. subst IsClean (let z : g ≡ f = some_is g f h in z) c.0) (λ _ h. found_clean token gs f h c.1) e
    where
      some_is : (x y : Open) → Some x ≡ Some y → x ≡ y
      some_is x y h = ap (λ o. get x o) h
        where
          get : Open → Option Open → Open
          get d None = d
          get d (Some z) = z

  pub found_token : (token : ℕ) (fs : List Open) (f : Open) → feed_of token fs ≡ Some f → nat_eq f.token token ≡ true
  found_token token [] f e = absurd (let h : None ≡ Some f = e in cc)
  found_token token (g ∷ gs) f e = split (nat_eq g.token token) (λ b. nat_eq g.token token ≡ b → cond b (Some g) (feed_of token gs) ≡ Some f → nat_eq f.token token ≡ true)
      (λ _ t h. subst (λ (z : Open). nat_eq z.token token ≡ true) (some_is g f h) t) (λ _ t h. found_token token gs f h) refl e
    where
      get : Open → Option Open → Open
      get d None = d
      get d (Some z) = z

      some_is : (x y : Open) → Some x ≡ Some y → x ≡ y
      some_is x y h = ap (λ o. get x o) h

  skip_others : (token : ℕ) (xs ys : List Open) → Others token xs → feed_of token (xs ++ ys) ≡ feed_of token ys
  skip_others token [] ys o = refl
  skip_others token (x ∷ xs) ys o = ap (λ b. cond b (Some x) (feed_of token (xs ++ ys))) o.0 ∙ skip_others token xs ys o.1

  -- which feed a token has: the one with the arm, or another
  pub which_feed : (c : Bool) (token : ℕ) (fs : List Open) (p : List (ℕ × Plain)) (f : Open) → feed_of token fs ≡ Some f → Fine c fs p →
      (Cleans fs × IsClean f) ⊎ ((c ≡ true) × (l : LiveIn fs p) × ((l.feed ≡ f) ⊎ (IsClean f × (nat_eq l.feed.token token ≡ false))))
  which_feed c token fs p f e (inl h) = inl (h, found_clean token fs f e h)
  which_feed c token fs p f e (inr h) =
      let l = h.1 in
      let at : feed_of token (l.pre ++ l.feed ∷ l.post) ≡ Some f = ap (λ z. feed_of token z) (sym l.all) ∙ e in
      inr (
        h.0,
        l,
        elim (which (nat_eq l.feed.token token)) [
          | inl t ↦ (let o : Others token l.pre = subst (λ z. Others z l.pre) (eqb-true l.feed.token token t) l.not_before in
              inl (get_some l.feed f (sym (ap (λ b. cond b (Some l.feed) (feed_of token l.post)) t) ∙ sym (skip_others token l.pre (l.feed ∷ l.post) o) ∙ at)))
          | inr t ↦ inr (found_apart token l.pre l.post l.feed f t l.before l.behind at, t)
        ],
      )
    where
      get : Open → Option Open → Open
      get d None = d
      get d (Some z) = z

      get_some : (x y : Open) → Some x ≡ Some y → x ≡ y
      get_some x y h = ap (λ o. get x o) h

      found_apart : (token : ℕ) (xs ys : List Open) (g f : Open) → nat_eq g.token token ≡ false → Cleans xs → Cleans ys → feed_of token (xs ++ g ∷ ys) ≡ Some f → IsClean f
      found_apart token [] ys g f t a b h = found_clean token ys f (sym (ap (λ z. cond z (Some g) (feed_of token ys)) t) ∙ h) b
      found_apart token (x ∷ xs) ys g f t a b h = split (nat_eq x.token token) (λ z. cond z (Some x) (feed_of token (xs ++ g ∷ ys)) ≡ Some f → IsClean f)
          (λ _ h2. subst IsClean (get_some x f h2) a.0) (λ _ h2. found_apart token xs ys g f t a.1 b h2) h

  pub live_found : (token : ℕ) (fs : List Open) (p : List (ℕ × Plain)) (f : Open) → feed_of token fs ≡ Some f → (l : LiveIn fs p) → nat_eq l.feed.token token ≡ true → l.feed ≡ f
  live_found token fs p f e l t =
      let o : Others token l.pre = subst (λ z. Others z l.pre) (eqb-true l.feed.token token t) l.not_before in
      get_some l.feed f (sym (ap (λ b. cond b (Some l.feed) (feed_of token l.post)) t) ∙ sym (skip_others token l.pre (l.feed ∷ l.post) o) ∙ ap (λ z. feed_of token z) (sym l.all) ∙ e)
    where
      get : Open → Option Open → Open
      get d None = d
      get d (Some z) = z

      get_some : (x y : Open) → Some x ≡ Some y → x ≡ y
      get_some x y h = ap (λ o. get x o) h

  pub apart_clean : (token : ℕ) (fs : List Open) (p : List (ℕ × Plain)) (f : Open) → feed_of token fs ≡ Some f → (l : LiveIn fs p) → nat_eq l.feed.token token ≡ false → IsClean f
  apart_clean token fs p f e l t = found_apart token l.pre l.post l.feed f t l.before l.behind (ap (λ z. feed_of token z) (sym l.all) ∙ e)
    where
      get : Open → Option Open → Open
      get d None = d
      get d (Some z) = z

      get_some : (x y : Open) → Some x ≡ Some y → x ≡ y
      get_some x y h = ap (λ o. get x o) h

      found_apart : (token : ℕ) (xs ys : List Open) (g f : Open) → nat_eq g.token token ≡ false → Cleans xs → Cleans ys → feed_of token (xs ++ g ∷ ys) ≡ Some f → IsClean f
      found_apart token [] ys g f t a b h = found_clean token ys f (sym (ap (λ z. cond z (Some g) (feed_of token ys)) t) ∙ h) b
      found_apart token (x ∷ xs) ys g f t a b h = split (nat_eq x.token token) (λ z. cond z (Some x) (feed_of token (xs ++ g ∷ ys)) ≡ Some f → IsClean f)
          (λ _ h2. subst IsClean (get_some x f h2) a.0) (λ _ h2. found_apart token xs ys g f t a.1 b h2) h

  -- closing a token
  abbrev gone_from : ℕ → List Open → List Open
  gone_from token fs = filter (λ f. not (nat_eq f.token token)) fs

  pub clean_closed : (token : ℕ) (fs : List Open) → Cleans fs → Cleans (gone_from token fs)
  clean_closed token fs c = all_filter IsClean (λ f. not (nat_eq f.token token)) fs c

  pub live_closed : (token : ℕ) (fs : List Open) (p : List (ℕ × Plain)) (l : LiveIn fs p) → nat_eq l.feed.token token ≡ true → Cleans (gone_from token fs)
  live_closed token fs p l t = subst Cleans (sym (ap (gone_from token) l.all ∙ filter_append (λ f. not (nat_eq f.token token)) l.pre (l.feed ∷ l.post) ∙ ap (λ b. gone_from token l.pre ++ cond (not b) (l.feed ∷ gone_from token l.post) (gone_from token l.post)) t))
      (all_append IsClean (gone_from token l.pre) (gone_from token l.post) (clean_closed token l.pre l.before) (clean_closed token l.post l.behind))

  pub fine_closed : (c : Bool) (token : ℕ) (fs : List Open) (p : List (ℕ × Plain)) → Fine c fs p → Fine c (gone_from token fs) p
  fine_closed c token fs p (inl h) = inl (clean_closed token fs h)
  fine_closed c token fs p (inr h) =
      let l = h.1 in
      elim (which (nat_eq l.feed.token token)) [
        | inl t ↦ inl (live_closed token fs p l t)
        | inr t ↦ inr (
          h.0,
          record {
            pre = gone_from token l.pre;
            post = gone_from token l.post;
            feed = l.feed;
            all = ap (gone_from token) l.all ∙ filter_append (λ f. not (nat_eq f.token token)) l.pre (l.feed ∷ l.post) ∙ ap (λ b. gone_from token l.pre ++ cond (not b) (l.feed ∷ gone_from token l.post) (gone_from token l.post)) t;
            before = clean_closed token l.pre l.before;
            behind = clean_closed token l.post l.behind;
            not_before = all_filter (λ (f : Open). nat_eq f.token l.feed.token ≡ false) (λ f. not (nat_eq f.token token)) l.pre l.not_before;
            not_behind = all_filter (λ (f : Open). nat_eq f.token l.feed.token ≡ false) (λ f. not (nat_eq f.token token)) l.post l.not_behind;
            left = l.left;
          },
        )
      ]

  -- closing a feed that has the arm leaves none that has
  pub closes_it : (c : Bool) (token : ℕ) (fs : List Open) (p : List (ℕ × Plain)) (f : Open) → feed_of token fs ≡ Some f → has σ φ f.arms ≡ true → Fine c fs p → Cleans (gone_from token fs)
  closes_it c token fs p f e h fine = elim (which_feed c token fs p f e fine) [
    | inl clean ↦ clean_closed token fs clean.0
    | inr live ↦ elim live.2 [
      | inl same ↦ live_closed token fs p live.1 (ap (λ (z : Open). nat_eq z.token token) same ∙ found_token token fs f e)
      | inr other ↦ absurd (true≢false (sym h ∙ other.0.arms))
    ]
  ]

  -- a feed goes on with other items left
  abbrev lefts : ℕ → List Shown → List Open → List Open
  lefts token left fs = map (λ f. cond (nat_eq f.token token) (record f { left = left }) f) fs

  pub clean_left : (token : ℕ) (left : List Shown) (fs : List Open) → of left ≡ [] → Cleans fs → Cleans (lefts token left fs)
  clean_left token left [] n c = tt
  clean_left token left (f ∷ fs) n c = (split (nat_eq f.token token) (λ b. IsClean (cond b (record f { left = left }) f)) (λ _. record { arms = c.0.arms; left = n }) (λ _. c.0), clean_left token left fs n c.1)

  same_left : (token : ℕ) (left : List Shown) (fs : List Open) → Others token fs → lefts token left fs ≡ fs
  same_left token left [] o = refl
  same_left token left (f ∷ fs) o = (λ i. cond (o.0 i) (record f { left = left }) f ∷ same_left token left fs o.1 i)

  others_left : (token t : ℕ) (left : List Shown) (fs : List Open) → Others t fs → Others t (lefts token left fs)
  others_left token t left [] o = tt
  others_left token t left (f ∷ fs) o = (split (nat_eq f.token token) (λ b. nat_eq (cond b (record f { left = left }) f).token t ≡ false) (λ _. o.0) (λ _. o.0), others_left token t left fs o.1)

  map_append : (token : ℕ) (left : List Shown) (xs ys : List Open) → lefts token left (xs ++ ys) ≡ lefts token left xs ++ lefts token left ys
  map_append token left [] ys = refl
  map_append token left (x ∷ xs) ys = ap (λ z. cond (nat_eq x.token token) (record x { left = left }) x ∷ z) (map_append token left xs ys)

  -- of another feed, and of the one that has the arm
  pub live_apart : (token : ℕ) (left : List Shown) (fs : List Open) (p : List (ℕ × Plain)) → of left ≡ [] → (l : LiveIn fs p) → nat_eq l.feed.token token ≡ false → LiveIn (lefts token left fs) p
  live_apart token left fs p n l t = record {
    pre = lefts token left l.pre;
    post = lefts token left l.post;
    feed = l.feed;
    all = ap (lefts token left) l.all ∙ map_append token left l.pre (l.feed ∷ l.post) ∙ ap (λ b. lefts token left l.pre ++ cond b (record l.feed { left = left }) l.feed ∷ lefts token left l.post) t;
    before = clean_left token left l.pre n l.before;
    behind = clean_left token left l.post n l.behind;
    not_before = others_left token l.feed.token left l.pre l.not_before;
    not_behind = others_left token l.feed.token left l.post l.not_behind;
    left = l.left;
  }

  pub live_left : (token : ℕ) (left : List Shown) (fs : List Open) (p q : List (ℕ × Plain)) (l : LiveIn fs p) → nat_eq l.feed.token token ≡ true → q ≡ of left → LiveIn (lefts token left fs) q
  live_left token left fs p q l t n =
      let e : l.feed.token ≡ token = eqb-true l.feed.token token t in
      record {
        pre = l.pre;
        post = l.post;
        feed = record l.feed { left = left };
        all = ap (lefts token left) l.all ∙ map_append token left l.pre (l.feed ∷ l.post) ∙ ap (λ b. lefts token left l.pre ++ cond b (record l.feed { left = left }) l.feed ∷ lefts token left l.post) t
            ∙ (λ i. same_left token left l.pre (subst (λ z. Others z l.pre) e l.not_before) i ++ record l.feed { left = left } ∷ same_left token left l.post (subst (λ z. Others z l.post) e l.not_behind) i);
        before = l.before;
        behind = l.behind;
        not_before = l.not_before;
        not_behind = l.not_behind;
        left = n;
      }

  -- a further feed
  pub fine_more : (c : Bool) (fs : List Open) (p : List (ℕ × Plain)) (f : Open) → Others f.token fs → IsClean f → Fine c fs p → Fine c (fs ++ f ∷ []) p
  fine_more c fs p f o cl (inl h) = inl (all_append IsClean fs (f ∷ []) h (cl, tt))
  fine_more c fs p f o cl (inr h) =
      let l = h.1 in
      inr (
        h.0,
        record {
          pre = l.pre;
          post = l.post ++ f ∷ [];
          feed = l.feed;
          all = ap (λ z. z ++ f ∷ []) l.all ∙ append_assoc l.pre (l.feed ∷ l.post) (f ∷ []);
          before = l.before;
          behind = all_append IsClean l.post (f ∷ []) l.behind (cl, tt);
          not_before = l.not_before;
          not_behind = all_append (λ (g : Open). nat_eq g.token l.feed.token ≡ false) l.post (f ∷ []) l.not_behind
              (turned f.token l.feed.token (all_right (λ (g : Open). nat_eq g.token f.token ≡ false) l.pre (l.feed ∷ l.post) (subst (Others f.token) l.all o)).0, tt);
          left = l.left;
        },
      )
    where
      turned : (a b : ℕ) → nat_eq b a ≡ false → nat_eq a b ≡ false
      turned a b h = ne_eqb a b (λ e. both_ways (nat_eq b a) h (eq-eqb b a (sym e)))

  pub live_new : (fs : List Open) (f : Open) → Others f.token fs → Cleans fs → of f.left ≡ [] → LiveIn (fs ++ f ∷ []) []
  live_new fs f o c n = record { pre = fs; post = []; feed = f; all = refl; before = c; behind = tt; not_before = o; not_behind = tt; left = sym n }
