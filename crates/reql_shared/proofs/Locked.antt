-- The steps of the one that makes the passes, and of the one that has the lock, keep the rule.
use Rattle.std.proofs.Common.{◌≡◌, ◌≢◌, ◌⊎◌, inl, inr, ℕ, zero, suc, ◌+◌, ◌^◌, ◌%◌, ◌<◌, List, [], ◌∷◌, ◌++◌, length, set, Some, Bool, true, false, refl, sym, ap, ◌∙◌, subst, ⊎_elim, arith, length-append, append-nil, append_assoc}
use prog.Atomic.{either}
use Rattle.std.specs.Prelude.{◌==◌, slice_index}
use Rattle.std.specs.declared.snapshot.Snapshot.{Snapshot}
use mathlib.Core.Option.{some, some-ne-none, some-injective}
use lib.ListN.{get_elem?}
use Rattle.atomic_table.specs.Table.{State, Me, Act, Valid, stepped, carried_after, keeps, takes, gives, opening, Allows, Splits}
use Rattle.atomic_table.proofs.Lists.{at_set, set_here, set_again, exchanged}
use Rattle.reql_shared.specs.declared.recorded.Recorded.{Recorded}
use Rattle.reql_shared.specs.declared.view.View.{View}
use Rattle.reql_shared.specs.declared.view.Lodged.{Lodged}
use Rattle.reql_shared.specs.History.{noted, own, AllBelow}
use Rattle.reql_shared.specs.Rule.{Agrees, Kept, BothNumbered, BothHold, BothMake, Unique, maker, made_one, new_pass, caught, Takes, Counts, longer_by, add_asked, Appends, released, GivesBack}
use Rattle.reql_shared.proofs.Histories.{off, own-append, not_other, below_none, below_end, below_more}
use Rattle.reql_shared.proofs.Views.{unique_set, unique_same, unique_end, all_set, all_end}

pub self_zero : (ws : List ℕ) (x y : ℕ) → ws ≡ x ∷ y ∷ [] → set ws 0 (slice_index ws 0) ≡ ws
self_zero ws x y e = subst (λ zs. set zs 0 (slice_index zs 0) ≡ zs) (sym e) refl

zero_or : (n : ℕ) → (n ≡ 0) ⊎ (n ≢ 0)
zero_or zero = inl refl
zero_or (suc k) = inr (λ e. absurd (omega (arith, e)))

module _ {C S : Type 0} where
  module _ {D : Type 0} (lodges : S → List (Recorded C) → D → Type 0) where
    pub opens : (start : S) (passes : ℕ) (d : D) → lodges start [] d → Kept lodges start passes (opening (0 ∷ 0 ∷ []) (d ∷ []) (maker start passes 0))
    opens start passes d ok = record {
      log = [];
      next = 0;
      lock = 0;
      words = refl;
      few = omega arith;
      low = tt;
      home = λ _. (d, refl, ok);
      free = λ _ i v e. here (λ u. u.holds ≡ false) refl i v e;
      each = here (Agrees start passes 0 []) (record { prefix = ([], refl); started = λ _. refl; most = λ _. refl; all = λ o. absurd (off o); low = λ o. absurd (off o); whole = λ o. absurd (off o); makes = λ _. refl; told = λ o. absurd (off o) });
      apart = lone BothNumbered;
      alone = lone BothHold;
      one = lone BothMake;
    }
      where
        here : (P : View C S → Type 0) → P (maker start passes 0) → (i : ℕ) (v : View C S) → get_elem? (maker start passes 0 ∷ []) i ≡ some v → P v
        here P p zero v e = subst P (some-injective _ _ e) p
        here P p (suc i) v e = absurd (some-ne-none v (sym e))

        lone : (R : View C S → View C S → Type 0) → Unique R (maker start passes 0 ∷ [])
        lone R zero zero v w e f r = refl
        lone R zero (suc j) v w e f r = absurd (some-ne-none w (sym f))
        lone R (suc i) j v w e f r = absurd (some-ne-none v (sym e))

    pub numbers : (start : S) (passes id : ℕ) (v : View C S) → v.maker ≡ true → v.live ≡ true → v.holds ≡ false → v.own ≡ false → v.seen ≡ [] → v.joined ≡ false → v.next < passes
        → Splits (Kept lodges start passes) id v (made_one v) (new_pass v)
    numbers start passes id v is live free none empty nj room s h at = record {
      log = h.log;
      next = suc h.next;
      lock = h.lock;
      words = h.words;
      few = omega (arith, makes, room, mine.most live);
      low = below_more h.next (suc h.next) h.log h.low (omega arith);
      home = h.home;
      free = λ z. all_end (λ u. u.holds ≡ false) (set s.views id w) a (all_set (λ u. u.holds ≡ false) s.views id w (h.free z) refl) refl;
      each = all_end (Agrees start passes (suc h.next) h.log) (set s.views id w) a
          (λ j u e. ⊎_elim
          (λ (p : (j ≡ id) × (w ≡ u)). subst (Agrees start passes (suc h.next) h.log) p.1 fits_w)
          (λ (p : (j ≢ id) × (get_elem? s.views j ≡ some u)). raised u (h.each j u p.1) (λ m. p.0 (h.one j id u v p.1 at (m, is))))
          (at_set s.views id j w u e))
          fits_a;
      apart = unique_end BothNumbered (set s.views id w) a
          (unique_set BothNumbered s.views id w h.apart (λ j u ne e. ((λ r. off r.0), (λ r. off r.1))))
          (λ j u e. ⊎_elim
          (λ (p : (j ≡ id) × (w ≡ u)). ((λ r. off (subst (λ (y : View C S). y.own ≡ true) (sym p.1) r.1)), (λ r. off (subst (λ (y : View C S). y.own ≡ true) (sym p.1) r.0))))
          (λ (p : (j ≢ id) × (get_elem? s.views j ≡ some u)). ((λ r. let l = (h.each j u p.1).low r.1 in let q = r.2 in absurd (omega (arith, makes))), (λ r. let l = (h.each j u p.1).low r.0 in let q = r.2 in absurd (omega (arith, makes)))))
          (at_set s.views id j w u e));
      alone = unique_end BothHold (set s.views id w) a
          (unique_set BothHold s.views id w h.alone (λ j u ne e. ((λ r. off r.0), (λ r. off r.1))))
          (λ j u e. ((λ r. off r.0), (λ r. off r.1)));
      one = unique_end BothMake (set s.views id w) a
          (unique_same BothMake s.views id v w h.one at (λ u. ((λ r. (is, r.1)), (λ r. (r.0, is)))))
          (λ j u e. ((λ r. off r.0), (λ r. off r.1)));
    }
      where
        w : View C S
        w = made_one v

        a : View C S
        a = new_pass v

        mine : Agrees start passes h.next h.log v
        mine = h.each id v at

        makes : v.next ≡ h.next
        makes = mine.makes is

        fits_w : Agrees start passes (suc h.next) h.log w
        fits_w = record { prefix = (h.log, refl); started = λ _. mine.started live; most = λ _. mine.most live; all = λ o. absurd (off o); low = λ o. absurd (off o); whole = λ o. absurd (off o); makes = λ _. ap suc makes; told = λ o. absurd (off o) }

        fits_a : Agrees start passes (suc h.next) h.log a
        fits_a = record { prefix = (h.log, refl); started = λ _. mine.started live; most = λ _. mine.most live; all = λ _. below_none h.next v.next h.log h.low (omega (arith, makes)); low = λ _. omega (arith, makes); whole = λ o. absurd (off o); makes = λ o. absurd (off o); told = λ o. absurd (off o) }

        raised : (u : View C S) → Agrees start passes h.next h.log u → (u.maker ≡ true → ⊥) → Agrees start passes (suc h.next) h.log u
        raised u f never = record { prefix = f.prefix; started = f.started; most = f.most; all = f.all; low = λ o. let l = f.low o in omega arith; whole = f.whole; makes = λ m. absurd (never m); told = f.told }

    not_true : (b : Bool) → (b ≡ true → ⊥) → b ≡ false
    not_true true f = absurd (f refl)
    not_true false f = refl

    same_table : (s : State D (View C S)) (ws : List ℕ) (vs : List (View C S)) → ws ≡ s.words → vs ≡ s.views → record { words = ws; homes = s.homes; views = vs } ≡ s
    same_table s ws vs p q = λ k. record { words = p k; homes = s.homes; views = q k }

    module _ (start : S) (passes id : ℕ) (v : View C S) (live : v.live ≡ true) (s : State D (View C S)) (h : Kept lodges start passes s) (at : get_elem? s.views id ≡ some v) where
      -- what a try at the lock leads to, where the word becomes `new`
      abbrev Tried : ℕ → Type 0
      Tried new = (w : View C S) × (a : Act D) × Valid s.homes [] a × Kept lodges start passes (stepped s 1 new id [] w a) × Takes lodges (v, []) (slice_index s.words 1) (w, carried_after [] a)

      mine : Agrees start passes h.next h.log v
      mine = h.each id v at

      is_lock : slice_index s.words 1 ≡ h.lock
      is_lock = ap (λ ws. slice_index ws 1) h.words

      fits_caught : Agrees start passes h.next h.log (caught v h.log)
      fits_caught = record { prefix = ([], sym (append-nil h.log)); started = mine.started; most = mine.most; all = λ _. refl; low = mine.low; whole = λ _. refl; makes = mine.makes; told = λ o. absurd (off o) }

      hit : slice_index s.words 1 ≡ 0 → (new : ℕ) → new ≢ 0 → Tried new
      hit e new ne =
          let free = h.free (sym is_lock ∙ e) in
          let d = h.home (sym is_lock ∙ e) in
          let w : View C S = caught v h.log in (
            w,
            takes 0 d.0,
            d.1,
            record {
              log = h.log;
              next = h.next;
              lock = new;
              words = ap (λ ws. set ws 1 new) h.words;
              few = h.few;
              low = h.low;
              home = λ z. absurd (ne z);
              free = λ z. absurd (ne z);
              each = all_set (Agrees start passes h.next h.log) s.views id w h.each fits_caught;
              apart = unique_same BothNumbered s.views id v w h.apart at (λ u. ((λ r. r), (λ r. r)));
              alone = unique_set BothHold s.views id w h.alone (λ j u ne g. ((λ r. off (sym (free j u g) ∙ r.1)), (λ r. off (sym (free j u g) ∙ r.0))));
              one = unique_same BothMake s.views id v w h.one at (λ u. ((λ r. r), (λ r. r)));
            },
            (
              (λ _. record {
                engine = d.0;
                log = h.log;
                now = refl;
                lodged = subst (λ st. lodges st h.log d.0) (sym (mine.started live)) d.2;
                prefix = mine.prefix;
                all = mine.all;
                low = subst (λ n. AllBelow n h.log) (sym (mine.most live)) (below_more h.next passes h.log h.low h.few);
              }),
              (λ z. absurd (z e)),
            ),
          )

      miss : slice_index s.words 1 ≢ 0 → (new : ℕ) → new ≢ 0 → Tried new
      miss taken new ne = (
        v,
        keeps,
        tt,
        subst (λ vs. Kept lodges start passes record { words = set s.words 1 new; homes = s.homes; views = vs }) (sym (set_again s.views id v at)) (record {
          log = h.log;
          next = h.next;
          lock = new;
          words = ap (λ ws. set ws 1 new) h.words;
          few = h.few;
          low = h.low;
          home = λ z. absurd (ne z);
          free = λ z. absurd (ne z);
          each = h.each;
          apart = h.apart;
          alone = h.alone;
          one = h.one;
        }),
        ((λ e. absurd (taken e)), (λ _. refl)),
      )

    pub takes_free : (start : S) (passes id : ℕ) (v : View C S) → v.live ≡ true
        → Allows (Kept lodges start passes) 1 id (v, []) 1 (λ n. either (n == 0) 1 n) (Takes lodges (v, []))
    takes_free start passes id v live s h one at wide =
        exchanged (slice_index s.words 1) 0 1 (Tried start passes id v live s h at)
        (λ e. hit start passes id v live s h at e 1 (λ z. absurd (omega (arith, z))))
        (λ e. miss start passes id v live s h at e (slice_index s.words 1) e)

    pub takes_awaited : (start : S) (passes id : ℕ) (v : View C S) → v.live ≡ true
        → Allows (Kept lodges start passes) 1 id (v, []) 1 (λ _. 2) (Takes lodges (v, []))
    takes_awaited start passes id v live s h one at wide =
        ⊎_elim
        (λ (e : slice_index s.words 1 ≡ 0). hit start passes id v live s h at e 2 (λ z. absurd (omega (arith, z))))
        (λ (e : slice_index s.words 1 ≢ 0). miss start passes id v live s h at e 2 (λ z. absurd (omega (arith, z))))
        (zero_or (slice_index s.words 1))

    pub counts : (start : S) (passes id : ℕ) (v : View C S) (c : List (ℕ × D)) → v.holds ≡ true
        → Allows (Kept lodges start passes) 1 id (v, c) 0 (λ n. n) (Counts (v, c))
    counts start passes id v c held s h one at wide = (
      v,
      keeps,
      tt,
      subst (Kept lodges start passes) (sym (same_table s (set s.words 0 (slice_index s.words 0)) (set s.views id v) (self_zero s.words (length h.log) h.lock h.words) (set_again s.views id v at))) h,
      (refl, ap (λ ws. slice_index ws 0) h.words ∙ ap length (sym ((h.each id v at).whole held))),
    )

    pub gives_back : (start : S) (passes id : ℕ) (v : View C S) (d : D) → v.live ≡ true → v.holds ≡ true → lodges v.start v.seen d
        → Allows (Kept lodges start passes) 1 id (v, (0, d) ∷ []) 1 (λ _. 0) (GivesBack (v, (0, d) ∷ []))
    gives_back start passes id v d live held ok s h one at wide = (
      w,
      gives,
      tt,
      record {
        log = h.log;
        next = h.next;
        lock = 0;
        words = ap (λ ws. set ws 1 0) h.words;
        few = h.few;
        low = h.low;
        home = λ _. (d, set_here s.homes 0 (some d) (omega arith), subst (λ (x : S × List (Recorded C)). lodges x.0 x.1 d) (λ k. (mine.started live k, mine.whole held k)) ok);
        free = λ _ j u g. ⊎_elim (λ (p : (j ≡ id) × (w ≡ u)). ap (λ (y : View C S). y.holds) (sym p.1)) (λ (p : (j ≢ id) × (get_elem? s.views j ≡ some u)). not_true u.holds (λ t. p.0 (h.alone j id u v p.1 at (t, held)))) (at_set s.views id j w u g);
        each = λ j u g. ⊎_elim (λ (p : (j ≡ id) × (w ≡ u)). subst (Agrees start passes h.next h.log) p.1 fits_w) (λ (p : (j ≢ id) × (get_elem? s.views j ≡ some u)). h.each j u p.1) (at_set s.views id j w u g);
        apart = unique_same BothNumbered s.views id v w h.apart at (λ u. ((λ r. r), (λ r. r)));
        alone = unique_set BothHold s.views id w h.alone (λ j u ne g. ((λ r. off r.0), (λ r. off r.1)));
        one = unique_same BothMake s.views id v w h.one at (λ u. ((λ r. r), (λ r. r)));
      },
      refl,
    )
      where
        w : View C S
        w = released v

        mine : Agrees start passes h.next h.log v
        mine = h.each id v at

        fits_w : Agrees start passes h.next h.log w
        fits_w = record { prefix = mine.prefix; started = mine.started; most = mine.most; all = mine.all; low = mine.low; whole = λ o. absurd (off o); makes = mine.makes; told = λ o. absurd (off o) }

    pub takes_free_as : (start : S) (passes slots id : ℕ) (m : Me D (View C S)) → slots ≡ 1 → m.1 ≡ [] → m.0.live ≡ true
        → Allows (Kept lodges start passes) slots id m 1 (λ n. either (n == 0) 1 n) (Takes lodges m)
    takes_free_as start passes slots id m one none live =
        subst (λ (x : ℕ × List (ℕ × D)). Allows (Kept lodges start passes) x.0 id (m.0, x.1) 1 (λ n. either (n == 0) 1 n) (Takes lodges (m.0, x.1))) (λ k. (sym one k, sym none k)) (takes_free start passes id m.0 live)

    pub takes_awaited_as : (start : S) (passes slots id : ℕ) (m : Me D (View C S)) → slots ≡ 1 → m.1 ≡ [] → m.0.live ≡ true
        → Allows (Kept lodges start passes) slots id m 1 (λ _. 2) (Takes lodges m)
    takes_awaited_as start passes slots id m one none live =
        subst (λ (x : ℕ × List (ℕ × D)). Allows (Kept lodges start passes) x.0 id (m.0, x.1) 1 (λ _. 2) (Takes lodges (m.0, x.1))) (λ k. (sym one k, sym none k)) (takes_awaited start passes id m.0 live)

    pub counts_as : (start : S) (passes slots id : ℕ) (m : Me D (View C S)) → slots ≡ 1 → m.0.holds ≡ true
        → Allows (Kept lodges start passes) slots id m 0 (λ n. n) (Counts m)
    counts_as start passes slots id m one held =
        subst (λ (x : ℕ). Allows (Kept lodges start passes) x id m 0 (λ n. n) (Counts m)) (sym one) (counts start passes id m.0 m.1 held)

    pub gives_as : (start : S) (passes slots id : ℕ) (m : Me D (View C S)) (d : D) → slots ≡ 1 → m.1 ≡ (0, d) ∷ [] → m.0.live ≡ true → m.0.holds ≡ true → lodges m.0.start m.0.seen d
        → Allows (Kept lodges start passes) slots id m 1 (λ _. 0) (GivesBack m)
    gives_as start passes slots id m d one has live held ok =
        subst (λ (x : ℕ × List (ℕ × D)). Allows (Kept lodges start passes) x.0 id (m.0, x.1) 1 (λ _. 0) (GivesBack (m.0, x.1))) (λ k. (sym one k, sym has k)) (gives_back start passes id m.0 d live held ok)

  module _ {E : Type 0} (lodges : S → List (Recorded C) → Lodged E C → Type 0) where
    pub adds_at : (start : S) (passes id : ℕ) (v : View C S) (d : Lodged E C) (c : Snapshot C) → v.holds ≡ true → v.own ≡ true → length v.seen + 1 < 2 ^ 64 → d.asked ≡ Some c
        → Allows (Kept lodges start passes) 1 id (v, (0, d) ∷ []) 0 (λ n. (n + 1) % 2 ^ 64) (Appends (v, (0, d) ∷ []))
    adds_at start passes id v d c held has room asked s h one at wide = (
      w,
      keeps,
      tt,
      record {
        log = log;
        next = h.next;
        lock = h.lock;
        words = ap (λ ws. set ws 0 ((slice_index ws 0 + 1) % 2 ^ 64)) h.words ∙ ap (λ k. k ∷ h.lock ∷ []) count;
        few = h.few;
        low = below_end h.next v.number c.value h.log h.low (mine.low has);
        home = λ z. absurd (off (sym (h.free z id v at) ∙ held));
        free = λ z. absurd (off (sym (h.free z id v at) ∙ held));
        each = λ j u g. ⊎_elim
            (λ (p : (j ≡ id) × (w ≡ u)). subst (Agrees start passes h.next log) p.1 fits_w)
            (λ (p : (j ≢ id) × (get_elem? s.views j ≡ some u)). others u (h.each j u p.1) (λ o q. p.0 (h.apart j id u v p.1 at (o, has, sym q))) (λ o. p.0 (h.alone j id u v p.1 at (o, held))))
            (at_set s.views id j w u g);
        apart = unique_same BothNumbered s.views id v w h.apart at (λ u. ((λ r. r), (λ r. r)));
        alone = unique_same BothHold s.views id v w h.alone at (λ u. ((λ r. r), (λ r. r)));
        one = unique_same BothMake s.views id v w h.one at (λ u. ((λ r. r), (λ r. r)));
      },
      ((λ k. (add_asked v (sym asked k), (0, d) ∷ [])), found),
    )
      where
        e : Recorded C
        e = noted v.number c.value

        log : List (Recorded C)
        log = h.log ++ e ∷ []

        w : View C S
        w = longer_by v e

        mine : Agrees start passes h.next h.log v
        mine = h.each id v at

        whole : v.seen ≡ h.log
        whole = mine.whole held

        found : slice_index s.words 0 ≡ length v.seen
        found = ap (λ ws. slice_index ws 0) h.words ∙ ap length (sym whole)

        count : (length h.log + 1) % 2 ^ 64 ≡ length log
        count = omega (arith, room, ap length whole, length-append h.log (e ∷ []))

        fits_w : Agrees start passes h.next log w
        fits_w = record { prefix = ([], ap (λ l. l ++ e ∷ []) (sym whole) ∙ sym (append-nil (v.seen ++ e ∷ []))); started = mine.started; most = mine.most; all = λ _. ap (λ l. own v.number (l ++ e ∷ [])) (sym whole); low = mine.low; whole = λ _. ap (λ l. l ++ e ∷ []) whole; makes = mine.makes; told = λ o. absurd (off o) }

        others : (u : View C S) → Agrees start passes h.next h.log u → (u.own ≡ true → v.number ≢ u.number) → (u.holds ≡ true → ⊥) → Agrees start passes h.next log u
        others u f other not = record {
          prefix = (f.prefix.0 ++ e ∷ [], ap (λ l. l ++ e ∷ []) f.prefix.1 ∙ append_assoc u.seen f.prefix.0 (e ∷ []));
          started = f.started;
          most = f.most;
          all = λ o. own-append u.number h.log (e ∷ []) ∙ (ap (λ xs. own u.number h.log ++ xs) (not_other u.number v.number c.value (other o)) ∙ append-nil (own u.number h.log)) ∙ f.all o;
          low = f.low;
          whole = λ o. absurd (not o);
          makes = f.makes;
          told = f.told;
        }

    pub adds : (start : S) (passes id : ℕ) (m : Me (Lodged E C) (View C S)) (v : View C S) (d : Lodged E C) (c : Snapshot C) → m ≡ (v, (0, d) ∷ []) → v.holds ≡ true → v.own ≡ true → length v.seen + 1 < 2 ^ 64 → d.asked ≡ Some c
        → Allows (Kept lodges start passes) 1 id m 0 (λ n. (n + 1) % 2 ^ 64) (Appends m)
    adds start passes id m v d c is held has room asked =
        subst (λ (x : Me (Lodged E C) (View C S)). Allows (Kept lodges start passes) 1 id x 0 (λ n. (n + 1) % 2 ^ 64) (Appends x)) (sym is) (adds_at start passes id v d c held has room asked)

    pub adds_as : (start : S) (passes slots id : ℕ) (m : Me (Lodged E C) (View C S)) (d : Lodged E C) (c : Snapshot C) → slots ≡ 1 → m.1 ≡ (0, d) ∷ [] → m.0.holds ≡ true → m.0.own ≡ true → length m.0.seen + 1 < 2 ^ 64 → d.asked ≡ Some c
        → Allows (Kept lodges start passes) slots id m 0 (λ n. (n + 1) % 2 ^ 64) (Appends m)
    adds_as start passes slots id m d c one has held own room asked =
        subst (λ (x : ℕ). Allows (Kept lodges start passes) x id m 0 (λ n. (n + 1) % 2 ^ 64) (Appends m)) (sym one) (adds start passes id m m.0 d c (λ k. (m.0, has k)) held own room asked)
