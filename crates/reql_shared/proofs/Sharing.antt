-- The steps by which seats tell each other what they have seen keep the rule.
use Rattle.std.proofs.Common.{◌≡◌, ◌≢◌, ℕ, ◌<◌, List, [], ◌∷◌, ◌++◌, length, set, true, false, refl, sym, ap, ◌∙◌, subst, ⊎_elim, arith}
use mathlib.Core.Option.{some}
use lib.ListN.{get_elem?}
use Rattle.atomic_table.specs.Table.{State, Me, keeps, Allows, Enters, Splits, Joins}
use Rattle.atomic_table.proofs.Lists.{at_set, set_again}
use Rattle.reql_shared.specs.declared.recorded.Recorded.{Recorded}
use Rattle.reql_shared.specs.declared.view.View.{View}
use Rattle.reql_shared.specs.History.{own, Begins}
use Rattle.reql_shared.specs.Rule.{Agrees, Kept, BothNumbered, BothHold, BothMake, maker, made_one, new_pass, spent, note, heard, taken, settled, Settles, parted, kept_back, newcomer}
use Rattle.reql_shared.proofs.Histories.{off, longer_begins, longer_left, longer_right, longer_whole, own_between}
use Rattle.reql_shared.proofs.Views.{unique_set, unique_end, all_set, all_end, set_comm}
use Rattle.reql_shared.proofs.Locked.{self_zero, numbers}

module _ {C S D : Type 0} (lodges : S → List (Recorded C) → D → Type 0) where
  -- one view changes
  revise : (start : S) (passes : ℕ) (s : State D (View C S)) (id : ℕ) (w : View C S) (h : Kept lodges start passes s) → Agrees start passes h.next h.log w
      → ((j : ℕ) (u : View C S) → j ≢ id → get_elem? s.views j ≡ some u → (BothNumbered w u → ⊥) × (BothNumbered u w → ⊥))
      → ((j : ℕ) (u : View C S) → j ≢ id → get_elem? s.views j ≡ some u → (BothHold w u → ⊥) × (BothHold u w → ⊥))
      → ((j : ℕ) (u : View C S) → j ≢ id → get_elem? s.views j ≡ some u → (BothMake w u → ⊥) × (BothMake u w → ⊥))
      → (h.lock ≡ 0 → w.holds ≡ false)
      → Kept lodges start passes record { words = s.words; homes = s.homes; views = set s.views id w }
  revise start passes s id w h fits a b m f = record {
    log = h.log;
    next = h.next;
    lock = h.lock;
    words = h.words;
    few = h.few;
    low = h.low;
    home = h.home;
    free = λ z. all_set (λ u. u.holds ≡ false) s.views id w (h.free z) (f z);
    each = all_set (Agrees start passes h.next h.log) s.views id w h.each fits;
    apart = unique_set BothNumbered s.views id w h.apart a;
    alone = unique_set BothHold s.views id w h.alone b;
    one = unique_set BothMake s.views id w h.one m;
  }

  -- a new view
  adjoin : (start : S) (passes : ℕ) (s : State D (View C S)) (w : View C S) (h : Kept lodges start passes s) → Agrees start passes h.next h.log w
      → ((j : ℕ) (u : View C S) → get_elem? s.views j ≡ some u → (BothNumbered w u → ⊥) × (BothNumbered u w → ⊥))
      → w.holds ≡ false → w.maker ≡ false
      → Kept lodges start passes record { words = s.words; homes = s.homes; views = s.views ++ w ∷ [] }
  adjoin start passes s w h fits a b m = record {
    log = h.log;
    next = h.next;
    lock = h.lock;
    words = h.words;
    few = h.few;
    low = h.low;
    home = h.home;
    free = λ z. all_end (λ u. u.holds ≡ false) s.views w (h.free z) b;
    each = all_end (Agrees start passes h.next h.log) s.views w h.each fits;
    apart = unique_end BothNumbered s.views w h.apart a;
    alone = unique_end BothHold s.views w h.alone (λ j u e. ((λ r. off (sym b ∙ r.0)), (λ r. off (sym b ∙ r.1))));
    one = unique_end BothMake s.views w h.one (λ j u e. ((λ r. off (sym m ∙ r.0)), (λ r. off (sym m ∙ r.1))));
  }

  -- a note of what was seen
  pub notes : (start : S) (passes id : ℕ) (v : View C S) → Splits (Kept lodges start passes) id v v (note v)
  notes start passes id v s h at =
      subst (λ vs. Kept lodges start passes record { words = s.words; homes = s.homes; views = vs ++ note v ∷ [] }) (sym (set_again s.views id v at))
      (adjoin start passes s (note v) h
      (record { prefix = (h.each id v at).prefix; started = (h.each id v at).started; most = (h.each id v at).most; all = λ o. absurd (off o); low = λ o. absurd (off o); whole = λ o. absurd (off o); makes = λ o. absurd (off o); told = λ o. absurd (off o) })
      (λ j u e. ((λ r. off r.0), (λ r. off r.1))) refl refl)

  -- a pass hears a note
  pub hears : (start : S) (passes id : ℕ) (v : View C S) (other : ℕ) (w : View C S) (nowhere : S) → v.holds ≡ false → Joins (Kept lodges start passes) id v other w (heard v w) (spent nowhere)
  unfolding revise
  hears start passes id v other w nowhere rests s h at ne there =
      subst (λ vs. Kept lodges start passes record { words = s.words; homes = s.homes; views = vs }) (sym (set_comm s.views id other u (spent nowhere) (λ e. ne (sym e))))
      (revise start passes s1 id u h1 fits_u
      (λ j x d e. near j x d e BothNumbered (λ r. r) (λ r. r) ((λ r. off r.1), (λ r. off r.0)) (h.apart id j v x at) (λ g. h.apart j id x v g at))
      (λ j x d e. ((λ r. off (sym rests ∙ r.0)), (λ r. off (sym rests ∙ r.1))))
      (λ j x d e. near j x d e BothMake (λ r. r) (λ r. r) ((λ r. off r.1), (λ r. off r.0)) (h.one id j v x at) (λ g. h.one j id x v g at))
      (λ z. rests))
    where
      u : View C S
      u = heard v w

      fits_v : Agrees start passes h.next h.log v
      fits_v = h.each id v at

      at_w : get_elem? s.views other ≡ some w
      at_w = ⊎_elim (λ (p : (other ≡ id) × (u ≡ w)). absurd (ne p.0)) (λ (p : (other ≢ id) × (get_elem? s.views other ≡ some w)). p.1) (at_set s.views id other u w there)

      fits_w : Agrees start passes h.next h.log w
      fits_w = h.each other w at_w

      s1 : State D (View C S)
      s1 = record { words = s.words; homes = s.homes; views = set s.views other (spent nowhere) }

      h1 : Kept lodges start passes s1
      h1 = revise start passes s other (spent nowhere) h (record { prefix = (h.log, refl); started = λ o. absurd (off o); most = λ o. absurd (off o); all = λ o. absurd (off o); low = λ o. absurd (off o); whole = λ o. absurd (off o); makes = λ o. absurd (off o); told = λ o. absurd (off o) })
          (λ j x d e. ((λ r. off r.0), (λ r. off r.1))) (λ j x d e. ((λ r. off r.0), (λ r. off r.1))) (λ j x d e. ((λ r. off r.0), (λ r. off r.1))) (λ z. refl)

      left : Begins v.seen u.seen
      left = longer_left v.seen w.seen h.log fits_v.prefix fits_w.prefix

      long : Begins u.seen h.log
      long = longer_begins v.seen w.seen h.log fits_v.prefix fits_w.prefix

      fits_u : Agrees start passes h.next h.log u
      fits_u = record {
        prefix = long;
        started = fits_v.started;
        most = fits_v.most;
        all = λ o. own_between v.number v.seen u.seen h.log left long (fits_v.all o);
        low = fits_v.low;
        whole = λ o. absurd (off (sym rests ∙ o));
        makes = fits_v.makes;
        told = λ _. (left, longer_right v.seen w.seen h.log fits_v.prefix fits_w.prefix, (λ o. sym (own_between v.number v.seen u.seen h.log left long (fits_v.all o)) ∙ fits_v.all o), (λ o. absurd (off (sym rests ∙ o))));
      }

      near : (j : ℕ) (x : View C S) → j ≢ id → get_elem? s1.views j ≡ some x → (R : View C S → View C S → Type 0) → (R u x → R v x) → (R x u → R x v) → (R u (spent nowhere) → ⊥) × (R (spent nowhere) u → ⊥)
          → (get_elem? s.views j ≡ some x → R v x → id ≡ j) → (get_elem? s.views j ≡ some x → R x v → j ≡ id) → (R u x → ⊥) × (R x u → ⊥)
      near j x d e R p q none f g =
          ⊎_elim
          (λ (y : (j ≡ other) × (spent nowhere ≡ x)). ((λ r. none.0 (subst (R u) (sym y.1) r)), (λ r. none.1 (subst (λ z. R z u) (sym y.1) r))))
          (λ (y : (j ≢ other) × (get_elem? s.views j ≡ some x)). ((λ r. d (sym (f y.1 (p r)))), (λ r. d (g y.1 (q r)))))
          (at_set s.views other j (spent nowhere) x e)

  -- what was joined is told
  pub learns : (start : S) (passes id : ℕ) (m : Me D (View C S)) → Allows (Kept lodges start passes) 1 id m 0 (λ n. n) (Settles m)
  learns start passes id m s h one at wide = (
    w,
    keeps,
    tt,
    subst (λ ws. Kept lodges start passes record { words = ws; homes = s.homes; views = set s.views id w }) (sym (self_zero s.words (length h.log) h.lock h.words))
        (revise start passes s id w h
        (record { prefix = fits.prefix; started = fits.started; most = fits.most; all = fits.all; low = fits.low; whole = fits.whole; makes = fits.makes; told = λ o. absurd (off o) })
        (λ j u d e. ((λ r. d (sym (h.apart id j m.0 u at e r))), (λ r. d (h.apart j id u m.0 e at r))))
        (λ j u d e. ((λ r. d (sym (h.alone id j m.0 u at e r))), (λ r. d (h.alone j id u m.0 e at r))))
        (λ j u d e. ((λ r. d (sym (h.one id j m.0 u at e r))), (λ r. d (h.one j id u m.0 e at r))))
        (λ z. h.free z id m.0 at)),
    (refl, fits.told),
  )
    where
      w : View C S
      w = settled m.0

      fits : Agrees start passes h.next h.log m.0
      fits = h.each id m.0 at

  -- the seat that has the lock takes in a pass
  pub takes_in : (start : S) (passes id : ℕ) (v : View C S) (other : ℕ) (w : View C S) (nowhere : S) → v.holds ≡ true → v.own ≡ false → w.holds ≡ false → Joins (Kept lodges start passes) id v other w (taken v w) (spent nowhere)
  unfolding revise
  takes_in start passes id v other w nowhere held bare rests s h at ne there =
      subst (λ vs. Kept lodges start passes record { words = s.words; homes = s.homes; views = vs }) (sym (set_comm s.views id other u (spent nowhere) (λ e. ne (sym e))))
      (revise start passes s1 id u h1 fits_u
      (λ j x d e. apart_from j x d e)
      (λ j x d e. near j x d e BothHold (λ r. r) (λ r. r) ((λ r. off r.1), (λ r. off r.0)) (h.alone id j v x at) (λ g. h.alone j id x v g at))
      (λ j x d e. near j x d e BothMake (λ r. r) (λ r. r) ((λ r. off r.1), (λ r. off r.0)) (h.one id j v x at) (λ g. h.one j id x v g at))
      (λ z. h.free z id v at))
    where
      u : View C S
      u = taken v w

      fits_v : Agrees start passes h.next h.log v
      fits_v = h.each id v at

      at_w : get_elem? s.views other ≡ some w
      at_w = ⊎_elim (λ (p : (other ≡ id) × (u ≡ w)). absurd (ne p.0)) (λ (p : (other ≢ id) × (get_elem? s.views other ≡ some w)). p.1) (at_set s.views id other u w there)

      fits_w : Agrees start passes h.next h.log w
      fits_w = h.each other w at_w

      s1 : State D (View C S)
      s1 = record { words = s.words; homes = s.homes; views = set s.views other (spent nowhere) }

      h1 : Kept lodges start passes s1
      h1 = revise start passes s other (spent nowhere) h (record { prefix = (h.log, refl); started = λ o. absurd (off o); most = λ o. absurd (off o); all = λ o. absurd (off o); low = λ o. absurd (off o); whole = λ o. absurd (off o); makes = λ o. absurd (off o); told = λ o. absurd (off o) })
          (λ j x d e. ((λ r. off r.0), (λ r. off r.1))) (λ j x d e. ((λ r. off r.0), (λ r. off r.1))) (λ j x d e. ((λ r. off r.0), (λ r. off r.1))) (λ z. refl)

      whole : v.seen ≡ h.log
      whole = fits_v.whole held

      same : u.seen ≡ v.seen
      same = longer_whole v.seen w.seen (subst (Begins w.seen) (sym whole) fits_w.prefix)

      fits_u : Agrees start passes h.next h.log u
      fits_u = record {
        prefix = longer_begins v.seen w.seen h.log fits_v.prefix fits_w.prefix;
        started = fits_v.started;
        most = fits_v.most;
        all = λ o. ap (own w.number) (sym (same ∙ whole));
        low = fits_w.low;
        whole = λ _. same ∙ whole;
        makes = fits_v.makes;
        told = λ _. (longer_right v.seen w.seen h.log fits_v.prefix fits_w.prefix, longer_left v.seen w.seen h.log fits_v.prefix fits_w.prefix, (λ o. ap (own w.number) (same ∙ whole) ∙ fits_w.all o), (λ _. same));
      }

      near : (j : ℕ) (x : View C S) → j ≢ id → get_elem? s1.views j ≡ some x → (R : View C S → View C S → Type 0) → (R u x → R v x) → (R x u → R x v) → (R u (spent nowhere) → ⊥) × (R (spent nowhere) u → ⊥)
          → (get_elem? s.views j ≡ some x → R v x → id ≡ j) → (get_elem? s.views j ≡ some x → R x v → j ≡ id) → (R u x → ⊥) × (R x u → ⊥)
      near j x d e R p q none f g =
          ⊎_elim
          (λ (y : (j ≡ other) × (spent nowhere ≡ x)). ((λ r. none.0 (subst (R u) (sym y.1) r)), (λ r. none.1 (subst (λ z. R z u) (sym y.1) r))))
          (λ (y : (j ≢ other) × (get_elem? s.views j ≡ some x)). ((λ r. d (sym (f y.1 (p r)))), (λ r. d (g y.1 (q r)))))
          (at_set s.views other j (spent nowhere) x e)

      apart_from : (j : ℕ) (x : View C S) → j ≢ id → get_elem? s1.views j ≡ some x → (BothNumbered u x → ⊥) × (BothNumbered x u → ⊥)
      apart_from j x d e =
          ⊎_elim
          (λ (y : (j ≡ other) × (spent nowhere ≡ x)). ((λ r. off (subst (λ (z : View C S). z.own ≡ true) (sym y.1) r.1)), (λ r. off (subst (λ (z : View C S). z.own ≡ true) (sym y.1) r.0))))
          (λ (y : (j ≢ other) × (get_elem? s.views j ≡ some x)). ((λ r. y.0 (sym (h.apart other j w x at_w y.1 r))), (λ r. y.0 (h.apart j other x w y.1 at_w r))))
          (at_set s.views other j (spent nowhere) x e)

  -- the pass comes out again
  pub parts : (start : S) (passes id : ℕ) (v : View C S) → v.own ≡ true → Splits (Kept lodges start passes) id v (kept_back v) (parted v)
  unfolding revise
  parts start passes id v has s h at =
      adjoin start passes s1 (parted v) h1
      (record { prefix = fits.prefix; started = fits.started; most = fits.most; all = fits.all; low = fits.low; whole = λ o. absurd (off o); makes = λ o. absurd (off o); told = λ o. absurd (off o) })
      (λ j x e. ⊎_elim
      (λ (y : (j ≡ id) × (kept_back v ≡ x)). ((λ r. off (subst (λ (z : View C S). z.own ≡ true) (sym y.1) r.1)), (λ r. off (subst (λ (z : View C S). z.own ≡ true) (sym y.1) r.0))))
      (λ (y : (j ≢ id) × (get_elem? s.views j ≡ some x)). ((λ r. y.0 (sym (h.apart id j v x at y.1 r))), (λ r. y.0 (h.apart j id x v y.1 at r))))
      (at_set s.views id j (kept_back v) x e))
      refl refl
    where
      fits : Agrees start passes h.next h.log v
      fits = h.each id v at

      s1 : State D (View C S)
      s1 = record { words = s.words; homes = s.homes; views = set s.views id (kept_back v) }

      h1 : Kept lodges start passes s1
      h1 = revise start passes s id (kept_back v) h
          (record { prefix = fits.prefix; started = fits.started; most = fits.most; all = λ o. absurd (off o); low = λ o. absurd (off o); whole = fits.whole; makes = fits.makes; told = λ o. absurd (off o) })
          (λ j u d e. ((λ r. off r.0), (λ r. off r.1)))
          (λ j u d e. ((λ r. d (sym (h.alone id j v u at e r))), (λ r. d (h.alone j id u v e at r))))
          (λ j u d e. ((λ r. d (sym (h.one id j v u at e r))), (λ r. d (h.one j id u v e at r))))
          (λ z. h.free z id v at)

  pub learns_as : (start : S) (passes slots id : ℕ) (m : Me D (View C S)) → slots ≡ 1 → Allows (Kept lodges start passes) slots id m 0 (λ n. n) (Settles m)
  learns_as start passes slots id m one = subst (λ (x : ℕ). Allows (Kept lodges start passes) x id m 0 (λ n. n) (Settles m)) (sym one) (learns start passes id m)

  pub numbers_as : (start : S) (passes most id k : ℕ) (v : View C S) → v ≡ maker start most k → most ≡ passes → k < passes → Splits (Kept lodges start passes) id v (made_one v) (new_pass v)
  numbers_as start passes most id k v is same room =
      numbers lodges start passes id v (ap (λ (x : View C S). x.maker) is) (ap (λ (x : View C S). x.live) is) (ap (λ (x : View C S). x.holds) is) (ap (λ (x : View C S). x.own) is) (ap (λ (x : View C S). x.seen) is) (ap (λ (x : View C S). x.joined) is) (omega (arith, ap (λ (x : View C S). x.next) is, room))

module _ {C S D : Type 0} (lodges : S → List (Recorded C) → D → Type 0) where
  -- a new seat
  pub arrives : (start : S) (passes slots : ℕ) → Enters (Kept lodges start passes) slots 0 (λ n w. ◌≡◌ {A = Me D (View C S)} (w, []) (newcomer start passes, []))
  arrives start passes slots s h one wide = (
    newcomer start passes,
    adjoin lodges start passes s (newcomer start passes) h
        (record { prefix = (h.log, refl); started = λ _. refl; most = λ _. refl; all = λ o. absurd (off o); low = λ o. absurd (off o); whole = λ o. absurd (off o); makes = λ o. absurd (off o); told = λ o. absurd (off o) })
        (λ j u e. ((λ r. off r.0), (λ r. off r.1))) refl refl,
    refl,
  )
