-- The items of a limit feed, where one element left and one came, and their fold.
use Rattle.std.proofs.Common.{◌≡◌, ℕ, zero, suc, ◌+◌, ◌≤◌, List, [], ◌∷◌, length, Option, Some, None, Bool, true, false, ◌||◌, refl, sym, ap, ◌∙◌, arith, map}
use Rattle.std.specs.List.{insert, remove, AllByRecursion}
use Rattle.reql_datum.specs.Plain.{Plain}
use Rattle.reql_term.specs.Views.{Entry, documents_in}
use Rattle.reql_bag.specs.Bag.{one, times, in_order}
use Rattle.reql_bag.proofs.Bags.{same_itself, times_sorted}
use Rattle.reql_bag.proofs.Rising.{rising_sorted, by_counts}
use Rattle.reql_feed_spec.specs.Items.{Difference, same_entry, stands_in, gone, moves, limit_items}
use Rattle.reql_feed_spec.specs.Moves.{with_one, IsApart, IsOneMove}
use Rattle.reql_feed_spec.specs.Shown.{Shows, seen}
use Rattle.reql_feed_spec.specs.Fold.{list_fold, bag_fold}
use Rattle.reql_feed_spec.proofs.Folds.{heard, heard_is, lost, won, times_bag_fold, rising_bag_fold}

pub entry_itself : (e : Entry) → same_entry e e ≡ true
entry_itself e = rw (same_itself e.0, same_itself e.1.0, same_itself e.1.1) refl

-- ---- what stands in a list
abbrev pub AllStand : List Entry → List Entry → Type 0
AllStand es fs = AllByRecursion (λ e. stands_in e fs ≡ true) es

stands_later : (b : Bool) (e : Entry) (fs : List Entry) → stands_in e fs ≡ true → b || stands_in e fs ≡ true
stands_later true e fs h = refl
stands_later false e fs h = h

all_later : (f : Entry) (es fs : List Entry) → AllStand es fs → AllStand es (f ∷ fs)
all_later f [] fs all = tt
all_later f (e ∷ es) fs all = (stands_later (same_entry e f) e fs all.0, all_later f es fs all.1)

stands_first : (e : Entry) (fs : List Entry) → stands_in e (e ∷ fs) ≡ true
stands_first e fs = ap (λ b. b || stands_in e fs) (entry_itself e)

pub all_itself : (es : List Entry) → AllStand es es
all_itself [] = tt
all_itself (e ∷ es) = (stands_first e es, all_later e es es (all_itself es))

stands_insert_at : (b : Bool) (e : Entry) (fs gs : List Entry) → (stands_in e fs ≡ true → stands_in e gs ≡ true) → b || stands_in e fs ≡ true → b || stands_in e gs ≡ true
stands_insert_at true e fs gs on h = refl
stands_insert_at false e fs gs on h = on h

stands_insert : (e x : Entry) (fs : List Entry) (i : ℕ) → stands_in e fs ≡ true → stands_in e (insert fs i x) ≡ true
stands_insert e x fs zero h = stands_later (same_entry e x) e fs h
stands_insert e x [] (suc i) h = stands_later (same_entry e x) e [] h
stands_insert e x (f ∷ fs) (suc i) h = stands_insert_at (same_entry e f) e fs (insert fs i x) (stands_insert e x fs i) h

all_insert : (x : Entry) (es fs : List Entry) (i : ℕ) → AllStand es fs → AllStand es (insert fs i x)
all_insert x [] fs i all = tt
all_insert x (e ∷ es) fs i all = (stands_insert e x fs i all.0, all_insert x es fs i all.1)

one_more : (p : Option (ℕ × Entry)) (ks : List Entry) → AllStand ks (with_one p ks)
one_more None ks = all_itself ks
one_more (Some p) ks = all_insert p.1 ks ks p.0 (all_itself ks)

-- ---- what is gone
gone_none : (n : ℕ) (ks fs : List Entry) → AllStand ks fs → gone n ks fs ≡ None
gone_none n [] fs all = refl
gone_none n (k ∷ ks) fs all = rw all.0 (gone_none (suc n) ks fs all.1)

gone_one : (n i : ℕ) (x : Entry) (ks fs : List Entry) → i ≤ length ks → stands_in x fs ≡ false → AllStand ks fs → gone n (insert ks i x) fs ≡ Some (n + i, x)
gone_one n zero x ks fs h none all = rw none (let e : n ≡ n + 0 = omega arith in ap (λ k. Some (k, x)) e)
gone_one n (suc i) x [] fs h none all = absurd (omega arith)
gone_one n (suc i) x (k ∷ ks) fs h none all =
    let e : suc n + i ≡ n + suc i = omega arith in
    rw all.0 (gone_one (suc n) i x ks fs (omega arith) none all.1 ∙ ap (λ m. Some (m, x)) e)

gone_is : (out : Option (ℕ × Entry)) (ks fs : List Entry) → IsApart out ks fs → AllStand ks fs → gone 0 (with_one out ks) fs ≡ out
gone_is None ks fs apart all = gone_none 0 ks fs all
gone_is (Some p) ks fs apart all = gone_one 0 p.0 p.1 ks fs apart.0 apart.1 all ∙ (let e : 0 + p.0 ≡ p.0 = omega arith in ap (λ m. Some (m, p.1)) e)

pub limit_items_are : (es fs : List Entry) (m : IsOneMove es fs) → limit_items es fs ≡ moves m.out m.into
limit_items_are es fs m =
    let there : AllStand m.kept fs = rw m.after (one_more m.into m.kept) in
    let here : AllStand m.kept es = rw m.before (one_more m.out m.kept) in
    let left : gone 0 es fs ≡ m.out = ap (λ t. gone 0 t fs) m.before ∙ gone_is m.out m.kept fs m.out_apart there in
    let came : gone 0 fs es ≡ m.into = ap (λ t. gone 0 t es) m.after ∙ gone_is m.into m.kept es m.into_apart here in
    rw (left, came) refl

-- ---- documents of a list with one element more
documents_insert : (x : Entry) (ks : List Entry) (i : ℕ) → documents_in (insert ks i x) ≡ insert (documents_in ks) i x.1.1
documents_insert x ks zero = refl
documents_insert x [] (suc i) = refl
documents_insert x (k ∷ ks) (suc i) = ap (λ t. k.1.1 ∷ t) (documents_insert x ks i)

remove_insert : (d : Plain) (ks : List Entry) (i : ℕ) → i ≤ length ks → remove (insert (documents_in ks) i d) i ≡ documents_in ks
remove_insert d ks zero h = refl
remove_insert d [] (suc i) h = absurd (omega arith)
remove_insert d (k ∷ ks) (suc i) h = ap (λ t. k.1.1 ∷ t) (remove_insert d ks i (omega arith))

taken_out : (p : ℕ × Entry) (ks : List Entry) → p.0 ≤ length ks → remove (documents_in (insert ks p.0 p.1)) p.0 ≡ documents_in ks
taken_out p ks h = ap (λ t. remove t p.0) (documents_insert p.1 ks p.0) ∙ remove_insert p.1.1.1 ks p.0 h

times_insert : (v : Plain) (x : Entry) (ks : List Entry) (i : ℕ) → times v (documents_in (insert ks i x)) ≡ one v x.1.1 + times v (documents_in ks)
times_insert v x ks zero = refl
times_insert v x [] (suc i) = refl
times_insert v x (k ∷ ks) (suc i) = omega (arith, times_insert v x ks i)

-- ---- with offsets
list_folds_at : (out into : Option (ℕ × Entry)) (ks es fs : List Entry) → IsApart out ks fs → IsApart into ks es → list_fold (documents_in (with_one out ks)) (map (seen true) (moves out into)) ≡ documents_in (with_one into ks)
list_folds_at None None ks es fs a b = refl
list_folds_at None (Some n) ks es fs a b = rw b.2 (sym (documents_insert n.1 ks n.0))
list_folds_at (Some o) None ks es fs a b = taken_out o ks a.0
list_folds_at (Some o) (Some n) ks es fs a b = rw (b.2, taken_out o ks a.0) (sym (documents_insert n.1 ks n.0))

pub limit_folds : (s : Shows) (es fs : List Entry) → s.offsets ≡ true → IsOneMove es fs → list_fold (documents_in es) (heard s (limit_items es fs)) ≡ documents_in fs
limit_folds s es fs on m =
    let folded = list_folds_at m.out m.into m.kept es fs m.out_apart m.into_apart in
    ap (λ t. list_fold (documents_in es) (heard s t)) (limit_items_are es fs m)
    ∙ ap (list_fold (documents_in es)) (heard_is s (moves m.out m.into))
    ∙ ap (λ b. list_fold (documents_in es) (map (seen b) (moves m.out m.into))) on
    ∙ ap (λ t. list_fold (documents_in t) (map (seen true) (moves m.out m.into))) m.before
    ∙ folded
    ∙ ap documents_in (sym m.after)

-- ---- without offsets
abbrev pub one_at : Plain → Option (ℕ × Entry) → ℕ
one_at v None = 0
one_at v (Some p) = one v p.1.1.1

pub times_with_one : (v : Plain) (p : Option (ℕ × Entry)) (ks : List Entry) → times v (documents_in (with_one p ks)) ≡ one_at v p + times v (documents_in ks)
times_with_one v None ks = omega arith
times_with_one v (Some p) ks = times_insert v p.1 ks p.0

pub lost_moves : (offsets : Bool) (v : Plain) (out into : Option (ℕ × Entry)) (ks es fs : List Entry) → IsApart out ks fs → IsApart into ks es → lost v (map (seen offsets) (moves out into)) ≡ one_at v out
lost_moves offsets v None None ks es fs a b = refl
lost_moves offsets v None (Some n) ks es fs a b = omega arith
lost_moves offsets v (Some o) None ks es fs a b = rw a.2 (omega arith)
lost_moves offsets v (Some o) (Some n) ks es fs a b = rw a.2 (omega arith)

pub won_moves : (offsets : Bool) (v : Plain) (out into : Option (ℕ × Entry)) (ks es fs : List Entry) → IsApart out ks fs → IsApart into ks es → won v (map (seen offsets) (moves out into)) ≡ one_at v into
won_moves offsets v None None ks es fs a b = refl
won_moves offsets v None (Some n) ks es fs a b = rw b.2 (omega arith)
won_moves offsets v (Some o) None ks es fs a b = omega arith
won_moves offsets v (Some o) (Some n) ks es fs a b = rw b.2 (omega arith)

pub limit_bag_folds : (s : Shows) (es fs : List Entry) → IsOneMove es fs → bag_fold (in_order (documents_in es)) (heard s (limit_items es fs)) ≡ in_order (documents_in fs)
limit_bag_folds s es fs m =
    let vs : List Plain = documents_in es in
    let ws : List Plain = documents_in fs in
    let ds : List Difference = map (seen s.offsets) (moves m.out m.into) in
    let out : (v : Plain) → lost v ds ≡ one_at v m.out = λ v. lost_moves s.offsets v m.out m.into m.kept es fs m.out_apart m.into_apart in
    let into : (v : Plain) → won v ds ≡ one_at v m.into = λ v. won_moves s.offsets v m.out m.into m.kept es fs m.out_apart m.into_apart in
    let first : (v : Plain) → times v (in_order vs) ≡ one_at v m.out + times v (documents_in m.kept) = λ v. times_sorted v vs ∙ ap (λ t. times v (documents_in t)) m.before ∙ times_with_one v m.out m.kept in
    let last : (v : Plain) → times v (in_order ws) ≡ one_at v m.into + times v (documents_in m.kept) = λ v. times_sorted v ws ∙ ap (λ t. times v (documents_in t)) m.after ∙ times_with_one v m.into m.kept in
    ap (λ t. bag_fold (in_order vs) (heard s t)) (limit_items_are es fs m)
    ∙ ap (bag_fold (in_order vs)) (heard_is s (moves m.out m.into))
    ∙ by_counts (bag_fold (in_order vs) ds) (in_order ws) (rising_bag_fold (in_order vs) ds (rising_sorted vs)) (rising_sorted ws)
    (λ v. let all = times_bag_fold (in_order vs) ds (λ u. omega (arith, out u, first u)) v in omega (arith, all, out v, into v, first v, last v))
