-- What keeps the slots of the arms of feeds there.
use Rattle.std.proofs.Common.{◌≡◌, ◌<◌, ℕ, Bool, true≢false, not, cond, List, [], ◌∷◌, ◌++◌, filter, All, Some, is_some, sym, ap, subst}
use Rattle.std.specs.Prelude.{nat_eq, flat_map}
use Rattle.std.proofs.lemmas.List.Elements.{All-nil, All-cons, All-head, All-tail, All-append, All-push, All-map, All-filter}
use Rattle.reql_table_machine_spec.proofs.Tracking.{split}
use Rattle.reql_session_api.specs.Meant.{arm_of, arms_of}
use Rattle.reql_session_api.specs.declared.answered.Arm as coded
use Rattle.reql_session_spec.specs.Requests.{Arm, Shown}
use Rattle.reql_session_spec.specs.Books.{Open, feed_of}
use Rattle.reql_open_cursors.specs.Apart.{feeds_with}
use Rattle.reql_open_cursors.specs.There.{AreThere, AllThere}
use Rattle.reql_open_cursors.proofs.Places.{same_some}

abbrev Has : ℕ → Open → Type 0
Has n f = AreThere n f.arms

abbrev IsThere : ℕ → Arm → Type 0
IsThere n a = a.slot < n

abbrev IsThereCoded : ℕ → coded.Arm → Type 0
IsThereCoded n a = a.slot < n

pub there_none : (n : ℕ) → AllThere n []
there_none n = All-nil (Has n)

pub there_feed : (n : ℕ) (fs : List Open) (f : Open) → AllThere n fs → AreThere n f.arms → AllThere n (fs ++ f ∷ [])
there_feed n fs f all here = All-push (Has n) fs f all here

pub there_filter : (n : ℕ) (p : Open → Bool) (fs : List Open) → AllThere n fs → AllThere n (filter p fs)
there_filter n p fs all = All-filter p (Has n) fs all

pub there_closed : (n t : ℕ) (fs : List Open) → AllThere n fs → AllThere n (filter (λ f. not (nat_eq f.token t)) fs)
there_closed n t fs all = there_filter n (λ f. not (nat_eq f.token t)) fs all

pub there_left : (n t : ℕ) (left : List Shown) (fs : List Open) → AllThere n fs → AllThere n (feeds_with t left fs)
there_left n t left [] all = All-nil (Has n)
there_left n t left (f ∷ fs) all =
    All-cons (Has n) (cond (nat_eq f.token t) (record f { left = left }) f) (feeds_with t left fs)
    (split (nat_eq f.token t) (λ b. AreThere n (cond b (record f { left = left }) f).arms) (λ _. All-head (Has n) f fs all) (λ _. All-head (Has n) f fs all))
    (there_left n t left fs (All-tail (Has n) f fs all))

pub there_found : (n t : ℕ) (fs : List Open) (f : Open) → feed_of t fs ≡ Some f → AllThere n fs → AreThere n f.arms
there_found n t [] f is all = absurd (true≢false (sym (ap is_some is)))
there_found n t (g ∷ fs) f is all =
    split (nat_eq g.token t) (λ b. cond b (Some g) (feed_of t fs) ≡ Some f → AreThere n f.arms)
    (λ _ e. subst (λ (x : Open). AreThere n x.arms) (same_some g f e) (All-head (Has n) g fs all))
    (λ _ e. there_found n t fs f e (All-tail (Has n) g fs all)) is

-- the arms of all feeds, one after another
pub there_all : (n : ℕ) (fs : List Open) → AllThere n fs → AreThere n (flat_map (λ (f : Open). f.arms) fs)
there_all n [] all = All-nil (IsThere n)
there_all n (f ∷ fs) all =
    All-append (IsThere n) f.arms (flat_map (λ (g : Open). g.arms) fs) (All-head (Has n) f fs all) (there_all n fs (All-tail (Has n) f fs all))

-- between the arms of the program and those of the books
pub there_meant : (n : ℕ) (xs : List coded.Arm) → All (λ (a : coded.Arm). a.slot < n) xs → AreThere n (arms_of xs)
there_meant n xs all = All-map (IsThere n) arm_of xs all

pub there_coded : (n : ℕ) (xs : List coded.Arm) → AreThere n (arms_of xs) → All (λ (a : coded.Arm). a.slot < n) xs
there_coded n [] all = All-nil (IsThereCoded n)
there_coded n (x ∷ xs) all =
    All-cons (IsThereCoded n) x xs (All-head (IsThere n) (arm_of x) (arms_of xs) all) (there_coded n xs (All-tail (IsThere n) (arm_of x) (arms_of xs) all))
