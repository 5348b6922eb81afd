-- What keeps the feeds of tokens that wait quiet.
use Rattle.std.proofs.Common.{◌≡◌, ℕ, true, false, not, cond, List, [], ◌∷◌, ◌++◌, filter, Some, refl, sym, ap, subst, ◌∙◌, append_assoc}
use Rattle.std.specs.Prelude.{nat_eq}
use Rattle.std.proofs.lemmas.Bool.{eqb-true}
use Rattle.reql_table_machine_spec.proofs.Tracking.{split}
use Rattle.reql_session_spec.specs.Requests.{Shown}
use Rattle.reql_session_spec.specs.Books.{Open, has_token, without, feed_of}
use Rattle.reql_open_cursors.specs.Apart.{feeds_with}
use Rattle.reql_open_cursors.specs.Quiet.{IsQuiet, AllQuiet}
use Rattle.reql_open_cursors.proofs.Places.{first_off, second_off}
use Rattle.reql_open_cursors.proofs.Keeping.{turned, or_off, has_push}

-- the feeds of a token that is closed are left out
abbrev pub others : ℕ → List Open → List Open
others t fs = filter (λ f. not (nat_eq f.token t)) fs

-- tokens, one of which is left out
has_mid : (w : ℕ) (ws : List ℕ) (t : ℕ) (ts : List ℕ) → has_token w (ws ++ t ∷ ts) ≡ false → (nat_eq t w ≡ false) × (has_token w (ws ++ ts) ≡ false)
has_mid w [] t ts off = (first_off (nat_eq t w) (has_token w ts) off, second_off (nat_eq t w) (has_token w ts) off)
has_mid w (u ∷ ws) t ts off =
    let later = has_mid w ws t ts (second_off (nat_eq u w) (has_token w (ws ++ t ∷ ts)) off) in
    (later.0, or_off (nat_eq u w) (has_token w (ws ++ ts)) (first_off (nat_eq u w) (has_token w (ws ++ t ∷ ts)) off) later.1)

has_without : (u t : ℕ) (ts : List ℕ) → has_token u ts ≡ false → has_token u (without t ts) ≡ false
has_without u t [] off = refl
has_without u t (v ∷ ts) off =
    let later = has_without u t ts (second_off (nat_eq v u) (has_token u ts) off) in
    split (nat_eq v t) (λ b. has_token u (cond (not b) (v ∷ without t ts) (without t ts)) ≡ false)
    (λ _. later) (λ _. or_off (nat_eq v u) (has_token u (without t ts)) (first_off (nat_eq v u) (has_token u ts) off) later)

pub none_waits : (t : ℕ) (ts : List ℕ) → has_token t ts ≡ false → without t ts ≡ ts
none_waits t [] off = refl
none_waits t (u ∷ ts) off =
    ap (λ b. cond (not b) (u ∷ without t ts) (without t ts)) (first_off (nat_eq u t) (has_token t ts) off)
    ∙ ap (λ us. u ∷ us) (none_waits t ts (second_off (nat_eq u t) (has_token t ts) off))

-- a feed of another token is found as before
other_token : (t u : ℕ) (f : Open) → nat_eq u t ≡ false → nat_eq f.token t ≡ true → nat_eq f.token u ≡ false
other_token t u f off on = ap (λ x. nat_eq x u) (eqb-true f.token t on) ∙ turned u t off

pub feed_with : (t u : ℕ) (left : List Shown) (fs : List Open) → nat_eq u t ≡ false → feed_of u (feeds_with t left fs) ≡ feed_of u fs
feed_with t u left [] off = refl
feed_with t u left (f ∷ fs) off =
    let more = feeds_with t left fs in
    let later = feed_with t u left fs off in
    split (nat_eq f.token t) (λ b. feed_of u (cond b (record f { left = left }) f ∷ more) ≡ feed_of u (f ∷ fs))
    (λ on. let other = other_token t u f off on in
    ap (λ b. cond b (Some (record f { left = left })) (feed_of u more)) other ∙ later ∙ sym (ap (λ b. cond b (Some f) (feed_of u fs)) other))
    (λ _. ap (λ o. cond (nat_eq f.token u) (Some f) o) later)

pub feed_among : (t u : ℕ) (fs : List Open) → nat_eq u t ≡ false → feed_of u (others t fs) ≡ feed_of u fs
feed_among t u [] off = refl
feed_among t u (f ∷ fs) off =
    let later = feed_among t u fs off in
    split (nat_eq f.token t) (λ b. feed_of u (cond (not b) (f ∷ others t fs) (others t fs)) ≡ feed_of u (f ∷ fs))
    (λ on. later ∙ sym (ap (λ b. cond b (Some f) (feed_of u fs)) (other_token t u f off on)))
    (λ _. ap (λ o. cond (nat_eq f.token u) (Some f) o) later)

quiet_more : (t : ℕ) (fs : List Open) (f : Open) → IsQuiet (feed_of t fs) → IsQuiet (feed_of t (fs ++ f ∷ []))
quiet_more t [] f q = absurd q
quiet_more t (g ∷ fs) f q =
    split (nat_eq g.token t) (λ b. IsQuiet (cond b (Some g) (feed_of t fs)) → IsQuiet (cond b (Some g) (feed_of t (fs ++ f ∷ [])))) (λ _ h. h) (λ _ h. quiet_more t fs f h) q

-- other feeds, among which all tokens but this one find the same
same_feeds : (t : ℕ) (fs gs : List Open) → ((u : ℕ) → nat_eq u t ≡ false → feed_of u gs ≡ feed_of u fs) → (ts : List ℕ) → has_token t ts ≡ false → AllQuiet fs ts → AllQuiet gs ts
same_feeds t fs gs same [] off q = tt
same_feeds t fs gs same (u ∷ ts) off q = (
  q.0,
  subst IsQuiet (sym (same u (first_off (nat_eq u t) (has_token t ts) off))) q.1,
  same_feeds t fs gs same ts (second_off (nat_eq u t) (has_token t ts) off) q.2,
)

pub quiet_dropping : (fs : List Open) (ws : List ℕ) (t : ℕ) (ts : List ℕ) → AllQuiet fs (ws ++ t ∷ ts) → AllQuiet fs (ws ++ ts) × (has_token t (ws ++ ts) ≡ false) × IsQuiet (feed_of t fs)
quiet_dropping fs [] t ts q = (q.2, q.0, q.1)
quiet_dropping fs (w ∷ ws) t ts q =
    let apart = has_mid w ws t ts q.0 in
    let later = quiet_dropping fs ws t ts q.2 in
    ((apart.1, q.1, later.0), or_off (nat_eq w t) (has_token t (ws ++ ts)) (turned t w apart.0) later.1, later.2)

pub quiet_left : (fs : List Open) (t : ℕ) (left : List Shown) (ts : List ℕ) → has_token t ts ≡ false → AllQuiet fs ts → AllQuiet (feeds_with t left fs) ts
quiet_left fs t items ts off q = same_feeds t fs (feeds_with t items fs) (λ u e. feed_with t u items fs e) ts off q

pub quiet_elsewhere : (fs : List Open) (t : ℕ) (ts : List ℕ) → has_token t ts ≡ false → AllQuiet fs ts → AllQuiet (others t fs) ts
quiet_elsewhere fs t ts off q = same_feeds t fs (others t fs) (λ u e. feed_among t u fs e) ts off q

pub quiet_closed : (fs : List Open) (t : ℕ) (ts : List ℕ) → AllQuiet fs ts → AllQuiet (others t fs) (without t ts)
quiet_closed fs t [] q = tt
quiet_closed fs t (u ∷ ts) q =
    let later = quiet_closed fs t ts q.2 in
    split (nat_eq u t) (λ b. AllQuiet (others t fs) (cond (not b) (u ∷ without t ts) (without t ts)))
    (λ _. later) (λ off. (has_without u t ts q.0, subst IsQuiet (sym (feed_among t u fs off)) q.1, later))

pub quiet_feed : (fs : List Open) (f : Open) (ts : List ℕ) → AllQuiet fs ts → AllQuiet (fs ++ f ∷ []) ts
quiet_feed fs f [] q = tt
quiet_feed fs f (t ∷ ts) q = (q.0, quiet_more t fs f q.1, quiet_feed fs f ts q.2)

pub quiet_waits : (fs : List Open) (t : ℕ) (ts : List ℕ) → AllQuiet fs ts → has_token t ts ≡ false → IsQuiet (feed_of t fs) → AllQuiet fs (ts ++ t ∷ [])
quiet_waits fs t [] q off quiet = (refl, quiet, tt)
quiet_waits fs t (u ∷ ts) q off quiet = (
  has_push u t ts q.0 (turned u t (first_off (nat_eq u t) (has_token t ts) off)),
  q.1,
  quiet_waits fs t ts q.2 (second_off (nat_eq u t) (has_token t ts) off) quiet,
)

pub quiet_again : (fs : List Open) (ws : List ℕ) (t : ℕ) (ts : List ℕ) → AllQuiet fs (ws ++ t ∷ ts) → AllQuiet fs ((ws ++ t ∷ []) ++ ts)
quiet_again fs ws t ts q = subst (AllQuiet fs) (sym (append_assoc ws (t ∷ []) ts)) q

pub quiet_without : (fs : List Open) (t : ℕ) (ts : List ℕ) → AllQuiet fs ts → AllQuiet fs (without t ts)
quiet_without fs t [] q = tt
quiet_without fs t (u ∷ ts) q =
    let later = quiet_without fs t ts q.2 in
    split (nat_eq u t) (λ b. AllQuiet fs (cond (not b) (u ∷ without t ts) (without t ts)))
    (λ _. later) (λ _. (has_without u t ts q.0, q.1, later))
