-- What a frame is begun with: refusals, and answers that are always the same.
use Rattle.std.proofs.Common.{◌≡◌, ℕ, Bool, true, false, true≢false, cond, is_some, List, [], ◌∷◌, length, map, drop, ◌<◌, ◌≤◌, arith, Option, Some, None, option_map, refl, sym, ap, subst, ◌∙◌}
use Rattle.reql_outside.specs.Tape.{Tape}
use Rattle.reql_session_spec.specs.Requests.{Answer, Shown, Client}
use Rattle.reql_session_spec.specs.Bodies as texts
use Rattle.reql_session_spec.specs.Books.{Books, Open, has_token}
use Rattle.reql_session_spec.specs.Tasks.{Talk, Next, done, only_tell, tell_now, refuse, is_long, cut_to, continue_feed, continue_left}
use Rattle.reql_session_spec.specs.declared.end.End.{End}
use Rattle.reql_session_api.specs.World.{AtWork}
use Rattle.reql_session_api.specs.Meant.{arms_of, shown_of}
use Rattle.reql_session_api.specs.declared.answered.Shown as told
use Rattle.reql_open_cursors.specs.Kept.{feed_kept}
use Rattle.reql_open_cursors.specs.declared.open.Open as coded
use Rattle.reql_session.specs.Settling.{Settles, SettlesOrWants}
use Rattle.reql_session.proofs.Settled.{settles_done}

-- what is found where a call found something
pub of_some : {X Y : Type 0} (f : X → Y) (r : Option X) (o : Option Y) → option_map f r ≡ o → is_some r ≡ true → (y : Y) × (o ≡ Some y)
of_some f (Some x) o e h = (f x, sym e)
of_some f None o e h = absurd (true≢false (sym h))

pub of_none : {X Y : Type 0} (f : X → Y) (r : Option X) (o : Option Y) → option_map f r ≡ o → is_some r ≡ false → o ≡ None
of_none f None o e h = sym e
of_none f (Some x) o e h = absurd (true≢false h)

module _ {PL : Type 0} (k : Talk PL) where
  pub refuses_quietly : (t : Tape) (w : AtWork) (token : ℕ) (noreply : Bool) (a : Answer) → noreply ≡ true → Settles k t t w w (refuse k w.books token noreply a) None
  refuses_quietly t w token noreply a e = subst (λ z. Settles k t t w w (cond z (done w.books) (tell_now k w.books token a)) None) (sym e) (settles_done k t w w.books refl)

  pub refuses : (t u : Tape) (w : AtWork) (token : ℕ) (noreply : Bool) (a : Answer) (end : Option End) → noreply ≡ false → Settles k t u w w (tell_now k w.books token a) end → Settles k t u w w (refuse k w.books token noreply a) end
  refuses t u w token noreply a end e s = subst (λ z. Settles k t u w w (cond z (done w.books) (tell_now k w.books token a)) end) (sym e) s

  fits_by : (t u : Tape) (w : AtWork) (token : ℕ) (a : Answer) (end : Option End) (long : Bool) → long ≡ is_long k a → Settles k t u w w (only_tell w.books token (cond long (cut_to k a) a)) end → Settles k t u w w (tell_now k w.books token a) end
  fits_by t u w token a end long e s = subst (λ z. Settles k t u w w (only_tell w.books token (cond z (cut_to k a) a)) end) e s

  pub fits_cut : (t u : Tape) (w : AtWork) (token : ℕ) (a : Answer) (end : Option End) (long : Bool) → long ≡ is_long k a → long ≡ true → Settles k t u w w (only_tell w.books token (cut_to k a)) end → Settles k t u w w (tell_now k w.books token a) end
  fits_cut t u w token a end long e h s = fits_by t u w token a end true (sym h ∙ e) s

  pub fits_whole : (t u : Tape) (w : AtWork) (token : ℕ) (a : Answer) (end : Option End) (long : Bool) → long ≡ is_long k a → long ≡ false → Settles k t u w w (only_tell w.books token a) end → Settles k t u w w (tell_now k w.books token a) end
  fits_whole t u w token a end long e h s = fits_by t u w token a end false (sym h ∙ e) s

-- ---- a CONTINUE
left_more : {X Y : Type 0} (f : X → Y) (xs : List X) → 0 < length xs → (y : Y) × (ys : List Y) × (map f xs ≡ y ∷ ys)
left_more f [] h = absurd (omega (arith, h))
left_more f (x ∷ xs) h = (f x, map f xs, refl)

left_none : {X Y : Type 0} (f : X → Y) (xs : List X) → length xs ≤ 0 → map f xs ≡ []
left_none f [] h = refl
left_none f (x ∷ xs) h = absurd (omega (arith, h))

-- what is left of an open feed, by whether its program has some
pub has_left : (f : coded.Open) (xs : List told.Shown) → xs ≡ drop f.from f.items.items → 0 < length xs → (y : Shown) × (ys : List Shown) × ((feed_kept f).left ≡ y ∷ ys)
has_left f xs e h = subst (λ zs. (y : Shown) × (ys : List Shown) × (map (shown_of (arms_of f.arms.items)) zs ≡ y ∷ ys)) e (left_more (shown_of (arms_of f.arms.items)) xs h)

pub has_none : (f : coded.Open) (xs : List told.Shown) → xs ≡ drop f.from f.items.items → length xs ≤ 0 → (feed_kept f).left ≡ []
has_none f xs e h = subst (λ zs. map (shown_of (arms_of f.arms.items)) zs ≡ []) e (left_none (shown_of (arms_of f.arms.items)) xs h)

module _ {PL : Type 0} (k : Talk PL) where
  -- a point that equals another
  pub either_as : (t u : Tape) (w v : AtWork) (token : ℕ) (x y : Next PL) (end : Option End) → x ≡ y → SettlesOrWants k t u w v token x end → SettlesOrWants k t u w v token y end
  either_as t u w v token x y end e s = subst (λ z. SettlesOrWants k t u w v token z end) e s

  pub continues_with : (b : Books) (token : ℕ) (o : Option Open) (f : Open) (h : Bool) → o ≡ Some f → h ≡ has_token token b.waiting → continue_feed k b token o ≡ cond h (tell_now k b token (Client (texts.at_wait token))) (continue_left k b f f.left)
  continues_with b token o f h e r = ap (continue_feed k b token) e ∙ sym (ap (λ z. cond z (tell_now k b token (Client (texts.at_wait token))) (continue_left k b f f.left)) r)
