-- An answer of a cursor or a feed, at each of its ends.
use Rattle.std.proofs.Common.{◌≡◌, inl, inr, ℕ, ℤ, Bool, true, false, true≢false, List, [], ◌∷◌, Option, Some, None, length, map, take, drop, cond, refl, sym, ap, subst, ◌∙◌}
use Rattle.std.specs.Prelude.{nat_le}
use Rattle.std.proofs.lemmas.List.{take-map}
use Rattle.reql_outside.specs.Tape.{Tape, SendsAll}
use Rattle.reql_wire.specs.Frames.{spelling}
use Rattle.reql_session_spec.specs.Requests.{Arm, Shown, Answer, Last, Part, Batch, Internal}
use Rattle.reql_session_spec.specs.Books.{Books, Cursor, Open, closed, with_rest, with_left, feed_of}
use Rattle.reql_session_spec.specs.Bodies.{body}
use Rattle.reql_session_spec.specs.Tasks.{Talk, Next, Telling, Closing, Settled, at, only_tell, close, cut, cut_to, is_long, is_empty, tell, continue_cursor, continue_left}
use Rattle.reql_session_spec.specs.declared.end.End.{End}
use Rattle.reql_table_machine_spec.proofs.Tracking.{split}
use Rattle.reql_session_api.specs.World.{AtWork}
use Rattle.reql_outside.specs.Source.{Source}
use Rattle.reql_table_spec.specs.Machine.{State}
use Rattle.reql_session_api.specs.Meant.{arms_of, shown_of}
use Rattle.reql_session_api.specs.declared.answered.Shown as told
use Rattle.reql_session_api.specs.declared.answered.Arm as coded
use Rattle.reql_desk_moves.specs.Acting.{AtDesk}
use Rattle.reql_open_cursors.specs.Kept.{feed_kept}
use Rattle.reql_open_cursors.specs.declared.open.Open as shelf_open
use Rattle.reql_session.specs.Settling.{working, ended_by, Settles, SettlesOrWants}
use Rattle.reql_session.proofs.Tokens.{found_is}
use Rattle.reql_session.proofs.Settled.{settles_on, settles_so, leads_want}

-- the bytes of a feed's next batch
pub left_bytes : (g : shelf_open.Open) (f : Open) (notes bytes : List ℕ) (first : List told.Shown) → feed_kept g ≡ f → notes ≡ g.notes → first ≡ take g.batch (drop g.from g.items.items) →
    bytes ≡ body (Batch notes (map (shown_of (arms_of g.arms.items)) first) None) → bytes ≡ body (Batch f.notes (take f.batch f.left) None)
left_bytes g f notes bytes first same n x e =
    let meant : told.Shown → Shown = shown_of (arms_of g.arms.items) in
    e ∙ ap (λ z. body (Batch z (map meant first) None)) n ∙ ap (λ z. body (Batch g.notes (map meant z) None)) x
    ∙ ap (λ z. body (Batch g.notes z None)) (sym (take-map meant g.batch (drop g.from g.items.items))) ∙ ap (λ (z : Open). body (Batch z.notes (take z.batch z.left) None)) same

-- the same desk, with other books
abbrev pub with_books : AtWork → Books → AtWork
with_books w b = record w { books = b }

module _ {PL : Type 0} (k : Talk PL) where
  -- ---- whether an answer is too long
  tells_short : (t u : Tape) (w v : AtWork) (b kept : Books) (token : ℕ) (a : Answer) (arms : List Arm) (lose : Option (List Arm)) (end : Option End) → is_long k a ≡ false →
      Settles k t u w v (at b (Telling token a kept lose None)) end → Settles k t u w v (tell k b token a kept arms lose) end
  tells_short t u w v b kept token a arms lose end e s = subst (λ z. Settles k t u w v (cond z (cut k b token a arms) (at b (Telling token a kept lose None))) end) (sym e) s

  pub tells_long : (t u : Tape) (w v : AtWork) (b kept : Books) (token : ℕ) (a : Answer) (arms : List Arm) (lose : Option (List Arm)) (end : Option End) → is_long k a ≡ true →
      Settles k t u w v (cut k b token a arms) end → Settles k t u w v (tell k b token a kept arms lose) end
  tells_long t u w v b kept token a arms lose end e s = subst (λ z. Settles k t u w v (cond z (cut k b token a arms) (at b (Telling token a kept lose None))) end) (sym e) s

  -- a short one is sent, and leaves these books
  pub tells_so : (t u : Tape) (w v : AtWork) (b kept : Books) (token : ℕ) (a : Answer) (arms : List Arm) (lose : Option (List Arm)) (bytes : List ℕ) (whole long : Bool) (end : Option End) →
      v ≡ with_books w kept → bytes ≡ body a → long ≡ is_long k a → long ≡ false →
      SendsAll t u (spelling (record { token = token; body = bytes })) whole → end ≡ ended_by whole → Settles k t u w v (tell k b token a kept arms lose) end
  tells_so t u w v b kept token a arms lose bytes whole long end o x l f s r =
      subst (λ z. Settles k t u w z (tell k b token a kept arms lose) end) (sym o)
      (tells_short t u w (with_books w kept) b kept token a arms lose end (sym l ∙ f)
      (settles_so k t u (with_books w kept) b kept token a lose bytes whole end refl x s r))

  -- ---- the want of memory
  pub says_wanted : (t u : Tape) (w : AtWork) (b : Books) (token : ℕ) (a : Answer) (kept : Books) (end : Option End) → Settles k t u (with_books w b) (with_books w b) (only_tell b token Internal) end → Settles k t u w (with_books w b) (at b (Telling token a kept None None)) end
  says_wanted t u w b token a kept end s = settles_on k t t u w w (with_books w b) (at b (Telling token a kept None None)) (only_tell b token Internal) end (leads_want k t w b (Telling token a kept None None)) s

  pub closes_wanted : (t u : Tape) (w v : AtWork) (b : Books) (token : ℕ) (arms : List Arm) (a : Answer) (end : Option End) → Settles k t u w v (close b token arms Settled (Some Internal)) end → Settles k t u w v (close b token arms Settled (Some a)) end
  closes_wanted t u w v b token [] a end s = settles_on k t t u w w v (only_tell b token a) (only_tell b token Internal) end (leads_want k t w b (Telling token a b None None)) s
  closes_wanted t u w v b token (arm ∷ arms) a end s =
      settles_on k t t u w w v (close b token (arm ∷ arms) Settled (Some a)) (close b token (arm ∷ arms) Settled (Some Internal)) end (leads_want k t w b (Closing token (arm ∷ arms) Settled (Some a))) s

  -- the feed is lost with its batch, whether or not that is too long
  pub tells_lost : (t u : Tape) (w v : AtWork) (b kept : Books) (token : ℕ) (a : Answer) (arms : List Arm) (end : Option End) →
      Settles k t u w v (close (closed token b) token arms Settled (Some Internal)) end → Settles k t u w v (tell k b token a kept arms (Some arms)) end
  tells_lost t u w v b kept token a arms end s =
      split (is_long k a) (λ z. Settles k t u w v (cond z (cut k b token a arms) (at b (Telling token a kept (Some arms) None))) end)
      (λ _. closes_wanted t u w v (closed token b) token arms (cut_to k a) end s)
      (λ _. settles_on k t t u w w v (at b (Telling token a kept (Some arms) None)) (close (closed token b) token arms Settled (Some Internal)) end (leads_want k t w b (Telling token a kept (Some arms) None)) s)

  -- ---- a cursor's answers
  -- memory is wanted
  pub cursor_wants : (t u : Tape) (w v : AtWork) (b : Books) (token : ℕ) (x : Next PL) (end : Option End) → w.books ≡ b → Settles k t u v v (only_tell b token Internal) end → v ≡ with_books w b → SettlesOrWants k t u w v token x end
  cursor_wants t u w v b token x end e s o =
      inr (subst (λ z. Settles k t u w v (only_tell z token Internal) end) (sym e)
      (subst (λ z. Settles k t u w z (only_tell b token Internal) end) (sym o) (subst (λ z. Settles k t u z z (only_tell b token Internal) end) o s)))

  -- it is too long
  pub cursor_cut : (t u : Tape) (w : AtWork) (b new kept : Books) (token : ℕ) (a : Answer) (long : Bool) (end : Option End) → long ≡ is_long k a → long ≡ true → new ≡ closed token b →
      Settles k t u (with_books w new) (with_books w new) (only_tell new token (cut_to k a)) end → SettlesOrWants k t u w (with_books w new) token (tell k b token a kept [] None) end
  cursor_cut t u w b new kept token a long end l f is s =
      inl (tells_long t u w (with_books w new) b kept token a [] None end (sym l ∙ f) (subst (λ z. Settles k t u w (with_books w new) (only_tell z token (cut_to k a)) end) is s))

  -- it is sent
  pub cursor_sent : (t u : Tape) (w : AtWork) (b new kept : Books) (token : ℕ) (a : Answer) (bytes : List ℕ) (whole long : Bool) (end : Option End) → new ≡ kept → bytes ≡ body a → long ≡ is_long k a → long ≡ false →
      SendsAll t u (spelling (record { token = token; body = bytes })) whole → end ≡ ended_by whole → SettlesOrWants k t u w (with_books w new) token (tell k b token a kept [] None) end
  cursor_sent t u w b new kept token a bytes whole long end is x l f s r =
      inl (tells_so t u w (with_books w new) b kept token a [] None bytes whole long end (ap (with_books w) is) x l f s r)

  -- its batch is the last one, or one of several
  pub cursor_last : (t u : Tape) (w v : AtWork) (b : Books) (c : Cursor) (token : ℕ) (end : Option End) (last : Bool) → c.token ≡ token → last ≡ nat_le (length c.rest) c.batch → last ≡ true →
      SettlesOrWants k t u w v token (tell k b token (Last c.rest None) (closed token b) [] None) end → SettlesOrWants k t u w v token (continue_cursor k b c) end
  cursor_last t u w v b c token end last e l y s =
      subst (λ z. SettlesOrWants k t u w v token (cond z (tell k b c.token (Last c.rest None) (closed c.token b) [] None) (tell k b c.token (Part (take c.batch c.rest) None) (with_rest c.token (drop c.batch c.rest) b) [] None)) end) (sym (sym l ∙ y))
      (subst (λ z. SettlesOrWants k t u w v token (tell k b z (Last c.rest None) (closed z b) [] None) end) (sym e) s)

  pub cursor_part : (t u : Tape) (w v : AtWork) (b : Books) (c : Cursor) (token : ℕ) (end : Option End) (last : Bool) → c.token ≡ token → last ≡ nat_le (length c.rest) c.batch → last ≡ false →
      SettlesOrWants k t u w v token (tell k b token (Part (take c.batch c.rest) None) (with_rest token (drop c.batch c.rest) b) [] None) end → SettlesOrWants k t u w v token (continue_cursor k b c) end
  cursor_part t u w v b c token end last e l y s =
      subst (λ z. SettlesOrWants k t u w v token (cond z (tell k b c.token (Last c.rest None) (closed c.token b) [] None) (tell k b c.token (Part (take c.batch c.rest) None) (with_rest c.token (drop c.batch c.rest) b) [] None)) end) (sym (sym l ∙ y))
      (subst (λ z. SettlesOrWants k t u w v token (tell k b z (Part (take c.batch c.rest) None) (with_rest z (drop c.batch c.rest) b) [] None) end) (sym e) s)

  -- ---- what is left of a feed
  pub left_goes : (t u : Tape) (w v : AtWork) (b : Books) (f : Open) (token : ℕ) (x : Shown) (xs left : List Shown) (end : Option End) → f.token ≡ token → left ≡ x ∷ xs →
      SettlesOrWants k t u w v token (tell k b token (Batch f.notes (take f.batch left) None) (with_left token (drop f.batch left) b) f.arms None) end → SettlesOrWants k t u w v token (continue_left k b f left) end
  left_goes t u w v b f token x xs [] end e l s = absurd (true≢false (ap is_empty l))
  left_goes t u w v b f token x xs (y ∷ ys) end e l s =
      subst (λ z. SettlesOrWants k t u w v token (tell k b z (Batch f.notes (take f.batch (y ∷ ys)) None) (with_left z (drop f.batch (y ∷ ys)) b) f.arms None) end) (sym e) s

  -- ---- a feed that was taken out
  pub lost_found : (some : State) (t u : Tape) (p q : AtDesk) (b new : Books) (clock : Source ℤ) (dice : Source (List ℕ)) (token : ℕ) (g : shelf_open.Open) (f : Open) (arms : List coded.Arm) (a : Answer) (end : Option End) →
      new ≡ closed token b → Some (feed_kept g) ≡ feed_of token b.feeds → feed_of token b.feeds ≡ Some f → arms ≡ g.arms.items →
      Settles k t u (working some p (closed token b) clock dice) (working some q (closed token b) clock dice) (close (closed token b) token (arms_of arms) Settled (Some a)) end →
      Settles k t u (working some p b clock dice) (working some q new clock dice) (close (closed token b) token f.arms Settled (Some a)) end
  lost_found some t u p q b new clock dice token g f arms a end is there found same s =
      subst (λ z. Settles k t u (working some p b clock dice) (working some q z clock dice) (close (closed token b) token f.arms Settled (Some a)) end) (sym is)
      (subst (λ z. Settles k t u (working some p b clock dice) (working some q (closed token b) clock dice) (close (closed token b) token z Settled (Some a)) end) (ap arms_of same ∙ ap (λ (x : Open). x.arms) (found_is token b.feeds g f there found)) s)
