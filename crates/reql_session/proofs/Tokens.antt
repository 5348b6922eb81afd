-- What is kept where a cursor or a feed goes on, waits or is closed, and what is found of a token.
use Rattle.std.proofs.Common.{◌≡◌, ℕ, false, true≢false, cond, List, [], ◌∷◌, ◌++◌, Some, is_some, map, length, refl, sym, ap, subst, ◌∙◌}
use Rattle.std.specs.Prelude.{nat_eq}
use Rattle.std.proofs.lemmas.Bool.{eqb-true}
use Rattle.std.proofs.lemmas.List.{append-nil, length-map}
use Rattle.reql_datum.specs.Plain.{Plain}
use Rattle.reql_datum.specs.View.{plain}
use Rattle.reql_datum.specs.declared.datum.Datum.{Datum}
use Rattle.reql_table_machine_spec.proofs.Tracking.{split}
use Rattle.reql_session_spec.specs.Requests.{Shown}
use Rattle.reql_session_spec.specs.Books.{Books, Cursor, Open, has_token, cursor_of, feed_of, closed, with_rest, with_left, waits}
use Rattle.reql_desk_moves.specs.Acting.{AreThere}
use Rattle.reql_open_cursors.specs.Kept.{feed_kept}
use Rattle.reql_open_cursors.specs.declared.open.Open as shelf_open
use Rattle.reql_open_cursors.specs.Quiet.{IsQuiet, AllQuiet}
use Rattle.reql_open_cursors.specs.There.{AllThere}
use Rattle.reql_open_cursors.proofs.Places.{first_off, second_off, same_some}
use Rattle.reql_open_cursors.proofs.Keeping.{turned, or_off, closes, goes_on, goes_on_with}
use Rattle.reql_open_cursors.proofs.Quiet.{none_waits, quiet_elsewhere, quiet_left}
use Rattle.reql_open_cursors.proofs.There.{there_closed, there_left, there_found, there_coded}
use Rattle.reql_session.specs.Keeping.{Keeps}

-- what is found of a token is of this token
pub cursor_token : (t : ℕ) (cs : List Cursor) (c : Cursor) → cursor_of t cs ≡ Some c → c.token ≡ t
cursor_token t [] c e = absurd (true≢false (sym (ap is_some e)))
cursor_token t (d ∷ cs) c e =
    split (nat_eq d.token t) (λ b. cond b (Some d) (cursor_of t cs) ≡ Some c → c.token ≡ t)
    (λ on s. subst (λ (x : Cursor). x.token ≡ t) (same_some d c s) (eqb-true d.token t on)) (λ _ s. cursor_token t cs c s) e

pub feed_token : (t : ℕ) (fs : List Open) (f : Open) → feed_of t fs ≡ Some f → f.token ≡ t
feed_token t [] f e = absurd (true≢false (sym (ap is_some e)))
feed_token t (g ∷ fs) f e =
    split (nat_eq g.token t) (λ b. cond b (Some g) (feed_of t fs) ≡ Some f → f.token ≡ t)
    (λ on s. subst (λ (x : Open). x.token ≡ t) (same_some g f s) (eqb-true g.token t on)) (λ _ s. feed_token t fs f s) e

-- one more token between others
off_front : (t : ℕ) (ws rest : List ℕ) → has_token t (ws ++ rest) ≡ false → has_token t ws ≡ false
off_front t [] rest off = refl
off_front t (w ∷ ws) rest off = or_off (nat_eq w t) (has_token t ws) (first_off (nat_eq w t) (has_token t (ws ++ rest)) off) (off_front t ws rest (second_off (nat_eq w t) (has_token t (ws ++ rest)) off))

has_put : (u t : ℕ) (ws rest : List ℕ) → has_token u (ws ++ rest) ≡ false → nat_eq t u ≡ false → has_token u ((ws ++ t ∷ []) ++ rest) ≡ false
has_put u t [] rest off other = or_off (nat_eq t u) (has_token u rest) other off
has_put u t (w ∷ ws) rest off other =
    or_off (nat_eq w u) (has_token u ((ws ++ t ∷ []) ++ rest)) (first_off (nat_eq w u) (has_token u (ws ++ rest)) off)
    (has_put u t ws rest (second_off (nat_eq w u) (has_token u (ws ++ rest)) off) other)

quiet_put : (fs : List Open) (t : ℕ) (ws rest : List ℕ) → AllQuiet fs (ws ++ rest) → has_token t (ws ++ rest) ≡ false → IsQuiet (feed_of t fs) → AllQuiet fs ((ws ++ t ∷ []) ++ rest)
quiet_put fs t [] rest q off quiet = (off, quiet, q)
quiet_put fs t (w ∷ ws) rest q off quiet = (
  has_put w t ws rest q.0 (turned w t (first_off (nat_eq w t) (has_token t (ws ++ rest)) off)),
  q.1,
  quiet_put fs t ws rest q.2 (second_off (nat_eq w t) (has_token t (ws ++ rest)) off) quiet,
)

-- what is kept
pub keeps_closed : (n t : ℕ) (rest : List ℕ) (b : Books) → has_token t (b.waiting ++ rest) ≡ false → Keeps n rest b → Keeps n rest (closed t b)
keeps_closed n t rest b off k = record {
  apart = closes b t k.apart;
  quiet = subst (λ ws. AllQuiet (closed t b).feeds (ws ++ rest)) (sym (none_waits t b.waiting (off_front t b.waiting rest off))) (quiet_elsewhere b.feeds t (b.waiting ++ rest) off k.quiet);
  there = there_closed n t b.feeds k.there;
}

pub keeps_left : (n t : ℕ) (left : List Shown) (rest : List ℕ) (b : Books) → has_token t (b.waiting ++ rest) ≡ false → Keeps n rest b → Keeps n rest (with_left t left b)
keeps_left n t items rest b off k = record {
  apart = goes_on_with b t items k.apart;
  quiet = quiet_left b.feeds t items (b.waiting ++ rest) off k.quiet;
  there = there_left n t items b.feeds k.there;
}

pub keeps_rest : (n t : ℕ) (more : List Plain) (rest : List ℕ) (b : Books) → Keeps n rest b → Keeps n rest (with_rest t more b)
keeps_rest n t more rest b k = record {
  apart = goes_on b t more k.apart;
  quiet = k.quiet;
  there = k.there;
}

pub keeps_waits : (n t : ℕ) (rest : List ℕ) (b : Books) (f : Open) → feed_of t b.feeds ≡ Some f → f.left ≡ [] → has_token t (b.waiting ++ rest) ≡ false → Keeps n rest b → Keeps n rest (waits t b)
keeps_waits n t rest b f is none off k = record {
  apart = record { cursors = k.apart.cursors; feeds = k.apart.feeds };
  quiet = quiet_put b.feeds t b.waiting rest k.quiet off (subst IsQuiet (sym is) none);
  there = k.there;
}

-- with nobody else to be visited
pub off_alone : (t : ℕ) (ws : List ℕ) → has_token t ws ≡ false → has_token t (ws ++ []) ≡ false
off_alone t ws off = ap (has_token t) (append-nil ws) ∙ off

-- the feed that is found on a shelf
pub found_there : (n t : ℕ) (fs : List Open) (f : shelf_open.Open) → Some (feed_kept f) ≡ feed_of t fs → AllThere n fs → AreThere n f.arms.items
found_there n t fs f is all = there_coded n f.arms.items (there_found n t fs (feed_kept f) (sym is) all)

pub found_is : (t : ℕ) (fs : List Open) (g : shelf_open.Open) (f : Open) → Some (feed_kept g) ≡ feed_of t fs → feed_of t fs ≡ Some f → feed_kept g ≡ f
found_is t fs g f is e = same_some (feed_kept g) f (is ∙ e)

-- the cursor that is found on a shelf
pub as_many : (ds : List Datum) (vs : List Plain) → map plain ds ≡ vs → length ds ≡ length vs
as_many ds vs e = sym (length-map ds plain) ∙ ap length e
