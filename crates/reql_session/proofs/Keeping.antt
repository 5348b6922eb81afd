-- What a session keeps true of what it holds open, where something is opened or closed.
use Rattle.std.proofs.Common.{◌≡◌, ℕ, false, List, [], ◌∷◌, ◌++◌, refl, sym, subst}
use Rattle.std.specs.Prelude.{nat_eq}
use Rattle.reql_session_spec.specs.Requests.{Arm}
use Rattle.reql_session_spec.specs.Books.{Books, Cursor, Open, has_token, is_open, closed, with_cursor, with_feed, saw_names}
use Rattle.reql_desk_moves.specs.Steps.{after_closing}
use Rattle.reql_open_cursors.specs.Quiet.{AllQuiet}
use Rattle.reql_open_cursors.specs.There.{AreThere}
use Rattle.reql_open_cursors.proofs.Places.{first_off, second_off}
use Rattle.reql_open_cursors.proofs.Keeping.{or_off, opens_cursor, opens_feed, closes}
use Rattle.reql_open_cursors.proofs.Quiet.{others, none_waits, quiet_elsewhere, quiet_feed}
use Rattle.reql_open_cursors.proofs.There.{there_feed, there_closed}
use Rattle.reql_session.specs.Keeping.{Keeps}

-- a token that isn't among those of two lists isn't among the first
pub not_first : (t : ℕ) (ws rest : List ℕ) → has_token t (ws ++ rest) ≡ false → has_token t ws ≡ false
not_first t [] rest off = refl
not_first t (w ∷ ws) rest off = or_off (nat_eq w t) (has_token t ws) (first_off (nat_eq w t) (has_token t (ws ++ rest)) off) (not_first t ws rest (second_off (nat_eq w t) (has_token t (ws ++ rest)) off))

pub keeps_cursor : (n : ℕ) (rest : List ℕ) (b : Books) (c : Cursor) → is_open c.token b ≡ false → Keeps n rest b → Keeps n rest (with_cursor c b)
keeps_cursor n rest b c off k = record { apart = opens_cursor b c k.apart off; quiet = k.quiet; there = k.there }

pub keeps_feed : (n : ℕ) (rest : List ℕ) (b : Books) (f : Open) → AreThere n f.arms → is_open f.token b ≡ false → Keeps n rest b → Keeps n rest (with_feed f b)
keeps_feed n rest b f here off k = record { apart = opens_feed b f k.apart off; quiet = quiet_feed b.feeds f (b.waiting ++ rest) k.quiet; there = there_feed n b.feeds f k.there here }

-- what is closed on a token that doesn't wait
pub keeps_closed : (n : ℕ) (rest : List ℕ) (b : Books) (t : ℕ) → has_token t (b.waiting ++ rest) ≡ false → Keeps n rest b → Keeps n rest (closed t b)
keeps_closed n rest b t off k = record {
  apart = closes b t k.apart;
  quiet = subst (λ ws. AllQuiet (others t b.feeds) (ws ++ rest)) (sym (none_waits t b.waiting (not_first t b.waiting rest off))) (quiet_elsewhere b.feeds t (b.waiting ++ rest) off k.quiet);
  there = there_closed n t b.feeds k.there;
}

pub keeps_after : (n : ℕ) (rest : List ℕ) (b : Books) (t : ℕ) (arms : List Arm) → has_token t (b.waiting ++ rest) ≡ false → Keeps n rest b → Keeps n rest (after_closing b t arms)
keeps_after n rest b t [] off k = k
keeps_after n rest b t (arm ∷ arms) off k = keeps_closed n rest b t off k

pub keeps_names : (n : ℕ) (rest : List ℕ) (b : Books) (place : ℕ) → Keeps n rest b → Keeps n rest (saw_names place b)
keeps_names n rest b place k = record { apart = record { cursors = k.apart.cursors; feeds = k.apart.feeds }; quiet = k.quiet; there = k.there }

-- the same, of books that are equal to such
pub still_cursor : (n : ℕ) (rest : List ℕ) (a b : Books) (c : Cursor) → b ≡ with_cursor c a → is_open c.token a ≡ false → Keeps n rest a → Keeps n rest b
still_cursor n rest a b c e off k = subst (Keeps n rest) (sym e) (keeps_cursor n rest a c off k)

pub still_feed : (n : ℕ) (rest : List ℕ) (a b : Books) (f : Open) → b ≡ with_feed f a → AreThere n f.arms → is_open f.token a ≡ false → Keeps n rest a → Keeps n rest b
still_feed n rest a b f e here off k = subst (Keeps n rest) (sym e) (keeps_feed n rest a f here off k)

pub still_closed : (n : ℕ) (rest : List ℕ) (a b : Books) (t : ℕ) → b ≡ closed t a → has_token t (a.waiting ++ rest) ≡ false → Keeps n rest a → Keeps n rest b
still_closed n rest a b t e off k = subst (Keeps n rest) (sym e) (keeps_closed n rest a t off k)

pub still_after : (n : ℕ) (rest : List ℕ) (a b : Books) (t : ℕ) (arms : List Arm) → b ≡ after_closing a t arms → has_token t (a.waiting ++ rest) ≡ false → Keeps n rest a → Keeps n rest b
still_after n rest a b t arms e off k = subst (Keeps n rest) (sym e) (keeps_after n rest a t arms off k)
