-- A course comes to a stream that has more, or to a feed.
use Rattle.std.proofs.Common.{◌≡◌, ◌<◌, ℕ, ℤ, Bool, true, false, List, [], length, take, drop, map, cond, Option, Some, None, sym, ap, subst, ◌∙◌, arith}
use Rattle.std.specs.Prelude.{nat_le}
use Rattle.std.proofs.lemmas.Bool.Decides.{nat_tests}
use Rattle.std.proofs.lemmas.List.{take-map, drop-map}
use Rattle.reql_outside.specs.Source.{Source}
use Rattle.reql_outside.specs.Tape.{Tape, SendsAll}
use Rattle.reql_wire.specs.Frames.{spelling}
use Rattle.reql_datum.specs.Plain.{Plain}
use Rattle.reql_datum.specs.declared.point.Point.{Point}
use Rattle.reql_table_spec.specs.Machine.{State}
use Rattle.reql_table_spec.specs.declared.limits.Limits.{Limits}
use Rattle.reql_session_spec.specs.Requests.{Arm, Shown, Answer, Internal, Part, Last, Batch, Stream, Feed, stamped}
use Rattle.reql_session_spec.specs.Books.{Books, Cursor, Open, closed, with_cursor, with_feed}
use Rattle.reql_session_spec.specs.Bodies.{body}
use Rattle.reql_session_spec.specs.Tasks.{Talk, Next, Planning, Telling, Settled, at, only_tell, close, settle, tell, cut, cut_to, is_long, comes_to}
use Rattle.reql_session_spec.specs.declared.end.End.{End}
use Rattle.reql_session_api.specs.World.{AtWork}
use Rattle.reql_session_api.specs.Meant.{Course, shown_of}
use Rattle.reql_session_api.specs.declared.answered.Shown as coded
use Rattle.reql_desk_moves.specs.Acting.{AtDesk}
use Rattle.reql_desk_moves.specs.Steps.{put_points}
use Rattle.reql_session.specs.Settling.{working, ended_by, Leads, Settles}
use Rattle.reql_session.specs.Ending.{Reaches, seen_at, on_course}
use Rattle.reql_session.proofs.Settled.{settles_on, settles_so, leads_want, leads_come}

more_than : (m n : ℕ) → m < n → nat_le n m ≡ false
more_than m n h = grind (arith, nat_tests)

-- what is kept of a stream and of a feed after their first batches
abbrev pub cursor_left : ℕ → ℕ → List Plain → Cursor
cursor_left token most vs = record { token = token; rest = drop most vs; batch = most }

abbrev pub feed_left : ℕ → List Arm → ℕ → List ℕ → List Shown → Open
feed_left token arms most notes items = record { token = token; arms = arms; left = drop most items; batch = most; notes = notes }

-- the bytes of a batch
pub part_bytes : (names most : ℕ) (bytes : List ℕ) (ps asked : List Point) (first vs : List Plain) → bytes ≡ body (Part first (Some (stamped names ps))) → ps ≡ put_points [] asked → first ≡ take most vs →
    bytes ≡ body (Part (take most vs) (Some (seen_at names asked)))
part_bytes names most bytes ps asked first vs e p f = e ∙ ap (λ z. body (Part first (Some (stamped names z)))) p ∙ ap (λ z. body (Part z (Some (seen_at names asked)))) f

pub batch_bytes : (names most : ℕ) (bytes told notes : List ℕ) (ps asked : List Point) (first items : List Shown) → bytes ≡ body (Batch told first (Some (stamped names ps))) → told ≡ notes → ps ≡ put_points [] asked → first ≡ take most items →
    bytes ≡ body (Batch notes (take most items) (Some (seen_at names asked)))
batch_bytes names most bytes told notes ps asked first items e n p f =
    e ∙ ap (λ z. body (Batch z first (Some (stamped names ps)))) n ∙ ap (λ z. body (Batch notes first (Some (stamped names z)))) p ∙ ap (λ z. body (Batch notes z (Some (seen_at names asked)))) f

-- the items of a feed's first batch, and those that are left
pub items_first : (arms : List Arm) (most from : ℕ) (first items : List coded.Shown) → first ≡ take most (drop from items) → from ≡ 0 → map (shown_of arms) first ≡ take most (map (shown_of arms) items)
items_first arms most from first items e z = ap (map (shown_of arms)) (subst (λ n. first ≡ take most (drop n items)) z e) ∙ sym (take-map (shown_of arms) most items)

pub feed_rest : (token : ℕ) (arms : List Arm) (most : ℕ) (notes : List ℕ) (items : List coded.Shown) (b d e : Books) → d ≡ with_feed (record { token = token; arms = arms; left = map (shown_of arms) (drop most items); batch = most; notes = notes }) e → e ≡ b →
    d ≡ with_feed (feed_left token arms most notes (map (shown_of arms) items)) b
feed_rest token arms most notes items b d e opens same =
    opens ∙ ap (with_feed (record { token = token; arms = arms; left = map (shown_of arms) (drop most items); batch = most; notes = notes })) same
    ∙ ap (λ xs. with_feed (record { token = token; arms = arms; left = xs; batch = most; notes = notes }) b) (sym (drop-map (shown_of arms) most items))

module _ {PL : Type 0} (k : Talk PL) where
  -- memory is wanted for a course, in books and with arms that are equal to these
  pub course_wanted : (t u : Tape) (w v : AtWork) (a b : Books) (token : ℕ) (c : Course PL) (noreply : Bool) (xs arms : List Arm) (end : Option End) → c.noreply ≡ noreply → a ≡ b → xs ≡ arms →
      Settles k t u w v (close a token xs Settled (cond noreply None (Some Internal))) end → Settles k t u w v (on_course b token c arms) end
  course_wanted t u w v a b token c noreply xs arms end e same xs_are s =
      settles_on k t t u w w v (on_course b token c arms) (close b token arms Settled (cond c.noreply None (Some Internal))) end
      (leads_want k t w b (Planning token c.plan c.noreply c.count c.found arms))
      (subst (λ z. Settles k t u w v (close b token arms Settled (cond z None (Some Internal))) end) (sym e)
      (subst (λ z. Settles k t u w v (close z token arms Settled (cond noreply None (Some Internal))) end) same
      (subst (λ z. Settles k t u w v (close a token z Settled (cond noreply None (Some Internal))) end) xs_are s)))

  -- an answer gives way to a fault, or fits
  pub tells_cut : (t u : Tape) (w v : AtWork) (b kept : Books) (token : ℕ) (a : Answer) (arms : List Arm) (lose : Option (List Arm)) (end : Option End) → true ≡ is_long k a →
      Settles k t u w v (close (closed token b) token arms Settled (Some (cut_to k a))) end → Settles k t u w v (tell k b token a kept arms lose) end
  tells_cut t u w v b kept token a arms lose end e s = subst (λ z. Settles k t u w v (cond z (cut k b token a arms) (at b (Telling token a kept lose None))) end) e s

  pub tells_whole : (t u : Tape) (w v : AtWork) (b kept : Books) (token : ℕ) (a : Answer) (arms : List Arm) (lose : Option (List Arm)) (end : Option End) → false ≡ is_long k a →
      Settles k t u w v (at b (Telling token a kept lose None)) end → Settles k t u w v (tell k b token a kept arms lose) end
  tells_whole t u w v b kept token a arms lose end e s = subst (λ z. Settles k t u w v (cond z (cut k b token a arms) (at b (Telling token a kept lose None))) end) e s

  -- memory is wanted for the frame of an answer
  pub telling_wanted : (t u : Tape) (w v : AtWork) (b kept : Books) (token : ℕ) (a : Answer) (end : Option End) → Settles k t u w v (only_tell b token Internal) end →
      Settles k t u w v (at b (Telling token a kept None None)) end
  telling_wanted t u w v b kept token a end s =
      settles_on k t t u w w v (at b (Telling token a kept None None)) (only_tell b token Internal) end (leads_want k t w b (Telling token a kept None None)) s

  pub telling_lost : (t u : Tape) (w v : AtWork) (b kept : Books) (token : ℕ) (a : Answer) (arms : List Arm) (end : Option End) → Settles k t u w v (close (closed token b) token arms Settled (Some Internal)) end →
      Settles k t u w v (at b (Telling token a kept (Some arms) None)) end
  telling_lost t u w v b kept token a arms end s =
      settles_on k t t u w w v (at b (Telling token a kept (Some arms) None)) (close (closed token b) token arms Settled (Some Internal)) end (leads_want k t w b (Telling token a kept (Some arms) None)) s

  -- a stream that has more
  abbrev pub first_told : Books → List Point → ℕ → List Plain → Answer
  first_told b asked most vs = Part (take most vs) (Some (seen_at b.names asked))

  abbrev pub tells_first : Books → ℕ → List Point → ℕ → List Plain → List Arm → Next PL
  tells_first b token asked most vs arms = tell k b token (first_told b asked most vs) (with_cursor (cursor_left token most vs) b) arms None

  pub comes_first : (b : Books) (token : ℕ) (c : Course PL) (arms : List Arm) (vs : List Plain) (has : Limits) (asked : List Point) (most : ℕ) → Reaches k c (Stream vs) has asked most → most < length vs →
      (t : Tape) (w : AtWork) → Leads k t t w w (on_course b token c arms) (tells_first b token asked most vs arms)
  comes_first b token c arms vs has asked most r more t w =
      let here : Next PL = on_course b token c arms in
      subst (λ z. Leads k t t w w here (cond z (settle k b token arms (Last vs (Some (seen_at b.names asked)))) (tells_first b token asked most vs arms))) (more_than most (length vs) more)
      (subst (λ ps. Leads k t t w w here (cond (nat_le (length vs) most) (settle k b token arms (Last vs (Some (stamped b.names ps)))) (tell k b token (Part (take most vs) (Some (stamped b.names ps))) (with_cursor (cursor_left token most vs) b) arms None))) r.points
      (subst (λ n. Leads k t t w w here (comes_to k b token n c.found arms (Stream vs))) (sym r.batch)
      (leads_come k t w b token c arms (Stream vs) r.next)))

  -- its first batch is too long: what is open on its token was closed
  pub stream_cut : (t u : Tape) (w : AtWork) (v : Books → AtWork) (b d : Books) (token : ℕ) (c : Course PL) (xs arms : List Arm) (vs : List Plain) (has : Limits) (asked : List Point) (most : ℕ) (end : Option End) →
      Reaches k c (Stream vs) has asked most → most < length vs → d ≡ closed token b → xs ≡ arms → true ≡ is_long k (first_told b asked most vs) →
      Settles k t u w (v (closed token b)) (close (closed token b) token xs Settled (Some (cut_to k (first_told b asked most vs)))) end → Settles k t u w (v d) (on_course b token c arms) end
  stream_cut t u w v b d token c xs arms vs has asked most end r more closes xs_are e s =
      settles_on k t t u w w (v d) (on_course b token c arms) (tells_first b token asked most vs arms) end (comes_first b token c arms vs has asked most r more t w)
      (tells_cut t u w (v d) b (with_cursor (cursor_left token most vs) b) token (first_told b asked most vs) arms None end e
      (subst (λ z. Settles k t u w (v z) (close (closed token b) token arms Settled (Some (cut_to k (first_told b asked most vs)))) end) (sym closes)
      (subst (λ z. Settles k t u w (v (closed token b)) (close (closed token b) token z Settled (Some (cut_to k (first_told b asked most vs)))) end) xs_are s)))

  -- it was sent, whole or not
  pub stream_told : (some : State) (desk : AtDesk) (clock : Source ℤ) (dice : Source (List ℕ)) (t u : Tape) (b d : Books) (token : ℕ) (c : Course PL) (arms : List Arm) (vs : List Plain) (has : Limits) (asked : List Point) (most : ℕ) (bytes : List ℕ) (whole : Bool) (end : Option End) →
      Reaches k c (Stream vs) has asked most → most < length vs → d ≡ with_cursor (cursor_left token most vs) b → false ≡ is_long k (first_told b asked most vs) →
      bytes ≡ body (first_told b asked most vs) → SendsAll t u (spelling (record { token = token; body = bytes })) whole → end ≡ ended_by whole →
      Settles k t u (working some desk b clock dice) (working some desk d clock dice) (on_course b token c arms) end
  stream_told some desk clock dice t u b d token c arms vs has asked most bytes whole end r more opens e is sends ends =
      let w : AtWork = working some desk d clock dice in
      settles_on k t t u w w w (on_course b token c arms) (tells_first b token asked most vs arms) end (comes_first b token c arms vs has asked most r more t w)
      (tells_whole t u w w b (with_cursor (cursor_left token most vs) b) token (first_told b asked most vs) arms None end e
      (settles_so k t u w b (with_cursor (cursor_left token most vs) b) token (first_told b asked most vs) None bytes whole end opens is sends ends))

  -- memory was wanted for its frame
  pub stream_unsaid : (some : State) (desk : AtDesk) (clock : Source ℤ) (dice : Source (List ℕ)) (t s u : Tape) (b d : Books) (token : ℕ) (c : Course PL) (arms : List Arm) (vs : List Plain) (has : Limits) (asked : List Point) (most : ℕ) (end : Option End) →
      Reaches k c (Stream vs) has asked most → most < length vs → d ≡ b → s ≡ t → false ≡ is_long k (first_told b asked most vs) →
      ((w : AtWork) → Settles k s u w w (only_tell w.books token Internal) end) → Settles k t u (working some desk b clock dice) (working some desk d clock dice) (on_course b token c arms) end
  stream_unsaid some desk clock dice t s u b d token c arms vs has asked most end r more same unsaid e told =
      let w : AtWork = working some desk d clock dice in
      settles_on k t t u w w w (on_course b token c arms) (tells_first b token asked most vs arms) end (comes_first b token c arms vs has asked most r more t w)
      (tells_whole t u w w b (with_cursor (cursor_left token most vs) b) token (first_told b asked most vs) arms None end e
      (telling_wanted t u w w b (with_cursor (cursor_left token most vs) b) token (first_told b asked most vs) end
      (subst (λ z. Settles k t u w w (only_tell z token Internal) end) same (subst (λ z. Settles k z u w w (only_tell d token Internal) end) unsaid (told w)))))

  -- a feed
  abbrev pub batch_told : Books → List Point → ℕ → List ℕ → List Shown → Answer
  batch_told b asked most notes items = Batch notes (take most items) (Some (seen_at b.names asked))

  abbrev pub tells_feed : Books → ℕ → List Point → ℕ → List Arm → List ℕ → List Shown → Next PL
  tells_feed b token asked most arms notes items = tell k b token (batch_told b asked most notes items) (with_feed (feed_left token arms most notes items) b) arms (Some arms)

  pub comes_feed : (b : Books) (token : ℕ) (c : Course PL) (opened arms : List Arm) (notes : List ℕ) (items : List Shown) (has : Limits) (asked : List Point) (most : ℕ) → Reaches k c (Feed arms notes items) has asked most →
      (t : Tape) (w : AtWork) → Leads k t t w w (on_course b token c opened) (tells_feed b token asked most arms notes items)
  comes_feed b token c opened arms notes items has asked most r t w =
      let here : Next PL = on_course b token c opened in
      subst (λ ps. Leads k t t w w here (tell k b token (Batch notes (take most items) (Some (stamped b.names ps))) (with_feed (feed_left token arms most notes items) b) arms (Some arms))) r.points
      (subst (λ n. Leads k t t w w here (comes_to k b token n c.found opened (Feed arms notes items))) (sym r.batch)
      (leads_come k t w b token c opened (Feed arms notes items) r.next))

  -- its first batch is too long: what is open on its token was closed
  pub feed_cut : (t u : Tape) (w : AtWork) (v : Books → AtWork) (b d : Books) (token : ℕ) (c : Course PL) (opened xs arms : List Arm) (notes : List ℕ) (items : List Shown) (has : Limits) (asked : List Point) (most : ℕ) (end : Option End) →
      Reaches k c (Feed arms notes items) has asked most → d ≡ closed token b → xs ≡ arms → true ≡ is_long k (batch_told b asked most notes items) →
      Settles k t u w (v (closed token b)) (close (closed token b) token xs Settled (Some (cut_to k (batch_told b asked most notes items)))) end → Settles k t u w (v d) (on_course b token c opened) end
  feed_cut t u w v b d token c opened xs arms notes items has asked most end r closes xs_are e s =
      settles_on k t t u w w (v d) (on_course b token c opened) (tells_feed b token asked most arms notes items) end (comes_feed b token c opened arms notes items has asked most r t w)
      (tells_cut t u w (v d) b (with_feed (feed_left token arms most notes items) b) token (batch_told b asked most notes items) arms (Some arms) end e
      (subst (λ z. Settles k t u w (v z) (close (closed token b) token arms Settled (Some (cut_to k (batch_told b asked most notes items)))) end) (sym closes)
      (subst (λ z. Settles k t u w (v (closed token b)) (close (closed token b) token z Settled (Some (cut_to k (batch_told b asked most notes items)))) end) xs_are s)))

  -- it was sent, whole or not
  pub feed_told : (some : State) (desk : AtDesk) (clock : Source ℤ) (dice : Source (List ℕ)) (t u : Tape) (b d : Books) (token : ℕ) (c : Course PL) (opened arms : List Arm) (notes : List ℕ) (items : List Shown) (has : Limits) (asked : List Point) (most : ℕ) (bytes : List ℕ) (whole : Bool) (end : Option End) →
      Reaches k c (Feed arms notes items) has asked most → d ≡ with_feed (feed_left token arms most notes items) b → false ≡ is_long k (batch_told b asked most notes items) →
      bytes ≡ body (batch_told b asked most notes items) → SendsAll t u (spelling (record { token = token; body = bytes })) whole → end ≡ ended_by whole →
      Settles k t u (working some desk b clock dice) (working some desk d clock dice) (on_course b token c opened) end
  feed_told some desk clock dice t u b d token c opened arms notes items has asked most bytes whole end r opens e is sends ends =
      let w : AtWork = working some desk d clock dice in
      settles_on k t t u w w w (on_course b token c opened) (tells_feed b token asked most arms notes items) end (comes_feed b token c opened arms notes items has asked most r t w)
      (tells_whole t u w w b (with_feed (feed_left token arms most notes items) b) token (batch_told b asked most notes items) arms (Some arms) end e
      (settles_so k t u w b (with_feed (feed_left token arms most notes items) b) token (batch_told b asked most notes items) (Some arms) bytes whole end opens is sends ends))

  -- memory was wanted for its frame: what is open on its token was closed
  pub feed_unsaid : (t s u : Tape) (w : AtWork) (v : Books → AtWork) (b d : Books) (token : ℕ) (c : Course PL) (opened xs arms : List Arm) (notes : List ℕ) (items : List Shown) (has : Limits) (asked : List Point) (most : ℕ) (end : Option End) →
      Reaches k c (Feed arms notes items) has asked most → d ≡ closed token b → xs ≡ arms → s ≡ t → false ≡ is_long k (batch_told b asked most notes items) →
      Settles k s u w (v (closed token b)) (close (closed token b) token xs Settled (Some Internal)) end → Settles k t u w (v d) (on_course b token c opened) end
  feed_unsaid t s u w v b d token c opened xs arms notes items has asked most end r closes xs_are unsaid e told =
      settles_on k t t u w w (v d) (on_course b token c opened) (tells_feed b token asked most arms notes items) end (comes_feed b token c opened arms notes items has asked most r t w)
      (tells_whole t u w (v d) b (with_feed (feed_left token arms most notes items) b) token (batch_told b asked most notes items) arms (Some arms) end e
      (telling_lost t u w (v d) b (with_feed (feed_left token arms most notes items) b) token (batch_told b asked most notes items) arms end
      (subst (λ z. Settles k t u w (v z) (close (closed token b) token arms Settled (Some Internal)) end) (sym closes)
      (subst (λ z. Settles k t u w (v (closed token b)) (close (closed token b) token z Settled (Some Internal)) end) xs_are
      (subst (λ z. Settles k z u w (v (closed token b)) (close (closed token b) token xs Settled (Some Internal)) end) unsaid told)))))
