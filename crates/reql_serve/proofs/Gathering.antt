-- What workers did, taken together with the hall that is closed after them.
use Rattle.std.proofs.Common.{◌≡◌, ℕ, ℤ, ◌<◌, List, length, map, All, Option, Some, None, sym, ap, subst, ◌∙◌, arith}
use Rattle.std.specs.Prelude.{slice_index_or, ⊤}
use Rattle.std.specs.List.{AllZip, range_with_len}
use Rattle.std.proofs.lemmas.List.{get_or-map, length-map}
use Rattle.std.proofs.lemmas.List.FromFn.{get_or-map-range_with_len, length-map-range_with_len}
use Rattle.std.proofs.lemmas.Slice.Zip.{AllZip-long}
use Rattle.reql_outside.specs.Source.{Source}
use Rattle.reql_outside.specs.Tape.{Tape}
use Rattle.reql_net.specs.Doors.{DoorTold}
use Rattle.reql_shared.specs.Sight.{Object}
use Rattle.reql_hall.specs.Rooms.{Rooms, Closed, Sits, Histories, LearnsAll, rooms_of, histories_of, unused_desk}
use Rattle.reql_catalog.specs.declared.catalog.Catalog.{Catalog}
use Rattle.reql_catalog.specs.declared.command.CatCmd.{CatCmd}
use Rattle.reql_table_spec.specs.Machine.{State}
use Rattle.reql_table_spec.specs.declared.command.Order.{Order}
use Rattle.reql_session_spec.specs.Tasks.{Talk}
use Rattle.reql_session_spec.proofs.Upward.{learning}
use Rattle.reql_desk_moves.specs.Acting.{AtDesk}
use Rattle.reql_serve.specs.Working.{Outside, outside, IsThere, AreThere, Worked}
use Rattle.reql_serve.specs.Serving.{IsLedTo}
use Rattle.reql_serve.specs.Many.{AtEnd, HasSeen, WorksAt, ServesMany, share_of, shares_of, at_end}
use Rattle.reql_serve.specs.declared.worker.Member.{Member}
use Rattle.reql_serve.specs.declared.worker.WorkState.{WorkState}
use Rattle.reql_serve.proofs.Seating.{zipped_at, elements}

module _ (some : State) (all : Histories Order CatCmd) where
  pub has_seen : (old new : AtDesk) → LearnsAll old new all → HasSeen some all new
  has_seen old new l = record { names = l.names.seen; slots = λ t. (l.slots some t).seen }

  -- each desk has seen the whole histories
  pub all_seen : (olds news : List AtDesk) → AllZip (λ (old new : AtDesk). LearnsAll old new all) olds news → All (HasSeen some all) news
  all_seen olds news z n d lt =
      let few : n < length olds = omega (arith, AllZip-long (λ (old new : AtDesk). LearnsAll old new all) olds news z, lt) in
      has_seen (slice_index_or olds n d) (slice_index_or news n d) (zipped_at (λ (old new : AtDesk). LearnsAll old new all) olds news n d d z few)

module _ {PL R : Type 0} (k : Talk PL) (some : State) (tape : R → Tape) where
  -- what a worker did it also did at a desk that has only learnt of others since
  worked_learnt : (hall : Rooms State Catalog) (old mid new : AtDesk) (all : Histories Order CatCmd) (from to : Outside) (most left : ℕ) (members : List (Member R)) (end : WorkState)
      → Worked k some tape hall old mid from to most left members end → LearnsAll mid new all → Sits hall new → Worked k some tape hall old new from to most left members end
  worked_learnt hall old mid new all from to most left members end w l s = record {
    lives = w.lives;
    sits = s;
    serves = learning k some old mid new w.lives all w.serves l;
    follow = w.follow;
    numbers = w.numbers;
    door = w.door;
    counts = w.counts;
    stops = w.stops;
  }

  -- a worker from its start to the end of the hall
  works_at : (hall : Rooms State Catalog) (sessions workers n : ℕ) (post : Outside) (start mid desk : AtDesk) (all : Histories Order CatCmd) (from to : Outside) (most left : ℕ) (members : List (Member R)) (end : WorkState) (w : AtEnd R)
      → Worked k some tape hall start mid from to most left members end → start ≡ unused_desk hall n → from ≡ post → most ≡ share_of sessions workers n
      → LearnsAll mid desk all → Sits hall desk → w ≡ at_end to.door members left end → WorksAt k some tape hall sessions workers n post desk w
  works_at hall sessions workers n post start mid desk all from to most left members end w h s f m l sits e = subst (WorksAt k some tape hall sessions workers n post desk) (sym e) (record {
    clock = to.clock;
    dice = to.dice;
    worked = subst (λ (x : AtDesk). Worked k some tape hall x desk post to (share_of sessions workers n) left members end) s
        (subst (λ (x : Outside). Worked k some tape hall start desk x to (share_of sessions workers n) left members end) f
        (subst (λ (x : ℕ). Worked k some tape hall start desk from to x left members end) m
        (worked_learnt hall start mid desk all from to most left members end h l sits)));
  })

  module _ {P B W L : Type 0} (post_of : P → Outside) (bench : W → Option B) (clock_of : B → Source ℤ) (dice_of : B → Source (List ℕ)) (door_of : W → DoorTold) (desk_of : B → AtDesk) (left : W → ℕ) (ended : W → List (Member R)) (end : W → WorkState) (end_of : L → AtEnd R) where
    abbrev pub outside_of : W → B → Outside
    outside_of w b = outside (clock_of b) (dice_of b) (door_of w)

    -- a worker has this post
    abbrev pub AtPost : P → W → Type 0
    AtPost p w = IsThere (bench w) (λ b. outside_of w b ≡ post_of p)

    abbrev pub AtSeat : AtDesk → W → Type 0
    AtSeat d w = IsThere (bench w) (λ b. desk_of b ≡ d)

    -- what is left of a worker
    abbrev pub Leaves : W → L → Type 0
    Leaves w l = end_of l ≡ at_end (door_of w) (ended w) (left w) (end w)

    abbrev pub LeavesDesk : W → AtDesk → Type 0
    LeavesDesk w d = IsThere (bench w) (λ b. d ≡ desk_of b)

    abbrev pub WorkedOn : Rooms State Catalog → W → W → Type 0
    WorkedOn hall old new = AreThere (bench old) (bench new) (λ a b. Worked k some tape hall (desk_of a) (desk_of b) (outside_of old a) (outside_of new b) (left old) (left new) (ended new) (end new))

    at_place : (hall : Rooms State Catalog) (sessions workers n : ℕ) (p : P) (old new : W) (a b : Option B) (start mid desk : AtDesk) (l : L) (all : Histories Order CatCmd)
        → AreThere a b (λ x y. Worked k some tape hall (desk_of x) (desk_of y) (outside_of old x) (outside_of new y) (left old) (left new) (ended new) (end new))
        → IsThere a (λ x. outside_of old x ≡ post_of p) → IsThere a (λ x. desk_of x ≡ start) → start ≡ unused_desk hall n → left old ≡ share_of sessions workers n
        → Leaves new l → IsThere b (λ y. mid ≡ desk_of y)
        → LearnsAll mid desk all → Sits hall desk → WorksAt k some tape hall sessions workers n (post_of p) desk (end_of l)
    at_place hall sessions workers n p old new None b start mid desk l all h post seat u s lv ld learns sits = absurd h
    at_place hall sessions workers n p old new (Some x) None start mid desk l all h post seat u s lv ld learns sits = absurd h
    at_place hall sessions workers n p old new (Some x) (Some y) start mid desk l all h post seat u s lv ld learns sits =
        works_at hall sessions workers n (post_of p) (desk_of x) (desk_of y) desk all (outside_of old x) (outside_of new y) (left old) (left new) (ended new) (end new) (end_of l)
        h (seat ∙ u) post s (subst (λ (z : AtDesk). LearnsAll z desk all) ld learns) sits lv

    seat_sits : (hall : Rooms State Catalog) (o : Option B) (d : AtDesk) → IsThere o (λ b. desk_of b ≡ d) → Sits hall d → IsThere o (λ b. Sits hall (desk_of b))
    seat_sits hall None d h s = h
    seat_sits hall (Some b) d h s = subst (Sits hall) (sym h) s

    -- workers sit at the hall whose desks they were given
    pub seats_sit : (hall : Rooms State Catalog) (desks : List AtDesk) (olds : List W) → All (Sits hall) desks → AllZip AtSeat desks olds → All (λ (w : W). IsThere (bench w) (λ b. Sits hall (desk_of b))) olds
    seats_sit hall desks olds sits z n w lt =
        let few : n < length desks = omega (arith, AllZip-long AtSeat desks olds z, lt) in
        let d = (elements AtSeat desks olds n z few).0 in
        seat_sits hall (bench (slice_index_or olds n w)) (slice_index_or desks n d) (zipped_at AtSeat desks olds n d w z few) (sits n d few)

    still_there : (a b : Option B) (R : B → B → Type 0) → AreThere a b R → IsThere b (λ x. ⊤)
    still_there None b R h = absurd h
    still_there (Some x) None R h = h
    still_there (Some x) (Some y) R h = tt

    -- workers that have worked are whole
    pub all_there : (hall : Rooms State Catalog) (olds news : List W)
        → ((n : ℕ) (w : W) → n < length olds → WorkedOn hall (slice_index_or olds n w) (slice_index_or news n w)) → length news ≡ length olds → All (λ (w : W). IsThere (bench w) (λ b. ⊤)) news
    all_there hall olds news worked same n w lt =
        still_there (bench (slice_index_or olds n w)) (bench (slice_index_or news n w)) _ (worked n w (omega (arith, same, lt)))

    mid_sits : (hall : Rooms State Catalog) (old new : W) (a b : Option B) (d : AtDesk)
        → AreThere a b (λ x y. Worked k some tape hall (desk_of x) (desk_of y) (outside_of old x) (outside_of new y) (left old) (left new) (ended new) (end new))
        → IsThere b (λ y. d ≡ desk_of y) → Sits hall d
    mid_sits hall old new None b d h e = absurd h
    mid_sits hall old new (Some x) None d h e = absurd h
    mid_sits hall old new (Some x) (Some y) d h e = subst (Sits hall) (sym e) h.sits

    -- and so do their desks
    pub mids_sit : (hall : Rooms State Catalog) (olds news : List W) (mids : List AtDesk)
        → ((n : ℕ) (w : W) → n < length olds → WorkedOn hall (slice_index_or olds n w) (slice_index_or news n w)) → length news ≡ length olds → AllZip LeavesDesk news mids → All (Sits hall) mids
    mids_sit hall olds news mids worked same z n d lt =
        let few : n < length news = omega (arith, AllZip-long LeavesDesk news mids z, lt) in
        let w = (elements LeavesDesk news mids n z few).0 in
        let old = slice_index_or olds n w in
        let new = slice_index_or news n w in
        mid_sits hall old new (bench old) (bench new) (slice_index_or mids n d) (worked n w (omega (arith, same, few))) (zipped_at LeavesDesk news mids n w d z few)

    -- each worker, with its post, its share and the desk of its number
    pub all_work : (hall : Rooms State Catalog) (sessions count : ℕ) (posts : List P) (desks mids closed : List AtDesk) (olds news : List W) (lefts : List L) (all : Histories Order CatCmd)
        → desks ≡ map (unused_desk hall) (range_with_len 0 count) → count ≡ length posts
        → AllZip AtPost posts olds → AllZip AtSeat desks olds → map left olds ≡ shares_of sessions (length posts)
        → ((n : ℕ) (w : W) → n < length olds → WorkedOn hall (slice_index_or olds n w) (slice_index_or news n w)) → length news ≡ length olds
        → AllZip Leaves news lefts → AllZip LeavesDesk news mids → AllZip (λ (old new : AtDesk). LearnsAll old new all) mids closed → All (Sits hall) closed
        → (n : ℕ) (post : Outside) (desk : AtDesk) (w : AtEnd R) → n < length posts
        → WorksAt k some tape hall sessions (length posts) n (slice_index_or (map post_of posts) n post) (slice_index_or closed n desk) (slice_index_or (map end_of lefts) n w)
    all_work hall sessions count posts desks mids closed olds news lefts all made many at_posts at_seats shares worked same leaves leave_desks learns sits n post desk w lt =
        let e1 : length olds ≡ length posts = AllZip-long AtPost posts olds at_posts in
        let e2 : length desks ≡ count = ap length made ∙ length-map-range_with_len (unused_desk hall) 0 count in
        let e3 : length lefts ≡ length news = AllZip-long Leaves news lefts leaves in
        let e4 : length mids ≡ length news = AllZip-long LeavesDesk news mids leave_desks in
        let e5 : length closed ≡ length mids = AllZip-long (λ (old new : AtDesk). LearnsAll old new all) mids closed learns in
        let in_olds : n < length olds = omega (arith, e1, lt) in
        let in_news : n < length news = omega (arith, same, in_olds) in
        let in_lefts : n < length lefts = omega (arith, e3, in_news) in
        let in_mids : n < length mids = omega (arith, e4, in_news) in
        let in_closed : n < length closed = omega (arith, e5, in_mids) in
        let in_desks : n < length desks = omega (arith, e2, many, lt) in
        let first = elements AtPost posts olds n at_posts lt in
        let last = elements Leaves news lefts n leaves in_news in
        let p = slice_index_or posts n first.0 in
        let old = slice_index_or olds n first.1 in
        let new = slice_index_or news n first.1 in
        let l = slice_index_or lefts n last.1 in
        let start : slice_index_or desks n desk ≡ unused_desk hall n =
        ap (λ ds. slice_index_or ds n desk) made ∙ get_or-map-range_with_len (unused_desk hall) 0 count n n desk (omega (arith, many, lt)) (omega arith) in
        let share : left old ≡ share_of sessions (length posts) n =
        sym (get_or-map left olds n first.1 0 in_olds)
        ∙ ap (λ ns. slice_index_or ns n 0) shares
        ∙ get_or-map-range_with_len (share_of sessions (length posts)) 0 (length posts) n n 0 lt (omega arith) in
        let done : WorksAt k some tape hall sessions (length posts) n (post_of p) (slice_index_or closed n desk) (end_of l) =
        at_place hall sessions (length posts) n p old new (bench old) (bench new) (slice_index_or desks n desk) (slice_index_or mids n desk) (slice_index_or closed n desk) l all
        (worked n first.1 in_olds)
        (zipped_at AtPost posts olds n first.0 first.1 at_posts lt)
        (zipped_at AtSeat desks olds n desk first.1 at_seats in_desks)
        start share
        (zipped_at Leaves news lefts n first.1 last.1 leaves in_news)
        (zipped_at LeavesDesk news mids n first.1 desk leave_desks in_news)
        (zipped_at (λ (x y : AtDesk). LearnsAll x y all) mids closed n desk desk learns in_mids)
        (sits n desk in_closed) in
        subst (λ (z : Outside × AtEnd R). WorksAt k some tape hall sessions (length posts) n z.0 (slice_index_or closed n desk) z.1)
        (λ i. (sym (get_or-map post_of posts n first.0 post lt) i, sym (get_or-map end_of lefts n last.1 w in_lefts) i)) done

    -- all that such a server promises
    pub all_served : {E NE : Type 0} (state : E → State) (known : NE → Catalog) (names : Catalog) (engines : List State) (hall : Rooms State Catalog) (closed : Closed E Order State NE CatCmd Catalog) (sessions count : ℕ) (posts : List P) (desks mids : List AtDesk) (olds news : List W) (lefts : List L)
        → hall.names.start ≡ names → map (λ (o : Object State). o.start) hall.slots ≡ engines → hall.names.passes ≡ count → All (λ (o : Object State). o.passes ≡ count) hall.slots
        → desks ≡ map (unused_desk hall) (range_with_len 0 count) → count ≡ length posts
        → AllZip AtPost posts olds → AllZip AtSeat desks olds → map left olds ≡ shares_of sessions (length posts)
        → ((n : ℕ) (w : W) → n < length olds → WorkedOn hall (slice_index_or olds n w) (slice_index_or news n w)) → length news ≡ length olds
        → AllZip Leaves news lefts → AllZip LeavesDesk news mids → AllZip (λ (old new : AtDesk). LearnsAll old new (histories_of closed)) mids closed.desks
        → rooms_of closed ≡ hall → All (Sits (rooms_of closed)) closed.desks → IsLedTo state known closed
        → ServesMany k some tape state known names engines (map post_of posts) sessions (map end_of lefts) closed
    all_served state known names engines hall closed sessions count posts desks mids olds news lefts start slots passes of_slots made many at_posts at_seats shares worked same leaves leave_desks learns rooms sits led =
        let all = histories_of closed in
        let told : length posts ≡ length (map post_of posts) = sym (length-map posts post_of) in
        let e1 : length olds ≡ length posts = AllZip-long AtPost posts olds at_posts in
        let e3 : length lefts ≡ length news = AllZip-long Leaves news lefts leaves in
        let e4 : length mids ≡ length news = AllZip-long LeavesDesk news mids leave_desks in
        let e5 : length closed.desks ≡ length mids = AllZip-long (λ (old new : AtDesk). LearnsAll old new all) mids closed.desks learns in
        record {
          hall = hall;
          opens = record { names = start; slots = slots; names_of_desks = passes ∙ many ∙ told; of_desks = subst (λ m. All (λ (o : Object State). o.passes ≡ m) hall.slots) (many ∙ told) of_slots };
          closed = rooms;
          one_each = length-map lefts end_of ∙ e3 ∙ same ∙ e1 ∙ told;
          desks = e5 ∙ e4 ∙ same ∙ e1 ∙ told;
          works = subst (λ m. (n : ℕ) (post : Outside) (desk : AtDesk) (w : AtEnd R) → n < m
              → WorksAt k some tape hall sessions m n (slice_index_or (map post_of posts) n post) (slice_index_or closed.desks n desk) (slice_index_or (map end_of lefts) n w)) told
              (all_work hall sessions count posts desks mids closed.desks olds news lefts all made many at_posts at_seats shares worked same leaves leave_desks learns (subst (λ r. All (Sits r) closed.desks) rooms sits));
          seen = all_seen some all mids closed.desks learns;
          led = led;
        }
