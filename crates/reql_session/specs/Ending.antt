-- What a course comes to, and the points that its answer names.
use Rattle.std.specs.Prelude.{◌≡◌, ℕ, List, []}
use Rattle.reql_datum.specs.declared.point.Point.{Point}
use Rattle.reql_answer.specs.Body.{Stamped}
use Rattle.reql_table_spec.specs.declared.limits.Limits.{Limits}
use Rattle.reql_session_spec.specs.Requests.{Arm, Answered, Ends, points_from, stamped}
use Rattle.reql_session_spec.specs.Books.{Books}
use Rattle.reql_session_spec.specs.Tasks.{Talk, Next, Planning, at, batch_size}
use Rattle.reql_session_api.specs.Meant.{Course, next_of}
use Rattle.reql_desk_moves.specs.Steps.{put_points}

-- the points that an answer names, of slots that were asked in this order
abbrev pub seen_at : ℕ → List Point → Stamped
seen_at names points = stamped names (put_points [] points)

module _ {PL : Type 0} where
  -- a course, for a token, that has these arms open
  abbrev pub on_course : Books → ℕ → Course PL → List Arm → Next PL
  on_course b token c arms = at b (Planning token c.plan c.noreply c.count c.found arms)

module _ {PL : Type 0} (k : Talk PL) where
  -- a course is at its end, in a session with these limits, and asked slots in this order
  pub record Reaches (c : Course PL) (to : Answered) (has : Limits) (asked : List Point) (most : ℕ) : Type 0 where
    pub limits : k.limits ≡ has
    pub next : next_of k c ≡ Ends to
    pub points : points_from [] c.found ≡ put_points [] asked
    pub batch : most ≡ batch_size k c.plan
