-- That a plan minds what is its own: it takes nothing of a feed, closes no feed but those that it opened and that are open
-- still, tells of all these where it ends with a feed and of no others, and opens none where it ends with a sequence.
use Rattle.std.specs.Prelude.{◌≡◌, ℕ, ◌<◌, nat_eq, List, [], ◌∷◌, ◌++◌, map, length, Bool, true, false, not, ◌&&◌, ◌||◌, cond}
use Rattle.reql_datum.specs.Plain.{Plain}
use Rattle.reql_table_machine_spec.specs.declared.command.Said.TheVariants as said
use Rattle.reql_table_spec.specs.declared.command.Cmd.{Cmd}
use Rattle.reql_table_spec.specs.declared.command.Cmd.TheVariants as cmds
use Rattle.reql_table_spec.specs.declared.command.Order.{Order}
use Rattle.reql_plan_spec.specs.declared.parts.Plan.{Plan}
use Rattle.reql_plan_spec.specs.declared.parts.Setting.{Setting}
use Rattle.reql_plan_spec.specs.Course.{course, plan_next}
use Rattle.reql_plan_spec.specs.Move.{Ask, run, Replied, Heard, ran, Arm, Item, Outcome, unsent, sequence, feed}
use Rattle.reql_plan_spec.specs.Request.{Request, ends, asks, request, after, answered, moves}

-- the feeds that are open, each a slot with a number
abbrev pub Feeds : Type 0
Feeds = List (ℕ × ℕ)

abbrev pub is_feed : ℕ → ℕ → ℕ × ℕ → Bool
is_feed n number f = nat_eq f.0 n && nat_eq f.1 number

abbrev pub has_feed : ℕ → ℕ → Feeds → Bool
has_feed n number [] = false
has_feed n number (f ∷ fs) = is_feed n number f || has_feed n number fs

abbrev pub without_feed : ℕ → ℕ → Feeds → Feeds
without_feed n number [] = []
without_feed n number (f ∷ fs) = cond (is_feed n number f) (without_feed n number fs) (f ∷ without_feed n number fs)

-- after a command with its reply: one more is open, or one is closed
abbrev pub with_opened : ℕ → Replied → Feeds → Feeds
with_opened n (said.Opened number opening) opened = opened ++ (n, number) ∷ []
with_opened n s opened = opened

abbrev pub with_reply : ℕ → Cmd → Replied → Feeds → Feeds
with_reply n (cmds.Unsubscribe number) s opened = without_feed n number opened
with_reply n c s opened = with_opened n s opened

abbrev pub with_ran : ℕ → Cmd → Heard → Feeds → Feeds
with_ran n c (ran r kept) opened = with_reply n c r.said opened
with_ran n c h opened = opened

abbrev pub with_heard : Ask → Heard → Feeds → Feeds
with_heard (run n order) h opened = with_ran n order.cmd h opened
with_heard q h opened = opened

-- what may be commanded then
abbrev pub MayRun : Feeds → ℕ → Cmd → Type 0
MayRun opened n (cmds.Take number max) = ⊥
MayRun opened n (cmds.Unsubscribe number) = has_feed n number opened ≡ true
MayRun opened n c = Unit {0}

abbrev pub May : Feeds → Ask → Type 0
May opened (run n order) = MayRun opened n order.cmd
May opened q = Unit {0}

-- and told
abbrev pub AreOpen : Feeds → List Arm → Type 0
AreOpen opened [] = Unit {0}
AreOpen opened (a ∷ arms) = (has_feed a.slot a.feed opened ≡ true) × AreOpen opened arms

abbrev pub feeds_in : List Arm → Feeds
feeds_in arms = map (λ (a : Arm). (a.slot, a.feed)) arms

-- each feed once
abbrev pub are_apart : Feeds → Bool
are_apart [] = true
are_apart (f ∷ fs) = not (has_feed f.0 f.1 fs) && are_apart fs

-- Where a feed is told, its arms are just the feeds that are open, in their order, each once, and there is one; a sequence
-- is told while none is open.
pub record TellsAll (opened : Feeds) (arms : List Arm) : Type 0 where
  pub are : AreOpen opened arms
  pub all : feeds_in arms ≡ opened
  pub apart : are_apart opened ≡ true
  pub some : 0 < length arms

abbrev pub MayEnd : Feeds → Outcome → Type 0
MayEnd opened (feed arms notes items) = TellsAll opened arms
MayEnd opened (sequence ds) = opened ≡ []
MayEnd opened o = Unit {0}

abbrev pub Minds : Feeds → Request → Type 0
Minds opened (ends o) = MayEnd opened o
Minds opened (asks q on) = May opened q × ((h : Heard) → Minds (with_heard q h opened) (on h))

-- whatever it is answered
abbrev pub PlansMind : Type 0
PlansMind = (p : Plan) (s : Setting) → Minds [] (request (course p s))

-- ---- step by step, as a session follows a plan by the answers that it found

-- a course comes by after these answers, with these feeds open
abbrev pub Comes : Plan → Setting → List Heard → Feeds → Type 0
Comes p s hs opened = Minds opened (after (request (course p s)) hs)

-- what is heard other than of a command on a slot
abbrev pub IsOther : Heard → Type 0
IsOther (ran r kept) = ⊥
IsOther h = Unit {0}

pub record PlansMindEachStep : Type 0 where
  pub begins : (p : Plan) (s : Setting) → Comes p s [] []
  pub runs : (p : Plan) (s : Setting) (hs : List Heard) (opened : Feeds) (n : ℕ) (order : Order) (h : Heard) →
      Comes p s hs opened → plan_next p s hs ≡ moves (run n order) → MayRun opened n order.cmd × Comes p s (hs ++ h ∷ []) (with_ran n order.cmd h opened)
  pub finds : (p : Plan) (s : Setting) (hs : List Heard) (opened : Feeds) (h : Heard) → Comes p s hs opened → IsOther h → Comes p s (hs ++ h ∷ []) opened
  pub tells : (p : Plan) (s : Setting) (hs : List Heard) (opened : Feeds) (arms : List Arm) (notes : List ℕ) (items : List Item) →
      Comes p s hs opened → plan_next p s hs ≡ answered (feed arms notes items) → AreOpen opened arms
  -- these arms are just the feeds that are open, each once, and there is one
  pub tells_all : (p : Plan) (s : Setting) (hs : List Heard) (opened : Feeds) (arms : List Arm) (notes : List ℕ) (items : List Item) →
      Comes p s hs opened → plan_next p s hs ≡ answered (feed arms notes items) → TellsAll opened arms
  -- a sequence is told while none is open
  pub bare : (p : Plan) (s : Setting) (hs : List Heard) (opened : Feeds) (ds : List Plain) →
      Comes p s hs opened → plan_next p s hs ≡ answered (sequence ds) → opened ≡ []
  -- where no answer is wanted there is none
  pub quiet : (p : Plan) (s : Setting) (hs : List Heard) (o : Outcome) → s.noreply ≡ true → plan_next p s hs ≡ answered o → o ≡ unsent

-- and only there: a request that wants an answer has one, whatever its moves are answered
abbrev pub UnsentOnlyWithNoreply : Type 0
UnsentOnlyWithNoreply = (p : Plan) (s : Setting) (hs : List Heard) → plan_next p s hs ≡ answered unsent → s.noreply ≡ true
