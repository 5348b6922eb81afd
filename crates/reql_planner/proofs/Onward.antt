-- A course that goes on, move by move.
use Rattle.std.proofs.Common.{◌≡◌, List, [], ◌∷◌, ◌++◌, Bool, true, false, cond, Option, None, sym, ap, subst, ◌∙◌, append_assoc}
use Rattle.reql_term.specs.Views.{Document, Entry}
use Rattle.reql_rules.specs.Lists.{Bytes}
use Rattle.reql_table_spec.specs.Indexes.{Indexes}
use Rattle.reql_table_spec.specs.declared.limits.Limits.{Limits}
use Rattle.reql_plan_spec.specs.declared.parts.Plan.{Plan}
use Rattle.reql_plan_spec.specs.declared.parts.Setting.{Setting}
use Rattle.reql_plan_spec.specs.Course.{course, sent, plan_next}
use Rattle.reql_plan_spec.specs.Move as m
use Rattle.reql_plan_spec.specs.Move.{Heard}
use Rattle.reql_plan_spec.specs.Request.{Request, ends, asks, request, Next, answered, moves, next}
use Rattle.reql_plan_steps.specs.Heard.{ask_of, outcome_of, move_of}
use Rattle.reql_plan_steps.specs.declared.moves.Ask.{Ask}
use Rattle.reql_plan_steps.specs.declared.moves.Answered.{Answered}
use Rattle.reql_plan_steps.specs.declared.moves.Move.{Move}
use Rattle.reql_plan_steps.specs.declared.moves.Move.TheVariants as move
use Rattle.reql_plan_state.specs.Turn.{lost_request}
use Rattle.reql_plan.specs.Moved.{left_in, left_of, first_left, Moved, quieted}
use Rattle.reql_plan.specs.declared.course.Course.{Course}
use Rattle.reql_plan.specs.declared.course.Waiting.{Waiting}
use Rattle.reql_query_session_spec.specs.Told.{setting_of}
use Rattle.reql_planner.specs.Follows.{is_answer, GoesOn, Follows, MayFollow}

-- one request at one moment of another
abbrev Is : Request → List Heard → Heard → Request → Type 0
Is r hs h x = (rest : List Heard) → next x rest ≡ next r (hs ++ h ∷ rest)

module _ {V : Type 0} (documents : V → List Document) (indexes : V → Indexes) (entries : V → Bytes → List Entry) where
  by_ask : (r : Request) (s : Setting) (hs : List Heard) (h : Heard) (x : Request) (q : Ask) (new : Waiting V) (quiet : Bool)
      → Is r hs h x → Moved documents indexes entries (move.Ask q) new quiet x
      → (moves (ask_of q) ≡ sent s (next r (hs ++ h ∷ []))) × GoesOn r (hs ++ h ∷ []) (λ k. left_in documents indexes entries new k)
  by_ask r s hs h (ends o) q new quiet is moved = absurd (let f : moves (ask_of q) ≡ answered (quieted quiet o) = moved in cc)
  by_ask r s hs h (asks q' on) q new quiet is moved = (
    moved.0 ∙ ap (λ (n : Next). sent s n) (is []),
    λ k rest. ap (λ (y : Request). next y rest) (moved.1 k) ∙ (is (k ∷ rest) ∙ ap (λ (hs' : List Heard). next r hs') (sym (append_assoc hs (h ∷ []) (k ∷ rest)))),
  )

  by_answer : (r : Request) (s : Setting) (hs : List Heard) (h : Heard) (x : Request) (o : Answered) (new : Waiting V) (quiet : Bool)
      → Is r hs h x → quiet ≡ s.noreply → Moved documents indexes entries (move.Answer o) new quiet x
      → answered (outcome_of o) ≡ sent s (next r (hs ++ h ∷ []))
  by_answer r s hs h (ends o') o new quiet is same moved = moved ∙ (ap (λ (b : Bool). answered (cond b m.unsent o')) same ∙ ap (λ (n : Next). sent s n) (is []))
  by_answer r s hs h (asks q on) o new quiet is same moved = absurd (let f : answered (outcome_of o) ≡ moves q = moved.0 in cc)

  pub went : (p : Plan) (s : Setting) (hs : List Heard) (old new : Course V) (h : Heard) (mv : Move)
      → Follows documents indexes entries p s hs old → Moved documents indexes entries mv new.waiting old.noreply (left_in documents indexes entries old.waiting h) → new.noreply ≡ old.noreply
      → (move_of mv ≡ plan_next p s (hs ++ h ∷ [])) × MayFollow documents indexes entries p s (hs ++ h ∷ []) (is_answer mv) new
  went p s hs old new h (move.Ask q) follows moved same =
      let both : (moves (ask_of q) ≡ sent s (next (request (course p s)) (hs ++ h ∷ []))) × GoesOn (request (course p s)) (hs ++ h ∷ []) (λ k. left_in documents indexes entries new.waiting k)
      = by_ask (request (course p s)) s hs h (left_in documents indexes entries old.waiting h) q new.waiting old.noreply (follows.goes h) moved in
      (both.0, record { goes = both.1; quiet = same ∙ follows.quiet })
  went p s hs old new h (move.Answer o) follows moved same =
      (by_answer (request (course p s)) s hs h (left_in documents indexes entries old.waiting h) o new.waiting old.noreply (follows.goes h) follows.quiet moved, tt)

  -- a course that begins
  from_first : (b : Bool) (on : Heard → Request) (p : Plan) (s : Setting) → first_left b on ≡ request (course p s) → GoesOn (request (course p s)) [] on
  from_first true on p s is h rest = ap (λ (r : Request). next r (h ∷ rest)) is
  from_first false on p s is h rest = absurd (let f : lost_request ≡ request (course p s) = is in cc)

  pub begins : (p : Plan) (s : Setting) (c : Course V) → left_of documents indexes entries c None ≡ request (course p s) → c.noreply ≡ s.noreply → Follows documents indexes entries p s [] c
  begins p s c is quiet = record { goes = from_first c.is_fresh (λ h. left_in documents indexes entries c.waiting h) p s is; quiet = quiet }

-- the setting of a request is that of its session
pub same_setting : (limits : Limits) (s : Setting) → s.batch ≡ limits.batch → s.cursors ≡ limits.cursors → setting_of limits s.noreply s.opened ≡ s
same_setting limits s batch cursors = λ i. record { noreply = s.noreply; batch = sym batch i; cursors = sym cursors i; opened = s.opened }
