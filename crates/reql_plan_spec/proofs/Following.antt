-- That plans mind their feeds step by step, by what was heard so far.
use Rattle.std.proofs.Common.{◌≡◌, ℕ, List, [], ◌∷◌, ◌++◌, Bool, true, false, true≢false, cond, refl, sym, ap, subst, ◌∙◌}
use Rattle.reql_table_spec.specs.declared.command.Order.{Order}
use Rattle.reql_plan_spec.specs.declared.parts.Plan.{Plan}
use Rattle.reql_plan_spec.specs.declared.parts.Setting.{Setting}
use Rattle.reql_plan_spec.specs.Course.{course, sent, plan_next}
use Rattle.reql_plan_spec.specs.Minds.{Feeds, with_ran, with_heard, MayRun, May, MayEnd, Minds, Comes, IsOther, PlansMindEachStep}
use Rattle.reql_plan_spec.specs.Move.{Ask, look_names, tell, look, run, change_names, roll, Heard, names, told, looked, ran, changed, rolled, Outcome, unsent, sequence, feed}
use Rattle.reql_plan_spec.specs.Request.{Request, ends, asks, request, Next, answered, moves, next, after}
use Rattle.reql_plan_spec.proofs.Minding.{plans_mind}

-- one answer more
after_one : (r : Request) (hs : List Heard) (h : Heard) → after r (hs ++ h ∷ []) ≡ after (after r hs) (h ∷ [])
after_one r [] h = refl
after_one (ends o) (g ∷ hs) h = refl
after_one (asks q on) (g ∷ hs) h = after_one (on g) hs h

next_after : (r : Request) (hs : List Heard) → next r hs ≡ next (after r hs) []
next_after r [] = refl
next_after (ends o) (h ∷ hs) = refl
next_after (asks q on) (h ∷ hs) = next_after (on h) hs

-- what a next move is
abbrev is_move : Next → Bool
is_move (answered o) = false
is_move (moves q) = true

abbrev move_in : Next → Ask
move_in (answered o) = roll
move_in (moves q) = q

abbrev outcome_in : Next → Outcome
outcome_in (answered o) = o
outcome_in (moves q) = unsent

-- what isn't told of a command leaves the feeds as they are
other_ran : (n : ℕ) (order : Order) (h : Heard) (opened : Feeds) → IsOther h → with_ran n order.cmd h opened ≡ opened
other_ran n order (names ns) opened other = refl
other_ran n order (told m) opened other = refl
other_ran n order (looked at) opened other = refl
other_ran n order (ran r kept) opened other = absurd other
other_ran n order (changed r) opened other = refl
other_ran n order (rolled bs) opened other = refl

other_heard : (q : Ask) (h : Heard) (opened : Feeds) → IsOther h → with_heard q h opened ≡ opened
other_heard look_names h opened other = refl
other_heard tell h opened other = refl
other_heard (look n) h opened other = refl
other_heard (run n order) h opened other = other_ran n order h opened other
other_heard (change_names c) h opened other = refl
other_heard roll h opened other = refl

-- of a request as it stands
runs_on : (s : Setting) (r : Request) (opened : Feeds) (n : ℕ) (order : Order) (h : Heard) → Minds opened r → sent s (next r []) ≡ moves (run n order) → MayRun opened n order.cmd × Minds (with_ran n order.cmd h opened) (after r (h ∷ []))
runs_on s (ends o) opened n order h m e = absurd (true≢false (sym (ap is_move e)))
runs_on s (asks q on) opened n order h m e = (subst (May opened) (ap move_in e) m.0, subst (λ z. Minds (with_heard z h opened) (on h)) (ap move_in e) (m.1 h))

finds_on : (r : Request) (opened : Feeds) (h : Heard) → Minds opened r → IsOther h → Minds opened (after r (h ∷ []))
finds_on (ends o) opened h m other = m
finds_on (asks q on) opened h m other = subst (λ z. Minds z (on h)) (other_heard q h opened other) (m.1 h)

may_sent : (b : Bool) (o : Outcome) (opened : Feeds) → MayEnd opened o → MayEnd opened (cond b unsent o)
may_sent true o opened m = tt
may_sent false o opened m = m

ends_on : (s : Setting) (r : Request) (opened : Feeds) (o : Outcome) → Minds opened r → sent s (next r []) ≡ answered o → MayEnd opened o
ends_on s (ends x) opened o m e = subst (MayEnd opened) (ap outcome_in e) (may_sent s.noreply x opened m)
ends_on s (asks q on) opened o m e = absurd (true≢false (ap is_move e))

-- where no answer is wanted
sent_none : (b : Bool) (o : Outcome) → b ≡ true → cond b unsent o ≡ unsent
sent_none true o e = refl
sent_none false o e = absurd (true≢false (sym e))

none_sent : (s : Setting) (n : Next) (o : Outcome) → s.noreply ≡ true → sent s n ≡ answered o → o ≡ unsent
none_sent s (answered x) o q e = sym (ap outcome_in e) ∙ sent_none s.noreply x q
none_sent s (moves x) o q e = absurd (true≢false (ap is_move e))

-- what is next is so of what is left
next_left : (p : Plan) (s : Setting) (hs : List Heard) → sent s (next (after (request (course p s)) hs) []) ≡ plan_next p s hs
next_left p s hs = ap (sent s) (sym (next_after (request (course p s)) hs))

with_one : (p : Plan) (s : Setting) (hs : List Heard) (h : Heard) (opened : Feeds) → Minds opened (after (after (request (course p s)) hs) (h ∷ [])) → Comes p s (hs ++ h ∷ []) opened
with_one p s hs h opened m = subst (Minds opened) (sym (after_one (request (course p s)) hs h)) m

comes_to : (p : Plan) (s : Setting) (hs : List Heard) (opened : Feeds) (o : Outcome) → Comes p s hs opened → plan_next p s hs ≡ answered o → MayEnd opened o
comes_to p s hs opened o m e = ends_on s (after (request (course p s)) hs) opened o m (next_left p s hs ∙ e)

pub plans_mind_each_step : PlansMindEachStep
plans_mind_each_step = record {
  begins = λ p s. plans_mind p s;
  runs = λ p s hs opened n order h m e.
      let both : MayRun opened n order.cmd × Minds (with_ran n order.cmd h opened) (after (after (request (course p s)) hs) (h ∷ [])) = runs_on s (after (request (course p s)) hs) opened n order h m (next_left p s hs ∙ e) in
      (both.0, with_one p s hs h (with_ran n order.cmd h opened) both.1);
  finds = λ p s hs opened h m other. with_one p s hs h opened (finds_on (after (request (course p s)) hs) opened h m other);
  tells = λ p s hs opened arms notes items m e. (comes_to p s hs opened (feed arms notes items) m e).are;
  tells_all = λ p s hs opened arms notes items m e. comes_to p s hs opened (feed arms notes items) m e;
  bare = λ p s hs opened ds m e. comes_to p s hs opened (sequence ds) m e;
  quiet = λ p s hs o q e. none_sent s (next (request (course p s)) hs) o q e;
}
