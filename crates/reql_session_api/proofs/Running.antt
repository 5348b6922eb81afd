-- Worlds of a session, one after another.
use Rattle.std.proofs.Common.{◌≡◌, ◌≢◌, ℕ, ◌+◌, true, false, List, [], ◌∷◌, ◌++◌, Option, Some, None, refl, sym, ap, subst, ◌∙◌, arith}
use Rattle.std.proofs.lemmas.Grind.{flat_map-append}
use Rattle.reql_outside.specs.Source.{Source, Gives, with_all}
use Rattle.reql_outside.specs.Tape.{Tape, counted}
use Rattle.reql_outside.proofs.Giving.{all_none, all_more}
use Rattle.reql_outside.proofs.Moving.{counted_twice}
use Rattle.reql_session_spec.specs.Requests.{Arm}
use Rattle.reql_session_spec.specs.Books.{all_arms}
use Rattle.reql_session_spec.specs.Tasks.{Talk}
use Rattle.reql_session_spec.specs.Session.{Mach}
use Rattle.reql_session_spec.specs.Worlds.{Goes, Ended}
use Rattle.reql_session_spec.specs.declared.end.End.{End}
use Rattle.reql_session_spec.specs.declared.end.End.TheVariants as ends
use Rattle.reql_session_spec.proofs.Going.{goes_on_from, goes_said, ends_from}
use Rattle.reql_session_spec.proofs.Steps.{same_moves, does_none}
use Rattle.reql_session_api.specs.World.{World, AtWork, given, given_in, failed, Gave, Runs, Ends, EndsHere, place_at, world_of}

-- an end before all turns were used up
abbrev pub IsEarly : End → Type 0
IsEarly ends.Worn = ⊥
IsEarly end = Unit {0}

not_worn : (end : End) → IsEarly end → end ≢ ends.Worn
not_worn end h e = subst IsEarly e h

module _ {X : Type 0} where
  failed_append : (xs ys : List (Option X)) → failed (xs ++ ys) ≡ failed xs + failed ys
  failed_append [] ys = omega arith
  failed_append (x ∷ xs) ys = omega (arith, failed_append xs ys)

  pub gave_nothing : (s : Source X) → Gave s s []
  gave_nothing s = record { gave = all_none s.gave; faults = refl; sound = refl; never = λ h. refl }

  pub gave_one : (a b : Source X) (x : Option X) → Gives a b x → Gave a b (x ∷ [])
  gave_one a b (Some x) g = record { gave = ap (λ z. z.gave) g; faults = ap (λ z. z.faults) g; sound = ap (λ z. z.sound) g; never = λ h. refl }
  gave_one a b None g = record { gave = ap (λ z. z.gave) g.1 ∙ all_none a.gave; faults = ap (λ z. z.faults) g.1; sound = ap (λ z. z.sound) g.1; never = λ h. absurd (let e : true ≡ false = sym h ∙ g.0 in cc) }

  pub gave_on : (a b c : Source X) (xs ys : List (Option X)) → Gave a b xs → Gave b c ys → Gave a c (xs ++ ys)
  gave_on a b c xs ys p q = record {
    gave = q.gave ∙ ap (with_all (given ys)) p.gave ∙ all_more a.gave (given xs) (given ys) ∙ ap (λ l. with_all l a.gave) (sym (flat_map-append given_in xs ys));
    faults = q.faults ∙ ap (λ n. counted n (failed ys)) p.faults ∙ counted_twice a.faults (failed xs) (failed ys) ∙ ap (counted a.faults) (sym (failed_append xs ys));
    sound = q.sound ∙ p.sound;
    never = λ h. omega (arith, failed_append xs ys, p.never h, q.never (p.sound ∙ h));
  }

module _ {PL : Type 0} (k : Talk PL) where
  pub runs_on : (a b c : World PL) (m n : ℕ) → Runs k a b m → Runs k b c n → Runs k a c (m + n)
  runs_on a b c m n p q = record {
    moments = p.moments ++ q.moments;
    rolls = p.rolls ++ q.rolls;
    goes = goes_on_from k a.tape b.tape c.tape a.place b.place c.place p.moments q.moments p.rolls q.rolls m n p.goes q.goes;
    clock = gave_on a.clock b.clock c.clock p.moments q.moments p.clock q.clock;
    dice = gave_on a.dice b.dice c.dice p.rolls q.rolls p.dice q.dice;
  }

  pub ends_on : (a b c : World PL) (end : End) (arms : List Arm) (m n : ℕ) → Runs k a b m → Ends k b c end arms n → Ends k a c end arms (m + n)
  ends_on a b c end arms m n p q = record {
    moments = p.moments ++ q.moments;
    rolls = p.rolls ++ q.rolls;
    ended = ends_from k a.tape b.tape c.tape a.place b.place c.place p.moments q.moments p.rolls q.rolls end arms m n p.goes q.ended;
    clock = gave_on a.clock b.clock c.clock p.moments q.moments p.clock q.clock;
    dice = gave_on a.dice b.dice c.dice p.rolls q.rolls p.dice q.dice;
  }

  pub ends_here_on : (a b : World PL) (tape : Tape) (w : AtWork) (end : End) (m n : ℕ) → Runs k a b m → EndsHere k b tape w end n → EndsHere k a tape w end (m + n)
  ends_here_on a b tape w end m n p q = record { early = q.early; last = q.last; ends = ends_on a b (world_of tape w q.last) end (all_arms w.books) m n p q.ends }

  pub runs_none : (a : World PL) → Runs k a a 0
  runs_none a = record { moments = []; rolls = []; goes = goes_said k a.tape a.tape a.place a.place [] (does_none k a.place) (same_moves a.tape); clock = gave_nothing a.clock; dice = gave_nothing a.dice }

  -- what moves the link alone
  pub runs_quiet : (t u : Tape) (w : AtWork) (m x : Mach PL) (n : ℕ) → Goes k t u (place_at w m) (place_at w x) [] [] n → Runs k (world_of t w m) (world_of u w x) n
  runs_quiet t u w m x n g = record { moments = []; rolls = []; goes = g; clock = gave_nothing w.clock; dice = gave_nothing w.dice }

  pub ends_quiet : (t u : Tape) (w : AtWork) (m x : Mach PL) (end : End) (n : ℕ) → IsEarly end → Ended k t u (place_at w m) (place_at w x) [] [] end (all_arms w.books) n → EndsHere k (world_of t w m) u w end n
  ends_quiet t u w m x end n h e = record { early = not_worn end h; last = x; ends = record { moments = []; rolls = []; ended = e; clock = gave_nothing w.clock; dice = gave_nothing w.dice } }
