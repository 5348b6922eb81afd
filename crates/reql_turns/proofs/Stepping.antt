-- A session that is made turn by turn.
use Rattle.std.proofs.Common.{◌≡◌, ◌+◌, ◌<◌, ◌≤◌, ℕ, [], Option, Some, None, refl, sym, subst, arith}
use Rattle.reql_outside.specs.Tape.{Tape, IsFresh}
use Rattle.reql_session_spec.specs.Books.{no_books, all_arms}
use Rattle.reql_session_spec.specs.Logins.{Waiting}
use Rattle.reql_session_spec.specs.Tasks.{Talk}
use Rattle.reql_session_spec.specs.Session.{Mach, Rest, Leaving}
use Rattle.reql_session_spec.specs.Worlds.{Does}
use Rattle.reql_session_spec.specs.declared.end.End.{End}
use Rattle.reql_session_spec.specs.declared.end.End.TheVariants as ends
use Rattle.reql_session_api.specs.World.{AtWork, World, Serves, IsServed, place_at, world_at}
use Rattle.reql_turns.specs.Ears.{TurnsOver, TurnFrom, IsHearing, IsFirst}
use Rattle.reql_turns.specs.Running.{SoFar, EndsSo, IsOn, GoesOn, HasEnded, Steps}
use Rattle.reql_turns.specs.declared.ears.Ears.{Ears}
use Rattle.reql_turns.specs.declared.running.Running.{Running}
use Rattle.reql_turns.proofs.Frames.{serves_none, hearing_there, serves_more, serves_end, serves_worn, serves_poor, served}

module _ {PL : Type 0} (k : Talk PL) where
  -- where a session began
  abbrev pub from : AtWork → Tape → World PL
  from start begun = world_at begun start [] Waiting Rest

  pub begins : (t : Tape) (w : AtWork) (d : Ears) → IsFresh t → IsFirst k d → w.books ≡ no_books → SoFar k w w t d 0
  begins t w d f p o = record { begun = t; began = record { fresh = f; books = o }; over = serves_none k t w d p o; within = omega arith }

  pub poor_so : (t : Tape) (w : AtWork) → IsFresh t → w.books ≡ no_books → EndsSo k w w t ends.Memory 0
  poor_so t w f o = record { begun = t; began = record { fresh = f; books = o }; serves = serves_poor k t w k.limits.turns }

  pub served_so : (start w y : AtWork) (u : Tape) (end : End) (n : ℕ) → EndsSo k start w u end n → y.clock ≡ w.clock → y.dice ≡ w.dice →
      ((m : Mach PL) (e : End) → m.doing ≡ Leaving (all_arms w.books) e → Does k (place_at w m) (place_at y (record m { doing = Leaving [] e })) []) → IsServed k start y u end n
  served_so start w y u end n s c d l = served k s.begun u start w y end n s.began.fresh s.began.books s.serves c d l

  module _ {L : Type 0} (tape : L → Tape) where
    pub hears_on : (w : AtWork) (r : Running L) → GoesOn k tape w r → IsHearing k w r.ears
    hears_on w r g = hearing_there k (from g.0 g.1.begun) (tape r.link) w r.ears r.turns g.1.over

    pub step_on : (start w x : AtWork) (r s : Running L) (end : Option End) → s.turns ≡ r.turns + 1 → r.turns < k.limits.turns → TurnFrom k (tape r.link) w r.ears (tape s.link) x s.ears end → IsOn k tape start w r → Steps k tape start x s end
    step_on start w x r s None e lt f on = record {
      begun = on.begun;
      began = on.began;
      over = subst (TurnsOver k (from start on.begun) (tape s.link) x s.ears) (sym e) (serves_more k (from start on.begun) (tape r.link) (tape s.link) w x r.ears s.ears r.turns on.over f);
      within = omega (arith, e, lt);
    }
    step_on start w x r s (Some end) e lt f on =
        let le : r.turns + 1 ≤ k.limits.turns = omega (arith, lt) in
        record {
          begun = on.begun;
          began = on.began;
          serves = subst (Serves k (from start on.begun) k.limits.turns (tape s.link) x end) (sym e) (serves_end k (from start on.begun) (tape r.link) (tape s.link) w x r.ears s.ears k.limits.turns r.turns end le on.over f);
        }

    pub worn_on : (start w : AtWork) (r : Running L) → k.limits.turns ≤ r.turns → IsOn k tape start w r → HasEnded k tape start w r ends.Worn
    worn_on start w r le on =
        let n : r.turns ≡ k.limits.turns = omega (arith, le, on.within) in
        record {
          begun = on.begun;
          began = on.began;
          serves = subst (λ z. Serves k (from start on.begun) z (tape r.link) w ends.Worn r.turns) n (serves_worn k (from start on.begun) (tape r.link) w r.ears r.turns on.over);
        }
