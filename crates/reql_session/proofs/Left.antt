-- The arms of open feeds, closed feed by feed.
use Rattle.std.proofs.Common.{◌≡◌, ℕ, suc, ◌+◌, ◌<◌, ◌≤◌, List, [], ◌∷◌, ◌++◌, length, map, drop, get_or, refl, sym, ap, subst, ◌∙◌, arith}
use Rattle.std.proofs.lemmas.List.{get_or-map}
use Rattle.std.proofs.Math.ListN.{drop_of_length-le}
use Rattle.reql_table_spec.specs.Machine.{State}
use Rattle.reql_session_spec.specs.Requests.{Arm}
use Rattle.reql_session_spec.specs.Books as story
use Rattle.reql_session_spec.specs.Tasks.{Talk}
use Rattle.reql_session_spec.specs.Session.{Mach, Leaving}
use Rattle.reql_session_spec.specs.Worlds.{Does, at_desk}
use Rattle.reql_session_spec.specs.declared.end.End.{End}
use Rattle.reql_session_spec.proofs.Going.{does_on}
use Rattle.reql_session_spec.proofs.Steps.{does_none}
use Rattle.reql_session_api.specs.Meant.{arms_of}
use Rattle.reql_desk_moves.specs.Acting as coded
use Rattle.reql_desk_moves.specs.Acting.{AtDesk}
use Rattle.reql_desk_moves.proofs.Stepping.{next_in}
use Rattle.reql_open_cursors.specs.Kept.{feed_kept}
use Rattle.reql_open_cursors.specs.There.{AreThere, AllThere}
use Rattle.reql_open_cursors.specs.declared.open.Open.{Open}
use Rattle.reql_open_cursors.proofs.There.{there_coded}
use Rattle.reql_session.specs.Keeping.{arms_open}

-- the arms of the feeds from a place on
abbrev pub arms_from : ℕ → List Open → List Arm
arms_from i feeds = arms_open (map feed_kept (drop i feeds))

kept_count : (feeds : List Open) → length (map feed_kept feeds) ≡ length feeds
kept_count [] = refl
kept_count (f ∷ feeds) = ap (λ n. suc n) (kept_count feeds)

pub next_there : (n : ℕ) (feeds : List Open) (i : ℕ) (feed : Open) → i < length feeds → feed ≡ get_or feeds i feed → AllThere n (map feed_kept feeds) → coded.AreThere n feed.arms.items
next_there n feeds i feed h is a =
    let there : AreThere n (get_or (map feed_kept feeds) i (feed_kept feed)).arms = a i (feed_kept feed) (omega (arith, h, kept_count feeds)) in
    there_coded n feed.arms.items (subst (λ (z : story.Open). AreThere n z.arms) (get_or-map feed_kept feeds i feed (feed_kept feed) h ∙ ap feed_kept (sym is)) there)

module _ {PL : Type 0} (k : Talk PL) (some : State) where
  abbrev pub Left : AtDesk → AtDesk → List Arm → List Arm → Type 0
  Left p q arms left = (m : Mach PL) (end : End) → m.doing ≡ Leaving arms end → Does k (at_desk some p m) (at_desk some q (record m { doing = Leaving left end })) []

  pub left_none : (p : AtDesk) (arms : List Arm) → Left p p arms arms
  left_none p arms m end e = subst (λ d. Does k (at_desk some p m) (at_desk some p (record m { doing = d })) []) e (does_none k (at_desk some p m))

  pub left_next : (p q r : AtDesk) (feeds : List Open) (i : ℕ) (feed : Open) → i < length feeds → feed ≡ get_or feeds i feed → Left p q (arms_from 0 feeds) (arms_from i feeds) →
      ((m : Mach PL) (end : End) (rest : List Arm) → m.doing ≡ Leaving (arms_of feed.arms.items ++ rest) end → Does k (at_desk some q m) (at_desk some r (record m { doing = Leaving rest end })) []) → Left p r (arms_from 0 feeds) (arms_from (i + 1) feeds)
  left_next p q r feeds i feed h is l f m end e =
      let left : Mach PL = record m { doing = Leaving (arms_from i feeds) end } in
      does_on k (at_desk some p m) (at_desk some q left) (at_desk some r (record m { doing = Leaving (arms_from (i + 1) feeds) end })) [] [] (l m end e)
      (f left end (arms_from (i + 1) feeds) (ap (λ z. Leaving (arms_open z) end) (next_in feed_kept feeds i feed feed h is)))

  pub left_all : (p q : AtDesk) (feeds : List Open) (i : ℕ) → length feeds ≤ i → Left p q (arms_from 0 feeds) (arms_from i feeds) → Left p q (arms_from 0 feeds) []
  left_all p q feeds i h l m end e = subst (λ z. Does k (at_desk some p m) (at_desk some q (record m { doing = Leaving (arms_open (map feed_kept z)) end })) []) (drop_of_length-le feeds h) (l m end e)
