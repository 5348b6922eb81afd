-- Feeds that have become others, each by the same rule.
use Rattle.std.proofs.Common.{◌≡◌, List, [], ◌∷◌, ◌++◌, map, refl}
use Rattle.std.specs.List.{All, AllZip}
use Rattle.std.proofs.lemmas.List.Elements.{All-nil, All-cons, All-head, All-tail}
use Rattle.reql_datum.specs.Plain.{Plain}
use Rattle.reql_table_spec.specs.Table.{Held}
use Rattle.reql_table_machine_spec.specs.Feeds.{Feed}
use Rattle.reql_term.specs.Views.{Document}
use Rattle.reql_feeds.specs.Record.{records, kept_in}
use Rattle.reql_feeds.specs.Keeps.{Sized, feeds_of, IsSized, Keeps}
use Rattle.reql_feeds.specs.Told.{Turns}
use Rattle.reql_feeds.proofs.Rising.{rise_numbers}

module _ {F T : Type 0} (held : F → Held) (fits : F → List Document → Type 0) (reads : F → T → Type 0) (turn : Feed Held Plain → Feed Held Plain) (after : List Document) where
  abbrev Turned : List (Sized F) → List (Sized F) → Type 0
  Turned = AllZip (Turns held fits reads turn after)

  pub told_all : (ps qs : List (Sized F)) → AllZip (Turns held fits reads turn after) ps qs → records held (feeds_of qs) ≡ map turn (records held (feeds_of ps))
  told_all [] [] z = refl
  told_all [] (q ∷ qs) z = absurd z
  told_all (p ∷ ps) [] z = absurd z
  told_all (p ∷ ps) (q ∷ qs) z = λ i. z.0.told i ∷ told_all ps qs z.1 i

  pub stand_all : (ps qs : List (Sized F)) → AllZip (Turns held fits reads turn after) ps qs → All (λ k. fits k after) (kept_in (feeds_of qs))
  stand_all [] [] z = All-nil (λ k. fits k after)
  stand_all [] (q ∷ qs) z = absurd z
  stand_all (p ∷ ps) [] z = absurd z
  stand_all (p ∷ ps) (q ∷ qs) z = All-cons (λ k. fits k after) q.0.kept (kept_in (feeds_of qs)) z.0.stands (stand_all ps qs z.1)

  pub find_all : (ps qs : List (Sized F)) → AllZip (Turns held fits reads turn after) ps qs → (t : T) → All (λ k. reads k t) (kept_in (feeds_of ps)) → All (λ k. reads k t) (kept_in (feeds_of qs))
  find_all [] [] z t all = all
  find_all [] (q ∷ qs) z t all = absurd z
  find_all (p ∷ ps) [] z t all = absurd z
  find_all (p ∷ ps) (q ∷ qs) z t all =
      All-cons (λ k. reads k t) q.0.kept (kept_in (feeds_of qs)) (z.0.finds t (All-head (λ k. reads k t) p.0.kept (kept_in (feeds_of ps)) all))
      (find_all ps qs z.1 t (All-tail (λ k. reads k t) p.0.kept (kept_in (feeds_of ps)) all))

  numbers_stay : (ps qs : List (Sized F)) → AllZip (Turns held fits reads turn after) ps qs → map (λ (f : Feed F Plain). f.number) (feeds_of qs) ≡ map (λ (f : Feed F Plain). f.number) (feeds_of ps)
  numbers_stay [] [] z = refl
  numbers_stay [] (q ∷ qs) z = absurd z
  numbers_stay (p ∷ ps) [] z = absurd z
  numbers_stay (p ∷ ps) (q ∷ qs) z = λ i. z.0.number i ∷ numbers_stay ps qs z.1 i

  sizes_stay : (ps qs : List (Sized F)) → AllZip (Turns held fits reads turn after) ps qs → All (IsSized held) ps → All (IsSized held) qs
  sizes_stay [] [] z all = all
  sizes_stay [] (q ∷ qs) z all = absurd z
  sizes_stay (p ∷ ps) [] z all = absurd z
  sizes_stay (p ∷ ps) (q ∷ qs) z all =
      let first : IsSized held p = All-head (IsSized held) p ps all in
      All-cons (IsSized held) q qs (rw (z.0.asked, z.0.size) first) (sizes_stay ps qs z.1 (All-tail (IsSized held) p ps all))

  pub keep_all : (ps qs : List (Sized F)) → AllZip (Turns held fits reads turn after) ps qs → Keeps held ps → Keeps held qs
  keep_all ps qs z k = record { rise = rise_numbers (feeds_of ps) (feeds_of qs) (numbers_stay ps qs z) k.rise; sizes = sizes_stay ps qs z k.sizes }

  pub zip_append : (hs bs cs ds : List (Sized F)) → AllZip (Turns held fits reads turn after) hs bs → AllZip (Turns held fits reads turn after) cs ds → AllZip (Turns held fits reads turn after) (hs ++ cs) (bs ++ ds)
  zip_append [] [] cs ds z w = w
  zip_append [] (b ∷ bs) cs ds z w = absurd z
  zip_append (a ∷ hs) [] cs ds z w = absurd z
  zip_append (a ∷ hs) (b ∷ bs) cs ds z w = (z.0, zip_append hs bs cs ds z.1 w)
