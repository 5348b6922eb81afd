-- What the calls on all feeds leave, whether they are met or refused.
use Rattle.std.proofs.Common.{◌≡◌, ℕ, List, [], ◌∷◌, map, Result, Ok, Err, is_ok, OnOk, OnErr, if◌then◌else◌, refl, sym, ap, subst, ◌∙◌}
use Rattle.std.specs.List.{All, AllZip}
use Rattle.reql_datum.specs.Plain.{Plain}
use Rattle.reql_table_spec.specs.Table.{Held}
use Rattle.reql_table_machine_spec.specs.Feeds.{Feed}
use Rattle.reql_term.specs.Views.{Document}
use Rattle.reql_feeds.specs.Ahead.{Pending, next_kept, ahead, all_ahead}
use Rattle.reql_feeds.specs.Keeps.{feeds_of, IsSized, Keeps}
use Rattle.reql_feeds.specs.Record.{records, kept_in, after_take}
use Rattle.reql_feeds.specs.Rest.{all_rest}
use Rattle.reql_feeds.specs.Seen.{all_sized}
use Rattle.reql_feeds.specs.Told.{Turns}
use Rattle.reql_feeds.specs.declared.entry.Entry.{Entry}
use Rattle.reql_feeds.proofs.Pushes.{number_pushed}
use Rattle.reql_feeds.proofs.Rising.{rise_numbers}
use Rattle.reql_feeds.proofs.Takes.{taken_records, taken_kept}
use Rattle.reql_feeds.proofs.Turned.{told_all, stand_all, find_all, keep_all}

pub on_err : {A E : Type 0} (r : Result A E) (P : Type 0) → P → OnErr r P
on_err (Ok a) P p = tt
on_err (Err e) P p = p

module _ {F : Type 0} (held : F → Held) where
  number_ahead : (f : Feed F Plain) (p : Pending F) → (ahead held f p).number ≡ f.number
  number_ahead f p = number_pushed (held (next_kept f p)).spec.size p.items (record f { kept = next_kept f p })

  numbers_ahead : (fs : List (Feed F Plain)) (ps : List (Pending F)) → map (λ (f : Feed F Plain). f.number) (all_ahead held fs ps) ≡ map (λ (f : Feed F Plain). f.number) fs
  numbers_ahead [] ps = refl
  numbers_ahead (f ∷ fs) [] = refl
  numbers_ahead (f ∷ fs) (p ∷ ps) = λ i. number_ahead f p i ∷ numbers_ahead fs ps i

  module _ {out : List (Entry F)} (was now : List (Entry F)) (is : out ≡ now) (fs : List (Feed F Plain)) (view : feeds_of (all_sized was) ≡ fs) where
    seen_out : feeds_of (all_sized out) ≡ feeds_of (all_sized now)
    seen_out = ap (λ (l : List (Entry F)). feeds_of (all_sized l)) is

    same_out : all_sized now ≡ all_sized was → feeds_of (all_sized out) ≡ fs
    same_out same = seen_out ∙ (ap feeds_of same ∙ view)

    rest_out : (owner number max : ℕ) → feeds_of (all_sized now) ≡ all_rest held owner number max (feeds_of (all_sized was)) → feeds_of (all_sized out) ≡ all_rest held owner number max fs
    rest_out owner number max rest = seen_out ∙ (rest ∙ ap (all_rest held owner number max) view)

    keeps_out : Keeps held (all_sized now) → Keeps held (all_sized out)
    keeps_out k = subst (λ (l : List (Entry F)). Keeps held (all_sized l)) (sym is) k

    module _ {A E : Type 0} where
      pub stays : (r : Result A E) → OnErr r (all_sized now ≡ all_sized was) → OnErr r (feeds_of (all_sized out) ≡ fs)
      stays (Ok a) same = tt
      stays (Err e) same = same_out same

      -- a Take
      pub taken_left : (owner number max : ℕ) (r : Result A E) → OnOk r (feeds_of (all_sized now) ≡ all_rest held owner number max (feeds_of (all_sized was))) → OnErr r (all_sized now ≡ all_sized was)
          → records held (feeds_of (all_sized out)) ≡ (if is_ok r then after_take owner number max (records held fs) else records held fs)
      taken_left owner number max (Ok a) rest same = ap (records held) (rest_out owner number max rest) ∙ taken_records held owner number max fs
      taken_left owner number max (Err e) rest same = ap (records held) (same_out same)

      pub kept_left : (owner number max : ℕ) (r : Result A E) → OnOk r (feeds_of (all_sized now) ≡ all_rest held owner number max (feeds_of (all_sized was))) → OnErr r (all_sized now ≡ all_sized was) → kept_in (feeds_of (all_sized out)) ≡ kept_in fs
      kept_left owner number max (Ok a) rest same = ap kept_in (rest_out owner number max rest) ∙ taken_kept held owner number max fs
      kept_left owner number max (Err e) rest same = ap kept_in (same_out same)

      -- a commit
      pub commit_keeps : (ps : List (Pending F)) (r : Result A E) → OnOk r (feeds_of (all_sized now) ≡ all_ahead held (feeds_of (all_sized was)) ps) → OnOk r (All (IsSized held) (all_sized now)) → OnErr r (all_sized now ≡ all_sized was)
          → Keeps held (all_sized was) → Keeps held (all_sized out)
      commit_keeps ps (Ok a) left sizes same k = keeps_out (record {
        rise = rise_numbers (feeds_of (all_sized was)) (feeds_of (all_sized now)) (ap (map (λ (f : Feed F Plain). f.number)) left ∙ numbers_ahead (feeds_of (all_sized was)) ps) k.rise;
        sizes = sizes;
      })
      commit_keeps ps (Err e) left sizes same k = keeps_out (subst (Keeps held) (sym same) k)

      pub commit_left : (ps qs : List (Pending F)) → ps ≡ qs → (r : Result A E) → OnOk r (feeds_of (all_sized now) ≡ all_ahead held (feeds_of (all_sized was)) ps) → OnErr r (all_sized now ≡ all_sized was)
          → feeds_of (all_sized out) ≡ (if is_ok r then all_ahead held fs qs else fs)
      commit_left ps qs draft (Ok a) left same = seen_out ∙ (left ∙ (λ i. all_ahead held (view i) (draft i)))
      commit_left ps qs draft (Err e) left same = same_out same

      -- a change
      module _ {T : Type 0} (fits : F → List Document → Type 0) (reads : F → T → Type 0) (turn : Feed Held Plain → Feed Held Plain) (after : List Document) where
        pub tell_keeps : (r : Result A E) → OnOk r (AllZip (Turns held fits reads turn after) (all_sized was) (all_sized now)) → OnErr r (all_sized now ≡ all_sized was) → Keeps held (all_sized was) → Keeps held (all_sized out)
        tell_keeps (Ok a) zip same k = keeps_out (keep_all held fits reads turn after (all_sized was) (all_sized now) zip k)
        tell_keeps (Err e) zip same k = keeps_out (subst (Keeps held) (sym same) k)

        pub tell_told : (r : Result A E) → OnOk r (AllZip (Turns held fits reads turn after) (all_sized was) (all_sized now)) → OnOk r (records held (feeds_of (all_sized out)) ≡ map turn (records held fs))
        tell_told (Ok a) zip = ap (records held) seen_out ∙ (told_all held fits reads turn after (all_sized was) (all_sized now) zip ∙ ap (λ t. map turn (records held t)) view)
        tell_told (Err e) zip = tt

        pub tell_stand : (r : Result A E) → OnOk r (AllZip (Turns held fits reads turn after) (all_sized was) (all_sized now)) → OnOk r (All (λ k. fits k after) (kept_in (feeds_of (all_sized out))))
        tell_stand (Ok a) zip = subst (λ l. All (λ k. fits k after) (kept_in l)) (sym seen_out) (stand_all held fits reads turn after (all_sized was) (all_sized now) zip)
        tell_stand (Err e) zip = tt

        pub tell_find : (r : Result A E) → OnOk r (AllZip (Turns held fits reads turn after) (all_sized was) (all_sized now)) → OnOk r ((t : T) → All (λ k. reads k t) (kept_in fs) → All (λ k. reads k t) (kept_in (feeds_of (all_sized out))))
        tell_find (Ok a) zip = λ t all.
            subst (λ l. All (λ k. reads k t) (kept_in l)) (sym seen_out) (find_all held fits reads turn after (all_sized was) (all_sized now) zip t (subst (λ l. All (λ k. reads k t) (kept_in l)) (sym view) all))
        tell_find (Err e) zip = tt
