-- Changes from one place to another.
use Rattle.std.proofs.Common.{◌≡◌, ◌≤◌, ◌<◌, ℕ, zero, suc, ◌+◌, ◌-◌, List, [], ◌∷◌, length, map, take, drop, Option, Some, None, refl, sym, ap, ◌∙◌, arith}
use Rattle.std.specs.Borrow.{Bor}
use Rattle.std.specs.Prelude.{MatchOption}
use Rattle.std.proofs.lemmas.List.{drop-map}
use Rattle.std.proofs.Math.Seq.{take-length}
use Rattle.reql_datum.specs.Plain.{Plain}
use Rattle.reql_term.specs.Views.{Document}
use Rattle.reql_feed_spec.specs.Feeds.{changed_by}
use Rattle.reql_tally.specs.Views.{docs_after}

-- a look at a place, seen through what elements stand for
pub found_as : {A B : Type 0} (f : A → B) (xs : List A) (p : ℕ) (o : Option (Bor A))
    → MatchOption o (drop p xs ≡ []) (λ e. drop p xs ≡ e.now ∷ drop (p + 1) xs) → MatchOption o (drop p (map f xs) ≡ []) (λ e. drop p (map f xs) ≡ f e.now ∷ drop (p + 1) (map f xs))
found_as f xs p None h = drop-map f p xs ∙ ap (map f) h
found_as f xs p (Some e) h = drop-map f p xs ∙ ap (map f) h ∙ sym (ap (λ z. f e.now ∷ z) (drop-map f (p + 1) xs))

module _ (docs : List Document) (cs : List (Plain × Option Plain)) where
  -- none where the places meet, and none where there are no more
  pub at_the_end : (p to : ℕ) → to ≤ p → docs_after docs cs p to ≡ docs
  at_the_end p to le = let none : to - p ≡ 0 = omega (arith, le) in ap (λ n. changed_by docs (take n (drop p cs))) none

  pub no_more : (p to : ℕ) → drop p cs ≡ [] → docs_after docs cs p to ≡ docs
  no_more p to none = ap (λ z. changed_by docs (take (to - p) z)) none ∙ ap (changed_by docs) (take_none (to - p))
    where
      take_none : (n : ℕ) → ◌≡◌ {A = List (Plain × Option Plain)} (take n []) []
      take_none zero = refl
      take_none (suc n) = refl

  -- one of them
  pub one_more : (p to : ℕ) (c : Plain × Option Plain) → p < to → drop p cs ≡ c ∷ drop (p + 1) cs → docs_after docs cs p to ≡ docs_after (changed_by docs (c ∷ [])) cs (p + 1) to
  one_more p to c less h =
      let n : to - p ≡ suc (to - (p + 1)) = omega (arith, less) in
      ap (λ z. changed_by docs (take (to - p) z)) h ∙ ap (λ k. changed_by docs (take k (c ∷ drop (p + 1) cs))) n

  pub all_of : (n : ℕ) → n ≡ length cs → docs_after docs cs 0 n ≡ changed_by docs cs
  all_of n e =
      let k : n - 0 ≡ length cs = omega (arith, e) in
      ap (λ k. changed_by docs (take k cs)) k ∙ ap (changed_by docs) (take-length cs)
