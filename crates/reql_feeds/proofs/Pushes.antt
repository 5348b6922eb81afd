-- Items that are pushed into a record, with the feed as it is kept and as the machine knows it.
use Rattle.std.proofs.Common.{◌≡◌, ℕ, List, [], ◌∷◌, ◌++◌, length, cond, nat_lt, Bool, true, false, refl, ap, ◌∙◌}
use Rattle.reql_datum.specs.Plain.{Plain}
use Rattle.reql_table_spec.specs.Table.{Held}
use Rattle.reql_table_machine_spec.specs.Feeds.{Feed, push, push_all, dropping}
use Rattle.reql_feeds.specs.Record.{record_of}

module _ {K : Type 0} where
  kept_at : (b : Bool) (f : Feed K Plain) (q : List (ℕ × Plain)) (p : ℕ × Plain) → (cond b (record f { queue = f.queue ++ p ∷ [] }) (dropping f q p)).kept ≡ f.kept
  kept_at true f q p = refl
  kept_at false f [] p = refl
  kept_at false f (o ∷ q) p = refl

  pub kept_pushed : (n : ℕ) (ps : List (ℕ × Plain)) (f : Feed K Plain) → (push_all n f ps).kept ≡ f.kept
  kept_pushed n [] f = refl
  kept_pushed n (p ∷ ps) f = kept_pushed n ps (push n f p) ∙ kept_at (nat_lt (length f.queue) n) f f.queue p

  number_at : (b : Bool) (f : Feed K Plain) (q : List (ℕ × Plain)) (p : ℕ × Plain) → (cond b (record f { queue = f.queue ++ p ∷ [] }) (dropping f q p)).number ≡ f.number
  number_at true f q p = refl
  number_at false f [] p = refl
  number_at false f (o ∷ q) p = refl

  pub number_pushed : (n : ℕ) (ps : List (ℕ × Plain)) (f : Feed K Plain) → (push_all n f ps).number ≡ f.number
  number_pushed n [] f = refl
  number_pushed n (p ∷ ps) f = number_pushed n ps (push n f p) ∙ number_at (nat_lt (length f.queue) n) f f.queue p

  pub push_append : (n : ℕ) (ps qs : List (ℕ × Plain)) (f : Feed K Plain) → push_all n f (ps ++ qs) ≡ push_all n (push_all n f ps) qs
  push_append n [] qs f = refl
  push_append n (p ∷ ps) qs f = push_append n ps qs (push n f p)

module _ {F : Type 0} (held : F → Held) where
  record_at : (b : Bool) (f : Feed F Plain) (q : List (ℕ × Plain)) (p : ℕ × Plain)
      → record_of held (cond b (record f { queue = f.queue ++ p ∷ [] }) (dropping f q p)) ≡ cond b (record (record_of held f) { queue = f.queue ++ p ∷ [] }) (dropping (record_of held f) q p)
  record_at true f q p = refl
  record_at false f [] p = refl
  record_at false f (o ∷ q) p = refl

  pub record_pushed : (n : ℕ) (ps : List (ℕ × Plain)) (f : Feed F Plain) → record_of held (push_all n f ps) ≡ push_all n (record_of held f) ps
  record_pushed n [] f = refl
  record_pushed n (p ∷ ps) f = record_pushed n ps (push n f p) ∙ ap (λ (g : Feed Held Plain). push_all n g ps) (record_at (nat_lt (length f.queue) n) f f.queue p)
