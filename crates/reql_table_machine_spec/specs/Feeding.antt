-- What a table's writes and feeds mean: all that the feeds' laws need to know of documents.
use Rattle.std.specs.Prelude.{◌≡◌, ◌<◌, ◌≤◌, ℕ, suc, List, [], ◌∷◌, ◌++◌, map, Bool, true, false, Option}
use Rattle.std.specs.List.{AllByRecursion}
use Rattle.reql_table_machine_spec.specs.declared.command.Said.{Said}

-- Over documents D, index definitions J, writes W, index commands N, feeds' requests P, summaries M, single-document
-- changes X, what a feed keeps of its request K, queued items I, and what a fold of items makes F.
pub record Feeding (D J W N P M X K I F : Type 0) : Type 0 where
  -- a write: its single-document changes in order, its summary, and the documents after one change
  pub changes : D → J → W → List X
  pub summary : D → J → W → M
  pub change : D → X → D
  -- an index command: the definitions after it, and what it is answered
  pub indexed : J → N → J
  pub index_said : J → N → Said M I
  -- how many feeds may be open
  pub most : ℕ
  -- what a feed keeps of its request: nothing where its index isn't there
  pub keep : J → P → Option K
  pub opening : K → D → List I
  -- the size of the feed's queue, and whether a Take joins all that is queued
  pub size : K → ℕ
  pub squashes : K → Bool
  -- what is queued at a change of these documents
  pub items : K → D → X → List I
  -- what a Take of a feed that squashes makes of the queue
  pub net : K → List (ℕ × I) → List (ℕ × I)
  -- the feed's value, and a client's fold
  pub value : K → D → F
  pub apply : K → F → I → F

module _ {D J W N P M X K I F : Type 0} (m : Feeding D J W N P M X K I F) where
  abbrev pub fold : K → F → List I → F
  fold k v [] = v
  fold k v (i ∷ is) = fold k (m.apply k v i) is

  -- the documents after some changes
  abbrev pub changed : D → List X → D
  changed d [] = d
  changed d (x ∷ xs) = changed (m.change d x) xs

  -- what a feed is sent for the changes after a stamp
  abbrev pub appended : K → D → ℕ → List X → List (ℕ × I)
  appended k d n [] = []
  appended k d n (x ∷ xs) = map (λ i. (suc n, i)) (m.items k d x) ++ appended k (m.change d x) (suc n) xs

  abbrev pub bare : List (ℕ × I) → List I
  bare items = map (λ p. p.1) items

  -- each change can come after the ones before it
  abbrev pub Comes : (D → X → Type 0) → D → List X → Type 0
  Comes may d [] = Unit {0}
  Comes may d (x ∷ xs) = may d x × Comes may (m.change d x) xs

  -- The laws of a kind of feed, over the documents that are good and the changes that may come: folding a change's items
  -- over the value before it gives the value after it, and what joins a queue folds like the queue and bears its stamps.
  pub record Folds (good : D → Type 0) (may : D → X → Type 0) : Type 0 where
    pub writes : (d : D) (j : J) (w : W) → good d → Comes may d (m.changes d j w)
    pub after : (d : D) (x : X) → good d → may d x → good (m.change d x)
    pub one : (k : K) (d : D) (x : X) → m.squashes k ≡ false → good d → may d x → fold k (m.value k d) (m.items k d x) ≡ m.value k (m.change d x)
    pub joined : (k : K) (d : D) (n : ℕ) (xs : List X) → m.squashes k ≡ true → good d → Comes may d xs →
        fold k (m.value k d) (bare (m.net k (appended k d n xs))) ≡ m.value k (changed d xs)
    pub none : (k : K) → m.net k [] ≡ []
    pub above : (k : K) (n : ℕ) (items : List (ℕ × I)) → AllByRecursion (λ (p : ℕ × I). n < p.0) items → AllByRecursion (λ (p : ℕ × I). n < p.0) (m.net k items)
    pub below : (k : K) (n : ℕ) (items : List (ℕ × I)) → AllByRecursion (λ (p : ℕ × I). p.0 ≤ n) items → AllByRecursion (λ (p : ℕ × I). p.0 ≤ n) (m.net k items)
