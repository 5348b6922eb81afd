-- How the engines of a hall are shared, one after another.
use Rattle.std.specs.Prelude.{◌≡◌, ℕ, ◌<◌, List, [], ◌∷◌, ◌++◌, map, slice_index_or, All}
use Rattle.reql_shared.specs.Sight.{Object, unused}
use Rattle.reql_hall.specs.Rooms.{Sitting, with_more}

module _ {C S NC NS : Type 0} where
  -- one more engine is shared, which starts so, and each desk has its pass on it
  pub record SharesOne (start : S) (count : ℕ) (slots more : List (Object S)) (desks now : List (Sitting C S NC NS)) : Type 0 where
    pub object : Object S
    pub start_is : object.start ≡ start
    pub count_is : object.passes ≡ count
    pub slots_are : more ≡ slots ++ object ∷ []
    pub desks_are : (k : ℕ) (desk : Sitting C S NC NS) → k < count → slice_index_or now k desk ≡ with_more (slice_index_or desks k desk) (unused object k)

  -- the engines that start so are shared, and each of the desks, which had no slot, has its passes on them
  pub record SharesAll (starts : List S) (count : ℕ) (slots : List (Object S)) (desks now : List (Sitting C S NC NS)) : Type 0 where
    pub starts_are : map (λ (o : Object S). o.start) slots ≡ starts
    pub counts_are : All (λ (o : Object S). o.passes ≡ count) slots
    pub desks_are : (k : ℕ) (desk : Sitting C S NC NS) → k < count → slice_index_or now k desk ≡ record { names = (slice_index_or desks k desk).names; slots = map (λ (o : Object S). unused o k) slots }
