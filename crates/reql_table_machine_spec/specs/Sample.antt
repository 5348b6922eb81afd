-- A kind of feed that is easy to see through: a table of one number.
use Rattle.std.specs.Prelude.{ℕ, List, [], ◌∷◌, length, cond, nat_eq, Some}
use Rattle.reql_table_machine_spec.specs.Feeding.{Feeding}
use Rattle.reql_table_machine_spec.specs.declared.sample.Kept.{Kept}
use Rattle.reql_table_machine_spec.specs.declared.command.Said.TheVariants as said

-- one document, a number; a write sets it to each of some numbers in turn; an item is the new number where it differs
abbrev pub last_of : {A : Type 0} → List A → List A
last_of [] = []
last_of (x ∷ []) = x ∷ []
last_of (x ∷ y ∷ xs) = last_of (y ∷ xs)

abbrev pub one_number : Feeding ℕ ℕ (List ℕ) ℕ Kept ℕ ℕ Kept ℕ ℕ
one_number = record {
  changes = λ d j w. w;
  summary = λ d j w. length w;
  change = λ d x. x;
  indexed = λ j n. j;
  index_said = λ j n. said.Changed;
  most = 2;
  keep = λ j k. Some k;
  opening = λ k d. d ∷ [];
  size = λ k. k.size;
  squashes = λ k. k.squash;
  items = λ k d x. cond (nat_eq d x) [] (x ∷ []);
  net = λ k items. last_of items;
  value = λ k d. d;
  apply = λ k v i. i;
}

abbrev pub Good : ℕ → Type 0
Good d = Unit {0}

abbrev pub May : ℕ → ℕ → Type 0
May d x = Unit {0}
