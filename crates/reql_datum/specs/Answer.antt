-- What a definition answers: a value, or why there is none.
use Rattle.std.specs.Prelude.{ℕ, List, Result, Ok, Err}

infixl 10 ◌>>=◌
abbrev pub ◌>>=◌ : {A B E : Type 0} → Result A E → (A → Result B E) → Result B E
(Ok x) >>= f = f x
(Err e) >>= f = Err e

-- the kinds of fault with the texts that clients are told, want of memory left out
pub data Reason : Type 0 where
  query_logic : List ℕ → Reason
  non_existence : List ℕ → Reason
  resource_limit : List ℕ → Reason
  op_failed : List ℕ → Reason
  user : List ℕ → Reason
  no_text : Reason

abbrev pub Answer : Type 0 → Type 0
Answer A = Result A Reason
