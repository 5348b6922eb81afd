-- What is known of results: what a fault was told of, and what came before a value.
use Rattle.std.proofs.Common.{◌≡◌, Result, Ok, Err, refl, sym, subst}
use Rattle.std.specs.Prelude.{IsErr, IsErrAnd}
use Rattle.reql_datum.specs.Answer.{◌>>=◌}
use Rattle.reql_read.specs.Apart.{done}
use Rattle.reql_read.specs.Outcome.{Understands}
use Rattle.reql_read.specs.declared.fault.ReadFault.{ReadFault}
use Rattle.reql_read.specs.declared.fault.ReadFault.TheVariants.{NotJson, BadShape, UnknownTerm, LeftOut, Arity, BadOptarg, Number, Memory}

abbrev pub given : {A : Type 0} → A → Result A ReadFault
given x = Ok x

pub inside : {A : Type 0} (x y : A) → given x ≡ given y → x ≡ y
inside x y h = cc

module _ {A B : Type 0} where
  pub bound : (a : Result A ReadFault) (k : A → Result B ReadFault) (y : B) → (a >>= k) ≡ Ok y → (x : A) × (a ≡ Ok x) × (k x ≡ Ok y)
  bound (Ok x) k y h = (x, refl, h)
  bound (Err e) k y h = cc

  pub then_done : (a : Result A ReadFault) (x : A) (k : A → Result B ReadFault) → a ≡ Ok x → (a >>= k) ≡ k x
  then_done a x k h = rw h refl

  pub then_failed : (a : Result A ReadFault) (e : ReadFault) (k : A → Result B ReadFault) → a ≡ Err e → (a >>= k) ≡ Err e
  then_failed a e k h = rw h refl

module _ {A : Type 0} where
  pub is_done : (a : Result A ReadFault) → done a ≡ Ok tt → (x : A) × (a ≡ Ok x)
  is_done (Ok x) h = (x, refl)
  is_done (Err e) h = cc

  pub not_done : (a : Result A ReadFault) (e : ReadFault) → done a ≡ Err e → a ≡ Err e
  not_done (Ok x) e h = cc
  not_done (Err f) e h = cc

-- a fault that was told of one thing is that of another
module _ {X Y V W : Type 0} (v : X → Y) (w : V → W) (a : Result Y ReadFault) (b : Result W ReadFault) where
  pub failed : (e : ReadFault) → Understands v (Err e) a → (a ≡ Err e → b ≡ Err e) → Understands w (Err e) b
  failed NotJson h k = k h
  failed BadShape h k = k h
  failed (UnknownTerm n) h k = k h
  failed (LeftOut n) h k = k h
  failed (Arity n count) h k = k h
  failed (BadOptarg name) h k = k h
  failed (Number fault) h k = k h
  failed Memory h k = tt

  -- as `?` hands it on
  pub failed_on : (r : Result V ReadFault) (e : ReadFault) → IsErr r × IsErrAnd r (λ f. f ≡ e) → Understands v (Err e) a → (a ≡ Err e → b ≡ Err e) → Understands w r b
  failed_on (Ok x) e h k m = cc (h.0)
  failed_on (Err f) e h k m = subst (λ g. Understands w (Err g) b) (sym h.1) (failed e k m)
