-- Arguments by their number, and options, by their places.
use Rattle.std.proofs.Common.{◌≡◌, ℕ, suc, nat_eq, length, List, [], ◌∷◌, slice_get, false, Option, Some, None, refl, sym, ap, ◌∙◌, arith}
use Rattle.reql_rules.specs.Lists.{Bytes}
use Rattle.reql_term.specs.Form.{Form, forms_of, named_of}
use Rattle.reql_feed_read.specs.Asked.{one_in, two_in, three_in, no_options, only_index, index_option}

module _ {X : Type 0} where
  some_is : (f g : X) → Some f ≡ Some g → f ≡ g
  some_is f g e = cc

  some_none : (f : X) → None ≡ Some f → ⊥
  some_none f e = cc

-- ---- one
pub no_one : (fs : List Form) → None ≡ slice_get fs 0 → None ≡ one_in (forms_of fs)
no_one [] e = refl
no_one (f ∷ fs) e = absurd (some_none f e)

pub more_than_one : (fs : List Form) (g : Form) → Some g ≡ slice_get fs 1 → None ≡ one_in (forms_of fs)
more_than_one [] g e = refl
more_than_one (f ∷ []) g e = absurd (some_none g (sym e))
more_than_one (f ∷ h ∷ fs) g e = refl

pub just_one : (fs : List Form) (f : Form) → Some f ≡ slice_get fs 0 → None ≡ slice_get fs 1 → Some f ≡ one_in (forms_of fs)
just_one [] f e g = absurd (some_none f (sym e))
just_one (x ∷ []) f e g = e
just_one (x ∷ y ∷ fs) f e g = absurd (some_none y g)

pub ruleset ones = (no_one, more_than_one, just_one)

-- ---- two
pub no_first : (fs : List Form) → None ≡ slice_get fs 0 → None ≡ two_in (forms_of fs)
no_first [] e = refl
no_first (f ∷ fs) e = absurd (some_none f e)

pub no_second : (fs : List Form) → None ≡ slice_get fs 1 → None ≡ two_in (forms_of fs)
no_second [] e = refl
no_second (f ∷ []) e = refl
no_second (f ∷ g ∷ fs) e = absurd (some_none g e)

pub more_than_two : (fs : List Form) (g : Form) → Some g ≡ slice_get fs 2 → None ≡ two_in (forms_of fs)
more_than_two [] g e = refl
more_than_two (f ∷ []) g e = refl
more_than_two (f ∷ h ∷ []) g e = absurd (some_none g (sym e))
more_than_two (f ∷ h ∷ i ∷ fs) g e = refl

pub just_two : (fs : List Form) (f g : Form) → Some f ≡ slice_get fs 0 → Some g ≡ slice_get fs 1 → None ≡ slice_get fs 2 → Some (f, g) ≡ two_in (forms_of fs)
just_two [] f g a b c = absurd (some_none f (sym a))
just_two (x ∷ []) f g a b c = absurd (some_none g (sym b))
just_two (x ∷ y ∷ []) f g a b c = λ i. Some (some_is f x a i, some_is g y b i)
just_two (x ∷ y ∷ z ∷ fs) f g a b c = absurd (some_none z c)

pub ruleset twos = (no_first, no_second, more_than_two, just_two)

-- ---- three
pub no_first_of_three : (fs : List Form) → None ≡ slice_get fs 0 → None ≡ three_in (forms_of fs)
no_first_of_three [] e = refl
no_first_of_three (f ∷ fs) e = absurd (some_none f e)

pub no_second_of_three : (fs : List Form) → None ≡ slice_get fs 1 → None ≡ three_in (forms_of fs)
no_second_of_three [] e = refl
no_second_of_three (f ∷ []) e = refl
no_second_of_three (f ∷ g ∷ fs) e = absurd (some_none g e)

pub no_third : (fs : List Form) → None ≡ slice_get fs 2 → None ≡ three_in (forms_of fs)
no_third [] e = refl
no_third (f ∷ []) e = refl
no_third (f ∷ g ∷ []) e = refl
no_third (f ∷ g ∷ h ∷ fs) e = absurd (some_none h e)

pub more_than_three : (fs : List Form) (g : Form) → Some g ≡ slice_get fs 3 → None ≡ three_in (forms_of fs)
more_than_three [] g e = refl
more_than_three (f ∷ []) g e = refl
more_than_three (f ∷ h ∷ []) g e = refl
more_than_three (f ∷ h ∷ i ∷ []) g e = absurd (some_none g (sym e))
more_than_three (f ∷ h ∷ i ∷ j ∷ fs) g e = refl

pub just_three : (fs : List Form) (f g h : Form) → Some f ≡ slice_get fs 0 → Some g ≡ slice_get fs 1 → Some h ≡ slice_get fs 2 → None ≡ slice_get fs 3 → Some (f, (g, h)) ≡ three_in (forms_of fs)
just_three [] f g h a b c d = absurd (some_none f (sym a))
just_three (x ∷ []) f g h a b c d = absurd (some_none g (sym b))
just_three (x ∷ y ∷ []) f g h a b c d = absurd (some_none h (sym c))
just_three (x ∷ y ∷ z ∷ []) f g h a b c d = λ i. Some (some_is f x a i, (some_is g y b i, some_is h z c i))
just_three (x ∷ y ∷ z ∷ u ∷ fs) f g h a b c d = absurd (some_none u d)

pub ruleset threes = (no_first_of_three, no_second_of_three, no_third, more_than_three, just_three)

-- ---- options
not_zero : (n : ℕ) → nat_eq (suc n) 0 ≡ false
not_zero n = grind arith

pub bare : (ms : List (Bytes × Form)) → nat_eq (length ms) 0 ≡ no_options (named_of ms)
bare [] = refl
bare (m ∷ ms) = not_zero (length ms)

pub no_option : (ms : List (Bytes × Form)) → None ≡ slice_get ms 0 → None ≡ only_index (named_of ms)
no_option [] e = refl
no_option (m ∷ ms) e = absurd (some_none m e)

pub more_options : (ms : List (Bytes × Form)) (m : Bytes × Form) → Some m ≡ slice_get ms 1 → None ≡ only_index (named_of ms)
more_options [] m e = refl
more_options (n ∷ []) m e = absurd (some_none m (sym e))
more_options (n ∷ o ∷ ms) m e = refl

pub just_an_option : (ms : List (Bytes × Form)) (k : Bytes) (f : Form) (o : Option Form) → Some (k, f) ≡ slice_get ms 0 → None ≡ slice_get ms 1 → o ≡ index_option k f → o ≡ only_index (named_of ms)
just_an_option [] k f o a b c = absurd (some_none (k, f) (sym a))
just_an_option (m ∷ []) k f o a b c = c ∙ ap (λ (x : Bytes × Form). index_option x.0 x.1) (some_is (k, f) m a)
just_an_option (m ∷ n ∷ ms) k f o a b c = absurd (some_none n b)

pub ruleset options = (no_option, more_options, just_an_option)
