-- One step of a loop over the parts of a list, with what is done and what is still to come.
use Rattle.std.proofs.Common.{◌≡◌, ℕ, List, [], ◌∷◌, ◌++◌, Result, Ok, Err, refl, sym, ap, ◌∙◌, append_assoc}
use Rattle.std.proofs.lemmas.List.{append-nil}
use Rattle.serde_json.specs.Data.{Data, Items, no_items, item, Members, no_members, member}
use Rattle.reql_datum.specs.Answer.{◌>>=◌}
use Rattle.reql_term.specs.Form.{Form}
use Rattle.reql_read.specs.Reading.{read, read_all, read_named}
use Rattle.reql_read.specs.Shape.{shaped, shaped_all, shaped_named}
use Rattle.reql_read.specs.Written.{Written, Parts, NamedParts, no_named}
use Rattle.reql_read.proofs.Shapes.{all_step, named_step, none_all}
use Rattle.reql_read.proofs.Understood.{inside}
use Rattle.reql_read.specs.declared.fault.ReadFault.{ReadFault}

module _ {A B : Type 0} where
  abbrev pub read_on : Result A ReadFault → (A → B) → Result (List B) ReadFault → List B → Result (List B) ReadFault
  read_on one f later out = (one >>= λ a. later >>= λ bs. Ok (f a ∷ bs)) >>= λ bs. Ok (out ++ bs)

  read_later : (f : A → B) (x : A) (later : Result (List B) ReadFault) (out : List B) → read_on (Ok x) f later out ≡ (later >>= λ bs. Ok ((out ++ f x ∷ []) ++ bs))
  read_later f x (Ok bs) out = ap Ok (sym (append_assoc out (f x ∷ []) bs))
  read_later f x (Err e) out = refl

  pub read_step : (whole : Result (List B) ReadFault) (one : Result A ReadFault) (f : A → B) (later : Result (List B) ReadFault) (x : A) (out new : List B)
      → whole ≡ read_on one f later out → one ≡ Ok x → new ≡ out ++ f x ∷ [] → whole ≡ (later >>= λ bs. Ok (new ++ bs))
  read_step whole one f later x out new known is added = rw (known, is, added) (read_later f x later out)

-- where all is done
read_last : {B : Type 0} (whole : Result (List B) ReadFault) (out : List B) → whole ≡ (Ok [] >>= λ bs. Ok (out ++ bs)) → whole ≡ Ok out
read_last whole out known = known ∙ ap Ok (append-nil out)

-- What was read of the parts of a list that has the shape, and what is still to come of it.
abbrev pub AllGoOn : Items → Items → List Form → Type 0
AllGoOn whole left out = (all : Parts) → shaped_all whole ≡ Ok all → (rest : Parts) × (shaped_all left ≡ Ok rest) × (read_all all ≡ (read_all rest >>= λ fs. Ok (out ++ fs)))

abbrev pub NamedGoOn : Members → Members → List (List ℕ × Form) → Type 0
NamedGoOn whole left out = (all : NamedParts) → shaped_named whole ≡ Ok all → (rest : NamedParts) × (shaped_named left ≡ Ok rest) × (read_named all ≡ (read_named rest >>= λ ms. Ok (out ++ ms)))

same_after_none : {A : Type 0} (r : Result (List A) ReadFault) → r ≡ (r >>= λ xs. Ok ([] ++ xs))
same_after_none (Ok xs) = refl
same_after_none (Err e) = refl

pub all_begin : (whole : Items) → AllGoOn whole whole []
all_begin whole all h = (all, h, same_after_none (read_all all))

pub named_begin : (whole : Members) → NamedGoOn whole whole []
named_begin whole all h = (all, h, same_after_none (read_named all))

pub all_next : (whole ds : Items) (d : Data) (f : Form) (out new : List Form) → AllGoOn whole (item d ds) out → ((w : Written) → shaped d ≡ Ok w → read w ≡ Ok f) → new ≡ out ++ f ∷ [] → AllGoOn whole ds new
all_next whole ds d f out new on one is all h =
    let a = on all h in
    let b = all_step d ds a.0 a.1 in
    (b.1, b.3, read_step (read_all all) (read b.0) (λ g. g) (read_all b.1) f out new (a.2 ∙ ap (λ ws. read_all ws >>= λ fs. Ok (out ++ fs)) b.4) (one b.0 b.2) is)

pub named_next : (whole ms : Members) (k : List ℕ) (d : Data) (f : Form) (out new : List (List ℕ × Form)) → NamedGoOn whole (member k d ms) out → ((w : Written) → shaped d ≡ Ok w → read w ≡ Ok f) → new ≡ out ++ (k, f) ∷ [] → NamedGoOn whole ms new
named_next whole ms k d f out new on one is all h =
    let a = on all h in
    let b = named_step k d ms a.0 a.1 in
    (b.1, b.3, read_step (read_named all) (read b.0) (λ g. (k, g)) (read_named b.1) f out new (a.2 ∙ ap (λ ws. read_named ws >>= λ fs. Ok (out ++ fs)) b.4) (one b.0 b.2) is)

pub all_end : (whole : Items) (out : List Form) (all : Parts) → AllGoOn whole no_items out → shaped_all whole ≡ Ok all → read_all all ≡ Ok out
all_end whole out all on h = let a = on all h in read_last (read_all all) out (a.2 ∙ ap (λ ws. read_all ws >>= λ fs. Ok (out ++ fs)) (none_all a.0 a.1))

pub named_end : (whole : Members) (out : List (List ℕ × Form)) (all : NamedParts) → NamedGoOn whole no_members out → shaped_named whole ≡ Ok all → read_named all ≡ Ok out
named_end whole out all on h = let a = on all h in read_last (read_named all) out (a.2 ∙ ap (λ ws. read_named ws >>= λ fs. Ok (out ++ fs)) (sym (inside no_named a.0 a.1)))

-- a fault of the next part is that of all
next_fails : {A B : Type 0} (r : Result A ReadFault) (k : A → Result B ReadFault) (out : B → Result B ReadFault) (e : ReadFault) → r ≡ Err e → ((r >>= k) >>= out) ≡ Err e
next_fails r k out e h = rw h refl

pub all_fail : (whole ds : Items) (d : Data) (out : List Form) (all : Parts) (e : ReadFault) → AllGoOn whole (item d ds) out → shaped_all whole ≡ Ok all → (w : Written) × (shaped d ≡ Ok w) × (read w ≡ Err e → read_all all ≡ Err e)
all_fail whole ds d out all e on h =
    let a = on all h in
    let b = all_step d ds a.0 a.1 in
    (b.0, b.2, λ is. a.2 ∙ ap (λ ws. read_all ws >>= λ fs. Ok (out ++ fs)) b.4 ∙ next_fails (read b.0) _ _ e is)

pub named_fail : (whole ms : Members) (k : List ℕ) (d : Data) (out : List (List ℕ × Form)) (all : NamedParts) (e : ReadFault) → NamedGoOn whole (member k d ms) out → shaped_named whole ≡ Ok all → (w : Written) × (shaped d ≡ Ok w) × (read w ≡ Err e → read_named all ≡ Err e)
named_fail whole ms k d out all e on h =
    let a = on all h in
    let b = named_step k d ms a.0 a.1 in
    (b.0, b.2, λ is. a.2 ∙ ap (λ ws. read_named ws >>= λ fs. Ok (out ++ fs)) b.4 ∙ next_fails (read b.0) _ _ e is)
