-- The keys of GET_ALL, one argument after another, and the source of a shape by its first argument.
use Rattle.std.proofs.Common.{◌≡◌, ℕ, ◌+◌, List, [], ◌∷◌, ◌++◌, drop, Bool, true, false, ◌||◌, Option, None, Ok, Err, refl, sym, ap, ◌∙◌, append_assoc, append-nil}
use Rattle.std.specs.List.{list_any}
use Rattle.reql_datum.specs.Answer.{Answer, ◌>>=◌}
use Rattle.reql_datum.specs.Outcome.{Fails}
use Rattle.reql_datum.specs.Plain.{Plain}
use Rattle.reql_datum.specs.declared.fault.Fault.{Fault}
use Rattle.reql_rules.specs.Lists.{Bytes, each}
use Rattle.reql_term.specs.Form.{Form, forms_of}
use Rattle.reql_table_spec.specs.Followed.{closed_value}
use Rattle.reql_table_spec.specs.Indexes.{Indexes}
use Rattle.reql_feed_read.specs.Shapes.{given, is_slot}
use Rattle.reql_feed_read.specs.Source.{Places, Source, holds, values_by, everything, keys_over, source_in, first_source}
use Rattle.reql_feed_read.proofs.Choices.{fails_on}
use Rattle.reql_feed_read.proofs.Gets.{arguments_are}

abbrev behind : List Plain → Answer (List Plain) → Answer (List Plain)
behind out a = a >>= λ vs. Ok (out ++ vs)

nothing_behind : (a : Answer (List Plain)) → a ≡ behind [] a
nothing_behind (Ok vs) = refl
nothing_behind (Err e) = refl

one_behind : (out : List Plain) (v : Plain) (r : Answer (List Plain)) → behind out (r >>= λ vs. Ok (v ∷ vs)) ≡ behind (out ++ v ∷ []) r
one_behind out v (Ok vs) = ap Ok (sym (append_assoc out (v ∷ []) vs))
one_behind out v (Err e) = refl

module _ (fs : List Form) where
  pub first_constant : each closed_value (drop 1 fs) ≡ behind [] (each closed_value (drop 1 fs))
  first_constant = nothing_behind (each closed_value (drop 1 fs))

  module _ (i : ℕ) (f : Form) (all : Answer (List Plain)) (ks : List Plain) where
    left_is : all ≡ behind ks (each closed_value (drop i fs)) → drop i fs ≡ f ∷ drop (i + 1) fs → all ≡ behind ks (closed_value f >>= λ v. each closed_value (drop (i + 1) fs) >>= λ vs. Ok (v ∷ vs))
    left_is e here = e ∙ ap (λ xs. behind ks (each closed_value xs)) here

    pub constant_more : (v : Plain) (more : List Plain) → all ≡ behind ks (each closed_value (drop i fs)) → drop i fs ≡ f ∷ drop (i + 1) fs → closed_value f ≡ Ok v → more ≡ ks ++ v ∷ []
        → all ≡ behind more (each closed_value (drop (i + 1) fs))
    constant_more v more e here gives is =
        left_is e here ∙ ap (λ a. behind ks (a >>= λ v. each closed_value (drop (i + 1) fs) >>= λ vs. Ok (v ∷ vs))) gives
        ∙ one_behind ks v (each closed_value (drop (i + 1) fs)) ∙ ap (λ xs. behind xs (each closed_value (drop (i + 1) fs))) (sym is)

    pub constant_fails : (e : Fault) → all ≡ behind ks (each closed_value (drop i fs)) → drop i fs ≡ f ∷ drop (i + 1) fs → Fails e (closed_value f) → Fails e all
    constant_fails e is here fails =
        rw (left_is is here)
        (fails_on e (closed_value f >>= λ v. each closed_value (drop (i + 1) fs) >>= λ vs. Ok (v ∷ vs)) (λ vs. Ok (ks ++ vs)) (fails_on e (closed_value f) (λ v. each closed_value (drop (i + 1) fs) >>= λ vs. Ok (v ∷ vs)) fails))

  pub all_constants : (i : ℕ) (all : Answer (List Plain)) (ks : List Plain) → all ≡ behind ks (each closed_value (drop i fs)) → drop i fs ≡ [] → all ≡ Ok ks
  all_constants i all ks e none = e ∙ ap (λ xs. behind ks (each closed_value xs)) none ∙ ap Ok (append-nil ks)

pub ruleset constants = (first_constant, constant_more, constant_fails, all_constants)

-- ---- the first argument
head_is : (g f : Form) (gs hs : List Form) → g ∷ gs ≡ f ∷ hs → g ≡ f
head_is g f gs hs e = cc

no_more : {G : Type 0} (f : Form) (gs : List Form) → [] ≡ f ∷ gs → G
no_more f gs e = absurd (cc (e))

pub no_first : (fs : List Form) → fs ≡ [] → None ≡ keys_over (forms_of fs)
no_first fs e = rw e refl

pub off_slot : (fs : List Form) (f : Form) → fs ≡ f ∷ drop 1 fs → is_slot f ≡ false → None ≡ keys_over (forms_of fs)
off_slot [] f e off = no_more f [] e
off_slot (g ∷ gs) f e off = let h : is_slot g ≡ false = ap is_slot (head_is g f gs gs e) ∙ off in rw h refl

pub on_slot : (fs : List Form) (f : Form) (o : Option (List Plain)) → fs ≡ f ∷ drop 1 fs → is_slot f ≡ true → o ≡ given (each closed_value (drop 1 fs)) → o ≡ keys_over (forms_of fs)
on_slot [] f o e on is = no_more f [] e
on_slot (g ∷ gs) f o e on is =
    let h : is_slot g ≡ true = ap is_slot (head_is g f gs gs e) ∙ on in
    rw h (is ∙ ap (λ xs. given (each closed_value xs)) (sym (arguments_are gs)))

pub source_at : (key : Bytes) (indexes : Indexes) (fs : List Form) (f : Form) (s : Source) → fs ≡ f ∷ drop 1 fs → s ≡ source_in key indexes f → s ≡ first_source key indexes (forms_of fs)
source_at key indexes [] f s e is = no_more f [] e
source_at key indexes (g ∷ gs) f s e is = is ∙ ap (source_in key indexes) (sym (head_is g f gs gs e))

pub source_none : (key : Bytes) (indexes : Indexes) (fs : List Form) → fs ≡ [] → everything ≡ first_source key indexes (forms_of fs)
source_none key indexes fs e = rw e refl

-- ---- the primary order, where a document has one entry
pub one_value : (p : Places) (k d : Plain) → holds p k ≡ list_any (holds p) (values_by None (k, d))
one_value p k d = alone (holds p k)
  where
    alone : (b : Bool) → b ≡ b || false
    alone true = refl
    alone false = refl
