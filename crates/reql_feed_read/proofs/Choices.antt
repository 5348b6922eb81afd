-- What options give, each by itself, one after another.
use Rattle.std.proofs.Common.{◌≡◌, ℕ, Bool, ◌+◌, List, [], ◌∷◌, ◌++◌, drop, Ok, Err, refl, sym, ap, ◌∙◌, append_assoc, append-nil}
use Rattle.std.proofs.lemmas.List.{map-append}
use Rattle.reql_datum.specs.Answer.{Answer, ◌>>=◌}
use Rattle.reql_datum.specs.Outcome.{Fails}
use Rattle.reql_datum.specs.declared.fault.Fault.{Fault}
use Rattle.reql_datum.specs.declared.fault.Fault.TheVariants.{QueryLogic, NonExistence, ResourceLimit, OpFailed, User, Empty, Memory}
use Rattle.reql_rules.specs.Lists.{Bytes}
use Rattle.reql_term.specs.Form.{Form, named_of}
use Rattle.reql_table_spec.specs.Followed.{options, closed_options}
use Rattle.reql_operand.specs.Seen.{all_chosen, meant}
use Rattle.reql_operand.specs.declared.value.Choice.{Choice}
use Rattle.reql_operand.specs.declared.value.Value.{Value}
use Rattle.reql_operand.specs.declared.value.Arg.TheVariants as arg
use Rattle.reql_value_spec.specs.Meant.{Meant, Options, given}
use Rattle.reql_value_spec.specs.World.{bare_world}
use Rattle.reql_value_spec.specs.Wanted.{left_is_open, right_is_open}
use Rattle.reql_feed_read.specs.Asked.{closed_meaning, open_sides, sides_in}

abbrev all_closed : List (Bytes × Form) → Answer Options
all_closed ms = closed_options (options (named_of ms))

-- what is left, behind what there is
abbrev behind : Options → Answer Options → Answer Options
behind out a = a >>= λ os. Ok (out ++ os)

nothing_behind : (a : Answer Options) → a ≡ behind [] a
nothing_behind (Ok os) = refl
nothing_behind (Err e) = refl

pub fails_on : {A B : Type 0} (e : Fault) (a : Answer A) (k : A → Answer B) → Fails e a → Fails e (a >>= k)
fails_on (QueryLogic s) a k h = rw h refl
fails_on (NonExistence s) a k h = rw h refl
fails_on (ResourceLimit s) a k h = rw h refl
fails_on (OpFailed s) a k h = rw h refl
fails_on (User s) a k h = rw h refl
fails_on Empty a k h = rw h refl
fails_on Memory a k h = tt

abbrev one : Bytes → Meant → Options
one k d = (k, given d) ∷ []

one_behind : (out : Options) (k : Bytes) (d : Meant) (r : Answer Options) → behind out (r >>= λ os. Ok ((k, given d) ∷ os)) ≡ behind (out ++ one k d) r
one_behind out k d (Ok os) = ap Ok (sym (append_assoc out (one k d) os))
one_behind out k d (Err e) = refl

abbrev after : Bytes → Answer Meant → Answer Options → Answer Options
after k a r = a >>= λ d. r >>= λ os. Ok ((k, given d) ∷ os)

chosen_more : (k : Bytes) (a : Answer Meant) (d : Meant) (r all : Answer Options) (out : Options) → all ≡ behind out (after k a r) → a ≡ Ok d → all ≡ behind (out ++ one k d) r
chosen_more k a d r all out e gives = e ∙ ap (λ x. behind out (after k x r)) gives ∙ one_behind out k d r

module _ (ms : List (Bytes × Form)) where
  pub chosen_first : all_closed ms ≡ behind [] (all_closed ms)
  chosen_first = nothing_behind (all_closed ms)

  module _ (i : ℕ) (k : Bytes) (f : Form) (all : Answer Options) (cs : List Choice) where
    left_is : all ≡ behind (all_chosen bare_world cs) (all_closed (drop i ms)) → drop i ms ≡ (k, f) ∷ drop (i + 1) ms → all ≡ behind (all_chosen bare_world cs) (after k (closed_meaning f) (all_closed (drop (i + 1) ms)))
    left_is e here = e ∙ ap (λ x. behind (all_chosen bare_world cs) (all_closed x)) here

    pub chosen_step : (n : Bytes) (v : Value) (ds : List Choice) → all ≡ behind (all_chosen bare_world cs) (all_closed (drop i ms)) → drop i ms ≡ (k, f) ∷ drop (i + 1) ms → closed_meaning f ≡ Ok (meant bare_world v)
        → n ≡ k → ds ≡ cs ++ (record { name = n; arg = arg.Value v }) ∷ [] → all ≡ behind (all_chosen bare_world ds) (all_closed (drop (i + 1) ms))
    chosen_step n v ds e here gives name more =
        let now : all_chosen bare_world ds ≡ all_chosen bare_world cs ++ one k (meant bare_world v) =
        ap (all_chosen bare_world) more ∙ map-append _ cs _ ∙ ap (λ x. all_chosen bare_world cs ++ one x (meant bare_world v)) name in
        chosen_more k (closed_meaning f) (meant bare_world v) (all_closed (drop (i + 1) ms)) all (all_chosen bare_world cs) (left_is e here) gives
        ∙ ap (λ x. behind x (all_closed (drop (i + 1) ms))) (sym now)

    pub chosen_fails : (e : Fault) → all ≡ behind (all_chosen bare_world cs) (all_closed (drop i ms)) → drop i ms ≡ (k, f) ∷ drop (i + 1) ms → Fails e (closed_meaning f) → Fails e all
    chosen_fails e is here fails =
        rw (left_is is here) (fails_on e (after k (closed_meaning f) (all_closed (drop (i + 1) ms))) (λ os. Ok (all_chosen bare_world cs ++ os)) (fails_on e (closed_meaning f) (λ d. all_closed (drop (i + 1) ms) >>= λ os. Ok ((k, given d) ∷ os)) fails))

  pub chosen_all : (i : ℕ) (all : Answer Options) (out : Options) → all ≡ behind out (all_closed (drop i ms)) → drop i ms ≡ [] → all ≡ Ok out
  chosen_all i all out e none = e ∙ ap (λ x. behind out (all_closed x)) none ∙ ap Ok (append-nil out)

pub ruleset choices = (chosen_first, chosen_step, chosen_fails, chosen_all)

-- ---- which sides are open
sides_after : (a : Answer Options) (os : Options) → a ≡ Ok os → open_sides a ≡ (left_is_open os >>= λ b. right_is_open os >>= λ t. Ok (b, t))
sides_after a os is = rw is refl

module _ (ms : List (Bytes × Form)) where
  pub without_choices : (e : Fault) → Fails e (closed_options ms) → Fails e (sides_in ms)
  without_choices e fails = fails_on e (closed_options ms) (λ os. left_is_open os >>= λ b. right_is_open os >>= λ t. Ok (b, t)) fails

  module _ (os : Options) (is : closed_options ms ≡ Ok os) where
    pub without_bottom : (e : Fault) → Fails e (left_is_open os) → Fails e (sides_in ms)
    without_bottom e fails = rw (sides_after (closed_options ms) os is) (fails_on e (left_is_open os) (λ b. right_is_open os >>= λ t. Ok (b, t)) fails)

    pub without_top : (b : Bool) (e : Fault) → left_is_open os ≡ Ok b → Fails e (right_is_open os) → Fails e (sides_in ms)
    without_top b e bottom fails = rw (sides_after (closed_options ms) os is) (rw bottom (fails_on e (right_is_open os) (λ t. Ok (b, t)) fails))

    pub with_both : (b t : Bool) → left_is_open os ≡ Ok b → right_is_open os ≡ Ok t → sides_in ms ≡ Ok (b, t)
    with_both b t bottom top = sides_after (closed_options ms) os is ∙ rw (bottom, top) refl

pub ruleset sides = (without_choices, without_bottom, without_top, with_both)
