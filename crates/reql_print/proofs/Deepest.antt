-- Depths and so many levels.
use Rattle.std.proofs.Common.{◌≡◌, ℕ, suc, ◌-◌, ◌≤◌, max, List, [], ◌∷◌, length, Bool, true, false, ◌&&◌, nat_eq, nat_le, nat_lt, refl, sym, ap, ◌∙◌, arith}
use Rattle.std.proofs.lemmas.Bool.Decides.{nat_tests}
use Rattle.serde_json.specs.Data as json
use Rattle.reql_term.specs.Form.{Form, variable, implicit, function, forms_of, named_of}
use Rattle.reql_term.specs.Table.{number_of}
use Rattle.reql_term.specs.declared.op.Op.TheVariants as op
use Rattle.reql_read.specs.Spelling.{call, one, spelled_number, spelled_ids, spelled, spelled_all, spelled_named}

-- the deepest of two fits where both do
pub deeper_fits : (a b n : ℕ) → nat_le a n ≡ true → nat_le (max a b) n ≡ nat_le b n
deeper_fits a b n h = grind (arith, nat_tests)

pub first_too_deep : (a b n : ℕ) → nat_le a n ≡ false → nat_le (max a b) n ≡ false
first_too_deep a b n h = grind (arith, nat_tests)

pub ruleset deepest = (deeper_fits, first_too_deep)

-- ---- a depth by its bounds

-- a test that has the answer of another, two levels up
up_two : (n x m : ℕ) → x ≡ suc (suc n) → 2 ≤ m → nat_le x m ≡ nat_le n (m - 2)
up_two n x m is two = rw is (grind (arith, nat_tests))

below_two : (n x m : ℕ) → x ≡ suc (suc n) → nat_lt m 2 ≡ true → nat_le x m ≡ false
below_two n x m is low = rw is (grind (arith, nat_tests))

from_two : (m : ℕ) → nat_lt m 2 ≡ false → 2 ≤ m
from_two m h = grind (arith, nat_tests)

not_empty : (n : ℕ) → nat_eq (suc n) 0 ≡ true → ⊥
not_empty n h = grind (arith, nat_tests)

none_empty : nat_eq 0 0 ≡ false → ⊥
none_empty h = cc

-- ---- terms of a number

bare_depth : (n : ℕ) → json.depth (call n json.no_items json.no_members) ≡ 1
bare_depth n = omega arith

args_depth : (n : ℕ) (d : json.Data) (ds : json.Items) → json.depth (call n (json.item d ds) json.no_members) ≡ suc (suc (json.items_depth (json.item d ds)))
args_depth n d ds = omega arith

options_depth : (n : ℕ) (ds : json.Items) (k : List ℕ) (e : json.Data) (ms : json.Members) → json.depth (call n ds (json.member k e ms)) ≡ suc (suc (max (json.items_depth ds) (json.members_depth (json.member k e ms))))
options_depth n json.no_items k e ms = omega arith
options_depth n (json.item d ds) k e ms = omega arith

ids_flat : (ids : List ℕ) → json.items_depth (spelled_ids ids) ≡ 0
ids_flat [] = refl
ids_flat (k ∷ ks) = let more = ids_flat ks in omega (arith, more)

module _ (n m : ℕ) where
  pub ids_none : (ids : List ℕ) → nat_eq (length ids) 0 ≡ true → nat_le 1 m ≡ nat_le (json.depth (call n (spelled_ids ids) json.no_members)) m
  ids_none [] empty = ap (λ x. nat_le x m) (sym (bare_depth n))
  ids_none (k ∷ ks) empty = absurd (not_empty (length ks) empty)

  pub ids_some : (ids : List ℕ) → nat_eq (length ids) 0 ≡ false → nat_le 2 m ≡ nat_le (json.depth (call n (spelled_ids ids) json.no_members)) m
  ids_some [] some = absurd (none_empty some)
  ids_some (k ∷ ks) some = ap (λ x. nat_le x m) (sym (args_depth n (spelled_number k) (spelled_ids ks) ∙ ap (λ x. suc (suc x)) (ids_flat (k ∷ ks))))

  pub args_none : (fs : List Form) → nat_eq (length fs) 0 ≡ true → nat_le 1 m ≡ nat_le (json.depth (call n (spelled_all (forms_of fs)) json.no_members)) m
  args_none [] empty = ap (λ x. nat_le x m) (sym (bare_depth n))
  args_none (f ∷ fs) empty = absurd (not_empty (length fs) empty)

  pub args_low : (fs : List Form) → nat_eq (length fs) 0 ≡ false → nat_lt m 2 ≡ true → false ≡ nat_le (json.depth (call n (spelled_all (forms_of fs)) json.no_members)) m
  args_low [] some low = absurd (none_empty some)
  args_low (f ∷ fs) some low = sym (below_two _ _ m (args_depth n (spelled f) (spelled_all (forms_of fs))) low)

  pub args_some : (fs : List Form) (b : Bool) → nat_eq (length fs) 0 ≡ false → nat_lt m 2 ≡ false → b ≡ nat_le (json.items_depth (spelled_all (forms_of fs))) (m - 2) → b ≡ nat_le (json.depth (call n (spelled_all (forms_of fs)) json.no_members)) m
  args_some [] b some high is = absurd (none_empty some)
  args_some (f ∷ fs) b some high is = is ∙ sym (up_two _ _ m (args_depth n (spelled f) (spelled_all (forms_of fs))) (from_two m high))

  pub options_none : (ds : json.Items) (ms : List (List ℕ × Form)) (b : Bool) → nat_eq (length ms) 0 ≡ true → b ≡ nat_le (json.depth (call n ds json.no_members)) m → b ≡ nat_le (json.depth (call n ds (spelled_named (named_of ms)))) m
  options_none ds [] b empty is = is
  options_none ds (x ∷ xs) b empty is = absurd (not_empty (length xs) empty)

  pub options_low : (ds : json.Items) (ms : List (List ℕ × Form)) → nat_eq (length ms) 0 ≡ false → nat_lt m 2 ≡ true → false ≡ nat_le (json.depth (call n ds (spelled_named (named_of ms)))) m
  options_low ds [] some low = absurd (none_empty some)
  options_low ds (x ∷ xs) some low = sym (below_two _ _ m (options_depth n ds x.0 (spelled x.1) (spelled_named (named_of xs))) low)

  pub options_deep : (ds : json.Items) (ms : List (List ℕ × Form)) → nat_eq (length ms) 0 ≡ false → nat_lt m 2 ≡ false → false ≡ nat_le (json.items_depth ds) (m - 2) → false ≡ nat_le (json.depth (call n ds (spelled_named (named_of ms)))) m
  options_deep ds [] some high is = absurd (none_empty some)
  options_deep ds (x ∷ xs) some high is =
      sym (up_two _ _ m (options_depth n ds x.0 (spelled x.1) (spelled_named (named_of xs))) (from_two m high) ∙ first_too_deep (json.items_depth ds) (json.members_depth (spelled_named (named_of (x ∷ xs)))) (m - 2) (sym is))

  pub options_some : (ds : json.Items) (ms : List (List ℕ × Form)) (b : Bool) → nat_eq (length ms) 0 ≡ false → nat_lt m 2 ≡ false → true ≡ nat_le (json.items_depth ds) (m - 2) → b ≡ nat_le (json.members_depth (spelled_named (named_of ms))) (m - 2)
      → b ≡ nat_le (json.depth (call n ds (spelled_named (named_of ms)))) m
  options_some ds [] b some high fit is = absurd (none_empty some)
  options_some ds (x ∷ xs) b some high fit is =
      is ∙ sym (up_two _ _ m (options_depth n ds x.0 (spelled x.1) (spelled_named (named_of xs))) (from_two m high) ∙ deeper_fits (json.items_depth ds) (json.members_depth (spelled_named (named_of (x ∷ xs)))) (m - 2) (sym fit))

-- ---- variables, objects and functions

pub variable_fits : (n m : ℕ) → nat_le 2 m ≡ nat_le (json.depth (spelled (variable n))) m
variable_fits n m = ap (λ x. nat_le x m) (sym (args_depth (number_of op.Var) (spelled_number n) json.no_items))

pub row_fits : (m : ℕ) → nat_le 1 m ≡ nat_le (json.depth (spelled implicit)) m
row_fits m = ap (λ x. nat_le x m) (sym (bare_depth (number_of op.ImplicitVar)))

pub object_low : (ms : json.Members) (m : ℕ) → nat_lt m 1 ≡ true → false ≡ nat_le (json.depth (json.object ms)) m
object_low ms m low = grind (arith, nat_tests)

pub object_fits : (ms : json.Members) (m : ℕ) (b : Bool) → nat_lt m 1 ≡ false → b ≡ nat_le (json.members_depth ms) (m - 1) → b ≡ nat_le (json.depth (json.object ms)) m
object_fits ms m b high is = is ∙ same
  where
    same : nat_le (json.members_depth ms) (m - 1) ≡ nat_le (json.depth (json.object ms)) m
    same = grind (arith, nat_tests)

module _ (ids : List ℕ) (f : Form) (m : ℕ) where
  abbrev params : json.Data
  params = call (number_of op.MakeArray) (spelled_ids ids) json.no_members

  function_depth : json.depth (spelled (function ids f)) ≡ suc (suc (max (json.depth params) (json.depth (spelled f))))
  function_depth = args_depth (number_of op.Func) params (one (spelled f)) ∙ ap (λ x. suc (suc x)) flat
    where
      flat : json.items_depth (json.item params (one (spelled f))) ≡ max (json.depth params) (json.depth (spelled f))
      flat = omega arith

  pub function_low : nat_lt m 2 ≡ true → false ≡ nat_le (json.depth (spelled (function ids f))) m
  function_low low = sym (below_two _ _ m function_depth low)

  pub function_deep : nat_lt m 2 ≡ false → false ≡ nat_le (json.depth params) (m - 2) → false ≡ nat_le (json.depth (spelled (function ids f))) m
  function_deep high is = sym (up_two _ _ m function_depth (from_two m high) ∙ first_too_deep (json.depth params) (json.depth (spelled f)) (m - 2) (sym is))

  pub function_fits : (b : Bool) → nat_lt m 2 ≡ false → true ≡ nat_le (json.depth params) (m - 2) → b ≡ nat_le (json.depth (spelled f)) (m - 2) → b ≡ nat_le (json.depth (spelled (function ids f))) m
  function_fits b high fit is = is ∙ sym (up_two _ _ m function_depth (from_two m high) ∙ deeper_fits (json.depth params) (json.depth (spelled f)) (m - 2) (sym fit))

pub ruleset levels = (ids_none, ids_some, args_none, args_low, args_some, options_none, options_low, options_deep, options_some, variable_fits, row_fits, object_low, object_fits, function_low, function_deep, function_fits)
