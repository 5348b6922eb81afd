-- The fault that is told is the first of the list of all.
use Rattle.std.proofs.Common.{◌≡◌, ℕ, List, [], ◌∷◌, ◌++◌, append_assoc, map, Bool, true, false, not, ◌&&◌, nat_le, if◌then◌else◌, is_some, Option, Some, None, Result, Ok, Err, refl, sym, ap, subst}
use Rattle.std.specs.List.{filter, flat_map}
use Rattle.std.proofs.lemmas.Grind.{flat_map-append}
use Rattle.std.proofs.lemmas.List.{append-nil}
use Rattle.serde_json.specs.Data.{Data, Members, no_members, member}
use Rattle.serde_json.specs.Find.{as_bool}
use Rattle.reql_datum.specs.Answer.{◌>>=◌}
use Rattle.reql_datum.specs.Plain.{Plain}
use Rattle.reql_json.specs.Reading.{document}
use Rattle.reql_json.specs.declared.fault.JsonFault.{JsonFault}
use Rattle.reql_term.specs.Table.{op_of, fits, takes}
use Rattle.reql_term.specs.declared.op.Op.{Op}
use Rattle.reql_term.specs.declared.op.Op.TheVariants as op
use Rattle.reql_read.specs.Faults.{parts_of, parts_of_all, parts_of_named, bad_names, bad_count, bad_value, bad_call, own_faults, term_faults, is_right, option_faults, IsFirstOf, FirstFaultIsTold}
use Rattle.reql_read.specs.Globals.{or_bad, db_in, as_whole, limit_of, batch_of, profile_of, choice_of, with_choice, settings_from, settings_of, usual}
use Rattle.reql_read.specs.Reading.{or_left_out, op_named, counted, all_taken, checked, literal_of, read, read_all, read_named}
use Rattle.reql_read.specs.Shape as shape
use Rattle.reql_read.specs.Written.{Names, Written, value, array, object, variable, row, function, call, Parts, no_parts, part, NamedParts, no_named, named, count_of, names_of}
use Rattle.reql_read.specs.declared.fault.ReadFault.{ReadFault}
use Rattle.reql_read.specs.declared.fault.ReadFault.TheVariants.{BadOptarg}
use Rattle.reql_read.specs.declared.globals.Choice.{Choice}
use Rattle.reql_read.specs.declared.globals.Choice.TheVariants as choice
use Rattle.reql_read.specs.declared.globals.Settings.{Settings}

-- ---- one thing after another

module _ {A B : Type 0} where
  -- first what is told of a, then of what follows it
  pub then_first : (es fs : List ReadFault) (a : Result A ReadFault) (k : A → Result B ReadFault) → IsFirstOf es a → ((x : A) → IsFirstOf fs (k x)) → IsFirstOf (es ++ fs) (a >>= k)
  then_first [] fs (Ok x) k h g = g x
  then_first [] fs (Err e) k h g = absurd h
  then_first (e ∷ es) fs (Ok x) k h g = absurd h
  then_first (e ∷ es) fs (Err f) k h g = h

  -- where nothing can fail any more
  pub last_first : (es : List ReadFault) (a : Result A ReadFault) (f : A → B) → IsFirstOf es a → IsFirstOf es (a >>= λ x. Ok (f x))
  last_first [] (Ok x) f h = tt
  last_first [] (Err e) f h = absurd h
  last_first (e ∷ es) (Ok x) f h = absurd h
  last_first (e ∷ es) (Err g) f h = h

by_same : {A : Type 0} (es fs : List ReadFault) (a : Result A ReadFault) → es ≡ fs → IsFirstOf fs a → IsFirstOf es a
by_same es fs a same h = subst (λ l. IsFirstOf l a) (sym same) h

-- ---- the faults of a part by itself

name_first : (op : Op) (k : List ℕ) (ks : Names) (b : Bool) → IsFirstOf (bad_names op ks) (all_taken op ks)
    → IsFirstOf (map BadOptarg (if not b then k ∷ filter (λ n. not (takes op n)) ks else filter (λ n. not (takes op n)) ks)) (if b then all_taken op ks else Err (BadOptarg k))
name_first op k ks true h = h
name_first op k ks false h = refl

names_first : (op : Op) (ks : Names) → IsFirstOf (bad_names op ks) (all_taken op ks)
names_first op [] = tt
names_first op (k ∷ ks) = name_first op k ks (takes op k) (names_first op ks)

count_by : (b : Bool) (e : ReadFault) → IsFirstOf {A = Unit {0}} (if b then [] else e ∷ []) (if b then Ok tt else Err e)
count_by true e = tt
count_by false e = refl

count_first : (op : Op) (n : ℕ) → IsFirstOf (bad_count op n) (counted op n)
unfolding counted
count_first op n = count_by (fits op n) _

value_first : (r : Result Plain JsonFault) → IsFirstOf (bad_value r) (literal_of r)
value_first (Ok p) = tt
value_first (Err e) = refl

-- an operator, and what is checked of it
checked_by : (n : ℕ) (o : Option Op) (count : ℕ) (names : Names) → IsFirstOf (bad_call n o count names) (or_left_out n o >>= λ op. counted op count >>= λ t. all_taken op names >>= λ u. Ok op)
checked_by n None count names = refl
checked_by n (Some op) count names = then_first (bad_count op count) (bad_names op names) (counted op count) _ (count_first op count) (λ t. last_first (bad_names op names) (all_taken op names) (λ u. op) (names_first op names))

checked_if : (n : ℕ) (b : Bool) (e : ReadFault) (count : ℕ) (names : Names)
    → IsFirstOf (if b then bad_call n (op_of n) count names else e ∷ []) ((if b then or_left_out n (op_of n) else Err e) >>= λ op. counted op count >>= λ t. all_taken op names >>= λ u. Ok op)
checked_if n true e count names = checked_by n (op_of n) count names
checked_if n false e count names = refl

checked_first : (n : ℕ) (args : Parts) (opts : NamedParts) → IsFirstOf (own_faults (call n args opts)) (checked n (count_of args) (names_of opts))
unfolding op_named
checked_first n args opts = checked_if n (nat_le 1 n && nat_le n 255) _ (count_of args) (names_of opts)

-- ---- terms

abbrev all_faults : Parts → List ReadFault
all_faults ws = flat_map own_faults (parts_of_all ws)

abbrev named_faults : NamedParts → List ReadFault
named_faults ws = flat_map own_faults (parts_of_named ws)

mutual
  pub term_first : (w : Written) → IsFirstOf (term_faults w) (read w)
  term_first (value d) = by_same _ (bad_value (document d)) _ (append-nil (bad_value (document d))) (value_first (document d))
  term_first (array ws names) = then_first (bad_names op.MakeArray names) (all_faults ws) (all_taken op.MakeArray names) _ (names_first op.MakeArray names) (λ t. last_first (all_faults ws) (read_all ws) _ (all_first ws))
  term_first (object ws) = last_first (named_faults ws) (read_named ws) _ (named_first ws)
  term_first (variable id names) = by_same _ (bad_names op.Var names) _ (append-nil (bad_names op.Var names)) (last_first (bad_names op.Var names) (all_taken op.Var names) _ (names_first op.Var names))
  term_first (row names) = by_same _ (bad_names op.ImplicitVar names) _ (append-nil (bad_names op.ImplicitVar names)) (last_first (bad_names op.ImplicitVar names) (all_taken op.ImplicitVar names) _ (names_first op.ImplicitVar names))
  term_first (function ids id_names body names) =
      by_same _ (bad_names op.Func names ++ (bad_names op.MakeArray id_names ++ term_faults body)) _ (append_assoc (bad_names op.Func names) (bad_names op.MakeArray id_names) (term_faults body))
      (then_first (bad_names op.Func names) _ (all_taken op.Func names) _ (names_first op.Func names)
      (λ t. then_first (bad_names op.MakeArray id_names) (term_faults body) (all_taken op.MakeArray id_names) _ (names_first op.MakeArray id_names) (λ u. last_first (term_faults body) (read body) _ (term_first body))))
  term_first (call n args opts) =
      by_same _ (own_faults (call n args opts) ++ (all_faults args ++ named_faults opts)) _ (ap (λ es. own_faults (call n args opts) ++ es) (flat_map-append own_faults (parts_of_all args) (parts_of_named opts)))
      (then_first (own_faults (call n args opts)) _ (checked n (count_of args) (names_of opts)) _ (checked_first n args opts)
      (λ op. then_first (all_faults args) (named_faults opts) (read_all args) _ (all_first args) (λ fs. last_first (named_faults opts) (read_named opts) _ (named_first opts))))

  all_first : (ws : Parts) → IsFirstOf (all_faults ws) (read_all ws)
  all_first no_parts = tt
  all_first (part w ws) =
      by_same _ (term_faults w ++ all_faults ws) _ (flat_map-append own_faults (parts_of w) (parts_of_all ws))
      (then_first (term_faults w) (all_faults ws) (read w) _ (term_first w) (λ f. last_first (all_faults ws) (read_all ws) _ (all_first ws)))

  named_first : (ws : NamedParts) → IsFirstOf (named_faults ws) (read_named ws)
  named_first no_named = tt
  named_first (named k w ws) =
      by_same _ (term_faults w ++ named_faults ws) _ (flat_map-append own_faults (parts_of w) (parts_of_named ws))
      (then_first (term_faults w) (named_faults ws) (read w) _ (term_first w) (λ f. last_first (named_faults ws) (read_named ws) _ (named_first ws)))

-- ---- options

right_or_bad : {A : Type 0} (k : List ℕ) (o : Option A) (f : A → Settings) → IsFirstOf (if is_some o then [] else BadOptarg k ∷ []) (or_bad k o >>= λ x. Ok (f x))
right_or_bad k None f = refl
right_or_bad k (Some x) f = tt

choice_first : (s : Settings) (c : Choice) (k : List ℕ) (d : Data) → IsFirstOf (if is_right c d then [] else BadOptarg k ∷ []) (with_choice s c k d)
choice_first s choice.Db k d = right_or_bad k (db_in d) _
choice_first s choice.Noreply k d = right_or_bad k (as_bool d) _
choice_first s choice.ArrayLimit k d = right_or_bad k (limit_of (as_whole d)) _
choice_first s choice.Batch k d = right_or_bad k (batch_of (as_whole d)) _
choice_first s choice.Profile k d = right_or_bad k (profile_of (as_bool d)) _
choice_first s choice.Accepted k d = tt
choice_first s choice.Unknown k d = refl

options_first : (s : Settings) (ms : Members) → IsFirstOf (option_faults ms) (settings_from s ms)
options_first s no_members = tt
options_first s (member k d ms) = then_first _ (option_faults ms) (with_choice s (choice_of k) k d) _ (choice_first s (choice_of k) k d) (λ t. options_first t ms)

settings_first : (ms : Members) → IsFirstOf (option_faults ms) (settings_of ms)
unfolding settings_of
settings_first ms = options_first usual ms

pub first_fault : FirstFaultIsTold
first_fault (shape.start w opts) = then_first (term_faults w) (option_faults opts) (read w) _ (term_first w) (λ f. last_first (option_faults opts) (settings_of opts) _ (settings_first opts))
first_fault shape.continued = tt
first_fault shape.stop = tt
first_fault shape.noreply_wait = tt
first_fault shape.server_info = tt
