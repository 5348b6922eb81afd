-- A term that was read is printed no deeper than it was written.
use Rattle.std.proofs.Common.{◌≡◌, ℕ, suc, ◌≤◌, max, List, [], ◌∷◌, Bool, true, false, nat_eq, is_some, ℤ, Result, Ok, Err, if◌then◌else◌, refl, sym, ap, subst, arith}
use Rattle.std.proofs.lemmas.Bool.Decides.{nat_tests}
use Rattle.serde_json.specs.Data as json
use Rattle.serde_json.specs.Find.{as_integer, get_member}
use Rattle.reql_datum.specs.Answer.{◌>>=◌}
use Rattle.reql_datum.specs.Plain.{Plain, low, boolean, null, number, object, binary, time, text, high, items_of}
use Rattle.reql_datum.specs.Plain as plain
use Rattle.reql_json.specs.Reading.{document, documents, whole, reserved}
use Rattle.reql_json.specs.declared.fault.JsonFault.{JsonFault}
use Rattle.reql_term.specs.Form.{Form, literal, several, keyed, variable, implicit, function, operation, forms_of, named_of}
use Rattle.reql_term.specs.Table.{number_of}
use Rattle.reql_term.specs.declared.op.Op.{Op}
use Rattle.reql_term.specs.declared.op.Op.TheVariants as op
use Rattle.reql_read.specs.Reading.{literal_of, all_taken, checked, read, read_all, read_named}
use Rattle.reql_read.specs.Shape.{number_in, kind_of, object_of, id_of, ids_from, ids_of, term_of, shaped, shaped_term, shaped_all, shaped_named}
use Rattle.reql_read.specs.Spelling.{call, one, spelled_number, spelled_ids, spelled_literal, spelled, spelled_all, spelled_named}
use Rattle.reql_read.specs.Written.{Names, Written, Parts, NamedParts, names_of, count_of}
use Rattle.reql_read.specs.Written as w
use Rattle.reql_read.specs.declared.fault.ReadFault.{ReadFault}
use Rattle.reql_read.proofs.Shapes.{all_step, named_step}
use Rattle.reql_read.proofs.Understood.{given, inside, bound}

-- ---- how deep a term is written at the least

abbrev is_bare : Parts → NamedParts → Bool
is_bare w.no_parts w.no_named = true
is_bare w.no_parts (w.named k v vs) = false
is_bare (w.part v vs) os = false

abbrev call_deep : Bool → ℕ → ℕ
call_deep true n = 1
call_deep false n = suc (suc n)

abbrev ids_deep : List ℕ → ℕ
ids_deep [] = 1
ids_deep (k ∷ ks) = 2

abbrev mutual
  deep : Written → ℕ
  deep (w.value d) = json.depth d
  deep (w.array ws names) = call_deep (is_bare ws w.no_named) (parts_deep ws)
  deep (w.object ws) = suc (named_deep ws)
  deep (w.variable id names) = 2
  deep (w.row names) = 1
  deep (w.function ids id_names body names) = suc (suc (max (ids_deep ids) (deep body)))
  deep (w.call n args opts) = call_deep (is_bare args opts) (max (parts_deep args) (named_deep opts))

  parts_deep : Parts → ℕ
  parts_deep w.no_parts = 0
  parts_deep (w.part v vs) = max (deep v) (parts_deep vs)

  named_deep : NamedParts → ℕ
  named_deep w.no_named = 0
  named_deep (w.named k v vs) = max (deep v) (named_deep vs)

call_most : (b : Bool) (n : ℕ) → call_deep b n ≤ suc (suc n)
call_most true n = omega arith
call_most false n = omega arith

call_least : (b : Bool) (n m : ℕ) → call_deep b n ≤ m → 1 ≤ m
call_least true n m h = h
call_least false n m h = omega (arith, h)

ids_most : (ids : List ℕ) → ids_deep ids ≤ 2
ids_most [] = omega arith
ids_most (k ∷ ks) = omega arith

-- ---- what has the shape is no deeper than its JSON

abbrev Within : ℕ → Written → Type 0
Within m v = deep v ≤ m

array_within : (ws : Parts) (os : NamedParts) (names : Names) (m : ℕ) → call_deep (is_bare ws os) (max (parts_deep ws) (named_deep os)) ≤ m → Within m (w.array ws names)
array_within w.no_parts w.no_named names m h = omega (arith, h)
array_within w.no_parts (w.named k v vs) names m h = omega (arith, h)
array_within (w.part v vs) os names m h = omega (arith, h)

object_within : (ms : json.Members) (ws : NamedParts) (b : Bool) (m : ℕ) → named_deep ws ≤ json.members_depth ms → suc (json.members_depth ms) ≤ m → Within m (if b then w.value (json.object ms) else w.object ws)
object_within ms ws true m h k = k
object_within ms ws false m h k = omega (arith, h, k)

ids_within : (v : Written) (ks : List ℕ × Names) → ids_of v ≡ Ok ks → ids_deep ks.0 ≤ deep v
ids_within (w.array w.no_parts names) ks h = subst (λ x. ids_deep x.0 ≤ 1) (inside ([], names) ks h) (omega arith)
ids_within (w.array (w.part v vs) names) ks h = let most = ids_most ks.0 in omega (arith, most)
ids_within (w.value d) ks h = cc
ids_within (w.object ws) ks h = cc
ids_within (w.variable id names) ks h = cc
ids_within (w.row names) ks h = cc
ids_within (w.function ids id_names body names) ks h = cc
ids_within (w.call n args opts) ks h = cc

-- Of a term's parts: what is known of the levels m that it has in JSON.
module _ (ws : Parts) (ms : json.Members) (os : NamedParts) (v : Written) (m : ℕ) where
  abbrev Fit : Type 0
  Fit = (call_deep (is_bare ws os) (max (parts_deep ws) (named_deep os)) ≤ m) × (named_deep os ≤ json.members_depth ms) × (suc (json.members_depth ms) ≤ m)

  other_within : (n : ℕ) → Fit → given (w.call n ws os) ≡ Ok v → Within m v
  other_within n fit h = subst (Within m) (inside (w.call n ws os) v h) fit.0

array_case : (ws : Parts) (ms : json.Members) (os : NamedParts) (v : Written) (m : ℕ) → Fit ws ms os v m → term_of (kind_of 2) 2 ws ms os ≡ Ok v → Within m v
unfolding kind_of
array_case ws ms os v m fit h = subst (Within m) (inside (w.array ws (names_of os)) v h) (array_within ws os (names_of os) m fit.0)

object_case : (ws : Parts) (ms : json.Members) (os : NamedParts) (v : Written) (m : ℕ) → Fit ws ms os v m → term_of (kind_of 3) 3 ws ms os ≡ Ok v → Within m v
unfolding kind_of
object_case w.no_parts ms os v m fit h = subst (Within m) (inside (object_of ms os) v h) (object_within ms os (is_some (get_member reserved ms)) m fit.1 fit.2)
object_case (w.part u us) ms os v m fit h = other_within (w.part u us) ms os v m 3 fit h

variable_case : (ws : Parts) (ms : json.Members) (os : NamedParts) (v : Written) (m : ℕ) → Fit ws ms os v m → term_of (kind_of 10) 10 ws ms os ≡ Ok v → Within m v
unfolding kind_of
variable_case w.no_parts ms os v m fit h = other_within w.no_parts ms os v m 10 fit h
variable_case (w.part u w.no_parts) ms os v m fit h =
    let a = bound (id_of u) _ v h in
    let c = fit.0 in
    subst (Within m) (inside (w.variable a.0 (names_of os)) v a.2) (omega (arith, c))
variable_case (w.part u (w.part t ts)) ms os v m fit h = other_within (w.part u (w.part t ts)) ms os v m 10 fit h

row_case : (ws : Parts) (ms : json.Members) (os : NamedParts) (v : Written) (m : ℕ) → Fit ws ms os v m → term_of (kind_of 13) 13 ws ms os ≡ Ok v → Within m v
unfolding kind_of
row_case w.no_parts ms os v m fit h = subst (Within m) (inside (w.row (names_of os)) v h) (call_least (is_bare w.no_parts os) _ m fit.0)
row_case (w.part u us) ms os v m fit h = other_within (w.part u us) ms os v m 13 fit h

function_case : (ws : Parts) (ms : json.Members) (os : NamedParts) (v : Written) (m : ℕ) → Fit ws ms os v m → term_of (kind_of 69) 69 ws ms os ≡ Ok v → Within m v
unfolding kind_of
function_case w.no_parts ms os v m fit h = other_within w.no_parts ms os v m 69 fit h
function_case (w.part u w.no_parts) ms os v m fit h = other_within (w.part u w.no_parts) ms os v m 69 fit h
function_case (w.part u (w.part t w.no_parts)) ms os v m fit h =
    let a = bound (ids_of u) _ v h in
    let ids = ids_within u a.0 a.1 in
    let c = fit.0 in
    subst (Within m) (inside (w.function a.0.0 a.0.1 t (names_of os)) v a.2) (omega (arith, ids, c))
function_case (w.part u (w.part t (w.part r rs))) ms os v m fit h = other_within (w.part u (w.part t (w.part r rs))) ms os v m 69 fit h

call_case : (n : ℕ) (ws : Parts) (ms : json.Members) (os : NamedParts) (v : Written) (m : ℕ)
    → nat_eq n 2 ≡ false → nat_eq n 3 ≡ false → nat_eq n 10 ≡ false → nat_eq n 13 ≡ false → nat_eq n 69 ≡ false → Fit ws ms os v m → term_of (kind_of n) n ws ms os ≡ Ok v → Within m v
unfolding kind_of
call_case n ws ms os v m a b c d e fit h = other_within ws ms os v m n fit (let k = rw (a, b, c, d, e) at h in k)

same_number : (a b : ℕ) → nat_eq a b ≡ true → a ≡ b
same_number a b h = grind (arith, nat_tests)

module _ (n : ℕ) (ws : Parts) (ms : json.Members) (os : NamedParts) (v : Written) (m : ℕ) (fit : Fit ws ms os v m) (h : term_of (kind_of n) n ws ms os ≡ Ok v) where
  -- the number is k
  at_number : (k : ℕ) → nat_eq n k ≡ true → term_of (kind_of k) k ws ms os ≡ Ok v
  at_number k is = subst (λ j. term_of (kind_of j) j ws ms os ≡ Ok v) (same_number n k is) h

  by_tests : (a b c d e : Bool) → nat_eq n 2 ≡ a → nat_eq n 3 ≡ b → nat_eq n 10 ≡ c → nat_eq n 13 ≡ d → nat_eq n 69 ≡ e → Within m v
  by_tests true b c d e p q r s t = array_case ws ms os v m fit (at_number 2 p)
  by_tests false true c d e p q r s t = object_case ws ms os v m fit (at_number 3 q)
  by_tests false false true d e p q r s t = variable_case ws ms os v m fit (at_number 10 r)
  by_tests false false false true e p q r s t = row_case ws ms os v m fit (at_number 13 s)
  by_tests false false false false true p q r s t = function_case ws ms os v m fit (at_number 69 t)
  by_tests false false false false false p q r s t = call_case n ws ms os v m p q r s t fit h

  term_within : Within m v
  term_within = by_tests (nat_eq n 2) (nat_eq n 3) (nat_eq n 10) (nat_eq n 13) (nat_eq n 69) refl refl refl refl refl

mutual
  pub shape_within : (d : json.Data) (v : Written) → shaped d ≡ Ok v → Within (json.depth d) v
  shape_within json.null v h = subst (Within 0) (inside (w.value json.null) v h) (omega arith)
  shape_within (json.boolean b) v h = subst (Within 0) (inside (w.value (json.boolean b)) v h) (omega arith)
  shape_within (json.number n) v h = subst (Within 0) (inside (w.value (json.number n)) v h) (omega arith)
  shape_within (json.string s) v h = subst (Within 0) (inside (w.value (json.string s)) v h) (omega arith)
  shape_within (json.array ds) v h = parts_within ds v h
  shape_within (json.object ms) v h =
      let a = bound (shaped_named ms) _ v h in
      subst (Within (json.depth (json.object ms))) (inside (object_of ms a.0) v a.2) (object_within ms a.0 (is_some (get_member reserved ms)) _ (named_within ms a.0 a.1) (omega arith))

  parts_within : (ds : json.Items) (v : Written) → shaped_term ds ≡ Ok v → Within (suc (json.items_depth ds)) v
  parts_within json.no_items v h = cc
  parts_within (json.item n json.no_items) v h =
      let a = bound (number_in n) _ v h in
      term_within a.0 w.no_parts json.no_members w.no_named v (suc (json.items_depth (json.item n json.no_items))) (omega arith, omega arith, omega arith) a.2
  parts_within (json.item n (json.item (json.array args) json.no_items)) v h =
      let a = bound (number_in n) _ v h in
      let b = bound (shaped_all args) _ v a.2 in
      let all = all_within args b.0 b.1 in
      let most = call_most (is_bare b.0 w.no_named) (max (parts_deep b.0) (named_deep w.no_named)) in
      term_within a.0 b.0 json.no_members w.no_named v (suc (json.items_depth (json.item n (json.item (json.array args) json.no_items)))) (omega (arith, all, most), omega arith, omega arith) b.2
  parts_within (json.item n (json.item (json.array args) (json.item (json.object ms) json.no_items))) v h =
      let a = bound (number_in n) _ v h in
      let b = bound (shaped_all args) _ v a.2 in
      let c = bound (shaped_named ms) _ v b.2 in
      let all = all_within args b.0 b.1 in
      let named = named_within ms c.0 c.1 in
      let most = call_most (is_bare b.0 c.0) (max (parts_deep b.0) (named_deep c.0)) in
      term_within a.0 b.0 ms c.0 v (suc (json.items_depth (json.item n (json.item (json.array args) (json.item (json.object ms) json.no_items))))) (omega (arith, all, named, most), named, omega arith) c.2
  parts_within (json.item n (json.item json.null ds)) v h = cc
  parts_within (json.item n (json.item (json.boolean b) ds)) v h = cc
  parts_within (json.item n (json.item (json.number m) ds)) v h = cc
  parts_within (json.item n (json.item (json.string s) ds)) v h = cc
  parts_within (json.item n (json.item (json.object ms) ds)) v h = cc
  parts_within (json.item n (json.item (json.array args) (json.item json.null ds))) v h = cc
  parts_within (json.item n (json.item (json.array args) (json.item (json.boolean b) ds))) v h = cc
  parts_within (json.item n (json.item (json.array args) (json.item (json.number m) ds))) v h = cc
  parts_within (json.item n (json.item (json.array args) (json.item (json.string s) ds))) v h = cc
  parts_within (json.item n (json.item (json.array args) (json.item (json.array es) ds))) v h = cc
  parts_within (json.item n (json.item (json.array args) (json.item (json.object ms) (json.item d ds)))) v h = cc

  all_within : (ds : json.Items) (ws : Parts) → shaped_all ds ≡ Ok ws → parts_deep ws ≤ json.items_depth ds
  all_within json.no_items ws h = subst (λ vs. parts_deep vs ≤ 0) (inside w.no_parts ws h) (omega arith)
  all_within (json.item d ds) ws h =
      let a = all_step d ds ws h in
      let first = shape_within d a.0 a.2 in
      let more = all_within ds a.1 a.3 in
      subst (λ vs. parts_deep vs ≤ max (json.depth d) (json.items_depth ds)) (sym a.4) (omega (arith, first, more))

  named_within : (ms : json.Members) (ws : NamedParts) → shaped_named ms ≡ Ok ws → named_deep ws ≤ json.members_depth ms
  named_within json.no_members ws h = subst (λ vs. named_deep vs ≤ 0) (inside w.no_named ws h) (omega arith)
  named_within (json.member k d ms) ws h =
      let a = named_step k d ms ws h in
      let first = shape_within d a.0 a.2 in
      let more = named_within ms a.1 a.3 in
      subst (λ vs. named_deep vs ≤ max (json.depth d) (json.members_depth ms)) (sym a.4) (omega (arith, first, more))

-- ---- what is read of it is printed no deeper

-- a call without arguments and options is one level deep
abbrev Bare : Bool → json.Items → json.Members → Type 0
Bare true args opts = (args ≡ json.no_items) × (opts ≡ json.no_members)
Bare false args opts = Unit {0}

two_levels : (n : ℕ) (args : json.Items) (opts : json.Members) (x : ℕ) → json.items_depth args ≤ x → json.members_depth opts ≤ x → json.depth (call n args opts) ≤ suc (suc x)
two_levels n json.no_items json.no_members x h k = omega arith
two_levels n (json.item d ds) json.no_members x h k = omega (arith, h)
two_levels n json.no_items (json.member l e ms) x h k = omega (arith, k)
two_levels n (json.item d ds) (json.member l e ms) x h k = omega (arith, h, k)

call_within : (b : Bool) (n : ℕ) (args : json.Items) (opts : json.Members) (x : ℕ) → Bare b args opts → json.items_depth args ≤ x → json.members_depth opts ≤ x → json.depth (call n args opts) ≤ call_deep b x
call_within true n args opts x bare h k = rw (bare.0, bare.1) (omega arith)
call_within false n args opts x bare h k = two_levels n args opts x h k

bare_read : (ws : Parts) (os : NamedParts) (fs : List Form) (ms : List (List ℕ × Form)) → read_all ws ≡ Ok fs → read_named os ≡ Ok ms → Bare (is_bare ws os) (spelled_all (forms_of fs)) (spelled_named (named_of ms))
bare_read w.no_parts w.no_named fs ms h k = (ap (λ gs. spelled_all (forms_of gs)) (sym (inside [] fs h)), ap (λ ns. spelled_named (named_of ns)) (sym (inside [] ms k)))
bare_read w.no_parts (w.named l v vs) fs ms h k = tt
bare_read (w.part v vs) os fs ms h k = tt

ids_flat : (ids : List ℕ) → json.items_depth (spelled_ids ids) ≤ 0
ids_flat [] = omega arith
ids_flat (k ∷ ks) = let more = ids_flat ks in omega (arith, more)

ids_levels : (n : ℕ) (ids : List ℕ) → json.depth (call n (spelled_ids ids) json.no_members) ≤ ids_deep ids
ids_levels n [] = omega arith
ids_levels n (k ∷ ks) = let flat = ids_flat (k ∷ ks) in two_levels n (spelled_ids (k ∷ ks)) json.no_members 0 flat (omega arith)

-- a binary and a time are read from an object alone
abbrev IsTyped : Plain → Type 0
IsTyped low = ⊥
IsTyped (plain.array vs) = ⊥
IsTyped (boolean b) = ⊥
IsTyped null = ⊥
IsTyped (number z) = ⊥
IsTyped (object ms) = ⊥
IsTyped (binary s) = Unit {0}
IsTyped (time t) = Unit {0}
IsTyped (text s) = ⊥
IsTyped high = ⊥

abbrev stands_for : Plain → Result Plain JsonFault
stands_for x = Ok x

same_plain : (x y : Plain) → stands_for x ≡ stands_for y → x ≡ y
same_plain x y h = cc

no_number : (r : Result ℤ JsonFault) (p : Plain) → IsTyped p → (r >>= λ z. Ok (number z)) ≡ Ok p → ⊥
no_number (Ok z) p typed h = subst IsTyped (sym (same_plain (number z) p h)) typed
no_number (Err e) p typed h = cc

no_array : (r : Result (List Plain) JsonFault) (p : Plain) → IsTyped p → (r >>= λ vs. Ok (plain.array (items_of vs))) ≡ Ok p → ⊥
no_array (Ok vs) p typed h = subst IsTyped (sym (same_plain (plain.array (items_of vs)) p h)) typed
no_array (Err e) p typed h = cc

typed_deep : (d : json.Data) (p : Plain) → IsTyped p → document d ≡ Ok p → 1 ≤ json.depth d
typed_deep json.null p typed h = absurd (subst IsTyped (sym (same_plain null p h)) typed)
typed_deep (json.boolean b) p typed h = absurd (subst IsTyped (sym (same_plain (boolean b) p h)) typed)
typed_deep (json.number n) p typed h = absurd (no_number (whole (as_integer n)) p typed h)
typed_deep (json.string s) p typed h = absurd (subst IsTyped (sym (same_plain (text s) p h)) typed)
typed_deep (json.array ds) p typed h = absurd (no_array (documents ds) p typed h)
typed_deep (json.object ms) p typed h = omega arith

literal_within : (d : json.Data) (p : Plain) → document d ≡ Ok p → json.depth (spelled_literal p) ≤ json.depth d
literal_within d low h = omega arith
literal_within d (plain.array vs) h = omega arith
literal_within d (boolean b) h = omega arith
literal_within d null h = omega arith
literal_within d (number z) h = omega arith
literal_within d (object ms) h = omega arith
literal_within d (binary s) h = let one_level = typed_deep d (binary s) tt h in omega (arith, one_level)
literal_within d (time t) h = let one_level = typed_deep d (time t) tt h in omega (arith, one_level)
literal_within d (text s) h = omega arith
literal_within d high h = omega arith

abbrev Printed : ℕ → Form → Type 0
Printed m f = json.depth (spelled f) ≤ m

value_within : (d : json.Data) (r : Result Plain JsonFault) (f : Form) → document d ≡ r → literal_of r ≡ Ok f → Printed (json.depth d) f
value_within d (Ok p) f is h = subst (Printed (json.depth d)) (inside (literal p) f h) (literal_within d p is)
value_within d (Err e) f is h = cc

mutual
  pub read_within : (v : Written) (f : Form) → read v ≡ Ok f → Printed (deep v) f
  read_within (w.value d) f h = value_within d (document d) f refl h
  read_within (w.array ws names) f h =
      let a = bound (all_taken op.MakeArray names) _ f h in
      let b = bound (read_all ws) _ f a.2 in
      let all = all_printed ws b.0 b.1 in
      subst (Printed (deep (w.array ws names))) (inside (several (forms_of b.0)) f b.2)
      (call_within (is_bare ws w.no_named) (number_of op.MakeArray) (spelled_all (forms_of b.0)) json.no_members (parts_deep ws) (bare_read ws w.no_named b.0 [] b.1 refl) all (omega arith))
  read_within (w.object ws) f h =
      let a = bound (read_named ws) _ f h in
      let given = named_printed ws a.0 a.1 in
      subst (Printed (deep (w.object ws))) (inside (keyed (named_of a.0)) f a.2) (omega (arith, given))
  read_within (w.variable id names) f h =
      let a = bound (all_taken op.Var names) _ f h in
      subst (Printed 2) (inside (variable id) f a.2) (two_levels (number_of op.Var) (one (spelled_number id)) json.no_members 0 (omega arith) (omega arith))
  read_within (w.row names) f h = let a = bound (all_taken op.ImplicitVar names) _ f h in subst (Printed 1) (inside implicit f a.2) (omega arith)
  read_within (w.function ids id_names body names) f h =
      let a = bound (all_taken op.Func names) _ f h in
      let b = bound (all_taken op.MakeArray id_names) _ f a.2 in
      let c = bound (read body) _ f b.2 in
      let inner = read_within body c.0 c.1 in
      let params = ids_levels (number_of op.MakeArray) ids in
      subst (Printed (deep (w.function ids id_names body names))) (inside (function ids c.0) f c.2)
      (two_levels (number_of op.Func) (json.item (call (number_of op.MakeArray) (spelled_ids ids) json.no_members) (one (spelled c.0))) json.no_members (max (ids_deep ids) (deep body)) (omega (arith, inner, params)) (omega arith))
  read_within (w.call n args opts) f h =
      let a = bound (checked n (count_of args) (names_of opts)) _ f h in
      let b = bound (read_all args) _ f a.2 in
      let c = bound (read_named opts) _ f b.2 in
      let all = all_printed args b.0 b.1 in
      let given = named_printed opts c.0 c.1 in
      subst (Printed (deep (w.call n args opts))) (inside (operation a.0 (forms_of b.0) (named_of c.0)) f c.2)
      (call_within (is_bare args opts) (number_of a.0) (spelled_all (forms_of b.0)) (spelled_named (named_of c.0)) (max (parts_deep args) (named_deep opts)) (bare_read args opts b.0 c.0 b.1 c.1) (omega (arith, all)) (omega (arith, given)))

  all_printed : (ws : Parts) (fs : List Form) → read_all ws ≡ Ok fs → json.items_depth (spelled_all (forms_of fs)) ≤ parts_deep ws
  all_printed w.no_parts fs h = subst (λ gs. json.items_depth (spelled_all (forms_of gs)) ≤ 0) (inside [] fs h) (omega arith)
  all_printed (w.part v vs) fs h =
      let a = bound (read v) _ fs h in
      let b = bound (read_all vs) _ fs a.2 in
      let first = read_within v a.0 a.1 in
      let more = all_printed vs b.0 b.1 in
      subst (λ gs. json.items_depth (spelled_all (forms_of gs)) ≤ max (deep v) (parts_deep vs)) (inside (a.0 ∷ b.0) fs b.2) (omega (arith, first, more))

  named_printed : (ws : NamedParts) (ms : List (List ℕ × Form)) → read_named ws ≡ Ok ms → json.members_depth (spelled_named (named_of ms)) ≤ named_deep ws
  named_printed w.no_named ms h = subst (λ ns. json.members_depth (spelled_named (named_of ns)) ≤ 0) (inside [] ms h) (omega arith)
  named_printed (w.named k v vs) ms h =
      let a = bound (read v) _ ms h in
      let b = bound (read_named vs) _ ms a.2 in
      let first = read_within v a.0 a.1 in
      let more = named_printed vs b.0 b.1 in
      subst (λ ns. json.members_depth (spelled_named (named_of ns)) ≤ max (deep v) (named_deep vs)) (inside ((k, a.0) ∷ b.0) ms b.2) (omega (arith, first, more))

pub no_deeper : (d : json.Data) (v : Written) (f : Form) → shaped d ≡ Ok v → read v ≡ Ok f → json.depth (spelled f) ≤ json.depth d
no_deeper d v f is h = let shape = shape_within d v is in let printed = read_within v f h in omega (arith, shape, printed)
