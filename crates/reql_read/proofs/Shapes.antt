-- The shape of a term by its parts, as the walk takes it apart.
use Rattle.std.proofs.Common.{◌≡◌, ℕ, suc, List, [], ◌∷◌, ◌++◌, Bool, true, false, if◌then◌else◌, Option, Some, None, option_and_then, Result, Ok, Err, length, get_or, drop, ◌<◌, ◌+◌, add-one, drop-cons, refl, sym, ap, subst, ◌∙◌}
use Rattle.serde_json.specs.Data.{Data, null, boolean, number, string, Items, no_items, item, Members, no_members, member}
use Rattle.serde_json.specs.Data as json
use Rattle.serde_json.specs.Find.{as_number, as_u64}
use Rattle.serde_json.specs.View.{view, items_view}
use Rattle.serde_json.specs.declared.value.Value.{Value}
use Rattle.reql_datum.specs.Answer.{◌>>=◌}
use Rattle.reql_read.specs.Apart.{ended, options_in, parts_after, parts_in, written, items_count, names_in, ids_among, ids_by, ids_in, done, one_fits, two_fit, formed}
use Rattle.reql_read.specs.Shape.{or_shape, number_in, kind_of, object_of, id_of, is_new, ids_from, ids_of, term_of, shaped, shaped_term, shaped_all, shaped_named}
use Rattle.reql_read.specs.Written.{Written, value, array, object, row, call, Parts, no_parts, part, NamedParts, no_named, named, count_of, names_of}
use Rattle.reql_read.specs.declared.fault.ReadFault.{ReadFault}
use Rattle.reql_read.specs.declared.fault.ReadFault.TheVariants.{BadShape}
use Rattle.reql_read.specs.declared.shape.Kind.{Kind}
use Rattle.reql_read.specs.declared.shape.Kind.TheVariants as kind
use Rattle.reql_read.proofs.Understood.{inside, bound, then_done, then_failed, is_done, not_done}

-- ---- a term is its parts

abbrev pub by_parts : ℕ × (Items × Members) → Result Written ReadFault
by_parts p = written p.0 p.1.0 p.1.1

joined : (a : Result ℕ ReadFault) (f : ℕ → Result (ℕ × (Items × Members)) ReadFault) (g : ℕ → Result Written ReadFault) → ((n : ℕ) → g n ≡ (f n >>= by_parts)) → (a >>= g) ≡ ((a >>= f) >>= by_parts)
joined (Ok n) f g same = same n
joined (Err e) f g same = refl

refused : (o : Option ℕ) (f : ℕ → Result (ℕ × (Items × Members)) ReadFault) → ((n : ℕ) → f n ≡ Err BadShape) → Err BadShape ≡ ((or_shape o >>= f) >>= by_parts)
refused (Some n) f bad = rw (bad n) refl
refused None f bad = refl

pub ended_bad : {A : Type 0} (ds : Items) → ended {A = A} ds (Err BadShape) ≡ Err BadShape
ended_bad no_items = refl
ended_bad (item d ds) = refl

bad_options : (n : ℕ) (args ds : Items) → options_in ds ≡ Err BadShape → parts_after n (item (json.array args) ds) ≡ Err BadShape
bad_options n args ds bad = rw bad refl

pub by_its_parts : (ds : Items) → shaped_term ds ≡ (parts_in ds >>= by_parts)
by_its_parts no_items = refl
by_its_parts (item n no_items) = joined (number_in n) (λ k. parts_after k no_items) _ (λ k. refl)
by_its_parts (item n (item null ds)) = refused (option_and_then as_u64 (as_number n)) _ (λ k. refl)
by_its_parts (item n (item (boolean b) ds)) = refused (option_and_then as_u64 (as_number n)) _ (λ k. refl)
by_its_parts (item n (item (number m) ds)) = refused (option_and_then as_u64 (as_number n)) _ (λ k. refl)
by_its_parts (item n (item (string s) ds)) = refused (option_and_then as_u64 (as_number n)) _ (λ k. refl)
by_its_parts (item n (item (json.object ms) ds)) = refused (option_and_then as_u64 (as_number n)) _ (λ k. refl)
by_its_parts (item n (item (json.array args) no_items)) = joined (number_in n) (λ k. parts_after k (item (json.array args) no_items)) _ (λ k. refl)
by_its_parts (item n (item (json.array args) (item null ds))) = refused (option_and_then as_u64 (as_number n)) _ (λ k. bad_options k args (item null ds) (ended_bad ds))
by_its_parts (item n (item (json.array args) (item (boolean b) ds))) = refused (option_and_then as_u64 (as_number n)) _ (λ k. bad_options k args (item (boolean b) ds) (ended_bad ds))
by_its_parts (item n (item (json.array args) (item (number m) ds))) = refused (option_and_then as_u64 (as_number n)) _ (λ k. bad_options k args (item (number m) ds) (ended_bad ds))
by_its_parts (item n (item (json.array args) (item (string s) ds))) = refused (option_and_then as_u64 (as_number n)) _ (λ k. bad_options k args (item (string s) ds) (ended_bad ds))
by_its_parts (item n (item (json.array args) (item (json.array es) ds))) = refused (option_and_then as_u64 (as_number n)) _ (λ k. bad_options k args (item (json.array es) ds) (ended_bad ds))
by_its_parts (item n (item (json.array args) (item (json.object ms) no_items))) = joined (number_in n) (λ k. parts_after k (item (json.array args) (item (json.object ms) no_items))) _ (λ k. refl)
by_its_parts (item n (item (json.array args) (item (json.object ms) (item d ds)))) = refused (option_and_then as_u64 (as_number n)) _ (λ k. refl)

pub whole_parts : (ds : Items) (p : ℕ × (Items × Members)) (w : Written) → parts_in ds ≡ Ok p → shaped_term ds ≡ Ok w → written p.0 p.1.0 p.1.1 ≡ Ok w
whole_parts ds p w is h = let e : (parts_in ds >>= by_parts) ≡ Ok w = sym (by_its_parts ds) ∙ h in sym (then_done (parts_in ds) p by_parts is) ∙ e

pub no_whole : (ds : Items) (e : ReadFault) → parts_in ds ≡ Err e → shaped_term ds ≡ Err e
no_whole ds e is = by_its_parts ds ∙ then_failed (parts_in ds) e by_parts is

-- what is written is a term of a kind, with its arguments
pub taken : (n : ℕ) (ds : Items) (ms : Members) (w : Written) → written n ds ms ≡ Ok w
    → (args : Parts) × (opts : NamedParts) × (shaped_all ds ≡ Ok args) × (shaped_named ms ≡ Ok opts) × (term_of (kind_of n) n args ms opts ≡ Ok w)
taken n ds ms w h = let a = bound (shaped_all ds) _ w h in let b = bound (shaped_named ms) _ w a.2 in (a.0, b.0, a.1, b.1, b.2)

-- ---- one more of a list

pub all_step : (d : Data) (ds : Items) (ws : Parts) → shaped_all (item d ds) ≡ Ok ws → (w : Written) × (vs : Parts) × (shaped d ≡ Ok w) × (shaped_all ds ≡ Ok vs) × (ws ≡ part w vs)
all_step d ds ws h =
    let a = bound (shaped d) _ ws h in
    let b = bound (shaped_all ds) _ ws a.2 in
    (a.0, b.0, a.1, b.1, sym (inside (part a.0 b.0) ws b.2))

pub named_step : (k : List ℕ) (d : Data) (ms : Members) (ws : NamedParts) → shaped_named (member k d ms) ≡ Ok ws → (w : Written) × (vs : NamedParts) × (shaped d ≡ Ok w) × (shaped_named ms ≡ Ok vs) × (ws ≡ named k w vs)
named_step k d ms ws h =
    let a = bound (shaped d) _ ws h in
    let b = bound (shaped_named ms) _ ws a.2 in
    (a.0, b.0, a.1, b.1, sym (inside (named k a.0 b.0) ws b.2))

pub none_all : (ws : Parts) → shaped_all no_items ≡ Ok ws → ws ≡ no_parts
none_all ws h = sym (inside no_parts ws h)

pub names_same : (ms : Members) (ws : NamedParts) → shaped_named ms ≡ Ok ws → names_of ws ≡ names_in ms
names_same no_members ws h = ap names_of (sym (inside no_named ws h))
names_same (member k d ms) ws h = let a = named_step k d ms ws h in ap names_of a.4 ∙ ap (λ ks. k ∷ ks) (names_same ms a.1 a.3)

pub counts_same : (ds : Items) (ws : Parts) → shaped_all ds ≡ Ok ws → count_of ws ≡ items_count ds
counts_same no_items ws h = ap count_of (none_all ws h)
counts_same (item d ds) ws h = let a = all_step d ds ws h in ap count_of a.4 ∙ ap suc (counts_same ds a.1 a.3)

-- ---- ids

-- what is written as an array or an object is no id, and only an array has ids
object_no_id : (ms : Members) (ws : NamedParts) (b : Bool) → (id_of (if b then value (json.object ms) else object ws) ≡ Err BadShape) × (ids_of (if b then value (json.object ms) else object ws) ≡ Err BadShape)
object_no_id ms ws true = (refl, refl)
object_no_id ms ws false = (refl, refl)

abbrev NoId : Written → Type 0
NoId w = id_of w ≡ Err BadShape

abbrev NoIds : Written → Type 0
NoIds w = ids_of w ≡ Err BadShape

no_id : (k : Kind) (n : ℕ) (ws : Parts) (ms : Members) (os : NamedParts) (w : Written) → term_of k n ws ms os ≡ Ok w → NoId w
no_id kind.Array n ws ms os w h = subst NoId (inside (array ws (names_of os)) w h) refl
no_id kind.Object n no_parts ms os w h = subst NoId (inside (object_of ms os) w h) (object_no_id ms os _).0
no_id kind.Object n (part v vs) ms os w h = subst NoId (inside (call n (part v vs) os) w h) refl
no_id kind.Variable n no_parts ms os w h = subst NoId (inside (call n no_parts os) w h) refl
no_id kind.Variable n (part v no_parts) ms os w h = let a = bound (id_of v) _ w h in subst NoId (inside _ w a.2) refl
no_id kind.Variable n (part v (part u us)) ms os w h = subst NoId (inside (call n (part v (part u us)) os) w h) refl
no_id kind.Row n no_parts ms os w h = subst NoId (inside (row (names_of os)) w h) refl
no_id kind.Row n (part v vs) ms os w h = subst NoId (inside (call n (part v vs) os) w h) refl
no_id kind.Function n no_parts ms os w h = subst NoId (inside (call n no_parts os) w h) refl
no_id kind.Function n (part v no_parts) ms os w h = subst NoId (inside (call n (part v no_parts) os) w h) refl
no_id kind.Function n (part v (part u no_parts)) ms os w h = let a = bound (ids_of v) _ w h in subst NoId (inside _ w a.2) refl
no_id kind.Function n (part v (part u (part t ts))) ms os w h = subst NoId (inside (call n (part v (part u (part t ts))) os) w h) refl
no_id kind.Call n ws ms os w h = subst NoId (inside (call n ws os) w h) refl

pub id_same : (d : Data) (w : Written) → shaped d ≡ Ok w → id_of w ≡ number_in d
id_same null w h = ap id_of (sym (inside (value null) w h))
id_same (boolean b) w h = ap id_of (sym (inside (value (boolean b)) w h))
id_same (number n) w h = ap id_of (sym (inside (value (number n)) w h))
id_same (string s) w h = ap id_of (sym (inside (value (string s)) w h))
id_same (json.array ds) w h =
    let a = bound (parts_in ds) by_parts w (sym (by_its_parts ds) ∙ h) in
    let b = taken a.0.0 a.0.1.0 a.0.1.1 w a.2 in
    no_id (kind_of a.0.0) a.0.0 b.0 a.0.1.1 b.1 w b.4
id_same (json.object ms) w h = let a = bound (shaped_named ms) _ w h in subst NoId (inside (object_of ms a.0) w a.2) (object_no_id ms a.0 _).0

-- an id is checked and then those after it
more : (before : List ℕ) (ds : Items) (ws : Parts) (r : Result ℕ ReadFault) → ((bs : List ℕ) → ids_from bs ws ≡ ids_among bs ds)
    → (r >>= λ id. if is_new id before then ids_from (before ++ id ∷ []) ws else Err BadShape) ≡ (r >>= λ id. if is_new id before then ids_among (before ++ id ∷ []) ds else Err BadShape)
more before ds ws (Ok id) same = rw (same (before ++ id ∷ [])) refl
more before ds ws (Err e) same = refl

ids_from_same : (before : List ℕ) (ds : Items) (ws : Parts) → shaped_all ds ≡ Ok ws → ids_from before ws ≡ ids_among before ds
ids_from_same before no_items ws h = ap (ids_from before) (none_all ws h)
ids_from_same before (item d ds) ws h =
    let a = all_step d ds ws h in
    ap (ids_from before) a.4 ∙ rw (id_same d a.0 a.2) (more before ds a.1 (number_in d) (λ bs. ids_from_same bs ds a.1 a.3))

ids_by_same : (k : Kind) (n : ℕ) (ds : Items) (ms : Members) (ws : Parts) (os : NamedParts) (w : Written) → shaped_all ds ≡ Ok ws → shaped_named ms ≡ Ok os → term_of k n ws ms os ≡ Ok w → ids_of w ≡ ids_by k ds ms
ids_by_same kind.Array n ds ms ws os w all opts h = ap ids_of (sym (inside (array ws (names_of os)) w h)) ∙ rw (ids_from_same [] ds ws all, names_same ms os opts) refl
ids_by_same kind.Object n ds ms no_parts os w all opts h = subst NoIds (inside (object_of ms os) w h) (object_no_id ms os _).1
ids_by_same kind.Object n ds ms (part v vs) os w all opts h = subst NoIds (inside (call n (part v vs) os) w h) refl
ids_by_same kind.Variable n ds ms no_parts os w all opts h = subst NoIds (inside (call n no_parts os) w h) refl
ids_by_same kind.Variable n ds ms (part v no_parts) os w all opts h = let a = bound (id_of v) _ w h in subst NoIds (inside _ w a.2) refl
ids_by_same kind.Variable n ds ms (part v (part u us)) os w all opts h = subst NoIds (inside (call n (part v (part u us)) os) w h) refl
ids_by_same kind.Row n ds ms no_parts os w all opts h = subst NoIds (inside (row (names_of os)) w h) refl
ids_by_same kind.Row n ds ms (part v vs) os w all opts h = subst NoIds (inside (call n (part v vs) os) w h) refl
ids_by_same kind.Function n ds ms no_parts os w all opts h = subst NoIds (inside (call n no_parts os) w h) refl
ids_by_same kind.Function n ds ms (part v no_parts) os w all opts h = subst NoIds (inside (call n (part v no_parts) os) w h) refl
ids_by_same kind.Function n ds ms (part v (part u no_parts)) os w all opts h = let a = bound (ids_of v) _ w h in subst NoIds (inside _ w a.2) refl
ids_by_same kind.Function n ds ms (part v (part u (part t ts))) os w all opts h = subst NoIds (inside (call n (part v (part u (part t ts))) os) w h) refl
ids_by_same kind.Call n ds ms ws os w all opts h = subst NoIds (inside (call n ws os) w h) refl

pub ids_same : (d : Data) (w : Written) → shaped d ≡ Ok w → ids_of w ≡ ids_in d
ids_same null w h = ap ids_of (sym (inside (value null) w h))
ids_same (boolean b) w h = ap ids_of (sym (inside (value (boolean b)) w h))
ids_same (number n) w h = ap ids_of (sym (inside (value (number n)) w h))
ids_same (string s) w h = ap ids_of (sym (inside (value (string s)) w h))
ids_same (json.array ds) w h =
    let a = bound (parts_in ds) by_parts w (sym (by_its_parts ds) ∙ h) in
    let b = taken a.0.0 a.0.1.0 a.0.1.1 w a.2 in
    ids_by_same (kind_of a.0.0) a.0.0 a.0.1.0 a.0.1.1 b.0 b.1 w b.2 b.3 b.4 ∙ sym (then_done (parts_in ds) a.0 _ a.1)
ids_same (json.object ms) w h = let a = bound (shaped_named ms) _ w h in subst NoIds (inside (object_of ms a.0) w a.2) (object_no_id ms a.0 _).1

-- ---- whether the arguments are such as the form wants

done_bound : {A B : Type 0} (a : Result A ReadFault) (f : A → B) → done (a >>= λ x. Ok (f x)) ≡ done a
done_bound (Ok x) f = refl
done_bound (Err e) f = refl

one_same : (n : ℕ) (ds : Items) (ms : Members) (ws : Parts) (os : NamedParts) → shaped_all ds ≡ Ok ws → done (term_of kind.Variable n ws ms os) ≡ one_fits ds
one_same n no_items ms ws os h = ap (λ vs. done (term_of kind.Variable n vs ms os)) (none_all ws h)
one_same n (item d no_items) ms ws os h =
    let a = all_step d no_items ws h in
    ap (λ vs. done (term_of kind.Variable n vs ms os)) (a.4 ∙ ap (part a.0) (none_all a.1 a.3)) ∙ done_bound (id_of a.0) _ ∙ ap done (id_same d a.0 a.2)
one_same n (item d (item e ds)) ms ws os h =
    let a = all_step d (item e ds) ws h in
    let b = all_step e ds a.1 a.3 in
    ap (λ vs. done (term_of kind.Variable n vs ms os)) (a.4 ∙ ap (part a.0) b.4)

two_same : (n : ℕ) (ds : Items) (ms : Members) (ws : Parts) (os : NamedParts) → shaped_all ds ≡ Ok ws → done (term_of kind.Function n ws ms os) ≡ two_fit ds
two_same n no_items ms ws os h = ap (λ vs. done (term_of kind.Function n vs ms os)) (none_all ws h)
two_same n (item d no_items) ms ws os h =
    let a = all_step d no_items ws h in
    ap (λ vs. done (term_of kind.Function n vs ms os)) (a.4 ∙ ap (part a.0) (none_all a.1 a.3))
two_same n (item d (item e no_items)) ms ws os h =
    let a = all_step d (item e no_items) ws h in
    let b = all_step e no_items a.1 a.3 in
    ap (λ vs. done (term_of kind.Function n vs ms os)) (a.4 ∙ ap (part a.0) (b.4 ∙ ap (part b.0) (none_all b.1 b.3))) ∙ done_bound (ids_of a.0) _ ∙ ap done (ids_same d a.0 a.2)
two_same n (item d (item e (item f ds))) ms ws os h =
    let a = all_step d (item e (item f ds)) ws h in
    let b = all_step e (item f ds) a.1 a.3 in
    let g = all_step f ds b.1 b.3 in
    ap (λ vs. done (term_of kind.Function n vs ms os)) (a.4 ∙ ap (part a.0) (b.4 ∙ ap (part b.0) g.4))

pub form_same : (k : Kind) (n : ℕ) (ds : Items) (ms : Members) (ws : Parts) (os : NamedParts) → shaped_all ds ≡ Ok ws → done (term_of k n ws ms os) ≡ formed k ds
form_same kind.Array n ds ms ws os h = refl
form_same kind.Object n ds ms no_parts os h = refl
form_same kind.Object n ds ms (part v vs) os h = refl
form_same kind.Variable n ds ms ws os h = one_same n ds ms ws os h
form_same kind.Row n ds ms no_parts os h = refl
form_same kind.Row n ds ms (part v vs) os h = refl
form_same kind.Function n ds ms ws os h = two_same n ds ms ws os h
form_same kind.Call n ds ms ws os h = refl

-- ---- the walk that tests

pub term_done : (ds : Items) (p : ℕ × (Items × Members)) (ws : Parts) (os : NamedParts) → parts_in ds ≡ Ok p → shaped_all p.1.0 ≡ Ok ws → shaped_named p.1.1 ≡ Ok os → done (shaped_term ds) ≡ formed (kind_of p.0) p.1.0
term_done ds p ws os is all opts =
    ap done (by_its_parts ds ∙ then_done (parts_in ds) p by_parts is ∙ then_done (shaped_all p.1.0) ws _ all ∙ then_done (shaped_named p.1.1) os _ opts) ∙ form_same (kind_of p.0) p.0 p.1.0 p.1.1 ws os all

pub args_fail : (ds : Items) (p : ℕ × (Items × Members)) (e : ReadFault) → parts_in ds ≡ Ok p → shaped_all p.1.0 ≡ Err e → shaped_term ds ≡ Err e
args_fail ds p e is all = by_its_parts ds ∙ then_done (parts_in ds) p by_parts is ∙ then_failed (shaped_all p.1.0) e _ all

pub options_fail : (ds : Items) (p : ℕ × (Items × Members)) (ws : Parts) (e : ReadFault) → parts_in ds ≡ Ok p → shaped_all p.1.0 ≡ Ok ws → shaped_named p.1.1 ≡ Err e → shaped_term ds ≡ Err e
options_fail ds p ws e is all opts = by_its_parts ds ∙ then_done (parts_in ds) p by_parts is ∙ then_done (shaped_all p.1.0) ws _ all ∙ then_failed (shaped_named p.1.1) e _ opts

pub item_done : (d : Data) (ds : Items) → done (shaped d) ≡ Ok tt → done (shaped_all (item d ds)) ≡ done (shaped_all ds)
item_done d ds h = let w = is_done (shaped d) h in ap done (then_done (shaped d) w.0 _ w.1) ∙ done_bound (shaped_all ds) _

pub item_fails : (d : Data) (ds : Items) (e : ReadFault) → done (shaped d) ≡ Err e → done (shaped_all (item d ds)) ≡ Err e
item_fails d ds e h = ap done (then_failed (shaped d) e _ (not_done (shaped d) e h))

pub member_done : (k : List ℕ) (d : Data) (ms : Members) → done (shaped d) ≡ Ok tt → done (shaped_named (member k d ms)) ≡ done (shaped_named ms)
member_done k d ms h = let w = is_done (shaped d) h in ap done (then_done (shaped d) w.0 _ w.1) ∙ done_bound (shaped_named ms) _

pub member_fails : (k : List ℕ) (d : Data) (ms : Members) (e : ReadFault) → done (shaped d) ≡ Err e → done (shaped_named (member k d ms)) ≡ Err e
member_fails k d ms e h = ap done (then_failed (shaped d) e _ (not_done (shaped d) e h))

pub object_done : (ms : Members) → done (shaped (json.object ms)) ≡ done (shaped_named ms)
object_done ms = done_bound (shaped_named ms) _

pub split_at : (vs : List Value) (i : ℕ) (v : Value) → i < length vs → v ≡ get_or vs i v → items_view (drop i vs) ≡ item (view v) (items_view (drop (i + 1) vs))
split_at vs i v below here = rw add-one (ap items_view (drop-cons vs i v below ∙ ap (λ x. x ∷ drop (suc i) vs) (sym here)))
