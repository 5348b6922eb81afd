-- What is read straight from tokens, a step at a time.
use Rattle.std.proofs.Common.{◌≡◌, ℕ, ◌-◌, ◌<◌, ◌≤◌, ℤ, List, [], ◌∷◌, ◌++◌, map, length, Bool, true, false, if◌then◌else◌, is_some, Option, Some, None, IfSome, Result, Ok, Err, suc, refl, sym, ap, ap₂, subst, ◌∙◌, arith}
use Rattle.std.proofs.Common.{Ordering, Less, Equal, Greater}
use Rattle.std.specs.Prelude.{MatchResult}
use Rattle.std.specs.Result.{result_ok}
use Rattle.std.specs.Ordering.{nat_cmp}
use Rattle.std.specs.Cmp.Lexicographic.{slice_cmp}
use Rattle.json.specs.Token.{Token}
use Rattle.json.specs.Json.{value}
use Rattle.json.specs.Json as json
use Rattle.serde_json.specs.Data.{Data, unsigned, null, boolean, number, string, array, object, Items, no_items, item, Members, no_members, member, put}
use Rattle.serde_json.specs.Find.{get_member}
use Rattle.serde_json.specs.Read.{of_items}
use Rattle.reql_datum.specs.Answer.{◌>>=◌}
use Rattle.reql_datum.specs.Members as fields
use Rattle.reql_datum.specs.Plain as plain
use Rattle.reql_datum.specs.Whole.{is_in}
use Rattle.reql_json.specs.Reading.{reserved}
use Rattle.reql_term.specs.Form.{Form, literal, several, keyed, variable, implicit, function, operation, forms_of, named_of}
use Rattle.reql_term.specs.View.{form_of}
use Rattle.reql_term.specs.declared.op.Op.{Op}
use Rattle.reql_term.specs.declared.term.Term.{Term}
use Rattle.reql_read.specs.Apart.{options_in}
use Rattle.reql_read.specs.Quick.{IsWhole, ReadsNumber, ReadsForm, ReadsForms, ReadsArgs, AreNamed, ReadsNamed, ReadsOptions, ReadsNumbered, ReadsIds, ReadsParams}
use Rattle.reql_read.specs.Reading.{read, read_all, read_named, checked}
use Rattle.reql_read.specs.Shape.{kind_of, is_new, term_of, shaped, shaped_term, shaped_all, shaped_named}
use Rattle.reql_read.specs.Written.{Written, Parts, no_parts, part, NamedParts, no_named, named, count_of, names_of}
use Rattle.reql_read.specs.Written as written
use Rattle.reql_read.specs.declared.shape.Kind.TheVariants as kind
use Rattle.reql_read.proofs.Shapes.{by_parts, by_its_parts}
use Rattle.reql_read.proofs.Tokens.{items_over, item_first, members_over, member_first, string_first, number_first, boolean_first, null_first, array_first, object_first}
use Rattle.reql_read.proofs.Understood.{inside, bound, then_done}

pub if_some : {A : Type 0} (P Q : A → Type 0) (o : Option A) → ((x : A) → P x → Q x) → IfSome o P → IfSome o Q
if_some P Q None f h = tt
if_some P Q (Some x) f h = f x h

some_is : {A : Type 0} (x y : A) → Some x ≡ Some y → x ≡ y
some_is x y e = cc

pub was_ok : {A E : Type 0} (P : A → Type 0) (Q : E → Type 0) (o : Result A E) (x : A) → MatchResult o P Q → result_ok o ≡ Some x → P x
was_ok P Q (Ok y) x h e = subst P (some_is y x e) h
was_ok P Q (Err y) x h e = cc

-- ---- literals

pub literal_read : (first : Token) (o : Option Term) (depth : ℕ) (old new : List Token) → old ≡ first ∷ new → IfSome o (λ t. (depth : ℕ) (r : List Token) → ReadsForm depth (first ∷ r) (form_of t) r) → IfSome o (λ t. ReadsForm depth old (form_of t) new)
literal_read first None depth old new is h = tt
literal_read first (Some t) depth old new is h = subst (λ ts. ReadsForm depth ts (form_of t) new) (sym is) (h depth new)

pub string_form : (depth : ℕ) (s : List ℕ) (r : List Token) → ReadsForm depth (Token.string s ∷ r) (literal (plain.text s)) r
string_form depth s r = record { j = json.string s; d = string s; w = written.value (string s); tokens = string_first depth s r; seen = refl; shape = refl; meant = refl }

pub boolean_form : (depth : ℕ) (b : Bool) (r : List Token) → ReadsForm depth (Token.boolean b ∷ r) (literal (plain.boolean b)) r
boolean_form depth b r = record { j = json.boolean b; d = boolean b; w = written.value (boolean b); tokens = boolean_first depth b r; seen = refl; shape = refl; meant = refl }

pub null_form : (depth : ℕ) (r : List Token) → ReadsForm depth (Token.null ∷ r) (literal plain.null) r
null_form depth r = record { j = json.null; d = null; w = written.value null; tokens = null_first depth r; seen = refl; shape = refl; meant = refl }

pub number_form : (depth : ℕ) (s : List ℕ) (z : ℤ) (r : List Token) → IsWhole s z → is_in z ≡ true → ReadsForm depth (Token.number s ∷ r) (literal (plain.number z)) r
number_form depth s z r h in_range = record {
  j = json.number s;
  d = number h.n;
  w = written.value (number h.n);
  tokens = number_first depth s r;
  seen = rw h.is refl;
  shape = refl;
  meant = rw (h.whole, in_range) refl;
}

pub in_range : (b : Bool) (z n : ℤ) → (if b then Some z else None) ≡ Some n → (b ≡ true) × (z ≡ n)
in_range true z n e = (refl, cc)
in_range false z n e = cc

-- ---- members

pub none_named : AreNamed no_members []
none_named = record { ws = no_named; shape = refl; meant = refl }

abbrev First : Data → Form → Type 0
First d f = record { w : Written; shape : shaped d ≡ Ok w; meant : read w ≡ Ok f }

with_first : (k : List ℕ) (d : Data) (f : Form) (ds : Members) (ms : List (List ℕ × Form)) → First d f → AreNamed ds ms → AreNamed (member k d ds) ((k, f) ∷ ms)
with_first k d f ds ms first h = record { ws = named k first.w h.ws; shape = rw (first.shape, h.shape) refl; meant = rw (first.meant, h.meant) refl }

abbrev IsMember : List ℕ → Data → Members → List (List ℕ × Form) → Type 0
IsMember l e ds ms = record { f : Form; rest : List (List ℕ × Form); first : First e f; others : AreNamed ds rest; is : ms ≡ (l, f) ∷ rest }

apart : (l : List ℕ) (e : Data) (ds : Members) (ms : List (List ℕ × Form)) → AreNamed (member l e ds) ms → IsMember l e ds ms
apart l e ds ms h =
    let a = bound (shaped e) _ h.ws h.shape in
    let b = bound (shaped_named ds) _ h.ws a.2 in
    let same : h.ws ≡ named l a.0 b.0 = sym (inside (named l a.0 b.0) h.ws b.2) in
    let m = bound (read a.0) _ ms (ap read_named (sym same) ∙ h.meant) in
    let n = bound (read_named b.0) _ ms m.2 in
    record { f = m.0; rest = n.0; first = record { w = a.0; shape = a.1; meant = m.1 }; others = record { ws = b.0; shape = b.1; meant = n.1 }; is = sym (inside ((l, m.0) ∷ n.0) ms n.2) }

no_more : (ms : List (List ℕ × Form)) → AreNamed no_members ms → ms ≡ []
no_more ms h = let same : h.ws ≡ no_named = sym (inside no_named h.ws h.shape) in sym (inside [] ms (ap read_named (sym same) ∙ h.meant))

put_by : (k l : List ℕ) (d e : Data) (f : Form) (ds : Members) (ms : List (List ℕ × Form)) (o : Ordering) → slice_cmp nat_cmp k l ≡ o → First d f → IsMember l e ds ms
    → ((ns : List (List ℕ × Form)) → AreNamed ds ns → AreNamed (put k d ds) (fields.put k f ns)) → AreNamed (put k d (member l e ds)) (fields.put k f ms)
put_by k l d e f ds ms Less order new old more = rw (old.is, order) (with_first k d f (member l e ds) ((l, old.f) ∷ old.rest) new (with_first l e old.f ds old.rest old.first old.others))
put_by k l d e f ds ms Equal order new old more = rw (old.is, order) (with_first l d f ds old.rest new old.others)
put_by k l d e f ds ms Greater order new old more = rw (old.is, order) (with_first l e old.f (put k d ds) (fields.put k f old.rest) old.first (more old.rest old.others))

put_named : (k : List ℕ) (d : Data) (f : Form) (ds : Members) (ms : List (List ℕ × Form)) → First d f → AreNamed ds ms → AreNamed (put k d ds) (fields.put k f ms)
put_named k d f no_members ms new h = rw (no_more ms h) (with_first k d f no_members [] new none_named)
put_named k d f (member l e ds) ms new h = put_by k l d e f ds ms (slice_cmp nat_cmp k l) refl new (apart l e ds ms h) (λ ns are. put_named k d f ds ns new are)

found_by : (k l : List ℕ) (e : Data) (ds : Members) (ms : List (List ℕ × Form)) (o : Ordering) → slice_cmp nat_cmp k l ≡ o → IsMember l e ds ms
    → ((ns : List (List ℕ × Form)) → AreNamed ds ns → is_some (get_member k ds) ≡ is_some (fields.find k ns)) → is_some (get_member k (member l e ds)) ≡ is_some (fields.find k ms)
found_by k l e ds ms Less order old more = rw (old.is, order) (more old.rest old.others)
found_by k l e ds ms Equal order old more = rw (old.is, order) refl
found_by k l e ds ms Greater order old more = rw (old.is, order) (more old.rest old.others)

found_named : (k : List ℕ) (ds : Members) (ms : List (List ℕ × Form)) → AreNamed ds ms → is_some (get_member k ds) ≡ is_some (fields.find k ms)
found_named k no_members ms h = rw (no_more ms h) refl
found_named k (member l e ds) ms h = found_by k l e ds ms (slice_cmp nat_cmp k l) refl (apart l e ds ms h) (λ ns are. found_named k ds ns are)

pub named_over : (depth : ℕ) (ms : List (List ℕ × Form)) (r : List Token) → ReadsNamed depth (Token.end_object ∷ r) ms ms r
named_over depth ms r = record { js = json.no_members; tokens = members_over depth r; meant = λ ds are. (ds, refl, are) }

pub named_first : (depth : ℕ) (k : List ℕ) (f : Form) (s ts r : List Token) (ms all : List (List ℕ × Form)) → ReadsForm depth s f ts → ReadsNamed depth ts (fields.put k f ms) all r → ReadsNamed depth (Token.key k ∷ s) ms all r
named_first depth k f s ts r ms all one rest = record {
  js = json.member k one.j rest.js;
  tokens = member_first depth k ts r s one.j rest.js one.tokens rest.tokens;
  meant = λ ds are.
      let m = rest.meant (put k one.d ds) (put_named k one.d f ds ms (record { w = one.w; shape = one.shape; meant = one.meant }) are) in
      (m.0, rw one.seen m.1, m.2);
}

none_found : (o : Option Form) → o ≡ None → is_some o ≡ false
none_found o e = ap is_some e

pub object_form : (depth : ℕ) (ts r : List Token) (ms : List (List ℕ × Form)) → 0 < depth → ReadsNamed (depth - 1) ts [] ms r → fields.find reserved ms ≡ None → ReadsForm depth (Token.begin_object ∷ ts) (keyed (named_of ms)) r
object_form depth ts r ms some h none =
    let m = h.meant no_members none_named in
    let plainly : is_some (get_member reserved m.0) ≡ false = found_named reserved m.0 ms m.2 ∙ none_found _ none in
    record {
      j = json.object h.js;
      d = object m.0;
      w = written.object m.2.ws;
      tokens = object_first depth ts r h.js some h.tokens;
      seen = rw m.1 refl;
      shape = rw (m.2.shape, plainly) refl;
      meant = rw m.2.meant refl;
    }

-- ---- lists of terms

pub forms_over : (depth : ℕ) (r : List Token) → ReadsForms depth (Token.end_array ∷ r) [] r
forms_over depth r = record { js = json.no_items; ds = no_items; ws = no_parts; tokens = items_over depth r; seen = refl; shape = refl; meant = refl }

pub forms_first : (depth : ℕ) (f : Form) (fs : List Form) (ts s r : List Token) → ReadsForm depth ts f s → ReadsForms depth s fs r → ReadsForms depth ts (f ∷ fs) r
forms_first depth f fs ts s r one rest = record {
  js = json.item one.j rest.js;
  ds = item one.d rest.ds;
  ws = part one.w rest.ws;
  tokens = item_first depth ts s r one.j rest.js one.tokens rest.tokens;
  seen = rw (one.seen, rest.seen) refl;
  shape = rw (one.shape, rest.shape) refl;
  meant = rw (one.meant, rest.meant) refl;
}

pub args_read : (depth : ℕ) (ts r : List Token) (fs : List Form) → 0 < depth → ReadsForms (depth - 1) ts fs r → ReadsArgs depth (Token.begin_array ∷ ts) fs r
args_read depth ts r fs some h = record { js = h.js; ds = h.ds; ws = h.ws; tokens = array_first depth ts r h.js some h.tokens; seen = h.seen; shape = h.shape; meant = h.meant }

-- ---- terms of a number

pub numbered_form : (depth n : ℕ) (ts s r : List Token) (f : Form) → 0 < depth → ReadsNumber ts n s → ReadsNumbered (depth - 1) n s f r → ReadsForm depth (Token.begin_array ∷ ts) f r
numbered_form depth n ts s r f some first h = record {
  j = json.array (json.item (json.number first.s) h.js);
  d = array (item (number (unsigned n)) h.ds);
  w = h.w;
  tokens = array_first depth ts r (json.item (json.number first.s) h.js) some
      (item_first (depth - 1) ts s r (json.number first.s) h.js (ap (value (depth - 1)) first.first ∙ number_first (depth - 1) first.s s) h.tokens);
  seen = rw (first.is, h.seen) refl;
  shape = h.shape;
  meant = h.meant;
}

shaped_call : (n : ℕ) (args ds : Items) (opts : Members) (ws : Parts) (os : NamedParts) (w : Written) → options_in ds ≡ Ok opts → shaped_all args ≡ Ok ws → shaped_named opts ≡ Ok os → term_of (kind_of n) n ws opts os ≡ Ok w
    → shaped_term (item (number (unsigned n)) (item (array args) ds)) ≡ Ok w
shaped_call n args ds opts ws os w options all same is =
    by_its_parts (item (number (unsigned n)) (item (array args) ds)) ∙ ap (λ o. (o >>= λ x. Ok (n, (args, x))) >>= by_parts) options ∙ then_done (shaped_all args) ws _ all ∙ then_done (shaped_named opts) os _ same ∙ is

-- a term of a number with arguments, whose optional ones are left out
plain_call : (depth n : ℕ) (ts r : List Token) (js : json.Items) (ds : Items) (ws : Parts) (w : Written) (f : Form) → value depth ts ≡ Some (json.array js, Token.end_array ∷ r) → of_items js ≡ Some ds → shaped_all ds ≡ Ok ws
    → term_of (kind_of n) n ws no_members no_named ≡ Ok w → read w ≡ Ok f → ReadsNumbered depth n ts f r
plain_call depth n ts r js ds ws w f tokens seen shape is meant = record {
  js = json.item (json.array js) json.no_items;
  ds = item (array ds) no_items;
  w = w;
  tokens = item_first depth ts (Token.end_array ∷ r) r (json.array js) json.no_items tokens (items_over depth r);
  seen = rw seen refl;
  shape = shaped_call n ds no_items no_members ws no_named w refl shape refl is;
  meant = meant;
}

pub array_numbered : (depth n : ℕ) (ts r : List Token) (fs : List Form) → kind_of n ≡ kind.Array → ReadsArgs depth ts fs (Token.end_array ∷ r) → ReadsNumbered depth n ts (several (forms_of fs)) r
array_numbered depth n ts r fs is h = plain_call depth n ts r h.js h.ds h.ws (written.array h.ws []) (several (forms_of fs)) h.tokens h.seen h.shape (rw is refl) (rw h.meant refl)

pub row_numbered : (depth n : ℕ) (r : List Token) → 0 < depth → kind_of n ≡ kind.Row → ReadsNumbered depth n (Token.begin_array ∷ Token.end_array ∷ Token.end_array ∷ r) implicit r
row_numbered depth n r some is =
    plain_call depth n (Token.begin_array ∷ Token.end_array ∷ Token.end_array ∷ r) r json.no_items no_items no_parts (written.row []) implicit
    (array_first depth (Token.end_array ∷ Token.end_array ∷ r) (Token.end_array ∷ r) json.no_items some (items_over (depth - 1) (Token.end_array ∷ r))) refl refl (rw is refl) refl

pub variable_numbered : (depth n id : ℕ) (ts r : List Token) → 0 < depth → kind_of n ≡ kind.Variable → ReadsNumber ts id (Token.end_array ∷ Token.end_array ∷ r) → ReadsNumbered depth n (Token.begin_array ∷ ts) (variable id) r
variable_numbered depth n id ts r some is h =
    plain_call depth n (Token.begin_array ∷ ts) r (json.item (json.number h.s) json.no_items) (item (number (unsigned id)) no_items) (part (written.value (number (unsigned id))) no_parts) (written.variable id []) (variable id)
    (array_first depth ts (Token.end_array ∷ r) (json.item (json.number h.s) json.no_items) some
    (item_first (depth - 1) ts (Token.end_array ∷ Token.end_array ∷ r) (Token.end_array ∷ r) (json.number h.s) json.no_items
    (ap (value (depth - 1)) h.first ∙ number_first (depth - 1) h.s (Token.end_array ∷ Token.end_array ∷ r)) (items_over (depth - 1) (Token.end_array ∷ r))))
    (rw h.is refl) refl (rw is refl) refl

pub function_numbered : (depth n : ℕ) (ts s r : List Token) (ids : List ℕ) (f : Form) → 0 < depth → kind_of n ≡ kind.Function → ReadsParams (depth - 1) ts ids s → ReadsForm (depth - 1) s f (Token.end_array ∷ Token.end_array ∷ r)
    → ReadsNumbered depth n (Token.begin_array ∷ ts) (function ids f) r
function_numbered depth n ts s r ids f some is params body =
    plain_call depth n (Token.begin_array ∷ ts) r (json.item params.j (json.item body.j json.no_items)) (item params.d (item body.d no_items)) (part params.w (part body.w no_parts)) (written.function ids [] body.w []) (function ids f)
    (array_first depth ts (Token.end_array ∷ r) (json.item params.j (json.item body.j json.no_items)) some
    (item_first (depth - 1) ts s (Token.end_array ∷ r) params.j (json.item body.j json.no_items) params.tokens
    (item_first (depth - 1) s (Token.end_array ∷ Token.end_array ∷ r) (Token.end_array ∷ r) body.j json.no_items body.tokens (items_over (depth - 1) (Token.end_array ∷ r)))))
    (rw (params.seen, body.seen) refl) (rw (params.shape, body.shape) refl) (rw (is, params.meant) refl) (rw body.meant refl)

-- ---- ids

pub ids_over : (depth : ℕ) (ids : List ℕ) (r : List Token) → ReadsIds depth (Token.end_array ∷ r) ids ids r
ids_over depth ids r = record { js = json.no_items; ds = no_items; ws = no_parts; tokens = items_over depth r; seen = refl; shape = refl; meant = refl }

pub ids_first : (depth id : ℕ) (ts s r : List Token) (before all : List ℕ) → ReadsNumber ts id s → is_new id before ≡ true → ReadsIds depth s (before ++ id ∷ []) all r → ReadsIds depth ts before all r
ids_first depth id ts s r before all h new rest = record {
  js = json.item (json.number h.s) rest.js;
  ds = item (number (unsigned id)) rest.ds;
  ws = part (written.value (number (unsigned id))) rest.ws;
  tokens = item_first depth ts s r (json.number h.s) rest.js (ap (value depth) h.first ∙ number_first depth h.s s) rest.tokens;
  seen = rw (h.is, rest.seen) refl;
  shape = rw rest.shape refl;
  meant = rw new rest.meant;
}

pub params_read : (depth n : ℕ) (ts s r : List Token) (ids : List ℕ) → 2 ≤ depth → kind_of n ≡ kind.Array → ReadsNumber ts n (Token.begin_array ∷ s) → ReadsIds (depth - 1 - 1) s [] ids (Token.end_array ∷ r) → ReadsParams depth (Token.begin_array ∷ ts) ids r
params_read depth n ts s r ids some is first h =
    let args = array_first (depth - 1) s (Token.end_array ∷ r) h.js (omega arith) h.tokens in
    record {
      j = json.array (json.item (json.number first.s) (json.item (json.array h.js) json.no_items));
      d = array (item (number (unsigned n)) (item (array h.ds) no_items));
      w = written.array h.ws [];
      tokens = array_first depth ts r _ (omega arith)
          (item_first (depth - 1) ts (Token.begin_array ∷ s) r (json.number first.s) (json.item (json.array h.js) json.no_items) (ap (value (depth - 1)) first.first ∙ number_first (depth - 1) first.s (Token.begin_array ∷ s))
          (item_first (depth - 1) (Token.begin_array ∷ s) (Token.end_array ∷ r) r (json.array h.js) json.no_items args (items_over (depth - 1) r)));
      seen = rw (first.is, h.seen) refl;
      shape = shaped_call n h.ds no_items no_members h.ws no_named (written.array h.ws []) refl h.shape refl (rw is refl);
      meant = rw h.meant refl;
    }

-- ---- optional arguments

pub no_options : (depth : ℕ) (r : List Token) → ReadsOptions depth (Token.end_array ∷ r) [] r
no_options depth r = record { js = json.no_items; ds = no_items; opts = no_members; tokens = items_over depth r; seen = refl; options = refl; meant = none_named }

pub options_read : (depth : ℕ) (ts r : List Token) (ms : List (List ℕ × Form)) → 0 < depth → ReadsNamed (depth - 1) ts [] ms (Token.end_array ∷ r) → ReadsOptions depth (Token.begin_object ∷ ts) ms r
options_read depth ts r ms some h =
    let m = h.meant no_members none_named in
    record {
      js = json.item (json.object h.js) json.no_items;
      ds = item (object m.0) no_items;
      opts = m.0;
      tokens = item_first depth (Token.begin_object ∷ ts) (Token.end_array ∷ r) r (json.object h.js) json.no_items (object_first depth ts (Token.end_array ∷ r) h.js some h.tokens) (items_over depth r);
      seen = rw m.1 refl;
      options = refl;
      meant = m.2;
    }

count_is : (ws : Parts) (fs : List Form) → read_all ws ≡ Ok fs → count_of ws ≡ length fs
count_is no_parts fs h = ap length (inside [] fs h)
count_is (part w ws) fs h =
    let a = bound (read w) _ fs h in
    let b = bound (read_all ws) _ fs a.2 in
    ap suc (count_is ws b.0 b.1) ∙ ap length (inside (a.0 ∷ b.0) fs b.2)

names_are : (ws : NamedParts) (ms : List (List ℕ × Form)) → read_named ws ≡ Ok ms → names_of ws ≡ map (λ m. m.0) ms
names_are no_named ms h = ap (map (λ m. m.0)) (inside [] ms h)
names_are (named k w ws) ms h =
    let a = bound (read w) _ ms h in
    let b = bound (read_named ws) _ ms a.2 in
    ap (λ ks. k ∷ ks) (names_are ws b.0 b.1) ∙ ap (map (λ m. m.0)) (inside ((k, a.0) ∷ b.0) ms b.2)

pub call_numbered : (depth n : ℕ) (ts s r : List Token) (fs : List Form) (ms : List (List ℕ × Form)) (op : Op) → kind_of n ≡ kind.Call → ReadsArgs depth ts fs s → ReadsOptions depth s ms r → checked n (length fs) (map (λ m. m.0) ms) ≡ Ok op
    → ReadsNumbered depth n ts (operation op (forms_of fs) (named_of ms)) r
call_numbered depth n ts s r fs ms op is args opts right =
    let tested : checked n (count_of args.ws) (names_of opts.meant.ws) ≡ Ok op = ap₂ (checked n) (count_is args.ws fs args.meant) (names_are opts.meant.ws ms opts.meant.meant) ∙ right in
    record {
      js = json.item (json.array args.js) opts.js;
      ds = item (array args.ds) opts.ds;
      w = written.call n args.ws opts.meant.ws;
      tokens = item_first depth ts s r (json.array args.js) opts.js args.tokens opts.tokens;
      seen = rw (args.seen, opts.seen) refl;
      shape = shaped_call n args.ds opts.ds opts.opts args.ws opts.meant.ws _ opts.options args.shape opts.meant.shape (rw is refl);
      meant = then_done (checked n (count_of args.ws) (names_of opts.meant.ws)) op _ tested ∙ then_done (read_all args.ws) fs _ args.meant ∙ then_done (read_named opts.meant.ws) ms _ opts.meant.meant;
    }
