-- Each term that is read from a body can be printed.
use Rattle.std.proofs.Common.{◌≡◌, ℕ, suc, ◌≤◌, List, Bool, true, false, nat_eq, nat_le, is_some, Option, Some, None, Result, Ok, Err, refl, sym, ap, subst, ◌∙◌, if◌then◌else◌, cond, arith}
use Rattle.std.proofs.lemmas.Bool.Decides.{nat_tests}
use Rattle.std.specs.Str.{is_utf8}
use Rattle.serde_json.specs.Data as json
use Rattle.serde_json.specs.Read.{max_depth}
use Rattle.serde_json.specs.Read as reader
use Rattle.serde_json.proofs.Nesting.{depth-read}
use Rattle.serde_json.specs.Written.{compact_text}
use Rattle.reql_datum.specs.Answer.{◌>>=◌}
use Rattle.reql_term.specs.Form.{Form}
use Rattle.reql_read.specs.Globals.{settings_of}
use Rattle.reql_read.specs.Query.{Asked, start, continued, stop, noreply_wait, server_info, asked_by, value_query, query_text}
use Rattle.reql_read.specs.Reading.{read}
use Rattle.reql_read.specs.Shape.{number_in, shaped, shaped_start, shaped_kind, shaped_parts, shaped_query, items_in}
use Rattle.reql_read.specs.Shape as shape
use Rattle.reql_read.specs.Spelling.{spelled, IsHeld}
use Rattle.reql_read.specs.Written.{Written}
use Rattle.reql_read.specs.declared.fault.ReadFault.{ReadFault}
use Rattle.reql_read.specs.declared.fault.ReadFault.TheVariants.{NotJson, BadShape}
use Rattle.reql_read.proofs.Understood.{given, inside, bound}
use Rattle.reql_read.proofs.Whole.{held_on_bytes}
use Rattle.reql_print.specs.Laws.{started, ReadIsPrinted}
use Rattle.reql_print.specs.Printed.{body_of, is_held, is_shallow, is_printable, printed}
use Rattle.reql_print.proofs.Depths.{no_deeper}
use Rattle.reql_print.proofs.Tested.{held_true}

abbrev shape_begun : Written → json.Members → Result shape.Query ReadFault
shape_begun w opts = Ok (shape.start w opts)

term_same : (v w : Written) (ms opts : json.Members) → shape_begun v ms ≡ shape_begun w opts → v ≡ w
term_same v w ms opts h = cc

-- the term of a query's start was shaped from a value inside it
module _ (w : Written) (opts : json.Members) where
  abbrev Spelled : ℕ → Type 0
  Spelled n = (d : json.Data) × (shaped d ≡ Ok w) × (json.depth d ≤ n)

  by_term : (term : json.Data) (ms : json.Members) (n : ℕ) → json.depth term ≤ n → (shaped term >>= λ v. Ok (shape.start v ms)) ≡ shape_begun w opts → Spelled n
  by_term term ms n low h =
      let a = bound (shaped term) (λ v. Ok (shape.start v ms)) (shape.start w opts) h in
      (term, subst (λ v. shaped term ≡ Ok v) (term_same a.0 w ms opts a.2) a.1, low)

  by_start : (ds : json.Items) → shaped_start ds ≡ shape_begun w opts → Spelled (json.items_depth ds)
  by_start json.no_items h = absurd (cc (h))
  by_start (json.item term json.no_items) h = by_term term json.no_members _ (omega arith) h
  by_start (json.item term (json.item (json.object ms) json.no_items)) h = by_term term ms _ (omega arith) h
  by_start (json.item term (json.item (json.object ms) (json.item d ds))) h = absurd (cc (h))
  by_start (json.item term (json.item json.null ds)) h = absurd (cc (h))
  by_start (json.item term (json.item (json.boolean b) ds)) h = absurd (cc (h))
  by_start (json.item term (json.item (json.number n) ds)) h = absurd (cc (h))
  by_start (json.item term (json.item (json.string s) ds)) h = absurd (cc (h))
  by_start (json.item term (json.item (json.array es) ds)) h = absurd (cc (h))

  by_chain : (a b c d e : Bool) (ds : json.Items)
      → (if a then shaped_start ds else (if b then Ok shape.continued else (if c then Ok shape.stop else (if d then Ok shape.noreply_wait else (if e then Ok shape.server_info else Err BadShape))))) ≡ shape_begun w opts → Spelled (json.items_depth ds)
  by_chain true b c d e ds h = by_start ds h
  by_chain false true c d e ds h = absurd (cc (h))
  by_chain false false true d e ds h = absurd (cc (h))
  by_chain false false false true e ds h = absurd (cc (h))
  by_chain false false false false true ds h = absurd (cc (h))
  by_chain false false false false false ds h = absurd (cc (h))

  wider : (m n : ℕ) → m ≤ n → Spelled m → Spelled n
  wider m n up t = let low = t.2 in (t.0, t.1, omega (arith, up, low))

  by_parts : (ds : json.Items) → shaped_parts ds ≡ shape_begun w opts → Spelled (json.items_depth ds)
  by_parts json.no_items h = absurd (cc (h))
  by_parts (json.item n ds) h =
      let a = bound (number_in n) (λ k. shaped_kind k ds) (shape.start w opts) h in
      wider (json.items_depth ds) (json.items_depth (json.item n ds)) (omega arith) (by_chain (nat_eq a.0 1) (nat_eq a.0 2) (nat_eq a.0 3) (nat_eq a.0 4) (nat_eq a.0 5) ds a.2)

  -- a level inside
  abbrev Inside : json.Data → Type 0
  Inside whole = (d : json.Data) × (shaped d ≡ Ok w) × (suc (json.depth d) ≤ json.depth whole)

  by_query : (d : json.Data) → shaped_query d ≡ shape_begun w opts → Inside d
  by_query (json.array ds) h = let t = by_parts ds h in let low = t.2 in (t.0, t.1, omega (arith, low))
  by_query json.null h = absurd (cc (h))
  by_query (json.boolean b) h = absurd (cc (h))
  by_query (json.number n) h = absurd (cc (h))
  by_query (json.string s) h = absurd (cc (h))
  by_query (json.object ms) h = absurd (cc (h))

some_same : (f g : Form) → Some f ≡ Some g → f ≡ g
some_same f g h = cc

-- the term is printed within the levels of what it was read from, and one less
abbrev Low : json.Data → Form → Type 0
Low whole f = suc (json.depth (spelled f)) ≤ json.depth whole

abbrev Told : Option json.Data → Type 0
Told v = (d : json.Data) → v ≡ Some d → json.depth d ≤ max_depth

module _ (a : Asked) (f : Form) (starts : started a ≡ Some f) where
  begun : (g : Form) (b : Asked) → started b ≡ Some g → given b ≡ Ok a → g ≡ f
  begun g b is same = some_same g f (sym is ∙ (ap started (inside b a same) ∙ starts))

  none : (b : Asked) → started b ≡ None → given b ≡ Ok a → ⊥
  none b is same = cc (sym is ∙ (ap started (inside b a same) ∙ starts))

  by_shape : (d : json.Data) (q : shape.Query) → shaped_query d ≡ Ok q → asked_by q ≡ Ok a → Low d f
  by_shape d (shape.start w opts) is h =
      let x = bound (read w) (λ g. settings_of opts >>= λ t. Ok (start g t)) a h in
      let y = bound (settings_of opts) (λ t. Ok (start x.0 t)) a x.2 in
      let t = by_query w opts d is in
      let low = t.2 in
      let under = no_deeper t.0 w x.0 t.1 x.1 in
      let all : Low d x.0 = omega (arith, low, under) in
      subst (Low d) (begun x.0 (start x.0 y.0) refl y.2) all
  by_shape d shape.continued is h = absurd (none continued refl h)
  by_shape d shape.stop is h = absurd (none stop refl h)
  by_shape d shape.noreply_wait is h = absurd (none noreply_wait refl h)
  by_shape d shape.server_info is h = absurd (none server_info refl h)

  by_value : (v : Option json.Data) → Told v → value_query v ≡ Ok a → suc (json.depth (spelled f)) ≤ max_depth
  by_value None low h = absurd (cc (h))
  by_value (Some d) low h =
      let x = bound (shaped_query d) asked_by a h in
      let under = by_shape d x.0 x.1 x.2 in
      let all = low d refl in
      omega (arith, under, all)

  by_text : (b : Bool) (v : Option json.Data) → Told v → cond b (value_query v) (Err NotJson) ≡ Ok a → suc (json.depth (spelled f)) ≤ max_depth
  by_text true v low h = by_value v low h
  by_text false v low h = absurd (cc (h))

shallow : (f : Form) → suc (json.depth (spelled f)) ≤ max_depth → is_shallow f ≡ true
shallow f h = grind (arith, nat_tests)

there : (b : Bool) (x : List ℕ) → b ≡ true → is_some (if b then Some x else None) ≡ true
there true x h = refl
there false x h = cc

printable : (f : Form) → is_held f ≡ true → is_shallow f ≡ true → is_printable f ≡ true
printable f held low = rw (held, low) refl

-- the term of a query that starts one is held
held_at : (body : List ℕ) (a : Asked) (f : Form) → query_text body ≡ Ok a → started a ≡ Some f → IsHeld f
held_at body (start g s) f h is = subst IsHeld (some_same g f is) (held_on_bytes body g s h)
held_at body continued f h is = absurd (cc (is))
held_at body stop f h is = absurd (cc (is))
held_at body noreply_wait f h is = absurd (cc (is))
held_at body server_info f h is = absurd (cc (is))

pub read_is_printed : ReadIsPrinted
read_is_printed body a f h is =
    let low = by_text a f is (is_utf8 body) (reader.read body) (λ d e. depth-read body d e) h in
    there (is_printable f) (compact_text (body_of f)) (printable f (held_true f (held_at body a f h is)) (shallow f low))
