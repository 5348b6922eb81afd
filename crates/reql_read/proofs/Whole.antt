-- The term of a query that is read from the bytes of a body is one that a body can hold.
use Rattle.std.proofs.Common.{◌≡◌, Bool, true, false, nat_eq, Option, Some, None, Result, Ok, Err, subst, if◌then◌else◌, cond}
use Rattle.std.specs.Str.{is_utf8}
use Rattle.serde_json.specs.Data as json
use Rattle.serde_json.specs.Read as reader
use Rattle.reql_datum.specs.Answer.{◌>>=◌}
use Rattle.reql_term.specs.Form.{Form}
use Rattle.reql_read.specs.Globals.{settings_of}
use Rattle.reql_read.specs.Query.{Asked, start, asked_by, value_query}
use Rattle.reql_read.specs.Reading.{read}
use Rattle.reql_read.specs.Shape.{number_in, shaped, shaped_start, shaped_kind, shaped_parts, shaped_query, items_in}
use Rattle.reql_read.specs.Shape as shape
use Rattle.reql_read.specs.Spelling.{IsHeld, ReadsHeld}
use Rattle.reql_read.specs.Written.{Written}
use Rattle.reql_read.specs.declared.fault.ReadFault.{ReadFault}
use Rattle.reql_read.specs.declared.fault.ReadFault.TheVariants.{NotJson, BadShape}
use Rattle.reql_read.specs.declared.globals.Settings.{Settings}
use Rattle.reql_read.proofs.Held.{held}
use Rattle.reql_read.proofs.Understood.{bound}

abbrev begun : Form → Settings → Result Asked ReadFault
begun f s = Ok (start f s)

abbrev shape_begun : Written → json.Members → Result shape.Query ReadFault
shape_begun w opts = Ok (shape.start w opts)

term_same : (v w : Written) (ms opts : json.Members) → shape_begun v ms ≡ shape_begun w opts → v ≡ w
term_same v w ms opts h = cc

-- the term of a query's start was shaped from a value
module _ (w : Written) (opts : json.Members) where
  abbrev Spelled : Type 0
  Spelled = (d : json.Data) × (shaped d ≡ Ok w)

  by_term : (term : json.Data) (ms : json.Members) → (shaped term >>= λ v. Ok (shape.start v ms)) ≡ shape_begun w opts → Spelled
  by_term term ms h = let a = bound (shaped term) (λ v. Ok (shape.start v ms)) (shape.start w opts) h in (term, subst (λ v. shaped term ≡ Ok v) (term_same a.0 w ms opts a.2) a.1)

  by_start : (ds : json.Items) → shaped_start ds ≡ shape_begun w opts → Spelled
  by_start json.no_items h = absurd (cc (h))
  by_start (json.item term json.no_items) h = by_term term json.no_members h
  by_start (json.item term (json.item (json.object ms) json.no_items)) h = by_term term ms h
  by_start (json.item term (json.item (json.object ms) (json.item d ds))) h = absurd (cc (h))
  by_start (json.item term (json.item json.null ds)) h = absurd (cc (h))
  by_start (json.item term (json.item (json.boolean b) ds)) h = absurd (cc (h))
  by_start (json.item term (json.item (json.number n) ds)) h = absurd (cc (h))
  by_start (json.item term (json.item (json.string s) ds)) h = absurd (cc (h))
  by_start (json.item term (json.item (json.array es) ds)) h = absurd (cc (h))

  by_chain : (a b c d e : Bool) (ds : json.Items)
      → (if a then shaped_start ds else (if b then Ok shape.continued else (if c then Ok shape.stop else (if d then Ok shape.noreply_wait else (if e then Ok shape.server_info else Err BadShape))))) ≡ shape_begun w opts → Spelled
  by_chain true b c d e ds h = by_start ds h
  by_chain false true c d e ds h = absurd (cc (h))
  by_chain false false true d e ds h = absurd (cc (h))
  by_chain false false false true e ds h = absurd (cc (h))
  by_chain false false false false true ds h = absurd (cc (h))
  by_chain false false false false false ds h = absurd (cc (h))

  by_parts : (ds : json.Items) → shaped_parts ds ≡ shape_begun w opts → Spelled
  by_parts json.no_items h = absurd (cc (h))
  by_parts (json.item n ds) h =
      let a = bound (number_in n) (λ k. shaped_kind k ds) (shape.start w opts) h in
      by_chain (nat_eq a.0 1) (nat_eq a.0 2) (nat_eq a.0 3) (nat_eq a.0 4) (nat_eq a.0 5) ds a.2

  by_query : (d : json.Data) → shaped_query d ≡ shape_begun w opts → Spelled
  by_query d h = let a = bound (items_in d) shaped_parts (shape.start w opts) h in by_parts a.0 a.2

form_same : (f g : Form) (s t : Settings) → begun f s ≡ begun g t → f ≡ g
form_same f g s t h = cc

module _ (f : Form) (s : Settings) where
  by_shape : (d : json.Data) (q : shape.Query) → shaped_query d ≡ Ok q → asked_by q ≡ begun f s → IsHeld f
  by_shape d (shape.start w opts) is h =
      let a = bound (read w) (λ g. settings_of opts >>= λ t. Ok (start g t)) (start f s) h in
      let b = bound (settings_of opts) (λ t. Ok (start a.0 t)) (start f s) a.2 in
      let t = by_query w opts d is in
      subst IsHeld (form_same a.0 f b.0 s b.2) (held t.0 w a.0 t.1 a.1)
  by_shape d shape.continued is h = absurd (cc (h))
  by_shape d shape.stop is h = absurd (cc (h))
  by_shape d shape.noreply_wait is h = absurd (cc (h))
  by_shape d shape.server_info is h = absurd (cc (h))

  by_value : (v : Option json.Data) → value_query v ≡ begun f s → IsHeld f
  by_value None h = absurd (cc (h))
  by_value (Some d) h = let a = bound (shaped_query d) asked_by (start f s) h in by_shape d a.0 a.1 a.2

  by_text : (b : Bool) (v : Option json.Data) → cond b (value_query v) (Err NotJson) ≡ begun f s → IsHeld f
  by_text true v h = by_value v h
  by_text false v h = absurd (cc (h))

pub held_on_bytes : ReadsHeld
held_on_bytes body f s h = by_text f s (is_utf8 body) (reader.read body) h
