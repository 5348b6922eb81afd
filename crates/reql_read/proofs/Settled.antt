-- The query that is read straight from tokens, and its options.
use Rattle.std.proofs.Common.{◌≡◌, ℕ, ◌-◌, ◌<◌, ◌≤◌, List, [], ◌∷◌, codes, Bool, false, Option, Some, None, Ok, Err, refl, sym, ap, ◌∙◌, arith}
use Rattle.std.specs.Prelude.{unwrap_or}
use Rattle.std.specs.Str.{IsUtf8}
use Rattle.json.specs.Token.{Token}
use Rattle.json.specs.Lex.{tokens}
use Rattle.json.specs.Json.{value}
use Rattle.json.specs.Json as json
use Rattle.serde_json.specs.Data.{Data, unsigned, boolean, number, string, array, object, no_items, item, Members, no_members, member, put}
use Rattle.serde_json.specs.Read.{max_depth}
use Rattle.serde_json.specs.Read as serde
use Rattle.reql_datum.specs.Answer.{◌>>=◌}
use Rattle.reql_term.specs.Form.{Form}
use Rattle.reql_term.specs.Table as table
use Rattle.reql_term.specs.declared.op.Op.TheVariants as op
use Rattle.reql_read.specs.Apart.{started, asked_kind}
use Rattle.reql_read.specs.Globals.{settings_of, choice_of, is_named, is_accepted, usual}
use Rattle.reql_read.specs.Query.{query_text, value_query}
use Rattle.reql_read.specs.Query as asks
use Rattle.reql_read.specs.Quick.{ReadsNumber, ReadsForm, ReadsData, ReadsMembers, ReadsSettings, ReadsParts, ReadsQuery, database, two_options}
use Rattle.reql_read.specs.View.{asked}
use Rattle.reql_read.specs.declared.fault.ReadFault.TheVariants.{NotJson}
use Rattle.reql_read.specs.declared.globals.Settings.{Settings}
use Rattle.reql_read.specs.declared.query.Query.{Query}
use Rattle.reql_read.proofs.Asked.{query_same, start_read}
use Rattle.reql_read.proofs.Bodies.{is_json}
use Rattle.reql_read.proofs.Tokens.{items_over, item_first, members_over, member_first, string_first, number_first, array_first, object_first}

-- ---- one option

pub database_read : (depth n : ℕ) (name : List ℕ) (ts r : List Token) → 2 ≤ depth → n ≡ table.number_of op.Db → ReadsNumber ts n (Token.begin_array ∷ Token.string name ∷ Token.end_array ∷ Token.end_array ∷ r)
    → ReadsData depth (Token.begin_array ∷ ts) (database name) r
database_read depth n name ts r some is h =
    let names = item_first (depth - 1 - 1) (Token.string name ∷ Token.end_array ∷ Token.end_array ∷ r) (Token.end_array ∷ Token.end_array ∷ r) (Token.end_array ∷ r) (json.string name) json.no_items
    (string_first (depth - 1 - 1) name (Token.end_array ∷ Token.end_array ∷ r)) (items_over (depth - 1 - 1) (Token.end_array ∷ r)) in
    let args = array_first (depth - 1) (Token.string name ∷ Token.end_array ∷ Token.end_array ∷ r) (Token.end_array ∷ r) (json.item (json.string name) json.no_items) (omega arith) names in
    record {
      j = json.array (json.item (json.number h.s) (json.item (json.array (json.item (json.string name) json.no_items)) json.no_items));
      tokens = array_first depth ts r _ (omega arith)
          (item_first (depth - 1) ts (Token.begin_array ∷ Token.string name ∷ Token.end_array ∷ Token.end_array ∷ r) r (json.number h.s) (json.item (json.array (json.item (json.string name) json.no_items)) json.no_items)
          (ap (value (depth - 1)) h.first ∙ number_first (depth - 1) h.s _) (item_first (depth - 1) _ (Token.end_array ∷ r) r _ json.no_items args (items_over (depth - 1) r)));
      seen = rw (h.is, is) refl;
    }

pub put_db : (name : List ℕ) (db : Option (List ℕ)) (noreply : Option Bool) → put (codes "db") (database name) (two_options db noreply) ≡ two_options (Some name) noreply
put_db name None None = refl
put_db name None (Some b) = refl
put_db name (Some s) noreply = refl

pub put_noreply : (b : Bool) (db : Option (List ℕ)) (noreply : Option Bool) → put (codes "noreply") (boolean b) (two_options db noreply) ≡ two_options db (Some b)
put_noreply b None None = refl
put_noreply b None (Some c) = refl
put_noreply b (Some s) None = refl
put_noreply b (Some s) (Some c) = refl

pub option_first : (depth : ℕ) (k : List ℕ) (d : Data) (s ts r : List Token) (before next all : Members) → ReadsData depth s d ts → put k d before ≡ next → ReadsMembers depth ts next all r → ReadsMembers depth (Token.key k ∷ s) before all r
option_first depth k d s ts r before next all one is rest = record {
  js = json.member k one.j rest.js;
  tokens = member_first depth k ts r s one.j rest.js one.tokens rest.tokens;
  seen = rw (one.seen, is) rest.seen;
}

pub options_over : (depth : ℕ) (ms : Members) (r : List Token) → ReadsMembers depth (Token.end_object ∷ r) ms ms r
options_over depth ms r = record { js = json.no_members; tokens = members_over depth r; seen = refl }

-- ---- all options

pub settings_plain : (noreply : Option Bool) → settings_of (two_options None noreply) ≡ Ok (record { db = codes "test"; array_limit = 100000; batch = 1000; noreply = unwrap_or noreply false })
unfolding settings_of choice_of is_named is_accepted
settings_plain None = refl
settings_plain (Some b) = refl

pub settings_db : (name : List ℕ) (noreply : Option Bool) → settings_of (two_options (Some name) noreply) ≡ Ok (record { db = name; array_limit = 100000; batch = 1000; noreply = unwrap_or noreply false })
unfolding settings_of choice_of is_named is_accepted
settings_db name None = refl
settings_db name (Some b) = refl

pub settings_by : (u : Settings) (db : Option (List ℕ)) (noreply : Option Bool) (b : Bool) → u ≡ usual → db ≡ None → b ≡ unwrap_or noreply u.noreply
    → settings_of (two_options db noreply) ≡ Ok (record { db = u.db; array_limit = u.array_limit; batch = u.batch; noreply = b })
settings_by u db noreply b same none is = rw (is, none, same) (settings_plain noreply)

pub settings_with : (u : Settings) (db : Option (List ℕ)) (name held : List ℕ) (noreply : Option Bool) (b : Bool) → u ≡ usual → db ≡ Some name → held ≡ name → b ≡ unwrap_or noreply u.noreply
    → settings_of (two_options db noreply) ≡ Ok (record { db = held; array_limit = u.array_limit; batch = u.batch; noreply = b })
settings_with u db name held noreply b same some copied is = rw (is, some, copied, same) (settings_db name noreply)

pub no_settings : (depth : ℕ) (r : List Token) → ReadsSettings depth (Token.end_array ∷ r) usual r
no_settings depth r = record { js = json.no_items; ds = no_items; opts = no_members; tokens = items_over depth r; seen = refl; options = refl; meant = settings_plain None }

pub settings_read : (depth : ℕ) (ts r : List Token) (all : Members) (s : Settings) → 3 ≤ depth → ReadsMembers (depth - 1) ts no_members all (Token.end_array ∷ r) → settings_of all ≡ Ok s → ReadsSettings depth (Token.begin_object ∷ ts) s r
settings_read depth ts r all s some h is = record {
  js = json.item (json.object h.js) json.no_items;
  ds = item (object all) no_items;
  opts = all;
  tokens = item_first depth (Token.begin_object ∷ ts) (Token.end_array ∷ r) r (json.object h.js) json.no_items (object_first depth ts (Token.end_array ∷ r) h.js (omega arith) h.tokens) (items_over depth r);
  seen = rw h.seen refl;
  options = refl;
  meant = is;
}

-- ---- the query

pub start_parts : (ts s r : List Token) (f : Form) (set : Settings) (q : Query) → ReadsForm (max_depth - 1) ts f s → ReadsSettings (max_depth - 1) s set r → asked q ≡ asks.start f set → ReadsParts 1 ts q r
start_parts ts s r f set q term options is = record {
  js = json.item term.j options.js;
  ds = item term.d options.ds;
  tokens = item_first (max_depth - 1) ts s r term.j options.js term.tokens options.tokens;
  seen = rw (term.seen, options.seen) refl;
  meant = ap (λ o. o >>= λ opts. started term.d opts) options.options ∙ start_read term.d options.opts term.w f set term.shape term.meant options.meant ∙ ap Ok (sym is);
}

pub short_parts : (kind : ℕ) (r : List Token) (q : Query) → asked_kind kind no_items ≡ Ok (asked q) → ReadsParts kind (Token.end_array ∷ r) q r
short_parts kind r q is = record { js = json.no_items; ds = no_items; tokens = items_over (max_depth - 1) r; seen = refl; meant = is }

pub query_read : (kind : ℕ) (ts s r : List Token) (q : Query) → ReadsNumber ts kind s → ReadsParts kind s q r → ReadsQuery (Token.begin_array ∷ ts) q r
query_read kind ts s r q first h =
    let some : 0 < max_depth = omega arith in
    record {
      j = json.array (json.item (json.number first.s) h.js);
      d = array (item (number (unsigned kind)) h.ds);
      tokens = array_first max_depth ts r (json.item (json.number first.s) h.js) some
          (item_first (max_depth - 1) ts s r (json.number first.s) h.js (ap (value (max_depth - 1)) first.first ∙ number_first (max_depth - 1) first.s s) h.tokens);
      seen = rw (first.is, h.seen) refl;
      meant = query_same (array (item (number (unsigned kind)) h.ds)) ∙ h.meant;
    }

pub body_read : (body : List ℕ) (q : Query) → IsUtf8 body → ReadsQuery (tokens body) q [] → query_text body ≡ Ok (asked q)
body_read body q utf8 h =
    let read : serde.read body ≡ Some h.d = rw (h.tokens, h.seen) refl in
    is_json value_query (Err NotJson) body h.d utf8 read ∙ h.meant
