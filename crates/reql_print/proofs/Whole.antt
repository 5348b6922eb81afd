-- What is printed reads back.
use Rattle.std.proofs.Common.{◌≡◌, ℕ, suc, max, ◌≤◌, ◌<◌, ◌^◌, List, Bool, true, false, ◌&&◌, nat_le, if◌then◌else◌, Option, Some, None, Ok, Err, refl, sym, subst, ◌∙◌, arith}
use Rattle.std.proofs.lemmas.Bool.Decides.{nat_tests}
use Rattle.std.specs.List.Sorted.{IsStrictlySortedBy}
use Rattle.serde_json.specs.Data as json
use Rattle.serde_json.specs.Read.{max_depth}
use Rattle.serde_json.specs.Written.{compact_text}
use Rattle.reql_term.specs.Form.{Form}
use Rattle.reql_read.specs.Globals.{usual, settings_of}
use Rattle.reql_read.specs.Query.{start, query, value_query, query_text}
use Rattle.reql_read.specs.Spelling.{spelled_number, spelled, spelled_query, HasText}
use Rattle.reql_read.specs.declared.fault.ReadFault.TheVariants.{NotJson}
use Rattle.reql_read.proofs.Back.{reads_back}
use Rattle.reql_read.proofs.Bodies.{is_json}
use Rattle.reql_read.proofs.BodyText.{text_back, text_utf8}
use Rattle.reql_print.specs.Laws.{PrintedReadsBack}
use Rattle.reql_print.specs.Printed.{body_of, is_held, is_shallow, is_printable, printed}
use Rattle.reql_print.proofs.Tested.{held_is}

both : (a b : Bool) → (a && b) ≡ true → (a ≡ true) × (b ≡ true)
both true true h = (refl, refl)
both true false h = cc
both false b h = cc

no_settings : settings_of json.no_members ≡ Ok usual
unfolding settings_of
no_settings = refl

within : (d : json.Data) → nat_le (json.depth d) max_depth ≡ true → json.depth d ≤ max_depth
within d h = grind (arith, nat_tests)

-- the query with no options, and the one that says none
abbrev long : Form → json.Data
long f = spelled_query f json.no_members

one_small : 1 < 2 ^ 64
one_small = omega arith

short_text : (f : Form) → HasText (spelled f) → HasText (body_of f)
short_text f h = (one_small, (h, tt))

long_text : (f : Form) → HasText (spelled f) → HasText (long f)
unfolding IsStrictlySortedBy
long_text f h = (one_small, (h, ((tt, tt), tt)))

long_depth : (f : Form) → json.depth (body_of f) ≤ max_depth → json.depth (long f) ≤ max_depth
long_depth f h = omega (arith, h)

same_query : (t : json.Data)
    → query (json.array (json.item (spelled_number 1) (json.item t json.no_items))) ≡ query (json.array (json.item (spelled_number 1) (json.item t (json.item (json.object json.no_members) json.no_items))))
same_query t = refl

pub body_reads : (f : Form) → is_held f ≡ true → is_shallow f ≡ true → HasText (spelled f) → query_text (compact_text (body_of f)) ≡ Ok (start f usual)
body_reads f held shallow h =
    let low = within (body_of f) shallow in
    let far = long_depth f low in
    let all = long_text f h in
    let back = reads_back f json.no_members usual (record { held = held_is f held; has_text = all; shallow = far }) no_settings in
    let seen = is_json value_query (Err NotJson) (compact_text (long f)) (long f) (text_utf8 (long f) all) (text_back (long f) all far) in
    is_json value_query (Err NotJson) (compact_text (body_of f)) (body_of f) (text_utf8 (body_of f) (short_text f h)) (text_back (body_of f) (short_text f h) low)
    ∙ (same_query (spelled f) ∙ (sym seen ∙ back))

chosen : (b : Bool) (x text : List ℕ) → (if b then Some x else None) ≡ Some text → (b ≡ true) × (x ≡ text)
chosen true x text h = (refl, cc)
chosen false x text h = cc

pub reads_printed : PrintedReadsBack
reads_printed f text is h =
    let e = chosen (is_printable f) (compact_text (body_of f)) text is in
    let t = both (is_held f) (is_shallow f) e.0 in
    subst (λ s. query_text s ≡ Ok (start f usual)) e.1 (body_reads f t.0 t.1 h)
