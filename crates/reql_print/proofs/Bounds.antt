-- A term that is held and shallow is printed, and no other.
use Rattle.std.proofs.Common.{◌≡◌, ℕ, suc, max, List, Bool, true, false, ◌&&◌, nat_le, if◌then◌else◌, Option, Some, None, Ok, refl, sym, subst, ◌∙◌, arith}
use Rattle.std.proofs.lemmas.Bool.Decides.{nat_tests}
use Rattle.serde_json.specs.Data as json
use Rattle.serde_json.specs.Written.{compact_text}
use Rattle.reql_term.specs.Form.{Form}
use Rattle.reql_read.specs.Globals.{usual}
use Rattle.reql_read.specs.Query.{start, query_text}
use Rattle.reql_read.specs.Spelling.{spelled, HasText}
use Rattle.reql_print.specs.Printed.{body_of, is_held, is_shallow, is_printable, printed}
use Rattle.reql_print.proofs.Whole.{body_reads}

-- a body is one level deeper than its term
same_levels : (f : Form) → nat_le (json.depth (spelled f)) 126 ≡ is_shallow f
same_levels f = grind (arith, nat_tests)

pub not_held : (f : Form) (b : Bool) → b ≡ is_held f → b ≡ false → false ≡ is_printable f
not_held f b h is = rw (sym h ∙ is) refl

pub by_levels : (f : Form) (b c : Bool) → b ≡ is_held f → b ≡ true → c ≡ nat_le (json.depth (spelled f)) 126 → c ≡ is_printable f
by_levels f b c h is low = rw (sym h ∙ is) (low ∙ same_levels f)

pub ruleset printables = (not_held, by_levels)

both : (a b : Bool) → (a && b) ≡ true → (a ≡ true) × (b ≡ true)
both true true h = (refl, refl)
both true false h = cc
both false b h = cc

pub printed_none : (f : Form) (b : Bool) → b ≡ is_printable f → b ≡ false → ◌≡◌ {A = Option (List ℕ)} None (printed f)
printed_none f b h is = rw (sym h ∙ is) refl

pub printed_some : (f : Form) (b : Bool) (s : List ℕ) → b ≡ is_printable f → b ≡ true → s ≡ compact_text (body_of f) → Some s ≡ printed f
printed_some f b s h is text = rw (text, sym h ∙ is) refl

pub reads_some : (f : Form) (b : Bool) (s : List ℕ) → b ≡ is_printable f → b ≡ true → s ≡ compact_text (body_of f) → HasText (spelled f) → query_text s ≡ Ok (start f usual)
reads_some f b s h is text has = let e = both (is_held f) (is_shallow f) (sym h ∙ is) in subst (λ x. query_text x ≡ Ok (start f usual)) (sym text) (body_reads f e.0 e.1 has)

pub ruleset bodies = (printed_none, printed_some, reads_some)
