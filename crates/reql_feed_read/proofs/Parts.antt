-- The options of BETWEEN, and the part that it is by them.
use Rattle.std.proofs.Common.{◌≡◌, List, [], ◌∷◌, Bool, true, false, if◌then◌else◌, Option, Some, None, codes, refl, sym, ap, ◌∙◌}
use Rattle.reql_datum.specs.Members.{find}
use Rattle.reql_datum.specs.Plain.{Plain}
use Rattle.reql_rules.specs.Lists.{Bytes}
use Rattle.reql_term.specs.Form.{Form, named_of}
use Rattle.reql_feed_spec.specs.Watched.{Part}
use Rattle.reql_table_spec.specs.Followed.{options, index_in, literal_index}
use Rattle.reql_feed_read.specs.Asked.{names_by, bottomed}

options_are : (ms : List (Bytes × Form)) → options (named_of ms) ≡ ms
options_are [] = refl
options_are (m ∷ ms) = ap (λ t. m ∷ t) (options_are ms)

pub named_some : (ms : List (Bytes × Form)) (f : Form) (key name : Bytes) → Some f ≡ find (codes "index") ms → names_by key name (literal_index (Some f)) ≡ names_by key name (index_in (named_of ms))
named_some ms f key name e = ap (λ o. names_by key name (literal_index o)) (e ∙ ap (find (codes "index")) (sym (options_are ms)))

pub named_none : (ms : List (Bytes × Form)) (key name : Bytes) → None ≡ find (codes "index") ms → names_by key name (literal_index None) ≡ names_by key name (index_in (named_of ms))
named_none ms key name e = ap (λ o. names_by key name (literal_index o)) (e ∙ ap (find (codes "index")) (sym (options_are ms)))

pub not_taken : (b : Bool) (o : Option Part) → b ≡ false → None ≡ (if b then o else None)
not_taken b o e = rw e refl

bottomed_none : (l h : Option Plain) → None ≡ bottomed l h None
bottomed_none None h = refl
bottomed_none (Some l) None = refl
bottomed_none (Some l) (Some h) = refl

pub without_sides : (b : Bool) (l h : Option Plain) (s : Option (Bool × Bool)) → None ≡ s → None ≡ (if b then bottomed l h s else None)
without_sides true l h s e = bottomed_none l h ∙ ap (bottomed l h) e
without_sides false l h s e = refl

pub with_sides : (b : Bool) (l h : Option Plain) (s : Option (Bool × Bool)) (p : Bool × Bool) (o : Option Part) → b ≡ true → Some p ≡ s → o ≡ bottomed l h (Some p) → o ≡ (if b then bottomed l h s else None)
with_sides b l h s p o t e is = rw t (is ∙ ap (bottomed l h) e)
