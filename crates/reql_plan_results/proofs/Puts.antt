-- Members put one after another into an empty object.
use Rattle.std.proofs.Common.{◌≡◌, ℕ, List, [], ◌∷◌, Option, Some, None, codes, refl}
use Rattle.reql_datum.specs.Plain.{Plain}
use Rattle.reql_datum.specs.Members.{put}
use Rattle.reql_rules.specs.Lists.{Bytes, object_of}
use Rattle.reql_rules.specs.Places.{counted_as}
use Rattle.reql_write_spec.specs.declared.command.Summary.{Summary}
use Rattle.reql_plan_spec.specs.Summed.{some_list, some_text, if_any, summary_shown}
use Rattle.reql_plan_results.specs.Members.{put_all}

puts : (d e i r s u : ℕ) (first : Option Bytes) (keys : List Plain) (changes : Option (List Plain)) →
    object_of (put (codes "unchanged") (counted_as u) (put (codes "skipped") (counted_as s) (put (codes "replaced") (counted_as r) (put (codes "inserted") (counted_as i)
    (put_all (if_any (codes "generated_keys") keys) (put_all (some_text (codes "first_error") first)
    (put (codes "errors") (counted_as e) (put (codes "deleted") (counted_as d) (put_all (some_list (codes "changes") changes) [])))))))))
    ≡ summary_shown (record { deleted = d; errors = e; inserted = i; replaced = r; skipped = s; unchanged = u; first_error = first; generated = keys; changes = changes })
puts d e i r s u None [] None = refl
puts d e i r s u None [] (Some vs) = refl
puts d e i r s u None (k ∷ ks) None = refl
puts d e i r s u None (k ∷ ks) (Some vs) = refl
puts d e i r s u (Some t) [] None = refl
puts d e i r s u (Some t) [] (Some vs) = refl
puts d e i r s u (Some t) (k ∷ ks) None = refl
puts d e i r s u (Some t) (k ∷ ks) (Some vs) = refl

pub summary_puts : (x : Summary) →
    object_of (put (codes "unchanged") (counted_as x.unchanged) (put (codes "skipped") (counted_as x.skipped) (put (codes "replaced") (counted_as x.replaced) (put (codes "inserted") (counted_as x.inserted)
    (put_all (if_any (codes "generated_keys") x.generated) (put_all (some_text (codes "first_error") x.first_error)
    (put (codes "errors") (counted_as x.errors) (put (codes "deleted") (counted_as x.deleted) (put_all (some_list (codes "changes") x.changes) [])))))))))
    ≡ summary_shown x
summary_puts x = puts x.deleted x.errors x.inserted x.replaced x.skipped x.unchanged x.first_error x.generated x.changes
