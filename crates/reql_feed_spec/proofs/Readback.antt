-- What is read of a printed item is the item, but for nulls.
use Rattle.std.proofs.Common.{◌≡◌, ℕ, Option, Some, None, Bool, true, false, refl}
use Rattle.reql_datum.specs.Plain.{Plain}
use Rattle.reql_feed_spec.specs.Items.{Difference, present}
use Rattle.reql_feed_spec.specs.Shown.{Shows, shown, read, or_null, place, place_of, seen, seen_value}

null_back : (o : Option Plain) → present (or_null o) ≡ seen_value o
null_back None = refl
null_back (Some v) = refl

place_back : (k : Option ℕ) → place_of (place k) ≡ k
place_back None = refl
place_back (Some k) = refl

read_shown : (offsets types : Bool) (old new : Option Plain) (i j : Option ℕ)
    → read (shown (record { offsets = offsets; types = types }) (record { old = old; new = new; old_at = i; new_at = j })) ≡ seen offsets (record { old = old; new = new; old_at = i; new_at = j })
read_shown true types old new i j = rw (null_back old, null_back new, place_back i, place_back j) refl
read_shown false true old new i j = rw (null_back old, null_back new) refl
read_shown false false old new i j = rw (null_back old, null_back new) refl

pub reads : (s : Shows) (d : Difference) → read (shown s d) ≡ seen s.offsets d
reads s d = read_shown s.offsets s.types d.old d.new d.old_at d.new_at
