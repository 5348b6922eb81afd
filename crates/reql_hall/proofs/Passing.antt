-- What one changed pass does to a desk.
use Rattle.std.proofs.Common.{◌≡◌, ◌≢◌, ℕ, ◌<◌, length, sym, ap, subst, ◌∙◌, arith}
use Rattle.std.specs.Prelude.{map, slice_index_or, slice_set}
use Rattle.std.proofs.lemmas.List.{get_or-set_same, get_or-set_other, get_or_read, map-set, set-get_or, get_or-map, length-map}
use Rattle.std.proofs.lemmas.List.Elements.{All-set}
use Rattle.reql_shared.specs.Sight.{Object, Sight, unused}
use Rattle.reql_hall.specs.Rooms.{Rooms, Sitting, Sits, nobody, pass}

module _ {C S NC NS : Type 0} where
  -- the desk with another pass on this slot
  abbrev pub with_pass : Sitting C S NC NS → ℕ → Sight C S → Sitting C S NC NS
  with_pass desk t p = record { names = desk.names; slots = slice_set desk.slots t p }

  pub slots_of_hall : (hall : Rooms S NS) (desk : Sitting C S NC NS) → Sits hall desk → length desk.slots ≡ length hall.slots
  slots_of_hall hall desk s = sym (length-map desk.slots (λ (p : Sight C S). p.object)) ∙ ap length s.slots

  slot_of_desk : (hall : Rooms S NS) (desk : Sitting C S NC NS) (t : ℕ) → Sits hall desk → t < length hall.slots → t < length desk.slots
  slot_of_desk hall desk t s lt = omega (arith, slots_of_hall hall desk s)

  pub pass_there : (some : S) (desk : Sitting C S NC NS) (t u : ℕ) (q : Sight C S) → u ≢ t → pass some (with_pass desk t q) u ≡ pass some desk u
  pass_there some desk t u q ne = get_or-set_other desk.slots t u q (nobody some desk) ne

  -- what holds of a pass before and after holds of the desk's pass on this slot
  pub acted : (G : Sight C S → Sight C S → Type 0) (some : S) (hall : Rooms S NS) (desk : Sitting C S NC NS) (t : ℕ) (p q : Sight C S) → Sits hall desk → t < length hall.slots → p ≡ slice_index_or desk.slots t p → G p q → G (pass some desk t) (pass some (with_pass desk t q) t)
  acted G some hall desk t p q s lt e g =
      let low = slot_of_desk hall desk t s lt in
      subst (λ (x : Sight C S × Sight C S). G x.0 x.1) (λ k. (get_or_read desk.slots t p low e (nobody some desk) k, sym (get_or-set_same desk.slots t q (nobody some desk) low) k)) g

  -- a desk stays one of its hall where the changed pass stays one of its engine, with its number
  pub sits_on : (hall : Rooms S NS) (desk : Sitting C S NC NS) (t : ℕ) (p q : Sight C S) → Sits hall desk → t < length hall.slots → p ≡ slice_index_or desk.slots t p → q.object ≡ p.object → q.number ≡ p.number → Sits hall (with_pass desk t q)
  sits_on hall desk t p q s lt e o n =
      let low = slot_of_desk hall desk t s lt in
      let objects : Sight C S → Object S = λ p. p.object in
      record {
        names = s.names;
        slots = map-set objects desk.slots t q ∙ ap (λ x. slice_set (map objects desk.slots) t x) (o ∙ ap objects e ∙ sym (get_or-map objects desk.slots t p p.object low)) ∙ set-get_or (map objects desk.slots) t p.object ∙ s.slots;
        numbers = All-set (λ (x : Sight C S). x.number ≡ desk.names.number) desk.slots t q (n ∙ ap (λ (x : Sight C S). x.number) e ∙ s.numbers t p low) s.numbers;
      }

  -- the desk with another pass on the names
  abbrev pub with_names : Sitting C S NC NS → Sight NC NS → Sitting C S NC NS
  with_names desk p = record { names = p; slots = desk.slots }

  pub sits_named : (hall : Rooms S NS) (desk : Sitting C S NC NS) (q : Sight NC NS) → Sits hall desk → q.object ≡ desk.names.object → q.number ≡ desk.names.number → Sits hall (with_names desk q)
  sits_named hall desk q s o n = record {
    names = o ∙ s.names;
    slots = s.slots;
    numbers = λ k d lt. s.numbers k d lt ∙ sym n;
  }

  pub pass_named : (some : S) (desk : Sitting C S NC NS) (q : Sight NC NS) (t : ℕ) → q.object ≡ desk.names.object → q.number ≡ desk.names.number → pass some (with_names desk q) t ≡ pass some desk t
  pass_named some desk q t o n = λ k. slice_index_or desk.slots t (unused (record { id = (o k).id; start = some; passes = (o k).passes }) (n k))
