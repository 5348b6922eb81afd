-- The variables in a frame, and lists of terms.
use Rattle.std.proofs.Common.{◌≡◌, ℕ, zero, suc, ◌+◌, ◌<◌, ◌≤◌, length, get_or, drop, map, List, [], ◌∷◌, Option, Some, None, Ok, Err, true, false, nat_eq, refl, ap, arith, add-one, ◌⊎◌, inl, inr}
use Rattle.std.specs.List.{zip}
use Rattle.std.proofs.lemmas.Bool.Decides.{nat_tests}
use Rattle.reql_datum.specs.Plain.{Plain}
use Rattle.reql_datum.specs.View.{plain}
use Rattle.reql_datum.specs.declared.datum.Datum.{Datum}
use Rattle.reql_value_spec.specs.World.{Vars, in_frame, bind, only}
use Rattle.reql_rules.specs.Faults.{wrong_count}

length_plains : (ds : List Datum) → length (map plain ds) ≡ length ds
length_plains [] = refl
length_plains (d ∷ ds) = ap suc (length_plains ds)

nothing : (ks : List ℕ) → zip {X = Plain} ks [] ≡ []
nothing [] = refl
nothing (k ∷ ks) = refl

passed_suc : (id : ℕ) (i : ℕ) (ids : List ℕ) (ds : List Plain) → i < length ids → i < length ds → nat_eq id (get_or ids i 0) ≡ false
    → in_frame id (zip (drop i ids) (drop i ds)) ≡ in_frame id (zip (drop (suc i) ids) (drop (suc i) ds))
passed_suc id zero (k ∷ ks) (e ∷ es) h j n = rw n
passed_suc id (suc i) (k ∷ ks) (e ∷ es) h j n = passed_suc id i ks es (omega arith) (omega arith) n
passed_suc id i [] ds h j n = absurd (omega arith)
passed_suc id i (k ∷ ks) [] h j n = absurd (omega arith)

differs : (a b : ℕ) → nat_eq a b ≡ false → nat_eq b a ≡ false
differs a b h = grind (arith, nat_tests)

-- a place in a frame that is another variable's is passed over
pub passed : (id : ℕ) (i : ℕ) (ids : List ℕ) (ds : List Datum) → i < length ids → i < length ds → nat_eq (get_or ids i 0) id ≡ false
    → in_frame id (zip (drop i ids) (drop i (map plain ds))) ≡ in_frame id (zip (drop (i + 1) ids) (drop (i + 1) (map plain ds)))
passed id i ids ds h j n = rw add-one (passed_suc id i ids (map plain ds) h (rw length_plains j) (differs _ _ n))

same : (a b : ℕ) → nat_eq a b ≡ true → nat_eq b a ≡ true
same a b h = grind (arith, nat_tests)

own_at : (id : ℕ) (i : ℕ) (ids : List ℕ) (ds : List Datum) (d : Datum) → i < length ids → i < length ds → nat_eq id (get_or ids i 0) ≡ true
    → in_frame id (zip (drop i ids) (drop i (map plain ds))) ≡ Some (plain (get_or ds i d))
own_at id zero (k ∷ ks) (e ∷ es) d h j n = rw n
own_at id (suc i) (k ∷ ks) (e ∷ es) d h j n = own_at id i ks es d (omega arith) (omega arith) n
own_at id i [] ds d h j n = absurd (omega arith)
own_at id i (k ∷ ks) [] d h j n = absurd (omega arith)

-- the variable's own place
pub own : (id : ℕ) (i : ℕ) (ids : List ℕ) (ds : List Datum) (d : Datum) → i < length ids → i < length ds → nat_eq (get_or ids i 0) id ≡ true
    → in_frame id (zip (drop i ids) (drop i (map plain ds))) ≡ Some (plain (get_or ds i d))
own id i ids ds d h j n = own_at id i ids ds d h j (same _ _ n)

-- past the end of a frame
pub outside : (id : ℕ) (i : ℕ) (ids : List ℕ) (ds : List Datum) → (length ids ≤ i) ⊎ (length ds ≤ i)
    → in_frame id (zip (drop i ids) (drop i (map plain ds))) ≡ None
outside id zero [] ds h = refl
outside id zero (k ∷ ks) [] h = refl
outside id zero (k ∷ ks) (e ∷ es) h = absurd (elim h [ inl a ↦ omega arith | inr a ↦ omega arith ])
outside id (suc i) [] ds h = refl
outside id (suc i) (k ∷ ks) [] h = rw (nothing (drop i ks))
outside id (suc i) (k ∷ ks) (e ∷ es) h = outside id i ks es (elim h [ inl a ↦ inl (omega arith) | inr a ↦ inr (omega arith) ])

pub bind_fits : (ids : List ℕ) (ds : List Datum) (vars : Vars) → length ids ≡ length ds → bind ids (map plain ds) vars ≡ Ok (zip ids (map plain ds) ∷ vars)
bind_fits ids ds vars h = (let e : nat_eq (length ids) (length (map plain ds)) ≡ true = rw (length_plains ds) (grind (arith, h, nat_tests)) in rw e)

pub bind_differs : (ids : List ℕ) (ds : List Datum) (vars : Vars) → (length ids ≡ length ds → ⊥) → bind ids (map plain ds) vars ≡ Err (wrong_count (length ids) (length (map plain ds)))
bind_differs ids ds vars h = (let e : nat_eq (length ids) (length (map plain ds)) ≡ false = rw (length_plains ds) (grind (arith, h, nat_tests)) in rw e)

pub only_one : (ids : List ℕ) (ds : List Datum) (d : Datum) → ((length ids ≡ 1) × (0 < length ds)) ⊎ ((length ds ≡ 1) × (0 < length ids)) → only (zip ids (map plain ds)) ≡ Some (plain (get_or ds 0 d))
only_one (k ∷ []) (e ∷ es) d h = refl
only_one (k ∷ j ∷ ks) (e ∷ []) d h = refl
only_one [] ds d h = absurd (elim h [ inl a ↦ (let x = a.0 in omega (arith, x)) | inr a ↦ (let x = a.1 in omega (arith, x)) ])
only_one (k ∷ ks) [] d h = absurd (elim h [ inl a ↦ (let x = a.1 in omega (arith, x)) | inr a ↦ (let x = a.0 in omega (arith, x)) ])
only_one (k ∷ j ∷ ks) (e ∷ f ∷ es) d h = absurd (elim h [ inl a ↦ (let x = a.0 in omega (arith, x)) | inr a ↦ (let x = a.0 in omega (arith, x)) ])

pub only_other : (ids : List ℕ) (ds : List Datum) → (((length ids ≡ 1) × (0 < length ds)) → ⊥) → (((length ds ≡ 1) × (0 < length ids)) → ⊥) → only (zip ids (map plain ds)) ≡ None
only_other [] ds h j = refl
only_other (k ∷ ks) [] h j = refl
only_other (k ∷ []) (e ∷ es) h j = absurd (h (refl, omega arith))
only_other (k ∷ j ∷ ks) (e ∷ []) h i = absurd (i (refl, omega arith))
only_other (k ∷ j ∷ ks) (e ∷ f ∷ es) h i = refl
