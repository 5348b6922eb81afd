-- What is recovered after a crash is what a front of the records leads to.
use Rattle.std.proofs.Common.{◌≡◌, ℕ, List, [], ◌∷◌, ◌++◌, map, Option, Some, None, option_and_then, refl, sym, ap, ◌∙◌, subst, append_assoc, append-nil}
use Rattle.std.specs.List.{AllByRecursion}
use Rattle.reql_blocks.specs.Format.{StandsFor}
use Rattle.reql_blocks.specs.Laws.{StandOnce}
use Rattle.reql_records.specs.Bodies.{Text, Stands, body_of, joined}
use Rattle.reql_records.specs.Safe.{Between}
use Rattle.reql_table_records.specs.Laws.{CanBeWritten, ReadsBack}
use Rattle.reql_table_records.specs.Records.{Recorded, text_of}
use Rattle.reql_table_records.specs.Reading.{body_records}
use Rattle.reql_table_records.specs.Standing.{Standing, blank, after_record, after_records, after_body, after_bodies, stands}
use Rattle.reql_journal.specs.Safe.{Recovers, FrontsAreRecovered}

-- ---- lists of texts, taken back to the records

record Split (rs : List Recorded) (xs ys : List Text) : Type 0 where
  front : List Recorded
  back : List Recorded
  both : rs ≡ front ++ back
  first : map text_of front ≡ xs
  second : map text_of back ≡ ys

abbrev head_of : Text → List Text → Text
head_of x [] = x
head_of x (y ∷ ys) = y

abbrev tail_of : List Text → List Text
tail_of [] = []
tail_of (y ∷ ys) = ys

split_at : (rs : List Recorded) (xs ys : List Text) → map text_of rs ≡ xs ++ ys → Split rs xs ys
split_at rs [] ys e = record { front = []; back = rs; both = refl; first = refl; second = e }
split_at [] (x ∷ xs) ys e = absurd (let g : [] ≡ x ∷ (xs ++ ys) = e in cc)
split_at (r ∷ rs) (x ∷ xs) ys e =
    let s = split_at rs xs ys (ap tail_of e) in
    record {
      front = r ∷ s.front;
      back = s.back;
      both = ap (λ l. r ∷ l) s.both;
      first = ap (λ y. y ∷ map text_of s.front) (ap (head_of x) e) ∙ ap (λ l. x ∷ l) s.first;
      second = s.second;
    }

pub map_both : (rs qs : List Recorded) → map text_of (rs ++ qs) ≡ map text_of rs ++ map text_of qs
map_both [] qs = refl
map_both (r ∷ rs) qs = ap (λ l. text_of r ∷ l) (map_both rs qs)

cancel : (xs ys zs : List Text) → xs ++ ys ≡ xs ++ zs → ys ≡ zs
cancel [] ys zs e = e
cancel (x ∷ xs) ys zs e = cancel xs ys zs (ap tail_of e)

all_front : (rs qs : List Recorded) → AllByRecursion CanBeWritten (rs ++ qs) → AllByRecursion CanBeWritten rs
all_front [] qs h = tt
all_front (r ∷ rs) qs h = (h.0, all_front rs qs h.1)

all_back : (rs qs : List Recorded) → AllByRecursion CanBeWritten (rs ++ qs) → AllByRecursion CanBeWritten qs
all_back [] qs h = h
all_back (r ∷ rs) qs h = all_back rs qs h.1

-- ---- records and bodies, one part after another

then_records : (o : Option Standing) (rs qs : List Recorded) → ((v : Standing) → after_records v (rs ++ qs) ≡ option_and_then (λ u. after_records u qs) (after_records v rs))
    → option_and_then (λ v. after_records v (rs ++ qs)) o ≡ option_and_then (λ u. after_records u qs) (option_and_then (λ v. after_records v rs) o)
then_records None rs qs h = refl
then_records (Some v) rs qs h = h v

pub records_both : (t : Standing) (rs qs : List Recorded) → after_records t (rs ++ qs) ≡ option_and_then (λ u. after_records u qs) (after_records t rs)
records_both t [] qs = refl
records_both t (r ∷ rs) qs = then_records (after_record t r) rs qs (λ v. records_both v rs qs)

then_bodies : (o : Option Standing) (bs cs : List (List ℕ)) → ((v : Standing) → after_bodies v (bs ++ cs) ≡ option_and_then (λ u. after_bodies u cs) (after_bodies v bs))
    → option_and_then (λ v. after_bodies v (bs ++ cs)) o ≡ option_and_then (λ u. after_bodies u cs) (option_and_then (λ v. after_bodies v bs) o)
then_bodies None bs cs h = refl
then_bodies (Some v) bs cs h = h v

pub bodies_both : (t : Standing) (bs cs : List (List ℕ)) → after_bodies t (bs ++ cs) ≡ option_and_then (λ u. after_bodies u cs) (after_bodies t bs)
bodies_both t [] cs = refl
bodies_both t (b ∷ bs) cs = then_bodies (after_body t b) bs cs (λ v. bodies_both v bs cs)

module _ (back : ReadsBack) (once : StandOnce) where
  body_leads : (t : Standing) (rs : List Recorded) (group : List Text) → map text_of rs ≡ group → AllByRecursion CanBeWritten rs → after_body t (body_of group) ≡ after_records t rs
  body_leads t rs group e can =
      subst (λ g. after_body t (body_of g) ≡ after_records t rs) e (ap (option_and_then (after_records t)) (back rs can))

  none_lead : (t : Standing) (rs : List Recorded) → map text_of rs ≡ [] → Some t ≡ after_records t rs
  none_lead t [] e = refl
  none_lead t (r ∷ rs) e = absurd (let g : text_of r ∷ map text_of rs ≡ [] = e in cc)

  groups_from : (o : Option Standing) (groups : List (List Text)) (rs : List Recorded) → ((u : Standing) → after_bodies u (map body_of groups) ≡ after_records u rs)
      → option_and_then (λ u. after_bodies u (map body_of groups)) o ≡ option_and_then (λ u. after_records u rs) o
  groups_from None groups rs h = refl
  groups_from (Some t) groups rs h = h t

  groups_lead : (t : Standing) (groups : List (List Text)) (rs : List Recorded) → map text_of rs ≡ joined groups → AllByRecursion CanBeWritten rs → after_bodies t (map body_of groups) ≡ after_records t rs
  groups_lead t [] rs e can = none_lead t rs e
  groups_lead t (group ∷ groups) rs e can =
      let s = split_at rs group (joined groups) e in
      let can_both = subst (AllByRecursion CanBeWritten) s.both can in
      ap (option_and_then (λ u. after_bodies u (map body_of groups))) (body_leads t s.front group s.first (all_front s.front s.back can_both))
      ∙ (groups_from (after_records t s.front) groups s.back (λ u. groups_lead u groups s.back s.second (all_back s.front s.back can_both))
      ∙ (sym (records_both t s.front s.back) ∙ ap (after_records t) (sym s.both)))

  stand_for : (opened : List (List ℕ)) (t : Standing) (rs : List Recorded) (bytes : List ℕ) → stands opened ≡ Some t → AllByRecursion CanBeWritten rs → Stands opened (map text_of rs) bytes
      → (bodies : List (List ℕ)) → StandsFor bodies bytes → stands bodies ≡ after_records t rs
  stand_for opened t rs bytes is can s bodies h =
      ap stands (once bodies (opened ++ map body_of s.groups) bytes h s.blocks)
      ∙ (bodies_both blank opened (map body_of s.groups)
      ∙ (ap (option_and_then (λ u. after_bodies u (map body_of s.groups))) is ∙ groups_lead t s.groups rs s.all can))

  pub fronts_are_recovered : FrontsAreRecovered
  fronts_are_recovered opened t acknowledged more bytes is can b =
      let s = split_at more b.further b.lost (cancel (map text_of acknowledged) (map text_of more) (b.further ++ b.lost) (sym (map_both acknowledged more) ∙ b.split)) in
      let can_front : AllByRecursion CanBeWritten (acknowledged ++ s.front) = all_front (acknowledged ++ s.front) s.back (subst (AllByRecursion CanBeWritten) (ap (λ l. acknowledged ++ l) s.both ∙ sym (append_assoc acknowledged s.front s.back)) can) in
      let texts : map text_of acknowledged ++ b.further ≡ map text_of (acknowledged ++ s.front) = ap (λ l. map text_of acknowledged ++ l) (sym s.first) ∙ sym (map_both acknowledged s.front) in
      record {
        further = s.front;
        lost = s.back;
        split = s.both;
        stand = stand_for opened t (acknowledged ++ s.front) bytes is can_front (subst (λ l. Stands opened l bytes) texts b.stands);
      }
