-- Files in memory: the first of a name, and what is left once it is taken out.
use Rattle.std.proofs.Common.{◌≡◌, ◌≢◌, ◌⊎◌, inl, inr, ℕ, zero, suc, ◌<◌, ◌≤◌, List, [], ◌∷◌, length, map, get_or, Option, Some, None, Bool, true, false, cond, ltb, ◌&&◌, refl, sym, ap, subst, ◌∙◌, arith, rules}
use Rattle.std.proofs.lemmas.List.Quantifiers.{position-Some}
use Rattle.std.proofs.lemmas.List.Sums.{fails_before_first}
use Rattle.std.proofs.lemmas.Bool.{ltb-false}
use Rattle.std.proofs.lemmas.Slice.Eq.{bytes_eq-Decides}
use Rattle.std.specs.Prelude.{String, string_bytes, unwrap_or}
use Rattle.std.specs.List.{slice_index_or, remove, position, position_or_len}
use Rattle.std.specs.Str.{bytes_eq}
use Rattle.std.specs.declared.alloc.Global.{Global}
use Rattle.reql_outside.specs.Source.{is_sound}
use Rattle.reql_disk.specs.Disk.{seen}
use Rattle.reql_disk.specs.Files.{Gives}
use Rattle.reql_disk.specs.Memory.{Memory, told_of}
use Rattle.reql_disk.specs.Folder.{Folder, Named, disk_of, without, bytes_of, all_sound, told_of_files}

abbrev pub File : Type 0
File = String Global × Memory

abbrev pub named : File → Named
named f = (string_bytes f.0, f.1)

abbrev pub is : List ℕ → File → Bool
is name f = bytes_eq (string_bytes f.0) name

bool_cases : (b : Bool) → (b ≡ true) ⊎ (b ≡ false)
bool_cases true = inl refl
bool_cases false = inr refl

-- the first that has the name stands here
taken_at : (name : List ℕ) (files : List File) (d : File) (k : ℕ) → k < length files → is name (get_or files k d) ≡ true → ((j : ℕ) → j < k → is name (get_or files j d) ≡ false)
    → (disk_of name (map named files) ≡ Some (get_or files k d).1) × (without name (map named files) ≡ map named (remove files k))
taken_at name [] d k h here before = absurd (omega arith)
taken_at name (f ∷ files) d zero h here before = (rw here refl, rw here refl)
taken_at name (f ∷ files) d (suc k) h here before =
    let other : is name f ≡ false = before 0 (omega arith) in
    let rest = taken_at name files d k (omega arith) here (λ j l. before (suc j) (omega arith)) in
    (rw other rest.0, rw other (ap (λ (t : List Named). named f ∷ t) rest.1))

pub taken : (name : List ℕ) (files : List File) (d : File) (k : ℕ) → position (is name) files ≡ Some k
    → (disk_of name (map named files) ≡ Some (get_or files k d).1) × (without name (map named files) ≡ map named (remove files k))
taken name files d k at =
    let first = position-Some (is name) files k d at in
    taken_at name files d k first.0 first.1 first.2

none_at : (name : List ℕ) (files : List File) (d : File) → ((j : ℕ) → j < length files → is name (get_or files j d) ≡ false)
    → (disk_of name (map named files) ≡ None) × (without name (map named files) ≡ map named files)
none_at name [] d others = (refl, refl)
none_at name (f ∷ files) d others =
    let other : is name f ≡ false = others 0 (omega arith) in
    let rest = none_at name files d (λ j l. others (suc j) (omega arith)) in
    (rw other rest.0, rw other (ap (λ (t : List Named). named f ∷ t) rest.1))

is_past : (b : Bool) (n : ℕ) → cond b (Some n) None ≡ None → b ≡ false
is_past true n e = cc
is_past false n e = refl

pub none_there : (name : List ℕ) (files : List File) → position (is name) files ≡ None
    → (disk_of name (map named files) ≡ None) × (without name (map named files) ≡ map named files)
none_there name [] at = (refl, refl)
none_there name (f ∷ files) at =
    let past : length (f ∷ files) ≤ position_or_len (is name) (f ∷ files) = ltb-false (position_or_len (is name) (f ∷ files)) (length (f ∷ files)) (is_past (ltb (position_or_len (is name) (f ∷ files)) (length (f ∷ files))) (position_or_len (is name) (f ∷ files)) at) in
    none_at name (f ∷ files) f (λ j l. fails_before_first (is name) (f ∷ files) j f (omega arith))

-- ---- what is left
not_both : (a other name : List ℕ) → other ≢ name → bytes_eq a name ≡ true → bytes_eq a other ≡ false
not_both a other name differ is_name = search (rules, bytes_eq-Decides)

pub others_stay : (name other : List ℕ) (files : List Named) → other ≢ name → disk_of other (without name files) ≡ disk_of other files
others_stay name other [] differ = refl
others_stay name other (f ∷ files) differ = elim (bool_cases (bytes_eq f.0 name)) [
  | inl this ↦ rw (this, not_both f.0 other name differ this) refl
  | inr another ↦ rw another (ap (λ o. cond (bytes_eq f.0 other) (Some f.1) o) (others_stay name other files differ))
]

both : (a b : Bool) → (a && b) ≡ true → (a ≡ true) × (b ≡ true)
both true b e = (refl, e)
both false b e = absurd cc

joined : (a b : Bool) → a ≡ true → b ≡ true → (a && b) ≡ true
joined a b e f = rw e f

pub left_sound : (name : List ℕ) (files : List Named) → all_sound files ≡ true → all_sound (without name files) ≡ true
left_sound name [] e = refl
left_sound name (f ∷ files) e = elim (bool_cases (bytes_eq f.0 name)) [
  | inl this ↦ rw this (both (is_sound f.1.fails) (all_sound files) e).1
  | inr another ↦ let b = both (is_sound f.1.fails) (all_sound files) e in rw another (joined (is_sound f.1.fails) (all_sound (without name files)) b.0 (left_sound name files b.1))
]

case_of : (b : Bool) (o rest : Option Memory) (m : Memory) → cond b o rest ≡ Some m → (o ≡ Some m) ⊎ (rest ≡ Some m)
case_of true o rest m e = inl e
case_of false o rest m e = inr e

memory_is : (a b : Memory) → Some a ≡ Some b → a ≡ b
memory_is a b e = ap (λ (o : Option Memory). unwrap_or o a) e

pub taken_sound : (name : List ℕ) (files : List Named) (m : Memory) → all_sound files ≡ true → disk_of name files ≡ Some m → is_sound m.fails ≡ true
taken_sound name [] m e found = absurd cc
taken_sound name (f ∷ files) m e found = elim (case_of (bytes_eq f.0 name) (Some f.1) (disk_of name files) m found) [
  | inl w ↦ subst (λ (x : Memory). is_sound x.fails ≡ true) (memory_is f.1 m w) (both (is_sound f.1.fails) (all_sound files) e).0
  | inr w ↦ taken_sound name files m (both (is_sound f.1.fails) (all_sound files) e).1 w
]

-- ---- taking one out, as the code does
pub takes_none : (name : List ℕ) (held read : List File) (files : List Named) → map named held ≡ files → read ≡ held → position (is name) read ≡ None
    → (None ≡ disk_of name files) × (files ≡ without name files)
takes_none name held read files seen_as same at =
    let none = none_there name held (subst (λ (t : List File). position (is name) t ≡ None) same at) in
    (sym none.0 ∙ ap (disk_of name) seen_as, sym seen_as ∙ sym none.1 ∙ ap (without name) seen_as)

pub takes : (name : List ℕ) (held read after : List File) (files : List Named) (got : File) (k : ℕ) → map named held ≡ files → read ≡ held → position (is name) read ≡ Some k
    → got ≡ slice_index_or held k got → after ≡ remove held k → (Some got.1 ≡ disk_of name files) × (map named after ≡ without name files)
takes name held read after files got k seen_as same at got_is after_is =
    let some = taken name held got k (subst (λ (t : List File). position (is name) t ≡ Some k) same at) in
    (ap (λ (f : File). Some f.1) got_is ∙ sym some.0 ∙ ap (disk_of name) seen_as, ap (map named) after_is ∙ sym some.1 ∙ ap (without name) seen_as)

pub takes_sound : (name : List ℕ) (held read after : List File) (got : File) (k : ℕ) → read ≡ held → position (is name) read ≡ Some k
    → got ≡ slice_index_or held k got → after ≡ remove held k → all_sound (map named held) ≡ true → (all_sound (map named after) ≡ true) × (is_sound got.1.fails ≡ true)
takes_sound name held read after got k same at got_is after_is sound =
    let some = taken name held got k (subst (λ (t : List File). position (is name) t ≡ Some k) same at) in (
      subst (λ (fs : List Named). all_sound fs ≡ true) (some.1 ∙ ap (map named) (sym after_is)) (left_sound name (map named held) sound),
      taken_sound name (map named held) got.1 sound (some.0 ∙ ap (λ (f : File). Some f.1) (sym got_is)),
    )

-- ---- and opening what was taken out
some_is : (a b : List ℕ) → Some a ≡ Some b → a ≡ b
some_is a b e = ap (λ (o : Option (List ℕ)). unwrap_or o a) e

pub gives : (old mid new : Folder) (name : List ℕ) (m : Memory) → mid.files ≡ old.files → mid.faults ≡ old.faults → mid.sound ≡ old.sound
    → new.files ≡ without name mid.files → new.faults ≡ mid.faults → new.sound ≡ mid.sound
    → bytes_of (disk_of name mid.files) ≡ seen m.past → (mid.sound ≡ true → is_sound m.fails ≡ true) → Gives (told_of_files old) (told_of_files new) name (told_of m)
gives old mid new name m files faults sound left more same is never = record {
  reads = λ bytes e. (m.past, refl, sym is ∙ ap (λ (fs : List Named). bytes_of (disk_of name fs)) files ∙ some_is (bytes_of (disk_of name old.files)) bytes e);
  others = λ other differ. ap (λ (o : Option Memory). Some (bytes_of o)) (ap (disk_of other) left ∙ others_stay name other mid.files differ ∙ ap (disk_of other) files);
  disk_sound = λ s. never (sound ∙ s);
  faults = more ∙ faults;
  sound = same ∙ sound;
}
