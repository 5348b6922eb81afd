-- A term that is read has what its operators take, each option once: a JSON object has each name once, in order.
use Rattle.std.proofs.Common.{◌≡◌, ℕ, suc, List, [], ◌∷◌, Bool, true, false, ◌&&◌, not, cond, is_some, Option, Some, None, option_map, option_and_then, Result, Ok, Err, ◌⊎◌, inl, inr, nat_eq, Ordering, Less, Equal, Greater, refl, sym, ap, subst, ◌∙◌, is_eq, if◌then◌else◌}
use Rattle.std.specs.Ordering.{nat_cmp, match_ordering, ordering_reverse}
use Rattle.std.specs.Cmp.Lexicographic.{slice_cmp}
use Rattle.std.proofs.lemmas.Cmp.{nat_list_cmp_total}
use Rattle.json.specs.Json as text
use Rattle.serde_json.specs.Data as json
use Rattle.serde_json.specs.Data.{put}
use Rattle.serde_json.specs.Find.{get_member}
use Rattle.serde_json.specs.Read as numbers
use Rattle.serde_json.specs.Read.{of_json, of_items, of_members}
use Rattle.reql_datum.specs.Answer.{◌>>=◌}
use Rattle.reql_datum.specs.Members.{text_order}
use Rattle.reql_datum.specs.Plain.{Plain}
use Rattle.reql_term.specs.Form.{Form, literal, several, keyed, variable, implicit, function, operation, Forms, NamedForms, forms_of, named_of}
use Rattle.reql_term.specs.Table.{fits, takes, number_of}
use Rattle.reql_term.specs.declared.op.Op.{Op}
use Rattle.reql_term.specs.declared.op.Op.TheVariants as op
use Rattle.reql_faults.specs.Places.{count, option}
use Rattle.reql_plan_spec.specs.Follows.{takes_all}
use Rattle.reql_plan_spec.specs.Opens.{is_asked, are_asked, fields_asked}
use Rattle.reql_read.specs.Reading.{or_left_out, op_named, counted, all_taken, checked, literal_of, read, read_all, read_named}
use Rattle.reql_read.specs.Shape.{number_in, kind_of, object_of, id_of, ids_of, term_of, shaped, shaped_term, shaped_all, shaped_named}
use Rattle.reql_json.specs.Reading.{document, reserved}
use Rattle.reql_read.specs.Written as w
use Rattle.reql_read.specs.Written.{Names, Written, Parts, NamedParts, count_of, names_of}
use Rattle.reql_json.specs.declared.fault.JsonFault.{JsonFault}
use Rattle.reql_read.specs.declared.fault.ReadFault.{ReadFault}

abbrev pub given : {A : Type 0} → A → Result A ReadFault
given x = Ok x

pub inside : {A : Type 0} (x y : A) → given x ≡ given y → x ≡ y
inside x y h = cc

module _ {A B : Type 0} where
  pub bound : (a : Result A ReadFault) (k : A → Result B ReadFault) (y : B) → (a >>= k) ≡ Ok y → (x : A) × (a ≡ Ok x) × (k x ≡ Ok y)
  bound (Ok x) k y h = (x, refl, h)
  bound (Err e) k y h = cc

  mapped : (f : A → B) (a : Option A) (y : B) → option_map f a ≡ Some y → (x : A) × (a ≡ Some x) × (f x ≡ y)
  mapped f None y h = absurd (cc (h))
  mapped f (Some x) y h = (x, refl, cc)

  pub chained : (f : A → Option B) (a : Option A) (y : B) → option_and_then f a ≡ Some y → (x : A) × (a ≡ Some x) × (f x ≡ Some y)
  chained f None y h = absurd (cc (h))
  chained f (Some x) y h = (x, refl, h)

some_same : {A : Type 0} (x y : A) → Some x ≡ Some y → x ≡ y
some_same x y h = cc

-- ---- names that rise
abbrev Above : List ℕ → Names → Type 0
Above k [] = Unit {0}
Above k (l ∷ ls) = (text_order k l ≡ Less) × Above k ls

abbrev names_in : json.Members → Names
names_in json.no_members = []
names_in (json.member k d ms) = k ∷ names_in ms

abbrev mutual
  pub Rises : json.Data → Type 0
  Rises (json.array ds) = AllRise ds
  Rises (json.object ms) = MembersRise ms
  Rises d = Unit {0}

  pub AllRise : json.Items → Type 0
  AllRise json.no_items = Unit {0}
  AllRise (json.item d ds) = Rises d × AllRise ds

  MembersRise : json.Members → Type 0
  MembersRise json.no_members = Unit {0}
  MembersRise (json.member k d ms) = Above k (names_in ms) × (Rises d × MembersRise ms)

flip : (k l : List ℕ) → text_order k l ≡ Greater → text_order l k ≡ Less
flip k l h = nat_list_cmp_total.antisymm l k ∙ ap ordering_reverse h

all_above : (k l : List ℕ) (ls : Names) → text_order k l ≡ Less → Above l ls → Above k ls
all_above k l [] h all = tt
all_above k l (y ∷ ys) h all = (nat_list_cmp_total.trans k l y h all.0, all_above k l ys h all.1)

above_by : (o : Ordering) (l k m : List ℕ) (d e : json.Data) (ms rest : json.Members) → text_order l k ≡ Less → text_order l m ≡ Less → Above l (names_in ms) → Above l (names_in rest)
    → Above l (names_in (match_ordering o (json.member k d (json.member m e ms)) (json.member m d ms) (json.member m e rest)))
above_by Less l k m d e ms rest a b all more = (a, (b, all))
above_by Equal l k m d e ms rest a b all more = (b, all)
above_by Greater l k m d e ms rest a b all more = (b, more)

put_above : (l k : List ℕ) (d : json.Data) (ms : json.Members) → text_order l k ≡ Less → Above l (names_in ms) → Above l (names_in (put k d ms))
put_above l k d json.no_members h all = (h, tt)
put_above l k d (json.member m e ms) h all = above_by (slice_cmp nat_cmp k m) l k m d e ms (put k d ms) h all.0 all.1 (put_above l k d ms h all.1)

rise_by : (o : Ordering) (k m : List ℕ) (d e : json.Data) (ms rest : json.Members) → text_order k m ≡ o → Rises d → Above m (names_in ms) → Rises e → MembersRise ms
    → (text_order m k ≡ Less → Above m (names_in rest)) → MembersRise rest → MembersRise (match_ordering o (json.member k d (json.member m e ms)) (json.member m d ms) (json.member m e rest))
rise_by Less k m d e ms rest is up all f more above risen = ((is, all_above k m (names_in ms) is all), (up, (all, (f, more))))
rise_by Equal k m d e ms rest is up all f more above risen = (all, (up, more))
rise_by Greater k m d e ms rest is up all f more above risen = (above (flip k m is), (f, risen))

put_rises : (k : List ℕ) (d : json.Data) (ms : json.Members) → Rises d → MembersRise ms → MembersRise (put k d ms)
put_rises k d json.no_members up all = (tt, (up, tt))
put_rises k d (json.member m e ms) up all =
    rise_by (slice_cmp nat_cmp k m) k m d e ms (put k d ms) refl up all.0 all.1.0 all.1.1 (λ h. put_above m k d ms h all.0) (put_rises k d ms up all.1.1)

mutual
  pub json_rises : (j : text.Json) (d : json.Data) → of_json j ≡ Some d → Rises d
  json_rises text.null d h = subst Rises (some_same json.null d h) tt
  json_rises (text.boolean b) d h = subst Rises (some_same (json.boolean b) d h) tt
  json_rises (text.number s) d h = let a = mapped json.number (numbers.number_of s) d h in subst Rises a.2 tt
  json_rises (text.string s) d h = subst Rises (some_same (json.string s) d h) tt
  json_rises (text.array js) d h = let a = mapped json.array (of_items js) d h in subst Rises a.2 (items_rise js a.0 a.1)
  json_rises (text.object ms) d h = let a = mapped json.object (of_members ms json.no_members) d h in subst Rises a.2 (members_rise ms json.no_members a.0 tt a.1)

  items_rise : (js : text.Items) (ds : json.Items) → of_items js ≡ Some ds → AllRise ds
  items_rise text.no_items ds h = subst AllRise (some_same json.no_items ds h) tt
  items_rise (text.item j js) ds h =
      let a = chained (λ d. option_map (json.item d) (of_items js)) (of_json j) ds h in
      let b = mapped (json.item a.0) (of_items js) ds a.2 in
      subst AllRise b.2 (json_rises j a.0 a.1, items_rise js b.0 b.1)

  members_rise : (js : text.Members) (found ms : json.Members) → MembersRise found → of_members js found ≡ Some ms → MembersRise ms
  members_rise text.no_members found ms up h = subst MembersRise (some_same found ms h) up
  members_rise (text.member k j js) found ms up h =
      let a = chained (λ d. of_members js (put k d found)) (of_json j) ms h in
      members_rise js (put k a.0 found) ms (put_rises k a.0 found (json_rises j a.0 a.1) up) a.2

-- ---- what is written
abbrev mutual
  Good : Written → Type 0
  Good (w.value d) = Unit {0}
  Good (w.array ws names) = AllGood ws
  Good (w.object ws) = NamedGood ws
  Good (w.variable id names) = Unit {0}
  Good (w.row names) = Unit {0}
  Good (w.function ids id_names body names) = Unit {0}
  Good (w.call n args opts) = AllGood args × NamedGood opts

  AllGood : Parts → Type 0
  AllGood w.no_parts = Unit {0}
  AllGood (w.part v vs) = Good v × AllGood vs

  NamedGood : NamedParts → Type 0
  NamedGood w.no_named = Unit {0}
  NamedGood (w.named k v vs) = Above k (names_of vs) × (Good v × NamedGood vs)

chosen : (b : Bool) (ms : json.Members) (ws : NamedParts) → NamedGood ws → Good (if b then w.value (json.object ms) else w.object ws)
chosen true ms ws g = tt
chosen false ms ws g = g

called : (n : ℕ) (ws : Parts) (os : NamedParts) (v : Written) → AllGood ws → NamedGood os → given (w.call n ws os) ≡ Ok v → Good v
called n ws os v all opts h = subst Good (inside (w.call n ws os) v h) (all, opts)

bool_cases : (b : Bool) → (b ≡ true) ⊎ (b ≡ false)
bool_cases true = inl refl
bool_cases false = inr refl

module _ (n : ℕ) (ms : json.Members) (os : NamedParts) (v : Written) (opts : NamedGood os) where
  abbrev AsKind : Parts → Type 0
  AsKind ws = AllGood ws → term_of (kind_of n) n ws ms os ≡ Ok v → Good v

  as_array : (ws : Parts) → AllGood ws → given (w.array ws (names_of os)) ≡ Ok v → Good v
  as_array ws all h = subst Good (inside (w.array ws (names_of os)) v h) all

  as_object : given (object_of ms os) ≡ Ok v → Good v
  as_object h = subst Good (inside (object_of ms os) v h) (chosen (is_some (get_member reserved ms)) ms os opts)

  as_row : given (w.row (names_of os)) ≡ Ok v → Good v
  as_row h = subst Good (inside (w.row (names_of os)) v h) tt

  as_variable : (u : Written) → (id_of u >>= λ k. given (w.variable k (names_of os))) ≡ Ok v → Good v
  as_variable u h = let a = bound (id_of u) _ v h in subst Good (inside (w.variable a.0 (names_of os)) v a.2) tt

  as_function : (u t : Written) → (ids_of u >>= λ ks. given (w.function ks.0 ks.1 t (names_of os))) ≡ Ok v → Good v
  as_function u t h = let a = bound (ids_of u) _ v h in subst Good (inside (w.function a.0.0 a.0.1 t (names_of os)) v a.2) tt

  as_call : (ws : Parts) → AllGood ws → given (w.call n ws os) ≡ Ok v → Good v
  as_call ws all h = called n ws os v all opts h

  term_good : (ws : Parts) → AsKind ws
  unfolding kind_of
  term_good w.no_parts all h =
      elim (bool_cases (nat_eq n (number_of op.MakeArray))) [
        | inl a ↦ as_array w.no_parts all (rw a at h)
        | inr a ↦
            elim (bool_cases (nat_eq n (number_of op.MakeObj))) [
              | inl b ↦ as_object (rw (a, b) at h)
              | inr b ↦
                  elim (bool_cases (nat_eq n (number_of op.Var))) [
                    | inl c ↦ as_call w.no_parts all (rw (a, b, c) at h)
                    | inr c ↦
                        elim (bool_cases (nat_eq n (number_of op.ImplicitVar))) [
                          | inl d ↦ as_row (rw (a, b, c, d) at h)
                          | inr d ↦
                              elim (bool_cases (nat_eq n (number_of op.Func))) [
                                | inl e ↦ as_call w.no_parts all (rw (a, b, c, d, e) at h)
                                | inr e ↦
                                    as_call w.no_parts all (rw (a, b, c, d, e) at h)
                              ]
                        ]
                  ]
            ]
      ]
  term_good (w.part u w.no_parts) all h =
      elim (bool_cases (nat_eq n (number_of op.MakeArray))) [
        | inl a ↦ as_array (w.part u w.no_parts) all (rw a at h)
        | inr a ↦
            elim (bool_cases (nat_eq n (number_of op.MakeObj))) [
              | inl b ↦ as_call (w.part u w.no_parts) all (rw (a, b) at h)
              | inr b ↦
                  elim (bool_cases (nat_eq n (number_of op.Var))) [
                    | inl c ↦ as_variable u (rw (a, b, c) at h)
                    | inr c ↦
                        elim (bool_cases (nat_eq n (number_of op.ImplicitVar))) [
                          | inl d ↦ as_call (w.part u w.no_parts) all (rw (a, b, c, d) at h)
                          | inr d ↦
                              elim (bool_cases (nat_eq n (number_of op.Func))) [
                                | inl e ↦ as_call (w.part u w.no_parts) all (rw (a, b, c, d, e) at h)
                                | inr e ↦
                                    as_call (w.part u w.no_parts) all (rw (a, b, c, d, e) at h)
                              ]
                        ]
                  ]
            ]
      ]
  term_good (w.part u (w.part t w.no_parts)) all h =
      elim (bool_cases (nat_eq n (number_of op.MakeArray))) [
        | inl a ↦ as_array (w.part u (w.part t w.no_parts)) all (rw a at h)
        | inr a ↦
            elim (bool_cases (nat_eq n (number_of op.MakeObj))) [
              | inl b ↦ as_call (w.part u (w.part t w.no_parts)) all (rw (a, b) at h)
              | inr b ↦
                  elim (bool_cases (nat_eq n (number_of op.Var))) [
                    | inl c ↦ as_call (w.part u (w.part t w.no_parts)) all (rw (a, b, c) at h)
                    | inr c ↦
                        elim (bool_cases (nat_eq n (number_of op.ImplicitVar))) [
                          | inl d ↦ as_call (w.part u (w.part t w.no_parts)) all (rw (a, b, c, d) at h)
                          | inr d ↦
                              elim (bool_cases (nat_eq n (number_of op.Func))) [
                                | inl e ↦ as_function u t (rw (a, b, c, d, e) at h)
                                | inr e ↦
                                    as_call (w.part u (w.part t w.no_parts)) all (rw (a, b, c, d, e) at h)
                              ]
                        ]
                  ]
            ]
      ]
  term_good (w.part u (w.part t (w.part r rs))) all h =
      elim (bool_cases (nat_eq n (number_of op.MakeArray))) [
        | inl a ↦ as_array (w.part u (w.part t (w.part r rs))) all (rw a at h)
        | inr a ↦
            elim (bool_cases (nat_eq n (number_of op.MakeObj))) [
              | inl b ↦ as_call (w.part u (w.part t (w.part r rs))) all (rw (a, b) at h)
              | inr b ↦
                  elim (bool_cases (nat_eq n (number_of op.Var))) [
                    | inl c ↦ as_call (w.part u (w.part t (w.part r rs))) all (rw (a, b, c) at h)
                    | inr c ↦
                        elim (bool_cases (nat_eq n (number_of op.ImplicitVar))) [
                          | inl d ↦ as_call (w.part u (w.part t (w.part r rs))) all (rw (a, b, c, d) at h)
                          | inr d ↦
                              elim (bool_cases (nat_eq n (number_of op.Func))) [
                                | inl e ↦ as_call (w.part u (w.part t (w.part r rs))) all (rw (a, b, c, d, e) at h)
                                | inr e ↦
                                    as_call (w.part u (w.part t (w.part r rs))) all (rw (a, b, c, d, e) at h)
                              ]
                        ]
                  ]
            ]
      ]

mutual
  good : (d : json.Data) (v : Written) → Rises d → shaped d ≡ Ok v → Good v
  good json.null v up h = subst Good (inside (w.value json.null) v h) tt
  good (json.boolean b) v up h = subst Good (inside (w.value (json.boolean b)) v h) tt
  good (json.number n) v up h = subst Good (inside (w.value (json.number n)) v h) tt
  good (json.string s) v up h = subst Good (inside (w.value (json.string s)) v h) tt
  good (json.array ds) v up h = good_term ds v up h
  good (json.object ms) v up h =
      let a = bound (shaped_named ms) _ v h in
      subst Good (inside (object_of ms a.0) v a.2) (chosen (is_some (get_member reserved ms)) ms a.0 (good_named ms a.0 up a.1).0)

  good_term : (ds : json.Items) (v : Written) → AllRise ds → shaped_term ds ≡ Ok v → Good v
  good_term json.no_items v up h = cc
  good_term (json.item n json.no_items) v up h =
      let a = bound (number_in n) _ v h in
      term_good a.0 json.no_members w.no_named v tt w.no_parts tt a.2
  good_term (json.item n (json.item (json.array args) json.no_items)) v up h =
      let a = bound (number_in n) _ v h in
      let b = bound (shaped_all args) _ v a.2 in
      term_good a.0 json.no_members w.no_named v tt b.0 (good_all args b.0 up.1.0 b.1) b.2
  good_term (json.item n (json.item (json.array args) (json.item (json.object ms) json.no_items))) v up h =
      let a = bound (number_in n) _ v h in
      let b = bound (shaped_all args) _ v a.2 in
      let c = bound (shaped_named ms) _ v b.2 in
      term_good a.0 ms c.0 v (good_named ms c.0 up.1.1.0 c.1).0 b.0 (good_all args b.0 up.1.0 b.1) c.2
  good_term (json.item n (json.item json.null ds)) v up h = cc
  good_term (json.item n (json.item (json.boolean b) ds)) v up h = cc
  good_term (json.item n (json.item (json.number m) ds)) v up h = cc
  good_term (json.item n (json.item (json.string s) ds)) v up h = cc
  good_term (json.item n (json.item (json.object ms) ds)) v up h = cc
  good_term (json.item n (json.item (json.array args) (json.item json.null ds))) v up h = cc
  good_term (json.item n (json.item (json.array args) (json.item (json.boolean b) ds))) v up h = cc
  good_term (json.item n (json.item (json.array args) (json.item (json.number m) ds))) v up h = cc
  good_term (json.item n (json.item (json.array args) (json.item (json.string s) ds))) v up h = cc
  good_term (json.item n (json.item (json.array args) (json.item (json.array es) ds))) v up h = cc
  good_term (json.item n (json.item (json.array args) (json.item (json.object ms) (json.item d ds)))) v up h = cc

  good_all : (ds : json.Items) (ws : Parts) → AllRise ds → shaped_all ds ≡ Ok ws → AllGood ws
  good_all json.no_items ws up h = subst AllGood (inside w.no_parts ws h) tt
  good_all (json.item d ds) ws up h =
      let a = bound (shaped d) (λ v. shaped_all ds >>= λ vs. Ok (w.part v vs)) ws h in
      let b = bound (shaped_all ds) (λ vs. Ok (w.part a.0 vs)) ws a.2 in
      subst AllGood (inside (w.part a.0 b.0) ws b.2) (good d a.0 up.0 a.1, good_all ds b.0 up.1 b.1)

  good_named : (ms : json.Members) (ws : NamedParts) → MembersRise ms → shaped_named ms ≡ Ok ws → NamedGood ws × (names_in ms ≡ names_of ws)
  good_named json.no_members ws up h = subst (λ x. NamedGood x × ([] ≡ names_of x)) (inside w.no_named ws h) (tt, refl)
  good_named (json.member k d ms) ws up h =
      let a = bound (shaped d) (λ v. shaped_named ms >>= λ vs. Ok (w.named k v vs)) ws h in
      let b = bound (shaped_named ms) (λ vs. Ok (w.named k a.0 vs)) ws a.2 in
      let more = good_named ms b.0 up.1.1 b.1 in
      subst (λ x. NamedGood x × (k ∷ names_in ms ≡ names_of x)) (inside (w.named k a.0 b.0) ws b.2)
      ((subst (Above k) more.1 up.0, (good d a.0 up.1.0 a.1, more.0)), ap (λ ks. k ∷ ks) more.1)

-- ---- what is read of it
both_are : (a b : Bool) → a ≡ true → b ≡ true → a && b ≡ true
both_are a b h k = rw (h, k) refl

abbrev names_held : List (List ℕ × Form) → Names
names_held [] = []
names_held (m ∷ ms) = m.0 ∷ names_held ms

not_there : (k : List ℕ) (ms : List (List ℕ × Form)) → Above k (names_held ms) → is_some (option k (named_of ms)) ≡ false
not_there k [] h = refl
not_there k (m ∷ ms) h = rw h.0 (not_there k ms h.1)

kept : (b : Bool) (r : Result (Unit {0}) ReadFault) (e : ReadFault) → (if b then r else Err e) ≡ Ok tt → (b ≡ true) × (r ≡ Ok tt)
kept true r e h = (refl, h)
kept false r e h = cc

all_once : (o : Op) (ms : List (List ℕ × Form)) (vs : NamedParts) → NamedGood vs → names_held ms ≡ names_of vs → all_taken o (names_of vs) ≡ Ok tt → takes_all o (named_of ms) ≡ true
all_once o [] w.no_named g same t = refl
all_once o [] (w.named k v vs) g same t = absurd (cc (same))
all_once o (m ∷ ms) w.no_named g same t = absurd (cc (same))
all_once o (m ∷ ms) (w.named k v vs) g same t =
    let x = kept (takes o k) (all_taken o (names_of vs)) _ t in
    let name : m.0 ≡ k = cc in
    let rest : names_held ms ≡ names_of vs = cc in
    let above : Above m.0 (names_held ms) = subst (λ z. Above z (names_held ms)) (sym name) (subst (Above k) (sym rest) g.0) in
    let once : not (is_some (option m.0 (named_of ms))) ≡ true = rw (not_there m.0 ms above) refl in
    both_are (takes o m.0) (not (is_some (option m.0 (named_of ms))) && takes_all o (named_of ms)) (ap (takes o) name ∙ x.0)
    (both_are (not (is_some (option m.0 (named_of ms)))) (takes_all o (named_of ms)) once (all_once o ms vs g.1.1 rest x.1))

-- a call's operator takes so many arguments and these options
checked_op : (n c : ℕ) (ks : Names) (x : Op) → checked n c ks ≡ Ok x → (fits x c ≡ true) × (all_taken x ks ≡ Ok tt)
unfolding counted
checked_op n c ks x h =
    let a = bound (op_named n) _ x h in
    let b = bound (counted a.0 c) _ x a.2 in
    let d = bound (all_taken a.0 ks) _ x b.2 in
    let e = kept (fits a.0 c) (Ok tt) _ b.1 in
    subst (λ z. (fits z c ≡ true) × (all_taken z ks ≡ Ok tt)) (inside a.0 x d.2) (e.0, d.1)

literal_asked : (r : Result Plain JsonFault) (f : Form) → literal_of r ≡ Ok f → is_asked f ≡ true
literal_asked (Ok p) f h = subst (λ x. is_asked x ≡ true) (inside (literal p) f h) refl
literal_asked (Err e) f h = cc

mutual
  asked_by : (v : Written) (f : Form) → Good v → read v ≡ Ok f → is_asked f ≡ true
  asked_by (w.value d) f g h = literal_asked (document d) f h
  asked_by (w.array ws names) f g h =
      let a = bound (all_taken op.MakeArray names) _ f h in
      let b = bound (read_all ws) _ f a.2 in
      subst (λ x. is_asked x ≡ true) (inside (several (forms_of b.0)) f b.2) (all_asked ws b.0 g b.1).0
  asked_by (w.object ws) f g h =
      let a = bound (read_named ws) _ f h in
      subst (λ x. is_asked x ≡ true) (inside (keyed (named_of a.0)) f a.2) (named_asked ws a.0 g a.1).0
  asked_by (w.variable id names) f g h = let a = bound (all_taken op.Var names) _ f h in subst (λ x. is_asked x ≡ true) (inside (variable id) f a.2) refl
  asked_by (w.row names) f g h = let a = bound (all_taken op.ImplicitVar names) _ f h in subst (λ x. is_asked x ≡ true) (inside implicit f a.2) refl
  asked_by (w.function ids id_names body names) f g h =
      let a = bound (all_taken op.Func names) _ f h in
      let b = bound (all_taken op.MakeArray id_names) _ f a.2 in
      let c = bound (read body) _ f b.2 in
      subst (λ x. is_asked x ≡ true) (inside (function ids c.0) f c.2) refl
  asked_by (w.call n args opts) f g h =
      let a = bound (checked n (count_of args) (names_of opts)) _ f h in
      let b = bound (read_all args) _ f a.2 in
      let c = bound (read_named opts) _ f b.2 in
      let known = checked_op n (count_of args) (names_of opts) a.0 a.1 in
      let x = all_asked args b.0 g.0 b.1 in
      let y = named_asked opts c.0 g.1 c.1 in
      let counted : fits a.0 (count (forms_of b.0)) ≡ true = ap (fits a.0) x.1 ∙ known.0 in
      let taken : takes_all a.0 (named_of c.0) ≡ true = all_once a.0 c.0 opts g.1 y.1 known.1 in
      subst (λ x. is_asked x ≡ true) (inside (operation a.0 (forms_of b.0) (named_of c.0)) f c.2)
      (both_are (fits a.0 (count (forms_of b.0)) && takes_all a.0 (named_of c.0)) (are_asked (forms_of b.0) && fields_asked (named_of c.0))
      (both_are (fits a.0 (count (forms_of b.0))) (takes_all a.0 (named_of c.0)) counted taken) (both_are (are_asked (forms_of b.0)) (fields_asked (named_of c.0)) x.0 y.0))

  all_asked : (ws : Parts) (fs : List Form) → AllGood ws → read_all ws ≡ Ok fs → (are_asked (forms_of fs) ≡ true) × (count (forms_of fs) ≡ count_of ws)
  all_asked w.no_parts fs g h = subst (λ x. (are_asked (forms_of x) ≡ true) × (count (forms_of x) ≡ 0)) (inside [] fs h) (refl, refl)
  all_asked (w.part v vs) fs g h =
      let a = bound (read v) (λ f. read_all vs >>= λ rest. Ok (f ∷ rest)) fs h in
      let b = bound (read_all vs) (λ rest. Ok (a.0 ∷ rest)) fs a.2 in
      let more = all_asked vs b.0 g.1 b.1 in
      subst (λ x. (are_asked (forms_of x) ≡ true) × (count (forms_of x) ≡ suc (count_of vs))) (inside (a.0 ∷ b.0) fs b.2)
      (both_are (is_asked a.0) (are_asked (forms_of b.0)) (asked_by v a.0 g.0 a.1) more.0, ap suc more.1)

  named_asked : (ws : NamedParts) (ms : List (List ℕ × Form)) → NamedGood ws → read_named ws ≡ Ok ms → (fields_asked (named_of ms) ≡ true) × (names_held ms ≡ names_of ws)
  named_asked w.no_named ms g h = subst (λ x. (fields_asked (named_of x) ≡ true) × (names_held x ≡ [])) (inside [] ms h) (refl, refl)
  named_asked (w.named k v vs) ms g h =
      let a = bound (read v) (λ f. read_named vs >>= λ rest. Ok ((k, f) ∷ rest)) ms h in
      let b = bound (read_named vs) (λ rest. Ok ((k, a.0) ∷ rest)) ms a.2 in
      let more = named_asked vs b.0 g.1.1 b.1 in
      subst (λ x. (fields_asked (named_of x) ≡ true) × (names_held x ≡ k ∷ names_of vs)) (inside ((k, a.0) ∷ b.0) ms b.2)
      (both_are (is_asked a.0) (fields_asked (named_of b.0)) (asked_by v a.0 g.1.0 a.1) more.0, ap (λ ks. k ∷ ks) more.1)

-- what is read of a JSON value whose names rise
pub asked_of_data : (d : json.Data) (v : Written) (f : Form) → Rises d → shaped d ≡ Ok v → read v ≡ Ok f → is_asked f ≡ true
asked_of_data d v f up shape h = asked_by v f (good d v up shape) h
