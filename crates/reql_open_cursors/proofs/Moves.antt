-- A cursor or a feed goes on.
use Rattle.std.proofs.Common.{◌≡◌, ℕ, ◌<◌, true, List, [], ◌∷◌, map, drop, length, get_or, Some, Vec, Global, refl, sym, ap, subst, ◌∙◌, arith}
use Rattle.std.specs.Prelude.{nat_eq}
use Rattle.std.specs.Prelude.{set}
use Rattle.std.proofs.lemmas.List.{map-set, get_or-map, length-map, drop-map}
use Rattle.reql_session_api.specs.declared.answered.Shown as told
use Rattle.reql_session_api.specs.Meant.{arms_of, shown_of}
use Rattle.reql_session_spec.specs.Books as story
use Rattle.reql_session_spec.specs.Books.{cursor_of, feed_of}
use Rattle.reql_open_cursors.specs.Kept.{cursor_kept, feed_kept, cursor_on, feed_on, feed_at, items_left}
use Rattle.reql_open_cursors.specs.Apart.{AllApart, cursors_with, feeds_with}
use Rattle.reql_open_cursors.specs.declared.open.Cursor.{Cursor}
use Rattle.reql_open_cursors.specs.declared.open.Open.{Open}
use Rattle.reql_open_cursors.proofs.Places.{same_some, drop_later, set_is}

cursor_step : (c : Cursor) → cursor_kept (cursor_on c) ≡ record (cursor_kept c) { rest = drop c.batch (cursor_kept c).rest }
cursor_step c = ap (λ rest. record (cursor_kept c) { rest = rest }) (drop_later c.items c.from c.batch)

pub cursor_moved : (token : ℕ) (cs : List Cursor) (i : ℕ) (e : Cursor) (x : story.Cursor) → AllApart (map (λ y. y.token) (map cursor_kept cs)) → i < length cs → nat_eq (get_or cs i e).token token ≡ true
    → cursor_of token (map cursor_kept cs) ≡ Some (cursor_kept (get_or cs i e)) → cursor_of token (map cursor_kept cs) ≡ Some x
    → map cursor_kept (set cs i (cursor_on (get_or cs i e))) ≡ cursors_with token (drop x.batch x.rest) (map cursor_kept cs)
cursor_moved token cs i e x apart lt on there is =
    let c = get_or cs i e in
    let seen : get_or (map cursor_kept cs) i (cursor_kept e) ≡ cursor_kept c = get_or-map cursor_kept cs i e (cursor_kept e) lt in
    let same : cursor_kept c ≡ x = same_some (cursor_kept c) x (sym there ∙ is) in
    let long : i < length (map cursor_kept cs) = omega (arith, length-map cs cursor_kept) in
    map-set cursor_kept cs i (cursor_on c) ∙ ap (set (map cursor_kept cs) i) (cursor_step c)
    ∙ ap (λ y. set (map cursor_kept cs) i (record y { rest = drop (cursor_kept c).batch (cursor_kept c).rest })) (sym seen)
    ∙ set_is (λ y. y.token) token (λ (y : story.Cursor). record y { rest = drop (cursor_kept c).batch (cursor_kept c).rest }) (map cursor_kept cs) i (cursor_kept e) apart long (ap (λ y. nat_eq y.token token) seen ∙ on)
    ∙ ap (λ y. cursors_with token (drop y.batch y.rest) (map cursor_kept cs)) same

feed_left : (f : Open) → (feed_kept (feed_on f)).left ≡ drop f.batch (feed_kept f).left
feed_left f = ap (map (shown_of (arms_of f.arms.items))) (drop_later f.items.items f.from f.batch) ∙ sym (drop-map (shown_of (arms_of f.arms.items)) f.batch (drop f.from f.items.items))

feed_step : (c : Open) → feed_kept (feed_on c) ≡ record (feed_kept c) { left = drop c.batch (feed_kept c).left }
feed_step c = ap (λ left. record (feed_kept c) { left = left }) (feed_left c)

pub feed_moved : (token : ℕ) (cs : List Open) (i : ℕ) (e : Open) (x : story.Open) → AllApart (map (λ y. y.token) (map feed_kept cs)) → i < length cs → nat_eq (get_or cs i e).token token ≡ true
    → feed_of token (map feed_kept cs) ≡ Some (feed_kept (get_or cs i e)) → feed_of token (map feed_kept cs) ≡ Some x
    → map feed_kept (set cs i (feed_on (get_or cs i e))) ≡ feeds_with token (drop x.batch x.left) (map feed_kept cs)
feed_moved token cs i e x apart lt on there is =
    let c = get_or cs i e in
    let seen : get_or (map feed_kept cs) i (feed_kept e) ≡ feed_kept c = get_or-map feed_kept cs i e (feed_kept e) lt in
    let same : feed_kept c ≡ x = same_some (feed_kept c) x (sym there ∙ is) in
    let long : i < length (map feed_kept cs) = omega (arith, length-map cs feed_kept) in
    map-set feed_kept cs i (feed_on c) ∙ ap (set (map feed_kept cs) i) (feed_step c)
    ∙ ap (λ y. set (map feed_kept cs) i (record y { left = drop (feed_kept c).batch (feed_kept c).left })) (sym seen)
    ∙ set_is (λ y. y.token) token (λ (y : story.Open). record y { left = drop (feed_kept c).batch (feed_kept c).left }) (map feed_kept cs) i (feed_kept e) apart long (ap (λ y. nat_eq y.token token) seen ∙ on)
    ∙ ap (λ y. feeds_with token (drop y.batch y.left) (map feed_kept cs)) same

feed_put_step : (items : Vec told.Shown Global) (from : ℕ) (c : Open) → feed_kept (feed_at items from c) ≡ record (feed_kept c) { left = items_left (feed_kept c).arms items.items from }
feed_put_step items from c = refl

pub feed_filled : (items : Vec told.Shown Global) (from : ℕ) (token : ℕ) (cs : List Open) (i : ℕ) (e : Open) (x : story.Open) → AllApart (map (λ y. y.token) (map feed_kept cs)) → i < length cs → nat_eq (get_or cs i e).token token ≡ true
    → feed_of token (map feed_kept cs) ≡ Some (feed_kept (get_or cs i e)) → feed_of token (map feed_kept cs) ≡ Some x
    → map feed_kept (set cs i (feed_at items from (get_or cs i e))) ≡ feeds_with token (items_left x.arms items.items from) (map feed_kept cs)
feed_filled items from token cs i e x apart lt on there is =
    let c = get_or cs i e in
    let seen : get_or (map feed_kept cs) i (feed_kept e) ≡ feed_kept c = get_or-map feed_kept cs i e (feed_kept e) lt in
    let same : feed_kept c ≡ x = same_some (feed_kept c) x (sym there ∙ is) in
    let long : i < length (map feed_kept cs) = omega (arith, length-map cs feed_kept) in
    map-set feed_kept cs i (feed_at items from c) ∙ ap (set (map feed_kept cs) i) (feed_put_step items from c)
    ∙ ap (λ y. set (map feed_kept cs) i (record y { left = items_left (feed_kept c).arms items.items from })) (sym seen)
    ∙ set_is (λ y. y.token) token (λ (y : story.Open). record y { left = items_left (feed_kept c).arms items.items from }) (map feed_kept cs) i (feed_kept e) apart long (ap (λ y. nat_eq y.token token) seen ∙ on)
    ∙ ap (λ y. feeds_with token (items_left y.arms items.items from) (map feed_kept cs)) same

cursor_goes_core : (token : ℕ) (cs new : List Cursor) (i : ℕ) → i < length cs → ((e : Cursor) → nat_eq (get_or cs i e).token token ≡ true) → ((e : Cursor) → cursor_of token (map cursor_kept cs) ≡ Some (cursor_kept (get_or cs i e)))
    → ((e : Cursor) → new ≡ set cs i (cursor_on (get_or cs i e))) → (x : story.Cursor) → AllApart (map (λ y. y.token) (map cursor_kept cs)) → cursor_of token (map cursor_kept cs) ≡ Some x → map cursor_kept new ≡ cursors_with token (drop x.batch x.rest) (map cursor_kept cs)
cursor_goes_core token [] new i lt on there at x apart is = absurd (omega arith)
cursor_goes_core token (c ∷ cs) new i lt on there at x apart is = ap (map cursor_kept) (at c) ∙ cursor_moved token (c ∷ cs) i c x apart lt (on c) (there c) is

pub cursor_goes : (token : ℕ) (seen cs new : List Cursor) (i : ℕ) → seen ≡ cs → i < length seen → ((e : Cursor) → nat_eq (get_or seen i e).token token ≡ true) → ((e : Cursor) → cursor_of token (map cursor_kept seen) ≡ Some (cursor_kept (get_or seen i e)))
    → ((e : Cursor) → new ≡ set cs i (cursor_on (get_or cs i e))) → (x : story.Cursor) → AllApart (map (λ y. y.token) (map cursor_kept cs)) → cursor_of token (map cursor_kept cs) ≡ Some x → map cursor_kept new ≡ cursors_with token (drop x.batch x.rest) (map cursor_kept cs)
cursor_goes token seen cs new i same lt on there =
    subst (λ s. ((e : Cursor) → new ≡ set s i (cursor_on (get_or s i e))) → (x : story.Cursor) → AllApart (map (λ y. y.token) (map cursor_kept s)) → cursor_of token (map cursor_kept s) ≡ Some x → map cursor_kept new ≡ cursors_with token (drop x.batch x.rest) (map cursor_kept s)) same
    (cursor_goes_core token seen new i lt on there)

feed_goes_core : (token : ℕ) (cs new : List Open) (i : ℕ) → i < length cs → ((e : Open) → nat_eq (get_or cs i e).token token ≡ true) → ((e : Open) → feed_of token (map feed_kept cs) ≡ Some (feed_kept (get_or cs i e)))
    → ((e : Open) → new ≡ set cs i (feed_on (get_or cs i e))) → (x : story.Open) → AllApart (map (λ y. y.token) (map feed_kept cs)) → feed_of token (map feed_kept cs) ≡ Some x → map feed_kept new ≡ feeds_with token (drop x.batch x.left) (map feed_kept cs)
feed_goes_core token [] new i lt on there at x apart is = absurd (omega arith)
feed_goes_core token (c ∷ cs) new i lt on there at x apart is = ap (map feed_kept) (at c) ∙ feed_moved token (c ∷ cs) i c x apart lt (on c) (there c) is

pub feed_goes : (token : ℕ) (seen cs new : List Open) (i : ℕ) → seen ≡ cs → i < length seen → ((e : Open) → nat_eq (get_or seen i e).token token ≡ true) → ((e : Open) → feed_of token (map feed_kept seen) ≡ Some (feed_kept (get_or seen i e)))
    → ((e : Open) → new ≡ set cs i (feed_on (get_or cs i e))) → (x : story.Open) → AllApart (map (λ y. y.token) (map feed_kept cs)) → feed_of token (map feed_kept cs) ≡ Some x → map feed_kept new ≡ feeds_with token (drop x.batch x.left) (map feed_kept cs)
feed_goes token seen cs new i same lt on there =
    subst (λ s. ((e : Open) → new ≡ set s i (feed_on (get_or s i e))) → (x : story.Open) → AllApart (map (λ y. y.token) (map feed_kept s)) → feed_of token (map feed_kept s) ≡ Some x → map feed_kept new ≡ feeds_with token (drop x.batch x.left) (map feed_kept s)) same
    (feed_goes_core token seen new i lt on there)

feed_takes_core : (items : Vec told.Shown Global) (from : ℕ) (token : ℕ) (cs new : List Open) (i : ℕ) → i < length cs → ((e : Open) → nat_eq (get_or cs i e).token token ≡ true) → ((e : Open) → feed_of token (map feed_kept cs) ≡ Some (feed_kept (get_or cs i e)))
    → ((e : Open) → new ≡ set cs i (feed_at items from (get_or cs i e))) → (x : story.Open) → AllApart (map (λ y. y.token) (map feed_kept cs)) → feed_of token (map feed_kept cs) ≡ Some x → map feed_kept new ≡ feeds_with token (items_left x.arms items.items from) (map feed_kept cs)
feed_takes_core items from token [] new i lt on there at x apart is = absurd (omega arith)
feed_takes_core items from token (c ∷ cs) new i lt on there at x apart is = ap (map feed_kept) (at c) ∙ feed_filled items from token (c ∷ cs) i c x apart lt (on c) (there c) is

pub feed_takes : (items : Vec told.Shown Global) (from : ℕ) (token : ℕ) (seen cs new : List Open) (i : ℕ) → seen ≡ cs → i < length seen → ((e : Open) → nat_eq (get_or seen i e).token token ≡ true) → ((e : Open) → feed_of token (map feed_kept seen) ≡ Some (feed_kept (get_or seen i e)))
    → ((e : Open) → new ≡ set cs i (feed_at items from (get_or cs i e))) → (x : story.Open) → AllApart (map (λ y. y.token) (map feed_kept cs)) → feed_of token (map feed_kept cs) ≡ Some x → map feed_kept new ≡ feeds_with token (items_left x.arms items.items from) (map feed_kept cs)
feed_takes items from token seen cs new i same lt on there =
    subst (λ s. ((e : Open) → new ≡ set s i (feed_at items from (get_or s i e))) → (x : story.Open) → AllApart (map (λ y. y.token) (map feed_kept s)) → feed_of token (map feed_kept s) ≡ Some x → map feed_kept new ≡ feeds_with token (items_left x.arms items.items from) (map feed_kept s)) same
    (feed_takes_core items from token seen new i lt on there)
