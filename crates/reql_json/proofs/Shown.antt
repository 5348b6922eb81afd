-- The values of a list and the entries of a map, with what is still to come.
use Rattle.std.proofs.Common.{◌≡◌, List, [], ◌∷◌, ◌++◌, Bool, true, false, ◌&&◌, String, Global, string_bytes, refl, ap}
use Rattle.serde_json.specs.Data.{Items, item, no_items, Members, member, no_members}
use Rattle.serde_json.specs.View.{view, items_view, members_view}
use Rattle.serde_json.specs.declared.value.Value.{Value}
use Rattle.reql_json.proofs.Rising.{Entry}

abbrev pub items_with : List Value → Items → Items
items_with [] more = more
items_with (v ∷ vs) more = item (view v) (items_with vs more)

abbrev pub members_with : List Entry → Members → Members
members_with [] more = more
members_with (e ∷ es) more = member (string_bytes e.0) (view e.1) (members_with es more)

pub items_next : (vs : List Value) (v : Value) (more : Items) → items_with vs (item (view v) more) ≡ items_with (vs ++ v ∷ []) more
items_next [] v more = refl
items_next (u ∷ vs) v more = ap (item (view u)) (items_next vs v more)

pub members_next : (es : List Entry) (k : String Global) (v : Value) (more : Members) → members_with es (member (string_bytes k) (view v) more) ≡ members_with (es ++ (k, v) ∷ []) more
members_next [] k v more = refl
members_next (e ∷ es) k v more = ap (member (string_bytes e.0) (view e.1)) (members_next es k v more)

pub items_end : (vs : List Value) → items_with vs no_items ≡ items_view vs
items_end [] = refl
items_end (v ∷ vs) = ap (item (view v)) (items_end vs)

pub members_end : (es : List Entry) → members_with es no_members ≡ members_view es
members_end [] = refl
members_end (e ∷ es) = ap (member (string_bytes e.0) (view e.1)) (members_end es)

pub second : (a b : Bool) → (a && b) ≡ true → b ≡ true
second true b h = h
second false b h = cc
