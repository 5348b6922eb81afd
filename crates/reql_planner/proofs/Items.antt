-- Items of a feed, by its arms.
use Rattle.std.proofs.Common.{◌≡◌, List, [], ◌∷◌, ℕ, map, get_or, refl, ap, ◌∙◌}
use Rattle.reql_plan_spec.specs.Move as plans
use Rattle.reql_session_spec.specs.Requests as story
use Rattle.reql_session_api.specs.Meant.{shown_of as shown_said, no_arm}
use Rattle.reql_session_api.specs.declared.answered.Shown.{Shown}
use Rattle.reql_query_session_spec.specs.Told.{shown_of as shown_told, arm_of as arm_told}
use Rattle.reql_planner.specs.Items.{Bare, bare_of, bare_in}

abbrev armed : List story.Arm → Bare → story.Shown
armed arms b = record { at = b.at; arm = get_or arms b.at no_arm; sort = b.sort; stamp = b.stamp; item = b.item }

said_all : (arms : List story.Arm) (xs : List Shown) → map (shown_said arms) xs ≡ map (armed arms) (map bare_of xs)
said_all arms [] = refl
said_all arms (x ∷ xs) = ap (λ (ys : List story.Shown). shown_said arms x ∷ ys) (said_all arms xs)

told_all : (arms : List story.Arm) (xs : List plans.Item) → map (armed arms) (map bare_in xs) ≡ map (shown_told arms) xs
told_all arms [] = refl
told_all arms (x ∷ xs) = ap (λ (ys : List story.Shown). shown_told arms x ∷ ys) (told_all arms xs)

items_same : (arms : List story.Arm) (xs : List Shown) (ys : List plans.Item) → map bare_of xs ≡ map bare_in ys → map (shown_said arms) xs ≡ map (shown_told arms) ys
items_same arms xs ys is = said_all arms xs ∙ ap (λ (bs : List Bare). map (armed arms) bs) is ∙ told_all arms ys

pub fed : (arms : List story.Arm) (seen notes : List ℕ) (xs : List Shown) (known : List plans.Arm) (ys : List plans.Item) → seen ≡ notes → arms ≡ map arm_told known → map bare_of xs ≡ map bare_in ys
    → story.Feed arms seen (map (shown_said arms) xs) ≡ story.Feed (map arm_told known) notes (map (shown_told (map arm_told known)) ys)
fed arms seen notes xs known ys noted is same = ap (λ (zs : List story.Shown). story.Feed arms seen zs) (items_same arms xs ys same)
    ∙ (ap (λ (zs : List story.Arm). story.Feed zs seen (map (shown_told zs) ys)) is ∙ ap (λ (ns : List ℕ). story.Feed (map arm_told known) ns (map (shown_told (map arm_told known)) ys)) noted)
