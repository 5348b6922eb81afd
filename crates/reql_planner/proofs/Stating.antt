-- What a course has found, one more after another.
use Rattle.std.proofs.Common.{◌≡◌, ℕ, List, [], ◌∷◌, ◌++◌, map, Bool, true, false, None, refl, sym, ap, subst, ◌∙◌}
use Rattle.reql_term.specs.Views.{Document, Entry}
use Rattle.reql_rules.specs.Lists.{Bytes}
use Rattle.reql_table_spec.specs.Indexes.{Indexes}
use Rattle.reql_table_spec.specs.declared.limits.Limits.{Limits}
use Rattle.reql_plan_spec.specs.declared.parts.Plan.{Plan}
use Rattle.reql_plan_spec.specs.declared.parts.Setting.{Setting}
use Rattle.reql_plan_spec.specs.Course.{course, plan_next}
use Rattle.reql_plan_spec.specs.Move.{Heard}
use Rattle.reql_plan_spec.specs.Request.{Next, request}
use Rattle.reql_plan_steps.specs.Heard.{move_of as move_of_plan}
use Rattle.reql_plan_steps.specs.declared.moves.Move.{Move}
use Rattle.reql_plan.specs.Moved.{left_in, left_of, Moved}
use Rattle.reql_plan.specs.declared.course.Course.{Course}
use Rattle.reql_session_spec.specs.Requests as story
use Rattle.reql_session_api.specs.Meant.{found_of, heard_with, next_of}
use Rattle.reql_session_api.specs.declared.moves.Found.{Found}
use Rattle.reql_session_spec.specs.Tasks.{Keys}
use Rattle.reql_query_session_spec.specs.Told.{heard_of, move_of, setting_of, talk}
use Rattle.reql_planner.specs.Follows.{found_in, heard_in, is_none, is_answer, Follows, MayFollow}
use Rattle.reql_planner.specs.State.{state_of}
use Rattle.reql_planner.proofs.Onward.{begins, went}

one_more : {A B : Type 0} (f : A → B) (xs : List A) (x : A) → map f (xs ++ x ∷ []) ≡ map f xs ++ f x ∷ []
one_more f [] x = refl
one_more f (y ∷ xs) x = ap (λ (zs : List _). f y ∷ zs) (one_more f xs x)

module _ {V : Type 0} (documents : V → List Document) (indexes : V → Indexes) where
  pub found_one : (xs : List (Found V × Unit {0})) (x : Found V) → found_in documents indexes (xs ++ (x, tt) ∷ []) ≡ found_in documents indexes xs ++ found_of documents indexes x ∷ []
  found_one xs x = one_more (λ (y : Found V × Unit {0}). found_of documents indexes y.0) xs (x, tt)

  pub heard_one : (xs : List (Found V × Unit {0})) (x : Found V) → heard_in documents indexes (xs ++ (x, tt) ∷ []) ≡ heard_in documents indexes xs ++ heard_of (found_of documents indexes x) ∷ []
  heard_one xs x = ap (λ (fs : List story.Found). map heard_of fs) (found_one xs x) ∙ one_more heard_of (found_in documents indexes xs) (found_of documents indexes x)

  pub states : (p p' : Plan) (s s' : Setting) (xs xs' : List (Found V × Unit {0})) (x : Found V) → p' ≡ p → s' ≡ s → xs' ≡ xs ++ (x, tt) ∷ []
      → state_of documents indexes p' s' xs' ≡ heard_with (found_of documents indexes x) (state_of documents indexes p s xs)
  states p p' s s' xs xs' x plan setting seen = let found : found_in documents indexes xs' ≡ found_in documents indexes xs ++ found_of documents indexes x ∷ []
      = ap (λ (ys : List (Found V × Unit {0})). found_in documents indexes ys) seen ∙ found_one xs x in
      λ i. record { plan = plan i; noreply = (setting i).noreply; count = (setting i).opened; found = found i }

  pub moves : (keys : Keys) (limits : Limits) (p : Plan) (s : Setting) (xs : List (Found V × Unit {0})) (n : Next) (m : story.Move) → setting_of limits s.noreply s.opened ≡ s
      → n ≡ plan_next p s (heard_in documents indexes xs) → m ≡ move_of n → m ≡ next_of (talk keys limits) (state_of documents indexes p s xs)
  moves keys limits p s xs n m same goes is = is ∙ ap move_of (goes ∙ ap (λ (t : Setting). plan_next p t (heard_in documents indexes xs)) (sym same))

  by_none : (keys : Keys) (limits : Limits) (p : Plan) (s : Setting) (xs : List (Found V × Unit {0})) → is_none xs ≡ true → story.LookNames ≡ next_of (talk keys limits) (state_of documents indexes p s xs)
  by_none keys limits p s [] is = refl
  by_none keys limits p s (x ∷ xs) is = absurd (let f : false ≡ true = is in cc)

  pub begun : (keys : Keys) (limits : Limits) (p : Plan) (s : Setting) (xs : List (Found V × Unit {0})) (b : Bool) → b ≡ true → b ≡ is_none xs → story.LookNames ≡ next_of (talk keys limits) (state_of documents indexes p s xs)
  begun keys limits p s xs b is none = by_none keys limits p s xs (sym none ∙ is)

pub grown : {A : Type 0} (xs : List A) (x : A) → false ≡ is_none (xs ++ x ∷ [])
grown [] x = refl
grown (y ∷ ys) x = refl

pub grown_by : {A : Type 0} (xs ys : List A) (x : A) → ys ≡ xs ++ x ∷ [] → false ≡ is_none ys
grown_by {A = A} xs ys x is = grown xs x ∙ ap (λ (zs : List A). is_none zs) (sym is)

module _ {V : Type 0} (documents : V → List Document) (indexes : V → Indexes) (entries : V → Bytes → List Entry) where
  pub begun_so : (p q : Plan) (s : Setting) (c : Course V) (xs : List (Found V × Unit {0})) → q ≡ p → xs ≡ [] → left_of documents indexes entries c None ≡ request (course p s) → c.noreply ≡ s.noreply
      → Follows documents indexes entries q s (heard_in documents indexes xs) c
  begun_so p q s c xs same none left quiet = subst (λ (x : Plan). Follows documents indexes entries x s (heard_in documents indexes xs) c) (sym same)
      (subst (λ (ys : List (Found V × Unit {0})). Follows documents indexes entries p s (heard_in documents indexes ys) c) (sym none) (begins documents indexes entries p s c left quiet))

  abbrev Both : Move → Course V → Plan → Setting → List Heard → Type 0
  Both mv new p s hs = (move_of_plan mv ≡ plan_next p s hs) × MayFollow documents indexes entries p s hs (is_answer mv) new

  pub gone : (p p' : Plan) (s s' : Setting) (xs xs' : List (Found V × Unit {0})) (x : Found V) (was over : Bool) (old mid new : Course V) (h : Heard) (mv : Move)
      → was ≡ false → was ≡ over → p' ≡ p → s' ≡ s → xs' ≡ xs ++ (x, tt) ∷ [] → mid ≡ old → h ≡ heard_of (found_of documents indexes x)
      → MayFollow documents indexes entries p s (heard_in documents indexes xs) over old → Moved documents indexes entries mv new.waiting mid.noreply (left_in documents indexes entries mid.waiting h) → new.noreply ≡ mid.noreply
      → Both mv new p' s' (heard_in documents indexes xs')
  gone p p' s s' xs xs' x was over old mid new h mv not_over is_over plan setting seen same heard follows moved quiet =
      let hs : List Heard = heard_in documents indexes xs in
      let before : Follows documents indexes entries p s hs old = subst (λ (b : Bool). MayFollow documents indexes entries p s hs b old) (sym is_over ∙ not_over) follows in
      let at : Follows documents indexes entries p s hs mid = subst (λ (c : Course V). Follows documents indexes entries p s hs c) (sym same) before in
      let both : Both mv new p s (hs ++ h ∷ []) = went documents indexes entries p s hs mid new h mv at moved quiet in
      let all : hs ++ h ∷ [] ≡ heard_in documents indexes xs'
      = ap (λ (k : Heard). hs ++ k ∷ []) heard ∙ sym (ap (λ (ys : List (Found V × Unit {0})). heard_in documents indexes ys) seen ∙ heard_one documents indexes xs x) in
      subst (λ (q : Plan). Both mv new q s' (heard_in documents indexes xs')) (sym plan)
      (subst (λ (t : Setting). Both mv new p t (heard_in documents indexes xs')) (sym setting) (subst (λ (ks : List Heard). Both mv new p s ks) all both))

pub ruleset stating = (states, moves)
