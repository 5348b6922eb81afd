-- Plans of the feeds that a change touches.
use Rattle.std.proofs.Common.{◌≡◌, ◌+◌, ◌<◌, ℕ, suc, List, [], ◌∷◌, ◌++◌, length, Option, Some, None, refl, sym, ap, subst, ◌∙◌, arith, inl, inr}
use Rattle.std.specs.Prelude.{take, slice_set}
use Rattle.std.proofs.lemmas.List.{append-nil, take_more_set, length-take-le}
use Rattle.std.specs.List.{AllByRecursion}
use Rattle.reql_table_spec.specs.Table.{Held}
use Rattle.reql_term.specs.Views.{Document}
use Rattle.reql_write_spec.specs.Treated.{Changed}
use Rattle.reql_feeds.specs.Told.{IsReady, IsStill, IsAnswered, Planned}
use Rattle.reql_feeds.specs.declared.entry.Entry.{Entry}
use Rattle.reql_feeds.specs.Planning.{plan_of}
use Rattle.reql_feeds.specs.declared.prepared.Prepared.{Prepared}
use Rattle.reql_feeds.specs.declared.prepared.Plan.{Plan}

not_empty : {A : Type 0} (xs : List A) (x : A) → [] ≡ xs ++ x ∷ [] → ⊥
not_empty [] x e = cc
not_empty (y ∷ xs) x e = cc

module _ {F S : Type 0} (held : F → Held) (fits : F → List Document → Type 0) (installs : F → S → Type 0) (brings : F → S → List Document → Type 0) (x : Changed) (after : List Document) where
  -- one more feed, to which the change is nothing, or something
  pub plan_still : (at : ℕ) (es : List (Entry F)) (ps : List (Plan S)) (e : Entry F) → Planned held fits installs brings x after at es ps → IsStill held fits installs brings x after e
      → Planned held fits installs brings x after at (es ++ e ∷ []) ps
  plan_still at [] ps e p still = inl (still, p)
  plan_still at (f ∷ es) ps e (inl q) still = inl (q.0, plan_still (suc at) es ps e q.1 still)
  plan_still at (f ∷ es) ps e (inr q) still = inr (q.0, q.1, q.2, q.3, q.4, plan_still (suc at) es q.1 e q.5 still)

  pub plan_more : (at : ℕ) (es : List (Entry F)) (ps : List (Plan S)) (e : Entry F) (p : Plan S) → Planned held fits installs brings x after at es ps → p.place ≡ at + length es
      → IsReady held fits installs brings x after e p.prepared → Planned held fits installs brings x after at (es ++ e ∷ []) (ps ++ p ∷ [])
  plan_more at [] ps e p none place ready = inr (p, [], ap (λ l. l ++ p ∷ []) none, omega (arith, place), ready, refl)
  plan_more at (f ∷ es) ps e p (inl q) place ready = inl (q.0, plan_more (suc at) es ps e p q.1 (omega (arith, place)) ready)
  plan_more at (f ∷ es) ps e p (inr q) place ready = inr (q.0, q.1 ++ p ∷ [], ap (λ l. l ++ p ∷ []) q.2, q.3, q.4, plan_more (suc at) es q.1 e p q.5 (omega (arith, place)) ready)

  pub all_still : (at : ℕ) (es : List (Entry F)) (ps : List (Plan S)) → Planned held fits installs brings x after at es ps → ps ≡ [] → AllByRecursion (IsStill held fits installs brings x after) es
  all_still at [] ps p e = tt
  all_still at (f ∷ es) ps (inl q) e = (q.0, all_still (suc at) es ps q.1 e)
  all_still at (f ∷ es) ps (inr q) e = let h : q.0 ∷ q.1 ≡ [] = sym q.2 ∙ e in absurd (cc)

  -- the feed of the last plan
  pub record Last (at : ℕ) (es : List (Entry F)) (ps : List (Plan S)) (p : Plan S) : Type 0 where
    pub front : List (Entry F)
    pub entry : Entry F
    pub more : List (Entry F)
    pub is : es ≡ front ++ entry ∷ more
    pub place : p.place ≡ at + length front
    pub planned : Planned held fits installs brings x after at front ps
    pub ready : IsReady held fits installs brings x after entry p.prepared
    pub still : AllByRecursion (IsStill held fits installs brings x after) more

  last_first : (at : ℕ) (f : Entry F) (es : List (Entry F)) (ps : List (Plan S)) (p q : Plan S) (rest : List (Plan S)) → q ∷ rest ≡ ps ++ p ∷ [] → q.place ≡ at → IsReady held fits installs brings x after f q.prepared
      → Planned held fits installs brings x after (suc at) es rest
      → ((ps : List (Plan S)) → rest ≡ ps ++ p ∷ [] → Last (suc at) es ps p) → Last at (f ∷ es) ps p
  last_first at f es [] p q rest e place ready planned later =
      let first : q ≡ p = cc in
      let none : rest ≡ [] = cc in
      record {
        front = [];
        entry = f;
        more = es;
        is = refl;
        place = omega (arith, place, ap (λ (r : Plan S). r.place) first);
        planned = refl;
        ready = subst (λ (r : Plan S). IsReady held fits installs brings x after f r.prepared) first ready;
        still = all_still (suc at) es rest planned none;
      }
  last_first at f es (r ∷ ps) p q rest e place ready planned later =
      let first : q ≡ r = cc in
      let more : rest ≡ ps ++ p ∷ [] = cc in
      let l = later ps more in
      record {
        front = f ∷ l.front;
        entry = l.entry;
        more = l.more;
        is = ap (λ t. f ∷ t) l.is;
        place = omega (arith, l.place);
        planned = inr (q, ps, ap (λ t. t ∷ ps) (sym first), place, ready, l.planned);
        ready = l.ready;
        still = l.still;
      }

  pub last_plan : (at : ℕ) (es : List (Entry F)) (ps : List (Plan S)) (p : Plan S) (all : List (Plan S)) → all ≡ ps ++ p ∷ [] → Planned held fits installs brings x after at es all → Last at es ps p
  last_plan at [] ps p all e none = absurd (not_empty ps p (sym none ∙ e))
  last_plan at (f ∷ es) ps p all e (inl q) =
      let l = last_plan (suc at) es ps p all e q.1 in
      record {
        front = f ∷ l.front;
        entry = l.entry;
        more = l.more;
        is = ap (λ t. f ∷ t) l.is;
        place = omega (arith, l.place);
        planned = inl (q.0, l.planned);
        ready = l.ready;
        still = l.still;
      }
  last_plan at (f ∷ es) ps p all e (inr q) =
      last_first at f es ps p q.0 q.1 (sym q.2 ∙ e) q.3 q.4 q.5 (λ qs is. last_plan (suc at) es qs p q.1 is q.5)

  plan_answered : (es : List (Entry F)) (ps qs : List (Plan S)) (e : Entry F) (r : Option (Prepared S)) (place : ℕ) → Planned held fits installs brings x after 0 es ps → place ≡ length es → IsAnswered held fits installs brings x after e r
      → qs ≡ ps ++ plan_of place r → Planned held fits installs brings x after 0 (es ++ e ∷ []) qs
  plan_answered es ps qs e None place planned at still is =
      subst (Planned held fits installs brings x after 0 (es ++ e ∷ [])) (sym (append-nil ps) ∙ sym is) (plan_still 0 es ps e planned still)
  plan_answered es ps qs e (Some p) place planned at ready is =
      subst (Planned held fits installs brings x after 0 (es ++ e ∷ [])) (sym is) (plan_more 0 es ps e (record { place = place; prepared = p }) planned (omega (arith, at)) ready)

  pub plan_next : (es : List (Entry F)) (place : ℕ) (g : Entry F) (r : Option (Prepared S)) (ps qs : List (Plan S)) → place < length es → Planned held fits installs brings x after 0 (take place es) ps → IsAnswered held fits installs brings x after g r
      → qs ≡ ps ++ plan_of place r → Planned held fits installs brings x after 0 (take (place + 1) (slice_set es place g)) qs
  plan_next es place g r ps qs lt planned answer is =
      subst (λ (t : List (Entry F)). Planned held fits installs brings x after 0 t qs) (sym (take_more_set es place g lt))
      (plan_answered (take place es) ps qs g r place planned (sym (length-take-le place es (omega (arith, lt)))) answer is)
