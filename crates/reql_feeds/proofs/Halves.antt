-- Feeds that are told of a change one after another, the last first.
use Rattle.std.proofs.Common.{◌≡◌, ◌+◌, ◌<◌, ℕ, suc, List, [], ◌∷◌, ◌++◌, map, length, refl, sym, ap, subst, ◌∙◌, arith}
use Rattle.std.specs.Prelude.{slice_index_or, slice_set}
use Rattle.std.specs.List.{All, AllZip, AllByRecursion}
use Rattle.std.proofs.lemmas.List.{append-nil, append_assoc, map-append, set_at, get_or_at, get_or-map, get_or_default, length-append, length-map}
use Rattle.reql_datum.specs.Plain.{Plain}
use Rattle.reql_datum.specs.View.{plain}
use Rattle.reql_table_spec.specs.Table.{Held}
use Rattle.reql_table_machine_spec.specs.Feeds.{Feed, push_all}
use Rattle.reql_term.specs.Views.{Document}
use Rattle.reql_write_spec.specs.Treated.{Changed}
use Rattle.reql_feeds.specs.Turn.{due}
use Rattle.reql_feeds.specs.Record.{record_of}
use Rattle.reql_feeds.specs.Keeps.{Sized, IsSized}
use Rattle.reql_feeds.specs.Seen.{seen, sized, all_sized}
use Rattle.reql_feeds.specs.Told.{stamped, noticed, IsReady, IsStill, Planned, Turns}
use Rattle.reql_feeds.specs.declared.entry.Entry.{Entry}
use Rattle.reql_feeds.specs.declared.prepared.Plan.{Plan}
use Rattle.reql_feeds.specs.declared.prepared.Prepared.{Prepared}
use Rattle.reql_feeds.proofs.Plans.{last_plan, all_still}
use Rattle.reql_feeds.proofs.Turned.{zip_append}

module _ {F S T : Type 0} (held : F → Held) (fits : F → List Document → Type 0) (installs : F → S → Type 0) (brings : F → S → List Document → Type 0) (reads : F → T → Type 0) (x : Changed) (after : List Document) (stamp : ℕ) where
  abbrev Told : Sized F → Sized F → Type 0
  Told = Turns held fits reads (noticed stamp x after) after

  nothing_pushed : (h : Held) (f : Feed Held Plain) → f.kept ≡ h → due h x after ≡ [] → f ≡ noticed stamp x after f
  nothing_pushed h f is none = ap (λ l. push_all f.kept.spec.size f (stamped (suc stamp) l)) (sym (ap (λ k. due k x after) is ∙ none))

  still_turns : (e : Entry F) → IsStill held fits installs brings x after e → Told (sized e) (sized e)
  still_turns e s = record {
    told = nothing_pushed (held e.kept) (record_of held (seen e)) refl s.none;
    stands = s.stays;
    finds = λ t r. r;
    asked = refl;
    number = refl;
    size = refl;
  }

  all_turn : (es : List (Entry F)) → AllByRecursion (IsStill held fits installs brings x after) es → AllZip Told (all_sized es) (all_sized es)
  all_turn [] s = tt
  all_turn (e ∷ es) s = (still_turns e s.0, all_turn es s.1)

  -- what a feed is after its plan was put into effect
  pub ready_turns : (e g : Entry F) (p : Prepared S) (next : ℕ) → IsReady held fits installs brings x after e p → next ≡ stamp + 1
      → record_of held (seen g) ≡ push_all (held e.kept).spec.size (record_of held (seen e)) (stamped next (map plain p.items))
      → ((docs : List Document) → brings e.kept p.step docs → fits g.kept docs) → ((t : T) → reads e.kept t → reads g.kept t)
      → held g.kept ≡ held e.kept → g.number ≡ e.number → g.queue.size ≡ e.queue.size → Told (sized e) (sized g)
  ready_turns e g p next ready is queued brought finds asked number size =
      let after_it : next ≡ suc stamp = omega (arith, is) in
      record {
        told = queued ∙ (λ i. push_all (held e.kept).spec.size (record_of held (seen e)) (stamped (after_it i) (ready.items i)));
        stands = brought after ready.comes;
        finds = finds;
        asked = asked;
        number = number;
        size = size;
      }

  -- the feeds at the front wait with their plans, and those behind have been told
  pub record Half (was now : List (Entry F)) (ps : List (Plan S)) : Type 0 where
    pub front : List (Entry F)
    pub back : List (Entry F)
    pub new : List (Entry F)
    pub was_is : was ≡ front ++ back
    pub now_is : now ≡ front ++ new
    pub turned : AllZip Told (all_sized back) (all_sized new)
    pub planned : Planned held fits installs brings x after 0 front ps

  pub half_begin : (es : List (Entry F)) (ps : List (Plan S)) → Planned held fits installs brings x after 0 es ps → Half es es ps
  half_begin es ps planned = record {
    front = es;
    back = [];
    new = [];
    was_is = sym (append-nil es);
    now_is = sym (append-nil es);
    turned = tt;
    planned = planned;
  }

  -- the feed of the next plan
  pub record Next (was now : List (Entry F)) (p : Plan S) : Type 0 where
    pub entry : Entry F
    pub within : p.place < length now
    pub at : (d : Entry F) → slice_index_or now p.place d ≡ entry
    pub before : (d : Entry F) → slice_index_or was p.place d ≡ entry
    pub below : p.place < length was
    pub ready : IsReady held fits installs brings x after entry p.prepared

  pub half_next : (was now : List (Entry F)) (ps : List (Plan S)) (p : Plan S) → Half was now (ps ++ p ∷ []) → Next was now p
  half_next was now ps p h =
      let l = last_plan held fits installs brings x after 0 h.front ps p (ps ++ p ∷ []) refl h.planned in
      let place : length l.front ≡ p.place = omega (arith, l.place) in
      let split : (rest : List (Entry F)) → h.front ++ rest ≡ l.front ++ l.entry ∷ (l.more ++ rest) = λ rest. ap (λ t. t ++ rest) l.is ∙ append_assoc l.front (l.entry ∷ l.more) rest in
      record {
        entry = l.entry;
        within = omega (arith, place, ap length (h.now_is ∙ split h.new), length-append l.front (l.entry ∷ (l.more ++ h.new)));
        at = λ d. ap (λ t. slice_index_or t p.place d) (h.now_is ∙ split h.new) ∙ get_or_at l.front l.entry (l.more ++ h.new) d p.place place;
        before = λ d. ap (λ t. slice_index_or t p.place d) (h.was_is ∙ split h.back) ∙ get_or_at l.front l.entry (l.more ++ h.back) d p.place place;
        below = omega (arith, place, ap length (h.was_is ∙ split h.back), length-append l.front (l.entry ∷ (l.more ++ h.back)));
        ready = l.ready;
      }

  pub half_step : (was now : List (Entry F)) (ps : List (Plan S)) (p : Plan S) (e g : Entry F) → Half was now (ps ++ p ∷ []) → e ≡ slice_index_or now p.place e → Told (sized e) (sized g) → Half was (slice_set now p.place g) ps
  half_step was now ps p e g h read turns =
      let l = last_plan held fits installs brings x after 0 h.front ps p (ps ++ p ∷ []) refl h.planned in
      let place : length l.front ≡ p.place = omega (arith, l.place) in
      let split : (rest : List (Entry F)) → h.front ++ rest ≡ l.front ++ l.entry ∷ (l.more ++ rest) = λ rest. ap (λ t. t ++ rest) l.is ∙ append_assoc l.front (l.entry ∷ l.more) rest in
      let there : e ≡ l.entry = read ∙ (ap (λ t. slice_index_or t p.place e) (h.now_is ∙ split h.new) ∙ get_or_at l.front l.entry (l.more ++ h.new) e p.place place) in
      let rest : AllZip Told (all_sized l.more ++ all_sized h.back) (all_sized l.more ++ all_sized h.new) =
      zip_append held fits reads (noticed stamp x after) after (all_sized l.more) (all_sized l.more) (all_sized h.back) (all_sized h.new) (all_turn l.more l.still) h.turned in
      record {
        front = l.front;
        back = l.entry ∷ (l.more ++ h.back);
        new = g ∷ (l.more ++ h.new);
        was_is = h.was_is ∙ split h.back;
        now_is = ap (λ t. slice_set t p.place g) (h.now_is ∙ split h.new) ∙ set_at l.front l.entry (l.more ++ h.new) g p.place place;
        turned = (subst (λ (y : Entry F). Told (sized y) (sized g)) there turns, subst (λ (t : List (Sized F) × List (Sized F)). AllZip Told t.0 t.1) (λ i. (sym (map-append sized l.more h.back) i, sym (map-append sized l.more h.new) i)) rest);
        planned = l.planned;
      }

  all_told : (es : List (Entry F)) (back new : List (Entry F)) → Planned held fits installs brings x after 0 es [] → AllZip Told (all_sized back) (all_sized new) → AllZip Told (all_sized (es ++ back)) (all_sized (es ++ new))
  all_told es back new planned turned = subst (λ (t : List (Sized F) × List (Sized F)). AllZip Told t.0 t.1) (λ i. (sym (map-append sized es back) i, sym (map-append sized es new) i))
      (zip_append held fits reads (noticed stamp x after) after (all_sized es) (all_sized es) (all_sized back) (all_sized new) (all_turn es (all_still held fits installs brings x after 0 es [] planned refl)) turned)

  -- all have been told
  pub half_end : (was now : List (Entry F)) → Half was now [] → AllZip Told (all_sized was) (all_sized now)
  half_end was now h = subst (λ (t : List (Entry F) × List (Entry F)). AllZip Told (all_sized t.0) (all_sized t.1)) (λ i. (sym h.was_is i, sym h.now_is i)) (all_told h.front h.back h.new h.planned h.turned)

  pub sized_at : (es : List (Entry F)) (place : ℕ) (e : Entry F) → All (IsSized held) (all_sized es) → place < length es → e ≡ slice_index_or es place e → IsSized held (sized e)
  sized_at es place e all lt read =
      let here : IsSized held (slice_index_or (all_sized es) place (sized e)) = all place (sized e) (omega (arith, lt, length-map es sized)) in
      subst (IsSized held) (get_or-map sized es place e (sized e) lt ∙ ap sized (sym read)) here

  -- what the next feed is, wherever it is read
  pub next_sized : (was now : List (Entry F)) (p : Plan S) (d : Entry F) → Next was now p → All (IsSized held) (all_sized was) → IsSized held (sized (slice_index_or now p.place d))
  next_sized was now p d n all = subst (λ (e : Entry F). IsSized held (sized e)) (sym (n.at d)) (sized_at was p.place n.entry all n.below (sym (n.before n.entry)))

  pub next_ready : (was now : List (Entry F)) (p : Plan S) (d : Entry F) → Next was now p → IsReady held fits installs brings x after (slice_index_or now p.place d) p.prepared
  next_ready was now p d n = subst (λ (e : Entry F). IsReady held fits installs brings x after e p.prepared) (sym (n.at d)) n.ready

  pub half_more : (was now : List (Entry F)) (ps : List (Plan S)) (p : Plan S) (d g : Entry F) → Half was now (ps ++ p ∷ []) → p.place < length now → Told (sized (slice_index_or now p.place d)) (sized g) → Half was (slice_set now p.place g) ps
  half_more was now ps p d g h lt turns = half_step was now ps p (slice_index_or now p.place d) g h (get_or_default now p.place d (slice_index_or now p.place d) lt) turns
