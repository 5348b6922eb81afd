-- The cases of a step: what differs between the value before a change and the value after it.
use Rattle.std.proofs.Common.{◌≡◌, ℕ, zero, suc, ◌<◌, ◌≤◌, List, [], ◌∷◌, ◌++◌, length, take, get_or, false, Option, Some, None, Ordering, refl, sym, ap, ◌∙◌, arith, append_assoc, length-append, inl, inr}
use Rattle.std.specs.List.{insert, remove}
use Rattle.std.specs.Map.{keys_of}
use Rattle.std.proofs.lemmas.Bool.{cases_lt}
use Rattle.std.proofs.lemmas.List.{append-nil, take-append-le}
use Rattle.std.proofs.lemmas.List.Edits.{length-insert, length-remove, insert_end, insert-append_left}
use Rattle.reql_datum.specs.Plain.{Plain}
use Rattle.reql_memory.specs.Sorted.{put_by, without_by, IsHitBy, IsGapBy}
use Rattle.reql_memory.proofs.Sorted.{remove_hit, insert_gap}
use Rattle.reql_feed_limit.specs.Selection.{Element}
use Rattle.reql_feed_limit.specs.Items.{same}
use Rattle.reql_feed_limit.specs.Differs.{Differs}
use Rattle.reql_feed_limit.specs.Edits.{with_gone}
use Rattle.reql_feed_limit.specs.Boundary.{listed, next_value}
use Rattle.reql_feed_limit.proofs.Maps.{Strict}
use Rattle.reql_feed_limit.proofs.Boundary.{take_whole}

insert_remove : (es : List Element) (i : ℕ) (x : Element) → i < length es → get_or es i x ≡ x → insert (remove es i) i x ≡ es
insert_remove [] i x lt is = absurd (omega arith)
insert_remove (e ∷ es) zero x lt is = ap (λ t. t ∷ es) (sym is)
insert_remove (e ∷ es) (suc i) x lt is = ap (λ t. e ∷ t) (insert_remove es i x (omega arith) is)

take_front : {X : Type 0} (n : ℕ) (xs ys : List X) → length xs ≡ n → take n (xs ++ ys) ≡ xs
take_front n xs ys is = take-append-le n xs ys (omega arith) ∙ take_whole n xs (omega arith)

le_full : (n k : ℕ) → k ≤ n → (k < n → ⊥) → k ≡ n
le_full n k le full = elim (cases_lt k n) [ inl lt ↦ absurd (full lt) | inr ge ↦ omega arith ]

full_front : (size : ℕ) (es : List Element) (e : Element) → length es ≤ size → (length es < size → ⊥) → take size (es ++ e ∷ []) ≡ es
full_front size es e le full = take_front size es (e ∷ []) (le_full size (length es) le full)

-- where nothing follows unless it is full
fits_whole : (size : ℕ) (es : List Element) (next : Option Element) → length es ≤ size → (length es < size → next ≡ None) → take size (es ++ listed next) ≡ es
fits_whole size es None le tight = ap (take size) (append-nil es) ∙ take_whole size es le
fits_whole size es (Some e) le tight = full_front size es e le (λ h. let f : Some e ≡ None = tight h in cc)

module _ (cmp : Plain → Plain → Ordering) (strict : Strict cmp) where
  pub differs_none : (size : ℕ) (gone : Option Plain) (next : Option Element) (es : List Element) → length es ≤ size → (length es < size → next ≡ None) → with_gone cmp gone es ≡ es
      → Differs es (next_value cmp size gone None next es) (record { left = None; came = None })
  differs_none size gone next es le tight stays =
      record { core = es; old = refl; new = ap (λ t. take size (t ++ listed next)) stays ∙ fits_whole size es next le tight; left_fits = tt; came_fits = tt; apart = tt }

  pub differs_new : (size : ℕ) (gone : Option Plain) (c : Element) (j : ℕ) (es : List Element) → length es < size → with_gone cmp gone es ≡ es → IsGapBy cmp (keys_of es) c.0 j → j ≤ length es
      → Differs es (next_value cmp size gone (Some c) None es) (record { left = None; came = Some (j, c) })
  differs_new size gone c j es lt stays gap le =
      let put : insert es j c ≡ put_by cmp c.0 c.1 es = insert_gap cmp strict.total es c.0 c.1 j gap in
      let long = length-insert es j c le in
      record {
        core = es;
        old = refl;
        new = ap (λ t. take size (put_by cmp c.0 c.1 t ++ [])) stays ∙ ap (λ t. take size (t ++ [])) (sym put) ∙ ap (take size) (append-nil (insert es j c)) ∙ take_whole size (insert es j c) (omega arith);
        left_fits = tt;
        came_fits = le;
        apart = tt;
      }

  -- a value that is full: its last element goes
  pub differs_push : (size : ℕ) (gone : Option Plain) (c b : Element) (next : Option Element) (j k : ℕ) (es : List Element) → length es ≡ size → suc k ≡ size → with_gone cmp gone es ≡ es
      → IsGapBy cmp (keys_of es) c.0 j → j ≤ k → get_or es k b ≡ b → same b c ≡ false
      → Differs es (next_value cmp size gone (Some c) next es) (record { left = Some (k, b); came = Some (j, c) })
  differs_push size gone c b next j k es full is stays gap le last apart =
      let put : insert es j c ≡ put_by cmp c.0 c.1 es = insert_gap cmp strict.total es c.0 c.1 j gap in
      let short = length-remove es k (omega arith) in
      let end : es ≡ remove es k ++ b ∷ [] = sym (insert_remove es k b (omega arith) last) ∙ ap (λ t. insert (remove es k) t b) (omega arith) ∙ insert_end (remove es k) b in
      let long = length-insert (remove es k) j c (omega arith) in
      let inner : insert es j c ≡ insert (remove es k) j c ++ b ∷ [] = ap (λ t. insert t j c) end ∙ insert-append_left (remove es k) (b ∷ []) j c (omega arith) in
      record {
        core = remove es k;
        old = sym (insert_remove es k b (omega arith) last);
        new = ap (λ t. take size (put_by cmp c.0 c.1 t ++ listed next)) stays ∙ ap (λ t. take size (t ++ listed next)) (sym put ∙ inner)
            ∙ ap (take size) (append_assoc (insert (remove es k) j c) (b ∷ []) (listed next))
            ∙ take_front size (insert (remove es k) j c) (b ∷ listed next) (omega arith);
        left_fits = omega arith;
        came_fits = omega arith;
        apart = apart;
      }

  -- an element goes from a value with room
  pub differs_left : (size : ℕ) (g : Plain) (x : Element) (i : ℕ) (es : List Element) → length es ≤ size → IsHitBy cmp (keys_of es) g i → i < length es → get_or es i x ≡ x
      → Differs es (next_value cmp size (Some g) None None es) (record { left = Some (i, x); came = None })
  differs_left size g x i es le hit lt is =
      let gone : remove es i ≡ without_by cmp g es = remove_hit cmp strict.total es g i hit in
      let short = length-remove es i lt in
      record {
        core = remove es i;
        old = sym (insert_remove es i x lt is);
        new = ap (λ t. take size (t ++ [])) (sym gone) ∙ ap (take size) (append-nil (remove es i)) ∙ take_whole size (remove es i) (omega arith);
        left_fits = omega arith;
        came_fits = tt;
        apart = tt;
      }

  -- an element goes from a value that was full, and the next one follows
  pub differs_next : (size : ℕ) (g : Plain) (x e : Element) (i k : ℕ) (es : List Element) → length es ≡ size → suc k ≡ size → IsHitBy cmp (keys_of es) g i → i < length es → get_or es i x ≡ x → same x e ≡ false
      → Differs es (next_value cmp size (Some g) None (Some e) es) (record { left = Some (i, x); came = Some (k, e) })
  differs_next size g x e i k es full more hit lt is apart =
      let gone : remove es i ≡ without_by cmp g es = remove_hit cmp strict.total es g i hit in
      let short = length-remove es i lt in
      let place : length (remove es i) ≡ k = omega arith in
      let long = length-append (remove es i) (e ∷ []) in
      record {
        core = remove es i;
        old = sym (insert_remove es i x lt is);
        new = ap (λ t. take size (t ++ e ∷ [])) (sym gone) ∙ take_whole size (remove es i ++ e ∷ []) (omega arith) ∙ sym (insert_end (remove es i) e) ∙ ap (λ t. insert (remove es i) t e) place;
        left_fits = omega arith;
        came_fits = omega arith;
        apart = apart;
      }

  moved_is : (size : ℕ) (g : Plain) (c : Element) (next : Option Element) (i j : ℕ) (es : List Element) → length es ≤ size → (length es < size → next ≡ None) → IsHitBy cmp (keys_of es) g i → i < length es
      → IsGapBy cmp (keys_of (remove es i)) c.0 j → suc j ≤ length es → next_value cmp size (Some g) (Some c) next es ≡ insert (remove es i) j c
  moved_is size g c next i j es le tight hit lt gap fits =
      let gone : remove es i ≡ without_by cmp g es = remove_hit cmp strict.total es g i hit in
      let put : insert (remove es i) j c ≡ put_by cmp c.0 c.1 (remove es i) = insert_gap cmp strict.total (remove es i) c.0 c.1 j gap in
      let short = length-remove es i lt in
      let long = length-insert (remove es i) j c (omega arith) in
      ap (λ t. take size (put_by cmp c.0 c.1 t ++ listed next)) (sym gone) ∙ ap (λ t. take size (t ++ listed next)) (sym put)
      ∙ fits_whole size (insert (remove es i) j c) next (omega arith) (λ few. tight (omega arith))

  -- one element goes and one comes
  pub differs_moved : (size : ℕ) (g : Plain) (x c : Element) (next : Option Element) (i j : ℕ) (es : List Element) → length es ≤ size → (length es < size → next ≡ None) → IsHitBy cmp (keys_of es) g i → i < length es → get_or es i x ≡ x
      → IsGapBy cmp (keys_of (remove es i)) c.0 j → suc j ≤ length es → same x c ≡ false
      → Differs es (next_value cmp size (Some g) (Some c) next es) (record { left = Some (i, x); came = Some (j, c) })
  differs_moved size g x c next i j es le tight hit lt is gap fits apart =
      let short = length-remove es i lt in
      record {
        core = remove es i;
        old = sym (insert_remove es i x lt is);
        new = moved_is size g c next i j es le tight hit lt gap fits;
        left_fits = omega arith;
        came_fits = omega arith;
        apart = apart;
      }

  -- a document is written over by itself
  pub differs_same : (size : ℕ) (g : Plain) (x c : Element) (next : Option Element) (i : ℕ) (es : List Element) → length es ≤ size → (length es < size → next ≡ None) → IsHitBy cmp (keys_of es) g i → i < length es → get_or es i x ≡ x
      → IsGapBy cmp (keys_of (remove es i)) c.0 i → x ≡ c
      → Differs es (next_value cmp size (Some g) (Some c) next es) (record { left = None; came = None })
  differs_same size g x c next i es le tight hit lt is gap alike =
      record {
        core = es;
        old = refl;
        new = moved_is size g c next i i es le tight hit lt gap (omega arith) ∙ ap (insert (remove es i) i) (sym alike) ∙ insert_remove es i x lt is;
        left_fits = tt;
        came_fits = tt;
        apart = tt;
      }
