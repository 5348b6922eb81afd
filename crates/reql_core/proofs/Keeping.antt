-- What a table with open feeds keeps, where one entry comes and a feed goes.
use Rattle.std.proofs.Common.{◌≡◌, ◌<◌, ◌^◌, ◌+◌, ℕ, suc, List, [], ◌∷◌, map, filter, not, ◌++◌, subst, sym, Bool, true, false, cond, arith}
use Rattle.std.specs.List.{All, AllByRecursion}
use Rattle.std.proofs.lemmas.List.Elements.{All-from_recursion, recursion_from_All, All-filter, All-append, All-nil, All-cons}
use Rattle.reql_datum.specs.Plain.{Plain}
use Rattle.reql_term.specs.Views.{Document}
use Rattle.reql_table.specs.Seen.{Standing, documents_of}
use Rattle.reql_table_machine_spec.specs.Feeds.{Feed, is_of}
use Rattle.std.proofs.lemmas.List.{map-append}
use Rattle.reql_feeds.specs.Record.{kept_in, closed, fresh}
use Rattle.reql_core.specs.Live.{Live, Lives}
use Rattle.reql_core.proofs.Commands.{moved}

module _ {X Y : Type 0} (P : Y → Type 0) (f : X → Y) (q : X → Bool) where
  one_less : (b : Bool) (x : X) (ys : List X) → P (f x) → AllByRecursion P (map f ys) → AllByRecursion P (map f (cond b (x ∷ ys) ys))
  one_less true x ys p all = (p, all)
  one_less false x ys p all = all

  fewer : (xs : List X) → AllByRecursion P (map f xs) → AllByRecursion P (map f (filter q xs))
  fewer [] all = tt
  fewer (x ∷ xs) all = one_less (q x) x (filter q xs) all.0 (fewer xs all.1)

  fewer_all : (xs : List X) → All P (map f xs) → All P (map f (filter q xs))
  fewer_all xs all = All-from_recursion P (map f (filter q xs)) (fewer xs (recursion_from_All P (map f xs) all))

module _ {F : Type 0} (fits : F → List Document → Type 0) (reads : F → Standing → Type 0) where
  pub lives_moved : (l : Live F) → Lives fits reads l → l.moment.place + 1 < 2 ^ 64 → Lives fits reads (moved l)
  lives_moved l v room = record {
    fit = v.fit;
    read = v.read;
    below = λ k d less. let b = v.below k d less in omega (arith, b);
    place = room;
    stamp = v.stamp;
  }

  pub lives_shut : (l : Live F) → Lives fits reads l → Lives fits reads (record l { shut = true })
  lives_shut l v = record { fit = v.fit; read = v.read; below = v.below; place = v.place; stamp = v.stamp }

  pub lives_left : (by feed : ℕ) (l : Live F) → Lives fits reads l → Lives fits reads (record l { feeds = closed by feed l.feeds })
  lives_left by feed l v = record {
    fit = fewer_all (λ k. fits k (documents_of l.moment.table)) (λ (f : Feed F Plain). f.kept) (λ f. not (is_of by feed f)) l.feeds v.fit;
    read = fewer_all (λ k. reads k l.moment.table) (λ (f : Feed F Plain). f.kept) (λ f. not (is_of by feed f)) l.feeds v.read;
    below = All-filter (λ f. not (is_of by feed f)) (λ f. f.number < suc l.moment.place) l.feeds v.below;
    place = v.place;
    stamp = v.stamp;
  }

  pub lives_more : (by : ℕ) (l : Live F) (f : F) → fits f (documents_of l.moment.table) → reads f l.moment.table → Lives fits reads l → l.moment.place + 1 < 2 ^ 64
      → Lives fits reads (moved (record l { feeds = l.feeds ++ fresh by (l.moment.place + 1) l.moment.stamp f ∷ [] }))
  lives_more by l f fit read v room =
      let kept : kept_in (l.feeds ++ fresh by (l.moment.place + 1) l.moment.stamp f ∷ []) ≡ kept_in l.feeds ++ f ∷ [] = map-append (λ (x : Feed F Plain). x.kept) l.feeds (fresh by (l.moment.place + 1) l.moment.stamp f ∷ []) in record {
        fit = subst (All (λ k. fits k (documents_of l.moment.table))) (sym kept)
            (All-append (λ k. fits k (documents_of l.moment.table)) (kept_in l.feeds) (f ∷ []) v.fit (All-cons (λ k. fits k (documents_of l.moment.table)) f [] fit (All-nil (λ k. fits k (documents_of l.moment.table)))));
        read = subst (All (λ k. reads k l.moment.table)) (sym kept)
            (All-append (λ k. reads k l.moment.table) (kept_in l.feeds) (f ∷ []) v.read (All-cons (λ k. reads k l.moment.table) f [] read (All-nil (λ k. reads k l.moment.table))));
        below = All-append (λ (x : Feed F Plain). x.number < suc (l.moment.place + 1)) l.feeds (fresh by (l.moment.place + 1) l.moment.stamp f ∷ []) (λ k d less. let b = v.below k d less in omega (arith, b))
            (All-cons (λ (x : Feed F Plain). x.number < suc (l.moment.place + 1)) (fresh by (l.moment.place + 1) l.moment.stamp f) [] (omega arith) (All-nil (λ (x : Feed F Plain). x.number < suc (l.moment.place + 1))));
        place = room;
        stamp = v.stamp;
      }
