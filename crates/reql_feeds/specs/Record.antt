-- The open feeds of a table, over feeds as a program keeps them, and what the machine of tables knows of them.
use Rattle.std.specs.Prelude.{◌<◌, ℕ, List, [], map, filter, not, cond, refl}
use Rattle.std.specs.Coded.{Coded, code_by, coded×, coded_list, coded_ℕ}
use Rattle.std.specs.List.{All}
use Rattle.reql_datum.specs.Plain.{Plain}
use Rattle.reql_datum.specs.declared.datum.Datum.{Datum}
use Rattle.reql_table_spec.specs.Table.{Held, feeding}
use Rattle.reql_queue.specs.declared.queue.Taken.{Taken}
use Rattle.reql_squash.specs.Told.{items_seen}
use Rattle.reql_table_machine_spec.specs.Feeds.{Feed, is_of, given_by, left_by}
use Rattle.reql_table_machine_spec.specs.declared.command.Said.{Said}
use Rattle.reql_table_machine_spec.specs.declared.command.Said.TheVariants as said
use Rattle.reql_write_spec.specs.declared.command.Summary.{Summary}

abbrev pub feed_code : {K I : Type 0} → Coded K → Coded I → Coded (Feed K I)
feed_code {K} {I} k i = code_by (ℕ × (ℕ × (K × (ℕ × (List (ℕ × I) × (ℕ × ℕ)))))) (coded× coded_ℕ (coded× coded_ℕ (coded× k (coded× coded_ℕ (coded× (coded_list (coded× coded_ℕ i)) (coded× coded_ℕ coded_ℕ))))))
    (λ f. (f.owner, (f.number, (f.kept, (f.opened, (f.queue, (f.skipped, f.last)))))))
    (λ p. record { owner = p.0; number = p.1.0; kept = p.1.1.0; opened = p.1.1.1.0; queue = p.1.1.1.1.0; skipped = p.1.1.1.1.1.0; last = p.1.1.1.1.1.1 }) (λ _. refl)

-- a feed that was just opened
abbrev pub fresh : {K : Type 0} → ℕ → ℕ → ℕ → K → Feed K Plain
fresh owner number stamp k = record { owner = owner; number = number; kept = k; opened = stamp; queue = []; skipped = 0; last = 0 }

module _ {F : Type 0} where
  -- what is kept of the feeds
  abbrev pub kept_in : List (Feed F Plain) → List F
  kept_in = map (λ f. f.kept)

  -- all numbers are below one that comes
  abbrev pub AreBelow : ℕ → List (Feed F Plain) → Type 0
  AreBelow number = All (λ f. f.number < number)

  module _ (held : F → Held) where
    -- a feed as the machine of tables knows it
    abbrev pub record_of : Feed F Plain → Feed Held Plain
    record_of f = record { owner = f.owner; number = f.number; kept = held f.kept; opened = f.opened; queue = f.queue; skipped = f.skipped; last = f.last }

    abbrev pub records : List (Feed F Plain) → List (Feed Held Plain)
    records = map record_of

module _ {F T : Type 0} where
  -- each feed is so at these documents, or at this table
  abbrev pub AllFit : (F → T → Type 0) → T → List F → Type 0
  AllFit fits t = All (λ k. fits k t)

-- what a Take gives and leaves; how many feeds may be open is nothing to it
abbrev pub given : ℕ → Feed Held Plain → Said Summary Plain
given max f = said.Batch f.skipped f.last (given_by (feeding 0) max f)

abbrev pub left : ℕ → Feed Held Plain → Feed Held Plain
left max f = left_by (feeding 0) max f

abbrev pub batch : Taken Datum → Said Summary Plain
batch t = said.Batch t.skipped t.last (items_seen t.items)

-- the feeds after a Take of one, and after it was closed
abbrev pub after_take : ℕ → ℕ → ℕ → List (Feed Held Plain) → List (Feed Held Plain)
after_take owner number max = map (λ f. cond (is_of owner number f) (left max f) f)

abbrev pub closed : {K : Type 0} → ℕ → ℕ → List (Feed K Plain) → List (Feed K Plain)
closed owner number = filter (λ f. not (is_of owner number f))
