-- What a Take of a feed leaves, with the feed as it is kept.
use Rattle.std.specs.Prelude.{ℕ, List, [], map, drop, cond}
use Rattle.reql_datum.specs.Plain.{Plain}
use Rattle.reql_table_spec.specs.Table.{Held, feed_of}
use Rattle.reql_feed_spec.specs.Feeds.{squashes}
use Rattle.reql_table_machine_spec.specs.Feeds.{Feed, is_of}
use Rattle.reql_feeds.specs.Keeps.{Sized}

module _ {F : Type 0} (held : F → Held) where
  abbrev pub rest_in : ℕ → Feed F Plain → Feed F Plain
  rest_in max f = record f { queue = cond (squashes (feed_of (held f.kept))) [] (drop max f.queue); skipped = 0 }

  abbrev pub rest_of : ℕ → Sized F → Sized F
  rest_of max p = (rest_in max p.0, p.1)

  abbrev pub all_rest : ℕ → ℕ → ℕ → List (Feed F Plain) → List (Feed F Plain)
  all_rest owner number max = map (λ f. cond (is_of owner number f) (rest_in max f) f)
