-- Changes of which the feeds were told beside themselves.
use Rattle.std.specs.Prelude.{◌≡◌, ℕ, List, [], ◌∷◌, Option, refl}
use Rattle.std.specs.Coded.{Coded, code_by, coded×, coded_list, coded_option, coded_ℕ}
use Rattle.std.specs.List.{AllZip}
use Rattle.std.specs.Option.{unwrap_or}
use Rattle.reql_datum.specs.Code.{plain_code}
use Rattle.reql_datum.specs.Plain.{Plain}
use Rattle.reql_table_spec.specs.Table.{Held}
use Rattle.reql_table_machine_spec.specs.Feeds.{Feed, push_all}
use Rattle.reql_feeds.specs.Keeps.{Sized}

-- what a feed has become, if it has, and what is to be queued for it
pub record Pending (F : Type 0) : Type 0 where
  pub kept : Option F
  pub items : List (ℕ × Plain)

abbrev pub pending_code : {F : Type 0} → Coded F → Coded (Pending F)
pending_code {F} c = code_by (Option F × List (ℕ × Plain)) (coded× (coded_option c) (coded_list (coded× coded_ℕ plain_code))) (λ p. (p.kept, p.items)) (λ t. record { kept = t.0; items = t.1 }) (λ _. refl)

module _ {F : Type 0} where
  abbrev pub next_kept : Feed F Plain → Pending F → F
  next_kept f p = unwrap_or p.kept f.kept

  module _ (held : F → Held) where
    -- the feed as it will be
    abbrev pub ahead : Feed F Plain → Pending F → Feed F Plain
    ahead f p = push_all (held (next_kept f p)).spec.size (record f { kept = next_kept f p }) p.items

    -- the feeds as they will be when the draft is committed
    abbrev pub all_ahead : List (Feed F Plain) → List (Pending F) → List (Feed F Plain)
    all_ahead [] ps = []
    all_ahead (f ∷ fs) [] = f ∷ fs
    all_ahead (f ∷ fs) (p ∷ ps) = ahead f p ∷ all_ahead fs ps

    -- a draft is one of these feeds: it has each of them, as it was asked for
    abbrev pub IsDraft : List (Feed F Plain) → List (Pending F) → Type 0
    IsDraft = AllZip (λ f p. held (next_kept f p) ≡ held f.kept)

    -- a feed as it will be, as a list of feeds without sizes has it
    abbrev pub forecast : Feed F Plain → Pending F → Sized F
    forecast f p = (ahead f p, 0)
