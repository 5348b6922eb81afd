use Rattle.std.proofs.Common.{◌≡◌, ◌-◌, ◌≤◌, ◌∷◌, Ok, Some, option_map, ℕ, sym, subst, ◌∙◌, arith, rules}
use Rattle.json.specs.Token.{begin_object, end_array}
use Rattle.json.specs.Json.{after_end_array}
use Rattle.json.proofs.Grammar.{closed_array}
use Rattle.serde_json.specs.Data.{no_members}
use Rattle.reql_read.specs.Globals.{usual, settings_of}
use Rattle.reql_read.specs.Quick.{ReadsMembers, ReadsSettings, two_options}
use Rattle.reql_read.proofs.Settled.{no_settings, settings_read}
use Rattle.reql_read.proofs.Straight.{if_some}
use Rattle.reql_read.proofs.quick_options.read_settings.Goals as goal

pub returns-then-take_end_array : goal.returns-then-take_end_array
returns-then-take_end_array c = λ depth some.
    let r = c.take_end_array.new.self in
    let ended : after_end_array c.args.reader.now ≡ Some r = grind arith in
    let same : c.in_ok-usual.usual ≡ usual = search rules in
    subst (λ s. ReadsSettings depth c.args.reader.now s r) (sym same) (subst (λ ts. ReadsSettings depth ts usual r) (sym (closed_array c.args.reader.now r ended)) (no_settings depth r))

pub returns : goal.returns
returns c =
    let r = c.close_array.new.reader in
    let ts = c.open_object.new.reader in
    let chosen = c.in_ok-chosen.chosen in
    let all = two_options (option_map (λ x. x.now) chosen.db) chosen.noreply in
    let going : c.take_end_array.new.self ≡ c.args.reader.now = grind arith in
    let opened : c.take_end_array.new.self ≡ begin_object ∷ ts = search rules in
    let closed : c.read_chosen.new.reader ≡ end_array ∷ r = search rules in
    if_some (λ s. settings_of all ≡ Ok s) (λ s. (depth : ℕ) → 3 ≤ depth → ReadsSettings depth c.args.reader.now s r) c.settings_of.result
    (λ s is depth some.
    let inner : 2 ≤ depth - 1 = omega arith in
    let members = subst (ReadsMembers (depth - 1) ts no_members all) closed (c.in_ok-chosen.ensures (depth - 1) inner) in
    subst (λ us. ReadsSettings depth us s r) (sym opened ∙ going) (settings_read depth ts r all s some members is))
    c.settings_of.ensures
