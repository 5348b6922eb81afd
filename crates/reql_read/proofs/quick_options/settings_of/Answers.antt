use Rattle.std.proofs.Common.{◌≡◌, ap, option_map, rules}
use Rattle.reql_read.specs.Globals.{usual}
use Rattle.reql_read.proofs.Settled.{settings_by, settings_with}
use Rattle.reql_read.proofs.quick_options.settings_of.Goals as goal

pub returns-in-None : goal.returns-in-None
returns-in-None c =
    let u = c.in_ok-db.field-0 in
    let same : u ≡ usual = search rules in
    settings_by u _ c.args.chosen.noreply c.unwrap_or-noreply.result same (ap (option_map (λ s. s.now)) c.in-None.is) c.unwrap_or-noreply.ensures

pub returns-in_ok-db-in-Some : goal.returns-in_ok-db-in-Some
returns-in_ok-db-in-Some c =
    let u = c.in_ok-db.field-0 in
    let name = c.in-Some.name.now in
    let same : u ≡ usual = search rules in
    let copied : c.in_ok-db-in-Some.db ≡ name = search rules in
    settings_with u _ name c.in_ok-db-in-Some.db c.args.chosen.noreply c.unwrap_or-noreply.result same (ap (option_map (λ s. s.now)) c.in-Some.is) copied c.unwrap_or-noreply.ensures
