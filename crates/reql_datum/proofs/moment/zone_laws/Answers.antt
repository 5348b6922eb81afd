use Rattle.reql_datum.proofs.Zones.{zones_by_text}
use Rattle.reql_datum.proofs.moment.zone_laws.Goals as goal

pub returns : goal.returns
returns c = zones_by_text
