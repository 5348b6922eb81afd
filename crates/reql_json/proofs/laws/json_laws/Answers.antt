use Rattle.reql_json.proofs.Back.{shows_storable, values_read_back, shows_back, keeps_reading}
use Rattle.reql_json.proofs.laws.json_laws.Goals as goal

pub returns : goal.returns
returns c = record { shows_storable = shows_storable; reads_back = values_read_back; shows_back = shows_back; keeps_reading = keeps_reading }
