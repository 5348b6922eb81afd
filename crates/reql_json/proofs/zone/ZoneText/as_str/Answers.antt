use Rattle.std.proofs.lemmas.Str.{IsUtf8-from_ascii}
use Rattle.reql_json.proofs.zone.ZoneText.as_str.Goals as goal

pub unreachable-requires : goal.unreachable-requires
unreachable-requires c = c.in-Err.ensures.cases.0 (IsUtf8-from_ascii c.args.self.now.bytes c.requires)
