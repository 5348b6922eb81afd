-- What a client takes of a server that was told no other limits.
use Rattle.std.specs.Prelude.{◌^◌}
use Rattle.reql_client.specs.declared.limits.Limits.{Limits}

abbrev pub usual_limits : Limits
usual_limits = record { answer = 268435456; turns = 2 ^ 60 }
