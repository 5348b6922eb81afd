-- The worked row of the bound on steps.
use Rattle.std.proofs.Common.{◌≡◌, ◌≤◌, ◌+◌, ◌*◌, ℕ, refl}
use Rattle.reql_ptree.specs.Tall.{tall, digits}

pub thousand : tall 1000 ≡ 20
unfolding tall digits
thousand = refl

pub added : (before after : ℕ) → after ≤ before + 3 * tall 1000 → after ≤ before + 60
added before after h = rw thousand at h
