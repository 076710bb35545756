-- Places of nodes in two halves.
use Rattle.std.specs.Prelude.{ℕ, ◌+◌, ◌*◌}
use Rattle.fleet_search.specs.declared.frontier.Link.{Link}

-- the place of the node to which the link leads
abbrev pub place_in : Link → ℕ
place_in l = l.high * 65536 + l.low
