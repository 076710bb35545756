-- Actions of one agent that follow one another.
use Rattle.std.specs.Prelude.{◌+◌, ◌-◌, List, map}
use Rattle.std.specs.List.{flat_map, range_with_len}
use Rattle.fleet_model.specs.declared.program.ActionId.{ActionId}
use Rattle.fleet_verify.specs.declared.stretch.Stretch.{Stretch}

-- its first action
abbrev pub first_of : Stretch → ActionId
first_of s = record { agent = s.agent; number = s.first }

-- its actions
abbrev pub stretch_actions : Stretch → List ActionId
stretch_actions s = map (λ n. record { agent = s.agent; number = n }) (range_with_len s.first s.count)

-- the stretch from one action of an agent to another one
abbrev pub stretch_between : ActionId → ActionId → Stretch
stretch_between a b = record { agent = a.agent; count = b.number - a.number + 1; first = a.number }

-- the actions of all stretches, one after the other
abbrev pub path_actions : List Stretch → List ActionId
path_actions stretches = flat_map stretch_actions stretches
