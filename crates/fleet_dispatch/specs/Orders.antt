-- The orders that are told.
use Rattle.std.specs.Prelude.{ℕ, ◌+◌, ◌-◌, List, ◌++◌, length, codes}
use Rattle.std.specs.List.{flat_map, range_with_len}
use Rattle.std.specs.Fmt.{decimal}
use Rattle.fleet_model.specs.declared.geometry.Place.{Place}
use Rattle.fleet_model.specs.Program.{Program, path}
use Rattle.fleet_model.specs.Machine.{indices}
use Rattle.fleet_text.specs.Words.{place_text, count_line}
use Rattle.fleet_dispatch.specs.declared.form.ReportForm.{ReportForm}
use Rattle.fleet_dispatch.specs.declared.form.ReportForm.TheVariants.{Numbered, Unnumbered}
use Rattle.fleet_dispatch.specs.Report.{Counts, count_of}

-- how an order names action n of agent i
abbrev pub name_text : ReportForm → ℕ → ℕ → List ℕ
name_text Numbered i n = decimal i ++ (codes ":" ++ decimal n)
name_text Unnumbered i n = decimal i

-- `go A:N X,Y X,Y`, of action n of agent i, which leads it from one place to the other
abbrev pub order_text : ReportForm → ℕ → ℕ → (from to : Place) → List ℕ
order_text form i n from to =
    codes "go " ++ (name_text form i n ++ (place_text from ++ (place_text to ++ codes "\n")))

-- .. of the action after its first n, from where these lead it
unfoldable pub order_line : Program → ReportForm → ℕ → ℕ → List ℕ
order_line p form i n = order_text form i (n + 1) (path p i n) (path p i (n + 1))

-- the orders of agent i after its first `from` actions, up to action `to`
abbrev pub agent_orders : Program → ReportForm → ℕ → (from to : ℕ) → List ℕ
agent_orders p form i from to = flat_map (order_line p form i) (range_with_len from (to - from))

-- the orders of what the agents are told now and were not before, in rising order of agent, and of each in turn
unfoldable pub new_orders : Program → ReportForm → (before now : Counts) → List ℕ
new_orders p form before now =
    flat_map (λ i. agent_orders p form i (count_of before i) (count_of now i)) (indices (length p))

-- what is said when all stand on their goals
unfoldable pub closing : ℕ → ℕ → ℕ → List ℕ
closing agents moves reports =
    codes "arrived\n" ++ (count_line (codes "agents") agents ++ (count_line (codes "moves") moves ++ count_line (codes "reports") reports))
