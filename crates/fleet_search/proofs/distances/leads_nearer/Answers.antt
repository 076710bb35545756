use Rattle.fleet_search.proofs.Words.{ap, ◌∙◌, place_of, moved}
use Rattle.fleet_search.proofs.Spread.{nearer-north, nearer-east, nearer-south, nearer-west}
use Rattle.fleet_search.proofs.distances.leads_nearer.Goals as goal

pub returns-in-North : goal.returns-in-North
returns-in-North c = λ beside h. nearer-north c.args.from beside c.args.to (h ∙ ap (moved (place_of c.args.from)) c.in-North.is)

pub returns-in-East : goal.returns-in-East
returns-in-East c = λ beside h. nearer-east c.args.from beside c.args.to (h ∙ ap (moved (place_of c.args.from)) c.in-East.is)

pub returns-in-South : goal.returns-in-South
returns-in-South c = λ beside h. nearer-south c.args.from beside c.args.to (h ∙ ap (moved (place_of c.args.from)) c.in-South.is)

pub returns-in-West : goal.returns-in-West
returns-in-West c = λ beside h. nearer-west c.args.from beside c.args.to (h ∙ ap (moved (place_of c.args.from)) c.in-West.is)
