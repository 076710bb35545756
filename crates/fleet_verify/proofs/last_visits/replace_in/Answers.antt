use Rattle.fleet_verify.proofs.Words.{◌∙◌, refl, rules, IsCell, with_value_at, square_of}
use Rattle.fleet_verify.proofs.LastVisits.{written_at, kept_here, kept_others, kept_read, found_square, still_stands}
use Rattle.fleet_verify.proofs.last_visits.replace_in.Goals as goal

pub returns-clause-kept : goal.returns-clause-kept
returns-clause-kept c =
    let m = c.args.squares.now in
    let cell = c.args.cell in
    let place = c.place_of_cell.result in
    let pair = c.pair_mut-square in
    let square = pair.result.1.now in
    let written = c.exchange-before.new.square in
    let made = c.exchange-before.ensures in
    let there : IsCell cell = search rules in
    let found = found_square m c.args.slot (square_of cell) pair.result.0.now square pair.ensures.unique pair.ensures.value c.requires.at in
    let now = written_at m c.args.slot (square_of cell) pair.result.0.now square written pair.ensures.unique pair.ensures.value c.requires.at in
    record {
      before = c.visit_of_number.ensures ∙ kept_read m cell (square_of cell) place c.exchange-before.result square found refl c.place_of_cell.ensures.place made.before;
      here = kept_here m (with_value_at m c.args.slot written) cell square written place c.number_of_visit.result c.place_of_cell.ensures.place now made.written ∙ c.number_of_visit.ensures;
      others = kept_others m (with_value_at m c.args.slot written) cell square written place c.number_of_visit.result c.place_of_cell.ensures.place now made.written found there;
    }

pub returns-clause-stays : goal.returns-clause-stays
returns-clause-stays c = still_stands c.args.squares.now c.args.slot (square_of c.args.cell) c.exchange-before.new.square c.requires.at
