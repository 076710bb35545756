use Rattle.fleet_c.proofs.RehearsalLemmas.{rehearsed, stopped}
use Rattle.fleet_c.proofs.rehearse.rehearse_bytes.Goals as goal

pub returns-in-Ok-rehearse-clause-rehearsed : goal.returns-in-Ok-rehearse-clause-rehearsed
returns-in-Ok-rehearse-clause-rehearsed c =
    rehearsed c.args.bytes.now c.args.holds.now c.in-Ok.program.program c.agents.result c.new-source.result c.new-text.result c.rehearse.new.out _ c.in-Ok.ensures.found c.agents.ensures.count
    c.new-source.ensures c.new-text.ensures c.in-Ok-rehearse.rehearsal c.in-Ok-rehearse.ensures

pub returns : goal.returns
returns c = record {
  rehearsed = tt;
  stop = rw c.stop_of.ensures (stopped c.args.bytes.now c.args.holds.now c.in-Ok.program.program c.agents.result c.new-source.result c.new-text.result c.rehearse.new.out _ c.in-Ok.ensures.found
      c.agents.ensures.count c.new-source.ensures c.new-text.ensures c.in-Err-rehearse.fault c.in-Err-rehearse.ensures);
}
