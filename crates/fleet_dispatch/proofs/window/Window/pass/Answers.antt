use Rattle.fleet_dispatch.proofs.Cited.{ℕ, arith, length-take, length-drop}
use Rattle.fleet_dispatch.proofs.WindowLemmas.{consumed}
use Rattle.fleet_dispatch.proofs.window.Window.pass.Goals as goal

pub returns : goal.returns
returns c =
    let w = c.args.self.now in
    consumed w.bytes w.start w.end c.args.count (omega (arith, length-take {A = ℕ}, length-drop {A = ℕ}))
