use Rattle.fleet_dispatch.proofs.Cited.{◌≤◌, length, take, sym, arith, err_from_is_err_and}
use Rattle.fleet_dispatch.proofs.WindowLemmas.{grown, kept}
use Rattle.fleet_dispatch.proofs.window.Window.read_from.Goals as goal

pub returns-in_err-count-clause-err : goal.returns-in_err-count-clause-err
returns-in_err-count-clause-err g c =
    let w = c.args.self.now in
    let within : w.end ≤ length w.bytes = omega arith in
    let p = err_from_is_err_and c.from_residual.result c.from_residual.ensures.1 in
    rw p.1 (kept w.bytes c.read.new.buf w.start w.end _ w.ordered within, c.in_err-count.ensures.bytes)

pub returns-clause-read : goal.returns-clause-read
returns-clause-read g c =
    let w = c.args.self.now in
    let within : w.end ≤ length w.bytes = omega arith in
    let n = c.in_ok-count.count in
    let bound = c.in_ok-count.ensures.bound in
    (take n c.read.new.buf, sym bound.1, grown w.bytes c.read.new.buf w.start w.end _ n w.ordered within bound.0, c.in_ok-count.ensures.bytes.0)
