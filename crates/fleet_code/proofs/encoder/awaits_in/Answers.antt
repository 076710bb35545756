use Rattle.fleet_code.proofs.Written.{awaits_by_len}
use Rattle.fleet_code.proofs.encoder.awaits_in.Goals as goal

pub returns : goal.returns
returns c = λ p n m l.
    rw (c.saturating_sub.ensures, c.head_len.ensures, c.from.ensures, c.await_len.ensures)
    (awaits_by_len c.args.version p c.args.len c.args.agents c.args.moves n m l)
