use Rattle.std.proofs.Common.{◌+◌, refl, arith}
use Rattle.fleet_search.proofs.Chase.{step_ok-alone}
use Rattle.fleet_search.proofs.frontier.Query.fits.Goals as goal

pub returns-then-is_free_on : goal.returns-then-is_free_on
returns-then-is_free_on c = (
  λ h. step_ok-alone c.args.self.now.reserved.now c.args.begin c.args.left.state.cell c.args.cell c.requires.free (c.requires.until.0 (c.args.begin + 1) (let w = c.requires.waits in omega arith) (omega arith)),
  λ h. refl,
)
