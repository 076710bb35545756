use Rattle.std.proofs.Common.{arith}
use Rattle.fleet_code.proofs.Heads.{most_moves-le}
use Rattle.fleet_code.proofs.offsets.agent_head.Goals as goal

pub returns-clause-each : goal.returns-clause-each
returns-clause-each c = let most = most_moves-le c.args.version in omega (arith, most, c.most_moves.ensures, c.if-is_long.false)

pub returns-clause-long : goal.returns-clause-long
returns-clause-long c = omega (arith, c.in_ok-start.ensures.long, c.in_ok-goal.ensures.long, c.in_ok-count.ensures.long)

pub overflow_add-total : goal.overflow_add-total
overflow_add-total c = let most = most_moves-le c.args.version in omega (arith, most, c.requires, c.most_moves.ensures, c.if-is_long.false)
