use Rattle.fleet_code.proofs.Words.{◌+◌, ap, arith, ℕ, after_opcodes}
use Rattle.fleet_code.proofs.InPlace.{instruction_within}
use Rattle.fleet_code.proofs.code_view.CodeViewProgramView.instruction.Goals as goal

pub after-at-requires-clause-within : goal.after-at-requires-clause-within
after-at-requires-clause-within c =
    let le = instruction_within c.args.self.now.version c.args.self.now.program c.args.i c.args.finished c.args.before c.args.k c.requires.left c.requires.before c.requires.place in
    let same = ap (λ (m : ℕ). after_opcodes c.args.self.now.version c.args.self.now.program c.args.i c.args.finished (c.args.before + m)) c.from.ensures in
    (c.args.finished + 1, omega (arith, le, same))
