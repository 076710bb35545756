use Rattle.fleet_adg.proofs.Words.{◌≡◌, length, sym, ap, subst, ◌∙◌, Program, total_moves, is_passable, IsThinnedFor}
use Rattle.fleet_needs.specs.Critical.{IsNumberedTo}
use Rattle.fleet_verify.proofs.Finish.{longest_numbers}
use Rattle.fleet_adg.proofs.Thinning.{thinned_is, total_same}
use Rattle.fleet_adg.proofs.ThinnedBytes.{thinned_for, thinned_shortest}
use Rattle.fleet_adg.proofs.thinner.thin_bytes.Goals as goal

pub implied_awaits-requires : goal.implied_awaits-requires
implied_awaits-requires g c =
    let p = g.P.ProgramView.program c.program-program.result.now in
    let known = c.program-program.ensures.accepted in
    subst (IsNumberedTo p) (sym c.chain.ensures.chain) (longest_numbers p known.accepted.right.in_range c.args.accepted.now.chain known.longest)

pub returns : goal.returns
returns g c =
    let p = g.P.ProgramView.program c.program-program.result.now in
    let known = c.program-program.ensures.accepted in
    let made = c.in_ok-bytes.ensures in
    let q : Program = made.0 in
    let h = made.1 in
    let is = made.2 in
    let laws = c.programs_have_bytes.ensures in
    let agents : c.agents.result ≡ length q = c.agents.ensures.count ∙ sym h.long in
    let moves : c.total_moves-moves.result ≡ total_moves q = c.total_moves-moves.ensures ∙ sym (total_same p q h) in
    let spelled = thinned_shortest laws.first laws.second p q c.agents.ensures.well_formed known.accepted.right.in_range h c.shortest_version-version.result c.shortest_version-version.ensures.first c.in_ok-bytes.bytes.items is in (
      q,
      c.new.ensures.of q (sym agents) (sym moves) is spelled,
      subst (λ (x : Program). IsThinnedFor (is_passable c.args.accepted.now.grid) c.args.accepted.now.instance x c.args.accepted.now.chain q) (ap g.P.ProgramView.program c.program-program.ensures.program)
          (thinned_for c.args.accepted.now.grid c.args.accepted.now.instance p c.args.accepted.now.chain q known (thinned_is p q h)),
    )
