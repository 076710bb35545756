use Rattle.fleet_verify.proofs.Words.{◌≡◌, ◌++◌, ◌∷◌, [], ℕ, List, length, ap, sym, ◌∙◌, subst, arith, All-push, err_from_is_err_and, Visit, Configuration, count_at, is_passable, StandsRight, AreAdded, AreOnGround, AreAddedOnGround}
use Rattle.fleet_verify.proofs.RunCounts.{count_opening}
use Rattle.fleet_verify.proofs.UnderWay.{starts_of, starts_more, opened_visits}
use Rattle.fleet_verify.proofs.unheld_run.add_starts.Goals as goal

pub add_position-requires-clause-reached : goal.add_position-requires-clause-reached
add_position-requires-clause-reached g c = record { holds = []; ticks = 0; same = sym c.requires.start.opening }

pub loop-agent-preserved : goal.loop-agent-preserved
loop-agent-preserved g c =
    let p = g.P.ProgramView.program c.args.program.now in
    let i = c.loop-agent.agent in
    let old = c.loop-agent.invariant in
    let made = c.in_ok-add_position.ensures in
    let none : count_at c.args.machine.now.configuration i ≡ 0 = ap (λ (d : Configuration). count_at d i) c.requires.start.opening ∙ count_opening p [] i in
    let Stands = λ (v : Visit). StandsRight (is_passable c.args.grid.now) p v.agent v.position in
    record {
      added = subst (λ (vs : List Visit). AreAdded p vs c.add_position.new.visits) (starts_more i)
          (subst (λ (n : ℕ). AreAdded p (starts_of i ++ record { agent = i; position = n } ∷ []) c.add_position.new.visits) none (made.added (starts_of i) old.added));
      on_ground = subst (AreOnGround (is_passable c.args.grid.now) p) (starts_more i)
          (All-push Stands (starts_of i) (record { agent = i; position = 0 }) old.on_ground (subst (λ (n : ℕ). StandsRight (is_passable c.args.grid.now) p i n) none made.on_ground));
    }

pub returns-clause-starts : goal.returns-clause-starts
returns-clause-starts g c =
    let p = g.P.ProgramView.program c.args.program.now in
    let all : c.loop-agent.agent ≡ length p = omega (arith, c.agents-agent-end.ensures.count) in
    subst (λ (vs : List Visit). AreAddedOnGround (is_passable c.args.grid.now) p vs c.loop-agent.visits) (ap starts_of all ∙ opened_visits p) c.loop-agent.invariant

pub returns-in_err-add_position-clause-stop : goal.returns-in_err-add_position-clause-stop
returns-in_err-add_position-clause-stop g c =
    let e = err_from_is_err_and c.from_residual.result c.from_residual.ensures.1 in
    rw (e.1, e.2) c.in_err-add_position.ensures.stop
