use Rattle.fleet_dispatch.proofs.Cited.{◌≢◌, ◌+◌, ◌*◌, ◌<◌, ◌≤◌, ◌∙◌, false, length, set, ap, arith, inl, inr, get_or-set_same, get_or-set_other, mul-le-mul_left, cases_lt, cases_eq, flag_of, told_at}
use Rattle.fleet_dispatch.proofs.Steps.{all_told}
use Rattle.fleet_dispatch.proofs.Texts.{one_agent_more, all_written}
use Rattle.fleet_dispatch.proofs.progress.Progress.tell.Goals as goal

pub tell_agent-at-requires-clause-room : goal.tell_agent-at-requires-clause-room
tell_agent-at-requires-clause-room g c =
    let p = g.P.ProgramView.program c.args.program.now in
    let inv = c.agents.invariant in
    let agent : c.in-Some.i < length p = (let next = c.in-Some.ensures.agent in omega (arith, inv.leads.rows.due)) in
    let step : c.agents.from + 1 ≤ length p = (let later = c.in-Some.ensures.later in omega arith) in
    omega (arith, inv.at, inv.row, c.requires.room, mul-le-mul_left (73 * c.args.pace.ahead) step)

pub agents-preserved : goal.agents-preserved
agents-preserved g c =
    let p = g.P.ProgramView.program c.args.program.now in
    let i = c.in-Some.i in
    let next = c.in-Some.ensures in
    let inv = c.agents.invariant in
    let new = c.tell_agent-at.new.self in
    let more = c.tell_agent-at.ensures.told in
    let agent : i < length p = omega (arith, next.agent, inv.leads.rows.due) in
    let from : c.agents.from ≤ i = next.later in
    record {
      leads = c.tell_agent-at.ensures.leads;
      done = more.done ∙ inv.done;
      from = omega arith;
      passed = λ j l. elim (cases_eq j i) [
        | inl same ↦ (
            let inside : i < length c.agents.self.due = next.agent in
            ap (λ flags. flag_of flags j) c.tell_agent-at.ensures.due ∙ ap (flag_of (set c.agents.self.due i false)) same ∙ get_or-set_same c.agents.self.due i false false inside)
        | inr other ↦ ap (λ flags. flag_of flags j) c.tell_agent-at.ensures.due ∙ get_or-set_other c.agents.self.due i j false false other
            ∙ elim (cases_lt j c.agents.from) [
              | inl below ↦ inv.passed j below
              | inr above ↦ next.between j above (omega arith)
            ]
      ];
      later = λ j l. let other : j ≢ i = omega arith in more.others j other ∙ inv.later j (omega arith);
      at = (let step : c.agents.from + 1 ≤ i + 1 = omega arith in omega (arith, c.tell_agent-at.ensures.high, inv.at, mul-le-mul_left (73 * c.args.pace.ahead) step));
      row = c.tell_agent-at.auto.row ∙ inv.row;
      written = one_agent_more p c.args.pace.form c.args.self.now.told c.agents.self.told new.told c.agents.from i _ _ from inv.written inv.later more.others c.tell_agent-at.ensures.written;
    }

pub returns : goal.returns
returns g c =
    let p = g.P.ProgramView.program c.args.program.now in
    let ahead = c.args.pace.ahead in
    let inv = c.agents.invariant in
    record {
      leads = inv.leads;
      done = inv.done;
      told = all_told p ahead c.agents.self inv.leads (λ i agent. elim (cases_lt i c.agents.from) [
        | inl below ↦ inv.passed i below
        | inr above ↦ c.in_default.ensures i above
      ]) ∙ ap (told_at p ahead) inv.done;
      within = omega (arith, inv.at, inv.row, c.requires.room, mul-le-mul_left (73 * ahead) inv.from);
      written = all_written p c.args.pace.form c.args.self.now.told c.agents.self.told c.agents.from _ inv.from inv.written inv.later;
    }
