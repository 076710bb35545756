use Rattle.fleet_dispatch.proofs.Cited.{◌≡◌, ℕ, List, [], false, length-set, ◌+◌, ◌<◌, ◌≤◌, ◌++◌, ◌∙◌, Some, None, Contains, length, take, refl, sym, ap, subst, arith, append_assoc, append-nil, get_or-set_same, min, moves, path, awaits_of, home_of, WaitState, Counts, count_of, agent_orders, order_line, AreDone, MayBeTold, HasRows, ProgressState}
use Rattle.fleet_dispatch.proofs.Steps.{IsAgentTold, not_yet_told, one_told, told_waits, agent_told, lacks_now, full_now, may_one_more}
use Rattle.fleet_dispatch.proofs.Texts.{orders_more, orders_none}
use Rattle.fleet_dispatch.proofs.progress.Progress.tell_agent.Goals as goal

pub actions-init : goal.actions-init
actions-init g c =
    let p = g.P.ProgramView.program c.args.program.now in
    let i = c.args.i in
    let s = c.args.self.now in
    let now = c.set_due.new.self in
    let begun = not_yet_told p c.args.pace.ahead i s now c.requires.leads c.requires.agent c.set_due.ensures in
    let same : count_of now.told i ≡ count_of s.told i = begun.told_here in
    let none : agent_orders p c.args.pace.form i (count_of s.told i) (count_of now.told i) ≡ [] = orders_none p c.args.pace.form i (count_of s.told i) (count_of now.told i) (omega (arith, same)) in
    record {
      told = subst (IsAgentTold p s now i) (sym same) begun;
      rows = rw c.set_due.ensures (record {
        done = c.requires.leads.rows.done;
        told = c.requires.leads.rows.told;
        places = c.requires.leads.rows.places;
        homes = c.requires.leads.rows.homes;
        lists = c.requires.leads.rows.lists;
        due = length-set s.due i false ∙ c.requires.leads.rows.due;
        left = c.requires.leads.rows.left;
      });
      waiting = ap (λ (x : ProgressState). x.waiting) c.set_due.ensures;
      may = subst (MayBeTold p c.args.pace.ahead s.done i) (sym same) (c.requires.leads.told i c.requires.agent);
      rises = omega (arith, same);
      at = omega arith;
      row = refl;
      written = sym (ap (λ (xs : List ℕ). take c.args.at c.args.row.now ++ xs) none ∙ append-nil (take c.args.at c.args.row.now));
    }

pub returns-in-Some : goal.returns-in-Some
returns-in-Some g c =
    let p = g.P.ProgramView.program c.args.program.now in
    let i = c.args.i in
    let inv = c.actions.invariant in
    let w = c.in-Some.awaited in
    let new = c.wait_for.new.self in
    let n = count_of c.actions.self.told i in
    let now = told_waits p i n w.agent c.args.self.now c.actions.self new inv.told c.wait_for.ensures in
    let inside : i < length c.actions.self.waiting.homes = omega (arith, inv.rows.homes, c.requires.agent) in
    let home : home_of new.waiting.homes i ≡ Some w.agent = ap (λ (x : ProgressState). home_of x.waiting.homes i) c.wait_for.ensures ∙ get_or-set_same c.actions.self.waiting.homes i (Some w.agent) None inside in
    let mem : Contains (awaits_of p i (n + 1)) w = subst (λ m. Contains (awaits_of p i (m + 1)) w) c.told_of-next.ensures c.in-Some.ensures.missing.is_await in
    let unmet : count_of new.done w.agent < w.count = omega (arith, c.in-Some.ensures.missing.unmet, ap (λ (x : ProgressState). count_of x.done w.agent) c.wait_for.ensures) in
    let from = (c.requires.leads.told i c.requires.agent).from in
    record {
      leads = agent_told p c.args.pace.ahead i n c.args.self.now new c.requires.leads c.requires.agent now inv.may (lacks_now p c.args.pace.ahead i w.agent n new w now.told_here mem refl unmet home);
      told = record { done = now.done; left = now.left; rises = omega (arith, inv.rises, now.told_here); others = now.told_there };
      due = now.due;
      high = omega (arith, inv.at, inv.may.few, from);
      written = rw now.told_here inv.written;
    }

pub returns : goal.returns
returns g c =
    let p = g.P.ProgramView.program c.args.program.now in
    let i = c.args.i in
    let inv = c.actions.invariant in
    let n = count_of c.actions.self.told i in
    let home : home_of c.actions.self.waiting.homes i ≡ None = ap (λ (x : WaitState). home_of x.homes i) inv.waiting ∙ c.requires.leads.nowhere i c.requires.agent c.requires.due in
    let full : min (moves p i) (count_of c.actions.self.done i + c.args.pace.ahead) ≤ n =
    omega (arith, c.actions-test.false, c.told_of.ensures, c.last_told-last.ensures, ap (λ (x : ProgressState). count_of x.done i) c.set_due.ensures, ap (λ (x : Counts). count_of x i) inv.told.done) in
    let from = (c.requires.leads.told i c.requires.agent).from in
    record {
      leads = agent_told p c.args.pace.ahead i n c.args.self.now c.actions.self c.requires.leads c.requires.agent inv.told inv.may (full_now p c.args.pace.ahead i c.actions.self home full);
      told = record { done = inv.told.done; left = inv.told.left; rises = inv.rises; others = inv.told.told_there };
      due = inv.told.due;
      high = omega (arith, inv.at, inv.may.few, from);
      written = inv.written;
    }

pub actions-preserved : goal.actions-preserved
actions-preserved g c =
    let p = g.P.ProgramView.program c.args.program.now in
    let i = c.args.i in
    let k = c.args.pace.ahead in
    let form = c.args.pace.form in
    let s = c.args.self.now in
    let inv = c.actions.invariant in
    let new = c.tell_next-at.new.self in
    let same = c.tell_next-at.ensures.told in
    let n = count_of c.actions.self.told i in
    let inside : i < length s.told = omega (arith, c.requires.leads.rows.told, c.requires.agent) in
    let placed : i < length s.places = omega (arith, c.requires.leads.rows.places, c.requires.agent) in
    let now : IsAgentTold p s new i (n + 1) = one_told p i n s c.actions.self new inv.told inside placed same in
    let here : count_of new.told i ≡ n + 1 = now.told_here in
    let rises : count_of s.told i ≤ n = inv.rises in
    let less : n < min (moves p i) (count_of s.done i + k) =
    omega (arith, c.actions-test.true, c.told_of.ensures, c.last_told-last.ensures, ap (λ (x : ProgressState). count_of x.done i) c.set_due.ensures) in
    let free : AreDone p s.done i (n + 1) = subst (λ (x : Counts). AreDone p x i (n + 1)) inv.told.done (subst (λ m. AreDone p c.actions.self.done i (m + 1)) c.told_of-next.ensures c.in_default.ensures.missing) in
    let rows = inv.rows in
    record {
      told = subst (IsAgentTold p s new i) (sym here) now;
      rows = subst (HasRows p) (sym same) (record {
        done = rows.done;
        told = length-set c.actions.self.told i (n + 1) ∙ rows.told;
        places = length-set c.actions.self.places i (path p i (n + 1)) ∙ rows.places;
        homes = rows.homes;
        lists = rows.lists;
        due = rows.due;
        left = rows.left;
      });
      waiting = ap (λ (x : ProgressState). x.waiting) same ∙ inv.waiting;
      may = subst (MayBeTold p k s.done i) (sym here) (may_one_more p k s.done i n inv.may (omega arith) (omega arith) free);
      rises = omega (arith, here);
      at = omega (arith, c.tell_next-at.ensures.high, inv.at, here);
      row = c.tell_next-at.auto.row ∙ inv.row;
      written = c.tell_next-at.ensures.written ∙ ap (λ (xs : List ℕ). xs ++ order_line p form i n) inv.written
          ∙ append_assoc (take c.args.at c.args.row.now) (agent_orders p form i (count_of s.told i) n) (order_line p form i n)
          ∙ ap (λ (xs : List ℕ). take c.args.at c.args.row.now ++ xs) (sym (orders_more p form i (count_of s.told i) n rises))
          ∙ ap (λ m. take c.args.at c.args.row.now ++ agent_orders p form i (count_of s.told i) m) (sym here);
    }

pub tell_next-at-requires-clause-untold : goal.tell_next-at-requires-clause-untold
tell_next-at-requires-clause-untold g c = record {
  agent = c.requires.agent;
  left = omega (arith, c.actions-test.true, c.told_of.ensures, c.last_told-last.ensures);
  place = c.actions.invariant.told.place_here;
}

pub tell_next-at-requires-clause-room : goal.tell_next-at-requires-clause-room
tell_next-at-requires-clause-room g c =
    let inv = c.actions.invariant in
    let few = ap (λ (x : ProgressState). count_of x.done c.args.i) c.set_due.ensures in
    let from = (c.requires.leads.told c.args.i c.requires.agent).from in
    omega (arith, inv.at, inv.row, c.requires.room, c.actions-test.true, c.told_of.ensures, c.last_told-last.ensures, few, from, ap (λ (x : Counts). count_of x c.args.i) inv.told.done)

pub wait_for-requires-clause-nowhere : goal.wait_for-requires-clause-nowhere
wait_for-requires-clause-nowhere g c =
    ap (λ (x : WaitState). home_of x.homes c.args.i) c.actions.invariant.waiting ∙ c.requires.leads.nowhere c.args.i c.requires.agent c.requires.due
