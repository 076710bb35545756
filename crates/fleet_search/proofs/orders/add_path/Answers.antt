use Rattle.fleet_search.proofs.Words.{refl, sym, ◌∙◌, IfOk-weaker}
use Rattle.fleet_search.proofs.InTurnLaws.{read_task}
use Rattle.fleet_search.proofs.orders.add_path.Goals as goal

pub returns-in-Err-NoPath : goal.returns-in-Err-NoPath
returns-in-Err-NoPath c = record {
  tables = c.in-Err-NoPath.ensures.grid ∙ c.requires.tables;
  added = (
    refl,
    λ task t.
        let r = read_task c.args.problem.now.instance.now c.args.agent c.start.result c.goal.result c.start.ensures c.goal.ensures task t in
        rw (sym r.0, sym r.1, sym c.requires.tables) (c.in-Err-NoPath.ensures.no_path c.in-Err-NoPath.field-0-is),
  );
}

pub returns-in-Ok : goal.returns-in-Ok
returns-in-Ok c =
    IfOk-weaker c.reserve_found.result _ _
    (λ found p. record {
      tables = c.in-Ok.ensures.grid ∙ c.requires.tables;
      added = rw p.0 (
        c.in-Ok.path,
        p.1,
        λ task t.
            let r = read_task c.args.problem.now.instance.now c.args.agent c.start.result c.goal.result c.start.ensures c.goal.ensures task t in
            rw (sym r.0, sym r.1, sym c.requires.tables) c.in-Ok.ensures.ok,
      );
    })
    c.reserve_found.ensures
