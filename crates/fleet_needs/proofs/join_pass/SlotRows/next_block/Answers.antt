use Rattle.fleet_needs.proofs.Words.{arith, ◌*◌, ◌∙◌, ap, refl, sym, subst, ℕ, false≢true, AreColumns}
use Rattle.fleet_needs.proofs.{Counting.columns_of, RowsMade.rows_none}
use Rattle.fleet_needs.proofs.join_pass.SlotRows.next_block.Goals as goal

pub returns : goal.returns
returns g c =
    let columns = rw c.deref.ensures.value at c.in_ok-self.ensures.columns in
    let block = subst (λ (n : ℕ). AreColumns c.args.self.now.asked.items n c.in_ok-self.field-0) (sym columns.first) columns in
    let zeros = c.in_ok-self-2.ensures in
    record {
      schedule = refl;
      asked = refl;
      some = λ yes. (
        columns.first,
        record {
          rows = rows_none (g.P.ProgramView.program c.args.program.now) _ c.requires.schedule block (columns_of _ _ _ _ c.requires.agents columns) (zeros.all ∙ ap (λ (x : ℕ). c.args.self.now.schedule.slots * x) c.from-width.ensures) (zeros.width ∙ c.from-width.ensures) zeros.narrow zeros.zeros;
          zeros = zeros.row;
        },
      );
      none = λ no. absurd (false≢true (sym no));
    }

pub returns-then-was_last : goal.returns-then-was_last
returns-then-was_last g c = record { schedule = refl; asked = refl; some = λ yes. absurd (false≢true yes); none = λ no. omega (arith, c.if-was_last.true, c.from.ensures, c.len.ensures, c.requires.agents) }
