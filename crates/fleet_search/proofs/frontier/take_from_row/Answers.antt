use Rattle.fleet_search.proofs.Words.{◌∙◌, arith, items-past, items-read, items-set, items-other}
use Rattle.fleet_search.proofs.RowLaws.{no_numbers, is_taken, none_is_taken}
use Rattle.fleet_search.proofs.frontier.take_from_row.Goals as goal

pub returns-then-is_past-clause-none : goal.returns-then-is_past-clause-none
returns-then-is_past-clause-none c = items-past c.args.rows.now.items c.args.key (omega arith)

pub returns-then-is_past-clause-kept : goal.returns-then-is_past-clause-kept
returns-then-is_past-clause-kept c = items-past c.args.rows.now.items c.args.key (omega arith)

pub returns-clause-none : goal.returns-clause-none
returns-clause-none c = none_is_taken c.pop.result _ _ _ c.pop.ensures.cases (λ e. items-set c.args.rows.now.items c.args.key c.pop.new.self (omega arith) ∙ no_numbers c.pop.new.self.items (omega (arith, e.1)))

pub returns-clause-kept : goal.returns-clause-kept
returns-clause-kept c = none_is_taken c.pop.result _ _ _ c.pop.ensures.cases (λ e. items-read c.args.rows.now.items c.args.key c.index_mut.result.now (omega arith) c.index_mut.ensures.value ∙ no_numbers c.index_mut.result.now.items (omega (arith, e.0)))

pub returns-clause-some : goal.returns-clause-some
returns-clause-some c = is_taken c.args.rows.now.items c.args.key c.index_mut.result.now c.pop.new.self c.pop.result (omega arith) c.index_mut.ensures.value c.pop.ensures.items

pub returns-clause-others : goal.returns-clause-others
returns-clause-others c = λ k ne. items-other c.args.rows.now.items c.args.key k c.pop.new.self ne
