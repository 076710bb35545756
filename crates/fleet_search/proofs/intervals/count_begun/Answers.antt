use Rattle.fleet_search.proofs.Words.{rules, leb, arith, leb-true, leb-false, IsPartitionPoint-from_clause, IsPartitionedBy-leb, Occupancy}
use Rattle.fleet_search.proofs.intervals.count_begun.Goals as goal

pub returns-clause-point : goal.returns-clause-point
returns-clause-point c =
    let t = c.args.time in
    let w = IsPartitionPoint-from_clause (λ (s : Occupancy). leb s.from t) c.args.occupancies.now c.partition_point.result c.partition_point.ensures.partitioned (IsPartitionedBy-leb (λ s. s.from) c.args.occupancies.now t c.requires) (λ a r f' k. search rules) in (
      λ k d l m. leb-true _ _ (w.0 k d l m),
      λ k d l m. leb-false _ _ (w.1 k d l m),
    )

pub returns-then-have_all_begun-clause-point : goal.returns-then-have_all_begun-clause-point
returns-then-have_all_begun-clause-point c = (
  λ k d l m. c.have_all_begun.ensures (c.if-have_all_begun.true) k d (omega arith),
  λ k d l m. absurd (omega arith),
)
