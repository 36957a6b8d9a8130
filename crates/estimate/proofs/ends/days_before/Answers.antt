-- `estimate::ends::days_before` meets its contract.
use Rattle.std.proofs.Common.{ltb, ltb-true, ltb-false, arith, rules}
use Rattle.std.proofs.lemmas.List.Sorted.{IsPartitionPoint-from_clause, IsPartitionedBy-ltb, IsNonDecreasingBy-from_default}
use Rattle.estimate.proofs.ends.days_before.Goals as goal

pub returns : goal.returns
returns c =
    let parted = IsPartitionedBy-ltb (λ d. d) _ c.args.day (IsNonDecreasingBy-from_default (λ d. d) _ 0 c.requires.order) in
    let point = IsPartitionPoint-from_clause (λ d. ltb d c.args.day) _ _ c.partition_point.ensures.partitioned parted (λ a r q k. search rules) in
    record {
      most = omega arith;
      before = λ k h. ltb-true _ _ (point.0 k 0 (omega arith) h);
      after = λ k h m. ltb-false _ _ (point.1 k 0 h m);
    }
