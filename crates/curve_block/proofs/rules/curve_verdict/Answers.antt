-- `curve_block::rules::curve_verdict` meets its contract: ground 5 allows the node count that ground 6 is tested with.
use Rattle.ground.specs.declared.Ground.TheVariants.{Curve}
use Rattle.ground.proofs.Verdicts.{not-broken}
use Rattle.curve_block.proofs.Accepted.{numbers-kept, count_most}
use Rattle.curve_block.proofs.rules.curve_verdict.Goals as goal

pub breaks_node-requires : goal.breaks_node-requires
breaks_node-requires c =
    let b = c.args.b.now in
    let k = c.args.k in
    (c.requires, count_most b k (numbers-kept b k (not-broken Curve k c.breaks_curve.ensures c.refuse_if-3.ensures c.in_ok-refuse_if-3.was)))
