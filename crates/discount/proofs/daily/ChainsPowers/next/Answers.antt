use Rattle.discount.proofs.Compounding.{powers-next}
use Rattle.discount.proofs.daily.ChainsPowers.next.Goals as goal

pub returns : goal.returns
returns c = λ k at. (at.0, powers-next c.args.of.0 k c.args.self c.product.result c.product.ensures.0 c.product.ensures.1 at.1)
