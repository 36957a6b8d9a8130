-- `margin::margins::margin_of` meets its contract.
use native.Mathlib.Omega.{arith}
use borrow.Author.Rules.{rules}
use mathlib.Core.Path.{◌≡◌}
use lib.ListN.{length}
use Rattle.margin.proofs.Accounts.{assembled-is}
use Rattle.margin.proofs.margins.margin_of.Goals as goal

pub returns : goal.returns
returns c =
    let places : length c.args.curves ≡ 8 = search rules in
    assembled-is _ _ _ _ _ _ _ (omega (arith, c.requires.most)) c.cleared.ensures c.currency_margin.ensures c.currency_margin-2.ensures c.currency_margin-3.ensures
