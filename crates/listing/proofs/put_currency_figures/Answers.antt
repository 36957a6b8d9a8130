-- `listing::put_currency_figures` meets its contract: the figures, one behind the other.
use Rattle.std.proofs.Common.{rules, w64, SFits}
use Rattle.layout.proofs.Signed.{code_read}
use Rattle.text.specs.Text.{ascii}
use Rattle.listing.specs.Listing.{currency_figures}
use Rattle.text.proofs.Writing.{and_then}
use Rattle.listing.proofs.put_currency_figures.Goals as goal

pub returns-clause-text_written : goal.returns-clause-text_written
unfolding currency_figures ascii
returns-clause-text_written c =
    let m = c.args.m in
    let i : SFits w64 m.initial = search rules in
    let v : SFits w64 m.variation = search rules in
    let t : SFits w64 m.total = search rules in
    let opened = rw (code_read _ i) at c.put_signed-variation.ensures.text_written in
    let varied = and_then opened (rw (code_read _ v) at c.put_signed-total.ensures.text_written) in
    and_then varied (rw (code_read _ t) at c.put_signed.ensures.text_written)
