-- `listing::put_curve_figures` meets its contract: the figures, one behind the other.
use Rattle.std.proofs.Common.{rules, w64, SFits}
use Rattle.layout.proofs.Signed.{code_read}
use Rattle.text.specs.Text.{ascii}
use Rattle.listing.specs.Listing.{curve_figures}
use Rattle.text.proofs.Writing.{and_then}
use Rattle.listing.proofs.put_curve_figures.Goals as goal

pub returns-clause-text_written : goal.returns-clause-text_written
unfolding curve_figures ascii
returns-clause-text_written c =
    let m = c.args.m in
    let b : SFits w64 m.base = search rules in
    let w : SFits w64 m.worstloss = search rules in
    let valued = rw (code_read _ b) at c.put_signed-loss.ensures.text_written in
    let lost = and_then valued (rw (code_read _ w) at c.put_signed-scenario.ensures.text_written) in
    and_then (and_then lost c.put_number-tolerance.ensures.text_written) c.put_number.ensures.text_written
