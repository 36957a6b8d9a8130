-- `page::line::put_trade` meets its contract: its left part, the nominal behind blanks, the line feed.
use Prim.Native.Nat.{◌+◌, ◌-◌, ◌^◌, ◌<◌}
use native.Mathlib.Omega.{arith}
use lib.IntN.{pos}
use Rattle.laws.proofs.Signed.{cast_is}
use Rattle.decimal.specs.Product.{unit}
use Rattle.record.specs.declared.Fields.{Fields}
use Rattle.text.proofs.Amounts.{length-amount}
use Rattle.page.specs.Line.{trade_left, trade_line}
use Rattle.page.specs.LineLimits.{TradeLineLimits}
use Rattle.page.proofs.LineWritten.{one-amount-line}
use Rattle.page.proofs.line.put_trade.Goals as goal

small : (f : Fields) → TradeLineLimits f → f.amounts.nominal < 2 ^ 63
unfolding unit
small f h = omega (arith, h.nominal)

pub overflow_cast-f : goal.overflow_cast-f
overflow_cast-f c = record { sfits = small c.args.f c.requires.1 }

pub returns : goal.returns
unfolding trade_line
returns c =
    let f = c.args.f in
    let left = c.put_trade_left-left in
    let text = trade_left c.args.position f in
    let width = c.args.at + 80 - left.result in
    let below = small f c.requires.1 in
    let shown = rw (cast_is f.amounts.nominal below) at c.put_right_aligned-end.ensures.text_written in
    let place = left.ensures.text_written.place in
    one-amount-line text (pos f.amounts.nominal) width (omega (arith, place, left.ensures.upper_bound)) (omega (arith, left.ensures.upper_bound))
    (omega (arith, length-amount (pos f.amounts.nominal) (omega (arith, below))))
    left.ensures.text_written shown c.put_text.ensures
