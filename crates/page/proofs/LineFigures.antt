-- The lines of document 01's example book: its account and its trade.
use mathlib.Core.Path.{◌≡◌, refl}
use mathlib.Core.List.{flat_map}
use Rattle.record.specs.declared.Fields.{Fields}
use Rattle.text.specs.Text.{ascii, digits_within, decimal_of, with_sign}
use Rattle.text.specs.Columns.{money_text, right_aligned}
use Rattle.page.specs.Line.{page_line, title_line, line_day, trade_left, trade_line}

-- the buyer's trade: a single payment of 100,000 on day 365
unfoldable pub buyer_trade : Fields
buyer_trade =
    record {
      form = record { kind = 1; side = 1; phase = 0; securitycurve = 1; cashcurve = 1; security = 1; blank = 0 };
      days = record { valueday1 = 0; valueday2 = 0; first = 365; period = 0; payments = 0; term = 0 };
      amounts = record { coupon = 0; nominal = 100000; cash = 0; price = 700000; accrued = 0; index = 0; issue = 0 };
    }

pub title-printed : title_line 7 ≡ ascii "account 7                                                                       \n"
unfolding ascii digits_within decimal_of page_line title_line flat_map
title-printed = refl

pub trade-printed : trade_line 0 buyer_trade ≡ ascii "0 1 1 365                                                                1000.00\n"
unfolding buyer_trade ascii digits_within decimal_of with_sign money_text right_aligned flat_map page_line line_day trade_left trade_line
trade-printed = refl
