-- The lines of document 01's example book: its curve and its currency.
use mathlib.Core.Path.{◌≡◌, refl}
use mathlib.Core.List.{flat_map}
use Rattle.margin.proofs.Buyer.{buyer_curve, buyer_lira}
use Rattle.text.specs.Text.{ascii, digits_within, decimal_of, with_sign, letters}
use Rattle.text.specs.Columns.{money_text, right_aligned}
use Rattle.page.specs.Line.{page_line}
use Rattle.page.specs.Page.{curve_left, curve_line, currency_line}

pub curve-printed : curve_line 1 buyer_curve ≡ ascii "1 2 TRY                       100.00                300.00                  0.01\n"
unfolding buyer_curve ascii digits_within decimal_of with_sign letters money_text right_aligned flat_map page_line curve_left curve_line
curve-printed = refl

pub currency-printed : currency_line 1 buyer_lira ≡ ascii "TRY                           300.00                100.00               -200.00\n"
unfolding buyer_lira ascii digits_within decimal_of with_sign letters money_text right_aligned flat_map page_line currency_line
currency-printed = refl
