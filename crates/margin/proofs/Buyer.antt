-- The figures of document 01's example, as its buyer has them.
use lib.IntN.{pos, negsuc}
use Rattle.margin.specs.declared.CurveMargin.{CurveMargin}
use Rattle.margin.specs.declared.CurrencyMargin.{CurrencyMargin}

unfoldable pub buyer_curve : CurveMargin
buyer_curve = record { base = pos 10000; worstloss = pos 30000; scenario = 2; currency = 1; tolerance = 1 }

unfoldable pub buyer_lira : CurrencyMargin
buyer_lira = record { initial = pos 30000; variation = pos 10000; total = negsuc 19999 }
