-- The number of each ground (document 01, "Grounds of refusal"; from 17 on, document 02).
use Rattle.std.specs.Prelude.{ℕ}
use Rattle.ground.specs.declared.Ground.{Ground}
use Rattle.ground.specs.declared.Ground.TheVariants.{Length, Check, Place, Header, Curve, Node, TradeBlock, Form, Days, Amounts, Currency, FlowLimit, ReportSpace, Position, BookSpace, ValueRange, CurveEnd, RateRange, ValuationDay}

abbrev pub number_of : Ground → ℕ
number_of Length = 1
number_of Check = 2
number_of Place = 3
number_of Header = 4
number_of Curve = 5
number_of Node = 6
number_of TradeBlock = 7
number_of Form = 8
number_of Days = 9
number_of Amounts = 10
number_of Currency = 11
number_of FlowLimit = 12
number_of ReportSpace = 13
number_of Position = 14
number_of BookSpace = 15
number_of ValueRange = 16
number_of CurveEnd = 17
number_of RateRange = 18
number_of ValuationDay = 19
