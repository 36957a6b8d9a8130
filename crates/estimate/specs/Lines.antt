-- Lines: the rate of a curve between two nodes as a product and a cut, which is document 01's rate exactly (`line-rate` of proofs/LineRates.antt).
use Rattle.std.specs.Prelude.{ℕ, ◌+◌, ◌-◌, ◌*◌, ◌/◌, ◌≤◌, ◌<◌, ◌≡◌, cond, leb, ℤ, pos, neg_ℤ, nat_abs, ◌+ℤ◌, ◌-ℤ◌, ◌*ℤ◌}
use Rattle.ground.specs.Limits.{last_day}
use Rattle.curve.specs.declared.Node.{Node}
use Rattle.curve.specs.Limits.{highest_rate, NodeLimits}
use Rattle.estimate.specs.declared.lines.Line.{Line}

-- a rate in the parts that a line counts in: 2 ^ 27, more than the square of the days of any run
unfoldable pub line_scale : ℕ
line_scale = 134217728

-- the parts that a rate moves a day, rounded up, where it moves some way in a run of days
unfoldable pub slope_of : ℕ → ℕ → ℕ
slope_of way run = way * line_scale / run + 1

-- one rate on every day
unfoldable pub level : ℕ → Line
level rate = record { start = pos (rate * line_scale); slope = pos 0 }

-- by its slope, as many parts above node a's rate on node a's day: it starts where it would stand on day 0
abbrev pub line_from : Node → ℕ → ℤ → Line
line_from a above slope = record { start = pos (a.rate * line_scale + above) -ℤ slope *ℤ pos a.day; slope = slope }

-- from node a up to node b
unfoldable pub rising : Node → Node → Line
rising a b = line_from a 0 (pos (slope_of (b.rate - a.rate) (b.day - a.day)))

-- and down: what a rate falls is cut towards zero, so the line starts a part below the next rate
unfoldable pub falling : Node → Node → Line
falling a b = line_from a (line_scale - 1) (neg_ℤ (pos (slope_of (a.rate - b.rate) (b.day - a.day))))

unfoldable pub line_of : Node → Node → Line
line_of a b = cond (leb a.rate b.rate) (rising a b) (falling a b)

-- where a line stands on day t, in parts, and its rate
abbrev pub stands_at : Line → ℕ → ℤ
stands_at l t = l.start +ℤ l.slope *ℤ pos t

unfoldable pub rate_on : Line → ℕ → ℕ
rate_on l t = nat_abs (stands_at l t) / line_scale

-- ---- what is asked

-- node b follows node a
pub record Ahead (a b : Node) : Type 0 where
  pub from : NodeLimits a
  pub to : NodeLimits b
  pub rising : a.day < b.day

-- the most that a slope is
abbrev pub steepest : ℕ
steepest = 140000000000000

-- day t is on the line: its rate is one of document 01's, and 64 bits hold it in parts
pub record Drawn (l : Line) (t : ℕ) : Type 0 where
  pub day : t ≤ last_day
  pub start : nat_abs l.start ≤ 2000000000000000000
  pub slope : nat_abs l.slope ≤ steepest
  pub above : stands_at l t ≡ pos (nat_abs (stands_at l t))
  pub rate : rate_on l t ≤ highest_rate
