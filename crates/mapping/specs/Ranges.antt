-- How far the rates of two nodes are apart in any scenario at most, and how high they are at most: from the components, without a look at each scenario.
use Rattle.std.specs.Prelude.{cond, ℕ, min, max, ◌+◌, ◌-◌, ◌*◌, ◌/◌, ◌≤◌, ◌<◌, eqb, nat_abs, ◌-ℤ◌}
use Rattle.curve.specs.declared.Node.{Node}
use Rattle.curve.specs.declared.Component.{Component}
use Rattle.curve.specs.declared.Components.{Components}
use Rattle.curve.specs.Limits.{highest_rate, zero_node}
use Rattle.curve.specs.Scenarios.{scenario_count, scenario_at}
use Rattle.curve.specs.Stress.{stressed}
use Rattle.bucket.specs.Convexity.{Apart}
use Rattle.mapping.specs.declared.ranges.Range.{Range}

-- the most that a component's coefficients are, to either side
unfoldable pub swing : Component → ℕ
swing x = cond (eqb x.steps 0) 0 x.range

-- the scenarios move two nodes' rates apart by this at most, in hundredths of a millionth
unfoldable pub moved_apart : Node → Node → Components → ℕ
moved_apart a b x =
    swing x.first * nat_abs (a.first -ℤ b.first) + swing x.second * nat_abs (a.second -ℤ b.second) + swing x.third * nat_abs (a.third -ℤ b.third)

-- with the distance of the rates themselves, and two for the cuts of both quotients
unfoldable pub width_of : Node → Node → Components → ℕ
width_of a b x = min ((a.rate - b.rate) + (b.rate - a.rate) + moved_apart a b x / 100 + 2) highest_rate

-- a rate as high as they move it: apart from a node that they do not move
unfoldable pub height_of : Node → Components → ℕ
height_of n x = min (n.rate + moved_apart n zero_node x / 100) highest_rate

unfoldable pub range_of : Node → Node → Components → Range
range_of a b x = record { width = width_of a b x; highest = max (height_of a x) (height_of b x) }

-- ---- what is known of it

pub record RangeLimits (w : Range) : Type 0 where
  pub width : w.width ≤ 1000000
  pub highest : w.highest ≤ 1000000

-- two rates are as far apart at most, and as high
pub record InRange (w : Range) (a b : ℕ) : Type 0 where
  pub apart : Apart a b w.width
  pub first : a ≤ w.highest
  pub second : b ≤ w.highest

-- those of nodes a and b in every scenario
pub record Ranges (a b : Node) (x : Components) (w : Range) : Type 0 where
  pub limits : RangeLimits w
  pub each : (s : ℕ) → s < scenario_count x → InRange w (stressed (scenario_at x s) a).rate (stressed (scenario_at x s) b).rate
