-- The cheap value of a curve's net amounts in every scenario, and what is asked for it.
use Rattle.std.specs.Prelude.{ℕ, ◌+◌, ◌-◌, ◌≤◌, ◌<◌, ◌≡◌, List, map, ℤ, pos, nat_abs, ◌+ℤ◌, length, take, drop, get_or}
use Rattle.ground.specs.Limits.{day_count}
use Rattle.curve.specs.declared.Node.{Node}
use Rattle.curve.specs.declared.Curve.{Curve}
use Rattle.curve.specs.declared.Components.{Components}
use Rattle.curve.specs.Limits.{zero_node}
use Rattle.curve.specs.Rates.{nodes_of, rate_at}
use Rattle.curve.specs.Scenarios.{scenario_count, scenario_at}
use Rattle.curve.specs.Stress.{stressed}
use Rattle.netting.specs.Netting.{listed, net_value, net_size, cheap_on}
use Rattle.estimate.specs.declared.lines.Line.{Line}
use Rattle.estimate.specs.declared.parts.Part.{Part}
use Rattle.estimate.specs.Lines.{rate_on, Drawn}

-- ---- the values

-- the cheap value of the net amounts at the rates of some nodes
abbrev pub cheap_value : List Node → List ℤ → ℤ
cheap_value nodes nets = net_value (cheap_on (rate_at nodes)) nets (listed nets)

-- and in scenario s of a curve
abbrev pub scenario_value : Curve → Components → List ℤ → ℕ → ℤ
scenario_value c x nets s = cheap_value (map (stressed (scenario_at x s)) (nodes_of c)) nets

-- a value for each scenario
pub record ScenarioValues (c : Curve) (x : Components) (nets values : List ℤ) : Type 0 where
  pub each : (s : ℕ) → s < scenario_count x → get_or values s (pos 0) ≡ scenario_value c x nets s

-- ---- by lines: each has the listed days from one place to another

abbrev pub between : ℕ → ℕ → List ℕ → List ℕ
between i j days = take (j - i) (drop i days)

-- part p with the days before place `end`, at the line's rates
abbrev pub along_to : Line → ℕ → List ℤ → List ℕ → Part → Part
along_to l end nets days p =
    record { done = end; value = p.value +ℤ net_value (cheap_on (rate_on l)) nets (between p.done end days) }

-- n of the listed days come before a day, and they stand first
pub record DaysBefore (day : ℕ) (days : List ℕ) (n : ℕ) : Type 0 where
  pub most : n ≤ length days
  pub before : (i : ℕ) → i < n → get_or days i 0 < day
  pub after : (i : ℕ) → n ≤ i → i < length days → day ≤ get_or days i 0

-- for each node of a curve, how many come before its day
pub record Ends (c : Curve) (days ends : List ℕ) : Type 0 where
  pub places : c.count ≤ length ends
  pub each : (k : ℕ) → k < c.count → DaysBefore (get_or c.nodes k zero_node).day days (get_or ends k 0)

-- ---- what is asked

-- the most that net amounts are together: 140,000 flows of 10 ^ 12
unfoldable pub most_size : ℕ
most_size = 140000000000000000

-- the days are those that have a net amount
pub record Listed (nets : List ℤ) (days : List ℕ) : Type 0 where
  pub places : length nets ≡ day_count
  pub list : days ≡ listed nets
  pub size : net_size nets (listed nets) ≤ most_size

-- no day comes before one that stands in front of it
pub record Rising (days : List ℕ) : Type 0 where
  pub order : (i j : ℕ) → i ≤ j → j < length days → get_or days i 0 ≤ get_or days j 0

-- part p can go on along the line to place `end`: the days there have their places among the net amounts and are on the line, and the part's value with
-- all amounts to come fits
pub record Ready (l : Line) (end : ℕ) (nets : List ℤ) (days : List ℕ) (p : Part) : Type 0 where
  pub places : length nets ≡ day_count
  pub from : p.done ≤ end
  pub most : end ≤ length days
  pub each : (i : ℕ) → p.done ≤ i → i < end → (get_or days i 0 < day_count) × Drawn l (get_or days i 0)
  pub size : nat_abs p.value + net_size nets (drop p.done days) ≤ most_size
