-- The net amounts of a curve's days, mapped to the ends of their buckets.
use Rattle.std.specs.Prelude.{◌≡◌, List, ℕ, ◌+◌, ◌*◌, ◌/◌, ◌≤◌, ◌<◌, ℤ, nat_abs, length}
use Rattle.laws.specs.Distance.{Below}
use Rattle.ground.specs.Limits.{last_day, day_count}
use Rattle.discount.specs.declared.Flow.{Flow}
use Rattle.curve.specs.declared.Curve.{Curve}
use Rattle.curve.specs.declared.Components.{Components}
use Rattle.curve.specs.Scenarios.{scenario_count}
use Rattle.netting.specs.Netting.{no_nets, net_on, net_with, netted, listed, net_size}
use Rattle.estimate.specs.Values.{scenario_value}
use Rattle.bucket.specs.declared.buckets.Bucket.{Bucket}
use Rattle.bucket.specs.Mapped.{first_flow, last_flow, excess_flow, mapped, net_flows}
use Rattle.mapping.specs.declared.segments.Segment.{Segment}
use Rattle.mapping.specs.Segments.{bucket_in}

-- in the buckets of some segments
abbrev pub mapped_nets : List Segment → List ℤ → List ℕ → List ℤ
mapped_nets segments nets days = netted (mapped (bucket_in segments) (net_flows nets days)) no_nets

-- with one flow more, mapped to the ends of its bucket
abbrev pub mapped_with : List ℤ → Flow → Bucket → List ℤ
mapped_with nets f k = net_with (net_with (net_with nets (first_flow k f)) (last_flow k f)) (excess_flow k f)

-- what roundings come to at most, of net amounts of some days: a millionth of them, and ten kuruş a day
unfoldable pub spare_of : List ℤ → List ℕ → ℕ
spare_of nets days = net_size nets days / 1000000 + 10 * length days

-- net amounts whose value is no more than that of others in any scenario, but for the spare of those
pub record LowNets (c : Curve) (x : Components) (nets : List ℤ) (days : List ℕ) (low : List ℤ) : Type 0 where
  pub places : length low ≡ day_count
  pub size : net_size low (listed low) ≤ 140000000000000000
  pub below : (s : ℕ) → s < scenario_count x → Below (scenario_value c x low s) (scenario_value c x nets s) (spare_of nets days)

-- ---- what is asked

-- the most that net amounts are together where they are mapped: with what is taken off they are still no more than 140,000 flows of 10 ^ 12
abbrev pub most_mapped : ℕ
most_mapped = 139000000000000000

-- the days are those that have a net amount, and together they are little enough
pub record Mappable (nets : List ℤ) (days : List ℕ) : Type 0 where
  pub places : length nets ≡ day_count
  pub list : days ≡ listed nets
  pub few : length days ≤ day_count
  pub size : net_size nets days ≤ most_mapped

-- a flow of a net amount
pub record NetFlowLimits (f : Flow) : Type 0 where
  pub amount : f.amount ≤ most_mapped
  pub day : f.day ≤ last_day

-- net amounts that have room for a flow's parts
pub record MappedRoom (nets : List ℤ) : Type 0 where
  pub places : length nets ≡ day_count
  pub each : (day : ℕ) → nat_abs (net_on nets day) ≤ 300000000000000000
