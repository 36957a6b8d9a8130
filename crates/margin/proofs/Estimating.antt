-- Screened values of netted flows at cheap factors are estimates of the scenarios' values.
use mathlib.Core.Path.{◌≡◌}
use mathlib.Core.List.{List, [], ◌∷◌, map}
use Prim.Native.Nat.{ℕ}
use native.Mathlib.Nat.{le_trans, mul-le-mul_right}
use lib.IntN.{ℤ}
use lib.ListN.{length}
use lib.Signed.{◌≤ℤ◌}
use Rattle.laws.specs.Distance.{Below, Within}
use Rattle.laws.proofs.Integer.{int}
use Rattle.discount.specs.declared.Flow.{Flow}
use Rattle.discount.specs.Flows.{sum, flow_value}
use Rattle.curve.specs.Rates.{nodes_of, rate_at}
use Rattle.curve.specs.Scenarios.{scenario_at}
use Rattle.curve.specs.Stress.{stressed}
use Rattle.curve.proofs.Rates.{rate-limit, each-limits}
use Rattle.curve.proofs.Stress.{each-stressed}
use Rattle.netting.specs.Netting.{no_nets, netted, flow_deviation, OnDays}
use Rattle.netting.proofs.NettedValue.{netted-within}
use Rattle.estimate.specs.Values.{scenario_value}
use Rattle.ladder.specs.Ladder.{ladder_flows}
use Rattle.ladder.specs.Totals.{AllFlowLimits}
use Rattle.ladder.proofs.LadderFlows.{ladder-limits}
use Rattle.ladder.proofs.Netting.{deviation-most}
use Rattle.screening.specs.Screening.{Screened}
use Rattle.ladder.specs.declared.Position.{Position}
use Rattle.ladder.specs.Exposure.{Exposure, exposure_of, PositionLimits}
use Rattle.margin.specs.Losses.{value_at}
use Rattle.margin.specs.Choice.{Estimates}

dated : (fs : List Flow) → AllFlowLimits fs → OnDays fs
dated [] h = tt
dated (f ∷ fs) h = (h.0.day, dated fs h.1)

module _ (p : Position) (ladder : List ℕ) (h : PositionLimits p ladder) where
  abbrev e : Exposure
  e = exposure_of p ladder

  abbrev fs : List Flow
  fs = ladder_flows p.id ladder p.schedules

  limits : AllFlowLimits fs
  limits = ladder-limits p.id ladder p.schedules h.schedules

  module _ (nets values : List ℤ) (deviation : ℕ) (en : nets ≡ netted fs no_nets) (er : deviation ≡ sum flow_deviation fs) where
    near : (s : ℕ) → Within (scenario_value p.curve p.components nets s) (value_at flow_value e s) deviation
    near s =
        let stress = map (stressed (scenario_at p.components s)) (nodes_of p.curve) in
        rw (en, er)
        (netted-within (rate_at stress) (λ d. rate-limit stress d (each-stressed (scenario_at p.components s) (nodes_of p.curve) (each-limits p.curve h.proper))) fs (dated fs limits))

    under : (a b c : ℤ) → a ≤ℤ b → Below b c deviation → Below a c deviation
    under a b c l k = omega (int, l, k)

    over : (a b c : ℤ) → Below a b deviation → b ≤ℤ c → Below a c deviation
    over a b c k l = omega (int, l, k)

    pub estimates : length values ≡ 343 → Screened p.curve p.components nets values → Estimates e values deviation
    estimates places screened =
        record {
          places = places;
          below = λ s k. under _ _ _ (screened.below.each s k) (near s).low;
          cover =
              λ s k.
              let c = screened.cover s k in
              record { place = c.place; within = c.within; near = over _ _ _ (near c.place).high c.most };
          small = rw er (le_trans (deviation-most fs limits) (mul-le-mul_right 200000 h.schedules.few));
        }
