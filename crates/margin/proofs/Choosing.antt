-- What the choice among the scenarios takes at each step: equal losses, the limit of the estimates, and the loop over those that are kept.
use mathlib.Core.Path.{◌≡◌, refl, sym, ◌∙◌, ap}
use mathlib.Core.Bool.{Bool, true, false}
use mathlib.Core.List.{List, map}
use Prim.Native.Nat.{ℕ, ◌+◌, ◌*◌, ◌^◌, ◌≤◌, ◌<◌}
use native.Mathlib.Omega.{arith}
use mir.Syntax.{w64}
use mir.Val.{SFits}
use lib.IntN.{ℤ, pos, nat_abs, ◌+ℤ◌, ◌-ℤ◌, ◌*ℤ◌}
use lib.ListN.{get_or}
use lib.Signed.{lt_z, ◌<ℤ◌, lt_z_yes}
use Rattle.laws.specs.Distance.{Below}
use Rattle.laws.proofs.Integer.{int, abs-le}
use Rattle.laws.proofs.Signed.{fits, cast, cast_is, read, read_is, abs-add}
use Rattle.decimal.specs.Product.{unit}
use Rattle.discount.specs.Flows.{flow_value}
use Rattle.curve.specs.Scenarios.{scenario_count, scenario_at}
use Rattle.curve.specs.Stress.{stressed, stressed_curve}
use Rattle.ladder.specs.declared.Position.{Position}
use Rattle.margin.specs.declared.losses.Loss.{Loss}
use Rattle.ladder.specs.Exposure.{Exposure, exposure_of, PositionLimits}
use Rattle.ladder.specs.Values.{value_on, base_of}
use Rattle.margin.specs.Losses.{value_at, loss_at, worst_at}
use Rattle.ladder.specs.Totals.{most_flows}
use Rattle.margin.specs.Worst.{worse_of, loss_of, ScenarioLoss, worst_of}
use Rattle.screening.specs.Screening.{Least}
use Rattle.margin.specs.Choice.{Estimates, slack_of, limit_of, WorstKept, same_rates}
use Rattle.margin.proofs.Discarding.{kept-worst, same-stressed}
use Rattle.ladder.proofs.Sizes.{value-size, position-fits}

not-less : (z : ℤ) → lt_z z z ≡ false
not-less z = go (lt_z z z) refl
  where
    go : (t : Bool) → lt_z z z ≡ t → t ≡ false
    go true e = let less : z <ℤ z = lt_z_yes (rw e tt) in absurd (omega int)
    go false e = refl

-- between two numbers of some size
between-size : (a b c : ℤ) (t m : ℕ) → Below a b t → Below c a t → nat_abs b ≤ m → nat_abs c ≤ m → nat_abs a ≤ m + t
between-size a b c t m h k x y =
    let bs = (abs-le b m).0 x in
    let cs = (abs-le c m).0 y in
    (abs-le a (m + t)).1 (omega (int, h, k, bs.0, bs.1, cs.0, cs.1))

module _ (p : Position) (ladder : List ℕ) (h : PositionLimits p ladder) where
  abbrev e : Exposure
  e = exposure_of p ladder

  -- two scenarios that give the nodes the same rates have the same loss
  same-losses : (s t : ℕ) → same_rates (stressed_curve (scenario_at p.components s) p.curve) (stressed_curve (scenario_at p.components t) p.curve) ≡ true
      → loss_at flow_value e s ≡ loss_at flow_value e t
  unfolding loss_at
  same-losses s t k =
      ap (λ ns. base_of flow_value e -ℤ value_on flow_value ns e.flows) (same-stressed (scenario_at p.components s) (scenario_at p.components t) p.curve h.proper k)

  -- and so the later one is no worse
  pub same-worse : (w : Loss) → ScenarioLoss e w → (s : ℕ)
      → same_rates (stressed_curve (scenario_at p.components s) p.curve) (stressed_curve (scenario_at p.components w.scenario) p.curve) ≡ true
      → w ≡ worse_of w (loss_of e s)
  unfolding worse_of
  same-worse w k s q =
      let same : loss_at flow_value e s ≡ w.amount = same-losses s w.scenario q ∙ sym (ap (λ (v : Loss). v.amount) k.loss) in
      rw (same, not-less w.amount)

  size : (s : ℕ) → nat_abs (value_at flow_value e s) ≤ most_flows * unit
  size s =
      value-size e (position-fits p ladder h) (map (stressed (scenario_at p.components s)) e.nodes)

  -- an estimate is little larger than a value
  pub estimate-size : (values : List ℤ) (deviation : ℕ) → Estimates e values deviation → (s : ℕ) → s < scenario_count p.components
      → nat_abs (get_or values s (pos 0)) ≤ most_flows * unit + deviation
  estimate-size values deviation k s m =
      let cover = k.cover s m in
      between-size _ (value_at flow_value e s) (value_at flow_value e cover.place) deviation (most_flows * unit) (k.below s m) cover.near (size s) (size cover.place)

-- the first largest loss over those kept is the worst loss
pub worst-is : (e : Exposure) (values : List ℤ) (deviation m : ℕ) → Estimates e values deviation → Least values (scenario_count e.components) m → (w : Loss)
    → WorstKept (loss_at flow_value e) values (limit_of (get_or values m (pos 0)) deviation) (scenario_count e.components) w → w ≡ worst_of e
unfolding worst_at loss_at
worst-is e values deviation m k least w h =
    kept-worst (base_of flow_value e) (value_at flow_value e) values deviation (scenario_count e.components) k.below m least (k.cover m least.within).place (k.cover m least.within).within (k.cover m least.within).near w h

-- ---- the limit

module _ (deviation : ℕ) (small : deviation ≤ most_flows * 200000) where
  twice-is : pos 2 *ℤ cast deviation ≡ pos (2 * deviation)
  twice-is = rw (cast_is deviation (omega arith)) refl

  -- v is the least estimate
  module _ (v : ℤ) (size : nat_abs v ≤ most_flows * unit + deviation) where
    limit-size : nat_abs (v +ℤ pos (2 * deviation)) < 2 ^ 63
    unfolding unit
    limit-size = omega (arith, abs-add v (pos (2 * deviation)))

    value-back : read v ≡ v
    unfolding unit
    value-back = read_is v (omega arith)

    limit_is : read v +ℤ read (pos 2 *ℤ cast deviation) ≡ v +ℤ pos (2 * deviation)
    limit_is = rw (twice-is, value-back, read_is (pos (2 * deviation)) (omega arith)) refl

    pub limit-fits : SFits w64 (read v +ℤ read (pos 2 *ℤ cast deviation))
    limit-fits = rw limit_is (fits (v +ℤ pos (2 * deviation)) limit-size)

    pub limit-read : read (read v +ℤ read (pos 2 *ℤ cast deviation)) ≡ limit_of v deviation
    unfolding slack_of
    limit-read = rw limit_is (read_is (v +ℤ pos (2 * deviation)) limit-size)
