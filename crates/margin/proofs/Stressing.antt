-- The loss of a scenario as the code takes it, and the figures of a curve.
use mathlib.Core.Path.{◌≡◌, refl, ◌∙◌, ap}
use mathlib.Core.Bool.{Bool, true, false}
use mathlib.Core.List.{List, map}
use Prim.Native.Nat.{ℕ, ◌^◌, ◌<◌}
use lib.IntN.{ℤ, nat_abs, ◌-ℤ◌}
use lib.Signed.{lt_z}
use Rattle.laws.proofs.Signed.{read, read_is}
use Rattle.discount.specs.Flows.{flow_value}
use Rattle.curve.specs.Scenarios.{scenario_at}
use Rattle.curve.specs.declared.Curve.{Curve}
use Rattle.curve.specs.Rates.{nodes_of}
use Rattle.curve.specs.Stress.{stressed, stressed_curve}
use Rattle.curve.proofs.Stress.{nodes-stressed}
use Rattle.ladder.specs.declared.Position.{Position}
use Rattle.ladder.specs.declared.total.Total.{Total}
use Rattle.ladder.specs.Exposure.{Exposure, exposure_of, PositionLimits}
use Rattle.ladder.specs.Values.{value_on, base_of, total_on}
use Rattle.ladder.proofs.Sizes.{value-size, value-fits, position-fits, base_read}
use Rattle.margin.specs.declared.losses.Loss.{Loss}
use Rattle.margin.specs.Losses.{value_at, loss_at}
use Rattle.margin.specs.Margins.{figures_at}
use Rattle.margin.specs.Worst.{worse_of, LossLimits, loss_of}
use Rattle.margin.proofs.Sizes.{loss-size, loss-fits}

-- ---- what the code's test of two losses says

compared : (a b : Loss) → LossLimits a × LossLimits b → (t : Bool) → lt_z (read a.amount) (read b.amount) ≡ t → lt_z a.amount b.amount ≡ t
compared a b h t e =
    rw (read_is a.amount (loss-fits a.amount h.0.amount), read_is b.amount (loss-fits b.amount h.1.amount)) at e

module _ (a b : Loss) (h : LossLimits a × LossLimits b) where
  pub worse-other : lt_z (read a.amount) (read b.amount) ≡ true → b ≡ worse_of a b
  unfolding worse_of
  worse-other e = rw (compared a b h true e)

  pub worse-self : lt_z (read a.amount) (read b.amount) ≡ false → a ≡ worse_of a b
  unfolding worse_of
  worse-self e = rw (compared a b h false e)

-- ---- a position: the code's difference, where d is the curve stressed and t the total on it

module _ (p : Position) (ladder : List ℕ) (h : PositionLimits p ladder) where
  abbrev e : Exposure
  e = exposure_of p ladder

  pub losses-limits : (s : ℕ) (w : Loss) → w.amount ≡ loss_at flow_value e s → LossLimits w
  losses-limits s w q = record { amount = rw q (loss-size e (position-fits p ladder h) s) }

  pub losses-fit : (s : ℕ) → nat_abs (loss_at flow_value e s) < 2 ^ 63
  losses-fit s = loss-fits (loss_at flow_value e s) (loss-size e (position-fits p ladder h) s)

  -- a loss, read back from its bits
  pub loss-read : (s : ℕ) (r : ℤ) → r ≡ loss_at flow_value e s → read r ≡ loss_at flow_value e s
  loss-read s r q = rw q (read_is (loss_at flow_value e s) (losses-fit s))

  pub code-loss : (base : ℤ) (s : ℕ) (d : Curve) (t : Total) → base ≡ base_of flow_value e → d ≡ stressed_curve (scenario_at p.components s) p.curve
      → t ≡ total_on (nodes_of d) e.flows → read base -ℤ read t.sum ≡ loss_at flow_value e s
  unfolding loss_at
  code-loss base s d t eb ed et =
      let v : t.sum ≡ value_at flow_value e s =
      ap (λ (t : Total). t.sum) et
      ∙ ap (λ (d : Curve). value_on flow_value (nodes_of d) e.flows) ed
      ∙ ap (λ ns. value_on flow_value ns e.flows) (nodes-stressed (scenario_at p.components s) p.curve h.proper) in
      let fit = value-fits (value_at flow_value e s) (value-size e (position-fits p ladder h) (map (stressed (scenario_at p.components s)) e.nodes)) in
      rw (v, base_read p ladder h base eb, read_is (value_at flow_value e s) fit) refl

  -- ---- the figures of a curve, by what the code holds of them

  module _ (t : Total) (et : t ≡ total_on e.nodes e.flows) where
    pub base-is : read t.sum ≡ base_of flow_value e
    base-is = base_read p ladder h t.sum (ap (λ (t : Total). t.sum) et)

    pub figures-are : (w : Loss) (s : ℕ) → w ≡ loss_of e s
        → record { base = read t.sum; worstloss = read w.amount; scenario = w.scenario; currency = p.currency; tolerance = t.tolerance } ≡ figures_at e s
    unfolding figures_at
    figures-are w s ew = rw (base-is, loss-read s w.amount (ap (λ (w : Loss). w.amount) ew)) (cc (ew, et))
