-- Values lowered one by one, and what that makes of the cheap values of mapped amounts.
use mathlib.Core.Path.{◌≡◌, ◌∙◌}
use mathlib.Core.List.{List, map}
use Prim.Native.Nat.{ℕ, ◌≤◌, ◌<◌}
use native.Mathlib.Omega.{arith}
use lib.IntN.{ℤ, pos, neg_ℤ, nat_abs, ◌-ℤ◌}
use lib.ListN.{length, get_or}
use lib.Signed.{◌≤ℤ◌}
use Rattle.laws.specs.Distance.{Below}
use Rattle.laws.proofs.Integer.{int, plus, up_pos, down_pos, up_neg, down-neg}
use Rattle.laws.proofs.Signed.{abs-sub}
use Rattle.curve.specs.declared.Curve.{Curve}
use Rattle.curve.specs.declared.Components.{Components}
use Rattle.curve.specs.Rates.{nodes_of, rate_at}
use Rattle.curve.specs.Scenarios.{scenario_count, scenario_at}
use Rattle.curve.specs.Stress.{stressed}
use Rattle.cheap.proofs.Bound.{cheap-le}
use Rattle.cheap.proofs.Powers.{whole_is}
use Rattle.netting.specs.Netting.{listed, net_size, cheap_on}
use Rattle.netting.proofs.Sizes.{net-value-size}
use Rattle.estimate.specs.Values.{scenario_value, ScenarioValues}
use Rattle.mapping.specs.Mapping.{spare_of, LowNets, Mappable}
use Rattle.screening.specs.Screening.{NoneAbove, Lowered, AllSmall}

-- ---- the values lowered one by one

pub record Lowering (spare : ℕ) (values₀ values : List ℤ) (n : ℕ) : Type 0 where
  pub places : length values ≡ length values₀
  pub done : Lowered spare values₀ values n
  pub rest : (s : ℕ) → n ≤ s → get_or values s (pos 0) ≡ get_or values₀ s (pos 0)

-- ---- how large cheap values are

pub value-size : (c : Curve) (x : Components) (nets : List ℤ) (s : ℕ) → nat_abs (scenario_value c x nets s) ≤ net_size nets (listed nets)
value-size c x nets s =
    net-value-size (cheap_on (rate_at (map (stressed (scenario_at x s)) (nodes_of c)))) (λ d. rw (← whole_is) (cheap-le _ d)) nets (listed nets)

module _ (c : Curve) (x : Components) (nets : List ℤ) (size : net_size nets (listed nets) ≤ 140000000000000000) where
  pub filled-small : (values : List ℤ) → ScenarioValues c x nets values → AllSmall values (scenario_count x)
  filled-small values f s k = rw (f.each s k) (omega (arith, value-size c x nets s))

-- ---- of mapped amounts

module _ (c : Curve) (x : Components) (nets : List ℤ) (days : List ℕ) (low : List ℤ) (m : LowNets c x nets days low) (values₀ values : List ℤ)
    (filled : ScenarioValues c x low values₀) (lowered : Lowered (spare_of nets days) values₀ values (scenario_count x)) where
  low-is : (s : ℕ) → s < scenario_count x → get_or values s (pos 0) ≡ scenario_value c x low s -ℤ pos (spare_of nets days)
  low-is s k = lowered.each s k ∙ rw (filled.each s k)

  pub low-none-above : NoneAbove c x nets values
  low-none-above = record { each = λ s k. rw (low-is s k) (less _ _ _ (m.below s k)) }
    where
      less : (a b : ℤ) (t : ℕ) → Below a b t → (a -ℤ pos t) ≤ℤ b
      less a b t h = omega (int, h, plus a (neg_ℤ (pos t)), up_neg (pos t), down-neg (pos t), up_pos t, down_pos t)

  pub low_small : spare_of nets days ≤ 1000000000000000 → AllSmall values (scenario_count x)
  low_small h s k =
      rw (low-is s k) (omega (arith, abs-sub (scenario_value c x low s) (pos (spare_of nets days)), value-size c x low s, m.size))

pub spare-most : (nets : List ℤ) (days : List ℕ) → Mappable nets days → spare_of nets days ≤ 1000000000000000
unfolding spare_of
spare-most nets days m = omega (arith, m.size, m.few)
