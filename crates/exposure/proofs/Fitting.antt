-- What an accepted book has on a curve: a proper curve, and flows in their limits, few enough for 64 bits.
use mathlib.Core.Path.{◌≡◌, sym, ap, ◌∙◌}
use mathlib.Core.List.{List, [], ◌∷◌, ◌++◌}
use Prim.Native.Nat.{ℕ, zero, suc, ◌≤◌}
use native.Mathlib.Numerals.{add-one}
use native.Mathlib.Omega.{arith}
use lib.Dec.{eqb}
use Rattle.laws.specs.All.{All}
use Rattle.laws.proofs.All.{all_append}
use Rattle.laws.proofs.Select.{select-each}
use Rattle.discount.specs.declared.Flow.{Flow}
use Rattle.record.specs.Bytes.{fields_of}
use Rattle.flows.specs.Legs.{flows_of}
use Rattle.flows.proofs.Bounded.{FlowBounds, flows-bounded}
use Rattle.book.specs.Parts.{curves_of, trade_count, record_at}
use Rattle.book.proofs.Accepted.{Sound, trade-count-most}
use Rattle.ladder.specs.Exposure.{flows_on, FlowsFit}
use Rattle.ladder.specs.Totals.{FlowLimits, AllFlowLimits}
use Rattle.exposure.specs.Exposures.{trade_at, flows_up_to, flows_in, exposure_at}
use Rattle.exposure.proofs.Collected.{more-flows, no-flows, on-few, few-flows, accepted-at}

bounded : (n : ℕ) (fs : List Flow) → All (FlowBounds n) fs → AllFlowLimits fs
bounded n [] h = tt
bounded n (f ∷ fs) h = (record { amount = h.0.amount; day = h.0.day }, bounded n fs h.1)

on-limits : (curve : ℕ) (fs : List Flow) → AllFlowLimits fs → AllFlowLimits (flows_on curve fs)
unfolding flows_on
on-limits curve fs h = select-each (λ (f : Flow). eqb f.curve curve) FlowLimits fs h

module _ (s : List ℕ) (used : ℕ) (b : Sound s used) where
  flows-limits : (i : ℕ) → i ≤ trade_count s → AllFlowLimits (flows_up_to s i)
  flows-limits zero l = rw (no-flows s) tt
  flows-limits (suc i) l =
      let more : flows_up_to s (suc i) ≡ flows_up_to s i ++ flows_of (trade_at s i) = ap (flows_up_to s) (sym (add-one i)) ∙ more-flows s i in
      rw more
      (all_append FlowLimits (flows_up_to s i) (flows_of (trade_at s i)) (flows-limits i (omega arith))
      (bounded (curves_of s).count (flows_of (trade_at s i)) (flows-bounded (fields_of (record_at s i)) (accepted-at s used b i (omega arith)))))

  pub exposure-fits : (curve : ℕ) → FlowsFit (exposure_at s curve)
  unfolding exposure_at
  exposure-fits curve =
      record {
        each = on-limits curve (flows_in s) (flows-limits (trade_count s) (omega arith));
        few = omega (arith, on-few curve (flows_in s), few-flows s used b (trade_count s) (omega arith), trade-count-most s used b);
      }
