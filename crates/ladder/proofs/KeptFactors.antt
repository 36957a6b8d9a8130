-- What is kept of the factors of days.
use mathlib.Core.Path.{◌≡◌, refl, ◌∙◌}
use mathlib.Core.List.{List}
use Prim.Native.Nat.{ℕ, ◌+◌, ◌-◌, ◌*◌, ◌/◌, ◌%◌, ◌≤◌}
use native.Mathlib.Decide.{ℕ_discrete}
use native.Mathlib.Omega.{arith}
use lib.ListN.{get_or, set, replicate, length-set, length-replicate, get_or-replicate}
use lib.Seq.{get_or-set_same, get_or-set_other}
use Rattle.ground.specs.Limits.{last_day, day_count}
use Rattle.decimal.specs.HalfUp.{discounted}
use Rattle.discount.specs.Discount.{factor, present_value}
use Rattle.discount.proofs.Factors.{factor-le}
use Rattle.curve.specs.declared.Node.{Node}
use Rattle.curve.specs.Rates.{rate_at}
use Rattle.fine.specs.Fine.{InBracket, BracketLimits}
use Rattle.fine.specs.declared.bracket.Bracket.{Bracket}
use Rattle.ladder.specs.Kept.{bracket_in, KeptOn, KeptFactors}

-- ---- in a number: a factor, or a bracket

-- what an amount is worth at a factor
pub value-of-factor : (amount rate day : ℕ) {x : ℕ} → x ≡ factor rate day → discounted amount x ≡ present_value amount rate day
unfolding present_value
value-of-factor amount rate day e = rw e refl

pub factor-kept : (rate day : ℕ) {x : ℕ} → x ≡ factor rate day → KeptOn rate day (2 * x)
factor-kept rate day {x} e =
    let half : 2 * x / 2 ≡ x = omega arith in
    record {
      limits = record { factor = λ _. omega (arith, half, e, factor-le rate day); bracket = λ o. absurd (omega arith) };
      factor = λ _. half ∙ e;
      bracket = λ o. absurd (omega arith);
    }

pub bracket-kept : (rate day : ℕ) {b : Bracket} {entry : ℕ} → entry % 2 ≡ 1 → bracket_in entry ≡ b → BracketLimits b → InBracket b rate day → KeptOn rate day entry
bracket-kept rate day o e l n =
    record {
      limits = record { factor = λ z. absurd (omega arith); bracket = λ _. rw e l };
      factor = λ z. absurd (omega arith);
      bracket = λ _. rw e n;
    }

-- the number that is made of a bracket has it
odd : (n : ℕ) → (2 * n + 1) % 2 ≡ 1
odd n = omega arith

low_read : (low width : ℕ) → width ≤ 16000 → (2 * (low * 16384 + width) + 1) / 32768 ≡ low
low_read low width w = omega arith

width_read : (low width : ℕ) → width ≤ 16000 → (2 * (low * 16384 + width) + 1) / 2 % 16384 ≡ width
width_read low width w = omega arith

pub bracket-read : (b : Bracket) → BracketLimits b → let entry : ℕ = 2 * (b.low * 16384 + (b.high - b.low)) + 1 in (entry % 2 ≡ 1) × (bracket_in entry ≡ b)
unfolding bracket_in
bracket-read b l =
    let few : b.high - b.low ≤ 16000 = omega (arith, l.width) in
    let sum : b.low + (b.high - b.low) ≡ b.high = omega (arith, l.order) in
    (odd (b.low * 16384 + (b.high - b.low)), rw (low_read b.low (b.high - b.low) few, width_read b.low (b.high - b.low) few, sum) refl)

-- ---- by day

module _ (nodes : List Node) where
  pub kept-none : KeptFactors nodes (replicate day_count 0)
  kept-none =
      record {
        places = length-replicate {A = ℕ} day_count 0;
        each = λ day h n. absurd (n (get_or-replicate day_count day 0 0 (omega arith)));
      }

  pub kept-with : {factors : List ℕ} (day : ℕ) {x : ℕ} → KeptFactors nodes factors → KeptOn (rate_at nodes day) day x → KeptFactors nodes (set factors day x)
  kept-with {factors} day {x} h e = record { places = length-set factors day x ∙ h.places; each = λ k l. go k l (ℕ_discrete k day) }
    where
      go : (k : ℕ) → k ≤ last_day → Dec (k ≡ day) → (get_or (set factors day x) k 0 ≡ 0 → ⊥) → KeptOn (rate_at nodes k) k (get_or (set factors day x) k 0)
      go k l (yes q) n = rw (q, get_or-set_same factors day x 0 (omega (arith, h.places))) e
      go k l (no q) n =
          let other = get_or-set_other factors day k x 0 q in
          rw other (h.each k l (rw other at n))
