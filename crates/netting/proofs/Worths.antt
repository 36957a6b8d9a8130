-- What a net amount is worth is less than a kuruş below the amount at the cheap factor, whatever its sign; so a flow more moves it by what the flow is
-- worth, within a kuruş, the half of the flow's own rounding and what the factor is off.
use mathlib.Core.Path.{◌≡◌, ap, ◌∙◌}
use mathlib.Core.Bool.{Bool, true, false}
use Prim.Native.Nat.{ℕ, suc, ◌+◌, ◌-◌, ◌*◌, ◌/◌, ◌≤◌, ◌<◌}
use native.Mathlib.Nat.{lt_of_mul-lt-mul_right, div-mul-le_self, lt-div-mul-add, zero-mul, zero-div}
use native.Mathlib.Omega.{arith}
use lib.IntN.{ℤ, pos, negsuc, neg_ℤ, ◌+ℤ◌}
use Rattle.laws.specs.Distance.{Within}
use Rattle.laws.proofs.Integer.{int, up, down, plus, up_pos, down_pos, up_neg, down-neg}
use Rattle.discount.specs.Flows.{signed}
use Rattle.cheap.specs.Cheap.{whole}
use Rattle.cheap.proofs.Powers.{whole_pos}
use Rattle.netting.specs.Netting.{worth}

module _ (c : ℕ) where
  pub none-worth : worth c (pos 0) ≡ pos 0
  unfolding worth
  none-worth = ap (λ (n : ℕ). pos (n / whole)) (zero-mul c) ∙ ap pos (zero-div whole)

  -- ---- w is x at the factor, rounded down

  record RoundedDown (x w : ℤ) : Type 0 where
    least : up w * whole + down x * c ≤ up x * c + down w * whole
    most : up x * c + down w * whole < up w * whole + down x * c + whole

  down-of-pos : (n w : ℕ) → w * whole ≤ n * c → n * c < w * whole + whole → RoundedDown (pos n) (pos w)
  down-of-pos n w h k =
      record { least = rw (up_pos n, down_pos n, up_pos w, down_pos w) (omega arith); most = rw (up_pos n, down_pos n, up_pos w, down_pos w) (omega arith) }

  down-of-neg : (n w : ℕ) → n * c ≤ w * whole → w * whole < n * c + whole → RoundedDown (neg_ℤ (pos n)) (neg_ℤ (pos w))
  down-of-neg n w h k =
      let n-up = up_neg (pos n) ∙ down_pos n in
      let n-down = down-neg (pos n) ∙ up_pos n in
      let w-up = up_neg (pos w) ∙ down_pos w in
      let w-down = down-neg (pos w) ∙ up_pos w in
      record { least = rw (n-up, n-down, w-up, w-down) (omega arith); most = rw (n-up, n-down, w-up, w-down) (omega arith) }

  rounded-down : (x : ℤ) → RoundedDown x (worth c x)
  unfolding worth
  rounded-down (pos n) = down-of-pos n (n * c / whole) (div-mul-le_self (n * c) whole) (lt-div-mul-add whole_pos)
  rounded-down (negsuc n) =
      let m = suc n * c + (whole - 1) in
      down-of-neg (suc n) (m / whole) (omega (arith, whole_pos, lt-div-mul-add {a = m} whole_pos)) (omega (arith, whole_pos, div-mul-le_self m whole))

  -- ---- y is x and an amount a more, which is worth p: within q / (2 whole) of it at the factor, and a half

  module _ (a p q t : ℕ) (over : p * (whole * 2) ≤ a * c * 2 + q + whole) (under : a * c * 2 ≤ p * (whole * 2) + q + whole) (room : q + 3 * whole < (t + 1) * (whole * 2)) where
    apart : (x y : ℤ) → up y + down x ≡ up x + a + down y → Within (worth c y) (worth c x +ℤ pos p) t
    apart x y e =
        let wx = worth c x in
        let wy = worth c y in
        let at-factor : (up y + down x) * c ≡ (up x + a + down y) * c = ap (λ (n : ℕ). n * c) e in
        let low : (up wy + down wx) * (whole * 2) < (up wx + p + down wy + t + 1) * (whole * 2) = omega (arith, at-factor, (rounded-down y).least, (rounded-down x).most) in
        let high : (up wx + p + down wy) * (whole * 2) < (up wy + down wx + t + 1) * (whole * 2) = omega (arith, at-factor, (rounded-down x).least, (rounded-down y).most) in
        omega (int, plus wx (pos p), up_pos p, down_pos p, lt_of_mul-lt-mul_right (whole * 2) low, lt_of_mul-lt-mul_right (whole * 2) high)

    pub worth-more : (x : ℤ) (s : Bool) → Within (worth c (x +ℤ signed s a)) (worth c x +ℤ signed s p) t
    worth-more x true = apart x (x +ℤ pos a) (omega (arith, plus x (pos a), up_pos a, down_pos a))
    worth-more x false =
        let y = x +ℤ neg_ℤ (pos a) in
        let v = pos p in
        let w = apart y x (omega (arith, plus x (neg_ℤ (pos a)), up_neg (pos a), down-neg (pos a), up_pos a, down_pos a)) in
        omega (int, w, plus (worth c y) v, plus (worth c x) (neg_ℤ v), up_neg v, down-neg v)
