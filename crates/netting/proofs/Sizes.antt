-- How large netted flows can be: no larger than all amounts together; and the size of a deviation.
use mathlib.Core.Path.{◌≡◌, refl, ◌∙◌}
use mathlib.Core.Bool.{Bool, true, false}
use mathlib.Core.List.{List, [], ◌∷◌}
use Prim.Native.Nat.{ℕ, zero, suc, ◌+◌, ◌*◌, ◌/◌, ◌≤◌, ◌<◌}
use native.Mathlib.Nat.{mul-le-mul, mul-le-mul_left, div-le_of_le-mul, div-lt_iff_lt-mul}
use native.Mathlib.Omega.{arith}
use lib.IntN.{ℤ, pos, negsuc, nat_abs, ◌+ℤ◌}
use lib.ListN.{length, length-set}
use Rattle.laws.proofs.Signed.{abs_neg, abs-add}
use Rattle.decimal.specs.Product.{unit}
use Rattle.discount.specs.Discount.{year, products}
use Rattle.discount.specs.declared.Flow.{Flow}
use Rattle.discount.specs.Flows.{signed, sum}
use Rattle.cheap.specs.Cheap.{whole}
use Rattle.netting.specs.Netting.{no_nets, net_on, net_with, netted, listed, worth, net_value, net_size, distance_up, moved, deviation}
use Rattle.netting.proofs.DaySums.{days_size, listed-size, none-size, size-changed}

-- ---- the net amounts

pub nets-length : (fs : List Flow) (nets : List ℤ) → length (netted fs nets) ≡ length nets
unfolding net_with
nets-length [] nets = refl
nets-length (f ∷ fs) nets = nets-length fs (net_with nets f) ∙ length-set nets f.day _

pub signed-size : (s : Bool) (n : ℕ) → nat_abs (signed s n) ≡ n
signed-size true n = refl
signed-size false n = abs_neg (pos n)

pub signed-more : (x : ℤ) (s : Bool) (n : ℕ) → nat_abs (x +ℤ signed s n) ≤ nat_abs x + n
signed-more x s n = omega (arith, abs-add x (signed s n), signed-size s n)

days-size : (fs : List Flow) (nets : List ℤ) → days_size (netted fs nets) ≤ days_size nets + sum (λ f. f.amount) fs
unfolding net_with sum
days-size [] nets = omega arith
days-size (f ∷ fs) nets =
    let was = net_on nets f.day in
    let one = size-changed nets f.day (was +ℤ signed f.received f.amount) f.amount (signed-more was f.received f.amount) in
    omega (arith, one, days-size fs (net_with nets f))

day-size : (nets : List ℤ) (d : ℕ) → nat_abs (net_on nets d) ≤ days_size nets
unfolding days_size
day-size [] d = omega arith
day-size (x ∷ xs) zero = omega arith
day-size (x ∷ xs) (suc d) = omega (arith, day-size xs d)

-- of flows alone
pub net-size : (fs : List Flow) → net_size (netted fs no_nets) (listed (netted fs no_nets)) ≤ sum (λ f. f.amount) fs
net-size fs = omega (arith, listed-size (netted fs no_nets), days-size fs no_nets, none-size 10951)

pub net-size-on : (fs : List Flow) (d : ℕ) → nat_abs (net_on (netted fs no_nets) d) ≤ sum (λ f. f.amount) fs
net-size-on fs d = omega (arith, day-size (netted fs no_nets) d, days-size fs no_nets, none-size 10951)

-- ---- what they are worth, at factors of at most one: no more

pub worth-size : (c : ℕ) (x : ℤ) → c ≤ 2147483648 → nat_abs (worth c x) ≤ nat_abs x
unfolding whole worth
worth-size c (pos n) h = div-le_of_le-mul 2147483648 (omega (arith, mul-le-mul_left n h))
worth-size c (negsuc n) h =
    let v : ℕ = (suc n * c + 2147483647) / 2147483648 in
    let less : v < suc n + 1 = (div-lt_iff_lt-mul {k = 2147483648} {x = suc n * c + 2147483647} {y = suc n + 1} (omega arith)).1 (omega (arith, mul-le-mul_left (suc n) h)) in
    omega (arith, abs_neg (pos v), less)

pub net-value-size : (c : ℕ → ℕ) → ((d : ℕ) → c d ≤ 2147483648) → (nets : List ℤ) (ds : List ℕ) → nat_abs (net_value c nets ds) ≤ net_size nets ds
unfolding net_value net_size
net-value-size c h nets [] = omega arith
net-value-size c h nets (d ∷ ds) =
    let v = worth (c d) (net_on nets d) in
    omega (arith, abs-add v (net_value c nets ds), worth-size (c d) (net_on nets d) (h d), net-value-size c h nets ds)

-- ---- the deviation of a flow

pub distance-size : (days : ℕ) → days ≤ 10950 → distance_up days ≤ 393
unfolding year products distance_up
distance-size days h = omega arith

pub deviation-size : (amount days : ℕ) → amount ≤ unit → days ≤ 10950 → deviation amount days ≤ 200000
unfolding unit whole moved deviation
deviation-size amount days h k = omega (arith, mul-le-mul h (distance-size days k))
