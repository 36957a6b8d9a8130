-- The running total: what the code holds with one flow more, and that it fits; the fold over a list, and its sum.
use mathlib.Core.Path.{◌≡◌, refl, ◌∙◌}
use mathlib.Core.List.{List, [], ◌∷◌}
use Prim.Native.Nat.{ℕ, suc, ◌+◌, ◌*◌, ◌/◌, ◌%◌, ◌^◌, ◌≤◌, ◌<◌}
use native.Mathlib.Nat.{mul-le-mul}
use native.Mathlib.Omega.{arith}
use lib.IntN.{ℤ, pos, nat_abs, ◌+ℤ◌, ◌-ℤ◌, +ℤ_assoc, +ℤ_comm, +ℤ_idl, +ℤ_idr}
use mir.Syntax.{w64}
use mir.Val.{SFits}
use Rattle.laws.proofs.Signed.{fits, cast, read, cast_is, read_is, abs-add, abs-sub}
use Rattle.decimal.specs.Product.{unit}
use Rattle.discount.specs.Discount.{year, products, tolerance}
use Rattle.discount.specs.declared.Flow.{Flow}
use Rattle.discount.specs.Flows.{signed, total, sum, flow_tolerance}
use Rattle.netting.proofs.Sizes.{signed-more}
use Rattle.ladder.specs.declared.total.Total.{Total}
use Rattle.ladder.specs.Totals.{plus_flow, plus_flows, no_flows, FlowLimits, most_flows, RoomFor, TotalRoom}
use Rattle.ladder.proofs.Folds.{room-less, room-none, room_next}

-- ---- the size of a tolerance

scaled-size : (a days : ℕ) → a ≤ unit → days ≤ 10950 → a * (2 * (days % 365 + days / 365)) ≤ 1000000000000 * 788
unfolding unit
scaled-size a days h k =
    let twice : 2 * (days % 365 + days / 365) ≤ 788 = omega arith in
    mul-le-mul h twice

pub tolerance-size : (a days : ℕ) → a ≤ unit → days ≤ 10950 → tolerance a days ≤ 1000
unfolding unit year products tolerance
tolerance-size a days h k = omega (arith, scaled-size a days h k)

-- ---- one flow more: what the code holds, and that it fits

pub off-fits : (off a days : ℕ) → RoomFor 1000 1 off → a ≤ unit → days ≤ 10950 → off + tolerance a days < 2 ^ 64
off-fits off a days h s k = omega (arith, tolerance-size a days s k)

-- z is a sum with room for one flow more, v what the flow adds or takes
module _ (z : ℤ) (v : ℕ) (room : RoomFor unit 1 (nat_abs z)) (most : v ≤ unit) where
  pub cast_fits : SFits w64 (pos v)
  unfolding unit
  cast_fits = fits (pos v) (omega arith)

  more-size : nat_abs (z +ℤ pos v) < 2 ^ 63
  unfolding unit
  more-size = omega (arith, abs-add z (pos v))

  less-size : nat_abs (z -ℤ pos v) < 2 ^ 63
  unfolding unit
  less-size = omega (arith, abs-sub z (pos v))

  code-more : read z +ℤ cast v ≡ z +ℤ pos v
  unfolding unit
  code-more = rw (read_is z (omega arith), cast_is v (omega arith)) refl

  code-less : read z -ℤ cast v ≡ z -ℤ pos v
  unfolding unit
  code-less = rw (read_is z (omega arith), cast_is v (omega arith)) refl

  pub fits_more : SFits w64 (read z +ℤ cast v)
  fits_more = rw code-more (fits (z +ℤ pos v) more-size)

  pub read_more : read (read z +ℤ cast v) ≡ z +ℤ pos v
  read_more = rw code-more (read_is (z +ℤ pos v) more-size)

  pub fits-less : SFits w64 (read z -ℤ cast v)
  fits-less = rw code-less (fits (z -ℤ pos v) less-size)

  pub read-less : read (read z -ℤ cast v) ≡ z -ℤ pos v
  read-less = rw code-less (read_is (z -ℤ pos v) less-size)

-- ---- many flows

module _ (v : Flow → ℕ) where
  -- the fold is the sum
  plus_flows-is : (t : Total) (fs : List Flow) → plus_flows v t fs ≡ record { sum = t.sum +ℤ total v fs; tolerance = t.tolerance + sum flow_tolerance fs }
  unfolding plus_flow total sum
  plus_flows-is t [] =
      let e : t.tolerance + 0 ≡ t.tolerance = omega arith in
      rw (+ℤ_idr t.sum, e) refl
  plus_flows-is t (f ∷ fs) =
      let e : t.tolerance + flow_tolerance f + sum flow_tolerance fs ≡ t.tolerance + (flow_tolerance f + sum flow_tolerance fs) = omega arith in
      plus_flows-is (plus_flow t f (v f)) fs ∙ rw (+ℤ_assoc t.sum (signed f.received (v f)) (total v fs), e) refl

  pub plus_flows-none : (fs : List Flow) → plus_flows v no_flows fs ≡ record { sum = total v fs; tolerance = sum flow_tolerance fs }
  plus_flows-none fs =
      let e : 0 + sum flow_tolerance fs ≡ sum flow_tolerance fs = omega arith in
      plus_flows-is no_flows fs ∙ rw (+ℤ_idl (total v fs), e) refl

-- two flows in either order
pub plus_flow-turned : (t : Total) (f g : Flow) (a b : ℕ) → plus_flow (plus_flow t f a) g b ≡ plus_flow (plus_flow t g b) f a
unfolding plus_flow
plus_flow-turned t f g a b =
    let x = signed f.received a in
    let y = signed g.received b in
    let e : t.tolerance + flow_tolerance f + flow_tolerance g ≡ t.tolerance + flow_tolerance g + flow_tolerance f = omega arith in
    rw (+ℤ_assoc t.sum x y, +ℤ_comm x y, +ℤ_assoc t.sum y x, e) refl

-- ---- room in the total for more

pub total-none : {n : ℕ} → n ≤ most_flows → TotalRoom n no_flows
total-none h = record { value = room-none unit h; off = room-none 1000 h }

pub total-less : {m n : ℕ} {t : Total} → m ≤ n → TotalRoom n t → TotalRoom m t
total-less l h = record { value = room-less l h.value; off = room-less l h.off }

pub total-next : {n value : ℕ} {t : Total} {f : Flow} → value ≤ unit → FlowLimits f → TotalRoom (suc n) t → TotalRoom n (plus_flow t f value)
unfolding plus_flow
total-next {n} {value} {t} {f} le s h =
    record {
      value = room_next (signed-more t.sum f.received value) le h.value;
      off = room_next (omega arith) (tolerance-size f.amount f.day s.amount s.day) h.off;
    }
