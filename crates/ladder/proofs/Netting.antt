-- Net amounts with flows more: there is room for them; and how much netted flows are and how far they may be off.
use mathlib.Core.Path.{◌≡◌, ◌∙◌}
use mathlib.Core.List.{List, []}
use Prim.Native.Nat.{ℕ, suc, ◌+◌, ◌*◌, ◌≤◌}
use native.Mathlib.Nat.{mul-le-mul_right}
use native.Mathlib.Decide.{ℕ_discrete}
use native.Mathlib.Omega.{arith}
use lib.IntN.{ℤ, pos, nat_abs, ◌+ℤ◌}
use lib.ListN.{length, length-set, set}
use lib.Seq.{get_or-set_same, get_or-set_other}
use Rattle.decimal.specs.Product.{unit}
use Rattle.discount.specs.declared.Flow.{Flow}
use Rattle.discount.specs.Flows.{signed, sum}
use Rattle.netting.specs.Netting.{no_nets, netted, net_with, net_on, listed, net_size, flow_deviation}
use Rattle.netting.proofs.Sizes.{signed-more, net-size, net-size-on, deviation-size}
use Rattle.ground.specs.Limits.{day_count}
use Rattle.ladder.specs.Netted.{NetsRoom}
use Rattle.ladder.specs.Totals.{FlowLimits, AllFlowLimits, most_flows, RoomFor}
use Rattle.ladder.proofs.Folds.{sum-most, room-less, room_next}

-- ---- room for more flows

net-next : {n : ℕ} (x : ℤ) (f : Flow) → FlowLimits f → RoomFor unit (suc n) (nat_abs x) → RoomFor unit n (nat_abs (x +ℤ signed f.received f.amount))
net-next x f s h = room_next (signed-more x f.received f.amount) s.amount h

pub nets-none : (n : ℕ) → n ≤ most_flows → NetsRoom n no_nets
unfolding sum
nets-none n h = record { each = λ day. record { fits = omega (arith, net-size-on [] day, mul-le-mul_right unit h) } }

-- net amounts of all days, with room for n flows more
abbrev pub DaysRoom : ℕ → List ℤ → Type 0
DaysRoom n nets = (length nets ≡ day_count) × NetsRoom n nets

pub nets-next : {n : ℕ} (nets : List ℤ) (f : Flow) → FlowLimits f → DaysRoom (suc n) nets → DaysRoom n (net_with nets f)
unfolding net_with
nets-next {n} nets f s h = (length-set nets f.day _ ∙ h.0, record { each = λ day. go day (ℕ_discrete day f.day) })
  where
    y : ℤ
    y = net_on nets f.day +ℤ signed f.received f.amount

    go : (day : ℕ) → Dec (day ≡ f.day) → RoomFor unit n (nat_abs (net_on (set nets f.day y) day))
    go day (yes e) =
        rw (e, get_or-set_same nets f.day y (pos 0) (omega (arith, s.day, h.0))) (net-next (net_on nets f.day) f s (h.1.each f.day))
    go day (no e) = rw (get_or-set_other nets f.day day y (pos 0) e) (room-less (omega arith) (h.1.each day))

-- ---- how far flows may be off, added up

pub deviation-most : (fs : List Flow) → AllFlowLimits fs → sum flow_deviation fs ≤ length fs * 200000
deviation-most fs h = sum-most flow_deviation 200000 (λ f s. deviation-size f.amount f.day s.amount s.day) fs h

pub deviation-next : {n : ℕ} (off : ℕ) (f : Flow) → FlowLimits f → RoomFor 200000 (suc n) off → RoomFor 200000 n (off + flow_deviation f)
deviation-next off f s h = room_next (omega arith) (deviation-size f.amount f.day s.amount s.day) h

-- ---- and how much they are

pub nets-size : (fs : List Flow) → AllFlowLimits fs → length fs ≤ most_flows → net_size (netted fs no_nets) (listed (netted fs no_nets)) ≤ 140000000000000000
unfolding unit
nets-size fs h few = omega (arith, net-size fs, sum-most (λ f. f.amount) unit (λ f s. s.amount) fs h, mul-le-mul_right unit few)
