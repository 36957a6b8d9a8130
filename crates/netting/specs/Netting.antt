-- Flows netted by day, and what the net amounts are worth at a cheap factor for each day.
use Rattle.std.specs.Prelude.{cond, ℕ, suc, ◌+◌, ◌-◌, ◌*◌, ◌/◌, ◌≤◌, eqb, ℤ, pos, negsuc, neg_ℤ, nat_abs, ◌+ℤ◌, get_or, set, replicate}
use mathlib.Core.List.{List, [], ◌∷◌, foldl}
use Rattle.laws.specs.All.{All}
use Rattle.ground.specs.Limits.{last_day, day_count}
use Rattle.discount.specs.declared.Flow.{Flow}
use Rattle.discount.specs.Discount.{products}
use Rattle.discount.specs.Flows.{signed}
use Rattle.cheap.specs.Cheap.{whole, cheap_factor}

-- a net amount for each of the days 0 to 10,950, none at first
abbrev pub no_nets : List ℤ
no_nets = replicate day_count (pos 0)

-- the net amount of a day
abbrev pub net_on : List ℤ → ℕ → ℤ
net_on nets day = get_or nets day (pos 0)

-- with a flow added to its day's
unfoldable pub net_with : List ℤ → Flow → List ℤ
net_with nets f = set nets f.day (net_on nets f.day +ℤ signed f.received f.amount)

-- with each flow of a list
abbrev pub netted : List Flow → List ℤ → List ℤ
netted fs nets = foldl net_with nets fs

-- the days that have a net amount, in order
unfoldable pub listed_from : ℕ → List ℤ → List ℕ
listed_from i [] = []
listed_from i (x ∷ xs) = cond (eqb (nat_abs x) 0) (listed_from (suc i) xs) (i ∷ listed_from (suc i) xs)

abbrev pub listed : List ℤ → List ℕ
listed nets = listed_from 0 nets

-- what a net amount is worth at a cheap factor, rounded down, whatever its sign
unfoldable pub worth : ℕ → ℤ → ℤ
worth c (pos n) = pos (n * c / whole)
worth c (negsuc n) = neg_ℤ (pos ((suc n * c + (whole - 1)) / whole))

-- what the net amounts of some days are worth, given the cheap factor of each day
unfoldable pub net_value : (ℕ → ℕ) → List ℤ → List ℕ → ℤ
net_value c nets [] = pos 0
net_value c nets (d ∷ ds) = worth (c d) (net_on nets d) +ℤ net_value c nets ds

-- and how much they are, whatever their signs
unfoldable pub net_size : List ℤ → List ℕ → ℕ
net_size nets [] = 0
net_size nets (d ∷ ds) = nat_abs (net_on nets d) + net_size nets ds

-- the cheap factor of each day, at a rate for each day
abbrev pub cheap_on : (ℕ → ℕ) → ℕ → ℕ
cheap_on rate day = cheap_factor (rate day) day

-- ---- how far the value of netted flows may be from document 01's

-- the distance of a day's cheap factor from document 01's, in parts of whole, rounded up
unfoldable pub distance_up : ℕ → ℕ
distance_up days = 16 + (9700000 * days / 365 + 2) / 1048576 + products days * 44 / 10000

-- of a flow, in parts of 2 * whole: what the factor moves, a half for the rounding of the flow's value, and one for the net value of its day, which is
-- rounded down without the flow and with it
unfoldable pub moved : ℕ → ℕ → ℕ
moved amount days = 2 * amount * distance_up days + 3 * whole

-- in whole kuruş
unfoldable pub deviation : ℕ → ℕ → ℕ
deviation amount days = moved amount days / (2 * whole)

abbrev pub flow_deviation : Flow → ℕ
flow_deviation f = deviation f.amount f.day

-- every flow's day is one of document 01's
abbrev pub OnDays : List Flow → Type 0
OnDays fs = All (λ f. f.day ≤ last_day) fs
