-- The rate of a curve on a day (document 01, "Rates and scenarios").
use Rattle.std.specs.Prelude.{ℕ, ◌≤◌, ◌<◌, cond, List, [], ◌∷◌, ltb, take, ℤ, pos, nat_abs, ◌+ℤ◌, ◌-ℤ◌, ◌*ℤ◌}
use Rattle.std.specs.Int.Signed.{quot_z}
use Rattle.curve.specs.declared.Node.{Node}
use Rattle.curve.specs.declared.Curve.{Curve}

-- the nodes that a curve has: the array's places past its count are unused
abbrev pub nodes_of : Curve → List Node
nodes_of c = take c.count c.nodes

-- between node a and the next node b: r + (r' − r) × (t − day) / (day' − day), the quotient cut towards zero
unfoldable pub interpolated : Node → Node → ℕ → ℤ
interpolated a b t =
    pos a.rate
    +ℤ quot_z ((pos b.rate -ℤ pos a.rate) *ℤ (pos t -ℤ pos a.day)) (pos b.day -ℤ pos a.day)

-- day t lies from node a's day to before node b's
pub record BetweenNodes (a b : Node) (t : ℕ) : Type 0 where
  pub from : a.day ≤ t
  pub before : t < b.day

-- on a day not before node a's, with the nodes that follow a: after the last node the rate is its own.
-- An interpolated rate is never negative (`interpolated-is` of proofs/Interpolation.antt), so nat_abs only turns ℤ into ℕ
unfoldable pub rate_from : Node → List Node → ℕ → ℕ
rate_from a [] t = a.rate
rate_from a (b ∷ ns) t = cond (ltb t b.day) (nat_abs (interpolated a b t)) (rate_from b ns t)

-- on any day: before the first node the rate is the first node's
unfoldable pub rate_at : List Node → ℕ → ℕ
rate_at [] t = 0
rate_at (a ∷ ns) t = cond (ltb t a.day) a.rate (rate_from a ns t)
