-- Rates brought into their limits, stressed nodes and stressed curves.
use Rattle.std.specs.Int.{int_max, int_min}
use Rattle.std.proofs.lemmas.Int.{ints, clamps}
use mathlib.Core.List.{List, [], ◌∷◌, map}
use mathlib.Core.Path.{◌≡◌, refl, ◌∙◌, ap}
use Prim.Native.Nat.{ℕ, suc, ◌+◌, ◌-◌, ◌/◌, ◌≤◌, ◌<◌}
use native.Mathlib.Numerals.{add-one}
use native.Mathlib.Omega.{arith}
use lib.IntN.{ℤ, pos, negsuc, zero-*ℤ}
use lib.ListN.{length, get_or, set, take-append-drop}
use Rattle.laws.specs.All.{All}
use Rattle.laws.proofs.Lists.{map_first, length-map_first, map_first-done, map_first-next, take-map_first}
use Rattle.curve.specs.declared.Node.{Node}
use Rattle.curve.specs.declared.Curve.{Curve}
use Rattle.curve.specs.declared.Components.{Components}
use Rattle.curve.specs.declared.Scenario.{Scenario}
use Rattle.curve.specs.Rates.{nodes_of}
use Rattle.curve.specs.Limits.{highest_rate, NodeLimits, ProperCurve, zero_node}
use Rattle.curve.specs.Scenarios.{scenario_count, unstressed, scenario_at}
use Rattle.curve.specs.Stress.{shifted, clamped, stressed, stressed_curve}
use Rattle.curve.proofs.Rates.{each-limits}
use Rattle.curve.proofs.Scenarios.{scenario-middle}

-- ---- into the limits

pub clamped-is : (z : ℤ) → int_max (pos 0) (int_min z (pos 1000000)) ≡ pos (clamped z)
clamped-is (pos n) = omega (arith, ints, clamps)
clamped-is (negsuc n) = omega (arith, ints, clamps)

-- ---- a stressed node

pub clamped-most : (z : ℤ) → clamped z ≤ highest_rate
clamped-most (pos n) = omega arith
clamped-most (negsuc n) = omega arith

pub stressed-limits : (s : Scenario) (n : Node) → NodeLimits n → NodeLimits (stressed s n)
stressed-limits s n h =
    record { day = h.day; rate = clamped-most (shifted s n); first = h.first; second = h.second; third = h.third }

pub each-stressed : (s : Scenario) (ns : List Node) → All NodeLimits ns → All NodeLimits (map (stressed s) ns)
each-stressed s [] h = tt
each-stressed s (n ∷ ns) h = (stressed-limits s n h.0, each-stressed s ns h.1)

shifted-unstressed : (n : Node) → shifted unstressed n ≡ pos n.rate
unfolding shifted
shifted-unstressed n = rw (zero-*ℤ n.first, zero-*ℤ n.second, zero-*ℤ n.third) (ap pos (omega arith))

pub stressed-unstressed : (n : Node) → NodeLimits n → stressed unstressed n ≡ n
stressed-unstressed n h =
    let e : clamped (shifted unstressed n) ≡ n.rate = rw (shifted-unstressed n) (omega arith) in
    ap (λ (r : ℕ). record { day = n.day; rate = r; first = n.first; second = n.second; third = n.third }) e

pub each-unstressed : (ns : List Node) → All NodeLimits ns → map (stressed unstressed) ns ≡ ns
each-unstressed [] h = refl
each-unstressed (n ∷ ns) h = cc (stressed-unstressed n h.0, each-unstressed ns h.1)

-- ---- a stressed curve

module _ (s : Scenario) (c : Curve) (p : ProperCurve c) where
  pub nodes-stressed : nodes_of (stressed_curve s c) ≡ map (stressed s) (nodes_of c)
  unfolding stressed_curve
  nodes-stressed = take-map_first (stressed s) c.count c.nodes

  pub stressed-node : (i : ℕ) → i < c.count → get_or (stressed_curve s c).nodes i zero_node ≡ stressed s (get_or c.nodes i zero_node)
  unfolding stressed_curve
  stressed-node i h = map_first-done (stressed s) c.count c.nodes i zero_node h (omega (arith, p.places, p.most))

  pub proper-stressed : ProperCurve (stressed_curve s c)
  unfolding stressed_curve
  proper-stressed =
      record {
        places = length-map_first (stressed s) c.count c.nodes ∙ p.places;
        least = p.least;
        most = p.most;
        each = λ i h. rw (stressed-node i h) (stressed-limits s _ (p.each i h));
        rising = λ i h. rw (stressed-node i (omega arith), stressed-node (suc i) h) (p.rising i h);
      }

pub curve-unstressed : (c : Curve) → ProperCurve c → stressed_curve unstressed c ≡ c
unfolding stressed_curve
curve-unstressed c p =
    ap (λ (l : List Node). record { nodes = l; count = c.count })
    (rw (each-unstressed (nodes_of c) (each-limits c p)) (take-append-drop c.count c.nodes))

-- the middle scenario of the list changes nothing
pub middle-changes-nothing : (x : Components) (c : Curve) → ProperCurve c → stressed_curve (scenario_at x ((scenario_count x - 1) / 2)) c ≡ c
middle-changes-nothing x c p = rw (scenario-middle x) (curve-unstressed c p)

-- ---- the nodes of c stressed one by one: r is c with its first i nodes stressed

abbrev pub Partly : Scenario → Curve → Curve → ℕ → Type 0
Partly s c r i = r ≡ record { nodes = map_first (stressed s) i c.nodes; count = c.count }

module _ (s : Scenario) (c : Curve) where
  pub partly-next : {r : Curve} {i : ℕ} {n : Node} → Partly s c r i → i < length c.nodes → n ≡ stressed s (get_or c.nodes i zero_node)
      → Partly s c (record { nodes = set r.nodes i n; count = r.count }) (i + 1)
  partly-next {i = i} h l e =
      rw (e, h, add-one) (ap (λ (ns : List Node). record { nodes = ns; count = c.count }) (map_first-next (stressed s) i c.nodes zero_node l))

  pub partly-all : {r : Curve} (i : ℕ) → Partly s c r i → i ≡ c.count → r ≡ stressed_curve s c
  unfolding stressed_curve
  partly-all i h e = rw (h, e)
