-- Net amounts mapped day by day, and their sizes added up: what is held, with what is left, is all.
use mathlib.Core.Path.{◌≡◌, refl, ap, ◌∙◌}
use mathlib.Core.List.{List, [], ◌∷◌}
use Prim.Native.Nat.{ℕ, ◌+◌, ◌-◌, ◌*◌, ◌≤◌, ◌<◌}
use native.Mathlib.Numerals.{add-one}
use native.Mathlib.Omega.{arith}
use borrow.Author.Tests.{le-leb}
use lib.IntN.{ℤ, pos, negsuc, nat_abs}
use lib.ListN.{length, get_or, drop}
use lib.Seq.{drop-cons, drop-length}
use lib.Signed.{le_z}
use mir.Syntax.{w64}
use mir.Val.{SFits}
use Rattle.laws.specs.All.{All}
use Rattle.laws.proofs.Signed.{read, back}
use Rattle.discount.specs.declared.Flow.{Flow}
use Rattle.discount.specs.Flows.{sum}
use Rattle.netting.specs.Netting.{no_nets, net_on, netted, listed, net_size}
use Rattle.netting.proofs.DaySums.{listed_below}
use Rattle.netting.proofs.Sizes.{net-size-on}
use Rattle.estimate.specs.Values.{most_size, Listed}
use Rattle.bucket.specs.Mapped.{BucketLimits, mapped, is_received, net_flow, net_flows}
use Rattle.mapping.specs.declared.segments.Segment.{Segment}
use Rattle.mapping.specs.Segments.{Grid, bucket_in}
use Rattle.mapping.specs.Mapping.{mapped_nets, mapped_with, Mappable, NetFlowLimits, MappedRoom}
use Rattle.mapping.proofs.NetParts.{mapped-length, mapped-moved}

pub received_is : (z : ℤ) → le_z (pos 0) z ≡ is_received z
unfolding is_received
received_is (pos n) = le-leb 0 n (omega arith)
received_is (negsuc n) = refl

-- the net amount that the code reads, by its bits, on a day of the list
pub net-at : (nets : List ℤ) {d e : ℕ} → d ≡ e → SFits w64 (net_on nets d) → read (net_on nets d) ≡ net_on nets e
net-at nets {d} q f = back (net_on nets d) f.sfits ∙ ap (net_on nets) q

-- ---- the days left

-- each has its place among the net amounts
abbrev pub Placed : List ℕ → Type 0
Placed ds = All (λ d. d < 10951) ds

pub listed-placed : (nets : List ℤ) → length nets ≡ 10951 → Placed (listed nets)
listed-placed nets e = rw e at (listed_below nets)

module _ (nets : List ℤ) (days : List ℕ) (i : ℕ) (h : i < length days) where
  abbrev day : ℕ
  day = get_or days i 0

  abbrev left : List ℕ
  left = drop (i + 1) days

  days-left : drop i days ≡ day ∷ left
  days-left = rw add-one (drop-cons days i 0 h)

  pub placed-day : Placed (drop i days) → day < 10951
  placed-day p = (rw days-left at p).0

  pub placed-left : Placed (drop i days) → Placed left
  placed-left p = (rw days-left at p).1

  pub size-left : net_size nets (drop i days) ≡ nat_abs (net_on nets day) + net_size nets left
  unfolding net_size
  size-left = ap (net_size nets) days-left

  pub flows-left : net_flows nets (drop i days) ≡ net_flow day (net_on nets day) ∷ net_flows nets left
  flows-left = ap (net_flows nets) days-left

none_left : (days : List ℕ) (i : ℕ) → i ≤ length days → length days ≤ i → drop i days ≡ []
none_left days i h k = let e : i ≡ length days = omega arith in rw e (drop-length days)

-- ---- mapped

pub record Mapping (segments : List Segment) (nets : List ℤ) (days : List ℕ) (held : List ℤ) (i : ℕ) : Type 0 where
  pub most : i ≤ length days
  pub placed : Placed (drop i days)
  pub size : net_size nets (drop i days) ≤ 139000000000000000
  pub places : length held ≡ 10951
  pub room : (day : ℕ) → nat_abs (net_on held day) + 2 * net_size nets (drop i days) + (length days - i) ≤ 300000000000000000
  pub whole : netted (mapped (bucket_in segments) (net_flows nets (drop i days))) held ≡ mapped_nets segments nets days

module _ (segments : List Segment) (nets : List ℤ) (days : List ℕ) where
  pub mapping-first : Mappable nets days → (held : List ℤ) → held ≡ no_nets → length held ≡ 10951 → Mapping segments nets days held 0
  unfolding sum
  mapping-first m held e l =
      record {
        most = omega arith;
        placed = rw m.list (listed-placed nets m.places);
        size = m.size;
        places = l;
        room = λ day. rw e (omega (arith, net-size-on [] day, m.size, m.few));
        whole = rw e refl;
      }

  module _ (held : List ℤ) (i : ℕ) (m : Mapping segments nets days held i) (h : i < length days) where
    abbrev at : ℕ
    at = get_or days i 0

    abbrev flow : Flow
    flow = net_flow at (net_on nets at)

    pub mapping-day : at < 10951
    mapping-day = placed-day nets days i h m.placed

    pub flow-limits : NetFlowLimits flow
    flow-limits = record { amount = omega (arith, m.size, size-left nets days i h); day = omega (arith, mapping-day) }

    pub mapping-room : MappedRoom held
    mapping-room = record { places = m.places; each = λ day. omega (arith, m.room day) }

    module _ (g : Grid segments) where
      pub bucket-limits : BucketLimits (bucket_in segments at)
      bucket-limits = g.buckets at (omega (arith, mapping-day))

      pub mapping-next : Mapping segments nets days (mapped_with held flow (bucket_in segments at)) (i + 1)
      unfolding mapped
      mapping-next =
          let k = bucket_in segments at in
          let e = size-left nets days i h in
          record {
            most = omega arith;
            placed = placed-left nets days i h m.placed;
            size = omega (arith, m.size, e);
            places = mapped-length flow k flow-limits bucket-limits held m.places;
            room = λ day. omega (arith, m.room day, e, mapped-moved flow k flow-limits bucket-limits held m.places day);
            whole = rw (flows-left nets days i h) at m.whole;
          }

  pub mapping-all : (held : List ℤ) (i : ℕ) → Mapping segments nets days held i → length days ≤ i → held ≡ mapped_nets segments nets days
  unfolding mapped
  mapping-all held i m l = rw (none_left days i m.most l) at m.whole

-- ---- added up

pub size-most : (nets : List ℤ) (days : List ℕ) → Listed nets days → net_size nets days ≤ 140000000000000000
unfolding most_size
size-most nets days l = rw l.list l.size

pub record Adding (nets : List ℤ) (days : List ℕ) (held i : ℕ) : Type 0 where
  pub most : i ≤ length days
  pub placed : Placed (drop i days)
  pub whole : held + net_size nets (drop i days) ≡ net_size nets days

module _ (nets : List ℤ) (days : List ℕ) where
  pub adding-first : days ≡ listed nets → length nets ≡ 10951 → Adding nets days 0 0
  adding-first e l = record { most = omega arith; placed = rw e (listed-placed nets l); whole = omega arith }

  module _ (held i : ℕ) (a : Adding nets days held i) (h : i < length days) where
    pub adding-most : held + nat_abs (net_on nets (get_or days i 0)) ≤ net_size nets days
    adding-most = omega (arith, a.whole, size-left nets days i h)

    pub adding-next : Adding nets days (held + nat_abs (net_on nets (get_or days i 0))) (i + 1)
    adding-next =
        record { most = omega arith; placed = placed-left nets days i h a.placed; whole = omega (arith, a.whole, size-left nets days i h) }

  pub adding-all : (held i : ℕ) → Adding nets days held i → length days ≤ i → held ≡ net_size nets days
  unfolding net_size
  adding-all held i a l = let e = rw (none_left days i a.most l) at a.whole in omega (arith, e)
