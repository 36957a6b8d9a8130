-- A book's trades one by one: the ladder holds the flows of those passed that stand on the curve.
use mathlib.Core.Path.{◌≡◌, refl, sym, ap, ◌∙◌}
use mathlib.Core.List.{List, [], ◌++◌, flat_map}
use Prim.Native.Nat.{ℕ, zero, suc, ◌+◌, ◌*◌, ◌/◌, ◌≤◌, ◌<◌}
use native.Mathlib.Nat.{zero-add}
use native.Mathlib.Numerals.{add-one}
use native.Mathlib.Omega.{arith}
use lib.Dec.{eqb}
use lib.ListN.{length, length-append}
use Rattle.laws.specs.Select.{select}
use Rattle.laws.specs.Walk.{table}
use Rattle.laws.proofs.Select.{select-few}
use Rattle.laws.proofs.Tables.{flat-more}
use Rattle.discount.specs.declared.Flow.{Flow}
use Rattle.record.specs.Bytes.{fields_of}
use Rattle.legs.specs.declared.Legs.{Legs}
use Rattle.legs.specs.Runs.{legs_flows}
use Rattle.flows.specs.Legs.{flows_of}
use Rattle.flows.proofs.Bounded.{AcceptedRecord, accepted, flows-few}
use Rattle.book.specs.Parts.{curves_of, curve_count, trade_count, record_at}
use Rattle.book.proofs.Accepted.{Sound, accepted-record, trade-count-most}
use Rattle.ladder.specs.Exposure.{flows_on}
use Rattle.ladder.specs.Ladder.{ladder_flows, LadderLimits}
use Rattle.exposure.specs.Growth.{SchedulesInLimits, Grown}
use Rattle.exposure.specs.Exposures.{trade_at, flows_up_to, flows_in}
use Rattle.exposure.proofs.Gathered.{on-append}

pub record Collected (s : List ℕ) (curve : ℕ) (ladder : List ℕ) (n i : ℕ) : Type 0 where
  pub few : n ≤ i * 3
  pub flows : ladder_flows curve ladder n ≡ flows_on curve (flows_up_to s i)
  pub limits : SchedulesInLimits curve ladder n

pub more-flows : (s : List ℕ) (i : ℕ) → flows_up_to s (i + 1) ≡ flows_up_to s i ++ flows_of (trade_at s i)
unfolding flows_up_to
more-flows s i =
    ap (λ (n : ℕ). flat_map flows_of (table (trade_at s) 0 n)) (add-one i)
    ∙ flat-more (trade_at s) flows_of 0 i
    ∙ ap (λ (k : ℕ). flat_map flows_of (table (trade_at s) 0 i) ++ flows_of (trade_at s k)) (zero-add i)

pub no-flows : (s : List ℕ) → flows_up_to s 0 ≡ []
unfolding flows_up_to table flat_map
no-flows s = refl

module _ (s : List ℕ) (curve : ℕ) where
  pub collected-none : (ladder : List ℕ) → Collected s curve ladder 0 0
  unfolding ladder_flows flows_up_to table flat_map flows_on select
  collected-none ladder = record { few = omega arith; flows = refl; limits = λ i l. absurd (omega arith) }

  pub collected-next : {ladder after : List ℕ} {n m i : ℕ} (legs : Legs) → Collected s curve ladder n i → legs_flows legs ≡ flows_of (trade_at s i) → Grown curve (legs_flows legs) ladder n after m → Collected s curve after m (i + 1)
  collected-next {i = i} legs h e g =
      record {
        few = omega (arith, g.few, h.few);
        flows = rw (g.flows, h.flows, e, more-flows s i) (sym (on-append curve (flows_up_to s i) (flows_of (trade_at s i))));
        limits = g.limits h.limits;
      }

-- ---- how many flows there are

pub on-few : (curve : ℕ) (fs : List Flow) → length (flows_on curve fs) ≤ length fs
unfolding flows_on
on-few curve fs = select-few (λ (f : Flow). eqb f.curve curve) fs

module _ (s : List ℕ) (used : ℕ) (b : Sound s used) where
  pub accepted-at : (i : ℕ) → i < trade_count s → AcceptedRecord (curves_of s) (fields_of (record_at s i))
  accepted-at i l = accepted (curves_of s) (fields_of (record_at s i)) (1 + curve_count s + i / 9) (accepted-record s used b i l)

  pub few-flows : (i : ℕ) → i ≤ trade_count s → length (flows_up_to s i) ≤ i * 122
  few-flows zero l = omega (arith, ap length (no-flows s))
  few-flows (suc i) l =
      let more : flows_up_to s (suc i) ≡ flows_up_to s i ++ flows_of (trade_at s i) = ap (flows_up_to s) (sym (add-one i)) ∙ more-flows s i in
      omega
      (arith, ap length more, length-append (flows_up_to s i) (flows_of (trade_at s i)), few-flows i (omega arith), flows-few (fields_of (record_at s i)) (accepted-at i (omega arith)))

  pub collected-all : (curve : ℕ) (ladder : List ℕ) (n : ℕ) → trade_count s * 18 ≤ length ladder → Collected s curve ladder n (trade_count s) → LadderLimits curve ladder n
  collected-all curve ladder n room h =
      record {
        places = omega (arith, h.few);
        each = h.limits;
        few = omega (arith, ap length h.flows, on-few curve (flows_in s), few-flows (trade_count s) (omega arith), trade-count-most s used b);
      }
