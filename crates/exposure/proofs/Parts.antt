-- What an account has on its curves is determined by the parts of its book: bytes behind the book have no part in it.
use mathlib.Core.Path.{◌≡◌, sym, ap, ◌∙◌}
use mathlib.Core.List.{List, [], flat_map}
use Prim.Native.Nat.{ℕ, ◌+◌, ◌<◌}
use native.Mathlib.Omega.{arith}
use lib.ListN.{get_or}
use Rattle.laws.proofs.Tables.{table_same}
use Rattle.record.specs.Bytes.{fields_of}
use Rattle.trade.specs.Read.{trade_of}
use Rattle.flows.specs.Legs.{flows_of}
use Rattle.book.specs.Parts.{Parts, block_at, curve_count, trade_count, record_at}
use Rattle.book.proofs.Places.{curve-block, record_of}
use Rattle.book.proofs.Copied.{SameBook, same-curve-count, same-trade-count}
use Rattle.exposure.specs.Exposures.{trade_at, flows_up_to, flows_in, exposure_at, exposures}

module _ (s t : List ℕ) (same : SameBook s t) where
  curves-same : curve_count t ≡ curve_count s
  curves-same = same-curve-count s t same

  trades-same : trade_count t ≡ trade_count s
  trades-same = same-trade-count s t same

  trade-same : (i : ℕ) → i < trade_count s → trade_at t i ≡ trade_at s i
  trade-same i l =
      let read : record_at t i ≡ record_at s i = sym (record_of t i (omega (arith, trades-same))) ∙ ap (λ (p : Parts). get_or p.trades i []) same ∙ record_of s i l in
      ap (λ (r : List ℕ). trade_of (fields_of r)) read

  flows-same : flows_in t ≡ flows_in s
  unfolding flows_up_to
  flows-same =
      rw trades-same
      (ap (flat_map flows_of) (table_same (trade_at t) (trade_at s) 0 0 (trade_count s) (λ i l. trade-same (0 + i) (omega arith))))

  block_same : (k : ℕ) → k < curve_count s → block_at t (1 + k) ≡ block_at s (1 + k)
  block_same k l = sym (curve-block t k (omega (arith, curves-same))) ∙ ap (λ (p : Parts). get_or p.curves k []) same ∙ curve-block s k l

  exposure-same : (k : ℕ) → k < curve_count s → exposure_at t (1 + k) ≡ exposure_at s (1 + k)
  unfolding exposure_at
  exposure-same k l = rw (block_same k l, flows-same)

  pub same-exposures : exposures t ≡ exposures s
  unfolding exposures
  same-exposures = rw curves-same (table_same (exposure_at t) (exposure_at s) 1 1 (curve_count s) exposure-same)
