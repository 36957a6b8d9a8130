-- An accepted record, read as a trade and written again, is the same 56 bytes.
use mathlib.Core.Path.{◌≡◌}
use mathlib.Core.List.{List}
use Prim.Native.Nat.{ℕ}
use lib.ListN.{length}
use Rattle.std.specs.Prelude.{Ok}
use Rattle.layout.specs.Bytes.{AreBytes}
use Rattle.record.specs.declared.Curves.{Curves}
use Rattle.record.specs.Bytes.{fields_of, record_bytes}
use Rattle.trade.specs.Read.{trade_of}
use Rattle.trade.specs.Write.{fields_of_trade}
use Rattle.trade.proofs.RoundTrip.{bytes-trade-bytes}
use Rattle.flows.specs.Verdict.{record_verdict}
use Rattle.flows.proofs.Bounded.{accepted}

pub accepted-rewritten : (curves : Curves) (b : List ℕ) (block : ℕ) → length b ≡ 56 → AreBytes b
    → record_verdict curves (fields_of b) block ≡ Ok tt → record_bytes (fields_of_trade (trade_of (fields_of b))) ≡ b
accepted-rewritten curves b block long bytes h =
    let a = accepted curves (fields_of b) block h in bytes-trade-bytes curves b long bytes a.form a.amounts
