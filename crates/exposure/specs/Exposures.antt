-- What an account has on each curve, from the bytes of its book (document 01, "Flows" and "Margin").
use mathlib.Core.List.{List, flat_map}
use Rattle.std.specs.Prelude.{ℕ}
use Rattle.laws.specs.Walk.{table}
use Rattle.curve.specs.Rates.{nodes_of}
use Rattle.curve_block.specs.Parts.{currency_of, curve_of, components_of}
use Rattle.discount.specs.declared.Flow.{Flow}
use Rattle.record.specs.Bytes.{fields_of}
use Rattle.trade.specs.declared.Trade.{Trade}
use Rattle.trade.specs.Read.{trade_of}
use Rattle.flows.specs.Legs.{flows_of}
use Rattle.book.specs.Parts.{block_at, curve_count, trade_count, record_at}
use Rattle.ladder.specs.Exposure.{Exposure, flows_on}

-- the trade at a position
abbrev pub trade_at : List ℕ → ℕ → Trade
trade_at s i = trade_of (fields_of (record_at s i))

-- the flows of the first n trades, in order
unfoldable pub flows_up_to : List ℕ → ℕ → List Flow
flows_up_to s n = flat_map flows_of (table (trade_at s) 0 n)

-- all flows of a book
abbrev pub flows_in : List ℕ → List Flow
flows_in s = flows_up_to s (trade_count s)

-- the curve of an id, which is its block number, with those of the flows that stand on it
abbrev pub exposure_to : List Flow → List ℕ → ℕ → Exposure
exposure_to flows s curve =
    record {
      currency = currency_of (block_at s curve);
      nodes = nodes_of (curve_of (block_at s curve));
      components = components_of (block_at s curve);
      flows = flows_on curve flows;
    }

unfoldable pub exposure_at : List ℕ → ℕ → Exposure
exposure_at s curve = exposure_to (flows_in s) s curve

-- curves 1 to C
unfoldable pub exposures : List ℕ → List Exposure
exposures s = table (exposure_at s) 1 (curve_count s)
