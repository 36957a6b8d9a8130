-- The blocks of trades that `trade_block` lays out, and the bytes of one that breaks nothing.
use mathlib.Core.Path.{◌≡◌, refl, sym, ap, ◌∙◌}
use mathlib.Core.Bool.{Bool, true}
use mathlib.Core.List.{List, [], flatten, append-nil}
use Prim.Native.Nat.{ℕ, ◌*◌, ◌≤◌, ◌<◌}
use native.Mathlib.Nat.{zero-add}
use native.Mathlib.Omega.{arith}
use lib.ListN.{length, get_or}
use Rattle.std.specs.Prelude.{Ok}
use Rattle.laws.specs.Walk.{table}
use Rattle.laws.proofs.Walk.{length-table, get_d-table}
use Rattle.laws.proofs.Tables.{Each, length-flatten, part-flatten, flatten-parts, table-by}
use Rattle.layout.specs.Bytes.{byte_at, part, zeros, AreBytes}
use Rattle.layout.specs.Field.{bytes_of}
use Rattle.layout.specs.Check.{sealed}
use Rattle.layout.proofs.Bytes.{length_part, part-part}
use Rattle.layout.proofs.Sealed.{sound-sealed, place_kept}
use Rattle.record.specs.declared.Curves.{Curves}
use Rattle.book.specs.Parts.{record_count, record_place, record_in}
use Rattle.book.specs.Verdict.{bytes_verdict}
use Rattle.book.specs.Encode.{block, trade_block}
use Rattle.book.proofs.Sound.{Counted}
use Rattle.book.proofs.Laid.{length-block, block-kind, block-count, block-numbered, block-named, block-zeros, block-checked, block-placed, block_of}
use Rattle.book.proofs.HeaderBlock.{number-part}
use Rattle.book.proofs.Verdicts.{TradesSound}

-- what a block of trades holds, whatever its check
pub record Holds (b : List ℕ) (number : ℕ) (rs : List (List ℕ)) : Type 0 where
  pub long : length b ≡ 512
  pub kind : byte_at b 0 ≡ 3
  pub count : record_count b ≡ length rs
  pub numbered : part b 2 2 ≡ bytes_of 2 number
  pub each : (i : ℕ) → i < length rs → record_in b i ≡ get_or rs i []
  pub behind : zeros b (record_place (length rs)) 508 ≡ true

module _ (number : ℕ) (rs : List (List ℕ)) where
  is-trades : trade_block number rs ≡ block 3 (length rs) number (flatten rs)
  unfolding trade_block
  is-trades = refl

  module _ (few : length rs ≤ 9) (each : Each 56 rs) where
    long : length (flatten rs) ≡ length rs * 56
    long = length-flatten 56 rs each

    short : length (flatten rs) ≤ 504
    short = omega (arith, long)

    pub length-trades : length (trade_block number rs) ≡ 512
    length-trades = rw is-trades (length-block 3 (length rs) number (flatten rs) short)

    pub count-trades : record_count (trade_block number rs) ≡ length rs
    count-trades = rw is-trades (block-count 3 (length rs) number (flatten rs) short)

    -- record i of the block is record i of the list
    pub record-trades : (i : ℕ) → i < length rs → record_in (trade_block number rs) i ≡ get_or rs i []
    record-trades i l =
        let named = rw (← is-trades, long) at (block-named 3 (length rs) number (flatten rs) short) in
        sym (part-part (trade_block number rs) 4 (length rs * 56) (i * 56) 56 (omega (arith, length-trades)) (omega arith))
        ∙ rw named (rw append-nil at (part-flatten 56 rs [] each i l))

    pub trades-break-nothing : (curves : Curves) (last : Bool) → number < 65536 → Counted (length rs) last
        → ((i : ℕ) → i < length rs → bytes_verdict curves (get_or rs i []) number ≡ Ok tt)
        → TradesSound curves (trade_block number rs) number last
    trades-break-nothing curves last h counted accepted =
        record {
          checked = rw is-trades (block-checked 3 (length rs) number (flatten rs) short);
          placed = rw is-trades (block-placed 3 (length rs) number (flatten rs) short h);
          counts = record {
            count = rw count-trades counted;
            behind = rw count-trades (rw (← is-trades, long) at (block-zeros 3 (length rs) number (flatten rs) short));
          };
          each = λ i l. let m : i < length rs = rw count-trades at l in rw (record-trades i m) (accepted i m);
        }

    pub trades-hold : Holds (trade_block number rs) number rs
    trades-hold =
        record {
          long = length-trades;
          kind = rw is-trades (block-kind 3 (length rs) number (flatten rs) short);
          count = count-trades;
          numbered = rw is-trades (block-numbered 3 (length rs) number (flatten rs) short);
          each = record-trades;
          behind = rw (← is-trades, long) at (block-zeros 3 (length rs) number (flatten rs) short);
        }

-- sealed, no other block holds them
pub sealed-trades : (b : List ℕ) (number : ℕ) (rs : List (List ℕ)) → length rs ≤ 9 → Holds b number rs → sealed b ≡ trade_block number rs
sealed-trades b number rs few h =
    let size : length (flatten rs) ≡ length rs * 56 =
    length-flatten 56 rs (λ i l. rw (← h.each i l) (length_part b (record_place i) 56 (omega (arith, h.long)))) in
    let all : part b 4 (length rs * 56) ≡ flatten rs =
    sym (ap flatten (table-by (record_in b) [] (length rs) rs refl (λ i l. sym (h.each i l))) ∙ flatten-parts 56 b 4 (length rs)) in
    block_of 3 (length rs) number (flatten rs) (omega arith) b h.long h.kind h.count h.numbered (rw size all) (rw size h.behind)
    ∙ sym (is-trades number rs)

-- the records of a block
abbrev pub records_in : List ℕ → List (List ℕ)
records_in b = table (record_in b) 0 (record_count b)

-- no other block of trades has its number and its records
pub trades-of : (curves : Curves) (b : List ℕ) (number : ℕ) (last : Bool) → AreBytes b → length b ≡ 512 → TradesSound curves b number last
    → b ≡ trade_block number (records_in b)
trades-of curves b number last bytes h sound =
    let p = place_kept b 3 number sound.placed in
    let n = length-table (record_in b) 0 (record_count b) in
    sym (sound-sealed b bytes (omega arith) sound.checked)
    ∙ sealed-trades b number (records_in b) (rw n sound.counts.count.most) (record {
      long = h;
      kind = p.0;
      count = sym n;
      numbered = number-part b number bytes h p.1;
      each = λ i l. sym (get_d-table (record_in b) 0 (record_count b) i [] (rw n at l) ∙ ap (record_in b) (zero-add i));
      behind = rw n sound.counts.behind;
    })
