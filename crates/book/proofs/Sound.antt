-- What each rule leaves where it is not broken, and that what it leaves does not break it.
use mathlib.Core.Path.{◌≡◌, refl}
use mathlib.Core.Bool.{Bool, true, false, ◌&&◌, ◌||◌, not}
use mathlib.Core.List.{List}
use Prim.Native.Nat.{ℕ, ◌+◌, ◌*◌, ◌/◌, ◌%◌, ◌≤◌}
use native.Mathlib.Omega.{arith}
use borrow.Author.Tests.{eqb-true, eqb-false, eq-eqb, leb-true, le-leb, ltb-false, not-false, ne_eqb, le-ltb}
use lib.Dec.{eqb, leb, ltb}
use Rattle.laws.proofs.Bools.{both, neither}
use Rattle.layout.specs.Bytes.{byte_at, zeros}
use Rattle.book.specs.Parts.{curve_count, trade_blocks, record_count, record_place}
use Rattle.book.specs.Rules.{breaks_length, breaks_header, count_fits, breaks_trade_block}

-- ---- 1

pub record Long (used lent : ℕ) : Type 0 where
  pub some : 512 ≤ used
  pub whole : used / 512 * 512 ≡ used
  pub most : used ≤ 65536
  pub within : used ≤ lent

pub long : (used lent : ℕ) → breaks_length used lent ≡ false → Long used lent
unfolding breaks_length
long used lent h =
    let a = neither (eqb used 0 || not (eqb (used % 512) 0) || ltb 65536 used) (ltb lent used) h in
    let b = neither (eqb used 0 || not (eqb (used % 512) 0)) (ltb 65536 used) a.0 in
    let c = neither (eqb used 0) (not (eqb (used % 512) 0)) b.0 in
    let z : used ≡ 0 → ⊥ = eqb-false used 0 c.0 in
    let m : used % 512 ≡ 0 = eqb-true (used % 512) 0 (not-false _ c.1) in
    record {
      some = omega arith;
      whole = omega arith;
      most = ltb-false 65536 used b.1;
      within = ltb-false lent used a.1;
    }

pub length-sound : (used lent : ℕ) → Long used lent → breaks_length used lent ≡ false
unfolding breaks_length
length-sound used lent h =
    let m : used % 512 ≡ 0 = omega (arith, h.whole) in
    rw (ne_eqb used 0 (λ e. omega arith), eq-eqb (used % 512) 0 m, le-ltb 65536 used h.most, le-ltb lent used h.within)

-- ---- 4

pub record Headed (b : List ℕ) (blocks : ℕ) : Type 0 where
  pub some : 1 ≤ curve_count b
  pub most : curve_count b ≤ 8
  pub counts : 1 + curve_count b + trade_blocks b ≡ blocks
  pub second : byte_at b 1 ≡ 0
  pub behind : zeros b 16 508 ≡ true

pub headed : (b : List ℕ) (blocks : ℕ) → breaks_header b blocks ≡ false → Headed b blocks
unfolding breaks_header
headed b n h =
    let p = both (leb 1 (curve_count b) && leb (curve_count b) 8 && eqb (1 + curve_count b + trade_blocks b) n && eqb (byte_at b 1) 0) (zeros b 16 508) (not-false _ h) in
    let q = both (leb 1 (curve_count b) && leb (curve_count b) 8 && eqb (1 + curve_count b + trade_blocks b) n) (eqb (byte_at b 1) 0) p.0 in
    let r = both (leb 1 (curve_count b) && leb (curve_count b) 8) (eqb (1 + curve_count b + trade_blocks b) n) q.0 in
    let t = both (leb 1 (curve_count b)) (leb (curve_count b) 8) r.0 in
    record {
      some = leb-true 1 (curve_count b) t.0;
      most = leb-true (curve_count b) 8 t.1;
      counts = eqb-true (1 + curve_count b + trade_blocks b) n r.1;
      second = eqb-true (byte_at b 1) 0 q.1;
      behind = p.1;
    }

pub header-sound : (b : List ℕ) (blocks : ℕ) → Headed b blocks → breaks_header b blocks ≡ false
unfolding breaks_header
header-sound b n h =
    rw (
      le-leb 1 (curve_count b) h.some,
      le-leb (curve_count b) 8 h.most,
      eq-eqb (1 + curve_count b + trade_blocks b) n h.counts,
      eq-eqb (byte_at b 1) 0 h.second,
      h.behind,
    )

-- ---- 7

pub record Counted (n : ℕ) (last : Bool) : Type 0 where
  pub some : 1 ≤ n
  pub most : n ≤ 9
  pub full : last ≡ false → n ≡ 9

pub counted : (n : ℕ) (last : Bool) → count_fits n last ≡ true → Counted n last
unfolding count_fits
counted n last h =
    let p = both (leb 1 n && leb n 9) (last || eqb n 9) h in
    let q = both (leb 1 n) (leb n 9) p.0 in
    record {
      some = leb-true 1 n q.0;
      most = leb-true n 9 q.1;
      full = λ e. eqb-true n 9 (rw e at p.1);
    }

count-sound : (n : ℕ) (last : Bool) → Counted n last → count_fits n last ≡ true
unfolding count_fits
count-sound n true h = rw (le-leb 1 n h.some, le-leb n 9 h.most)
count-sound n false h = rw (le-leb 1 n h.some, le-leb n 9 h.most, eq-eqb n 9 (h.full refl))

pub record Traded (b : List ℕ) (last : Bool) : Type 0 where
  pub count : Counted (record_count b) last
  pub behind : zeros b (record_place (record_count b)) 508 ≡ true

pub traded : (b : List ℕ) (last : Bool) → breaks_trade_block b last ≡ false → Traded b last
unfolding breaks_trade_block
traded b last h =
    let p = both (count_fits (record_count b) last) (zeros b (record_place (record_count b)) 508) (not-false _ h) in
    record { count = counted (record_count b) last p.0; behind = p.1 }

pub trade-block-sound : (b : List ℕ) (last : Bool) → Traded b last → breaks_trade_block b last ≡ false
unfolding breaks_trade_block
trade-block-sound b last h = rw (count-sound (record_count b) last h.count, h.behind)
