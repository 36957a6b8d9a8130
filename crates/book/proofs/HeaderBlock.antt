-- The header that `header_block` lays out, and the bytes of a header that breaks nothing.
use mathlib.Core.Path.{◌≡◌, refl, sym, ◌∙◌}
use mathlib.Core.Logic.{◌⊎◌, inl, inr}
use mathlib.Core.Bool.{true}
use mathlib.Core.List.{List}
use Prim.Native.Nat.{ℕ, ◌+◌, ◌^◌, ◌≤◌, ◌<◌}
use native.Mathlib.Omega.{arith}
use lib.ListN.{length, take}
use Rattle.layout.specs.Bytes.{byte_at, part, put, zeros, AreBytes}
use Rattle.layout.specs.Field.{number_at, u16_at, bytes_of}
use Rattle.layout.specs.Row.{Field, Fits, field_in, row_bytes, row_width}
use Rattle.layout.specs.Check.{sealed}
use Rattle.layout.proofs.Bytes.{length-put, byte-apart, bytes-put, zeros-at, zeros_of}
use Rattle.layout.proofs.Field.{field_bound, length-bytes, bytes-bytes, bytes-number, field_put, field_apart}
use Rattle.layout.proofs.Row.{length-row, row_back, row-part}
use Rattle.layout.proofs.Sealed.{sound-sealed, place_kept}
use Rattle.book.specs.Parts.{Header, header_of, curve_count, trade_blocks}
use Rattle.book.specs.Encode.{block, header_row, header_block}
use Rattle.book.proofs.Laid.{length-block, block-count, block-named, block-zeros, block-checked, block-placed, block_of}
use Rattle.book.proofs.Verdicts.{HeaderSound}

-- ---- of any block

-- the bytes of a block's number
pub number-part : (b : List ℕ) (number : ℕ) → AreBytes b → length b ≡ 512 → u16_at b 2 ≡ number → part b 2 2 ≡ bytes_of 2 number
number-part b number bytes h e = sym (rw e at (bytes-number 2 b 2 bytes (omega arith)))

-- ---- the header

-- each field of a header keeps the width of its place
pub record HeaderFits (header : Header) : Type 0 where
  pub account-fits : header.account < 256 ^ 4
  pub day-fits : header.day < 256 ^ 4

pub header-fits : (s : List ℕ) → AreBytes s → HeaderFits (header_of s)
header-fits s bytes = record { account-fits = field_bound 4 s 4 bytes; day-fits = field_bound 4 s 12 bytes }

module _ (header : Header) (c t : ℕ) where
  abbrev row : List Field
  row = header_row header c t

  abbrev named : List ℕ
  named = row_bytes row

  is-header : header_block header c t ≡ block 1 0 0 named
  unfolding header_block
  is-header = refl

  length-named : length named ≡ 12
  length-named = length-row row

  short : length named ≤ 504
  short = omega (arith, length-named)

  pub length-header : length (header_block header c t) ≡ 512
  length-header = rw is-header (length-block 1 0 0 named short)

  -- its fields are read back
  back : (k : ℕ) → Fits (field_in row k) → number_at (field_in row k).0 (header_block header c t) (4 + row_width (take k row)) ≡ (field_in row k).1
  back = row_back row (header_block header c t) 4 (rw is-header (rw length-named at (block-named 1 0 0 named short)))

  pub header_read : HeaderFits header → header_of (header_block header c t) ≡ header
  header_read fits = rw (back 0 fits.account-fits, back 3 fits.day-fits)

  pub header-curves : c < 65536 → curve_count (header_block header c t) ≡ c
  header-curves = back 1

  pub header-trades : t < 65536 → trade_blocks (header_block header c t) ≡ t
  header-trades = back 2

  pub header-breaks-nothing : 1 ≤ c → c ≤ 8 → t < 65536 → HeaderSound (header_block header c t) (1 + c + t)
  header-breaks-nothing some most few =
      let ec = header-curves (omega arith) in
      let et = header-trades few in
      record {
        checked = rw is-header (block-checked 1 0 0 named short);
        placed = rw is-header (block-placed 1 0 0 named short (omega arith));
        counts = record {
          some = rw ec some;
          most = rw ec most;
          counts = rw (ec, et);
          second = rw is-header (block-count 1 0 0 named short);
          behind = rw is-header (rw length-named at (block-zeros 1 0 0 named short));
        };
      }

-- sealed, no other header has its fields
module _ (b : List ℕ) (bytes : AreBytes b) (h : length b ≡ 512) where
  sealed-header : byte_at b 0 ≡ 1 → u16_at b 2 ≡ 0 → byte_at b 1 ≡ 0 → zeros b 16 508 ≡ true → sealed b ≡ header_block (header_of b) (curve_count b) (trade_blocks b)
  sealed-header kind number second behind =
      let row = header_row (header_of b) (curve_count b) (trade_blocks b) in
      let l = length-row row in
      block_of 1 0 0 (row_bytes row) (omega arith) b h kind second (number-part b 0 bytes h number) (rw l (sym (row-part row b 4 bytes (omega arith)))) (rw l behind)
      ∙ sym (is-header (header_of b) (curve_count b) (trade_blocks b))

module _ (b : List ℕ) (blocks : ℕ) (bytes : AreBytes b) (h : length b ≡ 512) (sound : HeaderSound b blocks) where
  pub header_of_lem : b ≡ header_block (header_of b) (curve_count b) (trade_blocks b)
  header_of_lem =
      let p = place_kept b 1 0 sound.placed in
      sym (sound-sealed b bytes (omega arith) sound.checked) ∙ sealed-header b bytes h p.0 p.1 sound.counts.second sound.counts.behind

  -- and with another count of trade blocks
  pub header-recounted : (t : ℕ) → t < 65536 → sealed (put b 10 (bytes_of 2 t)) ≡ header_block (header_of b) (curve_count b) t
  header-recounted t few =
      let p = place_kept b 1 0 sound.placed in
      let two = length-bytes 2 t in
      let field : (n k : ℕ) → (k + n ≤ 10) ⊎ (12 ≤ k) → number_at n (put b 10 (bytes_of 2 t)) k ≡ number_at n b k =
      λ n k apart. field_apart n b 10 (bytes_of 2 t) k (rw two apart) in
      let byte : (k : ℕ) → (k < 10) ⊎ (12 ≤ k) → byte_at (put b 10 (bytes_of 2 t)) k ≡ byte_at b k =
      λ k apart. byte-apart b 10 (bytes_of 2 t) k (rw two apart) in
      sealed-header (put b 10 (bytes_of 2 t)) (bytes-put b 10 (bytes_of 2 t) bytes (bytes-bytes 2 t)) (length-put b 10 (bytes_of 2 t) ∙ h)
      (byte 0 (inl (omega arith)) ∙ p.0)
      (field 2 2 (inl (omega arith)) ∙ p.1)
      (byte 1 (inl (omega arith)) ∙ sound.counts.second)
      (zeros_of (put b 10 (bytes_of 2 t)) 16 508 (λ k l m. byte k (inr (omega arith)) ∙ zeros-at b 16 508 sound.counts.behind k l m))
      ∙ rw (field 4 4 (inl (omega arith)), field 4 12 (inr (omega arith)), field 2 8 (inl (omega arith)), field_put 2 b 10 t (omega arith) few)
