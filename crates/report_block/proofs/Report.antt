-- The laws of the report's bytes: its check, its place, its length, and how it is written.
use mathlib.Core.Path.{◌≡◌, refl, sym, ◌∙◌, ap}
use mathlib.Core.Bool.{false}
use mathlib.Core.List.{List, [], ◌∷◌, ◌++◌, flat_map}
use Prim.Native.Nat.{ℕ, ◌+◌, ◌≤◌}
use native.Mathlib.Omega.{arith}
use lib.ListN.{length, take, drop, replicate, length-append, length-replicate}
use lib.Seq.{take_at, drop_at}
use lib.Dec.{lit<}
use Rattle.laws.proofs.Lists.{length-flat_map}
use Rattle.layout.specs.Bytes.{byte_at, put}
use Rattle.layout.specs.Field.{u16_at, number_at, bytes_of, twos}
use Rattle.layout.specs.Check.{sealed, breaks_check, breaks_place}
use Rattle.layout.proofs.Bytes.{then, put_front}
use Rattle.layout.proofs.Field.{length-bytes, field-byte, field-front}
use Rattle.layout.proofs.Sealed.{length-sealed, field-sealed, sealed-sound}
use Rattle.margin.specs.declared.CurveMargin.{CurveMargin}
use Rattle.margin.specs.declared.CurrencyMargin.{CurrencyMargin}
use Rattle.margin.specs.declared.Margin.{Margin}
use Rattle.margin.specs.Margins.{no_curve, no_currency}
use Rattle.report_block.specs.Report.{curve_bytes, currency_bytes, field_bytes, report_bytes}
use Rattle.report_block.proofs.Records.{bytes-zero}

-- a margin has places for eight curves and three currencies
pub record Places (m : Margin) : Type 0 where
  pub curves : length m.curves ≡ 8
  pub currencies : length m.currencies ≡ 3

pub length-curve : (m : CurveMargin) → length (curve_bytes m) ≡ 32
unfolding curve_bytes
length-curve m = simp (length-append, length-bytes) refl

pub length-currency : (m : CurrencyMargin) → length (currency_bytes m) ≡ 24
unfolding currency_bytes
length-currency m = simp (length-append, length-bytes) refl

module _ (m : Margin) (places : Places m) where
  pub length-curves : length (flat_map curve_bytes m.curves) ≡ 256
  length-curves = length-flat_map curve_bytes 32 (lit< tt) length-curve m.curves ∙ rw places.curves refl

  pub length-currencies : length (flat_map currency_bytes m.currencies) ≡ 72
  length-currencies = length-flat_map currency_bytes 24 (lit< tt) length-currency m.currencies ∙ rw places.currencies refl

  pub length_fields : length (field_bytes m) ≡ 512
  unfolding field_bytes
  length_fields = simp (length-append, length-bytes, length-replicate, length-curves, length-currencies) refl

  -- the report does not break the check
  pub report-sound : breaks_check (report_bytes m) ≡ false
  unfolding report_bytes
  report-sound = sealed-sound (field_bytes m) (rw length_fields (omega arith))

  -- a field of it, before the check, with whatever lies behind
  pub field-report : (n : ℕ) (rest : List ℕ) (k : ℕ) → k + n ≤ 508 → number_at n (report_bytes m ++ rest) k ≡ number_at n (field_bytes m) k
  unfolding report_bytes
  field-report n rest k h =
      field-front n (sealed (field_bytes m)) rest k (rw (length-sealed, length_fields) (omega arith)) ∙ field-sealed n (field_bytes m) k h

  report-kind : (rest : List ℕ) → byte_at (report_bytes m ++ rest) 0 ≡ 9
  unfolding field_bytes
  report-kind rest =
      sym (field-byte (report_bytes m ++ rest) 0) ∙ field-report 1 rest 0 (omega arith) ∙ field-byte (field_bytes m) 0

  report-number : (rest : List ℕ) → u16_at (report_bytes m ++ rest) 2 ≡ 0
  unfolding field_bytes number_at
  report-number rest = field-report 2 rest 2 (omega arith)

  -- "kind 9, number 0"
  pub report-place : (rest : List ℕ) → breaks_place (report_bytes m ++ rest) 9 0 ≡ false
  unfolding breaks_place
  report-place rest = rw (report-kind rest, report-number rest)

-- ---- "places of absent curves and currencies 0"

pub absent-curve : curve_bytes no_curve ≡ replicate 32 0
unfolding curve_bytes bytes_of twos
absent-curve = refl

pub absent-currency : currency_bytes no_currency ≡ replicate 24 0
unfolding currency_bytes bytes_of twos
absent-currency = refl

-- ---- written field by field

pub curve-put : (s a b c d e : List ℕ) (at : ℕ) (m : CurveMargin)
    → a ≡ put s at (bytes_of 8 (twos m.base))
    → b ≡ put a (at + 8) (bytes_of 8 (twos m.worstloss))
    → c ≡ put b (at + 16) (bytes_of 4 m.scenario)
    → d ≡ put c (at + 20) (bytes_of 4 m.currency)
    → e ≡ put d (at + 24) (bytes_of 8 m.tolerance)
    → e ≡ put s at (curve_bytes m)
unfolding curve_bytes
curve-put s a b c d e at m ea eb ec ed ee =
    let fb = then s at _ _ ea eb (simp length-bytes refl) in
    let fc = then s at _ _ fb ec (simp (length-append, length-bytes) refl) in
    let fd = then s at _ _ fc ed (simp (length-append, length-bytes) refl) in
    then s at _ _ fd ee (simp (length-append, length-bytes) refl)

pub currency-put : (s a b c : List ℕ) (at : ℕ) (m : CurrencyMargin)
    → a ≡ put s at (bytes_of 8 (twos m.initial))
    → b ≡ put a (at + 8) (bytes_of 8 (twos m.variation))
    → c ≡ put b (at + 16) (bytes_of 8 (twos m.total))
    → c ≡ put s at (currency_bytes m)
unfolding currency_bytes
currency-put s a b c at m ea eb ec =
    let fb = then s at _ _ ea eb (simp length-bytes refl) in
    then s at _ _ fb ec (simp (length-append, length-bytes) refl)

kind-bytes : bytes_of 4 9 ≡ 9 ∷ 0 ∷ 0 ∷ 0 ∷ []
unfolding bytes_of
kind-bytes = refl

pub fields-put : (s a b c d e : List ℕ) (m : Margin) → Places m
    → a ≡ put s 0 (bytes_of 4 9)
    → b ≡ put a 4 (bytes_of 4 m.account)
    → c ≡ put b 8 (flat_map curve_bytes m.curves)
    → d ≡ put c 264 (flat_map currency_bytes m.currencies)
    → e ≡ put d 336 (bytes_of 176 0)
    → e ≡ put s 0 (field_bytes m)
unfolding field_bytes
fields-put s a b c d e m places ea eb ec ed ee =
    let nc = length-curves m places in
    let nu = length-currencies m places in
    let fb = then s 0 _ _ ea eb (simp length-bytes refl) in
    let fc = then s 0 _ _ fb ec (simp (length-append, length-bytes) refl) in
    let fd = then s 0 _ _ fc ed (simp (length-append, length-bytes, nc) refl) in
    let fe = then s 0 _ _ fd ee (simp (length-append, length-bytes, nc, nu) refl) in
    fe ∙ rw (kind-bytes, bytes-zero 176)

-- and sealed: s is what stood there, and t what stands there with the fields written
pub report-put : (s t : List ℕ) (m : Margin) → Places m → 512 ≤ length s → t ≡ put s 0 (field_bytes m)
    → sealed (take 512 t) ++ drop 512 t ≡ report_bytes m ++ drop 512 s
unfolding report_bytes
report-put s t m places h e =
    let n = length_fields m places in
    let all : t ≡ field_bytes m ++ drop 512 s = e ∙ put_front s (field_bytes m) (rw n h) ∙ ap (λ (j : ℕ). field_bytes m ++ drop j s) n in
    rw (all, take_at (field_bytes m) (drop 512 s) 512 n, drop_at (field_bytes m) (drop 512 s) 512 n)
