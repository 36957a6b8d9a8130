-- What the report shows is what the margin holds, where it fits its field.
use mathlib.Core.Path.{◌≡◌, refl, sym, ◌∙◌, ap}
use mathlib.Core.List.{List, [], ◌∷◌, ◌++◌, flat_map}
use Prim.Native.Nat.{ℕ, ◌+◌, ◌-◌, ◌*◌, ◌^◌, ◌≤◌, ◌<◌}
use native.Mathlib.Nat.{add-zero}
use native.Mathlib.Omega.{arith}
use lib.IntN.{ℤ}
use lib.Signed.{mag}
use lib.ListN.{length, get_or, replicate, length-append}
use Rattle.layout.specs.Field.{number_at, bytes_of, signed_of, twos}
use Rattle.layout.proofs.Field.{field-front, length-bytes, number-bytes, signed-bytes}
use Rattle.margin.specs.declared.CurveMargin.{CurveMargin}
use Rattle.margin.specs.declared.CurrencyMargin.{CurrencyMargin}
use Rattle.margin.specs.declared.Margin.{Margin}
use Rattle.report_block.specs.Report.{curve_bytes, currency_bytes, field_bytes, report_bytes}
use Rattle.report_block.specs.Shown.{
  curve_place,
  currency_place,
  shown_account,
  shown_base,
  shown_loss,
  shown_scenario,
  shown_currency,
  shown_tolerance,
  shown_initial,
  shown_variation,
  shown_total,
  curve_shown,
  currency_shown,
  CurveFits,
  CurrencyFits,
}
use Rattle.report_block.proofs.Records.{field-middle, field-record}
use Rattle.report_block.proofs.Report.{Places, length-curve, length-currency, length-curves, length-currencies, field-report}

-- the bits of a signed number, read back from the bytes of its field
signed_back : (z : ℤ) {n : ℕ} → n ≡ number_at 8 (bytes_of 8 (twos z)) 0 → mag z < 2 ^ 63 → signed_of 64 n ≡ z
signed_back z e h = rw e (signed-bytes 8 z (omega arith) (omega arith) h)

same-curve : {base base' loss loss' : ℤ} {scenario scenario' currency currency' tolerance tolerance' : ℕ}
    → base ≡ base' → loss ≡ loss' → scenario ≡ scenario' → currency ≡ currency' → tolerance ≡ tolerance'
    → ◌≡◌ {A = CurveMargin} (record { base = base; worstloss = loss; scenario = scenario; currency = currency; tolerance = tolerance }) (record { base = base'; worstloss = loss'; scenario = scenario'; currency = currency'; tolerance = tolerance' })
same-curve p q r s t = rw (p, q, r, s, t)

same-currency : {initial initial' variation variation' total total' : ℤ} → initial ≡ initial' → variation ≡ variation' → total ≡ total'
    → ◌≡◌ {A = CurrencyMargin} (record { initial = initial; variation = variation; total = total }) (record { initial = initial'; variation = variation'; total = total' })
same-currency p q r = rw (p, q, r)

module _ (m : Margin) (places : Places m) (rest : List ℕ) where
  abbrev head : List ℕ
  head = (9 ∷ 0 ∷ 0 ∷ 0 ∷ []) ++ bytes_of 4 m.account

  abbrev curves : List ℕ
  curves = flat_map curve_bytes m.curves

  abbrev currencies : List ℕ
  currencies = flat_map currency_bytes m.currencies

  curve-field : (n o k : ℕ) (d : CurveMargin) → k ≤ 8 → o + n ≤ 32
      → number_at n (report_bytes m ++ rest) (curve_place k + o) ≡ number_at n (curve_bytes (get_or m.curves (k - 1) d)) o
  unfolding field_bytes
  curve-field n o k d h l =
      let long = length-curves m places in
      let in_list : k - 1 < length m.curves = rw places.curves (omega arith) in
      let e : curve_place k + o ≡ 8 + (32 * (k - 1) + o) = omega arith in
      field-report m places n rest (curve_place k + o) (omega arith)
      ∙ field-front n (head ++ curves ++ currencies) (replicate 176 0) (curve_place k + o) (simp (length-append, length-bytes, long) (omega arith))
      ∙ ap (number_at n (head ++ curves ++ currencies)) e
      ∙ field-middle n head curves currencies 8 (32 * (k - 1) + o) (simp (length-append, length-bytes) refl) (rw long (omega arith))
      ∙ field-record curve_bytes 32 length-curve n m.curves (k - 1) o d in_list l

  currency-field : (n o k : ℕ) (d : CurrencyMargin) → k ≤ 3 → o + n ≤ 24
      → number_at n (report_bytes m ++ rest) (currency_place k + o) ≡ number_at n (currency_bytes (get_or m.currencies (k - 1) d)) o
  unfolding field_bytes
  currency-field n o k d h l =
      let in_list : k - 1 < length m.currencies = rw places.currencies (omega arith) in
      let e : currency_place k + o ≡ 264 + (24 * (k - 1) + o) = omega arith in
      field-report m places n rest (currency_place k + o) (omega arith)
      ∙ ap (number_at n (head ++ curves ++ currencies ++ replicate 176 0)) e
      ∙ field-middle n (head ++ curves) currencies (replicate 176 0) 264 (24 * (k - 1) + o) (simp (length-append, length-bytes, length-curves m places) refl) (rw (length-currencies m places) (omega arith))
      ∙ field-record currency_bytes 24 length-currency n m.currencies (k - 1) o d in_list l

  pub shown-account : m.account < 2 ^ 32 → shown_account (report_bytes m ++ rest) ≡ m.account
  unfolding field_bytes number_at bytes_of
  shown-account h = field-report m places 4 rest 4 (omega arith) ∙ number-bytes 4 m.account h

  -- curve k from 1, whatever stands past the list's end
  module _ (k : ℕ) (d : CurveMargin) (most : k ≤ 8) where
    abbrev curve : CurveMargin
    curve = get_or m.curves (k - 1) d

    pub shown-base : mag curve.base < 2 ^ 63 → shown_base (report_bytes m ++ rest) k ≡ curve.base
    unfolding curve_bytes number_at bytes_of
    shown-base h = signed_back curve.base (ap (number_at 8 (report_bytes m ++ rest)) (sym (add-zero (curve_place k))) ∙ curve-field 8 0 k d most (omega arith)) h

    pub shown-loss : mag curve.worstloss < 2 ^ 63 → shown_loss (report_bytes m ++ rest) k ≡ curve.worstloss
    unfolding curve_bytes number_at bytes_of
    shown-loss h = signed_back curve.worstloss (curve-field 8 8 k d most (omega arith)) h

    pub shown-scenario : curve.scenario < 2 ^ 32 → shown_scenario (report_bytes m ++ rest) k ≡ curve.scenario
    unfolding curve_bytes number_at bytes_of
    shown-scenario h = curve-field 4 16 k d most (omega arith) ∙ number-bytes 4 curve.scenario h

    pub shown-currency : curve.currency < 2 ^ 32 → shown_currency (report_bytes m ++ rest) k ≡ curve.currency
    unfolding curve_bytes number_at bytes_of
    shown-currency h = curve-field 4 20 k d most (omega arith) ∙ number-bytes 4 curve.currency h

    pub shown-tolerance : curve.tolerance < 2 ^ 64 → shown_tolerance (report_bytes m ++ rest) k ≡ curve.tolerance
    unfolding curve_bytes number_at bytes_of
    shown-tolerance h = curve-field 8 24 k d most (omega arith) ∙ number-bytes 8 curve.tolerance h

    -- all of it
    pub curve-shown : CurveFits curve → curve_shown (report_bytes m ++ rest) k ≡ curve
    unfolding curve_shown
    curve-shown h =
        same-curve
        (shown-base h.base)
        (shown-loss h.worstloss)
        (shown-scenario h.scenario)
        (shown-currency h.currency)
        (shown-tolerance h.tolerance)

  -- currency c: 1 TRY, 2 USD, 3 EUR
  module _ (c : ℕ) (d : CurrencyMargin) (most : c ≤ 3) where
    abbrev currency : CurrencyMargin
    currency = get_or m.currencies (c - 1) d

    pub shown-initial : mag currency.initial < 2 ^ 63 → shown_initial (report_bytes m ++ rest) c ≡ currency.initial
    unfolding currency_bytes number_at bytes_of
    shown-initial h = signed_back currency.initial (ap (number_at 8 (report_bytes m ++ rest)) (sym (add-zero (currency_place c))) ∙ currency-field 8 0 c d most (omega arith)) h

    pub shown-variation : mag currency.variation < 2 ^ 63 → shown_variation (report_bytes m ++ rest) c ≡ currency.variation
    unfolding currency_bytes number_at bytes_of
    shown-variation h = signed_back currency.variation (currency-field 8 8 c d most (omega arith)) h

    pub shown-total : mag currency.total < 2 ^ 63 → shown_total (report_bytes m ++ rest) c ≡ currency.total
    unfolding currency_bytes number_at bytes_of
    shown-total h = signed_back currency.total (currency-field 8 16 c d most (omega arith)) h

    pub currency-shown : CurrencyFits currency → currency_shown (report_bytes m ++ rest) c ≡ currency
    unfolding currency_shown
    currency-shown h = same-currency (shown-initial h.initial) (shown-variation h.variation) (shown-total h.total)
