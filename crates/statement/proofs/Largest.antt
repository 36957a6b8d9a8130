-- No page is longer than that of a book of one curve and 1,134 trades.
use mathlib.Core.Path.{◌≡◌}
use mathlib.Core.Bool.{Bool, true, false, ◌||◌}
use mathlib.Core.List.{List, [], ◌∷◌}
use Prim.Native.Nat.{ℕ, zero, suc, ◌+◌, ◌≤◌, ◌<◌}
use native.Mathlib.Decide.{dec_lt}
use native.Mathlib.Omega.{arith}
use borrow.Author.Tests.{ne_eqb}
use lib.Dec.{eqb}
use lib.ListN.{length, take}
use lib.Seq.{length-take-le}
use Rattle.std.specs.Prelude.{Ok}
use Rattle.book.specs.Parts.{curve_count, trade_count}
use Rattle.book.specs.Verdict.{blocks_verdict}
use Rattle.book.proofs.Accepted.{Sound, sound, blocks-taken}
use Rattle.margin.specs.declared.CurveMargin.{CurveMargin}
use Rattle.margin.specs.Margins.{has_currency}
use Rattle.report.specs.Entry.{margin_in}
use Rattle.report.proofs.Figures.{places}
use Rattle.page.specs.Page.{one_if, currency_count}
use Rattle.statement.specs.Entry.{page_of}
use Rattle.statement.proofs.Limits.{length-page_of}

-- ---- currencies

one-most : (has : Bool) → one_if has ≤ 1
one-most true = omega arith
one-most false = omega arith

three-most : (curves : List CurveMargin) → currency_count curves ≤ 3
three-most curves = omega (arith, one-most (has_currency 1 curves), one-most (has_currency 2 curves), one-most (has_currency 3 curves))

-- one curve has one
one_has : (c : ℕ) → one_if (eqb c 1 || false) + one_if (eqb c 2 || false) + one_if (eqb c 3 || false) ≤ 1
one_has zero = omega arith
one_has (suc zero) = omega arith
one_has (suc (suc zero)) = omega arith
one_has (suc (suc (suc zero))) = omega arith
one_has (suc (suc (suc (suc n)))) =
    let c = suc (suc (suc (suc n))) in
    rw (ne_eqb c 1 (omega arith), ne_eqb c 2 (omega arith), ne_eqb c 3 (omega arith)) (omega arith)

one-curve : (curves : List CurveMargin) → length curves ≡ 1 → currency_count curves ≤ 1
unfolding has_currency
one-curve [] e = absurd (omega arith)
one-curve (m ∷ []) e = one_has m.currency
one-curve (m ∷ n ∷ curves) e = absurd (omega arith)

-- ---- the page

module _ (s : List ℕ) (used : ℕ) (b : Sound s used) where
  abbrev curves : List CurveMargin
  curves = take (curve_count s) (margin_in s).curves

  long : length curves ≡ curve_count s
  long = length-take-le (curve_count s) (margin_in s).curves (omega (arith, (places s used b).curves, b.most))

  lines-most : 1 + trade_count s + curve_count s + currency_count curves ≤ 1137
  lines-most = go (dec_lt (curve_count s) 2)
    where
      go : Dec (curve_count s < 2) → 1 + trade_count s + curve_count s + currency_count curves ≤ 1137
      go (yes l) =
          let one : curve_count s ≡ 1 = omega (arith, b.least) in
          omega (arith, one, one-curve curves (omega (arith, long, one)), (blocks-taken s used b).most, b.blocks, b.limit)
      go (no l) = omega (arith, three-most curves, (blocks-taken s used b).most, b.blocks, b.limit)

pub page-most : (s : List ℕ) (used : ℕ) → blocks_verdict s used ≡ Ok tt → length (page_of s) ≤ 92097
page-most s used ok = let b = sound s used ok in omega (arith, length-page_of s used b, lines-most s used b)
