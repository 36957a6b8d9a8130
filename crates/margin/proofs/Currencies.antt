-- The sums of a currency: what the code holds with one curve more, and that it fits; the loop over the curves; the places behind them.
use mathlib.Core.Path.{◌≡◌, refl, ◌∙◌, ap}
use mathlib.Core.Bool.{Bool, true, false, cond, ◌||◌}
use mathlib.Core.List.{List, [], ◌∷◌}
use Prim.Native.Nat.{ℕ, suc, ◌+◌, ◌^◌, ◌<◌}
use native.Mathlib.Numerals.{add-one}
use native.Mathlib.Omega.{arith}
use borrow.Author.Tests.{eq-eqb, ne_eqb}
use lib.Dec.{eqb}
use lib.IntN.{ℤ, nat_abs, ◌+ℤ◌, ◌-ℤ◌, +ℤ_assoc, +ℤ_idr}
use lib.ListN.{length, get_or, drop}
use lib.Seq.{drop-cons}
use Rattle.std.proofs.lemmas.List.{drop_all}
use Rattle.std.specs.List.{list_any}
use Rattle.laws.proofs.Signed.{read, read_is, abs-add, abs-sub}
use Rattle.decimal.specs.Product.{unit}
use Rattle.margin.specs.declared.CurveMargin.{CurveMargin}
use Rattle.margin.specs.declared.CurrencyMargin.{CurrencyMargin}
use Rattle.margin.specs.declared.margins.Sums.{Sums}
use Rattle.margin.specs.Margins.{sum_in, currency_margin, has_currency, no_curve, MarginLimits, plus_curve, SumsLimits, PlacesLimits}

-- ---- whether a curve has the currency

pub has-any : (currency : ℕ) (ms : List CurveMargin) → list_any (λ (m : CurveMargin). eqb m.currency currency) ms ≡ has_currency currency ms
unfolding has_currency
has-any currency [] = refl
has-any currency (m ∷ ms) = ap (λ t. eqb m.currency currency || t) (has-any currency ms)

-- ---- one curve more

module _ (currency : ℕ) (t : Sums) (m : CurveMargin) where
  pub plus-other : (m.currency ≡ currency → ⊥) → t ≡ plus_curve currency t m
  unfolding plus_curve
  plus-other n = rw (ne_eqb m.currency currency n)

  pub plus-same : m.currency ≡ currency → plus_curve currency t m ≡ record { initial = t.initial +ℤ m.worstloss; variation = t.variation +ℤ m.base }
  unfolding plus_curve
  plus-same e = rw (eq-eqb m.currency currency e)

module _ (t : Sums) (m : CurveMargin) (h : SumsLimits 7 t × MarginLimits m) where
  pub initial-size : nat_abs (t.initial +ℤ m.worstloss) < 2 ^ 63
  unfolding unit
  initial-size = omega (arith, abs-add t.initial m.worstloss, h.0.initial, h.1.worstloss)

  pub variation-size : nat_abs (t.variation +ℤ m.base) < 2 ^ 63
  unfolding unit
  variation-size = omega (arith, abs-add t.variation m.base, h.0.variation, h.1.base)

  pub code-initial : read t.initial +ℤ read m.worstloss ≡ t.initial +ℤ m.worstloss
  unfolding unit
  code-initial = rw (read_is t.initial (omega (arith, h.0.initial)), read_is m.worstloss (omega (arith, h.1.worstloss))) refl

  pub code-variation : read t.variation +ℤ read m.base ≡ t.variation +ℤ m.base
  unfolding unit
  code-variation = rw (read_is t.variation (omega (arith, h.0.variation)), read_is m.base (omega (arith, h.1.base))) refl

  pub code-sums : ◌≡◌ {A = Sums} (record { initial = read (read t.initial +ℤ read m.worstloss); variation = read (read t.variation +ℤ read m.base) }) (record { initial = t.initial +ℤ m.worstloss; variation = t.variation +ℤ m.base })
  code-sums =
      rw (code-initial, code-variation, read_is (t.initial +ℤ m.worstloss) initial-size, read_is (t.variation +ℤ m.base) variation-size) refl

-- ---- at the end: the total

module _ (t : Sums) (h : SumsLimits 8 t) where
  pub total_size : nat_abs (t.variation -ℤ t.initial) < 2 ^ 63
  unfolding unit
  total_size = omega (arith, abs-sub t.variation t.initial, h.initial, h.variation)

  initial-read : read t.initial ≡ t.initial
  unfolding unit
  initial-read = read_is t.initial (omega (arith, h.initial))

  variation-read : read t.variation ≡ t.variation
  unfolding unit
  variation-read = read_is t.variation (omega (arith, h.variation))

  pub code-total : read t.variation -ℤ read t.initial ≡ t.variation -ℤ t.initial
  code-total = rw (initial-read, variation-read) refl

  pub code-figures : ◌≡◌ {A = CurrencyMargin} (record { initial = read t.initial; variation = read t.variation; total = read (read t.variation -ℤ read t.initial) }) (record { initial = t.initial; variation = t.variation; total = t.variation -ℤ t.initial })
  code-figures = rw (code-total, read_is (t.variation -ℤ t.initial) total_size, initial-read, variation-read) refl

-- ---- the loop: what is summed and what is left are together all

pub record Summed (currency : ℕ) (ms : List CurveMargin) (t : Sums) (i : ℕ) : Type 0 where
  pub limits : SumsLimits i t
  pub initial : t.initial +ℤ sum_in currency (λ m. m.worstloss) (drop i ms) ≡ sum_in currency (λ m. m.worstloss) ms
  pub variation : t.variation +ℤ sum_in currency (λ m. m.base) (drop i ms) ≡ sum_in currency (λ m. m.base) ms

-- with one curve more
module _ (currency : ℕ) (m : CurveMargin) (rest : List CurveMargin) (t : Sums) where
  limits-next : (n : ℕ) → SumsLimits n t → MarginLimits m → SumsLimits (n + 1) (plus_curve currency t m)
  unfolding plus_curve
  limits-next n h k = go (eqb m.currency currency)
    where
      go : (b : Bool) → SumsLimits (n + 1) (cond b (record { initial = t.initial +ℤ m.worstloss; variation = t.variation +ℤ m.base }) t)
      go true =
          record {
            initial = omega (arith, abs-add t.initial m.worstloss, h.initial, k.worstloss);
            variation = omega (arith, abs-add t.variation m.base, h.variation, k.base);
          }
      go false = record { initial = omega (arith, h.initial); variation = omega (arith, h.variation) }

  initial-next : (plus_curve currency t m).initial +ℤ sum_in currency (λ m. m.worstloss) rest ≡ t.initial +ℤ sum_in currency (λ m. m.worstloss) (m ∷ rest)
  unfolding plus_curve sum_in
  initial-next = go (eqb m.currency currency) (sum_in currency (λ m. m.worstloss) rest)
    where
      go : (b : Bool) (z : ℤ) → (cond b (record { initial = t.initial +ℤ m.worstloss; variation = t.variation +ℤ m.base }) t).initial +ℤ z ≡ t.initial +ℤ cond b (m.worstloss +ℤ z) z
      go true z = +ℤ_assoc t.initial m.worstloss z
      go false z = refl

  variation-next : (plus_curve currency t m).variation +ℤ sum_in currency (λ m. m.base) rest ≡ t.variation +ℤ sum_in currency (λ m. m.base) (m ∷ rest)
  unfolding plus_curve sum_in
  variation-next = go (eqb m.currency currency) (sum_in currency (λ m. m.base) rest)
    where
      go : (b : Bool) (z : ℤ) → (cond b (record { initial = t.initial +ℤ m.worstloss; variation = t.variation +ℤ m.base }) t).variation +ℤ z ≡ t.variation +ℤ cond b (m.base +ℤ z) z
      go true z = +ℤ_assoc t.variation m.base z
      go false z = refl

module _ (currency : ℕ) (ms : List CurveMargin) (p : PlacesLimits ms (length ms)) (t : Sums) (i : ℕ) (h : Summed currency ms t i) where
  pub summed-next : i < length ms → Summed currency ms (plus_curve currency t (get_or ms i no_curve)) (i + 1)
  summed-next l =
      let m = get_or ms i no_curve in
      let next = drop-cons ms i no_curve l in
      record {
        limits = limits-next currency m (drop (suc i) ms) t i h.limits (p.each i l);
        initial = rw add-one (initial-next currency m (drop (suc i) ms) t ∙ rw next at h.initial);
        variation = rw add-one (variation-next currency m (drop (suc i) ms) t ∙ rw next at h.variation);
      }

  module _ (l : i ≡ length ms) where
    pub summed-limits : SumsLimits 8 t
    unfolding unit
    summed-limits = record { initial = omega (arith, h.limits.initial, p.most); variation = omega (arith, h.limits.variation, p.most) }

    pub summed-all : record { initial = t.initial; variation = t.variation; total = t.variation -ℤ t.initial } ≡ currency_margin currency ms
    unfolding currency_margin sum_in
    summed-all =
        let end : drop i ms ≡ [] = drop_all i ms (omega arith) in
        rw (← h.initial, ← h.variation, end, +ℤ_idr t.initial, +ℤ_idr t.variation) refl
