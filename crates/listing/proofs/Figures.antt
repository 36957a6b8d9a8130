-- The texts that document 01 shows under "Checked figures".
use mathlib.Core.Path.{◌≡◌, refl}
use mathlib.Core.List.{[], ◌∷◌}
use Rattle.margin.specs.declared.Margin.{Margin}
use Rattle.margin.specs.Margins.{no_curve, no_currency, has_currency}
use Rattle.margin.proofs.Buyer.{buyer_curve, buyer_lira}
use Rattle.text.specs.Text.{ascii, digits_within, decimal_of, with_sign, letters, lines_of}
use Rattle.listing.specs.Listing.{curve_figures, curve_listed, currency_figures, currency_listed, currency_listed_if, listing, refused_line}

unfoldable pub buyer : Margin
unfolding buyer_curve buyer_lira
buyer =
    record {
      account = 7;
      curves = buyer_curve ∷ no_curve ∷ no_curve ∷ no_curve ∷ no_curve ∷ no_curve ∷ no_curve ∷ no_curve ∷ [];
      currencies = buyer_lira ∷ no_currency ∷ no_currency ∷ [];
    }

pub printed : listing 1 buyer ≡ ascii "account 7\ncurve 1 TRY base 10000 loss 30000 scenario 2 tolerance 1\ncurrency TRY initial 30000 variation 10000 total -20000\n"
unfolding buyer buyer_curve buyer_lira ascii digits_within decimal_of with_sign letters lines_of curve_figures curve_listed currency_figures currency_listed has_currency currency_listed_if listing
printed = refl

pub nothing-printed : refused_line 1 0 ≡ ascii "refused 1 0\n"
unfolding ascii digits_within decimal_of refused_line
nothing-printed = refl
