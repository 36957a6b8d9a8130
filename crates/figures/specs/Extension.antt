-- Source document 004's own bootstrap (section 4.3) as the engine is given it: a book of one curve, a bond and its price.
use Rattle.std.specs.Prelude.{ℕ, cond, List, pos, set, replicate, is_ok}
use Rattle.layout.specs.Bytes.{put}
use Rattle.layout.specs.Field.{u32_at, bytes_of}
use Rattle.layout.specs.Check.{sealed}
use Rattle.bootstrap.specs.declared.Quote.{Quote}
use Rattle.bootstrap.specs.Bought.{quote_of}
use Rattle.bootstrap.specs.Refusals.{bootstrap_verdict}
use Rattle.bootstrap.specs.Bootstrap.{bootstrapped}

-- a number written at a place, so many bytes wide
abbrev pub field : List ℕ → ℕ → ℕ → ℕ → List ℕ
field b at width number = put b at (bytes_of width number)

-- one curve, and no trades
unfoldable pub known_header : List ℕ
known_header = sealed (field (set (replicate 512 0) 0 1) 8 2 1)

-- nodes on the days 170 and 323 at 10.5%, in lira, not stressed
unfoldable pub known_curve : List ℕ
known_curve =
    let named = field (field (field (field (set (replicate 512 0) 0 2) 2 2 1) 4 1 1) 5 1 1) 6 1 2 in
    sealed (field (field (field (field named 20 2 170) 24 4 105000) 40 2 323) 44 4 105000)

unfoldable pub known_book : List ℕ
known_book = put (put (replicate 1024 0) 0 known_header) 512 known_curve

-- "5 on day 170 and 105 on day 350": first payment day, period, payments, coupon, nominal
unfoldable pub coupon_bond : List ℕ
coupon_bond = field (field (field (field (field (replicate 20 0) 0 2 170) 2 2 180) 4 2 2) 8 4 50000) 12 8 10000000000

-- it costs 99
unfoldable pub bond_quote : Quote
bond_quote = quote_of 1 coupon_bond 9900000000 (pos 0) (pos 0) (pos 0)

-- the rate of the curve's third node after the bootstrap; 0 where it is refused
unfoldable pub rate_found : ℕ
rate_found = cond (is_ok (bootstrap_verdict known_book 1024 0 bond_quote)) (u32_at (bootstrapped known_book 1024 0 bond_quote) 576) 0
