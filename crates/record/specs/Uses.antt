-- Which fields a record uses, by its kind, phase and security (document 01, "Record" and "Fields a record doesn't use are 0").
use Rattle.std.specs.Prelude.{ℕ, ◌+◌, ◌-◌, ◌*◌, Bool, ◌&&◌, ◌||◌, not, cond, eqb, leb}

abbrev pub in_limits : ℕ → ℕ → ℕ → Bool
in_limits least x most = leb least x && leb x most

-- a number that is used keeps its limits; one that is not is 0
abbrev pub used_in_limits : Bool → ℕ → ℕ → ℕ → Bool
used_in_limits used least x most = cond used (in_limits least x most) (eqb x 0)

-- a rule that is asked only of some records
abbrev pub asked : Bool → Bool → Bool
asked used rule = not used || rule

-- "kind (1 outright, 2 pool repo, 3 specified repo)"
abbrev pub is_outright : ℕ → Bool
is_outright kind = eqb kind 1

abbrev pub is_pool : ℕ → Bool
is_pool kind = eqb kind 2

abbrev pub is_specified : ℕ → Bool
is_specified kind = eqb kind 3

-- "In pool phase 3 and specified phase 2 the first leg has settled"
abbrev pub has_settled : ℕ → ℕ → Bool
has_settled kind phase = is_pool kind && eqb phase 3 || is_specified kind && eqb phase 2

-- "security (0 none, 1 single payment, 2 coupons, 3 indexed coupons)"
abbrev pub has_security : ℕ → Bool
has_security security = not (eqb security 0)

abbrev pub has_coupons : ℕ → Bool
has_coupons security = in_limits 2 security 3

abbrev pub is_indexed : ℕ → Bool
is_indexed security = eqb security 3

-- "first day + i × period, i from 0": the last of so many payments. A single one, which has neither period nor count, is on the first day
abbrev pub last_payment_day : ℕ → ℕ → ℕ → ℕ
last_payment_day first period payments = first + (payments - 1) * period
