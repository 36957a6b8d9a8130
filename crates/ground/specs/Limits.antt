-- Limits that several sentences of document 01 share.
use Rattle.std.specs.Prelude.{ℕ, suc}

-- "All days, payments' too, are at most 10,950."
abbrev pub last_day : ℕ
last_day = 10950

-- how many days there are, from day 0 on
abbrev pub day_count : ℕ
day_count = suc last_day
