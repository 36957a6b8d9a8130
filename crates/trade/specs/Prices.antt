-- Clean and dirty prices (document 01, "Flows").
use Rattle.std.specs.Prelude.{ℕ, ◌+◌}
use Rattle.trade.specs.declared.price.Clean.{Clean}
use Rattle.trade.specs.declared.price.Dirty.{Dirty}

-- "dirty is clean plus accrued"
abbrev pub dirty_of : Clean → ℕ → Dirty
dirty_of clean accrued = record { 0 = clean.0 + accrued }
