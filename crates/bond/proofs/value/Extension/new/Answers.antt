-- `bond::value::Extension::new` meets its contract.
use mathlib.Core.Path.{refl}
use native.Mathlib.Nat.{sub-zero}
use Rattle.bond.proofs.value.Extension.new.Goals as goal

pub returns : goal.returns
returns c =
    let reached = rw c.end_day.ensures at c.payments_up_to-within.ensures in
    (refl, refl, refl, record { extends = c.requires; reached = reached; worth = rw sub-zero at c.value_between-known.ensures })
