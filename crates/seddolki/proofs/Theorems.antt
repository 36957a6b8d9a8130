-- Number 0 is done and nothing else: no ground has it, and the two numbers (with the tolerance) then give the whole answer back.
use mathlib.Core.Path.{◌≡◌, refl}
use Prim.Native.Nat.{ℕ, ◌<◌}
use native.Mathlib.Omega.{arith}
use lib.Dec.{lit<}
use Rattle.std.specs.Prelude.{Result, Ok, Err}
use Rattle.ground.specs.Number.{number_of}
use Rattle.ground.specs.declared.Ground.{Ground}
use Rattle.ground.specs.declared.Ground.TheVariants.{Length, Check, Place, Header, Curve, Node, TradeBlock, Form, Days, Amounts, Currency, FlowLimit, ReportSpace, Position, BookSpace, ValueRange, CurveEnd, RateRange, ValuationDay}
use Rattle.ground.specs.declared.Refusal.{Refusal}
use Rattle.ground.specs.Verdicts.{Verdict}
use Rattle.discount.specs.declared.entry.Worth.{Worth}
use Rattle.seddolki.specs.Answers.{verdict_answer, written_answer, valued_answer, valued_tolerance}

pub number-above-zero : (g : Ground) → 0 < number_of g
number-above-zero Length = lit< tt
number-above-zero Check = lit< tt
number-above-zero Place = lit< tt
number-above-zero Header = lit< tt
number-above-zero Curve = lit< tt
number-above-zero Node = lit< tt
number-above-zero TradeBlock = lit< tt
number-above-zero Form = lit< tt
number-above-zero Days = lit< tt
number-above-zero Amounts = lit< tt
number-above-zero Currency = lit< tt
number-above-zero FlowLimit = lit< tt
number-above-zero ReportSpace = lit< tt
number-above-zero Position = lit< tt
number-above-zero BookSpace = lit< tt
number-above-zero ValueRange = lit< tt
number-above-zero CurveEnd = lit< tt
number-above-zero RateRange = lit< tt
number-above-zero ValuationDay = lit< tt

pub done-accepted : (v : Verdict) → (verdict_answer v).number ≡ 0 → v ≡ Ok tt
done-accepted (Ok tt) done = refl
done-accepted (Err r) done = absurd (omega (arith, number-above-zero r.by))

pub done-used : (w : Result ℕ Refusal) → (written_answer w).number ≡ 0 → w ≡ Ok (written_answer w).value
done-used (Ok n) done = refl
done-used (Err r) done = absurd (omega (arith, number-above-zero r.by))

pub done-worth : (v : Result Worth Refusal) → (valued_answer v).number ≡ 0 → v ≡ Ok (record { value = (valued_answer v).value; tolerance = valued_tolerance v })
done-worth (Ok worth) done = refl
done-worth (Err r) done = absurd (omega (arith, number-above-zero r.by))
