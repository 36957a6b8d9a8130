-- Each entry's answer as two numbers (document 01, "Grounds of refusal": "The answer is the number and the block").
use Rattle.std.specs.Prelude.{ℕ, Result, Ok, Err}
use Rattle.ground.specs.Number.{number_of}
use Rattle.ground.specs.declared.Refusal.{Refusal}
use Rattle.discount.specs.declared.entry.Worth.{Worth}
use Rattle.seddolki.specs.declared.Answer.{Answer}

-- number 0, which no ground has, and the result
abbrev pub done_answer : ℕ → Answer
done_answer value = record { number = 0; value = value }

-- the ground's number, and the block
abbrev pub refused : Refusal → Answer
refused r = record { number = number_of r.by; value = r.block }

-- a check, a margin or a read has no number for its result
abbrev pub verdict_answer : {A : Type 0} → Result A Refusal → Answer
verdict_answer (Ok nothing) = done_answer 0
verdict_answer (Err r) = refused r

-- "Append and strike return the new used length."; of a statement "the page's length is returned"
abbrev pub written_answer : Result ℕ Refusal → Answer
written_answer (Ok n) = done_answer n
written_answer (Err r) = refused r

-- "Another entry gives one present value and its tolerance.": the value is in the answer
abbrev pub valued_answer : Result Worth Refusal → Answer
valued_answer (Ok worth) = done_answer worth.value
valued_answer (Err r) = refused r

-- the tolerance stands beside the answer, 0 where refused
abbrev pub valued_tolerance : Result Worth Refusal → ℕ
valued_tolerance (Ok worth) = worth.tolerance
valued_tolerance (Err r) = 0
