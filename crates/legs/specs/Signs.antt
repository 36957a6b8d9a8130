-- Which flows a trade has (document 01, "Flows", and document 02, wish 3): the sign of its first leg, second leg and payments: in, out, or none.
-- Which of the payments count is a window of days beside it (`in_window` of the crate flows).
use Rattle.std.specs.Prelude.{ℕ, Bool, ◌&&◌, ◌||◌, cond, eqb, Some, None, option_map}
use Rattle.record.specs.Uses.{is_outright, is_pool, is_specified, has_settled}
use Rattle.legs.specs.declared.signs.Direction.{Direction}
use Rattle.legs.specs.declared.signs.Direction.TheVariants.{In, Out}
use Rattle.legs.specs.declared.signs.Signs.{Signs}

-- what a trade can be: "phase (0 outright, ..)"; "Pool phases 1, 2 and specified 1", of which pool phase 1 has no security yet
abbrev pub is_bought : ℕ → ℕ → Bool
is_bought kind phase = is_outright kind && eqb phase 0

abbrev pub is_unallocated : ℕ → ℕ → Bool
is_unallocated kind phase = is_pool kind && eqb phase 1

abbrev pub is_allocated : ℕ → ℕ → Bool
is_allocated kind phase = is_pool kind && eqb phase 2 || is_specified kind && eqb phase 1

-- "Buyer: settlement cash out on value day 1, payments in."
abbrev pub bought_signs : Signs
bought_signs = record { first = Some Out; second = None; payments = Some In }

-- "Pool phases 1, 2 and specified 1, repo member: cash in on day 1, second leg out on day 2"
abbrev pub unallocated_signs : Signs
unallocated_signs = record { first = Some In; second = Some Out; payments = None }

-- document 02: payments "in pool phase 2 and specified phase 1 .. are flows out for the repo member"
abbrev pub allocated_signs : Signs
allocated_signs = record { first = Some In; second = Some Out; payments = Some Out }

-- "Pool 3 and specified 2, repo member: second leg out, payments in."
abbrev pub settled_signs : Signs
settled_signs = record { first = None; second = Some Out; payments = Some In }

abbrev pub no_signs : Signs
no_signs = record { first = None; second = None; payments = None }

-- of side 1, the buyer or repo member
abbrev pub member_signs : ℕ → ℕ → Signs
member_signs kind phase =
    cond (is_bought kind phase) bought_signs
    (cond (is_unallocated kind phase) unallocated_signs
    (cond (is_allocated kind phase) allocated_signs
    (cond (has_settled kind phase) settled_signs no_signs)))

-- "Side 2 has the opposite signs, except pool 3, where it has none."
abbrev pub turned : Direction → Direction
turned In = Out
turned Out = In

abbrev pub opposite : Signs → Signs
opposite s = record { first = option_map turned s.first; second = option_map turned s.second; payments = option_map turned s.payments }

unfoldable pub signs_of : ℕ → ℕ → ℕ → Signs
signs_of kind phase side =
    cond (eqb side 1) (member_signs kind phase) (cond (is_pool kind && eqb phase 3) no_signs (opposite (member_signs kind phase)))
