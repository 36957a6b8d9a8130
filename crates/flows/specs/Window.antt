-- Which payments of its security a trade counts: those in a window of days, by kind and phase (document 02, wish 3).
use Rattle.std.specs.Prelude.{ℕ, Bool, true, cond, ◌&&◌, leb, ltb}
use Rattle.record.specs.Uses.{has_settled}
use Rattle.trade.specs.declared.RepoTrade.{RepoTrade}
use Rattle.trade.specs.declared.Trade.{Trade}
use Rattle.trade.specs.declared.Trade.TheVariants.{Outright, Pool, Specified}

-- "The security leaves on day 1 and returns on day 2, so payments after day 1 and up to day 2 remain"
abbrev pub in_term : RepoTrade → ℕ → Bool
in_term t day = ltb t.valueday1 day && leb day t.valueday2

-- "only payments after day 2 count"
abbrev pub after_term : RepoTrade → ℕ → Bool
after_term t day = ltb t.valueday2 day

-- those of the term "in pool phase 2 and specified phase 1"; those after it "in pool phase 3 and specified phase 2"
abbrev pub in_repo_window : Bool → RepoTrade → ℕ → Bool
in_repo_window settled t day = cond settled (after_term t day) (in_term t day)

-- an outright's are all counted
abbrev pub in_window : Trade → ℕ → Bool
in_window (Outright t) day = true
in_window (Pool t) day = in_repo_window (has_settled 2 t.phase) t day
in_window (Specified t) day = in_repo_window (has_settled 3 t.phase) t day
