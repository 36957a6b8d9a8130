-- What the code's calls ask of an accepted book: its size, and what the verdicts say of it.
use mathlib.Core.Path.{◌≡◌}
use mathlib.Core.List.{List}
use Prim.Native.Nat.{ℕ, ◌+◌, ◌*◌, ◌/◌, ◌≤◌}
use native.Mathlib.Omega.{arith}
use lib.ListN.{length}
use Rattle.std.specs.Prelude.{Ok}
use Rattle.book.specs.Parts.{curve_count, trade_blocks, trade_count}
use Rattle.book.specs.Verdict.{blocks_verdict}
use Rattle.edit.proofs.Given.{place-checked, book-checked, record-checked}
use Rattle.book.proofs.Accepted.{sound, blocks-for, trade-count-most}

pub size : (s : List ℕ) (used : ℕ) → blocks_verdict s used ≡ Ok tt
    → (used ≡ (1 + curve_count s + trade_blocks s) * 512) × ((used ≤ 65536) × ((used ≤ length s) × ((trade_count s ≤ 1134) × ((trade_count s + 8) / 9 ≡ trade_blocks s))))
size s used h =
    let b = sound s used h in
    (b.blocks, (b.limit, (b.lent, (omega (arith, trade-count-most s used b), blocks-for s used b))))

pub ruleset checked = (size, place-checked, book-checked, record-checked)
