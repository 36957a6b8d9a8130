-- `book::parts::block_at` meets its contract.
use native.Mathlib.Nat.{add-sub_cancel_left}
use native.Mathlib.Omega.{arith}
use lib.ListN.{length-take, length-drop}
use Rattle.book.proofs.parts.block_at.Goals as goal

pub returns : goal.returns
returns c = record { result_value = rw add-sub_cancel_left; result_len = rw add-sub_cancel_left (simp (length-take, length-drop) (omega arith)) }
