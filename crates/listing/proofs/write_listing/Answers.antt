-- `listing::write_listing` meets its contract.
use Prim.Native.Nat.{◌≤◌}
use native.Mathlib.Omega.{arith}
use Rattle.text.specs.Text.{ascii}
use Rattle.listing.specs.Listing.{listing}
use Rattle.text.proofs.Writing.{and_then, written-front}
use Rattle.listing.proofs.write_listing.Goals as goal

pub returns : goal.returns
unfolding listing ascii
returns c =
    let named = and_then c.put_number-end.ensures.text_written c.put_text-first.ensures in
    let listed = and_then named c.put_curve_lines-second.ensures.text_written in
    let all = and_then listed c.put_currency_lines.ensures.text_written in
    let room : c.put_currency_lines.result ≤ 1481 =
    omega
    (arith, c.requires, c.put_number-end.ensures.upper_bound, c.put_text-first.ensures.place, c.put_curve_lines-second.ensures.upper_bound, c.put_currency_lines.ensures.upper_bound) in
    let front = written-front all (omega (arith, c.requires)) in
    record { value = front.0; out_after = front.1; upper_bound = room }
