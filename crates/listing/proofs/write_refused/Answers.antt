-- `listing::write_refused` meets its contract.
use Prim.Native.Nat.{◌≤◌}
use native.Mathlib.Omega.{arith}
use Rattle.text.specs.Text.{ascii}
use Rattle.listing.specs.Listing.{refused_line}
use Rattle.text.proofs.Writing.{and_then, written-front}
use Rattle.listing.proofs.write_refused.Goals as goal

pub returns : goal.returns
unfolding refused_line ascii
returns c =
    let all = and_then (and_then c.put_number-next.ensures.text_written c.put_number-end.ensures.text_written) c.put_text.ensures in
    let room : c.put_text.result ≤ 50 =
    omega (arith, c.requires, c.put_number-next.ensures.upper_bound, c.put_number-end.ensures.upper_bound, c.put_text.ensures.place) in
    let front = written-front all (omega (arith, c.requires)) in
    record { value = front.0; out_after = front.1; upper_bound = room }
