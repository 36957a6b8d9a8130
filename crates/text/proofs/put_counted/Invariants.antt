-- `text::put_counted` meets its contract: the digits written, from the last on, and those of what is left are together all.
use Rattle.std.proofs.Common.{◌≡◌, ◌-◌}
use Rattle.layout.specs.Bytes.{put}
use Rattle.text.proofs.Digits.{last_digits}
use Rattle.text.proofs.put_counted.Given as goal

abbrev pub invariant-loop-place : goal.invariant-loop-place
invariant-loop-place l =
    put l.initial.out l.at (last_digits l.count l.n) ≡ put l.out l.at (last_digits (l.place - l.at) l.rest)
