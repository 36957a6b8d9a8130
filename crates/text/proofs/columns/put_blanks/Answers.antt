-- `text::columns::put_blanks` meets its contract.
use Rattle.std.proofs.Common.{◌≡◌, ◌+◌, ◌-◌, ◌∙◌, arith}
use Rattle.layout.proofs.Bytes.{put-lent, length_part}
use Rattle.text.specs.Columns.{blanks}
use Rattle.text.proofs.Amounts.{length-blanks}
use Rattle.text.proofs.columns.put_blanks.Goals as goal

pub returns : goal.returns
returns c =
    let a = c.args in
    let e : a.at + a.n - a.at ≡ a.n = omega arith in
    let filled = c.fill.ensures.after (λ y h. h) in
    let written : c.fill.new.self ≡ blanks a.n = filled ∙ rw (e, length_part a.out.now a.at a.n c.requires) in
    record {
      bytes = rw (written, e) (put-lent a.out.now a.at a.n (blanks a.n) c.requires (length-blanks a.n));
      place = omega (arith, length-blanks a.n);
    }
