-- `layout::put_le` meets its contract: what is written and what is left to write are together all.
use Rattle.std.proofs.Common.{◌≡◌, ◌-◌, ◌+◌, sym, ◌∙◌, arith, add-one}
use Rattle.layout.specs.Field.{bytes_of}
use Rattle.layout.proofs.Bytes.{put-lent, put_whole, length_part}
use Rattle.layout.proofs.Field.{put_next, put_last, length-bytes}
use Rattle.layout.proofs.put_le.Goals as goal

pub loop-byte-preserved : goal.loop-byte-preserved
loop-byte-preserved c =
    let i = c.loop-byte.byte-index in
    let e : c.args.n - (i + 1) ≡ c.args.n - i - 1 = omega arith in
    rw (e, add-one) (c.loop-byte.invariant ∙ put_next _ _ _ _ (omega (arith, length_part c.args.out.now c.args.at c.args.n c.requires)))

pub returns : goal.returns
returns c =
    let n = c.args.n in
    let bytes = bytes_of n c.args.v in
    let e : c.args.at + n - c.args.at ≡ n = omega arith in
    let long = length_part c.args.out.now c.args.at n c.requires in
    let whole = put_whole _ bytes (length-bytes n c.args.v ∙ sym long) in
    let end = rw e at c.loop-byte-test.false in
    let written : c.loop-byte.byte-items ≡ bytes = sym (c.loop-byte.invariant ∙ put_last _ _ _ _ (omega (arith, long, end))) ∙ rw e whole in
    rw (written, e) (put-lent _ _ n bytes c.requires (length-bytes n c.args.v))
