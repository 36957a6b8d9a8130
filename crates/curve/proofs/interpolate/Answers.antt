-- `curve::interpolate` meets its contract: proofs/Interpolation.antt names what each operation gives, and its size.
use native.Mathlib.Omega.{arith}
use Rattle.laws.proofs.Signed.{fits, to-u64}
use Rattle.curve.proofs.Interpolation.{run_is, interpolated-is, product-size, quot-size, interpolated-size, code-run, code-product, code-quot, code-interpolated, interpolated-read}
use Rattle.curve.proofs.interpolate.Goals as goal

pub overflow_mul-result : goal.overflow_mul-result
overflow_mul-result c =
    let h = c.requires in
    rw (code-product _ _ _ h) (fits _ (omega (arith, product-size _ _ _ h)))

pub nonzero_div-result : goal.nonzero_div-result
nonzero_div-result c =
    let h = c.requires in
    (rw (code-run _ _ _ h, run_is _ _ _ h.2) (omega arith), rw (code-quot _ _ _ h) (fits _ (omega (arith, quot-size _ _ _ h))))

pub overflow_add-result : goal.overflow_add-result
overflow_add-result c =
    let h = c.requires in
    rw (code-interpolated _ _ _ h) (fits _ (omega (arith, interpolated-size _ _ _ h)))

pub overflow_cast-result : goal.overflow_cast-result
overflow_cast-result c =
    let h = c.requires in
    rw (code-interpolated _ _ _ h) (to-u64 _ (interpolated-is _ _ _ h.2) (omega (arith, interpolated-size _ _ _ h)))

pub returns : goal.returns
returns c =
    let h = c.requires in
    rw (code-interpolated _ _ _ h, interpolated-read _ _ _ h)
