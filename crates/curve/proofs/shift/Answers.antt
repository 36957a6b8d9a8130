-- `curve::shift` meets its contract: proofs/Shifting.antt names what each operation gives, and its size.
use native.Mathlib.Omega.{arith}
use Rattle.laws.proofs.Signed.{fits, read_is}
use Rattle.curve.proofs.Shifting.{third-size, two_size, three-size, shifted-size, code-third, code-two, code-three, code-shifted}
use Rattle.curve.proofs.shift.Goals as goal

pub overflow_add-sum : goal.overflow_add-sum
overflow_add-sum c =
    let h = c.requires in
    rw (code-two _ _ h) (fits _ (omega (arith, two_size _ _ h)))

pub overflow_mul-sum-3 : goal.overflow_mul-sum-3
overflow_mul-sum-3 c =
    let h = c.requires in
    rw (code-third _ _ h) (fits _ (omega (arith, third-size _ _ h)))

pub overflow_add-sum-2 : goal.overflow_add-sum-2
overflow_add-sum-2 c =
    let h = c.requires in
    rw (code-three _ _ h) (fits _ (omega (arith, three-size _ _ h)))

pub overflow_add-result : goal.overflow_add-result
overflow_add-result c =
    let h = c.requires in
    rw (code-shifted _ _ h) (fits _ (omega (arith, shifted-size _ _ h)))

pub returns : goal.returns
returns c =
    let h = c.requires in
    rw (code-shifted _ _ h) (read_is _ (omega (arith, shifted-size _ _ h)))
