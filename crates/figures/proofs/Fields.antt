-- Numbers written into bytes, one behind the other.
use mathlib.Core.Path.{◌≡◌, ap, ◌∙◌}
use mathlib.Core.List.{List}
use Prim.Native.Nat.{ℕ}
use Rattle.figures.specs.Extension.{field}

pub next_field : {b c d : List ℕ} (at width number : ℕ) → d ≡ field c at width number → c ≡ b → d ≡ field b at width number
next_field at width number e f = e ∙ ap (λ (bytes : List ℕ). field bytes at width number) f
