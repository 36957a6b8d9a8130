-- What a bootstrap adds, and every lent byte afterwards (document 02, wish 1).
use Rattle.std.specs.Prelude.{ℕ, ◌*◌, ◌≤◌, ◌<◌, ◌≡◌, List, [], ◌∷◌, ◌++◌, Some, Result, Ok}
use Rattle.ground.specs.declared.Refusal.{Refusal}
use Rattle.ground.specs.Verdicts.{Verdict, or_else, bytes_after}
use Rattle.layout.specs.Bytes.{on_block}
use Rattle.curve.specs.declared.Node.{Node}
use Rattle.curve.specs.declared.Curve.{Curve}
use Rattle.curve.specs.Limits.{highest_rate}
use Rattle.curve.specs.Lengthen.{at_rate}
use Rattle.curve.specs.Rates.{nodes_of}
use Rattle.curve_block.specs.Parts.{currency_of, components_of}
use Rattle.curve_edit.specs.Lengthen.{with_node}
use Rattle.book.specs.Parts.{Parts, block_at, parts_of}
use Rattle.book.specs.Edited.{with_curve}
use Rattle.acceptance.specs.Verdict.{book_verdict}
use Rattle.bond.specs.Value.{bond_value_at, rate_for}
use Rattle.bootstrap.specs.declared.Quote.{Quote}
use Rattle.bootstrap.specs.Bought.{bond_flows}
use Rattle.bootstrap.specs.Refusals.{open_node, curve_at, bootstrap_verdict}

-- "add a node on the bond's last payment day. Its rate is the smallest at which .."
unfoldable pub new_node : Curve → Quote → Node
new_node c q = at_rate (open_node q) (rate_for (nodes_of c) (open_node q) (bond_flows q) q.cash)

-- what is decided before anything is written: the node to add, or the refusal
abbrev pub decision_of : Verdict → Node → Result Node Refusal
decision_of v n = or_else v (Ok n)

-- nothing but the curve's block is written, and nothing at all where it is refused
unfoldable pub bootstrapped : List ℕ → ℕ → ℕ → Quote → List ℕ
bootstrapped s used day q =
    bytes_after (bootstrap_verdict s used day q) s (on_block (with_node (new_node (curve_at s q.curve) q)) s (q.curve * 512))

-- ---- what holds where it is not refused (proofs/Added.antt, proofs/Theorems.antt)

-- the bond's value on the lengthened curve, by the rate of the new node
abbrev pub value_with : Curve → Quote → ℕ → ℕ
value_with c q = bond_value_at (nodes_of c) (open_node q) (bond_flows q)

-- "the smallest at which the bond's summed present value on the lengthened curve is at most the cash"
pub record SmallestRate (c : Curve) (q : Quote) : Type 0 where
  pub limit : (new_node c q).rate ≤ highest_rate
  pub enough : value_with c q (new_node c q).rate ≤ q.cash
  pub above : (rate : ℕ) → rate < (new_node c q).rate → q.cash < value_with c q rate

-- the parts of the book, its curve's block with the node
abbrev pub extended_parts : List ℕ → Quote → Parts
extended_parts s q = with_curve (parts_of s) q.curve (with_node (new_node (curve_at s q.curve) q) (block_at s q.curve))

-- t is the book s with the node and no other change
pub record Extended (s t : List ℕ) (used day : ℕ) (q : Quote) : Type 0 where
  pub accepted : book_verdict t used (Some day) ≡ Ok tt
  pub parts : parts_of t ≡ extended_parts s q
  pub others : (k : ℕ) → k * 512 < used → (k ≡ q.curve → ⊥) → block_at t k ≡ block_at s k
  pub currency : currency_of (block_at t q.curve) ≡ currency_of (block_at s q.curve)
  pub components : components_of (block_at t q.curve) ≡ components_of (block_at s q.curve)
  pub nodes : nodes_of (curve_at t q.curve) ≡ nodes_of (curve_at s q.curve) ++ new_node (curve_at s q.curve) q ∷ []
