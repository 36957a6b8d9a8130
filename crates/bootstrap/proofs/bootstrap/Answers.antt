-- `bootstrap::bootstrap` meets its contract.
use mathlib.Core.Path.{◌≡◌, refl, sym, ◌∙◌}
use Prim.Native.Nat.{◌*◌, ◌+◌, ◌≤◌}
use native.Mathlib.Nat.{add-sub_cancel_left}
use lib.ListN.{length}
use Rattle.std.specs.Prelude.{Ok, Err}
use Rattle.layout.proofs.Bytes.{length_part}
use Rattle.ground.specs.Verdicts.{Verdict, or_else}
use Rattle.curve.specs.declared.Node.{Node}
use Rattle.bootstrap.specs.Refusals.{curve_at, bootstrap_verdict}
use Rattle.bootstrap.specs.Bootstrap.{new_node, bootstrapped}
use Rattle.bootstrap.proofs.Added.{node-left, curve_lent, node-room}
use Rattle.bootstrap.proofs.bootstrap.Goals as goal
use Rattle.bootstrap.proofs.bootstrap.Goals.{In_ok-n}

-- what a node says of the verdict before it
verdict-accepted : (v : Verdict) (m n : Node) → or_else v (Ok m) ≡ Ok n → (v ≡ Ok tt) × (m ≡ n)
verdict-accepted (Ok tt) m n h = (refl, cc)
verdict-accepted (Err r) m n h = cc

-- where a node is added nothing refuses
module _ (c : In_ok-n) where
  abbrev judged : Verdict
  judged = bootstrap_verdict c.args.book.now c.args.used c.args.day c.args.q

  abbrev new : Node
  new = new_node (curve_at c.args.book.now c.args.q.curve) c.args.q

  told : (judged ≡ Ok tt) × (new ≡ c.in_ok-n.n)
  told = verdict-accepted judged new c.in_ok-n.n (sym c.decided.ensures ∙ c.in_ok-n.was)

  fits : c.args.q.curve * 512 + 512 ≤ length c.args.book.now
  fits = curve_lent c.args.book.now c.args.used c.args.day c.args.q told.0

pub add_node-requires : goal.add_node-requires
add_node-requires c =
    let s = (goal.at.add_node-requires c).In_ok-n in
    rw add-sub_cancel_left (length_part _ (c.args.q.curve * 512) 512 (fits s), node-room _ c.args.used c.args.day c.args.q (told s).0)

pub returns-clause-book_after : goal.returns-clause-book_after
unfolding bootstrapped
returns-clause-book_after c =
    let s = (goal.at.returns-clause-book_after c).In_ok-n in
    let left = rw add-sub_cancel_left at c.add_node.ensures in
    rw ((told s).0, add-sub_cancel_left) (node-left c.args.book.now c.args.q.curve (fits s) (sym (told s).1) left)
