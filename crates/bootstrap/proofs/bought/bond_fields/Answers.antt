-- `bootstrap::bought::bond_fields` meets its contract.
use mathlib.Core.Path.{◌≡◌, ◌∙◌, ap}
use native.Mathlib.Omega.{arith}
use borrow.Author.Rules.{rules}
use lib.ListN.{length, replicate}
use Rattle.layout.proofs.Bytes.{put-lent}
use Rattle.record.specs.Bytes.{fields_of}
use Rattle.bootstrap.specs.Bought.{bond_record, bought, bond_fields}
use Rattle.bootstrap.proofs.bought.bond_fields.Goals as goal

pub returns : goal.returns
unfolding bond_fields bond_record
returns c =
    let q = c.args.q in
    let long : length q.bond ≡ 20 = search rules in
    let e : c.fields_of-f.result ≡ fields_of (bond_record q.bond) = c.fields_of-f.ensures ∙ ap fields_of (rw c.copy_from_slice.ensures.after (put-lent (replicate 56 0) 12 20 q.bond (omega arith) long)) in
    ap (bought q.curve) e
