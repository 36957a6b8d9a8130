-- `curve_edit::put_node` meets its contract: the node's fields, one behind the other.
use borrow.Author.Rules.{rules}
use mathlib.Core.Path.{◌∙◌}
use mir.Syntax.{w64}
use mir.Val.{SFits}
use Rattle.layout.proofs.Signed.{read_back}
use Rattle.curve_edit.proofs.Written.{node-put}
use Rattle.curve_edit.proofs.put_node.Goals as goal
use Rattle.curve_edit.proofs.put_node.Goals.{Start}

fits-first : (s : Start) → SFits w64 s.args.n.first
fits-first s = search rules

fits-second : (s : Start) → SFits w64 s.args.n.second
fits-second s = search rules

fits-third : (s : Start) → SFits w64 s.args.n.third
fits-third s = search rules

pub returns : goal.returns
returns c =
    node-put _ _ _ _ _ _ _ _ c.args.n
    c.put_le.ensures
    c.put_le-2.ensures
    c.put_le-3.ensures
    (c.put_signed.ensures ∙ read_back _ _ 4 c.args.n.first (fits-first (goal.at.returns c).Start))
    (c.put_signed-2.ensures ∙ read_back _ _ 4 c.args.n.second (fits-second (goal.at.returns c).Start))
    (c.put_signed-3.ensures ∙ read_back _ _ 4 c.args.n.third (fits-third (goal.at.returns c).Start))
