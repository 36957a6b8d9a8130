-- `preview::preview` meets its contract: where append takes the record the copy takes it too, and its report is the preview.
use mathlib.Core.Path.{◌≡◌, sym, ◌∙◌}
use mathlib.Core.List.{List}
use Prim.Native.Nat.{ℕ, ◌≤◌}
use native.Mathlib.Omega.{arith}
use borrow.Author.Rules.{rules}
use lib.ListN.{length, take, replicate, length-replicate}
use lib.Seq.{length-take-le}
use Rattle.std.specs.Prelude.{Ok}
use Rattle.layout.specs.Bytes.{put, AreBytes}
use Rattle.book.proofs.Accepted.{sound}
use Rattle.edit.specs.Refusals.{append_verdict}
use Rattle.edit.proofs.Given.{Admitted, record-taken, admitted}
use Rattle.preview.proofs.Theorems.{preview-bounded}
use Rattle.preview.proofs.Copy.{copy-fits, copy-admits-record, copy-accepted-with-record, copy-shown}
use Rattle.preview.proofs.preview.Goals as goal
use Rattle.preview.proofs.preview.Goals.{After-copy_in, In_ok-append_verdict, Start}

abbrev zeros : List ℕ
zeros = replicate 65536 0

zeros-room : length zeros ≡ 65536
zeros-room = length-replicate {A = ℕ} 65536 0

record-long : (c : Start) → length c.args.r ≡ 56
record-long c = search rules

-- taken by append
module _ (c : In_ok-append_verdict) where
  bytes : AreBytes c.args.book.now
  bytes k = search rules

  ok : append_verdict c.args.book.now c.args.used c.args.day c.args.r ≡ Ok tt
  ok = sym c.append_verdict.ensures ∙ c.in_ok-append_verdict.was

  given : Admitted c.args.book.now c.args.used c.args.r
  given = admitted c.args.book.now c.args.used c.args.r c.args.day ok

  within : c.args.used ≤ length c.args.book.now
  within = (sound c.args.book.now c.args.used given.accepted).lent

pub slice_bounds-copy_in-end-2 : goal.slice_bounds-copy_in-end-2
slice_bounds-copy_in-end-2 c = sym (length-take-le c.args.used c.args.book.now (within (goal.at.slice_bounds-copy_in-end-2 c).In_ok-append_verdict))

pub copy_in-requires : goal.copy_in-requires
copy_in-requires c =
    let a = c.args in
    copy-fits zeros zeros-room a.book.now a.used a.r (given (goal.at.copy_in-requires c).In_ok-append_verdict) a.used (omega arith)

-- from the copy on
module _ (c : After-copy_in) where
  is-copy : c.copy_in.new.dst ≡ put zeros 0 (take c.args.used c.args.book.now)
  is-copy = c.copy_in.ensures

pub add-requires : goal.add-requires
add-requires c =
    let s = (goal.at.add-requires c).In_ok-append_verdict in
    let w = copy-admits-record zeros zeros-room c.args.book.now c.args.used c.args.r (given s) c.copy_in.new.dst (is-copy (goal.at.add-requires c).After-copy_in) (bytes s) in
    (w.accepted, record-taken _ _ _ w)

pub fill_report-requires : goal.fill_report-requires
fill_report-requires c =
    let a = c.args in
    let s = (goal.at.fill_report-requires c).In_ok-append_verdict in
    record {
      used = _;
      accepted = copy-accepted-with-record zeros zeros-room a.book.now a.used a.r (given s) _ (is-copy (goal.at.fill_report-requires c).After-copy_in) (bytes s) (record-long (goal.at.fill_report-requires c).Start) _ _
          c.add.ensures.value c.add.ensures.book_after;
    }

pub returns : goal.returns
returns c =
    let a = c.args in
    let s = (goal.at.returns c).In_ok-append_verdict in
    let p = copy-shown zeros zeros-room a.book.now a.used a.r (given s) _ (is-copy (goal.at.returns c).After-copy_in) (bytes s) (record-long (goal.at.returns c).Start) _ _
    c.add.ensures.value c.add.ensures.book_after a.day (ok s) a.out.now c.fill_report.ensures.value c.fill_report.ensures.out_after in
    record { value = p.0; out_after = p.1; bounded = preview-bounded a.book.now a.used a.day a.r a.out.now p.0 p.1 }
