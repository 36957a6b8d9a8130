-- `statement::fill_page` meets its contract: 13, or the page.
use mathlib.Core.Path.{◌≡◌, ◌∙◌}
use native.Mathlib.Omega.{arith}
use lib.ListN.{length}
use Rattle.ground.proofs.Verdicts.{passed-on}
use Rattle.book.proofs.Accepted.{Sound, sound, trade-count-most}
use Rattle.text.proofs.Fitting.{space-judged, text-too-long, text-fits, text_in-front}
use Rattle.statement.specs.Entry.{page_of, page_verdict}
use Rattle.statement.proofs.Limits.{length-page_of}
use Rattle.statement.proofs.fill_page.Goals as goal
use Rattle.statement.proofs.fill_page.Goals.{After-refuse_if, Start}

here : (s : Start) → Sound s.args.book.now s.requires.used
here s = sound s.args.book.now s.requires.used s.requires.accepted

pub trade_count-requires : goal.trade_count-requires
trade_count-requires c =
    let b = here (goal.at.trade_count-requires c).Start in
    omega (arith, b.blocks, b.lent)

pub curve_count-requires : goal.curve_count-requires
curve_count-requires c =
    let b = here (goal.at.curve_count-requires c).Start in
    omega (arith, b.blocks, b.lent)

pub page_length-needed-requires : goal.page_length-needed-requires
page_length-needed-requires c =
    let b = here (goal.at.page_length-needed-requires c).Start in
    (omega (arith, c.trade_count.ensures, trade-count-most _ _ b), omega (arith, c.curve_count.ensures.value, b.most))

-- the length is that of the page
module _ (c : After-refuse_if) where
  needed : c.page_length-needed.result ≡ length (page_of c.args.book.now)
  needed =
      let e = length-page_of c.args.book.now _ (sound c.args.book.now c.requires.used c.requires.accepted) in
      rw (e, ← c.margin_of_book-m.ensures, ← c.trade_count.ensures, ← c.curve_count.ensures.value) c.page_length-needed.ensures

  judged : page_verdict c.args.book.now (length c.args.out.now) ≡ c.refuse_if.result
  judged = space-judged (page_of c.args.book.now) c.args.out.now c.refuse_if.ensures c.breaks_space.ensures needed

pub returns-in_err-refuse_if : goal.returns-in_err-refuse_if
returns-in_err-refuse_if c =
    let e = judged (goal.at.returns-in_err-refuse_if c).After-refuse_if ∙ c.in_err-refuse_if.was in
    let p = text-too-long (page_of c.args.book.now) c.args.out.now e (passed-on c.from_residual.result c.from_residual.ensures.1) in
    record { value = p.answer; out_after = p.bytes }

pub write_page-requires : goal.write_page-requires
write_page-requires c =
    let e = judged (goal.at.write_page-requires c).After-refuse_if ∙ c.in_ok-refuse_if.was in
    record { starts_with_book = (c.requires, c.margin_of_book-m.ensures); room = text-fits (page_of c.args.book.now) c.args.out.now e }

pub returns : goal.returns
returns c =
    let e = judged (goal.at.returns c).After-refuse_if ∙ c.in_ok-refuse_if.was in
    let p = text_in-front (page_of c.args.book.now) c.args.out.now e c.write_page.ensures.value c.write_page.ensures.out_after in
    record { value = p.answer; out_after = p.bytes }
