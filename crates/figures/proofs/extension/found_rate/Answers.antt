-- `figures::extension::found_rate` meets its contract, by that of the bootstrap.
use mathlib.Core.Path.{◌≡◌, sym, ap, ◌∙◌}
use mathlib.Core.List.{List}
use Prim.Native.Nat.{ℕ}
use lib.ListN.{replicate}
use Rattle.layout.specs.Bytes.{put}
use Rattle.layout.specs.Field.{u32_at}
use Rattle.bootstrap.specs.Refusals.{bootstrap_verdict}
use Rattle.bootstrap.specs.Bootstrap.{bootstrapped}
use Rattle.figures.specs.Extension.{known_curve, known_book, bond_quote, rate_found}
use Rattle.figures.proofs.extension.found_rate.Goals as goal
use Rattle.figures.proofs.extension.found_rate.Goals.{After-bootstrap}

-- the book and the quote, in the contract's terms
module _ (c : After-bootstrap) where
  is-book : c.copy_in-2.new.dst ≡ known_book
  unfolding known_book
  is-book =
      c.copy_in-2.ensures
      ∙ ap (λ (b : List ℕ). put c.copy_in.new.dst 512 b) c.known_curve.ensures
      ∙ ap (λ (b : List ℕ). put b 512 known_curve) (c.copy_in.ensures ∙ ap (put (replicate 1024 0) 0) c.header.ensures)

  judged : c.bootstrap.result ≡ bootstrap_verdict known_book 1024 0 bond_quote
  unfolding bond_quote
  judged = c.bootstrap.ensures.value ∙ rw (is-book, c.coupon_bond.ensures)

  written : c.bootstrap.new.book ≡ bootstrapped known_book 1024 0 bond_quote
  unfolding bond_quote
  written = c.bootstrap.ensures.book_after ∙ rw (is-book, c.coupon_bond.ensures)

pub returns-in-Err : goal.returns-in-Err
unfolding rate_found
returns-in-Err c = rw (sym (judged (goal.at.returns-in-Err c).After-bootstrap) ∙ c.in-Err.is)

pub returns-in-Ok : goal.returns-in-Ok
unfolding rate_found
returns-in-Ok c =
    let e = sym (judged (goal.at.returns-in-Ok c).After-bootstrap) ∙ c.in-Ok.is in
    c.u32_at.ensures.value ∙ ap (λ (b : List ℕ). u32_at b 576) (written (goal.at.returns-in-Ok c).After-bootstrap) ∙ rw e
