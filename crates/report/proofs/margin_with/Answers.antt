-- `report::margin_with` meets its contract. The invariant: the first k places hold the figures of the first k curves.
use mathlib.Core.Path.{◌≡◌, refl, ap, ◌∙◌}
use mathlib.Core.List.{map}
use Prim.Native.Nat.{ℕ, ◌<◌}
use native.Mathlib.Omega.{arith}
use borrow.Author.Rules.{rules}
use lib.ListN.{take}
use Rattle.book.specs.Parts.{curve_count}
use Rattle.book.proofs.Accepted.{Sound, sound}
use Rattle.margin.specs.Margins.{curve_margin, margin_of, PlacesLimits}
use Rattle.margin.proofs.Accounts.{margin-of}
use Rattle.exposure.specs.Exposures.{exposures}
use Rattle.report.specs.Entry.{margin_in}
use Rattle.report.proofs.Placed.{CurvesPlaced, placed-as, placed-next, placed-all, placed-limits}
use Rattle.report.proofs.margin_with.Goals as goal
use Rattle.report.proofs.margin_with.Goals.{After-curve_count-count, After-loop-k, In-loop-k, Start}

-- at the entry: the book is sound
here : (s : Start) → Sound s.args.book.now s.requires.0.used
here s = sound s.args.book.now s.requires.0.used s.requires.0.accepted

pub curve_count-count-requires : goal.curve_count-count-requires
curve_count-count-requires c = let b = here (goal.at.curve_count-count-requires c).Start in omega (arith, b.blocks, b.lent)

pub loop-k-init : goal.loop-k-init
loop-k-init c = (refl, record { places = refl; each = λ i l. absurd (omega arith) })

pub curve_figures-requires : goal.curve_figures-requires
curve_figures-requires c =
    let p = c.requires in
    (p.0, omega arith, omega (arith, c.curve_count-count.ensures.value), omega (arith, c.loop-k.invariant.0, p.1))

-- in the loop: a place is free
below : (c : In-loop-k) → c.loop-k.k < 8
below c =
    let b = sound c.args.book.now c.requires.0.used c.requires.0.accepted in
    omega (arith, c.curve_count-count.ensures.value, b.most)

pub loop-k-preserved : goal.loop-k-preserved
loop-k-preserved c =
    (search rules, placed-next _ _ _ c.loop-k.invariant.1 c.curve_figures.result (below (goal.at.loop-k-preserved c).In-loop-k) c.curve_figures.ensures)

-- behind the loop: every curve has its place
module _ (c : After-loop-k) where
  count-is : c.curve_count-count.result ≡ curve_count c.args.book.now
  count-is = c.curve_count-count.ensures.value

  all : take c.curve_count-count.result c.loop-k.curves ≡ map curve_margin (exposures c.args.book.now)
  all =
      let e : c.loop-k.k ≡ c.curve_count-count.result = omega arith in
      let placed : CurvesPlaced c.args.book.now c.loop-k.curves c.curve_count-count.result = placed-as _ _ e c.loop-k.invariant.1 in
      placed-all _ _ _ placed count-is (omega (arith, count-is, (sound c.args.book.now c.requires.0.used c.requires.0.accepted).most))

  limits : PlacesLimits c.loop-k.curves c.curve_count-count.result
  limits = placed-limits c.args.book.now _ (sound c.args.book.now c.requires.0.used c.requires.0.accepted) _ _ count-is all

pub account-requires : goal.account-requires
account-requires c = let b = here (goal.at.account-requires c).Start in omega (arith, b.blocks, b.lent)

pub margin_of-requires : goal.margin_of-requires
margin_of-requires c = limits (goal.at.margin_of-requires c).After-loop-k

pub returns : goal.returns
unfolding margin_in
returns c =
    c.margin_of.ensures
    ∙ margin-of c.loop-k.curves c.curve_count-count.result (exposures c.args.book.now) (all (goal.at.returns c).After-loop-k) c.account.result
    ∙ ap (λ (a : ℕ). margin_of a (exposures c.args.book.now)) c.account.ensures.value

pub offset_bounds-curves-k : goal.offset_bounds-curves-k
offset_bounds-curves-k c = omega (arith, below (goal.at.offset_bounds-curves-k c).In-loop-k)

pub bounds-curves-k : goal.bounds-curves-k
bounds-curves-k c = below (goal.at.bounds-curves-k c).In-loop-k
