-- `figures::worked::worked` meets its contract, case by case.
use mathlib.Core.Path.{◌∙◌}
use Rattle.figures.specs.Worked.{worked_of}
use Rattle.figures.proofs.worked.worked.Goals as goal

pub returns-in-Price : goal.returns-in-Price
unfolding worked_of
returns-in-Price c = rw c.in-Price.is c.settlement.ensures

pub returns-in-Cash : goal.returns-in-Cash
unfolding worked_of
returns-in-Cash c = rw c.in-Cash.is c.settlement-in-Cash.ensures

pub returns-in-Indexed : goal.returns-in-Indexed
unfolding worked_of
returns-in-Indexed c = rw c.in-Indexed.is c.indexed.ensures

pub returns-in-Present : goal.returns-in-Present
unfolding worked_of
returns-in-Present c = rw c.in-Present.is c.present.ensures

pub returns-in-Variation : goal.returns-in-Variation
unfolding worked_of
returns-in-Variation c =
    rw c.in-Variation.is (c.difference.ensures ∙ rw (c.present-in-Variation.ensures, c.present-in-Variation-2.ensures))

pub returns-in-Interest : goal.returns-in-Interest
unfolding worked_of
returns-in-Interest c = rw c.in-Interest.is c.interest.ensures.0

pub returns-in-Withholding : goal.returns-in-Withholding
unfolding worked_of
returns-in-Withholding c = rw c.in-Withholding.is c.withholding.ensures

pub returns-in-SecondLeg : goal.returns-in-SecondLeg
unfolding worked_of
returns-in-SecondLeg c = rw c.in-SecondLeg.is c.second_leg.ensures
