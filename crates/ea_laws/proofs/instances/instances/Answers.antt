use Rattle.ea_laws.proofs.Blocks.{dismissing-same, creating-same, creating_single-IsPlaced}
use Rattle.ea_laws.proofs.Blocks.{placing-IsPlaced, releasing-gone, releasing-others}
use Rattle.ea_laws.proofs.Keeping.{chosen-planned}
use Rattle.ea_laws.proofs.Planning.{plans-falling, plans-number, plans-powers, plans-size}
use Rattle.ea_laws.proofs.Planning.{plans-space}
use Rattle.ea_laws.proofs.Reallocating.{resizing-Stands, resizing-begins, resizing-others}
use Rattle.ea_laws.proofs.Refusals.{plan-numbers, plan-space}
use Rattle.ea_laws.proofs.RegionUnits.{employed-within}
use Rattle.ea_laws.proofs.Standing.{Stands-IsInOrder, chosen-Stands, chosen_spot-HasGap}
use Rattle.ea_laws.proofs.Standing.{dismissing-Stands, disowning-Stands}
use Rattle.ea_laws.proofs.Standing.{creating-Stands, creating_single-Stands}
use Rattle.ea_laws.proofs.Standing.{new-Stands, releasing-Stands}
use Rattle.ea_laws.proofs.instances.instances.Goals as goal

pub returns-clause-begins : goal.returns-clause-begins
returns-clause-begins c = λ s number first pages may.
    new-Stands s number first pages may.valid may.instance may.within may.main

pub returns-clause-order : goal.returns-clause-order
returns-clause-order c = Stands-IsInOrder

pub returns-clause-region : goal.returns-clause-region
returns-clause-region c = employed-within

pub returns-clause-places : goal.returns-clause-places
returns-clause-places c = λ i need name spot st least even chosen. (
  chosen-Stands i need name spot st least even chosen,
  placing-IsPlaced i spot need name st (chosen_spot-HasGap i need spot st chosen) least,
)

pub returns-clause-releases : goal.returns-clause-releases
returns-clause-releases c = λ i spot st.
    (releasing-Stands i spot st, releasing-gone i spot, releasing-others i spot)

pub returns-clause-dismisses : goal.returns-clause-dismisses
returns-clause-dismisses c = λ i number x st there vacant.
    (dismissing-Stands i number st, dismissing-same i number x st there vacant)

pub returns-clause-disowns : goal.returns-clause-disowns
returns-clause-disowns c = disowning-Stands

pub returns-clause-creates : goal.returns-clause-creates
returns-clause-creates c = λ i need p st asked. (
  creating-Stands i need p st asked,
  creating-same i need p st asked,
  chosen-planned i need p asked,
)

pub returns-clause-creates_single : goal.returns-clause-creates_single
returns-clause-creates_single c = λ i need name p st least even asked. (
  creating_single-Stands i need p st asked name least even,
  creating_single-IsPlaced i need name p st asked,
)

pub returns-clause-resizes : goal.returns-clause-resizes
returns-clause-resizes c = λ i spot need name st least even some stays. (
  resizing-Stands i spot need name st least even some,
  resizing-begins i spot need name some stays,
  resizing-others i spot need name some,
)

pub returns-clause-numbers : goal.returns-clause-numbers
returns-clause-numbers c = plan-numbers

pub returns-clause-space : goal.returns-clause-space
returns-clause-space c = plan-space

pub returns-clause-plans_number : goal.returns-clause-plans_number
returns-clause-plans_number c = plans-number

pub returns-clause-plans_size : goal.returns-clause-plans_size
returns-clause-plans_size c = plans-size

pub returns-clause-plans_space : goal.returns-clause-plans_space
returns-clause-plans_space c = plans-space

pub returns-clause-plans_powers : goal.returns-clause-plans_powers
returns-clause-plans_powers c = plans-powers

pub returns-clause-plans_falling : goal.returns-clause-plans_falling
returns-clause-plans_falling c = plans-falling
