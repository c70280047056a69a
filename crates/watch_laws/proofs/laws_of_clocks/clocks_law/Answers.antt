-- clocks_law: the laws as they are proved in Dating.
use Rattle.watch_laws.proofs.Dating.{readings_shown, dates_shown, undated_shown, clocks_stay}
use Rattle.watch_laws.proofs.laws_of_clocks.clocks_law.Goals as goal

pub returns-clause-readings : goal.returns-clause-readings
returns-clause-readings c = readings_shown

pub returns-clause-dates : goal.returns-clause-dates
returns-clause-dates c = dates_shown

pub returns-clause-undated : goal.returns-clause-undated
returns-clause-undated c = undated_shown

pub returns-clause-stays : goal.returns-clause-stays
returns-clause-stays c = clocks_stay
