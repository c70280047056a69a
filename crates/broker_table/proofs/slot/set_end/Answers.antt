-- With another end in a row, the rows, the soonest end and the credentials are what they should be.
use Rattle.std.proofs.Common.{◌∙◌, ap, min, subst, sym}
use Rattle.broker_table.specs.{Slots.AreKept, Slots.listed_rows, Index.credentials_of}
use Rattle.broker_table.proofs.{Indexed.ended_credentials, Keeping.ended_kept, Replaced.ended_rows}
use Rattle.broker_table.proofs.slot.set_end.Goals as goal

pub returns-clause-rows : goal.returns-clause-rows
returns-clause-rows c = ap listed_rows c.write_end.ensures ∙ ended_rows c.args.slots.now c.requires.kept.sound c.args.place c.args.end c.requires.within

pub returns-clause-kept : goal.returns-clause-kept
returns-clause-kept c =
    subst (λ n. AreKept n c.write_end.new.slots) (sym c.min.ensures)
    (subst (AreKept (min c.args.soonest.now c.args.end)) (sym c.write_end.ensures) (ended_kept c.args.soonest.now c.args.slots.now c.requires.kept c.args.place c.args.end c.requires.within))

pub returns-clause-credentials : goal.returns-clause-credentials
returns-clause-credentials c = ap credentials_of c.write_end.ensures ∙ ended_credentials c.args.slots.now c.args.place c.args.end
