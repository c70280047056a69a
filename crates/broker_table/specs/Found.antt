-- How a row that a request speaks of is named in the code: by its slot.
use Rattle.std.specs.Prelude.{ℕ, ◌<◌, List, length, Result, Ok, Err, IsUtf8}
use Rattle.broker_rule.specs.{declared.row.BrokerRow.BrokerRow, declared.call.ApiCall.ApiCall, declared.refusal.Refusal.Refusal, Subject.Subject}
use Rattle.broker_rule.specs.declared.call.ApiCall.TheVariants.{RenewSelf, RenewLease, LookupSelf, LookupLease}
use Rattle.broker_table.specs.{declared.slot.Slot.Slot, declared.subject.Found.Found, declared.grant.RenewedRow.RenewedRow, Slots.slot_at}

abbrev pub subject_at : List Slot → Result Found Refusal → Result Subject Refusal
subject_at slots (Ok f) = Ok (record { row = (slot_at slots f.place).row; increment = f.increment })
subject_at slots (Err refusal) = Err refusal

abbrev pub row_granted : List Slot → Result RenewedRow Refusal → Result BrokerRow Refusal
row_granted slots (Ok g) = Ok (record (slot_at slots g.place).row { end = g.end })
row_granted slots (Err refusal) = Err refusal

abbrev pub IsFoundWithin : List Slot → Result Found Refusal → Type 0
IsFoundWithin slots (Ok f) = f.place < length slots
IsFoundWithin slots (Err refusal) = Unit {0}

abbrev pub IsGrantWithin : List Slot → Result RenewedRow Refusal → Type 0
IsGrantWithin slots (Ok g) = g.place < length slots
IsGrantWithin slots (Err refusal) = Unit {0}

-- what a reply to the call names of a row is a text
abbrev pub NamesText : ApiCall → List ℕ → Type 0
NamesText RenewSelf credential = Unit {0}
NamesText RenewLease credential = IsUtf8 credential
NamesText LookupSelf credential = Unit {0}
NamesText LookupLease credential = IsUtf8 credential

abbrev pub SubjectNamesText : ApiCall → Result Subject Refusal → Type 0
SubjectNamesText call (Ok s) = NamesText call s.row.credential
SubjectNamesText call (Err refusal) = Unit {0}

abbrev pub GrantNamesText : ApiCall → Result BrokerRow Refusal → Type 0
GrantNamesText call (Ok row) = NamesText call row.credential
GrantNamesText call (Err refusal) = Unit {0}
