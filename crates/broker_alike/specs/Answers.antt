-- Answers: what two brokers say of one entry, and that it is the same but for credentials.
-- Source: this project's own.
use Rattle.std.specs.Prelude.{◌≡◌, ℕ, ◌≤◌, List}
use Rattle.vault_inventory.specs.Inventories.{credential_at}
use Rattle.base_moment.specs.declared.moment.TheConstants.{LAST}
use Rattle.plan_forest.specs.{declared.entry.Kind.Kind, Forest.Forest}
use Rattle.plan_forest.specs.declared.entry.Kind.TheVariants.{Token, Lease}
use Rattle.broker_rule.specs.{declared.call.ApiCall.ApiCall, declared.row.BrokerRow.BrokerRow}
use Rattle.broker_rule.specs.declared.call.ApiCall.TheVariants.{LookupSelf, LookupLease}
use Rattle.broker_rule.specs.Step.{BrokerAnswer, BrokerOutcome, drops, refuses, tells}
use Rattle.broker_alike.specs.Alike.{AreRowsAlike, AreTablesAlike}

-- the call that looks an entry of that kind up
abbrev pub look_for : Kind → ApiCall
look_for Token = LookupSelf
look_for Lease = LookupLease

-- rows that are alike, with the credentials of the entry i
abbrev pub RowsOf : Forest → List (List ℕ) → List (List ℕ) → ℕ → BrokerRow → BrokerRow → Type 0
RowsOf g cs ds i r q = AreRowsAlike g cs ds r q × ((r.credential ≡ credential_at cs i) × (q.credential ≡ credential_at ds i))

-- answers to that call that say the same of the entry i: one refusal, or such rows, or both none
abbrev pub AnswersOf : Forest → List (List ℕ) → List (List ℕ) → ApiCall → ℕ → BrokerAnswer → BrokerAnswer → Type 0
AnswersOf g cs ds call i (refuses x) (refuses y) = y ≡ x
AnswersOf g cs ds call i (refuses x) (tells d q) = ⊥
AnswersOf g cs ds call i (refuses x) drops = ⊥
AnswersOf g cs ds call i (tells c r) (refuses y) = ⊥
AnswersOf g cs ds call i (tells c r) (tells d q) = (c ≡ call) × ((d ≡ call) × RowsOf g cs ds i r q)
AnswersOf g cs ds call i (tells c r) drops = ⊥
AnswersOf g cs ds call i drops (refuses y) = ⊥
AnswersOf g cs ds call i drops (tells d q) = ⊥
AnswersOf g cs ds call i drops drops = Unit {0}

-- such answers, and tables that are alike after them
abbrev pub OutcomesOf : Forest → List (List ℕ) → List (List ℕ) → ApiCall → ℕ → BrokerOutcome → BrokerOutcome → Type 0
OutcomesOf g cs ds call i x y = AnswersOf g cs ds call i x.answer y.answer × AreTablesAlike g cs ds x.table y.table

-- the row of which an answer speaks, if it does, was issued at a moment that a date can tell
abbrev pub Speaks : BrokerAnswer → Type 0
Speaks (refuses refusal) = Unit {0}
Speaks (tells call row) = row.issued ≤ LAST
Speaks drops = Unit {0}
