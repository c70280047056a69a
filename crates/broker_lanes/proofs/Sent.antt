-- What is sent in memory, and what is left where memory was wanting: for `MemoryLanes`.
use Rattle.std.proofs.Common.{◌≡◌, ℕ, List, Option, Some, Result, Ok, Err, OnErr, refl, ap, subst, ◌∙◌}
use Rattle.vault_lanes.specs.{Out.Out, Out.OutIsPut, declared.allowance.Allowance.Allowance, declared.coming.Coming.Coming, declared.fault.LaneFault.LaneFault, declared.fault.NumberedLaneFault.NumberedLaneFault, declared.lanes.Ask.Ask}
use Rattle.vault_lanes.specs.Serving.{BehindLanes, BrokerIsLeft, ComesOfRequest, IsTableLeft, RequestIsSent, allowed, lane_fault_at, next_lane_number}
use Rattle.broker_rule.specs.Table.{BrokerTable}
use Rattle.vault_http.specs.declared.request.Request.{Request}

pub sent_with : (seconds t now : ℕ) (ask : Ask) (old : BehindLanes) (olds news : List Out) (coming : Coming) (table : BrokerTable) (number : ℕ) (fault : Option LaneFault) (faults : List NumberedLaneFault) (a : Allowance)
    → OutIsPut (record { index = ask.index; comes = Some coming }) olds news → ComesOfRequest fault a old.table t ask.request coming table → number ≡ next_lane_number old.count
    → fault ≡ lane_fault_at faults number → faults ≡ old.faults → a ≡ allowed seconds now ask
    → RequestIsSent seconds t now ask (Some old) olds (Some (record { table = table; faults = old.faults; count = number })) news
sent_with seconds t now ask old olds news coming table number fault faults a put comes counted found all given =
    let the_fault : fault ≡ lane_fault_at old.faults (next_lane_number old.count) = found ∙ ap (λ fs. lane_fault_at fs number) all ∙ ap (λ n. lane_fault_at old.faults n) counted in
    let so = subst (λ it. ComesOfRequest (lane_fault_at old.faults (next_lane_number old.count)) it old.table t ask.request coming table) given
    (subst (λ it. ComesOfRequest it a old.table t ask.request coming table) the_fault comes) in
    let behind : ℕ → Option BehindLanes = λ n. Some (record { table = table; faults = old.faults; count = n }) in
    record { comes = Some coming; put = put; by = (coming, table, (refl, (so, ap behind counted))) }

pub left_in_memory : (t : ℕ) (r : Request) (old : BehindLanes) (table : BrokerTable) → IsTableLeft old.table t r table → BrokerIsLeft t r old (Some (record { table = table; faults = old.faults; count = old.count }))
left_in_memory t r old table h = (table, (h, refl))

pub on_err : {T E : Type 0} (P : Type 0) (r : Result T E) → P → OnErr r P
on_err P (Ok x) h = tt
on_err P (Err e) h = h
