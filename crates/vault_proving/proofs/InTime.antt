-- InTime: what comes of a lookup in memory is there once the time-out has passed. For the law that a lookup ends in time.
use Rattle.std.proofs.Common.{◌≡◌, ◌∙◌, ℕ, ◌*◌, ◌^◌, ◌<◌, ◌≤◌, Bool, true, false, cond, nat_lt, [], ◌∷◌, Option, Some, None, Err, IfSome, ap, arith, refl, subst, sym}
use Rattle.std.proofs.lemmas.Bool.{leb-false, ltb-true}
use Rattle.broker_rule.specs.Table.{BrokerTable}
use Rattle.vault_lanes.specs.{Allowed.first_by, Allowed.millis_after, Losses.Answer, declared.allowance.Allowance.Allowance, declared.coming.Coming.Coming, declared.fault.LaneFault.LaneFault, declared.lanes.Ask.Ask}
use Rattle.vault_lanes.specs.Out.{Out, is_there, is_there_at}
use Rattle.vault_lanes.specs.Serving.{BehindLanes, ComesOfRequest, IsSentBy, allowed, lane_fault_at, next_lane_number}
use Rattle.vault_lanes.specs.declared.fault.LaneFault.TheVariants.{Refuse, Lose, Hang, Late, Garble, Status}
use Rattle.vault_lanes.specs.declared.loss.Loss.TheVariants as losses
use Rattle.vault_http.specs.declared.request.Request.{Request}
use Rattle.vault_proving.specs.{Laws.VerdictTimeLaw, Lookups.candidate_ask, declared.candidate.TheConstants.LOOKUP_NUMBER}
use Rattle.vault_proving.proofs.Alone.{put_one, the_same}

at_asked : (a : Allowance) (at : ℕ) → a.asked < 2 ^ 64 → at ≡ a.asked → at ≤ first_by a
at_asked a at bound is = omega (arith, bound, is)

abbrev coming_at : Answer → ℕ → Coming
coming_at answer at = record { answer = answer; at = at }

later_in : (in_time : Bool) (first at : ℕ) (answer : Answer) → (in_time ≡ true → at ≤ first) → (cond in_time (coming_at answer at) (coming_at (Err losses.Timeout) first)).at ≤ first
later_in true first at answer h = h refl
later_in false first at answer h = omega arith

-- whatever goes wrong with it, what comes of a request is there when its patience is over
comes_by : (fault : Option LaneFault) (a : Allowance) (old : BrokerTable) (t : ℕ) (r : Request) (c : Coming) (new : BrokerTable) → a.asked < 2 ^ 64 → ComesOfRequest fault a old t r c new → c.at ≤ first_by a
comes_by None a old t r c new bound h = at_asked a c.at bound h.1
comes_by (Some Refuse) a old t r c new bound h = at_asked a c.at bound (ap (λ (x : Coming). x.at) h.0)
comes_by (Some Lose) a old t r c new bound h = at_asked a c.at bound (ap (λ (x : Coming). x.at) h.0)
comes_by (Some (Status status)) a old t r c new bound h = at_asked a c.at bound (ap (λ (x : Coming). x.at) h.0)
comes_by (Some Garble) a old t r c new bound h = at_asked a c.at bound (ap (λ (x : Coming). x.at) h.0)
comes_by (Some Hang) a old t r c new bound h = (let is = ap (λ (x : Coming). x.at) h.0 in omega (arith, is))
comes_by (Some (Late millis)) a old t r c new bound h =
    subst (λ (x : Coming). x.at ≤ first_by a) (sym h.1.1)
    (later_in (nat_lt (millis_after a.asked millis) (first_by a)) (first_by a) (millis_after a.asked millis) h.0 (λ sooner. (let less = ltb-true (millis_after a.asked millis) (first_by a) sooner in omega (arith, less))))

-- it is known what comes of it, and when
pub record IsKnown (by : ℕ) (comes : Option Coming) (behind : Option BehindLanes) : Type 0 where
  pub coming : Coming
  pub is : comes ≡ Some coming
  pub in_time : coming.at ≤ by
  pub next : BehindLanes
  pub still : behind ≡ Some next

known_by : (seconds t now : ℕ) (ask : Ask) (b : BehindLanes) (comes : Option Coming) (new : Option BehindLanes) → now < 2 ^ 64 → IsSentBy seconds t now ask (Some b) comes new → IsKnown (millis_after now (1000 * seconds)) comes new
known_by seconds t now ask b comes new bound h =
    let first = comes_by (lane_fault_at b.faults (next_lane_number b.count)) (allowed seconds now ask) b.table t ask.request h.0 h.1 bound h.2.1.0 in
    record { coming = h.0; is = h.2.0; in_time = omega (arith, first); next = _; still = h.2.1.1 }

still_known : {P : Type 0} (b : Option BehindLanes) (next : BehindLanes) → b ≡ Some next → IfSome b (λ _. P) → P
still_known None next is h = absurd cc
still_known (Some x) next is h = h

pub ends : VerdictTimeLaw
ends port t now later c behind old mid new bound known none gone past heard =
    let sent = gone.sent in
    let o : Out = record { index = LOOKUP_NUMBER; comes = sent.comes } in
    let by = known_by old.seconds t now (candidate_ask port c) behind sent.comes mid.behind bound (subst (λ b. IsSentBy old.seconds t now (candidate_ask port c) b sent.comes mid.behind) known sent.by) in
    let out : mid.out ≡ o ∷ [] = put_one o old.out mid.out sent.put none in
    let same = the_same heard.0.0 o (sym heard.0.1.0 ∙ out) in
    let away : is_there later heard.0.0 ≡ false = still_known mid.behind by.next by.still heard.0.1.1 in
    let at : is_there_at later (Some by.coming) ≡ false = ap (is_there_at later) (sym by.is) ∙ ap (is_there later) (sym same) ∙ away in
    let over = leb-false by.coming.at later at in
    let in_time = by.in_time in
    omega (arith, over, in_time, past)
