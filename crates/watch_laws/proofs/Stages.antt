-- Stages: how an outage goes by for an entry, stage by stage, and the sums of each. For the law of outages.
use Rattle.std.proofs.Common.{◌≡◌, ◌⊎◌, ℕ, suc, ◌+◌, ◌-◌, ◌*◌, ◌/◌, ◌<◌, ◌≤◌, true, false, max, All, length, arith, inl, inr}
use Rattle.std.proofs.Math.Nat.{mul-suc}
use Rattle.watch_machine.specs.{declared.lanes.Out.Out, declared.track.End.TheVariants.At, Beginning.is_pressed, Clocks.ms, Outlook.time_of, State.WatchState, State.track_at}
use Rattle.watch_laws.specs.Outage.{IsShortFor, Outage, again, granted_by, how_many, is_request_served, is_request_whole, outage_settled_by}
use Rattle.watch_laws.proofs.{Enduring.Endures, Enduring.cut, Grounds.IsBase, Lanes.is_anew}

-- what does not change: the outage, the entry, how many there are, the width, the moment from which on the entry may be asked, its end, and
-- what is left to that
pub record Facts : Type 0 where
  pub o : Outage
  pub i : ℕ
  pub n : ℕ
  pub width : ℕ
  pub time : ℕ
  pub end : ℕ
  pub left : ℕ

abbrev pub turn_of : Outage → ℕ
turn_of o = o.quick + o.late

-- from then on the entry may be asked, after the outage
abbrev pub free_from : Facts → ℕ
free_from f = max f.time (again f.end (cut f.o))

pub record IsPlanned (f : Facts) : Type 0 where
  pub wide : 0 < f.width
  pub within : f.i < f.n
  pub order : f.o.from ≤ f.o.until
  pub short : IsShortFor f.o f.left
  pub end_is : ms f.end ≡ f.time + f.left

-- and after a turn that was lived, where due is by when the next clock comes
pub record IsGoing (f : Facts) (due : ℕ) (s : WatchState) : Type 0 where
  pub base : IsBase f.width f.n s
  pub entries : length s.forest.entries ≡ f.n
  pub time : is_pressed (track_at s f.i) ≡ false → ms (time_of s f.i) ≤ f.time
  pub end_is : (track_at s f.i).end ≡ At f.end
  pub timely : All (λ (q : Out). due ≤ outage_settled_by f.o q.since + f.o.late) s.out
  pub ahead : s.clocks.at < ms f.end
  pub by : s.clocks.at ≤ granted_by f.o f.time f.end

-- before the outage, or after it: r rounds from base on hold those that wait, but for those that went out after from
pub record IsEarly (f : Facts) (due k : ℕ) (s : WatchState) : Type 0 where
  pub endures : Endures f.o f.i f.end f.time due ⊥ s
  pub idle : (track_at s f.i).out ≡ false
  pub whole : All (λ (q : Out). is_request_whole f.o q.since ≡ true) s.out
  pub r : ℕ
  pub from : ℕ
  pub count : k + how_many (f.n + f.width) (is_anew f.o (suc from) s) ≤ f.width * r
  pub fewer : turn_of f.o * r ≤ turn_of f.o * f.o.rounds
  pub base : ℕ
  pub reach : f.time ≤ base
  pub over : (base ≡ f.time) ⊎ (f.o.until ≤ s.clocks.at)
  pub base_ahead : base + turn_of f.o * f.o.rounds + turn_of f.o < ms f.end
  pub base_by : base ≤ free_from f
  pub start : from + turn_of f.o * r ≤ base + turn_of f.o * f.o.rounds
  pub next : due + turn_of f.o * r ≤ base + turn_of f.o + turn_of f.o * f.o.rounds

-- from the outage on, until all requests that it cut are settled
pub record IsCut (f : Facts) (due k : ℕ) (s : WatchState) : Type 0 where
  pub endures : Endures f.o f.i f.end (free_from f) due Unit s
  pub unserved : is_request_served f.o s f.i ≡ false
  pub r : ℕ
  pub count : k + how_many (f.n + f.width) (is_anew f.o f.o.until s) ≤ f.width * r
  pub fewer : turn_of f.o * r ≤ turn_of f.o * f.o.rounds
  pub room : f.o.from + 1 + turn_of f.o * r ≤ f.time + turn_of f.o + f.o.quick + turn_of f.o * f.o.rounds
  pub next : due ≤ free_from f + f.o.late

-- after it, while all lanes are taken by requests that went out since
pub record IsBack (f : Facts) (due k : ℕ) (s : WatchState) : Type 0 where
  pub endures : Endures f.o f.i f.end (free_from f) due Unit s
  pub unserved : is_request_served f.o s f.i ≡ false
  pub back : All (λ (q : Out). f.o.until ≤ q.since) s.out
  pub r : ℕ
  pub from : ℕ
  pub last : ℕ
  pub count : k + how_many (f.n + f.width) (is_anew f.o (suc from) s) ≤ f.width * r
  pub fewer : turn_of f.o * suc r ≤ turn_of f.o * f.o.rounds
  pub room : f.o.from + 1 + turn_of f.o * suc r ≤ f.time + turn_of f.o + f.o.quick + turn_of f.o * f.o.rounds
  pub start : from + turn_of f.o * suc r ≤ last
  pub last_ahead : last < ms f.end
  pub last_by : last ≤ granted_by f.o f.time f.end
  pub since : f.o.until ≤ from
  pub now : from ≤ s.clocks.at
  pub next : due ≤ from + turn_of f.o

-- and while a request of the entry is out that is whole
pub record IsServed (f : Facts) (due : ℕ) (s : WatchState) : Type 0 where
  pub served : is_request_served f.o s f.i ≡ true
  pub sent : ℕ
  pub whole : All (λ (q : Out). q.entry ≡ f.i → (is_request_whole f.o q.since ≡ true) × (q.since ≤ sent)) s.out
  pub next : due ≤ sent + turn_of f.o
  pub last_ahead : sent + turn_of f.o < ms f.end
  pub last_by : sent + turn_of f.o ≤ granted_by f.o f.time f.end

-- and where the outage was over first, until all requests that it cut are settled
pub record IsLate (f : Facts) (due k : ℕ) (s : WatchState) : Type 0 where
  pub endures : Endures f.o f.i f.end f.time due ⊥ s
  pub unserved : is_request_served f.o s f.i ≡ false
  pub over : f.o.until ≤ s.clocks.at
  pub soon : f.o.until ≤ f.time
  pub from : ℕ
  pub count : k + how_many (f.n + f.width) (is_anew f.o (suc from) s) ≤ f.width * f.o.rounds
  pub next : due ≤ cut f.o

abbrev pub IsThrough : Facts → ℕ → ℕ → WatchState → Type 0
IsThrough f due k s = (IsEarly f due k s ⊎ IsCut f due k s) ⊎ (IsBack f due k s ⊎ (IsServed f due s ⊎ IsLate f due k s))

-- sums: what is left after the last pause
sum_pause : (end x rest q : ℕ) → rest ≤ q → x + rest + max 1000 (q / 15) + 1 ≤ ms end → again end x + rest < ms end
sum_pause end x rest q few room = omega (arith, few, room)

sum_back : (from until quick slow late a c time left end : ℕ) → from ≤ until → a ≤ c → from + 1 + a ≤ time + (quick + late) + quick + c →
    (until - from) + slow + 2 * (quick + late) + (c + late) + max 1000 ((c + late) / 15) ≤ left → ms end ≡ time + left → max time (again end (until + slow + late)) + late + a < ms end
sum_back from until quick slow late a c time left end order fewer room short sum =
    let h = sum_pause end (until + slow + late) (late + a) (c + late) (omega (arith, fewer)) (omega (arith, order, room, short, sum)) in
    omega (arith, h, fewer, short, sum)

pub room_back :
    (f : Facts) (r : ℕ) → IsPlanned f → turn_of f.o * r ≤ turn_of f.o * f.o.rounds → f.o.from + 1 + turn_of f.o * r ≤ f.time + turn_of f.o + f.o.quick + turn_of f.o * f.o.rounds →
    free_from f + f.o.late + turn_of f.o * r < ms f.end
room_back f r planned fewer room =
    let o = f.o in
    sum_back o.from o.until o.quick o.slow o.late (turn_of o * r) (turn_of o * o.rounds) f.time f.left f.end planned.order fewer room planned.short planned.end_is

-- the margin holds all rounds
pub margin_holds : (f : Facts) → IsPlanned f → f.time + turn_of f.o + turn_of f.o * f.o.rounds + f.o.late + turn_of f.o < ms f.end
margin_holds f planned =
    let o = f.o in
    let short : (o.until - o.from) + o.slow + 2 * (o.quick + o.late) + (turn_of o * o.rounds + o.late) + max 1000 ((turn_of o * o.rounds + o.late) / 15) ≤ f.left = planned.short in
    let end = planned.end_is in
    omega (arith, short, end)

-- where the outage was over before the time came, all rounds are held after the last request that it cut, too
abbrev pub late_base : Facts → ℕ
late_base f = max f.time (cut f.o)

pub late_holds : (f : Facts) → IsPlanned f → f.o.until ≤ f.time → late_base f + turn_of f.o * f.o.rounds + turn_of f.o < ms f.end
late_holds f planned soon =
    let o = f.o in
    let short : (o.until - o.from) + o.slow + 2 * (o.quick + o.late) + (turn_of o * o.rounds + o.late) + max 1000 ((turn_of o * o.rounds + o.late) / 15) ≤ f.left = planned.short in
    let end = planned.end_is in
    omega (arith, short, end, soon)

-- the next clock comes in time, whatever the stage
pub due_ahead : (f : Facts) (due k : ℕ) (s : WatchState) → IsPlanned f → IsThrough f due k s → (due < ms f.end) × (due ≤ granted_by f.o f.time f.end)
due_ahead f due k s planned (inl (inl h)) =
    let holds = h.base_ahead in
    let by = h.base_by in
    let next = h.next in
    (omega (arith, holds, next), omega (arith, next, by))
due_ahead f due k s planned (inl (inr h)) =
    let room = room_back f h.r planned h.fewer h.room in
    let next = h.next in
    (omega (arith, room, next), omega (arith, next))
due_ahead f due k s planned (inr (inl h)) =
    let next = h.next in
    let start = h.start in
    let m = mul-suc (turn_of f.o) h.r in
    let a = h.last_ahead in
    let b = h.last_by in
    (omega (arith, next, start, m, a), omega (arith, next, start, m, b))
due_ahead f due k s planned (inr (inr (inl h))) =
    let next = h.next in
    let a = h.last_ahead in
    let b = h.last_by in
    (omega (arith, next, a), omega (arith, next, b))
due_ahead f due k s planned (inr (inr (inr h))) =
    let next = h.next in
    let holds = late_holds f planned h.soon in
    (omega (arith, next, holds), omega (arith, next))
