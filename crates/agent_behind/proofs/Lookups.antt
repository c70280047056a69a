-- Lookups: one lookup goes out after another. For `look_from` and `look_up`.
use Rattle.std.proofs.Common.{◌≡◌, ◌∙◌, ℕ, zero, suc, ◌+◌, ◌-◌, ◌<◌, ◌≤◌, List, Option, Some, None, arith, inl, inr, length, refl, sym, ap, subst}
use Rattle.agent_standing.specs.Agent.{Agent}
use Rattle.vault_asking.specs.Sending.{GoesOut, Lanes}
use Rattle.base_clock.specs.declared.reading.Reading.{Reading}
use Rattle.vault_asking.proofs.InStep.{put_count}
use Rattle.vault_lanes.specs.Out.{Out, OutIsPut}
use Rattle.watch_machine.specs.{Clocks.second_of_wall, State.WatchState}
use Rattle.watch_scout.specs.{Hearing.freed, Looking.found, State.ScoutState}
use Rattle.watch_scout.proofs.Coming.{found_seen, freed_seen}
use Rattle.agent_behind.specs.Lookups.{AreLookedUp, ByFound, IsLookedUp, Side, look_at, side}

pub sent_one :
    (port : ℕ) (a : Agent) (r : Reading) (i : ℕ) (s : ScoutState) (l m : Lanes) → GoesOut port a.inventory a.machine (second_of_wall r.wall) r.elapsed (look_at i) l m → IsLookedUp port a r i (side s l) (side s m)
sent_one port a r i s l m out = inl (record { out = out; scout = refl })

pub unsent_one :
    (port : ℕ) (a : Agent) (r : Reading) (i : ℕ) (s t : ScoutState) (l m : Lanes) → m.out ≡ l.out → m.seconds ≡ l.seconds → t ≡ freed s i → IsLookedUp port a r i (side s l) (side t m)
unsent_one port a r i s t l m out seconds is = inr (record { out = out; seconds = seconds; scout = is })

by_found : (o p : Option ℕ) (S : Type 0) (G : ℕ → Type 0) → o ≡ p → ByFound p S G → ByFound o S G
by_found o p S G is h = subst (λ q. ByFound q S G) (sym is) h

-- there are none to go out
pub none_more : (port : ℕ) (a : Agent) (r : Reading) (n from : ℕ) (old : Side) → n ≡ 0 → AreLookedUp port a r n from old old
none_more port a r n from old is = subst (λ k. AreLookedUp port a r k from old old) (sym is) refl

-- none is found
stops_at : (port : ℕ) (a : Agent) (r : Reading) (n from : ℕ) (s t : ScoutState) (l : Lanes) → 0 < n → (found s a.machine from).entry ≡ None → t ≡ (found s a.machine from).state → AreLookedUp port a r n from (side s l) (side t l)
stops_at port a r zero from s t l some none is = absurd (omega (arith, some))
stops_at port a r (suc n) from s t l some none is = by_found _ None _ _ none (ap (λ x. side x l) is)

pub none_found :
    (port : ℕ) (a : Agent) (r : Reading) (n from : ℕ) (w : WatchState) (s t : ScoutState) (l : Lanes) → 0 < n → w ≡ a.machine → (found s w from).entry ≡ None → t ≡ (found s w from).state →
    AreLookedUp port a r n from (side s l) (side t l)
none_found port a r n from w s t l some here none is =
    stops_at port a r n from s t l some (subst (λ v. (found s v from).entry ≡ None) here none) (subst (λ v. t ≡ (found s v from).state) here is)

-- one is, and then the next ones
goes_on :
    (port : ℕ) (a : Agent) (r : Reading) (n from i : ℕ) (s t : ScoutState) (l : Lanes) (mid new : Side) → 0 < n → (found s a.machine from).entry ≡ Some i → t ≡ (found s a.machine from).state →
    IsLookedUp port a r i (side t l) mid → AreLookedUp port a r (n - 1) i mid new → AreLookedUp port a r n from (side s l) new
goes_on port a r zero from i s t l mid new some one is up rest = absurd (omega (arith, some))
goes_on port a r (suc n) from i s t l mid new some one is up rest =
    let less : suc n - 1 ≡ n = omega arith in
    by_found _ (Some i) _ _ one (mid, (subst (λ x. IsLookedUp port a r i (side x l) mid) is up, subst (λ k. AreLookedUp port a r k i mid new) less rest))

pub one_found :
    (port later : ℕ) (a : Agent) (r : Reading) (n from i : ℕ) (w : WatchState) (s t : ScoutState) (l : Lanes) (mid new : Side) → 0 < n → w ≡ a.machine → (found s w from).entry ≡ Some i → t ≡ (found s w from).state →
    IsLookedUp port a r i (side t l) mid → later ≡ port → AreLookedUp later a r (n - 1) i mid new → AreLookedUp port a r n from (side s l) new
one_found port later a r n from i w s t l mid new some here one is up same rest =
    goes_on port a r n from i s t l mid new some (subst (λ v. (found s v from).entry ≡ Some i) here one) (subst (λ v. t ≡ (found s v from).state) here is) up
    (subst (λ p. AreLookedUp p a r (n - 1) i mid new) same rest)

-- as many entries are seen after a look, and after one that was lost
pub as_many_found : (s t : ScoutState) (w : WatchState) (from count : ℕ) → t ≡ (found s w from).state → length s.seen ≡ count → length t.seen ≡ count
as_many_found s t w from count is many = ap (λ (x : ScoutState). length x.seen) is ∙ found_seen s w from ∙ many

pub as_many_freed : (s t : ScoutState) (i : ℕ) → t ≡ freed s i → length t.seen ≡ length s.seen
as_many_freed s t i is = ap (λ (x : ScoutState). length x.seen) is ∙ freed_seen s i

-- one request more at most is out
pub one_more_out : (o : Out) (old new : List Out) → OutIsPut o old new → length new ≤ length old + 1
one_more_out o old new put = let count = put_count o old new put in omega (arith, count)
