-- Resting: nothing rests on the agent in front. For the law of outages of an agent that stands behind another.
use Rattle.std.proofs.Common.{◌≡◌, true, length, sym, ap, subst, arith}
use Rattle.watch_machine.specs.{declared.event.WatchEvent.TheVariants.Known, Clocks.ms, Outlook.time_of, State.WatchState, Wanted.is_wanted}
use Rattle.watch_laws.specs.Outage.{IsShortFor, granted_next, outage_next_after}
use Rattle.watch_laws.proofs.Outliving.{facts_of, may_at_time, outlives_from_clock, outlives_from_told}
use Rattle.watch_scout_laws.specs.Resting.{IsStillBefore, RestLaw}
use Rattle.watch_scout_laws.proofs.Later.{along_behind}
use Rattle.watch_scout_laws.proofs.Handing.{another, end_in, hands, keeps, still}

pub rests : RestLaw
rests = record {
  others = λ o s w i j due reply event is apart. another o w i j due event (hands s w j reply event is) apart;
  own = λ s old turn i end renewable reply told is h counted few b wanted.
      let later = hands s old i reply (Known i end renewable) told in
      let same : later.end ≡ end = ap end_in (sym later.is) in
      let up = later.later in
      let ahead = later.ahead in
      let kept = (keeps old turn i end renewable h is b.within counted (omega (arith, ahead, same)) few).1 in
      subst (λ (v : WatchState). IsStillBefore old v i) (sym kept.state)
      (still old i later.believed end renewable counted later.known (omega (arith, up, same)) b (subst (λ (v : WatchState). is_wanted v i ≡ true) kept.state wanted));
  outage = λ margin name o old last hs i is reached wide history clock taken' b lived few order short.
      let m = may_at_time last.state i b in
      let from = ms (time_of last.state i) in
      let short' : IsShortFor o (ms last.state.forest.margin) = subst (λ n. IsShortFor o (ms n)) (sym is) short in
      let starts = outlives_from_clock o old last hs i from reached wide history clock taken' m.0 few order (subst (IsShortFor o) (sym m.1) short') in
      along_behind (facts_of o i (length last.state.forest.entries) old.width from starts.end) starts.planned hs (outage_next_after o last.result last.state 0) last.state history.1 lived starts.stays;
  again = λ margin name o old grant hs i is reached wide history b lived few order short.
      let m = may_at_time grant.state i b.before in
      let from = ms (time_of grant.state i) in
      let short' : IsShortFor o (ms grant.state.forest.margin) = subst (λ n. IsShortFor o (ms n)) (sym is) short in
      let starts = outlives_from_told o old grant hs i from reached wide history b.told b.taken m.0 few order (subst (IsShortFor o) (sym m.1) short') in
      along_behind (facts_of o i (length grant.state.forest.entries) old.width from starts.end) starts.planned hs (granted_next o grant.state i) grant.state history.1 lived starts.stays;
}
