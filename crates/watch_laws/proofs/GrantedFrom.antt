-- GrantedFrom: from which second a grant counts, and whether it is at the top. For the laws of grants and of the top.
use Rattle.std.proofs.Common.{◌≡◌, ◌∙◌, ℕ, ◌+◌, ◌-◌, ◌<◌, ◌≤◌, Bool, true, false, Option, Some, None, IfSome, Result, Ok, Err, length, min, nat_le, nat_lt, refl, sym, ap, subst, arith, true≢false}
use Rattle.std.proofs.lemmas.{Bool.Decides.nat_tests, List.get_or-set_same}
use Rattle.std.proofs.lemmas.Bool.{and_from, and_parts, cond-false, cond-true}
use Rattle.watch_machine.specs.{declared.command.WatchOutput.WatchOutput, declared.event.WatchEvent.WatchEvent, declared.event.WatchEvent.TheVariants.Renewed, declared.event.Operation.TheVariants.Renew}
use Rattle.watch_machine.specs.{declared.event.WatchReply.TheVariants.Told, declared.fault.WatchFault.WatchFault, declared.lanes.Out.Out, declared.track.End.End, declared.track.End.TheVariants.At, declared.track.Grant.Grant}
use Rattle.watch_machine.specs.{declared.track.Track.Track, declared.track.Try.Try, Clocks.sec, History.Turn, Refusal.request_out, Step.Step, Step.StepRenewed, Wanted.believed}
use Rattle.watch_machine.specs.Answers.{back_track, noted, replied}
use Rattle.watch_machine.specs.Renewed.{from_base, from_try, granted_from, is_no_further, renewed_track, state_renewed, time_from}
use Rattle.watch_machine.specs.State.{WatchState, attempt_at, entry_of, no_track, track_at}
use Rattle.watch_machine.proofs.Within.{out_entry}
use Rattle.watch_laws.specs.{Absence.is_event_taken, AtTop.IsAtTop, AtTop.TopLaw, Grants.CountedLaw, Grants.IsCountedFrom}
use Rattle.watch_laws.proofs.Tracking.{back_kept}

-- the clock from whose second a grant of i counts that answers the request q, and what it makes of the track
abbrev pub counts_from : WatchState → ℕ → ℕ → Out → ℕ
counts_from s i seconds q = from_try s.forest.margin (entry_of s i).step seconds s.clocks.at q.since (attempt_at s i)

abbrev pub made : WatchState → ℕ → ℕ → Bool → Out → Track
made s i seconds renewable q = granted_from (entry_of s i).step s.clocks.at seconds renewable (counts_from s i seconds q) (track_at s i)

-- what holds of that holds after the answer, if the broker's return leaves it
answer_holds :
    (P : Track → Type 0) → ((x : Track) → P x → P (back_track x)) → (s : WatchState) (i seconds : ℕ) (renewable : Bool) (date : Option ℕ) (q : Out) → q.entry ≡ i → i < length s.tracks → P (made s i seconds renewable q) →
    P (track_at (replied (state_renewed (noted s q (Told seconds renewable date)) q (Told seconds renewable date)) q (Told seconds renewable date)) i)
unfolding renewed_track
answer_holds P back s i seconds renewable date q own within h =
    let reply = Told seconds renewable date in
    let t = noted s q reply in
    subst (λ k. P (track_at (replied (state_renewed t q reply) q reply) k)) own
    (back_kept (λ y z. P z → P y) (λ z k. k) (λ z. back z) (state_renewed t q reply) q reply q.entry
    (subst P (sym (get_or-set_same s.tracks q.entry (made s q.entry seconds renewable q) no_track (omega (arith, own, within)))) (subst (λ k. P (made s k seconds renewable q)) (sym own) h)))

pub turn_holds :
    (P : Out → Track → Type 0) → ((q : Out) (x : Track) → P q x → P q (back_track x)) → (old new : WatchState) (event : WatchEvent) (result : Result WatchOutput WatchFault) (i seconds : ℕ) (renewable : Bool) (date : Option ℕ) →
    Turn old event result new → i < length old.tracks → event ≡ Renewed i (Told seconds renewable date) → is_event_taken result ≡ true → ((q : Out) → P q (made old i seconds renewable q)) →
    (q : Out) × ((request_out old.out i Renew ≡ Some q) × P q (track_at new i))
turn_holds P back old new event (Err fault) i seconds renewable date turn within told taken' h = absurd (true≢false (sym taken'))
turn_holds P back old new event (Ok output) i seconds renewable date turn within told taken' h = by (request_out old.out i Renew) refl (subst (λ e. Step old e output new) told turn.1) where
  by : (found : Option Out) → request_out old.out i Renew ≡ found → StepRenewed old found (Told seconds renewable date) output new → (q : Out) × ((found ≡ Some q) × P q (track_at new i))
  by None is step = absurd step
  by (Some q) is step = (
    q,
    (
      refl,
      subst (λ (x : WatchState). P q (track_at x i)) (sym step.1) (answer_holds (P q) (back q) old i seconds renewable date q (out_entry old.out i Renew q is) within (h q)),
    ),
  )

-- from which second it counts
from_first : (margin step seconds at since : ℕ) (o : Option Try) (t : Try) (base : ℕ) → o ≡ Some t → t.base ≡ Some base → sec at + 1 < time_from margin step seconds (sec base) → from_try margin step seconds at since o ≡ base
from_first margin step seconds at since o t base is base_is ahead =
    let test : nat_lt (sec at + 1) (time_from margin step seconds (sec base)) ≡ true = grind (arith, nat_tests, ahead) in
    ap (from_try margin step seconds at since) is ∙ ap (from_base margin step seconds at since) base_is ∙ cond-true (nat_lt (sec at + 1) (time_from margin step seconds (sec base))) base since test

from_late : (margin step seconds at since : ℕ) (o : Option Try) (t : Try) (base : ℕ) → o ≡ Some t → t.base ≡ Some base → time_from margin step seconds (sec base) ≤ sec at + 1 → from_try margin step seconds at since o ≡ since
from_late margin step seconds at since o t base is base_is late =
    let test : nat_lt (sec at + 1) (time_from margin step seconds (sec base)) ≡ false = grind (arith, nat_tests, late) in
    ap (from_try margin step seconds at since) is ∙ ap (from_base margin step seconds at since) base_is ∙ cond-false (nat_lt (sec at + 1) (time_from margin step seconds (sec base))) base since test

from_again : (margin step seconds at since : ℕ) (o : Option Try) (t : Try) → o ≡ Some t → t.base ≡ None → from_try margin step seconds at since o ≡ since
from_again margin step seconds at since o t is none = ap (from_try margin step seconds at since) is ∙ ap (from_base margin step seconds at since) none

counted : (old new : WatchState) (i seconds : ℕ) (q : Out) → (track_at new i).end ≡ At (sec (counts_from old i seconds q) + seconds) → IsCountedFrom old new i seconds q
counted old new i seconds q h =
    let g = old.forest.margin in
    let step = (entry_of old i).step in
    let at = old.clocks.at in
    let o = attempt_at old i in
    record {
      first = λ t base is base_is ahead. h ∙ ap (λ n. At (sec n + seconds)) (from_first g step seconds at q.since o t base is base_is ahead);
      late = λ t base is base_is late. h ∙ ap (λ n. At (sec n + seconds)) (from_late g step seconds at q.since o t base is base_is late);
      again = λ t is none. h ∙ ap (λ n. At (sec n + seconds)) (from_again g step seconds at q.since o t is none);
    }

made_end : (s : WatchState) (i seconds : ℕ) (renewable : Bool) (q : Out) → (made s i seconds renewable q).end ≡ At (sec (counts_from s i seconds q) + seconds)
unfolding granted_from
made_end s i seconds renewable q = refl

pub back_end : (end : End) (x : Track) → x.end ≡ end → (back_track x).end ≡ end
unfolding back_track
back_end end x h = h

pub counted_so : CountedLaw
counted_so old turn i seconds renewable date history within told taken' =
    let there =
    turn_holds (λ q x. x.end ≡ At (sec (counts_from old i seconds q) + seconds)) (λ q. back_end (At (sec (counts_from old i seconds q) + seconds))) old turn.state turn.event turn.result i seconds renewable date history.0
    within told taken' (made_end old i seconds renewable) in
    subst (λ o. IfSome o (IsCountedFrom old turn.state i seconds)) (sym there.1.0) (counted old turn.state i seconds there.0 there.1.1)

-- whether it is at the top
record Tops (step seconds from : ℕ) (o : Option Grant) (e : End) : Type 0 where
  before : Grant
  last : o ≡ Some before
  end : ℕ
  ends : e ≡ At end
  apart : sec before.from + 2 ≤ from
  earlier : before.seconds < step
  later : seconds < step
  than_grant : from + seconds ≤ sec before.from + before.seconds + 1
  than_end : from + seconds ≤ end + 1

tops_if : (step seconds from : ℕ) (o : Option Grant) (e : End) → is_no_further step seconds from o e ≡ true → Tops step seconds (sec from) o e
tops_if step seconds from None e top = absurd cc
tops_if step seconds from (Some b) (At end) top =
    let apart = and_parts (nat_le (sec b.from + 2) (sec from)) _ top in
    let rest = and_parts (nat_lt b.seconds step) _ apart.1 in
    let low = and_parts (nat_lt seconds step) _ rest.1 in
    let two : sec b.from + 2 ≤ sec from = (let a = apart.0 in grind (arith, nat_tests)) in
    let earlier : b.seconds < step = (let a = rest.0 in grind (arith, nat_tests)) in
    let later : seconds < step = (let a = low.0 in grind (arith, nat_tests)) in
    let most : sec from + seconds ≤ min end (sec b.from + b.seconds) + 1 = (let l = low.1 in grind (arith, nat_tests)) in
    record { before = b; last = refl; end = end; ends = refl; apart = two; earlier = earlier; later = later; than_grant = omega (arith, most); than_end = omega (arith, most) }
tops_if step seconds from (Some b) _ top = absurd cc

tops_then : (step seconds from : ℕ) (o : Option Grant) (e : End) → Tops step seconds (sec from) o e → is_no_further step seconds from o e ≡ true
tops_then step seconds from o e h =
    let b = h.before in
    let a = h.apart in
    let x = h.earlier in
    let y = h.later in
    let g = h.than_grant in
    let n = h.than_end in
    let apart : nat_le (sec b.from + 2) (sec from) ≡ true = grind (arith, nat_tests, a) in
    let earlier : nat_lt b.seconds step ≡ true = grind (arith, nat_tests, x) in
    let later : nat_lt seconds step ≡ true = grind (arith, nat_tests, y) in
    let low : sec from + seconds ≤ min h.end (sec b.from + b.seconds) + 1 = omega (arith, g, n) in
    let most : nat_le (sec from + seconds) (min h.end (sec b.from + b.seconds) + 1) ≡ true = grind (arith, nat_tests, low) in
    ap (λ v. is_no_further step seconds from v e) h.last ∙ ap (is_no_further step seconds from (Some b)) h.ends
    ∙ and_from (nat_le (sec b.from + 2) (sec from)) _ apart (and_from (nat_lt b.seconds step) _ earlier (and_from (nat_lt seconds step) _ later most))

made_top : (s : WatchState) (i seconds : ℕ) (renewable : Bool) (q : Out) → (made s i seconds renewable q).top ≡ is_no_further (entry_of s i).step seconds (counts_from s i seconds q) (track_at s i).grant (track_at s i).end
unfolding granted_from
made_top s i seconds renewable q = refl

back_both : (top : Bool) (end : End) (x : Track) → (x.top ≡ top) × (x.end ≡ end) → ((back_track x).top ≡ top) × ((back_track x).end ≡ end)
unfolding back_track
back_both top end x h = h

pub top_so : TopLaw
top_so old turn i seconds renewable date history within told taken' =
    let step = (entry_of old i).step in
    let grant = (track_at old i).grant in
    let end = (track_at old i).end in
    let top : Out → Bool = λ q. is_no_further step seconds (counts_from old i seconds q) grant end in
    let there =
    turn_holds (λ q x. (x.top ≡ top q) × (x.end ≡ At (sec (counts_from old i seconds q) + seconds))) (λ q. back_both (top q) (At (sec (counts_from old i seconds q) + seconds))) old turn.state turn.event turn.result i seconds renewable
    date history.0 within told taken' (λ q. (made_top old i seconds renewable q, made_end old i seconds renewable q)) in
    let from = counts_from old i seconds there.0 in
    let ends = ap believed there.1.1.1 in
    let same : believed (track_at turn.state i).end - seconds ≡ sec from = omega (arith, ends) in (
      λ is.
          let h = tops_if step seconds from grant end (sym there.1.1.0 ∙ is) in
          subst (IsAtTop old i seconds) (sym same)
          (record { before = h.before; last = h.last; known = h.end; ends = h.ends; apart = h.apart; earlier_is_short = h.earlier; later_is_short = h.later; than_grant = h.than_grant; than_end = h.than_end }),
      λ h.
          let k = subst (IsAtTop old i seconds) same h in
          there.1.1.0
          ∙ tops_then step seconds from grant end
          (record { before = k.before; last = k.last; end = k.known; ends = k.ends; apart = k.apart; earlier = k.earlier_is_short; later = k.later_is_short; than_grant = k.than_grant; than_end = k.than_end }),
    )
