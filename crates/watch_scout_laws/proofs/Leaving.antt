-- Leaving: an entry that is left alone is not renewed. For the law of what is left to the agent in front.
use Rattle.std.proofs.Common.{◌≡◌, ◌∙◌, ℕ, Bool, true, false, ◌&&◌, ◌||◌, ◌==◌, if◌then◌else◌, List, [], ◌∷◌, ◌++◌, Option, Some, None, Result, Ok, Err, refl, sym, ap, subst, inl, inr, true≢false}
use Rattle.std.proofs.lemmas.Bool.{and_parts, cases_Bool, cond-false, cond-true, eqb-true, false_from_ne_true}
use Rattle.watch_machine.specs.{declared.command.WatchOutput.WatchOutput, declared.event.WatchEvent.WatchEvent, declared.event.WatchReply.WatchReply, declared.event.WatchReply.TheVariants.Told, declared.fault.WatchFault.WatchFault}
use Rattle.watch_machine.specs.{State.WatchState, State.opened}
use Rattle.watch_machine.specs.declared.event.WatchEvent.TheVariants.{Clock, Looked, Renewed}
use Rattle.watch_machine.specs.History.{AllHappen, Changes, Happening, Hands, Turn, Turned, state_after, stood}
use Rattle.watch_machine.proofs.Cases.{not_both}
use Rattle.watch_laws.specs.{Absence.is_event_taken, Load.requests_at_turn, Outage.tells, Presence.is_told}
use Rattle.watch_laws.specs.Time.{AllReasoned, IsReasonedAt, is_come, is_named_in_round, reason, reason_answered, reason_at, renewal_goes_out}
use Rattle.watch_laws.proofs.{Reasons.early, Rounds.opened_rightly}
use Rattle.watch_scout_laws.specs.Behind.{AllLeft, IsLeft, IsLeftAt, IsToldAhead, IsUnrenewed, LeaveLaw, NoneRenewed}

-- ---- what is left of a run
rest_reasoned : (k : ℕ) (xs ys : List Happening) (b : Bool) → AllReasoned k b (xs ++ ys) → (c : Bool) × AllReasoned k c ys
rest_reasoned k [] ys b h = (b, h)
rest_reasoned k (Hands turn ∷ xs) ys b h = rest_reasoned k xs ys (reason_at (stood (xs ++ ys) k) b turn) h.1
rest_reasoned k (Changes c ∷ xs) ys b h = rest_reasoned k xs ys b h

rest_happens : (s : WatchState) (xs ys : List Happening) → AllHappen s (xs ++ ys) → (t : WatchState) × AllHappen t ys
rest_happens s [] ys h = (s, h)
rest_happens s (x ∷ xs) ys h = rest_happens (state_after x) xs ys h.1

-- ---- an answer that told it, with its time ahead, leaves no reason
told_answer : (s : WatchState) (i : ℕ) (reply : WatchReply) → is_told reply ≡ true → is_come s i ≡ false → reason_answered s i reply ≡ false
told_answer s i (Told seconds renewable date) told ahead = ahead
told_answer s i _ told ahead = absurd cc

own_answer : (s : WatchState) (i j : ℕ) (reply : WatchReply) (c : Bool) → (j == i && is_told reply) ≡ true → is_come s i ≡ false → (if j == i then reason_answered s i reply else c) ≡ false
own_answer s i j reply c told ahead =
    let both = and_parts (j == i) (is_told reply) told in
    cond-true (j == i) (reason_answered s i reply) c both.0 ∙ told_answer s i reply both.1 ahead

none_told : (i : ℕ) (c : Bool) (event : WatchEvent) (result : Result WatchOutput WatchFault) (s : WatchState) → tells i event ≡ true → is_event_taken result ≡ true → is_come s i ≡ false → reason i c event result s ≡ false
none_told i c event (Err fault) s told taken' ahead = absurd (true≢false (sym taken'))
none_told i c (Looked j reply terms) (Ok output) s told taken' ahead = own_answer s i j reply c told ahead
none_told i c (Renewed j reply) (Ok output) s told taken' ahead = own_answer s i j reply c told ahead
none_told i c _ (Ok output) s told taken' ahead = absurd cc

-- ---- whoever is left alone has no reason
any_answer : (s : WatchState) (i j : ℕ) (reply : WatchReply) → IsToldAhead i j reply s → (if j == i then reason_answered s i reply else false) ≡ false
any_answer s i j reply left' =
    elim (cases_Bool (j == i)) as (λ _. (if j == i then reason_answered s i reply else false) ≡ false) [
      | inl same ↦ (let h = left' (eqb-true j i same) in cond-true (j == i) (reason_answered s i reply) false same ∙ told_answer s i reply h.0 h.1)
      | inr other ↦ cond-false (j == i) (reason_answered s i reply) false other
    ]

-- no round opens where nobody is wanted whose time has come
none_named : (round : Option (List ℕ)) (i : ℕ) → ((asked : List ℕ) → round ≡ Some asked → ⊥) → is_named_in_round round i ≡ false
none_named None i none = refl
none_named (Some asked) i none = absurd (none asked refl)

both_none : (a b : Bool) → a ≡ false → b ≡ false → (a || b) ≡ false
both_none false false a b = refl
both_none true b e f = absurd cc
both_none false true e f = absurd cc

none_left : (old : WatchState) (i : ℕ) (event : WatchEvent) (result : Result WatchOutput WatchFault) (new : WatchState) → Turn old event result new → IsLeftAt i event result new → reason i false event result new ≡ false
none_left old i event (Err fault) new turn left' = refl
none_left old i (Clock wall elapsed) (Ok output) new turn left' =
    let last : Turned = record { event = Clock wall elapsed; result = Ok output; state = new } in
    let shut : (asked : List ℕ) → output.notes.round ≡ Some asked → ⊥ =
    λ asked is. (let opener = opened_rightly.only old last asked (turn, tt) is in not_both opener.1.come (left'.1 opener.0 opener.1.wanted)) in
    both_none (is_come new i) (is_named_in_round output.notes.round i) left'.0 (none_named output.notes.round i shut)
none_left old i (Looked j reply terms) (Ok output) new turn left' = any_answer new i j reply left'
none_left old i (Renewed j reply) (Ok output) new turn left' = any_answer new i j reply left'
none_left old i _ (Ok output) new turn left' = refl

at_turn : (old : WatchState) (e : Option ℕ) (turn : Turned) → Turn old turn.event turn.result turn.state → IsReasonedAt e false turn → IsLeft e turn → IsUnrenewed e turn × (reason_at e false turn ≡ false)
at_turn old None turn h reasoned left' = (tt, refl)
at_turn old (Some i) turn h reasoned left' =
    let none = none_left old i turn.event turn.result turn.state h left' in
    (false_from_ne_true (renewal_goes_out i (requests_at_turn turn.result)) (λ goes. not_both (reasoned goes) none), none)

along : (k : ℕ) (hs : List Happening) (s : WatchState) → AllHappen s hs → AllReasoned k false hs → AllLeft k hs → NoneRenewed k hs
along k [] s h reasoned left' = tt
along k (Hands turn ∷ hs) s h reasoned left' =
    let here = at_turn s (stood hs k) turn h.0 reasoned.0 left'.0 in
    (here.0, along k hs turn.state h.1 (subst (λ b. AllReasoned k b hs) here.1 reasoned.1) left'.1)
along k (Changes c ∷ hs) s h reasoned left' = along k hs c.state h.1 reasoned left'

pub leaves : LeaveLaw
leaves g width before told hs k i run stands tells' taken' ahead left' =
    let all = early g width (before ++ Hands told ∷ hs) run k in
    let rest = rest_reasoned k before (Hands told ∷ hs) false all in
    let happens = rest_happens (opened g width) before (Hands told ∷ hs) run in
    let none : reason_at (stood hs k) rest.0 told ≡ false =
    ap (λ e. reason_at e rest.0 told) stands ∙ none_told i rest.0 told.event told.result told.state tells' taken' ahead in
    along k hs told.state happens.1.1 (subst (λ b. AllReasoned k b hs) none rest.1.1) left'
