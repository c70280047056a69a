-- Reasons: every renewal that is to go out has a reason. For the law of never too early.
use Rattle.std.proofs.Common.{◌≡◌, ◌≢◌, ◌∙◌, ℕ, zero, suc, ◌+◌, ◌-◌, Bool, true, false, max, not, ◌&&◌, ◌||◌, ◌==◌, if◌then◌else◌, List, [], ◌∷◌, Option, Some, None, Result, Ok, Err, length, map, nat_lt, nat_le, refl, sym, ap, subst, inl, inr}
use Rattle.std.proofs.lemmas.List.{get_or-set_other}
use Rattle.std.proofs.lemmas.Bool.{and_parts, cases_Bool, cases_lt, cond-false, cond-true, eqb-true, or_left, or_right}
use Rattle.std.specs.List.{list_any}
use Rattle.plan_forest.specs.{declared.entry.Entry.Entry, Forest.Forest, Forest.entry_at}
use Rattle.plan_forest.proofs.Carrying.{or_parts}
use Rattle.watch_machine.specs.{declared.command.WatchCommand.WatchCommand, declared.command.WatchOutput.WatchOutput, declared.command.WatchRequest.WatchRequest, declared.event.WatchEvent.WatchEvent, declared.event.WatchReply.WatchReply}
use Rattle.watch_machine.specs.{declared.event.WatchReply.TheVariants.Told, declared.event.WatchTerms.WatchTerms, declared.fault.WatchFault.WatchFault, declared.lanes.Out.Out, declared.lanes.Presence.Presence, declared.notes.Notes.Notes}
use Rattle.watch_machine.specs.{declared.notes.BeginReason.BeginReason, declared.track.Track.Track, declared.track.Try.Try, Change.former_at, Clocks.sec, Lines.rested, Margins.has_come, Pauses.pause, Refusal.is_same, Refusal.request_out}
use Rattle.watch_machine.specs.{Round.asked_by_round as round_asked}
use Rattle.watch_machine.specs.declared.command.WatchCommand.TheVariants.{Go, Taken}
use Rattle.watch_machine.specs.declared.event.WatchEvent.TheVariants.{Clock, Looked, Renewed, Known}
use Rattle.watch_machine.specs.declared.event.Operation.TheVariants.{Look, Renew}
use Rattle.watch_machine.specs.Answers.{back_track, back_try, due_again, failing, noted, replied}
use Rattle.watch_machine.specs.Beginning.{begun, is_called, is_pressed, is_start, owed, owing, owing_lookup, owing_past, soon, sooner_try, untopped, untopped_track}
use Rattle.watch_machine.specs.History.{AllHappen, Changed, Changes, Hands, Happening, IsChanged, Turn, Turned, stood, stood_at_some}
use Rattle.watch_machine.specs.Looked.{at_once, is_called_for, looked, told_state, told_try, with_told_try}
use Rattle.watch_machine.specs.Press.{asked_track, dropped, is_fresh, let_go, press, pressed, pressed_alone, pressed_track, track_asked_in}
use Rattle.watch_machine.specs.Renewed.{from_try, granted_from, granted_try, renewed_track, state_renewed}
use Rattle.watch_machine.specs.Sending.{sent, sent_in, sent_track}
use Rattle.watch_machine.specs.Settling.{settled, settled_track, settled_try, timed}
use Rattle.watch_machine.specs.State.{WatchState, entry_of, fresh_track, no_track, opened, second, track_at, track_in}
use Rattle.watch_machine.specs.Step.{Step, StepClock, StepCommand, StepLooked, StepRenewed, readied, told_earlier, why}
use Rattle.watch_machine.specs.Wanted.{is_alive, is_open, is_wanted, need_of, wants}
use Rattle.watch_machine.proofs.Within.{out_entry}
use Rattle.watch_machine.proofs.Cases.{if_both, if_cases, not_both}
use Rattle.watch_laws.specs.Load.{requests_asked_by, requests_at_turn}
use Rattle.watch_laws.specs.Time.{AllReasoned, EarlyLaw, IsReasonedAt, is_come, is_named_in_round, reason, reason_answered, reason_at, reason_taken, renewal_goes_out}
use Rattle.watch_laws.proofs.{Answering.replied_rest, Clocking.refused_stays}
use Rattle.watch_laws.proofs.Following.{kept_over, new_over, owed_is, past_over, stays_there}
use Rattle.watch_laws.proofs.Going.{asks_by, entry_by, goes, operation_of, request_at}
use Rattle.watch_laws.proofs.Opener.{bearing, come_same, mid_bears}
use Rattle.watch_laws.proofs.Spacing.{looked_other, same_index, same_is}
use Rattle.watch_laws.proofs.Tracking.{back_kept, each_holds, each_kept, known_is, replied_forest, set_holds, set_kept}

-- a try that is to go out, or none, asks for a renewal only where b says so
abbrev Reasoned : Bool → Option Try → Type 0
Reasoned b o = operation_of o ≡ Renew → b ≡ true

not_renew : Look ≡ Renew → ⊥
not_renew e = cc

look_reasoned : (b : Bool) (t : Try) → t.operation ≡ Look → Reasoned b (Some t)
look_reasoned b t look renew = absurd (not_renew (sym look ∙ renew))

none_reasoned : (b : Bool) → Reasoned b None
none_reasoned b renew = absurd (not_renew renew)

abbrev Still : Bool → Track → Track → Type 0
Still b y x = Reasoned b x.attempt → Reasoned b y.attempt

-- each part of a clock
settled_reasoned : (b : Bool) (margin at : ℕ) (x : Track) (o : Option Try) → Reasoned b o → Reasoned b (settled_try margin at x o)
settled_reasoned b margin at x None h = h
settled_reasoned b margin at x (Some t) h =
    if_both (Reasoned b) t.failed (Some (record t { at = at + pause margin at x t; alone = t.alone && nat_le (rested x.last) at; failed = false })) (Some t) h h

settled_still : (b : Bool) (margin at : ℕ) (x : Track) → Still b (settled_track margin at x) x
unfolding settled_track
settled_still b margin at x h = settled_reasoned b margin at x x.attempt h

sooner_reasoned : (b : Bool) (at : ℕ) (o : Option Try) → Reasoned b o → Reasoned b (Some (sooner_try at o))
sooner_reasoned b at None h = look_reasoned b (owed at) refl
sooner_reasoned b at (Some t) h = h

owing_still : (b : Bool) (at : ℕ) (first called : Bool) (x : Track) → Still b (owing at first called x) x
unfolding owing
owing_still b at first called x h =
    if_both (λ (y : Track). Reasoned b y.attempt) (called && (first || is_open (sec at) x)) (owing_lookup at x) x
    (if_both (λ (y : Track). Reasoned b y.attempt) x.out (record x { owes = true }) (record x { owes = true; attempt = Some (sooner_try (soon at x) x.attempt) }) h (sooner_reasoned b (soon at x) x.attempt h)) h

let_go_reasoned : (b : Bool) (x : Track) (t : Try) → Reasoned b (let_go x t)
let_go_reasoned b x t =
    if_both (Reasoned b) x.owes (Some (record t { at = max t.at (rested x.last); operation = Look; pressed = false })) None
    (look_reasoned b (record t { at = max t.at (rested x.last); operation = Look; pressed = false }) refl) (none_reasoned b)

dropped_reasoned : (b : Bool) (x : Track) (o : Option Try) → Reasoned b o → Reasoned b (dropped x o)
dropped_reasoned b x None h = h
dropped_reasoned b x (Some t) h = if_both (Reasoned b) t.pressed (let_go x t) (Some t) (let_go_reasoned b x t) h

-- what is pressed has come to its time, or a round names it
pressed_reasoned :
    (b more : Bool) (margin : ℕ) (e : Entry) (need at : ℕ) (x : Track) → (b ≡ true → more ≡ true) → (has_come margin e x (sec at) ≡ true → more ≡ true) → Reasoned b x.attempt →
    Reasoned more (pressed_track margin e need at x).attempt
unfolding pressed_track is_fresh
pressed_reasoned b more margin e need at x before come h =
    let fresh = wants x need && (has_come margin e x (sec at) && (not (is_pressed x) && not x.out)) in
    if_cases (λ (y : Track). Reasoned more y.attempt) fresh (record x { attempt = Some (press at x) }) (if wants x need || x.out then x else record x { attempt = dropped x x.attempt })
    (λ yes' renew. come (and_parts (has_come margin e x (sec at)) (not (is_pressed x) && not x.out) ((and_parts (wants x need) (has_come margin e x (sec at) && (not (is_pressed x) && not x.out)) yes').1)).0)
    (λ no'. if_both (λ (y : Track). Reasoned more y.attempt) (wants x need || x.out) x (record x { attempt = dropped x x.attempt }) (λ renew. before (h renew))
    (dropped_reasoned more x x.attempt (λ renew. before (h renew))))

asked_reasoned :
    (more : Bool) (margin : ℕ) (e : Entry) (at : ℕ) (round : List ℕ) (i : ℕ) (x : Track) → (list_any (λ j. j == i) round ≡ true → more ≡ true) → Reasoned more x.attempt →
    Reasoned more (track_asked_in at round i x).attempt
asked_reasoned more margin e at round i x named h =
    if_cases (λ (y : Track). Reasoned more y.attempt) (list_any (λ j. j == i) round) (asked_track at x) x (λ yes' renew. named yes') (λ no'. h)

begun_still : (b : Bool) (s : WatchState) (w : Option BeginReason) (i : ℕ) → Still b (track_at (begun s w) i) (track_at s i)
begun_still b s None i h = h
begun_still b s (Some w) i h =
    let xs = untopped s.tracks in
    each_kept (Still b) (λ k. k) (λ j. owing s.clocks.at (is_start w) (is_called s.forest xs s.clocks j)) xs (λ j x. owing_still b s.clocks.at (is_start w) (is_called s.forest xs s.clocks j) x) i
    (each_kept (Still b) (λ k. k) (λ j. untopped_track) s.tracks (λ j x k. k) i h)

readied_still : (b : Bool) (s : WatchState) (wall elapsed i : ℕ) → Still b (track_at (readied s wall elapsed) i) (track_at s i)
unfolding readied
readied_still b s wall elapsed i h =
    let t = timed s wall elapsed in
    begun_still b (settled t) (why s wall elapsed) i
    (each_kept (Still b) (λ k. k) (λ j. settled_track t.forest.margin t.clocks.at) s.tracks (λ j x. settled_still b t.forest.margin t.clocks.at x) i h)

mid_reasoned :
    (b more : Bool) (s : WatchState) (round : List ℕ) (i : ℕ) → (b ≡ true → more ≡ true) → (is_come s i ≡ true → more ≡ true) → (list_any (λ j. j == i) round ≡ true → more ≡ true) →
    Reasoned b (track_at s i).attempt → Reasoned more (track_at (pressed s round) i).attempt
mid_reasoned b more s round i before come named h =
    let c = s.clocks in
    let g = s.forest in
    let alone = pressed_alone g c s.tracks in
    each_holds (λ (y : Track). Reasoned more y.attempt) (none_reasoned more) (track_asked_in c.at round) alone i
    (asked_reasoned more g.margin (entry_at g.entries i) c.at round i (track_in alone i) named
    (each_holds (λ (y : Track). Reasoned more y.attempt) (none_reasoned more) (λ j. pressed_track g.margin (entry_at g.entries j) (need_of g.entries s.tracks c j) c.at) s.tracks i
    (pressed_reasoned b more g.margin (entry_at g.entries i) (need_of g.entries s.tracks c i) c.at (track_at s i) before come h)))

sent_still : (b : Bool) (s : WatchState) (requests : List WatchRequest) (i : ℕ) → Still b (track_at (sent s requests) i) (track_at s i)
sent_still b s requests i h =
    each_kept (Still b) (λ k. k) (sent_in s.clocks.at requests) s.tracks
    (λ j x k. if_both (λ (y : Track). Reasoned b y.attempt) (list_any (λ (r : WatchRequest). r.entry == j) requests) (sent_track s.clocks.at x) x k k) i h

-- a renewal of i that goes out is asked by its try
renews_by : (p : Presence) (now : ℕ) (xs : List Track) (i : ℕ) (is : List ℕ) → renewal_goes_out i (map (request_at p now xs) is) ≡ true → operation_of (track_in xs i).attempt ≡ Renew
renews_by p now xs i [] h = absurd cc
renews_by p now xs i (j ∷ js) h =
    let r = request_at p now xs j in
    or_parts (r.entry == i && is_same r.operation Renew) (renewal_goes_out i (map (request_at p now xs) js)) (operation_of (track_in xs i).attempt ≡ Renew) h
    (λ here.
    let both = and_parts (r.entry == i) (is_same r.operation Renew) here in
    let is : j ≡ i = sym (entry_by p now xs j) ∙ eqb-true r.entry i both.0 in
    ap (λ k. operation_of (track_in xs k).attempt) (sym is) ∙ sym (asks_by p now xs j) ∙ same_is r.operation Renew both.1)
    (λ there. renews_by p now xs i js there)

goes_reasoned : (b : Bool) (s new : WatchState) (command : WatchCommand) (i : ℕ) → StepCommand s command new → Reasoned b (track_at s i).attempt → renewal_goes_out i (requests_asked_by command) ≡ true → b ≡ true
goes_reasoned b s new (Go requests until) i h reasoned renew =
    let going = goes s.forest s.presence s.clocks.at s.tracks (s.width - length s.out) requests h.0.0 in
    reasoned (renews_by s.presence (sec s.clocks.at) s.tracks i going.entries (sym (ap (renewal_goes_out i) going.requests_are) ∙ renew))
goes_reasoned b s new Taken i h reasoned renew = absurd h

new_still : (b : Bool) (s new : WatchState) (command : WatchCommand) (i : ℕ) → StepCommand s command new → Reasoned b (track_at s i).attempt → Reasoned b (track_at new i).attempt
new_still b s new (Go requests until) i h reasoned = subst (λ (x : WatchState). Reasoned b (track_at x i).attempt) (sym h.0.1) (sent_still b s requests i reasoned)
new_still b s new Taken i h reasoned = absurd h

-- what every turn keeps, and what goes out at it
abbrev Outcome : ℕ → Bool → WatchCommand → WatchState → Type 0
Outcome i b command new = (renewal_goes_out i (requests_asked_by command) ≡ true → b ≡ true) × Reasoned b (track_at new i).attempt

come_at : (s new : WatchState) (round : List ℕ) (command : WatchCommand) (i : ℕ) → StepCommand (pressed s round) command new → is_come new i ≡ is_come s i
come_at s new round (Go requests until) i h =
    ap (λ (x : WatchState). is_come x i) h.0.1 ∙ come_same s.forest.margin (entry_of s i) (track_at (sent (pressed s round) requests) i) (track_at s i) (second s) (mid_bears s round requests i)
come_at s new round Taken i h = absurd h

named_by : (round : Option (List ℕ)) (i : ℕ) → list_any (λ j. j == i) (round_asked round) ≡ is_named_in_round round i
named_by None i = refl
named_by (Some asked) i = refl

clock_outcome :
    (old new : WatchState) (wall elapsed : ℕ) (output : WatchOutput) (i : ℕ) (b : Bool) → StepClock old wall elapsed output new → Reasoned b (track_at old i).attempt →
    Outcome i (b || (is_come new i || is_named_in_round output.notes.round i)) output.command new
clock_outcome old new wall elapsed output i b step h =
    let ready = readied old wall elapsed in
    let round = round_asked step.round in
    let more = b || (is_come new i || is_named_in_round output.notes.round i) in
    let come = come_at ready new round output.command i step.command in
    let named : list_any (λ j. j == i) round ≡ is_named_in_round output.notes.round i = named_by step.round i ∙ sym (ap (λ (x : Notes). is_named_in_round x.round i) step.notes) in
    let mid = mid_reasoned b more ready round i (λ yes'. or_left b (is_come new i || is_named_in_round output.notes.round i) yes')
    (λ yes'. or_right b (is_come new i || is_named_in_round output.notes.round i) (or_left (is_come new i) (is_named_in_round output.notes.round i) (come ∙ yes')))
    (λ yes'. or_right b (is_come new i || is_named_in_round output.notes.round i) (or_right (is_come new i) (is_named_in_round output.notes.round i) (sym named ∙ yes'))) (readied_still b old wall elapsed i h) in
    (goes_reasoned more (pressed ready round) new output.command i step.command mid, new_still more (pressed ready round) new output.command i step.command mid)

-- the broker's return leaves what is asked
back_reasoned : (b : Bool) (x : Track) (o : Option Try) → Reasoned b o → Reasoned b (back_try x o)
back_reasoned b x None h = h
back_reasoned b x (Some t) h =
    if_both (Reasoned b) x.out (Some (record t { fails = 0 })) (if t.lost then Some (due_again t (rested x.last)) else Some t) h
    (if_both (Reasoned b) t.lost (Some (due_again t (rested x.last))) (Some t) h h)

back_still : (b : Bool) (x : Track) → Still b (back_track x) x
unfolding back_track
back_still b x h = back_reasoned b x x.attempt h

after_still : (b : Bool) (mid : WatchState) (q : Out) (reply : WatchReply) (i : ℕ) → Still b (track_at (replied mid q reply) i) (track_at mid i)
after_still b mid q reply i = back_kept (Still b) (λ x h. h) (λ x. back_still b x) mid q reply i

-- the answer to a lookup of the entry itself
told_reasoned : (b : Bool) (at : ℕ) (due : Bool) (x : Track) (o : Option Try) → (due ≡ true → b ≡ true) → Reasoned b (told_try at due x o)
told_reasoned b at due x None called = none_reasoned b
told_reasoned b at due x (Some t) called =
    if_cases (Reasoned b) due (Some (at_once at t)) (if is_alive (sec at) x then None else Some (failing t Look false false)) (λ yes' renew. called yes')
    (λ no'. if_both (Reasoned b) (is_alive (sec at) x) None (Some (failing t Look false false)) (none_reasoned b) (look_reasoned b (failing t Look false false) refl))

back_bears : (x : Track) → bearing (back_track x) ≡ bearing x
unfolding back_track
back_bears x = refl

pub told_come : (mid : WatchState) (q : Out) (reply : WatchReply) (i : ℕ) → is_come (replied (with_told_try mid i) q reply) i ≡ is_come mid i
told_come mid q reply i =
    let by = with_told_try mid i in
    let new = replied by q reply in
    let forest = replied_forest by q reply in
    let clocks = ap (λ (x : WatchState). x.clocks) (replied_rest by q reply) in
    let bears : bearing (track_at new i) ≡ bearing (track_at mid i) =
    back_kept (λ y x. bearing y ≡ bearing x) (λ x. refl) (λ x. back_bears x) by q reply i ∙ set_kept (λ y x. bearing y ≡ bearing x) (λ x. refl) mid.tracks i _ refl i in
    ap (λ (g : Forest). has_come g.margin (entry_at g.entries i) (track_at new i) (second new)) forest
    ∙ ap (λ c. has_come mid.forest.margin (entry_of mid i) (track_at new i) (sec c.at)) clocks
    ∙ come_same mid.forest.margin (entry_of mid i) (track_at new i) (track_at mid i) (second mid) bears

looked_own : (s : WatchState) (q : Out) (reply : WatchReply) (terms : WatchTerms) → Reasoned (reason_answered (replied (looked s q reply terms) q reply) q.entry reply) (track_at (looked s q reply terms) q.entry).attempt
looked_own s q (Told seconds renewable date) terms =
    let i = q.entry in
    let mid = told_state s i q.since seconds renewable terms in
    let b = is_come (replied (with_told_try mid i) q (Told seconds renewable date)) i in
    set_holds (λ (y : Track). Reasoned b y.attempt) (none_reasoned b) mid.tracks i _
    (told_reasoned b mid.clocks.at (is_called_for mid i) (track_at mid i) (track_at mid i).attempt
    (λ called. told_come mid q (Told seconds renewable date) i ∙ (and_parts (is_wanted mid i) (is_come mid i) called).1))
looked_own s q _ terms = λ renew. refl

-- and to a renewal
granted_reasoned : (b : Bool) (at : ℕ) (owes : Bool) (end : ℕ) (o : Option Try) → Reasoned b (granted_try at owes end o)
granted_reasoned b at owes end None = none_reasoned b
granted_reasoned b at owes end (Some t) =
    if_both (Reasoned b) (nat_lt (sec at) end) (if owes then Some (owed (at + 30000)) else None) (Some (failing t Look false false))
    (if_both (Reasoned b) owes (Some (owed (at + 30000))) None (look_reasoned b (owed (at + 30000)) refl) (none_reasoned b)) (look_reasoned b (failing t Look false false) refl)

granted_own : (b : Bool) (step at seconds : ℕ) (renewable : Bool) (from : ℕ) (x : Track) → Reasoned b (granted_from step at seconds renewable from x).attempt
unfolding granted_from
granted_own b step at seconds renewable from x = granted_reasoned b at x.owes (sec from + seconds) x.attempt

renewed_own : (s new : WatchState) (q : Out) (reply : WatchReply) → Reasoned (reason_answered new q.entry reply) (track_at (state_renewed s q reply) q.entry).attempt
unfolding renewed_track
renewed_own s new q (Told seconds renewable date) =
    let i = q.entry in
    let step = (entry_of s i).step in
    let x = track_at s i in
    let b = is_come new i in
    set_holds (λ (y : Track). Reasoned b y.attempt) (none_reasoned b) s.tracks i _
    (granted_own b step s.clocks.at seconds renewable (from_try s.forest.margin step seconds s.clocks.at q.since x.attempt) x)
renewed_own s new q _ = λ renew. refl

-- nothing goes out but at a clock
quiet : (i : ℕ) (output out : WatchOutput) (b : Bool) → output ≡ out → requests_asked_by out.command ≡ [] → renewal_goes_out i (requests_asked_by output.command) ≡ true → b ≡ true
quiet i output out b is none renew = absurd (let bad : true ≡ false = sym renew ∙ ap (λ (x : WatchOutput). renewal_goes_out i (requests_asked_by x.command)) is ∙ ap (renewal_goes_out i) none in cc)

-- an answer, of i or of another
answered :
    (old mid new : WatchState) (q : Out) (reply : WatchReply) (j i : ℕ) (b : Bool) → new ≡ replied mid q reply → q.entry ≡ j → (q.entry ≢ i → track_at mid i ≡ track_at old i) →
    Reasoned (reason_answered (replied mid q reply) q.entry reply) (track_at mid q.entry).attempt → Reasoned b (track_at old i).attempt →
    Reasoned (if j == i then reason_answered new i reply else b) (track_at new i).attempt
answered old mid new q reply j i b is entry other own h =
    elim (cases_Bool (j == i)) [
      | inl same ↦
          let here : q.entry ≡ i = entry ∙ eqb-true j i same in
          let there = after_still (reason_answered (replied mid q reply) q.entry reply) mid q reply q.entry own in
          let all = subst (λ k. Reasoned (reason_answered (replied mid q reply) k reply) (track_at (replied mid q reply) k).attempt) here there in
          subst (λ c. Reasoned c (track_at new i).attempt) (sym (cond-true (j == i) (reason_answered new i reply) b same))
          (subst (λ (x : WatchState). Reasoned (reason_answered x i reply) (track_at x i).attempt) (sym is) all)
      | inr different ↦
          let apart : q.entry ≢ i = λ e. not_both (subst (λ n. (n == i) ≡ true) (sym e ∙ entry) (same_index i)) different in
          subst (λ c. Reasoned c (track_at new i).attempt) (sym (cond-false (j == i) (reason_answered new i reply) b different))
          (subst (λ (x : WatchState). Reasoned b (track_at x i).attempt) (sym is) (after_still b mid q reply i (subst (λ (x : Track). Reasoned b x.attempt) (sym (other apart)) h)))
    ]

looked_outcome :
    (old new : WatchState) (found : Option Out) (j i : ℕ) (reply : WatchReply) (terms : WatchTerms) (output : WatchOutput) (b : Bool) → request_out old.out j Look ≡ found →
    StepLooked old found reply terms output new → Reasoned b (track_at old i).attempt → Outcome i (if j == i then reason_answered new i reply else b) output.command new
looked_outcome old new None j i reply terms output b is step h = absurd step
looked_outcome old new (Some q) j i reply terms output b is step h =
    let s = noted old q reply in (
      quiet i output _ (if j == i then reason_answered new i reply else b) step.0 refl,
      answered old (looked s q reply terms) new q reply j i b step.1 (out_entry old.out j Look q is) (looked_other s q reply terms i) (looked_own s q reply terms) h,
    )

renewed_outcome :
    (old new : WatchState) (found : Option Out) (j i : ℕ) (reply : WatchReply) (output : WatchOutput) (b : Bool) → request_out old.out j Renew ≡ found → StepRenewed old found reply output new →
    Reasoned b (track_at old i).attempt → Outcome i (if j == i then reason_answered new i reply else b) output.command new
renewed_outcome old new None j i reply output b is step h = absurd step
renewed_outcome old new (Some q) j i reply output b is step h =
    let s = noted old q reply in
    let mid = state_renewed s q reply in (
      quiet i output _ (if j == i then reason_answered new i reply else b) step.0 refl,
      answered old mid new q reply j i b step.1 (out_entry old.out j Renew q is) (λ apart. get_or-set_other s.tracks q.entry i _ no_track (λ e. apart (sym e)))
          (renewed_own s (replied mid q reply) q reply) h,
    )

-- an end that is handed in
known_still : (b : Bool) (at end : ℕ) (renewable : Bool) (x : Track) → Still b (owing_past at (told_earlier end renewable x)) x
known_still b at end renewable x h = known_is (λ (y : Track). Reasoned b y.attempt) at end renewable x h (λ out. h) (λ free. sooner_reasoned b (soon at x) x.attempt h)

-- a step, and a turn
step_outcome :
    (old new : WatchState) (event : WatchEvent) (output : WatchOutput) (i : ℕ) (b : Bool) → Step old event output new → Reasoned b (track_at old i).attempt → Outcome i (reason_taken i b event output new) output.command new
step_outcome old new (Clock wall elapsed) output i b step h = clock_outcome old new wall elapsed output i b step h
step_outcome old new (Looked j reply terms) output i b step h = looked_outcome old new (request_out old.out j Look) j i reply terms output b refl step h
step_outcome old new (Renewed j reply) output i b step h = renewed_outcome old new (request_out old.out j Renew) j i reply output b refl step h
step_outcome old new (Known j end renewable) output i b step h =
    (quiet i output _ b step.0 refl, subst (λ (x : WatchState). Reasoned b (track_at x i).attempt) (sym step.1) (set_kept (Still b) (λ x k. k) old.tracks j _ (known_still b old.clocks.at end renewable (track_at old j)) i h))
step_outcome old new _ output i b step h = (quiet i output _ b step.0 refl, subst (λ (x : WatchState). Reasoned b (track_at x i).attempt) (sym step.1) h)

turn_outcome :
    (old new : WatchState) (event : WatchEvent) (result : Result WatchOutput WatchFault) (i : ℕ) (b : Bool) → Turn old event result new → Reasoned b (track_at old i).attempt →
    (renewal_goes_out i (requests_at_turn result) ≡ true → reason i b event result new ≡ true) × Reasoned (reason i b event result new) (track_at new i).attempt
turn_outcome old new event (Ok output) i b turn h = step_outcome old new event output i b turn.1 h
turn_outcome old new event (Err fault) i b turn h = ((λ renew. absurd cc), subst (λ (x : WatchState). Reasoned b (track_at x i).attempt) (sym (refused_stays old new event fault turn)) h)

-- of an entry that is not there yet there is no reason
abbrev ReasonedAt : WatchState → Option ℕ → Bool → Type 0
ReasonedAt s None b = b ≡ false
ReasonedAt s (Some i) b = Reasoned b (track_at s i).attempt

turn_at : (old : WatchState) (turn : Turned) (e : Option ℕ) (b : Bool) → Turn old turn.event turn.result turn.state → ReasonedAt old e b → IsReasonedAt e b turn × ReasonedAt turn.state e (reason_at e b turn)
turn_at old turn None b h reasoned = (tt, refl)
turn_at old turn (Some i) b h reasoned = turn_outcome old turn.state turn.event turn.result i b h reasoned

changed_at : (old : WatchState) (c : Changed) → IsChanged old c → (e : Option ℕ) (b : Bool) → ReasonedAt old (stood_at_some (Changes c) e) b → ReasonedAt c.state e b
changed_at old c h None b reasoned = reasoned
changed_at old c h (Some j) b reasoned = by (former_at c.was j) refl reasoned where
  by : (was : Option ℕ) → former_at c.was j ≡ was → ReasonedAt old was b → Reasoned b (track_at c.state j).attempt
  by None said none =
      elim (cases_lt j (length c.forest.entries)) as (λ _. Reasoned b (track_at c.state j).attempt) [
        | inl within ↦ new_over old c h (λ (y : Track). Reasoned b y.attempt) (λ e. look_reasoned b (owed (soon old.clocks.at (fresh_track e))) refl) j within said
        | inr past ↦ subst (λ (y : Track). Reasoned b y.attempt) (sym (past_over old c h j past)) (none_reasoned b)
      ]
  by (Some i) said kept =
      kept_over old c h (λ (y x : Track). Reasoned b x.attempt → Reasoned b y.attempt) (λ x k. k)
      (λ x k. owed_is (λ (y : Track). Reasoned b y.attempt) old.clocks.at (untopped_track x) (λ out. k) (λ free. sooner_reasoned b (soon old.clocks.at x) x.attempt k)) i j said kept

ran : (k : ℕ) (hs : List Happening) (old : WatchState) (b : Bool) → AllHappen old hs → ReasonedAt old (stood hs k) b → AllReasoned k b hs
ran k [] old b h reasoned = tt
ran k (Hands turn ∷ hs) old b h reasoned =
    let here = turn_at old turn (stood hs k) b h.0 (subst (λ e. ReasonedAt old e b) (stays_there turn (stood hs k)) reasoned) in
    (here.0, ran k hs turn.state (reason_at (stood hs k) b turn) h.1 here.1)
ran k (Changes c ∷ hs) old b h reasoned = ran k hs c.state b h.1 (changed_at old c h.0 (stood hs k) b reasoned)

first_reasoned : (es : List Entry) (i : ℕ) → Reasoned false (track_in (map fresh_track es) i).attempt
first_reasoned [] i = none_reasoned false
first_reasoned (e ∷ es) zero = none_reasoned false
first_reasoned (e ∷ es) (suc i) = first_reasoned es i

pub early : EarlyLaw
early g width hs run k = ran k hs (opened g width) false run (by (stood hs k)) where
  by : (e : Option ℕ) → ReasonedAt (opened g width) e false
  by None = refl
  by (Some i) = first_reasoned g.entries i
