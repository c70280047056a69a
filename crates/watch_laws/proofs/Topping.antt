-- Topping: what every turn keeps of the last grants of an entry. For the law of the top.
use Rattle.std.proofs.Common.{◌≡◌, ◌≢◌, ◌∙◌, ℕ, ◌+◌, ◌-◌, ◌<◌, ◌≤◌, Bool, true, ◌&&◌, ◌||◌, ◌==◌, if◌then◌else◌, List, [], ◌∷◌, ◌++◌, Option, Some, None, Result, Ok, Err, length, map, min, nat_le, nat_lt, refl, sym, ap, subst, arith, inl, inr, ◌⊎◌, not, ap₂, false}
use Rattle.std.proofs.lemmas.Bool.Decides.{nat_tests}
use Rattle.std.proofs.lemmas.Bool.{and_parts, cases_Bool, cond-true, cond-false, eqb-true}
use Rattle.std.proofs.lemmas.List.{append-nil, get_or-map, get_or-set_other, get_or-set_same}
use Rattle.std.specs.List.{list_any}
use Rattle.plan_forest.specs.{declared.entry.Entry.Entry, Forest.entry_at, Forest.no_entry}
use Rattle.watch_machine.specs.{declared.command.WatchOutput.WatchOutput, declared.command.WatchRequest.WatchRequest, declared.event.WatchEvent.WatchEvent, declared.event.WatchReply.WatchReply, declared.event.WatchTerms.WatchTerms}
use Rattle.watch_machine.specs.{declared.fault.WatchFault.WatchFault, declared.lanes.Out.Out, declared.notes.BeginReason.BeginReason, declared.track.End.End, declared.track.End.TheVariants.At, declared.track.Grant.Grant}
use Rattle.watch_machine.specs.{declared.track.Track.Track, Clocks.sec, History.Turn, Refusal.request_out, Round.asked_by_round}
use Rattle.watch_machine.specs.declared.event.WatchEvent.TheVariants.{Clock, Looked, Renewed, Need, Begin, Known}
use Rattle.watch_machine.specs.declared.event.Operation.TheVariants.{Look, Renew}
use Rattle.watch_machine.specs.declared.event.WatchReply.TheVariants.{Told, Refused, Busy, Lost}
use Rattle.watch_machine.specs.Answers.{back_track, noted, replied}
use Rattle.watch_machine.specs.Beginning.{begun, is_called, is_start, owing, owing_lookup, owing_past, soon, sooner_try, untopped, untopped_track}
use Rattle.watch_machine.specs.Looked.{looked, told_state, told_track, untold_track}
use Rattle.watch_machine.specs.Press.{asked_track, dropped, is_fresh, press, pressed, pressed_alone, pressed_track, track_asked_in}
use Rattle.watch_machine.specs.Renewed.{from_try, granted_from, is_no_further, renewed_track, state_renewed, track_renewed, ungranted_track}
use Rattle.watch_machine.specs.Sending.{sent, sent_in, sent_track}
use Rattle.watch_machine.specs.Settling.{settled, settled_track, timed}
use Rattle.watch_machine.specs.State.{WatchState, entry_of, fresh_track, keeps_last_try, no_track, track_at, track_in}
use Rattle.watch_machine.specs.Step.{Step, StepClock, StepLooked, StepRenewed, readied, told_earlier, why}
use Rattle.watch_machine.specs.Wanted.{believed, is_open, need_of, wants}
use Rattle.watch_machine.proofs.{Cases.if_both, Cases.not_both, Within.out_entry, Written.each_length}
use Rattle.watch_laws.specs.{Absence.is_event_taken, Presence.is_told}
use Rattle.watch_laws.specs.Tops.{EndNoFurther, Granted, grant_by, grant_of, grant_told, is_grant_of}
use Rattle.watch_laws.proofs.Clocking.{refused_stays, sent_by}
use Rattle.watch_laws.proofs.Tracking.{back_kept, each_kept, known_is, looked_count, renewed_count, set_count, set_kept}

-- an entry is at its top as it was, and has its last try as it had; or it is at its top no more, and what it had there is over
abbrev pub Tops : Track → Track → Type 0
Tops y x = ((y.top ≡ x.top) × (y.last_try ≡ x.last_try)) ⊎ ((y.top ≡ false) × (y.last_try ≡ keeps_last_try x))

tops_both : (z y x : Track) → Tops z y → Tops y x → Tops z x
tops_both z y x (inl h) (inl k) = inl (h.0 ∙ k.0, h.1 ∙ k.1)
tops_both z y x (inl h) (inr k) = inr (h.0 ∙ k.0, h.1 ∙ k.1)
tops_both z y x (inr h) (inl k) = inr (h.0, h.1 ∙ ap₂ (λ t l. not t && l) k.0 k.1)
tops_both z y x (inr h) (inr k) = inr (h.0, h.1 ∙ ap₂ (λ t l. not t && l) k.0 k.1)

no_new_top : (y x : Track) → Tops y x → y.top ≡ true → x.top ≡ true
no_new_top y x (inl h) top = sym h.0 ∙ top
no_new_top y x (inr h) top = absurd (not_both top h.0)

-- the grant is the same, and no top is new
abbrev pub Lower : Track → Track → Type 0
Lower y x = (y.grant ≡ x.grant) × Tops y x

pub lower_same : (x : Track) → Lower x x
lower_same x = (refl, inl (refl, refl))

lower_both : (z y x : Track) → Lower z y → Lower y x → Lower z x
lower_both z y x h k = (h.0 ∙ k.0, tops_both z y x h.1 k.1)

-- the parts of a clock
settled_lower : (margin at : ℕ) (x : Track) → Lower (settled_track margin at x) x
unfolding settled_track
settled_lower margin at x = (refl, inl (refl, refl))

untopped_lower : (x : Track) → Lower (untopped_track x) x
untopped_lower x = (refl, inr (refl, refl))

owing_lower : (at : ℕ) (first called : Bool) (x : Track) → Lower (owing at first called x) x
unfolding owing
owing_lower at first called x =
    if_both (λ y. Lower y x) (called && (first || is_open (sec at) x)) (owing_lookup at x) x
    (if_both (λ y. Lower y x) x.out (record x { owes = true }) (record x { owes = true; attempt = Some (sooner_try (soon at x) x.attempt) }) (refl, inl (refl, refl)) (refl, inl (refl, refl))) (lower_same x)

pressed_lower : (margin : ℕ) (e : Entry) (need at : ℕ) (x : Track) → Lower (pressed_track margin e need at x) x
unfolding pressed_track
pressed_lower margin e need at x =
    if_both (λ y. Lower y x) (is_fresh margin e x need (sec at)) (record x { attempt = Some (press at x) }) (if wants x need || x.out then x else record x { attempt = dropped x x.attempt })
    (refl, inl (refl, refl)) (if_both (λ y. Lower y x) (wants x need || x.out) x (record x { attempt = dropped x x.attempt }) (lower_same x) (refl, inl (refl, refl)))

asked_lower : (at : ℕ) (round : List ℕ) (i : ℕ) (x : Track) → Lower (track_asked_in at round i x) x
unfolding asked_track
asked_lower at round i x =
    if_both (λ y. Lower y x) (list_any (λ j. j == i) round) (asked_track at x) x
    (if_both (λ y. Lower y x) x.out x (record x { attempt = Some (press at x) }) (lower_same x) (refl, inl (refl, refl))) (lower_same x)

sent_lower : (at : ℕ) (requests : List WatchRequest) (i : ℕ) (x : Track) → Lower (sent_in at requests i x) x
sent_lower at requests i x = if_both (λ y. Lower y x) (list_any (λ (r : WatchRequest). r.entry == i) requests) (sent_track at x) x (refl, inl (refl, refl)) (lower_same x)

begun_lower : (s : WatchState) (w : Option BeginReason) (i : ℕ) → Lower (track_at (begun s w) i) (track_at s i)
begun_lower s None i = lower_same (track_at s i)
begun_lower s (Some w) i =
    let xs = untopped s.tracks in
    lower_both (track_at (begun s (Some w)) i) (track_in xs i) (track_at s i)
    (each_kept Lower (lower_same no_track) (λ j. owing s.clocks.at (is_start w) (is_called s.forest xs s.clocks j)) xs (λ j x. owing_lower s.clocks.at (is_start w) (is_called s.forest xs s.clocks j) x) i)
    (each_kept Lower (lower_same no_track) (λ j. untopped_track) s.tracks (λ j x. untopped_lower x) i)

readied_lower : (s : WatchState) (wall elapsed i : ℕ) → Lower (track_at (readied s wall elapsed) i) (track_at s i)
unfolding readied
readied_lower s wall elapsed i =
    let t = timed s wall elapsed in
    lower_both (track_at (begun (settled t) (why s wall elapsed)) i) (track_at (settled t) i) (track_at s i) (begun_lower (settled t) (why s wall elapsed) i)
    (each_kept Lower (lower_same no_track) (λ j. settled_track t.forest.margin t.clocks.at) s.tracks (λ j x. settled_lower t.forest.margin t.clocks.at x) i)

mid_lower : (s : WatchState) (round : List ℕ) (requests : List WatchRequest) (i : ℕ) → Lower (track_at (sent (pressed s round) requests) i) (track_at s i)
mid_lower s round requests i =
    let c = s.clocks in
    let g = s.forest in
    let alone = pressed_alone g c s.tracks in
    let mid = pressed s round in
    lower_both (track_at (sent mid requests) i) (track_at mid i) (track_at s i) (each_kept Lower (lower_same no_track) (sent_in c.at requests) mid.tracks (λ j x. sent_lower c.at requests j x) i)
    (lower_both (track_at mid i) (track_in alone i) (track_at s i)
    (each_kept Lower (lower_same no_track) (track_asked_in c.at round) alone (asked_lower c.at round) i)
    (each_kept Lower (lower_same no_track) (λ j. pressed_track g.margin (entry_at g.entries j) (need_of g.entries s.tracks c j) c.at) s.tracks (λ j x. pressed_lower g.margin (entry_at g.entries j) (need_of g.entries s.tracks c j) c.at x) i))

clock_lower : (old new : WatchState) (wall elapsed : ℕ) (output : WatchOutput) (i : ℕ) → StepClock old wall elapsed output new → Lower (track_at new i) (track_at old i)
clock_lower old new wall elapsed output i step =
    let ready = readied old wall elapsed in
    let is = sent_by (pressed ready (asked_by_round step.round)) new output.command step.command in
    subst (λ (x : WatchState). Lower (track_at x i) (track_at old i)) (sym is.1)
    (lower_both (track_at (sent (pressed ready (asked_by_round step.round)) is.0) i) (track_at ready i) (track_at old i) (mid_lower ready (asked_by_round step.round) is.0 i) (readied_lower old wall elapsed i))

-- as many tracks
begun_count : (s : WatchState) (w : Option BeginReason) → length (begun s w).tracks ≡ length s.tracks
begun_count s None = refl
begun_count s (Some w) = each_length _ (untopped s.tracks) ∙ each_length (λ j. untopped_track) s.tracks

pub readied_count : (s : WatchState) (wall elapsed : ℕ) → length (readied s wall elapsed).tracks ≡ length s.tracks
unfolding readied
readied_count s wall elapsed = begun_count (settled (timed s wall elapsed)) (why s wall elapsed) ∙ each_length _ s.tracks

clock_count : (old new : WatchState) (wall elapsed : ℕ) (output : WatchOutput) → StepClock old wall elapsed output new → length new.tracks ≡ length old.tracks
clock_count old new wall elapsed output step =
    let ready = readied old wall elapsed in
    let mid = pressed ready (asked_by_round step.round) in
    let is = sent_by mid new output.command step.command in
    ap (λ (x : WatchState). length x.tracks) is.1 ∙ each_length (sent_in mid.clocks.at is.0) mid.tracks ∙ each_length _ (pressed_alone ready.forest ready.clocks ready.tracks) ∙ each_length _ ready.tracks
    ∙ readied_count old wall elapsed

-- the answer to a lookup
told_lower : (since seconds : ℕ) (renewable endless : Bool) (x : Track) → Lower (told_track since seconds renewable endless x) x
unfolding told_track
told_lower since seconds renewable endless x = (refl, inl (refl, refl))

untold_lower : (at : ℕ) (heard : Bool) (reply : WatchReply) (x : Track) → Lower (untold_track at heard reply x) x
unfolding untold_track
untold_lower at heard reply x = (refl, inl (refl, refl))

looked_lower : (s : WatchState) (r : Out) (reply : WatchReply) (terms : WatchTerms) (i : ℕ) → Lower (track_at (looked s r reply terms) i) (track_at s i)
looked_lower s r (Told seconds renewable date) terms i =
    let mid = told_state s r.entry r.since seconds renewable terms in
    lower_both (track_at (looked s r (Told seconds renewable date) terms) i) (track_at mid i) (track_at s i) (set_kept Lower lower_same mid.tracks r.entry _ (refl, inl (refl, refl)) i)
    (set_kept Lower lower_same s.tracks r.entry (told_track r.since seconds renewable terms.endless (track_at s r.entry)) (told_lower r.since seconds renewable terms.endless (track_at s r.entry)) i)
looked_lower s r (Refused status date) terms i = set_kept Lower lower_same s.tracks r.entry _ (untold_lower s.clocks.at r.heard (Refused status date) (track_at s r.entry)) i
looked_lower s r Busy terms i = set_kept Lower lower_same s.tracks r.entry _ (untold_lower s.clocks.at r.heard Busy (track_at s r.entry)) i
looked_lower s r Lost terms i = set_kept Lower lower_same s.tracks r.entry _ (untold_lower s.clocks.at r.heard Lost (track_at s r.entry)) i

-- all but the try is the same
abbrev Alike : Track → Track → Type 0
Alike y x = Lower y x × (y.end ≡ x.end)

after_alike : (s : WatchState) (r : Out) (reply : WatchReply) (i : ℕ) → Alike (track_at (replied s r reply) i) (track_at s i)
unfolding back_track
after_alike s r reply i = back_kept Alike (λ x. (lower_same x, refl)) (λ x. ((refl, inl (refl, refl)), refl)) s r reply i

-- the last of some grants is the one that is kept
abbrev told_grant : Grant → Granted
told_grant g = record { seconds = g.seconds; from = sec g.from }

abbrev EndIn : List Granted → Option Grant → Type 0
EndIn gs None = Unit {0}
EndIn gs (Some g) = (earlier : List Granted) × (gs ≡ earlier ++ told_grant g ∷ [])

pub record Kept (gs : List Granted) (x : Track) : Type 0 where
  pub last : EndIn gs x.grant
  pub topped : x.top ≡ true → EndNoFurther gs

pub lower_kept : (gs : List Granted) (y x : Track) → Lower y x → Kept gs x → Kept gs y
lower_kept gs y x h k = record { last = subst (EndIn gs) (sym h.0) k.last; topped = λ top. k.topped (no_new_top y x h.1 top) }

-- a grant
append_two : (xs : List Granted) (y z : Granted) → (xs ++ y ∷ []) ++ z ∷ [] ≡ xs ++ y ∷ z ∷ []
append_two [] y z = refl
append_two (x ∷ xs) y z = ap (λ ys. x ∷ ys) (append_two xs y z)

further : (step seconds from' : ℕ) (before : Option Grant) (end : End) (gs : List Granted) → EndIn gs before → is_no_further step seconds from' before end ≡ true → EndNoFurther (gs ++ told_grant (record { seconds = seconds; from = from' }) ∷ [])
further step seconds from' None end gs last top = absurd cc
further step seconds from' (Some b) (At end) gs last top =
    let apart = and_parts (nat_le (sec b.from + 2) (sec from')) _ top in
    let rest = and_parts (nat_lt b.seconds step) _ apart.1 in
    let low = and_parts (nat_lt seconds step) _ rest.1 in
    let this = told_grant (record { seconds = seconds; from = from' }) in
    let two : sec b.from + 2 ≤ sec from' = (let a = apart.0 in grind (arith, nat_tests)) in
    let most : sec from' + seconds ≤ min end (sec b.from + b.seconds) + 1 = (let l = low.1 in grind (arith, nat_tests)) in (
      last.0,
      (
        told_grant b,
        (
          this,
          (
            ap (λ ys. ys ++ this ∷ []) last.1 ∙ append_two last.0 (told_grant b) this,
            record { apart = omega (arith, two); no_further = omega (arith, most) },
          ),
        ),
      ),
    )
further step seconds from' (Some b) _ gs last top = absurd cc

granted_kept : (step at seconds : ℕ) (renewable : Bool) (from' : ℕ) (x : Track) (gs : List Granted) → Kept gs x → Kept (gs ++ told_grant (record { seconds = seconds; from = from' }) ∷ []) (granted_from step at seconds renewable from' x)
unfolding granted_from
granted_kept step at seconds renewable from' x gs k = record { last = (gs, refl); topped = λ top. further step seconds from' x.grant x.end gs k.last top }

granted_end : (step at seconds : ℕ) (renewable : Bool) (from' : ℕ) (x : Track) → believed (granted_from step at seconds renewable from' x).end ≡ sec from' + seconds
unfolding granted_from
granted_end step at seconds renewable from' x = refl

-- the answer to a renewal: of the entry itself
ungranted_lower : (at : ℕ) (heard : Bool) (reply : WatchReply) (x : Track) → Lower (ungranted_track at heard reply x) x
unfolding ungranted_track
ungranted_lower at heard reply x = (refl, inl (refl, refl))

pub none_more : (gs : List Granted) (x : Track) → Kept gs x → Kept (gs ++ []) x
none_more gs x k = subst (λ ys. Kept ys x) (sym (append-nil gs)) k

own_renewed :
    (s new : WatchState) (r : Out) (reply : WatchReply) (i : ℕ) (gs : List Granted) → i < length s.tracks → r.entry ≡ i → Alike (track_at new i) (track_at (state_renewed s r reply) i) → Kept gs (track_at s i) →
    Kept (gs ++ grant_told i new reply) (track_at new i)
unfolding renewed_track
own_renewed s new r (Told seconds renewable date) i gs within own alike k =
    let g = s.forest in
    let step = (entry_of s r.entry).step in
    let x = track_at s r.entry in
    let from' = from_try g.margin step seconds s.clocks.at r.since x.attempt in
    let made = granted_from step s.clocks.at seconds renewable from' x in
    let there : track_at (state_renewed s r (Told seconds renewable date)) i ≡ made =
    subst (λ j. track_at (state_renewed s r (Told seconds renewable date)) j ≡ made) own (get_or-set_same s.tracks r.entry made no_track (omega (arith, own, within))) in
    let this = told_grant (record { seconds = seconds; from = from' }) in
    let here = granted_kept step s.clocks.at seconds renewable from' x gs (subst (λ j. Kept gs (track_at s j)) (sym own) k) in
    let kept = lower_kept (gs ++ this ∷ []) (track_at new i) made (subst (λ y. Lower (track_at new i) y) there alike.0) here in
    let end : believed (track_at new i).end ≡ sec from' + seconds = ap believed (alike.1 ∙ ap (λ (y : Track). y.end) there) ∙ granted_end step s.clocks.at seconds renewable from' x in
    let counts : believed (track_at new i).end - seconds ≡ sec from' = omega (arith, end) in
    subst (λ n. Kept (gs ++ record { seconds = seconds; from = n } ∷ []) (track_at new i)) (sym counts) kept
own_renewed s new r (Refused status date) i gs within own alike k =
    none_more gs (track_at new i) (lower_kept gs (track_at new i) (track_at s i) (lower_both (track_at new i) (track_at (state_renewed s r (Refused status date)) i) (track_at s i) alike.0
    (set_kept Lower lower_same s.tracks r.entry _ (ungranted_lower s.clocks.at r.heard (Refused status date) (track_at s r.entry)) i)) k)
own_renewed s new r Busy i gs within own alike k =
    none_more gs (track_at new i) (lower_kept gs (track_at new i) (track_at s i) (lower_both (track_at new i) (track_at (state_renewed s r Busy) i) (track_at s i) alike.0
    (set_kept Lower lower_same s.tracks r.entry _ (ungranted_lower s.clocks.at r.heard Busy (track_at s r.entry)) i)) k)
own_renewed s new r Lost i gs within own alike k =
    none_more gs (track_at new i) (lower_kept gs (track_at new i) (track_at s i) (lower_both (track_at new i) (track_at (state_renewed s r Lost) i) (track_at s i) alike.0
    (set_kept Lower lower_same s.tracks r.entry _ (ungranted_lower s.clocks.at r.heard Lost (track_at s r.entry)) i)) k)

same_index : (i : ℕ) → (i == i) ≡ true
same_index i = grind (arith, nat_tests)

-- or of another
renewed_kept :
    (old new : WatchState) (o : Option Out) (j i : ℕ) (reply : WatchReply) (output : WatchOutput) (gs : List Granted) → request_out old.out j Renew ≡ o → StepRenewed old o reply output new →
    i < length old.tracks → Kept gs (track_at old i) → Kept (gs ++ grant_by i new (Renewed j reply)) (track_at new i)
renewed_kept old new None j i reply output gs is step within k = absurd step
renewed_kept old new (Some r) j i reply output gs is step within k =
    let s = noted old r reply in
    let mid = state_renewed s r reply in
    let entry = out_entry old.out j Renew r is in
    let alike = subst (λ (x : WatchState). Alike (track_at x i) (track_at mid i)) (sym step.1) (after_alike mid r reply i) in
    elim (cases_Bool (j == i)) [
      | inl same ↦
          subst (λ ys. Kept (gs ++ ys) (track_at new i)) (sym (cond-true (j == i) (grant_told i new reply) [] same))
          (own_renewed s new r reply i gs within (entry ∙ eqb-true j i same) alike k)
      | inr other ↦
          let apart : i ≢ r.entry = λ e. not_both (subst (λ n. (n == i) ≡ true) (e ∙ entry) (same_index i)) other in
          let left : track_at mid i ≡ track_at s i = get_or-set_other s.tracks r.entry i (track_renewed s r reply) no_track apart in
          subst (λ ys. Kept (gs ++ ys) (track_at new i)) (sym (cond-false (j == i) (grant_told i new reply) [] other))
          (none_more gs (track_at new i) (lower_kept gs (track_at new i) (track_at s i) (subst (λ y. Lower (track_at new i) y) left alike.0) k))
    ]

looked_kept :
    (old new : WatchState) (o : Option Out) (i : ℕ) (reply : WatchReply) (terms : WatchTerms) (output : WatchOutput) → StepLooked old o reply terms output new → Lower (track_at new i) (track_at old i)
looked_kept old new None i reply terms output step = absurd step
looked_kept old new (Some r) i reply terms output step =
    let s = noted old r reply in
    let mid = looked s r reply terms in
    subst (λ (x : WatchState). Lower (track_at x i) (track_at old i)) (sym step.1)
    (lower_both (track_at (replied mid r reply) i) (track_at mid i) (track_at old i) (after_alike mid r reply i).0 (looked_lower s r reply terms i))

-- a step, and a turn
quiet_kept : (old new : WatchState) (i : ℕ) (gs : List Granted) → Lower (track_at new i) (track_at old i) → Kept gs (track_at old i) → Kept (gs ++ []) (track_at new i)
quiet_kept old new i gs low k = none_more gs (track_at new i) (lower_kept gs (track_at new i) (track_at old i) low k)

known_lower : (at end : ℕ) (renewable : Bool) (x : Track) → Lower (owing_past at (told_earlier end renewable x)) x
known_lower at end renewable x = known_is (λ y. Lower y x) at end renewable x (refl, inl (refl, refl)) (λ out. (refl, inl (refl, refl))) (λ free. (refl, inl (refl, refl)))

-- whatever is no grant of an entry leaves it so
renewed_untold : (s : WatchState) (r : Out) (reply : WatchReply) (i : ℕ) → is_told reply ≡ false → Lower (track_at (state_renewed s r reply) i) (track_at s i)
unfolding renewed_track
renewed_untold s r (Told seconds renewable date) i none = absurd cc
renewed_untold s r (Refused status date) i none = set_kept Lower lower_same s.tracks r.entry _ (ungranted_lower s.clocks.at r.heard (Refused status date) (track_at s r.entry)) i
renewed_untold s r Busy i none = set_kept Lower lower_same s.tracks r.entry _ (ungranted_lower s.clocks.at r.heard Busy (track_at s r.entry)) i
renewed_untold s r Lost i none = set_kept Lower lower_same s.tracks r.entry _ (ungranted_lower s.clocks.at r.heard Lost (track_at s r.entry)) i

renewed_lower :
    (old new : WatchState) (o : Option Out) (j i : ℕ) (reply : WatchReply) (output : WatchOutput) → request_out old.out j Renew ≡ o → StepRenewed old o reply output new → j == i && is_told reply ≡ false →
    Lower (track_at new i) (track_at old i)
renewed_lower old new None j i reply output is step none = absurd step
renewed_lower old new (Some r) j i reply output is step none =
    let s = noted old r reply in
    let mid = state_renewed s r reply in
    let entry = out_entry old.out j Renew r is in
    let alike = subst (λ (x : WatchState). Alike (track_at x i) (track_at mid i)) (sym step.1) (after_alike mid r reply i) in
    elim (cases_Bool (j == i)) as (λ _. Lower (track_at new i) (track_at old i)) [
      | inl same ↦ lower_both (track_at new i) (track_at mid i) (track_at old i) alike.0 (renewed_untold s r reply i (sym (ap (λ b. b && is_told reply) same) ∙ none))
      | inr other ↦
          let apart : i ≢ r.entry = λ e. not_both (subst (λ n. (n == i) ≡ true) (e ∙ entry) (same_index i)) other in
          subst (λ y. Lower (track_at new i) y) (get_or-set_other s.tracks r.entry i (track_renewed s r reply) no_track apart) alike.0
    ]

step_lower : (old new : WatchState) (event : WatchEvent) (output : WatchOutput) (i : ℕ) → Step old event output new → is_grant_of i event ≡ false → Lower (track_at new i) (track_at old i)
step_lower old new (Clock wall elapsed) output i step none = clock_lower old new wall elapsed output i step
step_lower old new (Looked j reply terms) output i step none = looked_kept old new (request_out old.out j Look) i reply terms output step
step_lower old new (Renewed j reply) output i step none = renewed_lower old new (request_out old.out j Renew) j i reply output refl step none
step_lower old new (Known j end renewable) output i step none =
    subst (λ (x : WatchState). Lower (track_at x i) (track_at old i)) (sym step.1) (set_kept Lower lower_same old.tracks j _ (known_lower old.clocks.at end renewable (track_at old j)) i)
step_lower old new _ output i step none = subst (λ (x : WatchState). Lower (track_at x i) (track_at old i)) (sym step.1) (lower_same (track_at old i))

pub turn_lower :
    (old new : WatchState) (event : WatchEvent) (result : Result WatchOutput WatchFault) (i : ℕ) → Turn old event result new → is_event_taken result && is_grant_of i event ≡ false → Lower (track_at new i) (track_at old i)
turn_lower old new event (Ok output) i turn none = step_lower old new event output i turn.1 none
turn_lower old new event (Err fault) i turn none = subst (λ (x : WatchState). Lower (track_at x i) (track_at old i)) (sym (refused_stays old new event fault turn)) (lower_same (track_at old i))

step_kept :
    (old new : WatchState) (event : WatchEvent) (output : WatchOutput) (i : ℕ) (gs : List Granted) → Step old event output new → i < length old.tracks → Kept gs (track_at old i) →
    Kept (gs ++ grant_by i new event) (track_at new i)
step_kept old new (Clock wall elapsed) output i gs step within k = quiet_kept old new i gs (clock_lower old new wall elapsed output i step) k
step_kept old new (Looked j reply terms) output i gs step within k = quiet_kept old new i gs (looked_kept old new (request_out old.out j Look) i reply terms output step) k
step_kept old new (Renewed j reply) output i gs step within k = renewed_kept old new (request_out old.out j Renew) j i reply output gs refl step within k
step_kept old new (Need j until) output i gs step within k =
    quiet_kept old new i gs (subst (λ (x : WatchState). Lower (track_at x i) (track_at old i)) (sym step.1) (lower_same (track_at old i))) k
step_kept old new Begin output i gs step within k = quiet_kept old new i gs (subst (λ (x : WatchState). Lower (track_at x i) (track_at old i)) (sym step.1) (lower_same (track_at old i))) k
step_kept old new (Known j end renewable) output i gs step within k =
    quiet_kept old new i gs (subst (λ (x : WatchState). Lower (track_at x i) (track_at old i)) (sym step.1) (set_kept Lower lower_same old.tracks j _ (known_lower old.clocks.at end renewable (track_at old j)) i)) k

looked_many : (old new : WatchState) (o : Option Out) (reply : WatchReply) (terms : WatchTerms) (output : WatchOutput) → StepLooked old o reply terms output new → length new.tracks ≡ length old.tracks
looked_many old new None reply terms output step = absurd step
looked_many old new (Some r) reply terms output step = ap (λ (x : WatchState). length x.tracks) step.1 ∙ looked_count old r reply terms

renewed_many : (old new : WatchState) (o : Option Out) (reply : WatchReply) (output : WatchOutput) → StepRenewed old o reply output new → length new.tracks ≡ length old.tracks
renewed_many old new None reply output step = absurd step
renewed_many old new (Some r) reply output step = ap (λ (x : WatchState). length x.tracks) step.1 ∙ renewed_count old r reply

step_count : (old new : WatchState) (event : WatchEvent) (output : WatchOutput) → Step old event output new → length new.tracks ≡ length old.tracks
step_count old new (Clock wall elapsed) output step = clock_count old new wall elapsed output step
step_count old new (Looked j reply terms) output step = looked_many old new (request_out old.out j Look) reply terms output step
step_count old new (Renewed j reply) output step = renewed_many old new (request_out old.out j Renew) reply output step
step_count old new (Known j end renewable) output step = ap (λ (x : WatchState). length x.tracks) step.1 ∙ set_count old j _
step_count old new _ output step = ap (λ (x : WatchState). length x.tracks) step.1

pub turn_count : (old new : WatchState) (event : WatchEvent) (result : Result WatchOutput WatchFault) → Turn old event result new → length new.tracks ≡ length old.tracks
turn_count old new event (Ok output) turn = step_count old new event output turn.1
turn_count old new event (Err fault) turn = ap (λ (x : WatchState). length x.tracks) (refused_stays old new event fault turn)

pub turn_kept :
    (old new : WatchState) (event : WatchEvent) (result : Result WatchOutput WatchFault) (i : ℕ) (gs : List Granted) → Turn old event result new → i < length old.tracks → Kept gs (track_at old i) →
    Kept (gs ++ grant_of i new event result) (track_at new i)
turn_kept old new event (Ok output) i gs turn within k = step_kept old new event output i gs turn.1 within k
turn_kept old new event (Err fault) i gs turn within k =
    none_more gs (track_at new i) (subst (λ (x : WatchState). Kept gs (track_at x i)) (sym (refused_stays old new event fault turn)) k)

pub first_track : (es : List Entry) (i : ℕ) → i < length es → track_in (map fresh_track es) i ≡ fresh_track (entry_at es i)
unfolding entry_at
first_track es i within = get_or-map fresh_track es i no_entry no_track within

-- what a change makes of an entry that is told anew
pub owed_lower : (at : ℕ) (x : Track) → Lower (owing_lookup at (untopped_track x)) x
owed_lower at x =
    if_both (λ y. Lower y x) x.out (record (untopped_track x) { owes = true }) (record (untopped_track x) { owes = true; attempt = Some (sooner_try (soon at x) x.attempt) }) (refl, inr (refl, refl)) (refl, inr (refl, refl))
