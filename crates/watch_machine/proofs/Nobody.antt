-- Nobody: an answer to a request whose entry is no more makes nothing of any entry, and nothing is noted of it. For `looked` and `renewed`.
use Rattle.std.proofs.Common.{◌≡◌, ◌∙◌, ℕ, ◌≤◌, false, not, ◌&&◌, Some, None, if◌then◌else◌, is_some, length, ap, arith, refl, subst}
use Rattle.std.proofs.lemmas.{Bool.Decides.nat_tests, List.get_or_past, List.set_past}
use Rattle.plan_forest.specs.{declared.entry.Entry.Entry, Push.is_lease}
use Rattle.plan_forest.proofs.Entries.{entry_at_past}
use Rattle.watch_machine.specs.{declared.event.WatchReply.WatchReply, declared.event.WatchTerms.WatchTerms, declared.lanes.Out.Out, declared.track.Track.Track, Answers.with_track, Wanted.is_never}
use Rattle.watch_machine.specs.declared.event.WatchReply.TheVariants.{Told, Refused, Busy, Lost}
use Rattle.watch_machine.specs.Looked.{is_orphaned, looked, told_state, with_terms, with_told_try}
use Rattle.watch_machine.specs.Renewed.{granted_from, renewed_track, state_renewed, top_by, track_renewed}
use Rattle.watch_machine.specs.State.{WatchState, entry_of, no_track, track_at}
use Rattle.watch_machine.specs.Step.{is_watched, notes_of, nothing_noted}
use Rattle.watch_machine.proofs.Tests.{and_no}

-- an index past the last entry, and past the last track
pub record IsPastAll (s : WatchState) (i : ℕ) : Type 0 where
  pub entries : length s.forest.entries ≤ i
  pub tracks : length s.tracks ≤ i

-- an index past the last entry is one past the last track where there is a track for each entry
pub past_all : (s now : WatchState) (i : ℕ) → s ≡ now → length s.tracks ≡ length s.forest.entries → length s.forest.entries ≤ i → IsPastAll now i
past_all s now i is count past = subst (λ (t : WatchState). IsPastAll t i) is (record { entries = past; tracks = omega (arith, count, past) })

track_past : (s : WatchState) (i : ℕ) (x : Track) → length s.tracks ≤ i → with_track s i x ≡ s
track_past s i x past = ap (λ xs. record s { tracks = xs }) (set_past s.tracks i x past)

terms_past : (s : WatchState) (i : ℕ) (terms : WatchTerms) → length s.forest.entries ≤ i → with_terms s i terms ≡ s
terms_past s i terms past = ap (λ es. record s { forest = record s.forest { entries = es } }) (set_past s.forest.entries i _ past)

-- of a lookup
pub looked_past : (s : WatchState) (r : Out) (reply : WatchReply) (terms : WatchTerms) → IsPastAll s r.entry → looked s r reply terms ≡ s
looked_past s r (Told seconds renewable date) terms past =
    let told : told_state s r.entry r.since seconds renewable terms ≡ s = track_past (with_terms s r.entry terms) r.entry _ past.tracks ∙ terms_past s r.entry terms past.entries in
    ap (λ (t : WatchState). with_told_try t r.entry) told ∙ track_past s r.entry _ past.tracks
looked_past s r (Refused status date) terms past = track_past s r.entry _ past.tracks
looked_past s r Busy terms past = track_past s r.entry _ past.tracks
looked_past s r Lost terms past = track_past s r.entry _ past.tracks

watched_not : (s : WatchState) (i : ℕ) → length s.forest.entries ≤ i → is_watched s i ≡ false
watched_not s i past = grind (arith, nat_tests)

orphan_past : (s : WatchState) (i : ℕ) (terms : WatchTerms) → length s.forest.entries ≤ i → is_orphaned terms (entry_of s i) ≡ false
orphan_past s i terms past = ap (λ (e : Entry). terms.orphan && (not (is_lease e.kind) && is_some e.parent)) (entry_at_past s.forest.entries i past) ∙ and_no terms.orphan false refl

pub notes_past : (s : WatchState) (r : Out) (reply : WatchReply) (terms : WatchTerms) → length s.forest.entries ≤ r.entry → notes_of s r reply terms ≡ nothing_noted
notes_past s r (Told seconds renewable date) terms past =
    ap (λ b. record nothing_noted { orphan = b; endless = is_watched s r.entry && (terms.endless && not (is_never (track_at s r.entry).end)) }) (orphan_past s r.entry terms past)
    ∙ ap (λ b. record nothing_noted { endless = b && (terms.endless && not (is_never (track_at s r.entry).end)) }) (watched_not s r.entry past)
notes_past s r (Refused status date) terms past = ap (λ b. record nothing_noted { gone = if b then Some status else None }) (watched_not s r.entry past)
notes_past s r Busy terms past = ap (λ b. record nothing_noted { gone = if b then None else None }) (watched_not s r.entry past)
notes_past s r Lost terms past = ap (λ b. record nothing_noted { gone = if b then None else None }) (watched_not s r.entry past)

-- and of a renewal
pub renewed_past : (s : WatchState) (r : Out) (reply : WatchReply) → length s.tracks ≤ r.entry → state_renewed s r reply ≡ s
renewed_past s r reply past = track_past s r.entry _ past

pub top_past : (s : WatchState) (r : Out) (reply : WatchReply) → length s.tracks ≤ r.entry → top_by reply (track_renewed s r reply) ≡ None
unfolding granted_from renewed_track
top_past s r (Told seconds renewable date) past =
    ap (λ (x : Track). top_by (Told seconds renewable date) (renewed_track s.forest.margin (entry_of s r.entry).step s.clocks.at r (Told seconds renewable date) x)) (get_or_past s.tracks r.entry no_track past)
top_past s r (Refused status date) past = refl
top_past s r Busy past = refl
top_past s r Lost past = refl
