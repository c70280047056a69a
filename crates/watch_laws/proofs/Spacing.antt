-- Spacing: what every turn keeps of the last request of an entry, and how far from it the next one is. For the law of the second
-- between.
use Rattle.std.proofs.Common.{◌≡◌, ◌≢◌, ◌⊎◌, ◌∙◌, ℕ, ◌+◌, ◌-◌, ◌<◌, ◌≤◌, min, max, Bool, true, false, not, ◌&&◌, ◌||◌, ◌==◌, if◌then◌else◌, List, [], ◌∷◌, Option, Some, None, Result, Ok, Err, IfSome, All, filter, is_none, get_or, length, map, refl, sym, ap, subst, arith, inl, inr, true≢false}
use Rattle.std.proofs.Math.Nat.{le-max_right}
use Rattle.std.proofs.lemmas.Bool.Decides.{nat_tests}
use Rattle.std.proofs.lemmas.Bool.{and_parts, cases_Bool, cases_lt, cond-false, cond-true, eqb-true}
use Rattle.std.proofs.lemmas.List.{get_or_past, get_or-set_other, get_or-set_same, length-set}
use Rattle.std.proofs.lemmas.List.Elements.{All-append, All-cons, All-filter, All-map, All-nil, All-weaker, filter_passes}
use Rattle.std.specs.List.{find, list_any}
use Rattle.plan_forest.specs.{declared.entry.Entry.Entry, Forest.entry_at}
use Rattle.watch_machine.specs.{declared.command.WatchCommand.WatchCommand, declared.command.WatchOutput.WatchOutput, declared.command.WatchRequest.WatchRequest, declared.event.WatchEvent.WatchEvent, declared.event.Operation.Operation}
use Rattle.watch_machine.specs.{declared.event.WatchReply.WatchReply, declared.event.WatchTerms.WatchTerms, declared.fault.WatchFault.WatchFault, declared.lanes.Out.Out, declared.lanes.Presence.Presence}
use Rattle.watch_machine.specs.{declared.notes.BeginReason.BeginReason, declared.track.Track.Track, declared.track.Try.Try, Clocks.sec, History.Turn, Refusal.is_same, Refusal.request_out, Round.asked_by_round as round_of}
use Rattle.watch_machine.specs.declared.command.WatchCommand.TheVariants.{Go, Taken}
use Rattle.watch_machine.specs.declared.event.WatchEvent.TheVariants.{Clock, Looked, Renewed, Need, Begin, Known}
use Rattle.watch_machine.specs.declared.event.Operation.TheVariants.{Look, Renew}
use Rattle.watch_machine.specs.declared.event.WatchReply.TheVariants.{Told, Refused, Busy, Lost}
use Rattle.watch_machine.specs.Answers.{answers_all, back_track, heard, lane_freed, noted, replied, silent, without_request}
use Rattle.watch_machine.specs.Beginning.{begun, is_called, is_start, owing, owing_lookup, soon, sooner_try, untopped, untopped_track}
use Rattle.watch_machine.specs.Lines.{is_due, is_due_try, is_first, later_at, ready, rested}
use Rattle.watch_machine.specs.Looked.{is_called_for, looked, told_state, told_track, told_try}
use Rattle.watch_machine.specs.Press.{asked_track, dropped, is_fresh, press, pressed, pressed_alone, pressed_track, track_asked_in}
use Rattle.watch_machine.specs.Renewed.{from_try, renewed_track, state_renewed}
use Rattle.watch_machine.specs.Sending.{out_at, sent as sent_state, sent_in, sent_track}
use Rattle.watch_machine.specs.Settling.{is_real, settled, settled_track, timed}
use Rattle.watch_machine.specs.State.{WatchState, entry_of, no_track, track_at, track_in}
use Rattle.watch_machine.specs.Step.{Step, StepClock, StepCommand, StepLooked, StepRenewed, known, readied, why, with_need_until}
use Rattle.watch_machine.specs.Wanted.{is_open, need_of, wants}
use Rattle.watch_machine.proofs.{Seeing.each_read, Within.out_all, Written.each_length}
use Rattle.watch_machine.proofs.Cases.{if_both, if_cases, not_both, value_is}
use Rattle.watch_laws.specs.Load.{AreApartFrom, IsApart, Sent, SentAreApart, requests_asked_by, requests_at_turn, sent_at}
use Rattle.watch_laws.proofs.Topping.{readied_count}
use Rattle.watch_laws.proofs.Answering.{looked_leaves, renewed_leaves, rest_of}
use Rattle.watch_laws.proofs.Clocking.{begun_some, clock_rises, readied_clocks, refused_stays}
use Rattle.watch_laws.proofs.Going.{Goes, asks_by, entry_by, goes, named_of, one_sent, operation_of, request_at, sent_of}
use Rattle.watch_laws.proofs.Resting.{Follows, IsReady, MayFollow, Rests, asked_ready, back_rests, granted_rests, known_rests, owing_ready, pressed_ready, rested_is, settled_ready, told_rests, ungranted_rests, untold_rests, untopped_ready}
use Rattle.watch_laws.proofs.Tracking.{back_kept, each_at, each_kept, known_out, set_kept}

-- a due try goes out a second after r, or is the renewal right after it
ready_apart :
    (p : Presence) (at : ℕ) (x : Track) (r : Sent) (t : Try) → r.at ≤ at → x.last ≡ Some r.at → Follows r t → ready p x t ≤ at →
    IsApart r (record { operation = t.operation; at = at })
unfolding ready
ready_apart p at x r t past last (inl after) due =
    let is = rested_is r x.last last in
    let held = le-max_right p.hold (later_at p.away x t) in
    let late : r.at + 1000 ≤ later_at p.away x t = if_cases (λ n. r.at + 1000 ≤ n) (p.away && t.lost) (min t.at (rested x.last)) t.at (λ e. omega (arith, is, after)) (λ e. after) in
    let most : r.at + 1000 ≤ (if is_first t then t.at else max p.hold (later_at p.away x t)) =
    if_cases (λ n. r.at + 1000 ≤ n) (is_first t) t.at (max p.hold (later_at p.away x t)) (λ e. after) (λ e. omega (arith, held, late)) in
    inl (omega (arith, most, due))
ready_apart p at x r t past last (inr renewal) due = inr (past, renewal)

due_apart :
    (p : Presence) (at : ℕ) (x : Track) (r : Sent) (o : Option Try) → r.at ≤ at → x.last ≡ Some r.at → IfSome o (Follows r) → is_due_try p at x o ≡ true →
    IsApart r (record { operation = operation_of o; at = at })
due_apart p at x r None past last h due = absurd cc
due_apart p at x r (Some t) past last h due = ready_apart p at x r t past last h (grind (arith, nat_tests))

pub free_of : (p : Presence) (at : ℕ) (x : Track) → is_due p at x ≡ true → (x.out ≡ false) × (is_due_try p at x x.attempt ≡ true)
unfolding is_due
free_of p at x due = let both = and_parts (not x.out) (is_due_try p at x x.attempt) due in (not_so x.out both.0, both.1) where
  not_so : (b : Bool) → not b ≡ true → b ≡ false
  not_so true h = absurd cc
  not_so false h = refl

due_is_apart : (p : Presence) (at : ℕ) (x : Track) (r : Sent) → r.at ≤ at → IsReady r x → is_due p at x ≡ true → IsApart r (record { operation = operation_of x.attempt; at = at })
due_is_apart p at x r past h due = let free = free_of p at x due in due_apart p at x r x.attempt past h.last (h.attempt free.0) free.1

-- a request that is out of i says so in its track, and asks what r did
abbrev pub IsOf : WatchState → ℕ → (Operation → Type 0) → Out → Type 0
IsOf s i P q = q.entry ≡ i → ((track_at s i).out ≡ true) × P q.operation

-- what every turn keeps, where r is the last request of i
pub record IsSpaced (s : WatchState) (i : ℕ) (r : Sent) : Type 0 where
  pub begun : is_none s.begun ≡ false
  pub past : r.at ≤ s.clocks.at
  pub out : All (IsOf s i (λ o. r.operation ≡ o)) s.out
  pub rests : Rests r (track_at s i)

abbrev pub Any : Operation → Type 0
Any o = Unit {0}

abbrev pub Keeps : WatchState → ℕ → Option Sent → Type 0
Keeps s i None = All (IsOf s i Any) s.out
Keeps s i (Some r) = IsSpaced s i r

-- the requests that are out after an answer
module _ (P : Out → Type 0) (hears : (q : Out) → P q → P (heard q)) where
  pub replied_out : (s : WatchState) (r : Out) (reply : WatchReply) → All P (without_request r.entry s.out) → All P (replied s r reply).out
  replied_out s r reply all =
      let free = lane_freed s r in
      if_both (λ (t : WatchState). All P t.out) (is_real reply) (answers_all free) (if r.heard then free else silent free)
      (if_both (λ (t : WatchState). All P t.out) s.presence.away _ _ (All-map P heard (without_request r.entry s.out) (All-weaker P (λ q. P (heard q)) hears (without_request r.entry s.out) all))
      (All-map P heard (without_request r.entry s.out) (All-weaker P (λ q. P (heard q)) hears (without_request r.entry s.out) all)))
      (if_both (λ (t : WatchState). All P t.out) r.heard free (silent free) all (if_both (λ (t : WatchState). All P t.out) s.presence.away _ _ all all))

without_of : (P : Out → Type 0) (i : ℕ) (out : List Out) → All P out → All P (without_request i out)
unfolding without_request
without_of P i out all = All-filter (λ q. not (q.entry == i)) P out all

pub same_index : (i : ℕ) → (i == i) ≡ true
same_index i = grind (arith, nat_tests)

without_none : (P : Operation → Type 0) (s : WatchState) (i : ℕ) (out : List Out) → All (IsOf s i P) (without_request i out)
unfolding without_request
without_none P s i out =
    All-weaker (λ (q : Out). not (q.entry == i) ≡ true) (IsOf s i P) (λ q other is. absurd (true≢false (sym other ∙ ap (λ n. not (n == i)) is ∙ ap not (same_index i))))
    (filter (λ (q : Out). not (q.entry == i)) out) (filter_passes (λ (q : Out). not (q.entry == i)) out)

-- the flag of a track
abbrev pub Flag : Track → Track → Type 0
Flag y x = y.out ≡ x.out

-- the parts of a clock leave it
module _ (r : Sent) where
  -- and keep the rest
  abbrev Readies : Track → Track → Type 0
  Readies y x = Rests r x → IsReady r y

  abbrev StillReady : Track → Track → Type 0
  StillReady y x = IsReady r x → IsReady r y

  none_rests : Rests r no_track → IsReady r no_track
  none_rests h = absurd (let e = h.last in cc)

  begun_ready : (s : WatchState) (w : Option BeginReason) (i : ℕ) → IsReady r (track_at s i) → IsReady r (track_at (begun s w) i)
  begun_ready s None i h = h
  begun_ready s (Some w) i h =
      let xs = untopped s.tracks in
      each_kept StillReady (λ k. k) (λ j. owing s.clocks.at (is_start w) (is_called s.forest xs s.clocks j)) xs (λ j x. owing_ready r s.clocks.at (is_start w) (is_called s.forest xs s.clocks j) x) i
      (each_kept StillReady (λ k. k) (λ j. untopped_track) s.tracks (λ j x. untopped_ready r x) i h)

  pub readied_ready : (s : WatchState) (wall elapsed i : ℕ) → is_none s.begun ≡ false → r.at ≤ s.clocks.at → Rests r (track_at s i) → IsReady r (track_at (readied s wall elapsed) i)
  unfolding readied
  readied_ready s wall elapsed i begun' past h =
      let t = timed s wall elapsed in
      let rises = clock_rises s wall elapsed begun' in
      let now : r.at ≤ t.clocks.at = omega (arith, rises, past) in
      begun_ready (settled t) (why s wall elapsed) i (each_kept Readies none_rests (λ j. settled_track t.forest.margin t.clocks.at) s.tracks (λ j x. settled_ready r t.forest.margin t.clocks.at x now) i h)

  pub mid_ready : (s : WatchState) (round : List ℕ) (i : ℕ) → IsReady r (track_at s i) → IsReady r (track_at (pressed s round) i)
  mid_ready s round i h =
      let c = s.clocks in
      let g = s.forest in
      let alone = pressed_alone g c s.tracks in
      each_kept StillReady (λ k. k) (track_asked_in c.at round) alone (asked_ready r c.at round) i
      (each_kept StillReady (λ k. k) (λ j. pressed_track g.margin (entry_at g.entries j) (need_of g.entries s.tracks c j) c.at) s.tracks
      (λ j x. pressed_ready r g.margin (entry_at g.entries j) (need_of g.entries s.tracks c j) c.at x) i h)

owing_flag : (at : ℕ) (first called : Bool) (x : Track) → Flag (owing at first called x) x
unfolding owing
owing_flag at first called x =
    if_both (λ y. Flag y x) (called && (first || is_open (sec at) x)) (owing_lookup at x) x
    (if_both (λ y. Flag y x) x.out (record x { owes = true }) (record x { owes = true; attempt = Some (sooner_try (soon at x) x.attempt) }) refl refl) refl

pressed_flag : (margin : ℕ) (e : Entry) (need at : ℕ) (x : Track) → Flag (pressed_track margin e need at x) x
unfolding pressed_track
pressed_flag margin e need at x =
    if_both (λ y. Flag y x) (is_fresh margin e x need (sec at)) (record x { attempt = Some (press at x) }) (if wants x need || x.out then x else record x { attempt = dropped x x.attempt }) refl
    (if_both (λ y. Flag y x) (wants x need || x.out) x (record x { attempt = dropped x x.attempt }) refl refl)

asked_flag : (at : ℕ) (round : List ℕ) (i : ℕ) (x : Track) → Flag (track_asked_in at round i x) x
unfolding asked_track
asked_flag at round i x =
    if_both (λ y. Flag y x) (list_any (λ j. j == i) round) (asked_track at x) x
    (if_both (λ y. Flag y x) x.out x (record x { attempt = Some (press at x) }) refl refl) refl

settled_flag : (margin at : ℕ) (x : Track) → Flag (settled_track margin at x) x
unfolding settled_track
settled_flag margin at x = refl

begun_flag : (s : WatchState) (w : Option BeginReason) (i : ℕ) → Flag (track_at (begun s w) i) (track_at s i)
begun_flag s None i = refl
begun_flag s (Some w) i =
    let xs = untopped s.tracks in
    each_kept Flag refl (λ j. owing s.clocks.at (is_start w) (is_called s.forest xs s.clocks j)) xs (λ j x. owing_flag s.clocks.at (is_start w) (is_called s.forest xs s.clocks j) x) i
    ∙ each_kept Flag refl (λ j. untopped_track) s.tracks (λ j x. refl) i

pub mid_flag : (s : WatchState) (wall elapsed : ℕ) (round : List ℕ) (i : ℕ) → Flag (track_at (pressed (readied s wall elapsed) round) i) (track_at s i)
unfolding readied
mid_flag s wall elapsed round i =
    let t = timed s wall elapsed in
    let u = begun (settled t) (why s wall elapsed) in
    let c = u.clocks in
    let g = u.forest in
    let alone = pressed_alone g c u.tracks in
    each_kept Flag refl (track_asked_in c.at round) alone (asked_flag c.at round) i
    ∙ each_kept Flag refl (λ j. pressed_track g.margin (entry_at g.entries j) (need_of g.entries u.tracks c j) c.at) u.tracks
    (λ j x. pressed_flag g.margin (entry_at g.entries j) (need_of g.entries u.tracks c j) c.at x) i
    ∙ begun_flag (settled t) (why s wall elapsed) i ∙ each_kept Flag refl (λ j. settled_track t.forest.margin t.clocks.at) s.tracks (λ j x. settled_flag t.forest.margin t.clocks.at x) i

-- what a request says of the entry that it is of
asks_so :
    (p : Presence) (now at : ℕ) (xs : List Track) (i : ℕ) (new : WatchState) → (track_at new i).out ≡ true → (j : ℕ) →
    IsOf new i (λ y. operation_of (track_in xs i).attempt ≡ y) (out_at at (request_at p now xs j))
asks_so p now at xs i new is_out j is =
    let same : j ≡ i = sym (entry_by p now xs j) ∙ is in
    (is_out, ap (λ k. operation_of (track_in xs k).attempt) (sym same) ∙ sym (asks_by p now xs j))

-- what goes out at a clock
unfoldable pub Outcome : WatchState → ℕ → Option Sent → List Sent → Type 0
Outcome new i o xs = ((xs ≡ []) × Keeps new i o) ⊎ ((x : Sent) × ((xs ≡ x ∷ []) × (IfSome o (λ r. IsApart r x) × IsSpaced new i x)))

-- before it does
abbrev IsMid : WatchState → ℕ → Option Sent → Type 0
IsMid s i None = All (IsOf s i Any) s.out
IsMid s i (Some r) = (r.at ≤ s.clocks.at) × (All (IsOf s i (λ o. r.operation ≡ o)) s.out × IsReady r (track_at s i))

mid_any : (s : WatchState) (i : ℕ) (o : Option Sent) → IsMid s i o → All (IsOf s i Any) s.out
mid_any s i None h = h
mid_any s i (Some r) h = All-weaker (IsOf s i (λ o. r.operation ≡ o)) (IsOf s i Any) (λ q of is. ((of is).0, tt)) s.out h.1.0

module _ (s : WatchState) (requests : List WatchRequest) (i : ℕ) where
  abbrev gone : WatchState
  gone = sent_state s requests

  pub passed_over : list_any (λ (q : WatchRequest). q.entry == i) requests ≡ false → track_at gone i ≡ track_at s i
  passed_over none =
      each_at (sent_in s.clocks.at requests) s.tracks i (λ x. cond-false (list_any (λ (q : WatchRequest). q.entry == i) requests) (sent_track s.clocks.at x) x none)

  pub went : list_any (λ (q : WatchRequest). q.entry == i) requests ≡ true → i < length s.tracks → track_at gone i ≡ sent_track s.clocks.at (track_at s i)
  went named within =
      each_read (sent_in s.clocks.at requests) s.tracks i within
      ∙ cond-true (list_any (λ (q : WatchRequest). q.entry == i) requests) (sent_track s.clocks.at (track_at s i)) (track_at s i) named

-- none of some requests is of i
pub not_of : (X : Out → Type 0) (at i : ℕ) (rs : List WatchRequest) → list_any (λ (q : WatchRequest). q.entry == i) rs ≡ false → All (λ q. q.entry ≡ i → X q) (map (out_at at) rs)
not_of X at i [] none = All-nil (λ q. q.entry ≡ i → X q)
not_of X at i (r ∷ rs) none =
    let both = neither (r.entry == i) (list_any (λ (q : WatchRequest). q.entry == i) rs) none in
    All-cons (λ q. q.entry ≡ i → X q) (out_at at r) (map (out_at at) rs) (λ is. absurd (not_both (subst (λ n. (n == i) ≡ true) (sym is) (same_index i)) both.0)) (not_of X at i rs both.1) where
      neither : (a b : Bool) → a || b ≡ false → (a ≡ false) × (b ≡ false)
      neither true b h = absurd cc
      neither false b h = (refl, h)

kept_over :
    (s : WatchState) (requests : List WatchRequest) (i : ℕ) (o : Option Sent) → is_none s.begun ≡ false → IsMid s i o → list_any (λ (q : WatchRequest). q.entry == i) requests ≡ false →
    Keeps (sent_state s requests) i o
kept_over s requests i None begun' mid none =
    let new = sent_state s requests in
    let same = passed_over s requests i none in
    All-append (IsOf new i Any) s.out (map (out_at s.clocks.at) requests) (All-weaker (IsOf s i Any) (IsOf new i Any) (λ q of is. (ap (λ (x : Track). x.out) same ∙ (of is).0, tt)) s.out mid)
    (not_of (λ q. ((track_at new i).out ≡ true) × Any q.operation) s.clocks.at i requests none)
kept_over s requests i (Some r) begun' mid none =
    let new = sent_state s requests in
    let same = passed_over s requests i none in
    let P : Operation → Type 0 = λ o. r.operation ≡ o in
    record {
      begun = begun';
      past = mid.0;
      out =
          All-append (IsOf new i P) s.out (map (out_at s.clocks.at) requests) (All-weaker (IsOf s i P) (IsOf new i P) (λ q of is. (ap (λ (x : Track). x.out) same ∙ (of is).0, (of is).1)) s.out mid.1.0)
          (not_of (λ q. ((track_at new i).out ≡ true) × P q.operation) s.clocks.at i requests none);
      rests = subst (Rests r) (sym same) (record { last = mid.1.1.last; attempt = λ free. may (track_at s i).attempt (mid.1.1.attempt free) });
    } where
      may : (t : Option Try) → IfSome t (Follows r) → IfSome t (MayFollow r)
      may None h = tt
      may (Some t) h = inr h

goes_out :
    (s : WatchState) (requests : List WatchRequest) (i : ℕ) (o : Option Sent) (lanes : ℕ) → is_none s.begun ≡ false → IsMid s i o → Goes s.forest s.presence s.clocks.at s.tracks lanes requests →
    Outcome (sent_state s requests) i o (sent_at i s.clocks.at requests)
unfolding Outcome
goes_out s requests i o lanes begun' mid h =
    let p = s.presence in
    let at = s.clocks.at in
    let xs = s.tracks in
    let new = sent_state s requests in
    let rq : ℕ → WatchRequest = request_at p (sec at) xs in
    elim (one_sent p (sec at) at xs i h.entries (h.once i)) as (λ _. Outcome new i o (sent_at i at requests)) [
      | inl none ↦ inl (ap (sent_at i at) h.requests_are ∙ none.0, kept_over s requests i o begun' mid (ap (list_any (λ (q : WatchRequest). q.entry == i)) h.requests_are ∙ none.1))
      | inr one ↦
          let due = named_of (λ j. (j < length xs) × (is_due p at (track_in xs j) ≡ true)) i h.entries h.due one.1.1 in
          let free = free_of p at (track_in xs i) due.1 in
          let x = sent_of xs at i in
          let named = ap (list_any (λ (q : WatchRequest). q.entry == i)) h.requests_are ∙ one.1.0 in
          let there = went s requests i named due.0 in
          let is_out : (track_at new i).out ≡ true = ap (λ (y : Track). y.out) there in
          let P : Operation → Type 0 = λ y. x.operation ≡ y in
          inr (
            x,
            (
              ap (sent_at i at) h.requests_are ∙ one.0,
              (
                apart o mid free.0 due.1,
                record {
                  begun = begun';
                  past = omega arith;
                  out =
                      All-append (IsOf new i P) s.out (map (out_at at) requests)
                      (All-weaker (IsOf s i Any) (IsOf new i P) (λ q of is. absurd (not_both ((of is).0) free.0)) s.out (mid_any s i o mid))
                      (subst (λ rs. All (IsOf new i P) (map (out_at at) rs)) (sym h.requests_are)
                      (All-map (IsOf new i P) (out_at at) (map rq h.entries)
                      (All-map (λ r. IsOf new i P (out_at at r)) rq h.entries
                      (λ k d within. asks_so p (sec at) at xs i new is_out (get_or h.entries k d)))));
                  rests = subst (Rests x) (sym there) (record { last = refl; attempt = λ bad. absurd (true≢false bad) });
                },
              ),
            ),
          )
    ] where
      apart : (o' : Option Sent) → IsMid s i o' → (track_at s i).out ≡ false → is_due s.presence s.clocks.at (track_at s i) ≡ true → IfSome o' (λ r. IsApart r (sent_of s.tracks s.clocks.at i))
      apart None h' free due = tt
      apart (Some r) h' free due = due_is_apart s.presence s.clocks.at (track_at s i) r h'.0 h'.1.1 due

-- a clock
begun_out : (s : WatchState) (w : Option BeginReason) → (begun s w).out ≡ s.out
begun_out s None = refl
begun_out s (Some w) = refl

pub readied_out : (s : WatchState) (wall elapsed : ℕ) → (readied s wall elapsed).out ≡ s.out
unfolding readied
readied_out s wall elapsed = begun_out (settled (timed s wall elapsed)) (why s wall elapsed)

same_out : (P : Operation → Type 0) (s t : WatchState) (i : ℕ) → t.out ≡ s.out → Flag (track_at t i) (track_at s i) → All (IsOf s i P) s.out → All (IsOf t i P) t.out
same_out P s t i out flag all = subst (All (IsOf t i P)) (sym out) (All-weaker (IsOf s i P) (IsOf t i P) (λ q of is. (flag ∙ (of is).0, (of is).1)) s.out all)

mid_of : (old : WatchState) (wall elapsed : ℕ) (round : List ℕ) (i : ℕ) (o : Option Sent) → Keeps old i o → IsMid (pressed (readied old wall elapsed) round) i o
mid_of old wall elapsed round i None h = same_out Any old (pressed (readied old wall elapsed) round) i (readied_out old wall elapsed) (mid_flag old wall elapsed round i) h
mid_of old wall elapsed round i (Some r) h =
    let ready = readied old wall elapsed in
    let rises = clock_rises old wall elapsed h.begun in
    let clock = ap (λ c. c.at) (readied_clocks old wall elapsed) in
    let past = h.past in (
      omega (arith, rises, clock, past),
      (
        same_out (λ y. r.operation ≡ y) old (pressed ready round) i (readied_out old wall elapsed) (mid_flag old wall elapsed round i) h.out,
        mid_ready r ready round i (readied_ready r old wall elapsed i h.begun h.past h.rests),
      ),
    )

commanded : (s new : WatchState) (command : WatchCommand) (i : ℕ) (o : Option Sent) → is_none s.begun ≡ false → IsMid s i o → StepCommand s command new → Outcome new i o (sent_at i new.clocks.at (requests_asked_by command))
commanded s new (Go requests until) i o begun' mid h =
    subst (λ (x : WatchState). Outcome x i o (sent_at i x.clocks.at requests)) (sym h.0.1)
    (goes_out s requests i o (s.width - length s.out) begun' mid (goes s.forest s.presence s.clocks.at s.tracks (s.width - length s.out) requests h.0.0))
commanded s new Taken i o begun' mid h = absurd h

clocked : (old new : WatchState) (wall elapsed : ℕ) (output : WatchOutput) (i : ℕ) (o : Option Sent) → StepClock old wall elapsed output new → Keeps old i o → Outcome new i o (sent_at i new.clocks.at (requests_asked_by output.command))
clocked old new wall elapsed output i o step kept =
    commanded (pressed (readied old wall elapsed) (round_of step.round)) new output.command i o (begun_some old wall elapsed) (mid_of old wall elapsed (round_of step.round) i o kept) step.command

back_flag : (x : Track) → Flag (back_track x) x
unfolding back_track
back_flag x = refl

-- an answer: mid is the state before what it says of the broker
module _ (old mid new : WatchState) (q : Out) (reply : WatchReply) (i : ℕ) (is : new ≡ replied mid q reply) (out : mid.out ≡ old.out) (other : q.entry ≢ i → track_at mid i ≡ track_at old i) where
  pub after_flag : q.entry ≢ i → Flag (track_at new i) (track_at old i)
  after_flag apart =
      subst (λ (x : WatchState). Flag (track_at x i) (track_at mid i)) (sym is) (back_kept Flag (λ x. refl) (λ x. back_flag x) mid q reply i) ∙ ap (λ (x : Track). x.out) (other apart)

  after_out : (P : Operation → Type 0) → All (IsOf old i P) old.out → All (IsOf new i P) new.out
  after_out P all =
      subst (λ (x : WatchState). All (IsOf new i P) x.out) (sym is)
      (replied_out (IsOf new i P) (λ r of. of) mid q reply
      (elim (cases_Bool (q.entry == i)) [
        | inl same ↦ subst (λ n. All (IsOf new i P) (without_request n mid.out)) (sym (eqb-true q.entry i same)) (without_none P new i mid.out)
        | inr different ↦
            let apart : q.entry ≢ i = λ e. not_both (subst (λ n. (n == i) ≡ true) (sym e) (same_index i)) different in
            let flag = after_flag apart in
            without_of (IsOf new i P) q.entry mid.out (subst (All (IsOf new i P)) (sym out) (All-weaker (IsOf old i P) (IsOf new i P) (λ r of here. (flag ∙ (of here).0, (of here).1)) old.out all))
      ]))

  after_rests : (r : Sent) → Rests r (track_at mid i) → Rests r (track_at new i)
  after_rests r h = subst (λ (x : WatchState). Rests r (track_at x i)) (sym is) (back_kept (λ y x. Rests r x → Rests r y) (λ x k. k) (λ x. back_rests r x) mid q reply i h)

  answered : (o : Option Sent) → rest_of new ≡ rest_of old → ((r : Sent) → IsSpaced old i r → q.entry ≡ i → Rests r (track_at mid i)) → Keeps old i o → Keeps new i o
  answered None rest own kept = after_out Any kept
  answered (Some r) rest own kept = record {
    begun = ap (λ (x : WatchState). is_none x.begun) rest ∙ kept.begun;
    past = let e = ap (λ (x : WatchState). x.clocks.at) rest in let p = kept.past in omega (arith, e, p);
    out = after_out (λ y. r.operation ≡ y) kept.out;
    rests = after_rests r (elim (cases_Bool (q.entry == i)) [
      | inl same ↦ own r kept (eqb-true q.entry i same)
      | inr different ↦
          let apart : q.entry ≢ i = λ e. not_both (subst (λ n. (n == i) ≡ true) (sym e) (same_index i)) different in
          subst (Rests r) (sym (other apart)) kept.rests
    ]);
  }

-- what is found passes the test
found_passes : (p : Out → Bool) (os : List Out) (q : Out) → find p os ≡ Some q → p q ≡ true
found_passes p [] q is = absurd cc
found_passes p (o ∷ os) q is =
    elim (cases_Bool (p o)) [
      | inl here ↦ subst (λ x. p x ≡ true) (value_is o q (sym (cond-true (p o) (Some o) (find p os) here) ∙ is)) here
      | inr there ↦ found_passes p os q (sym (cond-false (p o) (Some o) (find p os) there) ∙ is)
    ]

-- the request that is out is what r asked
pub same_is : (x y : Operation) → is_same x y ≡ true → x ≡ y
same_is Look Renew h = absurd cc
same_is Renew Look h = absurd cc
same_is _ _ h = refl

pub out_operation : (out : List Out) (i : ℕ) (operation : Operation) (q : Out) → request_out out i operation ≡ Some q → q.operation ≡ operation
unfolding request_out
out_operation out i operation q found =
    same_is q.operation operation (and_parts (q.entry == i) (is_same q.operation operation) (found_passes (λ (x : Out). x.entry == i && is_same x.operation operation) out q found)).1

of_request : (P : Out → Type 0) (o : Option Out) (q : Out) → IfSome o P → o ≡ Some q → P q
of_request P None q h same = absurd cc
of_request P (Some r) q h same = subst (λ x. IfSome x P) same h

asked_is : (s : WatchState) (i j : ℕ) (r : Sent) (operation : Operation) (q : Out) → request_out s.out j operation ≡ Some q → IsSpaced s i r → q.entry ≡ i → r.operation ≡ operation
asked_is s i j r operation q found kept is =
    let of = of_request (IsOf s i (λ y. r.operation ≡ y)) (request_out s.out j operation) q (out_all (IsOf s i (λ y. r.operation ≡ y)) s.out j operation kept.out) found in
    (of is).1 ∙ out_operation s.out j operation q found

-- who was asked is an entry
spaced_within : (s : WatchState) (i : ℕ) (r : Sent) → Rests r (track_at s i) → i < length s.tracks
spaced_within s i r h =
    elim (cases_lt i (length s.tracks)) [
      | inl within ↦ within
      | inr past ↦ absurd (let e : None ≡ Some r.at = ap (λ (x : Track). x.last) (sym (get_or_past s.tracks i no_track past)) ∙ h.last in cc)
    ]

-- the answer to a lookup
pub looked_other : (s : WatchState) (q : Out) (reply : WatchReply) (terms : WatchTerms) (i : ℕ) → q.entry ≢ i → track_at (looked s q reply terms) i ≡ track_at s i
looked_other s q (Told seconds renewable date) terms i apart =
    get_or-set_other (told_state s q.entry q.since seconds renewable terms).tracks q.entry i _ no_track (λ e. apart (sym e))
    ∙ get_or-set_other s.tracks q.entry i _ no_track (λ e. apart (sym e))
looked_other s q _ terms i apart = get_or-set_other s.tracks q.entry i _ no_track (λ e. apart (sym e))

pub looked_out : (s : WatchState) (q : Out) (reply : WatchReply) (terms : WatchTerms) → (looked s q reply terms).out ≡ s.out
looked_out s q (Told seconds renewable date) terms = refl
looked_out s q _ terms = refl

told_last : (since seconds : ℕ) (renewable endless : Bool) (x : Track) → (told_track since seconds renewable endless x).last ≡ x.last
unfolding told_track
told_last since seconds renewable endless x = refl

looked_rests : (s : WatchState) (q : Out) (reply : WatchReply) (terms : WatchTerms) (r : Sent) → q.entry < length s.tracks → r.operation ≡ Look → (track_at s q.entry).last ≡ Some r.at → Rests r (track_at (looked s q reply terms) q.entry)
looked_rests s q (Told seconds renewable date) terms r within look last =
    let i = q.entry in
    let mid = told_state s i q.since seconds renewable terms in
    let x = told_track q.since seconds renewable terms.endless (track_at s i) in
    let there : track_at mid i ≡ x = get_or-set_same s.tracks i x no_track within in
    let y = track_at mid i in
    let z = record y { attempt = told_try mid.clocks.at (is_called_for mid i) y y.attempt } in
    let count : length mid.tracks ≡ length s.tracks = length-set s.tracks i x in
    subst (Rests r) (sym (get_or-set_same mid.tracks i z no_track (omega (arith, count, within))))
    (told_rests r mid.clocks.at (is_called_for mid i) y y look (ap (λ (t : Track). t.last) there ∙ told_last q.since seconds renewable terms.endless (track_at s i) ∙ last))
looked_rests s q (Refused status date) terms r within look last =
    subst (Rests r) (sym (get_or-set_same s.tracks q.entry _ no_track within)) (untold_rests r s.clocks.at q.heard (Refused status date) (track_at s q.entry) look tt last)
looked_rests s q Busy terms r within look last = subst (Rests r) (sym (get_or-set_same s.tracks q.entry _ no_track within)) (untold_rests r s.clocks.at q.heard Busy (track_at s q.entry) look tt last)
looked_rests s q Lost terms r within look last = subst (Rests r) (sym (get_or-set_same s.tracks q.entry _ no_track within)) (untold_rests r s.clocks.at q.heard Lost (track_at s q.entry) look tt last)

looked_keeps :
    (old new : WatchState) (found : Option Out) (j i : ℕ) (reply : WatchReply) (terms : WatchTerms) (output : WatchOutput) (o : Option Sent) → request_out old.out j Look ≡ found →
    StepLooked old found reply terms output new → Keeps old i o → Keeps new i o
looked_keeps old new None j i reply terms output o is step kept = absurd step
looked_keeps old new (Some q) j i reply terms output o is step kept =
    let s = noted old q reply in
    let mid = looked s q reply terms in
    answered old mid new q reply i step.1 (looked_out s q reply terms) (looked_other s q reply terms i) o (ap rest_of step.1 ∙ looked_leaves old q reply terms)
    (λ r before own.
    subst (λ k. Rests r (track_at mid k)) own
    (looked_rests s q reply terms r (subst (λ k. k < length old.tracks) (sym own) (spaced_within old i r before.rests)) (asked_is old i j r Look q is before own)
    (subst (λ k. (track_at old k).last ≡ Some r.at) (sym own) before.rests.last))) kept

-- the answer to a renewal
renewed_rests :
    (s : WatchState) (q : Out) (reply : WatchReply) (r : Sent) → q.entry < length s.tracks → r.at ≤ s.clocks.at → (track_at s q.entry).last ≡ Some r.at → Rests r (track_at (state_renewed s q reply) q.entry)
unfolding renewed_track
renewed_rests s q (Told seconds renewable date) r within past last =
    let i = q.entry in
    let g = s.forest in
    let step = (entry_of s i).step in
    let x = track_at s i in
    subst (Rests r) (sym (get_or-set_same s.tracks i _ no_track within))
    (granted_rests r step s.clocks.at seconds renewable (from_try g.margin step seconds s.clocks.at q.since x.attempt) x past last)
renewed_rests s q (Refused status date) r within past last =
    subst (Rests r) (sym (get_or-set_same s.tracks q.entry _ no_track within)) (ungranted_rests r s.clocks.at q.heard (Refused status date) (track_at s q.entry) tt last)
renewed_rests s q Busy r within past last = subst (Rests r) (sym (get_or-set_same s.tracks q.entry _ no_track within)) (ungranted_rests r s.clocks.at q.heard Busy (track_at s q.entry) tt last)
renewed_rests s q Lost r within past last = subst (Rests r) (sym (get_or-set_same s.tracks q.entry _ no_track within)) (ungranted_rests r s.clocks.at q.heard Lost (track_at s q.entry) tt last)

renewed_keeps :
    (old new : WatchState) (found : Option Out) (j i : ℕ) (reply : WatchReply) (output : WatchOutput) (o : Option Sent) → StepRenewed old found reply output new → Keeps old i o → Keeps new i o
renewed_keeps old new None j i reply output o step kept = absurd step
renewed_keeps old new (Some q) j i reply output o step kept =
    let s = noted old q reply in
    let mid = state_renewed s q reply in
    answered old mid new q reply i step.1 refl (λ apart. get_or-set_other s.tracks q.entry i _ no_track (λ e. apart (sym e))) o (ap rest_of step.1 ∙ renewed_leaves old q reply)
    (λ r before own.
    subst (λ k. Rests r (track_at mid k)) own
    (renewed_rests s q reply r (subst (λ k. k < length old.tracks) (sym own) (spaced_within old i r before.rests)) before.past
    (subst (λ k. (track_at old k).last ≡ Some r.at) (sym own) before.rests.last))) kept

-- what leaves the tracks, and what is out
left_keeps : (old new : WatchState) (i : ℕ) (o : Option Sent) → rest_of new ≡ rest_of old → new.out ≡ old.out → Flag (track_at new i) (track_at old i) → ((r : Sent) → Rests r (track_at old i) → Rests r (track_at new i)) → Keeps old i o → Keeps new i o
left_keeps old new i None rest out flag rests kept = same_out Any old new i out flag kept
left_keeps old new i (Some r) rest out flag rests kept = record {
  begun = ap (λ (x : WatchState). is_none x.begun) rest ∙ kept.begun;
  past = let e = ap (λ (x : WatchState). x.clocks.at) rest in let p = kept.past in omega (arith, e, p);
  out = same_out (λ y. r.operation ≡ y) old new i out flag kept.out;
  rests = rests r kept.rests;
}

-- a beginning that is asked for leaves both
begin_keeps : (old : WatchState) (i : ℕ) (o : Option Sent) → Keeps old i o → Keeps (record old { asked = true }) i o
begin_keeps old i None kept = same_out Any old (record old { asked = true }) i refl refl kept
begin_keeps old i (Some r) kept = record {
  begun = kept.begun;
  past = kept.past;
  out = same_out (λ y. r.operation ≡ y) old (record old { asked = true }) i refl refl kept.out;
  rests = kept.rests;
}

moved : (old new mid : WatchState) (i : ℕ) (o : Option Sent) → new ≡ mid → (Keeps old i o → Keeps mid i o) → Keeps old i o → Keeps new i o
moved old new mid i o is keeps kept = subst (λ (x : WatchState). Keeps x i o) (sym is) (keeps kept)

-- nothing goes out but at a clock
none_goes : (i at : ℕ) (output out : WatchOutput) → output ≡ out → requests_asked_by out.command ≡ [] → sent_at i at (requests_asked_by output.command) ≡ []
none_goes i at output out is none = ap (λ (x : WatchOutput). sent_at i at (requests_asked_by x.command)) is ∙ ap (sent_at i at) none

looked_quiet : (old new : WatchState) (found : Option Out) (i at : ℕ) (reply : WatchReply) (terms : WatchTerms) (output : WatchOutput) → StepLooked old found reply terms output new → sent_at i at (requests_asked_by output.command) ≡ []
looked_quiet old new None i at reply terms output step = absurd step
looked_quiet old new (Some q) i at reply terms output step = none_goes i at output _ step.0 refl

renewed_quiet : (old new : WatchState) (found : Option Out) (i at : ℕ) (reply : WatchReply) (output : WatchOutput) → StepRenewed old found reply output new → sent_at i at (requests_asked_by output.command) ≡ []
renewed_quiet old new None i at reply output step = absurd step
renewed_quiet old new (Some q) i at reply output step = none_goes i at output _ step.0 refl

-- a step, and a turn
stepped : (old new : WatchState) (event : WatchEvent) (output : WatchOutput) (i : ℕ) (o : Option Sent) → Step old event output new → Keeps old i o → Outcome new i o (sent_at i new.clocks.at (requests_asked_by output.command))
unfolding Outcome
stepped old new (Clock wall elapsed) output i o step kept = clocked old new wall elapsed output i o step kept
stepped old new (Looked j reply terms) output i o step kept =
    inl (looked_quiet old new (request_out old.out j Look) i new.clocks.at reply terms output step, looked_keeps old new (request_out old.out j Look) j i reply terms output o refl step kept)
stepped old new (Renewed j reply) output i o step kept =
    inl (renewed_quiet old new (request_out old.out j Renew) i new.clocks.at reply output step, renewed_keeps old new (request_out old.out j Renew) j i reply output o step kept)
stepped old new (Need j until) output i o step kept =
    inl (none_goes i new.clocks.at output _ step.0 refl, moved old new (with_need_until old j until) i o step.1 (left_keeps old (with_need_until old j until) i o refl refl refl (λ r h. h)) kept)
stepped old new Begin output i o step kept =
    inl (none_goes i new.clocks.at output _ step.0 refl, moved old new (record old { asked = true }) i o step.1 (begin_keeps old i o) kept)
stepped old new (Known j end renewable) output i o step kept =
    let there = known old j end renewable in
    inl (
      none_goes i new.clocks.at output _ step.0 refl,
      moved old new there i o step.1
          (left_keeps old there i o refl refl (set_kept Flag (λ x. refl) old.tracks j _ (known_out old.clocks.at end renewable (track_at old j)) i)
          (λ r. set_kept (λ y x. Rests r x → Rests r y) (λ x k. k) old.tracks j _ (known_rests r old.clocks.at end renewable (track_at old j)) i)) kept,
    )

pub turned : (old new : WatchState) (event : WatchEvent) (result : Result WatchOutput WatchFault) (i : ℕ) (o : Option Sent) → Turn old event result new → Keeps old i o → Outcome new i o (sent_at i new.clocks.at (requests_at_turn result))
unfolding Outcome
turned old new event (Ok output) i o turn kept = stepped old new event output i o turn.1 kept
turned old new event (Err fault) i o turn kept = inl (refl, subst (λ (x : WatchState). Keeps x i o) (sym (refused_stays old new event fault turn)) kept)

-- all of them
abbrev pub AreApartAfter : Option Sent → List Sent → Type 0
AreApartAfter None xs = SentAreApart xs
AreApartAfter (Some r) xs = AreApartFrom r xs

pub one_more : (o : Option Sent) (x : Sent) (xs : List Sent) → IfSome o (λ r. IsApart r x) → AreApartFrom x xs → AreApartAfter o (x ∷ xs)
one_more None x xs apart rest = rest
one_more (Some r) x xs apart rest = (apart, rest)

pub none_after : (o : Option Sent) → AreApartAfter o []
none_after None = tt
none_after (Some r) = tt

-- none goes out of an index at which there is no track
none_past : (s : WatchState) (requests : List WatchRequest) (lanes i : ℕ) → Goes s.forest s.presence s.clocks.at s.tracks lanes requests → length s.tracks ≤ i → sent_at i s.clocks.at requests ≡ []
none_past s requests lanes i h past =
    let p = s.presence in
    let at = s.clocks.at in
    elim (one_sent p (sec at) at s.tracks i h.entries (h.once i)) as (λ _. sent_at i at requests ≡ []) [
      | inl none ↦ ap (sent_at i at) h.requests_are ∙ none.0
      | inr one ↦
          let due = named_of (λ j. (j < length s.tracks) × (is_due p at (track_in s.tracks j) ≡ true)) i h.entries h.due one.1.1 in
          let low = due.0 in
          absurd (omega (arith, low, past))
    ]

commanded_past : (s new : WatchState) (command : WatchCommand) (i : ℕ) → StepCommand s command new → length s.tracks ≤ i → sent_at i new.clocks.at (requests_asked_by command) ≡ []
commanded_past s new (Go requests until) i h past =
    subst (λ (x : WatchState). sent_at i x.clocks.at requests ≡ []) (sym h.0.1) (none_past s requests (s.width - length s.out) i (goes s.forest s.presence s.clocks.at s.tracks (s.width - length s.out) requests h.0.0) past)
commanded_past s new Taken i h past = absurd h

step_past : (old new : WatchState) (event : WatchEvent) (output : WatchOutput) (i : ℕ) → Step old event output new → length old.tracks ≤ i → sent_at i new.clocks.at (requests_asked_by output.command) ≡ []
step_past old new (Clock wall elapsed) output i step past =
    let ready = readied old wall elapsed in
    let a = each_length (track_asked_in ready.clocks.at (round_of step.round)) (pressed_alone ready.forest ready.clocks ready.tracks) in
    let b = each_length (λ j. pressed_track ready.forest.margin (entry_at ready.forest.entries j) (need_of ready.forest.entries ready.tracks ready.clocks j) ready.clocks.at) ready.tracks in
    let c = readied_count old wall elapsed in
    commanded_past (pressed ready (round_of step.round)) new output.command i step.command (omega (arith, a, b, c, past))
step_past old new (Looked j reply terms) output i step past = looked_quiet old new (request_out old.out j Look) i new.clocks.at reply terms output step
step_past old new (Renewed j reply) output i step past = renewed_quiet old new (request_out old.out j Renew) i new.clocks.at reply output step
step_past old new _ output i step past = none_goes i new.clocks.at output _ step.0 refl

pub turn_past : (old new : WatchState) (event : WatchEvent) (result : Result WatchOutput WatchFault) (i : ℕ) → Turn old event result new → length old.tracks ≤ i → sent_at i new.clocks.at (requests_at_turn result) ≡ []
turn_past old new event (Ok output) i turn past = step_past old new event output i turn.1 past
turn_past old new event (Err fault) i turn past = refl
