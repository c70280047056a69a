-- Line: what goes out stands in front of what may and does not. For the law of the line.
use Rattle.std.proofs.Common.{◌≡◌, ◌≢◌, ◌⊎◌, ◌∙◌, ℕ, ◌+◌, ◌<◌, Bool, true, false, ◌&&◌, ◌||◌, ◌==◌, if◌then◌else◌, List, Option, Some, None, All, Result, Ok, Err, get_or, is_some, max, min, nat_lt, refl, sym, ap, subst, arith, inl, inr}
use Rattle.std.proofs.lemmas.{Bool.cases_lt, Bool.Decides.nat_tests, List.Elements.All-map, List.Elements.All-nil}
use Rattle.std.specs.List.{list_any}
use Rattle.plan_forest.specs.{declared.entry.Entry.Entry, Forest.entry_at}
use Rattle.watch_machine.specs.{declared.command.WatchCommand.TheVariants.Taken, declared.command.WatchOutput.WatchOutput, declared.command.WatchRequest.WatchRequest, declared.event.WatchEvent.WatchEvent}
use Rattle.watch_machine.specs.{declared.event.WatchReply.WatchReply, declared.event.WatchTerms.WatchTerms, declared.fault.WatchFault.WatchFault, declared.lanes.Out.Out, declared.track.End.End, declared.track.Track.Track}
use Rattle.watch_machine.specs.{declared.track.Try.Try, History.Turn, Margins.has_come, Refusal.request_out}
use Rattle.watch_machine.specs.declared.event.WatchEvent.TheVariants.{Clock, Looked, Renewed}
use Rattle.watch_machine.specs.declared.event.Operation.TheVariants.{Look, Renew}
use Rattle.watch_machine.specs.Lines.{asked_rank, is_along, is_first, part, rank, ready}
use Rattle.watch_machine.specs.Press.{asked_track, press, pressed, pressed_alone, pressed_track, track_asked_in}
use Rattle.watch_machine.specs.Sending.{is_before, place_of, sent}
use Rattle.watch_machine.specs.State.{WatchState, attempt_at, entry_of, second, track_at}
use Rattle.watch_machine.specs.Step.{Step, StepLooked, StepRenewed, readied}
use Rattle.watch_machine.specs.Wanted.{believed, is_alive, need_of}
use Rattle.watch_machine.proofs.Cases.{if_both}
use Rattle.watch_laws.specs.{Load.requests_asked_by, Load.requests_at_turn, Recovery.MayGo, Time.is_come}
use Rattle.watch_laws.specs.Line.{IsInFront, LineLaw, ReadyLaw, StandsInFront, by_last, part_in_line, place_in_part}
use Rattle.watch_laws.proofs.{Foremost.none_behind, Fronts.sent_come, Fronts.sent_stays, Going.entry_by, Going.request_at, Lanes.Ticks, Lanes.ticks, Owed.due_some, Tracking.each_kept}
use Rattle.watch_laws.proofs.Presses.{again_is, pressed_last, readied_keeps}

-- what is not behind another one is in front of it
in_front :
    (a b c a' b' c' : ℕ) → c' ≢ c → nat_lt a a' || (a == a' && (nat_lt b b' || (b == b' && nat_lt c c'))) ≡ false → IsInFront a' b' c' a b c
in_front a b c a' b' c' apart h =
    elim (cases_lt a' a) as (λ _. IsInFront a' b' c' a b c) [
      | inl low ↦ inl low
      | inr high ↦
          let same : a' ≡ a = grind (arith, nat_tests) in
          elim (cases_lt b' b) as (λ _. IsInFront a' b' c' a b c) [
            | inl low ↦ inr (same, inl low)
            | inr more ↦
                let even : b' ≡ b = grind (arith, nat_tests) in
                let first : c' < c = grind (arith, nat_tests) in
                inr (same, inr (even, first))
          ]
    ]

-- the parts are those of the machine
part_is :
    (f along away l p : Bool) →
    (if f then (if along then 5 else (if l then (if away then 3 else 1) else (if away then 4 else 2))) else (if p then (if away then 1 else 3) else (if away then 2 else 4)))
    ≡ (if f then (if along then 4 else ((if away then 2 else 0) + (if l then 0 else 1))) else ((if away then 0 else 2) + (if p then 0 else 1))) + 1
part_is true true away l p = omega arith
part_is true false true true p = omega arith
part_is true false true false p = omega arith
part_is true false false true p = omega arith
part_is true false false false p = omega arith
part_is false along true l true = omega arith
part_is false along true l false = omega arith
part_is false along false l true = omega arith
part_is false along false l false = omega arith

last_is : (last : Option ℕ) → asked_rank last ≡ by_last last
last_is None = refl
last_is (Some last) = refl

-- a place after the clock, where the track was last asked before it
place_is : (margin : ℕ) (e : Entry) (away : Bool) (now : ℕ) (x : Track) (t : Try) → part_in_line away (has_come margin e x now) (is_alive now x) t ≡ part margin e away now x t + 1
place_is margin e away now x t = part_is (is_first t) (is_along margin e now x t) away (is_alive now x) t.pressed

rank_is : (x : Track) (t : Try) (last : Option ℕ) → x.last ≡ last → place_in_part last x.end t ≡ rank x t
rank_is x t last same = ap (λ n. if is_first t then believed x.end else n) (sym (ap asked_rank same ∙ last_is last))

asked_last : (at : ℕ) (round : List ℕ) (i : ℕ) (x : Track) → (track_asked_in at round i x).last ≡ x.last
unfolding asked_track
asked_last at round i x =
    if_both (λ (y : Track). y.last ≡ x.last) (list_any (λ j. j == i) round) (asked_track at x) x
    (if_both (λ (y : Track). y.last ≡ x.last) x.out x (record x { attempt = Some (press at x) }) refl refl) refl

-- pressing leaves when an entry was asked
mid_last : (s : WatchState) (round : List ℕ) (i : ℕ) → (track_at (pressed s round) i).last ≡ (track_at s i).last
mid_last s round i =
    let g = s.forest in
    let c = s.clocks in
    let R : Track → Track → Type 0 = λ y x. y.last ≡ x.last in
    each_kept R refl (track_asked_in c.at round) (pressed_alone g c s.tracks) (asked_last c.at round) i
    ∙ each_kept R refl (λ j. pressed_track g.margin (entry_at g.entries j) (need_of g.entries s.tracks c j) c.at) s.tracks
    (λ j x. pressed_last g.margin (entry_at g.entries j) (need_of g.entries s.tracks c j) c.at x) i

-- the order of two places, in words of what is known after the clock
ordered :
    (margin : ℕ) (e f : Entry) (away : Bool) (now i j : ℕ) (x y : Track) (t u : Try) (last other : Option ℕ) → i ≢ j → x.last ≡ last → y.last ≡ other →
    is_before (place_of margin f away now j y (Some u)) (place_of margin e away now i x (Some t)) ≡ false →
    IsInFront (part_in_line away (has_come margin e x now) (is_alive now x) t) (place_in_part last x.end t) i (part_in_line away (has_come margin f y now) (is_alive now y) u) (place_in_part other y.end u) j
ordered margin e f away now i j x y t u last other apart asked asked' h =
    let p = place_is margin e away now x t in
    let q = place_is margin f away now y u in
    let here = part_in_line away (has_come margin e x now) (is_alive now x) t in
    let there = part_in_line away (has_come margin f y now) (is_alive now y) u in
    let r = rank_is x t last asked in
    let s = rank_is y u other asked' in
    elim (in_front (part margin f away now y u) (rank y u) j (part margin e away now x t) (rank x t) i apart h)
    as (λ _. IsInFront here (place_in_part last x.end t) i there (place_in_part other y.end u) j) [
      | inl low ↦ inl (omega (arith, p, q, low))
      | inr same ↦
          let even = same.0 in
          inr (
            omega (arith, p, q, even),
            elim same.1 as (λ _. (place_in_part last x.end t < place_in_part other y.end u) ⊎ ((place_in_part last x.end t ≡ place_in_part other y.end u) × (i < j))) [
              | inl low ↦ inl (omega (arith, r, s, low))
              | inr more ↦ (let same' = more.0 in inr (omega (arith, r, s, same'), more.1))
            ],
          )
    ]

module _ (old new : WatchState) (wall elapsed : ℕ) (output : WatchOutput) (h : Ticks old new wall elapsed output) (j : ℕ) where
  abbrev mid : WatchState
  mid = pressed (readied old wall elapsed) h.round

  abbrev left : WatchState
  left = sent mid h.requests

  asked_before : (k : ℕ) → (track_at mid k).last ≡ (track_at old k).last
  asked_before k = mid_last (readied old wall elapsed) h.round k ∙ (readied_keeps old wall elapsed k).last

  -- by the tries of both
  by_tries :
      (k : ℕ) (o v : Option Try) → attempt_at mid k ≡ o → attempt_at mid j ≡ v → is_some o ≡ true → is_some v ≡ true → k ≢ j →
      is_before (place_of mid.forest.margin (entry_of mid j) mid.presence.away (second mid) j (track_at mid j) v) (place_of mid.forest.margin (entry_of mid k) mid.presence.away (second mid) k (track_at mid k) o) ≡ false →
      StandsInFront old left k j
  by_tries k None v is is' some some' apart before = absurd cc
  by_tries k (Some t) None is is' some some' apart before = absurd cc
  by_tries k (Some t) (Some u) is is' some some' apart before =
      let one = sent_stays mid h.requests k in
      let two = sent_stays mid h.requests j in
      let away = mid.presence.away in
      let now = second mid in
      let place : End → Option ℕ → Try → ℕ = λ e last v. place_in_part last e v in
      let part' : Bool → End → Try → ℕ = λ b e v. part_in_line away b (nat_lt now (believed e)) v in
      let come = is_come mid k in
      let come' = is_come mid j in
      let here = sent_come mid h.requests mid.forest.margin (entry_of mid k) now k in
      let there = sent_come mid h.requests mid.forest.margin (entry_of mid j) now j in
      record {
        first = t;
        first_is = one.0 ∙ is;
        other = u;
        other_is = two.0 ∙ is';
        in_front =
            subst (λ b. IsInFront (part' b (track_at left k).end t) (place (track_at left k).end (track_at old k).last t) k (part' (is_come left j) (track_at left j).end u) (place (track_at left j).end (track_at old j).last u) j) (sym here)
            (subst (λ b. IsInFront (part' come (track_at left k).end t) (place (track_at left k).end (track_at old k).last t) k (part' b (track_at left j).end u) (place (track_at left j).end (track_at old j).last u) j) (sym there)
            (subst (λ (e : End). IsInFront (part' come e t) (place e (track_at old k).last t) k (part' come' (track_at left j).end u) (place (track_at left j).end (track_at old j).last u) j) (sym one.1)
            (subst (λ (e : End). IsInFront (part' come (track_at mid k).end t) (place (track_at mid k).end (track_at old k).last t) k (part' come' e u) (place e (track_at old j).last u) j) (sym two.1)
            (ordered mid.forest.margin (entry_of mid k) (entry_of mid j) away now k j (track_at mid k) (track_at mid j) t u (track_at old k).last (track_at old j).last apart (asked_before k) (asked_before j) before))));
      }

  clock_line : MayGo left j → All (λ (r : WatchRequest). StandsInFront old left r.entry j) h.requests
  clock_line may =
      let gone = h.going.entries in
      let due = h.going.due in
      let behind = none_behind old new wall elapsed output h j may in
      let same = (sent_stays mid h.requests j).0 in
      let some' : is_some (attempt_at mid j) ≡ true = ap is_some (sym same ∙ may.attempt_is) in
      let rq = request_at mid.presence (second mid) mid.tracks in
      subst (All (λ (r : WatchRequest). StandsInFront old left r.entry j)) (sym h.going.requests_are)
      (All-map (λ (r : WatchRequest). StandsInFront old left r.entry j) rq gone
      (λ k d below.
      (let m = get_or gone k d in
      subst (λ n. StandsInFront old left n j) (sym (entry_by mid.presence (second mid) mid.tracks m))
      (by_tries m (attempt_at mid m) (attempt_at mid j) refl refl (due_some mid.presence mid.clocks.at (track_at mid m) (due k d below).1) some' (behind k d below).0 (behind k d below).1))))

  pub new_line : MayGo new j → All (λ (r : WatchRequest). StandsInFront old new r.entry j) h.requests
  new_line may = subst (λ (x : WatchState). All (λ (r : WatchRequest). StandsInFront old x r.entry j) h.requests) (sym h.new_is) (clock_line (subst (λ (x : WatchState). MayGo x j) h.new_is may))

-- a step, a turn
abbrev Ordered : WatchState → WatchState → ℕ → WatchOutput → Type 0
Ordered old new j output = All (λ (r : WatchRequest). StandsInFront old new r.entry j) (requests_asked_by output.command)

none_goes : (old new : WatchState) (j : ℕ) (output out : WatchOutput) → output ≡ out → out.command ≡ Taken → Ordered old new j output
none_goes old new j output out is taken' =
    subst (λ c. All (λ (r : WatchRequest). StandsInFront old new r.entry j) (requests_asked_by c)) (sym (ap (λ (x : WatchOutput). x.command) is ∙ taken')) (All-nil (λ (r : WatchRequest). StandsInFront old new r.entry j))

looked_line : (old new : WatchState) (j : ℕ) (found : Option Out) (reply : WatchReply) (terms : WatchTerms) (output : WatchOutput) → StepLooked old found reply terms output new → Ordered old new j output
looked_line old new j None reply terms output step = absurd step
looked_line old new j (Some q) reply terms output step = none_goes old new j output _ step.0 refl

renewed_line : (old new : WatchState) (j : ℕ) (found : Option Out) (reply : WatchReply) (output : WatchOutput) → StepRenewed old found reply output new → Ordered old new j output
renewed_line old new j None reply output step = absurd step
renewed_line old new j (Some q) reply output step = none_goes old new j output _ step.0 refl

step_line : (old new : WatchState) (event : WatchEvent) (output : WatchOutput) (j : ℕ) → Step old event output new → MayGo new j → Ordered old new j output
step_line old new (Clock wall elapsed) output j step may =
    let h = ticks old new wall elapsed output step in
    subst (λ c. All (λ (r : WatchRequest). StandsInFront old new r.entry j) (requests_asked_by c)) (sym h.command) (new_line old new wall elapsed output h j may)
step_line old new (Looked i reply terms) output j step may = looked_line old new j (request_out old.out i Look) reply terms output step
step_line old new (Renewed i reply) output j step may = renewed_line old new j (request_out old.out i Renew) reply output step
step_line old new _ output j step may = none_goes old new j output _ step.0 refl

turn_line : (old new : WatchState) (event : WatchEvent) (result : Result WatchOutput WatchFault) (j : ℕ) → Turn old event result new → MayGo new j → All (λ (r : WatchRequest). StandsInFront old new r.entry j) (requests_at_turn result)
turn_line old new event (Ok output) j turn may = step_line old new event output j turn.1 may
turn_line old new event (Err fault) j turn may = All-nil (λ (r : WatchRequest). StandsInFront old new r.entry j)

pub line_so : LineLaw
line_so old turn j h may = turn_line old turn.state turn.event turn.result j h.0 may

-- from when on a try may go out
pub ready_so : ReadyLaw
unfolding ready
ready_so s i t =
    let p = s.presence in
    ap (λ n. if t.pressed && t.fails == 0 then t.at else max p.hold (if p.away && t.lost then min t.at n else t.at)) (again_is (track_at s i).last)
