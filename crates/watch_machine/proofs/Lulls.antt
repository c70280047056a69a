-- Lulls: while a lull lasts a clock leaves all entries as they are. For `quiet_until`, and for what begins a lull and keeps it.
use Rattle.std.proofs.Common.{◌≡◌, ◌∙◌, ℕ, zero, suc, ◌+◌, ◌<◌, ◌≤◌, Bool, true, false, ◌&&◌, List, [], ◌∷◌, filter, length, map, min, nat_lt, IfSome, Option, Some, None, refl, sym, ap, ap₂, arith, inl, inr}
use Rattle.std.proofs.lemmas.{Bool.cases_lt, Bool.cond-false, Bool.Decides.nat_tests}
use Rattle.std.specs.List.{list_any, range_with_len}
use Rattle.plan_forest.specs.Forest.{Forest, entry_at}
use Rattle.watch_machine.specs.{declared.clocks.Clocks.Clocks, declared.lanes.LaneAnswer.LaneAnswer, declared.lanes.Presence.Presence, declared.lull.Lull.Lull, declared.lull.TheConstants.NEVER, declared.outlook.Next.Next}
use Rattle.watch_machine.specs.{declared.reading.TheConstants.READING_MAX, declared.track.Track.Track, Beginning.beginning, Clocks.sec, Lines.is_due, Press.pressed_track, Round.opens, Round.opens_some, Sending.due, Sending.place}
use Rattle.watch_machine.specs.{Wait.latest, Wait.next_of}
use Rattle.watch_machine.specs.Outlook.{IsFirst, IsNextBy, IsNextTime, is_ahead_at, is_timed, is_timed_at}
use Rattle.watch_machine.specs.Settling.{count_after, held_back, hold_after, is_silent, pace_after, presence_after, settled_track}
use Rattle.watch_machine.specs.State.{WatchState, each, track_in}
use Rattle.watch_machine.specs.Wanted.{believed, is_alive, least, need_of, wants}
use Rattle.watch_machine.specs.code.Lull.{GoesOn, IsLull, IsQuiet, due_at, next_due, paced_by, shown_by, wait_by}
use Rattle.watch_machine.specs.code.View.{HasNeeds, Loads, need_at}
use Rattle.watch_machine.proofs.{Carries.need_on, Opening.none_opens, Seeing.each_id, Written.each_same, Written.range_same}
use Rattle.watch_machine.proofs.Leasts.{least_capped, least_each, least_min}
use Rattle.watch_machine.proofs.Quiet.{IsStill, due_paced, latest_low, still}

-- tracks that are left as they are
pub each_kept : (f : ℕ → Track → Track) (xs : List Track) → ((i : ℕ) → i < length xs → f i (track_in xs i) ≡ track_in xs i) → each f xs ≡ xs
each_kept f xs same = each_same f (λ i x. x) xs same ∙ each_id (λ i x. x) xs (λ i x. refl)

-- numbers of which none passes a test
none_found : (test : ℕ → Bool) (a n : ℕ) → ((i : ℕ) → a ≤ i → i < a + n → test i ≡ false) → filter test (range_with_len a n) ≡ []
none_found test a zero none = refl
none_found test a (suc n) none =
    cond-false (test a) (a ∷ filter test (range_with_len (a + 1) n)) (filter test (range_with_len (a + 1) n)) (none a (omega arith) (omega arith))
    ∙ none_found test (a + 1) n (λ i from below. none i (omega (arith, from)) (omega (arith, below)))

-- the first moment depends on the needs alone, and not on how long answers take
next_as : (g : Forest) (xs : List Track) (f h : ℕ → ℕ) (p : Presence) → ((i : ℕ) → i < length g.entries → f i ≡ h i) → next_due g xs f p ≡ next_due g xs h p
unfolding next_due
next_as g xs f h p same =
    ap (least NEVER)
    (range_same (λ i. due_at g.margin (entry_at g.entries i) (f i) p (track_in xs i)) (λ i. due_at g.margin (entry_at g.entries i) (h i) p (track_in xs i)) (length g.entries)
    (λ i below. ap (λ n. due_at g.margin (entry_at g.entries i) n p (track_in xs i)) (same i below)))

next_paced : (g : Forest) (xs : List Track) (need : ℕ → ℕ) (p : Presence) (pace : ℕ) → next_due g xs need (record p { pace = pace }) ≡ next_due g xs need p
unfolding next_due
next_paced g xs need p pace =
    ap (least NEVER)
    (range_same (λ i. due_at g.margin (entry_at g.entries i) (need i) (record p { pace = pace }) (track_in xs i)) (λ i. due_at g.margin (entry_at g.entries i) (need i) p (track_in xs i)) (length g.entries)
    (λ i below. due_paced g.margin (entry_at g.entries i) (need i) p pace (track_in xs i)))

-- a lull, by what the entries are found to carry
pub lull_of :
    (g : Forest) (xs : List Track) (c : Clocks) (p : Presence) (needs : Loads) (lull : Lull) (now : ℕ) → now ≡ sec c.at → lull.next ≡ next_due g xs (need_at needs) p →
    ((i : ℕ) → i < length g.entries → 0 < need_at needs i → lull.lasting ≤ need_at needs i) →
    ((i : ℕ) → i < length g.entries → now < believed (track_in xs i).end → lull.lasting ≤ believed (track_in xs i).end) → IsFirst (is_timed_at (shown_by g xs c)) (shown_by g xs c) lull.first →
    HasNeeds g.entries xs c needs → IsLull g xs c p lull
lull_of g xs c p needs lull now now_is next needed ended told has = record {
  next = next ∙ next_as g xs (need_at needs) (need_of g.entries xs c) p has;
  ended = λ i within living. ended i within (omega (arith, now_is, living));
  told = told;
  needed = λ i within some. let e = has i within in let n = needed i within (omega (arith, e, some)) in omega (arith, e, n);
}

-- if one is found
pub some_lull : (H : Type 0) (P : Lull → Type 0) (o : Option Lull) → H → IfSome o (λ lull. H → P lull) → IfSome o P
some_lull H P None h is = tt
some_lull H P (Some lull) h is = is h

-- an end that is ahead was ahead before
was_ahead : (s t b : ℕ) → nat_lt t b ≡ nat_lt s b → t < b → s < b
was_ahead s t b same living =
    let now : nat_lt t b ≡ true = grind (arith, nat_tests) in
    let before : nat_lt s b ≡ true = sym same ∙ now in
    grind (arith, nat_tests)

-- what they carry by other clocks, and which of their ends are ahead, is the same
abbrev pub AreAlike : Forest → List Track → Clocks → Clocks → Type 0
AreAlike g xs old new = (i : ℕ) → i < length g.entries → (need_of g.entries xs new i ≡ need_of g.entries xs old i) × (is_alive (sec new.at) (track_in xs i) ≡ is_alive (sec old.at) (track_in xs i))

-- so those are timed who were
timed_same :
    (g : Forest) (xs : List Track) (old new : Clocks) → AreAlike g xs old new → (i : ℕ) → i < length g.entries → is_timed_at (shown_by g xs new) i ≡ is_timed_at (shown_by g xs old) i
unfolding is_timed
timed_same g xs old new alike i within = ap₂ (λ n b. wants (track_in xs i) n && b) (alike i within).0 (alike i within).1

-- and the first time is the same
first_kept :
    (g : Forest) (xs : List Track) (old new : Clocks) → AreAlike g xs old new → (o : Option Next) → IsFirst (is_timed_at (shown_by g xs old)) (shown_by g xs old) o →
    IsFirst (is_timed_at (shown_by g xs new)) (shown_by g xs new) o
first_kept g xs old new alike None is = λ i within. timed_same g xs old new alike i within ∙ is i within
first_kept g xs old new alike (Some n) is = let same = timed_same g xs old new alike in record {
  within = is.within;
  counted = same n.entry is.within ∙ is.counted;
  at_is = is.at_is;
  least = λ i within timed. is.least i within (sym (same i within) ∙ timed);
  lowest = λ i below timed. let within = is.within in is.lowest i below (sym (same i (omega (arith, within, below))) ∙ timed);
}

-- and nothing else of a state matters for it, nor for the next one
pub first_shown : (counts : ℕ → Bool) (s : WatchState) (o : Option Next) → IsFirst counts (shown_by s.forest s.tracks s.clocks) o → IsFirst counts s o
first_shown counts s None is = is
first_shown counts s (Some n) is = record { within = is.within; counted = is.counted; at_is = is.at_is; least = is.least; lowest = is.lowest }

shown_by_first : (s : WatchState) (ahead next : Option Next) → IsNextBy (shown_by s.forest s.tracks s.clocks) ahead next → IsNextBy s ahead next
shown_by_first s None next is = first_shown (is_timed_at s) s next is
shown_by_first s (Some ahead) next is = is

pub next_shown : (s : WatchState) (o : Option Next) → IsNextTime (shown_by s.forest s.tracks s.clocks) o → IsNextTime s o
next_shown s o is = (is.0, (first_shown (is_ahead_at s) s is.0 is.1.0, shown_by_first s is.0 o is.1.1))

-- at a quiet clock it goes on
goes_on : (g : Forest) (xs : List Track) (old new : Clocks) (p : Presence) (pace : ℕ) (lull : Lull) → AreAlike g xs old new → IsLull g xs old p lull → IsLull g xs new (record p { pace = pace }) lull
goes_on g xs old new p pace lull alike is = let same = λ (i : ℕ) (within : i < length g.entries). (alike i within).0 in record {
  ended = λ i within living. is.ended i within (was_ahead (sec old.at) (sec new.at) (believed (track_in xs i).end) (alike i within).1 living);
  told = first_kept g xs old new alike lull.first is.told;
  next = is.next ∙ sym (next_as g xs (need_of g.entries xs new) (need_of g.entries xs old) p same) ∙ sym (next_paced g xs (need_of g.entries xs new) p pace);
  needed = λ i within some. let e = same i within in let n = is.needed i within (omega (arith, e, some)) in omega (arith, e, n);
}

-- if one is known
pub known_on :
    (g : Forest) (xs : List Track) (old new : Clocks) (p : Presence) (pace : ℕ) → AreAlike g xs old new → (o : Option Lull) → IfSome o (IsLull g xs old p) →
    IfSome o (IsLull g xs new (record p { pace = pace }))
known_on g xs old new p pace alike None is = tt
known_on g xs old new p pace alike (Some lull) is = goes_on g xs old new p pace lull alike is

-- answers of which none is silent while the broker is away change only how long answers take
pub paced_alone :
    (margin at : ℕ) (xs : List Track) (answers : List LaneAnswer) (p : Presence) → p.away && list_any is_silent answers ≡ false →
    presence_after margin at xs answers p ≡ record p { pace = pace_after at p.pace answers }
unfolding presence_after held_back
paced_alone margin at xs answers p none =
    ap (λ (q : Presence). record q { pace = pace_after at p.pace answers })
    (cond-false (p.away && list_any is_silent answers) (record p { count = count_after at p; hold = hold_after margin at xs p }) p none)

-- before a second that is no later than an end which was ahead, it is ahead
pub alive_alike : (s t b l : ℕ) → s ≤ t → t < l → (s < b → l ≤ b) → nat_lt t b ≡ nat_lt s b
alive_alike s t b l later early far =
    elim (cases_lt s b) as (λ _. nat_lt t b ≡ nat_lt s b) [
      | inl living ↦
          let most = far living in
          let now : nat_lt t b ≡ true = grind (arith, nat_tests) in
          let before : nat_lt s b ≡ true = grind (arith, nat_tests) in
          now ∙ sym before
      | inr past ↦
          let now : nat_lt t b ≡ false = grind (arith, nat_tests) in
          let before : nat_lt s b ≡ false = grind (arith, nat_tests) in
          now ∙ sym before
    ]

pub later : {new old : Clocks} → GoesOn new old → sec old.at ≤ sec new.at
unfolding sec
later on = let h = on.at in omega (arith, h)

module _ (s : WatchState) (c : Clocks) (lull : Lull) (is : IsLull s.forest s.tracks s.clocks s.presence lull) (beside : length s.tracks ≡ length s.forest.entries) (on : GoesOn c s.clocks) (low : c.at ≤ READING_MAX) (before : c.at < lull.next) (early : sec c.at < lull.lasting) where
  abbrev g : Forest
  g = s.forest

  abbrev xs : List Track
  xs = s.tracks

  abbrev need : ℕ → ℕ
  need = need_of g.entries xs c

  -- they carry what they carried
  carries_on : (i : ℕ) → i < length g.entries → need i ≡ need_of g.entries xs s.clocks i
  carries_on i within = need_on g.entries xs c s.clocks i on (λ some. let ahead = is.needed i within some in omega (arith, ahead, early))

  -- and no end has come
  alive_on : (i : ℕ) → i < length g.entries → is_alive (sec c.at) (track_in xs i) ≡ is_alive (sec s.clocks.at) (track_in xs i)
  alive_on i within = alive_alike (sec s.clocks.at) (sec c.at) (believed (track_in xs i).end) lull.lasting (later on) early (is.ended i within)

  -- nothing is to be done of any of them
  module _ (pace : ℕ) where
    abbrev p : Presence
    p = paced_by pace s

    abbrev due_of : ℕ → ℕ
    due_of i = due_at g.margin (entry_at g.entries i) (need i) p (track_in xs i)

    next_is : lull.next ≡ next_due g xs need p
    next_is = (goes_on g xs s.clocks c s.presence pace lull (λ i within. (carries_on i within, alive_on i within)) is).next

    before_each : (i : ℕ) → i < length g.entries → c.at < due_of i
    unfolding next_due
    before_each i within =
        let first = next_is in
        let least' = least_each due_of NEVER 0 (length g.entries) i (omega arith) (omega (arith, within)) in
        omega (arith, before, first, least')

    still_at : (i : ℕ) → i < length g.entries → IsStill g.margin (entry_at g.entries i) (need i) p c.at (track_in xs i) (due_of i)
    still_at i within = still g.margin (entry_at g.entries i) (need i) p c.at (track_in xs i) low (before_each i within)

    none_due : due g p c.at xs ≡ []
    none_due =
        ap (map (place g p.away (sec c.at) xs)) (none_found (λ i. is_due p c.at (track_in xs i)) 0 (length xs) (λ i from below. (still_at i (omega (arith, beside, below))).due))

    waits_so : min (latest g.margin c.at) lull.next ≡ wait_by g c p xs need
    unfolding next_due
    waits_so =
        let n = length g.entries in
        let last = latest g.margin c.at in
        let next_at : ℕ → ℕ = λ i. next_of g.margin (entry_at g.entries i) (need i) p c.at (track_in xs i) in
        let most : min last NEVER ≡ last = (let l = latest_low g.margin c.at low in omega (arith, l)) in
        ap (min last) next_is ∙ sym (least_min last NEVER (map due_of (range_with_len 0 n))) ∙ ap (λ m. least m (map due_of (range_with_len 0 n))) most
        ∙ sym (least_capped next_at due_of last last 0 n (omega arith) (λ i from below. (still_at i (omega (arith, below))).waits))

  opens_no_round : opens_some g xs c ≡ false
  unfolding opens_some
  opens_no_round =
      none_opens (λ i. opens g.margin (entry_at g.entries i) (track_in xs i) (need i) (sec c.at)) (length g.entries) (λ i below. (still_at 0 i below).shut)

  pub is_quiet :
      (stepped jumped : Bool) (until : ℕ) → s.presence.away && list_any is_silent s.answers ≡ false →
      beginning s.begun s.asked stepped jumped c.at s.tracks ≡ None → until ≡ min (latest s.forest.margin c.at) lull.next → IsQuiet s c stepped jumped until
  is_quiet stepped jumped until none reason waits = record {
    needs = carries_on;
    alive = alive_on;
    settled = each_kept (λ i. settled_track g.margin c.at) xs (λ i below. (still_at 0 i (omega (arith, beside, below))).settled);
    presence = paced_alone g.margin c.at xs s.answers s.presence none;
    reason = reason;
    shut = opens_no_round;
    pressed = each_kept (λ i. pressed_track g.margin (entry_at g.entries i) (need i) c.at) xs (λ i below. (still_at 0 i (omega (arith, beside, below))).pressed);
    idle = none_due;
    waits = λ pace. waits ∙ waits_so pace;
  }
