-- LineSent: after the first of a line have gone out the others stand in it, and nothing else is to be done than before. For a clock.
use Rattle.std.proofs.Common.{◌≡◌, ◌∙◌, ℕ, zero, suc, ◌+◌, ◌<◌, ◌≤◌, ◌==◌, Bool, true, false, ◌||◌, if◌then◌else◌, List, [], ◌∷◌, Option, Some, None, drop, length, map, min, get_or, take, refl, sym, ap, subst, arith, inl, inr}
use Rattle.std.proofs.lemmas.{Bool.Decides.nat_tests, List.Elements.All-drop}
use Rattle.std.proofs.lemmas.Bool.{cases_Bool, cases_lt, cond-false, cond-true, or_parts}
use Rattle.std.proofs.lemmas.List.{drop-drop, drop-map, drop_all, get_or-drop, get_or_default, length-drop, take-append-drop, take-map}
use Rattle.std.proofs.lemmas.List.Folds.{list_any-append, list_any_at, list_any_none}
use Rattle.std.specs.List.{list_any}
use Rattle.plan_forest.specs.{declared.entry.Entry.Entry, Forest.Forest, Forest.entry_at}
use Rattle.watch_machine.specs.{declared.command.WatchRequest.WatchRequest, declared.lanes.Presence.Presence, declared.line.Line.Line, declared.lull.TheConstants.NEVER, declared.sending.Place.Place, declared.track.Track.Track}
use Rattle.watch_machine.specs.{declared.track.Try.Try, Clocks.sec, Lines.is_due, Margins.time, State.no_track, State.track_in, Wanted.believed, Wanted.need_of, code.Lull.is_failed_try, code.Places.place_is}
use Rattle.watch_machine.specs.Sending.{is_alone_try, is_before, is_partial, place, place_of, request, request_of, sent_in, sent_track}
use Rattle.watch_machine.specs.code.Line.{IsInLine, IsLine, entries_of, has, left_at, left_of, moved, requests_of, rest_of, sent_on, time_in}
use Rattle.watch_machine.proofs.{Leasts.least_capped, Seeing.each_read, Seeing.need_same, Unseen.sent_seen, Written.each_length}
use Rattle.watch_machine.proofs.Members.{AreDistinct, drop_distinct, left_has}

-- requests are of the entries of their places
asked_of : (away partial : Bool) (pace i : ℕ) (o : Option Try) → (request_of away partial pace i o).entry ≡ i
asked_of away partial pace i None = refl
asked_of away partial pace i (Some t) = refl

request_entry : (p : Presence) (now : ℕ) (xs : List Track) (q : Place) → (request p now xs (place_is q)).entry ≡ q.entry
unfolding request
request_entry p now xs q = asked_of p.away (is_partial now xs) p.pace q.entry (track_in xs q.entry).attempt

asked_all : (p : Presence) (now : ℕ) (xs : List Track) (i : ℕ) (qs : List Place) → list_any (λ (r : WatchRequest). r.entry == i) (map (λ (q : Place). request p now xs (place_is q)) qs) ≡ has i (entries_of qs)
asked_all p now xs i [] = refl
asked_all p now xs i (q ∷ qs) =
    ap (λ e. (e == i) || list_any (λ (r : WatchRequest). r.entry == i) (map (λ (s : Place). request p now xs (place_is s)) qs)) (request_entry p now xs q)
    ∙ ap (λ b. (q.entry == i) || b) (asked_all p now xs i qs)

pub asked_are : (p : Presence) (now : ℕ) (xs : List Track) (n i : ℕ) (qs : List Place) (rs : List WatchRequest) → rs ≡ requests_of p now xs n qs → list_any (λ (r : WatchRequest). r.entry == i) rs ≡ has i (take n (entries_of qs))
asked_are p now xs n i qs rs are =
    ap (list_any (λ (r : WatchRequest). r.entry == i)) are ∙ asked_all p now xs i (take n qs) ∙ ap (has i) (sym (take-map (λ (q : Place). q.entry) n qs))

-- each of some places is among them
has_entry : (i : ℕ) (qs : List Place) → list_any (λ (q : Place). q.entry == i) qs ≡ has i (entries_of qs)
has_entry i [] = refl
has_entry i (q ∷ qs) = ap (λ b. (q.entry == i) || b) (has_entry i qs)

pub each_has : (qs : List Place) (k : ℕ) (d : Place) → k < length qs → has (get_or qs k d).entry (entries_of qs) ≡ true
each_has qs k d below =
    let e = (get_or qs k d).entry in
    sym (has_entry e qs) ∙ list_any_at (λ (q : Place). q.entry == e) qs k d below (let same : (e == e) ≡ true = grind (arith, nat_tests) in same)

-- a test that no track of a list passes
any_off : (t : Track → Bool) (xs : List Track) (i : ℕ) → list_any t xs ≡ false → i < length xs → t (track_in xs i) ≡ false
any_off t [] i none below = absurd (omega (arith, below))
any_off t (x ∷ xs) zero none below = (or_parts (t x) (list_any t xs) none).0
any_off t (x ∷ xs) (suc i) none below = any_off t xs i (or_parts (t x) (list_any t xs) none).1 (omega (arith, below))

pub any_kept : (t : Track → Bool) (xs ys : List Track) → list_any t xs ≡ false → length ys ≡ length xs → ((i : ℕ) → i < length xs → t (track_in xs i) ≡ false → t (track_in ys i) ≡ false) → list_any t ys ≡ false
any_kept t xs ys none count same =
    list_any_none t ys
    (λ k d below.
    let within : k < length xs = omega (arith, below, count) in
    ap t (get_or_default ys k d no_track below) ∙ same k within (any_off t xs k none within))

-- one that goes out is due no more, and nothing is to be done of it
module _ (at : ℕ) (x : Track) where
  due_sent : (p : Presence) (since : ℕ) (b : Bool) → is_due p since (if b then sent_track at x else x) ≡ (if b then false else is_due p since x)
  unfolding is_due
  due_sent p since true = refl
  due_sent p since false = refl

  alone_sent : (b : Bool) → is_alone_try (if b then sent_track at x else x).attempt ≡ is_alone_try x.attempt
  alone_sent true = refl
  alone_sent false = refl

  end_sent : (b : Bool) → believed (if b then sent_track at x else x).end ≡ believed x.end
  end_sent true = refl
  end_sent false = refl

  sent_left : (margin need since last beyond : ℕ) (e : Entry) (p : Presence) → last ≤ beyond → last ≤ NEVER → beyond ≤ left_at margin e need p since x →
      min last (left_at margin e need p since (sent_track at x)) ≡ min last (left_at margin e need p since x)
  unfolding left_at
  sent_left margin need since last beyond e p low never far =
      elim (cases_Bool (is_failed_try x.attempt)) [
        | inl failed ↦ (let a = cond-true (is_failed_try x.attempt) 0 NEVER failed in let b = cond-true (is_failed_try x.attempt) 0 _ failed in ap (min last) (a ∙ sym b))
        | inr settled ↦ (let a = cond-false (is_failed_try x.attempt) 0 NEVER settled in omega (arith, low, never, far, a))
      ]

-- the same of places that are left in line
module _ (g : Forest) (p : Presence) (since : ℕ) (xs : List Track) (qs : List Place) (is : IsInLine g p since xs qs) (at n : ℕ) (rs : List WatchRequest) (named : (i : ℕ) → list_any (λ (r : WatchRequest). r.entry == i) rs ≡ has i (take n (entries_of qs))) where
  abbrev ys : List Track
  ys = sent_on at rs xs

  abbrev names : ℕ → Bool
  names i = list_any (λ (r : WatchRequest). r.entry == i) rs

  read_sent : (i : ℕ) → i < length xs → track_in ys i ≡ sent_in at rs i (track_in xs i)
  read_sent i within = each_read (sent_in at rs) xs i within

  -- of those that are left none is named
  left_in : (i : ℕ) → has i (entries_of (drop n qs)) ≡ (if names i then false else has i (entries_of qs))
  left_in i = ap (has i) (sym (drop-map (λ (q : Place). q.entry) n qs)) ∙ left_has n i (entries_of qs) is.distinct (names i) (named i)

  not_named : (b c : Bool) → true ≡ (if b then false else c) → b ≡ false
  not_named true c bad = absurd (let e : true ≡ false = bad in cc)
  not_named false c bad = refl

  unnamed : (k : ℕ) (d : Place) → k < length (drop n qs) → names (get_or (drop n qs) k d).entry ≡ false
  unnamed k d below =
      let e = (get_or (drop n qs) k d).entry in
      not_named (names e) (has e (entries_of qs)) (sym (each_has (drop n qs) k d below) ∙ left_in e)

  pub left_in_line : IsInLine g p since ys (drop n qs)
  left_in_line = record {
    sorted = λ k d from within.
        let ps = map place_is qs in
        let same : map place_is (drop n qs) ≡ drop n ps = sym (drop-map place_is n qs) in
        let count : length (drop n ps) ≡ length (map place_is (drop n qs)) = ap length (sym same) in
        let few = length-drop n ps in
        subst (λ zs. is_before (get_or zs (k + 1) d) (get_or zs k d) ≡ false) (sym same)
        (subst (λ a. is_before a (get_or (drop n ps) k d) ≡ false) (sym (get_or-drop n ps (k + 1) d))
        (subst (λ b. is_before (get_or ps (n + (k + 1)) d) b ≡ false) (sym (get_or-drop n ps k d))
        (subst (λ m. is_before (get_or ps m d) (get_or ps (n + k) d) ≡ false) (let e : (n + k) + 1 ≡ n + (k + 1) = omega arith in e)
        (is.sorted (n + k) d (omega arith) (omega (arith, within, count, few))))));
    placed = λ k d below.
        let q = get_or (drop n qs) k d in
        let inside = All-drop (λ (r : Place). r.entry < length xs) n qs is.within k d below in
        All-drop (λ (r : Place). place_is r ≡ place g p.away (sec since) xs r.entry) n qs is.placed k d below
        ∙ sym
        (ap (λ (x : Track). place_of g.margin (entry_at g.entries q.entry) p.away (sec since) q.entry x x.attempt)
        (read_sent q.entry inside ∙ cond-false (names q.entry) (sent_track at (track_in xs q.entry)) (track_in xs q.entry) (unnamed k d below)));
    distinct = subst (λ es. AreDistinct es) (drop-map (λ (q : Place). q.entry) n qs) (drop_distinct n (entries_of qs) is.distinct);
    within = λ k d below. let inside = All-drop (λ (r : Place). r.entry < length xs) n qs is.within k d below in let count = each_length (sent_in at rs) xs in omega (arith, inside, count);
    members = λ i below.
        let count = each_length (sent_in at rs) xs in
        let inside : i < length xs = omega (arith, below, count) in
        ap (is_due p since) (read_sent i inside) ∙ due_sent at (track_in xs i) p since (names i) ∙ ap (λ b. if names i then false else b) (is.members i inside) ∙ sym (left_in i);
  }

-- what is left after those
drop_min : (n : ℕ) (qs : List Place) → drop (min n (length qs)) qs ≡ drop n qs
drop_min n qs = elim (cases_lt (length qs) n) [
  | inl past ↦ drop_all (min n (length qs)) qs (omega (arith, past)) ∙ sym (drop_all n qs (omega (arith, past)))
  | inr within ↦ (let e : min n (length qs) ≡ n = omega (arith, within) in ap (λ m. drop m qs) e)
]

pub rest_moved : (line : Line) (n : ℕ) → rest_of (moved line n) ≡ drop n (rest_of line)
rest_moved line n =
    let qs = line.places.items in
    sym (drop-drop n (min line.from (length qs)) qs) ∙ ap (drop n) (drop_min line.from qs)

-- and so the line is kept
module _ (g : Forest) (xs : List Track) (p : Presence) (line : Line) (is : IsLine g xs p line) (beside : length xs ≡ length g.entries) (at n : ℕ) (rs : List WatchRequest) (named : (i : ℕ) → list_any (λ (r : WatchRequest). r.entry == i) rs ≡ has i (take n (entries_of (rest_of line)))) where
  abbrev zs : List Track
  zs = sent_on at rs xs

  abbrev since : ℕ
  since = line.clocks.at

  abbrev asked : ℕ → Bool
  asked i = list_any (λ (r : WatchRequest). r.entry == i) rs

  abbrev need : ℕ → ℕ
  need = need_of g.entries xs line.clocks

  same_need : (i : ℕ) → need_of g.entries zs line.clocks i ≡ need i
  same_need i = need_same zs xs (sent_seen at rs xs) g.entries line.clocks i

  read : (i : ℕ) → i < length g.entries → track_in zs i ≡ (if asked i then sent_track at (track_in xs i) else track_in xs i)
  read i within = each_read (sent_in at rs) xs i (omega (arith, beside, within))

  -- those that go out were due
  taken_in : (i : ℕ) (es : List ℕ) → has i (take n es) ≡ true → has i es ≡ true
  taken_in i es yes' =
      ap (has i) (sym (take-append-drop n es)) ∙ list_any-append (λ j. j == i) (take n es) (drop n es)
      ∙ ap (λ b. b || has i (drop n es)) yes'

  was_due : (i : ℕ) → i < length g.entries → asked i ≡ true → is_due p since (track_in xs i) ≡ true
  was_due i within yes' = is.order.members i (omega (arith, beside, within)) ∙ taken_in i (entries_of (rest_of line)) (sym (named i) ∙ yes')

  left_read : (i : ℕ) → i < length g.entries → left_of g zs line.clocks p i ≡ left_at g.margin (entry_at g.entries i) (need i) p since (if asked i then sent_track at (track_in xs i) else track_in xs i)
  left_read i within =
      ap (λ m. left_at g.margin (entry_at g.entries i) m p since (track_in zs i)) (same_need i) ∙ ap (left_at g.margin (entry_at g.entries i) (need i) p since) (read i within)

  left_same : (last i : ℕ) → last ≤ line.beyond → last ≤ NEVER → i < length g.entries → min last (left_of g zs line.clocks p i) ≡ min last (left_of g xs line.clocks p i)
  left_same last i low never within =
      let e = entry_at g.entries i in
      let x = track_in xs i in
      ap (min last) (left_read i within)
      ∙ elim (cases_Bool (asked i)) as (λ _. min last (left_at g.margin e (need i) p since (if asked i then sent_track at x else x)) ≡ min last (left_of g xs line.clocks p i)) [
        | inl yes' ↦
            ap (λ y. min last (left_at g.margin e (need i) p since y)) (cond-true (asked i) (sent_track at x) x yes')
            ∙ sent_left at x g.margin (need i) since last line.beyond e p low never (is.beyond i within (was_due i within yes'))
        | inr no' ↦ ap (λ y. min last (left_at g.margin e (need i) p since y)) (cond-false (asked i) (sent_track at x) x no')
      ]

  not_asked : (b c : Bool) → (if b then false else c) ≡ true → b ≡ false
  not_asked true c bad = absurd (let e : false ≡ true = bad in cc)
  not_asked false c bad = refl

  kept_due : (i : ℕ) → i < length g.entries → is_due p since (track_in zs i) ≡ true → asked i ≡ false
  kept_due i within due =
      not_asked (asked i) (is_due p since (track_in xs i)) (sym (due_sent at (track_in xs i) p since (asked i)) ∙ ap (is_due p since) (sym (read i within)) ∙ due)

  kept_track : (i : ℕ) → i < length g.entries → is_due p since (track_in zs i) ≡ true → track_in zs i ≡ track_in xs i
  kept_track i within due = read i within ∙ cond-false (asked i) (sent_track at (track_in xs i)) (track_in xs i) (kept_due i within due)

  beyond_kept : (i : ℕ) → i < length g.entries → is_due p since (track_in zs i) ≡ true → line.beyond ≤ left_of g zs line.clocks p i
  beyond_kept i within due =
      let x = track_in xs i in
      let was : is_due p since x ≡ true = ap (is_due p since) (sym (kept_track i within due)) ∙ due in
      let far = is.beyond i within was in
      let is' : left_of g zs line.clocks p i ≡ left_of g xs line.clocks p i =
      left_read i within ∙ ap (left_at g.margin (entry_at g.entries i) (need i) p since) (cond-false (asked i) (sent_track at x) x (kept_due i within due)) in
      omega (arith, far, is')

  end_same : (i : ℕ) → i < length g.entries → believed (track_in zs i).end ≡ believed (track_in xs i).end
  end_same i within = ap (λ (x : Track). believed x.end) (read i within) ∙ end_sent at (track_in xs i) (asked i)

  -- whoever is due was, and keeps its time
  timed_kept : (i : ℕ) → i < length g.entries → is_due p since (track_in zs i) ≡ true → sec since < time_in g zs i → line.lasting ≤ time_in g zs i
  timed_kept i within due =
      subst (λ (x : Track). is_due p since x ≡ true → sec since < time g.margin (entry_at g.entries i) x → line.lasting ≤ time g.margin (entry_at g.entries i) x)
      (sym (kept_track i within due)) (is.timed i within) due

  pub line_sent : IsLine g zs p (moved line n)
  line_sent = record {
    order = subst (IsInLine g p since zs) (sym (rest_moved line n)) (left_in_line g p since xs (rest_of line) is.order at n rs named);
    next = λ last low never.
        least_capped (left_of g zs line.clocks p) (left_of g xs line.clocks p) last last 0 (length g.entries) (omega arith) (λ i from below. left_same last i low never (omega (arith, below)))
        ∙ is.next last low never;
    beyond = beyond_kept;
    needed = λ i within some. let e = same_need i in let n' = is.needed i within (omega (arith, e, some)) in omega (arith, e, n');
    ended = λ i within living. let e = end_same i within in let n' = is.ended i within (omega (arith, e, living)) in omega (arith, e, n');
    timed = timed_kept;
    there = is.there;
    together = any_kept (λ (x : Track). is_alone_try x.attempt) xs zs is.together (each_length (sent_in at rs) xs)
        (λ i within off. ap (λ (x : Track). is_alone_try x.attempt) (each_read (sent_in at rs) xs i within) ∙ alone_sent at (track_in xs i) (asked i) ∙ off);
  }
