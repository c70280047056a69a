-- A queue of deadlines: how it begins, what it keeps, and what taking a run from it gives.
use Rattle.std.proofs.Common.{◌≡◌, ℕ, suc, ◌+◌, ◌-◌, ◌*◌, ◌<◌, ◌≤◌, ◌⊎◌, ◌++◌, List, [], ◌∷◌, length, Option, Some, None, refl, sym, ap, ◌∙◌, subst, arith, inl, inr, add-one}
use Rattle.std.proofs.lemmas.{Bool.cases_eq, Bool.cases_lt, List.Elements.All-cons, List.Elements.All-nil, List.Sorted.All-permutation, List.Sorted.Contains-permutation, List.Sorted.IsPermutation-sym}
use Rattle.std.specs.{List.Contains, List.Sorted.IsPermutation}
use Rattle.base_moment.specs.declared.moment.TheConstants.{LAST}
use Rattle.plan_rule.specs.{declared.force.Force.Force, declared.run.Run.Run, Runs.wakes, Runs.wakes_of}
use Rattle.plan_schedule.specs.{declared.groups.Groups.Groups, declared.groups.Next.Next, declared.groups.Next.TheVariants.Done, declared.groups.Next.TheVariants.Joined, declared.groups.Next.TheVariants.Waiting, Courses.IsToCome}
use Rattle.plan_schedule.specs.{code.Groups.IsGrouped, code.Groups.IsKeyed, code.Groups.Joins, code.Groups.SettlesGroups, code.Groups.StandsWaiting, code.Line.FirstOf, code.Line.Lined, code.Line.Spot, code.Line.spot}
use Rattle.plan_schedule.specs.{Prospect.Prospect, Prospect.terms_of, code.Queueing.FillsLine, code.Queueing.GroupsAreReady, code.Queueing.RunIsBegun, code.Queueing.WaiterIsDue, Given.GivesHead, Given.GivesRun, Given.IsFirstRun}
use Rattle.plan_schedule.specs.{code.Stretches.IsOtherEntry, code.Stretches.Stretches, Terms.Ahead, Terms.AreLed, Terms.Leads, Terms.Terms, Terms.lasts_until, code.Sound.TermsAreSound}
use Rattle.plan_schedule.proofs.{Bridge.need_past, Grouping.first_leads, Grouping.join_leads, Grouping.later, Grouping.none_lacks, Grouping.wait_leads}
use Rattle.plan_schedule.proofs.{Leading.end_below_deadline, Leading.one_leads, Leading.one_led, Leading.same_force, Leading.short_before, Lines.contains_cons, Lines.contains_head, Lines.contains_more, Lists.IsEnded, Lists.no_longer}
use Rattle.plan_schedule.proofs.{Moves.first_key, Moves.first_within, Moves.joined, Moves.joins_was, Moves.none_ahead, Stretches.led_run, Stretches.run_led}

pub fills_added : (o : Prospect) (k : ℕ) (old new : Lined) → FillsLine o k old → k < length o.loads → (terms_of o).end k < (terms_of o).need k → IsPermutation (spot ((terms_of o).end k) k ∷ old.spots) new.spots → old.room ≤ new.room → length new.spots ≡ length old.spots + 1 → FillsLine o (k + 1) new
fills_added o k old new fills within short added room longer =
    let count = fills.count in
    let roomy = fills.room in
    record {
      keyed = All-permutation (λ (y : Spot). (y.0.0 ≡ (terms_of o).end y.0.1) × (y.0.1 < length o.loads)) (spot ((terms_of o).end k) k ∷ old.spots) new.spots added (All-cons (λ (y : Spot). (y.0.0 ≡ (terms_of o).end y.0.1) × (y.0.1 < length o.loads)) (spot ((terms_of o).end k) k) old.spots (refl, within) fills.keyed);
      short = λ i among.
          elim (contains_cons (spot ((terms_of o).end i) i) (spot ((terms_of o).end k) k) old.spots (Contains-permutation new.spots (spot ((terms_of o).end k) k ∷ old.spots) (spot ((terms_of o).end i) i) (IsPermutation-sym (spot ((terms_of o).end k) k ∷ old.spots) new.spots added) among)) [
            | inl same ↦ subst (λ j. (terms_of o).end j < (terms_of o).need j) (ap (λ (x : Spot). x.0.1) same) short
            | inr rest ↦ fills.short i rest
          ];
      all = λ i h falls.
          Contains-permutation (spot ((terms_of o).end k) k ∷ old.spots) new.spots (spot ((terms_of o).end i) i) added
          (elim (cases_eq i k) [
            | inl same ↦ subst (λ j. Contains (spot ((terms_of o).end k) k ∷ old.spots) (spot ((terms_of o).end j) j)) (sym same) (contains_head (spot ((terms_of o).end k) k) old.spots)
            | inr other ↦ contains_more (spot ((terms_of o).end i) i) (spot ((terms_of o).end k) k) old.spots (fills.all i (omega arith) falls)
          ]);
      count = omega arith;
      room = omega arith;
    }

pub fills_kept : (o : Prospect) (k : ℕ) (l : Lined) → FillsLine o k l → (terms_of o).need k ≤ (terms_of o).end k → FillsLine o (k + 1) l
fills_kept o k l fills lasts =
    let count = fills.count in
    record {
      keyed = fills.keyed;
      short = fills.short;
      all = λ i h falls. elim (cases_eq i k) [
        | inl same ↦ absurd (let e : (terms_of o).end i ≡ (terms_of o).end k = ap (terms_of o).end same in let d : (terms_of o).need i ≡ (terms_of o).need k = ap (terms_of o).need same in omega arith)
        | inr other ↦ fills.all i (omega arith) falls
      ];
      count = omega arith;
      room = fills.room;
    }

none_in : (k i : ℕ) (spots : List Spot) → spots ≡ [] → Contains spots (spot k i) → ⊥
none_in k i spots e among = let l = (subst (λ s. Contains s (spot k i)) e among).1 in omega arith

new_grouped : (o : Prospect) (g : Groups) → FillsLine o (length o.loads) g.waits → g.joined ≡ record { spots = []; room = length o.loads } → IsGrouped o None g
new_grouped o g fills empty =
    let t = terms_of o in
    let n = length o.loads in
    let none : g.joined.spots ≡ [] = ap (λ (l : Lined). l.spots) empty in
    let room : g.joined.room ≡ n = ap (λ (l : Lined). l.room) empty in
    let count = fills.count in
    let zero' : length g.joined.spots ≡ 0 = ap (λ (l : List Spot). length l) none in
    record {
      filed = record {
        waits = fills.keyed;
        joined = subst (IsKeyed t.step n) (sym none) (All-nil (λ (y : Spot). (y.0.0 ≡ t.step y.0.1) × (y.0.1 < n)));
        room = omega arith;
      };
      grouped = record {
        all = λ i short. elim (cases_lt i n) [ inl within ↦ inl (fills.all i within short) | inr past ↦ absurd (let z = need_past o i past in omega arith) ];
        short = fills.short;
        joined = λ i j. none_in (t.step i) i g.joined.spots none j;
      };
    }

pub new_done : (o : Prospect) (g : Groups) → FillsLine o (length o.loads) g.waits → g.joined ≡ record { spots = []; room = length o.loads } → FirstOf g.waits.spots None → GroupsAreReady o None g Done
new_done o g fills empty first =
    let t = terms_of o in
    let none : g.joined.spots ≡ [] = ap (λ (l : Lined). l.spots) empty in
    none_lacks t None (StandsWaiting t g) (Joins t g) (new_grouped o g fills empty).grouped (λ i w. none_in (t.end i) i g.waits.spots first w) (λ i j. none_in (t.step i) i g.joined.spots none j)

pub new_due : (o : Prospect) (g : Groups) (h : ℕ) → FillsLine o (length o.loads) g.waits → g.joined ≡ record { spots = []; room = length o.loads } → FirstOf g.waits.spots (Some h) → GroupsAreReady o None g (Waiting h)
new_due o g h fills empty first =
    let t = terms_of o in
    let n = length o.loads in
    let none : g.joined.spots ≡ [] = ap (λ (l : Lined). l.spots) empty in
    let grouped = new_grouped o g fills empty in
    let front = first_key t.end n h g.waits.spots fills.keyed first in
    record {
      grouped = grouped;
      leads = first_leads t h (StandsWaiting t g) (Joins t g) grouped.grouped front.among (none_ahead t.end h g.waits.spots front);
      within = within t n h g.waits.spots fills.keyed front.among;
      front = front;
      least = λ i j. absurd (none_in (t.step i) i g.joined.spots none j);
      unjoined = λ v e. absurd cc;
    } where
      within : (t : Terms) (n h : ℕ) (spots : List Spot) → IsKeyed t.end n spots → Contains spots (spot (t.end h) h) → h < n
      within t n h spots keyed among = first_within t.end n h spots keyed among

grouped_at : (o : Prospect) (prev : Option ℕ) (w : ℕ) (g : Groups) → IsGrouped o prev g → ((v : ℕ) → prev ≡ Some v → v ≤ w) → IsGrouped o (Some w) g
grouped_at o None w g grouped le =
    let old = grouped.grouped in
    record {
      filed = grouped.filed;
      grouped = record { all = λ i short. old.all i (omega arith); short = old.short; joined = λ i j. absurd (old.joined i j) };
    }
grouped_at o (Some v) w g grouped le = record { filed = grouped.filed; grouped = later (terms_of o) v w (StandsWaiting (terms_of o) g) (Joins (terms_of o) g) (le v refl) grouped.grouped }

-- an entry that waits and forces the next wake-up joins with it
pub begun_waiting :
    (o : Prospect) (prev : Option ℕ) (h first : ℕ) (old new : Groups) → TermsAreSound (terms_of o) → WaiterIsDue o prev old h → first ≡ lasts_until (terms_of o) prev h - (terms_of o).margin →
    IsPermutation old.waits.spots (spot ((terms_of o).end h) h ∷ new.waits.spots) → IsPermutation (spot ((terms_of o).step h) h ∷ old.joined.spots) new.joined.spots → old.joined.room ≤ new.joined.room →
    RunIsBegun o prev old new (Waiting h) h first
begun_waiting o prev h first old new sound due at moved added room =
    let short = short_before (terms_of o) prev h due.leads.short in
    let gains = sound.step h short in
    let within = sound.end h short in
    let below = end_below_deadline (terms_of o) prev h in
    let grouped = grouped_at o prev first old due.grouped (λ v e. let u = due.unjoined v e in (omega arith)) in
    let done = joined o first h old new grouped due.within (omega arith) moved added room in
    let sizes = done.1 in
    record {
      leads = due.leads;
      within = due.within;
      at = at;
      grouped = done.0;
      joined = Contains-permutation (spot ((terms_of o).step h) h ∷ old.joined.spots) new.joined.spots (spot ((terms_of o).step h) h) added (contains_head (spot ((terms_of o).step h) h) old.joined.spots);
      least = λ i j. elim (joins_was (terms_of o) h i old.joined.spots new.joined.spots added j) [
        | inl same ↦ subst (λ k. Ahead ((terms_of o).step h) h ((terms_of o).step k) k) same (inr (refl, omega arith))
        | inr rest ↦ inl (due.least i rest)
      ];
      left = omega arith;
    }

-- the settled groups are ready
pub ready_settled : (o : Prospect) (v : ℕ) (old new : Groups) (next : Next) → SettlesGroups o v old new next → GroupsAreReady o (Some v) new next
ready_settled o v old new Done settles =
    none_lacks (terms_of o) (Some v) (StandsWaiting (terms_of o) new) (Joins (terms_of o) new) settles.shrinks.grouped.grouped
    (λ i w. none_in ((terms_of o).end i) i new.waits.spots settles.settled.0 w) (λ i j. none_in ((terms_of o).step i) i new.joined.spots settles.settled.1 j)
ready_settled o v old new (Waiting h) settles =
    let front = settles.settled.1.1 in
    let unjoined = front.unjoined in
    record {
      grouped = settles.shrinks.grouped;
      leads = wait_leads (terms_of o) v h (StandsWaiting (terms_of o) new) (Joins (terms_of o) new) settles.shrinks.grouped.grouped front.waiting front.unjoined front.joins front.waits;
      within = settles.settled.0;
      front = settles.settled.1.0;
      least = λ i j. let a = front.joins i j in omega arith;
      unjoined = λ w e. let same : v ≡ w = cc in omega arith;
    }
ready_settled o v old new (Joined f) settles = record { at = v; is = refl; grouped = settles.shrinks.grouped; within = settles.settled.0; head = settles.settled.1 }

-- where another forces the next wake-up, f does not
not_led : (o : Prospect) (v f : ℕ) (g : Groups) (next : Next) → GroupsAreReady o (Some v) g next → IsOtherEntry f next → (terms_of o).end f ≤ v + (terms_of o).step f → Leads (terms_of o) (Some v) f → ⊥
not_led o v f g Done ready other reached leads = let l = ready f in let s = leads.short in omega arith
not_led o v f g (Waiting h) ready other reached leads =
    let same : h ≡ f = one_leads (terms_of o) (Some v) h f ready.leads leads in
    let u = ready.unjoined v refl in
    let e : (terms_of o).end h ≡ (terms_of o).end f = ap (terms_of o).end same in
    let d : (terms_of o).step h ≡ (terms_of o).step f = ap (terms_of o).step same in
    omega arith
not_led o v f g (Joined k) ready other reached leads =
    let at : v ≡ ready.at = let s : Some v ≡ Some ready.at = ready.is in cc in
    let lasts = join_leads (terms_of o) ready.at k (StandsWaiting (terms_of o) g) (Joins (terms_of o) g) ready.grouped.grouped ready.head.joined ready.head.short ready.head.joins ready.head.waits in
    other (one_leads (terms_of o) (Some v) k f (subst (λ (w : ℕ). Leads (terms_of o) (Some w) k) (sym at) lasts) leads)

ended : (o : Prospect) (v f : ℕ) (g : Groups) (next : Next) → GroupsAreReady o (Some v) g next → IsOtherEntry f next → (terms_of o).end f ≤ v + (terms_of o).step f → (rest : List Force) → AreLed (terms_of o) (Some v) rest → IsEnded f rest
ended o v f g next ready other reached [] led = tt
ended o v f g next ready other reached (x ∷ xs) led = λ same. not_led o v f g next ready other reached (subst (λ i. Leads (terms_of o) (Some v) i) same led.0)

wakes_are :
    (first s d more f needed m : ℕ) → needed ≡ m → ((more ≡ 0) × (s ≡ 0)) ⊎ ((0 < more) × (s ≡ d)) →
    wakes_of first s (more + 1) f needed ≡ record { at = first; entry = f; needed = m } ∷ wakes_of (first + d) d more f m
unfolding wakes_of
wakes_are first s d more f needed m is step =
    ap (λ k. wakes_of first s k f needed) (add-one more) ∙ (ap (λ k. wakes_of first s (suc more) f k) is ∙
    (elim step [
      | inl lone ↦ let e : wakes_of (first + s) s more f m ≡ wakes_of (first + d) d more f m = ap (λ k. wakes_of (first + s) s k f m) lone.0 ∙ ap (λ k. wakes_of (first + d) d k f m) (sym lone.0) in ap (λ l. record { at = first; entry = f; needed = m } ∷ l) e
      | inr several ↦ ap (λ k. record { at = first; entry = f; needed = m } ∷ wakes_of (first + k) k more f m) several.1
    ]))

-- what a run that was begun and stretched takes from the list to come
pub taken :
    (o : Prospect) (prev : Option ℕ) (f first most more last s needed : ℕ) (old mid new : Groups) (now next : Next) → TermsAreSound (terms_of o) →
    RunIsBegun o prev old mid now f first → Stretches o f first most mid new more last next → (more + 1 ≡ most) ⊎ IsOtherEntry f next →
    needed ≡ (terms_of o).from f → ((more ≡ 0) × (s ≡ 0)) ⊎ ((0 < more) × (s ≡ (terms_of o).step f - (terms_of o).margin)) →
    IsFirstRun (IsToCome (record { prospect = o; last = prev })) (IsToCome (record { prospect = o; last = Some last })) most
    (record { first = first; step = s; count = more + 1; entry = f; needed = needed })
unfolding IsToCome
taken o prev f first most more last s needed old mid new now next sound begun stretch over is step =
    let t = terms_of o in
    let d = t.step f - t.margin in
    let short = short_before t prev f begun.leads.short in
    let gains = sound.step f short in
    let margin = sound.end f short in
    let below = end_below_deadline t prev f in
    let at = begun.at in
    let reached : t.end f ≤ first + t.step f = omega arith in
    let ends = stretch.ends in
    let within = stretch.within in
    let moment = stretch.moment in
    let are = wakes_are first s d more f needed (t.from f) is step in
    let splits = split_run t prev f first d more last (wakes_of first s (more + 1) f needed) begun.leads at refl gains reached stretch.leads ends are in
    record {
      run = record { moments = record { some = omega arith; last = last_moment more s d first last step ends moment }; lone = lone_step more s d step (omega arith) };
      within = omega arith;
      joins = λ rest led. subst (λ l. AreLed t prev (l ++ rest)) (sym are)
          (begun.leads, (at, (refl, run_led t f d more first refl gains reached stretch.leads rest (subst (λ (w : ℕ). AreLed t (Some w) rest) ends led))));
      splits = splits;
      longest = λ other rest led fits. elim over [
        | inl cut ↦ omega arith
        | inr ends' ↦
            let parts = splits (wakes other ++ rest) led in
            no_longer first s needed other.first other.step other.needed f other.entry (more + 1) other.count parts.0 rest (omega arith) (sym parts.1.0)
            (ended o last f new next (ready_settled o last mid new next stretch.settles) ends' (omega arith) parts.0 parts.1.1)
      ];
    } where
      lone_step : (more s d : ℕ) → ((more ≡ 0) × (s ≡ 0)) ⊎ ((0 < more) × (s ≡ d)) → 0 < d → (s ≡ 0 → more + 1 ≡ 1) × (more + 1 ≡ 1 → s ≡ 0)
      lone_step more s d (inl lone) gains = (λ e. let z = lone.0 in omega arith, λ e. lone.1)
      lone_step more s d (inr several) gains = (λ e. absurd (let z = several.1 in omega arith), λ e. absurd (let z = several.0 in omega arith))

      last_moment : (more s d first last : ℕ) → ((more ≡ 0) × (s ≡ 0)) ⊎ ((0 < more) × (s ≡ d)) → last ≡ first + more * d → last ≤ LAST → first + (more + 1 - 1) * s ≤ LAST
      last_moment more s d first last (inl lone) ends moment =
          let z : (more + 1 - 1) * s ≡ 0 = ap (λ k. (more + 1 - 1) * k) lone.1 ∙ (let e : (more + 1 - 1) * 0 ≡ 0 = omega arith in e) in omega arith
      last_moment more s d first last (inr several) ends moment =
          let e : (more + 1 - 1) * s ≡ more * d = ap (λ k. k * s) (let m : more + 1 - 1 ≡ more = omega arith in m) ∙ ap (λ k. more * k) several.1 in omega arith

      split_run :
          (t : Terms) (prev : Option ℕ) (f first d more last : ℕ) (w : List Force) → Leads t prev f → first ≡ lasts_until t prev f - t.margin → d ≡ t.step f - t.margin → t.margin < t.step f →
          t.end f ≤ first + t.step f → ((k : ℕ) → k < more → Leads t (Some (first + k * d)) f) → last ≡ first + more * d →
          w ≡ record { at = first; entry = f; needed = t.from f } ∷ wakes_of (first + d) d more f (t.from f) →
          (xs : List Force) → AreLed t prev xs → (rest : List Force) × ((xs ≡ w ++ rest) × AreLed t (Some last) rest)
      split_run t prev f first d more last w leads at is gains reached all ends are [] led = absurd (let z = leads.short in let l = led f in omega arith)
      split_run t prev f first d more last w leads at is gains reached all ends are (y ∷ ys) led =
          let x : Force = record { at = first; entry = f; needed = t.from f } in
          let entry : y.entry ≡ f = one_leads t prev y.entry f led.0 leads in
          let moment : y.at ≡ first = led.1.0 ∙ (ap (λ i. lasts_until t prev i - t.margin) entry ∙ sym at) in
          let for' : y.needed ≡ t.from f = led.1.1.0 ∙ ap t.from entry in
          let head : y ≡ x = same_force y x moment entry for' in
          let more' = led_run t f d more first is gains reached all ys (subst (λ (v : ℕ). AreLed t (Some v) ys) moment led.1.1.1) in (
            more'.0,
            (
              ap (λ z. z ∷ ys) head ∙ (ap (λ l. x ∷ l) more'.1.0 ∙ ap (λ l. l ++ more'.0) (sym are)),
              subst (λ (v : ℕ). AreLed t (Some v) more'.0) (sym ends) more'.1.1,
            ),
          )

pub gives_no_run : (o : Prospect) (prev : Option ℕ) (most : ℕ) → ((i : ℕ) → (terms_of o).need i ≤ lasts_until (terms_of o) prev i) → GivesRun (IsToCome (record { prospect = o; last = prev })) (IsToCome (record { prospect = o; last = prev })) most None
unfolding IsToCome
gives_no_run o prev most none = (none, (none, λ xs led. one_led (terms_of o) prev xs [] led none))

one_wake : (r : Run) → r.count ≡ 1 → wakes r ≡ record { at = r.first; entry = r.entry; needed = r.needed } ∷ []
unfolding wakes_of
one_wake r is = ap (λ k. wakes_of r.first r.step k r.entry r.needed) is

-- a run of one wake-up is the head of the list
pub head_of_run : (old new : List Force → Type 0) (r : Run) (x : Force) → IsFirstRun old new 1 r → x.at ≡ r.first → x.entry ≡ r.entry → x.needed ≡ r.needed → GivesHead old new (Some x)
head_of_run old new r x first at entry needed =
    let some = first.run.moments.some in
    let within = first.within in
    let is : wakes r ≡ x ∷ [] = one_wake r (omega arith) ∙ ap (λ y. y ∷ []) (sym (same_force x (record { at = r.first; entry = r.entry; needed = r.needed }) at entry needed)) in (
      λ rest h. subst (λ l. old (l ++ rest)) is (first.joins rest h),
      λ xs h. let parts = first.splits xs h in (parts.0, (parts.1.0 ∙ ap (λ l. l ++ parts.0) is, parts.1.1)),
    )
