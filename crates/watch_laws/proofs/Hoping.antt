-- Hoping: a round names the Asks of the forest as it is believed, by the ends that are hoped for. For the law of Asks and that of hope.
use Rattle.std.proofs.Common.{◌≡◌, ◌∙◌, ℕ, suc, ◌+◌, ◌-◌, ◌<◌, ◌≤◌, ◌⊎◌, Bool, true, false, cond, not, ◌&&◌, ◌||◌, ◌==◌, if◌then◌else◌, List, [], ◌∷◌, Option, Some, None, filter, length, max, nat_le, nat_lt, refl, sym, ap, ap₂, subst, arith, inl, inr}
use Rattle.std.proofs.lemmas.Bool.Decides.{nat_tests}
use Rattle.std.proofs.lemmas.Bool.{cases_Bool, cases_lt, cond-false, cond-true}
use Rattle.std.proofs.Math.Path.{fun_ext}
use Rattle.std.specs.List.{list_all, list_any, range_with_len}
use Rattle.base_moment.specs.declared.moment.TheConstants.{LAST}
use Rattle.plan_forest.specs.{declared.entry.Entry.Entry, Carried.carried, Forest.end_of, Forest.entry_at, Over.chain, Over.is_over, Push.IsForest}
use Rattle.plan_forest.specs.Renewal.{all_last, capped, is_granted, renewal, renewed}
use Rattle.plan_forest.proofs.{Chains.ParentsFirst, Entries.entry_at_past, Placed.parents_first}
use Rattle.plan_forest.proofs.Carrying.{carried_is_of, or_left, or_right}
use Rattle.plan_rule.specs.Forced.{bound, latest_end}
use Rattle.plan_rule.specs.Asks.{asks, is_end_due, is_to_be_asked as is_asked_now}
use Rattle.plan_rule.proofs.{Keeping.end_below_bound, Lists.need_within}
use Rattle.watch_machine.specs.Beginning.{is_pressed}
use Rattle.watch_machine.specs.Round.{IsSecond, RoundAsks, is_hoped, plan_view}
use Rattle.watch_machine.specs.State.{WatchState, second, track_at}
use Rattle.watch_machine.specs.Wanted.{believed, is_never, is_unknown, is_wanted, seen_entry, wanted_need, wants}
use Rattle.watch_laws.specs.Calm.{believed_forest, ends, in_plan_at, lead_at, planned_need, terms}
use Rattle.watch_laws.specs.Rounds.{AreAsks, IsRoundAfter, granted_forest, granted_terms}
use Rattle.watch_laws.proofs.Foreseen.{need_planned, never_ends}
use Rattle.watch_laws.proofs.Believed.{AreSameNeeds, believed_count, believed_is_forest, carried_believed, carried_within, over_before, same_carried, same_chain, written_at, written_count, written_same}
use Rattle.watch_laws.proofs.OfPlan.{hoped_at, hoped_entry, one, own_entry, planned_at, planned_is, planned_same, seen_at, three}

-- an entry that is wanted and not hoped for is in the plan
planned_fit : (w p rest : Bool) → w ≡ true → w && (not p || rest) ≡ false → p ≡ true
planned_fit true true rest h e = refl
planned_fit true false rest h e = absurd cc
planned_fit false p rest h e = absurd cc

-- one that is not wanted, though it ends before its need, may not be led
not_led :
    (renewable unknown top last endless short : Bool) → (renewable || unknown) && ((not top || last) && (not endless && short)) ≡ false → endless ≡ false → short ≡ true → renewable && not top ≡ false
not_led true unknown false last false true h e s = absurd cc
not_led true unknown false last false false h e s = absurd cc
not_led true unknown false last true short h e s = absurd cc
not_led true unknown true last endless short h e s = refl
not_led false unknown top last endless short h e s = refl

-- nor may one at its top
at_top : (renewable top : Bool) → top ≡ true → renewable && not top ≡ false
at_top true true h = refl
at_top true false h = absurd cc
at_top false top h = refl

-- tests that agree on the members of a list
all_agree : (p q : ℕ → Bool) (xs : List ℕ) → ((a : ℕ) → list_any (λ b. b == a) xs ≡ true → p a ≡ q a) → list_all p xs ≡ list_all q xs
all_agree p q [] same = refl
all_agree p q (x ∷ xs) same =
    ap₂ (λ b c. b && c) (same x (or_left (x == x) (list_any (λ b. b == x) xs) (grind (arith, nat_tests))))
    (all_agree p q xs (λ a h. same a (or_right (x == a) (list_any (λ b. b == a) xs) h)))

-- the bound of an entry after a wake-up
bound_at : (xs : List Entry) (e : ℕ → ℕ) (t i : ℕ) → bound xs e (Some t) i ≡ cond (entry_at xs i).renewable (max (e i) (renewal (entry_at xs i) t)) (e i)
unfolding bound latest_end
bound_at xs e t i = refl

no_gain : (b : Bool) (n : ℕ) → cond b (max n n) n ≡ n
no_gain true n = omega arith
no_gain false n = refl

branches : (b : Bool) (x y : Entry) (u v : ℕ) → x.end ≡ u → y.end ≡ v → (if b then x else y).end ≡ (if b then u else v)
branches true x y u v h k = h
branches false x y u v h k = k

four : (a b c d e : Bool) → d ≡ false → a && (b && (c && (d && e))) ≡ false
four a b c true e h = absurd cc
four true true true false e h = refl
four true true false false e h = refl
four true false c false e h = refl
four false b c false e h = refl

-- the entries of a round, as the law takes them and as the machine does; and the ends that are hoped for
abbrev granted_of : WatchState → List Entry
granted_of s = (granted_forest s).entries

abbrev pub view_of : WatchState → List Entry
view_of s = plan_view s.forest s.tracks s.clocks

abbrev pub hopes : WatchState → ℕ → ℕ
hopes s i = if hoped_at s i then renewal (granted_terms s i) (second s) else ends s i

-- one that is not hoped for is taken as it is believed: its end, whether it is renewable, and its ceiling; and its step where it is wanted
record IsOwn (s : WatchState) (i : ℕ) : Type 0 where
  pub end : hopes s i ≡ ends s i
  pub renewable : (entry_at (view_of s) i).renewable ≡ (entry_at (granted_of s) i).renewable
  pub ceiling : (entry_at (view_of s) i).ceiling ≡ (entry_at (granted_of s) i).ceiling
  pub step : is_wanted s i ≡ true → (entry_at (view_of s) i).step ≡ (entry_at (granted_of s) i).step
  pub led : (entry_at (granted_of s) i).renewable ≡ (track_at s i).renewable && not (track_at s i).top

module _ (s : WatchState) (forest : IsForest s.forest) where
  abbrev bs : List Entry
  bs = (believed_forest s).entries

  abbrev es : List Entry
  es = granted_of s

  abbrev fs : List Entry
  fs = view_of s

  abbrev now : ℕ
  now = second s

  abbrev to : ℕ → ℕ
  to i = hopes s i

  first : ParentsFirst bs
  first = parents_first (believed_forest s) (believed_is_forest s forest)

  view_count : length fs ≡ length s.forest.entries
  view_count = written_count (planned_at s) (length s.forest.entries)

  view_at : (i : ℕ) → i < length s.forest.entries → entry_at fs i ≡ planned_at s i
  view_at i within = written_at (planned_at s) (length s.forest.entries) i within

  same_view : AreSameNeeds bs fs
  unfolding believed_forest
  same_view = written_same (terms s) (planned_at s) (length s.forest.entries) first (λ i h. planned_same s i)

  granted_count : length es ≡ length s.forest.entries
  unfolding granted_forest
  granted_count = written_count (granted_terms s) (length s.forest.entries)

  granted_at : (i : ℕ) → i < length s.forest.entries → entry_at es i ≡ granted_terms s i
  unfolding granted_forest
  granted_at i within = written_at (granted_terms s) (length s.forest.entries) i within

  same_granted : AreSameNeeds bs es
  unfolding believed_forest granted_forest granted_terms
  same_granted = written_same (terms s) (granted_terms s) (length s.forest.entries) first (λ i h. (refl, refl))

  pub needs_view : (i : ℕ) → carried fs now i ≡ planned_need s i
  needs_view i = same_carried bs fs same_view now i ∙ carried_believed s forest i

  needs_granted : (i : ℕ) → carried es now i ≡ planned_need s i
  needs_granted i = same_carried bs es same_granted now i ∙ carried_believed s forest i

  needed_within : (i : ℕ) → 0 < planned_need s i → i < length s.forest.entries
  needed_within i some =
      let c = carried_believed s forest i in
      let n = believed_count s in
      let inside = carried_within bs first now i (omega arith) in
      omega arith

  -- the ends of the Asks are those that are hoped for
  planned_end : (i : ℕ) → (planned_at s i).end ≡ to i
  unfolding granted_terms terms seen_entry ends renewal
  planned_end i = ap (λ (x : Entry). x.end) (planned_is s i) ∙ branches (hoped_at s i) (hoped_entry s i) (own_entry s i) (renewal (granted_terms s i) now) (ends s i) refl refl

  end_is : (i : ℕ) → i < length s.forest.entries → end_of fs i ≡ to i
  unfolding end_of
  end_is i within = ap (λ (x : Entry). x.end) (view_at i within) ∙ planned_end i

  -- one that is hoped for is led no further
  hoped_end : (i : ℕ) → hoped_at s i ≡ true → to i ≡ renewal (granted_terms s i) now
  hoped_end i hoped = cond-true (hoped_at s i) (renewal (granted_terms s i) now) (ends s i) hoped

  hoped_fixed : (i : ℕ) → i < length s.forest.entries → hoped_at s i ≡ true → (entry_at fs i).renewable ≡ false
  hoped_fixed i within hoped = ap (λ (x : Entry). x.renewable) (view_at i within ∙ planned_is s i ∙ cond-true (hoped_at s i) (hoped_entry s i) (own_entry s i) hoped)

  own_is : (i : ℕ) → i < length s.forest.entries → hoped_at s i ≡ false → IsOwn s i
  unfolding granted_terms terms seen_entry is_hoped
  own_is i within other =
      let x = track_at s i in
      let f : entry_at fs i ≡ own_entry s i = view_at i within ∙ planned_is s i ∙ cond-false (hoped_at s i) (hoped_entry s i) (own_entry s i) other in
      let g = granted_at i within in
      record {
        end = cond-false (hoped_at s i) (renewal (granted_terms s i) now) (ends s i) other;
        renewable = ap (λ (e : Entry). e.renewable) f ∙ sym (ap (λ (e : Entry). e.renewable) g);
        ceiling = ap (λ (e : Entry). e.ceiling) f ∙ sym (ap (λ (e : Entry). e.ceiling) g);
        step = λ wanted.
            let fit = planned_fit (is_wanted s i) (in_plan_at s i) (is_unknown x.end || (is_pressed x || x.out)) wanted other in
            ap (λ (e : Entry). e.step) f ∙ cond-true (in_plan_at s i) (lead_at s i) (seen_at s i).step fit ∙ sym (ap (λ (e : Entry). e.step) g);
        led = ap (λ (e : Entry). e.renewable) g;
      }

  -- whoever is not wanted, and ends before its need, may not be led
  fixed_short : (i : ℕ) → is_wanted s i ≡ false → ends s i < planned_need s i → (track_at s i).renewable && not (track_at s i).top ≡ false
  unfolding wants ends
  fixed_short i unwanted short =
      let x = track_at s i in
      let g = believed_forest s in
      let c = carried_believed s forest i in
      let needed = carried_is_of g.entries now i (ends s i) (omega arith) in
      let low = need_within g (believed_is_forest s forest) needed.0 in
      let l = needed.3 in
      let own : believed x.end ≡ ends s i = refl in
      let end_low : believed x.end ≤ LAST = omega arith in
      elim (cases_Bool x.top) as (λ _. x.renewable && not x.top ≡ false) [
        | inl topped ↦ at_top x.renewable x.top topped
        | inr led ↦
            let same = need_planned s i led in
            let before : believed x.end < wanted_need s i = omega arith in
            let after : nat_lt (believed x.end) (wanted_need s i) ≡ true = grind (arith, nat_tests, before) in
            not_led x.renewable (is_unknown x.end) x.top x.last_try (is_never x.end) (nat_lt (believed x.end) (wanted_need s i)) unwanted (never_ends x.end end_low) after
      ]

  -- the bounds after this wake-up: the same, or none falls short
  bounds : (i : ℕ) → i < length s.forest.entries → ((planned_need s i ≤ end_of fs i) × (planned_need s i ≤ to i)) ⊎ (bound fs (end_of fs) (Some now) i ≡ bound es to (Some now) i)
  unfolding renewal
  bounds i within =
      let f = bound_at fs (end_of fs) now i in
      let g = bound_at es to now i in
      let end = end_is i within in
      elim (cases_Bool (hoped_at s i)) as (λ _. ((planned_need s i ≤ end_of fs i) × (planned_need s i ≤ to i)) ⊎ (bound fs (end_of fs) (Some now) i ≡ bound es to (Some now) i)) [
        | inl hoped ↦
            let renews : renewal (entry_at es i) now ≡ to i = ap (λ (x : Entry). renewal x now) (granted_at i within) ∙ sym (hoped_end i hoped) in
            inr (
            f ∙ cond-false (entry_at fs i).renewable (max (end_of fs i) (renewal (entry_at fs i) now)) (end_of fs i) (hoped_fixed i within hoped) ∙ end
            ∙ sym (g ∙ ap (λ n. cond (entry_at es i).renewable (max (to i) n) (to i)) renews ∙ no_gain (entry_at es i).renewable (to i))
            )
        | inr other ↦
            let own = own_is i within other in
            elim (cases_Bool (is_wanted s i)) as (λ _. ((planned_need s i ≤ end_of fs i) × (planned_need s i ≤ to i)) ⊎ (bound fs (end_of fs) (Some now) i ≡ bound es to (Some now) i)) [
              | inl wanted ↦
                  inr (
                  f ∙ ap (λ b. cond b (max (end_of fs i) (renewal (entry_at fs i) now)) (end_of fs i)) own.renewable
                  ∙ ap (λ n. cond (entry_at es i).renewable (max n (renewal (entry_at fs i) now)) n) end
                  ∙ ap₂ (λ o n. cond (entry_at es i).renewable (max (to i) (capped o (now + n))) (to i)) own.ceiling (own.step wanted) ∙ sym g
                  )
              | inr unwanted ↦ elim (cases_lt (ends s i) (planned_need s i)) as (λ _. ((planned_need s i ≤ end_of fs i) × (planned_need s i ≤ to i)) ⊎ (bound fs (end_of fs) (Some now) i ≡ bound es to (Some now) i)) [
                | inl short ↦
                    let fixed = own.led ∙ fixed_short i unwanted short in
                    inr (
                    f ∙ cond-false (entry_at fs i).renewable (max (end_of fs i) (renewal (entry_at fs i) now)) (end_of fs i) (own.renewable ∙ fixed) ∙ end
                    ∙ sym (g ∙ cond-false (entry_at es i).renewable (max (to i) (renewal (entry_at es i) now)) (to i) fixed)
                    )
                | inr lasts ↦ (let h = own.end in inl (omega arith, omega arith))
              ]
            ]
      ]

  -- so the same falls short
  short_view : (i : ℕ) → bound fs (end_of fs) (Some now) i < carried fs now i → (bound es to (Some now) i < carried es now i) × (bound fs (end_of fs) (Some now) i ≡ bound es to (Some now) i)
  short_view i short =
      let c = needs_view i in
      let d = needs_granted i in
      let low = end_below_bound fs (end_of fs) (Some now) i in
      elim (bounds i (needed_within i (omega arith))) as (λ _. (bound es to (Some now) i < carried es now i) × (bound fs (end_of fs) (Some now) i ≡ bound es to (Some now) i)) [
        | inl lasts ↦ absurd (let l = lasts.0 in omega arith)
        | inr same ↦ (omega arith, same)
      ]

  short_granted : (i : ℕ) → bound es to (Some now) i < carried es now i → (bound fs (end_of fs) (Some now) i < carried fs now i) × (bound fs (end_of fs) (Some now) i ≡ bound es to (Some now) i)
  short_granted i short =
      let c = needs_view i in
      let d = needs_granted i in
      let low = end_below_bound es to (Some now) i in
      elim (bounds i (needed_within i (omega arith))) as (λ _. (bound fs (end_of fs) (Some now) i < carried fs now i) × (bound fs (end_of fs) (Some now) i ≡ bound es to (Some now) i)) [
        | inl lasts ↦ absurd (let l = lasts.1 in omega arith)
        | inr same ↦ (omega arith, same)
      ]

  next_is : (next : Option ℕ) → IsSecond fs s.forest.margin now next → IsRoundAfter es s.forest.margin now to next
  next_is None none =
      λ i. elim (cases_lt (bound es to (Some now) i) (carried es now i)) as (λ _. carried es now i ≤ bound es to (Some now) i) [
        | inl short ↦ absurd (let h = (short_granted i short).0 in let l = none i in omega arith)
        | inr lasts ↦ lasts
      ]
  next_is (Some t) next =
      let here = short_view next.entry next.short in
      record {
        entry = next.entry;
        short = here.0;
        earliest = λ i short.
            let there = short_granted i short in
            let l = next.earliest i there.0 in
            let a = here.1 in
            let b = there.1 in
            omega arith;
        moment = next.moment ∙ ap (λ n. n - s.forest.margin) here.1;
      }

  -- who lasts by these ends
  lasts_same : (m i : ℕ) → i < length s.forest.entries → all_last fs (end_of fs) m i ≡ all_last es to m i
  unfolding all_last is_over
  lasts_same m i within =
      let c = same_chain bs fs same_view i in
      let d = same_chain bs es same_granted i in
      all_agree (λ a. nat_le m (end_of fs a)) (λ a. nat_le m (to a)) (chain fs i) (λ a over. ap (nat_le m) (end_is a (above a (ap (list_any (λ b. b == a)) (sym c) ∙ over))))
      ∙ ap (list_all (λ a. nat_le m (to a))) (c ∙ sym d) where
        above : (a : ℕ) → list_any (λ b. b == a) (chain bs i) ≡ true → a < length s.forest.entries
        above a over = let l = over_before bs first (suc i) a i (omega arith) over in omega arith

  -- who is asked
  asked_same : (next : Option ℕ) (i : ℕ) → is_asked_now fs s.forest.margin now (end_of fs) now next i ≡ is_asked_now es s.forest.margin now to now next i
  unfolding is_asked_now renewed is_granted renewal
  asked_same next i =
      let margin = s.forest.margin in
      let count = view_count in
      let count' = granted_count in
      let c = needs_view i in
      let d = needs_granted i in
      elim (cases_lt i (length s.forest.entries)) as (λ _. is_asked_now fs margin now (end_of fs) now next i ≡ is_asked_now es margin now to now next i) [
        | inr past ↦
            one (entry_at fs i).renewable _ (ap (λ (x : Entry). x.renewable) (entry_at_past fs i (omega arith)))
            ∙ sym (one (entry_at es i).renewable _ (ap (λ (x : Entry). x.renewable) (entry_at_past es i (omega arith))))
        | inl within ↦
            let end = end_is i within in
            elim (cases_Bool (hoped_at s i)) as (λ _. is_asked_now fs margin now (end_of fs) now next i ≡ is_asked_now es margin now to now next i) [
              | inl hoped ↦
                  let renews : renewal (entry_at es i) now ≡ to i = ap (λ (x : Entry). renewal x now) (granted_at i within) ∙ sym (hoped_end i hoped) in
                  one (entry_at fs i).renewable _ (hoped_fixed i within hoped) ∙ sym (not_gained (entry_at es i).renewable (all_last es to (now + 1) i) (all_last es to (now + margin) i) renews)
              | inr other ↦
                  let own = own_is i within other in
                  elim (cases_Bool (is_wanted s i)) as (λ _. is_asked_now fs margin now (end_of fs) now next i ≡ is_asked_now es margin now to now next i) [
                    | inl wanted ↦
                        let r = own.renewable in
                        let o = own.ceiling in
                        let l = own.step wanted in
                        let A = lasts_same (now + 1) i within in
                        let B = lasts_same (now + margin) i within in
                        let C : carried fs now i ≡ carried es now i = c ∙ sym d in
                        cc
                    | inr unwanted ↦ elim (cases_lt (ends s i) (planned_need s i)) as (λ _. is_asked_now fs margin now (end_of fs) now next i ≡ is_asked_now es margin now to now next i) [
                      | inl short ↦
                          let fixed = own.led ∙ fixed_short i unwanted short in
                          one (entry_at fs i).renewable _ (own.renewable ∙ fixed) ∙ sym (one (entry_at es i).renewable _ fixed)
                      | inr lasts ↦
                          let h = own.end in
                          let no_view : nat_lt (end_of fs i) (carried fs now i) ≡ false = grind (arith, nat_tests) in
                          let no_own : nat_lt (to i) (carried es now i) ≡ false = grind (arith, nat_tests) in
                          three (entry_at fs i).renewable (all_last fs (end_of fs) (now + 1) i) _ _ no_view ∙ sym (three (entry_at es i).renewable (all_last es to (now + 1) i) _ _ no_own)
                    ]
                  ]
            ]
      ] where
        below : (m n : ℕ) → n ≡ m → nat_lt m n ≡ false
        below m n same = grind (arith, nat_tests)

        gains : (b : Bool) → renewal (entry_at es i) now ≡ to i → nat_lt (to i) (cond b (renewal (entry_at es i) now) (to i)) ≡ false
        gains true renews = below (to i) (renewal (entry_at es i) now) renews
        gains false renews = below (to i) (to i) refl

        not_gained :
            (r a b : Bool) → renewal (entry_at es i) now ≡ to i →
            r && (a && (nat_lt (to i) (carried es now i) && (nat_lt (to i) (cond (r && b) (renewal (entry_at es i) now) (to i)) && is_end_due s.forest.margin next (to i)))) ≡ false
        not_gained r a b renews = let no = gains (r && b) renews in four r a (nat_lt (to i) (carried es now i)) (nat_lt (to i) (cond (r && b) (renewal (entry_at es i) now) (to i))) (is_end_due s.forest.margin next (to i)) no

  granted_margin : (granted_forest s).margin ≡ s.forest.margin
  unfolding granted_forest
  granted_margin = refl

  -- so what a round asks are the Asks
  pub asks_hoped : (asked : List ℕ) → RoundAsks fs s.forest.margin now asked → AreAsks (granted_forest s) now to asked
  unfolding asks
  asks_hoped asked round =
      let next = round.0 in
      subst (λ m. (next' : Option ℕ) × (IsRoundAfter es m now to next' × (asked ≡ asks es m now to now next'))) (sym granted_margin) (
        next,
        (
          next_is next round.1.0,
          round.1.1 ∙ ap (λ n. filter (is_asked_now fs s.forest.margin now (end_of fs) now next) (range_with_len 0 n)) (view_count ∙ sym granted_count)
              ∙ ap (λ p. filter p (range_with_len 0 (length es))) (fun_ext (asked_same next)),
        ),
      )
