-- Once: an event gives one output and one state. For the laws that secrets change no answer.
use Rattle.std.proofs.Common.{◌≡◌, ◌⊎◌, ◌∙◌, ℕ, suc, ◌+◌, ◌-◌, ◌<◌, ◌≤◌, Bool, true, false, cond, ◌&&◌, ◌||◌, ◌==◌, List, [], ◌∷◌, Option, Some, None, Ok, All, IsSortedBy, count_by, get_or, length, map, nat_lt, take, refl, sym, ap, ap₂, subst, arith, inl, inr}
use Rattle.std.proofs.lemmas.{Bool.Decides.nat_tests, List.Sorted.sum_by-IsPermutation, List.Sums.sum_by-cons}
use Rattle.std.proofs.lemmas.Bool.{and_parts, cases_Bool, eqb-true}
use Rattle.std.proofs.lemmas.List.Elements.{All-cons, All-head, All-nil, All-tail, All-weaker}
use Rattle.plan_forest.specs.{declared.entry.Entry.Entry, Forest.Forest}
use Rattle.watch_machine.specs.{declared.clocks.Clocks.Clocks, declared.command.WatchCommand.WatchCommand, declared.command.WatchOutput.WatchOutput, declared.command.WatchRequest.WatchRequest, declared.event.WatchEvent.WatchEvent}
use Rattle.watch_machine.specs.{declared.event.WatchReply.WatchReply, declared.event.WatchTerms.WatchTerms, declared.lanes.Out.Out, declared.lanes.Presence.Presence, declared.track.Track.Track, Clocks.sec, History.Turn, Press.pressed}
use Rattle.watch_machine.specs.{Refusal.request_out, State.WatchState, Wait.wait}
use Rattle.watch_machine.specs.declared.command.WatchCommand.TheVariants.{Go, Taken}
use Rattle.watch_machine.specs.declared.event.WatchEvent.TheVariants.{Clock, Looked, Renewed}
use Rattle.watch_machine.specs.declared.event.Operation.TheVariants.{Look, Renew}
use Rattle.watch_machine.specs.Round.{IsRound, IsSecond, asked_by_round, plan_view}
use Rattle.watch_machine.specs.Sending.{IsGoing, IsSendingOrder, Place, due, is_before, request, sent}
use Rattle.watch_machine.specs.Step.{Step, StepClock, StepCommand, StepLooked, StepRenewed, nothing_noted, readied, why}

-- ---- places in an order, each as often

-- one place, and another
same_place : Place → Place → Bool
same_place p q = q.part == p.part && (q.rank == p.rank && q.entry == p.entry)

same_is : (p q : Place) → same_place p q ≡ true → q ≡ p
unfolding same_place
same_is p q h =
    let parts = and_parts (q.part == p.part) (q.rank == p.rank && q.entry == p.entry) h in
    let rest = and_parts (q.rank == p.rank) (q.entry == p.entry) parts.1 in
    place_of (eqb-true q.part p.part parts.0) (eqb-true q.rank p.rank rest.0) (eqb-true q.entry p.entry rest.1) where
      place_of : q.part ≡ p.part → q.rank ≡ p.rank → q.entry ≡ p.entry → q ≡ p
      place_of a b c = ap (λ n. record q { part = n }) a ∙ ap₂ (λ r e. record { part = p.part; rank = r; entry = e }) b c

itself : (p : Place) → same_place p p ≡ true
unfolding same_place
itself p =
    let a : (p.part == p.part) ≡ true = grind (arith, nat_tests) in
    let b : (p.rank == p.rank) ≡ true = grind (arith, nat_tests) in
    let c : (p.entry == p.entry) ≡ true = grind (arith, nat_tests) in
    ap (λ x. x && (p.rank == p.rank && p.entry == p.entry)) a ∙ ap (λ x. x && p.entry == p.entry) b ∙ c

often : Place → List Place → ℕ
often p qs = count_by (same_place p) qs

often_none : (p : Place) → often p [] ≡ 0
unfolding often
often_none p = refl

often_cons : (p q : Place) (qs : List Place) → often p (q ∷ qs) ≡ cond (same_place p q) 1 0 + often p qs
unfolding often
often_cons p q qs = sum_by-cons (λ k. cond (same_place p k) 1 0) q qs

-- p comes before q, or is it
abbrev Comes : Place → Place → Type 0
Comes p q = (p.part < q.part) ⊎ ((p.part ≡ q.part) × ((p.rank < q.rank) ⊎ ((p.rank ≡ q.rank) × (p.entry ≤ q.entry))))

comes_of : (p q : Place) → is_before q p ≡ false → Comes p q
comes_of p q h = elim (cases_Bool (nat_lt q.part p.part)) [
  | inl less ↦ absurd (let e = sym (ap (λ b. b || (q.part == p.part && (nat_lt q.rank p.rank || (q.rank == p.rank && nat_lt q.entry p.entry)))) less) ∙ h in cc)
  | inr not_less ↦ elim (cases_Bool (q.part == p.part)) [
    | inl same ↦
        let rest : nat_lt q.rank p.rank || (q.rank == p.rank && nat_lt q.entry p.entry) ≡ false =
        sym (ap (λ b. b && (nat_lt q.rank p.rank || (q.rank == p.rank && nat_lt q.entry p.entry))) same)
        ∙ sym (ap (λ b. b || (q.part == p.part && (nat_lt q.rank p.rank || (q.rank == p.rank && nat_lt q.entry p.entry)))) not_less) ∙ h in
        inr (sym (eqb-true q.part p.part same), by_rank rest)
    | inr other ↦ inl (let low : p.part ≤ q.part = grind (arith, nat_tests) in let apart : (q.part ≡ p.part → ⊥) = not_same q.part p.part other in strictly p.part q.part low apart)
  ]
] where
  not_same : (a b : ℕ) → (a == b) ≡ false → a ≡ b → ⊥
  not_same a b other e = let here : (a == b) ≡ true = grind (arith, nat_tests) in let bad : true ≡ false = sym here ∙ other in cc

  strictly : (a b : ℕ) → a ≤ b → (b ≡ a → ⊥) → a < b
  strictly a b low apart = elim (cases_Bool (nat_lt a b)) [
    | inl less ↦ grind (arith, nat_tests)
    | inr more ↦ absurd (apart (let high : b ≤ a = grind (arith, nat_tests) in omega (arith, low, high)))
  ]

  by_rank : nat_lt q.rank p.rank || (q.rank == p.rank && nat_lt q.entry p.entry) ≡ false → (p.rank < q.rank) ⊎ ((p.rank ≡ q.rank) × (p.entry ≤ q.entry))
  by_rank rest = elim (cases_Bool (nat_lt q.rank p.rank)) [
    | inl less ↦ absurd (let e = sym (ap (λ b. b || (q.rank == p.rank && nat_lt q.entry p.entry)) less) ∙ rest in cc)
    | inr not_less ↦ elim (cases_Bool (q.rank == p.rank)) [
      | inl same ↦
          let last : nat_lt q.entry p.entry ≡ false = sym (ap (λ b. b && nat_lt q.entry p.entry) same) ∙ sym (ap (λ b. b || (q.rank == p.rank && nat_lt q.entry p.entry)) not_less) ∙ rest in
          inr (sym (eqb-true q.rank p.rank same), grind (arith, nat_tests))
      | inr other ↦ inl (let low : p.rank ≤ q.rank = grind (arith, nat_tests) in strictly p.rank q.rank low (not_same q.rank p.rank other))
    ]
  ]

then_comes : (p q r : Place) → Comes p q → Comes q r → Comes p r
then_comes p q r (inl a) (inl b) = inl (omega (arith, a, b))
then_comes p q r (inl a) (inr b) = inl (let e = b.0 in omega (arith, a, e))
then_comes p q r (inr a) (inl b) = inl (let e = a.0 in omega (arith, e, b))
then_comes p q r (inr a) (inr b) = inr (a.0 ∙ b.0, by a.1 b.1) where
  by : (p.rank < q.rank) ⊎ ((p.rank ≡ q.rank) × (p.entry ≤ q.entry)) → (q.rank < r.rank) ⊎ ((q.rank ≡ r.rank) × (q.entry ≤ r.entry)) → (p.rank < r.rank) ⊎ ((p.rank ≡ r.rank) × (p.entry ≤ r.entry))
  by (inl x) (inl y) = inl (omega (arith, x, y))
  by (inl x) (inr y) = inl (let e = y.0 in omega (arith, x, e))
  by (inr x) (inl y) = inl (let e = x.0 in omega (arith, e, y))
  by (inr x) (inr y) = inr (x.0 ∙ y.0, (let c = x.1 in let d = y.1 in omega (arith, c, d)))

both_come : (p q : Place) → Comes p q → Comes q p → q ≡ p
both_come p q (inl a) (inl b) = absurd (omega (arith, a, b))
both_come p q (inl a) (inr b) = absurd (let e = b.0 in omega (arith, a, e))
both_come p q (inr a) (inl b) = absurd (let e = a.0 in omega (arith, e, b))
both_come p q (inr a) (inr b) = by a.1 b.1 where
  by : (p.rank < q.rank) ⊎ ((p.rank ≡ q.rank) × (p.entry ≤ q.entry)) → (q.rank < p.rank) ⊎ ((q.rank ≡ p.rank) × (q.entry ≤ p.entry)) → q ≡ p
  by (inl x) (inl y) = absurd (omega (arith, x, y))
  by (inl x) (inr y) = absurd (let e = y.0 in omega (arith, x, e))
  by (inr x) (inl y) = absurd (let e = x.0 in omega (arith, e, y))
  by (inr x) (inr y) =
      let entry : q.entry ≡ p.entry = (let c = x.1 in let d = y.1 in omega (arith, c, d)) in
      ap (λ n. record q { part = n }) (sym a.0) ∙ ap₂ (λ r e. record { part = p.part; rank = r; entry = e }) (sym x.0) entry

abbrev IsInOrder : List Place → Type 0
IsInOrder xs = IsSortedBy is_before xs

later_of : (x : Place) (xs : List Place) (k : ℕ) (d : Place) → get_or (x ∷ xs) (k + 1) d ≡ get_or xs k d
later_of x xs k d = let e : k + 1 ≡ suc k = omega arith in ap (λ n. get_or (x ∷ xs) n d) e

rest_in_order : (x : Place) (xs : List Place) → IsInOrder (x ∷ xs) → IsInOrder xs
rest_in_order x xs up k d low high =
    sym (ap₂ is_before (later_of x xs (k + 1) d) (later_of x xs k d)) ∙ up (k + 1) d (omega arith) (omega (arith, high))

all_come : (x : Place) (xs : List Place) → IsInOrder (x ∷ xs) → All (Comes x) xs
all_come x [] up = All-nil (Comes x)
all_come x (y ∷ ys) up =
    let here = comes_of x y (up 0 x (omega arith) (omega arith)) in
    All-cons (Comes x) y ys here (All-weaker (Comes y) (Comes x) (λ z c. then_comes x y z here c) ys (all_come y ys (rest_in_order x (y ∷ ys) up)))

comes_itself : (x : Place) → Comes x x
comes_itself x = inr (refl, inr (refl, omega arith))

-- what is among some of which something holds
among_places : (P : Place → Type 0) (p : Place) (qs : List Place) → All P qs → 0 < often p qs → P p
among_places P p [] all some = absurd (let none = often_none p in omega (arith, some, none))
among_places P p (q ∷ qs) all some =
    let more = often_cons p q qs in
    elim (cases_Bool (same_place p q)) [
      | inl same ↦ subst P (same_is p q same) (All-head P q qs all)
      | inr other ↦
          let less : often p (q ∷ qs) ≡ 0 + often p qs = more ∙ ap (λ (b : Bool). cond b 1 0 + often p qs) other in
          among_places P p qs (All-tail P q qs all) (omega (arith, less, some))
    ]

itself_among : (p : Place) (qs : List Place) → 0 < often p (p ∷ qs)
itself_among p qs = let here = often_cons p p qs ∙ ap (λ (b : Bool). cond b 1 0 + often p qs) (itself p) in omega (arith, here)

same_rest : (x p : Place) (xs ys : List Place) → often p (x ∷ ys) ≡ often p (x ∷ xs) → often p ys ≡ often p xs
same_rest x p xs ys same = let a = often_cons p x xs in let b = often_cons p x ys in omega (arith, a, b, same)

order_once : (xs ys : List Place) → IsInOrder xs → IsInOrder ys → ((p : Place) → often p ys ≡ often p xs) → ys ≡ xs
order_once [] [] up up' same = refl
order_once [] (y ∷ ys) up up' same = absurd (let here = itself_among y ys in let e = same y in let none = often_none y in omega (arith, here, e, none))
order_once (x ∷ xs) [] up up' same = absurd (let here = itself_among x xs in let e = same x in let none = often_none x in omega (arith, here, e, none))
order_once (x ∷ xs) (y ∷ ys) up up' same =
    let a = among_places (Comes x) y (x ∷ xs) (All-cons (Comes x) x xs (comes_itself x) (all_come x xs up)) (subst (λ n. 0 < n) (same y) (itself_among y ys)) in
    let b = among_places (Comes y) x (y ∷ ys) (All-cons (Comes y) y ys (comes_itself y) (all_come y ys up')) (subst (λ n. 0 < n) (sym (same x)) (itself_among x xs)) in
    let e : y ≡ x = both_come x y a b in
    let rest = order_once xs ys (rest_in_order x xs up) (rest_in_order y ys up') (λ p. same_rest x p xs ys (sym (ap (λ z. often p (z ∷ ys)) e) ∙ same p)) in
    ap₂ (λ z zs. z ∷ zs) e rest

line_once : (g : Forest) (p : Presence) (at : ℕ) (xs : List Track) (a b : List Place) → IsSendingOrder g p at xs a → IsSendingOrder g p at xs b → b ≡ a
unfolding often
line_once g p at xs a b one two =
    order_once a b one.in_order two.in_order
    (λ q. sum_by-IsPermutation (λ k. cond (same_place q k) 1 0) (due g p at xs) b two.all ∙ sym (sum_by-IsPermutation (λ k. cond (same_place q k) 1 0) (due g p at xs) a one.all))

going_once : (g : Forest) (p : Presence) (at : ℕ) (xs : List Track) (lanes : ℕ) (a b : List WatchRequest) → IsGoing g p at xs lanes a → IsGoing g p at xs lanes b → b ≡ a
going_once g p at xs lanes a b one two =
    let line = line_once g p at xs one.is_picked.0 two.is_picked.0 one.is_picked.1.0 two.is_picked.1.0 in
    let picked : two.picked ≡ one.picked = two.is_picked.1.1 ∙ ap (take lanes) line ∙ sym one.is_picked.1.1 in
    two.requests_are ∙ ap (map (request p (sec at) xs)) picked ∙ sym one.requests_are

-- ---- what is commanded, and the round that opens

command_once : (mid x y : WatchState) (c d : WatchCommand) → StepCommand mid c x → StepCommand mid d y → (d ≡ c) × (y ≡ x)
command_once mid x y (Go rs until) (Go qs other) a b =
    let requests : qs ≡ rs = going_once mid.forest mid.presence mid.clocks.at mid.tracks (mid.width - length mid.out) rs qs a.0.0 b.0.0 in
    let state : y ≡ x = b.0.1 ∙ ap (sent mid) requests ∙ sym a.0.1 in
    (ap₂ Go requests (b.1 ∙ ap wait state ∙ sym a.1), state)
command_once mid x y (Go rs until) Taken a b = absurd b
command_once mid x y Taken d a b = absurd a

second_once : (es : List Entry) (margin now : ℕ) (a b : Option ℕ) → IsSecond es margin now a → IsSecond es margin now b → b ≡ a
second_once es margin now None None x y = refl
second_once es margin now None (Some t) x y = absurd (let h = x y.entry in let l = y.short in omega (arith, h, l))
second_once es margin now (Some t) None x y = absurd (let h = y x.entry in let l = x.short in omega (arith, h, l))
second_once es margin now (Some t) (Some u) x y =
    let a = x.earliest y.entry y.short in
    let b = y.earliest x.entry x.short in
    let m = x.moment in
    let n = y.moment in
    ap Some (omega (arith, a, b, m, n))

-- what is made of the one value of which something holds
value_once : {X : Type 0} (P : Option ℕ → Type 0) (f : Option ℕ → X) → ((a b : Option ℕ) → P a → P b → b ≡ a) → (x y : X) → (a : Option ℕ) × (P a × (x ≡ f a)) → (a : Option ℕ) × (P a × (y ≡ f a)) → y ≡ x
value_once P f once x y one two = two.1.1 ∙ ap f (once one.0 two.0 one.1.0 two.1.0) ∙ sym one.1.1

round_once : (g : Forest) (xs : List Track) (c : Clocks) (a b : Option (List ℕ)) → IsRound g xs c a → IsRound g xs c b → b ≡ a
round_once g xs c None None x y = refl
round_once g xs c None (Some asked) x y = absurd (let e = sym x ∙ y.0 in cc)
round_once g xs c (Some asked) None x y = absurd (let e = sym y ∙ x.0 in cc)
round_once g xs c (Some asked) (Some other) x y =
    let es = plan_view g xs c in
    ap Some (value_once (IsSecond es g.margin (sec c.at)) _ (second_once es g.margin (sec c.at)) asked other x.1 y.1)

-- ---- a turn

output_of : (a b : WatchOutput) → b.command ≡ a.command → b.notes ≡ a.notes → b ≡ a
output_of a b command notes = ap₂ (λ c n. record { command = c; notes = n }) command notes

clock_once : (old x y : WatchState) (wall elapsed : ℕ) (a b : WatchOutput) → StepClock old wall elapsed a x → StepClock old wall elapsed b y → (b ≡ a) × (y ≡ x)
clock_once old x y wall elapsed a b one two =
    let ready = readied old wall elapsed in
    let round = round_once ready.forest ready.tracks ready.clocks one.round two.round one.is_round two.is_round in
    let done = command_once (pressed ready (asked_by_round one.round)) x y a.command b.command one.command (subst (λ r. StepCommand (pressed ready (asked_by_round r)) b.command y) round two.command) in
    (output_of a b done.0 (two.notes ∙ ap (λ r. record nothing_noted { began = why old wall elapsed; round = r }) round ∙ sym one.notes), done.1)

looked_once : (old x y : WatchState) (found : Option Out) (reply : WatchReply) (terms : WatchTerms) (a b : WatchOutput) → StepLooked old found reply terms a x → StepLooked old found reply terms b y → (b ≡ a) × (y ≡ x)
looked_once old x y None reply terms a b one two = absurd one
looked_once old x y (Some r) reply terms a b one two = (two.0 ∙ sym one.0, two.1 ∙ sym one.1)

renewed_once : (old x y : WatchState) (found : Option Out) (reply : WatchReply) (a b : WatchOutput) → StepRenewed old found reply a x → StepRenewed old found reply b y → (b ≡ a) × (y ≡ x)
renewed_once old x y None reply a b one two = absurd one
renewed_once old x y (Some r) reply a b one two = (two.0 ∙ sym one.0, two.1 ∙ sym one.1)

step_once : (old x y : WatchState) (event : WatchEvent) (a b : WatchOutput) → Step old event a x → Step old event b y → (b ≡ a) × (y ≡ x)
step_once old x y (Clock wall elapsed) a b one two = clock_once old x y wall elapsed a b one two
step_once old x y (Looked i reply terms) a b one two = looked_once old x y (request_out old.out i Look) reply terms a b one two
step_once old x y (Renewed i reply) a b one two = renewed_once old x y (request_out old.out i Renew) reply a b one two
step_once old x y _ a b one two = (two.0 ∙ sym one.0, two.1 ∙ sym one.1)

pub turn_once : (old x y : WatchState) (event : WatchEvent) (a b : WatchOutput) → Turn old event (Ok a) x → Turn old event (Ok b) y → (b ≡ a) × (y ≡ x)
turn_once old x y event a b one two = step_once old x y event a b one.1 two.1
