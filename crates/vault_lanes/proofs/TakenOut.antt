-- Those that are there are taken out one after another: for `take_out`.
use Rattle.std.proofs.Common.{◌≡◌, ℕ, ◌<◌, ◌≤◌, ◌+◌, ◌++◌, suc, zero, Bool, true, false, not, cond, List, [], ◌∷◌, filter, length, map, take, drop, get_or, refl, sym, subst, ap, ◌∙◌, Option, take-append-drop, append-nil, append_assoc, add-one, arith, Some, IfSome}
use Rattle.vault_lanes.specs.{Losses.Answer, Out.IsAnswerTo, Out.IsParted, declared.coming.Coming.Coming, declared.lanes.Answered.Answered, declared.seats.Seat.Seat}
use Rattle.vault_lanes.specs.Seats.{AreTakenOut, answer_at, answers_of, out_of_seat, outs}
use Rattle.std.proofs.lemmas.List.Elements.{filter-append}
use Rattle.std.proofs.lemmas.List.{length-take-le, drop_all, drop_at, drop_more, map-append, take_at}
use Rattle.std.proofs.Math.Seq.{take-add}
use Rattle.vault_lanes.proofs.Parted.{parted_left, parted_there}

drop_drop : {X : Type 0} (j : ℕ) (ys : List X) → drop 1 (drop j ys) ≡ drop (suc j) ys
drop_drop zero ys = refl
drop_drop (suc j) [] = refl
drop_drop (suc j) (y ∷ ys) = drop_drop j ys

-- where two lists go on alike, both have the next element
more_of : {X : Type 0} (ys rest : List X) (j : ℕ) (s : X) → drop j ys ≡ s ∷ rest → take (j + 1) ys ≡ take j ys ++ s ∷ []
more_of ys rest j s is = take-add j 1 ys ∙ ap (λ l. take j ys ++ take 1 l) is

rest_of : {X : Type 0} (ys rest : List X) (j : ℕ) (s : X) → drop j ys ≡ s ∷ rest → rest ≡ drop (j + 1) ys
rest_of ys rest j s is = ap (drop 1) (sym is) ∙ drop_drop j ys ∙ ap (λ n. drop n ys) (sym (add-one j))

filter_true : {X : Type 0} (test : X → Bool) (xs : List X) (s : X) → test s ≡ true → filter test (xs ++ s ∷ []) ≡ filter test xs ++ s ∷ []
filter_true test xs s is = filter-append test xs (s ∷ []) ∙ ap (λ b. filter test xs ++ cond b (s ∷ []) []) is

filter_false : {X : Type 0} (test : X → Bool) (xs : List X) (s : X) → test s ≡ false → filter test (xs ++ s ∷ []) ≡ filter test xs
filter_false test xs s is = filter-append test xs (s ∷ []) ∙ ap (λ b. filter test xs ++ cond b (s ∷ []) []) is ∙ append-nil (filter test xs)

-- one answer more, where there is one
answers_more : {T : Type 0} (said : T → Option Answer) (xs : List (Seat T)) (s : Seat T) → answers_of said (xs ++ s ∷ []) ≡ answers_of said xs ++ answer_at s.index (said s.standing)
answers_more said [] s = append-nil (answer_at s.index (said s.standing))
answers_more said (x ∷ xs) s = ap (λ l. answer_at x.index (said x.standing) ++ l) (answers_more said xs s) ∙ sym (append_assoc (answer_at x.index (said x.standing)) (answers_of said xs) (answer_at s.index (said s.standing)))

-- the first of them were handed back, or are left at the front, and the others stand behind these
pub record SoFar {T : Type 0} (comes : T → Option Coming) (there : T → Bool) (said : T → Option Answer) (all out : List (Seat T)) (at : ℕ) (answers : List Answered) : Type 0 where
  pub done : ℕ
  pub rest : drop at out ≡ drop done all
  pub parted : IsParted (outs comes (take done all)) answers (outs comes (take at out))
  pub left : take at out ≡ filter (λ seat. not (there seat.standing)) (take done all)
  pub indices : map (λ (a : Answered). a.index) answers ≡ map (λ (seat : Seat T). seat.index) (filter (λ seat. there seat.standing) (take done all))
  pub answers_are : answers ≡ answers_of said (filter (λ seat. there seat.standing) (take done all))

module _ {T : Type 0} (comes : T → Option Coming) (there : T → Bool) (said : T → Option Answer) where
  next_is : (out all : List (Seat T)) (at done : ℕ) (s : Seat T) → at < length out → s ≡ get_or out at s → drop at out ≡ drop done all → drop done all ≡ s ∷ drop (at + 1) out
  next_is out all at done s within is rest = sym rest ∙ drop_more out at s within ∙ ap (λ x. x ∷ drop (at + 1) out) (sym is)

  pub stays : (all out : List (Seat T)) (at : ℕ) (answers : List Answered) (s : Seat T) → at < length out → s ≡ get_or out at s → there s.standing ≡ false
      → SoFar comes there said all out at answers → SoFar comes there said all out (at + 1) answers
  stays all out at answers s within is away so =
      let next = next_is out all at so.done s within is so.rest in
      let some : take (so.done + 1) all ≡ take so.done all ++ s ∷ [] = more_of all (drop (at + 1) out) so.done s next in
      let more : take (at + 1) out ≡ take at out ++ s ∷ [] = more_of out (drop (at + 1) out) at s (so.rest ∙ next) in
      let outs_more : (xs : List (Seat T)) → outs comes (xs ++ s ∷ []) ≡ outs comes xs ++ out_of_seat comes s ∷ [] = λ xs. map-append (out_of_seat comes) xs (s ∷ []) in record {
        done = so.done + 1;
        rest = rest_of all (drop (at + 1) out) so.done s next;
        parted = subst (λ ls. IsParted (outs comes (take (so.done + 1) all)) answers ls) (sym (ap (outs comes) more ∙ outs_more (take at out)))
            (subst (λ os. IsParted os answers (outs comes (take at out) ++ out_of_seat comes s ∷ [])) (sym (ap (outs comes) some ∙ outs_more (take so.done all)))
            (parted_left (outs comes (take so.done all)) (out_of_seat comes s) answers (outs comes (take at out)) so.parted));
        left = more ∙ ap (λ l. l ++ s ∷ []) so.left ∙ sym (filter_true (λ seat. not (there seat.standing)) (take so.done all) s (ap not away))
            ∙ ap (filter (λ seat. not (there seat.standing))) (sym some);
        indices = so.indices ∙ ap (map (λ (seat : Seat T). seat.index)) (sym (filter_false (λ seat. there seat.standing) (take so.done all) s away) ∙ ap (filter (λ seat. there seat.standing)) (sym some));
        answers_are = so.answers_are ∙ ap (answers_of said) (sym (filter_false (λ seat. there seat.standing) (take so.done all) s away) ∙ ap (filter (λ seat. there seat.standing)) (sym some));
      }

  pub goes : (all out new : List (Seat T)) (at : ℕ) (answers : List Answered) (s : Seat T) (a : Answered) → at < length out → s ≡ get_or out at s → there s.standing ≡ true
      → IsAnswerTo (out_of_seat comes s) a → answer_at s.index (said s.standing) ≡ a ∷ [] → new ≡ take at out ++ drop (at + 1) out → length (take at out) ≡ at → SoFar comes there said all out at answers → SoFar comes there said all new at (answers ++ a ∷ [])
  goes all out new at answers s a within is here opens mine removed short so =
      let next = next_is out all at so.done s within is so.rest in
      let some : take (so.done + 1) all ≡ take so.done all ++ s ∷ [] = more_of all (drop (at + 1) out) so.done s next in
      let front : take at new ≡ take at out = ap (take at) removed ∙ take_at (take at out) (drop (at + 1) out) at short in
      let outs_more : (xs : List (Seat T)) → outs comes (xs ++ s ∷ []) ≡ outs comes xs ++ out_of_seat comes s ∷ [] = λ xs. map-append (out_of_seat comes) xs (s ∷ []) in record {
        done = so.done + 1;
        rest = ap (drop at) removed ∙ drop_at (take at out) (drop (at + 1) out) at short ∙ rest_of all (drop (at + 1) out) so.done s next;
        parted = subst (λ ls. IsParted (outs comes (take (so.done + 1) all)) (answers ++ a ∷ []) ls) (sym (ap (outs comes) front))
            (subst (λ os. IsParted os (answers ++ a ∷ []) (outs comes (take at out))) (sym (ap (outs comes) some ∙ outs_more (take so.done all)))
            (parted_there (outs comes (take so.done all)) (out_of_seat comes s) answers a (outs comes (take at out)) so.parted opens));
        left = front ∙ so.left ∙ sym (filter_false (λ seat. not (there seat.standing)) (take so.done all) s (ap not here)) ∙ ap (filter (λ seat. not (there seat.standing))) (sym some);
        indices = map-append (λ (b : Answered). b.index) answers (a ∷ []) ∙ ap (λ l. l ++ a.index ∷ []) so.indices ∙ ap (λ i. map (λ (seat : Seat T). seat.index) (filter (λ seat. there seat.standing) (take so.done all)) ++ i ∷ []) opens.0
            ∙ sym (map-append (λ (seat : Seat T). seat.index) (filter (λ seat. there seat.standing) (take so.done all)) (s ∷ []))
            ∙ ap (map (λ (seat : Seat T). seat.index)) (sym (filter_true (λ seat. there seat.standing) (take so.done all) s here) ∙ ap (filter (λ seat. there seat.standing)) (sym some));
        answers_are = ap (λ l. l ++ a ∷ []) so.answers_are ∙ ap (λ l. answers_of said (filter (λ seat. there seat.standing) (take so.done all)) ++ l) (sym mine)
            ∙ sym (answers_more said (filter (λ seat. there seat.standing) (take so.done all)) s)
            ∙ ap (answers_of said) (sym (filter_true (λ seat. there seat.standing) (take so.done all) s here) ∙ ap (filter (λ seat. there seat.standing)) (sym some));
      }

  -- what stands at one place is one
  same_at : (out : List (Seat T)) (at : ℕ) (s r : Seat T) → at < length out → s ≡ get_or out at s → r ≡ get_or out at r → r ≡ s
  same_at out at s r within is there' =
      let one : s ∷ drop (at + 1) out ≡ drop at out = ap (λ x. x ∷ drop (at + 1) out) is ∙ sym (drop_more out at s within) in
      let other : r ∷ drop (at + 1) out ≡ drop at out = ap (λ x. x ∷ drop (at + 1) out) there' ∙ sym (drop_more out at r within) in
      cc

  pub goes_with : (all out new : List (Seat T)) (at : ℕ) (answers after : List Answered) (s r : Seat T) (x : Answer) → at < length out → s ≡ get_or out at s → r ≡ get_or out at r
      → there s.standing ≡ true → (there r.standing ≡ true → IfSome (comes r.standing) (λ c. x ≡ c.answer)) → Some x ≡ said r.standing → new ≡ take at out ++ drop (at + 1) out
      → after ≡ answers ++ record { index = r.index; answer = x } ∷ [] → SoFar comes there said all out at answers → SoFar comes there said all new at after
  goes_with all out new at answers after s r x within is removed here opens says left pushed so =
      let one : r ≡ s = same_at out at s r within is removed in
      let here' : there r.standing ≡ true = ap (λ (z : Seat T). there z.standing) one ∙ here in
      subst (λ l. SoFar comes there said all new at l) (sym pushed)
      (goes all out new at answers r (record { index = r.index; answer = x }) within removed here' (refl, opens here') (ap (answer_at r.index) (sym says)) left (length-take-le at out (omega arith)) so)

  whole : (all out : List (Seat T)) (at done : ℕ) → length out ≤ at → drop at out ≡ drop done all → take done all ≡ all
  whole all out at done past rest = sym (append-nil (take done all)) ∙ ap (λ l. take done all ++ l) (sym (sym rest ∙ drop_all at out past)) ∙ take-append-drop done all

  front_whole : (out : List (Seat T)) (at : ℕ) → length out ≤ at → take at out ≡ out
  front_whole out at past = sym (append-nil (take at out)) ∙ ap (λ l. take at out ++ l) (sym (drop_all at out past)) ∙ take-append-drop at out

  pub at_last : (all out : List (Seat T)) (at : ℕ) (answers : List Answered) → length out ≤ at → SoFar comes there said all out at answers
      → IsParted (outs comes all) answers (outs comes out) × (AreTakenOut there all out answers × (answers ≡ answers_of said (filter (λ seat. there seat.standing) all)))
  at_last all out at answers past so =
      let every = whole all out at so.done past so.rest in
      let mine = front_whole out at past in (
        subst (λ ls. IsParted (outs comes all) answers ls) (ap (outs comes) mine) (subst (λ os. IsParted os answers (outs comes (take at out))) (ap (outs comes) every) so.parted),
        (
          record {
            left = sym mine ∙ so.left ∙ ap (filter (λ seat. not (there seat.standing))) every;
            indices = so.indices ∙ ap (λ l. map (λ (seat : Seat T). seat.index) (filter (λ seat. there seat.standing) l)) every;
          },
          so.answers_are ∙ ap (λ l. answers_of said (filter (λ seat. there seat.standing) l)) every,
        ),
      )
