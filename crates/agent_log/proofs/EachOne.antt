-- EachOne: what is done with each of those who follow the log, one after another. For `tell_each`, `miss_each` and `feed_each`.
use Rattle.std.proofs.Common.{◌≡◌, ◌∙◌, ℕ, ◌<◌, ◌+◌, arith, List, [], ◌∷◌, ◌++◌, ap, drop, get_or, length, map, refl, set, subst, sym, take}
use Rattle.std.proofs.lemmas.Grind.{drop_more_same}
use Rattle.std.proofs.lemmas.List.{drop-set-lt, drop_more, take_more_set}
use Rattle.std.proofs.Math.Seq.{take-add}
use Rattle.agent_answers.specs.declared.lines.RequestLines.{RequestLines}
use Rattle.base_clients.specs.Tables.{GuestTable}
use Rattle.base_log.specs.{declared.follower.Follower.Follower, declared.level.Level.Level, declared.form.Form.Form}
use Rattle.agent_log.specs.{Feeding.EachIsFed, Feeding.FollowerIsFed, Lines.EachIsTold, Lines.FollowerIsTold, Rooms.misses}

pub rest_next : (old out : List Follower) (i : ℕ) (n : Follower) → drop i out ≡ drop i old → drop (i + 1) (set out i n) ≡ drop (i + 1) old
rest_next old out i n rest = drop-set-lt (i + 1) out i n (omega arith) ∙ drop_more_same out old i rest

-- one more of them
front_next : (old out : List Follower) (i : ℕ) (d : Follower) → i < length out → drop i out ≡ drop i old → take (i + 1) old ≡ take i old ++ get_or out i d ∷ []
front_next old out i d within rest =
    let here : drop i old ≡ get_or out i d ∷ drop (i + 1) out = sym rest ∙ drop_more out i d within in
    take-add i 1 old ∙ ap (λ l. take i old ++ take 1 l) here

module _ (form : Form) (moment : ℕ) where
  told_more : (level : Level) (text : List ℕ) (old new : List Follower) (s n : Follower) → EachIsTold form moment level text old new → FollowerIsTold form moment level text s n
      → EachIsTold form moment level text (old ++ s ∷ []) (new ++ n ∷ [])
  told_more level text [] new s n h one = subst (λ l. EachIsTold form moment level text (s ∷ []) (l ++ n ∷ [])) (sym h) (one, refl)
  told_more level text (o ∷ os) [] s n h one = absurd h
  told_more level text (o ∷ os) (x ∷ xs) s n h one = (h.0, told_more level text os xs s n h.1 one)

  pub told_next : (level : Level) (text : List ℕ) (old out : List Follower) (i : ℕ) (d n : Follower) → i < length out → drop i out ≡ drop i old
      → EachIsTold form moment level text (take i old) (take i out) → FollowerIsTold form moment level text (get_or out i d) n → EachIsTold form moment level text (take (i + 1) old) (take (i + 1) (set out i n))
  told_next level text old out i d n within rest h one =
      subst (λ l. EachIsTold form moment level text l (take (i + 1) (set out i n))) (sym (front_next old out i d within rest))
      (subst (λ l. EachIsTold form moment level text (take i old ++ get_or out i d ∷ []) l) (sym (take_more_set out i n within)) (told_more level text (take i old) (take i out) (get_or out i d) n h one))

  fed_more : {T : Type 0} (old new : List Follower) (before mid after : GuestTable T RequestLines) (s n : Follower) → EachIsFed form moment old new before mid → FollowerIsFed form moment s n mid after
      → EachIsFed form moment (old ++ s ∷ []) (new ++ n ∷ []) before after
  fed_more [] new before mid after s n h one =
      subst (λ l. EachIsFed form moment (s ∷ []) (l ++ n ∷ []) before after) (sym h.0) (after, (subst (λ t. FollowerIsFed form moment s n t after) h.1 one, (refl, refl)))
  fed_more (o ∷ os) [] before mid after s n h one = absurd h
  fed_more (o ∷ os) (x ∷ xs) before mid after s n h one = (h.0, (h.1.0, fed_more os xs h.0 mid after s n h.1.1 one))

  pub fed_next : {T : Type 0} (old out : List Follower) (i : ℕ) (d n : Follower) (before mid after : GuestTable T RequestLines) → i < length out → drop i out ≡ drop i old
      → EachIsFed form moment (take i old) (take i out) before mid → FollowerIsFed form moment (get_or out i d) n mid after → EachIsFed form moment (take (i + 1) old) (take (i + 1) (set out i n)) before after
  fed_next old out i d n before mid after within rest h one =
      subst (λ l. EachIsFed form moment l (take (i + 1) (set out i n)) before after) (sym (front_next old out i d within rest))
      (subst (λ l. EachIsFed form moment (take i old ++ get_or out i d ∷ []) l before after) (sym (take_more_set out i n within))
      (fed_more (take i old) (take i out) before mid after (get_or out i d) n h one))

missed_more : (level : Level) (xs : List Follower) (s : Follower) → map (misses level) xs ++ misses level s ∷ [] ≡ map (misses level) (xs ++ s ∷ [])
missed_more level [] s = refl
missed_more level (x ∷ xs) s = ap (λ l. misses level x ∷ l) (missed_more level xs s)

pub missed_next : (level : Level) (old out : List Follower) (i : ℕ) (d : Follower) (n : Follower) → i < length out → drop i out ≡ drop i old → take i out ≡ map (misses level) (take i old)
    → n ≡ misses level (get_or out i d) → take (i + 1) (set out i n) ≡ map (misses level) (take (i + 1) old)
missed_next level old out i d n within rest h is =
    take_more_set out i n within ∙ ap (λ l. l ++ n ∷ []) h ∙ ap (λ m. map (misses level) (take i old) ++ m ∷ []) is
    ∙ missed_more level (take i old) (get_or out i d) ∙ ap (map (misses level)) (sym (front_next old out i d within rest))
