-- Asking: files are looked up by askers, and heard of. For `hear_first`, `ask_at`, `ask_about` and `look`.
use Rattle.std.proofs.Common.{◌≡◌, ◌∙◌, ℕ, ◌<◌, ◌≤◌, ◌+◌, arith, true, not, ◌&&◌, List, [], ◌∷◌, ◌++◌, Option, Some, None, Result, Ok, Err, Vec, ap, append-nil, append_assoc, drop, get_or, is_none, is_some, length, refl, set, subst, suc, sym, take}
use Rattle.std.proofs.lemmas.{Grind.drop_more_same, List.Quantifiers.position-Some, Option.slice_get-get_or}
use Rattle.std.proofs.lemmas.List.{drop-set-lt, drop_all, drop_more, length-set, set_split, take_all, take_more_set, with_items_is}
use Rattle.std.specs.{Vec.with_items, declared.alloc.AllocError.AllocError}
use Rattle.vault_asking.specs.Sending.{Lanes}
use Rattle.base_clock.specs.declared.reading.Reading.{Reading}
use Rattle.vault_proving.specs.declared.candidate.Candidate.{Candidate}
use Rattle.agent_ledger.specs.{declared.asked_file.AskedFile.AskedFile, declared.asker.Asker.Asker, declared.asker.FileWord.FileWord}
use Rattle.agent_ledger.specs.Askers.{AskerAsks, FileGoesOut, HearsFirst, HearsIf, free_place, is_free}

module _ {L : Type 0} (lanes_seen : L → Lanes) (now : ℕ) where
  -- no file is looked up
  pub none_asked : (old : Asker L) (left : Option AskedFile) (result : Result (Option FileWord) AllocError) → old.asked ≡ None → left ≡ None → result ≡ Ok None → HearsIf lanes_seen now old.asked result old (record old { asked = left })
  none_asked old left result none is given = subst (λ (a : Option AskedFile). HearsIf lanes_seen now a result old (record old { asked = left })) (sym none) (given, λ i. record old { asked = (is ∙ sym none) i })

  -- however those from a place on are heard, all are heard so; those before it had no word
  pub record SoFar (old new : List (Asker L)) (i : ℕ) : Type 0 where
    pub many : length new ≡ length old
    pub rest : drop i new ≡ drop i old
    pub follow : (result : Result (Option FileWord) AllocError) (left : List (Asker L)) → HearsFirst lanes_seen now (drop i old) result left → HearsFirst lanes_seen now old result (take i new ++ left)

  pub none_yet : (old : List (Asker L)) → SoFar old old 0
  none_yet old = record { many = refl; rest = refl; follow = λ result left h. h }

  here : (old new : List (Asker L)) (i : ℕ) (d : Asker L) → i < length new → drop i new ≡ drop i old → drop i old ≡ get_or new i d ∷ drop (i + 1) old
  here old new i d within rest = sym rest ∙ drop_more new i d within ∙ ap (λ (l : List (Asker L)). get_or new i d ∷ l) (drop_more_same new old i rest)

  heard_by : (d from n : Asker L) (result word : Result (Option FileWord) AllocError) (i : ℕ) (new : List (Asker L)) → result ≡ word → HearsIf lanes_seen now from.asked result from n → from ≡ get_or new i d
      → HearsIf lanes_seen now (get_or new i d).asked word (get_or new i d) n
  heard_by d from n result word i new given heard is =
      subst (λ (x : Asker L). HearsIf lanes_seen now x.asked word x n) is (subst (λ (w : Result (Option FileWord) AllocError). HearsIf lanes_seen now from.asked w from n) given heard)

  -- that of one more has no word
  pub one_more : (old new : List (Asker L)) (i : ℕ) (d from n : Asker L) (word : Result (Option FileWord) AllocError) → i < length new → SoFar old new i → word ≡ Ok None → HearsIf lanes_seen now from.asked word from n
      → from ≡ get_or new i d → SoFar old (set new i n) (i + 1)
  one_more old new i d from n word within so none heard is = record {
    many = length-set new i n ∙ so.many;
    rest = drop-set-lt (i + 1) new i n (omega arith) ∙ drop_more_same new old i so.rest;
    follow = λ result left h.
        subst (HearsFirst lanes_seen now old result) (sym (append_assoc (take i new) (n ∷ []) left) ∙ ap (λ (l : List (Asker L)). l ++ left) (sym (take_more_set new i n within)))
        (so.follow result (n ∷ left) (subst (λ (l : List (Asker L)). HearsFirst lanes_seen now l result (n ∷ left)) (sym (here old new i d within so.rest))
        (Ok None, (heard_by d from n word (Ok None) i new none heard is, h))));
  }

  ends_at : (old new : List (Asker L)) (i : ℕ) (d n : Asker L) (word : Result (Option FileWord) AllocError) → i < length new → SoFar old new i
      → HearsFirst lanes_seen now (get_or new i d ∷ drop (i + 1) old) word (n ∷ drop (i + 1) old) → HearsFirst lanes_seen now old word (set new i n)
  ends_at old new i d n word within so h =
      let one : suc i ≡ i + 1 = omega arith in
      let whole : set new i n ≡ take i new ++ n ∷ drop (i + 1) new = subst (λ (k : ℕ). set new i n ≡ take i new ++ n ∷ drop k new) one (set_split new i n within) in
      subst (HearsFirst lanes_seen now old word) (ap (λ (l : List (Asker L)). take i new ++ n ∷ l) (sym (drop_more_same new old i so.rest)) ∙ sym whole)
      (so.follow word (n ∷ drop (i + 1) old) (subst (λ (l : List (Asker L)). HearsFirst lanes_seen now l word (n ∷ drop (i + 1) old)) (sym (here old new i d within so.rest)) h))

  -- there is a word on the file of one, and the others are left alone
  pub word_at : (old new : List (Asker L)) (i : ℕ) (d from n : Asker L) (result : Result (Option FileWord) AllocError) (word : FileWord) → i < length new → SoFar old new i → result ≡ Ok (Some word)
      → HearsIf lanes_seen now from.asked result from n → from ≡ get_or new i d → HearsFirst lanes_seen now old (Ok (Some word)) (set new i n)
  word_at old new i d from n result word within so some heard is =
      ends_at old new i d n (Ok (Some word)) within so (Ok (Some word), (heard_by d from n result (Ok (Some word)) i new some heard is, (refl, refl)))

  -- or memory is wanting for it
  pub want_at : (old new : List (Asker L)) (i : ℕ) (d from n : Asker L) (result : Result (Option FileWord) AllocError) (e : AllocError) → i < length new → SoFar old new i → result ≡ Err e
      → HearsIf lanes_seen now from.asked result from n → from ≡ get_or new i d → HearsFirst lanes_seen now old (Err e) (set new i n)
  want_at old new i d from n result e within so err heard is =
      ends_at old new i d n (Err e) within so (Err e, (heard_by d from n result (Err e) i new err heard is, (refl, refl)))

  -- or on none
  pub none_heard : (old new : List (Asker L)) (i : ℕ) → length new ≤ i → SoFar old new i → HearsFirst lanes_seen now old (Ok None) new
  none_heard old new i past so =
      subst (HearsFirst lanes_seen now old (Ok None)) (append-nil (take i new) ∙ take_all i new past)
      (so.follow (Ok None) [] (subst (λ (l : List (Asker L)). HearsFirst lanes_seen now l (Ok None) []) (sym (sym so.rest ∙ drop_all i new past)) (refl, refl)))

-- ---- one is asked

unasked : (a : Option AskedFile) (c : Option Candidate) → (is_none a && not (is_some c)) ≡ true → c ≡ None
unasked None None h = refl
unasked None (Some c) h = cc
unasked (Some a) None h = refl
unasked (Some a) (Some c) h = cc

module _ {L : Type 0} where
  -- over the lanes of one that is free nothing is looked up
  pub is_unasked : (asker : Asker L) → is_free asker ≡ true → asker.proving.asked ≡ None
  is_unasked asker h = unasked asker.asked asker.proving.asked h

  -- the first that is free is so
  pub is_free_at : (askers : List (Asker L)) (i : ℕ) (d : Asker L) → free_place askers ≡ Some i → is_free (get_or askers i d) ≡ true
  is_free_at askers i d h = (position-Some is_free askers i d h).1

  pub asked_at : (lanes_seen : L → Lanes) (port : L → ℕ) (i : ℕ) (now : Reading) (a : AskedFile) (c : Candidate) (result : Result (Unit {0}) AllocError) (askers : List (Asker L)) (d n : Asker L)
      → i < length askers → FileGoesOut lanes_seen port now a c result (get_or askers i d) n → AskerAsks lanes_seen port i now a c result askers (set askers i n)
  asked_at lanes_seen port i now a c result askers d n within goes = (get_or askers i d, (n, (slice_get-get_or askers i d within, (goes, refl))))

-- ---- those of a ledger, which are lent whole

module _ {L Z : Type 0} (v : Vec (Asker L) Z) (items new : List (Asker L)) (same : items ≡ v.items) (many : length new ≡ length items) where
  back : (with_items v new).items ≡ new
  back = with_items_is v new (many ∙ ap length same ∙ sym v.ok.0)

  pub heard_whole : (lanes_seen : L → Lanes) (now : ℕ) (result word : Result (Option FileWord) AllocError) → result ≡ word → HearsFirst lanes_seen now items result new
      → HearsFirst lanes_seen now v.items word (with_items v new).items
  heard_whole lanes_seen now result word is h =
      subst (HearsFirst lanes_seen now v.items word) (sym back) (subst (λ (l : List (Asker L)). HearsFirst lanes_seen now l word new) same (subst (λ (w : Result (Option FileWord) AllocError). HearsFirst lanes_seen now items w new) is h))

  pub asked_whole : (lanes_seen : L → Lanes) (port : L → ℕ) (i : ℕ) (now : Reading) (a : AskedFile) (c : Candidate) (result answer : Result (Unit {0}) AllocError) → result ≡ answer
      → AskerAsks lanes_seen port i now a c result items new → AskerAsks lanes_seen port i now a c answer v.items (with_items v new).items
  asked_whole lanes_seen port i now a c result answer is h =
      subst (AskerAsks lanes_seen port i now a c answer v.items) (sym back)
      (subst (λ (l : List (Asker L)). AskerAsks lanes_seen port i now a c answer l new) same (subst (λ (r : Result (Unit {0}) AllocError). AskerAsks lanes_seen port i now a c r items new) is h))
