-- The tries of a turn, one after the other.
use Rattle.std.proofs.Common.{◌≡◌, ◌⊎◌, ℕ, ◌+◌, ◌<◌, ◌≤◌, true, false, nat_lt, List, [], ◌∷◌, ◌++◌, length, take, arith, Option, Some, None, IfSome, append_assoc, subst, sym, refl, ap, ◌∙◌, inl, inr}
use Rattle.std.proofs.lemmas.List.{append-nil, length-append, take_all, take-append-le}
use Rattle.std.proofs.lemmas.Bool.{and_from, and_left, and_right, false≢true, cases_lt, lt-ltb, false_from_ne_true, ltb-true}
use Rattle.base_device.specs.declared.tried.Tried.{Tried}
use Rattle.base_device.specs.declared.tried.Tried.TheVariants.{Done, Waits, Failed}
use Rattle.base_log.specs.declared.writing.TheConstants.{MOST_TRIES}
use Rattle.base_log.specs.Turns.{TryIsMade, TurnIsMade, all_done, any_failed, bytes_taken, goes_on}

-- what the tries before the last took, and what it took
taken_push : (tries : List Tried) (t : Tried) → bytes_taken (tries ++ t ∷ []) ≡ bytes_taken tries + bytes_taken (t ∷ [])
taken_push [] t = omega arith
taken_push (Done n ∷ tries) t = let h = taken_push tries t in omega (arith, h)
taken_push (Waits ∷ tries) t = taken_push tries t
taken_push (Failed ∷ tries) t = taken_push tries t

done_push : (tries : List Tried) (t : Tried) → all_done tries ≡ true → all_done (tries ++ t ∷ []) ≡ all_done (t ∷ [])
done_push [] t done = refl
done_push (Done n ∷ tries) t done = done_push tries t done
done_push (Waits ∷ tries) t done = absurd (false≢true done)
done_push (Failed ∷ tries) t done = absurd (false≢true done)

failed_push : (tries : List Tried) (t : Tried) → all_done tries ≡ true → any_failed (tries ++ t ∷ []) ≡ any_failed (t ∷ [])
failed_push [] t done = refl
failed_push (Done n ∷ tries) t done = failed_push tries t done
failed_push (Waits ∷ tries) t done = absurd (false≢true done)
failed_push (Failed ∷ tries) t done = absurd (false≢true done)

none_failed : (tries : List Tried) → all_done tries ≡ true → any_failed tries ≡ false
none_failed [] done = refl
none_failed (Done n ∷ tries) done = none_failed tries done
none_failed (Waits ∷ tries) done = absurd (false≢true done)
none_failed (Failed ∷ tries) done = absurd (false≢true done)

-- it goes on before each of them
abbrev pub GoesBefore : ℕ → List Tried → Type 0
GoesBefore bytes tries = (n : ℕ) → n < length tries → goes_on bytes (take n tries) ≡ true

-- and so it does with one more, where it goes on after them
before_push : (bytes : ℕ) (tries : List Tried) (t : Tried) → GoesBefore bytes tries → goes_on bytes tries ≡ true → GoesBefore bytes (tries ++ t ∷ [])
before_push bytes tries t before after n h =
    let count = length-append tries (t ∷ []) in
    let le : n ≤ length tries = omega (arith, h, count) in
    subst (λ ts. goes_on bytes ts ≡ true) (sym (take-append-le n tries (t ∷ []) le)) (
    elim (cases_lt n (length tries)) [
      | inl less ↦ before n less
      | inr all ↦ subst (λ ts. goes_on bytes ts ≡ true) (sym (take_all n tries all)) after
    ])

-- a number is not below one that is not above it
ge-ltb : (m n : ℕ) → n ≤ m → nat_lt m n ≡ false
ge-ltb m n le = false_from_ne_true _ (λ e. let less = ltb-true m n e in omega (arith, less, le))

-- a turn that goes on, with so many bytes taken, in so many tries
abbrev pub Going : ℕ → ℕ → ℕ → Option (List Tried) → Option (List Tried) → Type 0
Going bytes taken count old new = IfSome new (λ tries. (before turn : List Tried) × (old ≡ Some before) × (tries ≡ before ++ turn)
    × GoesBefore bytes turn × (all_done turn ≡ true) × (bytes_taken turn ≡ taken) × (length turn ≡ count))

pub going_first : (bytes : ℕ) (a : Option (List Tried)) → Going bytes 0 0 a a
going_first bytes None = tt
going_first bytes (Some x) = (x, [], refl, sym (append-nil x), (λ n h. absurd (omega (arith, h))), refl, refl, refl)

going_on : (bytes : ℕ) (turn : List Tried) → all_done turn ≡ true → bytes_taken turn < bytes → length turn < MOST_TRIES → goes_on bytes turn ≡ true
going_on bytes turn done left few =
    and_from _ _ (and_from _ _ done (lt-ltb _ _ left)) (lt-ltb _ _ few)

-- one more try of it took some
pub going_next : (bytes taken count n : ℕ) (a b c : Option (List Tried)) → Going bytes taken count a b → TryIsMade (Done n) b c → taken < bytes → count < MOST_TRIES
    → Going bytes (taken + n) (count + 1) a c
going_next bytes taken count n a b None going try left few = tt
going_next bytes taken count n a b (Some now) going (mid, known, more) left few =
    let (before, turn, old, split, goes, done, sum, long) = subst (λ o. Going bytes taken count a o) known going in (
      before,
      turn ++ Done n ∷ [],
      old,
      more ∙ ap (λ l. l ++ Done n ∷ []) split ∙ append_assoc before turn (Done n ∷ []),
      before_push bytes turn (Done n) goes (going_on bytes turn done (omega (arith, left, sum)) (omega (arith, few, long))),
      done_push turn (Done n) done,
      (let push = taken_push turn (Done n) in omega (arith, push, sum)),
      (let count = length-append turn (Done n ∷ []) in omega (arith, count, long)),
    )

-- it ends where all is given, or after the last try
pub turn_done : (bytes taken count : ℕ) (a b : Option (List Tried)) → Going bytes taken count a b → (bytes ≤ taken) ⊎ (MOST_TRIES ≤ count) → TurnIsMade bytes taken false a b
turn_done bytes taken count a None going ends = tt
turn_done bytes taken count a (Some now) (before, turn, old, split, goes, done, sum, long) ends =
    (before, turn, old, split, (goes, past), sym sum, sym (none_failed turn done))
  where
    past : goes_on bytes turn ≡ false
    past = elim ends [
      | inl all ↦ and_left _ _ (and_right _ _ (ge-ltb (bytes_taken turn) bytes (omega (arith, all, sum))))
      | inr last ↦ and_right _ _ (ge-ltb (length turn) MOST_TRIES (omega (arith, last, long)))
    ]

-- it ends where a try waited or failed
pub turn_stops : (t : Tried) (bytes taken count : ℕ) (a b c : Option (List Tried)) → all_done (t ∷ []) ≡ false → bytes_taken (t ∷ []) ≡ 0
    → Going bytes taken count a b → TryIsMade t b c → taken < bytes → count < MOST_TRIES → TurnIsMade bytes taken (any_failed (t ∷ [])) a c
turn_stops t bytes taken count a b None stops none going try left few = tt
turn_stops t bytes taken count a b (Some now) stops none going (mid, known, more) left few =
    let (before, turn, old, split, goes, done, sum, long) = subst (λ o. Going bytes taken count a o) known going in (
      before,
      turn ++ t ∷ [],
      old,
      more ∙ ap (λ l. l ++ t ∷ []) split ∙ append_assoc before turn (t ∷ []),
      (
        before_push bytes turn t goes (going_on bytes turn done (omega (arith, left, sum)) (omega (arith, few, long))),
        and_left _ _ (and_left _ _ (done_push turn t done ∙ stops)),
      ),
      (let push = taken_push turn t in omega (arith, push, sum, none)),
      sym (failed_push turn t done),
    )
