-- Each of the guests goes on for itself: for `go_on_all`.
use Rattle.std.proofs.Common.{◌≡◌, ℕ, ◌<◌, ◌+◌, inl, inr, Bool, true, false, not, filter, ◌&&◌, List, [], ◌∷◌, ◌++◌, length, take, drop, get_or, set, Option, Result, Ok, Err, OnOk, OnErr, is_ok, refl, sym, subst, ap, ◌∙◌, arith}
use Rattle.std.proofs.lemmas.Grind.{drop_more_same}
use Rattle.std.proofs.lemmas.List.{drop-set-lt, drop_more, take_more_set}
use Rattle.std.proofs.Math.Seq.{take-add}
use Rattle.base_clients.specs.{Doors.DoorLog, declared.limits.GuestLimits.GuestLimits, declared.guest.Guest.Guest, declared.talk.TalkCall.TalkCall}
use Rattle.base_clients.specs.Guests.{GuestGoesOn, GuestIsLost, is_stage_over}
use Rattle.base_clients.specs.Tables.{EachGoesOn, GuestTable, LetsIn, OneGoesOn, Turns}
use Rattle.base_clients.proofs.Let.{lets_less}

and_false : (e : Bool) → (e && false) ≡ false
and_false true = refl
and_false false = refl

pub rest_next : {X : Type 0} (old out : List X) (i : ℕ) (n : X) → drop i out ≡ drop i old → drop (i + 1) (set out i n) ≡ drop (i + 1) old
rest_next old out i n rest = drop-set-lt (i + 1) out i n (omega arith) ∙ drop_more_same out old i rest

module _ {T : Type 0} (remaining written : T → Option (List ℕ)) (calls : T → Option (List TalkCall)) (tells : List ℕ → Bool → Type 0) (most now : ℕ) where
  abbrev Each : Bool → List (Guest T) → List (Guest T) → Type 0
  Each = EachGoesOn remaining written calls tells most now

  abbrev One : Bool → Guest T → Guest T → Type 0
  One = OneGoesOn remaining written calls tells most now

  one_less : (e b : Bool) (s n : Guest T) → One e s n → One (e && b) s n
  one_less e b s n (inl goes) = inl goes
  one_less e b s n (inr lost) = inr (ap (λ f. f && b) lost.0, lost.1)

  each_less : (e b : Bool) (old new : List (Guest T)) → Each e old new → Each (e && b) old new
  each_less e b [] new h = h
  each_less e b (o ∷ os) [] h = absurd h
  each_less e b (o ∷ os) (n ∷ ns) h = (one_less e b o n h.0, each_less e b os ns h.1)

  each_more : (e : Bool) (old new : List (Guest T)) (s n : Guest T) → Each e old new → One e s n → Each e (old ++ s ∷ []) (new ++ n ∷ [])
  each_more e [] new s n h one = subst (λ l. Each e (s ∷ []) (l ++ n ∷ [])) (sym h) (one, refl)
  each_more e (o ∷ os) [] s n h one = absurd h
  each_more e (o ∷ os) (x ∷ xs) s n h one = (h.0, each_more e os xs s n h.1 one)

  pub one_went : {E : Type 0} (e : Bool) (r : Result Unit E) (s n : Guest T) → OnOk r (GuestGoesOn remaining written calls tells most now s n) → OnErr r (GuestIsLost written calls s n) → One (e && is_ok r) s n
  one_went e (Ok u) s n goes lost = inl goes
  one_went e (Err x) s n goes lost = inr (and_false e, lost)

  pub went_next : (e b : Bool) (old out : List (Guest T)) (i : ℕ) (d from n : Guest T) → i < length out → drop i out ≡ drop i old → Each e (take i old) (take i out)
      → One (e && b) from n → from ≡ get_or out i d → Each (e && b) (take (i + 1) old) (take (i + 1) (set out i n))
  went_next e b old out i d from n within rest h one is =
      let s = get_or out i d in
      let here : drop i old ≡ s ∷ drop (i + 1) out = sym rest ∙ drop_more out i d within in
      let front : take (i + 1) old ≡ take i old ++ s ∷ [] = take-add i 1 old ∙ ap (λ l. take i old ++ take 1 l) here in
      subst (λ l. Each (e && b) l (take (i + 1) (set out i n))) (sym front)
      (subst (λ l. Each (e && b) (take i old ++ s ∷ []) l) (sym (take_more_set out i n within))
      (each_more (e && b) (take i old) (take i out) s n (each_less e b (take i old) (take i out) h) (subst (λ w. One (e && b) w n) is one)))

-- each goes on, those that are over leave, and some are let in
pub turned : {T F : Type 0} (remaining written : T → Option (List ℕ)) (calls : T → Option (List TalkCall)) (tells : F → List ℕ → Bool → Type 0) (now next : ℕ) (limits : GuestLimits) (framing : F) (old new : GuestTable T F)
    (xs ys went mid left : List (Guest T)) (a b : Option (DoorLog T)) (e f r : Bool) → (let it : GuestTable T F = record { guests = xs; next = next; limits = limits; framing = framing } in it) ≡ old → ys ≡ xs
    → EachGoesOn remaining written calls (tells framing) limits.bytes now e ys went → r ≡ (e && f) → left ≡ filter (λ g. not (is_stage_over g.stage)) mid → mid ≡ went
    → LetsIn now f (record { guests = left; next = next; limits = limits; framing = framing }) new a b → Turns remaining written calls tells now r old new a b
turned {T} {F} remaining written calls tells now next limits framing old new xs ys went mid left a b e f r is same on both leave back let_in =
    subst (λ (o : GuestTable T F). Turns remaining written calls tells now r o new a b) is record {
      went = went;
      on = subst (λ x. EachGoesOn remaining written calls (tells framing) limits.bytes now x xs went) (sym both)
          (each_less remaining written calls (tells framing) limits.bytes now e f xs went (subst (λ l. EachGoesOn remaining written calls (tells framing) limits.bytes now e l went) same on));
      arrivals = lets_less now _ _ a b r f (λ wanting. both ∙ ap (λ x. e && x) wanting ∙ and_false e) (subst (λ l. LetsIn now f (record { guests = l; next = next; limits = limits; framing = framing }) new a b) (leave ∙ ap (filter (λ g. not (is_stage_over g.stage))) back) let_in);
    }
