-- Some are let in, one after another: for `let_in`.
use Rattle.std.proofs.Common.{◌≡◌, ℕ, ◌≤◌, ◌+◌, ◌⊎◌, inl, inr, ◌∙◌, List, [], ◌∷◌, ◌++◌, length, Option, Some, None, Result, Ok, Bool, true, false, refl, sym, subst, ap, append_assoc, append-nil, length-append, arith}
use Rattle.base_clients.specs.{Doors.AskedFor, Doors.DoorLog, declared.clients.Came.Came}
use Rattle.base_clients.specs.declared.clients.Came.TheVariants.{One, Nobody}
use Rattle.base_clients.specs.Tables.{GuestTable, LetsIn, LetsOneIn, arrive, arrive_all}

-- the door was asked so often, and let one in each time
pub record SoFar {T F : Type 0} (now : ℕ) (old new : GuestTable T F) (before after : Option (DoorLog T)) (asks : ℕ) : Type 0 where
  pub talks : List T
  pub many : length talks ≡ asks
  pub asked : AskedFor before after asks talks
  pub arrived : new ≡ arrive_all now old talks

log_of : {T : Type 0} (a b : ℕ) (xs ys : List T) → a ≡ b → xs ≡ ys → (let it : Option (DoorLog T) = Some (record { asks = a; given = xs }) in it) ≡ Some (record { asks = b; given = ys })
log_of {T} a b xs ys e f =
    ap (λ (n : ℕ). let it : Option (DoorLog T) = Some (record { asks = n; given = xs }) in it) e ∙ ap (λ (l : List T). let it : Option (DoorLog T) = Some (record { asks = b; given = l }) in it) f

-- what is asked in two parts
joined : {T : Type 0} (a b c : Option (DoorLog T)) (n k : ℕ) (xs ys : List T) → AskedFor a b n xs → AskedFor b c k ys → AskedFor a c (n + k) (xs ++ ys)
joined None b c n k xs ys p q = tt
joined (Some l) b c n k xs ys p q =
    let next : AskedFor (Some (record { asks = l.asks + n; given = l.given ++ xs })) c k ys = subst (λ o. AskedFor o c k ys) p q in
    next ∙ log_of (l.asks + n + k) (l.asks + (n + k)) ((l.given ++ xs) ++ ys) (l.given ++ (xs ++ ys)) (omega arith) (append_assoc l.given xs ys)

module _ {T F : Type 0} (now : ℕ) where
  arrive_more : (old : GuestTable T F) (ts : List T) (t : T) → arrive_all now old (ts ++ t ∷ []) ≡ arrive now (arrive_all now old ts) t
  arrive_more old [] t = refl
  arrive_more old (u ∷ us) t = arrive_more (arrive now old u) us t

  pub so_next : (old mid new : GuestTable T F) (a b c : Option (DoorLog T)) (n : ℕ) (t : T) → SoFar now old mid a b n → AskedFor b c 1 (t ∷ []) → new ≡ arrive now mid t → SoFar now old new a c (n + 1)
  so_next old mid new a b c n t so one is = record {
    talks = so.talks ++ t ∷ [];
    many = let long = length-append so.talks (t ∷ []) in let many = so.many in omega arith;
    asked = joined a b c n 1 so.talks (t ∷ []) so.asked one;
    arrived = is ∙ ap (λ m. arrive now m t) so.arrived ∙ sym (arrive_more old so.talks t);
  }

  -- one more is let in
  pub so_one_in : {E : Type 0} (old mid new : GuestTable T F) (a b c : Option (DoorLog T)) (n : ℕ) (r : Result Came E) (h : Came) → r ≡ Ok h → h ≡ One → LetsOneIn r now mid new b c
      → SoFar now old mid a b n → SoFar now old new a c (n + 1)
  so_one_in {E} old mid new a b c n r h is has one so =
      let it : LetsOneIn {E = E} (Ok One) now mid new b c = subst (λ (x : Result Came E). LetsOneIn x now mid new b c) (is ∙ ap Ok has) one in
      so_next old mid new a b c n it.0 so it.1.0 it.1.1

  -- nobody is there
  pub so_nobody : {E : Type 0} (old mid new : GuestTable T F) (a b c : Option (DoorLog T)) (n : ℕ) (r : Result Came E) (h : Came) → n + 1 ≤ 16 → r ≡ Ok h → h ≡ Nobody → LetsOneIn r now mid new b c
      → SoFar now old mid a b n → LetsIn now true old new a c
  so_nobody {E} old mid new a b c n r h few is has one so =
      let it : LetsOneIn {E = E} (Ok Nobody) now mid new b c = subst (λ (x : Result Came E). LetsOneIn x now mid new b c) (is ∙ ap Ok has) one in record {
        talks = so.talks;
        asks = n + 1;
        few = few;
        each = let many = so.many in omega arith;
        asked = subst (λ l. AskedFor a c (n + 1) l) (append-nil so.talks) (joined a b c n 1 so.talks [] so.asked it.0);
        arrived = it.1 ∙ so.arrived;
        stops = inr (inl (let many = so.many in omega arith));
      }

stops_less : {A B C : Type 0} (e f : Bool) → (f ≡ false → e ≡ false) → A ⊎ (B ⊎ (C ⊎ (f ≡ false))) → A ⊎ (B ⊎ (C ⊎ (e ≡ false)))
stops_less e f less (inl x) = inl x
stops_less e f less (inr (inl x)) = inr (inl x)
stops_less e f less (inr (inr (inl x))) = inr (inr (inl x))
stops_less e f less (inr (inr (inr x))) = inr (inr (inr (less x)))

-- where memory was wanting somewhere, it was wanting
pub lets_less : {T F : Type 0} (now : ℕ) (old new : GuestTable T F) (a b : Option (DoorLog T)) (e f : Bool) → (f ≡ false → e ≡ false) → LetsIn now f old new a b → LetsIn now e old new a b
lets_less now old new a b e f less h = record { talks = h.talks; asks = h.asks; few = h.few; each = h.each; asked = h.asked; arrived = h.arrived; stops = stops_less e f less h.stops }
