-- Those that are out, as the code has them.
use Rattle.std.specs.Prelude.{◌≡◌, ℕ, List, [], ◌∷◌, ◌++◌, Bool, Option, None, Some, IfSome, filter, map, not}
use Rattle.vault_lanes.specs.{Losses.Answer, Out.Out, Out.index_in, declared.coming.Coming.Coming, declared.lanes.Answered.Answered, declared.seats.Seat.Seat}

abbrev pub out_of_seat : {T : Type 0} → (T → Option Coming) → Seat T → Out
out_of_seat comes seat = record { index = seat.index; comes = comes seat.standing }

abbrev pub outs : {T : Type 0} → (T → Option Coming) → List (Seat T) → List Out
outs comes seats = map (out_of_seat comes) seats

-- there is an answer, and it is what comes of the request where that is known
abbrev pub AnswerIsWhatComes : Option Coming → Option Answer → Type 0
AnswerIsWhatComes comes None = ⊥
AnswerIsWhatComes comes (Some a) = IfSome comes (λ c. a ≡ c.answer)

-- those that are there are handed back, and the others stay
pub record AreTakenOut {T : Type 0} (there : T → Bool) (old new : List (Seat T)) (answers : List Answered) : Type 0 where
  pub left : new ≡ filter (λ seat. not (there seat.standing)) old
  pub indices : map (λ (a : Answered). a.index) answers ≡ map (λ (seat : Seat T). seat.index) (filter (λ seat. there seat.standing) old)

-- one more is among them, and the others are as they were
pub record SeatIsPut {T : Type 0} (seat : Seat T) (old new : List (Seat T)) : Type 0 where
  pub before : List (Seat T)
  pub behind : List (Seat T)
  pub old_is : old ≡ before ++ behind
  pub new_is : new ≡ before ++ seat ∷ behind

-- one for another index
abbrev pub under : {T : Type 0} → List ℕ → List ℕ → Seat T → Seat T
under from to seat = record seat { index = index_in from to seat.index }

-- the answers of those that have one, each under its index
abbrev pub answer_at : ℕ → Option Answer → List Answered
answer_at index None = []
answer_at index (Some a) = record { index = index; answer = a } ∷ []

abbrev pub answers_of : {T : Type 0} → (T → Option Answer) → List (Seat T) → List Answered
answers_of said [] = []
answers_of said (s ∷ ss) = answer_at s.index (said s.standing) ++ answers_of said ss
