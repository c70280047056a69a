-- Called: calls of the neighbours, one after another. For the parts of a turn, and for `run`.
use Rattle.std.proofs.Common.{◌≡◌, ℕ, Bool, true, false, List, [], ◌∷◌, ◌++◌, Result, Ok, Err, IsErr, is_ok, refl, subst, inl, inr}
use Rattle.agent_turns.specs.{Runs.AreTurns, Turns.IsServingTurn, Turns.ServingTurn}
use Rattle.agent_turns.specs.Calls.{InStage, calls_in, calls_of, on_held}
use Rattle.agent_turns.specs.Held.{Held, ServingSide, serving_side}
use Rattle.agent_turns.specs.Neighbours.{AllCalled, NeighbourCall, WithCalls}
use Rattle.agent_turns.specs.Stages.{Listed, OnHeld, Then, one_and_then}
use Rattle.vault_asking.specs.Sending.{Lanes}

pub called_join : {N : Type 0} → (does : NeighbourCall → N → N → Type 0) (xs ys : List NeighbourCall) (a b c : N) → AllCalled does xs a b → AllCalled does ys b c → AllCalled does (xs ++ ys) a c
called_join {N} does [] ys a b c h k = subst (λ (n : N). AllCalled does ys n c) h k
called_join does (x ∷ xs) ys a b c h k = (h.0, (h.1.0, called_join does xs ys h.0 b c h.1.1 k))

called_split : {N : Type 0} → (does : NeighbourCall → N → N → Type 0) (xs ys : List NeighbourCall) (a c : N) → AllCalled does (xs ++ ys) a c → (b : N) × (AllCalled does xs a b × AllCalled does ys b c)
called_split does [] ys a c h = (a, (refl, h))
called_split does (x ∷ xs) ys a c h = (let rest = called_split does xs ys h.0 c h.1.1 in (rest.0, ((h.0, (h.1.0, rest.1.0)), rest.1.1)))

pub called_once : {N : Type 0} → (does : NeighbourCall → N → N → Type 0) (x : NeighbourCall) (a b : N) → does x a b → AllCalled does (x ∷ []) a b
called_once does x a b h = (b, (h, refl))

pub called_twice : {N : Type 0} → (does : NeighbourCall → N → N → Type 0) (x y : NeighbourCall) (a b c : N) → does x a b → does y b c → AllCalled does (x ∷ y ∷ []) a c
called_twice does x y a b c h k = (b, (h, (c, (k, refl))))

pub not_ok : {T E : Type 0} → (r : Result T E) → IsErr r → is_ok r ≡ false
not_ok (Ok x) is = absurd (let e : false ≡ true = is in cc)
not_ok (Err e) is = refl

-- ---- stages, one after another

module _ {N : Type 0} (does : NeighbourCall → N → N → Type 0) where
  pub held_with :
      (stage : Held → Bool → Held → Type 0) (calls : (old : Held) (is_whole : Bool) (new : Held) → stage old is_whole new → List NeighbourCall) (old new : Held) (lanes : Lanes) (is_whole : Bool) (a b : N) →
      WithCalls does (stage old is_whole new) (calls old is_whole new) a b → InStage does (OnHeld stage) (on_held stage calls) (serving_side old lanes) is_whole (serving_side new lanes) a b
  held_with stage calls old new lanes is_whole a b h = record { is = (h.is, refl); called = h.called }

  module _ (first second : ServingSide → Bool → ServingSide → Type 0) (one : Listed NeighbourCall first) (more : Listed NeighbourCall second) where
    pub both_with : (old mid new : ServingSide) (is_whole : Bool) (a b c : N) → InStage does first one old true mid a b → InStage does second more mid is_whole new b c → InStage does (Then first second) (one_and_then first second one more) old is_whole new a c
    both_with old mid new is_whole a b c h k = record { is = inl (mid, (h.is, k.is)); called = called_join does (one old true mid h.is) (more mid is_whole new k.is) a b c h.called k.called }

    -- memory was wanting in the first
    pub first_with : (old new : ServingSide) (is_whole : Bool) (a b : N) → is_whole ≡ false → InStage does first one old false new a b → InStage does (Then first second) (one_and_then first second one more) old is_whole new a b
    first_with old new is_whole a b not h = record { is = inr (h.is, not); called = h.called }

  -- ---- turns

  pub turns_on :
      (port : ℕ) (ts : List ServingTurn) (t : ServingTurn) (old mid new : ServingSide) (a b c : N) → WithCalls does (AreTurns port old ts mid) (calls_of port old ts mid) a b →
      WithCalls does (IsServingTurn port mid t new) (calls_in port mid t new) b c → WithCalls does (AreTurns port old (ts ++ t ∷ []) new) (calls_of port old (ts ++ t ∷ []) new) a c
  turns_on port [] t old mid new a b c h one =
      let from = subst (λ (n : N). WithCalls does (IsServingTurn port mid t new) (calls_in port mid t new) n c) h.called one in
      let moved = subst (λ (s : ServingSide). WithCalls does (IsServingTurn port s t new) (calls_in port s t new) a c) h.is from in
      record { is = (new, (moved.is, refl)); called = called_join does (calls_in port old t new moved.is) [] a c c moved.called refl }
  turns_on port (x ∷ xs) t old mid new a b c h one =
      let first = calls_in port old x h.is.0 h.is.1.0 in
      let parts = called_split does first (calls_of port h.is.0 xs mid h.is.1.1) a b h.called in
      let more = turns_on port xs t h.is.0 mid new parts.0 b c (record { is = h.is.1.1; called = parts.1.1 }) one in
      record { is = (h.is.0, (h.is.1.0, more.is)); called = called_join does first (calls_of port h.is.0 (xs ++ t ∷ []) new more.is) a parts.0 c parts.1.0 more.called }
