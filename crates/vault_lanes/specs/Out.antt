-- The requests that are out, and the answers that are handed back.
-- Source: this project's own.
use Rattle.std.specs.Prelude.{◌≡◌, ◌==◌, ℕ, ◌^◌, ◌≤◌, ◌<◌, ◌⊎◌, All, List, [], ◌∷◌, ◌++◌, Bool, false, not, nat_le, map, Option, Some, None, IfSome, if◌then◌else◌}
use Rattle.std.specs.List.{filter}
use Rattle.base_device.specs.Moments.{earlier}
use Rattle.vault_lanes.specs.{declared.coming.Coming.Coming, declared.lanes.Answered.Answered}

-- a request that is out: the index that it is for, and where it is known what comes of it
pub record Out : Type 0 where
  pub index : ℕ
  pub comes : Option Coming

-- the next one has a greater index, if there is one
abbrev pub IsBelow : ℕ → List Out → Type 0
IsBelow index [] = Unit {0}
IsBelow index (o ∷ os) = index < o.index

-- one more is out; it stands before the first with a greater index
pub record OutIsPut (o : Out) (old new : List Out) : Type 0 where
  pub before : List Out
  pub behind : List Out
  pub old_is : old ≡ before ++ behind
  pub new_is : new ≡ before ++ o ∷ behind
  pub lower : All (λ x. x.index ≤ o.index) before
  pub higher : IsBelow o.index behind

-- an answer is for a request that was out, and is what comes of it where that is known
abbrev pub IsAnswerTo : Out → Answered → Type 0
IsAnswerTo o a = (a.index ≡ o.index) × IfSome o.comes (λ c. a.answer ≡ c.answer)

-- each that was out is handed back with its answer or is still out, in their order
abbrev pub IsParted : List Out → List Answered → List Out → Type 0
IsParted [] answers left = (answers ≡ []) × (left ≡ [])
IsParted (o ∷ os) answers left =
    ((a : Answered) × (later : List Answered) × ((answers ≡ a ∷ later) × (IsAnswerTo o a × IsParted os later left)))
    ⊎ ((rest : List Out) × ((left ≡ o ∷ rest) × IsParted os answers rest))

-- ---- other indices

-- the index that stands in the second list where this one stands in the first; the same where it stands in none
unfoldable pub index_in : List ℕ → List ℕ → ℕ → ℕ
index_in [] others index = index
index_in (k ∷ ks) [] index = index
index_in (k ∷ ks) (j ∷ js) index = if k == index then j else index_in ks js index

-- what is out is for another index so, and all else of it is the same
abbrev pub with_index : List ℕ → List ℕ → Out → Out
with_index from to o = record o { index = index_in from to o.index }

abbrev pub renamed : List ℕ → List ℕ → List Out → List Out
renamed from to out = map (with_index from to) out

-- ---- where it is known what comes

-- the moment at which the first answer is there
abbrev pub sooner_at : Option Coming → Option ℕ → Option ℕ
sooner_at None later = later
sooner_at (Some c) later = Some (earlier c.at later)

abbrev pub first_at : List Out → Option ℕ
first_at [] = None
first_at (o ∷ os) = sooner_at o.comes (first_at os)

abbrev pub is_there_at : ℕ → Option Coming → Bool
is_there_at moment None = false
is_there_at moment (Some c) = nat_le c.at moment

abbrev pub is_there : ℕ → Out → Bool
is_there moment o = is_there_at moment o.comes

-- those that are there at a moment are handed back, and no others
pub record AreThereAt (moment : ℕ) (old : List Out) (answers : List Answered) (new : List Out) : Type 0 where
  pub left : new ≡ filter (λ o. not (is_there moment o)) old
  pub indices : map (λ (a : Answered). a.index) answers ≡ map (λ (o : Out). o.index) (filter (is_there moment) old)

-- ---- when they have to be looked at again

-- nothing is due yet: whatever later moment it is looked for up to, that at which something is due is later too
abbrev pub IsDueAfter : ℕ → (ℕ → ℕ) → Type 0
IsDueAfter now due_by = (by : ℕ) → now < by → by < 2 ^ 64 → now < due_by by
