-- Force: which entry forces the next wake-up, and the list of wake-ups that are forced one after the other.
-- Source: this project's own, over Vault, "Lease, renew, and revoke" (the increment counts from the renewal; maximum TTL).
use Rattle.std.specs.Prelude.{◌≡◌, ℕ, ◌-◌, ◌≤◌, ◌<◌, List, [], ◌∷◌, Option, Some}
use Rattle.plan_forest.specs.{declared.entry.Entry.Entry, Carried.IsFrom, Carried.carried}
use Rattle.plan_rule.specs.{Forced.Forced, Forced.bound, declared.force.Force.Force}

-- after a wake-up at prev, x is the next: of all entries whose bound falls short of their carried need, its entry has the
-- least bound, of several the lowest index; it comes the margin before that bound, for the entry that has the need
pub record IsForce (es : List Entry) (margin s : ℕ) (ends : ℕ → ℕ) (prev : Option ℕ) (x : Force) : Type 0 where
  pub short : bound es ends prev x.entry < carried es s x.entry
  pub moment : x.at ≡ bound es ends prev x.entry - margin
  pub least : (i : ℕ) → bound es ends prev i < carried es s i → bound es ends prev x.entry ≤ bound es ends prev i
  pub lowest : (i : ℕ) → bound es ends prev i < carried es s i → bound es ends prev i ≡ bound es ends prev x.entry → x.entry ≤ i
  pub from : IsFrom es s x.entry x.needed

-- each is the next after the one before it, and after the last no entry's bound falls short
abbrev pub AreForces : List Entry → ℕ → ℕ → (ℕ → ℕ) → Option ℕ → List Force → Type 0
AreForces es margin s ends prev [] = (i : ℕ) → carried es s i ≤ bound es ends prev i
AreForces es margin s ends prev (x ∷ xs) = IsForce es margin s ends prev x × AreForces es margin s ends (Some x.at) xs

-- each wake-up is Forced by the pair that it names
abbrev pub AreForced : List Entry → ℕ → ℕ → (ℕ → ℕ) → Option ℕ → List Force → Type 0
AreForced es margin s ends prev [] = Unit {0}
AreForced es margin s ends prev (x ∷ xs) = Forced es margin s ends prev x.at x.entry x.needed × AreForced es margin s ends (Some x.at) xs

-- each names the lowest entry that is Forced there by some needed one, and the from of what that entry carries
abbrev pub AreLowest : List Entry → ℕ → ℕ → (ℕ → ℕ) → Option ℕ → List Force → Type 0
AreLowest es margin s ends prev [] = Unit {0}
AreLowest es margin s ends prev (x ∷ xs) =
    ((i f : ℕ) → Forced es margin s ends prev x.at i f → x.entry ≤ i) × (IsFrom es s x.entry x.needed × AreLowest es margin s ends (Some x.at) xs)
