-- Asks: which entries to ask at a wake-up, so that each is asked only where it cannot wait for the next one.
-- Source: this project's own, over Vault, "Lease, renew, and revoke".
use Rattle.std.specs.Prelude.{ℕ, ◌+◌, Bool, true, ◌&&◌, List, [], ◌∷◌, Option, Some, None, filter, length, nat_lt}
use Rattle.std.specs.List.{range_with_len}
use Rattle.plan_forest.specs.{declared.entry.Entry.Entry, Forest.entry_at, Renewal.all_last, Renewal.renewed, Carried.carried}
use Rattle.plan_rule.specs.{declared.wake.Wake.Wake, Ends.ends_after_wake_up}

-- an end that cannot wait for the next moment, or the wake-up is the last
abbrev pub is_end_due : ℕ → Option ℕ → ℕ → Bool
is_end_due margin None end = true
is_end_due margin (Some next) end = nat_lt end (next + margin)

-- whether to ask i at t, where the next moment is `next`: it is renewable and alive at t; its end is less than its carried
-- need; its end by the renewal rule would be later; and it is due
unfoldable pub is_to_be_asked : List Entry → ℕ → ℕ → (ℕ → ℕ) → ℕ → Option ℕ → ℕ → Bool
is_to_be_asked es margin s ends t next i =
    (entry_at es i).renewable && (all_last es ends (t + 1) i && (nat_lt (ends i) (carried es s i) && (nat_lt (ends i) (renewed es margin ends t i) && is_end_due margin next (ends i))))

-- the Asks at t, by rising index
unfoldable pub asks : List Entry → ℕ → ℕ → (ℕ → ℕ) → ℕ → Option ℕ → List ℕ
asks es margin s ends t next = filter (is_to_be_asked es margin s ends t next) (range_with_len 0 (length es))

abbrev pub asking : List Entry → ℕ → ℕ → (ℕ → ℕ) → ℕ → Option ℕ → Wake
asking es margin s ends t next = record { at = t; asked = asks es margin s ends t next }

abbrev pub first_of : List ℕ → Option ℕ
first_of [] = None
first_of (t ∷ ts) = Some t

-- a list of moments with its Asks: the plan whose wake-ups ask the Asks, by the ends after those before them
unfoldable pub with_asks : List Entry → ℕ → ℕ → (ℕ → ℕ) → List ℕ → List Wake
with_asks es margin s ends [] = []
with_asks es margin s ends (t ∷ ts) =
    asking es margin s ends t (first_of ts) ∷ with_asks es margin s (ends_after_wake_up es margin ends (asking es margin s ends t (first_of ts))) ts
