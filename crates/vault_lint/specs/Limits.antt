-- Limits: why no renewal leads to a need: the ceilings and the ends of an entry and of those over it.
-- Source: Vault, "Tokens"; Vault, "Lease, renew, and revoke" (maximum TTL); needs are this project's own.
use Rattle.std.specs.Prelude.{ℕ, ◌+◌, ◌-◌, ◌==◌, ◌&&◌, ◌||◌, Bool, not, max, nat_le, nat_lt, if◌then◌else◌, List, [], ◌∷◌, Option, Some, None, map, unwrap_or}
use Rattle.vault_inventory.specs.{Inventories.terms_at, Served.note_at, Terms.ceiling_of, declared.limits.TheConstants.SYSTEM_MAX, declared.note.EntryNote.EntryNote, declared.terms.Terms.Terms}
use Rattle.base_moment.specs.declared.moment.TheConstants.{LAST}
use Rattle.plan_forest.specs.{Forest.entry_at, Over.chain, declared.entry.Entry.Entry}
use Rattle.vault_lint.specs.{declared.subject.Subject.Subject, declared.what.EntryDoubt.EntryDoubt}
use Rattle.vault_lint.specs.declared.what.EntryDoubt.TheVariants.{PastCeiling, PastEnd, PastLife, ShortLife}

-- how long after its issue an entry lives at most, None where nothing limits it
abbrev pub life_from : ℕ → Option ℕ → Option ℕ
life_from issued None = None
life_from issued (Some ceiling) = Some (ceiling - issued)

abbrev pub life_of : Terms → Option ℕ
life_of t = life_from t.issued (ceiling_of t)

-- it is needed always, and lives a day or less
abbrev pub short_of : ℕ → Option ℕ → Option EntryDoubt
short_of over None = None
short_of over (Some life) = if nat_le life 86400 then Some (ShortLife over life) else None

abbrev pub days_limit : ℕ → Terms → Option EntryDoubt
days_limit over t = short_of over (life_of t)

-- it cannot be renewed, and ends before the need
abbrev pub past_end : ℕ → ℕ → Entry → Option EntryDoubt
past_end need over e = if not e.renewable && nat_lt e.end need then Some (PastEnd over) else None

-- its ceiling and its end, the later of them, lie before the need
abbrev pub past_ceiling : ℕ → ℕ → Entry → ℕ → Option EntryDoubt
past_ceiling need over e ceiling = if nat_lt (max ceiling e.end) need then Some (PastCeiling over (need - max ceiling e.end)) else past_end need over e

abbrev pub past_bounds : ℕ → ℕ → Entry → Option ℕ → Option EntryDoubt
past_bounds need over e None = past_end need over e
past_bounds need over e (Some ceiling) = past_ceiling need over e ceiling

abbrev pub told_limit : ℕ → ℕ → Entry → Terms → Option EntryDoubt
told_limit need over e t = past_bounds need over e (ceiling_of t)

-- issued by now, it has ended before the need
abbrev pub past_life : ℕ → ℕ → ℕ → ℕ → Option EntryDoubt
past_life now need over life = if nat_lt (now + life) need then Some (PastLife over (need - (now + life))) else None

abbrev pub past_any_life : ℕ → ℕ → ℕ → Option ℕ → Option EntryDoubt
past_any_life now need over None = None
past_any_life now need over (Some life) = past_life now need over life

-- an explicit maximum TTL is written, or one that is not the system's
abbrev pub is_written_max : Subject → Terms → Bool
is_written_max s t = nat_lt 0 t.explicit_max || not (t.max_ttl == unwrap_or s.served.system_max SYSTEM_MAX)

abbrev pub untold_limit : Subject → ℕ → ℕ → Terms → Option EntryDoubt
untold_limit s need over t = if is_written_max s t then past_any_life s.at need over (life_of t) else None

-- its issue and its end are written
unfoldable pub is_told : List EntryNote → ℕ → Bool
is_told notes i = (note_at notes i).is_told

-- why no renewal of the entry `over` leads to a need
abbrev pub limit_of : Subject → ℕ → ℕ → Entry → Terms → Option EntryDoubt
limit_of s need over e t =
    if need == LAST then days_limit over t
    else (if is_told s.served.notes over then told_limit need over e t else untold_limit s need over t)

unfoldable pub limit_at : Subject → ℕ → ℕ → Option EntryDoubt
limit_at s need over = limit_of s need over (entry_at s.inventory.forest.entries over) (terms_at s.inventory.terms over)

-- the first of these
abbrev pub first_of : List (Option EntryDoubt) → Option EntryDoubt
first_of [] = None
first_of (None ∷ later) = first_of later
first_of (Some what ∷ later) = Some what

-- of an entry and of those over it
unfoldable pub limit_in : Subject → ℕ → ℕ → Option EntryDoubt
limit_in s need i = first_of (map (limit_at s need) (chain s.inventory.forest.entries i))

-- why no renewal leads to the need of an entry that is not past; of one that is reissued it is said, and no doubt
unfoldable pub limit : Subject → ℕ → Option EntryDoubt
limit s i =
    let need = (entry_at s.inventory.forest.entries i).need in
    if nat_le need s.at || (terms_at s.inventory.terms i).reissued then None else limit_in s need i
