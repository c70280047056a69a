-- Step and ceiling: what a renewal asks for, and past which moment none leads.
-- Source: Vault, "Tokens" (period, explicit max TTL); Vault, "Lease, renew, and revoke" (maximum TTL, from the issue).
use Rattle.std.specs.Prelude.{ℕ, ◌+◌, ◌&&◌, ◌==◌, nat_lt, if◌then◌else◌, Option, Some, None, unwrap_or}
use Rattle.vault_inventory.specs.declared.terms.Terms.{Terms}

-- the period where it is not 0, else the increment
abbrev pub step_of : Terms → ℕ
step_of t = if t.period == 0 then unwrap_or t.increment 0 else t.period

-- without a period: the issue and the maximum TTL, or the explicit one where that is set and less. A periodic token has
-- no maximum but an explicit one
abbrev pub ceiling_of : Terms → Option ℕ
ceiling_of t =
    if t.period == 0 then Some (t.issued + (if nat_lt 0 t.explicit_max && nat_lt t.explicit_max t.max_ttl then t.explicit_max else t.max_ttl))
    else (if t.explicit_max == 0 then None else Some (t.issued + t.explicit_max))

-- the maximum TTL that is written, or the system's where that is 0 or absent
abbrev pub max_ttl_of : ℕ → Option ℕ → ℕ
max_ttl_of system_max written = let max = unwrap_or written 0 in if max == 0 then system_max else max
