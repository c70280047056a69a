-- Moments: which of two moments comes first.
-- Source: this project's own.
use Rattle.std.specs.Prelude.{ℕ, Option, Some, None, min}

-- the earlier of two moments, of which there may be one alone
abbrev pub earlier : ℕ → Option ℕ → ℕ
earlier n None = n
earlier n (Some m) = min n m
