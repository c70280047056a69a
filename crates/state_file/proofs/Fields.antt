-- Two rows with the same fields are the same.
use Rattle.std.proofs.Common.{◌≡◌, ℕ, true, List, length, take, bytes_eq, sym, ◌∙◌, arith}
use Rattle.std.proofs.lemmas.List.{take_all}
use Rattle.std.specs.Cmp.Lexicographic.{bytes_decides}
use Rattle.vault_inventory.specs.declared.terms.Terms.{Terms}
use Rattle.state_changes.specs.declared.row.Row.{Row}

pub same_bytes : (a b : List ℕ) → bytes_eq a b ≡ true → a ≡ b
same_bytes a b e = (bytes_decides a b).0 e

pub bytes_same : (a b : List ℕ) → a ≡ b → bytes_eq a b ≡ true
bytes_same a b e = (bytes_decides a b).1 e

pub same_terms : (a b : Terms) → a.issued ≡ b.issued → a.increment ≡ b.increment → a.period ≡ b.period → a.max_ttl ≡ b.max_ttl → a.explicit_max ≡ b.explicit_max → a.reissued ≡ b.reissued → a ≡ b
same_terms a b issued increment period max_ttl explicit_max reissued =
    let both : ◌≡◌ {A = Terms} (record { issued = a.issued; increment = a.increment; period = a.period; max_ttl = a.max_ttl; explicit_max = a.explicit_max; reissued = a.reissued })
    (record { issued = b.issued; increment = b.increment; period = b.period; max_ttl = b.max_ttl; explicit_max = b.explicit_max; reissued = b.reissued }) = cc in
    both

pub same_row : (a b : Row) → a.name ≡ b.name → a.kind ≡ b.kind → a.parent ≡ b.parent → a.is_told ≡ b.is_told → a.end ≡ b.end → a.renewable ≡ b.renewable → a.terms ≡ b.terms → a.need ≡ b.need → a.credential ≡ b.credential → a.file ≡ b.file → a ≡ b
same_row a b name kind parent told ends renewable terms need credential file =
    let both : ◌≡◌ {A = Row} (record { name = a.name; kind = a.kind; parent = a.parent; is_told = a.is_told; end = a.end; renewable = a.renewable; terms = a.terms; need = a.need; credential = a.credential; file = a.file })
    (record { name = b.name; kind = b.kind; parent = b.parent; is_told = b.is_told; end = b.end; renewable = b.renewable; terms = b.terms; need = b.need; credential = b.credential; file = b.file }) = cc in
    both

-- rows of one length that are the same up to their end
pub all_same : (xs ys : List Row) (n : ℕ) → length xs ≡ length ys → n ≡ length xs → take n xs ≡ take n ys → xs ≡ ys
all_same xs ys n long is same = sym (take_all n xs (omega (arith, is))) ∙ same ∙ take_all n ys (omega (arith, is, long))
