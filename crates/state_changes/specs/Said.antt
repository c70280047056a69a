-- Said: what an inventory says of the word that a change is about.
-- Source: this project's own.
use Rattle.std.specs.Prelude.{ℕ, List, Some, None, codes}
use Rattle.state_changes.specs.{declared.change.ChangeKind.ChangeKind, declared.row.Row.Row, Rows.named, Words.fingerprint, Words.row_text}
use Rattle.state_changes.specs.declared.change.ChangeKind.TheVariants as what
use Rattle.vault_inventory.specs.Needs.{need_word}

-- the need, the fingerprint of the credential, or that of the whole entry
abbrev pub said_of : Row → ChangeKind → List ℕ
said_of row (what.Need until) = need_word row.need
said_of row (what.Replace credential) = fingerprint row.credential
said_of row (what.Add added) = fingerprint (row_text row)
said_of row what.Drop = fingerprint (row_text row)

-- of an entry that is not there, that it is absent
unfoldable pub said : List Row → List ℕ → ChangeKind → List ℕ
said rows name w = elim (named rows name) [ None ↦ codes "absent" | Some row ↦ said_of row w ]
