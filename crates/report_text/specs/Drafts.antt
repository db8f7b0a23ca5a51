-- Texts that are being written.
use Rattle.std.specs.Prelude.{ℕ, ◌+◌, ◌≤◌, List, length, take}
use Rattle.report_text.specs.declared.draft.Draft.{Draft}

-- what is written so far
abbrev pub written : Draft → List ℕ
written d = take d.len d.bytes.items

-- so many bytes more can be put
abbrev pub HasRoom : ℕ → Draft → Type 0
HasRoom n d = d.len + n ≤ length d.bytes.items
