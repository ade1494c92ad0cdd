-- Defined by this project: the model value and the invariant of the type `Text`.
use Rattle.std.specs.Prelude.{ℕ, ◌≤◌, List, length, drop}
use Rattle.coap_store.specs.declared.text.Text.TheInside.{Inside}

-- The bytes after the unused ones.
abbrev pub text_of : Inside → List ℕ
text_of t = drop t.start t.bytes.items

-- The invariant of a text: at most 4,096 bytes are unused.
pub record IsText (t : Inside) : Type 0 where
  pub within : t.start ≤ length t.bytes.items
  pub few : t.start ≤ 4096
