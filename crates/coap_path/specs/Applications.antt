-- Defined by this project: the paths whose requests the application answers. A path is the Uri-Path options of a
-- request (RFC 7252 section 5.10.1).
use Rattle.std.specs.Prelude.{ℕ, Bool, true, false, ◌&&◌, List, [], ◌∷◌, length, Option, Some, None, nat_lt}
use Rattle.std.specs.Prelude.{if◌then◌else◌}
use Rattle.coap_path.specs.Paths.{Path, same_bytes}
use Rattle.coap_path.specs.ResourceKinds.{kind_of_path, is_dynamic}
use Rattle.coap_path.specs.Methods.{has_method}

-- An entry: a prefix of paths, the methods that the application answers there, and the attributes of its link (RFC 6690
-- section 2).
pub record ApplicationEntryValue : Type 0 where
  pub prefix : Path
  pub methods : List ℕ
  pub attributes : List ℕ

-- The entries, and the number of seconds that the application has for a response.
pub record ApplicationsValue : Type 0 where
  pub deadline : ℕ
  pub entries : List ApplicationEntryValue

-- The segments of a path begin with those of the prefix.
abbrev pub begins_with : Path → Path → Bool
begins_with [] path = true
begins_with (s ∷ prefix) [] = false
begins_with (s ∷ prefix) (t ∷ path) = same_bytes s t && begins_with prefix path

-- Of at most two entries, the one with more segments; the first if they have the same number.
abbrev pub longer_entry : Option ApplicationEntryValue → Option ApplicationEntryValue → Option ApplicationEntryValue
longer_entry None other = other
longer_entry (Some e) None = Some e
longer_entry (Some e) (Some f) = if nat_lt (length e.prefix) (length f.prefix) then Some f else Some e

-- The entry that a path belongs to: that with the longest prefix which the path begins with.
abbrev pub entry_for : List ApplicationEntryValue → Path → Option ApplicationEntryValue
entry_for [] path = None
entry_for (e ∷ es) path = longer_entry (if begins_with e.prefix path then Some e else None) (entry_for es path)

-- The entry has this method.
abbrev pub names_method : Option ApplicationEntryValue → ℕ → Bool
names_method None code = false
names_method (Some e) code = has_method e.methods code

-- The application answers requests with this path and code: the path is not that of a built-in resource, and its entry
-- has the method.
unfoldable pub is_answered : List ApplicationEntryValue → Path → ℕ → Bool
is_answered entries path code = is_dynamic (kind_of_path path) && names_method (entry_for entries path) code
