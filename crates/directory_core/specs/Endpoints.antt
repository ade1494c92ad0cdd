-- RFC 9176 section 5: the directories that requests reach, and the attributes that name an endpoint there.
use Rattle.std.specs.Prelude.{◌≡◌, ◌⊎◌, ℕ, List, [], ◌∷◌, ◌++◌, length, filter, codes}
use Rattle.coap_wire.specs.Message.{Message}
use Rattle.directory_links.specs.Characters.{is_same_name}
use Rattle.directory_links.specs.Links.{QuotedValue, Attribute}
use Rattle.directory_registry.specs.IndexViews.{Each}
use Rattle.directory_core.specs.Replies.{DirectoryValue, new_directory, replying}

-- A new directory, or one after a request.
pub data ReachedDirectory : DirectoryValue → Type 0 where
  Begun : (limit capacity : ℕ) → ReachedDirectory (new_directory limit capacity)
  AfterRequest : (d : DirectoryValue) (now limit : ℕ) (m : Message) → ReachedDirectory d
      → ReachedDirectory (replying d now limit m).1

-- The attributes with this name, in any case of its letters.
abbrev pub attributes_named : List ℕ → List Attribute → List Attribute
attributes_named name attributes = filter (λ a. is_same_name a.name name) attributes

-- An attribute with this text as its quoted value.
abbrev pub quoted : List ℕ → List ℕ → Attribute
quoted name text = record { name = name; value = QuotedValue text }

-- The attributes name the endpoint with this key. They have exactly one `ep`, which is the name. They have one `d`,
-- which is the sector, or none if the sector is empty.
pub record IsNamed (key : List ℕ) (attributes : List Attribute) : Type 0 where
  pub sector : List ℕ
  pub name : List ℕ
  pub key_is : key ≡ length sector ∷ sector ++ name
  pub ep : attributes_named (codes "ep") attributes ≡ quoted (codes "ep") name ∷ []
  pub d : ((attributes_named (codes "d") attributes ≡ []) × (sector ≡ []))
      ⊎ (attributes_named (codes "d") attributes ≡ quoted (codes "d") sector ∷ [])

-- Each registration of a directory has the attributes that name its endpoint.
abbrev pub AreNamed : DirectoryValue → Type 0
AreNamed d = Each (λ e. IsNamed e.0 e.1.attributes) d.registry.entries
