-- Defined by this project: the values that contracts see for the types of this crate.
use Rattle.std.specs.Prelude.{ℕ, List, map}
use Rattle.std.specs.Borrow.{Bor}
use Rattle.directory_links.specs.Links.{Attribute}
use Rattle.directory_links.specs.LinkViews.{attribute_of}
use Rattle.directory_links.specs.declared.attribute.AttributeRef.{AttributeRef}

-- The bytes of each of these slices.
abbrev pub segment_list : List (Bor (List ℕ)) → List (List ℕ)
segment_list segments = map (λ s. s.now) segments

-- The attributes of a list of borrowed ones.
abbrev pub attributes_of : List AttributeRef → List Attribute
attributes_of list = map attribute_of list
