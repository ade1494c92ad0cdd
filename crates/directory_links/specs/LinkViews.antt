-- Defined by this project: the values that contracts see for the types of this crate.
use Rattle.std.specs.Prelude.{◌≡◌, ℕ, List, Result, Ok, Err}
use Rattle.std.specs.Borrow.{Bor}
use Rattle.directory_links.specs.Reading.{attributes_read, links_read}
use Rattle.directory_links.specs.Links.{AttributeValue, NoValue, ExtendedValue, TokenValue, QuotedValue, Attribute}
use Rattle.directory_links.specs.Links.{Link}
use Rattle.directory_links.specs.declared.attribute.ValueRef.{ValueRef}
use Rattle.directory_links.specs.declared.attribute.ValueRef.TheVariants as borrowed
use Rattle.directory_links.specs.declared.attribute.AttributeRef.{AttributeRef}
use Rattle.directory_links.specs.declared.fault.LinkFault.{LinkFault}
use Rattle.directory_links.specs.declared.fault.SyntaxFault.{SyntaxFault}

-- The value that contracts see for a borrowed one.
abbrev pub value_of : ValueRef → AttributeValue
value_of borrowed.Absent = NoValue
value_of (borrowed.Extended t) = ExtendedValue t.now
value_of (borrowed.Token t) = TokenValue t.now
value_of (borrowed.Quoted t) = QuotedValue t.now

-- The same for an attribute.
abbrev pub attribute_of : AttributeRef → Attribute
attribute_of a = record { name = a.name.now; value = value_of a.value }

-- The value, or the number of bytes that are left.
abbrev pub lefts : {X : Type 0} → Result X SyntaxFault → Result X ℕ
lefts (Ok x) = Ok x
lefts (Err e) = Err e.left

-- A call returns the value or the error of `read`, if `view` gives what contracts see for the value.
abbrev pub Gives : {X Y : Type 0} → (X → Y) → Result X SyntaxFault → Result Y ℕ → Type 0
Gives view (Ok x) read = read ≡ Ok (view x)
Gives view (Err e) read = read ≡ Err e.left

-- A call returns the bytes after the attributes that were read, or the error.
abbrev pub GivesRest : Result (Bor (List ℕ)) SyntaxFault → Result (List Attribute × List ℕ) ℕ → Type 0
GivesRest (Ok rest) read = read ≡ Ok (attributes_read read, rest.now)
GivesRest (Err e) read = read ≡ Err e.left

-- A call succeeds if the links were read, or returns the error.
abbrev pub GivesLinks : Result (Unit {0}) SyntaxFault → Result (List Link) ℕ → Type 0
GivesLinks (Ok x) read = read ≡ Ok (links_read read)
GivesLinks (Err e) read = read ≡ Err e.left

-- A call returns the links that were read, or the error as a `LinkFault`.
abbrev pub GivesAt : Result (List Link) LinkFault → Result (List Link) ℕ → Type 0
GivesAt (Ok links) read = read ≡ Ok links
GivesAt (Err e) read = read ≡ Err e.offset
