-- Worked examples: the first error of an entry that an application adds.
use Rattle.std.proofs.Common.{◌≡◌, ℕ, Option, List, [], ◌∷◌, map, Some, None, refl, codes, replicate}
use Rattle.coap_path.specs.Prelude.{Path, ApplicationEntryValue, are_methods, is_name_char, is_token_char}
use Rattle.coap_path.specs.Prelude.{are_attributes, async_path, kind_of_path, listing_path, time_path}
use Rattle.coap_path.specs.Prelude.{entry_refusal, ApplicationFault}
use Rattle.coap_path.specs.declared.fault.ApplicationFault.TheVariants.{Full, Root, BuiltIn, Twice, Method, Attributes}
use Rattle.coap_wire.specs.Codes as code

abbrev entry : Path → List ℕ → List ℕ → ApplicationEntryValue
entry prefix methods attributes = record { prefix = prefix; methods = methods; attributes = attributes }

abbrev rd : Path
rd = codes "rd" ∷ []

abbrev a : Path
a = codes "a" ∷ []

-- The errors of more entries of an application that has this number of entries for POST at `/rd`.
abbrev errors : ℕ → List ApplicationEntryValue → List (Option ApplicationFault)
errors count es =
    map (λ e. entry_refusal (replicate count (entry rd (code.post ∷ []) [])) e.prefix e.methods e.attributes) es

-- Each entry but the last has all errors after its own.
first_errors : errors 1 (entry [] [] (codes ";") ∷ entry time_path [] (codes ";") ∷ entry rd [] (codes ";")
    ∷ entry a [] (codes ";") ∷ entry a (code.get ∷ []) (codes ";") ∷ entry a (code.get ∷ []) (codes "obs") ∷ [])
    ≡ Some Root ∷ Some BuiltIn ∷ Some Twice ∷ Some Method ∷ Some Attributes ∷ None ∷ []
unfolding entry_refusal kind_of_path are_methods are_attributes is_name_char is_token_char
first_errors = refl

-- A path below that of a built-in resource is allowed.
built_in : errors 0 (entry async_path (code.get ∷ []) [] ∷ entry listing_path (code.get ∷ []) []
    ∷ entry (codes "time" ∷ codes "zone" ∷ []) (code.get ∷ []) [] ∷ []) ≡ Some BuiltIn ∷ Some BuiltIn ∷ None ∷ []
unfolding entry_refusal kind_of_path are_methods are_attributes is_name_char is_token_char
built_in = refl

-- There are at most 16 entries.
fifteen : errors 15 (entry a (code.get ∷ []) [] ∷ []) ≡ None ∷ []
unfolding entry_refusal kind_of_path are_methods are_attributes is_name_char is_token_char
fifteen = refl

sixteen : errors 16 (entry [] [] [] ∷ []) ≡ Some Full ∷ []
unfolding entry_refusal are_methods are_attributes is_name_char is_token_char
sixteen = refl
