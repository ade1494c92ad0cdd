-- The code and the diagnostic payload of each refusal.
use Rattle.std.specs.Prelude.{ℕ, List, [], codes}
use Rattle.coap_wire.specs.Codes.{code_of}
use Rattle.directory_core.specs.declared.refusal.Refusal.{Refusal}
use Rattle.directory_core.specs.declared.refusal.Refusal.TheVariants.{Path, Method, Format, Repeated, Endpoint}
use Rattle.directory_core.specs.declared.refusal.Refusal.TheVariants.{Lifetime, Base, Query, Links, Target, Full}
use Rattle.directory_core.specs.declared.refusal.Refusal.TheVariants.{TooLarge, Name, Many, Key, Payload}
use Rattle.directory_core.specs.declared.refusal.Refusal.TheVariants.{Condition, Accept}

abbrev pub code_of_refusal : Refusal → ℕ
code_of_refusal Path = code_of 4 4
code_of_refusal Method = code_of 4 5
code_of_refusal Format = code_of 4 15
code_of_refusal Repeated = code_of 4 0
code_of_refusal Endpoint = code_of 4 0
code_of_refusal Lifetime = code_of 4 0
code_of_refusal Base = code_of 4 0
code_of_refusal Query = code_of 4 0
code_of_refusal Links = code_of 4 0
code_of_refusal Target = code_of 4 0
code_of_refusal Full = code_of 5 3
code_of_refusal TooLarge = code_of 4 0
code_of_refusal Name = code_of 4 0
code_of_refusal Many = code_of 4 0
code_of_refusal Key = code_of 4 0
code_of_refusal Payload = code_of 4 0
code_of_refusal Condition = code_of 4 12
code_of_refusal Accept = code_of 4 6

abbrev pub text_of_refusal : Refusal → List ℕ
text_of_refusal Path = []
text_of_refusal Method = []
text_of_refusal Format = codes "Content-Format must be 40"
text_of_refusal Repeated = codes "ep, d, lt and base can be given once"
text_of_refusal Endpoint = codes "ep must have 1 to 63 bytes of UTF-8 without controls, d at most 63"
text_of_refusal Lifetime = codes "lt must be 1 to 4294967295"
text_of_refusal Base = codes "base is required, as in coap+tcp://host:5683"
text_of_refusal Query = codes "malformed query"
text_of_refusal Links = codes "payload is not in link format"
text_of_refusal Target = codes "targets must begin with a scheme or with /"
text_of_refusal Full = []
text_of_refusal TooLarge = codes "result too large: use page and count"
text_of_refusal Name = codes "a query has a reserved name, or one that no attribute can have"
text_of_refusal Many = codes "an endpoint has at most 64 attributes"
text_of_refusal Key = codes "ep and d cannot be updated"
text_of_refusal Payload = codes "an update has no payload"
text_of_refusal Condition = []
text_of_refusal Accept = codes "results have Content-Format 40"
