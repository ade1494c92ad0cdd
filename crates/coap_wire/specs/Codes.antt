-- RFC 7252 sections 4.1, 5.8, 5.9, 12.1, RFC 8323 section 5: the codes, as bytes.
use Rattle.std.specs.Prelude.{ℕ, ◌+◌, ◌*◌, ◌/◌, ◌%◌}

-- The code with a class of 3 bits and a detail of 5 bits.
abbrev pub code_of : ℕ → ℕ → ℕ
code_of class detail = class * 32 + detail

-- The class of a code.
abbrev pub class_of : ℕ → ℕ
class_of code = code / 32

-- The detail of a code.
abbrev pub detail_of : ℕ → ℕ
detail_of code = code % 32

abbrev pub empty : ℕ
empty = code_of 0 0

abbrev pub get : ℕ
get = code_of 0 1

abbrev pub post : ℕ
post = code_of 0 2

abbrev pub put : ℕ
put = code_of 0 3

abbrev pub delete : ℕ
delete = code_of 0 4

abbrev pub created : ℕ
created = code_of 2 1

abbrev pub deleted : ℕ
deleted = code_of 2 2

abbrev pub valid : ℕ
valid = code_of 2 3

abbrev pub changed : ℕ
changed = code_of 2 4

abbrev pub content : ℕ
content = code_of 2 5

abbrev pub bad_request : ℕ
bad_request = code_of 4 0

abbrev pub bad_option : ℕ
bad_option = code_of 4 2

abbrev pub not_found : ℕ
not_found = code_of 4 4

abbrev pub method_not_allowed : ℕ
method_not_allowed = code_of 4 5

abbrev pub not_acceptable : ℕ
not_acceptable = code_of 4 6

abbrev pub precondition_failed : ℕ
precondition_failed = code_of 4 12

abbrev pub request_entity_too_large : ℕ
request_entity_too_large = code_of 4 13

abbrev pub internal_server_error : ℕ
internal_server_error = code_of 5 0

abbrev pub not_implemented : ℕ
not_implemented = code_of 5 1

abbrev pub service_unavailable : ℕ
service_unavailable = code_of 5 3

abbrev pub gateway_timeout : ℕ
gateway_timeout = code_of 5 4

abbrev pub proxying_not_supported : ℕ
proxying_not_supported = code_of 5 5

abbrev pub csm : ℕ
csm = code_of 7 1

abbrev pub ping : ℕ
ping = code_of 7 2

abbrev pub pong : ℕ
pong = code_of 7 3

abbrev pub release : ℕ
release = code_of 7 4

abbrev pub abort : ℕ
abort = code_of 7 5
