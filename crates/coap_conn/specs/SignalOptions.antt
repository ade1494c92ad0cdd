-- RFC 8323 section 5.2: the option numbers of Signalling Messages, which each code assigns for itself.
use Rattle.std.specs.Prelude.{ℕ}

-- Max-Message-Size of a CSM (RFC 8323 section 5.3.1).
abbrev pub max_message_size : ℕ
max_message_size = 2

-- Extended-Token-Length of a CSM (RFC 8974 section 2.2.1).
abbrev pub extended_token_length : ℕ
extended_token_length = 6

-- Custody of Ping and Pong (RFC 8323 section 5.4.1).
abbrev pub custody : ℕ
custody = 2

-- Bad-CSM-Option of an Abort (RFC 8323 section 5.6).
abbrev pub bad_csm_option : ℕ
bad_csm_option = 2
