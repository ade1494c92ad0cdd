-- Defined by this project: the values of `PendingEntry` and `Due` in contracts.
use Rattle.coap_conn.specs.PendingEntries.{PendingEntryValue, DueValue, AnAnswer, AnExpired, APong}
use Rattle.coap_conn.specs.PendingEntries as value
use Rattle.coap_conn.specs.declared.pending.PendingEntry.{PendingEntry}
use Rattle.coap_conn.specs.declared.pending.PendingEntry.TheVariants.{Answer, Pong}
use Rattle.coap_conn.specs.declared.phase.Due.{Due}
use Rattle.coap_conn.specs.declared.phase.Due.TheVariants as due

-- The value of a pending entry, with the token as a list of bytes.
abbrev pub pending_value : PendingEntry → PendingEntryValue
pending_value (Answer responder token moment) = value.Answer responder token.items moment
pending_value (Pong token) = value.Pong token.items

-- The value of a result of `Link::due`, with the token as a list of bytes.
abbrev pub due_value : Due → DueValue
due_value (due.Answer token) = AnAnswer token.items
due_value (due.Expired token) = AnExpired token.items
due_value due.Pong = APong
due_value due.Nothing = value.Nothing
