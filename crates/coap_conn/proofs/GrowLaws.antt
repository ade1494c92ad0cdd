-- A queued message stays in the history, and only `Written` counts bytes as written.
use Rattle.std.proofs.Common.{◌≡◌, List, [], ◌++◌, refl, sym, ◌∙◌, append_assoc}
use Rattle.std.proofs.lemmas.List.{append-nil}
use Rattle.coap_conn.specs.Prelude.{Message, History}

-- Messages were added to those queued, and the number of bytes written is the same.
pub record Grows (h k : History) : Type 0 where
  pub more : List Message
  pub queued : k.queued ≡ h.queued ++ more
  pub written : k.written ≡ h.written

-- No message was queued.
pub same_queue : (h k : History) → k.queued ≡ h.queued → k.written ≡ h.written → Grows h k
same_queue h k queued written = record { more = []; queued = queued ∙ sym (append-nil h.queued); written = written }

pub grows_self : (h : History) → Grows h h
grows_self h = same_queue h h refl refl

pub grows_then : (h k g : History) → Grows h k → Grows k g → Grows h g
grows_then h k g a b = record {
  more = a.more ++ b.more;
  queued = cc (append_assoc h.queued a.more b.more);
  written = b.written ∙ a.written;
}
