use Rattle.std.proofs.Common.{◌≡◌, true, false, sym, ap}
use Rattle.std.proofs.lemmas.Bool.{and_parts}
use Rattle.coap_server_session.specs.Prelude.{ObserverValue, ObserversValue, is_stale, observer_value}
use Rattle.coap_server_session.proofs.values.EntryLemmas.{is_first}
use Rattle.coap_server_session.proofs.values.MarkLemmas.{notified_marked, notified_unmarked, gone_marked}
use Rattle.coap_server_session.proofs.values.AnsweringLemmas.{goes_whole, observer_stays_by, notified_entries}
use Rattle.coap_server_session.proofs.answering.notify.Goals.{else-goes_on-via-then-goes_on+else-is_whole}
use Rattle.coap_server_session.proofs.answering.notify.Goals.{else-goes_on-via-else-goes_on}
use Rattle.coap_server_session.proofs.answering.notify.Goals as goal

pub get-observer-requires : goal.get-observer-requires
get-observer-requires c =
    (is_first (is_stale c.args.shared.now) c.args.observers.now.entries c.args.stale.index
    c.requires.first.first).within

pub set_mark-requires : goal.set_mark-requires
set_mark-requires c =
    (is_first (is_stale c.args.shared.now) c.args.observers.now.entries c.args.stale.index
    c.requires.first.first).within

pub remove-requires : goal.remove-requires
remove-requires c =
    (is_first (is_stale c.args.shared.now) c.args.observers.now.entries c.args.stale.index
    c.requires.first.first).within

pub returns-then-is_whole-clause-entries : goal.returns-then-is_whole-clause-entries
returns-then-is_whole-clause-entries c = λ o at.
    let shared = c.args.shared.now in
    let link = c.args.link.now in
    let entries = c.args.observers.now.entries in
    let index = c.args.stale.index in
    let stays = observer_stays_by shared link entries index (observer_value c.get-observer.result.now) o _ _ _ _
    c.get-observer.ensures.value at
    c.fill_notification-index.ensures.reported c.code.ensures c.eq-goes_on.ensures
    (rw c.of.ensures at c.respond-reply.ensures.reply) in
    let both : true ≡ goes_whole shared link o = cc (
      stays,
      c.if-goes_on.true,
      c.is_whole.ensures,
      c.if-is_whole.true,
    ) in
    cc (
      ap (λ (k : ObserversValue). k.entries) (c.set_mark.ensures o at),
      c.requires.first.mark o at,
      notified_entries shared link entries index o true c.requires.first.first both,
    )

pub returns-else-goes_on-clause-entries : goal.returns-else-goes_on-clause-entries
returns-else-goes_on-clause-entries c = λ o at.
    let shared = c.args.shared.now in
    let link = c.args.link.now in
    let entries = c.args.observers.now.entries in
    let index = c.args.stale.index in
    let stays = observer_stays_by shared link entries index (observer_value c.get-observer.result.now) o _ _ _ _
    c.get-observer.ensures.value at
    c.fill_notification-index.ensures.reported c.code.ensures c.eq-goes_on.ensures
    (rw c.of.ensures at c.respond-reply.ensures.reply) in
    let not_both : false ≡ goes_whole shared link o = elim c.else-goes_on.branch [
      | else-goes_on-via-then-goes_on+else-is_whole w ↦
          cc (stays, w.if-goes_on.true, w.is_whole.ensures, w.if-is_whole.false)
      | else-goes_on-via-else-goes_on w ↦ cc (stays, w.if-goes_on.false)
    ] in
    cc (
      ap (λ (k : ObserversValue). k.entries) c.remove.ensures,
      notified_entries shared link entries index o false c.requires.first.first not_both,
    )

pub returns-then-is_whole-clause-room : goal.returns-then-is_whole-clause-room
returns-then-is_whole-clause-room c =
    ap (λ (k : ObserversValue). k.room) (c.set_mark.ensures _ c.get-observer.ensures.value)

pub returns-then-is_whole-clause-marked : goal.returns-then-is_whole-clause-marked
returns-then-is_whole-clause-marked c =
    let shared = c.args.shared.now in
    let link = c.args.link.now in
    let entries = c.args.observers.now.entries in
    let index = c.args.stale.index in
    let o : ObserverValue = observer_value c.get-observer.result.now in
    let at = c.get-observer.ensures.value in
    let stays = observer_stays_by shared link entries index o o _ _ _ _ at at
    c.fill_notification-index.ensures.reported c.code.ensures c.eq-goes_on.ensures
    (rw c.of.ensures at c.respond-reply.ensures.reply) in
    let both : true ≡ goes_whole shared link o = cc (
      stays,
      c.if-goes_on.true,
      c.is_whole.ensures,
      c.if-is_whole.true,
    ) in
    let reported = notified_unmarked shared o c.args.stale.mark (and_parts _ _ (sym both)).0
    (c.requires.first.mark o at) in
    rw (c.set_mark.ensures o at) (notified_marked shared entries c.args.observers.now.marks index
    (record o { mark = c.args.stale.mark }) c.requires.marked reported)

pub returns-else-goes_on-clause-marked : goal.returns-else-goes_on-clause-marked
returns-else-goes_on-clause-marked c =
    rw c.remove.ensures (gone_marked c.args.shared.now c.args.observers.now.entries c.args.observers.now.marks
    c.args.stale.index c.requires.marked)
