-- A link represents its history after each call.
use Rattle.std.proofs.Common.{◌≡◌, ℕ, ◌≤◌, Bool, true, false, cond, List, [], ◌∷◌, ◌++◌, length, drop, Option, Some}
use Rattle.std.proofs.Common.{None, refl, sym, ap, subst, ◌∙◌, arith}
use Rattle.coap_conn.specs.Prelude.{unwrap_or, filter_map, Message, spelling, Role, LimitValues, announcement}
use Rattle.coap_conn.specs.Prelude.{announced, token_announcement, announced_token, last_or, last_reported, LinkValue}
use Rattle.coap_conn.specs.Prelude.{bytes_of, own_csm, new_link, Call, CallEffect, Handles, Does, Holds, Asks}
use Rattle.coap_conn.specs.Prelude.{Announces, Writes, call_effect, link_with_deed, link_after, IsWithin, History}
use Rattle.coap_conn.specs.Prelude.{IsHistory, LinkShows, link_of, new_history, with_deed, after, takes_messages}
use Rattle.coap_conn.specs.Prelude.{sizes_of, cons_option}
use Rattle.std.proofs.lemmas.List.{drop-append-le, drop-drop, length-append, length-drop}
use Rattle.std.proofs.lemmas.List.Concat.{flat_map-append}
use Rattle.coap_conn.specs.Calls as call
use Rattle.std.proofs.lemmas.Bool.{cond_both}

-- ---- queued messages

pub bytes_more : (ms ns : List Message) → bytes_of (ms ++ ns) ≡ bytes_of ms ++ bytes_of ns
bytes_more ms ns = flat_map-append spelling ms ns

pub waiting_more : (h : History) (ms : List Message) → IsHistory h
    → drop h.written (bytes_of (h.queued ++ ms)) ≡ drop h.written (bytes_of h.queued) ++ bytes_of ms
waiting_more h ms is = rw (bytes_more, drop-append-le) refl

pub history_more : (h : History) (ms : List Message) → IsHistory h → h.written ≤ length (bytes_of (h.queued ++ ms))
history_more h ms is = omega (
  arith,
  is,
  ap (λ (t : List ℕ). length t) (bytes_more h.queued ms),
  length-append (bytes_of h.queued) (bytes_of ms),
)

-- ---- announcements

-- One more message replaces the last number that `reports` gives, if it gives one for the message.
reported_more : (reports : Message → Option ℕ) (base : ℕ) (ms : List Message) (m : Message)
    → last_reported reports base (ms ++ m ∷ []) ≡ unwrap_or (reports m) (last_reported reports base ms)
reported_more reports base [] m = grind arith
reported_more reports base (one ∷ ms) m =
    elim (reports one) as (λ o. last_or base (cons_option o (filter_map reports (ms ++ m ∷ [])))
    ≡ unwrap_or (reports m) (last_or base (cons_option o (filter_map reports ms)))) [
      | None ↦ reported_more reports base ms m
      | Some n ↦ reported_more reports n ms m
    ]

pub announced_more : (ms : List Message) (m : Message)
    → announced (ms ++ m ∷ []) ≡ unwrap_or (announcement m) (announced ms)
unfolding announced
announced_more ms m = reported_more announcement 1152 ms m

token_more : (ms : List Message) (m : Message)
    → announced_token (ms ++ m ∷ []) ≡ unwrap_or (token_announcement m) (announced_token ms)
unfolding announced_token
token_more ms m = reported_more token_announcement 8 ms m

-- Without messages, the size is the base size.
pub announced_none : announced [] ≡ 1152
unfolding announced
announced_none = refl

token_none : announced_token [] ≡ 8
unfolding announced_token
token_none = refl

-- ---- effects

-- An effect of a call on the link is the same effect on the history.
deed_of : (h : History) (d : CallEffect) → IsHistory h → link_with_deed (link_of h) d ≡ link_of (with_deed h d)
deed_of h (Handles m e) is = rw (waiting_more h e.queued is, announced_more, token_more) refl
deed_of h (Does e) is = rw (waiting_more h e.queued is) refl
deed_of h (Holds e) is = refl
deed_of h (Asks m outstanding tokens) is = rw (waiting_more h (m ∷ []) is) refl
deed_of h (Announces size) is = rw (waiting_more h (own_csm size ∷ []) is) refl
deed_of h (Writes n) is = rw (drop-drop n h.written (bytes_of h.queued)) refl

-- The effect of a call keeps `IsHistory`.
deed_kept : (h : History) (d : CallEffect) → IsHistory h → IsWithin (link_of h) d → IsHistory (with_deed h d)
deed_kept h (Handles m e) is within = history_more h e.queued is
deed_kept h (Does e) is within = history_more h e.queued is
deed_kept h (Holds e) is within = is
deed_kept h (Asks m outstanding tokens) is within = history_more h (m ∷ []) is
deed_kept h (Announces size) is within = history_more h (own_csm size ∷ []) is
deed_kept h (Writes n) is within = omega (arith, within, is, length-drop h.written (bytes_of h.queued))

-- The same if the effect depends on a condition.
done_shown : (new : LinkValue) (h : History) (so : Bool) (d : CallEffect)
    → new ≡ cond so (link_with_deed (link_of h) d) (link_of h)
    → IsHistory h → IsWithin (link_of h) d → LinkShows new (cond so (with_deed h d) h)
done_shown new h true d same is within = record { is_history = deed_kept h d is within; same = same ∙ deed_of h d is }
done_shown new h false d same is within = record { is_history = is; same = same }

-- ---- calls (for the contracts of `Link`, and for the models of the crates above)

pub new_shown : (role : Role) (limits : LimitValues) (tokens : ℕ) (new : LinkValue) → new ≡ new_link role limits tokens
    → LinkShows new (new_history role limits tokens)
new_shown role limits tokens new is =
    record { is_history = omega arith; same = is ∙ rw (announced_none, token_none) refl }

-- A link that represents a history represents the history after a call, too.
pub shows : (v new : LinkValue) (c : Call) → IsWithin v (call_effect v c).deed → new ≡ link_after v c → (h : History)
    → LinkShows v h → LinkShows new (after h c)
shows v new c within is h shown =
    done_shown new h (call_effect (link_of h) c).so (call_effect (link_of h) c).deed
    (is ∙ ap (λ (w : LinkValue). link_after w c) shown.same) shown.is_history
    (subst (λ (w : LinkValue). IsWithin w (call_effect w c).deed) shown.same within)

-- The same for the link that `link_of` gives.
pub shown_after : (h : History) (c : Call) → IsWithin (link_of h) (call_effect (link_of h) c).deed → IsHistory h
    → LinkShows (link_after (link_of h) c) (after h c)
shown_after h c within is =
    shows (link_of h) (link_after (link_of h) c) c within refl h (record { is_history = is; same = refl })

pub after_link : (h : History) (c : Call) → IsWithin (link_of h) (call_effect (link_of h) c).deed → IsHistory h
    → link_of (after h c) ≡ link_after (link_of h) c
after_link h c within is = sym (shown_after h c within is).same

-- ---- parts that calls leave unchanged

-- A part of a link is unchanged if the effect leaves it unchanged, or if there is none.
pub stays_so : {A : Type 0} (part : LinkValue → A) (does : Bool) (l now : LinkValue) → part now ≡ part l
    → part (cond does now l) ≡ part l
stays_so part does l now same = cond_both does now l (λ v. part v ≡ part l) (λ e. same) (λ e. refl)

-- The end of input changes neither limits nor sizes.
pub end_sizes : (l : LinkValue) (cut : Bool) → sizes_of (link_after l (call.End cut)) ≡ sizes_of l
end_sizes l cut = stays_so sizes_of (takes_messages l.phase) l _ refl
