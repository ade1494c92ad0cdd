-- Segmentation is irrelevant: an input slice and its two parts in turn make the same steps and leave the same client.
use Rattle.std.proofs.Common.{◌≡◌, ℕ, List, [], ◌∷◌, ◌++◌, Option, Some, None, refl, append_assoc}
use Rattle.coap_client_engine.specs.Prelude.{StreamFault, Stream, split, stream_after, continued, split_on, LimitValues}
use Rattle.coap_client_engine.specs.Prelude.{ClientCall, Took, Ended, size_in, stream_in, beyond, steps_by, later_steps}
use Rattle.coap_client_engine.specs.Prelude.{steps_of, client_after, client_of}
use Rattle.std.proofs.lemmas.List.{append-nil, map-append}
use Rattle.std.proofs.Math.Seq.{drop-append_seam, drop-length}
use Rattle.coap_client_engine.proofs.ClientSteps.{taken_with_call, size_with_call, sizes_with_take, read_before}
use Rattle.coap_client_engine.proofs.ClientSteps.{stream_by, later_call_steps_more, nothing_beyond_itself}

-- ---- only the stream and the current size matter

-- Two lists of calls give the same stream, and the same size applies after them.
abbrev StreamAlike : ℕ → List ClientCall → List ClientCall → Type 0
StreamAlike M calls others = (stream_in M calls ≡ stream_in M others) × (size_in M calls ≡ size_in M others)

alike_by : (M : ℕ) (calls others : List ClientCall) (c : ClientCall) → StreamAlike M calls others
    → StreamAlike M (calls ++ c ∷ []) (others ++ c ∷ [])
alike_by M calls others c alike = (
  rw (stream_by M calls c, stream_by M others c, alike.0, alike.1),
  rw (size_with_call M calls c, size_with_call M others c, alike.1),
)

alike_then : (M : ℕ) (calls others more : List ClientCall) → StreamAlike M calls others
    → StreamAlike M (calls ++ more) (others ++ more)
alike_then M calls others [] alike = simp append-nil alike
alike_then M calls others (c ∷ more) alike =
    simp append_assoc at (alike_then M (calls ++ c ∷ []) (others ++ c ∷ []) more (alike_by M calls others c alike))

call_steps_alike : (M : ℕ) (calls others : List ClientCall) (c : ClientCall) → StreamAlike M calls others
    → steps_by M calls c ≡ steps_by M others c
unfolding steps_by
call_steps_alike M calls others (Took bytes) alike = rw (alike.0, (alike_by M calls others (Took bytes) alike).0)
call_steps_alike M calls others Ended alike = rw alike.0
call_steps_alike M calls others c alike = refl

later_steps_alike : (M : ℕ) (calls others later : List ClientCall) → StreamAlike M calls others
    → later_steps M calls later ≡ later_steps M others later
unfolding later_steps
later_steps_alike M calls others [] alike = refl
later_steps_alike M calls others (c ∷ later) alike =
    rw (call_steps_alike M calls others c alike, later_steps_alike M _ _ later (alike_by M calls others c alike))

-- ---- a stream continued in two parts

-- The steps of a stream without a fault that `s` and then `t` continue.
beyond_gone_on : (before s t : Stream) (fault : Option StreamFault) → before.fault ≡ None → s.fault ≡ fault
    → beyond before (continued (stream_after before.messages s) fault t)
    ≡ beyond before (stream_after before.messages s)
    ++ beyond (stream_after before.messages s) (continued (stream_after before.messages s) fault t)
beyond_gone_on before s t None none is =
    rw (
      none,
      is,
      drop-append_seam (before.messages ++ s.messages) t.messages,
      drop-append_seam before.messages s.messages,
      append_assoc before.messages s.messages t.messages,
      drop-append_seam before.messages (s.messages ++ t.messages),
    ) (simp (map-append, append-nil, append_assoc))
beyond_gone_on before s t (Some fault) none is = rw (nothing_beyond_itself (stream_after before.messages s), append-nil)

-- The steps of any stream that two slices continue in turn.
beyond_two_pieces : (M : ℕ) (before : Stream) (fault : Option StreamFault) (one other : List ℕ) → before.fault ≡ fault
    → beyond before (split_on M (split_on M before one) other)
    ≡ beyond before (split_on M before one) ++ beyond (split_on M before one) (split_on M (split_on M before one) other)
beyond_two_pieces M before None one other none =
    let s : Stream = split M (before.rest ++ one) in
    rw none (rw none at (beyond_gone_on before s (split M (s.rest ++ other)) s.fault none refl))
beyond_two_pieces M before (Some fault) one other is = rw is (simp drop-length)

-- ---- a slice in two parts

taken_twice : (M : ℕ) (calls : List ClientCall) (one other : List ℕ)
    → StreamAlike M (calls ++ Took (one ++ other) ∷ []) ((calls ++ Took one ∷ []) ++ Took other ∷ [])
taken_twice M calls one other =
    let half : List ClientCall = calls ++ Took one ∷ [] in (
      rw (
        read_before M calls (Took (one ++ other)),
        read_before M half (Took other),
        sizes_with_take M calls one,
        taken_with_call calls (Took one),
        append_assoc,
      ),
      rw (
        size_with_call M calls (Took (one ++ other)),
        size_with_call M half (Took other),
        size_with_call M calls (Took one),
      ),
    )

-- The steps of a slice are those of its parts.
piece_steps_by_parts : (M : ℕ) (calls : List ClientCall) (one other : List ℕ)
    → steps_by M calls (Took (one ++ other))
    ≡ steps_by M calls (Took one) ++ steps_by M (calls ++ Took one ∷ []) (Took other)
unfolding steps_by
piece_steps_by_parts M calls one other =
    rw (
      (taken_twice M calls one other).0,
      stream_by M (calls ++ Took one ∷ []) (Took other),
      size_with_call M calls (Took one),
      stream_by M calls (Took one),
    )
    (beyond_two_pieces (size_in M calls) (stream_in M calls) _ one other refl)

-- ---- the theorem

pub cut_call_steps : (M : ℕ) (earlier later : List ClientCall) (one other : List ℕ)
    → steps_of M (earlier ++ Took (one ++ other) ∷ later) ≡ steps_of M (earlier ++ Took one ∷ Took other ∷ later)
unfolding steps_of later_steps
cut_call_steps M earlier later one other =
    rw (
      later_call_steps_more M [] earlier (Took (one ++ other) ∷ later),
      later_call_steps_more M [] earlier (Took one ∷ Took other ∷ later),
      piece_steps_by_parts M earlier one other,
      later_steps_alike M _ _ later (taken_twice M earlier one other),
    ) (simp append_assoc)

cut_stream : (M : ℕ) (earlier later : List ClientCall) (one other : List ℕ)
    → StreamAlike M (earlier ++ Took (one ++ other) ∷ later) (earlier ++ Took one ∷ Took other ∷ later)
cut_stream M earlier later one other =
    simp append_assoc at (alike_then M (earlier ++ Took (one ++ other) ∷ [])
    ((earlier ++ Took one ∷ []) ++ Took other ∷ []) later (taken_twice M earlier one other))

pub cut_client : (limits : LimitValues) (tokens : ℕ) (earlier later : List ClientCall) (one other : List ℕ)
    → client_of limits tokens (earlier ++ Took (one ++ other) ∷ later)
    ≡ client_of limits tokens (earlier ++ Took one ∷ Took other ∷ later)
unfolding client_of client_after
cut_client limits tokens earlier later one other =
    rw (
      cut_call_steps limits.max_message earlier later one other,
      (cut_stream limits.max_message earlier later one other).0,
    )
