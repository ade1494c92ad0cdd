-- The theorems on streams: the relation `Splits` and the function `sized_split` agree.
use Rattle.std.proofs.Common.{◌≡◌, ℕ, List, [], ◌∷◌, ◌++◌, length, Option, Some, None, Result, Ok, Err, inl, inr, refl}
use Rattle.std.proofs.Common.{sym}
use Rattle.std.proofs.Common.{ap, subst, ◌∙◌, arith}
use Rattle.std.proofs.lemmas.List.{append-nil, append_assoc}
use Rattle.coap_wire.specs.Prelude.{concat, Message, AreBytes, FormatFault, message_of, FrameFault, Frames, Sizes}
use Rattle.coap_wire.specs.Prelude.{sized_frames, AreFrames, FramedAs, sizes_after, size_for, AreAtMost, FramesEndWith}
use Rattle.coap_wire.specs.Prelude.{FollowsRest, size_after, StreamFault, OfFrame, Format, EndsWith, SpellEach, Stream}
use Rattle.coap_wire.specs.Prelude.{sized_split, SplitsAs, frame_then, read_found}
use Rattle.coap_wire.specs.Stream.{read_frames, stream_after}
use Rattle.coap_wire.proofs.NumberLaws.{AreBytes-tail}
use Rattle.coap_wire.proofs.BodySteps.{result_cases}
use Rattle.coap_wire.proofs.SizeLaws.{spelling_is_frame}
use Rattle.coap_wire.proofs.ReadingLaws.{message_spelled, message_again}
use Rattle.coap_wire.proofs.StreamSteps.{sized_step}
use Rattle.coap_wire.proofs.FramesLaws.{AreBytes-front, size_after_none, size_after_one, frames_framed, frame_at_front}
use Rattle.coap_wire.proofs.FramesLaws.{frames_front, frames_end}

-- ---- the function satisfies the relation

-- The result for frames that are divided so is a stream that is split so.
read_splits : (sizes : Sizes) (frames : List (List ℕ)) (rest more : List ℕ) (fault : Option FrameFault)
    → AreBytes (concat frames ++ (rest ++ more)) → AreFrames frames → AreAtMost sizes frames
    → FramesEndWith (size_after sizes frames rest) rest fault → FollowsRest more fault
    → SplitsAs sizes (concat frames ++ (rest ++ more)) (read_frames frames rest fault)
read_splits sizes [] rest more None fits each small ended follows =
    record { frames = []; more = more; whole = refl; spelled = tt; small = tt; ended = ended; follows = follows }
read_splits sizes [] rest more (Some fault) fits each small ended follows =
    record { frames = []; more = more; whole = refl; spelled = tt; small = tt; ended = ended; follows = tt }
read_splits sizes (f ∷ fs) rest more fault fits each small ended follows =
    go (message_of f) refl
    (read_splits (sizes_after (length f) sizes) fs rest more fault (AreBytes-tail f _ both) each.1 small.1
    (subst (λ M. FramesEndWith M rest fault) (sym (size_after_one sizes f fs rest)) ended) follows)
  where
    both : AreBytes (f ++ (concat fs ++ (rest ++ more)))
    both = rw (append_assoc f (concat fs) (rest ++ more)) at fits

    go : (r : Result Message FormatFault) → message_of f ≡ r
        → SplitsAs (sizes_after (length f) sizes) (concat fs ++ (rest ++ more)) (read_frames fs rest fault)
        → SplitsAs sizes (concat (f ∷ fs) ++ (rest ++ more)) (frame_then f r (read_frames fs rest fault))
    go (Ok m) e others = record {
      frames = f ∷ others.frames;
      more = others.more;
      whole = cc (
        append_assoc f (concat fs) (rest ++ more),
        others.whole,
        append_assoc f (concat others.frames) ((read_frames fs rest fault).rest ++ others.more),
      );
      spelled = (message_spelled f m (AreBytes-front f (concat fs ++ (rest ++ more)) both) e, others.spelled);
      small = (small.0, others.small);
      ended =
          subst (λ M. EndsWith M (read_frames fs rest fault).rest (read_frames fs rest fault).fault)
          (size_after_one sizes f others.frames (read_frames fs rest fault).rest) others.ended;
      follows = others.follows;
    }
    go (Err e) is others = record {
      frames = [];
      more = concat fs ++ (rest ++ more);
      whole = append_assoc f (concat fs) (rest ++ more);
      spelled = tt;
      small = tt;
      ended = (each.0, omega (arith, small.0, size_after_none sizes f), λ m spelled. cc (message_again f m spelled));
      follows = tt;
    }

framed_splits : (sizes : Sizes) (bytes : List ℕ) (found : Frames) → AreBytes bytes → FramedAs sizes bytes found
    → SplitsAs sizes bytes (read_found found)
framed_splits sizes bytes found fits f =
    rw (f.whole) (read_splits sizes found.frames found.rest f.more found.fault (rw f.whole at fits) f.each f.small
    f.ended f.follows)

-- The result of the function satisfies the relation.
pub split_splits : (sizes : Sizes) (bytes : List ℕ) → AreBytes bytes → SplitsAs sizes bytes (sized_split sizes bytes)
unfolding sized_split
split_splits sizes bytes fits =
    framed_splits sizes bytes (sized_frames sizes bytes) fits (frames_framed sizes bytes fits)

-- ---- the relation determines the result of the function

-- Decoded frames, followed by the others.
read_front : (frames : List (List ℕ)) (ms : List Message) (others : Frames) → SpellEach frames ms
    → read_frames (frames ++ others.frames) others.rest others.fault ≡ stream_after ms (read_found others)
read_front [] [] others spelled = refl
read_front [] (m ∷ ms) others spelled = absurd spelled
read_front (f ∷ fs) [] others spelled = absurd spelled
read_front (f ∷ fs) (m ∷ ms) others spelled =
    rw (message_again f m spelled.0, read_front fs ms others spelled.1) refl

spelled_frames : (frames : List (List ℕ)) (ms : List Message) → SpellEach frames ms → AreFrames frames
spelled_frames [] ms spelled = tt
spelled_frames (f ∷ fs) [] spelled = absurd spelled
spelled_frames (f ∷ fs) (m ∷ ms) spelled = (spelling_is_frame f m spelled.0, spelled_frames fs ms spelled.1)

split_end : (sizes : Sizes) (rest more : List ℕ) (fault : Option StreamFault) → AreBytes (rest ++ more)
    → EndsWith (size_for sizes rest) rest fault → FollowsRest more fault
    → sized_split sizes (rest ++ more) ≡ record { messages = []; rest = rest; fault = fault }
unfolding sized_split
split_end sizes rest more None fits ended follows = ap read_found (frames_end sizes rest more None fits ended follows)
split_end sizes rest more (Some (OfFrame fault)) fits ended follows =
    ap read_found (frames_end sizes rest more (Some fault) fits ended tt)
split_end sizes rest more (Some Format) fits ended follows =
    elim (result_cases (message_of rest)) [
      | inl good ↦
          absurd (ended.2 good.0 (message_spelled rest good.0 (AreBytes-front rest more fits) good.1))
      | inr bad ↦ sized_step sizes (rest ++ more) ∙ rw (frame_at_front sizes rest more ended.0 ended.1, bad.1) refl
    ]

-- Whatever satisfies the relation is the result of the function.
pub splits_split : (sizes : Sizes) (bytes : List ℕ) (other : Stream) → AreBytes bytes → SplitsAs sizes bytes other
    → other ≡ sized_split sizes bytes
unfolding sized_split
splits_split sizes bytes other fits s =
    let left = other.rest ++ s.more in
    let tail = AreBytes-tail (concat s.frames) left (rw s.whole at fits) in
    let end = split_end _ other.rest s.more other.fault tail s.ended s.follows in
    sym (ap (sized_split sizes) s.whole
    ∙ ap read_found (frames_front sizes s.frames left (spelled_frames s.frames other.messages s.spelled) s.small)
    ∙ read_front s.frames other.messages _ s.spelled ∙ ap (stream_after other.messages) end ∙ rw append-nil refl)
