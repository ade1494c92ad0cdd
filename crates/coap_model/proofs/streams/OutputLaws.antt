-- The world of one connection whose input steps are each followed by a flush. More input continues this world, the
-- output only grows, and a stopped connection does not change.
use Rattle.std.proofs.Common.{◌≡◌, ℕ, false, List, [], ◌∷◌, ◌++◌, map, Some, None, refl, sym, ap, subst, ◌∙◌, arith}
use Rattle.std.proofs.Common.{append_assoc, is_none}
use Rattle.coap_model.specs.Prelude.{AllByRecursion, Message, StreamFault, Reason, takes_messages, LimitValues}
use Rattle.coap_model.specs.Prelude.{bytes_of, ConfigValues, Connection, side_after, change_after, side_faulted}
use Rattle.coap_model.specs.Prelude.{settled, new_side, waiting_on, settled_within, ConnectionEntry, World, side_of}
use Rattle.coap_model.specs.Prelude.{acted, step, Step, new_world, AcceptedCall, Opened, Took, spelled_on, beyond}
use Rattle.coap_model.specs.Prelude.{steps_by, later_steps, steps_of, written_times, flushed, flushed_after, only_id}
use Rattle.coap_model.specs.Prelude.{stream_of, world_for, side_for, outcome_on, outcome, stdio_output}
use Rattle.std.proofs.lemmas.Bool.{eqb-true, cond_both}
use Rattle.std.proofs.lemmas.List.{append-nil}
use Rattle.coap_wire.proofs.StreamSteps.{unfinished_empty, split_unfinished, split_goes_on}
use Rattle.coap_conn.proofs.LinkLemmas.{bytes_more}
use Rattle.coap_model.specs.world.World.{changed_at}
use Rattle.coap_model.specs.world.World as world
use Rattle.coap_model.proofs.streams.FlushLaws.{idle_step, flush_leaves, quiet_flush}
use Rattle.coap_model.proofs.world.PlaceLaws.{AreDistinct, of_each, first_there}
use Rattle.coap_model.proofs.world.EntryLemmas.{all_stay}
use Rattle.coap_model.proofs.world.EndOfInputLaws.{AllHear, step_hears}
use Rattle.coap_model.proofs.world.AcrossLaws.{handled_there, faulted_there}
use Rattle.coap_model.proofs.world.ReachedLaws.{step_distinct}
use Rattle.coap_model.proofs.world.LimitLaws.{step_fits}
use Rattle.coap_model.proofs.world.StepLaws.{steps_of_more, spelled_then, spelled_same, first_spelled, taken_here}
use Rattle.coap_model.proofs.world.StepLaws.{each_beyond}
use Rattle.coap_model.proofs.world.CutLaws.{cut_steps}

-- ---- steps of input bytes

-- The step is a message of this connection or the error of its input.
pub data IsOfBytes (id : ℕ) : Step → Type 0 where
  OfMessage : (m : Message) → IsOfBytes id (world.Handled id m)
  OfFault : (fault : StreamFault) → IsOfBytes id (world.Faulted id fault)

-- The connection exists after such a step.
stays_there : (limits : LimitValues) (id : ℕ) (w : World) (st : Step) (s : Connection) → IsOfBytes id st
    → side_of id w.sides ≡ Some s → (t : Connection) × (side_of id (step limits w st).sides ≡ Some t)
stays_there limits id w st s (OfMessage m) there = grind (arith, handled_there limits w id m s there)
stays_there limits id w st s (OfFault fault) there = grind (arith, faulted_there limits w id fault s there)

-- ---- a connection that has stopped

-- Ids are distinct, so it is enough that this connection does not change.
one_stays : (id : ℕ) (f : Connection → Connection) (s : Connection) (ps : List ConnectionEntry) → AreDistinct ps
    → side_of id ps ≡ Some s → f s ≡ s → map (changed_at id f) ps ≡ ps
one_stays id f s ps distinct there stays =
    all_stay (changed_at id f) ps
    (of_each (λ n t. changed_at id f (record { id = n; side = t }) ≡ record { id = n; side = t }) ps distinct
    (λ n t at. grind (arith, cond_both, eqb-true)))

-- If the connection no longer accepts messages, nothing changes.
nothing_acted : (limits : LimitValues) (id : ℕ) (w : World) (st : Step) (s : Connection) → AreDistinct w.sides
    → side_of id w.sides ≡ Some s → takes_messages s.history.phase ≡ false → IsOfBytes id st → acted limits w st ≡ w
unfolding acted side_after change_after side_faulted
nothing_acted limits id w st s distinct there over is = grind (arith, one_stays)

-- ---- the state after each step and its flush

-- The connection exists and continues the earlier one: more was queued on it. No bytes are queued, ids are distinct,
-- and no change is lost.
pub record IsWrittenOut (id : ℕ) (s : Connection) (w : World) : Type 0 where
  pub side : Connection
  pub there : side_of id w.sides ≡ Some side
  pub waits : waiting_on side ≡ []
  pub more : List Message
  pub queued : side.history.queued ≡ s.history.queued ++ more
  pub distinct : AreDistinct w.sides
  pub takes_input : AllHear w

-- This holds after a flush.
written_out : (limits : LimitValues) (id : ℕ) (w : World) (s t : Connection) (more : List Message)
    → side_of id w.sides ≡ Some t → AreDistinct w.sides → t.history.queued ≡ s.history.queued ++ more
    → IsWrittenOut id s (flushed limits id w)
unfolding flushed written_times
written_out limits id w s t more there distinct queued =
    grind (arith, flush_leaves limits id w t there, append_assoc s.history.queued more, step_hears limits)

after_bytes : (limits : LimitValues) (id : ℕ) (w : World) (ss : List Step) (s : Connection)
    → AllByRecursion (IsOfBytes id) ss → IsWrittenOut id s w → IsWrittenOut id s (flushed_after limits id w ss)
unfolding flushed_after
after_bytes limits id w [] s all one = one
after_bytes limits id w (st ∷ ss) s all one =
    let now = stays_there limits id w st one.side all.0 one.there in
    let fits = step_fits limits w st id one.side now.0 one.there now.1 in
    after_bytes limits id (flushed limits id (step limits w st)) ss s all.1
    (written_out limits id (step limits w st) s now.0 (one.more ++ fits.0) now.1
    (step_distinct limits w st one.distinct)
    (fits.1 ∙ ap (λ ms. ms ++ fits.0) one.queued ∙ append_assoc s.history.queued one.more fits.0))

after_stopped : (c : ConfigValues) (id : ℕ) (w : World) (ss : List Step) (s : Connection) (one : IsWrittenOut id s w)
    → AllByRecursion (IsOfBytes id) ss → takes_messages one.side.history.phase ≡ false
    → flushed_after c.limits id w ss ≡ w
unfolding flushed_after
after_stopped c id w [] s one all over = refl
after_stopped c id w (st ∷ ss) s one all over = grind (
  arith,
  idle_step,
  one.takes_input,
  nothing_acted,
  one.side,
  one.distinct,
  one.there,
  quiet_flush,
  after_stopped c id w ss s one all.1 over,
)

after_then : (limits : LimitValues) (id : ℕ) (w : World) (ss ts : List Step)
    → flushed_after limits id w (ss ++ ts) ≡ flushed_after limits id (flushed_after limits id w ss) ts
unfolding flushed_after
after_then limits id w [] ts = refl
after_then limits id w (s ∷ ss) ts = after_then limits id (flushed limits id (step limits w s)) ss ts

-- ---- the stream of the only connection

module _ (c : ConfigValues) where
  abbrev M : ℕ
  M = c.limits.max_message

  abbrev id : ℕ
  id = only_id c

  -- The connection is opened.
  abbrev opening : List AcceptedCall
  opening = Opened id ∷ []

  no_bytes_spell : stream_of c [] ≡ record { messages = []; rest = []; fault = None }
  no_bytes_spell = split_unfinished M [] (unfinished_empty M)

  pub nothing_yet : spelled_on M id opening ≡ (stream_of c [], M)
  nothing_yet =
      spelled_same M id [] (Opened id) refl (λ N. refl) ∙ first_spelled M id
      ∙ ap (λ s. (s, M)) (sym no_bytes_spell)

  -- Events after which the stream has these bytes, and more bytes after them.
  module _ (es : List AcceptedCall) (bytes more : List ℕ) (spelled : spelled_on M id es ≡ (stream_of c bytes, M)) where
    pub spelled_more : spelled_on M id (es ++ Took id more ∷ []) ≡ (stream_of c (bytes ++ more), M)
    spelled_more = grind (arith, spelled_then M id, taken_here id, split_goes_on M)

    pub steps_taken : steps_by M es (Took id more) ≡ beyond id (stream_of c bytes) (stream_of c (bytes ++ more))
    unfolding steps_by
    steps_taken = grind (arith, spelled_more)

  -- ---- the world for input bytes

  -- The steps that more bytes make continue the world.
  pub world_goes_on : (xs ys : List ℕ) → world_for c (xs ++ ys)
      ≡ flushed_after c.limits id (world_for c xs) (beyond id (stream_of c xs) (stream_of c (xs ++ ys)))
  unfolding world_for
  world_goes_on xs ys =
      let fed = opening ++ Took id xs ∷ [] in
      grind (
        arith,
        cut_steps M opening,
        steps_of_more M fed (Took id ys),
        steps_taken fed xs ys (spelled_more opening [] xs nothing_yet),
        after_then,
      )

  -- More bytes make only steps of input bytes.
  beyond_are : (xs ys : List ℕ) → AllByRecursion (IsOfBytes id) (beyond id (stream_of c xs) (stream_of c (xs ++ ys)))
  beyond_are xs ys = each_beyond (IsOfBytes id) id (stream_of c xs) (stream_of c (xs ++ ys)) OfMessage OfFault

  more_written_out : (xs ys : List ℕ) (s : Connection) → IsWrittenOut id s (world_for c xs)
      → IsWrittenOut id s (world_for c (xs ++ ys))
  more_written_out xs ys s before = grind (arith, world_goes_on xs ys, after_bytes, beyond_are xs ys)

  -- The world in which the connection was opened: its CSM is queued.
  abbrev world_opened : World
  world_opened = step c.limits (new_world c) (world.Opened id)

  pub opened_alone : side_of id world_opened.sides ≡ Some (new_side c.limits)
  unfolding step acted side_of settled settled_within
  opened_alone = grind (arith, first_there id)

  -- For no input, the world is the one in which the CSM was written.
  pub world_for_none : world_for c [] ≡ flushed c.limits id world_opened
  unfolding world_for flushed_after steps_of later_steps steps_by
  world_for_none =
      ap (flushed_after c.limits id (new_world c))
      (steps_of_more M opening (Took id []) ∙ ap (λ ss. world.Opened id ∷ ss)
      (steps_taken opening [] [] nothing_yet ∙ ap (λ s. beyond id s s) no_bytes_spell))

  -- The connection exists, and no bytes are queued on it.
  pub world_for_written : (bytes : List ℕ) → IsWrittenOut id (new_side c.limits) (world_for c bytes)
  world_for_written bytes =
      let new = new_side c.limits in
      more_written_out [] bytes new
      (subst (IsWrittenOut id new) (sym world_for_none) (written_out c.limits id world_opened new new [] opened_alone
      (step_distinct c.limits (new_world c) (world.Opened id) tt) (sym (append-nil new.history.queued))))

  -- ---- the outcome

  pub outcome_there : (bytes : List ℕ) (s : Connection) → side_for c bytes ≡ Some s
      → outcome c bytes ≡ outcome_on (Some s)
  unfolding outcome
  outcome_there bytes s there = ap outcome_on there

  -- The connection accepts messages until it stops.
  pub takes_unless_stopped : (bytes : List ℕ)
      → takes_messages (world_for_written bytes).side.history.phase ≡ is_none (outcome c bytes).stop
  takes_unless_stopped bytes = grind (arith, world_for_written bytes, outcome_there bytes)

  -- At first no message was handled, and the connection has not stopped.
  pub outcome_at_first : ((outcome c []).messages ≡ 0) × ((outcome c []).stop ≡ None)
  outcome_at_first =
      let left = flush_leaves c.limits id world_opened (new_side c.limits) opened_alone in
      let is = outcome_there [] left.0.side (ap (λ w. side_of id w.sides) world_for_none ∙ left.0.there) in
      grind arith

  -- The output for some bytes is a prefix of the output for more bytes.
  pub output_grows : (xs ys : List ℕ) → (more : List ℕ) × (stdio_output c (xs ++ ys) ≡ stdio_output c xs ++ more)
  output_grows xs ys =
      let all = world_for_written xs in
      let s = all.side in
      let before : IsWrittenOut id s (world_for c xs) = grind (arith, append-nil) in
      let now = more_written_out xs ys s before in (
        bytes_of now.more,
        cc (
          outcome_there xs s all.there,
          outcome_there (xs ++ ys) now.side now.there,
          now.queued,
          bytes_more s.history.queued now.more,
        ),
      )

  -- After the connection has stopped, more bytes change nothing.
  pub stopped_output : (xs ys : List ℕ) (why : Reason) → (outcome c xs).stop ≡ Some why
      → world_for c (xs ++ ys) ≡ world_for c xs
  stopped_output xs ys why stopped =
      let over = takes_unless_stopped xs ∙ ap is_none stopped in
      world_goes_on xs ys
      ∙ after_stopped c id (world_for c xs) _ (new_side c.limits) (world_for_written xs) (beyond_are xs ys) over

  pub stopped_outcome : (xs ys : List ℕ) (why : Reason) → (outcome c xs).stop ≡ Some why
      → outcome c (xs ++ ys) ≡ outcome c xs
  unfolding outcome
  stopped_outcome xs ys why stopped = grind (arith, stopped_output xs ys why stopped)
