use Rattle.std.proofs.Common.{◌≡◌, ◌++◌, ◌+◌, ◌<◌, ◌∙◌, ℕ, List, ap, sym, take, get_or, length}
use Rattle.std.specs.Borrow.{Bor}
use Rattle.std.specs.List.{flat_map}
use Rattle.std.proofs.lemmas.List.{flat_map_more, take_more}
use Rattle.program_server_common.specs.RecordHeaders.{entry_text}
use Rattle.program_server_common.proofs.header.append_entries.Goals as goal

-- The option of the next entry comes after those before it.
one_more : (quote front before after : List ℕ) (entries : List (Bor (List ℕ))) (index : ℕ) (other : Bor (List ℕ))
    → index < length entries → before ≡ front ++ flat_map (λ e. entry_text quote e.now) (take index entries)
    → after ≡ before ++ entry_text quote (get_or entries index other).now
    → after ≡ front ++ flat_map (λ e. entry_text quote e.now) (take (index + 1) entries)
one_more quote front before after entries index other within was is =
    let entry = get_or entries index other in
    is ∙ ap (λ t. t ++ entry_text quote entry.now) was
    ∙ flat_map_more (λ (e : Bor (List ℕ)). entry_text quote e.now) front (take index entries) entry
    ∙ ap (λ t. front ++ flat_map (λ e. entry_text quote e.now) t) (sym (take_more entries index other within))

pub loop-entry-preserved : goal.loop-entry-preserved
loop-entry-preserved c =
    one_more c.args.quote.now c.args.text.now.items _ _ c.args.entries.now c.loop-entry.entry-index _
    c.loop-entry-test.true c.loop-entry.invariant c.in_ok-append_entry.ensures
