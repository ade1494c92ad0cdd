-- No output is lost in a run.
use Rattle.std.proofs.Common.{◌≡◌, ◌≢◌, ◌⊎◌, inl, inr, ℕ, List, [], ◌∷◌, Option, None, refl, ap, ◌∙◌}
use Rattle.coap_server_polled.specs.declared.polled_server.PolledServer.{PolledServer}
use Rattle.coap_server_polled.specs.Reports.{AreCalls, IsReportedIn, IsUnchanged, KeepsReported, Poll, Reports}
use Rattle.coap_server_polled.specs.Reports.{WasYielded, after_calls, unwritten_in}

-- The unwritten output after the last call, if no call changed it.
last_unchanged : (id : ℕ) (output : List ℕ) (h : Option PolledServer) (calls : List Poll) → unwritten_in id h ≡ output
    → IsUnchanged id output calls → unwritten_in id (after_calls h calls) ≡ output
unfolding after_calls
last_unchanged id output h [] now same = now
last_unchanged id output h (c ∷ cs) now same = last_unchanged id output c.1 cs same.0 same.1

unchanged_from : (id : ℕ) (one other : List ℕ) (calls : List Poll) → one ≡ other → IsUnchanged id one calls
    → IsUnchanged id other calls
unchanged_from id one other [] is same = tt
unchanged_from id one other (c ∷ cs) is same = (same.0 ∙ is, unchanged_from id one other cs is same.1)

-- Nothing happened to the connection since the start of the run.
abbrev IsAsAtFirst : ℕ → Option PolledServer → List Poll → Type 0
IsAsAtFirst id h calls = IsReportedIn id h × IsUnchanged id (unwritten_in id h) calls

yielded_or_as_at_first : (h : Option PolledServer) (calls : List Poll) (id : ℕ) → AreCalls h calls
    → IsReportedIn id (after_calls h calls) → unwritten_in id (after_calls h calls) ≢ []
    → WasYielded id calls ⊎ IsAsAtFirst id h calls
unfolding AreCalls after_calls Reports
yielded_or_as_at_first h [] id are reported some = inr (reported, tt)
yielded_or_as_at_first h (c ∷ cs) id are reported some =
    elim (yielded_or_as_at_first c.1 cs id are.1 reported some) [
      | inl was ↦ inl (record {
        before = c ∷ was.before;
        server = was.server;
        after = was.after;
        all = ap (λ (ps : List Poll). c ∷ ps) was.all;
        since = was.since;
      })
      | inr same ↦ elim (are.0 id same.0) [
        | inl yielded ↦ inl (record {
          before = [];
          server = c.1;
          after = cs;
          all = ap (λ (y : Option ℕ). (y, c.1) ∷ cs) yielded;
          since = same.1;
        })
        | inr not_yielded ↦ elim not_yielded [
          | inl none ↦ absurd (some (last_unchanged id (unwritten_in id c.1) c.1 cs refl same.1 ∙ none))
          | inr kept ↦
              inr (kept.0, (kept.1, unchanged_from id (unwritten_in id c.1) (unwritten_in id h) cs kept.1 same.1))
        ]
      ]
    ]

pub no_output_lost : (calls : List Poll) (id : ℕ) → AreCalls None calls → IsReportedIn id (after_calls None calls)
    → unwritten_in id (after_calls None calls) ≢ [] → WasYielded id calls
no_output_lost calls id are reported some =
    elim (yielded_or_as_at_first None calls id are reported some) [ inl was ↦ was | inr same ↦ absurd same.0 ]

pub others_report : (before after : Option PolledServer) → KeepsReported before after → Reports None before after
unfolding KeepsReported Reports
others_report before after keeps id reported = inr (inr (keeps id reported))
