-- The result of `parse` by what the text writes.
use Rattle.std.proofs.Common.{◌≡◌, ℕ, List, Result, Ok, Err, IfOk, arith}
use Rattle.directory_links.specs.Prelude.{Link, Writes, links_of, links_from, GivesAt}
use Rattle.directory_links.specs.declared.fault.LinkFault.{LinkFault}
use Rattle.directory_links.proofs.SoundLaws.{links_sound}
use Rattle.directory_links.proofs.CompleteLaws.{links_complete}

pub from_ok : (s : List ℕ) (links : List Link) → links_from s ≡ Ok links → links_of s ≡ Ok links
unfolding links_from
from_ok s links e = grind arith

pub found : (s : List ℕ) (r : Result (List Link) LinkFault) → GivesAt r (links_from s)
    → IfOk r (λ links. Writes s links)
found s (Ok links) h = links_sound s links (from_ok s links h)
found s (Err e) h = tt

pub ruleset parsed = (found, links_complete)
