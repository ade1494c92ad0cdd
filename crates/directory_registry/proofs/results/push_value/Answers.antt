use Rattle.directory_registry.proofs.ListingLemmas.{no_bytes, two_parts}
use Rattle.directory_registry.proofs.results.push_value.Goals as goal

pub returns-in-Absent : goal.returns-in-Absent
returns-in-Absent c = rw c.in-Absent.is (no_bytes c.args.listing.now)

pub returns-in-Extended : goal.returns-in-Extended
returns-in-Extended c = rw (c.in-Extended.is, c.push-in-Extended.ensures, c.push.ensures, two_parts)

pub returns-in-Token : goal.returns-in-Token
returns-in-Token c = rw (c.in-Token.is, c.push-in-Token-2.ensures, c.push-in-Token.ensures, two_parts)

pub returns-in-Quoted : goal.returns-in-Quoted
returns-in-Quoted c =
    simp (
      c.in-Quoted.is,
      c.push-in-Quoted-3.ensures,
      c.push-in-Quoted-2.ensures,
      c.push-in-Quoted.ensures,
      two_parts,
    )
