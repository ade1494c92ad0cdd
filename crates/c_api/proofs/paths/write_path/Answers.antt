use Rattle.std.proofs.Common.{inr, refl, ap, ◌∙◌, drop}
use Rattle.c_api.specs.PathTexts.{text_path}
use Rattle.c_api.proofs.PathLemmas.{no_text}
use Rattle.c_api.proofs.paths.write_path.Goals as goal

pub returns-then-not-names : goal.returns-then-not-names
returns-then-not-names c =
    let text = c.without_first-text.ensures ∙ ap (drop 1) (c.deref.ensures.0 ∙ c.slashed-slashed.ensures) in
    inr (
      no_text c.args.path.now (λ same. c.names.ensures.no c.if-not-names.true (ap text_path text ∙ same)),
      (refl, (refl, refl)),
    )
