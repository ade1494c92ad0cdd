-- A slash, followed by the escaped bytes.
use Rattle.std.proofs.Common.{ℕ, List, [], ◌∷◌, ◌++◌, ap, ◌∙◌, append_assoc, arith}
use Rattle.coap_store.specs.Prelude.{flat_map, string_bytes, encoded_byte}
use Rattle.std.proofs.lemmas.Result.{IfOk-equal}
use Rattle.coap_store.proofs.EscapeLemmas.{segment_is}
use Rattle.coap_store.proofs.links.push_segment.Goals as goal

pub returns : goal.returns
returns c =
    let escaped = segment_is c.args.segment.now (λ k. omega (arith, c.type_inv.segment k)) in
    let bytes = flat_map encoded_byte c.args.segment.now in
    let slash = ap (λ (t : List ℕ). t ++ bytes) c.in_ok-push_str.ensures.bytes in
    IfOk-equal c.append_to.result _ _ _ c.append_to.ensures.ok (
    ap (λ (t : List ℕ). string_bytes c.push_str.new.self ++ t) (c.percent_encode.ensures.text ∙ escaped) ∙ slash
    ∙ append_assoc (string_bytes c.args.text.now) (47 ∷ []) bytes
    )
