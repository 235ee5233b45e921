use Rattle.std.proofs.Common.{◌++◌, [], ◌∷◌, sym, ap, ◌∙◌, append_assoc, rules}
use Rattle.std.proofs.KnownBytes.{Appends-nil, Appends-trans}
use Rattle.partcheck.proofs.telling.write_escape.Goals as goal

pub escape-init : goal.escape-init
escape-init g c = (search rules, ([], Appends-nil _, c.escape_ascii-rest.ensures.rest))

pub escape-preserved : goal.escape-preserved
escape-preserved g c =
    let now = c.escape.invariant.1 in
    let byte = c.in-Some.escaped in (
      search rules,
      (
        now.0 ++ byte ∷ [],
        Appends-trans _ _ _ now.0 (byte ∷ []) now.1 c.in_ok-write_all.ensures.bytes,
        append_assoc now.0 (byte ∷ []) _ ∙ ap (λ l. now.0 ++ l) (sym c.in-Some.ensures.steps.1.0) ∙ now.2,
      ),
    )
