use Rattle.std.proofs.Common.{◌&&◌, not, sym, ap, ◌∙◌}
use Rattle.text.specs.Bytes.{all}
use Rattle.forgiving.specs.Parts.{allowed}
use Rattle.forgiving.proofs.Words.{some_bytes, no_bytes}
use Rattle.forgiving.proofs.word.Word.is.Goals as goal

pub returns-then-not-is_empty : goal.returns-then-not-is_empty
returns-then-not-is_empty c =
    c.spans.ensures ∙ ap (λ b. b && all (allowed c.args.self) c.args.t.now) (sym (some_bytes c.args.t.now (sym c.is_empty.ensures ∙ c.if-not-is_empty.true)))

pub returns-else-not-is_empty : goal.returns-else-not-is_empty
returns-else-not-is_empty c =
    ap not c.if-not-is_empty.false ∙ ap (λ b. b && all (allowed c.args.self) c.args.t.now) (sym (no_bytes c.args.t.now (sym c.is_empty.ensures ∙ c.if-not-is_empty.false)))
