use Rattle.std.proofs.Common.{◌++◌, length, codes, ap, ◌∙◌, append_assoc}
use Rattle.text.specs.Numerals.{decimal}
use Rattle.report.proofs.add_length.Goals as goal

pub returns : goal.returns
returns c =
    record {
      cases =
          c.in_ok-extend_from_slice-2.ensures.items
          ∙ ap (λ t. t ++ codes "\n") (c.in_ok-add_number.ensures.cases ∙ ap (λ t. t ++ decimal (length c.args.body.now)) c.in_ok-extend_from_slice.ensures.items)
          ∙ simp append_assoc;
    }
