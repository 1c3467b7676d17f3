use Rattle.std.proofs.Common.{◌≡◌, ◌+◌, length, vec_items, ◌∙◌, arith}
use Rattle.message.specs.Fields.{line_of}
use Rattle.message.specs.SentViews.{view_sent_field}
use Rattle.report.proofs.Filling.{line_long, written_over}
use Rattle.report.proofs.add_line.Goals as goal

pub overflow_sub-line_len : goal.overflow_sub-line_len
overflow_sub-line_len c = let long = line_long (view_sent_field c.args.field.now) in omega (arith, c.line_len.ensures)

pub returns : goal.returns
returns c =
    let f = view_sent_field c.args.field.now in
    let xs = vec_items c.args.text.now in
    let long = line_long f in
    let start : c.len-start.result ≡ length xs = c.len-start.ensures ∙ c.args.text.now.ok.0 in
    let small = c.resize.new.self.small in
    let fits = c.resize.new.self.ok.1 in
    let end : c.saturating_add.result ≡ length xs + length (line_of f) = omega (arith, c.in_ok-resize.ensures.len, c.saturating_add.ensures, c.line_len.ensures) in
    record {
      cases = written_over f xs _ _ _ c.len-start.result _ _ _ _ start c.args.text.now.ok.0 end c.in_ok-resize.ensures.len c.in_ok-resize.ensures.items c.deref_mut.ensures.value c.put_line.ensures;
    }
