-- A text that grows by zeros, which are then written over with a field's line.
use Rattle.std.proofs.Common.{◌≡◌, ℕ, ◌+◌, ◌-◌, ◌≤◌, [], ◌∷◌, ◌++◌, length, take, drop, replicate, sym, ap, ap₂, ◌∙◌, arith}
use borrow.Rule.Slice.PartMut.{put_mid}
use Rattle.std.proofs.lemmas.List.{length-append, length-replicate, take-append-le, take_all, take_at, take_rest, drop_at}
use Rattle.std.proofs.lemmas.Slice.{take-put_mid}
use Rattle.text.specs.Bytes.{Text, Wrote, placed}
use Rattle.text.proofs.Places.{placed_over}
use Rattle.message.specs.Fields.{Field, line_of, lines_of}
use Rattle.message.specs.Views.{field_line}

-- a field's line has its CR LF
pub line_long : (f : Field) → length (field_line f) ≡ length (line_of f) + 2
unfolding lines_of
line_long f = length-append (line_of f) (13 ∷ 10 ∷ [])

-- xs has grown by zeros, from n on, and as much of the line as there is room for stands there now: all but its CR LF
pub written_over : (f : Field) (xs zs s out : Text) (n k e len m : ℕ) → n ≡ length xs → k ≡ length xs → e ≡ length xs + length (line_of f) → len ≡ e → zs ≡ take e xs ++ replicate (e - k) 0 → s ≡ zs
    → Wrote (field_line f) (take (length s - n) (drop n s)) out m → take len (put_mid n (length s - n) s out ++ drop (length (put_mid n (length s - n) s out)) zs) ≡ xs ++ line_of f
unfolding lines_of
written_over f xs zs s out n k e len m at old end whole grown lent w =
    let rs : Text = replicate (e - k) 0 in
    let was : s ≡ xs ++ rs = lent ∙ grown ∙ ap (λ t. t ++ rs) (take_all e xs (omega arith)) in
    let long : length rs ≡ length (line_of f) = length-replicate (e - k) 0 ∙ omega arith in
    let front : take n s ≡ xs = ap (take n) was ∙ take_at xs rs n (sym at) in
    let free : take (length s - n) (drop n s) ≡ rs = take_rest s n ∙ ap (drop n) was ∙ drop_at xs rs n (sym at) in
    let is : out ≡ line_of f = w.holds ∙ ap (placed (field_line f)) free ∙ placed_over (field_line f) rs (omega (arith, line_long f)) ∙ take_at (line_of f) (13 ∷ 10 ∷ []) (length rs) (sym long) in
    let whole_s : length s ≡ length xs + length (line_of f) = ap length was ∙ length-append xs rs ∙ omega arith in
    let whole_out : length out ≡ length (line_of f) = ap length is in
    let past : len ≤ length (put_mid n (length s - n) s out) = simp length-append (omega (arith, ap length front)) in
    take-append-le len (put_mid n (length s - n) s out) (drop (length (put_mid n (length s - n) s out)) zs) past ∙ take-put_mid n (length s - n) s out len (omega arith) (omega arith)
    ∙ ap₂ (λ (a : Text) (b : Text). a ++ b) front is
