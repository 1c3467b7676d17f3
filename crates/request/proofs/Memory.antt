-- What the lent memory holds after a write into a part of it.
use Rattle.std.proofs.Common.{◌≡◌, ℕ, ◌+◌, ◌≤◌, ◌++◌, length, take, drop, sym, ap, ◌∙◌, append_assoc}
use borrow.Rule.Slice.PartMut.{put_mid}
use Rattle.std.proofs.lemmas.List.{take-append-drop, drop-append-le, drop-drop}
use Rattle.text.specs.Bytes.{Text, placed}
use Rattle.text.proofs.Places.{placed_fits}
use Rattle.request.specs.Reading.{placed_at}

-- the front of a part
pub front_placed : (n m : ℕ) (ys xs part : Text) → length ys ≤ length (take m (drop n xs)) → part ≡ placed ys (take m (drop n xs)) → put_mid n m xs part ≡ placed_at n ys xs
front_placed n m ys xs part h e =
    let d = drop n xs in
    let k = length ys in
    let back : drop k (take m d) ++ drop m d ≡ drop (n + k) xs = sym (drop-append-le k (take m d) (drop m d) h) ∙ ap (drop k) (take-append-drop m d) ∙ drop-drop k n xs in
    ap (λ zs. take n xs ++ (zs ++ drop m d)) (e ∙ placed_fits ys (take m d) h)
    ∙ ap (λ zs. take n xs ++ zs) (append_assoc ys (drop k (take m d)) (drop m d) ∙ ap (λ zs. ys ++ zs) back)
