-- The parts of a head that is let pass lie in it, and it in what has come; nothing behind its end matters.
use Rattle.std.proofs.Common.{◌≡◌, ◌+◌, ◌≤◌, List, [], ◌++◌, length, take, Some, Ok, sym, refl, ap, ◌∙◌, subst, arith}
use Rattle.std.proofs.lemmas.List.{length-append, length-map, take_at}
use Rattle.text.specs.Bytes.{Text}
use Rattle.message.specs.Bodies.{AtStart}
use Rattle.message.specs.Sent.{Sent, ended, fields_in}
use Rattle.request.specs.Canonical.{field_limit, first_line}
use Rattle.request.specs.Heads.{judged}
use Rattle.request.specs.declared.head.Judged.{Judged}
use Rattle.request_laws.specs.Faults.{AsFields}
use Rattle.request_laws.proofs.Dues.{due_start}
use Rattle.request_laws.proofs.LineFaults.{lines_spelled}
use Rattle.request_laws.proofs.PlacedHead.{head_placed, placed_again}
use Rattle.request_laws.proofs.WholeHead.{headed, headed_on, headed_long, fields_there}

-- what is known of a head that is let pass
pub record Sound (names : List Text) (w : Text) (j : Judged) : Type 0 where
  pub parts : j.head.method + 1 + j.head.target ≤ j.head.fields
  pub fields : j.head.fields ≤ j.head.len
  pub within : j.head.len ≤ length w
  pub due : AtStart j.head.len j.due
  pub sent : List Sent
  pub ends : fields_in field_limit (take j.head.len w) j.head.fields ≡ ended sent j.head.len
  pub alone : judged names (take j.head.len w) ≡ Ok (Some j)

pub sound : (names : List Text) (w : Text) (j : Judged) → judged names w ≡ Ok (Some j) → Sound names w j
sound names w j e =
    let a = head_placed names w j e in
    let m = a.method in
    let t = a.target in
    let h = headed m t a.lines [] in
    let good = lines_spelled a.placed in
    let few : length (AsFields a.fields) ≤ field_limit = simp length-map a.few in
    let text : w ≡ h ++ a.rest = a.text ∙ sym (headed_on m t a.lines [] a.rest) in
    let own : take (length h) w ≡ h = ap (take (length h)) text ∙ take_at h a.rest (length h) refl in
    let found = fields_there m t a.lines [] (AsFields a.fields) good few in
    let long = headed_long m t a.lines in
    subst (Sound names w) (sym a.is) (record {
      parts = simp length-append (omega arith);
      fields = omega (arith, long);
      within = omega (arith, ap length text, length-append h a.rest);
      due = due_start m (AsFields a.fields) (length h) a.due a.due_good;
      sent = found.0;
      ends = ap (λ u. fields_in field_limit u (length (first_line m t) + 2)) own ∙ found.1;
      alone = ap (judged names) own ∙ placed_again names w j a [] ∙ ap (λ i. Ok (Some i)) a.is;
    })
