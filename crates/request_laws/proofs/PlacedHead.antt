-- A head that is let pass is a good head, with the places of its fields; and a good head is let pass.
use Rattle.std.proofs.Common.{◌≡◌, ℕ, ◌+◌, ◌≤◌, T, List, [], ◌∷◌, ◌++◌, length, take, drop, Some, Ok, sym, refl, ap, ◌∙◌, subst, arith}
use Rattle.std.proofs.lemmas.List.{length-map, drop_at, take-append-drop}
use Rattle.text.specs.Bytes.{Text, clean}
use Rattle.text.proofs.Passing.{all_take, not_end}
use Rattle.text_laws.proofs.Lines.{whole_line}
use Rattle.message.specs.Sent.{Sent, ended, fields_from, fields_in}
use Rattle.message.specs.declared.body.Due.{Due}
use Rattle.request.specs.Canonical.{field_limit, first_line}
use Rattle.request.specs.Heads.{window, judged_as, judged}
use Rattle.request.specs.declared.head.Judged.{Judged}
use Rattle.request_laws.specs.Faults.{GoodAsk, LinesPlaced, AsFields, GoodHead}
use Rattle.request_laws.specs.HeadLaws.{method_in, target_in}
use Rattle.request_laws.specs.Lines.{LinesSpelled, HostSpelled}
use Rattle.request_laws.proofs.Dues.{DueAs}
use Rattle.request_laws.proofs.First.{first_read}
use Rattle.request_laws.proofs.HeadPasses.{passes}
use Rattle.request_laws.proofs.Leads.{all_behind}
use Rattle.request_laws.proofs.LineFaults.{Reads, reads, lines_spelled}
use Rattle.request_laws.proofs.WholeHead.{headed, headed_long, head_of, headed_all, head_spelled, fields_tell, fields_begin, judged_same}

-- the bytes w begin with a head that is let pass, and this is what was found in it
pub record Placed (names : List Text) (w : Text) (j : Judged) : Type 0 where
  pub method : Text
  pub target : Text
  pub lines : Text
  pub rest : Text
  pub fields : List Sent
  pub server : ℕ
  pub due : Due
  pub ask : GoodAsk method target × T (clean target)
  pub placed : LinesPlaced (length (first_line method target) + 2) lines fields
  pub few : length fields ≤ field_limit
  pub host : HostSpelled names (AsFields fields) server
  pub due_good : DueAs method (AsFields fields) (length (headed method target lines [])) due
  pub text : w ≡ headed method target lines rest
  pub is : j ≡ record { head = head_of method target lines server; due = due }

pub head_placed : (names : List Text) (w : Text) (j : Judged) → judged names w ≡ Ok (Some j) → Placed names w j
head_placed names w j e =
    let p = passes names w j e in
    let l = p.line in
    let first = p.first in
    let fs = p.fields in
    let at = length l + 2 in
    let m = method_in l first in
    let t = target_in l first in
    let cut = (whole_line w l p.rest).0 p.cut in
    let f = first_read l first p.good in
    let from : fields_from field_limit at p.rest ≡ ended fs p.len = sym (ap (λ u. fields_in field_limit u at) cut.1 ∙ fields_begin l p.rest) ∙ p.found in
    let r = subst (Reads field_limit at p.rest) from (reads field_limit at p.rest) in
    let lines = r.2.lines in
    let told = fields_tell names m fs p.len p.due p.agreed in
    let same : length l ≡ length (first_line m t) = ap length f.text in
    let long : p.len ≡ length (headed m t lines []) = r.4 ∙ omega (arith, r.2.place, headed_long m t lines) in
    record {
      method = m;
      target = t;
      lines = lines;
      rest = r.1;
      fields = fs;
      server = told.server;
      due = told.due;
      ask = (f.parts, all_take not_end first.target (drop (first.method + 1) l) (all_behind not_end (take (first.method + 1) l) (drop (first.method + 1) l) (rw (take-append-drop (first.method + 1) l) cut.0)));
      placed = subst (λ n. LinesPlaced (n + 2) lines fs) same r.2.placed;
      few = r.3;
      host = told.host;
      due_good = subst (λ n. DueAs m (AsFields fs) n told.due) long told.due_good;
      text = cut.1 ∙ ap (λ u. l ++ (13 ∷ 10 ∷ u)) r.2.text ∙ ap (λ u. u ++ (13 ∷ 10 ∷ (lines ++ (13 ∷ 10 ∷ r.1)))) f.text;
      is = sym p.is ∙ ap (judged_as first at p.len) told.is ∙ judged_same first at p.len told.server told.due (length m) (length t) (length (first_line m t) + 2) (length (headed m t lines [])) f.method f.target (ap (λ n. n + 2) same) long;
    }

-- and is found again, whatever stands behind it
pub placed_again : (names : List Text) (w : Text) (j : Judged) (a : Placed names w j) (rest : Text) → judged names (headed a.method a.target a.lines rest) ≡ Ok (Some j)
placed_again names w j a rest =
    let few : length (AsFields a.fields) ≤ field_limit = simp length-map a.few in
    head_spelled names a.method a.target a.lines rest (AsFields a.fields) a.server a.due a.ask.0.0 a.ask.0.1 a.ask.0.2 a.ask.1 (lines_spelled a.placed) few a.host a.due_good ∙ ap (λ i. Ok (Some i)) (sym a.is)

-- it is a good head
pub placed_good : (names : List Text) (s : Text) (j : Judged) (a : Placed names (take window s) j) →
    GoodHead names s a.method a.target a.fields (length (headed a.method a.target a.lines [])) a.server
placed_good names s j a =
    let m = a.method in
    let t = a.target in
    record {
      head = record {
        at = length (first_line m t) + 2 + length a.lines;
        rest = a.rest;
        front = record { ask = a.ask; lines = a.lines; placed = a.placed; few = a.few; text = a.text; place = refl };
        ends = headed_long m t a.lines ∙ omega arith;
      };
      host = a.host;
    }

-- a good head with what is due behind it
pub record Passed (names : List Text) (s m t : Text) (fs : List Sent) (len k : ℕ) : Type 0 where
  pub lines : Text
  pub tail : Text
  pub good : LinesSpelled lines (AsFields fs)
  pub few : length (AsFields fs) ≤ field_limit
  pub long : length (headed m t lines []) ≡ len
  pub text : s ≡ headed m t lines [] ++ tail
  pub behind : drop len s ≡ tail
  pub passes : (due : Due) → DueAs m (AsFields fs) len due → judged names (take window s) ≡ Ok (Some (record { head = head_of m t lines k; due = due }))

-- a good head is let pass
pub good_passed : (names : List Text) (s m t : Text) (fs : List Sent) (len k : ℕ) → GoodHead names s m t fs len k → Passed names s m t fs len k
good_passed names s m t fs len k g =
    let front = g.head.front in
    let lines = front.lines in
    let rest = g.head.rest in
    let ask = front.ask in
    let h = headed m t lines [] in
    let tail = rest ++ drop window s in
    let good = lines_spelled front.placed in
    let few : length (AsFields fs) ≤ field_limit = simp length-map front.few in
    let long : length h ≡ len = headed_long m t lines ∙ omega (arith, front.place, g.head.ends) in
    let text : s ≡ h ++ tail = headed_all s m t lines rest front.text in
    record {
      lines = lines;
      tail = tail;
      good = good;
      few = few;
      long = long;
      text = text;
      behind = ap (drop len) text ∙ drop_at h tail len long;
      passes = λ due d. ap (judged names) front.text ∙ head_spelled names m t lines rest (AsFields fs) k due ask.0.0 ask.0.1 ask.0.2 ask.1 good few g.host (subst (λ n. DueAs m (AsFields fs) n due) (sym long) d);
    }
