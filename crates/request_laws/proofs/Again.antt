-- The canonical form of what a text means is itself spelled, and means the same.
use Rattle.std.proofs.Common.{◌≡◌, ℕ, ◌+◌, ◌≤◌, T, List, ◌∷◌, ◌++◌, length, sym, refl, ap, ◌∙◌, subst, append_assoc, arith}
use Rattle.text.specs.Bytes.{Text}
use Rattle.message.specs.Fields.{canonical_fields, field_lines, lines_of}
use Rattle.request.specs.Canonical.{Req, head_limit, first_line, head_lines, sent_fields, write}
use Rattle.request.specs.Heads.{window}
use Rattle.request_laws.specs.Targets.{TargetSpelled}
use Rattle.request_laws.specs.Grammar.{Spelled}
use Rattle.request_laws.specs.Lines.{host_names}
use Rattle.request_laws.proofs.Targets.{target_good, place_spelled}
use Rattle.request_laws.proofs.Fits.{lines_fit, fit_lines}
use Rattle.request_laws.proofs.KeptAgain.{kept_canonical}
use Rattle.request_laws.proofs.SentAgain.{sent_fit, sent_kept, sent_few, body_again, server_again}

-- the bytes of a head: its first line, and the others
head_bytes : (q : Req) → lines_of (head_lines q) ≡ first_line q.method q.target ++ (13 ∷ 10 ∷ lines_of (field_lines (sent_fields q)))
unfolding lines_of
head_bytes q = refl

-- a canonical head is no longer than one as sent may be
in_window : (n : ℕ) → n ≤ head_limit → n ≤ window
unfolding window
in_window n h = omega arith

pub spelled_again : (names : List Text) (t : Text) (k : ℕ) (q : Req) → T (host_names names) → Spelled names t k q → Spelled names (write q) k q
spelled_again names t k q good s =
    let fs = sent_fields q in
    let first = first_line q.method q.target in
    let lines = lines_of (field_lines fs) in
    let canon : T (canonical_fields q.fields) = rw s.kept (kept_canonical s.fields s.fields (lines_fit s.lines s.fields s.lines_good)) in
    let place = (target_good s.target s.place s.target_good).0 in
    record {
      target = q.target;
      fields = fs;
      lines = lines;
      after = q.body;
      place = s.place;
      method_good = s.method_good;
      target_good = subst (λ u. TargetSpelled u s.place) (sym s.target_is) (place_spelled s.place place);
      target_is = s.target_is;
      lines_good = fit_lines fs (sent_fit q canon);
      few = sent_few q s.fields s.after 64 s.kept s.body_good s.few;
      short = in_window (length (first ++ (13 ∷ 10 ∷ lines)) + 2) (subst (λ u. length u + 2 ≤ head_limit) (head_bytes q) s.head_short);
      host_good = server_again names q s.fields k good s.kept s.host_good;
      kept = sym (sent_kept q canon);
      body_good = body_again q s.fields s.after canon s.body_short s.body_good;
      body_short = s.body_short;
      head_short = s.head_short;
      text = ap (λ u. u ++ (13 ∷ 10 ∷ q.body)) (head_bytes q) ∙ append_assoc first (13 ∷ 10 ∷ lines) (13 ∷ 10 ∷ q.body);
    }
