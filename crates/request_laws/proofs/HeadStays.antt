-- What is found in the first bytes of a request stays found when more come, as far as the window has room for them.
use Rattle.std.proofs.Common.{◌≡◌, ℕ, ◌≤◌, Bool, ◌⊎◌, List, ◌∷◌, ◌++◌, length, Some, None, Ok, Err, Option, Result, sym, refl, ap, ◌∙◌, subst, inl, inr, append_assoc, append-nil, arith}
use Rattle.std.proofs.lemmas.List.{length-append, nil_from_length}
use Rattle.text.specs.Bytes.{Text}
use Rattle.text_laws.specs.Laws.{Strays, lone_lf, lone_cr}
use Rattle.message.specs.Sent.{Sent}
use Rattle.message.specs.declared.fault.Flaw.{Flaw}
use Rattle.request.specs.Canonical.{first_line}
use Rattle.request.specs.Heads.{window, judged}
use Rattle.request.specs.declared.head.Judged.{Judged}
use Rattle.request_laws.specs.Faults.{LineEnds, crlf, stray, LineIn, Front, LineFault, first, too_many, long_name, malformed, first_unended, unended, HeadIn, HeadFault, host, framing, body}
use Rattle.request_laws.proofs.PlacedHead.{head_placed, placed_again}
use Rattle.request_laws.proofs.Refused.{refused}
use Rattle.request_laws.proofs.WholeHead.{headed_on}

-- a line has its end, or its stray byte, whatever follows
strays_on : (s u : Text) → Strays s → Strays (s ++ u)
strays_on s u lone_lf = lone_lf
strays_on s u (lone_cr f) = lone_cr f

ends_on : (e : Bool) (s u : Text) → LineEnds e s → LineEnds e (s ++ u)
ends_on e s u crlf = crlf
ends_on e s u (stray x) = stray (strays_on s u x)

line_on : (t l : Text) (e : Bool) (u : Text) → LineIn t l e → LineIn (t ++ u) l e
line_on t l e u h = record { behind = h.behind ++ u; ends = ends_on e h.behind u h.ends; tidy = h.tidy; text = ap (λ v. v ++ u) h.text ∙ append_assoc l h.behind u }

-- so do the lines before it
front_on : (w m t : Text) (fs : List Sent) (at : ℕ) (rest u : Text) → Front w m t fs at rest → Front (w ++ u) m t fs at (rest ++ u)
front_on w m t fs at rest u f =
    let l = first_line m t in
    record {
      ask = f.ask;
      lines = f.lines;
      placed = f.placed;
      few = f.few;
      text = ap (λ v. v ++ u) f.text ∙ append_assoc l (13 ∷ 10 ∷ (f.lines ++ rest)) u ∙ ap (λ v. l ++ (13 ∷ 10 ∷ v)) (append_assoc f.lines rest u);
      place = f.place;
    }

head_on : (w m t : Text) (fs : List Sent) (len : ℕ) (u : Text) → HeadIn w m t fs len → HeadIn (w ++ u) m t fs len
head_on w m t fs len u h = record { at = h.at; rest = h.rest ++ u; front = front_on w m t fs h.at (13 ∷ 10 ∷ h.rest) u h.front; ends = h.ends }

-- behind a full window nothing can come
full : (w u : Text) → length (w ++ u) ≤ window → length w ≡ window → w ++ u ≡ w
full w u room e = let sum = length-append w u in ap (λ v. w ++ v) (nil_from_length u (omega arith)) ∙ append-nil w

-- a fault stays the fault that it is
line_fault_on : (w u : Text) (v : Flaw) → length (w ++ u) ≤ window → LineFault w v → LineFault (w ++ u) v
line_fault_on w u v room (first l e p h b) = first l e p (line_on w l e u h) b
line_fault_on w u v room (too_many {m} {t} {fs} {at} {rest} l e f n i) = too_many l e (front_on w m t fs at rest u f) n (line_on rest l e u i.0, i.1)
line_fault_on w u v room (long_name {m} {t} {fs} {at} {rest} l e f n i b) = long_name l e (front_on w m t fs at rest u f) n (line_on rest l e u i.0, i.1) b
line_fault_on w u v room (malformed {m} {t} {fs} {at} {rest} l e p f n i k b) = malformed l e p (front_on w m t fs at rest u f) n (line_on rest l e u i.0, i.1) k b
line_fault_on w u v room (first_unended e h) = subst (λ x. LineFault x v) (sym (full w u room e)) (first_unended e h)
line_fault_on w u v room (unended f e h) = subst (λ x. LineFault x v) (sym (full w u room e)) (unended f e h)

fault_on : (names : List Text) (w u : Text) (v : Flaw) → length (w ++ u) ≤ window → LineFault w v ⊎ HeadFault names w v → LineFault (w ++ u) v ⊎ HeadFault names (w ++ u) v
fault_on names w u v room (inl f) = inl (line_fault_on w u v room f)
fault_on names w u v room (inr (host {m} {t} {fs} {len} h f)) = inr (host (head_on w m t fs len u h) f)
fault_on names w u v room (inr (framing {m} {t} {fs} {len} k h s f)) = inr (framing k (head_on w m t fs len u h) s f)
fault_on names w u v room (inr (body {m} {t} {fs} {len} k h s d f)) = inr (body k (head_on w m t fs len u h) s d f)

-- and a head that is let pass stays so
stays_by : (names : List Text) (w u : Text) (r : Result (Option Judged) Flaw) → length (w ++ u) ≤ window → judged names w ≡ r → (r ≡ Ok None → ⊥) → judged names (w ++ u) ≡ r
stays_by names w u (Ok None) room e h = absurd (h refl)
stays_by names w u (Err v) room e h = (refused names (w ++ u) v room).1 (fault_on names w u v room ((refused names w v (omega (arith, length-append w u))).0 e))
stays_by names w u (Ok (Some j)) room e h =
    let a = head_placed names w j e in
    ap (judged names) (ap (λ v. v ++ u) a.text ∙ headed_on a.method a.target a.lines a.rest u) ∙ placed_again names w j a (a.rest ++ u)

pub head_stays : (names : List Text) (w u : Text) → length (w ++ u) ≤ window → (judged names w ≡ Ok None → ⊥) → judged names (w ++ u) ≡ judged names w
head_stays names w u room = stays_by names w u (judged names w) room refl
