-- A whole response is found exactly where the grammar holds of the first bytes.
use Rattle.std.proofs.Common.{◌≡◌, ◌+◌, ◌-◌, ◌≤◌, List, [], ◌∷◌, ◌++◌, length, take, drop, Some, None, Ok, Err, Option, Result, sym, refl, ap, ◌∙◌, subst, ap₂, arith}
use Rattle.std.proofs.lemmas.List.{length-take, take_at, drop_at}
use Rattle.text.specs.Bytes.{Text}
use Rattle.message.specs.Bodies.{Part, part_of}
use Rattle.message.specs.Fields.{Field}
use Rattle.message.specs.Hops.{kept_of}
use Rattle.message.specs.declared.chunked.Outcome.{Outcome}
use Rattle.message.specs.declared.chunked.Outcome.TheVariants.{More, Whole, Wrong}
use Rattle.request.specs.Canonical.{field_limit}
use Rattle.request.specs.Heads.{window}
use Rattle.request_laws.specs.Lines.{LinesSpelled}
use Rattle.response.specs.Copies.{copy}
use Rattle.response.specs.Found.{body_if, copied}
use Rattle.response.specs.Heads.{judged}
use Rattle.response.specs.Status.{is_last, has_body}
use Rattle.response.specs.declared.head.Head.{Head}
use Rattle.response.specs.declared.head.Judged.{Judged}
use Rattle.response.specs.declared.head.Unreadable.{Unreadable}
use Rattle.response.specs.declared.status.Status.{Status}
use Rattle.connection.specs.Model.{Response, whole}
use Rattle.response_laws.specs.Ear.{with_fields, response_of, on_part, on_body, on_judged, ear}
use Rattle.response_laws.specs.Grammar.{Spelled}
use Rattle.response_laws.specs.Laws.{ResponseIffSpelled}
use Rattle.response_laws.proofs.Parts.{PartIs, part_read, part_spelled}
use Rattle.response_laws.proofs.WholeHead.{headed, headed_on, headed_long, headed_all, headed_in, head_of, HeadIs, head_read, head_spelled, fields_there}

-- what the client gets of a head with these fields and a body
abbrev meaning : Text → Status → Text → List Field → Text → Response
meaning m s l fs body = record { last = is_last s; text = copy (record { line = l; fields = kept_of fs; body = body_if (has_body s m) body }) }

meaning_is : (m l lines : Text) (s : Status) (fs : List Field) (body : Text) → LinesSpelled lines fs → length fs ≤ field_limit →
    response_of (head_of m s l lines) (headed l lines []) body ≡ meaning m s l fs body
meaning_is m l lines s fs body good few =
    let h = headed l lines [] in
    let f = fields_there l lines [] fs good few in
    ap (λ g. record { last = is_last s; text = copied (with_fields (head_of m s l lines) h body g) }) f.1
    ∙ ap₂ (λ u gs. record { last = is_last s; text = copy (record { line = u; fields = kept_of gs; body = body_if (has_body s m) body }) }) (take_at l (13 ∷ 10 ∷ (lines ++ (13 ∷ 10 ∷ []))) (length l) refl) f.2

-- a part of a body that was found whole, and the response with it
part_whole : (head : Head) (h x : Text) (p : Part) (o : Outcome) (a : Response) (rest : Text) → on_part head h x p o ≡ whole a rest →
    (o ≡ Whole) × (response_of head h p.body ≡ a) × (drop p.taken x ≡ rest)
part_whole head h x p More a rest e = cc
part_whole head h x p (Wrong w) a rest e = cc
part_whole head h x p Whole a rest e = (refl, cc, cc)

judged_whole : {C : Type 0} (s : Text) (r : Result (Option Judged) Unreadable) (a : Response) (rest : Text) →
    ((j : Judged) → r ≡ Ok (Some j) → on_body j.head (take j.head.len s) j.due (drop j.head.len s) ≡ whole a rest → C) → on_judged s r ≡ whole a rest → C
judged_whole s (Err u) a rest go e = cc
judged_whole s (Ok None) a rest go e = cc
judged_whole s (Ok (Some j)) a rest go e = go j refl e

-- the bytes s begin with a response that means a, and then comes the rest
abbrev Starts : Text → Text → Response → Text → Type 0
Starts m s a rest = (t : Text) × (s ≡ t ++ rest) × Spelled m t a

-- a head of which all stands in the window is short enough
within : (s l lines rest : Text) → take window s ≡ headed l lines rest → length l + 2 + (length lines + 2) ≤ window
within s l lines rest e =
    let small : length (take window s) ≤ window = rw length-take (omega arith) in
    omega (arith, ap length e, headed_long l lines rest)

spelled_so : (m s : Text) (a : Response) (rest : Text) (j : Judged) (g : HeadIs m (take window s) j) (p : Part) (tail : Text) →
    PartIs m g.status g.fields tail p → response_of (head_of m g.status g.line g.lines) (headed g.line g.lines []) p.body ≡ a → drop p.taken tail ≡ rest → Starts m (headed g.line g.lines tail) a rest
spelled_so m s a rest j g p tail b is left =
    let l = g.line in
    let lines = g.lines in
    let means : a ≡ meaning m g.status l g.fields p.body = sym is ∙ meaning_is m l lines g.status g.fields p.body g.lines_good g.few in
    let behind : tail ≡ b.after ++ rest = b.joined ∙ ap (λ u. b.after ++ u) (sym b.left ∙ left) in (
      headed l lines b.after,
      ap (headed l lines) behind ∙ sym (headed_on l lines b.after rest),
      record {
        line = l;
        status = g.status;
        fields = g.fields;
        lines = lines;
        after = b.after;
        body = b.body;
        status_good = g.status_good;
        lines_good = g.lines_good;
        few = g.few;
        short = within s l lines g.rest g.text;
        body_good = b.spelled;
        body_short = b.short;
        last = ap (λ (x : Response). x.last) means;
        copied = ap (λ (x : Response). x.text) means ∙ ap (λ o. copy (record { line = l; fields = kept_of g.fields; body = o })) b.is;
        text = refl;
      },
    )

starts : (m s : Text) (a : Response) (rest : Text) (j : Judged) → HeadIs m (take window s) j →
    on_body j.head (take j.head.len s) j.due (drop j.head.len s) ≡ whole a rest → Starts m s a rest
starts m s a rest j g e =
    let l = g.line in
    let lines = g.lines in
    let h = headed l lines [] in
    let head = head_of m g.status l lines in
    let tail = g.rest ++ drop window s in
    let all : s ≡ h ++ tail = headed_all s l lines g.rest g.text in
    let here : on_body head (take (length h) s) g.due (drop (length h) s) ≡ whole a rest = ap (λ i. on_body i.head (take i.head.len s) i.due (drop i.head.len s)) (sym g.is) ∙ e in
    let front : take (length h) s ≡ h = ap (take (length h)) all ∙ take_at h tail (length h) refl in
    let back : drop (length h) s ≡ tail = ap (drop (length h)) all ∙ drop_at h tail (length h) refl in
    let there : on_body head h g.due tail ≡ whole a rest = sym (ap₂ (λ u v. on_body head u g.due v) front back) ∙ here in
    let p = part_of g.due tail in
    let w = part_whole head h tail p p.outcome a rest there in
    let b = part_read m g.status g.fields tail g.due g.due_good w.0 in
    subst (λ u. Starts m u a rest) (sym (all ∙ headed_on l lines [] tail)) (spelled_so m s a rest j g p tail b w.1 w.2)

-- what is found is spelled by the grammar
read_spelled : (m s : Text) (a : Response) (rest : Text) → ear m s ≡ whole a rest → Starts m s a rest
read_spelled m s a rest = judged_whole s (judged m (take window s)) a rest (λ j good e. starts m s a rest j (head_read m (take window s) j good) e)

-- what is spelled by the grammar is found
pub spelled_read : (m t : Text) (a : Response) (rest : Text) → Spelled m t a → ear m (t ++ rest) ≡ whole a rest
spelled_read m t a rest g =
    let l = g.line in
    let lines = g.lines in
    let s = g.status in
    let h = headed l lines [] in
    let tail = g.after ++ rest in
    let head = head_of m s l lines in
    let all : t ++ rest ≡ headed l lines tail = ap (λ u. u ++ rest) g.text ∙ headed_on l lines g.after rest in
    let cut : headed l lines tail ≡ h ++ tail = sym (headed_on l lines [] tail) in
    let fits : length h ≤ window = omega (arith, headed_long l lines [], g.short) in
    let b = part_spelled m s g.fields g.after rest g.body g.body_good g.body_short in
    let due = b.0 in
    let p = part_of due tail in
    let is = b.2 in
    let found : judged m (take window (headed l lines tail)) ≡ Ok (Some (record { head = head; due = due })) =
    ap (judged m) (headed_in l lines tail window fits) ∙ head_spelled m l lines (take (window - length h) tail) s g.fields due g.status_good g.lines_good g.few b.1
    in
    let front : take (length h) (headed l lines tail) ≡ h = ap (take (length h)) cut ∙ take_at h tail (length h) refl in
    let back : drop (length h) (headed l lines tail) ≡ tail = ap (drop (length h)) cut ∙ drop_at h tail (length h) refl in
    let means : response_of head h p.body ≡ a =
    meaning_is m l lines s g.fields p.body g.lines_good g.few ∙ ap (λ o. record { last = is_last s; text = copy (record { line = l; fields = kept_of g.fields; body = o }) }) is.is
    ∙ ap₂ (λ b u. record { last = b; text = u }) (sym g.last) (sym g.copied)
    in
    let left : drop p.taken tail ≡ rest = ap (λ n. drop n tail) is.count ∙ drop_at g.after rest (length g.after) refl in
    ap (ear m) all ∙ ap (on_judged (headed l lines tail)) found ∙ ap₂ (λ u v. on_body head u due v) front back ∙ ap (on_part head h tail p) is.whole ∙ ap₂ whole means left

pub response_iff_spelled : ResponseIffSpelled
response_iff_spelled m s a rest = (read_spelled m s a rest, λ g. ap (ear m) g.1 ∙ spelled_read m g.0 a rest g.2)
