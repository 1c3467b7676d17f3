-- A request is let pass exactly where the grammar holds of the first bytes.
use Rattle.std.proofs.Common.{◌≡◌, ℕ, ◌+◌, ◌-◌, ◌≤◌, leb, List, [], ◌∷◌, ◌++◌, map, length, take, drop, Some, None, Ok, Err, Option, Result, sym, refl, ap, ◌∙◌, subst, ap₂, append_assoc, arith}
use Rattle.std.proofs.lemmas.List.{take_all, length-append, length-map, length-take, take_at, drop_at, drop-drop}
use Rattle.std.proofs.lemmas.Bool.{cond_both, cond-true, le-leb, leb-true}
use Rattle.text.specs.Bytes.{Text}
use Rattle.message.specs.Fields.{Field}
use Rattle.message.specs.Hops.{field_of, kept_of}
use Rattle.message.specs.Sent.{fields_in}
use Rattle.message.specs.declared.fault.Flaw.{Flaw}
use Rattle.request.specs.Canonical.{Req, head_limit, field_limit, first_line, version}
use Rattle.request.specs.Found.{Finding, passed, limited}
use Rattle.request.specs.Heads.{window, judged}
use Rattle.request.specs.Places.{Place, target_of}
use Rattle.request.specs.Targets.{check_target, undone}
use Rattle.request.specs.declared.head.Head.{Head}
use Rattle.request.specs.declared.head.Judged.{Judged}
use Rattle.request.specs.Writing.{head_length}
use Rattle.request_laws.specs.Faults.{AsFields}
use Rattle.request_laws.specs.Grammar.{Spelled}
use Rattle.request_laws.specs.Laws.{ReadIffSpelled}
use Rattle.request_laws.specs.Lines.{LinesSpelled}
use Rattle.request_laws.specs.Targets.{TargetSpelled}
use Rattle.request_laws.specs.Outcome.{whole, on_fields, on_target, judged_whole, on_due, on_head, outcome}
use Rattle.request_laws.proofs.Targets.{target_checks, target_good}
use Rattle.request_laws.proofs.WholeHead.{headed, headed_on, headed_all, headed_long, head_of, head_spelled, fields_there}
use Rattle.request_laws.proofs.BodyRead.{BodyIs, body_read, body_spelled}
use Rattle.request_laws.proofs.Leads.{take_joined}
use Rattle.request_laws.proofs.LineFaults.{lines_spelled}
use Rattle.request_laws.proofs.PlacedHead.{Placed, head_placed}
use Rattle.request_laws.proofs.TargetFaults.{target_read}

-- the parts of a head stand where they were found
headed_parts : (m t lines rest : Text) → headed m t lines rest ≡ m ++ (32 ∷ (t ++ (32 ∷ (version ++ (13 ∷ 10 ∷ (lines ++ (13 ∷ 10 ∷ rest)))))))
headed_parts m t lines rest =
    let behind = 13 ∷ 10 ∷ (lines ++ (13 ∷ 10 ∷ rest)) in
    append_assoc m (32 ∷ (t ++ (32 ∷ version))) behind ∙ ap (λ u. m ++ (32 ∷ u)) (append_assoc t (32 ∷ version) behind)

method_there : (m t lines rest : Text) → take (length m) (headed m t lines rest) ≡ m
method_there m t lines rest = ap (take (length m)) (headed_parts m t lines rest) ∙ take_at m _ (length m) refl

target_there : (m t lines rest : Text) → take (length t) (drop (length m + 1) (headed m t lines rest)) ≡ t
target_there m t lines rest =
    let behind = 32 ∷ (version ++ (13 ∷ 10 ∷ (lines ++ (13 ∷ 10 ∷ rest)))) in
    let w = m ++ (32 ∷ (t ++ behind)) in
    ap (λ u. take (length t) (drop (length m + 1) u)) (headed_parts m t lines rest)
    ∙ ap (take (length t)) (sym (drop-drop 1 (length m) w) ∙ ap (drop 1) (drop_at m (32 ∷ (t ++ behind)) (length m) refl)) ∙ take_at t behind (length t) refl

-- what a head and a body mean
abbrev pub meant : Text → Text → List Field → Text → Req
meant m t fs body = record { method = m; target = undone t; fields = kept_of fs; body = body }

-- a whole request is judged by the target, and then by its length
pub fields_judged : (m t lines : Text) (k : ℕ) (fs : List Field) (body : Text) → LinesSpelled lines fs → length fs ≤ field_limit →
    on_fields (head_of m t lines k) (headed m t lines []) body (fields_in field_limit (headed m t lines []) (length (first_line m t) + 2)) ≡ limited k (length (headed m t lines [])) (meant m t fs body)
fields_judged m t lines k fs body good few =
    let h = headed m t lines [] in
    let f = fields_there m t lines [] fs good few in
    ap (on_fields (head_of m t lines k) h body) f.1
    ∙ ap (λ u. limited k (length h) (record { method = u; target = undone (take (length t) (drop (length m + 1) h)); fields = kept_of (map field_of f.0); body = body })) (method_there m t lines [])
    ∙ ap (λ u. limited k (length h) (record { method = m; target = undone u; fields = kept_of (map field_of f.0); body = body })) (target_there m t lines [])
    ∙ ap (λ gs. limited k (length h) (meant m t gs body)) f.2

pub target_judged : (m t lines : Text) (k : ℕ) (body : Text) → judged_whole (head_of m t lines k) (headed m t lines []) body ≡ on_target (head_of m t lines k) (headed m t lines []) body (check_target t)
target_judged m t lines k body = ap (λ u. on_target (head_of m t lines k) (headed m t lines []) body (check_target u)) (target_there m t lines [])

-- a request that is let pass has a good target
target_passed : (head : Head) (h body : Text) (k : ℕ) (q : Req) (r : Result Unit Flaw) → on_target head h body r ≡ passed k q → (r ≡ Ok tt) × (on_fields head h body (fields_in field_limit h head.fields) ≡ passed k q)
target_passed head h body k q (Ok u) e = (refl, e)
target_passed head h body k q (Err w) e = cc

-- and a head that is not too long
limited_passed : (j len k : ℕ) (p q : Req) → limited j len p ≡ passed k q → (j ≡ k) × (p ≡ q) × (head_length p ≤ head_limit)
limited_passed j len k p q =
    cond_both (leb (head_length p) head_limit) _ _ (λ f. f ≡ passed k q → (j ≡ k) × (p ≡ q) × (head_length p ≤ head_limit))
    (λ h e. (cc, cc, leb-true (head_length p) head_limit h))
    (λ h e. cc)

-- a head that is let pass, in the window, and a body behind it
abbrev Starts : List Text → Text → ℕ → Req → ℕ → Type 0
Starts names s k q n = (t rest : Text) × (s ≡ t ++ rest) × (length t ≡ n) × Spelled names t k q

within : (m t lines rest w : Text) (n : ℕ) → length w ≤ n → w ≡ headed m t lines rest → length (first_line m t ++ (13 ∷ 10 ∷ lines)) + 2 ≤ n
within m t lines rest w n h e =
    let a = length-append (first_line m t) (13 ∷ 10 ∷ (lines ++ (13 ∷ 10 ∷ rest))) in
    let b = length-append lines (13 ∷ 10 ∷ rest) in
    let c = length-append (first_line m t) (13 ∷ 10 ∷ lines) in
    let d = ap length e in
    omega arith

spelled_so : (names : List Text) (w : Text) (j : Judged) (a : Placed names w j) (k : ℕ) (q : Req) (tail : Text) (n : ℕ) →
    length w ≤ window →
    BodyIs a.method (AsFields a.fields) (head_of a.method a.target a.lines a.server) (headed a.method a.target a.lines []) tail (passed k q) n →
    Starts names (headed a.method a.target a.lines tail) k q n
spelled_so names w j a k q tail n small b =
    let m = a.method in
    let t = a.target in
    let lines = a.lines in
    let fs = AsFields a.fields in
    let good = lines_spelled a.placed in
    let few : length fs ≤ field_limit = simp length-map a.few in
    let h = headed m t lines [] in
    let head = head_of m t lines a.server in
    let p = target_passed head h b.body k q (check_target t) (sym (target_judged m t lines a.server b.body) ∙ b.is) in
    let l = limited_passed a.server (length h) k (meant m t fs b.body) q (sym (fields_judged m t lines a.server fs b.body good few) ∙ p.1) in
    let g = target_read t a.ask.0.1 p.0 in
    let all : Spelled names (headed m t lines b.after) a.server (meant m t fs b.body) = record {
      target = t;
      fields = fs;
      lines = lines;
      after = b.after;
      place = g.0;
      method_good = a.ask.0.0;
      target_good = g.1;
      target_is = (target_checks t g.0 g.1).1;
      lines_good = good;
      few = few;
      short = within m t lines a.rest w window small a.text;
      host_good = a.host;
      kept = refl;
      body_good = b.spelled;
      body_short = b.short;
      head_short = l.2;
      text = refl;
    } in (
      headed m t lines b.after,
      b.rest,
      ap (headed m t lines) b.joined ∙ sym (headed_on m t lines b.after b.rest),
      ap length (sym (headed_on m t lines [] b.after)) ∙ length-append h b.after ∙ b.count,
      subst (λ x. Spelled names (headed m t lines b.after) x q) l.0 (subst (Spelled names (headed m t lines b.after) a.server) l.1 all),
    )

head_whole : {C : Type 0} (s : Text) (f : Finding) (n : ℕ) (r : Result (Option Judged) Flaw) → ((j : Judged) → r ≡ Ok (Some j) → on_due j.head s j.due ≡ whole f n → C) → on_head s r ≡ whole f n → C
head_whole s f n (Ok (Some j)) go e = go j refl e
head_whole s f n (Ok None) go e = cc
head_whole s f n (Err w) go e = cc

starts : (names : List Text) (s : Text) (k : ℕ) (q : Req) (n : ℕ) (j : Judged) → Placed names (take window s) j → on_due j.head s j.due ≡ whole (passed k q) n → Starts names s k q n
starts names s k q n j a e =
    let m = a.method in
    let t = a.target in
    let lines = a.lines in
    let h = headed m t lines [] in
    let tail = a.rest ++ drop window s in
    let head = head_of m t lines a.server in
    let all = headed_all s m t lines a.rest a.text in
    let due : on_due head s a.due ≡ whole (passed k q) n = ap (λ i. on_due i.head s i.due) (sym a.is) ∙ e in
    let there : on_due head (h ++ tail) a.due ≡ whole (passed k q) n = ap (λ u. on_due head u a.due) (sym all) ∙ due in
    let small : length (take window s) ≤ window = rw length-take (omega arith) in
    let b = body_read m (AsFields a.fields) head h tail a.due (passed k q) n refl a.due_good there in
    subst (λ u. Starts names u k q n) (sym (all ∙ headed_on m t lines [] tail)) (spelled_so names (take window s) j a k q tail n small b)

-- what is let pass is spelled by the grammar
pub read_spelled : (names : List Text) (s : Text) (k : ℕ) (q : Req) (n : ℕ) → outcome names s ≡ whole (passed k q) n → Starts names s k q n
read_spelled names s k q n = head_whole s (passed k q) n (judged names (take window s)) (λ j good e. starts names s k q n j (head_placed names (take window s) j good) e)

-- what is spelled by the grammar is judged good
judged_good : (t lines : Text) (k : ℕ) (fs : List Field) (p : Place) (q : Req) → TargetSpelled t p → LinesSpelled lines fs → length fs ≤ field_limit →
    q.target ≡ target_of p → q.fields ≡ kept_of fs → head_length q ≤ head_limit → judged_whole (head_of q.method t lines k) (headed q.method t lines []) q.body ≡ passed k q
judged_good t lines k fs p q target good few b c short =
    let m = q.method in
    let h = headed m t lines [] in
    let g = target_checks t p target in
    let is : meant m t fs q.body ≡ q = ap₂ (λ u gs. record { method = m; target = u; fields = gs; body = q.body }) (g.1 ∙ sym b) (sym c) in
    target_judged m t lines k q.body ∙ ap (on_target (head_of m t lines k) h q.body) g.0 ∙ fields_judged m t lines k fs q.body good few
    ∙ ap (limited k (length h)) is ∙ cond-true (leb (head_length q) head_limit) _ _ (le-leb (head_length q) head_limit short)

-- a head that is short enough lies in the window
fits_in_so : (m t lines : Text) (n : ℕ) → length (first_line m t ++ (13 ∷ 10 ∷ lines)) + 2 ≤ n → length (headed m t lines []) ≤ n
fits_in_so m t lines n h =
    let a = headed_long m t lines in
    let b = length-append (first_line m t) (13 ∷ 10 ∷ lines) in
    omega arith

-- what is spelled by the grammar is let pass
pub spelled_read : (names : List Text) (t rest : Text) (k : ℕ) (q : Req) → Spelled names t k q → outcome names (t ++ rest) ≡ whole (passed k q) (length t)
spelled_read names t rest k q s =
    let m = q.method in
    let lines = s.lines in
    let h = headed m s.target lines [] in
    let tail = s.after ++ rest in
    let head = head_of m s.target lines k in
    let all : t ++ rest ≡ h ++ tail = ap (λ u. u ++ rest) s.text ∙ headed_on m s.target lines s.after rest ∙ sym (headed_on m s.target lines [] tail) in
    let fits : length h ≤ window = fits_in_so m s.target lines window s.short in
    let front : take window (h ++ tail) ≡ headed m s.target lines (take (window - length h) tail) = take_joined window h tail ∙ ap (λ u. u ++ take (window - length h) tail) (take_all window h fits) ∙ headed_on m s.target lines [] (take (window - length h) tail) in
    let g = target_good s.target s.place s.target_good in
    let b = body_spelled m s.fields head h s.after rest q.body refl s.body_good s.body_short in
    let judged_so_so = head_spelled names m s.target lines (take (window - length h) tail) s.fields k b.0 s.method_good g.1 g.2 g.3 s.lines_good s.few s.host_good b.1 in
    let good = judged_good s.target lines k s.fields s.place q s.target_good s.lines_good s.few s.target_is s.kept s.head_short in
    let long : length h + length s.after ≡ length t = sym (length-append h s.after) ∙ ap length (headed_on m s.target lines [] s.after ∙ sym s.text) in
    ap (outcome names) all ∙ ap (on_head (h ++ tail)) (ap (judged names) front ∙ judged_so_so) ∙ b.2 ∙ ap₂ whole good long

pub read_iff_spelled : ReadIffSpelled
read_iff_spelled names s k q n = (read_spelled names s k q n, λ g. ap (outcome names) g.2 ∙ spelled_read names g.0 g.1 k q g.4 ∙ ap (whole (passed k q)) g.3)
