-- What is kept of one client, and how it stays so where things happen that are not its own.
use Rattle.std.proofs.Common.{◌≡◌, ◌≢◌, ℕ, ◌⊎◌, List, [], ◌++◌, inl, inr, sym, refl, ap, ◌∙◌, subst, append_assoc, append-nil, ⊎_elim}
use Rattle.std.specs.List.{Contains}
use Rattle.text.specs.Bytes.{Text}
use Rattle.request.specs.Found.{more}
use Rattle.request_laws.specs.Laws.{finding_of}
use Rattle.request_laws.specs.Outcome.{outcome}
use Rattle.proxy.specs.Model.{Servers, reads, waits, ended, Client, Out, bytes_of, more_of}
use Rattle.proxy_laws.specs.Traces.{Entry, sent_by, outs_for}
use Rattle.proxy_laws.specs.Clients.{Fate, Now, reading, waiting, over, outs_of_all, outs_now, Read, Left}
use Rattle.proxy_laws.proofs.Chains.{read_more, left_more}
use Rattle.proxy_laws.proofs.Projections.{sent_more, outs_more}

-- how the gate holds a client that is at n, and of whose bytes no request has taken the rest
abbrev pub Held : Client → Now → Text → Type 0
Held x reading rest = (x.stage ≡ reads) × (rest ≡ bytes_of x)
Held x (waiting a early) rest = (x.stage ≡ waits) × (rest ≡ bytes_of x)
Held x (over f) rest = x.stage ≡ ended

-- one that reads is in the line, or there is no whole request and no fault in what it sent
abbrev pub InLine : List Text → List ℕ → ℕ → Now → Text → Type 0
InLine names line c reading rest = Contains line c ⊎ (finding_of (outcome names rest) ≡ more)
InLine names line c (waiting a early) rest = Unit {0}
InLine names line c (over f) rest = Unit {0}

unread_line : (names : List Text) (line : List ℕ) (c : ℕ) (x : Client) (n : Now) (rest : Text) → x.stage ≢ reads → Held x n rest → InLine names line c n rest
unread_line names line c x reading rest d h = absurd (d h.0)
unread_line names line c x (waiting a early) rest d h = tt
unread_line names line c x (over f) rest d h = tt

-- one that is held as reading reads
pub reads_now : (x : Client) (n : Now) (rest : Text) → x.stage ≡ reads → Held x n rest → n ≡ reading
reads_now x reading rest e h = refl
reads_now x (waiting a early) rest e h = let both : waits ≡ reads = sym h.0 ∙ e in cc
reads_now x (over f) rest e h = let both : ended ≡ reads = sym h ∙ e in cc

-- the client c, held as x, is at n
pub record AtClient (servers : Servers) (es : List Entry) (line : List ℕ) (c : ℕ) (x : Client) (n : Now) : Type 0 where
  pub done : List Fate
  pub left : Text
  pub rest : Text
  pub outs : outs_for c es ≡ outs_of_all c done ++ outs_now c n
  pub read : Read servers es c [] (sent_by c es) done left
  pub unfinished : Left servers es c left n rest
  pub held : Held x n rest
  pub in_line : InLine servers.names line c n rest

module _ (servers : Servers) (es ys : List Entry) (c : ℕ) where
  -- what goes out of it goes behind the rest
  pub outs_then : (us vs : List Out) → outs_for c es ≡ us → outs_for c ys ≡ vs → outs_for c (es ++ ys) ≡ us ++ vs
  outs_then us vs e f = outs_more c es ys ∙ ap (λ os. os ++ outs_for c ys) e ∙ ap (λ os. us ++ os) f

  -- where it sends nothing
  module _ (quiet : sent_by c ys ≡ []) where
    pub sent_kept : sent_by c (es ++ ys) ≡ sent_by c es
    sent_kept = sent_more c es ys ∙ ap (λ t. sent_by c es ++ t) quiet ∙ append-nil (sent_by c es)

    pub read_kept : (done : List Fate) (left : Text) → Read servers es c [] (sent_by c es) done left → Read servers (es ++ ys) c [] (sent_by c (es ++ ys)) done left
    read_kept done left r =
        subst (λ t. Read servers (es ++ ys) c [] t done left) (append-nil (sent_by c es) ∙ sym sent_kept) (subst (Read servers (es ++ ys) c [] (sent_by c es ++ []) done) (append-nil left) (read_more servers es ys c [] r))

    pub left_kept : (left : Text) (n : Now) (rest : Text) → Left servers es c left n rest → Left servers (es ++ ys) c left n rest
    left_kept left n rest h =
        subst (λ t. Left servers (es ++ ys) c t n rest) (append-nil left) (subst (Left servers (es ++ ys) c (left ++ []) n) (append-nil rest) (left_more servers es ys c [] left rest n h))

    line_kept : (line after : List ℕ) (n : Now) (rest : Text) → (Contains line c → Contains after c) → InLine servers.names line c n rest → InLine servers.names after c n rest
    line_kept line after reading rest f h = ⊎_elim (λ m. inl (f m)) (λ e. inr e) h
    line_kept line after (waiting a early) rest f h = tt
    line_kept line after (over w) rest f h = tt

    -- nothing of what happens is its own
    module _ (line after : List ℕ) (x : Client) (n : Now) (silent : outs_for c ys ≡ []) (h : AtClient servers es line c x n) where
      at_line : InLine servers.names after c n h.rest → AtClient servers (es ++ ys) after c x n
      at_line i = record {
        done = h.done;
        left = h.left;
        rest = h.rest;
        outs = outs_then _ [] h.outs silent ∙ append-nil (outs_of_all c h.done ++ outs_now c n);
        read = read_kept h.done h.left h.read;
        unfinished = left_kept h.left n h.rest h.unfinished;
        held = h.held;
        in_line = i;
      }

      pub at_kept : (Contains line c → Contains after c) → AtClient servers (es ++ ys) after c x n
      at_kept f = at_line (line_kept line after n h.rest f h.in_line)

      -- one that does not read need not be in the line
      pub at_passed : x.stage ≢ reads → AtClient servers (es ++ ys) after c x n
      at_passed d = at_line (unread_line servers.names after c x n h.rest d h.held)

-- one that is in the line
pub in_the_line : (names : List Text) (line : List ℕ) (c : ℕ) (n : Now) (rest : Text) → Contains line c → InLine names line c n rest
in_the_line names line c reading rest m = inl m
in_the_line names line c (waiting a early) rest m = tt
in_the_line names line c (over f) rest m = tt

-- bytes come from it
module _ (s : Text) (x : Client) where
  held_reads : (rest : Text) → x.stage ≡ reads → rest ≡ bytes_of x → Held (more_of s x.stage x) reading (rest ++ s)
  held_reads rest g e =
      subst (λ (y : Client). (y.stage ≡ reads) × (rest ++ s ≡ bytes_of y)) (sym (ap (λ st. more_of s st x) g)) (g, ap (λ t. t ++ s) e ∙ append_assoc x.hand x.unread s)

  held_waits : (rest : Text) → x.stage ≡ waits → rest ≡ bytes_of x → ((more_of s x.stage x).stage ≡ waits) × (rest ++ s ≡ bytes_of (more_of s x.stage x))
  held_waits rest g e =
      subst (λ (y : Client). (y.stage ≡ waits) × (rest ++ s ≡ bytes_of y)) (sym (ap (λ st. more_of s st x) g)) (g, ap (λ t. t ++ s) e ∙ append_assoc x.hand x.unread s)

  pub held_more : (n : Now) (rest : Text) → Held x n rest → Held (more_of s x.stage x) n (rest ++ s)
  held_more reading rest h = held_reads rest h.0 h.1
  held_more (waiting a early) rest h = held_waits rest h.0 h.1
  held_more (over f) rest h = ap (λ st. (more_of s st x).stage) h ∙ h
