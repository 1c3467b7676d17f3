-- The whole of a head is refused as the grammar says.
use Rattle.std.proofs.Common.{◌≡◌, ℕ, ◌-◌, List, IfErr, None, Ok, Err, Option, Result, refl, ap, ◌∙◌}
use Rattle.std.proofs.lemmas.Result.{MatchResult-at_err}
use Rattle.text.specs.Bytes.{Text}
use Rattle.message.specs.Faults.{onward}
use Rattle.message.specs.Framing.{framed}
use Rattle.message.specs.Sent.{Sent}
use Rattle.message.specs.declared.body.Due.{Due}
use Rattle.message.specs.declared.fault.Flaw.{Flaw}
use Rattle.message.specs.declared.framing.Said.{Said as Saying}
use Rattle.request.specs.Canonical.{carries_body}
use Rattle.request.specs.Heads.{due_of, judged_fields}
use Rattle.request.specs.Hosts.{server_of}
use Rattle.request_laws.specs.Faults.{AsFields, HostFault, FramingFault, BodyFault, HeadIn, HeadFault, host, framing, body}
use Rattle.request_laws.specs.Lines.{HostSpelled}
use Rattle.request_laws.proofs.Hosts.{host_spelled}
use Rattle.request_laws.proofs.HostFaults.{host_read, host_wrong, host_refused}
use Rattle.request_laws.proofs.FramingFaults.{SaidIn, framing_read, framing_wrong, framing_refused, said_by_so, body_wrong, body_refused}
use Rattle.request_laws.proofs.Onward.{onward_both}

-- what is wrong, where something is
abbrev pub Refuses : {A : Type 0} → (Flaw → Type 0) → Result A Flaw → Type 0
Refuses Q r = IfErr r Q

-- what follows the server, and what follows what the fields say
abbrev on_due : Text → ℕ → ℕ → Option Saying → Result (ℕ × Due) Flaw
on_due m len k said = onward (due_of (carries_body m) said len) (λ due. Ok (k, due))

abbrev on_server : Text → List Sent → ℕ → ℕ → Result (ℕ × Due) Flaw
on_server m fs len k = onward (framed None fs) (on_due m len k)

module _ (names : List Text) (w m t : Text) (fs : List Sent) (len : ℕ) (head : HeadIn w m t fs len) where
  due_refuses : (k : ℕ) → HostSpelled names (AsFields fs) k → (o : Option Saying) → SaidIn fs o → Refuses (HeadFault names w) (on_due m len k o)
  due_refuses k spelled o said =
      onward_both (Refuses (HeadFault names w)) (due_of (carries_body m) o len) (λ due. Ok (k, due))
      (λ v e. body k head spelled (said_by_so fs o said) (MatchResult-at_err (λ _. Unit {0}) (BodyFault m fs len) v e (body_wrong m fs len (carries_body m) o refl said))) (λ due e. tt)

  said_refuses : (k : ℕ) → HostSpelled names (AsFields fs) k → Refuses (HeadFault names w) (on_server m fs len k)
  said_refuses k spelled =
      onward_both (Refuses (HeadFault names w)) (framed None fs) (on_due m len k) (λ v e. framing k head spelled (MatchResult-at_err (SaidIn fs) (FramingFault fs) v e (framing_wrong fs)))
      (λ o e. due_refuses k spelled o (framing_read fs o e))

  -- a head that is refused has such a fault
  pub head_refuses : Refuses (HeadFault names w) (judged_fields names m fs len)
  head_refuses =
      onward_both (Refuses (HeadFault names w)) (server_of names (len - 2) fs) (on_server m fs len) (λ v e. host head (host_wrong names fs len v e))
      (λ k e. said_refuses k (host_read names fs len k e))

-- a head that has such a fault is refused
pub host_judged : (names : List Text) (m : Text) (fs : List Sent) (len : ℕ) (v : Flaw) → HostFault names fs len v → judged_fields names m fs len ≡ Err v
host_judged names m fs len v h = ap (λ r. onward r (on_server m fs len)) (host_refused names fs len v h)

server_judged : (names : List Text) (m : Text) (fs : List Sent) (len k : ℕ) → HostSpelled names (AsFields fs) k → judged_fields names m fs len ≡ on_server m fs len k
server_judged names m fs len k s = ap (λ r. onward r (on_server m fs len)) (host_spelled names (len - 2) fs k s)

pub framing_judged : (names : List Text) (m : Text) (fs : List Sent) (len k : ℕ) (v : Flaw) → HostSpelled names (AsFields fs) k → FramingFault fs v → judged_fields names m fs len ≡ Err v
framing_judged names m fs len k v s h = server_judged names m fs len k s ∙ ap (λ r. onward r (on_due m len k)) (framing_refused fs v h)

pub body_judged : (names : List Text) (m : Text) (fs : List Sent) (len k : ℕ) (v : Flaw) → HostSpelled names (AsFields fs) k → BodyFault m fs len v → judged_fields names m fs len ≡ Err v
body_judged names m fs len k v s h =
    let b = body_refused m fs len v h in
    let go : Due → Result (ℕ × Due) Flaw = λ due. Ok (k, due) in
    server_judged names m fs len k s ∙ ap (λ r. onward r (on_due m len k)) b.1 ∙ ap (λ r. onward r go) b.2
